-- What a recovery and a commit leave of a kept store.
-- Used by `attempt`, `found_in`, `recover`, Ended and KeptCommit.
use Rattle.std.proofs.Common.{◌≡◌, inl, inr, ℕ, ◌+◌, ◌-◌, ◌<◌, ◌≤◌, Bool, true, false, List, [], ◌∷◌, ◌++◌, length, take, get_or, Option, None, Some, IfSome, IsSome, sym, ◌∙◌, ap, subst, arith, length-append, length-take, append_assoc}
use Rattle.std.specs.Prelude.{IsTrue, Result, Ok, Err, slice_set}
use Rattle.std.proofs.lemmas.Bool.{false≢true, true≢false, or_left}
use Rattle.std.proofs.lemmas.List.{take_at, nil_from_length, set-append_right}
use Rattle.vector_stamp.specs.ClockLaws.{ClockLaws}
use Rattle.vector_stamp.specs.Clocks.{start_clock}
use Rattle.vector_stamp.specs.Order.{is_at_most}
use Rattle.vector_stamp.specs.declared.clock.Stamp.{Stamp}
use Rattle.graph_ops.specs.Graphs.{Vertices, plain_of}
use Rattle.graph_ops.specs.PlainGraph.{graph_left, transaction}
use Rattle.graph_ops.specs.declared.op.Op.{Op}
use Rattle.graph_ops.specs.declared.tx.Got.{Got}
use Rattle.weave_io.specs.Told.{ToldBytes}
use Rattle.weave_text.specs.Lines.{Bytes}
use Rattle.std.proofs.lemmas.List.Sums.{fold-append}
use Rattle.graph_ops.specs.PlainGraph.{empty_graph}
use Rattle.store_journal.specs.Commits.{commit_of, graph_with_kept, graph_of, last_clock}
use Rattle.store_journal.specs.Disk.{LeavesOnly}
use Rattle.store_journal.specs.Journal.{file_commits, framed, gate_of, IsForeign}
use Rattle.store_journal.specs.Keeping.{KeepsJournal, kept_commits}
use Rattle.store_journal.specs.KeptAnswers.{IfForeign}
use Rattle.store_journal.specs.Payloads.{commit_with, kept_stamp}
use Rattle.store_journal.specs.Standing.{AreRecords, HasPrefix, IsAtRest, IsClosedJournal, IsJournal, IsRecord}
use Rattle.store_journal.specs.Walked.{HasPassed}
use Rattle.store_journal.specs.declared.faults.RecoverFault.{RecoverFault}
use Rattle.store_journal.specs.declared.faults.RecoverFault.TheVariants as recover
use Rattle.store_journal.specs.declared.kept_commit.Commit.{Commit}
use Rattle.store_journal.specs.declared.walk.Walked.{Walked}
use Rattle.store_journal.proofs.Closing.{parts_of}
use Rattle.store_journal.proofs.Forms.{closed_commits}
use Rattle.store_journal.proofs.History.{begins_at_rest}
use Rattle.store_journal.proofs.Moments.{started}
use Rattle.store_journal.proofs.NextRecord.{next_is_after}
use Rattle.store_journal.proofs.Walking.{length-framed, one_record_more}

-- After a recovery

-- the whole records of a file, and a closed gate
pub cut_closed : (file : Bytes) → IsClosedJournal commit_of (file_commits commit_of file) (gate_of commit_of file) (take (gate_of commit_of file) file ++ 0 ∷ [])
cut_closed file =
    let p = parts_of commit_of file in
    let gate : gate_of commit_of file ≡ length p.front = ap (λ w. w.gate) p.found in
    let commits : file_commits commit_of file ≡ p.commits = ap (λ w. w.commits) p.found in
    let front : take (gate_of commit_of file) file ≡ p.front =
    ap (take (gate_of commit_of file)) p.file_is ∙ take_at p.front p.tail (gate_of commit_of file) (sym gate) in
    record {
      front = p.front;
      tail = [];
      file_is = ap (λ l. l ++ 0 ∷ []) front;
      place = sym gate;
      records = subst (λ l. AreRecords commit_of p.front l) (sym commits) p.records;
    }

module _ (file journal : Bytes) (walked : Walked) (gate : walked.gate ≡ gate_of commit_of file) (cut : journal ≡ take walked.gate file ++ 0 ∷ []) where
  cut_is : IsClosedJournal commit_of (file_commits commit_of file) walked.gate journal
  cut_is =
      subst (λ k. IsClosedJournal commit_of (file_commits commit_of file) k journal) (sym gate)
      (subst (IsClosedJournal commit_of (file_commits commit_of file) (gate_of commit_of file)) (ap (λ k. take k file ++ 0 ∷ []) (sym gate) ∙ sym cut) (cut_closed file))

  -- the commits of the journal that is kept are those of the file
  pub same_commits : kept_commits journal ≡ file_commits commit_of file
  same_commits = closed_commits commit_of (file_commits commit_of file) walked.gate journal cut_is

  long_is : walked.gate ≤ length file → length journal ≡ walked.gate + 1
  long_is within = ap length cut ∙ omega (arith, length-append (take walked.gate file) (0 ∷ []), length-take walked.gate file, within)

  -- the place of the gate
  pub place_is : walked.gate ≤ length file → length journal - 1 ≡ walked.gate
  place_is within = omega (arith, long_is within)

  -- what is kept
  pub recovered : ClockLaws → HasPassed walked (file_commits commit_of file) → walked.number ≤ walked.gate → walked.gate ≤ length file
      → KeepsJournal journal walked.number (walked.number + 1) 0 walked.graph false
  recovered laws passed few within = record {
    closed = subst (λ l. IsClosedJournal commit_of l (length journal - 1) journal) (sym same_commits) (subst (λ k. IsClosedJournal commit_of (file_commits commit_of file) k journal) (sym (place_is within)) cut_is);
    long = omega (arith, long_is within);
    graph_is = λ _. passed.graph ∙ ap graph_of (sym same_commits);
    number_is = passed.number ∙ ap length (sym same_commits);
    from_one = omega arith;
    few = omega arith;
    fewer = omega (arith, long_is within, few);
    later = subst (λ l. IsTrue (is_at_most (last_clock l) (kept_stamp (walked.number + 1) 0).clock)) (sym same_commits) (
        or_left _ _ (laws.later_epoch (last_clock (file_commits commit_of file)) (kept_stamp (walked.number + 1) 0).clock (omega (arith, passed.epochs, passed.number)))
        );
  }

  -- the number of the epoch
  pub epoch_is : HasPassed walked (file_commits commit_of file) → walked.number + 1 ≡ length (kept_commits journal) + 1
  epoch_is passed = omega (arith, passed.number, ap length same_commits)

-- the commits of a disk at rest
pub rest_commits : (commits : List Commit) (gate : ℕ) (told : ToldBytes) (images : Bytes → Type 0) → IsAtRest commit_of commits gate told images
    → IfSome told (λ file. commits ≡ file_commits commit_of file)
rest_commits commits gate None images rest = tt
rest_commits commits gate (Some file) images rest = sym (closed_commits commit_of commits gate file rest.0)

-- what was read is what the disk said before
pub said_before : (before now : ToldBytes) (bytes : Bytes) (P : Bytes → Type 0) → now ≡ before → IfSome now (λ file. file ≡ bytes) → P bytes → IfSome before P
said_before None now bytes P same read holds = tt
said_before (Some file) now bytes P same read holds = subst P (sym (subst (λ t. IfSome t (λ f. f ≡ bytes)) same read)) holds

-- the same disk at rest, by equal commits and an equal place
pub rest_as : (commits others : List Commit) (gate place : ℕ) (told : ToldBytes) (images : Bytes → Type 0) → others ≡ commits → place ≡ gate
    → IsAtRest commit_of commits gate told images → IsAtRest commit_of others place told images
rest_as commits others gate place told images same at rest =
    subst (λ l. IsAtRest commit_of l place told images) (sym same) (subst (λ k. IsAtRest commit_of commits k told images) (sym at) rest)

-- the law begins at a disk at rest
pub rest_begins : {D : Type 0} (images : D → Bytes → Type 0) (moment : D → ℕ) (images_since : D → ℕ → Bytes → Type 0)
    → ((disk : D) (c : Bytes) → images_since disk (moment disk) c → images disk c)
    → (disk : D) (told : ToldBytes) (commits : List Commit) (gate : ℕ) → IsSome told → IsAtRest commit_of commits gate told (images disk)
    → LeavesOnly moment images_since disk disk (HasPrefix commit_of commits [])
rest_begins images moment images_since since_now disk None commits gate told rest = absurd (false≢true told)
rest_begins images moment images_since since_now disk (Some file) commits gate told rest =
    begins_at_rest commit_of commits images moment images_since since_now disk gate file rest.0 rest.1

-- a gate byte 1 where the walk ends
pub is_foreign : (file : Bytes) (gate : ℕ) → gate ≡ gate_of commit_of file → 1 < length file → gate < length file → get_or file gate 0 ≡ 1
    → IsForeign commit_of file × (gate ≡ gate_of commit_of file)
is_foreign file gate is long within open_gate =
    ((long, subst (λ k. k < length file) is within, subst (λ k. get_or file k 0 ≡ 1) is open_gate), is)

-- a foreign file has more to it
pub if_foreign_more : {A : Type 0} (result : Result A RecoverFault) (P Q : ℕ → Type 0) → ((at : ℕ) → P at → Q at) → IfForeign result P → IfForeign result Q
if_foreign_more (Ok store) P Q more holds = tt
if_foreign_more (Err recover.Disk) P Q more holds = tt
if_foreign_more (Err (recover.Foreign at)) P Q more holds = more at holds
if_foreign_more (Err recover.Memory) P Q more holds = tt

-- After a commit

-- of a disk at rest each image is one of the journal
pub rest_journal : {D : Type 0} (images : D → Bytes → Type 0) (moment : D → ℕ) (images_since : D → ℕ → Bytes → Type 0)
    → ((disk : D) (c : Bytes) → images_since disk (moment disk) c → images disk c)
    → (disk : D) (told : ToldBytes) (commits : List Commit) (gate : ℕ) (pending : Option Commit) → IsSome told → IsAtRest commit_of commits gate told (images disk)
    → LeavesOnly moment images_since disk disk (IsJournal commit_of commits pending)
rest_journal images moment images_since since_now disk None commits gate pending told rest = absurd (false≢true told)
rest_journal images moment images_since since_now disk (Some file) commits gate pending told rest =
    started moment images_since disk (IsJournal commit_of commits pending)
    (λ c left. inr (inl (gate, subst (IsClosedJournal commit_of commits gate) (sym (rest.1 c (since_now disk c left))) rest.0)))

-- after a transaction that passed
pub passed_on : (commits : List Commit) (ops : List Op) (stamp : Stamp) (old new : Vertices) (gots : List Got) → plain_of old ≡ graph_of commits
    → transaction ops (plain_of old) ≡ Ok (record { graph = plain_of new; gots = gots })
    → (transaction ops (graph_of commits) ≡ Ok (record { graph = plain_of new; gots = gots })) × (plain_of new ≡ graph_of (commits ++ commit_with stamp ops ∷ []))
passed_on commits ops stamp old new gots before done =
    let there : transaction ops (graph_of commits) ≡ Ok (record { graph = plain_of new; gots = gots }) = ap (transaction ops) (sym before) ∙ done in
    (there, sym (fold-append graph_with_kept empty_graph commits (commit_with stamp ops ∷ []) ∙ ap (graph_left (graph_of commits)) there))

-- a record was added to the journal in memory, and its gate opened
module _ (journal bytes grown : Bytes) (commits : List Commit) (next : Commit) (gate : ℕ) (closed : IsClosedJournal commit_of commits gate journal)
    (long : length journal ≡ gate + 1) (added : IsRecord commit_of commits next bytes) (is : grown ≡ slice_set (journal ++ bytes) gate 1) where
  nothing_after : closed.tail ≡ []
  nothing_after = nil_from_length closed.tail (omega (arith, ap length closed.file_is, length-append closed.front (0 ∷ closed.tail), closed.place, long))

  opened_is : grown ≡ (closed.front ++ 1 ∷ framed added.payload) ++ 0 ∷ []
  opened_is =
      let none : gate - gate ≡ 0 = omega arith in
      is
      ∙ ap (λ l. slice_set (l ++ bytes) gate 1) (closed.file_is ∙ ap (λ l. closed.front ++ 0 ∷ l) nothing_after)
      ∙ ap (λ l. slice_set l gate 1) (append_assoc closed.front (0 ∷ []) bytes)
      ∙ set-append_right closed.front (0 ∷ bytes) gate gate 1 closed.place (omega arith)
      ∙ ap (λ k. closed.front ++ slice_set (0 ∷ bytes) k 1) none
      ∙ ap (λ l. closed.front ++ 1 ∷ l) added.bytes_are
      ∙ sym (append_assoc closed.front (1 ∷ framed added.payload) (0 ∷ []))

  grown_place : length (closed.front ++ 1 ∷ framed added.payload) ≡ gate + length bytes
  grown_place = omega (arith, length-append closed.front (1 ∷ framed added.payload), closed.place, ap length added.bytes_are, length-append (framed added.payload) (0 ∷ []))

  grown_closed : IsClosedJournal commit_of (commits ++ next ∷ []) (gate + length bytes) grown
  grown_closed = record {
    front = closed.front ++ 1 ∷ framed added.payload;
    tail = [];
    file_is = opened_is;
    place = grown_place;
    records = one_record_more commit_of closed.front commits next added.payload closed.records added.short added.reads;
  }

  -- the commits are those and one more
  pub grown_commits : kept_commits grown ≡ commits ++ next ∷ []
  grown_commits = closed_commits commit_of (commits ++ next ∷ []) (gate + length bytes) grown grown_closed

  -- its length
  pub grown_long : length grown ≡ gate + length bytes + 1
  grown_long = ap length opened_is ∙ omega (arith, length-append (closed.front ++ 1 ∷ framed added.payload) (0 ∷ []), grown_place)

  -- the place of its closed gate
  pub grown_at : length grown - 1 ≡ gate + length bytes
  grown_at = omega (arith, grown_long)

  bytes_long : 4 ≤ length bytes
  bytes_long = omega (arith, ap length added.bytes_are, length-append (framed added.payload) (0 ∷ []), length-framed commit_of added.payload)

  last_is : last_clock (commits ++ next ∷ []) ≡ next.stamp.clock
  last_is = fold-append (λ _ (c : Commit). c.stamp.clock) start_clock commits (next ∷ [])

  -- what is kept after a commit
  pub grown_kept : ClockLaws → (number epoch count : ℕ) (graph : Vertices) → next.stamp ≡ kept_stamp epoch count → number ≡ length commits + 1
      → 1 ≤ epoch → epoch ≤ number + 1 → number ≤ gate + 1 → plain_of graph ≡ graph_of (commits ++ next ∷ []) → KeepsJournal grown number epoch count graph false
  grown_kept laws number epoch count graph stamp number_is from_one few fewer graph_is = record {
    closed = subst (λ l. IsClosedJournal commit_of l (length grown - 1) grown) (sym grown_commits) (subst (λ k. IsClosedJournal commit_of (commits ++ next ∷ []) k grown) (sym grown_at) grown_closed);
    long = omega (arith, grown_long);
    graph_is = λ _. graph_is ∙ ap graph_of (sym grown_commits);
    number_is = number_is ∙ omega (arith, ap length grown_commits, length-append commits (next ∷ []));
    from_one = from_one;
    few = few;
    fewer = omega (arith, grown_long, fewer, bytes_long);
    later = subst (λ l. IsTrue (is_at_most (last_clock l) (kept_stamp epoch count).clock)) (sym grown_commits)
        (subst (λ k. IsTrue (is_at_most k (kept_stamp epoch count).clock)) (sym (last_is ∙ ap (λ (s : Stamp). s.clock) stamp)) (laws.at_most_itself (kept_stamp epoch count).clock));
  }

-- the next stamps of a store that refused a transaction
pub still_later : ClockLaws → (commits : List Commit) (epoch count : ℕ) → IsTrue (is_at_most (last_clock commits) (kept_stamp epoch count).clock)
    → IsTrue (is_at_most (last_clock commits) (kept_stamp epoch (count + 1)).clock)
still_later laws commits epoch count later =
    laws.before_is_at_most (last_clock commits) (kept_stamp epoch (count + 1)).clock (next_is_after laws commits epoch count later)

-- what is kept after a transaction was refused
pub refused_kept : ClockLaws → (journal same : Bytes) (number epoch count : ℕ) (graph left : Vertices) (is_halted : Bool) → same ≡ journal → left ≡ graph
    → KeepsJournal journal number epoch count graph is_halted → KeepsJournal same number epoch (count + 1) left is_halted
refused_kept laws journal same number epoch count graph left is_halted journal_is graph_is kept = record {
  closed = subst (λ b. IsClosedJournal commit_of (kept_commits b) (length b - 1) b) (sym journal_is) kept.closed;
  long = omega (arith, ap length journal_is, kept.long);
  graph_is = λ on. ap plain_of graph_is ∙ kept.graph_is on ∙ ap (λ b. graph_of (kept_commits b)) (sym journal_is);
  number_is = kept.number_is ∙ ap (λ b. length (kept_commits b)) (sym journal_is);
  from_one = kept.from_one;
  few = kept.few;
  fewer = omega (arith, ap length journal_is, kept.fewer);
  later = subst (λ b. IsTrue (is_at_most (last_clock (kept_commits b)) (kept_stamp epoch (count + 1)).clock)) (sym journal_is)
      (still_later laws (kept_commits journal) epoch count kept.later);
}

-- what is kept of a store that is halted, and of one that ran out of memory
pub halted_kept : (journal same : Bytes) (number epoch count : ℕ) (graph left : Vertices) (is_halted : Bool) → same ≡ journal
    → KeepsJournal journal number epoch count graph is_halted → KeepsJournal same number epoch count left true
halted_kept journal same number epoch count graph left is_halted journal_is kept = record {
  closed = subst (λ b. IsClosedJournal commit_of (kept_commits b) (length b - 1) b) (sym journal_is) kept.closed;
  long = omega (arith, ap length journal_is, kept.long);
  graph_is = λ off. absurd (true≢false off);
  number_is = kept.number_is ∙ ap (λ b. length (kept_commits b)) (sym journal_is);
  from_one = kept.from_one;
  few = kept.few;
  fewer = omega (arith, ap length journal_is, kept.fewer);
  later = subst (λ b. IsTrue (is_at_most (last_clock (kept_commits b)) (kept_stamp epoch count).clock)) (sym journal_is) kept.later;
}
