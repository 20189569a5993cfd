-- A commit of a kept store: its record, and the journal with it.
-- Used by `attempt`.
use Rattle.std.proofs.Common.{◌≡◌, ℕ, ◌+◌, ◌-◌, ◌<◌, ◌≤◌, ◌^◌, Bool, true, false, Some, IsSome, List, [], ◌∷◌, ◌++◌, length, take, drop, option_map, refl, sym, ◌∙◌, ap, subst, arith, length-append}
use Rattle.std.specs.Prelude.{Ok, Err, is_ok, slice_set}
use Rattle.std.proofs.lemmas.List.{drop_at, take_at}
use Rattle.vector_stamp.specs.ClockLaws.{ClockLaws}
use Rattle.vector_stamp.specs.declared.clock.Stamp.{Stamp}
use Rattle.graph_ops.specs.Graphs.{Vertices, plain_of}
use Rattle.graph_ops.specs.PlainGraph.{transaction}
use Rattle.graph_ops.specs.declared.op.Op.{Op}
use Rattle.graph_ops.specs.declared.op.Reason.{Reason}
use Rattle.graph_ops.specs.declared.tx.Got.{Got}
use Rattle.weave_io.specs.Counts.{HasRisen}
use Rattle.weave_io.specs.Told.{ToldBytes}
use Rattle.weave_text.specs.Lines.{Bytes}
use Rattle.store_journal.specs.CommitEnds.{HasCommitted, HasHalted, HasTurnedDown}
use Rattle.store_journal.specs.Commits.{commit_of, graph_of}
use Rattle.store_journal.specs.Disk.{LeavesOnly, written_at}
use Rattle.store_journal.specs.Journal.{framed}
use Rattle.store_journal.specs.Keeping.{Keeping, KeepsJournal, kept_commits}
use Rattle.store_journal.specs.Payloads.{AreKeptOps, commit_with, kept_stamp, payload_of}
use Rattle.store_journal.specs.Standing.{IsAtRest, IsClosedJournal, IsJournal, IsRecord}
use Rattle.store_journal.specs.declared.kept_commit.Commit.{Commit}
use Rattle.store_journal.proofs.KeptSteps.{grown_at, grown_commits, grown_kept, passed_on, rest_as}
use Rattle.store_journal.proofs.NextRecord.{SaidIsRead, is_record}

-- a store with these fields
abbrev pub store_of : Bytes → ℕ → ℕ → Bool → Keeping
store_of journal epoch count halted = record {
  commits = kept_commits journal;
  place = length journal - 1;
  epoch = epoch;
  count = count;
  is_halted = halted;
}

-- the disk at rest, as the store that a commit begins with says it
pub rest_at : (journal : Bytes) (epoch count gate : ℕ) (halted : Bool) (old : Keeping) (told : ToldBytes) (images : Bytes → Type 0) → store_of journal epoch count halted ≡ old
    → halted ≡ false → gate ≡ length journal - 1 → (old.is_halted ≡ false → IsAtRest commit_of old.commits old.place told images)
    → IsAtRest commit_of (kept_commits journal) gate told images
rest_at journal epoch count gate halted old told images view on place rest =
    subst (λ k. IsAtRest commit_of (kept_commits journal) k told images) (sym place)
    (subst (λ (k : Keeping). k.is_halted ≡ false → IsAtRest commit_of k.commits k.place told images) (sym view) rest on)

module _ (laws : ClockLaws) (said : SaidIsRead) (journal grown : Bytes) (number epoch count gate : ℕ) (stamp : Stamp) (graph after : Vertices) (ops : List Op) (gots : List Got)
    (halted : Bool) (on : halted ≡ false) (kept : KeepsJournal journal number epoch count graph halted)
    (stamp_is : stamp ≡ kept_stamp epoch (count + 1)) (place : gate ≡ length journal - 1)
    (added_is : grown ≡ journal ++ (framed (payload_of (commit_with stamp ops)) ++ 0 ∷ []))
    (done : transaction ops (plain_of graph) ≡ Ok (record { graph = plain_of after; gots = gots }))
    (kept_ops : AreKeptOps ops) (short_is : length (payload_of (commit_with stamp ops)) < 2 ^ 32)
    (epoch_fits : epoch < 2 ^ 64) (count_fits : count + 1 < 2 ^ 64) where
  abbrev commits : List Commit
  commits = kept_commits journal

  abbrev next : Commit
  next = commit_with (kept_stamp epoch (count + 1)) ops

  abbrev bytes : Bytes
  bytes = framed (payload_of next) ++ 0 ∷ []

  is : grown ≡ journal ++ bytes
  is = added_is ∙ ap (λ s. journal ++ (framed (payload_of (commit_with s ops)) ++ 0 ∷ [])) stamp_is

  short : length (payload_of next) < 2 ^ 32
  short = subst (λ s. length (payload_of (commit_with s ops)) < 2 ^ 32) stamp_is short_is

  long : length journal ≡ gate + 1
  long = omega (arith, kept.long, place)

  closed : IsClosedJournal commit_of commits gate journal
  closed = subst (λ k. IsClosedJournal commit_of commits k journal) (sym place) kept.closed

  -- what the transaction gives after the commits so far
  gives : (transaction ops (graph_of commits) ≡ Ok (record { graph = plain_of after; gots = gots })) × (plain_of after ≡ graph_of (commits ++ next ∷ []))
  gives = passed_on commits ops (kept_stamp epoch (count + 1)) graph after gots (kept.graph_is on) done

  rest : drop (gate + 1) grown ≡ bytes
  rest = ap (drop (gate + 1)) is ∙ drop_at journal bytes (gate + 1) long

  -- what is after the gate is its record
  pub added : IsRecord commit_of commits next (drop (gate + 1) grown)
  added =
      is_record laws said commits epoch count ops
      (record {
        later = kept.later;
        from_one = kept.from_one;
        few = omega (arith, kept.few, kept.number_is);
        epoch_fits = epoch_fits;
        count_fits = count_fits;
        kept = kept_ops;
        passes = ap is_ok gives.0;
      })
      (drop (gate + 1) grown) rest short

  -- without it the journal is as before
  pub cut_again : (same : Bytes) → same ≡ take (gate + 1) grown → same ≡ journal
  cut_again same cut = cut ∙ ap (take (gate + 1)) is ∙ take_at journal bytes (gate + 1) long

  module _ (opened : Bytes) (set : opened ≡ slice_set grown gate 1) where
    added_bytes : IsRecord commit_of commits next bytes
    added_bytes = subst (λ l. IsRecord commit_of commits next l) rest added

    set_is : opened ≡ slice_set (journal ++ bytes) gate 1
    set_is = set ∙ ap (λ l. slice_set l gate 1) is

    -- the commits with it
    pub opened_commits : kept_commits opened ≡ commits ++ next ∷ []
    opened_commits = grown_commits journal bytes opened commits next gate closed long added_bytes set_is

    -- the place of the closed gate
    pub opened_place : length opened - 1 ≡ gate + length (drop (gate + 1) grown)
    opened_place = grown_at journal bytes opened commits next gate closed long added_bytes set_is ∙ ap (λ l. gate + length l) (sym rest)

    -- what is kept then
    pub opened_kept : KeepsJournal opened (number + 1) epoch (count + 1) after halted
    opened_kept =
        subst (λ h. KeepsJournal opened (number + 1) epoch (count + 1) after h) (sym on)
        (grown_kept journal bytes opened commits next gate closed long added_bytes set_is laws (number + 1) epoch (count + 1) after refl
        (omega (arith, kept.number_is)) kept.from_one (omega (arith, kept.few)) (omega (arith, kept.fewer, long)) gives.1)

    -- the transaction passes on the commits so far, and leaves the graph of those with it
    pub opened_passes : transaction ops (graph_of commits) ≡ Ok (record { graph = graph_of (kept_commits opened); gots = gots })
    opened_passes =
        gives.0 ∙ ap (λ plain. Ok (record { graph = plain; gots = gots })) (gives.1 ∙ ap graph_of (sym opened_commits))

    -- its number
    pub opened_number : number + 1 ≡ length (kept_commits opened)
    opened_number = omega (arith, kept.number_is, ap length opened_commits, length-append commits (next ∷ []))

  -- how it ends
  module _ {D : Type 0} (seen : D → ToldBytes) (images : D → Bytes → Type 0) (moment : D → ℕ) (images_since : D → ℕ → Bytes → Type 0) (faults : D → ℕ) (before now : D)
      (leaves : IsSome (seen before) → LeavesOnly moment images_since before now (IsJournal commit_of commits (Some next)))
      (falls : faults before ≤ faults now) (told : IsSome (seen before) → IsSome (seen now)) where
    -- with one commit more
    pub ends_committed : (opened : Bytes) → opened ≡ slice_set grown gate 1
        → IsAtRest commit_of (commits ++ next ∷ []) (gate + length (drop (gate + 1) grown)) (seen now) (images now)
        → seen now ≡ option_map (written_at gate (1 ∷ drop (gate + 1) grown)) (seen before) → faults now ≡ faults before
        → HasCommitted seen images moment images_since faults before now (store_of journal epoch count halted) (store_of opened epoch (count + 1) halted) ops
        stamp (number + 1) gots
    ends_committed opened set at_rest wrote no_fault = record {
      written = record { on = on; leaves = leaves; falls = falls; told = told };
      committed = record { stamp_is = stamp_is; passes = opened_passes opened set; one_more = opened_commits opened set; number_is = opened_number opened set };
      stamped = record { epoch = refl; count = refl };
      goes_on = on;
      at_rest = rest_as (commits ++ next ∷ []) (kept_commits opened) (gate + length (drop (gate + 1) grown)) (length opened - 1) (seen now) (images now)
          (opened_commits opened set) (opened_place opened set) at_rest;
      bytes = wrote ∙ (λ i. option_map (written_at (place i) (1 ∷ rest i)) (seen before));
      no_fault = no_fault;
    }

    -- with a call of the disk that failed
    pub ends_halted : (same : Bytes) → same ≡ take (gate + 1) grown → HasRisen (faults before) (faults now)
        → HasHalted seen images moment images_since faults before now (store_of journal epoch count halted) (store_of same epoch count true) ops
    ends_halted same cut risen = record {
      written = record { on = on; leaves = leaves; falls = falls; told = told };
      passes = ap is_ok gives.0;
      halts = ap (λ j. store_of j epoch count true) (cut_again same cut);
      risen = risen;
    }

module _ (journal same : Bytes) (number epoch count : ℕ) (stamp : Stamp) (graph : Vertices) (ops : List Op) (halted : Bool) (on : halted ≡ false)
    (kept : KeepsJournal journal number epoch count graph halted) (stamp_is : stamp ≡ kept_stamp epoch (count + 1)) (is : same ≡ journal)
    {D : Type 0} (seen : D → ToldBytes) (images : D → Bytes → Type 0) (moment : D → ℕ) (images_since : D → ℕ → Bytes → Type 0) (faults : D → ℕ) (disk : D) where
  -- a refusal
  pub ends_refused : (op : ℕ) (reason : Reason) → transaction ops (plain_of graph) ≡ Err (record { op = op; reason = reason })
      → HasTurnedDown seen images moment images_since faults disk disk (store_of journal epoch count halted) (store_of same epoch (count + 1) halted) ops
      stamp op reason number
  ends_refused op reason refusal = record {
    on = on;
    refused = record {
      stamp_is = stamp_is;
      refused = ap (transaction ops) (sym (kept.graph_is on)) ∙ refusal;
      stays = ap kept_commits is;
      at_is = kept.number_is;
    };
    stamped = record { epoch = refl; count = refl };
    goes_on = on;
    place = ap (λ j. length j - 1) is;
    same = refl;
  }
