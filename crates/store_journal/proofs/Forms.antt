-- What the calls of a commit and of a recovery leave of a journal.
-- Used by `images_have_the_commits`, Adding, Closing, History and KeptSteps.
use Rattle.std.proofs.Common.{◌≡◌, ◌⊎◌, inl, inr, ⊎_elim, ℕ, ◌+◌, ◌≤◌, List, [], ◌∷◌, ◌++◌, length, drop, get_or, Option, refl, sym, ◌∙◌, ap, subst, arith, append_assoc, length-append}
use Rattle.std.proofs.lemmas.Bool.{cases_eq}
use Rattle.store_journal.specs.Disk.{Torn, written_at}
use Rattle.store_journal.specs.Journal.{framed, walk, file_commits}
use Rattle.store_journal.specs.Standing.{IsClosedJournal, IsStaged, IsJournal, IsRecord, HasOrHasOneMore}
use Rattle.store_journal.proofs.Walking.{walk_closed, walk_to_gate, one_record_more}
use Rattle.store_journal.proofs.Tearing.{torn_after, torn_gate, written_after, written_gate}

module _ {C : Type 0} (reader : List C → List ℕ → Option C) where
  -- the commits of a closed journal
  pub closed_commits : (commits : List C) (at : ℕ) (file : List ℕ) → IsClosedJournal reader commits at file → file_commits reader file ≡ commits
  closed_commits commits at file closed =
      ap (λ l. file_commits reader l) closed.file_is ∙ ap (λ w. w.commits) (walk_to_gate reader closed.front commits 0 closed.tail closed.records (omega arith))

  -- those of a journal with a record after any gate byte
  pub staged_commits : (commits : List C) (next : C) (file : List ℕ) → IsStaged reader commits next file → (file_commits reader file ≡ commits) ⊎ (file_commits reader file ≡ commits ++ next ∷ [])
  staged_commits commits next file staged = elim (cases_eq staged.gate 1) [
    | inl is_open ↦
        let opened : file ≡ (staged.front ++ 1 ∷ framed staged.payload) ++ 0 ∷ staged.tail =
        staged.file_is ∙ ap (λ g. staged.front ++ g ∷ (framed staged.payload ++ 0 ∷ staged.tail)) is_open ∙ sym (append_assoc staged.front (1 ∷ framed staged.payload) (0 ∷ staged.tail)) in
        let more = one_record_more reader staged.front commits next staged.payload staged.records staged.short staged.reads in
        inr (ap (λ l. file_commits reader l) opened ∙ ap (λ w. w.commits) (walk_to_gate reader (staged.front ++ 1 ∷ framed staged.payload) (commits ++ next ∷ []) 0 staged.tail more (omega arith)))
    | inr shut ↦
        inl (ap (λ l. file_commits reader l) staged.file_is ∙ ap (λ w. w.commits) (walk_to_gate reader staged.front commits staged.gate (framed staged.payload ++ 0 ∷ staged.tail) staged.records shut))
  ]

  -- at most one byte has no commit
  pub short_walk : (file : List ℕ) → length file ≤ 1 → walk reader [] 0 0 file ≡ record { commits = []; gate = 0 }
  short_walk [] short = refl
  short_walk (g ∷ []) short = elim (cases_eq g 1) [
    | inl is_open ↦ ap (λ b. walk reader [] 0 0 (b ∷ [])) is_open
    | inr shut ↦ walk_closed reader [] 0 g [] shut
  ]
  short_walk (a ∷ b ∷ file) short = absurd (omega arith)

  -- an image of a journal has its commits, or these and the pending one
  pub journal_commits : (commits : List C) (pending : Option C) (file : List ℕ) → IsJournal reader commits pending file → HasOrHasOneMore reader commits pending file
  journal_commits commits pending file (inl unborn) = inl (ap (λ w. w.commits) (short_walk file unborn.1) ∙ sym unborn.0)
  journal_commits commits pending file (inr (inl closed)) = inl (closed_commits commits closed.0 file closed.1)
  journal_commits commits pending file (inr (inr staged)) = ⊎_elim (λ same. inl same) (λ more. inr (staged.0, staged.1, more)) (staged_commits commits staged.0 file staged.2)

  -- the first write of a commit, whatever is left of it: the gate before it is closed
  pub stage_torn : (commits : List C) (at n : ℕ) (file c : List ℕ) → IsClosedJournal reader commits at file → Torn (at + 1) n file c → IsClosedJournal reader commits at c
  stage_torn commits at n file c closed torn =
      let same : Torn (length closed.front + 1) n (closed.front ++ 0 ∷ closed.tail) c = subst (λ f. Torn (length closed.front + 1) n f c) closed.file_is (subst (λ k. Torn (k + 1) n file c) (sym closed.place) torn) in
      record { front = closed.front; tail = drop (length closed.front + 1) c; file_is = torn_after closed.front 0 closed.tail n c same; place = closed.place; records = closed.records }

  -- the first write of a commit: the record is there, with a closed gate before it and one after
  pub stage_written : (commits : List C) (next : C) (at : ℕ) (file bytes : List ℕ) → IsClosedJournal reader commits at file → IsRecord reader commits next bytes
      → (s : IsStaged reader commits next (written_at (at + 1) bytes file)) × (length s.front ≡ at) × (length (framed s.payload) + 1 ≡ length bytes)
  stage_written commits next at file bytes closed added =
      let end = drop (length closed.front + 1 + length bytes) (closed.front ++ 0 ∷ closed.tail) in
      let is : written_at (at + 1) bytes file ≡ closed.front ++ 0 ∷ (framed added.payload ++ 0 ∷ end) =
      ap (λ k. written_at (k + 1) bytes file) (sym closed.place) ∙ ap (λ f. written_at (length closed.front + 1) bytes f) closed.file_is
      ∙ written_after closed.front 0 closed.tail bytes ∙ ap (λ b. closed.front ++ 0 ∷ (b ++ end)) added.bytes_are
      ∙ ap (λ l. closed.front ++ 0 ∷ l) (append_assoc (framed added.payload) (0 ∷ []) end) in
      (record { front = closed.front; gate = 0; payload = added.payload; tail = end; file_is = is; records = closed.records; short = added.short; reads = added.reads }, closed.place, sym (ap length added.bytes_are ∙ length-append (framed added.payload) (0 ∷ [])))

  -- a write of the gate byte, whatever is left of it: the record is there behind some gate
  pub open_torn : (commits : List C) (next : C) (file c : List ℕ) → (s : IsStaged reader commits next file) → Torn (length s.front) 1 file c → IsStaged reader commits next c
  open_torn commits next file c staged torn =
      let rest = framed staged.payload ++ 0 ∷ staged.tail in
      let same : Torn (length staged.front) 1 (staged.front ++ staged.gate ∷ rest) c = subst (λ f. Torn (length staged.front) 1 f c) staged.file_is torn in
      record {
        front = staged.front;
        gate = get_or c (length staged.front) 0;
        payload = staged.payload;
        tail = staged.tail;
        file_is = torn_gate staged.front staged.gate rest c same;
        records = staged.records;
        short = staged.short;
        reads = staged.reads;
      }

  -- the gate byte is written: the new commit is there, and a closed gate after it
  pub open_written : (commits : List C) (next : C) (file : List ℕ) → (s : IsStaged reader commits next file)
      → IsClosedJournal reader (commits ++ next ∷ []) (length s.front + 1 + length (framed s.payload)) (written_at (length s.front) (1 ∷ []) file)
  open_written commits next file staged =
      let rest = framed staged.payload ++ 0 ∷ staged.tail in
      record {
        front = staged.front ++ 1 ∷ framed staged.payload;
        tail = staged.tail;
        file_is = ap (λ f. written_at (length staged.front) (1 ∷ []) f) staged.file_is ∙ written_gate staged.front staged.gate rest 1 ∙ sym (append_assoc staged.front (1 ∷ framed staged.payload) (0 ∷ staged.tail));
        place = omega (arith, length-append staged.front (1 ∷ framed staged.payload));
        records = one_record_more reader staged.front commits next staged.payload staged.records staged.short staged.reads;
      }
