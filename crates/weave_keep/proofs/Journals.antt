-- Images of a journal to which commits are added.
use Rattle.std.proofs.Common.{◌≡◌, inl, inr, ⊎_elim, ℕ, false, List, [], ◌∷◌, ◌++◌, length, take, Option, None, Some, IfSome, IsSome, refl, sym, ap, ◌∙◌, subst, arith, append_assoc, length-append}
use Rattle.std.proofs.lemmas.Bool.{both_ways}
use Rattle.std.proofs.lemmas.List.{take_at, append-nil}
use Rattle.std.proofs.lemmas.Option.{none-some, same_Some}
use Rattle.weave_io.specs.Told.{ToldBytes, Tells}
use Rattle.store_journal.specs.Commits.{commit_of}
use Rattle.store_journal.specs.Disk.{ComesFrom, LeavesOnly}
use Rattle.store_journal.specs.Journal.{IsForeign, file_commits}
use Rattle.store_journal.specs.Standing.{HasOrHasOneMore, HasPrefix, IsAtRest, IsJournal, IsLeftByRecovery}
use Rattle.store_journal.specs.declared.kept_commit.Commit.{Commit}
use Rattle.store_journal.proofs.Moments.{joined, started, weaker}
use Rattle.weave_keep.specs.KeepEnds.{CanBeRecovered, GoesOnByKeep, GoesOnWith, HasAdded, IsJournalUpTo, IsLeftByKeep, KeepsCommits, ReadsCommits, added_by, pending_of}

-- what the law on journals says of their commits
abbrev pub HaveTheirCommits : Type 0
HaveTheirCommits = (commits : List Commit) (pending : Option Commit) (file : List ℕ) → IsJournal commit_of commits pending file → HasOrHasOneMore commit_of commits pending file

-- a journal in which none is pending is one in which any may be
pub any_pending : (commits : List Commit) (pending : Option Commit) (file : List ℕ) → IsJournal commit_of commits None file → IsJournal commit_of commits pending file
any_pending commits pending file (inl unborn) = inl unborn
any_pending commits pending file (inr (inl closed)) = inr (inl closed)
any_pending commits pending file (inr (inr (next, none, staged))) = absurd (none-some next none)

-- the first of some commits is pending also if others follow
pub pending_then : (commits first later : List Commit) (file : List ℕ) → IsJournal commit_of commits (pending_of first) file → IsJournal commit_of commits (pending_of (first ++ later)) file
pending_then commits [] later file journal = any_pending commits (pending_of later) file journal
pending_then commits (next ∷ first) later file journal = journal

-- what is known of the input is known of what the source had left
pub told_so : (P : List ℕ → Type 0) (left : ToldBytes) (input : List ℕ) → Tells left input → P input → IfSome left P
told_so P None input tells holds = tt
told_so P (Some told) input tells holds = subst P (sym tells) holds

module _ (law : HaveTheirCommits) where
  -- the image has the commits recovered and the first ones of those that are added
  prefix_of : (recovered added : List Commit) (file : List ℕ) → IsJournalUpTo recovered added file → HasPrefix commit_of recovered added file
  prefix_of recovered added file upto = at upto.rest upto.are_added upto.journal
    where
      more : (next x : Commit) (later : List Commit) → x ≡ next → added ≡ upto.done ++ x ∷ later → file_commits commit_of file ≡ (recovered ++ upto.done) ++ next ∷ [] → HasPrefix commit_of recovered added file
      more next x later same split has =
          let front = upto.done ++ next ∷ [] in
          let whole : added ≡ front ++ later = split ∙ ap (λ y. upto.done ++ y ∷ later) same ∙ sym (append_assoc upto.done (next ∷ []) later) in (
            length front,
            omega (arith, ap length whole, length-append front later),
            has ∙ append_assoc recovered upto.done (next ∷ []) ∙ ap (λ l. recovered ++ l) (sym (ap (take (length front)) whole ∙ take_at front later (length front) refl)),
          )

      same : (rest : List Commit) → added ≡ upto.done ++ rest → file_commits commit_of file ≡ recovered ++ upto.done → HasPrefix commit_of recovered added file
      same rest split has = (
        length upto.done,
        omega (arith, ap length split, length-append upto.done rest),
        has ∙ ap (λ l. recovered ++ l) (sym (ap (take (length upto.done)) split ∙ take_at upto.done rest (length upto.done) refl)),
      )

      at : (rest : List Commit) → added ≡ upto.done ++ rest → IsJournal commit_of (recovered ++ upto.done) (pending_of rest) file → HasPrefix commit_of recovered added file
      at [] split journal = ⊎_elim (λ has. same [] split has) (λ one. absurd (none-some one.0 one.1)) (law (recovered ++ upto.done) None file journal)
      at (x ∷ later) split journal = ⊎_elim (λ has. same (x ∷ later) split has) (λ one. more one.0 x later (same_Some x one.0 one.1) split one.2) (law (recovered ++ upto.done) (Some x) file journal)

  -- an image of the journal from before
  pub as_before : (added : List Commit → List Commit) (commits : List Commit) (pending : Option Commit) (file : List ℕ) → IsJournal commit_of commits pending file → HasAdded added commits pending file
  as_before added commits pending file journal = record {
    recovered = file_commits commit_of file;
    before = law commits pending file journal;
    has = (0, omega arith, sym (append-nil (file_commits commit_of file)));
    goes_on = inl journal;
  }

  -- an image of one to which some were added
  pub with_some : (added : List Commit → List Commit) (commits : List Commit) (pending : Option Commit) (recovered : List Commit) → CanBeRecovered commits pending recovered → (file : List ℕ) → IsJournalUpTo recovered (added recovered) file → HasAdded added commits pending file
  with_some added commits pending recovered before file upto = record {
    recovered = recovered;
    before = before;
    has = prefix_of recovered (added recovered) file upto;
    goes_on = inr upto;
  }

  -- a journal at rest keeps its commits
  pub at_rest_keeps : (commits : List Commit) (at : ℕ) (told : ToldBytes) (images : List ℕ → Type 0) → IsAtRest commit_of commits at told images → KeepsCommits told images commits
  at_rest_keeps commits at None images rest = tt
  at_rest_keeps commits at (Some file) images rest =
      let journal : IsJournal commit_of commits None file = inr (inl (at, rest.0)) in
      let has : file_commits commit_of file ≡ commits = ⊎_elim (λ same. same) (λ more. absurd (none-some more.0 more.1)) (law commits None file journal) in
      (has, λ c image. (ap (λ f. file_commits commit_of f) (rest.1 c image) ∙ has, subst (λ f. IsJournal commit_of commits None f) (sym (rest.1 c image)) journal))

  -- nothing was done to an image
  pub as_it_was : (added : List Commit → List Commit) (file : List ℕ) → GoesOnWith (HasAdded added) file file
  as_it_was added file = record { foreign = λ is. refl; journal = λ commits pending journal. as_before added commits pending file journal }

  -- it was recovered, or that failed
  by_recovery : (added : List Commit → List Commit) (before : List ℕ → Type 0) (file : List ℕ) → ComesFrom (IsLeftByRecovery commit_of) before file → ComesFrom (GoesOnWith (HasAdded added)) before file
  by_recovery added before file from = (
    from.0,
    from.1,
    record {
      foreign = from.2.foreign;
      journal = λ commits pending journal. as_before added commits pending file (from.2.journal commits pending journal);
    },
  )

  -- the disk as it read was recovered, and some were added
  by_adding : (added : List Commit → List Commit) (told : ToldBytes) (images : List ℕ → Type 0) (recovered : List Commit) → IsSome told → IfSome told images → IfSome told (λ file. ¬ IsForeign commit_of file)
      → IfSome told (λ file. recovered ≡ file_commits commit_of file) → (c : List ℕ) → IsJournalUpTo recovered (added recovered) c → ComesFrom (GoesOnWith (HasAdded added)) images c
  by_adding added None images recovered some image not read c upto = absurd (both_ways false refl some)
  by_adding added (Some file) images recovered some image not read c upto = (
    file,
    image,
    record {
      foreign = λ is. absurd (not is);
      journal = λ commits pending journal. with_some added commits pending recovered (subst (λ l. CanBeRecovered commits pending l) (sym read) (law commits pending file journal)) c upto;
    },
  )

  -- Moments
  module _ {D : Type 0} (images : D → List ℕ → Type 0) (moment : D → ℕ) (images_since : D → ℕ → List ℕ → Type 0) (added : List Commit → List Commit) where
    -- each image goes on from one of these
    abbrev FromThese : D → List ℕ → Type 0
    FromThese old = ComesFrom (GoesOnWith (HasAdded added)) (images old)

    -- nothing was done
    pub untouched : ((disk : D) (c : List ℕ) → images_since disk (moment disk) c → images disk c) → (disk : D) → LeavesOnly moment images_since disk disk (FromThese disk)
    untouched since_now disk = started moment images_since disk (FromThese disk) (λ c left. (c, since_now disk c left, as_it_was added c))

    -- the journal was recovered, or that failed
    pub recovering : (old new : D) → LeavesOnly moment images_since old new (ComesFrom (IsLeftByRecovery commit_of) (images old)) → LeavesOnly moment images_since old new (FromThese old)
    recovering old new run = weaker moment images_since old new (ComesFrom (IsLeftByRecovery commit_of) (images old)) (FromThese old) run (by_recovery added (images old))

    -- it was recovered, and commits were added
    pub adding : (old mid new : D) (told : ToldBytes) (recovered : List Commit) → IsSome told → IfSome told (images old) → IfSome told (λ file. ¬ IsForeign commit_of file) → IfSome told (λ file. recovered ≡ file_commits commit_of file)
        → LeavesOnly moment images_since old mid (ComesFrom (IsLeftByRecovery commit_of) (images old)) → LeavesOnly moment images_since mid new (IsJournalUpTo recovered (added recovered)) → LeavesOnly moment images_since old new (FromThese old)
    adding old mid new told recovered some image not read first then =
        joined moment images_since old mid new (ComesFrom (IsLeftByRecovery commit_of) (images old)) (IsJournalUpTo recovered (added recovered)) (FromThese old) first then
        (by_recovery added (images old)) (by_adding added told (images old) recovered some image not read)

-- a file that isn't foreign reads as a journal with its commits
pub reads : (told : ToldBytes) (commits : List Commit) → IfSome told (λ file. ¬ IsForeign commit_of file) → IfSome told (λ file. commits ≡ file_commits commit_of file) → ReadsCommits told commits
reads None commits not has = tt
reads (Some file) commits not has = (not, sym has)

-- no image of a journal is foreign, so neither is the disk as it reads
pub not_foreign : (told : ToldBytes) (images : List ℕ → Type 0) (commits : List Commit) (pending : Option Commit) → ((file : List ℕ) → IsJournal commit_of commits pending file → ¬ IsForeign commit_of file) → IsSome told → IfSome told images
    → ((c : List ℕ) → images c → IsJournal commit_of commits pending c) → IfSome told (IsForeign commit_of) → ⊥
not_foreign None images commits pending never some image all foreign = both_ways false refl some
not_foreign (Some file) images commits pending never some image all foreign = never file (all file image) foreign

-- What is added by the input is added by what the source had left

-- the same image, of the same commits
pub same_added : (one other : List Commit → List Commit) → ((l : List Commit) → one l ≡ other l) → (commits : List Commit) (pending : Option Commit) (file : List ℕ) → HasAdded one commits pending file → HasAdded other commits pending file
same_added one other same commits pending file has = let path : one ≡ other = λ i l. same l i in subst (λ added. HasAdded added commits pending file) path has

-- so with what the source had left
pub left_by_keep : (left : ToldBytes) (input : List ℕ) → Tells left input → (commits : List Commit) (pending : Option Commit) (file : List ℕ) → HasAdded (added_by input) commits pending file → IsLeftByKeep left commits pending file
left_by_keep left input tells commits pending file has = record {
  added = added_by input;
  of_input = told_so (λ other. added_by input ≡ added_by other) left input tells refl;
  has = has;
}

-- an image of the journal from before, if the input was not read
pub left_unread : HaveTheirCommits → (left : ToldBytes) (commits : List Commit) (pending : Option Commit) (file : List ℕ) → IsJournal commit_of commits pending file → IsLeftByKeep left commits pending file
left_unread law None commits pending file journal = record { added = λ l. []; of_input = tt; has = as_before law (λ l. []) commits pending file journal }
left_unread law (Some input) commits pending file journal = record { added = added_by input; of_input = refl; has = as_before law (added_by input) commits pending file journal }

-- less is said of what an image has
pub less_of : (P Q : List Commit → Option Commit → List ℕ → Type 0) → ((commits : List Commit) (pending : Option Commit) (file : List ℕ) → P commits pending file → Q commits pending file)
    → (before : List ℕ → Type 0) (c : List ℕ) → ComesFrom (GoesOnWith P) before c → ComesFrom (GoesOnWith Q) before c
less_of P Q less before c from = (from.0, from.1, record { foreign = from.2.foreign; journal = λ commits pending journal. less commits pending c (from.2.journal commits pending journal) })

module _ {D : Type 0} (images : D → List ℕ → Type 0) (moment : D → ℕ) (images_since : D → ℕ → List ℕ → Type 0) (left : ToldBytes) where
  -- if the input was not read, the disk has what it had
  pub unread_moments : HaveTheirCommits → ((disk : D) (c : List ℕ) → images_since disk (moment disk) c → images disk c) → (disk : D) → LeavesOnly moment images_since disk disk (ComesFrom (GoesOnByKeep left) (images disk))
  unread_moments law since_now disk = started moment images_since disk (ComesFrom (GoesOnByKeep left) (images disk)) (λ c here. (
    c,
    since_now disk c here,
    record {
      foreign = λ is. refl;
      journal = λ commits pending journal. left_unread law left commits pending c journal;
    },
  ))

  -- if all images are of one journal, each has what it had and some that are added
  pub from_one_journal : (old new : D) (commits : List Commit) (pending : Option Commit) → ((c : List ℕ) → images old c → IsJournal commit_of commits pending c) → LeavesOnly moment images_since old new (ComesFrom (GoesOnByKeep left) (images old))
      → LeavesOnly moment images_since old new (IsLeftByKeep left commits pending)
  from_one_journal old new commits pending all run =
      weaker moment images_since old new (ComesFrom (GoesOnByKeep left) (images old)) (IsLeftByKeep left commits pending) run (λ c from. from.2.journal commits pending (all from.0 from.1))
