-- Over a list of calls: each image has the commits recovered and then some of the transactions since.
-- Used by `recover`, Ended and KeptSteps.
use Rattle.std.proofs.Common.{◌≡◌, ⊎_elim, ℕ, List, [], ◌∷◌, ◌++◌, length, map, Option, Some, refl, sym, ◌∙◌, ap, subst, arith, append_assoc, length-append}
use Rattle.std.specs.Prelude.{⊤}
use Rattle.std.proofs.lemmas.List.{take_all, take_at, take-append-le, append-nil}
use Rattle.store_journal.specs.Disk.{Only, LeavesOnly}
use Rattle.store_journal.specs.Standing.{IsClosedJournal, IsJournal, HasPrefix}
use Rattle.store_journal.proofs.Moments.{started, joined}
use Rattle.store_journal.proofs.Forms.{closed_commits, journal_commits}

module _ {C : Type 0} (reader : List C → List ℕ → Option C) (recovered : List C) where
  -- a journal at rest has the commits recovered, and none since
  pub prefix_none : (at : ℕ) (c : List ℕ) → IsClosedJournal reader recovered at c → HasPrefix reader recovered [] c
  prefix_none at c closed = (0, omega arith, closed_commits reader recovered at c closed ∙ sym (append-nil recovered))

  -- so the law begins at the moment when a recovery, or a commit, answered Ok
  pub begins_at_rest : {D : Type 0} (images : D → List ℕ → Type 0) (moment : D → ℕ) (images_since : D → ℕ → List ℕ → Type 0) → ((disk : D) (c : List ℕ) → images_since disk (moment disk) c → images disk c)
      → (disk : D) (at : ℕ) (file : List ℕ) → IsClosedJournal reader recovered at file → Only file (images disk) → LeavesOnly moment images_since disk disk (HasPrefix reader recovered [])
  begins_at_rest images moment images_since since_now disk at file closed only =
      started moment images_since disk (HasPrefix reader recovered []) (λ c left. prefix_none at c (subst (λ f. IsClosedJournal reader recovered at f) (sym (only c (since_now disk c left))) closed))

  -- with one transaction more
  pub prefix_more : (since : List C) (next : C) (c : List ℕ) → HasPrefix reader recovered since c → HasPrefix reader recovered (since ++ next ∷ []) c
  prefix_more since next c has =
      (has.0, omega (arith, has.1, length-append since (next ∷ [])), has.2 ∙ ap (λ l. recovered ++ l) (sym (take-append-le has.0 since (next ∷ []) has.1)))

  -- an image of the journal in which this one is pending
  pub prefix_pending : (since : List C) (next : C) (c : List ℕ) → IsJournal reader (recovered ++ since) (Some next) c → HasPrefix reader recovered (since ++ next ∷ []) c
  prefix_pending since next c journal = ⊎_elim
      (λ same. (length since, omega (arith, length-append since (next ∷ [])), same ∙ ap (λ l. recovered ++ l) (sym (take_at since (next ∷ []) (length since) refl))))
      (λ more. (
        length (since ++ next ∷ []),
        omega arith,
        more.2 ∙ ap (λ x. (recovered ++ since) ++ x ∷ []) (sym (some_same next more.0 more.1)) ∙ append_assoc recovered since (next ∷ []) ∙ ap (λ l. recovered ++ l) (sym (take_all (length (since ++ next ∷ [])) (since ++ next ∷ []) (omega arith))),
      ))
      (journal_commits reader (recovered ++ since) (Some next) c journal)
    where
      some_same : (x y : C) → Some x ≡ Some y → x ≡ y
      some_same x y e = cc

  module _ {D : Type 0} (moment : D → ℕ) (images_since : D → ℕ → List ℕ → Type 0) where
    -- one commit more, whatever it answered
    pub one_commit_more : (start old new : D) (since : List C) (next : C) → LeavesOnly moment images_since start old (HasPrefix reader recovered since)
        → LeavesOnly moment images_since old new (IsJournal reader (recovered ++ since) (Some next)) → LeavesOnly moment images_since start new (HasPrefix reader recovered (since ++ next ∷ []))
    one_commit_more start old new since next so_far then =
        joined moment images_since start old new (HasPrefix reader recovered since) (IsJournal reader (recovered ++ since) (Some next)) (HasPrefix reader recovered (since ++ next ∷ []))
        so_far then (prefix_more since next) (prefix_pending since next)

    -- a further recovery after a commit that failed, until it answers Ok
    pub recovery_after : (start old new : D) (since : List C) (next : C) → LeavesOnly moment images_since start old (HasPrefix reader recovered (since ++ next ∷ []))
        → LeavesOnly moment images_since old new (IsJournal reader (recovered ++ since) (Some next)) → LeavesOnly moment images_since start new (HasPrefix reader recovered (since ++ next ∷ []))
    recovery_after start old new since next so_far then =
        joined moment images_since start old new (HasPrefix reader recovered (since ++ next ∷ [])) (IsJournal reader (recovered ++ since) (Some next)) (HasPrefix reader recovered (since ++ next ∷ []))
        so_far then (λ c has. has) (prefix_pending since next)

    -- commits one after another, each with the disk after it
    abbrev pub Goes : D → List C → List (C × D) → Type 0
    Goes disk since [] = ⊤
    Goes disk since (step ∷ steps) = LeavesOnly moment images_since disk step.1 (IsJournal reader (recovered ++ since) (Some step.0)) × Goes step.1 (since ++ step.0 ∷ []) steps

    -- the disk after them
    abbrev pub last_of : D → List (C × D) → D
    last_of disk [] = disk
    last_of disk (step ∷ steps) = last_of step.1 steps

    -- the law over a list of commits
    pub each_image_has_a_prefix : (start disk : D) (since : List C) (steps : List (C × D)) → LeavesOnly moment images_since start disk (HasPrefix reader recovered since) → Goes disk since steps
        → LeavesOnly moment images_since start (last_of disk steps) (HasPrefix reader recovered (since ++ map (λ (s : C × D). s.0) steps))
    each_image_has_a_prefix start disk since [] so_far goes = subst (λ l. LeavesOnly moment images_since start disk (HasPrefix reader recovered l)) (sym (append-nil since)) so_far
    each_image_has_a_prefix start disk since (step ∷ steps) so_far goes =
        subst (λ l. LeavesOnly moment images_since start (last_of step.1 steps) (HasPrefix reader recovered l)) (append_assoc since (step.0 ∷ []) (map (λ (s : C × D). s.0) steps))
        (each_image_has_a_prefix start step.1 (since ++ step.0 ∷ []) steps (one_commit_more start disk step.1 since step.0 so_far goes.0) goes.1)
