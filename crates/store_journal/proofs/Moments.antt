-- How a run of calls of a disk goes on.
-- Used by Adding, Closing, History, KeptSteps, LeftImages, Quiet and crate weave_keep.
use Rattle.std.proofs.Common.{inl, inr, ⊎_elim, ℕ, ◌≤◌, List, arith}
use Rattle.store_journal.specs.Disk.{Elapses, LeavesOnly}

module _ {D : Type 0} (moment : D → ℕ) (images_since : D → ℕ → List ℕ → Type 0) where
  -- before the first call
  pub started : (old : D) (P : List ℕ → Type 0) → ((c : List ℕ) → images_since old (moment old) c → P c) → LeavesOnly moment images_since old old P
  started old P here = record { later = omega arith; each = here; before = λ t c le left. inl left }

  -- one call more, after which each image has P
  pub goes_on : (old mid new : D) (P images : List ℕ → Type 0) → LeavesOnly moment images_since old mid P → Elapses (moment mid) (moment new) (images_since mid) (images_since new) images
      → ((c : List ℕ) → images c → P c) → LeavesOnly moment images_since old new P
  goes_on old mid new P images so_far time here = record {
    later = omega (arith, so_far.later, time.later);
    each = λ c left. ⊎_elim (so_far.each c) (here c) (time.nothing_else (moment old) c so_far.later left);
    before = λ t c le left. ⊎_elim (so_far.before t c le) (λ now. inr (here c now)) (time.nothing_else t c (omega (arith, le, so_far.later)) left);
  }

  -- a run after another
  pub joined : (old mid new : D) (P Q R : List ℕ → Type 0) → LeavesOnly moment images_since old mid P → LeavesOnly moment images_since mid new Q
      → ((c : List ℕ) → P c → R c) → ((c : List ℕ) → Q c → R c) → LeavesOnly moment images_since old new R
  joined old mid new P Q R first then left right = record {
    later = omega (arith, first.later, then.later);
    each = λ c since. ⊎_elim (λ was. left c (first.each c was)) (right c) (then.before (moment old) c first.later since);
    before = λ t c le since. ⊎_elim (λ was. ⊎_elim (λ long_ago. inl long_ago) (λ p. inr (left c p)) (first.before t c le was)) (λ q. inr (right c q)) (then.before t c (omega (arith, le, first.later)) since);
  }

  -- the same with less said
  pub weaker : (old new : D) (P R : List ℕ → Type 0) → LeavesOnly moment images_since old new P → ((c : List ℕ) → P c → R c) → LeavesOnly moment images_since old new R
  weaker old new P R run less = record {
    later = run.later;
    each = λ c since. less c (run.each c since);
    before = λ t c le since. ⊎_elim (λ was. inl was) (λ p. inr (less c p)) (run.before t c le since);
  }

  -- so has each image of now
  pub has_now : (images : D → List ℕ → Type 0) → ((disk : D) (t : ℕ) (c : List ℕ) → t ≤ moment disk → images disk c → images_since disk t c)
      → (old new : D) (P : List ℕ → Type 0) → LeavesOnly moment images_since old new P → (c : List ℕ) → images new c → P c
  has_now images now_since old new P run c left = run.each c (now_since new (moment old) c run.later left)
