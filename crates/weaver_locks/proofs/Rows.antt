-- Passes of a row that go on, place by place.
-- Used by `leave_shard`, Beside, RowAsked, Seeing, ShardDone, ShardEntered, ShardLeft, ShardVisited, StoreCommitted,
-- StoreEntered and StoreLeft.
use Rattle.std.proofs.Common.{◌≡◌, ◌≢◌, ℕ, zero, suc, ◌<◌, ◌≤◌, List, [], ◌∷◌, ◌++◌, length, map, get_or, set, inl, inr, refl, sym, ap, ◌∙◌, subst, arith}
use Rattle.std.specs.Prelude.{All}
use Rattle.std.proofs.lemmas.Bool.{cases_lt}
use Rattle.std.proofs.lemmas.List.{append_assoc, get_or_default}
use mathlib.Core.List.{IsPrefix}
use Rattle.weave_account.specs.GoesOn.{IsBeginningOf}
use Rattle.chronicle.specs.declared.chronicle.Chronicle.{Chronicle}
use Rattle.chronicle.specs.declared.pass.Pass.{Pass}
use Rattle.chronicle.specs.declared.note.Note.{Note}
use Rattle.chronicle.specs.Locks.{Lock}
use Rattle.chronicle.specs.Logs.{Log, entries_of}
use Rattle.chronicle.specs.Passes.{number_of, own_entries, seen_by_pass}
use Rattle.lock_row.specs.Rows.{AreReady}
use Rattle.lock_row.specs.Meetings.{AllMet, HaveMet}
use Rattle.lock_row.proofs.Lists.{mapped_alike, one_of}
use Rattle.weaver_locks.specs.Going.{AllGoOn, GoesOnAs}

module _ {A B : Type 0} (f : A → B) where
  -- an element of an image
  pub image_at : (xs : List A) (k : ℕ) (a : A) (b : B) → k < length xs → get_or (map f xs) k b ≡ f (get_or xs k a)
  image_at [] k a b low = absurd (omega (arith, low))
  image_at (x ∷ xs) zero a b low = refl
  image_at (x ∷ xs) (suc k) a b low = image_at xs k a b (omega (arith, low))

  -- past the end of a list there is no image, so the default is what is found
  pub image_past : (xs : List A) (k : ℕ) (b : B) → length xs ≤ k → get_or (map f xs) k b ≡ b
  image_past [] k b past = refl
  image_past (x ∷ xs) zero b past = absurd (omega (arith, past))
  image_past (x ∷ xs) (suc k) b past = image_past xs k b (omega (arith, past))

  -- a default that is the image of the other one
  pub image_or : (xs : List A) (k : ℕ) (a : A) (b : B) → b ≡ f a → get_or (map f xs) k b ≡ f (get_or xs k a)
  image_or [] k a b is = is
  image_or (x ∷ xs) zero a b is = refl
  image_or (x ∷ xs) (suc k) a b is = image_or xs k a b is

  -- the image of a list in which one element was exchanged
  pub image_set : (xs : List A) (k : ℕ) (a : A) → map f (set xs k a) ≡ set (map f xs) k (f a)
  image_set [] k a = refl
  image_set (x ∷ xs) zero a = refl
  image_set (x ∷ xs) (suc k) a = ap (λ (l : List B). f x ∷ l) (image_set xs k a)

  -- the images of images are the images by both functions in turn
  pub image_twice : {C : Type 0} (g : B → C) (xs : List A) → map g (map f xs) ≡ map (λ (a : A). g (f a)) xs
  image_twice g [] = refl
  image_twice {C} g (x ∷ xs) = ap (λ (l : List C). g (f x) ∷ l) (image_twice g xs)

-- an element of a list in which one was exchanged
pub set_here : {A : Type 0} (xs : List A) (k : ℕ) (a d : A) → k < length xs → get_or (set xs k a) k d ≡ a
set_here [] k a d low = absurd (omega (arith, low))
set_here (x ∷ xs) zero a d low = refl
set_here (x ∷ xs) (suc k) a d low = set_here xs k a d (omega (arith, low))

-- and the other elements are as they were
pub set_there : {A : Type 0} (xs : List A) (k j : ℕ) (a d : A) → j ≢ k → get_or (set xs k a) j d ≡ get_or xs j d
set_there [] k j a d other = refl
set_there (x ∷ xs) zero zero a d other = absurd (other refl)
set_there (x ∷ xs) zero (suc j) a d other = refl
set_there (x ∷ xs) (suc k) zero a d other = refl
set_there (x ∷ xs) (suc k) (suc j) a d other = set_there xs k j a d (λ e. other (ap suc e))

-- an element that is exchanged twice is as exchanged the second time alone
pub set_twice : {A : Type 0} (xs : List A) (k : ℕ) (a b : A) → set (set xs k a) k b ≡ set xs k b
set_twice [] k a b = refl
set_twice (x ∷ xs) zero a b = refl
set_twice {A} (x ∷ xs) (suc k) a b = ap (λ (l : List A). x ∷ l) (set_twice xs k a b)

-- a list in which one element was exchanged is as long as it was
pub set_length : {A : Type 0} (xs : List A) (k : ℕ) (a : A) → length (set xs k a) ≡ length xs
set_length [] k a = refl
set_length (x ∷ xs) zero a = refl
set_length (x ∷ xs) (suc k) a = ap suc (set_length xs k a)

-- what begins a beginning of a list begins the list
pub begins_more : {A : Type 0} (a b c : List A) → IsPrefix a b → IsPrefix b c → IsPrefix a c
begins_more {A} a b c p q = (p.0 ++ q.0, sym (append_assoc a p.0 q.0) ∙ (ap (λ (l : List A). l ++ q.0) p.1 ∙ q.1))

module _ {M E : Type 0} (locks : List (Chronicle M E)) (before after : List (Pass E)) (on : AllGoOn locks before after)
    (count : length before ≡ length locks) where
  after_count : length after ≡ length locks
  after_count = on.count ∙ count

  at_place : (P : Pass E → Pass E → Type 0) → ((lock : Lock E) (p q : Pass E) → GoesOnAs lock p q → P p q)
      → (k : ℕ) (p : Pass E) → k < length locks → P (get_or before k p) (get_or after k p)
  at_place P from k p low = from _ _ _ (on.each k (one_of locks k low) p low)

  -- each pass of the row as it went on is of the lock at its place, and in no hold
  pub row_ready : AreReady locks after
  row_ready k c p low = (on.each k c p low).ready

  -- what the passes have seen goes on
  pub row_seen : (k : ℕ) → IsBeginningOf (get_or (map seen_by_pass before) k []) (get_or (map seen_by_pass after) k [])
  row_seen k = elim (cases_lt k (length locks)) [
    | inl low ↦
        let p = one_of before k (omega (arith, low, count)) in
        let more = at_place (λ x y. IsPrefix (seen_by_pass x) (seen_by_pass y)) (λ lock x y h. h.more) k p low in
        subst (λ (z : Log E × Log E). IsBeginningOf z.0 z.1)
        (λ i. (sym (image_at seen_by_pass before k p [] (omega (arith, low, count))) i, sym (image_at seen_by_pass after k p [] (omega (arith, low, after_count))) i))
        (more.0, sym more.1)
    | inr past ↦
        subst (λ (z : Log E × Log E). IsBeginningOf z.0 z.1)
        (λ i. (sym (image_past seen_by_pass before k [] (omega (arith, past, count))) i, sym (image_past seen_by_pass after k [] (omega (arith, past, after_count))) i))
        ([], refl)
  ]

  -- if all passes had one number, they have it still
  pub row_numbers : (n : ℕ) → All (λ (p : Pass E). number_of p ≡ n) before → All (λ (p : Pass E). number_of p ≡ n) after
  row_numbers n all k d low =
      let here : k < length locks = omega (arith, low, after_count) in
      at_place (λ x y. number_of y ≡ number_of x) (λ lock x y h. h.number) k d here ∙ all k d (omega (arith, here, count))

  -- the passes have the same own entries as before
  pub row_own : map own_entries after ≡ map own_entries before
  row_own = mapped_alike own_entries own_entries before after on.count (λ k a b low.
      let here : k < length locks = omega (arith, low, count) in
      ap own_entries (get_or_default after k b a (omega (arith, here, after_count)))
      ∙ at_place (λ x y. own_entries y ≡ own_entries x) (λ lock x y h. h.own_is) k a here)

  -- so all entries of theirs were seen before
  pub row_entries : (n : ℕ) → All (λ (p : Pass E). number_of p ≡ n) before → (k : ℕ)
      → entries_of n (get_or (map seen_by_pass after) k []) ≡ entries_of n (get_or (map seen_by_pass before) k [])
  row_entries n all k = elim (cases_lt k (length locks)) [
    | inl low ↦
        let p = one_of before k (omega (arith, low, count)) in
        let was = get_or before k p in
        let is = get_or after k p in
        let number : number_of was ≡ n = all k p (omega (arith, low, count)) in
        let later : number_of is ≡ n = row_numbers n all k p (omega (arith, low, after_count)) in
        let same : own_entries is ≡ own_entries was = at_place (λ x y. own_entries y ≡ own_entries x) (λ lock x y h. h.own_is) k p low in
        ap (entries_of n) (image_at seen_by_pass after k p [] (omega (arith, low, after_count)))
        ∙ (ap (λ (m : ℕ). entries_of m (seen_by_pass is)) (sym later) ∙ (same ∙ (ap (λ (m : ℕ). entries_of m (seen_by_pass was)) number
        ∙ ap (entries_of n) (sym (image_at seen_by_pass before k p [] (omega (arith, low, count)))))))
    | inr past ↦
        ap (entries_of n) (image_past seen_by_pass after k [] (omega (arith, past, after_count))
        ∙ sym (image_past seen_by_pass before k [] (omega (arith, past, count))))
  ]

-- passes that met notes go on
pub met_on : {E : Type 0} (lock : Lock E) (p q : Pass E) (n m : Note E) → HaveMet lock p q n m → GoesOnAs lock p q
met_on lock p q n m met = record { ready = met.ready; number = met.number; own_is = met.own_is; more = met.pass_before }

-- and so do all those of a row, if it has a note of each lock and as many passes as before
pub all_met_on : {M E : Type 0} (locks : List (Chronicle M E)) (before after : List (Pass E)) (notes later : List (Note E))
    → AllMet locks before after notes later (length locks) → length notes ≡ length locks → length after ≡ length before
    → AllGoOn locks before after
all_met_on locks before after notes later met noted count = record {
  count = count;
  each = λ k c p low.
      let n = one_of notes k (omega (arith, low, noted)) in
      let apart : k ≢ length locks = λ e. absurd (omega (arith, low, e)) in
      met_on _ _ _ _ _ (met k c p n low apart);
}

-- passes that go on twice
pub go_on_twice : {M E : Type 0} (locks : List (Chronicle M E)) (one two three : List (Pass E)) → AllGoOn locks one two
    → AllGoOn locks two three → AllGoOn locks one three
go_on_twice locks one two three first second = record {
  count = second.count ∙ first.count;
  each = λ k c p low.
      let a = first.each k c p low in
      let b = second.each k c p low in
      record { ready = b.ready; number = b.number ∙ a.number; own_is = b.own_is ∙ a.own_is; more = begins_more _ _ _ a.more b.more };
}
