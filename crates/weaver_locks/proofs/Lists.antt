-- A list gone through: what is done, what is left.
-- Used by `bare_gates`, `bare_shards`, `close_row`, `gather`, `note_gates`, `note_oracle`, `note_shards`,
-- `note_store`, ClosedLogs, Closings, OwnLogs and Starting.
use Rattle.std.proofs.Common.{◌≡◌, ℕ, zero, suc, ◌+◌, ◌<◌, drop, List, [], ◌∷◌, ◌++◌, length, map, get_or, set, cond, Bool, true, false, inl, inr, refl, sym, ap, ◌∙◌, subst, arith, append_assoc, length-append}
use Rattle.std.specs.List.{All, Any, Contains, filter}
use Rattle.std.proofs.lemmas.Bool.{cases_lt}
use Rattle.std.proofs.lemmas.List.{append-nil, get_or_append_left, get_or_push, nil_from_length, get_or-map, get_or_default, length-map, map_push}
use Rattle.std.proofs.lemmas.List.Elements.{All-contains, All-map, Contains-append_right, Contains-get_or}
use Rattle.weave_data.proofs.Members.{has_map}
use Rattle.lock_row.proofs.Lists.{one_of}

module _ {A : Type 0} where
  -- the next of what is left of a list
  pub of_next : (P : A → Type 0) (xs done left rest : List A) (x : A) → All P xs → xs ≡ done ++ left → left ≡ x ∷ rest → P x
  of_next P xs done left rest x all is next = All-contains P xs x all (subst (λ (l : List A). Contains l x)
      (sym (is ∙ ap (λ (l : List A). done ++ l) next)) (Contains-append_right done (x ∷ rest) x (0, omega arith, refl)))

  -- if an element of the list is left, what is done is shorter than the list
  pub one_is_left : (xs done left rest : List A) (x : A) → xs ≡ done ++ left → left ≡ x ∷ rest → length done < length xs
  one_is_left xs done left rest x is next =
      let long : length xs ≡ length (done ++ x ∷ rest) = ap (λ (l : List A). length l) (is ∙ ap (λ (l : List A). done ++ l) next) in
      omega (arith, long, length-append done (x ∷ rest))

  -- the list is what is done with the next element at its end, and then the rest
  pub one_done : (xs done left rest : List A) (x : A) → xs ≡ done ++ left → left ≡ x ∷ rest → xs ≡ (done ++ x ∷ []) ++ rest
  one_done xs done left rest x is next = is ∙ (ap (λ (l : List A). done ++ l) next ∙ sym (append_assoc done (x ∷ []) rest))

  -- if nothing is left, what is done is the list
  pub all_done : (xs done left : List A) (n : ℕ) → xs ≡ done ++ left → n ≡ length left → n ≡ 0 → done ≡ xs
  all_done xs done left n is long none =
      let nothing : left ≡ [] = nil_from_length left (omega arith) in
      sym (is ∙ (ap (λ (l : List A). done ++ l) nothing ∙ append-nil done))

  -- what is left of a list from a place on
  pub from_start : (xs left : List A) (n : ℕ) → n ≡ 0 → left ≡ xs → left ≡ drop n xs
  from_start xs left n none is = subst (λ (i : ℕ). left ≡ drop i xs) (sym none) is

  -- what is left from the place after this one is left from the place with the next number
  pub from_next : {left : List A} (xs : List A) (n m : ℕ) → m ≡ n + 1 → left ≡ drop (n + 1) xs → left ≡ drop m xs
  from_next {left} xs n m more is = subst (λ (i : ℕ). left ≡ drop i xs) (sym more) is

module _ {A B : Type 0} (P : B → Type 0) (f : A → B) (xs : List A) where
  -- what is said of images is said of the elements
  pub all_unmapped : All P (map f xs) → All (λ x. P (f x)) xs
  all_unmapped all k d low = subst P (get_or-map f xs k d (f d) low) (all k (f d) (omega (arith, low, length-map xs f)))

  -- what is said of some image is said of the image of some element
  pub any_unmapped : Any P (map f xs) → Any (λ x. P (f x)) xs
  any_unmapped a =
      let low : a.0 < length xs = omega (arith, a.2, length-map xs f) in
      let d : A = one_of xs a.0 low in
      let x : A = get_or xs a.0 d in
      (a.0, x, low, get_or_default xs a.0 x d low, subst P (sym a.3 ∙ get_or-map f xs a.0 d a.1 low) a.4)

-- a fact on each place of a list holds with one element more
pub pushed : {A : Type 0} (P : ℕ → A → Type 0) (xs ys : List A) (x : A) (n m : ℕ) → ys ≡ xs ++ x ∷ [] → n ≡ length xs → m ≡ n + 1
    → ((k : ℕ) (d : A) → k < n → P k (get_or xs k d)) → P n x → (k : ℕ) (d : A) → k < m → P k (get_or ys k d)
pushed P xs ys x n m more long next had new k d low =
    subst (λ zs. P k (get_or zs k d)) (sym more) (elim (cases_lt k n) [
      | inl before ↦ subst (P k) (sym (get_or_append_left xs (x ∷ []) d k (omega (arith, before, long)))) (had k d before)
      | inr past ↦
          let at : k ≡ length xs = omega (arith, past, low, next, long) in
          subst (λ (j : ℕ). P j (get_or (xs ++ x ∷ []) k d)) (long ∙ sym at) (subst (P n) (sym (get_or_push xs x d k (sym at))) new)
    ])

-- a fact on each place of a list stays if one element changes
pub set-at : {A : Type 0} (P : ℕ → A → Type 0) (xs : List A) (i : ℕ) (x : A) → ((k : ℕ) (d : A) → k < length xs → P k (get_or xs k d)) → P i x
    → (k : ℕ) (d : A) → k < length (set xs i x) → P k (get_or (set xs i x) k d)
set-at P [] i x had new k d low = absurd (omega arith)
set-at P (y ∷ xs) zero x had new zero d low = new
set-at P (y ∷ xs) zero x had new (suc k) d low = had (suc k) d (omega (arith, low))
set-at P (y ∷ xs) (suc i) x had new zero d low = had zero d (omega arith)
set-at P (y ∷ xs) (suc i) x had new (suc k) d low =
    set-at (λ (j : ℕ). P (suc j)) xs i x (λ j e less. had (suc j) e (omega (arith, less))) new k d (omega (arith, low))

-- what is said of each place of a list is said of the images
pub all-images : {A B : Type 0} (Q : B → Type 0) (f : A → B) (xs : List A) → ((k : ℕ) (d : A) → k < length xs → Q (f (get_or xs k d)))
    → All Q (map f xs)
all-images Q f xs had = All-map Q f xs (λ k d low. had k d low)

-- each number below the length is the image of a place
pub has-images : {A : Type 0} (f : A → ℕ) (xs : List A) → ((k : ℕ) (d : A) → k < length xs → f (get_or xs k d) ≡ k) → (n : ℕ) → n < length xs
    → Contains (map f xs) n
has-images f xs each n low =
    let d = one_of xs n low in
    subst (Contains (map f xs)) (each n d low) (has_map f xs (get_or xs n d) (Contains-get_or xs n d low))

-- to map by f and then by g is to map by f followed by g
pub map_twice : {A B C : Type 0} (g : B → C) (f : A → B) (xs : List A) → map g (map f xs) ≡ map (λ x. g (f x)) xs
map_twice g f [] = refl
map_twice g f (x ∷ xs) = let rest = map_twice g f xs in λ i. g (f x) ∷ rest i

-- elements that are chosen after they were made of others
pub filtered : {A B : Type 0} (test : B → Bool) (before : A → Bool) (f : A → B) → ((x : A) → test (f x) ≡ before x) → (xs : List A)
    → filter test (map f xs) ≡ map f (filter before xs)
filtered test before f same [] = refl
filtered {A} {B} test before f same (x ∷ xs) =
    let rest = filtered test before f same xs in
    let P : Bool → Type 0 = λ b. cond b (f x ∷ filter test (map f xs)) (filter test (map f xs)) ≡ map f (cond b (x ∷ filter before xs) (filter before xs)) in
    let one : P (before x) = elim (before x) as P [ true ↦ λ i. f x ∷ rest i | false ↦ rest ] in
    ap (λ (b : Bool). cond b (f x ∷ filter test (map f xs)) (filter test (map f xs))) (same x) ∙ one

module _ {A B C : Type 0} (f : A → C) (g : B → C) where
  -- images so far, and those of what is left: one more, and at the end
  pub mapped_more : {all : List C} (xs new : List A) (x : A) (left rest : List B) (y : B) → new ≡ xs ++ x ∷ [] → left ≡ y ∷ rest → f x ≡ g y
      → map f xs ++ map g left ≡ all → map f new ++ map g rest ≡ all
  mapped_more {all} xs new x left rest y more next same was =
      ap (λ (l : List A). map f l ++ map g rest) more
      ∙ (ap (λ (l : List C). l ++ map g rest) (map_push f xs x)
      ∙ (append_assoc (map f xs) (f x ∷ []) (map g rest)
      ∙ (ap (λ (z : C). map f xs ++ z ∷ map g rest) same
      ∙ (ap (λ (l : List B). map f xs ++ map g l) (sym next) ∙ was))))

  -- if nothing is left, the images so far are all of them
  pub mapped_whole : {all : List C} (xs : List A) (left : List B) (n : ℕ) → n ≡ length left → n ≡ 0 → map f xs ++ map g left ≡ all → map f xs ≡ all
  mapped_whole {all} xs left n long none was =
      let nothing : left ≡ [] = nil_from_length left (omega arith) in
      sym (append-nil (map f xs)) ∙ (ap (λ (l : List B). map f xs ++ map g l) (sym nothing) ∙ was)

-- images so far, and what is left
pub mapped_on : {A C : Type 0} (f : A → C) {all : List C} (xs new : List A) (x : A) (left rest : List C) (y : C) → new ≡ xs ++ x ∷ []
    → left ≡ y ∷ rest → f x ≡ y → map f xs ++ left ≡ all → map f new ++ rest ≡ all
mapped_on {A} {C} f {all} xs new x left rest y more next same was =
    ap (λ (l : List A). map f l ++ rest) more
    ∙ (ap (λ (l : List C). l ++ rest) (map_push f xs x)
    ∙ (append_assoc (map f xs) (f x ∷ []) rest
    ∙ (ap (λ (z : C). map f xs ++ z ∷ rest) same
    ∙ (ap (λ (l : List C). map f xs ++ l) (sym next) ∙ was))))
