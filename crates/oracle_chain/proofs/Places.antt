-- The head, the tail and the next live replica, and a replica that is set.
-- Used by AsJudge, Changed, Giving, Growing, Keeping, Knowing, Levelled, SettleCalls and Views.
use Rattle.std.proofs.Common.{◌≡◌, ◌≢◌, ℕ, zero, suc, ◌+◌, ◌<◌, true, false, cond, List, [], ◌∷◌, length, set, Option, Some, None, IsTrue, inl, inr, ◌⊎◌, refl, sym, subst, ◌∙◌, arith, get_or-set_same, get_or-set_other}
use Rattle.std.proofs.lemmas.Bool.{cases_Bool, cases_lt, both_ways, cond-true, cond-false}
use Rattle.std.proofs.lemmas.List.{get_or_past}
use Rattle.std.proofs.lemmas.Option.{none-some, same_Some}
use Rattle.std.proofs.lemmas.List.Sums.{sum_by-cons}
use Rattle.std.specs.Option.{option_map}
use Rattle.oracle_chain.specs.Chain.{ReplicaView, replica_at, is_live, live_count, head_number, number_after, last_number, tail_number, no_replica}

-- a live replica is one of the chain
pub live-within : (rs : List ReplicaView) (i : ℕ) → IsTrue (is_live rs i) → i < length rs
live-within rs i live = elim (cases_lt i (length rs)) [
  | inl below ↦ below
  | inr over ↦ absurd (both_ways false refl (subst (λ (r : ReplicaView). IsTrue r.live) (get_or_past rs i no_replica over) live))
]

-- the replica that is set
pub set-here : (rs : List ReplicaView) (i : ℕ) (r : ReplicaView) → i < length rs → replica_at (set rs i r) i ≡ r
set-here rs i r within = get_or-set_same rs i r no_replica within

-- and another one
pub set-other : (rs : List ReplicaView) (i j : ℕ) (r : ReplicaView) → j ≢ i → replica_at (set rs i r) j ≡ replica_at rs j
set-other rs i j r other = get_or-set_other rs i j r no_replica other

suc-map : (o : Option ℕ) (n : ℕ) → option_map suc o ≡ Some n → (m : ℕ) × (o ≡ Some m) × (n ≡ suc m)
suc-map None n h = absurd (none-some n h)
suc-map (Some m) n h = (m, refl, sym (same_Some (suc m) n h))

map-none : (o : Option ℕ) → option_map suc o ≡ None → o ≡ None
map-none None h = refl
map-none (Some m) h = absurd (none-some (suc m) (sym h))

-- none is live
abbrev pub NoneLive : List ReplicaView → Type 0
NoneLive rs = (k : ℕ) → ¬ IsTrue (is_live rs k)

-- the first of a list, or one of the rest
none-cons : (r : ReplicaView) (rs : List ReplicaView) → r.live ≡ false → NoneLive rs → NoneLive (r ∷ rs)
none-cons r rs stopped none zero h = both_ways r.live stopped h
none-cons r rs stopped none (suc k) h = none k h

-- an empty list has no live one
none-empty : NoneLive []
none-empty k h = both_ways false refl (subst (λ (r : ReplicaView). IsTrue r.live) (get_or_past [] k no_replica (omega arith)) h)

-- if there is no head, none is live
pub no-head : (rs : List ReplicaView) → head_number rs ≡ None → NoneLive rs
no-head [] e = none-empty
no-head (r ∷ rs) e = at (cases_Bool r.live) (no-head rs)
  where
    at : (r.live ≡ true) ⊎ (r.live ≡ false) → (head_number rs ≡ None → NoneLive rs) → NoneLive (r ∷ rs)
    at (inl live) rest = absurd (none-some 0 (sym e ∙ cond-true _ _ _ live))
    at (inr stopped) rest = none-cons r rs stopped (rest (map-none (head_number rs) (sym (cond-false _ _ _ stopped) ∙ e)))

-- the head is live, and none before it
pub head-first : (rs : List ReplicaView) (h : ℕ) → head_number rs ≡ Some h → IsTrue (is_live rs h) × ((k : ℕ) → k < h → ¬ IsTrue (is_live rs k))
head-first [] h e = absurd (none-some h e)
head-first (r ∷ rs) h e = at (cases_Bool r.live) (head-first rs)
  where
    before : r.live ≡ false → (m : ℕ) → ((k : ℕ) → k < m → ¬ IsTrue (is_live rs k)) → (k : ℕ) → k < suc m → ¬ IsTrue (is_live (r ∷ rs) k)
    before stopped m rest zero below live = both_ways r.live stopped live
    before stopped m rest (suc k) below live = rest k (omega (arith, below)) live

    at : (r.live ≡ true) ⊎ (r.live ≡ false) → ((m : ℕ) → head_number rs ≡ Some m → IsTrue (is_live rs m) × ((k : ℕ) → k < m → ¬ IsTrue (is_live rs k))) → IsTrue (is_live (r ∷ rs) h) × ((k : ℕ) → k < h → ¬ IsTrue (is_live (r ∷ rs) k))
    at (inl live) onward =
        let here : 0 ≡ h = same_Some 0 h (sym (cond-true _ _ _ live) ∙ e) in
        subst (λ n. IsTrue (is_live (r ∷ rs) n) × ((k : ℕ) → k < n → ¬ IsTrue (is_live (r ∷ rs) k))) here (live, λ k below. absurd (omega (arith, below)))
    at (inr stopped) onward =
        let from = suc-map (head_number rs) h (sym (cond-false _ _ _ stopped) ∙ e) in
        let rest = onward from.0 from.1 in
        subst (λ n. IsTrue (is_live (r ∷ rs) n) × ((k : ℕ) → k < n → ¬ IsTrue (is_live (r ∷ rs) k))) (sym from.2) (rest.0, before stopped from.0 rest.1)

-- what comes next is live, after the replica, and none between is live
abbrev pub IsNext : List ReplicaView → ℕ → ℕ → Type 0
IsNext rs i n = (i < n) × IsTrue (is_live rs n) × ((k : ℕ) → i < k → k < n → ¬ IsTrue (is_live rs k))

next-cons : (r : ReplicaView) (rs : List ReplicaView) (m : ℕ) → IsTrue (is_live rs m) × ((k : ℕ) → k < m → ¬ IsTrue (is_live rs k)) → IsNext (r ∷ rs) 0 (suc m)
next-cons r rs m h = (omega arith, h.0, between)
  where
    between : (k : ℕ) → 0 < k → k < suc m → ¬ IsTrue (is_live (r ∷ rs) k)
    between zero after below live = absurd (omega (arith, after))
    between (suc k) after below live = h.1 k (omega (arith, below)) live

next-suc : (r : ReplicaView) (rs : List ReplicaView) (i m : ℕ) → IsNext rs i m → IsNext (r ∷ rs) (suc i) (suc m)
next-suc r rs i m h = (let b = h.0 in omega (arith, b), h.1, between)
  where
    between : (k : ℕ) → suc i < k → k < suc m → ¬ IsTrue (is_live (r ∷ rs) k)
    between zero after below live = absurd (omega (arith, after))
    between (suc k) after below live = h.2 k (omega (arith, after)) (omega (arith, below)) live

-- what is found comes next
pub next-is : (rs : List ReplicaView) (i n : ℕ) → number_after rs i ≡ Some n → IsNext rs i n
next-is [] i n e = absurd (none-some n e)
next-is (r ∷ rs) zero n e =
    let from = suc-map (head_number rs) n e in
    subst (λ k. IsNext (r ∷ rs) 0 k) (sym from.2) (next-cons r rs from.0 (head-first rs from.0 from.1))
next-is (r ∷ rs) (suc i) n e =
    let from = suc-map (number_after rs i) n e in
    subst (λ k. IsNext (r ∷ rs) (suc i) k) (sym from.2) (next-suc r rs i from.0 (next-is rs i from.0 from.1))

-- if there is no tail, none is live
pub no-tail : (rs : List ReplicaView) → tail_number rs ≡ None → NoneLive rs
no-tail [] e = none-empty
no-tail (r ∷ rs) e = at (tail_number rs) refl e (no-tail rs)
  where
    at : (o : Option ℕ) → tail_number rs ≡ o → last_number r o ≡ None → (tail_number rs ≡ None → NoneLive rs) → NoneLive (r ∷ rs)
    at (Some t) is last rest = absurd (none-some (suc t) (sym last))
    at None is last rest = elim (cases_Bool r.live) [
      | inl live ↦ absurd (none-some 0 (sym last ∙ cond-true _ _ _ live))
      | inr stopped ↦ none-cons r rs stopped (rest is)
    ]

-- the tail is live, and none after it
abbrev pub IsTail : List ReplicaView → ℕ → Type 0
IsTail rs t = IsTrue (is_live rs t) × ((k : ℕ) → t < k → ¬ IsTrue (is_live rs k))

-- what is found is the tail
pub tail-last : (rs : List ReplicaView) (t : ℕ) → tail_number rs ≡ Some t → IsTail rs t
tail-last [] t e = absurd (none-some t e)
tail-last (r ∷ rs) t e = at (tail_number rs) refl e (tail-last rs)
  where
    later : (m : ℕ) → ((k : ℕ) → m < k → ¬ IsTrue (is_live rs k)) → (k : ℕ) → suc m < k → ¬ IsTrue (is_live (r ∷ rs) k)
    later m rest zero after live = absurd (omega (arith, after))
    later m rest (suc k) after live = rest k (omega (arith, after)) live

    all : NoneLive rs → (k : ℕ) → 0 < k → ¬ IsTrue (is_live (r ∷ rs) k)
    all none zero after live = absurd (omega (arith, after))
    all none (suc k) after live = none k live

    at : (o : Option ℕ) → tail_number rs ≡ o → last_number r o ≡ Some t → ((m : ℕ) → tail_number rs ≡ Some m → IsTail rs m) → IsTail (r ∷ rs) t
    at (Some m) is last rest = let end = rest m is in subst (λ n. IsTail (r ∷ rs) n) (same_Some (suc m) t last) (end.0, later m end.1)
    at None is last rest = elim (cases_Bool r.live) [
      | inl live ↦ subst (λ n. IsTail (r ∷ rs) n) (same_Some 0 t (sym (cond-true _ _ _ live) ∙ last)) (live, all (no-tail rs is))
      | inr stopped ↦ absurd (none-some t (sym (cond-false _ _ _ stopped) ∙ last))
    ]

abbrev IsZero : ℕ → Type 0
IsZero n = n ≡ 0

abbrev IsOne : ℕ → Type 0
IsOne n = n ≡ 1

-- if none is live, their number is 0
pub none-counted : (rs : List ReplicaView) → NoneLive rs → live_count rs ≡ 0
none-counted [] none = refl
none-counted (r ∷ rs) none = elim (cases_Bool r.live) [
  | inl live ↦ absurd (none 0 live)
  | inr stopped ↦ let rest = none-counted rs (λ k. none (suc k)) in let one : IsZero (cond r.live 1 0) = cond-false _ _ _ stopped in sum_by-cons (λ (x : ReplicaView). cond x.live 1 0) r rs ∙ (λ i. one i + rest i)
]

-- if some is live, there is a head
pub some-head : (rs : List ReplicaView) → 0 < live_count rs → (h : ℕ) × (head_number rs ≡ Some h)
some-head rs some = at (head_number rs) refl
  where
    at : (o : Option ℕ) → head_number rs ≡ o → (h : ℕ) × (head_number rs ≡ Some h)
    at (Some h) is = (h, is)
    at None is = let zero-live = none-counted rs (no-head rs is) in absurd (omega (arith, zero-live, some))

-- and a tail
pub some-tail : (rs : List ReplicaView) → 0 < live_count rs → (t : ℕ) × (tail_number rs ≡ Some t)
some-tail rs some = at (tail_number rs) refl
  where
    at : (o : Option ℕ) → tail_number rs ≡ o → (t : ℕ) × (tail_number rs ≡ Some t)
    at (Some t) is = (t, is)
    at None is = let zero-live = none-counted rs (no-tail rs is) in absurd (omega (arith, zero-live, some))

-- if one is live, their number is not 0
pub live-counted : (rs : List ReplicaView) (k : ℕ) → IsTrue (is_live rs k) → 0 < live_count rs
live-counted [] k live = absurd (none-empty k live)
live-counted (r ∷ rs) zero live =
    let one : IsOne (cond r.live 1 0) = cond-true _ _ _ live in
    let many = sum_by-cons (λ (x : ReplicaView). cond x.live 1 0) r rs in
    omega (arith, one, many)
live-counted (r ∷ rs) (suc k) live =
    let rest = live-counted rs k live in
    let many = sum_by-cons (λ (x : ReplicaView). cond x.live 1 0) r rs in
    omega (arith, rest, many)
