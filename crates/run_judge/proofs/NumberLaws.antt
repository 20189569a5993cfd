-- The phases of requests, the greatest numbers of earlier phases, and the latest phases in chains.
-- Used by `begun_to`, `greatest_before`, `peaks_in`, `with_value` and PhaseLaws.
use Rattle.std.proofs.Common.{◌≡◌, ℕ, zero, suc, ◌+◌, ◌-◌, ◌<◌, ◌≤◌, Bool, true, false, cond, eqb, leb, ltb, List, [], ◌∷◌, ◌++◌, length, Option, Some, None, ◌⊎◌, inl, inr, refl, sym, ap, ◌∙◌, subst, arith}
use Rattle.std.specs.Prelude.{count_by, nat_le}
use Rattle.std.proofs.lemmas.Bool.{cases_eq, cases_lt, cases_order, eq-eqb, ne_eqb, le-leb, le-ltb, lt-leb, lt-ltb}
use Rattle.std.proofs.lemmas.List.{get_or_append_left}
use Rattle.std.proofs.lemmas.Option.{same_Some}
use Rattle.std.proofs.lemmas.List.Sums.{count_by-le-length, sum_by-append, sum_by_push}
use Rattle.std.proofs.Math.Seq.{get_or-append_seam}
use Rattle.order_witness.specs.Heads.{item}
use Rattle.run_judge.specs.declared.phase_numbers.Numbered.{Numbered}
use Rattle.run_judge.specs.Numbers.{AreGreatest, HasBefore, HasEarlier, IsGreaterOf, IsGreatest, IsPeak, NeverFall, greatest_at, number_at}

-- The greatest of some numbers

module _ (Has More : ℕ → ℕ → Type 0) where
  -- the greatest stays if the numbers are the same
  pub same_greatest : (o : Option Numbered) → ((r n : ℕ) → Has r n → More r n) → ((r n : ℕ) → More r n → Has r n) → IsGreatest Has o → IsGreatest More o
  same_greatest None there back h = λ r n more. h r n (back r n more)
  same_greatest (Some found) there back h = (there found.request found.number h.0, λ r n more. h.1 r n (back r n more))

  -- one number more, that isn't greater
  pub no_greater : (found : Numbered) (request number : ℕ) → ((r n : ℕ) → Has r n → More r n) → ((r n : ℕ) → More r n → Has r n ⊎ (n ≡ number)) → number ≤ found.number → IsGreatest Has (Some found) → IsGreatest More (Some found)
  no_greater found request number there back most h = (there found.request found.number h.0, λ r n more. elim (back r n more) [ inl was ↦ h.1 r n was | inr same ↦ omega (arith, same, most) ])

  -- or that is
  pub greater_one : (o : Option Numbered) (request number : ℕ) → More request number → ((r n : ℕ) → More r n → Has r n ⊎ (n ≡ number)) → ((found : Numbered) → o ≡ Some found → found.number ≤ number) → IsGreatest Has o → IsGreatest More (Some (record { request = request; number = number }))
  greater_one None request number here back most h = (here, λ r n more. elim (back r n more) [ inl was ↦ absurd (h r n was) | inr same ↦ omega (arith, same) ])
  greater_one (Some found) request number here back most h =
      let below = most found refl in
      (here, λ r n more. elim (back r n more) [ inl was ↦ (let its = h.1 r n was in omega (arith, its, below)) | inr same ↦ omega (arith, same) ])

-- A walk over the requests

module _ (values : List (Option ℕ)) (phases : List ℕ) (never : NeverFall phases (length values)) where
  -- before the first one there is none
  pub none_before : IsGreatest (HasBefore values 0) None
  none_before r n has = let less = has.0 in omega (arith, less)

  -- and none of an earlier phase
  pub none_earlier : IsGreatest (HasEarlier values phases 0) None
  none_earlier r n has =
      let less = has.1 in
      let most = never 0 r (omega arith) has.0 in
      omega (arith, less, most)

  -- in a new phase all before are of earlier ones
  pub all_earlier : (place : ℕ) (all : Option Numbered) → 0 < place → place < length values → item phases (place - 1) < item phases place → IsGreatest (HasBefore values place) all → IsGreatest (HasEarlier values phases place) all
  all_earlier place all some within rises h =
      same_greatest (HasBefore values place) (HasEarlier values phases place) all
      (λ r n has.
      let less = has.0 in
      let most = never r (place - 1) (omega (arith, less)) (omega (arith, within)) in
      (omega (arith, less, within), omega (arith, most, rises), has.1))
      (λ r n has.
      let less = has.1 in
      (elim (cases_lt r place) [ inl before ↦ before | inr past ↦ absurd (let most = never place r past has.0 in omega (arith, most, less)) ], has.2))
      h

  -- and else they are those of the place before
  pub same_earlier : (place : ℕ) (earlier : Option Numbered) → 0 < place → place < length values → item phases place ≤ item phases (place - 1) → IsGreatest (HasEarlier values phases (place - 1)) earlier → IsGreatest (HasEarlier values phases place) earlier
  same_earlier place earlier some within level h =
      let most = never (place - 1) place (omega arith) within in
      same_greatest (HasEarlier values phases (place - 1)) (HasEarlier values phases place) earlier
      (λ r n has. let less = has.1 in (has.0, omega (arith, less, level, most), has.2))
      (λ r n has. let less = has.1 in (has.0, omega (arith, less, level, most), has.2)) h

-- one place more
pub before_more : (values : List (Option ℕ)) (place r n : ℕ) → HasBefore values place r n → HasBefore values (place + 1) r n
before_more values place r n has = (let less = has.0 in omega (arith, less), has.1)

-- what has a number before the next place has it before this one, or is here
pub before_or_here : (values : List (Option ℕ)) (place r n : ℕ) → HasBefore values (place + 1) r n → HasBefore values place r n ⊎ (number_at values place ≡ Some n)
before_or_here values place r n has =
    elim (cases_eq r place) [
      | inl same ↦ inr (sym (ap (number_at values) same) ∙ has.1)
      | inr other ↦ inl (let less = has.0 in omega (arith, less, other), has.1)
    ]

-- one more of the list has its greatest
pub greatest_more : (values : List (Option ℕ)) (phases : List ℕ) (place : ℕ) (greatest : List (Option Numbered)) (earlier : Option Numbered) → length greatest ≡ place → IsGreatest (HasEarlier values phases place) earlier → AreGreatest values phases place greatest → AreGreatest values phases (place + 1) (greatest ++ earlier ∷ [])
greatest_more values phases place greatest earlier size here so_far k less =
    elim (cases_lt k place) [
      | inl before ↦ subst (IsGreatest (HasEarlier values phases k)) (sym (get_or_append_left greatest (earlier ∷ []) None k (omega (arith, before, size)))) (so_far k before)
      | inr past ↦
          let last : k ≡ place = omega (arith, less, past) in
          let at : greatest_at (greatest ++ earlier ∷ []) k ≡ earlier = ap (greatest_at (greatest ++ earlier ∷ [])) (last ∙ sym size) ∙ get_or-append_seam greatest earlier [] None in
          subst (IsGreatest (HasEarlier values phases k)) (sym at) (subst (λ n. IsGreatest (HasEarlier values phases n) earlier) (sym last) here)
    ]

-- Phases

-- one more to count
count_cons : (test : ℕ → Bool) (p : ℕ) (phases : List ℕ) → count_by test (p ∷ phases) ≡ cond {A = ℕ} (test p) 1 0 + count_by test phases
count_cons test p phases =
    let joined : count_by test (p ∷ phases) ≡ count_by test (p ∷ []) + count_by test phases = sum_by-append (λ x. cond (test x) 1 0) (p ∷ []) phases in
    let one : count_by test (p ∷ []) ≡ 0 + cond {A = ℕ} (test p) 1 0 = sum_by_push (λ x. cond (test x) 1 0) [] p in
    omega (arith, joined, one)

-- how many phases begin before a request
abbrev pub begun_before : List ℕ → ℕ → ℕ
begun_before phases r = count_by (λ before. ltb before r) phases

-- none begins before the first request
pub none_before_first : (phases : List ℕ) → begun_before phases 0 ≡ 0
none_before_first [] = refl
none_before_first (p ∷ phases) =
    let first : cond {A = ℕ} (ltb p 0) 1 0 ≡ 0 = ap (λ (b : Bool). cond {A = ℕ} b 1 0) (le-ltb p 0 (omega arith)) in
    let cons = count_cons (λ before. ltb before 0) p phases in
    let rest = none_before_first phases in
    omega (arith, first, cons, rest)

-- no more than there are
pub begun_within : (phases : List ℕ) (r : ℕ) → begun_before phases r ≤ length phases
begun_within phases r = count_by-le-length (λ before. ltb before r) phases

-- one test more of a number
one_more : (p r : ℕ) → cond {A = ℕ} (ltb p (r + 1)) 1 0 ≡ cond {A = ℕ} (ltb p r) 1 0 + cond {A = ℕ} (eqb p r) 1 0
one_more p r = of_order (cases_order p r)
  where
    number : (b c : Bool) → b ≡ c → cond {A = ℕ} b 1 0 ≡ cond {A = ℕ} c 1 0
    number b c e = ap (λ (x : Bool). cond {A = ℕ} x 1 0) e

    of_order : (p ≡ r) ⊎ ((p < r) ⊎ (r < p)) → cond {A = ℕ} (ltb p (r + 1)) 1 0 ≡ cond {A = ℕ} (ltb p r) 1 0 + cond {A = ℕ} (eqb p r) 1 0
    of_order (inl same) =
        let a : cond {A = ℕ} (ltb p (r + 1)) 1 0 ≡ 1 = number (ltb p (r + 1)) true (lt-ltb p (r + 1) (omega (arith, same))) in
        let b : cond {A = ℕ} (ltb p r) 1 0 ≡ 0 = number (ltb p r) false (le-ltb p r (omega (arith, same))) in
        let e : cond {A = ℕ} (eqb p r) 1 0 ≡ 1 = number (eqb p r) true (eq-eqb p r same) in
        omega (arith, a, b, e)
    of_order (inr (inl less)) =
        let a : cond {A = ℕ} (ltb p (r + 1)) 1 0 ≡ 1 = number (ltb p (r + 1)) true (lt-ltb p (r + 1) (omega (arith, less))) in
        let b : cond {A = ℕ} (ltb p r) 1 0 ≡ 1 = number (ltb p r) true (lt-ltb p r less) in
        let e : cond {A = ℕ} (eqb p r) 1 0 ≡ 0 = number (eqb p r) false (ne_eqb p r (λ same. omega (arith, same, less))) in
        omega (arith, a, b, e)
    of_order (inr (inr more)) =
        let a : cond {A = ℕ} (ltb p (r + 1)) 1 0 ≡ 0 = number (ltb p (r + 1)) false (le-ltb p (r + 1) (omega (arith, more))) in
        let b : cond {A = ℕ} (ltb p r) 1 0 ≡ 0 = number (ltb p r) false (le-ltb p r (omega (arith, more))) in
        let e : cond {A = ℕ} (eqb p r) 1 0 ≡ 0 = number (eqb p r) false (ne_eqb p r (λ same. omega (arith, same, more))) in
        omega (arith, a, b, e)

-- those that begin before the next one begin before this one, or with it
pub begun_more : (phases : List ℕ) (r : ℕ) → begun_before phases (r + 1) ≡ begun_before phases r + count_by (λ before. eqb before r) phases
begun_more [] r = refl
begun_more (p ∷ phases) r =
    let here = one_more p r in
    let rest = begun_more phases r in
    let next = count_cons (λ before. ltb before (r + 1)) p phases in
    let this = count_cons (λ before. ltb before r) p phases in
    let at = count_cons (λ before. eqb before r) p phases in
    omega (arith, here, rest, next, this, at)

same_test : (p r : ℕ) → ltb p (r + 1) ≡ leb p r
same_test p r =
    elim (cases_lt r p) [
      | inl more ↦ le-ltb p (r + 1) (omega (arith, more)) ∙ sym (lt-leb p r more)
      | inr most ↦ lt-ltb p (r + 1) (omega (arith, most)) ∙ sym (le-leb p r most)
    ]

-- a request's phase is how many begin before the next one
pub phase_is : (phases : List ℕ) (r : ℕ) → begun_before phases (r + 1) ≡ count_by (λ before. nat_le before r) phases
phase_is [] r = refl
phase_is (p ∷ phases) r =
    let test : cond {A = ℕ} (ltb p (r + 1)) 1 0 ≡ cond {A = ℕ} (leb p r) 1 0 = ap (λ (b : Bool). cond {A = ℕ} b 1 0) (same_test p r) in
    let rest = phase_is phases r in
    let next = count_cons (λ before. ltb before (r + 1)) p phases in
    let this = count_cons (λ before. nat_le before r) p phases in
    omega (arith, test, rest, next, this)

-- and phases never fall
pub phases_rise : (phases : List ℕ) (j k : ℕ) → j ≤ k → begun_before phases j ≤ begun_before phases k
phases_rise phases j k most = up phases j (k - j) k (omega (arith, most))
  where
    up : (phases : List ℕ) (j n k : ℕ) → k ≡ j + n → begun_before phases j ≤ begun_before phases k
    up phases j zero k is = (let same : begun_before phases j ≡ begun_before phases k = ap (begun_before phases) (omega (arith, is)) in omega (arith, same))
    up phases j (suc n) k is =
        let below = up phases j n (j + n) refl in
        let step = begun_more phases (j + n) in
        let same : begun_before phases ((j + n) + 1) ≡ begun_before phases k = ap (begun_before phases) (omega (arith, is)) in
        omega (arith, below, step, same)

-- with one phase more, one more begins with its request
pub begins_more : (xs : List ℕ) (x r : ℕ) → count_by (λ before. eqb before r) (xs ++ x ∷ []) ≡ count_by (λ before. eqb before r) xs + cond {A = ℕ} (eqb x r) 1 0
begins_more xs x r = sum_by_push (λ before. cond (eqb before r) 1 0) xs x

-- Peaks

-- at the start of a chain its first request is the latest
pub peak_first : (phases chain : List ℕ) → IsPeak phases chain 0 (item chain 0)
peak_first phases chain = record {
  place = 0;
  within = omega arith;
  event = refl;
  latest = λ i most. (let same : item phases (item chain i) ≡ item phases (item chain 0) = ap (λ n. item phases (item chain n)) (omega (arith, most)) in omega (arith, same));
}

-- with one request more it is the same one, or that
pub peak_more : (phases chain : List ℕ) (place peak next : ℕ) → IsPeak phases chain (place - 1) peak → item phases peak ≤ item phases next → item phases (item chain place) ≤ item phases next → (next ≡ peak) ⊎ (next ≡ item chain place) → IsPeak phases chain place next
peak_more phases chain place peak next old first second one = of_one one
  where
    latest_of : (i : ℕ) → i ≤ place → item phases (item chain i) ≤ item phases next
    latest_of i most =
        elim (cases_eq i place) [
          | inl same ↦ (let at : item phases (item chain i) ≡ item phases (item chain place) = ap (λ n. item phases (item chain n)) same in omega (arith, at, second))
          | inr other ↦ (let below = old.latest i (omega (arith, most, other)) in omega (arith, below, first))
        ]

    of_one : (next ≡ peak) ⊎ (next ≡ item chain place) → IsPeak phases chain place next
    of_one (inl same) = record { place = old.place; within = (let within = old.within in omega (arith, within)); event = old.event ∙ sym same; latest = latest_of }
    of_one (inr here) = record { place = place; within = omega arith; event = sym here; latest = latest_of }

-- the greatest number with that of one place more
pub number_more : (values : List (Option ℕ)) (place number : ℕ) (most after : Option Numbered) → IsGreatest (HasBefore values place) most → number_at values place ≡ Some number → IsGreaterOf most place number after → IsGreatest (HasBefore values (place + 1)) after
number_more values place number most after h is greater =
    elim greater [
      | inl new ↦ subst (IsGreatest (HasBefore values (place + 1))) (sym new.0)
          (greater_one (HasBefore values place) (HasBefore values (place + 1)) most place number (omega arith, is) back new.1 h)
      | inr old ↦ subst (IsGreatest (HasBefore values (place + 1))) (sym old.2)
          (no_greater (HasBefore values place) (HasBefore values (place + 1)) old.0 place number (before_more values place) back old.3 (subst (IsGreatest (HasBefore values place)) old.1 h))
    ]
  where
    back : (r n : ℕ) → HasBefore values (place + 1) r n → HasBefore values place r n ⊎ (n ≡ number)
    back r n has = elim (before_or_here values place r n has) [ inl was ↦ inl was | inr here ↦ inr (same_Some n number (sym here ∙ is)) ]
