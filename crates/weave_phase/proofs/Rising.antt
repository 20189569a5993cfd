-- The sessions of a phase rise, and are among the 64. No other session has a request in it.
-- Used by `run_phase`.
use Rattle.std.proofs.Common.{◌≡◌, ℕ, ◌+◌, ◌-◌, ◌<◌, ◌≤◌, ◌==◌, eq-eqb, List, length, take, drop, get_or, AllPairs, Contains, IsTrue, Some, inl, inr, sym, ap, subst, ◌∙◌, arith}
use Rattle.std.specs.Prelude.{slice_get}
use Rattle.std.specs.List.{range_with_len}
use Rattle.std.proofs.lemmas.Bool.{cases_lt}
use Rattle.std.proofs.lemmas.List.{get_or-drop, get_or-take, length-drop, length-take-le}
use Rattle.std.proofs.lemmas.List.FromFn.{get_or-range_with_len, length-range_with_len}
use Rattle.std.proofs.lemmas.List.Sums.{count_by-le-length, length-filter}
use Rattle.std.proofs.lemmas.Option.{get_or_from_slice_get}
use Rattle.weave_data.proofs.Members.{any_from, filter_has, has_filter}
use Rattle.program_defs.specs.declared.script.Request.{Request}
use Rattle.program_defs.specs.declared.script.Script.{Script}
use Rattle.program_defs.specs.Limits.{IsWithinLimits}
use Rattle.weave_account.proofs.Ready.{has-range, range-pairs}
use Rattle.hands_account.proofs.Places.{pairs-filter}
use Rattle.workers_account.specs.SessionRuns.{HasNoRequest}
use Rattle.weave_phase.specs.Sessions.{has_request, sessions_in}

-- an element at a place from the first number to before the second is among those
between-has : {A : Type 0} (xs : List A) (from upto r : ℕ) (x : A) → slice_get xs r ≡ Some x → from ≤ r → r < upto → upto ≤ length xs
    → Contains (take (upto - from) (drop from xs)) x
between-has xs from upto r x at late low most =
    let rest : length (drop from xs) ≡ length xs - from = length-drop from xs in
    let many : length (take (upto - from) (drop from xs)) ≡ upto - from = length-take-le (upto - from) (drop from xs) (omega (arith, rest, most)) in
    let place : from + (r - from) ≡ r = omega (arith, late) in (
      r - from,
      omega (arith, many, late, low),
      get_or-take (upto - from) (drop from xs) (r - from) x (omega (arith, late, low)) ∙ get_or-drop from xs (r - from) x
          ∙ ap (λ k. get_or xs k x) place ∙ get_or_from_slice_get xs r x x at,
    )

module _ (script : Script) (from upto : ℕ) (sessions : List ℕ) (are : sessions ≡ sessions_in script from upto) where
  -- the sessions with requests in a phase rise
  pub sessions-rise : AllPairs (λ (a b : ℕ). a < b) sessions
  sessions-rise = subst (AllPairs (λ (a b : ℕ). a < b)) (sym are)
      (pairs-filter (λ (a b : ℕ). a < b) (has_request script from upto) (range_with_len 0 64) (range-pairs 0 64))

  -- each of them is less than 64
  pub sessions-few : (session : ℕ) → Contains sessions session → session < 64
  sessions-few session h =
      let place = (filter_has (has_request script from upto) (range_with_len 0 64) session (subst (λ (l : List ℕ). Contains l session) are h)).0 in
      let long = length-range_with_len 0 64 in
      let within = place.1 in
      let low : place.0 < 64 = omega (arith, within, long) in
      let is = get_or-range_with_len 0 64 place.0 session low in
      let same = place.2 in
      let e : session ≡ 0 + place.0 = sym same ∙ is in
      omega (arith, e, low)

  -- there are at most 64 of them
  pub sessions-count : length sessions ≤ 64
  sessions-count =
      let all = range_with_len 0 64 in
      let p = has_request script from upto in
      let most = count_by-le-length p all in
      let long = length-range_with_len 0 64 in
      let is = length-filter p all in
      subst (λ (l : List ℕ). length l ≤ 64) (sym are) (omega (arith, most, long, is))

  -- no other session has a request in the phase
  pub others-idle : IsWithinLimits script → upto ≤ length script.requests → (session : ℕ) → ¬ Contains sessions session → HasNoRequest script from upto session
  others-idle limits most session none r asked at of low =
      elim (cases_lt r from) [
        | inl early ↦ early
        | inr late ↦
            let few : session < 64 = subst (λ (s : ℕ). s < 64) of (limits.sessions r asked at) in
            let passes : IsTrue (has_request script from upto session) =
            any_from (λ (request : Request). request.session == session) (take (upto - from) (drop from script.requests)) asked
            (between-has script.requests from upto r asked at late low most) (eq-eqb asked.session session of) in
            absurd (none (subst (λ (l : List ℕ). Contains l session) (sym are)
            (has_filter (has_request script from upto) (range_with_len 0 64) session (has-range 0 64 session (omega arith) (omega (arith, few))) passes)))
      ]
