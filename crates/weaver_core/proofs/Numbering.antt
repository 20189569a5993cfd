-- The requests of a session, counted up to a number.
-- Used by `requests_of`.
use Rattle.std.proofs.Common.{◌≡◌, ℕ, ◌+◌, Bool, cond, List, [], ◌∷◌, ◌++◌, sym, ap, ◌∙◌, Some, arith}
use Rattle.std.specs.Prelude.{filter, ◌==◌}
use Rattle.std.specs.List.{range_with_len}
use Rattle.std.proofs.lemmas.List.{map-id}
use Rattle.std.proofs.lemmas.List.FromFn.{filter_of_map_range_with_len_more}
use Rattle.program_defs.specs.declared.script.Request.{Request}
use Rattle.program_defs.specs.declared.script.Script.{Script}
use Rattle.report_rules.specs.Lookups.{is_some_and, request_at}

-- the request is of this session
abbrev pub is_of_session : Script → ℕ → ℕ → Bool
is_of_session script session r = is_some_and (λ (request : Request). request.session == session) (request_at script r)

-- the numbers below n + 1 that pass
pub one-more-number : (p : ℕ → Bool) (n : ℕ) → filter p (range_with_len 0 (n + 1)) ≡ filter p (range_with_len 0 n) ++ cond (p n) (n ∷ []) []
one-more-number p n =
    ap (filter p) (sym (map-id (range_with_len 0 (n + 1)))) ∙ filter_of_map_range_with_len_more p (λ (x : ℕ). x) 0 n n (omega arith)
    ∙ ap (λ (xs : List ℕ). filter p xs ++ cond (p n) (n ∷ []) []) (map-id (range_with_len 0 n))

-- if the requests of a session below r were found, then with r, if it is of the session, those below r + 1 are
pub looked-at : (script : Script) (session r : ℕ) (request : Request) (found then_found : List ℕ) (b : Bool) → request_at script r ≡ Some request → (request.session == session) ≡ b
    → found ≡ filter (is_of_session script session) (range_with_len 0 r) → then_found ≡ found ++ cond b (r ∷ []) []
    → then_found ≡ filter (is_of_session script session) (range_with_len 0 (r + 1))
looked-at script session r request found then_found b at test is then_is =
    let passes : is_of_session script session r ≡ b = ap (is_some_and (λ (x : Request). x.session == session)) at ∙ test in
    then_is ∙ ap (λ (xs : List ℕ). xs ++ cond b (r ∷ []) []) is ∙ ap (λ (t : Bool). filter (is_of_session script session) (range_with_len 0 r) ++ cond t (r ∷ []) []) (sym passes)
    ∙ sym (one-more-number (is_of_session script session) r)
