use Rattle.std.proofs.Common.{ℕ, ◌++◌, ◌∷◌, [], List, map, take, get_or, sym, ap, ◌∙◌}
use Rattle.std.proofs.lemmas.List.{take_more, map-append}
use Rattle.std.proofs.lemmas.Result.{IfOk-from_err}
use Rattle.order_witness.proofs.rising.second_parts.Goals as goal

abbrev place_of : ℕ × ℕ → ℕ
place_of one = one.1

pub returns-in_err-push : goal.returns-in_err-push
returns-in_err-push c = IfOk-from_err c.from_residual.result _ c.from_residual.ensures.0

pub loop-one-preserved : goal.loop-one-preserved
loop-one-preserved c =
    let requests = c.args.requests.now in
    let i : ℕ = c.loop-one.one-index in
    let one : ℕ × ℕ = get_or requests i (0, 0) in
    c.in_ok-push.ensures.items ∙ ap (λ (places : List ℕ). places ++ place_of one ∷ []) c.loop-one.invariant
    ∙ sym (ap (map place_of) (take_more requests i (0, 0) c.loop-one-test.true) ∙ map-append place_of (take i requests) (one ∷ []))
