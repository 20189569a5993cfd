use Rattle.std.proofs.Common.{◌≡◌, ◌∷◌, ◌++◌, [], ℕ, Option, inl, inr, sym, ap, ◌∙◌, arith}
use Rattle.std.proofs.lemmas.Bool.{cases_lt}
use Rattle.program_defs.specs.declared.script.Request.{Request}
use Rattle.report_rules.specs.Lookups.{request_at}
use Rattle.order_witness.specs.Rising.{session_entry}
use Rattle.order_witness.proofs.RisingSteps.{entries_more, session_place}
use Rattle.order_witness.proofs.rising.requests_by_session.Goals as goal

pub loop-place-preserved : goal.loop-place-preserved
loop-place-preserved c k request below at =
    let place : ℕ = c.loop-place.place in
    entries_more (λ (one : ℕ × ℕ). one.1) c.loop-place.requests.items (session_entry place (request_at c.args.script.now place)) c.put_request.new.requests.items k
    (c.in_ok-put_request.ensures ∙ ap (λ (o : Option Request). c.loop-place.requests.items ++ session_entry place o) c.request_in.ensures)
    (elim (cases_lt k place) [
      | inl before ↦ inl (c.loop-place.invariant k request before at)
      | inr last ↦
          let same : k ≡ place = omega (arith, below, last) in
          inr (session_place place (request_at c.args.script.now place) request (ap (request_at c.args.script.now) (sym same) ∙ at) ∙ ap (λ n. n ∷ []) (sym same))
    ])

pub returns : goal.returns
returns c k request below at = c.loop-place.invariant k request (omega (arith, below, c.loop-place-test.false)) at
