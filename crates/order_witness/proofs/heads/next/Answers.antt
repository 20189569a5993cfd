use Rattle.std.proofs.Common.{◌≡◌, ◌∙◌, ℕ, List, IsTrue, sym, ap, subst, arith}
use Rattle.std.specs.List.{filter}
use Rattle.report_rules.specs.Lookups.{is_in}
use Rattle.order_witness.specs.Begun.{is_request_before}
use Rattle.order_witness.specs.Choices.{IsBest}
use Rattle.order_witness.specs.Heads.{is_ready, AreWaiting}
use Rattle.order_witness.proofs.Cutting.{at_left, waiting_on}
use Rattle.order_witness.proofs.Leading.{best_left}
use Rattle.order_witness.proofs.Strict.{IsStrict}
use Rattle.order_witness.proofs.heads.next.Goals as goal

pub returns-clause-best : goal.returns-clause-best
returns-clause-best c =
    let strict : IsStrict = record { irreflexive = c.stamps_are_ordered.ensures.irreflexive; transitive = c.stamps_are_ordered.ensures.transitive } in
    let report = c.args.report.now in
    let line : List ℕ = c.args.line.now in
    let befores = c.args.befores.now in
    let done = c.args.done.now in
    let runs = c.advance.new.runs in
    let seen = c.see.new.seen in
    let firsts = c.in_ok-firsts.firsts.items in
    let waiting : AreWaiting report line befores runs seen done = waiting_on report line befores c.args.runs.now runs c.args.seen.now seen done c.requires.waiting c.advance.ensures.size c.advance.ensures.each c.see.ensures.size (c.see.ensures.seen c.requires.waiting.seen_done) in
    let ready : c.in_ok-ready.ready.items ≡ filter (is_ready befores seen) firsts = c.in_ok-ready.ensures ∙ ap (filter (is_ready befores seen)) c.as_slice-2.ensures.value in
    let best : IsBest report (is_request_before report) firsts (filter (is_ready befores seen) firsts) c.best_of.result =
    subst (λ (xs : List ℕ). IsBest report (is_request_before report) firsts xs c.best_of.result) (c.as_slice-4.ensures.value ∙ ready)
    (subst (λ (xs : List ℕ). IsBest report (is_request_before report) xs c.as_slice-4.result.now c.best_of.result) c.as_slice-3.ensures.value c.best_of.ensures) in
    best_left report strict c.args.script.now c.requires.replies c.precedence_is_decided.ensures.tested c.precedence_is_decided.ensures.closed line befores runs seen done waiting firsts c.in_ok-firsts.ensures
    (at_left report line befores c.args.runs.now runs c.args.seen.now seen done c.requires.waiting c.advance.ensures.size c.advance.ensures.each)
    (λ r there within. c.see.ensures.is_left r (subst (λ (xs : List ℕ). IsTrue (is_in r xs)) (sym c.as_slice.ensures.value) there) (omega (arith, within, c.see.ensures.size)))
    c.best_of.result best
