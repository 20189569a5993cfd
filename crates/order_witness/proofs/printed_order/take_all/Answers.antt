use Rattle.std.proofs.Common.{◌∷◌, ◌++◌, [], ◌<◌, true, ℕ, List, length, sym, ◌∙◌, subst}
use Rattle.std.specs.Prelude.{slice_set}
use Rattle.std.proofs.lemmas.List.{length-set}
use Rattle.report_rules.specs.PrintedOrder.{begun_requests}
use Rattle.order_witness.specs.Begun.{request_precedes}
use Rattle.order_witness.specs.Choices.{IsBest}
use Rattle.order_witness.specs.Heads.{requests_left}
use Rattle.order_witness.proofs.Printing.{AreTaken, shorter, taken_more}
use Rattle.order_witness.proofs.Taking.{all_done, best_inside, in_the_end, left_then, next_is, not_in_the_end, waiting_then}
use Rattle.order_witness.proofs.printed_order.take_all.Goals as goal

pub bounds-done-request : goal.bounds-done-request
bounds-done-request c =
    best_inside c.args.script.now c.args.report.now c.requires.replies c.precedence_is_decided.ensures.tested c.precedence_is_decided.ensures.closed c.loop-turns.done c.in-Some.request
    (subst (IsBest c.args.report.now (request_precedes c.args.report.now) (requests_left c.args.report.now c.loop-turns.done) (requests_left c.args.report.now c.loop-turns.done)) c.in-Some.is c.in_ok-request.ensures.best) c.loop-turns.invariant.size

pub loop-turns-smaller : goal.loop-turns-smaller
loop-turns-smaller c =
    let report = c.args.report.now in
    let chosen = subst (IsBest report (request_precedes report) (requests_left report c.loop-turns.done) (requests_left report c.loop-turns.done)) c.in-Some.is c.in_ok-request.ensures.best in
    subst (λ (xs : List ℕ). length xs < length (requests_left report c.loop-turns.done))
    (left_then c.args.script.now report c.requires.replies c.precedence_is_decided.ensures.tested c.precedence_is_decided.ensures.closed c.loop-turns.done c.in-Some.request chosen c.loop-turns.invariant.size)
    (shorter c.in-Some.request (requests_left report c.loop-turns.done) chosen.0)

pub loop-turns-preserved : goal.loop-turns-preserved
loop-turns-preserved c =
    let script = c.args.script.now in
    let report = c.args.report.now in
    let done = c.loop-turns.done in
    let request = c.in-Some.request in
    let decided = c.precedence_is_decided.ensures.tested in
    let all_closed = c.precedence_is_decided.ensures.closed in
    let size = c.loop-turns.invariant.size in
    let taken : List ℕ = c.loop-turns.turns.items in
    let chosen = subst (IsBest report (request_precedes report) (requests_left report done) (requests_left report done)) c.in-Some.is c.in_ok-request.ensures.best in
    record {
      waiting = waiting_then script report c.requires.replies decided all_closed done request chosen size c.args.line.now c.args.befores.now c.next.new.runs c.next.new.seen c.next.ensures.waiting;
      size = length-set done request _ ∙ size;
      in_turn =
          subst (λ (xs : List ℕ). AreTaken report (begun_requests report) xs (requests_left report (slice_set done request true))) (sym c.in_ok-push.ensures.items)
          (subst (AreTaken report (begun_requests report) (taken ++ request ∷ [])) (left_then script report c.requires.replies decided all_closed done request chosen size)
          (taken_more report (begun_requests report) taken (requests_left report done) request c.loop-turns.invariant.in_turn (next_is script report c.requires.replies decided all_closed done request chosen size)));
    }

pub returns-then-not-are_done : goal.returns-then-not-are_done
returns-then-not-are_done c =
    let report = c.args.report.now in
    let done = c.loop-turns.done in
    not_in_the_end c.args.script.now report c.requires.replies c.precedence_is_decided.ensures.tested c.precedence_is_decided.ensures.closed done c.loop-turns.invariant.waiting.begun
    (subst (IsBest report (request_precedes report) (requests_left report done) (requests_left report done)) c.in_default.is c.in_ok-request.ensures.best)
    (λ all. cc)

pub returns : goal.returns
returns c =
    in_the_end c.args.script.now c.args.report.now c.requires.replies c.precedence_is_decided.ensures.tested c.precedence_is_decided.ensures.closed c.loop-turns.done c.loop-turns.turns.items
    c.loop-turns.invariant.in_turn (all_done c.loop-turns.done (sym c.are_done.ensures ∙ c.if-not-are_done.false))
