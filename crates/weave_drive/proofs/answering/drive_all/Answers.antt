use Rattle.std.proofs.Common.{sym, ap, subst, arith}
use Rattle.std.specs.Prelude.{length}
use Rattle.program_defs.specs.declared.script.Script.{Script}
use Rattle.weave_drive.specs.Progress.{AreAnsweredBelow}
use Rattle.weave_drive.proofs.Driven.{drives-more, drives-through}
use Rattle.weave_drive.proofs.Replied.{answers-all, answers-from, answers-next}
use Rattle.weave_drive.proofs.answering.drive_all.Goals as goal

pub returns-in_err-end_flights-clause-drives : goal.returns-in_err-end_flights-clause-drives
returns-in_err-end_flights-clause-drives c = drives-more 0 c.args.upto (omega arith) c.args.core.now c.end_flights.new.core c.end_flights.ensures.drives

pub loop-request-init : goal.loop-request-init
loop-request-init c =
    answers-from c.args.upto _ c.args.core.now c.end_flights.new.core (drives-more 0 c.args.upto (omega arith) c.args.core.now c.end_flights.new.core c.end_flights.ensures.drives) c.in_ok-end_flights.ensures.quiet c.first_unanswered-first.ensures.replied

pub answer-requires-clause-there : goal.answer-requires-clause-there
answer-requires-clause-there c =
    let test = c.loop-request-test.true in
    let below = c.requires in
    let same = ap (λ (s : Script). length s.requests) c.loop-request.invariant.drives.script_is in
    omega (arith, test, below, same)

pub answer-requires-clause-answered : goal.answer-requires-clause-answered
answer-requires-clause-answered c =
    subst (λ (s : Script). AreAnsweredBelow s c.loop-request.request c.loop-request.core.state.account) (sym c.loop-request.invariant.drives.script_is) c.loop-request.invariant.answered

pub returns-in_err-answer-clause-drives : goal.returns-in_err-answer-clause-drives
returns-in_err-answer-clause-drives c =
    let test = c.loop-request-test.true in
    drives-through c.args.upto c.args.core.now c.loop-request.core c.answer.new.core c.loop-request.invariant.drives (drives-more _ c.args.upto (omega (arith, test)) c.loop-request.core c.answer.new.core c.answer.ensures.drives)

pub loop-request-preserved : goal.loop-request-preserved
loop-request-preserved c =
    let test = c.loop-request-test.true in
    answers-next c.args.upto _ c.args.core.now c.loop-request.core c.answer.new.core _ c.loop-request.invariant (drives-more _ c.args.upto (omega (arith, test)) c.loop-request.core c.answer.new.core c.answer.ensures.drives) c.in_ok-answer.ensures.answered

pub returns-clause-drives : goal.returns-clause-drives
returns-clause-drives c = c.loop-request.invariant.drives

pub returns-clause-replied : goal.returns-clause-replied
returns-clause-replied c =
    let test = c.loop-request-test.false in
    answers-all c.args.upto c.loop-request.request c.args.core.now c.loop-request.core (omega (arith, test)) c.loop-request.invariant
