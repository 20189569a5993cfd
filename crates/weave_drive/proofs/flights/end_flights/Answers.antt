use Rattle.std.proofs.Common.{refl, ap, arith}
use Rattle.program_defs.specs.declared.script.Script.{Script}
use Rattle.weave_drive.proofs.Driven.{drives-core, drives-through}
use Rattle.weave_drive.proofs.Quiet.{ends-all, ends-next, ends-none}
use Rattle.weave_drive.proofs.flights.end_flights.Goals as goal

pub loop-gate-init : goal.loop-gate-init
loop-gate-init c = ends-none c.args.core.now

pub end_flight-requires : goal.end_flight-requires
end_flight-requires c =
    let test = c.loop-gate-test.true in
    let at_first = ap (λ (s : Script). s.gates) c.script.ensures.script in
    let still = ap (λ (s : Script). s.gates) c.loop-gate.invariant.drives.script_is in
    omega (arith, test, at_first, still)

pub returns-in_err-end_flight-clause-drives : goal.returns-in_err-end_flight-clause-drives
returns-in_err-end_flight-clause-drives c = drives-through 0 c.args.core.now c.loop-gate.core c.end_flight.new.core c.loop-gate.invariant.drives c.end_flight.ensures.drives

pub loop-gate-preserved : goal.loop-gate-preserved
loop-gate-preserved c = ends-next c.args.core.now c.loop-gate.core c.end_flight.new.core c.loop-gate.gate _ refl c.loop-gate.invariant c.end_flight.ensures.drives c.in_ok-end_flight.ensures.ends

pub returns-clause-drives : goal.returns-clause-drives
returns-clause-drives c = c.loop-gate.invariant.drives

pub returns-clause-quiet : goal.returns-clause-quiet
returns-clause-quiet c =
    let test = c.loop-gate-test.false in
    let at_first = ap (λ (s : Script). s.gates) c.script.ensures.script in
    ends-all c.args.core.now c.loop-gate.core c.loop-gate.gate (drives-core 0 c.args.core.now c.loop-gate.core c.script.ensures.core c.loop-gate.invariant.drives) (omega (arith, test, at_first)) c.loop-gate.invariant
