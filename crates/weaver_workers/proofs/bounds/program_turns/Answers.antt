use Rattle.std.proofs.Common.{arith, sym, ◌∙◌}
use Rattle.weaver_workers.proofs.Programs.{no-program, one-program}
use Rattle.weaver_workers.proofs.bounds.program_turns.Goals as goal
use Rattle.weaver_workers.proofs.bounds.program_turns.Goals.{then-is_program, else-is_program}

pub overflow_add-turns : goal.overflow_add-turns
overflow_add-turns c =
    let few = c.loop-request.invariant.few in
    let low = c.loop-request-test.true in
    let most = c.requires in
    omega (arith, few, low, most)

pub loop-request-preserved : goal.loop-request-preserved
loop-request-preserved c =
    let count = c.loop-request.invariant.count in
    let few = c.loop-request.invariant.few in
    let low = c.loop-request-test.true in
    elim c.if-is_program.branch [
      | then-is_program w ↦ (let one = one-program c.args.script.now c.loop-request.request c.args.upto low (sym c.is_program.ensures ∙ w.if-is_program.true) in
          let turns = w.turns-is in
          record { count = omega (arith, count, one, turns); few = omega (arith, few, low, turns) })
      | else-is_program w ↦ (let none = no-program c.args.script.now c.loop-request.request c.args.upto low (sym c.is_program.ensures ∙ w.if-is_program.false) in
          let turns = w.turns-is in
          record { count = omega (arith, count, none, turns); few = omega (arith, few, low, turns) })
    ]
