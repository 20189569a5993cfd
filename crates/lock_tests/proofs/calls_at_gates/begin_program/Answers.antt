use Rattle.std.proofs.Common.{List, Contains, refl, subst, sym}
use Rattle.weave_data.proofs.Members.{has_last}
use Rattle.weave_entries.specs.declared.gate_log.GateDeed.TheVariants.{BeganProgram}
use Rattle.weave_entries.specs.declared.gate_log.GateEntry.{GateEntry}
use Rattle.weaver_locks.specs.GateHolds.{gate_entry_by}
use Rattle.lock_tests.proofs.Going.{at-gate, only-hand, program-begun}
use Rattle.lock_tests.proofs.Made.{none-quiet}
use Rattle.lock_tests.proofs.calls_at_gates.begin_program.Goals as goal

pub returns-in-Err-clause-worker : goal.returns-in-Err-clause-worker
returns-in-Err-clause-worker g c =
    let hold = c.in-Err.ensures.hold in
    let old = c.args.me.now.hand in
    let on = at-gate c.args.shared.now old c.begin_program.new.hand c.args.gate hold.0 _ c.in-Err.ensures.hand hold.1 in
    only-hand c.workers_keep_their_laws.ensures c.args.shared.now old c.begin_program.new.hand _ on c.args.me.now refl
    c.requires.worker none-quiet

pub returns-clause-worker : goal.returns-clause-worker
returns-clause-worker g c =
    let hold = c.in-Ok.ensures.hold in
    let old = c.args.me.now.hand in
    let entry : GateEntry = gate_entry_by old (BeganProgram c.args.request c.in-Ok.stamp) in
    let on = at-gate c.args.shared.now old c.begin_program.new.hand c.args.gate hold.0 _ c.in-Ok.ensures.hand hold.1 in
    program-begun c.workers_keep_their_laws.ensures c.args.shared.now old c.begin_program.new.hand _ on c.args.me.now refl
    c.requires.worker (record { home = c.args.gate; request = c.args.request; stamp = c.in-Ok.stamp; vertex = c.args.vertex })
    c.from.result c.from.ensures c.requires.request refl
    (subst (λ (l : List GateEntry). Contains l entry) (sym hold.1.left) (has_last hold.0 entry)) c.in-Ok.ensures.known
