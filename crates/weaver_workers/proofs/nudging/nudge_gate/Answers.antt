use Rattle.std.proofs.Common.{◌≢◌}
use Rattle.weaver_workers.specs.Carrying.{HasHeard}
use Rattle.weaver_workers.proofs.Nudged.{still-heard}
use Rattle.weaver_workers.proofs.There.{gate-on, on-any}
use Rattle.weaver_workers.proofs.nudging.nudge_gate.Goals as goal

pub send_empty-requires-clause-hand : goal.send_empty-requires-clause-hand
send_empty-requires-clause-hand g c = c.tell.ensures.there.carries.hand

pub returns-in_err-tell-clause-there : goal.returns-in_err-tell-clause-there
returns-in_err-tell-clause-there g c = c.tell.ensures.there

pub returns-clause-there : goal.returns-clause-there
returns-clause-there g c = gate-on _ _ _ _ _ c.tell.ensures.there c.send_empty.ensures

pub returns-clause-heard : goal.returns-clause-heard
returns-clause-heard g c =
    let heard : c.args.home ≢ c.args.gate → HasHeard c.args.hand.now c.send_empty.new.hand c.args.gate c.args.home =
    λ other. still-heard _ _ _ c.args.gate c.args.home (c.in_ok-tell.ensures.heard other) c.send_empty.ensures.carries.only in
    on-any c.send_empty.result heard
