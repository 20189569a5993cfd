use Rattle.weaver_workers.proofs.There.{gate-on, on-any, still-all-told, still-all-up-to-date}
use Rattle.weaver_workers.proofs.gate_work.turn_gate.Goals as goal

pub send_to_all-requires-clause-hand : goal.send_to_all-requires-clause-hand
send_to_all-requires-clause-hand g c = c.hear_others.ensures.there.carries.hand

pub returns-then-sends-clause-there : goal.returns-then-sends-clause-there
returns-then-sends-clause-there g c = gate-on _ _ _ _ _ c.hear_others.ensures.there c.send_to_all.ensures

pub returns-then-sends-clause-told : goal.returns-then-sends-clause-told
returns-then-sends-clause-told g c =
    on-any _ (still-all-told _ _ c.args.gate _ c.in_ok-hear_others.ensures.told c.send_to_all.ensures.carries.only)

pub returns-then-sends-clause-heard : goal.returns-then-sends-clause-heard
returns-then-sends-clause-heard g c =
    on-any _ (still-all-up-to-date _ _ _ c.args.gate c.args.gates c.in_ok-hear_others.ensures.heard c.send_to_all.ensures.carries.only)
