use Rattle.std.proofs.Common.{arith, rules, refl, ◌≡◌}
use Rattle.weaver_workers.proofs.OnlyCarried.{landed-still}
use Rattle.weaver_workers.proofs.There.{all-since-before, gate-on, gate-start, none-told}
use Rattle.weaver_workers.proofs.worker.go_gate.Goals as goal

pub loop-turn-init : goal.loop-turn-init
loop-turn-init g c = record {
  there = gate-start c.args.shared.now c.args.gate c.args.hand.now c.requires.idle.is_hand;
  heard = λ some. absurd (omega (arith, some));
  told = none-told _ _ _ c.in_ok-last.ensures;
}

pub turn_gate-requires-clause-hand : goal.turn_gate-requires-clause-hand
turn_gate-requires-clause-hand g c = c.loop-turn.invariant.there.carries.hand

pub turn_gate-requires-clause-told : goal.turn_gate-requires-clause-told
turn_gate-requires-clause-told g c = c.loop-turn.invariant.told

pub loop-turn-preserved : goal.loop-turn-preserved
loop-turn-preserved g c = record {
  there = gate-on _ _ _ _ _ c.loop-turn.invariant.there c.turn_gate.ensures.there;
  heard = λ some. all-since-before _ _ _ c.args.gate c.args.script.now.gates c.loop-turn.invariant.there.carries.only
      c.in_ok-turn_gate.ensures.heard;
  told = c.in_ok-turn_gate.ensures.told;
}

pub returns : goal.returns
returns g c = record {
  carries = c.loop-turn.invariant.there;
  heard = λ some.
      let all : c.loop-turn.turn ≡ c.turns_of-turn-end.result = search rules in
      let count = c.turns_of-turn-end.ensures in
      let from = c.start_of_phase-from.ensures in
      let upto = c.end_of_phase-upto.ensures in
      c.loop-turn.invariant.heard (omega (arith, some, all, count, from, upto));
  landed = landed-still c.args.hand.now c.loop-turn.hand c.loop-turn.invariant.there.carries.only c.requires.idle.landed;
  ends = refl;
}
