use Rattle.std.proofs.Common.{◌≡◌, ℕ, arith, refl, rules, ◌∙◌, subst}
use Rattle.weaver_workers.specs.Carrying.{HaveHeardBelow}
use Rattle.weaver_workers.proofs.Called.{carries-on, carries-start}
use Rattle.weaver_workers.proofs.Nudged.{one-more-heard, still-all-heard}
use Rattle.weaver_workers.proofs.There.{none-elsewhere, on-any, then-at-shard}
use Rattle.weaver_workers.proofs.nudging.nudge.Goals as goal

pub loop-gate-init : goal.loop-gate-init
loop-gate-init g c = record {
  carries = carries-start c.args.shared.now c.args.hand.now c.requires.hand;
  none = refl;
  heard = λ gate low other. absurd (omega (arith, low));
}

pub nudge_gate-requires-clause-hand : goal.nudge_gate-requires-clause-hand
nudge_gate-requires-clause-hand g c = c.loop-gate.invariant.carries.hand

pub returns-in_err-nudge_gate-clause-carries : goal.returns-in_err-nudge_gate-clause-carries
returns-in_err-nudge_gate-clause-carries g c =
    carries-on _ _ _ _ c.loop-gate.invariant.carries c.nudge_gate.ensures.there.carries

pub returns-in_err-nudge_gate-clause-there : goal.returns-in_err-nudge_gate-clause-there
returns-in_err-nudge_gate-clause-there g c =
    none-elsewhere c.args.hand.now c.nudge_gate.new.hand c.args.shard (c.nudge_gate.ensures.there.there.shards ∙ c.loop-gate.invariant.none)

pub loop-gate-preserved : goal.loop-gate-preserved
loop-gate-preserved g c = record {
  carries = carries-on _ _ _ _ c.loop-gate.invariant.carries c.nudge_gate.ensures.there.carries;
  none = c.nudge_gate.ensures.there.there.shards ∙ c.loop-gate.invariant.none;
  heard = one-more-heard _ _ _ c.args.home c.loop-gate.gate c.loop-gate.invariant.carries.only
      c.nudge_gate.ensures.there.carries.only c.loop-gate.invariant.heard c.in_ok-nudge_gate.ensures.heard;
}

pub turn_shard-requires-clause-hand : goal.turn_shard-requires-clause-hand
turn_shard-requires-clause-hand g c = c.loop-gate.invariant.carries.hand

pub returns-clause-carries : goal.returns-clause-carries
returns-clause-carries g c = carries-on _ _ _ _ c.loop-gate.invariant.carries c.turn_shard.ensures.carries

pub returns-clause-there : goal.returns-clause-there
returns-clause-there g c =
    then-at-shard c.args.hand.now c.loop-gate.hand c.turn_shard.new.hand c.args.shard c.loop-gate.invariant.none c.turn_shard.ensures.there

pub returns-clause-heard : goal.returns-clause-heard
returns-clause-heard g c =
    let all : c.loop-gate.gate ≡ c.args.gates = search rules in
    on-any _ (subst (λ (n : ℕ). HaveHeardBelow n c.args.home c.args.hand.now c.turn_shard.new.hand) all
    (still-all-heard _ _ _ c.args.home c.loop-gate.gate c.loop-gate.invariant.heard c.turn_shard.ensures.carries.only))
