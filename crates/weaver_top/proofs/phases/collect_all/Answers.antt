use Rattle.std.proofs.Common.{refl, ap, subst, ◌∙◌, arith}
use Rattle.program_defs.specs.declared.script.Script.{Script}
use Rattle.weaver_top.specs.PhaseByPhase.{RunsBelow}
use Rattle.weaver_top.proofs.Onward.{runs-same, runs-through}
use Rattle.weaver_top.proofs.phases.collect_all.Goals as goal

pub loop-shard-init : goal.loop-shard-init
loop-shard-init c = record {
  script = refl;
  runs = λ bound. runs-same c.the_crates_below_keep_their_laws.ensures c.args.core.now.script c.script.ensures.limits bound c.args.core.now.state.account c.script.ensures.core.account;
}

pub collect-requires : goal.collect-requires
collect-requires c =
    let test = c.loop-shard-test.true in
    let at_first = ap (λ (s : Script). s.shards) c.script.ensures.script in
    let still = ap (λ (s : Script). s.shards) c.loop-shard.invariant.script in
    omega (arith, test, at_first, still)

pub loop-shard-preserved : goal.loop-shard-preserved
loop-shard-preserved c =
    let script = c.args.core.now.script in
    let same = c.loop-shard.invariant.script in
    record {
      script = c.in_ok-collect.ensures.script ∙ same;
      runs = λ bound.
          runs-through c.the_crates_below_keep_their_laws.ensures script c.script.ensures.limits bound c.args.core.now.state.account c.loop-shard.core.state.account c.collect.new.core.state.account
          (c.loop-shard.invariant.runs bound)
          (subst (λ (s : Script). RunsBelow s bound c.loop-shard.core.state.account c.collect.new.core.state.account) same (c.in_ok-collect.ensures.runs bound));
    }
