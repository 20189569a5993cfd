use Rattle.std.proofs.Common.{◌≡◌, refl, sym, ap, subst, arith}
use Rattle.step_rules.specs.CoreState.{CoreState}
use Rattle.weaver_workers.specs.Phases.{phase_start}
use Rattle.weaver_top.specs.ByWorkers.{AreRunByWorkers}
use Rattle.weaver_top.specs.PhaseByPhase.{IsRunUpTo}
use Rattle.weaver_top.proofs.PhaseEnds.{started}
use Rattle.weaver_top.proofs.on_threads.end_phases.Goals as goal

pub loop-phase-init : goal.loop-phase-init
loop-phase-init g c = record {
  script = refl;
  run = subst (λ (s : CoreState). IsRunUpTo c.args.core.script 0 0 s.account) (sym c.requires.start)
      (started c.args.core.script (c.the_crates_below_keep_their_laws.ensures.start c.args.core.script).account);
  workers = ap (λ (s : CoreState). s.account) c.requires.start;
}

pub returns-clause-run : goal.returns-clause-run
returns-clause-run g c =
    let test = c.loop-phase-test.false in
    let most = c.loop-phase.auto.phase-end in
    let same : c.loop-phase.phase ≡ c.args.phases = omega (arith, test, most) in
    subst (λ n. IsRunUpTo c.args.core.script n (phase_start c.args.core.script n) c.loop-phase.core.state.account) same c.loop-phase.invariant.run

pub returns-clause-workers : goal.returns-clause-workers
returns-clause-workers g c =
    let test = c.loop-phase-test.false in
    let most = c.loop-phase.auto.phase-end in
    let same : c.loop-phase.phase ≡ c.args.phases = omega (arith, test, most) in
    subst (λ n. AreRunByWorkers c.args.core.script n c.loop-phase.core.state.account) same c.loop-phase.invariant.workers
