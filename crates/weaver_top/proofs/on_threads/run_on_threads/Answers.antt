use Rattle.std.proofs.Common.{length, sym, ap, ◌∙◌}
use Rattle.program_defs.specs.declared.script.Script.{Script}
use Rattle.weaver_top.proofs.OnThreads.{all-by-workers, whole-on-threads}
use Rattle.weaver_top.proofs.on_threads.run_on_threads.Goals as goal

pub returns-clause-whole : goal.returns-clause-whole
returns-clause-whole g c =
    let count = c.in_ok-phases.ensures.count ∙ ap (λ (s : Script). length s.phases) (sym c.in_ok-core.ensures.script) in
    whole-on-threads c.the_crates_below_keep_their_laws.ensures c.args.script c.in_ok-core.core.script c.in_ok-core-2.core.script (c.scripts_are_small.ensures.limits c.args.script c.requires)
    c.in_ok-core.ensures.script c.in_ok-core-2.ensures.script c.in_ok-phases.phases count c.in_ok-core-2.core.state.account c.in_ok-core-3.core.state.account
    c.in_ok-core-2.ensures.run c.in_ok-core-3.ensures.ends

pub returns-clause-workers : goal.returns-clause-workers
returns-clause-workers g c =
    let count = c.in_ok-phases.ensures.count ∙ ap (λ (s : Script). length s.phases) (sym c.in_ok-core.ensures.script) in
    all-by-workers c.args.script c.in_ok-core.core.script c.in_ok-core-2.core.script c.in_ok-core.ensures.script c.in_ok-core-2.ensures.script c.in_ok-phases.phases count
    c.in_ok-core-2.core.state.account c.in_ok-core-3.core.state.account c.in_ok-core-2.ensures.workers c.in_ok-core-3.ensures.workers
