use Rattle.std.proofs.Common.{sym, ap, ◌∙◌, subst}
use Rattle.step_rules.specs.CoreState.{start_state}
use Rattle.weave_script.specs.Scripts.{IsScript}
use Rattle.weaver_top.proofs.load_command.summary_of.Goals as goal

pub start-requires : goal.start-requires
start-requires c = c.scripts_are_small.ensures.limits c.in_ok-script.script c.in_ok-script.ensures.valid

pub summary_of_core-requires : goal.summary_of_core-requires
summary_of_core-requires c =
    let same = sym c.in_ok-core.ensures.script in
    record {
      size = c.requires.1;
      script = c.in_ok-core.ensures.script ∙ c.in_ok-script.ensures.exact;
      valid = subst IsScript same c.in_ok-script.ensures.valid;
      start = c.in_ok-core.ensures.state ∙ ap start_state same;
    }

pub returns : goal.returns
returns c = c.summary_of_core.ensures
