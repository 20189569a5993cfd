use Rattle.std.proofs.Common.{length, ap, ◌∙◌, arith}
use Rattle.program_defs.specs.declared.script.Script.{Script}
use Rattle.weaver_top.proofs.Loaded.{loaded-so}
use Rattle.weaver_top.proofs.Tracing.{steps_there}
use Rattle.weaver_top.proofs.load_command.load.Goals as goal

pub traced-requires : goal.traced-requires
traced-requires c = record {
  start = c.requires.start;
  steps = steps_there c.args.core.now.script c.requires.valid;
}

pub drive-requires : goal.drive-requires
drive-requires c =
    let many = ap (λ (s : Script). length s.requests) c.in_ok-traced.ensures.script ∙ c.requires.size in
    omega (arith, many)

pub returns-clause-script : goal.returns-clause-script
returns-clause-script c = c.in_ok-drive.ensures.script ∙ c.in_ok-traced.ensures.script

pub returns-clause-loaded : goal.returns-clause-loaded
returns-clause-loaded c =
    let many = ap (λ (s : Script). length s.requests) c.in_ok-traced.ensures.script ∙ c.requires.size in
    loaded-so c.the_crates_below_keep_their_laws.ensures _ _ _ _ _ _ c.args.size c.in_ok-traced.ensures.script c.in_ok-drive.ensures.script c.in_ok-traced.ensures.state
    c.script.ensures.limits c.script.ensures.core c.in_ok-drive.ensures.driven c.in_ok-drive.ensures.replied c.in_ok-drive.ensures.stays many
