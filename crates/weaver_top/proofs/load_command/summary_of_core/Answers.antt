use Rattle.std.proofs.Common.{length, sym, ap, ◌∙◌, subst}
use Rattle.program_defs.specs.declared.script.Script.{Script}
use Rattle.report_rules.specs.RightReport.{IsRightReport}
use Rattle.weave_script.specs.Scripts.{IsScript}
use Rattle.weaver_top.proofs.Loaded.{is-right, told}
use Rattle.weaver_top.proofs.MadeScripts.{requests-made}
use Rattle.weaver_top.proofs.load_command.summary_of_core.Goals as goal

pub load-requires : goal.load-requires
load-requires c = record {
  size = ap (λ (s : Script). length s.requests) c.requires.script ∙ requests-made c.args.seed c.args.size;
  valid = c.requires.valid;
  start = c.requires.start;
}

pub judged_summary-requires : goal.judged_summary-requires
judged_summary-requires c =
    let right = is-right c.the_crates_below_keep_their_laws.ensures _ c.script.ensures.limits _ (c.script.ensures.core).account c.in_ok-load.ensures.loaded _ c.in_ok-report.ensures.report in
    record {
      size = c.requires.size;
      valid = subst IsScript (sym (c.script.ensures.script ∙ c.in_ok-load.ensures.script)) c.requires.valid;
      right = subst (λ s. IsRightReport s c.in_ok-report.report) (sym c.script.ensures.script) right;
    }

pub returns : goal.returns
returns c =
    told c.the_crates_below_keep_their_laws.ensures _ c.script.ensures.limits _ (c.script.ensures.core).account c.in_ok-load.ensures.loaded _ c.in_ok-report.ensures.report
    c.args.seed c.args.size _ (c.in_ok-load.ensures.script ∙ c.requires.script) c.in_ok-text.ensures
