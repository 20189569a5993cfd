use Rattle.std.proofs.Common.{Err, ap, sym, ◌∙◌}
use Rattle.weave_script.specs.declared.fault.Cause.{Cause}
use Rattle.weave_script.proofs.CheckTexts.{told_by_name, behind_head, both_texts, refused_at}
use Rattle.weave_script.proofs.check.read_check.Goals as goal

pub read_report-requires-clause-told_by_name : goal.read_report-requires-clause-told_by_name
read_report-requires-clause-told_by_name c =
    let is = (c.heads_are_texts.ensures c.args.bytes.now _ c.in_ok-script.ensures.head).of_script in
    told_by_name _ is (c.scripts_are_small.ensures.requests _ is) (c.scripts_are_small.ensures.operations _ is)

pub returns-in-Ok-clause-read : goal.returns-in-Ok-clause-read
returns-in-Ok-clause-read c = behind_head c.args.bytes.now _ _ _ _ c.in_ok-script.ensures.head c.in-Ok.ensures.exact

pub returns-in-Ok-clause-texts : goal.returns-in-Ok-clause-texts
returns-in-Ok-clause-texts c = both_texts c.args.bytes.now _ _ _ (c.heads_are_texts.ensures c.args.bytes.now _ c.in_ok-script.ensures.head) c.in-Ok.ensures.read

pub returns-in-Err-Refused-clause-refused : goal.returns-in-Err-Refused-clause-refused
returns-in-Err-Refused-clause-refused c =
    let at = c.in-Err-Refused in
    behind_head c.args.bytes.now _ _ _ _ c.in_ok-script.ensures.head (refused_at at.field-0 at.line at.cause _ at.field-0-is at.ensures.exact)
    ∙ ap (λ (cause : Cause). Err (record { line = at.line; cause = cause })) (sym c.cause_of.ensures)
