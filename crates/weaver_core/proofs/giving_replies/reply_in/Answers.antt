use Rattle.std.proofs.Common.{List, ap, ◌∙◌}
use Rattle.std.specs.Prelude.{slice_index_or}
use Rattle.program_defs.specs.declared.script.Request.{Request}
use Rattle.report_rules.specs.declared.report.StepAnswer.{StepAnswer}
use Rattle.weaver_core.proofs.Resting.{found}
use Rattle.weaver_core.proofs.Results.{if_ok_map}
use Rattle.weaver_core.proofs.giving_replies.reply_in.Goals as goal

pub reply_to_one-requires : goal.reply_to_one-requires
reply_to_one-requires c =
    let asked = c.index-as_slice-request.result in
    let is = found c.args.script.now c.args.request asked c.requires.there (c.index-as_slice-request.is ∙ ap (λ (xs : List Request). slice_index_or xs c.args.request asked) c.as_slice.ensures) in
    let ready = c.requires.ready asked is in
    record { gate = ready.gate; session = ready.session; among = ready.among }

pub returns-clause-replies : goal.returns-clause-replies
returns-clause-replies c =
    let asked = c.index-as_slice-request.result in
    let is = found c.args.script.now c.args.request asked c.requires.there (c.index-as_slice-request.is ∙ ap (λ (xs : List Request). slice_index_or xs c.args.request asked) c.as_slice.ensures) in
    if_ok_map c.reply_to_one.result _ _ (λ (a : StepAnswer) replies. record { request = asked; request_is = is; replies = replies }) c.reply_to_one.ensures.replies
