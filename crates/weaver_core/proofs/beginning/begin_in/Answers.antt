use Rattle.std.proofs.Common.{List, ap, ◌∙◌}
use Rattle.std.specs.Prelude.{slice_index_or}
use Rattle.program_defs.specs.declared.script.Request.{Request}
use Rattle.report_rules.specs.declared.report.StepAnswer.{StepAnswer}
use Rattle.weaver_core.proofs.Resting.{found}
use Rattle.weaver_core.proofs.Results.{if_ok_map}
use Rattle.weaver_core.proofs.beginning.begin_in.Goals as goal

pub begin_one-requires : goal.begin_one-requires
begin_one-requires c =
    let asked = c.index-as_slice-request.result in
    let is = found c.args.script.now c.args.request asked c.requires.there (c.index-as_slice-request.is ∙ ap (λ (xs : List Request). slice_index_or xs c.args.request asked) c.as_slice.ensures) in
    let ready = c.requires.ready asked is in
    record { gate = ready.gate; session = ready.session; among = ready.among; known = ready.known }

pub returns-clause-begins : goal.returns-clause-begins
returns-clause-begins c =
    let asked = c.index-as_slice-request.result in
    let is = found c.args.script.now c.args.request asked c.requires.there (c.index-as_slice-request.is ∙ ap (λ (xs : List Request). slice_index_or xs c.args.request asked) c.as_slice.ensures) in
    if_ok_map c.begin_one.result _ _ (λ (a : StepAnswer) begins. record { request = asked; request_is = is; begins = begins }) c.begin_one.ensures.begins
