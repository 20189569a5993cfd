use Rattle.std.proofs.Common.{List, sym, ap, ◌∙◌}
use Rattle.std.specs.Prelude.{slice_index_or}
use Rattle.program_defs.specs.declared.script.Request.{Request}
use Rattle.step_rules.specs.Requests.{ops_in}
use Rattle.weaver_core.proofs.Resting.{found}
use Rattle.weaver_core.proofs.judging.ops_of.Goals as goal

pub returns : goal.returns
returns c =
    let asked = c.index-as_slice-request.result in
    let is = found c.args.script.now c.args.request asked c.requires (c.index-as_slice-request.is ∙ ap (λ (xs : List Request). slice_index_or xs c.args.request asked) c.as_slice.ensures) in
    c.ops_asked.ensures ∙ sym (ap ops_in is)
