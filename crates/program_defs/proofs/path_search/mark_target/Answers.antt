use Rattle.std.proofs.Common.{arith, ◌≡◌, ◌∙◌, sym, ap, Some, is_some, length}
use Rattle.program_defs.specs.LeastWalks.{mark_in, with_mark}
use Rattle.std.specs.Prelude.{if◌then◌else◌, false}
use Rattle.weave_data.specs.Names.{same_name}
use Rattle.weave_data.proofs.Results.{with_ok}
use Rattle.program_defs.proofs.path_search.mark_target.Goals as goal

pub returns-clause-marks : goal.returns-clause-marks
returns-clause-marks c = λ v.
    let old = c.args.marks.now.entries in
    let hop = c.args.hop.now in
    let fresh : is_some (mark_in old hop.target) ≡ false = sym c.contains_key.ensures ∙ c.if-contains_key.false in
    let puts = (with_ok _ _ (c.insert.ensures.succeeds (omega (arith, c.requires))) c.insert.ensures.updates).0 v in
    puts
    ∙ (λ i. if same_name hop.target v then Some (record { parent = hop.parent; rank = c.len.ensures.len i }) else mark_in old v)
    ∙ ap (λ b. if b then mark_in old v else with_mark hop.target (record { parent = hop.parent; rank = length old }) (mark_in old) v) (sym fresh)
