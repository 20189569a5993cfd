use Rattle.std.proofs.Common.{rules, tests, ◌∙◌}
use Rattle.std.proofs.lemmas.Iterator.{YieldsList-from_slice, YieldsList-from_zip}
use Rattle.std.proofs.lemmas.Iterator.Search.{all_from_yields_List}
use Rattle.weave_data.specs.declared.name.Name.{Name}
use Rattle.weave_data.specs.Names.{same_name}
use Rattle.order_witness.proofs.SameRecords.{all_zip, names_tell}
use Rattle.order_witness.proofs.answers.same_in_turn.Goals as goal

pub returns : goal.returns
returns c =
    let vertices = c.args.vertices.now in
    let others = c.args.others.now in
    let each = all_from_yields_List (λ (pair : Name × Name). same_name pair.0 pair.1) c.all.new.self _ c.all.result c.all.ensures.ran (YieldsList-from_zip (YieldsList-from_slice vertices cc) (YieldsList-from_slice others cc)) (λ x b q k. search (rules, tests)) in
    each ∙ all_zip same_name names_tell vertices others c.requires
