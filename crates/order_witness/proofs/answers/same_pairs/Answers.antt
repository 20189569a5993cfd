use Rattle.std.proofs.Common.{rules, tests, ◌∙◌}
use Rattle.std.proofs.lemmas.Iterator.{YieldsList-from_slice, YieldsList-from_zip}
use Rattle.std.proofs.lemmas.Iterator.Search.{all_from_yields_List}
use Rattle.graph_ops.specs.declared.tx.Got.{Got}
use Rattle.order_witness.specs.Answers.{same_got}
use Rattle.order_witness.proofs.SameRecords.{all_zip, gots_tell}
use Rattle.order_witness.proofs.answers.same_pairs.Goals as goal

pub returns : goal.returns
returns c =
    let answers = c.args.answers.now in
    let others = c.args.others.now in
    let each = all_from_yields_List (λ (pair : Got × Got). same_got pair.0 pair.1) c.all.new.self _ c.all.result c.all.ensures.ran (YieldsList-from_zip (YieldsList-from_slice answers cc) (YieldsList-from_slice others cc)) (λ x b q k. search (rules, tests)) in
    each ∙ all_zip same_got gots_tell answers others c.requires
