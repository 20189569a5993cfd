use Rattle.std.proofs.Common.{rules, tests, ◌∙◌, sym, ℕ, nat_le}
use Rattle.std.proofs.lemmas.Iterator.{YieldsList-from_slice, YieldsList-from_zip}
use Rattle.std.proofs.lemmas.Iterator.Search.{all_from_yields_List}
use Rattle.vector_stamp.proofs.Counts.{list_all-zip}
use Rattle.vector_stamp.proofs.clock.at_most_each.Goals as goal

pub returns : goal.returns
returns c =
    let counts = c.args.counts.now in
    let others = c.args.others.now in
    let each = all_from_yields_List (λ (pair : ℕ × ℕ). nat_le pair.0 pair.1) c.all.new.self _ c.all.result c.all.ensures.ran (YieldsList-from_zip (YieldsList-from_slice counts cc) (YieldsList-from_slice others cc)) (λ x b q k. search (rules, tests)) in
    each ∙ list_all-zip counts others (c.told-counts ∙ sym c.told-others)
