use Rattle.std.proofs.Common.{[]}
use Rattle.priced_path.proofs.Pricing.{priced-begin}
use Rattle.priced_path.proofs.price.PricedProgram.new.Goals as goal

pub invariant_of-result : goal.invariant_of-result
invariant_of-result c =
    let begun = priced-begin c.price.result c.args.from c.args.to c.args.key c.in_ok-search.search c.in_ok-new.field-0.value c.new-3.result.items (c.price.ensures c.args.to) c.in_ok-search.ensures.aim c.in_ok-search.ensures.reads c.in_ok-new.ensures.ok c.new-3.ensures.items in
    ([], begun.1)

pub returns-clause-program : goal.returns-clause-program
returns-clause-program c = (priced-begin c.price.result c.args.from c.args.to c.args.key c.in_ok-search.search c.in_ok-new.field-0.value c.new-3.result.items (c.price.ensures c.args.to) c.in_ok-search.ensures.aim c.in_ok-search.ensures.reads c.in_ok-new.ensures.ok c.new-3.ensures.items).0

pub returns-clause-reads : goal.returns-clause-reads
returns-clause-reads c = (priced-begin c.price.result c.args.from c.args.to c.args.key c.in_ok-search.search c.in_ok-new.field-0.value c.new-3.result.items (c.price.ensures c.args.to) c.in_ok-search.ensures.aim c.in_ok-search.ensures.reads c.in_ok-new.ensures.ok c.new-3.ensures.items).1
