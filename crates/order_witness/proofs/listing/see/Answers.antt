use Rattle.std.proofs.Common.{IsTrue, not, sym, ◌∙◌, arith}
use Rattle.std.proofs.lemmas.Bool.{and_parts}
use Rattle.report_rules.specs.Lookups.{may_be_listed}
use Rattle.order_witness.specs.Bits.{has_bit}
use Rattle.order_witness.proofs.Seeing.{listed_within}
use Rattle.order_witness.proofs.listing.see.Goals as goal

pub put-requires : goal.put-requires
put-requires c =
    let may : IsTrue (may_be_listed c.args.report.now c.args.request) = (and_parts (not (has_bit c.args.seen.now c.args.request)) (may_be_listed c.args.report.now c.args.request) (sym c.is_in_place-holds.ensures ∙ c.if-holds.true)).1 in
    omega (arith, listed_within c.args.report.now c.args.request may, c.requires)
