use Rattle.std.proofs.Common.{◌≤◌, not, ◌&&◌, sym, ◌∙◌, arith}
use Rattle.std.specs.Prelude.{nat_lt, nat_le}
use Rattle.std.proofs.lemmas.Bool.{and_parts, leb-true}
use Rattle.order_witness.specs.Bits.{has_bit}
use Rattle.order_witness.proofs.numbers.see_number.Goals as goal

pub put-requires : goal.put-requires
put-requires c =
    let parts = and_parts (nat_lt 0 c.args.number && nat_le c.args.number c.args.count) (not (has_bit c.args.seen.now c.args.number)) (sym c.is_in_place-holds.ensures ∙ c.if-holds.true) in
    let within : c.args.number ≤ c.args.count = leb-true c.args.number c.args.count (and_parts (nat_lt 0 c.args.number) (nat_le c.args.number c.args.count) parts.0).1 in
    omega (arith, within, c.requires)
