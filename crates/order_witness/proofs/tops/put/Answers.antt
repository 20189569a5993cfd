use Rattle.std.proofs.Common.{sym}
use Rattle.order_witness.proofs.Topping.{put_there}
use Rattle.order_witness.proofs.tops.put.Goals as goal

pub returns : goal.returns
returns c =
    put_there c.args.script.now c.args.request c.in-Some.x.now c.args.tops.now c.raise.new.self c.is_at_most-surely.result (sym c.in-Some.ensures) c.raise.ensures.size c.raise.ensures.no_less c.raise.ensures.there c.is_at_most-surely.ensures
