use Rattle.std.proofs.Common.{◌<◌, ◌+◌, ◌-◌, length, arith}
use Rattle.std.proofs.lemmas.List.Elements.{Contains-get_or}
use Rattle.machine_tests.proofs.order_tests.build_from_end.Goals as goal

pub add-requires-clause-earlier : goal.add-requires-clause-earlier
add-requires-clause-earlier g c =
    let below : 98 - c.loop-number.number < length c.args.events.now = omega arith in
    Contains-get_or c.args.events.now (98 - c.loop-number.number) _ below

pub add-requires-clause-later : goal.add-requires-clause-later
add-requires-clause-later g c =
    let below : (98 - c.loop-number.number) + 1 < length c.args.events.now = omega arith in
    Contains-get_or c.args.events.now ((98 - c.loop-number.number) + 1) _ below
