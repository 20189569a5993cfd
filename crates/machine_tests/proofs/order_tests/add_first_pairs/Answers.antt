use Rattle.std.proofs.Common.{◌<◌, ◌+◌, length, arith}
use Rattle.std.proofs.lemmas.List.Elements.{Contains-get_or}
use Rattle.machine_tests.proofs.order_tests.add_first_pairs.Goals as goal

pub add-requires-clause-later : goal.add-requires-clause-later
add-requires-clause-later g c =
    let below : c.loop-place.place + 1 < length c.args.events.now = omega arith in
    Contains-get_or c.args.events.now (c.loop-place.place + 1) _ below
