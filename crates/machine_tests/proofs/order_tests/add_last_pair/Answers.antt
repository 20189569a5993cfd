use Rattle.std.proofs.Common.{◌<◌, length, arith}
use Rattle.std.proofs.lemmas.List.Elements.{Contains-get_or}
use Rattle.machine_tests.proofs.order_tests.add_last_pair.Goals as goal

pub add-requires-clause-earlier : goal.add-requires-clause-earlier
add-requires-clause-earlier g c =
    let below : 199 < length c.args.events.now = omega (arith, c.requires.number) in
    Contains-get_or c.args.events.now 199 _ below
