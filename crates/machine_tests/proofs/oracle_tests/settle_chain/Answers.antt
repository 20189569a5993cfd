use Rattle.std.proofs.Common.{◌<◌, ◌+◌, length, arith}
use Rattle.std.proofs.lemmas.List.Elements.{Contains-get_or}
use Rattle.machine_tests.proofs.oracle_tests.settle_chain.Goals as goal

pub settle_one-requires-clause-later : goal.settle_one-requires-clause-later
settle_one-requires-clause-later g c =
    let below : c.loop-place.place + 1 < length c.args.events.now = omega arith in
    Contains-get_or c.args.events.now (c.loop-place.place + 1) _ below
