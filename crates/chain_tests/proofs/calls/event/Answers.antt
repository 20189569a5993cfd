use Rattle.std.proofs.Common.{◌<◌, length, arith}
use Rattle.std.proofs.lemmas.List.Elements.{Contains-get_or}
use Rattle.chain_tests.proofs.calls.event.Goals as goal

pub returns : goal.returns
returns g c =
    let below : c.args.place < length c.args.events.now = omega arith in
    Contains-get_or c.args.events.now c.args.place _ below
