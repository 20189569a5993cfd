use Rattle.weaver_workers.proofs.There.{shard-start}
use Rattle.weaver_workers.proofs.bringing.known_to.Goals as goal

pub returns-in-Some : goal.returns-in-Some
returns-in-Some g c = shard-start c.args.shared.now c.args.shard c.args.hand.now c.requires.hand
