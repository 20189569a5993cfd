use Rattle.gate_lock.proofs.Calls.{kept_nop}
use Rattle.gate_lock.proofs.noted_gate.NotedGate.nop.Goals as goal

pub invariant_of-self : goal.invariant_of-self
invariant_of-self c =
    kept_nop c.the_crates_below_keep_their_laws.ensures c.self.inside.gate c.nop-sent.new.self c.self.inside.notes c.self.invariant
    c.shows_rules-2.ensures.rules c.args.author
    c.nop-sent.result c.args.shard c.shows_rules.ensures.home c.nop-sent.ensures.entry c.nop-sent.ensures.refused
