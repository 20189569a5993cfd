use Rattle.std.proofs.Common.{sym, subst}
use Rattle.weave_account.specs.Clocks.{IsKnown}
use Rattle.gate_lock.specs.Notes.{NotedGateView, seen_of_gate}
use Rattle.gate_lock.proofs.Calls.{kept_heard}
use Rattle.gate_lock.proofs.noted_gate.NotedGate.hear.Goals as goal

pub invariant_of-self : goal.invariant_of-self
invariant_of-self c =
    let known = subst (λ (v : NotedGateView). IsKnown (seen_of_gate v.gate v.notes) c.args.clock.now) (sym c.self.view_is) c.requires in
    kept_heard c.the_crates_below_keep_their_laws.ensures c.self.inside.gate c.hear_with_room-heard.new.gate c.self.inside.notes c.self.invariant
    c.shows_rules-2.ensures.rules c.args.author
    c.hear_with_room-heard.result c.args.clock.now c.shows_rules.ensures.home c.shows_rules.ensures.rules known
    c.hear_with_room-heard.ensures.entry c.hear_with_room-heard.ensures.refused
