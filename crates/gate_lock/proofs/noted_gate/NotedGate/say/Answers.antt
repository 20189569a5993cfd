use Rattle.std.proofs.Common.{sym, subst}
use Rattle.vector_stamp.specs.declared.clock.Clock.{Clock}
use Rattle.weave_account.specs.Clocks.{IsKnown}
use Rattle.gate_lock.specs.Notes.{NotedGateView, seen_of_gate}
use Rattle.gate_lock.proofs.Adding.{clock_known}
use Rattle.gate_lock.proofs.noted_gate.NotedGate.say.Goals as goal

pub returns-clause-known : goal.returns-clause-known
returns-clause-known c =
    let gate = c.self.inside.gate in
    let notes = c.self.inside.notes in
    subst (λ (v : NotedGateView). IsKnown (seen_of_gate v.gate v.notes) c.say.result) c.self.view_is
    (subst (λ (k : Clock). IsKnown (seen_of_gate gate notes) k) (sym c.say.ensures)
    (clock_known c.the_crates_below_keep_their_laws.ensures gate notes c.self.invariant c.shows_rules.ensures.home))
