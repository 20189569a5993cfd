use Rattle.std.proofs.Common.{sym, subst}
use Rattle.seen_logs.specs.References.{EndsAsSeen}
use Rattle.gate_lock.specs.Notes.{NotedGateView, seen_of_gate}
use Rattle.gate_lock.proofs.Calls.{kept_finished}
use Rattle.gate_lock.proofs.noted_gate.NotedGate.finish.Goals as goal

pub invariant_of-self : goal.invariant_of-self
invariant_of-self c =
    let ends = subst (λ (v : NotedGateView). EndsAsSeen (seen_of_gate v.gate v.notes) c.args.request) (sym c.self.view_is) c.requires in
    kept_finished c.the_crates_below_keep_their_laws.ensures c.self.inside.gate c.finish-finished.new.self c.self.inside.notes c.self.invariant
    c.shows_rules.ensures.rules c.args.author
    c.finish-finished.result c.args.request ends c.finish-finished.ensures.entry c.finish-finished.ensures.refused
