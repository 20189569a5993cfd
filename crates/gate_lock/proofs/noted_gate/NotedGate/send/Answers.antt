use Rattle.std.proofs.Common.{◌≡◌, sym, subst}
use Rattle.std.specs.Option.{ForSome}
use Rattle.weave_entries.specs.GateReplay.{BegunRequest, flight_of}
use Rattle.gate_lock.specs.Notes.{HasJudged, NotedGateView, seen_of_gate}
use Rattle.gate_lock.proofs.Calls.{kept_sent}
use Rattle.gate_lock.proofs.noted_gate.NotedGate.send.Goals as goal

pub invariant_of-self : goal.invariant_of-self
invariant_of-self c =
    let by = subst (λ (v : NotedGateView). ForSome (flight_of v.gate.log) (λ (flight : BegunRequest). flight.author ≡ c.args.author)) (sym c.self.view_is)
    c.requires.author in
    let has = subst (λ (v : NotedGateView). ForSome (flight_of v.gate.log) (λ (flight : BegunRequest). HasJudged (seen_of_gate v.gate v.notes) flight
    c.args.ops.now c.args.verdict.now))
    (sym c.self.view_is) c.requires.judged in
    kept_sent c.the_crates_below_keep_their_laws.ensures c.self.inside.gate c.send-sent.new.self c.self.inside.notes c.self.invariant
    c.shows_rules.ensures.rules c.args.author
    c.send-sent.result c.args.ops.now c.args.verdict.now by has c.send-sent.ensures.entry c.send-sent.ensures.refused
