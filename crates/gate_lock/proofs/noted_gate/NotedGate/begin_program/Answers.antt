use Rattle.std.proofs.Common.{sym, subst}
use Rattle.std.specs.Option.{ForSome}
use Rattle.vector_stamp.specs.declared.clock.Stamp.{Stamp}
use Rattle.weave_entries.specs.declared.gate_log.GateDeed.TheVariants.{BeganProgram}
use Rattle.weave_account.specs.Clocks.{IsKnown}
use Rattle.gate_lock.specs.Notes.{NotedGateView, seen_of_gate}
use Rattle.gate_lock.proofs.Adding.{after_last, kept_begun, known_begun}
use Rattle.gate_lock.proofs.Calls.{begins_program}
use Rattle.gate_lock.proofs.noted_gate.NotedGate.begin_program.Goals as goal

pub invariant_of-self : goal.invariant_of-self
invariant_of-self c =
    let its = subst (λ (v : NotedGateView). ForSome c.args.last (λ (heard : Stamp). IsKnown (seen_of_gate v.gate v.notes) heard.clock))
    (sym c.self.view_is) c.requires in
    kept_begun c.the_crates_below_keep_their_laws.ensures c.self.inside.gate c.begin_program-begun.new.self c.self.inside.notes c.self.invariant
    c.shows_rules.ensures.home c.shows_rules.ensures.rules
    c.args.author (λ (stamp : Stamp). BeganProgram c.args.request stamp) (begins_program c.args.request) c.args.last its
    c.shows_rules-2.ensures.rules c.begin_program-begun.result
    c.begin_program-begun.ensures.stamp c.begin_program-begun.ensures.entry c.begin_program-begun.ensures.refused

pub returns-clause-known : goal.returns-clause-known
returns-clause-known c =
    let its = subst (λ (v : NotedGateView). ForSome c.args.last (λ (heard : Stamp). IsKnown (seen_of_gate v.gate v.notes) heard.clock))
    (sym c.self.view_is) c.requires in
    known_begun c.the_crates_below_keep_their_laws.ensures c.self.inside.gate c.begin_program-begun.new.self c.self.inside.notes c.self.invariant
    c.shows_rules.ensures.home c.shows_rules.ensures.rules
    c.args.author (λ (stamp : Stamp). BeganProgram c.args.request stamp) (begins_program c.args.request) c.args.last its
    c.shows_rules-2.ensures.rules c.begin_program-begun.result
    c.begin_program-begun.ensures.stamp c.begin_program-begun.ensures.entry

pub returns-clause-after : goal.returns-clause-after
returns-clause-after c =
    let its = subst (λ (v : NotedGateView). ForSome c.args.last (λ (heard : Stamp). IsKnown (seen_of_gate v.gate v.notes) heard.clock))
    (sym c.self.view_is) c.requires in
    after_last c.the_crates_below_keep_their_laws.ensures c.self.inside.gate c.begin_program-begun.new.self c.self.inside.notes c.self.invariant
    c.shows_rules.ensures.home c.shows_rules.ensures.rules
    c.args.author (λ (stamp : Stamp). BeganProgram c.args.request stamp) (begins_program c.args.request) c.args.last its
    c.shows_rules-2.ensures.rules c.begin_program-begun.result
    c.begin_program-begun.ensures.after
