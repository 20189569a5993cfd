use Rattle.std.proofs.Common.{List, length, ap, subst}
use Rattle.weave_entries.specs.declared.gate_log.GateDeed.{GateDeed}
use Rattle.seen_logs.specs.Seen.{GatesGoOn}
use Rattle.chronicle.specs.declared.note.Note.{Note}
use Rattle.lock_row.specs.Meetings.{AllMet}
use Rattle.chronicle.specs.Passes.{seen_by_note}
use Rattle.seen_logs.specs.Entries.{oracle_entries}
use Rattle.oracle_lock.specs.Seen.{gates_noted, gates_seen, of_gates}
use Rattle.store_lock.specs.Seen.{StoreView}
use Rattle.store_lock.proofs.Keeping.{meeting-keeps}
use Rattle.store_lock.proofs.noted_store.NotedStore.meet.Goals as goal

pub invariant_of-self : goal.invariant_of-self
invariant_of-self g c =
    let met = c.meet_gates.ensures in
    meeting-keeps c.references_go_on.ensures.store c.self.inside.shards c.args.self.now.shards c.self.inside.gates.items c.meet_gates.new.notes.items
    (gates_seen c.args.passes.now) (gates_seen c.meet_gates.new.passes) (oracle_entries (seen_by_note c.self.inside.oracle)) c.self.inside.store c.self.invariant
    (ap (λ (v : StoreView). v.shards) c.self.view_is) (record {
      names = met.names;
      notes_on = met.notes_on;
      one = met.one;
      legal = met.legal;
      legal_before = c.requires.legal;
    })

pub returns-clause-met : goal.returns-clause-met
returns-clause-met g c =
    let locks = c.args.gates.now in
    subst (λ (ns : List (Note GateDeed)). AllMet locks c.args.passes.now c.meet_gates.new.passes ns c.meet_gates.new.notes.items (length locks))
    (ap (λ (v : StoreView). v.gates) c.self.view_is) c.meet_gates.ensures.met

pub returns-clause-notes_on : goal.returns-clause-notes_on
returns-clause-notes_on g c =
    subst (λ (ns : List (Note GateDeed)). GatesGoOn (of_gates (gates_noted ns)) (of_gates (gates_noted c.meet_gates.new.notes.items)))
    (ap (λ (v : StoreView). v.gates) c.self.view_is) c.meet_gates.ensures.notes_on
