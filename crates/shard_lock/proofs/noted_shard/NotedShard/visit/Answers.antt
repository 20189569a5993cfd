use Rattle.std.proofs.Common.{◌≡◌, ℕ, [], ◌∷◌, length, map, refl, sym, ap, ◌∙◌, subst}
use Rattle.weave_entries.specs.declared.oracle_log.OracleDeed.{OracleDeed}
use Rattle.chronicle.specs.Locks.{lock_of}
use Rattle.chronicle.specs.Logs.{Log}
use Rattle.lock_row.specs.Rows.{names_of}
use Rattle.seen_logs.specs.Entries.{oracle_entries}
use Rattle.shard_lock.specs.Frames.{shard_frame}
use Rattle.weave_entries.specs.GateReplay.{BegunRequest}
use Rattle.seen_logs.specs.Seen.{GatesGoOn}
use Rattle.chronicle.specs.Passes.{IsNote, lock_noted, number_of, own_entries, seen_by_pass}
use Rattle.oracle_lock.specs.Seen.{gates_noted, gates_seen, of_gates, AreGateLogs, OracleIsKept}
use Rattle.shard_lock.specs.Notes.{NotedShardView, frame_of_shard}
use Rattle.shard_lock.proofs.Visits.{MayVisit, begun-later, ids-differ, kept-for, may_visit, same-shard, visit-keeps, visits-since}
use Rattle.shard_lock.proofs.noted_shard.NotedShard.visit.Goals as goal

pub meet-requires : goal.meet-requires
meet-requires g c = record {
  pass = c.requires.pass;
  note = subst (λ (v : NotedShardView). IsNote (lock_of c.args.oracle.now) v.notes.oracle) (sym c.self.view_is) c.requires.note;
}

pub visit_over-read-requires : goal.visit_over-read-requires
visit_over-read-requires g c =
    let back = sym c.self.view_is in
    let passes = gates_seen c.args.passes.now in
    let laws = c.the_crates_below_keep_their_laws.ensures in
    let visits = c.visits_are_right.ensures in
    let shard = c.self.inside.shard in
    let shards = c.self.inside.shards in
    let notes = c.self.inside.notes in
    let may = subst (λ (v : NotedShardView). MayVisit v c.args.request c.args.stamp c.args.vertex) (sym c.self.view_is)
    (may_visit c.args.self.now c.args.request c.args.stamp c.args.vertex (length c.args.gates.now) c.requires.gates c.requires.few
    c.requires.kept_here c.requires.running) in
    let program : BegunRequest = record { author = may.by; request = c.args.request; stamp = c.args.stamp } in
    let met = subst (λ (v : NotedShardView). GatesGoOn (of_gates (gates_noted v.notes.gates.items)) (of_gates passes)) back c.requires.met in record {
      frame = subst (λ (v : NotedShardView). (lock_of c.args.oracle.now).frame ≡ (v.shards ∷ []) ∷ names_of c.args.gates.now) back c.requires.frame;
      pass = c.meet.ensures.ready;
      passes = c.requires.passes;
      all_ready = c.requires.all_ready;
      legal = subst (λ (v : NotedShardView). AreGateLogs v.shards passes) back c.requires.legal;
      gates = c.requires.few;
      other_ids = ids-differ laws visits shard shards notes c.self.invariant may.few may.home program may.runs c.args.vertex may.here;
      begun = begun-later laws visits shard shards notes c.self.invariant may.few may.home program may.runs c.args.vertex may.here
          c.references_go_on.ensures.oracle passes met;
      base = kept-for laws visits shard shards notes c.self.invariant may.few may.home program may.runs c.args.vertex may.here;
    }

pub note-requires : goal.note-requires
note-requires g c = c.visit_over-read.ensures.ready

pub invariant_of-self : goal.invariant_of-self
invariant_of-self g c =
    let may = subst (λ (v : NotedShardView). MayVisit v c.args.request c.args.stamp c.args.vertex) (sym c.self.view_is)
    (may_visit c.args.self.now c.args.request c.args.stamp c.args.vertex (length c.args.gates.now) c.requires.gates c.requires.few
    c.requires.kept_here c.requires.running) in
    let done = c.visit_over-read in
    visit-keeps (number_of c.meet.new.pass) c.args.request c.args.stamp c.args.vertex c.self.inside.shard done.new.shard (seen_by_pass c.meet.new.pass)
    (own_entries c.meet.new.pass) (seen_by_pass done.new.pass) done.ensures.answer.0 c.the_crates_below_keep_their_laws.ensures c.visits_are_right.ensures
    c.self.inside.shards c.self.inside.notes c.self.invariant may.few may.home may.by may.runs may.here c.note.result c.note.ensures.noted
    c.meet.ensures.note_before done.ensures.kept.legal.oracle_log c.shows_rules.ensures done.result done.ensures.answer.1

pub returns : goal.returns
returns g c =
    let is = c.self.view_is in
    let notes = c.self.inside.notes in
    let done = c.visit_over-read in
    let did = done.ensures in
    let passes = gates_seen done.new.passes in
    let shards = ap (λ (v : NotedShardView). v.shards) is in
    let noted = subst (λ (v : NotedShardView). IsNote (lock_of c.args.oracle.now) v.notes.oracle) (sym is) c.requires.note in
    let oracle = c.note.ensures.note ∙ sym noted in
    let same = same-shard (number_of c.meet.new.pass) c.args.request c.args.stamp c.args.vertex c.self.inside.shard done.new.shard
    (seen_by_pass c.meet.new.pass) (own_entries c.meet.new.pass) (seen_by_pass done.new.pass) did.answer.0 done.result did.answer.1 in record {
      shards = shards;
      frame = (λ i. shard_frame (same.0 i) (same.1 i) c.self.inside.shards (lock_noted notes.store) (oracle i) (map lock_noted notes.gates.items))
          ∙ ap (λ (v : NotedShardView). frame_of_shard v.shard v.shards v.notes) is;
      gates = ap (λ (v : NotedShardView). v.notes.gates) is;
      store = ap (λ (v : NotedShardView). v.notes.store) is;
      note = c.note.ensures.note ∙ sym c.requires.note;
      one = c.note.ensures.noted ∙ sym c.note.ensures.seen;
      ready = c.note.ensures.ready;
      number = c.note.ensures.number ∙ (did.number ∙ c.meet.ensures.number);
      passes = did.passes;
      all_ready = did.all_ready;
      passes_on = did.passes_on;
      legal = subst (λ (n : ℕ). AreGateLogs n passes) shards did.legal;
      oracle_kept = subst (λ (z : ℕ × Log OracleDeed). OracleIsKept z.0 passes (oracle_entries z.1)) (λ i. (shards i, sym c.note.ensures.seen i)) did.kept;
      met = did.met;
      answer = (
        did.answer.0,
        visits-since (number_of c.meet.new.pass) c.args.request c.args.stamp c.args.vertex c.self.inside.shard done.new.shard (seen_by_pass c.meet.new.pass)
            (own_entries c.meet.new.pass) (seen_by_pass done.new.pass) did.answer.0 done.result (number_of c.args.pass.now) c.args.self.now.shard done.new.shard
            (seen_by_pass c.args.pass.now) (own_entries c.args.pass.now) (seen_by_pass c.note.new.pass) c.meet.ensures.number
            (ap (λ (v : NotedShardView). v.shard) c.self.view_is) refl c.meet.ensures.pass_before c.meet.ensures.own (sym c.note.ensures.seen)
            did.answer.1,
      );
    }
