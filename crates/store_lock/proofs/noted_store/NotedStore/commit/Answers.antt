use Rattle.std.proofs.Common.{◌≡◌, ◌≢◌, ℕ, List, [], ◌∷◌, Contains, sym, ap, ◌∙◌, subst}
use Rattle.std.specs.List.{All}
use Rattle.vector_stamp.specs.declared.clock.Stamp.{Stamp}
use Rattle.vector_stamp.specs.Order.{id_of}
use Rattle.backing_store.specs.Commits.{stamps_judged}
use Rattle.chronicle.specs.Locks.{lock_of}
use Rattle.lock_row.specs.Rows.{names_of}
use Rattle.weave_entries.specs.declared.gate_log.GateDeed.{GateDeed}
use Rattle.weave_entries.specs.declared.oracle_log.OracleDeed.{OracleDeed}
use Rattle.weave_entries.specs.GateReplay.{BegunRequest, txs_of}
use Rattle.weave_account.specs.Account.{gate_log}
use Rattle.seen_logs.specs.Seen.{GatesGoOn}
use Rattle.chronicle.specs.declared.note.Note.{Note}
use Rattle.chronicle.specs.Logs.{Log}
use Rattle.chronicle.specs.Passes.{IsNote, seen_by_note, number_of, own_entries, seen_by_pass}
use Rattle.seen_logs.specs.Entries.{oracle_entries}
use Rattle.oracle_lock.specs.Seen.{gates_noted, gates_seen, of_gates, AreGateLogs, OracleIsKept}
use Rattle.store_lock.specs.Seen.{StoreIsKept, StoreView}
use Rattle.store_lock.proofs.Begun.{kept-begun}
use Rattle.store_lock.proofs.Committing.{commit-keeps, judges-since}
use Rattle.store_lock.proofs.noted_store.NotedStore.commit.Goals as goal

pub meet-requires : goal.meet-requires
meet-requires g c = record {
  pass = c.requires.pass;
  note = subst (λ (v : StoreView). IsNote (lock_of c.args.oracle.now) v.oracle) (sym c.self.view_is) c.requires.note;
}

pub judge_over-judged-requires : goal.judge_over-judged-requires
judge_over-judged-requires g c =
    let notes = c.self.inside.gates.items in
    let passes = gates_seen c.args.passes.now in
    let back = sym c.self.view_is in
    let same = sym (ap (λ (v : StoreView). v.gates) c.self.view_is) in
    let tx : BegunRequest = record { author = number_of c.args.pass.now; request = c.args.request; stamp = c.args.stamp } in record {
      frame = subst (λ (v : StoreView). (lock_of c.args.oracle.now).frame ≡ (v.shards ∷ []) ∷ names_of c.args.gates.now) back c.requires.frame;
      pass = c.meet.ensures.ready;
      passes = c.requires.passes;
      all_ready = c.requires.all_ready;
      legal = subst (λ (v : StoreView). AreGateLogs v.shards passes) back c.requires.legal;
      gates = c.requires.gates;
      few = c.requires.few;
      new = subst (λ (v : StoreView). All (λ (judged : Stamp). id_of judged ≢ id_of c.args.stamp) (stamps_judged v.store)) back c.requires.new;
      begun = kept-begun c.references_go_on.ensures.oracle c.what_is_asked_is_kept.ensures.kept (gates_noted notes) passes
          (oracle_entries (seen_by_note c.self.inside.oracle)) c.self.inside.store (number_of c.args.pass.now) c.args.request c.args.stamp c.self.invariant.refers
          (subst (λ (ns : List (Note GateDeed)). GatesGoOn (of_gates (gates_noted ns)) (of_gates passes)) same c.requires.met)
          (subst (λ (ns : List (Note GateDeed)). (home : ℕ) × Contains (txs_of (gate_log (of_gates (gates_noted ns)) home)) tx) same c.requires.begun);
    }

pub note-requires : goal.note-requires
note-requires g c = c.judge_over-judged.ensures.ready

pub invariant_of-self : goal.invariant_of-self
invariant_of-self g c =
    let notes = c.self.inside.gates.items in
    let same = ap (λ (v : StoreView). v.gates) c.self.view_is in
    let done = c.judge_over-judged in
    let has = seen_by_pass done.new.pass in
    let author = number_of c.meet.new.pass in
    let tx : ℕ → BegunRequest = λ n. record { author = n; request = c.args.request; stamp = c.args.stamp } in
    let there = subst
    (λ (ns : List (Note GateDeed)). (home : ℕ) × Contains (txs_of (gate_log (of_gates (gates_noted ns)) home)) (tx (number_of c.args.pass.now)))
    (sym same) c.requires.begun in
    let begun = subst (λ (n : ℕ). (home : ℕ) × Contains (txs_of (gate_log (of_gates (gates_noted notes)) home)) (tx n)) (sym c.meet.ensures.number) there in
    subst (λ (l : Log OracleDeed). StoreIsKept c.self.inside.shards (gates_noted notes) (oracle_entries l) done.new.store) (sym c.note.ensures.noted)
    (commit-keeps _ author c.args.request c.args.stamp c.args.ops.now c.self.inside.store done.new.store (seen_by_pass c.meet.new.pass) (own_entries c.meet.new.pass) has
    done.ensures.answer.0 c.verdicts_are_right.ensures c.references_go_on.ensures.store c.self.inside.shards (gates_noted notes)
    (seen_by_note c.self.inside.oracle) c.self.invariant c.meet.ensures.note_before begun done.result done.ensures.answer.1 c.log.ensures.right
    done.ensures.kept.legal.oracle_log)

pub returns : goal.returns
returns g c =
    let done = c.judge_over-judged in
    let did = done.ensures in
    let shards = ap (λ (v : StoreView). v.shards) c.self.view_is in
    let passes = gates_seen done.new.passes in record {
      shards = shards;
      gates = ap (λ (v : StoreView). v.gates) c.self.view_is;
      note = c.note.ensures.note ∙ sym c.requires.note;
      one = c.note.ensures.noted ∙ sym c.note.ensures.seen;
      ready = c.note.ensures.ready;
      number = c.note.ensures.number ∙ (did.number ∙ c.meet.ensures.number);
      passes = did.passes;
      all_ready = did.all_ready;
      passes_on = did.passes_on;
      legal = subst (λ (n : ℕ). AreGateLogs n passes) shards did.legal;
      oracle_kept = subst (λ (z : ℕ × Log OracleDeed). OracleIsKept z.0 passes (oracle_entries z.1)) (λ i. (shards i, sym c.note.ensures.seen i)) did.kept;
      met = did.met;
      answer = (
        did.answer.0,
        judges-since _ (number_of c.meet.new.pass) c.args.request c.args.stamp c.args.ops.now c.self.inside.store done.new.store (seen_by_pass c.meet.new.pass)
            (own_entries c.meet.new.pass) (seen_by_pass done.new.pass) did.answer.0 done.result (number_of c.args.pass.now) c.args.self.now.store
            (seen_by_pass c.args.pass.now) (own_entries c.args.pass.now) (seen_by_pass c.note.new.pass) c.meet.ensures.number (ap (λ (v : StoreView). v.store) c.self.view_is)
            c.meet.ensures.pass_before c.meet.ensures.own (sym c.note.ensures.seen) did.answer.1,
      );
    }
