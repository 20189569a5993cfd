use Rattle.std.proofs.Common.{◌≡◌, ◌≤◌, ℕ, List, [], ◌∷◌, map, get_or, sym, ap, ◌∙◌, subst, drop}
use Rattle.weave_data.specs.Limits.{most_gates}
use Rattle.weave_entries.specs.declared.gate_log.GateEntry.{GateEntry}
use Rattle.weave_entries.specs.declared.oracle_log.OracleEntry.{OracleEntry}
use Rattle.weave_entries.specs.OracleReplay.{pairs_of_log}
use Rattle.backing_store.specs.Commits.{asked_at}
use Rattle.weave_account.specs.Account.{IsBegunStamp}
use Rattle.chronicle.specs.Passes.{IsReady, lock_noted, number_of, own_entries, seen_by_pass}
use Rattle.lock_row.specs.Rows.{names_of}
use Rattle.chronicle.specs.Holds.{log_at_entry, machine_of}
use Rattle.seen_logs.specs.Entries.{oracle_entries, oracle_pairs}
use Rattle.oracle_lock.specs.Seen.{gates_noted, gates_seen, of_gates, AreGateLogs, OracleIsKept, OracleView}
use Rattle.lock_row.proofs.Meetings.{as_many}
use Rattle.store_lock.proofs.Begun.{stamp-stays}
use Rattle.store_lock.proofs.Committing.{follows, judged-over}
use Rattle.store_lock.proofs.judging.judge_over.Goals as goal

pub enter-held-requires : goal.enter-held-requires
enter-held-requires g c = c.requires.pass

pub meet-requires : goal.meet-requires
meet-requires g c =
    let frame = c.enter-held.ensures.frame ∙ c.requires.frame in
    let shards : c.state-state.result.now.shards ≡ c.args.shards = ap (λ (v : OracleView). v.shards) c.state-state.ensures.value
    ∙ ap (λ (f : List (List ℕ)). get_or (get_or f 0 []) 0 0) frame in record {
      passes = c.requires.passes;
      names = ap (λ (v : OracleView). map lock_noted v.gates) c.state-state.ensures.value ∙ ap (drop 1) frame;
      ready = c.requires.all_ready;
      legal = subst (λ (n : ℕ). AreGateLogs n (gates_seen c.args.passes.now)) (sym shards) c.requires.legal;
    }

pub judge-judged-requires : goal.judge-judged-requires
judge-judged-requires g c =
    let locks = c.args.gates.now in
    let names : map lock_noted c.meet.new.self.gates ≡ names_of locks = c.meet.ensures.names
    ∙ (ap (λ (v : OracleView). map lock_noted v.gates) c.state-state.ensures.value ∙ ap (drop 1) (c.enter-held.ensures.frame ∙ c.requires.frame)) in record {
      few = c.requires.few;
      gates = subst (λ (n : ℕ). n ≤ most_gates) (sym (as_many locks c.meet.new.self.gates names)) c.requires.gates;
      new = c.requires.new;
      begun = λ event h. subst (λ (logs : List (List GateEntry)). IsBegunStamp (of_gates logs) event) (sym c.meet.ensures.one)
          (stamp-stays c.references_go_on.ensures.oracle (gates_seen c.args.passes.now) (gates_seen c.meet.new.passes) c.meet.ensures.passes_on event
          (c.requires.begun event h));
    }

pub leave-requires : goal.leave-requires
leave-requires g c =
    let before = c.meet.new.self.oracle in
    let value = c.state-state.ensures.value in
    let entered = c.enter-held.ensures.entry ∙ (ap (λ (v : OracleView). oracle_pairs v.oracle) (sym value)
    ∙ ap (λ (l : List OracleEntry). oracle_pairs l) (sym c.meet.ensures.oracle)) in
    let shards = c.judge-judged.ensures.shards ∙ (c.meet.ensures.shards ∙ ap (λ (v : OracleView). v.shards) value) in
    let names = ap (λ ns. map lock_noted ns) c.judge-judged.ensures.notes ∙ (c.meet.ensures.names ∙ ap (λ (v : OracleView). map lock_noted v.gates) value) in record {
      pass = record {
        table_is = c.enter-held.ensures.pass.table_is;
        seat_is = c.enter-held.ensures.pass.seat_is;
        number_is = c.enter-held.ensures.pass.number_is;
      };
      frame = (λ i. (shards i ∷ []) ∷ names i) ∙ (c.enter-held.ensures.frame ∙ sym (ap (λ l. l.frame) c.enter-held.ensures.lock));
      log = follows (number_of c.enter-held.new.pass) c.number-author.result (log_at_entry c.enter-held.result) before c.judge-judged.new.self.oracle
          (pairs_of_log before) (asked_at c.args.store.now c.args.stamp c.args.ops.now) c.args.stamp c.judge-judged.result
          (c.number-author.ensures ∙ sym c.enter-held.ensures.number) entered c.judge-judged.ensures.logged c.judge-judged.ensures.oracle;
    }

pub returns : goal.returns
returns g c =
    let locks = c.args.gates.now in
    let before = c.meet.new.self.oracle in
    let after = c.judge-judged.new.self in
    let did = c.judge-judged.ensures in
    let value = c.state-state.ensures.value in
    let frame = c.enter-held.ensures.frame ∙ c.requires.frame in
    let notes = c.state-state.result.now.gates in
    let names : map lock_noted notes ≡ names_of locks = ap (λ (v : OracleView). map lock_noted v.gates) value ∙ ap (drop 1) frame in
    let shards : c.state-state.result.now.shards ≡ c.args.shards = ap (λ (v : OracleView). v.shards) value
    ∙ ap (λ (f : List (List ℕ)). get_or (get_or f 0 []) 0 0) frame in
    let entered = ap (λ (v : OracleView). oracle_pairs v.oracle) (sym value) ∙ ap (λ (l : List OracleEntry). oracle_pairs l) (sym c.meet.ensures.oracle) in
    let now_shards : after.shards ≡ c.args.shards = did.shards ∙ (c.meet.ensures.shards ∙ shards) in
    let now_gates : gates_noted after.gates ≡ gates_seen c.meet.new.passes = ap (λ ns. gates_noted ns) did.notes ∙ c.meet.ensures.one in
    let now_log : after.oracle ≡ oracle_entries (seen_by_pass c.leave.new.pass) = sym (ap (λ l. oracle_entries l) c.leave.ensures.seen
    ∙ c.pairs_tell_entries.ensures after.oracle) in record {
      ready = subst (λ l. IsReady l c.leave.new.pass) c.enter-held.ensures.lock c.leave.ensures.ready;
      number = c.leave.ensures.number ∙ c.enter-held.ensures.number;
      passes = c.meet.ensures.passes;
      all_ready = c.meet.ensures.ready;
      passes_on = c.meet.ensures.passes_on;
      legal = subst (λ (n : ℕ). AreGateLogs n (gates_seen c.meet.new.passes)) shards c.meet.ensures.legal;
      kept = subst (λ (z : ℕ × List (List GateEntry) × List OracleEntry). OracleIsKept z.0 z.1 z.2) (λ i. (now_shards i, now_gates i, now_log i))
          c.shows_what_it_keeps.ensures;
      met = (notes, c.meet.new.self.gates, as_many locks notes names, c.meet.ensures.met);
      answer = (
        before,
        judged-over (number_of c.args.pass.now) c.number-author.result c.args.request c.args.stamp c.args.ops.now c.args.store.now c.judge-judged.new.store
            (seen_by_pass c.args.pass.now) (own_entries c.args.pass.now) (oracle_pairs (machine_of c.enter-held.result).oracle)
            (seen_by_pass c.leave.new.pass) before after.oracle c.judge-judged.result c.number-author.ensures entered
            c.leave.ensures.seen c.enter-held.ensures.log c.enter-held.ensures.own (record {
              verdict = did.verdict;
              entry = did.entry;
              logged = did.logged;
              pairs = did.pairs;
              store = did.store;
              oracle = did.oracle;
            }),
      );
    }
