use Rattle.std.proofs.Common.{ℕ, List, ◌≡◌, ◌∷◌, ◌++◌, map, take, sym, subst, arith}
use Rattle.std.specs.Prelude.{IfOk, OnErr, OnOk}
use Rattle.std.proofs.lemmas.List.{length-map}
use Rattle.weave_entries.specs.declared.oracle_log.OracleEntry.{OracleEntry}
use Rattle.weave_entries.specs.declared.gate_log.GateDeed.{GateDeed}
use Rattle.weave_entries.specs.OracleReplay.{oracle_entry_of, pairs_of_log}
use Rattle.weave_entries.specs.ShardReplay.{state_of_updates, updates_of}
use Rattle.weave_entries.specs.ShardRules.{entries_of_visit, kept_stamps, pairs_after_visit, updates_read}
use Rattle.chronicle.specs.declared.note.Note.{Note}
use Rattle.chronicle.specs.Passes.{seen_by_note}
use Rattle.seen_logs.specs.Entries.{gate_entries}
use Rattle.oracle_lock.specs.Seen.{gates_noted, OracleIsKept}
use Rattle.shard_lock.proofs.Lending.{logged, not-logged, visited-keeps}
use Rattle.shard_lock.proofs.visiting.visit_with.Goals as goal

pub visit-read-requires-clause-coherent : goal.visit-read-requires-clause-coherent
visit-read-requires-clause-coherent c =
    let notes = c.args.oracle.now.gates in
    let few = c.requires.gates in
    let long = length-map notes (λ (note : Note GateDeed). gate_entries (seen_by_note note)) in
    c.known_events_are_begun.ensures.coherent c.args.oracle.now.shards (gates_noted notes) c.lend-judge.result
    (c.args.stamp ∷ kept_stamps c.args.vertex c.args.shard.now.log) c.lend-judge.ensures.kept (omega (arith, long, few)) c.requires.begun

pub give_back-requires : goal.give_back-requires
give_back-requires c =
    let gates = gates_noted c.args.oracle.now.gates in
    let before = c.lend-judge.result in
    let after = c.visit-read.new.judge in
    subst (λ (z : ℕ × List (Note GateDeed)). OracleIsKept z.0 (gates_noted z.1) after)
    (λ i. (sym c.lend-judge.ensures.shards i, sym c.lend-judge.ensures.notes i))
    (visited-keeps (pairs_of_log before) c.args.author c.args.stamp c.args.vertex c.args.shard.now.log before after
    (λ entries. c.settling_keeps.ensures.log before after entries) c.args.oracle.now.shards gates
    (λ entries. c.settling_keeps.ensures.kept c.args.oracle.now.shards gates before after entries c.lend-judge.ensures.kept)
    c.visit-read.result c.lend-judge.ensures.kept c.visit-read.ensures.logged c.visit-read.ensures.not_logged c.log.ensures.right
    c.requires.begun)

pub returns-clause-state : goal.returns-clause-state
returns-clause-state c =
    let log = c.args.shard.now.log in
    subst (λ (l : List OracleEntry). IfOk c.visit-read.result (λ state. state
    ≡ state_of_updates (take (updates_read (pairs_of_log l) c.args.stamp c.args.vertex log) (updates_of c.args.vertex log))))
    c.lend-judge.ensures.oracle c.visit-read.ensures.state

pub returns-clause-logged : goal.returns-clause-logged
returns-clause-logged c =
    let log = c.args.shard.now.log in
    let before = c.lend-judge.result in
    let after = c.visit-read.new.judge in
    let is = logged (pairs_of_log before) c.args.author c.args.stamp c.args.vertex log before after
    (λ entries. c.settling_keeps.ensures.log before after entries) c.visit-read.result c.visit-read.ensures.logged in
    subst (λ (z : List OracleEntry × List OracleEntry). OnOk c.visit-read.result (z.0
    ≡ z.1 ++ map oracle_entry_of (entries_of_visit (pairs_of_log z.1) c.args.author c.args.stamp c.args.vertex log)))
    (λ i. (sym c.give_back.ensures.oracle i, c.lend-judge.ensures.oracle i)) is

pub returns-clause-pairs : goal.returns-clause-pairs
returns-clause-pairs c =
    let log = c.args.shard.now.log in
    subst (λ (z : List OracleEntry × List OracleEntry). OnOk c.visit-read.result (pairs_of_log z.0
    ≡ pairs_after_visit (pairs_of_log z.1) c.args.stamp c.args.vertex log))
    (λ i. (sym c.give_back.ensures.oracle i, c.lend-judge.ensures.oracle i)) c.visit-read.ensures.pairs

pub returns-clause-oracle : goal.returns-clause-oracle
returns-clause-oracle c =
    let before = c.lend-judge.result in
    let after = c.visit-read.new.judge in
    let is = not-logged (pairs_of_log before) c.args.author c.args.stamp c.args.vertex c.args.shard.now.log before after
    (λ entries. c.settling_keeps.ensures.log before after entries) c.visit-read.result c.visit-read.ensures.not_logged in
    subst (λ (z : List OracleEntry × List OracleEntry). OnErr c.visit-read.result (z.0 ≡ z.1))
    (λ i. (sym c.give_back.ensures.oracle i, c.lend-judge.ensures.oracle i)) is
