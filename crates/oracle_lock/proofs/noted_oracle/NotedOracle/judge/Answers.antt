use Rattle.std.proofs.Common.{◌≡◌, List, ◌∷◌, Contains, sym, ap, subst}
use Rattle.std.specs.Prelude.{IfOk}
use Rattle.vector_stamp.specs.declared.clock.Stamp.{Stamp}
use Rattle.weave_entries.specs.declared.gate_log.GateDeed.{GateDeed}
use Rattle.weave_entries.specs.declared.oracle_log.OracleEntry.{OracleEntry}
use Rattle.weave_entries.specs.OracleReplay.{pairs_of_log}
use Rattle.weave_entries.specs.StoreReplay.{commits_of}
use Rattle.backing_store.specs.Commits.{asked_at, stamps_kept, verdict_at}
use Rattle.weave_account.specs.Account.{IsBegunStamp}
use Rattle.chronicle.specs.declared.note.Note.{Note}
use Rattle.oracle_lock.specs.Seen.{gates_noted, of_gates, OracleView}
use Rattle.oracle_lock.proofs.Judging.{asked-begun, few-noted, judged-keeps}
use Rattle.oracle_lock.proofs.noted_oracle.NotedOracle.judge.Goals as goal

pub commit-judged-requires-clause-coherent : goal.commit-judged-requires-clause-coherent
commit-judged-requires-clause-coherent c =
    let notes = c.self.inside.gates.items in
    let kept = stamps_kept (commits_of c.args.store.now) in
    let same = ap (λ (v : OracleView). v.gates) c.self.view_is in
    c.known_events_are_begun.ensures.coherent c.self.inside.shards (gates_noted notes) c.self.inside.oracle (c.args.stamp ∷ kept) c.self.invariant
    (few-noted notes c.args.self.now.gates same c.requires.gates)
    (subst (λ (ns : List (Note GateDeed)). (event : Stamp) → Contains (c.args.stamp ∷ kept) event → IsBegunStamp (of_gates (gates_noted ns)) event)
    (sym same) c.requires.begun)

pub invariant_of-self : goal.invariant_of-self
invariant_of-self c =
    let notes = c.self.inside.gates.items in
    let gates = gates_noted notes in
    let before = c.self.inside.oracle in
    let after = c.commit-judged.new.judge in
    let stamp = c.args.stamp in
    let asked = asked_at c.args.store.now stamp c.args.ops.now in
    let kept = stamps_kept (commits_of c.args.store.now) in
    let same = ap (λ (v : OracleView). v.gates) c.self.view_is in
    let done = c.commit-judged.ensures in
    let begun = subst (λ (ns : List (Note GateDeed)). (event : Stamp) → Contains (stamp ∷ kept) event → IsBegunStamp (of_gates (gates_noted ns)) event)
    (sym same) c.requires.begun in
    judged-keeps c.self.inside.shards gates before after c.args.author (pairs_of_log before) asked stamp
    (λ entries. c.settling_keeps.ensures.kept c.self.inside.shards gates before after entries c.self.invariant)
    c.commit-judged.result c.self.invariant done.logged done.judge c.log.ensures.right
    (asked-begun gates stamp asked kept (λ one h. c.what_is_asked_is_kept.ensures.asked c.args.store.now stamp one c.args.ops.now h) begun)

pub returns-clause-verdict : goal.returns-clause-verdict
returns-clause-verdict c =
    subst (λ (log : List OracleEntry). IfOk c.commit-judged.result (λ verdict.
    verdict ≡ verdict_at (pairs_of_log log) c.args.store.now c.args.stamp c.args.ops.now))
    (ap (λ (v : OracleView). v.oracle) c.self.view_is) c.commit-judged.ensures.verdict
