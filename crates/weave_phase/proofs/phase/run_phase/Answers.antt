use Rattle.std.proofs.Common.{◌≡◌, ℕ, List, length, slice_index_or, ◌<◌, ◌≤◌, sym, ap, subst, ◌∙◌, arith}
use Rattle.shard_node.specs.Shards.{ShardView}
use Rattle.weave_entries.specs.ShardRules.{IsShardLog}
use Rattle.program_defs.specs.declared.script.Script.{Script}
use Rattle.weave_account.specs.declared.account.Account.{Account}
use Rattle.step_rules.specs.CoreState.{CoreState}
use Rattle.weaver_core.specs.Splitting.{account_of}
use Rattle.weaver_workers.specs.Phases.{phase_end, phase_start}
use Rattle.weaver_workers.specs.Workers.{HasPhase}
use Rattle.workers_account.specs.Ready.{IsAnsweredUpTo}
use Rattle.workers_account.specs.SessionRuns.{HasNoRequest}
use Rattle.weave_phase.proofs.PhaseRuns.{runs-none, runs-parts}
use Rattle.weave_phase.proofs.Rising.{others-idle, sessions-count, sessions-few, sessions-rise}
use Rattle.weave_phase.proofs.phase.run_phase.Goals as goal

pub returns-then-upto-from : goal.returns-then-upto-from
returns-then-upto-from g c =
    let script = c.args.core.script in
    let phase = c.args.phase in
    let from-is : c.start_of_phase-from.result ≡ phase_start script phase = c.start_of_phase-from.ensures ∙ ap (λ (s : Script). phase_start s phase) c.script.ensures.script in
    let upto-is : c.end_of_phase-upto.result ≡ phase_end script phase = c.end_of_phase-upto.ensures ∙ ap (λ (s : Script). phase_end s phase) c.script-2.ensures.script in
    let test = c.if-upto-from.true in
    let no-later : phase_end script phase ≤ phase_start script phase = omega (arith, from-is, upto-is, test) in
    runs-none (phase_start script phase) (phase_end script phase) c.args.core no-later c.requires.landed c.requires.before

pub run_parts-requires-clause-parts : goal.run_parts-requires-clause-parts
run_parts-requires-clause-parts g c κs within = record {
  joined = c.split-split.ensures.joined;
  store = c.shows_store.ensures;
  shards = subst (λ (l : List ShardView). (k : ℕ) (s : ShardView) → k < length l → IsShardLog (slice_index_or l k s).gates (slice_index_or l k s).log)
      c.as_slice.ensures.value c.shows_shards.ensures;
  has = subst (λ (s : Script). HasPhase s c.args.phase) (sym c.split-split.ensures.script) c.requires.phase;
  answered = subst (λ (s : Script). IsAnsweredUpTo s (phase_start s c.args.phase) (account_of c.split-split.result)) (sym c.split-split.ensures.script)
      (subst (λ (a : Account). IsAnsweredUpTo c.args.core.script (phase_start c.args.core.script c.args.phase) a) (sym (ap (λ (s : CoreState). s.account) c.split-split.ensures.state)) c.requires.before);
}

pub run_parts-requires-clause-rising : goal.run_parts-requires-clause-rising
run_parts-requires-clause-rising g c κs within = sessions-rise c.split-split.result.script c.start_of_phase-from.result c.end_of_phase-upto.result c.as_slice-2.result.now (c.as_slice-2.ensures.value ∙ c.in_ok-sessions.ensures)

pub run_parts-requires-clause-few : goal.run_parts-requires-clause-few
run_parts-requires-clause-few g c κs within = sessions-few c.split-split.result.script c.start_of_phase-from.result c.end_of_phase-upto.result c.as_slice-2.result.now (c.as_slice-2.ensures.value ∙ c.in_ok-sessions.ensures)

pub run_parts-requires-clause-count : goal.run_parts-requires-clause-count
run_parts-requires-clause-count g c κs within = sessions-count c.split-split.result.script c.start_of_phase-from.result c.end_of_phase-upto.result c.as_slice-2.result.now (c.as_slice-2.ensures.value ∙ c.in_ok-sessions.ensures)

pub run_parts-requires-clause-all : goal.run_parts-requires-clause-all
run_parts-requires-clause-all g c κs within =
    let script = c.split-split.result.script in
    let phase = c.args.phase in
    let from = c.start_of_phase-from.result in
    let upto = c.end_of_phase-upto.result in
    let same = c.split-split.ensures.script in
    let from-is : from ≡ phase_start script phase = c.start_of_phase-from.ensures ∙ ap (λ (s : Script). phase_start s phase) (c.script.ensures.script ∙ sym same) in
    let upto-is : upto ≡ phase_end script phase = c.end_of_phase-upto.ensures ∙ ap (λ (s : Script). phase_end s phase) (c.script-2.ensures.script ∙ sym same) in
    let has = subst (λ (s : Script). HasPhase s phase) (sym same) c.requires.phase in
    let most : upto ≤ length script.requests = subst (λ n. n ≤ length script.requests) (sym upto-is) has.within in
    λ session none. subst (λ (bounds : ℕ × ℕ). HasNoRequest script bounds.0 bounds.1 session) (λ i. (from-is i, upto-is i))
    (others-idle script from upto c.as_slice-2.result.now (c.as_slice-2.ensures.value ∙ c.in_ok-sessions.ensures) c.split-split.ensures.joined.limits most session none)

pub returns : goal.returns
returns g c =
    runs-parts c.args.phase c.args.core c.join.result c.split-split.result c.in_ok-left.left c.split-split.ensures.script c.split-split.ensures.state
    c.in_ok-left.ensures c.join.ensures.script c.join.ensures.state
