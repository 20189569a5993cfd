-- If the store and the oracle did `judge` with an answer, the machines did this step, with the same answer.
-- Used by `judge`.
use Rattle.std.proofs.Common.{◌≡◌, ◌≢◌, ◌⊎◌, ℕ, ◌<◌, List, [], ◌∷◌, ◌++◌, length, Contains, IsTrue, Option, None, Some, inl, inr, refl, sym, ap, subst, ◌∙◌, arith}
use Rattle.std.specs.Prelude.{is_some, ◌==◌, IsSome, IsSomeAnd, if◌then◌else◌}
use Rattle.std.proofs.lemmas.Bool.{eq-eqb}
use Rattle.std.proofs.lemmas.List.Elements.{All-from_recursion, Contains-append_cases, Contains-get_or}
use Rattle.weave_data.proofs.Members.{find_lacks, has_flat, has_map, has_read, map_has}
use Rattle.weave_data.proofs.ListPlaces.{all-from}
use Rattle.vector_stamp.specs.declared.clock.Clock.{Clock}
use Rattle.vector_stamp.specs.declared.clock.Stamp.{Stamp}
use Rattle.vector_stamp.specs.Order.{id_of}
use Rattle.order_graph.specs.Building.{ends_of}
use Rattle.program_defs.specs.Limits.{IsWithinLimits}
use Rattle.program_defs.specs.Works.{is_change}
use Rattle.program_defs.specs.declared.script.Request.{Request}
use Rattle.program_defs.specs.declared.script.Script.{Script}
use Rattle.program_defs.specs.declared.script.Step.TheVariants as step
use Rattle.report_rules.specs.Lookups.{request_at}
use Rattle.report_rules.specs.declared.report.StepAnswer.{StepAnswer}
use Rattle.report_rules.specs.declared.report.StepAnswer.TheVariants as answer
use Rattle.weave_entries.specs.declared.oracle_log.OracleEntry.{OracleEntry}
use Rattle.weave_entries.proofs.OwnStamps.{tx-begun}
use Rattle.weaver_core.specs.ShardTable.{ShardTable}
use Rattle.weave_entries.specs.declared.store_log.StoreEntry.{StoreEntry}
use Rattle.weave_entries.specs.GateReplay.{BegunRequest, begun_in, flight_of}
use Rattle.weave_entries.specs.OracleReplay.{pairs_of_log}
use Rattle.weave_entries.specs.StoreReplay.{Judgement, commits_of, judgement_of, judgements_of}
use Rattle.weave_entries.specs.StoreRule.{stamps_judged, ops_bound}
use Rattle.backing_store.specs.Commits.{stamps_kept}
use Rattle.weave_account.specs.declared.account.Account.{Account}
use Rattle.weave_account.specs.Account.{IsBegunStamp, all_begun, begun_stamps, gate_log}
use Rattle.weave_account.specs.IsAccount.{IsAccount}
use Rattle.step_rules.specs.Answers.{answer_of_judge}
use Rattle.step_rules.specs.Entries.{after_judge}
use Rattle.step_rules.specs.Requests.{ops_in}
use Rattle.weaver_core.specs.Sessions.{ClientTable}
use Rattle.weaver_core.specs.Cores.{AreOf, MachinesDo, MachinesView, machines_of}
use Rattle.weaver_core.specs.GateTable.{GateTable, gate_log_at}
use Rattle.weaver_core.specs.Judging.{CanBeJudged, HasVerdict, IsJudgedNow, JudgesFlight}
use Rattle.weaver_core.proofs.CitedLaws.{AskedLaws, BegunLaws, RunLaws}
use Rattle.weaver_core.proofs.Resting.{done, rests}

-- the laws that are cited of a judgement
pub record JudgeLaws : Type 0 where
  pub stamps : BegunLaws
  pub asked : AskedLaws
  pub run : RunLaws
  -- within limits, what is in flight at a gatekeeper is a transaction for it (`requests_end_or_go_on`)
  pub flights : (script : Script) (account : Account) → IsWithinLimits script → IsAccount script account → (home : ℕ) (flight : BegunRequest) → flight_of (gate_log account home) ≡ Some flight
      → IsSomeAnd (request_at script flight.request) (λ (request : Request). (request.gate ≡ home) × IsTrue (is_change request.work))
  -- in an account within limits, each judgement's stamp is that of a begun request (`stamps_are_begun`)
  pub judged : (script : Script) (account : Account) → IsWithinLimits script → IsAccount script account → (judged : Judgement) → Contains (judgements_of account.store) judged → IsBegunStamp account judged.stamp
  -- each stamp that the store keeps of its commits is one of those it judged (`what_is_asked_is_kept`)
  pub kept : (log : List StoreEntry) (one : Stamp) → Contains (stamps_kept (commits_of log)) one → Contains (stamps_judged log) one

some-from : {A : Type 0} (o : Option A) (P : A → Type 0) → IsSomeAnd o P → IsSome o
some-from None P h = absurd h
some-from (Some x) P h = refl

module _ (script : Script) (gates : GateTable) (store : List StoreEntry) (oracle : List OracleEntry) (shards : ShardTable) (was : ClientTable) (notices : List Clock)
    (are : AreOf script (machines_of gates store oracle shards was notices)) (g : ℕ) where
  abbrev before : MachinesView
  before = machines_of gates store oracle shards was notices

  abbrev account : Account
  account = before.state.account

  -- what the store asks for
  module _ (laws : JudgeLaws) (below : g < script.gates) (flight : BegunRequest) (flies : flight_of (gate_log_at gates g) ≡ Some flight) (unjudged : judgement_of flight.request store ≡ None) where
    begun : Contains (all_begun account) flight
    begun =
        let tx = (laws.run.flight g script.shards (gate_log_at gates g) (are.core.account.gatekeepers.logs g) (laws.run.once script account are.limits are.core.account g) flight).0 flies in
        let many = are.frame.gates in
        has_flat begun_in gates.logs (gate_log_at gates g) flight (Contains-get_or gates.logs g [] (omega (arith, below, many))) (tx-begun (gate_log_at gates g) flight tx.0)

    -- no other request's stamp has its id
    differs : (stamp : Stamp) → Contains (stamps_judged store) stamp → id_of stamp ≢ id_of flight.stamp
    differs stamp h =
        let from = map_has (λ (judged : Judgement). judged.stamp) (judgements_of store) stamp h in
        let judged = from.0 in
        let other : judged.request ≢ flight.request = λ (e : judged.request ≡ flight.request). find_lacks (λ (one : Judgement). one.request == flight.request) (judgements_of store) judged unjudged from.1 (eq-eqb judged.request flight.request e) in
        let apart = laws.stamps.differ script account are.limits are.core.account (record { author = judged.author; request = judged.request; stamp = judged.stamp }) flight (laws.stamps.begun script account are.limits are.core.account judged from.1) begun other in
        subst (λ (s : Stamp). id_of s ≢ id_of flight.stamp) from.2 apart

    -- what the judge is asked of was begun
    known : (stamp : Stamp) → Contains (flight.stamp ∷ stamps_kept (commits_of store) ++ ends_of (pairs_of_log oracle)) stamp → Contains (begun_stamps account) stamp
    known stamp h = elim (has_read flight.stamp (stamps_kept (commits_of store) ++ ends_of (pairs_of_log oracle)) stamp h) [
      | inl same ↦ subst (λ (s : Stamp). Contains (begun_stamps account) s) same (has_map (λ (b : BegunRequest). b.stamp) (all_begun account) flight begun)
      | inr rest ↦ elim (Contains-append_cases (stamps_kept (commits_of store)) (ends_of (pairs_of_log oracle)) stamp rest) [
        | inl kept ↦
            let from = map_has (λ (judged : Judgement). judged.stamp) (judgements_of store) stamp (laws.kept store stamp kept) in
            subst (λ (s : Stamp). Contains (begun_stamps account) s) from.2 (laws.judged script account are.limits are.core.account from.0 from.1)
        | inr end ↦
            let from = laws.asked.no_others (pairs_of_log oracle) stamp end in
            let both = laws.asked.paired script account are.limits are.core.account from.0.0 from.0.1 from.1 in
            elim from.2 [
              | inl first ↦ subst (λ (s : Stamp). Contains (begun_stamps account) s) first both.0
              | inr second ↦ subst (λ (s : Stamp). Contains (begun_stamps account) s) second both.1
            ]
      ]
    ]

    few : (o : Option Request) → request_at script flight.request ≡ o → length (ops_in o) < ops_bound
    few None is = omega arith
    few (Some request) is = let most = are.limits.few_ops flight.request request is in omega (arith, most)

    -- the store can be asked for a verdict on a flight that has none
    pub can-be-judged : CanBeJudged script store oracle flight
    can-be-judged = record {
      there = some-from (request_at script flight.request) _ (laws.flights script account are.limits are.core.account g flight flies);
      few = few (request_at script flight.request) refl;
      new = All-from_recursion (λ (stamp : Stamp). id_of stamp ≢ id_of flight.stamp) (stamps_judged store) (all-from (λ (stamp : Stamp). id_of stamp ≢ id_of flight.stamp) (stamps_judged store) differs);
      coherent = laws.asked.part (flight.stamp ∷ stamps_kept (commits_of store) ++ ends_of (pairs_of_log oracle)) (begun_stamps account) (laws.stamps.coherent script account are.limits are.core.account) known;
    }

  -- what they did
  module _ (then_store : List StoreEntry) (then_oracle : List OracleEntry) where
    abbrev after : MachinesView
    after = machines_of gates then_store then_oracle shards was notices

    judged-done : IsJudgedNow script gates store then_store oracle then_oracle g → MachinesDo script (step.Judge g) before after answer.Ok
    judged-done did =
        done script (step.Judge g) before after
        (ap (answer_of_judge account) did.flies ∙ ap (λ (o : Option Judgement). if is_some o then answer.Idle else answer.Ok) did.unjudged)
        (ap (λ (all : Account). record { account = all; notices = notices }) ((λ i. record account { store = did.store_is i; oracle = did.oracle_is i }) ∙ sym (ap (after_judge script account) did.flies)))
        refl tt

    idle-is : (flight_of (gate_log_at gates g) ≡ None) ⊎ HasVerdict gates store g → answer_of_judge account (flight_of (gate_log_at gates g)) ≡ answer.Idle
    idle-is (inl none) = ap (answer_of_judge account) none
    idle-is (inr has) = ap (answer_of_judge account) has.flies ∙ ap (λ b. if b then answer.Idle else answer.Ok) has.judged

    -- by what store and oracle did at `judge`, the machines did this step, with the same answer
    pub judge-done : (a : StepAnswer) → JudgesFlight script gates store then_store oracle then_oracle g a → MachinesDo script (step.Judge g) before after a
    judge-done answer.Ok did = judged-done did
    judge-done answer.Idle did = rests script (step.Judge g) before after answer.Idle (idle-is did.2) refl (λ i. machines_of gates (did.0 i) (did.1 i) shards was notices)
    judge-done answer.Twice none = absurd none
    judge-done answer.Early none = absurd none
    judge-done answer.Busy none = absurd none
    judge-done answer.Old none = absurd none
    judge-done answer.Unknown none = absurd none
    judge-done answer.Repeat none = absurd none
    judge-done answer.Empty none = absurd none
    judge-done (answer.Waits v) none = absurd none
    judge-done (answer.Again s h) none = absurd none
