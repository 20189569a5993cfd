-- `send` keeps a core.
-- Used by Stepping.
use Rattle.std.proofs.Common.{◌≡◌, ℕ, ◌<◌, ◌==◌, cond, List, [], ◌∷◌, map, Contains, IsTrue, Option, None, Some, refl, sym, ap, subst, ◌∙◌, inl, inr}
use Rattle.std.specs.Prelude.{is_some, IsSomeAnd}
use Rattle.std.specs.List.{flat_map}
use Rattle.std.proofs.lemmas.Bool.{eqb-true}
use Rattle.weave_data.proofs.Members.{find_has, flat_has, has_read, has_none, map_has, only}
use Rattle.vector_stamp.specs.declared.clock.Clock.{Clock}
use Rattle.program_defs.specs.declared.program.Program.{Program}
use Rattle.program_defs.specs.declared.script.Request.{Request}
use Rattle.program_defs.specs.declared.script.Script.{Script}
use Rattle.program_defs.specs.declared.script.Step.TheVariants.{Send}
use Rattle.program_defs.specs.declared.script.Work.{Work}
use Rattle.program_defs.specs.declared.script.Work.TheVariants.{Change, Look}
use Rattle.program_defs.specs.Works.{is_change}
use Rattle.graph_ops.specs.declared.op.Op.{Op}
use Rattle.report_rules.specs.Lookups.{request_at}
use Rattle.report_rules.specs.declared.report.StepAnswer.TheVariants.{Ok, Idle}
use Rattle.weave_entries.specs.declared.gate_log.GateEntry.{GateEntry}
use Rattle.weave_entries.specs.declared.gate_log.GateDeed.{GateDeed}
use Rattle.weave_entries.specs.declared.gate_log.GateDeed.TheVariants as gate
use Rattle.weave_entries.specs.declared.message.Addressed.{Addressed}
use Rattle.weave_entries.specs.declared.verdict.Counted.{Counted}
use Rattle.weave_entries.specs.declared.verdict.Verdict.{Verdict}
use Rattle.weave_entries.specs.declared.verdict.Verdict.TheVariants.{Committed, Conflict, Refused}
use Rattle.weave_entries.specs.GateReplay.{BegunRequest, clocks_of_message, flight_of, low_mark, running_of}
use Rattle.weave_entries.specs.GateRules.{Sends}
use Rattle.weave_entries.specs.Sending.{message_to, messages_of, shards_named}
use Rattle.weave_entries.specs.StoreReplay.{Judgement, judgement_of, judgements_of}
use Rattle.weave_entries.proofs.OwnStamps.{program-begun}
use Rattle.weave_account.specs.declared.account.Account.{Account}
use Rattle.weave_account.specs.Account.{gate_log, all_begun}
use Rattle.weave_account.specs.Channels.{SendsJudged}
use Rattle.weave_account.specs.Clocks.{IsKnown}
use Rattle.step_rules.specs.CoreState.{CoreState, with_gate_deed}
use Rattle.step_rules.specs.Answers.{answer_of, answer_of_send}
use Rattle.step_rules.specs.Entries.{after_send, judgement_in_flight, state_with}
use Rattle.step_rules.specs.IsCore.{IsCore}
use Rattle.step_rules.proofs.Basis.{Basis}
use Rattle.step_rules.proofs.Clashes.{not-ok}
use Rattle.step_rules.proofs.Begun.{all-in, flight-begun, inside-log, one-begun}
use Rattle.step_rules.proofs.QuietGateEntry.{known-after, gate-goes-on}
use Rattle.step_rules.proofs.GateSteps.{deed-keeps}

-- The clocks of a commit's messages

module _ (shards : ℕ) (log : List GateEntry) (flight : BegunRequest) (ops : List Op) (IsGood : Clock → Type 0)
    (stamp-good : IsGood flight.stamp.clock) (low-good : IsGood (low_mark flight.stamp (running_of log))) where
  to-shards : (counts : List Counted) (clock : Clock) → Contains (flat_map clocks_of_message (map (message_to shards log flight ops counts) (shards_named shards counts))) clock → IsGood clock
  to-shards counts clock h =
      let addressed = flat_has clocks_of_message (map (message_to shards log flight ops counts) (shards_named shards counts)) clock h in
      let shard = map_has (message_to shards log flight ops counts) (shards_named shards counts) addressed.0 addressed.1 in
      let here : Contains (flight.stamp.clock ∷ low_mark flight.stamp (running_of log) ∷ []) clock = subst (λ (a : Addressed). Contains (clocks_of_message a) clock) (sym shard.2) addressed.2 in
      elim (has_read flight.stamp.clock (low_mark flight.stamp (running_of log) ∷ []) clock here) [
        | inl same ↦ subst IsGood same stamp-good
        | inr rest ↦ subst IsGood (only (low_mark flight.stamp (running_of log)) clock rest) low-good
      ]

  -- what is true of the clock of the flight's stamp and of its low mark is true of each clock in its messages
  pub messages-good : (verdict : Verdict) (clock : Clock) → Contains (flat_map clocks_of_message (messages_of shards log flight ops verdict)) clock → IsGood clock
  messages-good (Committed number answers counts) clock h = to-shards counts clock h
  messages-good (Conflict v newer) clock h = absurd (has_none clock h)
  messages-good (Refused op reason at) clock h = absurd (has_none clock h)

-- The step

no-change : (work : Work) (program : Program) → IsTrue (is_change work) → work ≡ Look program → ⊥
no-change (Change ops) program change look = cc
no-change (Look other) program change look = cc

module _ (script : Script) (state : CoreState) (basis : Basis script state) (g : ℕ) (inside : g < script.gates)
    (flight : BegunRequest) (flies : flight_of (gate_log state.account g) ≡ Some flight) (judged : Judgement) (found : judgement_of flight.request state.account.store ≡ Some judged) where
  abbrev account : Account
  account = state.account

  abbrev log : List GateEntry
  log = gate_log account g

  abbrev messages : List Addressed
  messages = messages_of script.shards log flight judged.ops judged.verdict

  abbrev deed : GateDeed
  deed = gate.Sent flight.request messages

  abbrev now : Account
  now = with_gate_deed account g flight.author deed

  has : Contains (judgements_of account.store) judged × IsTrue (judged.request == flight.request)
  has = find_has (λ (one : Judgement). one.request == flight.request) (judgements_of account.store) judged found

  request-is : judged.request ≡ flight.request
  request-is = eqb-true judged.request flight.request has.1

  begun : Contains (all_begun account) flight
  begun = flight-begun basis.laws basis.further script account basis.limits basis.core.account g inside flight flies

  -- what was judged is what is in flight
  same-begun : record { author = judged.author; request = judged.request; stamp = judged.stamp } ≡ flight
  same-begun = one-begun account basis.core.account.gatekeepers.once (record { author = judged.author; request = judged.request; stamp = judged.stamp }) flight
      (basis.further.accounts.judged_begun script account basis.limits basis.core.account judged has.0) begun request-is

  sends : Sends script.shards log flight.author flight.request messages
  sends = record {
    stamp = flight.stamp;
    flight = flies;
    ops = judged.ops;
    verdict = judged.verdict;
    counts = basis.further.accounts.judged_counts script account basis.limits basis.core.account judged has.0;
    messages_are = refl;
  }

  sends-judged : SendsJudged now script.shards log flight.author flight.request messages
  sends-judged = record {
    judged = judged;
    is_judged = has.0;
    request_is = request-is;
    messages_are = ap (λ s. messages_of script.shards log (record { author = flight.author; request = flight.request; stamp = s }) judged.ops judged.verdict) (sym (ap (λ (b : BegunRequest). b.stamp) same-begun));
  }

  no-program : (r : ℕ) (request : Request) (program : Program) → request_at script r ≡ Some request → request.work ≡ Look program → Contains (flight.request ∷ []) r → ⊥
  no-program r request program at look h =
      let same : request_at script flight.request ≡ Some request = ap (request_at script) (only flight.request r h) ∙ at in
      let one = in-flight request same (basis.further.accounts.flights script account basis.limits basis.core.account g flight flies) in
      no-change request.work program one look
    where
      in-flight : (request : Request) → request_at script flight.request ≡ Some request
          → IsSomeAnd (request_at script flight.request) (λ (other : Request). (other.gate ≡ g) × IsTrue (is_change other.work)) → IsTrue (is_change request.work)
      in-flight request is some = (subst (λ o. IsSomeAnd o (λ (other : Request). (other.gate ≡ g) × IsTrue (is_change other.work))) is some).1

  known-begun : (b : BegunRequest) → Contains (all_begun account) b → IsKnown account b.stamp.clock
  known-begun b h = basis.laws.accounts.known_begun script account basis.limits basis.core.account b h

  running-begun : (b : BegunRequest) → Contains (running_of log) b → Contains (all_begun account) b
  running-begun b h =
      let program = (basis.laws.logs.open_running g script.shards log (basis.core.account.gatekeepers.logs g) (basis.further.accounts.each_once script account basis.limits basis.core.account g) b).0 h in
      all-in account g b (inside-log basis.laws basis.further script account basis.limits basis.core.account g inside) (program-begun log b program.0)

  knows : (clock : Clock) → Contains (flat_map clocks_of_message messages) clock → IsKnown now clock
  knows clock h =
      let after = known-after basis.laws script account basis.limits basis.core.account g inside flight.author deed refl in
      after clock (messages-good script.shards log flight judged.ops (IsKnown account) (known-begun flight begun)
      (basis.further.accounts.low account flight.stamp (running_of log) (known-begun flight begun) (λ b has. known-begun b (running-begun b has))) judged.verdict clock h)

  -- that a transaction in flight is sent, with the messages of its judgement, keeps a core
  pub sent-keeps : IsCore script (record { account = now; notices = state.notices })
  sent-keeps = deed-keeps script state basis g inside flight.author deed refl
      (gate-goes-on basis.laws script account basis.limits basis.core.account g inside flight.author deed refl sends knows tt sends-judged no-program)

module _ (script : Script) (state : CoreState) (basis : Basis script state) where
  -- a `send` that is done keeps a core
  pub send-keeps : (g : ℕ) → g < script.gates → answer_of script state (Send g) ≡ Ok → IsCore script (state_with script state (Send g))
  send-keeps g inside ok = at (flight_of (gate_log state.account g)) refl ok
    where
      at : (o : Option BegunRequest) → flight_of (gate_log state.account g) ≡ o → answer_of_send state.account o ≡ Ok
          → IsCore script (record { account = after_send script state.account g o (judgement_in_flight state.account o); notices = state.notices })
      at None e ok = not-ok Idle refl ok
      at (Some flight) e ok = by-judgement (judgement_of flight.request state.account.store) refl ok
        where
          by-judgement : (j : Option Judgement) → judgement_of flight.request state.account.store ≡ j → cond (is_some j) Ok Idle ≡ Ok
              → IsCore script (record { account = after_send script state.account g (Some flight) j; notices = state.notices })
          by-judgement None is ok = not-ok Idle refl ok
          by-judgement (Some judged) is ok = sent-keeps script state basis g inside flight e judged is
