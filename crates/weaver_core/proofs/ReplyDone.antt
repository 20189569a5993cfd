-- If the sessions did `reply` of a transaction with an answer, the machines did this step, with the same answer.
-- Used by `reply`.
use Rattle.std.proofs.Common.{◌≡◌, ℕ, Bool, true, false, not, List, [], Contains, IsTrue, Option, Some, refl, sym, ap, subst, ◌∙◌, arith}
use Rattle.std.specs.Prelude.{◌&&◌, ◌||◌, ◌==◌, if◌then◌else◌}
use Rattle.std.proofs.lemmas.Option.{same_Some}
use Rattle.vector_stamp.specs.declared.clock.Clock.{Clock}
use Rattle.vector_stamp.specs.declared.clock.Stamp.{Stamp}
use Rattle.program_defs.specs.Limits.{IsWithinLimits}
use Rattle.program_defs.specs.Works.{is_change}
use Rattle.program_defs.specs.declared.script.Request.{Request}
use Rattle.program_defs.specs.declared.script.Script.{Script}
use Rattle.program_defs.specs.declared.script.Step.TheVariants as step
use Rattle.program_defs.specs.declared.script.Work.{Work}
use Rattle.program_defs.specs.declared.script.Work.TheVariants.{Change, Look}
use Rattle.report_rules.specs.Lookups.{is_some_and, request_at}
use Rattle.report_rules.specs.Meetings.{is_transaction}
use Rattle.report_rules.specs.declared.report.StepAnswer.{StepAnswer}
use Rattle.report_rules.specs.declared.report.StepAnswer.TheVariants as answer
use Rattle.weave_entries.specs.declared.oracle_log.OracleEntry.{OracleEntry}
use Rattle.weave_entries.specs.declared.session_log.SessionDeed.TheVariants.{Replied}
use Rattle.weave_account.proofs.InSession.{last-any}
use Rattle.weaver_core.specs.ShardTable.{ShardTable}
use Rattle.weave_entries.specs.declared.store_log.StoreEntry.{StoreEntry}
use Rattle.weave_entries.specs.GateReplay.{BegunRequest, flight_of, has_ended_in}
use Rattle.weave_entries.specs.SessionReplay.{has_begun_in}
use Rattle.weave_account.specs.declared.account.Account.{Account}
use Rattle.weave_account.specs.Account.{gate_log, session_log}
use Rattle.weave_account.specs.IsAccount.{IsAccount}
use Rattle.step_rules.specs.Answers.{answer_of_reply, for_request}
use Rattle.step_rules.specs.CoreState.{with_session_deed}
use Rattle.step_rules.specs.Entries.{after_reply, after_work, at_request}
use Rattle.step_rules.specs.Requests.{has_begun, has_ended, has_reply, is_answered}
use Rattle.weaver_core.specs.Sessions as clients
use Rattle.weaver_core.specs.Cores.{AreOf, MachinesDo, MachinesView, RepliesToChange, machines_of, values_after_reply}
use Rattle.weaver_core.specs.GateTable as gates
use Rattle.weaver_core.specs.GivingReplies.{HasGateAndSession, Replies, RepliesToOne, can_have_reply, is_flying, reply_of_change}
use Rattle.weaver_core.proofs.CitedLaws.{RequestLaws}
use Rattle.weaver_core.proofs.BeginDone.{requests-are}
use Rattle.weaver_core.proofs.Resting.{done, rests, session-gains}

-- the laws of weave_account that are cited
pub record ReplyLaws : Type 0 where
  pub requests : RequestLaws
  -- within limits, a begun transaction has ended exactly if it isn't in flight (`requests_end_or_go_on`)
  pub sent : (script : Script) (account : Account) → IsWithinLimits script → IsAccount script account → (r : ℕ) (request : Request) → request_at script r ≡ Some request → IsTrue (is_change request.work)
      → IsTrue (has_begun_in r (session_log account request.session))
      → has_ended_in r (gate_log account request.gate) ≡ not (is_some_and (λ (flight : BegunRequest). flight.request == r) (flight_of (gate_log account request.gate)))

-- idle exactly if it can't have its reply
idle-if : (b w f e : Bool) → (b ≡ true → e ≡ not f) → (not b || w || not e) ≡ not ((b && not w) && not f)
idle-if false w f e is = refl
idle-if true true f e is = refl
idle-if true false f e is = ap not (is refl)

module _ (script : Script) (old : gates.GateTable) (store : List StoreEntry) (oracle : List OracleEntry) (shards : ShardTable) (was : clients.ClientTable) (notices : List Clock)
    (are : AreOf script (machines_of old store oracle shards was notices)) (laws : ReplyLaws) (r : ℕ) where
  abbrev before : MachinesView
  before = machines_of old store oracle shards was notices

  abbrev account : Account
  account = before.state.account

  -- the request's gatekeeper and session are there, and it is one of its session's
  pub there : (request : Request) → request_at script r ≡ Some request → HasGateAndSession old was r request
  there request is =
      let home = are.limits.homes r request is in
      let session = are.limits.sessions r request is in
      let many = are.frame.gates in
      let all = are.core.sessions in
      record {
        gate = omega (arith, home, many);
        session = omega (arith, session, all);
        among = subst (λ rs. Contains rs r) (sym (requests-are script old store oracle shards was notices are r request.session session)) (laws.requests.among script r request is);
      }

  -- a transaction is a change
  changes : (request : Request) → request_at script r ≡ Some request → IsTrue (is_transaction script r) → is_change request.work ≡ true
  changes request is transaction = sym (ap (is_some_and (λ (q : Request). is_change q.work)) is) ∙ transaction

  answered-is : (request : Request) (work : Work) → is_change work ≡ true → is_answered account r request work ≡ has_ended account r request
  answered-is request (Change ops) is = refl
  answered-is request (Look program) is = absurd (let e : false ≡ true = is in cc)

  work-is : (request : Request) (work : Work) → is_change work ≡ true → after_work account r request work ≡ account
  work-is request (Change ops) is = refl
  work-is request (Look program) is = absurd (let e : false ≡ true = is in cc)

  module _ (is : clients.ClientTable) (request : Request) (request-is : request_at script r ≡ Some request) (transaction : IsTrue (is_transaction script r)) where
    change : is_change request.work ≡ true
    change = changes request request-is transaction

    -- the tests of the definition, by those of the machines
    tests : (not (has_begun account r request) || has_reply account r request || not (is_answered account r request request.work)) ≡ not (can_have_reply old was request r)
    tests =
        ap (λ (b : Bool). not (has_begun account r request) || has_reply account r request || not b) (answered-is request request.work change)
        ∙ idle-if (has_begun account r request) (has_reply account r request) (is_flying old request.gate r) (has_ended account r request) (λ begun. laws.sent script account are.limits are.core.account r request request-is change begun)

    told : (b : Bool) → can_have_reply old was request r ≡ b → for_request (answer_of_reply account r) (request_at script r) ≡ (if not b then answer.Idle else answer.Ok)
    told b can = ap (for_request (answer_of_reply account r)) request-is ∙ ap (λ (t : Bool). if t then answer.Idle else answer.Ok) (tests ∙ ap not can)

    one-done : (a : StepAnswer) → RepliesToOne old store was is r request a → MachinesDo script (step.Reply r) before (machines_of old store oracle shards is notices) a
    one-done answer.Ok did =
        let gains = session-gains old store oracle shards was notices is request.session (Replied r) did.adds in
        done script (step.Reply r) before _ (told true did.can_be)
        (ap (λ (all : Account). record { account = all; notices = notices })
        (gains ∙ ap (λ (all : Account). with_session_deed all request.session (Replied r)) (sym (work-is request request.work change)) ∙ sym (ap (at_request (after_reply account r) account) request-is)))
        (ap (λ (rs : List (List ℕ)). record before.frame { requests = rs }) did.adds.requests) tt
    one-done answer.Idle did = rests script (step.Reply r) before _ answer.Idle (told false did.0) refl (ap (λ (t : clients.ClientTable). machines_of old store oracle shards t notices) did.1)
    one-done answer.Twice none = absurd none
    one-done answer.Early none = absurd none
    one-done answer.Busy none = absurd none
    one-done answer.Old none = absurd none
    one-done answer.Unknown none = absurd none
    one-done answer.Repeat none = absurd none
    one-done answer.Empty none = absurd none
    one-done (answer.Waits v) none = absurd none
    one-done (answer.Again s g) none = absurd none

  -- by what the sessions did at `reply` of a transaction, the machines did this step, with the same answer
  pub reply-done : (is : clients.ClientTable) → IsTrue (is_transaction script r) → (a : StepAnswer) → Replies script old store was is r a → MachinesDo script (step.Reply r) before (machines_of old store oracle shards is notices) a
  reply-done is transaction a did = one-done is did.request did.request_is transaction a did.replies

  -- the values are those after the reply
  values-one : (is : clients.ClientTable) (request : Request) (a : StepAnswer) → RepliesToOne old store was is r request a → is.values ≡ values_after_reply before request.session r a
  values-one is request answer.Ok did =
      did.values ∙ ap (λ (last : Option Stamp). clients.with_reply_at was.values request.session (reply_of_change store last r)) (last-any (clients.requests_at was request.session) [] (clients.session_log_at was request.session))
  values-one is request answer.Idle did = ap (λ (t : clients.ClientTable). t.values) did.1
  values-one is request answer.Twice none = absurd none
  values-one is request answer.Early none = absurd none
  values-one is request answer.Busy none = absurd none
  values-one is request answer.Old none = absurd none
  values-one is request answer.Unknown none = absurd none
  values-one is request answer.Repeat none = absurd none
  values-one is request answer.Empty none = absurd none
  values-one is request (answer.Waits v) none = absurd none
  values-one is request (answer.Again s g) none = absurd none

  -- and the values are those after `reply` of the script's request
  pub reply-values : (is : clients.ClientTable) (a : StepAnswer) → Replies script old store was is r a → RepliesToChange script r before (machines_of old store oracle shards is notices) a
  reply-values is a did request at =
      values-one is did.request a did.replies ∙ ap (λ (one : Request). values_after_reply before one.session r a) (same_Some did.request request (sym did.request_is ∙ at))
