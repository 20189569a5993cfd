-- If the gatekeepers and the sessions did `begin` with an answer, the machines did this step, with the same answer.
-- Used by `begin`, `is_open`, FinishDone, FirstUnanswered and ReplyDone.
use Rattle.std.proofs.Common.{◌≡◌, ℕ, ◌<◌, Bool, true, false, cond, List, [], length, Contains, IsTrue, Option, Some, refl, sym, ap, subst, ◌∙◌, arith}
use Rattle.std.specs.Prelude.{get_or, if◌then◌else◌}
use Rattle.std.specs.Option.{ForSome}
use Rattle.std.proofs.lemmas.List.{length-set}
use Rattle.std.proofs.lemmas.List.FromFn.{get_or-map-range_with_len}
use Rattle.std.proofs.lemmas.Option.{same_Some}
use Rattle.weave_data.proofs.Members.{map_has}
use Rattle.vector_stamp.specs.declared.clock.Clock.{Clock}
use Rattle.vector_stamp.specs.declared.clock.Stamp.{Stamp}
use Rattle.vector_stamp.specs.Clocks.{counts_no_more}
use Rattle.vector_stamp.specs.Order.{has_64_bits}
use Rattle.program_defs.specs.Limits.{IsWithinLimits}
use Rattle.program_defs.specs.declared.script.Request.{Request}
use Rattle.program_defs.specs.declared.script.Script.{Script}
use Rattle.program_defs.specs.declared.script.Step.TheVariants as step
use Rattle.report_rules.specs.Lookups.{request_at}
use Rattle.report_rules.specs.declared.report.StepAnswer.{StepAnswer}
use Rattle.report_rules.specs.declared.report.StepAnswer.TheVariants as answer
use Rattle.weave_entries.specs.declared.oracle_log.OracleEntry.{OracleEntry}
use Rattle.weave_account.proofs.InSession.{last-any}
use Rattle.weaver_core.specs.ShardTable.{ShardTable}
use Rattle.weave_entries.specs.declared.store_log.StoreEntry.{StoreEntry}
use Rattle.weave_entries.specs.GateReplay.{BegunRequest, begun_stamp, clock_of}
use Rattle.weave_entries.specs.GateRules.{IsGateLog}
use Rattle.weave_entries.specs.SessionReplay.{session_of}
use Rattle.weave_account.specs.declared.account.Account.{Account}
use Rattle.weave_account.specs.Account.{IsBegunStamp, all_begun, gate_log, session_log}
use Rattle.weave_account.specs.Clocks.{IsKnown}
use Rattle.weave_account.specs.IsAccount.{IsAccount}
use Rattle.weave_account.specs.Sessions.{requests_of_session}
use Rattle.step_rules.specs.Answers.{answer_of_begin, for_request}
use Rattle.step_rules.specs.Entries.{after_begin, at_request, stamp_to_begin, with_begin}
use Rattle.step_rules.specs.Requests.{finds_flight, has_begun, waits_before, waits_for_earlier}
use Rattle.weaver_core.specs.declared.client.Standing.TheVariants as standing
use Rattle.weaver_core.specs.Beginning.{Begins, BeginsOne, IsBegun, IsReadyToBegin}
use Rattle.weaver_core.specs.Sessions as clients
use Rattle.weaver_core.specs.Cores.{AreOf, MachinesDo, MachinesView, machines_of}
use Rattle.weaver_core.specs.GateTable as gates
use Rattle.weaver_core.proofs.CitedLaws.{RequestLaws}
use Rattle.weaver_core.proofs.Resting.{done, rests}

-- the laws of weave_account that are cited
pub record BeginLaws : Type 0 where
  pub requests : RequestLaws
  -- in an account within limits, a session's last stamp is that of a begun request (`stamps_are_begun`)
  pub last : (script : Script) (account : Account) → IsWithinLimits script → IsAccount script account → (session : ℕ) (stamp : Stamp) → (session_of [] (session_log account session)).last ≡ Some stamp → IsBegunStamp account stamp
  -- in an account within limits, the clocks of the stamps of all begun requests are known (`clocks_are_known`)
  pub begun : (script : Script) (account : Account) → IsWithinLimits script → IsAccount script account → (begun : BegunRequest) → Contains (all_begun account) begun → IsKnown account begun.stamp.clock
  pub may_be_heard : (shards home : ℕ) (account : Account) → home < 8 → IsGateLog home shards (gate_log account home) → (clock : Clock) → IsKnown account clock → IsTrue (counts_no_more home (clock_of home (gate_log account home)) clock)

-- how a request is says which tests hold
is-twice : (a b : Bool) → (if a then standing.Twice else (if b then standing.Early else standing.Next)) ≡ standing.Twice → a ≡ true
is-twice true b e = refl
is-twice false true e = absurd (let f : standing.Early ≡ standing.Twice = e in cc)
is-twice false false e = absurd (let f : standing.Next ≡ standing.Twice = e in cc)

is-early : (a b : Bool) → (if a then standing.Twice else (if b then standing.Early else standing.Next)) ≡ standing.Early → (a ≡ false) × (b ≡ true)
is-early true b e = absurd (let f : standing.Twice ≡ standing.Early = e in cc)
is-early false true e = (refl, refl)
is-early false false e = absurd (let f : standing.Next ≡ standing.Early = e in cc)

is-next : (a b : Bool) → (if a then standing.Twice else (if b then standing.Early else standing.Next)) ≡ standing.Next → (a ≡ false) × (b ≡ false)
is-next true b e = absurd (let f : standing.Twice ≡ standing.Next = e in cc)
is-next false true e = absurd (let f : standing.Early ≡ standing.Next = e in cc)
is-next false false e = (refl, refl)

module _ (script : Script) (old : gates.GateTable) (store : List StoreEntry) (oracle : List OracleEntry) (shards : ShardTable) (was : clients.ClientTable) (notices : List Clock)
    (are : AreOf script (machines_of old store oracle shards was notices)) (r : ℕ) where
  abbrev before : MachinesView
  before = machines_of old store oracle shards was notices

  abbrev account : Account
  account = before.state.account

  -- the requests of a session are those of the script
  pub requests-are : (s : ℕ) → s < 64 → clients.requests_at was s ≡ requests_of_session script s
  requests-are s below = ap (λ (all : List (List ℕ)). get_or all s []) are.frame.requests ∙ get_or-map-range_with_len (requests_of_session script) 0 64 s s [] below (omega arith)

  -- what `begin` asks for
  module _ (laws : BeginLaws) where
    heard : (request : Request) → request.gate < script.gates
        → ForSome (session_of [] (session_log account request.session)).last (λ stamp. IsTrue (counts_no_more request.gate (clock_of request.gate (gates.gate_log_at old request.gate)) stamp.clock))
    heard request below stamp is =
        let from = map_has (λ (begun : BegunRequest). begun.stamp) (all_begun account) stamp (laws.last script account are.limits are.core.account request.session stamp is) in
        let known = subst (λ (s : Stamp). IsKnown account s.clock) from.2 (laws.begun script account are.limits are.core.account from.0 from.1) in
        let few = are.limits.few_gates in
        laws.may_be_heard script.shards request.gate account (omega (arith, below, few)) (are.core.account.gatekeepers.logs request.gate) stamp.clock known

    -- the gatekeepers and the sessions are ready to begin any request of the script
    pub ready : (request : Request) → request_at script r ≡ Some request → IsReadyToBegin old was r request
    ready request is =
        let home = are.limits.homes r request is in
        let session = are.limits.sessions r request is in
        let many = are.frame.gates in
        let all = are.core.sessions in
        record {
          gate = omega (arith, home, many);
          session = omega (arith, session, all);
          among = subst (λ rs. Contains rs r) (sym (requests-are request.session session)) (laws.requests.among script r request is);
          known = subst (λ (last : Option Stamp). ForSome last (λ stamp. IsTrue (counts_no_more request.gate (clock_of request.gate (gates.gate_log_at old request.gate)) stamp.clock)))
              (last-any [] (clients.requests_at was request.session) (clients.session_log_at was request.session)) (heard request home);
        }

  -- what it did
  module _ (new : gates.GateTable) (is : clients.ClientTable) (request : Request) (request-is : request_at script r ≡ Some request) where
    abbrev after : MachinesView
    after = machines_of new store oracle shards is notices

    abbrev has : Bool
    has = has_begun account r request

    abbrev waits : Bool
    waits = waits_for_earlier script account r request

    -- the answer, by the three tests
    told : (a b f : Bool) → has ≡ a → waits ≡ b → finds_flight account request ≡ f → for_request (answer_of_begin script account r) (request_at script r) ≡ cond a answer.Twice (cond b answer.Early (cond f answer.Busy answer.Ok))
    told a b f ea eb ef = ap (for_request (answer_of_begin script account r)) request-is ∙ (λ i. cond (ea i) answer.Twice (cond (eb i) answer.Early (cond (ef i) answer.Busy answer.Ok)))

    -- the tests, as the sessions see them
    waits-are : waits_before r (clients.requests_at was request.session) (clients.session_log_at was request.session) ≡ waits
    waits-are = ap (λ (rs : List ℕ). waits_before r rs (clients.session_log_at was request.session)) (requests-are request.session (are.limits.sessions r request request-is))

    begun-done : IsBegun old new was is r request → MachinesDo script (step.Begin r) before after answer.Ok
    begun-done did =
        let tests = is-next has (waits_before r (clients.requests_at was request.session) (clients.session_log_at was request.session)) did.next in
        let stamp-is : did.stamp ≡ stamp_to_begin account request =
        did.stamp_is ∙ ap (begun_stamp request.gate (clock_of request.gate (gates.gate_log_at old request.gate))) (last-any (clients.requests_at was request.session) [] (clients.session_log_at was request.session)) in
        let logs : after.state.account ≡ with_begin account r request did.stamp = λ i. record account { gates = did.gate.logs i; sessions = did.session.logs i } in
        let many : length new.logs ≡ length old.logs = ap length did.gate.logs ∙ length-set old.logs request.gate _ in
        done script (step.Begin r) before after
        (told false false false tests.0 (sym waits-are ∙ tests.1) did.free)
        (ap (λ (all : Account). record { account = all; notices = notices }) (logs ∙ ap (with_begin account r request) stamp-is ∙ sym (ap (at_request (after_begin account r) account) request-is)))
        (λ i. record { gates = many i; shards = did.gate.shards i; senders = shards.gates; requests = did.session.requests i })
        (λ other other-is.
        let one = same_Some request other (sym request-is ∙ other-is) in
        subst (λ (q : Request). IsTrue (has_64_bits (stamp_to_begin account q).clock)) one (subst (λ (s : Stamp). IsTrue (has_64_bits s.clock)) stamp-is did.small))

    same-machines : new ≡ old → clients.AreSameClients was is → after ≡ before
    same-machines gates-are same = λ i. machines_of (gates-are i) store oracle shards (record { requests = same.requests i; logs = same.logs i; spares = is.spares; values = same.values i }) notices

    one-done : (a : StepAnswer) → BeginsOne old new was is r request a → MachinesDo script (step.Begin r) before after a
    one-done answer.Ok did = begun-done did
    one-done answer.Busy did =
        let tests = is-next has (waits_before r (clients.requests_at was request.session) (clients.session_log_at was request.session)) did.next in
        rests script (step.Begin r) before after answer.Busy (told false false true tests.0 (sym waits-are ∙ tests.1) did.flies) refl (same-machines did.gates_are did.clients_are)
    one-done answer.Twice did =
        let test = is-twice has (waits_before r (clients.requests_at was request.session) (clients.session_log_at was request.session)) did.0 in
        rests script (step.Begin r) before after answer.Twice (told true waits (finds_flight account request) test refl refl) refl (λ i. machines_of (did.1 i) store oracle shards (did.2 i) notices)
    one-done answer.Early did =
        let tests = is-early has (waits_before r (clients.requests_at was request.session) (clients.session_log_at was request.session)) did.0 in
        rests script (step.Begin r) before after answer.Early (told false true (finds_flight account request) tests.0 (sym waits-are ∙ tests.1) refl) refl (λ i. machines_of (did.1 i) store oracle shards (did.2 i) notices)
    one-done answer.Idle none = absurd none
    one-done answer.Old none = absurd none
    one-done answer.Unknown none = absurd none
    one-done answer.Repeat none = absurd none
    one-done answer.Empty none = absurd none
    one-done (answer.Waits v) none = absurd none
    one-done (answer.Again s g) none = absurd none

  -- by what gatekeepers and sessions did at `begin`, the machines did this step, with the same answer
  pub begin-done : (new : gates.GateTable) (is : clients.ClientTable) (a : StepAnswer) → Begins script old new was is r a → MachinesDo script (step.Begin r) before (machines_of new store oracle shards is notices) a
  begin-done new is a did = one-done new is did.request did.request_is a did.begins

  -- the values of the sessions stay
  values-one : (new : gates.GateTable) (is : clients.ClientTable) (request : Request) (a : StepAnswer) → BeginsOne old new was is r request a → is.values ≡ was.values
  values-one new is request answer.Ok did = did.values
  values-one new is request answer.Busy did = did.clients_are.values
  values-one new is request answer.Twice did = ap (λ (t : clients.ClientTable). t.values) did.2
  values-one new is request answer.Early did = ap (λ (t : clients.ClientTable). t.values) did.2
  values-one new is request answer.Idle none = absurd none
  values-one new is request answer.Old none = absurd none
  values-one new is request answer.Unknown none = absurd none
  values-one new is request answer.Repeat none = absurd none
  values-one new is request answer.Empty none = absurd none
  values-one new is request (answer.Waits v) none = absurd none
  values-one new is request (answer.Again s g) none = absurd none

  -- `begin` leaves the values of the sessions as they were
  pub begin-values : (new : gates.GateTable) (is : clients.ClientTable) (a : StepAnswer) → Begins script old new was is r a → is.values ≡ was.values
  begin-values new is a did = values-one new is did.request a did.begins
