-- If a program's gatekeeper, its session and the program did `reply` with an answer, the machines did this step, with
-- the same answer.
-- Used by `finish`.
use Rattle.std.proofs.Common.{◌≡◌, ℕ, Bool, true, false, not, List, Contains, IsTrue, Option, None, Some, is_some, inl, inr, refl, sym, ap, subst, ◌∙◌, arith}
use Rattle.std.specs.Prelude.{◌&&◌, ◌||◌, ◌==◌, if◌then◌else◌}
use Rattle.std.specs.List.{list_any}
use Rattle.std.proofs.lemmas.Bool.{cases_Bool, eqb-true}
use Rattle.std.proofs.lemmas.Option.{same_Some}
use Rattle.weave_data.proofs.Members.{any_has}
use Rattle.vector_stamp.specs.declared.clock.Clock.{Clock}
use Rattle.graph_ops.specs.Operations.{State}
use Rattle.program_defs.specs.Agreement.{AreSameReads}
use Rattle.program_defs.specs.Visits.{next_visit}
use Rattle.program_defs.specs.declared.program.Program.{Program}
use Rattle.program_defs.specs.declared.script.Request.{Request}
use Rattle.program_defs.specs.declared.script.Script.{Script}
use Rattle.program_defs.specs.declared.script.Step.TheVariants as step
use Rattle.program_defs.specs.declared.script.Work.TheVariants.{Look}
use Rattle.report_rules.specs.Lookups.{request_at}
use Rattle.report_rules.specs.declared.report.StepAnswer.{StepAnswer}
use Rattle.report_rules.specs.declared.report.StepAnswer.TheVariants as answer
use Rattle.weave_data.specs.declared.name.Name.{Name}
use Rattle.weave_entries.specs.declared.gate_log.GateEntry.{GateEntry}
use Rattle.weave_entries.specs.declared.gate_log.GateDeed.TheVariants.{Finished as FinishedDeed}
use Rattle.weave_entries.specs.declared.oracle_log.OracleEntry.{OracleEntry}
use Rattle.weave_entries.specs.declared.session_log.SessionDeed.TheVariants.{Replied}
use Rattle.weave_entries.specs.declared.store_log.StoreEntry.{StoreEntry}
use Rattle.weave_entries.specs.GateReplay.{ended_in, has_ended_in, is_begun, program_begun, running_of}
use Rattle.weave_account.specs.declared.account.Account.{Account}
use Rattle.weave_account.specs.Account.{gate_log, reads_of, session_log}
use Rattle.step_rules.specs.Answers.{answer_of, answer_of_reply, for_request}
use Rattle.step_rules.specs.CoreState.{with_gate_deed, with_session_deed}
use Rattle.step_rules.specs.Entries.{after_reply, after_work, at_request, with_finish}
use Rattle.step_rules.specs.Requests.{has_begun, has_ended, has_reply, is_answered}
use Rattle.weaver_core.specs.Sessions as clients
use Rattle.weaver_core.specs.Cores.{AreOf, MachinesDo, MachinesView, machines_of}
use Rattle.weaver_core.specs.Finishing.{AreSameParts, CanBeFinished, FinishesInSession, IsFinished, IsRunningOn, last_author}
use Rattle.weaver_core.specs.GateTable as gates
use Rattle.weaver_core.specs.ShardTable.{ShardTable}
use Rattle.weaver_core.specs.Staying.{StayLaws}
use Rattle.weaver_core.specs.Walks.{IsRunningIn}
use Rattle.weaver_core.specs.declared.walks.Running.{Running}
use Rattle.weaver_core.specs.Splitting.{AreAllByLog, RepliesToProgram, ValuesAfterFinish}
use Rattle.weaver_core.specs.Visiting.{AsksForNextVisit}
use Rattle.path_program.specs.AnyPrograms.{next_read}
use Rattle.weaver_core.proofs.Authors.{last-author-is}
use Rattle.weaver_core.proofs.OpenRuns.{open-runs}
use Rattle.weaver_core.proofs.BeginDone.{requests-are}
use Rattle.weaver_core.proofs.CanVisit.{not-ended, runs-there}
use Rattle.weaver_core.proofs.CitedLaws.{RunLaws}
use Rattle.weaver_core.proofs.Resting.{done, gate-frame, rests, same-sessions}
use Rattle.weaver_core.proofs.VisitDone.{next-over}

-- Tests

not-open : (b w x : Bool) → (b && not w) ≡ false → (not b || w || x) ≡ true
not-open false w x e = refl
not-open true true x e = refl
not-open true false x e = absurd (let f : true ≡ false = e in cc)

is-open : (b w x : Bool) → (b && not w) ≡ true → (not b || w || x) ≡ x
is-open false w x e = absurd (let f : false ≡ true = e in cc)
is-open true true x e = absurd (let f : false ≡ true = e in cc)
is-open true false x e = refl

module _ (script : Script) (old : gates.GateTable) (store : List StoreEntry) (oracle : List OracleEntry) (shards : ShardTable) (was : clients.ClientTable) (notices : List Clock)
    (are : AreOf script (machines_of old store oracle shards was notices)) (r : ℕ) (request : Request) (request-is : request_at script r ≡ Some request) (program : Program) (looks : request.work ≡ Look program)
    (stay : StayLaws) (run : RunLaws) where
  abbrev before : MachinesView
  before = machines_of old store oracle shards was notices

  abbrev account : Account
  account = before.state.account

  abbrev log : List GateEntry
  log = gate_log account request.gate

  abbrev next : Option Name
  next = next_visit (reads_of account r) program

  -- if its session waits for its reply, it is running there
  record IsItsRun : Type 0 where
    running : Running
    running_is : (clients.values_at was.values request.session).running ≡ Some running
    runs : IsRunningIn script account r running

  its-run : AreAllByLog script account was.values → clients.is_open_in r (session_log account request.session) ≡ true → IsItsRun
  its-run all waits =
      let one = open-runs stay script account are.limits are.core.account was.values all r request request-is (are.limits.sessions r request request-is) program looks waits in
      record { running = one.running; running_is = one.running_is; runs = one.runs }

  same-request : (running : Running) (runs : IsRunningIn script account r running) → runs.look.request ≡ request
  same-request running runs = same_Some runs.look.request request (sym runs.look.request_is ∙ request-is)

  begun-here : (running : Running) (runs : IsRunningIn script account r running) → program_begun r log ≡ Some (record { author = runs.runs.author; request = r; stamp = running.stamp })
  begun-here running runs = ap (λ (one : Request). program_begun r (gate_log account one.gate)) (sym (same-request running runs)) ∙ runs.runs.begun

  author-is : (running : Running) (runs : IsRunningIn script account r running) → last_author r log ≡ runs.runs.author
  author-is running runs = last-author-is script account are.core.account request.gate r (record { author = runs.runs.author; request = r; stamp = running.stamp }) (begun-here running runs)

  -- if the values are those of the logs, the program can be finished, if its session waits for the reply
  pub can-be-finished : AreAllByLog script account was.values → CanBeFinished old was request.gate request.session r
  can-be-finished all =
      let home = are.limits.homes r request request-is in
      let below = are.limits.sessions r request request-is in
      let many = are.frame.gates in
      let sixty-four = are.core.sessions in
      record {
        gate = omega (arith, home, many);
        session_there = omega (arith, below, sixty-four);
        among = subst (λ rs. Contains rs r) (sym (requests-are script old store oracle shards was notices are r request.session below)) (stay.among script r request request-is);
        runs = λ waits.
            let one = its-run all waits in
            record {
              running = one.running;
              running_is = one.running_is;
              request_is = one.runs.runs.request_is;
              there = subst (λ n. IsTrue (list_any (is_begun n r) (running_of log))) (sym (author-is one.running one.runs))
                  (runs-there run script account are.limits are.core.account r request request-is program looks (record { author = one.runs.runs.author; request = r; stamp = one.running.stamp }) (begun-here one.running one.runs) one.runs.runs.runs);
            };
      }

  abbrev tests : Bool
  tests = not (has_begun account r request) || has_reply account r request || not (is_answered account r request request.work)

  answer-is : (b : Bool) → tests ≡ b → answer_of script before.state (step.Reply r) ≡ (if b then answer.Idle else answer.Ok)
  answer-is b is = ap (for_request (answer_of_reply account r)) request-is ∙ ap (λ (t : Bool). if t then answer.Idle else answer.Ok) is

  answered-is : is_answered account r request request.work ≡ not (is_some next)
  answered-is = ap (is_answered account r request) looks

  module _ (all : AreAllByLog script account was.values) (new : gates.GateTable) (is : clients.ClientTable) (free : (a b : List (Name × State)) (one : Program) → AreSameReads a b → next_visit a one ≡ next_visit b one) where
    abbrev after : MachinesView
    after = machines_of new store oracle shards is notices

    -- if nothing but the room of a session differs, the machines are the same
    pub same-parts : AreSameParts old new was is → after ≡ before
    same-parts same = ap (λ (t : gates.GateTable). machines_of t store oracle shards is notices) same.gates_are ∙ same-sessions old store oracle shards was notices is same.clients_are

    idles : tests ≡ true → AreSameParts old new was is → MachinesDo script (step.Reply r) before after answer.Idle
    idles test same = rests script (step.Reply r) before after answer.Idle (answer-is true test) refl (same-parts same)

    -- a running program has not ended
    still-runs : (running : Running) → IsRunningIn script account r running → has_ended account r request ≡ false
    still-runs running runs = elim (cases_Bool (has_ended_in r log)) [
      | inl ended ↦
          let from = any_has (λ ended. ended == r) (ended_in log) ended in
          absurd (not-ended run script account are.limits are.core.account r request request-is program looks (record { author = runs.runs.author; request = r; stamp = running.stamp }) (begun-here running runs) runs.runs.runs
          (subst (λ n. Contains (ended_in log) n) (eqb-true from.0 r from.2) from.1))
      | inr runs-on ↦ runs-on
    ]

    -- the walk of the program that is running is its own
    its-next : (running : Running) (runs : IsRunningIn script account r running) → AsksForNextVisit running.walk → next_read running.walk ≡ next
    its-next running runs asks =
        next-over free running.walk runs.program (reads_of account r) asks runs.runs.walk
        ∙ ap (next_visit (reads_of account r)) (same-program (same-request running runs))
      where
        same-program : runs.look.request ≡ request → runs.program ≡ program
        same-program same = let both : Look runs.program ≡ Look program = sym runs.look.work_is ∙ ap (λ (one : Request). one.work) same ∙ looks in cc

    one-running : (a b : Running) → (clients.values_at was.values request.session).running ≡ Some a → (clients.values_at was.values request.session).running ≡ Some b → a ≡ b
    one-running a b at bt = same_Some a b (sym at ∙ bt)

    finished-done : IsFinished old new was is request.gate request.session r → MachinesDo script (step.Reply r) before after answer.Ok
    finished-done did =
        let one = its-run all did.is_open in
        let running = did.running in
        let same = one-running one.running running one.running_is did.running_is in
        let runs = subst (IsRunningIn script account r) same one.runs in
        let over : next ≡ None = sym (its-next running runs did.is_reply.asks) ∙ did.is_reply.over in
        let adds = did.finished.adds in
        done script (step.Reply r) before after
        (answer-is false (is-open (has_begun account r request) (has_reply account r request) (not (is_answered account r request request.work)) did.is_open ∙ ap not answered-is ∙ ap (λ (o : Option Name). not (not (is_some o))) over))
        (ap (λ (logs : Account). record { account = logs; notices = notices })
        ((λ i. record account { gates = adds.logs i; sessions = did.finished.replied.logs i })
        ∙ ap (λ n. with_session_deed (with_gate_deed account request.gate n (FinishedDeed r)) request.session (Replied r)) (author-is running runs)
        ∙ ap (λ (logs : Account). with_session_deed logs request.session (Replied r))
        (sym (ap (after_work account r request) looks ∙ ap (λ (b : Bool). if b then account else with_finish account r request.gate (program_begun r log)) (still-runs running runs) ∙ ap (with_finish account r request.gate) (begun-here running runs)))
        ∙ sym (ap (at_request (after_reply account r) account) request-is)))
        (ap (λ (rs : List (List ℕ)). record (machines_of new store oracle shards was notices).frame { requests = rs }) did.finished.replied.requests ∙ gate-frame old store oracle shards was notices new request.gate (last_author r log) (FinishedDeed r) adds)
        tt

    going-idle : IsRunningOn was request.session r → tests ≡ true
    going-idle on =
        let one = its-run all on.is_open in
        let running = on.running in
        let same = one-running one.running running one.running_is on.running_is in
        let runs = subst (IsRunningIn script account r) same one.runs in
        let going : is_some next ≡ true = ap is_some (sym (its-next running runs on.going.asks)) ∙ on.going.next in
        is-open (has_begun account r request) (has_reply account r request) (not (is_answered account r request request.work)) on.is_open ∙ ap not answered-is ∙ ap (λ b. not (not b)) going

    -- by what gatekeeper, session and program did at `reply`, the machines did this step, with the same answer
    pub finish-done : (a : StepAnswer) → FinishesInSession old new was is request.gate request.session r a → MachinesDo script (step.Reply r) before after a
    finish-done answer.Ok did = finished-done did
    finish-done answer.Idle did = elim did.1 [
      | inl closed ↦ idles (not-open (has_begun account r request) (has_reply account r request) (not (is_answered account r request request.work)) closed) did.0
      | inr on ↦ idles (going-idle on) did.0
    ]
    finish-done answer.Twice none = absurd none
    finish-done answer.Early none = absurd none
    finish-done answer.Busy none = absurd none
    finish-done answer.Old none = absurd none
    finish-done answer.Unknown none = absurd none
    finish-done answer.Repeat none = absurd none
    finish-done answer.Empty none = absurd none
    finish-done (answer.Waits v) none = absurd none
    finish-done (answer.Again s g) none = absurd none

    -- what it leaves of the values of the session
    values-one : (a : StepAnswer) → FinishesInSession old new was is request.gate request.session r a → ValuesAfterFinish before after request.session r a
    values-one answer.Ok did =
        let one = its-run all did.is_open in
        let same = one-running one.running did.running one.running_is did.running_is in
        record {
          running = did.running;
          running_is = did.running_is;
          request_is = ap (λ (o : Running). o.request) (sym same) ∙ one.runs.runs.request_is;
          reply = did.reply;
          is_reply = did.is_reply;
          values = did.finished.values;
        }
    values-one answer.Idle did = did.0.clients_are.values
    values-one answer.Twice none = absurd none
    values-one answer.Early none = absurd none
    values-one answer.Busy none = absurd none
    values-one answer.Old none = absurd none
    values-one answer.Unknown none = absurd none
    values-one answer.Repeat none = absurd none
    values-one answer.Empty none = absurd none
    values-one (answer.Waits v) none = absurd none
    values-one (answer.Again s g) none = absurd none

    -- and the values of the sessions are those that `reply` of a program leaves
    pub finish-values : (a : StepAnswer) → FinishesInSession old new was is request.gate request.session r a → RepliesToProgram script r before after a
    finish-values a did other at = subst (λ (one : Request). ValuesAfterFinish before after one.session r a) (same_Some request other (sym request-is ∙ at)) (values-one a did)
