-- If the shards, the oracle and the program did `visit` with an answer, the machines did this step, with the same
-- answer.
-- Used by `visit`, FinishDone and VisitAfter.
use Rattle.std.proofs.Common.{◌≡◌, ℕ, List, ◌++◌, Option, None, Some, refl, sym, ap, ◌∙◌}
use Rattle.weave_data.specs.Names.{shard_of}
use Rattle.weave_data.specs.declared.name.Name.{Name}
use Rattle.vector_stamp.specs.declared.clock.Clock.{Clock}
use Rattle.graph_ops.specs.Operations.{State}
use Rattle.program_defs.specs.Agreement.{AreSameReads}
use Rattle.program_defs.specs.Visits.{next_visit}
use Rattle.program_defs.specs.declared.program.Program.{Program}
use Rattle.program_defs.specs.declared.script.Request.{Request}
use Rattle.program_defs.specs.declared.script.Script.{Script}
use Rattle.program_defs.specs.declared.script.Step.TheVariants as step
use Rattle.report_rules.specs.Lookups.{request_at}
use Rattle.report_rules.specs.declared.report.StepAnswer.{StepAnswer}
use Rattle.report_rules.specs.declared.report.StepAnswer.TheVariants as answer
use Rattle.weave_entries.specs.declared.oracle_log.OracleEntry.{OracleEntry}
use Rattle.weave_entries.specs.declared.shard_log.ShardDeed.TheVariants as deed
use Rattle.weave_entries.specs.declared.store_log.StoreEntry.{StoreEntry}
use Rattle.weave_entries.specs.GateReplay.{BegunRequest, program_begun}
use Rattle.weave_entries.specs.ShardReplay.{first_unready}
use Rattle.weave_account.specs.declared.account.Account.{Account}
use Rattle.weave_account.specs.Account.{gate_log, reads_of}
use Rattle.step_rules.specs.Answers.{again_or_ok, answer_of, answer_of_visit, for_request}
use Rattle.step_rules.specs.CoreState.{with_shard_deed}
use Rattle.step_rules.specs.Entries.{account_with, after_visit, at_request, made_entry}
use Rattle.step_rules.specs.Requests.{next_vertex}
use Rattle.path_program.specs.AnyPrograms.{next_read}
use Rattle.path_program.specs.declared.any.AnyProgram.{AnyProgram}
use Rattle.weaver_core.specs.Sessions.{ClientTable}
use Rattle.weaver_core.specs.Cores.{AreOf, MachinesDo, MachinesView, machines_of}
use Rattle.weaver_core.specs.GateTable.{GateTable}
use Rattle.weaver_core.specs.ShardTable.{ShardTable, shard_log_at}
use Rattle.weaver_core.specs.Visiting.{AreSameLogs, AsksForNextVisit, VisitsForProgram, VisitsNext, entries_asked, updates_seen}
use Rattle.weaver_core.specs.Walks.{HasReadAll, IsRunningIn}
use Rattle.weaver_core.specs.declared.walks.Running.{Running}
use Rattle.weaver_core.proofs.Resting.{done, rests, shard-frame}

-- the vertex that a walk asks for is that of the program over what it has read, in whatever order
pub next-over : ((a b : List (Name × State)) (program : Program) → AreSameReads a b → next_visit a program ≡ next_visit b program)
    → (walk : AnyProgram) (program : Program) (all : List (Name × State)) → AsksForNextVisit walk → HasReadAll walk program all → next_read walk ≡ next_visit all program
next-over free walk program all asks has =
    asks has.reads has.has_read ∙ ap (next_visit has.reads) has.program_is ∙ free has.reads all program has.same

-- a visit leaves the stamp
pub visit-stamp : (shards : ℕ) (old new : ShardTable) (oracle then_oracle : List OracleEntry) (was is : Running) (a : StepAnswer) → VisitsForProgram shards old new oracle then_oracle was is a → is.stamp ≡ was.stamp
visit-stamp shards old new oracle then_oracle was is answer.Ok did = did.read.stamp_is
visit-stamp shards old new oracle then_oracle was is answer.Idle did = did.0.program.stamp_is
visit-stamp shards old new oracle then_oracle was is (answer.Again s g) did = did.0.program.stamp_is
visit-stamp shards old new oracle then_oracle was is answer.Twice none = absurd none
visit-stamp shards old new oracle then_oracle was is answer.Early none = absurd none
visit-stamp shards old new oracle then_oracle was is answer.Busy none = absurd none
visit-stamp shards old new oracle then_oracle was is answer.Old none = absurd none
visit-stamp shards old new oracle then_oracle was is answer.Unknown none = absurd none
visit-stamp shards old new oracle then_oracle was is answer.Repeat none = absurd none
visit-stamp shards old new oracle then_oracle was is answer.Empty none = absurd none
visit-stamp shards old new oracle then_oracle was is (answer.Waits v) none = absurd none

module _ (script : Script) (gates : GateTable) (store : List StoreEntry) (oracle : List OracleEntry) (shards : ShardTable) (was : ClientTable) (notices : List Clock)
    (are : AreOf script (machines_of gates store oracle shards was notices)) (r : ℕ) where
  abbrev before : MachinesView
  before = machines_of gates store oracle shards was notices

  abbrev account : Account
  account = before.state.account

  -- the answer and the logs, by the request
  visit-answer : (request : Request) → request_at script r ≡ Some request → answer_of script before.state (step.Visit r) ≡ answer_of_visit script account (program_begun r (gate_log account request.gate)) (next_vertex account r request.work)
  visit-answer request is = ap (for_request (λ (one : Request). answer_of_visit script account (program_begun r (gate_log account one.gate)) (next_vertex account r one.work))) is

  visit-account : (request : Request) → request_at script r ≡ Some request → account_with script before.state (step.Visit r) ≡ after_visit script account r (program_begun r (gate_log account request.gate)) (next_vertex account r request.work)
  visit-account request is = ap (at_request (λ (one : Request). after_visit script account r (program_begun r (gate_log account one.gate)) (next_vertex account r one.work)) account) is

  module _ (running : Running) (runs : IsRunningIn script account r running) (free : (a b : List (Name × State)) (program : Program) → AreSameReads a b → next_visit a program ≡ next_visit b program) (asks : AsksForNextVisit running.walk)
      (senders : shards.gates ≡ script.gates) where
    abbrev request : Request
    request = runs.look.request

    abbrev begun : BegunRequest
    begun = record { author = runs.runs.author; request = r; stamp = running.stamp }

    its-next : next_vertex account r request.work ≡ next_read running.walk
    its-next = ap (next_vertex account r) runs.look.work_is ∙ sym (next-over free running.walk runs.program (reads_of account r) asks runs.runs.walk)

    told : (o : Option Name) → next_read running.walk ≡ o → answer_of script before.state (step.Visit r) ≡ answer_of_visit script account (Some begun) o
    told o is = visit-answer request runs.look.request_is ∙ (λ i. answer_of_visit script account (runs.runs.begun i) ((its-next ∙ is) i))

    left : (v : Name) → next_read running.walk ≡ Some v → account_with script before.state (step.Visit r) ≡ after_visit script account r (Some begun) (Some v)
    left v is = visit-account request runs.look.request_is ∙ (λ i. after_visit script account r (runs.runs.begun i) ((its-next ∙ is) i))

    module _ (new : ShardTable) (then_oracle : List OracleEntry) (now : Running) where
      abbrev after : MachinesView
      after = machines_of gates store then_oracle new was notices

      visited-done : VisitsNext script.shards shards new oracle then_oracle running now → MachinesDo script (step.Visit r) before after answer.Ok
      visited-done did =
          let v = did.vertex in
          let s = shard_of v script.shards in
          let log = shard_log_at shards s in
          let visited = deed.Visited running.request running.stamp v (updates_seen oracle log running.stamp v) (made_entry (entries_asked oracle log running.stamp v)) in
          done script (step.Visit r) before after
          (told (Some v) did.next_is ∙ (λ i. again_or_ok s (first_unready (sym senders i) running.stamp log)) ∙ ap (again_or_ok s) did.visited.ready)
          (ap (λ (all : Account). record { account = all; notices = notices })
          ((λ i. record account { oracle = did.visited.oracle_is i; shards = did.visited.adds.logs i })
          ∙ (λ i. with_shard_deed (record account { oracle = oracle ++ entries_asked oracle log running.stamp v }) s (deed.Visited (runs.runs.request_is i) running.stamp v (updates_seen oracle log running.stamp v) (made_entry (entries_asked oracle log running.stamp v))))
          ∙ sym (left v did.next_is)))
          (shard-frame gates store oracle shards was notices new s visited did.visited.adds)
          tt

      same-all : AreSameLogs shards new oracle then_oracle running now → after ≡ before
      same-all same = λ i. machines_of gates store (same.oracle_is i) (same.shards_are i) was notices

      -- by what shards, oracle and program did at `visit`, the machines did this step, with the same answer
      pub visit-done : (a : StepAnswer) → VisitsForProgram script.shards shards new oracle then_oracle running now a → MachinesDo script (step.Visit r) before after a
      visit-done answer.Ok did = visited-done did
      visit-done answer.Idle did = rests script (step.Visit r) before after answer.Idle (told None did.1) refl (same-all did.0)
      visit-done (answer.Again s g) did =
          let why = did.1 in
          rests script (step.Visit r) before after (answer.Again s g)
          (told (Some why.vertex) why.next_is
          ∙ (λ i. again_or_ok (sym why.shard_is i) (first_unready (sym senders i) running.stamp (shard_log_at shards (sym why.shard_is i))))
          ∙ ap (again_or_ok s) why.unready)
          refl (same-all did.0)
      visit-done answer.Twice none = absurd none
      visit-done answer.Early none = absurd none
      visit-done answer.Busy none = absurd none
      visit-done answer.Old none = absurd none
      visit-done answer.Unknown none = absurd none
      visit-done answer.Repeat none = absurd none
      visit-done answer.Empty none = absurd none
      visit-done (answer.Waits v) none = absurd none
