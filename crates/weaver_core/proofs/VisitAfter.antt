-- A program that visited is running as the logs say.
-- Used by `begin_program`, `visit` and AfterSteps.
use Rattle.std.proofs.Common.{◌≡◌, ℕ, ◌<◌, List, ◌++◌, ◌∷◌, [], length, Some, refl, sym, ap, subst, ◌∙◌}
use Rattle.std.specs.Prelude.{slice_set}
use Rattle.std.proofs.lemmas.Option.{slice_get_within}
use Rattle.weave_data.specs.Names.{shard_of}
use Rattle.weave_data.specs.declared.name.Name.{Name}
use Rattle.vector_stamp.specs.declared.clock.Clock.{Clock}
use Rattle.graph_ops.specs.Operations.{State}
use Rattle.program_defs.specs.Agreement.{AreSameReads}
use Rattle.program_defs.specs.Visits.{next_visit}
use Rattle.program_defs.specs.declared.program.Program.{Program}
use Rattle.program_defs.specs.declared.script.Request.{Request}
use Rattle.program_defs.specs.declared.script.Script.{Script}
use Rattle.program_defs.specs.declared.script.Step.{Step}
use Rattle.report_rules.specs.Lookups.{request_at}
use Rattle.report_rules.specs.declared.report.StepAnswer.{StepAnswer}
use Rattle.report_rules.specs.declared.report.StepAnswer.TheVariants as answer
use Rattle.weave_entries.specs.declared.oracle_log.OracleEntry.{OracleEntry}
use Rattle.weave_entries.specs.declared.shard_log.ShardEntry.{ShardEntry}
use Rattle.weave_entries.specs.declared.shard_log.ShardDeed.TheVariants.{Visited as VisitedDeed}
use Rattle.weave_entries.specs.declared.store_log.StoreEntry.{StoreEntry}
use Rattle.weave_account.specs.declared.account.Account.{Account}
use Rattle.weave_account.specs.Account.{reads_of}
use Rattle.weave_account.specs.GoesOn.{GoesOn}
use Rattle.weave_account.specs.IsAccount.{IsAccount}
use Rattle.step_rules.specs.CoreState.{CoreState}
use Rattle.step_rules.specs.Entries.{made_entry}
use Rattle.step_rules.specs.IsCore.{IsStepOf}
use Rattle.weaver_core.specs.Sessions.{ClientTable}
use Rattle.weaver_core.specs.Cores.{AreOf, MachinesDo, MachinesView, machines_of}
use Rattle.weaver_core.specs.GateTable.{GateTable}
use Rattle.weaver_core.specs.ShardTable.{ShardTable, shard_log_at}
use Rattle.weaver_core.specs.Staying.{CoreLaws}
use Rattle.weaver_core.specs.Visiting.{AreSameLogs, AsksForNextVisit, VisitsForProgram, VisitsNext, entries_asked, updates_seen}
use Rattle.weaver_core.specs.Walks.{IsRunningIn}
use Rattle.weaver_core.specs.declared.walks.Running.{Running}
use Rattle.weaver_core.proofs.VisitDone.{next-over}
use Rattle.weaver_core.proofs.Visited.{read-more}

-- after a step the logs are an account, and go on
pub account-after : (core : CoreLaws) (script : Script) (old new : MachinesView) (one : Step) → AreOf script old → IsStepOf script one → (a : StepAnswer) → MachinesDo script one old new a
    → IsAccount script new.state.account × GoesOn old.state.account new.state.account
account-after core script old new one are there a did = (
  subst (λ (state : CoreState). IsAccount script state.account) (sym did.state_is) (core.tried script old.state one are.limits there did.small are.core).account,
  subst (λ (state : CoreState). GoesOn old.state.account state.account) (sym did.state_is) (core.goes_on script old.state one are.limits there are.core),
)

module _ (free : (a b : List (Name × State)) (program : Program) → AreSameReads a b → next_visit a program ≡ next_visit b program)
    (script : Script) (gates : GateTable) (store : List StoreEntry) (oracle : List OracleEntry) (shards : ShardTable) (was : ClientTable) (notices : List Clock)
    (are : AreOf script (machines_of gates store oracle shards was notices)) (r : ℕ) (running : Running) (runs : IsRunningIn script (machines_of gates store oracle shards was notices).state.account r running) (asks : AsksForNextVisit running.walk)
    (new : ShardTable) (then_oracle : List OracleEntry) (now : Running) where
  abbrev next : Account
  next = (machines_of gates store then_oracle new was notices).state.account

  abbrev Same : Type 0
  Same = AreSameLogs shards new oracle then_oracle running now

  same-account : Same → next ≡ (machines_of gates store oracle shards was notices).state.account
  same-account same = λ i. (machines_of gates store (same.oracle_is i) (same.shards_are i) was notices).state.account

  -- if nothing but the room differs, the program is running still
  pub runs-if-same : Same → IsRunningIn script next r now
  runs-if-same same =
      let p = same.program in
      subst (λ (all : Account). IsRunningIn script all r now) (sym (same-account same)) (record {
        program = runs.program;
        look = runs.look;
        runs = record {
          request_is = p.request_is ∙ runs.runs.request_is;
          author = runs.runs.author;
          begun = runs.runs.begun ∙ (λ i. Some (record { author = runs.runs.author; request = r; stamp = sym p.stamp_is i }));
          stamped = runs.runs.stamped ∙ ap Some (sym p.stamp_is);
          runs = runs.runs.runs;
          walk = record {
            program_is = p.walk.program_is ∙ runs.runs.walk.program_is;
            reads = runs.runs.walk.reads;
            has_read = p.walk.reads runs.runs.walk.reads runs.runs.walk.has_read;
            same = runs.runs.walk.same;
          };
        };
      })

  module _ (is-next : IsAccount script next) (did : VisitsNext script.shards shards new oracle then_oracle running now) where
    abbrev v : Name
    v = did.vertex

    abbrev s : ℕ
    s = shard_of v script.shards

    abbrev log : List ShardEntry
    log = shard_log_at shards s

    shards-are : next.shards ≡ slice_set shards.logs s (log ++ record { author = 0; deed = VisitedDeed r running.stamp v (updates_seen oracle log running.stamp v) (made_entry (entries_asked oracle log running.stamp v)) } ∷ [])
    shards-are = did.visited.adds.logs ∙ (λ i. slice_set shards.logs s (log ++ record { author = 0; deed = VisitedDeed (runs.runs.request_is i) running.stamp v (updates_seen oracle log running.stamp v) (made_entry (entries_asked oracle log running.stamp v)) } ∷ []))

    next-is : next_visit (reads_of (machines_of gates store oracle shards was notices).state.account r) runs.program ≡ Some v
    next-is = sym (next-over free running.walk runs.program (reads_of (machines_of gates store oracle shards was notices).state.account r) asks runs.runs.walk) ∙ did.next_is

    module _ (within : s < length shards.logs) where
      runs-if-visited : IsRunningIn script next r now
      runs-if-visited = record {
        program = runs.program;
        look = runs.look;
        runs = record {
          request_is = did.read.request_is ∙ runs.runs.request_is;
          author = runs.runs.author;
          begun = runs.runs.begun ∙ (λ i. Some (record { author = runs.runs.author; request = r; stamp = sym did.read.stamp_is i }));
          stamped = runs.runs.stamped ∙ ap Some (sym did.read.stamp_is);
          runs = runs.runs.runs;
          walk = read-more script (machines_of gates store oracle shards was notices).state.account next are.core.account is-next r runs.look.request runs.program s (updates_seen oracle log running.stamp v) v (made_entry (entries_asked oracle log running.stamp v)) running.stamp within refl shards-are
              running now next-is did.read runs.runs.walk;
        };
      }

  module _ (is-next : IsAccount script next) (there : (v : Name) → shard_of v script.shards < length shards.logs) where
    -- whatever `visit` answers, the program is running as the logs say then
    pub runs-after : (a : StepAnswer) → VisitsForProgram script.shards shards new oracle then_oracle running now a → IsRunningIn script next r now
    runs-after answer.Ok did = runs-if-visited is-next did (there did.vertex)
    runs-after answer.Idle did = runs-if-same did.0
    runs-after (answer.Again s g) did = runs-if-same did.0
    runs-after answer.Twice none = absurd none
    runs-after answer.Early none = absurd none
    runs-after answer.Busy none = absurd none
    runs-after answer.Old none = absurd none
    runs-after answer.Unknown none = absurd none
    runs-after answer.Repeat none = absurd none
    runs-after answer.Empty none = absurd none
    runs-after (answer.Waits v) none = absurd none

-- a request's number is below that of the requests
pub request-below : (script : Script) (r : ℕ) (request : Request) → request_at script r ≡ Some request → r < length script.requests
request-below script r request is = slice_get_within script.requests r request is
