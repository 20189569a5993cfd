-- `visit` keeps a core, by its answer.
-- Used by Stepping.
use Rattle.std.proofs.Common.{◌≡◌, ℕ, ◌==◌, Option, None, Some, refl}
use Rattle.std.proofs.lemmas.Bool.{eqb-true}
use Rattle.weave_data.proofs.Members.{find_has}
use Rattle.weave_data.specs.declared.name.Name.{Name}
use Rattle.weave_data.specs.Names.{shard_of}
use Rattle.program_defs.specs.declared.program.Program.{Program}
use Rattle.program_defs.specs.declared.script.Request.{Request}
use Rattle.program_defs.specs.declared.script.Script.{Script}
use Rattle.program_defs.specs.declared.script.Step.TheVariants.{Visit}
use Rattle.program_defs.specs.declared.script.Work.{Work}
use Rattle.program_defs.specs.declared.script.Work.TheVariants.{Change, Look}
use Rattle.program_defs.specs.Visits.{next_visit}
use Rattle.report_rules.specs.Lookups.{request_at}
use Rattle.report_rules.specs.declared.report.StepAnswer.TheVariants.{Ok, Idle, Again}
use Rattle.weave_entries.specs.GateReplay.{BegunRequest, program_begun, programs_of}
use Rattle.weave_entries.specs.ShardReplay.{first_unready}
use Rattle.weave_account.specs.declared.account.Account.{Account}
use Rattle.weave_account.specs.Account.{gate_log, reads_of, shard_log}
use Rattle.step_rules.specs.CoreState.{CoreState}
use Rattle.step_rules.specs.Answers.{again_or_ok, answer_of, answer_of_visit, for_request}
use Rattle.step_rules.specs.Entries.{after_visit, at_request, state_with}
use Rattle.step_rules.specs.IsCore.{IsCore}
use Rattle.step_rules.specs.Requests.{next_vertex}
use Rattle.step_rules.proofs.Basis.{Basis}
use Rattle.step_rules.proofs.Clashes.{not-ok}
use Rattle.step_rules.proofs.VisitStep.{visited-keeps}

module _ (script : Script) (state : CoreState) (basis : Basis script state) (r : ℕ) (request : Request) (request-is : request_at script r ≡ Some request) where
  abbrev account : Account
  account = state.account

  by-ready : (begun : BegunRequest) → program_begun r (gate_log account request.gate) ≡ Some begun → (v : Name) (program : Program) → request.work ≡ Look program → next_visit (reads_of account r) program ≡ Some v
      → (o : Option ℕ) → first_unready script.gates begun.stamp (shard_log account (shard_of v script.shards)) ≡ o → again_or_ok (shard_of v script.shards) o ≡ Ok
      → IsCore script (record { account = after_visit script account r (Some begun) (Some v); notices = state.notices })
  by-ready begun e v program look f None ready ok =
      let has = find_has (λ (b : BegunRequest). b.request == r) (programs_of (gate_log account request.gate)) begun e in
      visited-keeps script state basis r request request-is program look begun has.0 (eqb-true begun.request r has.1) v f ready
  by-ready begun e v program look f (Some g) ready ok = not-ok (Again (shard_of v script.shards) g) refl ok

  by-vertex : (begun : BegunRequest) → program_begun r (gate_log account request.gate) ≡ Some begun → (program : Program) → request.work ≡ Look program → (n : Option Name) → next_visit (reads_of account r) program ≡ n
      → answer_of_visit script account (Some begun) n ≡ Ok → IsCore script (record { account = after_visit script account r (Some begun) n; notices = state.notices })
  by-vertex begun e program look None f ok = not-ok Idle refl ok
  by-vertex begun e program look (Some v) f ok = by-ready begun e v program look f (first_unready script.gates begun.stamp (shard_log account (shard_of v script.shards))) refl ok

  by-program : (p : Option BegunRequest) → program_begun r (gate_log account request.gate) ≡ p → (work : Work) → request.work ≡ work → answer_of_visit script account p (next_vertex account r work) ≡ Ok
      → IsCore script (record { account = after_visit script account r p (next_vertex account r work); notices = state.notices })
  by-program None e work w ok = not-ok Idle refl ok
  by-program (Some begun) e (Change ops) w ok = not-ok Idle refl ok
  by-program (Some begun) e (Look program) w ok = by-vertex begun e program w (next_visit (reads_of account r) program) refl ok

module _ (script : Script) (state : CoreState) (basis : Basis script state) where
  -- a `visit` that is done keeps a core
  pub visit-keeps : (r : ℕ) → answer_of script state (Visit r) ≡ Ok → IsCore script (state_with script state (Visit r))
  visit-keeps r ok = at (request_at script r) refl ok
    where
      at : (q : Option Request) → request_at script r ≡ q
          → for_request (λ request. answer_of_visit script state.account (program_begun r (gate_log state.account request.gate)) (next_vertex state.account r request.work)) q ≡ Ok
          → IsCore script (record { account = at_request (λ request. after_visit script state.account r (program_begun r (gate_log state.account request.gate)) (next_vertex state.account r request.work)) state.account q; notices = state.notices })
      at None e ok = not-ok Idle refl ok
      at (Some request) e ok = by-program script state basis r request e (program_begun r (gate_log state.account request.gate)) refl request.work refl ok
