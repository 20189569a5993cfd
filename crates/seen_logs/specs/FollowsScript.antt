-- What logs have to keep of a script besides their rules and their references.
use Rattle.std.specs.Prelude.{◌≡◌, ℕ, length, AllPairs, Contains, IsSomeAnd, IsTrue, Some}
use Rattle.program_defs.specs.declared.program.Program.{Program}
use Rattle.program_defs.specs.declared.script.Request.{Request}
use Rattle.program_defs.specs.declared.script.Script.{Script}
use Rattle.program_defs.specs.declared.script.Work.TheVariants.{Change, Look}
use Rattle.report_rules.specs.Lookups.{request_at}
use Rattle.weave_entries.specs.declared.gate_log.GateEntry.{GateEntry}
use Rattle.weave_entries.specs.Logs.{AtEachEntry}
use Rattle.weave_entries.specs.GateReplay.{BegunRequest, programs_of}
use Rattle.weave_entries.specs.StoreReplay.{Judgement, judgements_of}
use Rattle.weave_account.specs.declared.account.Account.{Account}
use Rattle.weave_account.specs.Account.{gate_log, is_ended, reads_of}
use Rattle.weave_account.specs.Gatekeepers.{BeginEachOnce, BeginsAs}
use Rattle.weave_account.specs.Programs.{ProgramsClause, ReadsInTurn}
use Rattle.weave_account.specs.Sessions.{SessionsClause}
use Rattle.weave_account.specs.Store.{InTurn}

-- There is a log for each of the script's gatekeepers and shards. Each request begins once, at its own gatekeeper and
-- after what its session had begun last. What is judged are its operations, in its session's order. What a program read
-- are the vertices of its list of visits. Each session's log is that of its requests.
pub record FollowsScript (script : Script) (account : Account) : Type 0 where
  pub gates : length account.gates ≡ script.gates
  pub shards : length account.shards ≡ script.shards
  pub begins : (home : ℕ) → AtEachEntry (λ before (entry : GateEntry).
      BeginsAs script account home before entry.deed) (gate_log account home)
  pub once : BeginEachOnce account
  pub work : (judged : Judgement) → Contains (judgements_of account.store) judged
      → IsSomeAnd (request_at script judged.request) (λ (request : Request). request.work ≡ Change judged.ops)
  pub in_turn : AllPairs (λ (a b : Judgement). InTurn script a.request b.request) (judgements_of account.store)
  pub programs : ProgramsClause script account
  pub sessions : SessionsClause script account

-- What each program that a gatekeeper began has read are the vertices of its list of visits. `programs` follows from
-- this, since no other program has read anything or has ended.
abbrev pub BegunProgramsReadInTurn : Script → Account → Type 0
BegunProgramsReadInTurn script account = (home : ℕ) (begun : BegunRequest)
    → Contains (programs_of (gate_log account home)) begun
    → (request : Request) (program : Program) → request_at script begun.request ≡ Some request
    → request.work ≡ Look program
    → ReadsInTurn (reads_of account begun.request) program (IsTrue (is_ended account begun.request))
