-- Requests that meet at a vertex, and the phases of a script: what a run keeps besides the clauses of a right report.
use Rattle.std.specs.Prelude.{◌≡◌, ◌≢◌, ◌<◌, ◌≤◌, ◌⊎◌, ◌||◌, ℕ, Bool, IsTrue, Option, Some, IsSomeAnd, nat_le, ⊤, count_by}
use Rattle.std.specs.List.{AllByRecursion}
use Rattle.std.specs.Option.{option_and_then}
use Rattle.weave_data.specs.declared.name.Name.{Name}
use Rattle.program_defs.specs.declared.script.Request.{Request}
use Rattle.program_defs.specs.declared.script.Script.{Script}
use Rattle.program_defs.specs.declared.script.Work.{Work}
use Rattle.program_defs.specs.declared.script.Work.TheVariants.{Change, Look}
use Rattle.program_defs.specs.Visits.{IsVisited}
use Rattle.program_defs.specs.Works.{is_change}
use Rattle.report_rules.specs.declared.report.Report.{Report}
use Rattle.report_rules.specs.declared.report.Reply.{Reply}
use Rattle.report_rules.specs.declared.report.ReplyState.{ReplyState}
use Rattle.report_rules.specs.declared.report.ReplyState.TheVariants.{Conflict, Refused}
use Rattle.report_rules.specs.Lookups.{is_in, is_some_and, request_at, reply_at, work_names, committed_number, RequestPrecedes}
use Rattle.report_rules.specs.Replay.{graph_at_place}

-- Meetings

-- the request is a transaction
abbrev pub is_transaction : Script → ℕ → Bool
is_transaction script r = is_some_and (λ (request : Request). is_change request.work) (request_at script r)

-- a transaction is at each vertex that it names, and a program at each of its list of visits at its place
abbrev pub WorkIsAt : Script → Report → Name → ℕ → Work → Type 0
WorkIsAt script report v r (Change ops) = IsTrue (work_names v (Change ops))
WorkIsAt script report v r (Look program) = IsVisited (graph_at_place script report r) program v

-- the request is at the vertex
abbrev pub RequestIsAt : Script → Report → Name → ℕ → Type 0
RequestIsAt script report v r =
    IsSomeAnd (request_at script r) (λ (request : Request). WorkIsAt script report v r request.work)

-- two listed requests, of which one at least is a transaction, meet at a vertex
pub record MeetAt (script : Script) (report : Report) (v : Name) (a b : ℕ) : Type 0 where
  pub different : a ≢ b
  pub first_is_listed : IsTrue (is_in a report.order)
  pub second_is_listed : IsTrue (is_in b report.order)
  pub one_changes : IsTrue (is_transaction script a || is_transaction script b)
  pub first_is_there : RequestIsAt script report v a
  pub second_is_there : RequestIsAt script report v b

-- of two listed requests that meet, one precedes the other
abbrev pub MeetingsAreOrdered : Script → Report → Type 0
MeetingsAreOrdered script report = (v : Name) (a b : ℕ) → MeetAt script report v a b
    → RequestPrecedes report a b ⊎ RequestPrecedes report b a

-- Phases

-- a request's phase: how many `phase` lines are before it
abbrev pub phase_of : Script → ℕ → ℕ
phase_of script r = count_by (λ before. nat_le before r) script.phases

-- the commit number of a request, if it is committed
abbrev pub commit_number : Report → ℕ → Option ℕ
commit_number report r = option_and_then (λ (reply : Reply). committed_number reply.state) (reply_at report r)

-- both requests of a conflict are of one phase
abbrev pub IsConflictInOnePhase : Script → ℕ → ReplyState → Type 0
IsConflictInOnePhase script r (Conflict v newer) = phase_of script r ≡ phase_of script newer
IsConflictInOnePhase script r _ = ⊤

-- a refusal is after the commits of each earlier phase, and before those of each later one
abbrev pub IsRefusalInPhase : Script → Report → ℕ → ReplyState → Type 0
IsRefusalInPhase script report r (Refused op reason at) =
    (other number : ℕ) → commit_number report other ≡ Some number
    → (phase_of script other < phase_of script r → number ≤ at)
    × (phase_of script r < phase_of script other → at < number)
IsRefusalInPhase script report r _ = ⊤

-- no request of a later phase precedes one of an earlier phase; conflicts, commit numbers and refusals keep the phases
-- too
pub record PhasesAreKept (script : Script) (report : Report) : Type 0 where
  pub later_never_precedes : (a b : ℕ) → phase_of script a < phase_of script b → ¬ RequestPrecedes report b a
  pub conflicts : AllByRecursion (λ (reply : Reply). IsConflictInOnePhase script reply.request reply.state)
      report.replies
  pub numbers : (a b m n : ℕ) → phase_of script a < phase_of script b → commit_number report a ≡ Some m
      → commit_number report b ≡ Some n → m < n
  pub refusals : AllByRecursion (λ (reply : Reply). IsRefusalInPhase script report reply.request reply.state)
      report.replies
