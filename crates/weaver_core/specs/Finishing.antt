-- What the machines do at `reply` of a program. No public contract cites this.
use Rattle.std.specs.Prelude.{◌≡◌, ◌⊎◌, ◌<◌, ◌==◌, ℕ, Bool, true, false, fold, length, List, Contains, IsTrue, IsSome, Option, None, Some, if◌then◌else◌, ⊤}
use Rattle.std.specs.List.{list_any}
use Rattle.weave_data.specs.declared.name.Name.{Name}
use Rattle.graph_ops.specs.Operations.{State}
use Rattle.program_defs.specs.PlainAnswer.{IsPlainAnswer}
use Rattle.program_defs.specs.Visits.{graph_read}
use Rattle.program_defs.specs.declared.program.Answer.{Answer}
use Rattle.report_rules.specs.declared.report.Reply.{Reply}
use Rattle.report_rules.specs.declared.report.ReplyState.TheVariants as state
use Rattle.report_rules.specs.declared.report.StepAnswer.{StepAnswer}
use Rattle.report_rules.specs.declared.report.StepAnswer.TheVariants as answer
use Rattle.weave_entries.specs.declared.gate_log.GateEntry.{GateEntry}
use Rattle.weave_entries.specs.declared.gate_log.GateDeed.{GateDeed}
use Rattle.weave_entries.specs.declared.gate_log.GateDeed.TheVariants.{BeganProgram, Finished as FinishedDeed}
use Rattle.weave_entries.specs.declared.session_log.SessionDeed.TheVariants.{Replied}
use Rattle.weave_entries.specs.GateReplay.{is_begun, running_of}
use Rattle.path_program.specs.AnyPrograms.{HasRead, any_of, next_read}
use Rattle.weaver_core.specs.Sessions as clients
use Rattle.weaver_core.specs.GateTable as gates
use Rattle.weaver_core.specs.Visiting.{AsksForNextVisit}
use Rattle.weaver_core.specs.declared.walks.Running.{Running}

-- The author of a begin

-- whether the deed begins this program
abbrev pub begins_program : ℕ → GateDeed → Bool
begins_program r (BeganProgram q stamp) = q == r
begins_program r _ = false

-- the author who began the program last; 0 if no one did
abbrev pub last_author : ℕ → List GateEntry → ℕ
last_author r log =
    fold (λ author (entry : GateEntry). if begins_program r entry.deed then entry.author else author) 0 log

-- The answer

-- the answer is a plain one over what the walk has read
abbrev pub IsOutcome : Running → Answer → Type 0
IsOutcome running answer =
    (reads : List (Name × State)) → HasRead running.walk reads
    → IsPlainAnswer (graph_read reads) (any_of running.walk) answer

-- the program has read all, and this is the reply with its answer
pub record IsReplyOfProgram (running : Running) (reply : Reply) : Type 0 where
  pub asks : AsksForNextVisit running.walk
  pub over : next_read running.walk ≡ None
  pub request_is : reply.request ≡ running.request
  pub stamp_is : reply.stamp ≡ Some running.stamp
  pub answer : Answer
  pub state_is : reply.state ≡ state.Finished answer
  pub plain : IsOutcome running answer

-- the program has a next vertex
pub record HasNextVertex (running : Running) : Type 0 where
  pub asks : AsksForNextVisit running.walk
  pub next : IsSome (next_read running.walk)

-- the reply of a program that is running; none if it has a next vertex
abbrev pub IsReplyIfOver : Running → Option Reply → Type 0
IsReplyIfOver running None = HasNextVertex running
IsReplyIfOver running (Some reply) = IsReplyOfProgram running reply

-- the same, if one is running
abbrev pub IsOutcomeOf : Option Running → Option Reply → Type 0
IsOutcomeOf None None = ⊤
IsOutcomeOf None (Some reply) = ⊥
IsOutcomeOf (Some running) reply = IsReplyIfOver running reply

-- The step

-- the program is running in its session, and its gatekeeper runs it in the name of the author of its begin
pub record RunsThere (table : gates.GateTable) (was : clients.ClientTable) (home session r : ℕ) : Type 0 where
  pub running : Running
  pub running_is : (clients.values_at was.values session).running ≡ Some running
  pub request_is : running.request ≡ r
  pub there : IsTrue (list_any (is_begun (last_author r (gates.gate_log_at table home)) r)
      (running_of (gates.gate_log_at table home)))

-- a program can be finished at its gatekeeper, if its session waits for the reply
pub record CanBeFinished (table : gates.GateTable) (was : clients.ClientTable) (home session r : ℕ) : Type 0 where
  pub gate : home < length table.logs
  pub session_there : session < length was.logs
  pub among : Contains (clients.requests_at was session) r
  pub runs : clients.is_open_at was session r ≡ true → RunsThere table was home session r

-- nothing but the room of a session may differ
pub record AreSameParts (old new : gates.GateTable) (was is : clients.ClientTable) : Type 0 where
  pub gates_are : new ≡ old
  pub clients_are : clients.AreSameClients was is

-- the program was finished in the name of its begin's author, and its session has this reply
pub record IsFinishedWith (old new : gates.GateTable) (was is : clients.ClientTable) (home session r : ℕ)
    (reply : Reply) : Type 0 where
  pub adds : gates.AddsToGate old new home (last_author r (gates.gate_log_at old home)) (FinishedDeed r)
  pub replied : clients.AddsToSession was is session (Replied r)
  pub values : is.values ≡ clients.with_reply_at was.values session reply

-- the session waited for the reply, and the program that was running there was finished
pub record IsFinished (old new : gates.GateTable) (was is : clients.ClientTable) (home session r : ℕ) : Type 0 where
  pub is_open : clients.is_open_at was session r ≡ true
  pub running : Running
  pub running_is : (clients.values_at was.values session).running ≡ Some running
  pub reply : Reply
  pub is_reply : IsReplyOfProgram running reply
  pub finished : IsFinishedWith old new was is home session r reply

-- the session waits for the reply of a program that has a next vertex
pub record IsRunningOn (was : clients.ClientTable) (session r : ℕ) : Type 0 where
  pub is_open : clients.is_open_at was session r ≡ true
  pub running : Running
  pub running_is : (clients.values_at was.values session).running ≡ Some running
  pub going : HasNextVertex running

-- what `reply` answers for a program, and what it leaves
abbrev pub FinishesInSession : gates.GateTable → gates.GateTable → clients.ClientTable → clients.ClientTable → ℕ → ℕ → ℕ
    → StepAnswer → Type 0
FinishesInSession old new was is home session r answer.Ok = IsFinished old new was is home session r
FinishesInSession old new was is home session r answer.Idle =
    AreSameParts old new was is × ((clients.is_open_at was session r ≡ false) ⊎ IsRunningOn was session r)
FinishesInSession old new was is home session r _ = ⊥
