-- How a hand began the requests of its session since a phase began.
use Rattle.std.specs.Prelude.{◌≡◌, ℕ, Bool, List, IsTrue, Option, Some, ⊤}
use Rattle.std.specs.Option.{ForSome}
use Rattle.vector_stamp.specs.declared.clock.Stamp.{Stamp}
use Rattle.vector_stamp.specs.Clocks.{counts_no_more}
use Rattle.vector_stamp.specs.Order.{has_64_bits}
use Rattle.program_defs.specs.declared.script.Request.{Request}
use Rattle.program_defs.specs.declared.script.Script.{Script}
use Rattle.program_defs.specs.declared.script.Work.{Work}
use Rattle.program_defs.specs.Works.{is_change, is_look}
use Rattle.report_rules.specs.Lookups.{request_at}
use Rattle.weave_entries.specs.declared.gate_log.GateEntry.{GateEntry}
use Rattle.weave_entries.specs.declared.gate_log.GateDeed.{GateDeed}
use Rattle.weave_entries.specs.declared.gate_log.GateDeed.TheVariants.{BeganTx, BeganProgram}
use Rattle.weave_entries.specs.declared.session_log.SessionEntry.{SessionEntry}
use Rattle.weave_entries.specs.GateReplay.{begun_stamp, clock_of}
use Rattle.weave_entries.specs.Logs.{AtEachEntry}
use Rattle.weave_entries.specs.SessionReplay.{next_request, session_of}
use Rattle.weave_account.specs.Account.{gate_log}
use Rattle.weave_account.specs.GoesOn.{IsBeginningOf}
use Rattle.weave_account.specs.Sessions.{requests_of_session}
use Rattle.seen_logs.specs.Seen.{IsOwn}
use Rattle.weaver_core.specs.Sessions.{log_of_client}
use Rattle.weaver_locks.specs.Hands.{hand_number, seen_by}
use Rattle.weaver_workers.specs.ClientWork.{Stand}

-- The request was its session's next one when the session's log was a beginning of what it is now. It was begun at its
-- own gatekeeper, as the kind of work that it is, after the stamp that this log had begun last.
pub record IsBegunInTurn (script : Script) (session : ℕ) (log : List SessionEntry) (is_kind : Work → Bool) (home : ℕ)
    (before : List GateEntry) (r : ℕ) (stamp : Stamp) : Type 0 where
  pub then : List SessionEntry
  pub on : IsBeginningOf then log
  pub next : next_request (session_of (requests_of_session script session) then) ≡ Some r
  pub asked : Request
  pub request_is : request_at script r ≡ Some asked
  pub session_is : asked.session ≡ session
  pub gate_is : asked.gate ≡ home
  pub kind : IsTrue (is_kind asked.work)
  pub last : Option Stamp
  pub last_is : last ≡ (session_of (requests_of_session script session) then).last
  pub stamp_is : stamp ≡ begun_stamp home (clock_of home before) last
  pub hears_no_more : ForSome last (λ heard. IsTrue (counts_no_more home (clock_of home before) heard.clock))
  pub small : IsTrue (has_64_bits stamp.clock)

-- a deed begins its request so, if it begins one
abbrev pub BeginsInTurn : Script → ℕ → List SessionEntry → ℕ → List GateEntry → GateDeed → Type 0
BeginsInTurn script session log home before (BeganTx r stamp) =
    IsBegunInTurn script session log is_change home before r stamp
BeginsInTurn script session log home before (BeganProgram r stamp) =
    IsBegunInTurn script session log is_look home before r stamp
BeginsInTurn script session log home before _ = ⊤

-- all that a hand began since it had seen less was begun in its session's turn
abbrev pub AreBegunInTurn : Script → ℕ → Stand → Stand → Type 0
AreBegunInTurn script session from at = (home : ℕ) → AtEachEntry (λ before (entry : GateEntry).
    IsOwn (hand_number from.hand) (gate_log (seen_by from.hand) home) before entry.author
    → BeginsInTurn script session (log_of_client at.client) home before entry.deed) (gate_log (seen_by at.hand) home)
