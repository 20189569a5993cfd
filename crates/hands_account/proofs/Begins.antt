-- Each begin is of a request of the script, at its gatekeeper, after what its session had begun last. This needs no
-- reference to other logs: begins of the start stay so when the account goes on, and the others are so by their hands.
-- Used by Account.
use Rattle.std.proofs.Common.{ℕ, Bool, List, inl, inr}
use Rattle.program_defs.specs.declared.script.Script.{Script}
use Rattle.program_defs.specs.declared.script.Work.{Work}
use Rattle.program_defs.specs.Works.{is_change, is_look}
use Rattle.vector_stamp.specs.declared.clock.Stamp.{Stamp}
use Rattle.weave_entries.specs.declared.gate_log.GateEntry.{GateEntry}
use Rattle.weave_entries.specs.declared.gate_log.GateDeed.{GateDeed}
use Rattle.weave_entries.specs.declared.gate_log.GateDeed.TheVariants.{BeganTx, BeganProgram, Sent, Nop, Heard, Raised, Finished}
use Rattle.weave_entries.specs.Logs.{AtEachEntry}
use Rattle.weave_account.specs.declared.account.Account.{Account}
use Rattle.weave_account.specs.Account.{gate_log, session_log}
use Rattle.weave_account.specs.Gatekeepers.{BeginsAs, BeginsRequest}
use Rattle.weave_account.specs.GoesOn.{GoesOn}
use Rattle.weave_account.proofs.GoesOn.{whole}
use Rattle.hands_account.proofs.ByHands.{IsClosedRun, follows, gate-case, start-within}
use Rattle.hands_account.proofs.Once.{each-once}

-- an account with other sessions
abbrev pub with_sessions_of : Account → Account → Account
with_sessions_of start closed = record closed { sessions = start.sessions }

-- sessions' logs play no part in begins
request-moves : (script : Script) (start closed : Account) (is_kind : Work → Bool) (home : ℕ) (before : List GateEntry) (r : ℕ) (stamp : Stamp)
    → BeginsRequest script (with_sessions_of start closed) is_kind home before r stamp → BeginsRequest script closed is_kind home before r stamp
request-moves script start closed is_kind home before r stamp begins =
    record { own = begins.own; stamp_is = begins.stamp_is; hears_no_more = begins.hears_no_more; small = begins.small }

begins-move : (script : Script) (start closed : Account) (home : ℕ) (before : List GateEntry) (deed : GateDeed)
    → BeginsAs script (with_sessions_of start closed) home before deed → BeginsAs script closed home before deed
begins-move script start closed home before (BeganTx r stamp) begins = request-moves script start closed is_change home before r stamp begins
begins-move script start closed home before (BeganProgram r stamp) begins = request-moves script start closed is_look home before r stamp begins
begins-move script start closed home before (Sent r messages) begins = tt
begins-move script start closed home before (Nop shard n stamp low) begins = tt
begins-move script start closed home before (Heard clock) begins = tt
begins-move script start closed home before (Raised epoch) begins = tt
begins-move script start closed home before (Finished r) begins = tt

module _ {script : Script} {hands : ℕ} {start : Account} {seen_by : ℕ → Account} {closed : Account} (run : IsClosedRun script hands start seen_by closed) where
  -- the account at the start goes on, with its sessions as they were
  pub start-on : GoesOn start (with_sessions_of start closed)
  start-on =
      let on = start-within run.of in
      record { gates = on.gates; store = on.store; oracle = on.oracle; shards = on.shards; sessions = λ session. whole (session_log start session) }

  -- each entry begins as the script has it, if it begins a request
  pub begins-all : (home : ℕ) → AtEachEntry (λ before (entry : GateEntry). BeginsAs script closed home before entry.deed) (gate_log closed home)
  begins-all home before entry after at =
      elim (gate-case run home before entry after at) [
        | inl given ↦ begins-move script start closed home before entry.deed
            (run.laws.begins_stay script start (with_sessions_of start closed) run.limits run.runs.at_start start-on (each-once run)
            home before given.0 entry given.1)
        | inr mine ↦ (follows run entry.author mine.known).begins home before entry mine.rest mine.at mine.own
      ]
