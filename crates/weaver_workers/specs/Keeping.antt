-- What a client's worker keeps from turn to turn.
use Rattle.std.specs.Prelude.{◌≡◌, ℕ, ◌≤◌, [], is_some, slice_get, None, Some}
use Rattle.std.specs.Option.{ForSome}
use Rattle.program_defs.specs.declared.script.Script.{Script}
use Rattle.path_program.specs.AnyPrograms.{any_of}
use Rattle.weave_entries.specs.GateReplay.{flight_of}
use Rattle.weave_entries.specs.SessionReplay.{SessionState, RepliesToLast}
use Rattle.weave_account.specs.Account.{gate_log}
use Rattle.weave_account.specs.Sessions.{requests_of_session}
use Rattle.weaver_core.specs.declared.client.Client.{Client}
use Rattle.weaver_core.specs.declared.walks.Running.{Running}
use Rattle.weaver_core.specs.Sessions.{IsClientOf}
use Rattle.weaver_core.specs.Walks.{IsLookAt}
use Rattle.weaver_locks.specs.declared.hand.Hand.{Hand}
use Rattle.weaver_locks.specs.declared.shared.Shared.{Shared}
use Rattle.weaver_locks.specs.Following.{HasNotBegun, MayHear}
use Rattle.weaver_locks.specs.Hands.{made_by, IsHand}
use Rattle.weaver_locks.specs.Locks.{gate_count, shard_count}
use Rattle.weaver_hands.specs.Programs.{own_reads, IsRunning}

-- the locks are those of the script's gatekeepers and shards
pub record AreLocksOf (script : Script) (shared : Shared) : Type 0 where
  pub gates : gate_count shared ≡ script.gates
  pub shards : shard_count shared ≡ script.shards

-- the hand has neither begun the request nor made a visit for it
pub record IsFresh (hand : Hand) (r : ℕ) : Type 0 where
  pub unbegun : HasNotBegun hand r
  pub unread : own_reads hand r ≡ []

-- no transaction of the hand is in flight: at each gatekeeper it has sent what it began there last
abbrev pub HasLanded : Hand → Type 0
HasLanded hand = (home : ℕ) → flight_of (gate_log (made_by hand) home) ≡ None

-- A program is running for the request that its session began last, with that one's stamp. The hand runs it.
pub record IsRunningFor (shared : Shared) (script : Script) (hand : Hand) (session : SessionState) (running : Running)
    : Type 0 where
  pub begun : 1 ≤ session.begun
  pub turn : RepliesToLast session running.request
  pub stamp_is : session.last ≡ Some running.stamp
  pub look : IsLookAt script running.request (any_of running.walk)
  pub runs : IsRunning shared hand running

-- A hand goes on with the session of this number. No transaction of it is in flight. The client has the session's
-- requests, and is at the end of its log. If the last begun one waits for its reply, it is a program, which is running;
-- otherwise none is. The hand has begun no request that the session has still to begin, and may let a gatekeeper hear
-- the stamp of the last one.
pub record KeepsClient (shared : Shared) (script : Script) (number : ℕ) (hand : Hand) (client : Client) : Type 0 where
  pub is_hand : IsHand shared hand
  pub landed : HasLanded hand
  pub at_end : IsClientOf number client.session client.log.items
  pub requests : client.session.requests ≡ requests_of_session script number
  pub waits : client.session.waits ≡ is_some client.running
  pub running : ForSome client.running (IsRunningFor shared script hand client.session)
  pub last : ForSome client.session.last (MayHear shared hand)
  pub fresh : (n r : ℕ) → client.session.begun ≤ n → slice_get client.session.requests n ≡ Some r → IsFresh hand r
