-- The laws of the crates below that this crate relies on, in one record. No public contract cites this.
use Rattle.std.specs.Prelude.{◌≡◌, ℕ, List, Contains, IsTrue, slice_get, Some}
use Rattle.std.specs.Option.{ForSome}
use Rattle.vector_stamp.specs.declared.clock.Stamp.{Stamp}
use Rattle.program_defs.specs.declared.script.Script.{Script}
use Rattle.program_defs.specs.Limits.{IsWithinLimits}
use Rattle.weave_entries.specs.SessionReplay.{begins_in, has_reply_in}
use Rattle.weave_account.specs.declared.account.Account.{Account}
use Rattle.weaver_core.specs.declared.client.Client.{Client}
use Rattle.weaver_core.specs.declared.walks.Running.{Running}
use Rattle.weaver_core.specs.Sessions.{log_of_client, IsClientOf}
use Rattle.weaver_locks.specs.declared.hand.Hand.{Hand}
use Rattle.weaver_locks.specs.declared.shared.Shared.{Shared}
use Rattle.weaver_locks.specs.Hands.{seen_by, IsHand}
use Rattle.weaver_locks.specs.Locks.{start_of}
use Rattle.weaver_hands.specs.Leaving.{LeavesAlone}
use Rattle.weaver_hands.specs.Programs.{IsRunning}
use Rattle.weaver_workers.specs.Carrying.{OnlyCarries}
use Rattle.weaver_workers.specs.ClientWork.{DoesOneCall, Stand}
use Rattle.weaver_workers.specs.Keeping.{AreLocksOf, HasLanded, KeepsClient}
use Rattle.workers_account.specs.Phase.{IsPhaseStart}
use Rattle.workers_account.specs.PhaseLaws.{PhaseLaws}
use Rattle.workers_account.specs.ReadLaws.{ReadLaws}

pub record SessionsLaws : Type 0 where
  pub phase : PhaseLaws
  pub reads : ReadLaws
  -- a program that is left alone goes on
  pub runs : (shared : Shared) (old new : Hand) (running : Running) → IsHand shared old → IsHand shared new
      → LeavesAlone old new running.request → IsRunning shared old running → IsRunning shared new running
  -- a hand goes on with a session for which it made a call, and has nothing in flight after it only carried
  pub goes_on : (shared : Shared) (script : Script) (number upto : ℕ) (old new : Stand) → IsWithinLimits script
      → AreLocksOf script shared → KeepsClient shared script number old.hand old.client → IsHand shared new.hand
      → ForSome new.client.running (IsRunning shared new.hand)
      → IsClientOf number new.client.session (log_of_client new.client) → DoesOneCall shared script number upto old new
      → KeepsClient shared script number new.hand new.client
  pub landed : (old new : Hand) → OnlyCarries old new → HasLanded old → HasLanded new
  -- at the start no transaction of a hand is in flight
  pub idle : (script : Script) (start : Account) (shared : Shared) (clients : List Client) (hand : Hand)
      → IsPhaseStart script start shared clients → IsHand shared hand → seen_by hand ≡ start_of shared → HasLanded hand
  -- and it may go on with a session whose begun requests have their replies
  pub ready : (script : Script) (start : Account) (shared : Shared) (clients : List Client) (hand : Hand) (session : ℕ)
      (client : Client) → IsPhaseStart script start shared clients → IsHand shared hand → seen_by hand ≡ start_of shared
      → slice_get clients session ≡ Some client
      → ((r : ℕ) (stamp : Stamp) → Contains (begins_in (log_of_client client)) (r, stamp)
      → IsTrue (has_reply_in r (log_of_client client)))
      → KeepsClient shared script session hand client
