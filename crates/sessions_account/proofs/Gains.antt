-- What a hand and its sessions have gained in some calls.
-- Used by Carried, Ends, Follows, Joined, Leading, Others, Runs, Served and SessionLogs.
use Rattle.std.proofs.Common.{◌≡◌, ◌≢◌, ◌⊎◌, ℕ, List, [], ◌++◌, AllPairs, Contains, Some}
use Rattle.vector_stamp.specs.declared.clock.Stamp.{Stamp}
use Rattle.program_defs.specs.declared.script.Request.{Request}
use Rattle.program_defs.specs.declared.script.Script.{Script}
use Rattle.report_rules.specs.Lookups.{request_at}
use Rattle.weave_entries.specs.declared.gate_log.GateEntry.{GateEntry}
use Rattle.weave_entries.specs.declared.session_log.SessionEntry.{SessionEntry}
use Rattle.weave_entries.specs.declared.store_log.StoreEntry.{StoreEntry}
use Rattle.weave_entries.specs.GateReplay.{BegunRequest, begun_by, begun_in, ended_in}
use Rattle.weave_entries.specs.Logs.{AtEachEntry}
use Rattle.weave_entries.specs.SessionReplay.{begins_in, replied_in}
use Rattle.weave_entries.specs.StoreReplay.{Judgement, judgements_of}
use Rattle.weave_account.specs.Account.{gate_log}
use Rattle.weave_account.specs.Store.{InTurn}
use Rattle.seen_logs.specs.Seen.{IsOwn, IsWithin}
use Rattle.weaver_core.specs.Sessions.{log_of_client}
use Rattle.weaver_locks.specs.declared.shared.Shared.{Shared}
use Rattle.weaver_locks.specs.Following.{VisitsItsOwnPrograms}
use Rattle.weaver_locks.specs.Hands.{hand_number, made_by, seen_by, IsHand}
use Rattle.weaver_workers.specs.Keeping.{HasLanded, KeepsClient}
use Rattle.workers_account.specs.Begins.{BeginsInTurn}
use Rattle.workers_account.specs.Gained.{IsBegunAtItsGate, IsJudgedFor}
use Rattle.workers_account.proofs.TurnsKept.{HasTurn}
use Rattle.sessions_account.specs.Histories.{Stands, HasSession, of_session}

-- the hand goes on with each of its sessions
abbrev pub KeepsClients : Shared → Script → (ℕ → ℕ) → Stands → Type 0
KeepsClients shared script hand_of at = (session : ℕ) → HasSession hand_of (hand_number at.hand) session
    → KeepsClient shared script session at.hand (at.clients session)

-- one of the hand's sessions has this
abbrev pub OfSome : (ℕ → ℕ) → ℕ → (ℕ → Type 0) → Type 0
OfSome hand_of number P = (session : ℕ) × HasSession hand_of number session × P session

-- The hand's entries at gatekeepers and the store say what its sessions' entries say: what was begun, with which
-- stamps, and what was ended. Each judgement is of a request of one of these logs, with its operations. No request was
-- begun twice at a gatekeeper, and those of a session were judged in its order.
pub record AreLogged (script : Script) (hand_of : ℕ → ℕ) (number : ℕ) (gates : ℕ → List GateEntry) (store : List StoreEntry)
    (logs : ℕ → List SessionEntry) : Type 0 where
  pub begun : (home : ℕ) (begun : BegunRequest) → Contains (begun_in (gates home)) begun
      → OfSome hand_of number (λ s. Contains (begins_in (logs s)) (begun.request, begun.stamp))
  pub at_gate : (s r : ℕ) (stamp : Stamp) → Contains (begins_in (logs s)) (r, stamp) → IsBegunAtItsGate script number gates r stamp
  pub ended : (home r : ℕ) → Contains (ended_in (gates home)) r → OfSome hand_of number (λ s. Contains (replied_in (logs s)) r)
  pub replied : (s r : ℕ) → Contains (replied_in (logs s)) r → (home : ℕ) × Contains (ended_in (gates home)) r
  pub judged : (judged : Judgement) → Contains (judgements_of store) judged
      → OfSome hand_of number (λ s. IsJudgedFor script (logs s) judged)
  pub once : (home : ℕ) → AllPairs (λ (a b : BegunRequest). a.request ≢ b.request) (begun_in (gates home))
  pub in_turn : AllPairs (λ (a b : Judgement). InTurn script a.request b.request) (judgements_of store)

-- an entry begins nothing, or what one of the hand's sessions had next
abbrev pub BeginsForSome : Script → (ℕ → ℕ) → ℕ → Stands → ℕ → List GateEntry → GateEntry → Type 0
BeginsForSome script hand_of number at home before entry = (begun_by entry.author entry.deed ≡ [])
    ⊎ OfSome hand_of number (λ s. BeginsInTurn script s (log_of_client (at.clients s)) home before entry.deed)

-- the request is one of the session's
abbrev pub IsRequestOf : Script → ℕ → ℕ → Type 0
IsRequestOf script session r = (request : Request) × (request_at script r ≡ Some request) × (request.session ≡ session)

-- What was gained in some calls: entries at gatekeepers and the store, entries of the sessions' logs, and that programs
-- read in turn.
pub record HasGained (shared : Shared) (script : Script) (hand_of : ℕ → ℕ) (old new : Stands) : Type 0 where
  pub number_is : hand_number new.hand ≡ hand_number old.hand
  pub more : IsWithin (seen_by old.hand) (seen_by new.hand)
  pub is_hand : IsHand shared new.hand
  pub landed : HasLanded new.hand
  pub keeps : KeepsClients shared script hand_of new
  pub visits : VisitsItsOwnPrograms shared new.hand
  pub gates : ℕ → List GateEntry
  pub at_gates : (home : ℕ) → gate_log (made_by new.hand) home ≡ gate_log (made_by old.hand) home ++ gates home
  pub store : List StoreEntry
  pub at_store : (made_by new.hand).store ≡ (made_by old.hand).store ++ store
  pub logs : ℕ → List SessionEntry
  pub in_logs : (s : ℕ) → log_of_client (new.clients s) ≡ log_of_client (old.clients s) ++ logs s
  pub logged : AreLogged script hand_of (hand_number old.hand) gates store logs
  pub begins : (home : ℕ) → AtEachEntry (λ before (entry : GateEntry).
      IsOwn (hand_number old.hand) (gate_log (seen_by old.hand) home) before entry.author
      → BeginsForSome script hand_of (hand_number old.hand) new home before entry) (gate_log (seen_by new.hand) home)
  pub turns : (s : ℕ) → HasSession hand_of (hand_number old.hand) s → (r : ℕ) → IsRequestOf script s r
      → HasTurn script (of_session old s) r → HasTurn script (of_session new s) r
  pub new_turns : (s : ℕ) → HasSession hand_of (hand_number old.hand) s → (r : ℕ) (stamp : Stamp)
      → Contains (begins_in (logs s)) (r, stamp) → HasTurn script (of_session new s) r
