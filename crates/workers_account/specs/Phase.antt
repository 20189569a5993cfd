-- A phase of a run by workers: what each hand has done since its start, and what became of each session.
use Rattle.std.specs.Prelude.{◌≡◌, ◌⊎◌, ℕ, ◌<◌, List, length, map, Contains, slice_get, Some}
use Rattle.std.specs.List.{range_with_len}
use Rattle.std.proofs.Common.{inl, inr}
use Rattle.weave_data.specs.Limits.{most_sessions}
use Rattle.program_defs.specs.declared.script.Script.{Script}
use Rattle.program_defs.specs.Limits.{IsWithinLimits}
use Rattle.weave_account.specs.declared.account.Account.{Account}
use Rattle.weave_account.specs.GoesOn.{GoesOn}
use Rattle.weave_account.specs.IsAccount.{IsAccount}
use Rattle.weave_account.specs.Sessions.{requests_of_session}
use Rattle.seen_logs.specs.Closed.{AreOfHands}
use Rattle.seen_logs.specs.Seen.{AreLegal, IsWithin, without_sessions}
use Rattle.weaver_core.specs.declared.client.Client.{Client}
use Rattle.weaver_core.specs.Sessions.{log_of_client, requests_in}
use Rattle.weave_account.specs.Account.{NoneInFlight}
use Rattle.weaver_core.specs.Splitting.{IsClientByLog}
use Rattle.weaver_locks.specs.declared.hand.Hand.{Hand}
use Rattle.weaver_locks.specs.declared.shared.Shared.{Shared}
use Rattle.weaver_locks.specs.Closing.{entries_by, seen_by_number}
use Rattle.weaver_locks.specs.Hands.{hand_number, made_by, seen_by, IsHand}
use Rattle.weaver_locks.specs.Locks.{hands_of, start_of}
use Rattle.weaver_workers.specs.Carrying.{OnlyCarries}
use Rattle.weaver_workers.specs.declared.ended.Ended.{Ended}
use Rattle.weaver_workers.specs.ClientWork.{Goes, Stand, WorkerEndsAs}
use Rattle.weaver_workers.specs.Keeping.{AreLocksOf, HasLanded, KeepsClient}
use Rattle.weaver_workers.specs.Turning.{stand}
use Rattle.workers_account.specs.Pairs.{AddsOpenPairs, AreBegunByOwnWorkers, GainBelow}

-- The parts of a core at the start of a phase: their logs are an account of the script in which no transaction is in
-- flight, and each client's values are those of its log. The locks are the script's, and began with these logs.
pub record IsPhaseStart (script : Script) (start : Account) (shared : Shared) (clients : List Client) : Type 0 where
  pub limits : IsWithinLimits script
  pub is_account : IsAccount script start
  pub landed : NoneInFlight start
  pub locks : AreLocksOf script shared
  pub start_is : start_of shared ≡ without_sessions start
  pub logs : start.sessions ≡ map log_of_client clients
  pub requests : map requests_in clients ≡ map (requests_of_session script) (range_with_len 0 most_sessions)
  pub by_log : (client : Client) → Contains clients client → IsClientByLog script start client

-- The hand only carried.
pub record CarriedOn (shared : Shared) (from hand : Hand) : Type 0 where
  pub is_hand : IsHand shared hand
  pub only : OnlyCarries from hand
  pub landed : HasLanded hand

-- The hand followed the session of this number, with the requests before `upto`.
pub record FollowedOn (shared : Shared) (script : Script) (upto : ℕ) (was is : List Client) (session : ℕ)
    (from hand : Hand)
    : Type 0 where
  pub within : session < most_sessions
  pub client : Client
  pub client_is : slice_get was session ≡ Some client
  pub left : Client
  pub left_is : slice_get is session ≡ Some left
  pub keeps : KeepsClient shared script session from client
  pub path : List Stand
  pub went : Goes shared script session upto (record { hand = from; client = client }) path
      (record { hand = hand; client = left })

-- a hand only carried, or it followed a session; `hand_of` is the hand that has a session
abbrev pub HasDone : Shared → Script → ℕ → List Client → List Client → (ℕ → ℕ) → Hand → Hand → Type 0
HasDone shared script upto was is hand_of from hand = CarriedOn shared from hand
    ⊎ ((session : ℕ) × (hand_of session ≡ hand_number hand) × FollowedOn shared script upto was is session from hand)

-- What the hand has done in the phase, at whose start it had seen the logs as they were.
pub record IsPartBy (shared : Shared) (script : Script) (upto : ℕ) (was is : List Client) (hand_of : ℕ
    → ℕ) (hand : Hand)
    : Type 0 where
  pub from : Hand
  pub from_is : IsHand shared from
  pub number_is : hand_number from ≡ hand_number hand
  pub seen : seen_by from ≡ start_of shared
  pub did : HasDone shared script upto was is hand_of from hand

-- what was done is to have followed this session
abbrev pub IsOfSession : (shared : Shared) (script : Script) (upto : ℕ) (was is : List Client) (hand_of : ℕ
    → ℕ) (from hand : Hand)
    → ℕ → HasDone shared script upto was is hand_of from hand → Type 0
IsOfSession shared script upto was is hand_of from hand session (inl carried) = ⊥
IsOfSession shared script upto was is hand_of from hand session (inr on) = on.0 ≡ session

-- A phase was run by these hands, which are all of the locks' hands. No two have the same number. Each session was left
-- as it was, or one of the hands followed it.
pub record IsPhaseRun (shared : Shared) (script : Script) (upto : ℕ) (start : Account) (was is : List Client)
    (hands : List Hand) : Type 0 where
  pub at_start : IsPhaseStart script start shared was
  pub all : (number : ℕ) → number < hands_of shared → Contains (map hand_number hands) number
  pub by_number : (hand : Hand) → Contains hands hand → (hand_number hand < hands_of shared)
      × (seen_by_number hands (hand_number hand) ≡ seen_by hand)
  pub hand_of : ℕ → ℕ
  pub parts : (hand : Hand) → Contains hands hand → IsPartBy shared script upto was is hand_of hand
  pub many : length is ≡ most_sessions
  pub sessions : (session : ℕ) → session < most_sessions → (slice_get is session ≡ slice_get was session)
      ⊎ ((hand : Hand) × (h : Contains hands hand)
      × IsOfSession shared script upto was is hand_of (parts hand h).from hand
      session (parts hand h).did)

-- The worker of a session has ended so. It gave back one of these hands, which goes on with the client that is now the
-- session's.
pub record WorkerHasEnded (shared : Shared) (script : Script) (upto : ℕ) (is : List Client) (hands : List Hand)
    (session : ℕ) : Type 0 where
  pub hand : Hand
  pub there : Contains hands hand
  pub client : Client
  pub client_is : slice_get is session ≡ Some client
  pub keeps : KeepsClient shared script session hand client
  pub ended : Ended
  pub ends : WorkerEndsAs shared script upto (stand hand client) ended

-- These are the logs with which the locks were closed, and the sessions' logs. Each entry was there at the start or is
-- of a hand, which has seen it, and those of each hand are all that it made.
pub record IsClosedBy (shared : Shared) (script : Script) (start : Account) (is : List Client) (hands : List Hand)
    (closed : Account) : Type 0 where
  pub gates : length closed.gates ≡ script.gates
  pub shards : length closed.shards ≡ script.shards
  pub sessions : closed.sessions ≡ map log_of_client is
  pub legal : AreLegal script.gates script.shards closed
  pub of_hands : AreOfHands script.shards (hands_of shared) (without_sessions start) (seen_by_number hands)
      (without_sessions closed)
  pub within : (hand : Hand) → Contains hands hand → IsWithin (seen_by hand) closed
  pub made : (hand : Hand) → Contains hands hand
      → entries_by (hand_number hand) (without_sessions closed) ≡ made_by hand

-- What follows: the closed logs are an account that goes on from the start, in which no transaction is in flight. Each
-- client's values are those of its log, and its requests are those of its session. What was begun comes before `upto`,
-- each session's by a worker of its own; no epoch was raised, and pairs were added to requests without a reply alone.
pub record IsPhaseEnd (script : Script) (upto : ℕ) (start : Account) (is : List Client) (closed : Account) : Type 0
  where
    pub is_account : IsAccount script closed
    pub goes_on : GoesOn start closed
    pub landed : NoneInFlight closed
    pub requests : map requests_in is ≡ map (requests_of_session script) (range_with_len 0 most_sessions)
    pub by_log : (client : Client) → Contains is client → IsClientByLog script closed client
    pub begins : GainBelow upto start closed
    pub workers : AreBegunByOwnWorkers script start closed
    pub pairs : AddsOpenPairs script start closed
