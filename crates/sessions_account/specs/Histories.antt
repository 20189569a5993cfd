-- What a hand does for several sessions, one call after another, and what is left when all hands are done.
use Rattle.std.specs.Prelude.{◌≡◌, ◌≢◌, ◌⊎◌, ℕ, ◌<◌, List, [], ◌∷◌, length, map, Contains, IsTrue, slice_get, Some}
use Rattle.std.specs.Option.{ForSome}
use Rattle.weave_data.specs.Limits.{most_sessions}
use Rattle.vector_stamp.specs.declared.clock.Stamp.{Stamp}
use Rattle.program_defs.specs.declared.script.Script.{Script}
use Rattle.weave_entries.specs.SessionReplay.{begins_in, has_reply_in}
use Rattle.weave_account.specs.declared.account.Account.{Account}
use Rattle.weaver_core.specs.declared.client.Client.{Client}
use Rattle.weaver_core.specs.Sessions.{log_of_client, IsClientOf}
use Rattle.weaver_locks.specs.declared.hand.Hand.{Hand}
use Rattle.weaver_locks.specs.declared.shared.Shared.{Shared}
use Rattle.weaver_locks.specs.Hands.{hand_number, seen_by, IsHand}
use Rattle.weaver_locks.specs.Locks.{hands_of, start_of}
use Rattle.weaver_hands.specs.Programs.{IsRunning}
use Rattle.weaver_workers.specs.Carrying.{Carries}
use Rattle.weaver_workers.specs.ClientWork.{DoesOneCall, Stand}
use Rattle.workers_account.specs.Phase.{IsPhaseStart}

-- a hand at some time, with the client of each of its sessions; the other clients mean nothing
pub record Stands : Type 0 where
  pub hand : Hand
  pub clients : ℕ → Client

-- the hand with the client of one session
abbrev pub of_session : Stands → ℕ → Stand
of_session at session = record { hand = at.hand; client = at.clients session }

-- the hand of this number has this session; `hand_of` gives each session one hand
abbrev pub HasSession : (ℕ → ℕ) → ℕ → ℕ → Type 0
HasSession hand_of number session = (session < most_sessions) × (hand_of session ≡ number)

-- A call for a session of the hand. Its next request was begun, when none of the session waited for its reply, at its
-- own gatekeeper, after the session's last stamp, and judged with its own operations and sent if it is a transaction;
-- or its running program, whose walk is the request's, read a vertex or was finished; or nothing of this was done, and
-- at most clocks and messages were carried. The session's client has noted it: it is at the end of its log, and its
-- program runs. The clients of all other sessions are as they were.
pub record ServesSession (shared : Shared) (script : Script) (upto : ℕ) (hand_of : ℕ
    → ℕ) (old new : Stands) : Type 0 where
  pub session : ℕ
  pub given : HasSession hand_of (hand_number old.hand) session
  pub is_hand : IsHand shared new.hand
  pub does : DoesOneCall shared script session upto (of_session old session) (of_session new session)
  pub runs : ForSome (new.clients session).running (IsRunning shared new.hand)
  pub at_end : IsClientOf session (new.clients session).session (log_of_client (new.clients session))
  pub others : (other : ℕ) → other ≢ session → new.clients other ≡ old.clients other

-- Calls for no session: clocks were passed on, empty messages sent, messages brought or processed, or nothing done. A
-- transaction that was begun and then ran out of memory is neither this nor a call for its session.
pub record ServesNone (shared : Shared) (old new : Stands) : Type 0 where
  pub carries : Carries shared old.hand new.hand
  pub same : (session : ℕ) → new.clients session ≡ old.clients session

-- From the first to the last, by these in between: each comes from the one before by a call for a session, or for none.
-- With none in between the first is the last. Requests are those before `upto`, which may be the number of all.
abbrev pub GoesThrough : Shared → Script → ℕ → (ℕ → ℕ) → Stands → List Stands → Stands → Type 0
GoesThrough shared script upto hand_of old [] new = old ≡ new
GoesThrough shared script upto hand_of old (next ∷ path) new =
    (ServesSession shared script upto hand_of old next ⊎ ServesNone shared old next)
    × GoesThrough shared script upto hand_of next path new

-- A hand may begin: it has seen the logs as they were at the start. It has the clients of its sessions, and all
-- requests that these had begun have their replies. A session that waits for a reply at the start is no hand's.
pub record MayBegin (shared : Shared) (hand_of : ℕ → ℕ) (was : List Client) (from : Stands) : Type 0 where
  pub is_hand : IsHand shared from.hand
  pub seen : seen_by from.hand ≡ start_of shared
  pub client_was : (session : ℕ) → HasSession hand_of (hand_number from.hand) session
      → slice_get was session ≡ Some (from.clients session)
  pub answered : (session : ℕ) → HasSession hand_of (hand_number from.hand) session
      → (r : ℕ) (stamp : Stamp) → Contains (begins_in (log_of_client (from.clients session))) (r, stamp)
      → IsTrue (has_reply_in r (log_of_client (from.clients session)))

-- All that the hand did since the start. Its sessions' clients are left as these ones of the end.
pub record IsHistoryOf (shared : Shared) (script : Script) (upto : ℕ) (hand_of : ℕ → ℕ) (was is : List Client)
    (hand : Hand) : Type 0 where
  pub from : Stands
  pub may_begin : MayBegin shared hand_of was from
  pub number_is : hand_number from.hand ≡ hand_number hand
  pub path : List Stands
  pub left : ℕ → Client
  pub went : GoesThrough shared script upto hand_of from path (record { hand = hand; clients = left })
  pub client_is : (session : ℕ) → HasSession hand_of (hand_number hand) session
      → slice_get is session ≡ Some (left session)

-- A script was run by these hands, which are all of the locks' hands. At the start the logs were an account of it, with
-- no transaction in flight. Each session was given to one of the hands, or was left as it was; and each hand served its
-- own sessions alone.
pub record IsServedBy (shared : Shared) (script : Script) (upto : ℕ) (start : Account) (was is : List Client)
    (hands : List Hand) : Type 0 where
  pub at_start : IsPhaseStart script start shared was
  pub all : (number : ℕ) → number < hands_of shared → Contains (map hand_number hands) number
  pub hand_of : ℕ → ℕ
  pub histories : (hand : Hand) → Contains hands hand → IsHistoryOf shared script upto hand_of was is hand
  pub many : length is ≡ most_sessions
  pub sessions : (session : ℕ) → session < most_sessions → (slice_get is session ≡ slice_get was session)
      ⊎ ((hand : Hand) × Contains hands hand × (hand_of session ≡ hand_number hand))
