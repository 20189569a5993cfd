-- The sessions of a core with their logs, as contracts see them.
use Rattle.std.specs.Prelude.{◌≡◌, ◌<◌, ◌≤◌, ◌-◌, ◌==◌, ℕ, Bool, false, min, not, nat_le, ◌&&◌, fold, length, List, [], ◌∷◌, ◌++◌, map, replicate, AllPairs, slice_get, slice_index_or, slice_set, vec_capacity, vec_len, Option, None, Some, if◌then◌else◌}
use Rattle.std.specs.List.{find, flat_map, range_with_len}
use Rattle.std.specs.Option.{option_map}
use Rattle.vector_stamp.specs.declared.clock.Stamp.{Stamp}
use Rattle.program_defs.specs.declared.script.Script.{Script}
use Rattle.weave_entries.specs.declared.session_log.SessionEntry.{SessionEntry}
use Rattle.weave_entries.specs.declared.session_log.SessionDeed.{SessionDeed}
use Rattle.weave_entries.specs.declared.session_log.SessionDeed.TheVariants.{Begun, Replied}
use Rattle.weave_entries.specs.SessionReplay.{SessionState, IsSessionLog, session_of, next_request, begins_in, has_begun_in, has_reply_in, replied_count}
use Rattle.report_rules.specs.Lookups.{is_some_and}
use Rattle.weave_account.specs.Sessions.{requests_of_session}
use Rattle.step_rules.specs.Requests.{waits_before}
use Rattle.report_rules.specs.declared.report.Reply.{Reply}
use Rattle.weaver_core.specs.declared.client.Client.{Client}
use Rattle.weaver_core.specs.declared.walks.Running.{Running}
use Rattle.weaver_core.specs.declared.client.Standing.{Standing}
use Rattle.weaver_core.specs.declared.client.Standing.TheVariants.{Twice, Early, Next}

-- One session

-- its requests
abbrev pub requests_in : Client → List ℕ
requests_in client = client.session.requests

-- its log
abbrev pub log_of_client : Client → List SessionEntry
log_of_client client = client.log.items

-- what a session has besides its log: the program that is running, if there is one, and its replies
pub record SessionValues : Type 0 where
  pub running : Option Running
  pub replies : List Reply

-- before its first request
abbrev pub no_values : SessionValues
no_values = record { running = None; replies = [] }

abbrev pub values_of : Client → SessionValues
values_of client = record { running = client.running; replies = client.replies.items }

-- for how many more entries and replies there is room
abbrev pub spare_of : Client → ℕ
spare_of client =
    min (vec_capacity client.log - vec_len client.log) (vec_capacity client.replies - vec_len client.replies)

-- the session is at the end of the log, which keeps the rules of a session's log; its requests rise
pub record IsClientOf (number : ℕ) (session : SessionState) (log : List SessionEntry) : Type 0 where
  pub state : session ≡ session_of session.requests log
  pub right : IsSessionLog number session.requests log
  pub rising : AllPairs (λ (a b : ℕ). a < b) session.requests

-- how a request of the session is that is to begin
abbrev pub standing_of : ℕ → List ℕ → List SessionEntry → Standing
standing_of r requests log = if has_begun_in r log then Twice else if waits_before r requests log then Early else Next

-- a request comes next in its session, in which none waits for its reply
pub record IsInTurn (session : SessionState) (r : ℕ) : Type 0 where
  pub replied : session.waits ≡ false
  pub next : next_request session ≡ Some r

-- a request has begun and has no reply
abbrev pub is_open_in : ℕ → List SessionEntry → Bool
is_open_in r log = has_begun_in r log && not (has_reply_in r log)

-- the first request of the session without a reply, if there is one: it comes after those that have theirs
abbrev pub unanswered_in : List ℕ → List SessionEntry → Option ℕ
unanswered_in requests log = slice_get requests (replied_count (session_of requests log))

-- it is a session at the end of its log, of some number
abbrev pub IsAClient : Client → Type 0
IsAClient client = (number : ℕ) × IsClientOf number client.session client.log.items

-- nothing but the room may differ
pub record IsSameClient (old new : Client) : Type 0 where
  pub session : new.session ≡ old.session
  pub log : new.log.items ≡ old.log.items
  pub values : values_of new ≡ values_of old

-- the log has one more entry, with this number as its author, and the session is at its end
pub record AddsDeed (number : ℕ) (old new : Client) (deed : SessionDeed) : Type 0 where
  pub log : log_of_client new ≡ log_of_client old ++ record { author = number; deed = deed } ∷ []
  pub requests : requests_in new ≡ requests_in old
  pub client : IsClientOf number new.session new.log.items

-- one more reply, after which no program is running
abbrev pub values_with_reply : SessionValues → Reply → SessionValues
values_with_reply values reply = record { running = None; replies = values.replies ++ reply ∷ [] }

-- The last entry of a log. No public contract cites this.

-- the request of a deed
abbrev pub request_by : SessionDeed → ℕ
request_by (Begun r stamp) = r
request_by (Replied r) = r

-- whether the deed begins this request
abbrev pub is_begin_of : ℕ → SessionDeed → Bool
is_begin_of r (Begun q stamp) = q == r
is_begin_of r (Replied q) = false

-- the last entry of a log, if it has one
abbrev pub last_entry : List SessionEntry → Option SessionEntry
last_entry log = slice_get log (length log - 1)

-- the request of the last entry, if there is one
abbrev pub last_request : List SessionEntry → Option ℕ
last_request log = option_map (λ (entry : SessionEntry). request_by entry.deed) (last_entry log)

-- whether a request is at most that of the last entry
abbrev pub begun_by_last : ℕ → List SessionEntry → Bool
begun_by_last r log = is_some_and (λ (entry : SessionEntry). nat_le r (request_by entry.deed)) (last_entry log)

-- whether the last entry is the begin of a request
abbrev pub open_by_last : ℕ → List SessionEntry → Bool
open_by_last r log = is_some_and (λ (entry : SessionEntry). is_begin_of r entry.deed) (last_entry log)

-- All sessions

-- the requests, the log, the room and the values of each session, in the order of numbers
pub record ClientTable : Type 0 where
  pub requests : List (List ℕ)
  pub logs : List (List SessionEntry)
  pub spares : List ℕ
  pub values : List SessionValues

-- the requests of a session
abbrev pub requests_at : ClientTable → ℕ → List ℕ
requests_at clients session = slice_index_or clients.requests session []

-- the log of a session; empty if there is none of this number
abbrev pub session_log_at : ClientTable → ℕ → List SessionEntry
session_log_at clients session = slice_index_or clients.logs session []

-- the values of a session
abbrev pub values_at : List SessionValues → ℕ → SessionValues
values_at values session = slice_index_or values session no_values

-- the same except for the program that is running in a session
abbrev pub with_running : List SessionValues → ℕ → Option Running → List SessionValues
with_running values session running =
    slice_set values session (record { running = running; replies = (values_at values session).replies })

-- and with one more reply of a session
abbrev pub with_reply_at : List SessionValues → ℕ → Reply → List SessionValues
with_reply_at values session reply = slice_set values session (values_with_reply (values_at values session) reply)

-- the replies of each session are of rising requests
abbrev pub HaveRisingReplies : List SessionValues → Type 0
HaveRisingReplies values =
    (session : ℕ) → AllPairs (λ (a b : Reply). a.request < b.request) (values_at values session).replies

-- a session at the end of its log
abbrev pub session_at : ClientTable → ℕ → SessionState
session_at clients session = session_of (requests_at clients session) (session_log_at clients session)

-- how a request of a session is that is to begin
abbrev pub standing_at : ClientTable → ℕ → ℕ → Standing
standing_at clients session r = standing_of r (requests_at clients session) (session_log_at clients session)

-- a request of a session has begun and has no reply
abbrev pub is_open_at : ClientTable → ℕ → ℕ → Bool
is_open_at clients session r = is_open_in r (session_log_at clients session)

-- the first request of a session without a reply, if there is one
abbrev pub unanswered_at : ClientTable → ℕ → Option ℕ
unanswered_at clients session = unanswered_in (requests_at clients session) (session_log_at clients session)

-- it is the first request without a reply of one of the sessions
pub record IsUnanswered (clients : ClientTable) (r : ℕ) : Type 0 where
  pub session : ℕ
  pub at : unanswered_at clients session ≡ Some r

-- the least of the sessions' first requests without a reply, or this many if none of them is less
pub record IsFirstUnanswered (clients : ClientTable) (most first : ℕ) : Type 0 where
  pub least : (session r : ℕ) → unanswered_at clients session ≡ Some r → first ≤ r
  pub unanswered : first < most → IsUnanswered clients first
  pub within : first ≤ most

-- nothing but the room may differ
pub record AreSameClients (old new : ClientTable) : Type 0 where
  pub requests : new.requests ≡ old.requests
  pub logs : new.logs ≡ old.logs
  pub values : new.values ≡ old.values

-- a session's log has one more entry, and all else is as before except for the room
pub record AddsToSession (old new : ClientTable) (session : ℕ) (deed : SessionDeed) : Type 0 where
  pub logs : new.logs
      ≡ slice_set old.logs session (session_log_at old session ++ record { author = session; deed = deed } ∷ [])
  pub requests : new.requests ≡ old.requests

-- the stamp with which a request was begun in one of these sessions, if it was. No public contract cites this.
abbrev pub stamp_logged : List (List SessionEntry) → ℕ → Option Stamp
stamp_logged logs r =
    option_map (λ (begun : ℕ × Stamp). begun.1) (find (λ (begun : ℕ × Stamp). begun.0 == r) (flat_map begins_in logs))

-- The table inside. No public contract cites what follows.

-- the first request of a session without a reply, if there is one
abbrev pub unanswered_by : Client → Option ℕ
unanswered_by client = unanswered_in (requests_in client) (log_of_client client)

-- the lesser of a number and one that may be there
abbrev pub lesser_number : ℕ → Option ℕ → ℕ
lesser_number number None = number
lesser_number number (Some other) = min number other

-- the least of a number and the sessions' first requests without a reply
abbrev pub least_unanswered : ℕ → List Client → ℕ
least_unanswered most clients = fold lesser_number most (map unanswered_by clients)

-- each session has its place as its number, and is at the end of its log
abbrev pub AreNumbered : List Client → Type 0
AreNumbered clients =
    (number : ℕ) (client : Client) → slice_get clients number ≡ Some client
    → IsClientOf number client.session client.log.items

-- the first sessions of a script, before their first requests
pub record AreFirstSessions (script : Script) (count : ℕ) (clients : List Client) : Type 0 where
  pub numbered : AreNumbered clients
  pub requests : map requests_in clients ≡ map (requests_of_session script) (range_with_len 0 count)
  pub logs : map log_of_client clients ≡ replicate count []
  pub values : map values_of clients ≡ replicate count no_values
