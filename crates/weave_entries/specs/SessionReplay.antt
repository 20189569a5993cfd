-- What the log of a session says of its state: its requests begin in order, each after the reply to the one before.
use Rattle.std.specs.Prelude.{◌≡◌, ℕ, ◌+◌, ◌-◌, ◌==◌, Bool, true, false, List, [], ◌∷◌, fold, slice_get, IsTrue, Option, None, Some, if◌then◌else◌}
use Rattle.std.specs.List.{find, flat_map, list_any}
use Rattle.std.specs.Option.{ForSome, option_map}
use Rattle.vector_stamp.specs.declared.clock.Stamp.{Stamp}
use Rattle.vector_stamp.specs.Order.{stamp_before}
use Rattle.weave_entries.specs.Logs.{AtEachEntry}
use Rattle.weave_entries.specs.declared.session_log.SessionEntry.{SessionEntry}
use Rattle.weave_entries.specs.declared.session_log.SessionDeed.{SessionDeed}
use Rattle.weave_entries.specs.declared.session_log.SessionDeed.TheVariants.{Begun, Replied}

-- a session: its requests in order, how many of them were begun, whether the last one waits for its reply, and that
-- one's stamp
pub record SessionState : Type 0 where
  pub requests : List ℕ
  pub begun : ℕ
  pub waits : Bool
  pub last : Option Stamp

-- before its first request
abbrev pub session_start : List ℕ → SessionState
session_start requests = record { requests = requests; begun = 0; waits = false; last = None }

-- the request that comes next, if there is one
abbrev pub next_request : SessionState → Option ℕ
next_request session = slice_get session.requests session.begun

-- the next request was begun with this stamp
abbrev pub with_begun : Stamp → SessionState → SessionState
with_begun stamp session = record session { begun = session.begun + 1; waits = true; last = Some stamp }

-- the last begun request has its reply
abbrev pub with_reply : SessionState → SessionState
with_reply session = record session { waits = false }

-- what an entry leaves
abbrev pub session_after : SessionState → SessionDeed → SessionState
session_after session (Begun request stamp) = with_begun stamp session
session_after session (Replied request) = with_reply session

-- the session at the end of its log
abbrev pub session_of : List ℕ → List SessionEntry → SessionState
session_of requests log =
    fold (λ session (entry : SessionEntry). session_after session entry.deed) (session_start requests) log

-- Its requests

-- the request that a deed began, with its stamp
abbrev pub begin_by : SessionDeed → List (ℕ × Stamp)
begin_by (Begun request stamp) = (request, stamp) ∷ []
begin_by (Replied request) = []

-- the requests that were begun, with their stamps, in order
abbrev pub begins_in : List SessionEntry → List (ℕ × Stamp)
begins_in log = flat_map (λ (entry : SessionEntry). begin_by entry.deed) log

-- the stamp with which a request was begun, if it was
abbrev pub session_stamp_of : ℕ → List SessionEntry → Option Stamp
session_stamp_of request log = option_map (λ (begun : ℕ
    × Stamp). begun.1) (find (λ (begun : ℕ × Stamp). begun.0 == request) (begins_in log))

-- the request that got its reply by a deed
abbrev pub reply_by : SessionDeed → List ℕ
reply_by (Begun request stamp) = []
reply_by (Replied request) = request ∷ []

-- the requests that have their replies, in order
abbrev pub replied_in : List SessionEntry → List ℕ
replied_in log = flat_map (λ (entry : SessionEntry). reply_by entry.deed) log

-- whether a request has begun
abbrev pub has_begun_in : ℕ → List SessionEntry → Bool
has_begun_in request log = list_any (λ (begun : ℕ × Stamp). begun.0 == request) (begins_in log)

-- whether a request has its reply
abbrev pub has_reply_in : ℕ → List SessionEntry → Bool
has_reply_in request log = list_any (λ replied. replied == request) (replied_in log)

-- how many requests of a session have their replies: all begun ones, except one that waits
abbrev pub replied_count : SessionState → ℕ
replied_count session = if session.waits then session.begun - 1 else session.begun

-- The rules

-- the next request is begun: none waits for its reply, and the stamp is after that of the one before
pub record BeginsNext (session : SessionState) (request : ℕ) (stamp : Stamp) : Type 0 where
  pub replied : session.waits ≡ false
  pub next : next_request session ≡ Some request
  pub rises : ForSome session.last (λ last. IsTrue (stamp_before last stamp))

-- the last begun request, which waits for it, gets its reply
pub record RepliesToLast (session : SessionState) (request : ℕ) : Type 0 where
  pub waits : session.waits ≡ true
  pub last : slice_get session.requests (session.begun - 1) ≡ Some request

-- a deed is right in this state
abbrev pub FitsSession : SessionState → SessionDeed → Type 0
FitsSession session (Begun request stamp) = BeginsNext session request stamp
FitsSession session (Replied request) = RepliesToLast session request

-- a log of the session with this number and these requests: each entry is the session's, and right after those before
-- it
abbrev pub IsSessionLog : ℕ → List ℕ → List SessionEntry → Type 0
IsSessionLog number requests log = AtEachEntry (λ before (entry : SessionEntry). (entry.author ≡ number)
    × FitsSession (session_of requests before) entry.deed) log
