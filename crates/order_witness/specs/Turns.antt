-- Commit numbers and refusals of each session, by a walk over the replies and one back. No public contract cites it.
use Rattle.std.specs.Prelude.{◌≡◌, ℕ, ◌<◌, ◌≤◌, Bool, false, not, ◌||◌, IsTrue, List, length, Some, slice_get, slice_index_or}
use Rattle.std.specs.List.{list_all}
use Rattle.program_defs.specs.declared.script.Script.{Script}
use Rattle.program_defs.specs.declared.script.Request.{Request}
use Rattle.report_rules.specs.declared.report.Reply.{Reply}
use Rattle.report_rules.specs.declared.report.ReplyState.{ReplyState}
use Rattle.report_rules.specs.Lookups.{committed_number, request_at, same_session}
use Rattle.report_rules.specs.RightReport.{keeps_number}
use Rattle.order_witness.specs.Heads.{item}
use Rattle.order_witness.specs.Refusals.{refused_after}

-- a reply that is refused, and one of its session that is committed
pub record AreRefusedAndCommitted (script : Script) (replies : List Reply) (place at k number : ℕ) : Type 0 where
  pub reply : Reply
  pub other : Reply
  pub x : Request
  pub y : Request
  pub reply_is : slice_get replies place ≡ Some reply
  pub refused : refused_after reply.state ≡ Some at
  pub other_is : slice_get replies k ≡ Some other
  pub committed : committed_number other.state ≡ Some number
  pub x_is : request_at script place ≡ Some x
  pub y_is : request_at script k ≡ Some y
  pub session : x.session ≡ y.session

-- if the reply at a place is refused, it is after each commit of its session before it
abbrev pub IsAfterCommits : Script → List Reply → ℕ → Type 0
IsAfterCommits script replies place =
    (at k number : ℕ) → AreRefusedAndCommitted script replies place at k number → k < place → number ≤ at

-- if it is refused, it is before each commit of its session after it
abbrev pub IsBeforeCommits : Script → List Reply → ℕ → Type 0
IsBeforeCommits script replies place =
    (at k number : ℕ) → AreRefusedAndCommitted script replies place at k number → place < k → at < number

-- this of each place that is marked
abbrev pub IsOfMarked : (ℕ → Type 0) → List Bool → Type 0
IsOfMarked Fact marks = (place : ℕ) → IsTrue (slice_index_or marks place false) → Fact place

-- Of a request of this session with this state: its commit number is at most that of the session afterwards, and a
-- refusal is after the session's number before.
pub record IsRaisedBy (script : Script) (place : ℕ) (state : ReplyState) (old new : List ℕ)
    (surely : Bool) : Type 0 where
  pub size : length new ≡ length old
  pub no_less : (s : ℕ) → item old s ≤ item new s
  pub there : (x : Request) (number : ℕ) → request_at script place ≡ Some x → committed_number state ≡ Some number
      → x.session < length new → number ≤ item new x.session
  pub after : IsTrue surely → (x : Request) (at : ℕ) → request_at script place ≡ Some x → refused_after state ≡ Some at
      → (x.session < length old) × (item old x.session ≤ at)

-- The same back: its commit number is at least that of the session afterwards, and a refusal is before the session's
-- number before.
pub record IsLoweredBy (script : Script) (place : ℕ) (state : ReplyState) (old new : List ℕ)
    (surely : Bool) : Type 0 where
  pub size : length new ≡ length old
  pub no_more : (s : ℕ) → item new s ≤ item old s
  pub there : (x : Request) (number : ℕ) → request_at script place ≡ Some x → committed_number state ≡ Some number
      → x.session < length new → item new x.session ≤ number
  pub before : IsTrue surely → (x : Request) (at : ℕ) → request_at script place ≡ Some x → refused_after state ≡ Some at
      → (x.session < length old) × (at < item old x.session)

-- the commit numbers of a refused request's session keep clear of it
abbrev pub AreNumbersKept : Script → List Reply → ℕ → ℕ → Type 0
AreNumbersKept script replies r at =
    IsTrue (list_all (λ (other : Reply). not (same_session script other.request r) || keeps_number at r other) replies)

-- the commit numbers keep clear of each refused request that is marked
abbrev pub AreKeptAtMarks : Script → List Reply → List Bool → Type 0
AreKeptAtMarks script replies marks =
    (place at : ℕ) (reply : Reply) → slice_get replies place ≡ Some reply → refused_after reply.state ≡ Some at
    → IsTrue (slice_index_or marks place false) → AreNumbersKept script replies reply.request at
