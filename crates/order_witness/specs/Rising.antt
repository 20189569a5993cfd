-- Requests in the order of their stamps or of their sessions, by tests of neighbours. No public contract cites it.
use Rattle.std.specs.Prelude.{◌≡◌, ◌≢◌, ℕ, ◌+◌, ◌<◌, Bool, ◌&&◌, ◌||◌, nat_lt, ◌==◌, IsTrue, Contains, List, [], ◌∷◌, length, Option, Some, None, slice_get, slice_index}
use Rattle.vector_stamp.specs.declared.clock.Stamp.{Stamp}
use Rattle.vector_stamp.specs.Order.{own_count, id_before, stamp_before, are_apart}
use Rattle.program_defs.specs.declared.script.Script.{Script}
use Rattle.program_defs.specs.declared.script.Request.{Request}
use Rattle.report_rules.specs.declared.report.Reply.{Reply}
use Rattle.report_rules.specs.Lookups.{is_none_or, are_both, request_at}
use Rattle.report_rules.specs.RightReport.{is_home_of, are_begun_in_turn}
use Rattle.order_witness.specs.Begun.{stamp_in}

-- the first stamp's home is the lesser one; or the homes are the same, and the first is before the second as its epoch
-- and own count say
abbrev pub comes_before : Stamp → Stamp → Bool
comes_before s t = nat_lt s.home t.home || ((s.home == t.home) && id_before s t && stamp_before s t)

-- the same of two begun requests
abbrev pub request_comes_before : List Reply → ℕ → ℕ → Bool
request_comes_before replies a b = are_both comes_before (stamp_in replies a) (stamp_in replies b)

-- the first request's session is the lesser one; or the sessions are the same, and the requests begin in turn
abbrev pub session_comes_before : Script → List Reply → ℕ → ℕ → Bool
session_comes_before script replies a b =
    are_both (λ (x : Request) (y : Request).
    nat_lt x.session y.session
    || ((x.session == y.session) && nat_lt a b && are_begun_in_turn (stamp_in replies a) (stamp_in replies b)))
    (request_at script a) (request_at script b)

-- what the sort sees of a begun request: its home, epoch and own count, and its place
abbrev pub stamp_entry : ℕ → Option Stamp → List (ℕ × ℕ × ℕ × ℕ)
stamp_entry place None = []
stamp_entry place (Some stamp) = (stamp.home, stamp.clock.epoch, own_count stamp, place) ∷ []

-- what the sort sees of a request: its session, and its place
abbrev pub session_entry : ℕ → Option Request → List (ℕ × ℕ)
session_entry place None = []
session_entry place (Some request) = (request.session, place) ∷ []

-- the places of the begun requests are among these
abbrev pub HasBegunPlaces : List Reply → List ℕ → Type 0
HasBegunPlaces replies places =
    (place : ℕ) (stamp : Stamp) → stamp_in replies place ≡ Some stamp → Contains places place

-- the places of the requests that have replies are among these
abbrev pub HasRequestPlaces : Script → List Reply → List ℕ → Type 0
HasRequestPlaces script replies places =
    (place : ℕ) (request : Request) → place < length replies → request_at script place ≡ Some request
    → Contains places place

-- each of the first requests but one comes before the next one
abbrev pub AreInTurnTo : (ℕ → ℕ → Bool) → List ℕ → ℕ → Type 0
AreInTurnTo test requests count =
    (k : ℕ) → k + 1 < count → IsTrue (test (slice_index requests k) (slice_index requests (k + 1)))

-- the stamps of each two begun requests are apart
abbrev pub AreStampsApart : List Reply → Type 0
AreStampsApart replies =
    (a b : ℕ) (s t : Stamp) → a ≢ b → stamp_in replies a ≡ Some s → stamp_in replies b ≡ Some t → IsTrue (are_apart s t)

-- the requests of a session begin in turn
abbrev pub DoSessionsTakeTurns : Script → List Reply → Type 0
DoSessionsTakeTurns script replies =
    (a b : ℕ) (x y : Request) → a < b → b < length replies → request_at script a ≡ Some x → request_at script b ≡ Some y
    → x.session ≡ y.session → IsTrue (are_begun_in_turn (stamp_in replies a) (stamp_in replies b))

-- the reply is of the request of its place, which exists, and its stamp is of the request's gatekeeper
abbrev pub is_at_place : Script → ℕ → Reply → Bool
is_at_place script place reply =
    (reply.request == place) && nat_lt reply.request (length script.requests)
    && is_none_or (is_home_of (request_at script reply.request)) reply.stamp

-- each of the first `count` replies is at its place
abbrev pub AreAtPlaces : Script → List Reply → ℕ → Type 0
AreAtPlaces script replies count =
    (place : ℕ) (reply : Reply) → place < count → slice_get replies place ≡ Some reply
    → IsTrue (is_at_place script place reply)
