-- The choice of the next request of the printed order, by tests. No public contract cites this.
use Rattle.std.specs.Prelude.{◌≡◌, ◌≤◌, ℕ, Bool, true, false, not, nat_lt, IsTrue, List, Option, Some, None}
use Rattle.std.specs.List.{list_any, AllByRecursion, filter_map}
use Rattle.std.specs.Option.{option_map}
use Rattle.vector_stamp.specs.declared.clock.Stamp.{Stamp}
use Rattle.report_rules.specs.declared.report.Report.{Report}
use Rattle.report_rules.specs.declared.report.Reply.{Reply}
use Rattle.report_rules.specs.Lookups.{is_in, stamp_at}

-- the begun requests of a list of replies
abbrev pub requests_begun : List Reply → List ℕ
requests_begun replies =
    filter_map (λ (reply : Reply). option_map (λ (stamp : Stamp). reply.request) reply.stamp) replies

-- by this precedence, none of these requests precedes that one
abbrev pub is_free : (ℕ → ℕ → Bool) → List ℕ → ℕ → Bool
is_free precedence remaining r = not (list_any (λ other. precedence other r) remaining)

-- the home of a stamp, 0 without one
abbrev pub home_in : Option Stamp → ℕ
home_in None = 0
home_in (Some stamp) = stamp.home

-- the home of a request
abbrev pub home_at : Report → ℕ → ℕ
home_at report r = home_in (stamp_at report r)

-- among the requests of the list that are free among the remaining ones, this is the first one with the lowest home; or
-- none is free
abbrev pub IsBest : Report → (ℕ → ℕ → Bool) → List ℕ → List ℕ → Option ℕ → Type 0
IsBest report precedence remaining requests None = AllByRecursion (λ r. is_free precedence remaining r ≡ false) requests
IsBest report precedence remaining requests (Some best) =
    IsTrue (is_in best requests) × IsTrue (is_free precedence remaining best)
    × AllByRecursion (λ r. IsTrue (is_free precedence remaining r) → home_at report best ≤ home_at report r) requests

-- there is none yet, or this one's home is below that one's. No public contract cites this.
abbrev pub is_better : Report → Option ℕ → ℕ → Bool
is_better report None r = true
is_better report (Some best) r = nat_lt (home_at report r) (home_at report best)
