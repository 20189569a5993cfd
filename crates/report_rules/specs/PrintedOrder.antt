-- The printed order: again and again, among the remaining begun requests that no remaining one precedes, the one of the
-- least home gatekeeper.
use Rattle.std.specs.Prelude.{ℕ, not, ◌==◌, ◌≡◌, ◌<◌, IsTrue, List, [], ◌∷◌}
use Rattle.std.specs.List.{filter, filter_map, AllByRecursion}
use Rattle.std.specs.Option.{option_map}
use Rattle.vector_stamp.specs.declared.clock.Stamp.{Stamp}
use Rattle.report_rules.specs.declared.report.Report.{Report}
use Rattle.report_rules.specs.declared.report.Reply.{Reply}
use Rattle.report_rules.specs.Lookups.{is_in, AreBoth, stamp_at, may_be_listed, RequestPrecedes}

-- the begun requests, finished or not
abbrev pub begun_requests : Report → List ℕ
begun_requests report =
    filter_map (λ (reply : Reply). option_map (λ (stamp : Stamp). reply.request) reply.stamp) report.replies

-- no remaining request precedes this one
abbrev pub IsFree : Report → List ℕ → ℕ → Type 0
IsFree report remaining r = AllByRecursion (λ other. ¬ RequestPrecedes report other r) remaining

-- the home of the first stamp is below that of the second
abbrev pub IsOfLesserHome : Report → ℕ → ℕ → Type 0
IsOfLesserHome report a b = AreBoth (λ (x : Stamp) (y : Stamp). x.home < y.home) (stamp_at report a) (stamp_at report b)

-- among the remaining requests that no remaining one precedes, this is the one of the least home: there is one at most
-- of a home, since the stamps of a home are ordered
pub record IsNext (report : Report) (remaining : List ℕ) (r : ℕ) : Type 0 where
  pub remains : IsTrue (is_in r remaining)
  pub free : IsFree report remaining r
  pub least : AllByRecursion (λ other. IsTrue (not (other == r)) → IsFree report remaining other
      → IsOfLesserHome report r other) remaining

-- the requests without this one
abbrev pub without_request : ℕ → List ℕ → List ℕ
without_request r = filter (λ other. not (other == r))

-- the list takes the remaining requests one after another, until none remains
abbrev pub TakesAll : Report → List ℕ → List ℕ → Type 0
TakesAll report remaining [] = remaining ≡ []
TakesAll report remaining (r ∷ taken) = IsNext report remaining r × TakesAll report (without_request r remaining) taken

-- the begun requests are taken one after another, and those that are neither committed nor finished are then left out
pub record IsPrintedOrder (report : Report) (order : List ℕ) : Type 0 where
  pub taken : List ℕ
  pub in_turn : TakesAll report (begun_requests report) taken
  pub listed : order ≡ filter (may_be_listed report) taken

-- the order of the report is its printed order
abbrev pub IsInPrintedOrder : Report → Type 0
IsInPrintedOrder report = IsPrintedOrder report report.order
