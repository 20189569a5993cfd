-- The printed order by the heads of chains. No public contract cites it.
-- The begun requests are in runs whose stamps rise, of which only the first ones left may be next.
use Rattle.std.specs.Prelude.{◌≡◌, ℕ, ◌≤◌, ◌<◌, Bool, true, false, not, nat_lt, nat_le, IsTrue, List, [], ◌∷◌, length, Option, Some, None, slice_index_or, if◌then◌else◌}
use Rattle.std.specs.List.{filter, filter_map}
use Rattle.vector_stamp.specs.declared.clock.Stamp.{Stamp}
use Rattle.report_rules.specs.declared.report.Report.{Report}
use Rattle.report_rules.specs.declared.report.Reply.{Reply}
use Rattle.report_rules.specs.declared.report.Pair.{Pair}
use Rattle.report_rules.specs.Lookups.{is_in, is_committed_or_finished, stamp_at}
use Rattle.order_witness.specs.declared.heads.Run.{Run}
use Rattle.order_witness.specs.Begun.{is_request_before, request_precedes, pairs_lead}
use Rattle.order_witness.specs.ByNumber.{list_at}
use Rattle.order_witness.specs.Choices.{IsBest, requests_begun}

-- the number at a place of a list, 0 past its end
abbrev pub item : List ℕ → ℕ → ℕ
item xs k = slice_index_or xs k 0

-- the request had its turn, or was never begun
abbrev pub is_done : List Bool → ℕ → Bool
is_done done r = slice_index_or done r true

-- the begun requests that are left
abbrev pub requests_left : Report → List Bool → List ℕ
requests_left report done = filter (λ r. not (is_done done r)) (requests_begun report.replies)

-- a run without requests
abbrev pub no_run : Run
no_run = record { next = 0; end = 0 }

-- the run at a place
abbrev pub run_at : List Run → ℕ → Run
run_at runs i = slice_index_or runs i no_run

-- the stamps of each run rise
abbrev pub AreRising : Report → List ℕ → List Run → Type 0
AreRising report line runs =
    (i j k : ℕ) → i < length runs → (run_at runs i).next ≤ j → j < k → k < (run_at runs i).end
    → IsTrue (is_request_before report (item line j) (item line k))

-- a run reaches over the place
pub record IsReached (runs : List Run) (k : ℕ) : Type 0 where
  pub i : ℕ
  pub there : i < length runs
  pub from : (run_at runs i).next ≤ k
  pub below : k < (run_at runs i).end

-- the first places of the line are cut into runs, the last of which goes on from `start`
pub record AreCut (report : Report) (line : List ℕ) (place start : ℕ) (runs : List Run) : Type 0 where
  pub rising : AreRising report line runs
  pub reached : (k : ℕ) → k < start → IsReached runs k
  pub current : (j k : ℕ) → start ≤ j → j < k → k < place
      → IsTrue (is_request_before report (item line j) (item line k))
  pub in_turn : start < place

-- from this place of a list, up to the end, the first request that is left is at that one
pub record IsFirstLeft (xs : List ℕ) (done : List Bool) (from end first : ℕ) : Type 0 where
  pub passed : (k : ℕ) → from ≤ k → k < first → is_done done (item xs k) ≡ true
  pub is_left : first < end → is_done done (item xs first) ≡ false
  pub onward : first < end → from ≤ first

-- the same of a run
abbrev pub IsAdvanced : List ℕ → List Bool → Run → Run → Type 0
IsAdvanced line done old new = (new.end ≡ old.end) × IsFirstLeft line done old.next old.end new.next

-- the same of each run
abbrev pub AreAdvanced : List ℕ → List Bool → List Run → List Run → Type 0
AreAdvanced line done old new = (i : ℕ) → i < length old → IsAdvanced line done (run_at old i) (run_at new i)

-- the first request of a run
abbrev pub head_of_run : List ℕ → Run → Option ℕ
head_of_run line run = if nat_lt run.next run.end then Some (item line run.next) else None

-- the first requests of runs
abbrev pub heads_of : List ℕ → List Run → List ℕ
heads_of line runs = filter_map (head_of_run line) runs

-- how many earlier ends of its pairs a request has seen done
abbrev pub seen_by_request : List ℕ → ℕ → ℕ
seen_by_request seen r = slice_index_or seen r 0

-- it has seen all of them done
abbrev pub is_ready : List (List ℕ) → List ℕ → ℕ → Bool
is_ready befores seen r = nat_le (length (list_at befores r)) (seen_by_request seen r)

-- the lists have for each request the earlier ends of its pairs
abbrev pub AreEndsOf : List Reply → List Pair → List (List ℕ) → Type 0
AreEndsOf replies pairs befores =
    (e r : ℕ) → r < length replies → is_in e (list_at befores r) ≡ pairs_lead replies pairs e r

-- the lists have the earlier ends of a report's pairs
abbrev pub AreEarlierEnds : Report → List (List ℕ) → Type 0
AreEarlierEnds report befores = AreEndsOf report.replies report.pairs befores

-- the earlier end that the request sees next is left, if there is one
abbrev pub IsAtLeft : List (List ℕ) → List Bool → List ℕ → ℕ → Type 0
IsAtLeft befores done seen r =
    seen_by_request seen r < length (list_at befores r)
    → is_done done (item (list_at befores r) (seen_by_request seen r)) ≡ false

-- the request looks on to the first of the earlier ends that is left
abbrev pub IsSeenOn : List (List ℕ) → List Bool → List ℕ → List ℕ → ℕ → Type 0
IsSeenOn befores done old new r =
    IsFirstLeft (list_at befores r) done (seen_by_request old r) (length (list_at befores r)) (seen_by_request new r)

-- what is seen done is done
abbrev pub AreSeenDone : List (List ℕ) → List Bool → List ℕ → Type 0
AreSeenDone befores done seen =
    (r k : ℕ) → k < seen_by_request seen r → is_done done (item (list_at befores r) k) ≡ true

-- the best of the begun requests that are left
abbrev pub IsBestLeft : Report → List Bool → Option ℕ → Type 0
IsBestLeft report done best =
    IsBest report (request_precedes report) (requests_left report done) (requests_left report done) best

-- while requests are taken: those left are in the runs, and precede none that is done
pub record AreWaiting (report : Report) (line : List ℕ) (befores : List (List ℕ)) (runs : List Run) (seen : List ℕ)
    (done : List Bool) : Type 0 where
  pub size : length seen ≡ length report.replies
  pub rising : AreRising report line runs
  pub found : (r : ℕ) → is_done done r ≡ false → (k : ℕ) × IsReached runs k × (item line k ≡ r)
  pub ends : AreEarlierEnds report befores
  pub seen_done : AreSeenDone befores done seen
  pub begun : (r : ℕ) → is_done done r ≡ false → (s : Stamp) × (stamp_at report r ≡ Some s)
  pub closed : (r left : ℕ) (s : Stamp) → stamp_at report r ≡ Some s → is_done done r ≡ true → is_done done left ≡ false
      → request_precedes report left r ≡ false

-- the request of a reply, if the order may list it
abbrev pub listed_in : Option Reply → List ℕ
listed_in None = []
listed_in (Some reply) = if is_committed_or_finished reply.state then reply.request ∷ [] else []
