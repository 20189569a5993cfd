-- Rows of counts: of each run the place up to which its requests precede a request. No public contract cites it.
use Rattle.std.specs.Prelude.{◌≡◌, ℕ, ◌-◌, ◌≤◌, ◌<◌, Bool, ◌&&◌, ◌||◌, nat_eq, nat_lt, IsTrue, List, length, Some, ◌⊎◌, ◌↔◌}
use Rattle.vector_stamp.specs.declared.clock.Stamp.{Stamp}
use Rattle.report_rules.specs.declared.report.Report.{Report}
use Rattle.report_rules.specs.Lookups.{stamp_at, RequestPrecedes}
use Rattle.report_rules.specs.PrintedOrder.{TakesAll, begun_requests}
use Rattle.order_witness.specs.declared.heads.Run.{Run}
use Rattle.order_witness.specs.Begun.{is_request_before, NonePrecedesItself}
use Rattle.order_witness.specs.ByNumber.{list_at}
use Rattle.order_witness.specs.Heads.{item, run_at, IsReached}
use Rattle.order_witness.specs.Marks.{RiseBy}
use Rattle.order_witness.specs.Preceding.{Test, leads_directly, LeadsBySteps}

-- a row counts a request: it is in a run below the row's place
pub record IsCounted (line : List ℕ) (runs : List Run) (row : List ℕ) (a : ℕ) : Type 0 where
  pub i : ℕ
  pub there : i < length runs
  pub k : ℕ
  pub from : (run_at runs i).next ≤ k
  pub below : k < item row i
  pub event : item line k ≡ a

-- the place of a run after two rows are joined, and the requests up to a place taken in if it is in the run
pub record IsTakenIn (run : Run) (place a b top : ℕ) : Type 0 where
  pub first : a ≤ top
  pub second : b ≤ top
  pub placed : run.next ≤ place → place < run.end → place < top
  pub only : (k : ℕ) → k < top → (k < a) ⊎ ((k < b) ⊎ ((run.next ≤ place) × (place < run.end) × (k ≤ place)))

-- this of each run
pub record IsIncluded (runs : List Run) (old other new : List ℕ) (place : ℕ) : Type 0 where
  pub size : length new ≡ length old
  pub each : (i : ℕ) → i < length runs → IsTakenIn (run_at runs i) place (item old i) (item other i) (item new i)

-- the row is as it was, or a request whose stamp is before was taken in
abbrev pub MayTakeInOneBefore : Test → List Run → List ℕ → List (List ℕ) → ℕ → List ℕ → List ℕ → Type 0
MayTakeInOneBefore before runs places rows event old new =
    (new ≡ old)
    ⊎ ((a : ℕ) × IsTrue (before a event) × IsIncluded runs old (list_at rows a) new (item places a))

-- the requests in runs: the order of stamps is transitive, the stamps of a run rise, and each request that leads to
-- another one is at its place in a run
pub record AreLined (before : Test) (ends : ℕ → List ℕ) (line : List ℕ) (runs : List Run)
    (places : List ℕ) : Type 0 where
  pub transitive : (a b c : ℕ) → IsTrue (before a b) → IsTrue (before b c) → IsTrue (before a c)
  pub rising : RiseBy before line runs
  pub placed : (a b : ℕ) → IsTrue (leads_directly before ends a b)
      → (item line (item places a) ≡ a) × IsReached runs (item places a)

-- of each of the first requests of the line that is below the count, its place is among these
abbrev pub ArePlacesIn : List ℕ → ℕ → ℕ → List ℕ → Type 0
ArePlacesIn line count upto places =
    (k : ℕ) → k < upto → item line k < count
    → (item line (item places (item line k)) ≡ item line k) × (item places (item line k) < length line)

-- the request had one of the first n turns
pub record HadTurn (turns : List ℕ) (n a : ℕ) : Type 0 where
  pub j : ℕ
  pub within : j < n
  pub event : item turns j ≡ a

-- each request has one turn, after all that directly leads to it, and a row
pub record AreTurns (direct : Test) (turns : List ℕ) (count : ℕ) : Type 0 where
  pub after : (k a : ℕ) → k < length turns → IsTrue (direct a (item turns k)) → HadTurn turns k a
  pub apart : (j k : ℕ) → j < k → k < length turns → ¬ (item turns j ≡ item turns k)
  pub within : (k : ℕ) → k < length turns → item turns k < count

-- the place is that of the run's first request, or not past its end
abbrev pub IsInItsRun : Run → ℕ → Type 0
IsInItsRun run place = (place ≡ run.next) ⊎ (place ≤ run.end)

-- a part of the row of b: it counts requests that had their turns and precede b, and what their rows count
pub record IsPart (direct : Test) (line : List ℕ) (runs : List Run) (turns : List ℕ) (n : ℕ) (rows : List (List ℕ))
    (b : ℕ) (row : List ℕ) : Type 0 where
  pub size : length row ≡ length runs
  pub started : (i : ℕ) → i < length runs → (run_at runs i).next ≤ item row i
  pub ended : (i : ℕ) → i < length runs → IsInItsRun (run_at runs i) (item row i)
  pub done : (x : ℕ) → IsCounted line runs row x → HadTurn turns n x
  pub whole : (x y : ℕ) → IsCounted line runs row x → IsCounted line runs (list_at rows x) y → IsCounted line runs row y
  pub sound : (x : ℕ) → IsCounted line runs row x → LeadsBySteps direct x b

-- the row of b: it counts all that directly leads to b, too
pub record IsRowOfCounts (direct : Test) (line : List ℕ) (runs : List Run) (turns : List ℕ) (n : ℕ)
    (rows : List (List ℕ)) (b : ℕ) (row : List ℕ) : Type 0 where
  pub part : IsPart direct line runs turns n rows b row
  pub all : (x : ℕ) → IsTrue (direct x b) → IsCounted line runs row x

-- each request that had its turn has its row
abbrev pub AreRowsOfCounts : Test → List ℕ → List Run → List ℕ → ℕ → List (List ℕ) → Type 0
AreRowsOfCounts direct line runs turns n rows =
    (x : ℕ) → HadTurn turns n x → IsRowOfCounts direct line runs turns n rows x (list_at rows x)

-- the rows say exactly what precedes a request that had its turn
pub record RowsTell (direct : Test) (line : List ℕ) (runs : List Run) (turns : List ℕ)
    (rows : List (List ℕ)) : Type 0 where
  pub tell : (a b : ℕ) → HadTurn turns (length turns) b
      → IsCounted line runs (list_at rows b) a ↔ LeadsBySteps direct a b
  pub ended : (b i : ℕ) → HadTurn turns (length turns) b → i < length runs
      → IsInItsRun (run_at runs i) (item (list_at rows b) i)

-- the last request of a run below a place is this one, or its stamp is after this one's
abbrev pub is_below_last : Report → List ℕ → Run → ℕ → ℕ → Bool
is_below_last report line run top r =
    nat_lt run.next top && (nat_eq r (item line (top - 1)) || is_request_before report r (item line (top - 1)))

-- the rows say exactly which request precedes a begun one
abbrev pub CountsTell : Report → List ℕ → List Run → List (List ℕ) → Type 0
CountsTell report line runs rows =
    (a b : ℕ) (stamp : Stamp) → stamp_at report b ≡ Some stamp
    → ((i : ℕ) × (i < length runs) × IsTrue (is_below_last report line (run_at runs i) (item (list_at rows b) i) a))
    ↔ RequestPrecedes report a b

-- the begun requests are taken one after another, each after all that precede it
abbrev pub AreAllTurns : Report → List ℕ → Type 0
AreAllTurns report turns = TakesAll report (begun_requests report) turns × NonePrecedesItself report
