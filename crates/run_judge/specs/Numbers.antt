-- Numbers of requests by phases, and the latest phases in a chain. No public contract cites it.
use Rattle.std.specs.Prelude.{◌≡◌, ◌⊎◌, ℕ, ◌≤◌, ◌<◌, List, length, Option, Some, None, slice_index_or}
use Rattle.order_witness.specs.ByNumber.{list_at}
use Rattle.order_witness.specs.Heads.{item}
use Rattle.run_judge.specs.declared.phase_numbers.Numbered.{Numbered}

-- the number of a request, if it has one
abbrev pub number_at : List (Option ℕ) → ℕ → Option ℕ
number_at values r = slice_index_or values r None

-- the greatest of the numbers of these requests, with one that has it; or none of them has a number
abbrev pub IsGreatest : (ℕ → ℕ → Type 0) → Option Numbered → Type 0
IsGreatest Has None = (r n : ℕ) → ¬ Has r n
IsGreatest Has (Some found) = Has found.request found.number × ((r n : ℕ) → Has r n → n ≤ found.number)

-- the greatest number so far stays, or is this one
abbrev pub IsGreaterOf : Option Numbered → ℕ → ℕ → Option Numbered → Type 0
IsGreaterOf most request number after =
    ((after ≡ Some (record { request = request; number = number }))
    × ((found : Numbered) → most ≡ Some found → found.number ≤ number))
    ⊎ ((found : Numbered) × (most ≡ Some found) × (after ≡ Some found) × (number ≤ found.number))

-- the request is before this place, and has this number
abbrev pub HasBefore : List (Option ℕ) → ℕ → ℕ → ℕ → Type 0
HasBefore values place r n = (r < place) × (number_at values r ≡ Some n)

-- the request is of an earlier phase than the one at this place, and has this number
abbrev pub HasEarlier : List (Option ℕ) → List ℕ → ℕ → ℕ → ℕ → Type 0
HasEarlier values phases place r n =
    (r < length values) × (item phases r < item phases place) × (number_at values r ≡ Some n)

-- the greatest at a place of a list
abbrev pub greatest_at : List (Option Numbered) → ℕ → Option Numbered
greatest_at greatest place = slice_index_or greatest place None

-- for each of the first places the greatest number of earlier phases
abbrev pub AreGreatest : List (Option ℕ) → List ℕ → ℕ → List (Option Numbered) → Type 0
AreGreatest values phases count greatest =
    (place : ℕ) → place < count → IsGreatest (HasEarlier values phases place) (greatest_at greatest place)

-- the phases never fall
abbrev pub NeverFall : List ℕ → ℕ → Type 0
NeverFall phases count = (j k : ℕ) → j ≤ k → k < count → item phases j ≤ item phases k

-- of the first requests of a chain up to place k, this one is of the latest phase
pub record IsPeak (phases chain : List ℕ) (k p : ℕ) : Type 0 where
  pub place : ℕ
  pub within : place ≤ k
  pub event : item chain place ≡ p
  pub latest : (i : ℕ) → i ≤ k → item phases (item chain i) ≤ item phases p

-- this of each place
abbrev pub ArePeaks : List ℕ → List ℕ → List ℕ → Type 0
ArePeaks phases chain peaks = (k : ℕ) → k < length chain → IsPeak phases chain k (item peaks k)

-- and in each chain
abbrev pub ArePeaksOf : List ℕ → List (List ℕ) → List (List ℕ) → Type 0
ArePeaksOf phases chains peaks = (c : ℕ) → ArePeaks phases (list_at chains c) (list_at peaks c)

-- one of the requests that a row counts, of a later phase than this; or none is
pub record IsLaterCounted (phases : List ℕ) (chains : List (List ℕ)) (row : List ℕ) (phase p : ℕ) : Type 0 where
  pub c : ℕ
  pub k : ℕ
  pub there : c < length row
  pub counted : k < item row c
  pub event : item (list_at chains c) k ≡ p
  pub later : phase < item phases p

-- none of the requests that a row counts is of a later phase than this
abbrev pub NoneLaterCounted : List ℕ → List (List ℕ) → List ℕ → ℕ → Type 0
NoneLaterCounted phases chains row phase =
    (c k : ℕ) → c < length row → k < item row c → item phases (item (list_at chains c) k) ≤ phase
