-- What leads to a request, level by level: a list of requests, with the one before through which each was found. No
-- public contract cites it.
use Rattle.std.specs.Prelude.{◌≡◌, ℕ, zero, suc, ◌+◌, ◌≤◌, ◌<◌, Bool, IsTrue, List, [], ◌∷◌, length, Option, Some, None}
use Rattle.order_witness.specs.Heads.{item}
use Rattle.order_witness.specs.Marks.{is_marked}
use Rattle.order_witness.specs.Preceding.{Test}

-- node 0 is the request itself, and the others are those that were found
abbrev pub node : ℕ → List ℕ → ℕ → ℕ
node b found zero = b
node b found (suc k) = item found k

-- the nodes before `looked` were looked at: all that leads directly to them is found, through the first of them to
-- which it leads
pub record IsSpread (direct : Test) (b : ℕ) (marked : List Bool) (found from : List ℕ) (looked : ℕ) : Type 0 where
  pub size : length from ≡ length found
  pub within : looked ≤ length found + 1
  pub steps : (i : ℕ) → i < length found → IsTrue (direct (item found i) (node b found (item from i)))
  pub back : (i : ℕ) → i < length found → item from i ≤ i
  pub below : (i : ℕ) → i < length found → item from i < looked
  pub rising : (i j : ℕ) → i ≤ j → j < length found → item from i ≤ item from j
  pub listed : (a : ℕ) → IsTrue (is_marked marked a) → (i : ℕ) × (i < length found) × (item found i ≡ a)
  pub closed : (m a : ℕ) → m < looked → IsTrue (direct a (node b found m))
      → (i : ℕ) × (i < length found) × (item found i ≡ a) × (item from i ≤ m)

-- all that was found was looked at
abbrev pub IsSpreadWhole : Test → ℕ → List ℕ → List ℕ → Type 0
IsSpreadWhole direct b found from = (marked : List Bool) × IsSpread direct b marked found from (length found + 1)

-- from a node on, the nodes through which each was found, down to node 0
pub data IsFoundThrough (b : ℕ) (found from : List ℕ) : ℕ → List ℕ → Type 0 where
  AtEnd : IsFoundThrough b found from 0 []
  Further : (i : ℕ) (rest : List ℕ) → IsFoundThrough b found from (item from i) rest
      → IsFoundThrough b found from (suc i) (node b found (item from i) ∷ rest)

-- the first place of a number in a list, if it is there
abbrev pub IsFirstPlace : List ℕ → ℕ → Option ℕ → Type 0
IsFirstPlace xs a None = (k : ℕ) → k < length xs → ¬ (item xs k ≡ a)
IsFirstPlace xs a (Some place) =
    (place < length xs) × (item xs place ≡ a) × ((k : ℕ) → k < place → ¬ (item xs k ≡ a))
