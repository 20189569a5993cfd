-- Rows: of each chain how many of its first requests precede a request. No public contract cites it.
use Rattle.std.specs.Prelude.{◌≡◌, ◌⊎◌, ℕ, ◌≤◌, ◌<◌, Bool, nat_le, IsTrue, List, length}
use Rattle.order_witness.specs.ByNumber.{list_at}
use Rattle.order_witness.specs.Heads.{item}
use Rattle.order_witness.specs.Rows.{HadTurn}
use Rattle.run_judge.specs.declared.chains.Spot.{Spot}
use Rattle.run_judge.specs.Chains.{spot_at}

-- the row counts the request
abbrev pub is_counted : List Spot → List ℕ → ℕ → Bool
is_counted spots row a = nat_le (spot_at spots a).place (item row (spot_at spots a).chain)

-- the first requests of the chains that the row counts precede b
abbrev pub CountsPreceding : (ℕ → ℕ → Type 0) → List (List ℕ) → List ℕ → ℕ → Type 0
CountsPreceding Leads chains row b =
    (c k : ℕ) → c < length chains → k < item row c → Leads (item (list_at chains c) k) b

-- the row of b has a number for each chain, at most its length; what it counts precedes b, and it counts all that does
pub record IsRow (Leads : ℕ → ℕ → Type 0) (chains : List (List ℕ)) (spots : List Spot) (b : ℕ) (row : List ℕ)
    : Type 0 where
  pub size : length row ≡ length chains
  pub within : (c : ℕ) → item row c ≤ length (list_at chains c)
  pub sound : CountsPreceding Leads chains row b
  pub all : (a : ℕ) → Leads a b → IsTrue (is_counted spots row a)

-- each request that had one of the first n turns has its row
abbrev pub AreTurnRows : (ℕ → ℕ → Type 0) → List (List ℕ) → List Spot → List ℕ → ℕ → List (List ℕ) → Type 0
AreTurnRows Leads chains spots turns n rows =
    (b : ℕ) → HadTurn turns n b → IsRow Leads chains spots b (list_at rows b)

-- a part of a row of b: what it counts precedes b, and what leads to that is counted
pub record IsPartOfRow (Leads : ℕ → ℕ → Type 0) (chains : List (List ℕ)) (spots : List Spot) (b : ℕ) (row : List ℕ)
    : Type 0 where
  pub size : length row ≡ length chains
  pub within : (c : ℕ) → item row c ≤ length (list_at chains c)
  pub sound : CountsPreceding Leads chains row b
  pub closed : (c k a : ℕ) → c < length chains → k < item row c → Leads a (item (list_at chains c) k)
      → IsTrue (is_counted spots row a)

-- The number for chain c after two are joined, and the first requests of one chain, that many, are taken in.
pub record IsJoinedCount (chain count c a b top : ℕ) : Type 0 where
  pub first : a ≤ top
  pub second : b ≤ top
  pub counted : c ≡ chain → count ≤ top
  pub only : (k : ℕ) → k < top → (k < a) ⊎ ((k < b) ⊎ ((c ≡ chain) × (k < count)))

-- this of each chain
pub record IsJoined (old other new : List ℕ) (chain count : ℕ) : Type 0 where
  pub size : length new ≡ length old
  pub each : (c : ℕ) → c < length old → IsJoinedCount chain count c (item old c) (item other c) (item new c)
