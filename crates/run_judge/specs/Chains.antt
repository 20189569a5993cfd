-- The begun requests in chains whose stamps rise, each at its spot. No public contract cites it.
use Rattle.std.specs.Prelude.{◌≡◌, ℕ, ◌<◌, ◌≤◌, ◌-◌, IsTrue, List, length, slice_index_or}
use Rattle.order_witness.specs.ByNumber.{list_at}
use Rattle.order_witness.specs.Heads.{item}
use Rattle.order_witness.specs.Preceding.{Test}
use Rattle.order_witness.specs.Rows.{HadTurn}
use Rattle.run_judge.specs.declared.chains.Spot.{Spot}

-- no place
abbrev pub no_spot : Spot
no_spot = record { chain = 0; place = 0 }

-- the spot of a request
abbrev pub spot_at : List Spot → ℕ → Spot
spot_at spots r = slice_index_or spots r no_spot

-- the stamps of each chain rise
abbrev pub AreRisingBy : Test → List (List ℕ) → Type 0
AreRisingBy before chains =
    (c j k : ℕ) → j < k → k < length (list_at chains c)
    → IsTrue (before (item (list_at chains c) j) (item (list_at chains c) k))

-- the request's stamp is after that of the last one of the chain, if there is one
abbrev pub MayGoOn : Test → List ℕ → ℕ → Type 0
MayGoOn before chain r = 0 < length chain → IsTrue (before (item chain (length chain - 1)) r)

-- the request is there
pub record IsAtSpot (chains : List (List ℕ)) (spot : Spot) (a : ℕ) : Type 0 where
  pub there : spot.chain < length chains
  pub some : 0 < spot.place
  pub within : spot.place ≤ length (list_at chains spot.chain)
  pub event : item (list_at chains spot.chain) (spot.place - 1) ≡ a

-- the stamps of the chains rise, and each request that had one of the first n turns is at its spot
pub record AreTurnChains (before : Test) (turns : List ℕ) (n : ℕ) (chains : List (List ℕ)) (spots : List Spot)
    : Type 0 where
  pub rising : AreRisingBy before chains
  pub placed : (a : ℕ) → HadTurn turns n a → IsAtSpot chains (spot_at spots a) a
