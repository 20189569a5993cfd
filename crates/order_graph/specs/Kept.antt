-- The graph of decided orders as callers see it (timeline oracle of Kronos, EuroSys 2014).
use Rattle.std.specs.Prelude.{ℕ, List}
use Rattle.vector_stamp.specs.Precedence.{GivenPair}

-- the pairs, in the order in which they were added, and for how many more there is memory
pub record PairsView : Type 0 where
  pub pairs : List GivenPair
  pub spare : ℕ
