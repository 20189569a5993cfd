-- A stamp precedes another exactly if the test passes, by a law of stamps.
-- Used by OneSession, OneThingWrong, ThreeGatekeepers, TwoSessions, WithPrograms and crates order_witness and
-- report_rows.
use Rattle.std.proofs.Common.{◌≡◌, false, IsTrue, List}
use Rattle.std.specs.Prelude.{◌↔◌}
use Rattle.std.proofs.lemmas.Bool.{both_ways}
use Rattle.vector_stamp.specs.declared.clock.Stamp.{Stamp}
use Rattle.vector_stamp.specs.Precedence.{GivenPair, Precedes, precedes}

-- precedence is decided by its test: a law of stamps
abbrev pub IsDecided : Type 0
IsDecided = (pairs : List GivenPair) (a b : Stamp) → Precedes pairs a b ↔ IsTrue (precedes pairs a b)

module _ (decided : IsDecided) where
  -- what passes the test precedes
  pub way : (pairs : List GivenPair) (a b : Stamp) → IsTrue (precedes pairs a b) → Precedes pairs a b
  way pairs a b = (decided pairs a b).1

  -- what precedes passes the test
  pub tested : (pairs : List GivenPair) (a b : Stamp) → Precedes pairs a b → IsTrue (precedes pairs a b)
  tested pairs a b = (decided pairs a b).0

  -- what fails the test doesn't precede
  pub no_way : (pairs : List GivenPair) (a b : Stamp) → precedes pairs a b ≡ false → ¬ Precedes pairs a b
  no_way pairs a b e h = both_ways _ e (tested pairs a b h)
