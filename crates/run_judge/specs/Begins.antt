-- How many phases begin with each request. No public contract cites it.
use Rattle.std.specs.Prelude.{◌≡◌, ℕ, ◌<◌, ◌==◌, List, length, count_by}
use Rattle.order_witness.specs.Heads.{item}

-- for each request below the count, how many of the phases begin with it
pub record AreBegins (phases : List ℕ) (count : ℕ) (begins : List ℕ) : Type 0 where
  pub size : length begins ≡ count
  pub each : (r : ℕ) → r < count → item begins r ≡ count_by (λ before. before == r) phases
