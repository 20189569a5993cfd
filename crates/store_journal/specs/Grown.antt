-- A file that was made long enough. (Only a private function of the disk in memory cites it.)
use Rattle.std.specs.Prelude.{◌≡◌, ℕ, ◌-◌, ◌<◌, ◌≤◌, List, ◌++◌, length, take, replicate}

-- it has at least this length: the same, or with zeros at its end
pub record IsLongEnough (end : ℕ) (old new : List ℕ) : Type 0 where
  pub long : end ≤ length new
  pub same : end ≤ length old → new ≡ old
  pub filled : length old < end → new ≡ take end old ++ replicate (end - length old) 0
