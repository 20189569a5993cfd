-- Sinks that take nothing.
use Rattle.std.specs.Prelude.{◌≡◌, ℕ, ◌<◌, List, length, Result, Ok}
use Rattle.weave_io.specs.declared.faults.Failed.{Failed}

-- the sink took nothing of a piece that isn't empty
abbrev pub IsStall : Result ℕ Failed → List ℕ → Type 0
IsStall result piece = (result ≡ Ok 0) × (0 < length piece)
