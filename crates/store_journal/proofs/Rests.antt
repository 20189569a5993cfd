-- What is left of a list after a place, as a slice of it without an end is seen.
-- Used by `keep_record`, `pass_record` and `said_after`.
use Rattle.std.proofs.Common.{◌≡◌, ℕ, ◌-◌, List, length, take, drop, arith, length-drop}
use Rattle.std.proofs.lemmas.List.{take_all}

-- a slice from a place on is what is left there
pub rest_of : (xs : List ℕ) (i : ℕ) → take (length xs - i) (drop i xs) ≡ drop i xs
rest_of xs i = take_all (length xs - i) (drop i xs) (omega (arith, length-drop i xs))
