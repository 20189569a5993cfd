-- A name's bytes as they lie in 32.
-- Used by `parse`.
use Rattle.std.proofs.Common.{◌≡◌, ℕ, List, ◌++◌, length, drop, replicate, IsTrue, refl, ap}
use Rattle.std.proofs.lemmas.List.{drop-replicate}
use Rattle.std.proofs.Math.Seq.{take-append_seam}
use Rattle.weave_data.specs.Names.{is_name, IsStored}

-- the bytes of a name, copied over the first of 32 zeros, are stored as a name of their length
pub stored : (bytes copied : List ℕ) → copied ≡ bytes → IsTrue (is_name bytes) → IsStored (length bytes) (copied ++ drop (length bytes) (replicate 32 0))
stored bytes copied e h = rw e (rw take-append_seam h, rw take-append_seam refl, rw take-append_seam (ap (λ t. bytes ++ t) (drop-replicate (length bytes) 32 0)))
