-- A `prog` line with fewer than three words after `prog` is refused as a line.
-- Used by `prog_of`.
use Rattle.std.proofs.Common.{◌≡◌, ℕ, ◌<◌, [], ◌∷◌, length, Err, refl, arith}
use Rattle.weave_text.specs.Lines.{Line}
use Rattle.weave_script.specs.declared.fault.Cause.TheVariants as causes
use Rattle.weave_script.specs.Requests.{prog_of}

-- fewer than three words after `prog` are no program
pub prog_of-short : (gates : ℕ) (line : Line) → length line < 3 → prog_of gates line ≡ Err causes.Line
prog_of-short gates [] few = refl
prog_of-short gates (a ∷ []) few = refl
prog_of-short gates (a ∷ b ∷ []) few = refl
prog_of-short gates (a ∷ b ∷ c ∷ rest) few = absurd (omega arith)
