-- Which states a cut leaves as they are. Only proofs use this. No public contract cites this.
use Rattle.std.specs.Prelude.{◌≡◌, ◌≤◌, ℕ, false, Option}
use Rattle.version_parts.specs.declared.cut.Cut.{Cut}
use Rattle.version_parts.specs.declared.cut.Cut.TheVariants.{Newer, Older}
use Rattle.version_parts.specs.declared.time.Time.{Time}
use Rattle.version_parts.specs.Times.{counts}

-- what doesn't count after the oldest update doesn't count at a later one
abbrev pub StaysHidden : ℕ → Option Time → Option Time → Type 0
StaysHidden oldest since later_since = (time : Time) → time.update ≤ oldest → counts since time ≡ false
    → counts later_since time ≡ false

-- a cut drops nothing that a part has after this update, if what it is part of is there since `since`
abbrev pub Spares : Cut → ℕ → Option Time → Type 0
Spares (Newer newest) update since = update ≤ newest
Spares (Older oldest oldest_since) update since = (oldest ≤ update) × StaysHidden oldest oldest_since since
