-- The bytes that a source has left and those that a sink has taken. They are known of a source or a sink, or they
-- aren't, and that never changes.
use Rattle.std.specs.Prelude.{◌≡◌, ◌⊎◌, ⊤, ℕ, ◌+◌, ◌≤◌, List, [], ◌++◌, take, drop, length, Option, None, Some, IfSome}
use Rattle.std.specs.Option.{option_map}
use Rattle.weave_data.specs.Limits.{most_bytes}

-- the bytes, if they are known
abbrev pub ToldBytes : Type 0
ToldBytes = Option (List ℕ)

-- if they are known, they are these
abbrev pub Tells : ToldBytes → List ℕ → Type 0
Tells None bytes = ⊤
Tells (Some told) bytes = told ≡ bytes

-- these bytes came off the front of what was left
abbrev pub Takes : ToldBytes → ToldBytes → List ℕ → Type 0
Takes before after bytes = before ≡ option_map (λ rest. bytes ++ rest) after

-- `count` bytes were taken from the front: there were that many, and the rest is left
abbrev pub TakesCount : ToldBytes → ToldBytes → ℕ → Type 0
TakesCount before after count = (IfSome before (λ all. count ≤ length all)) × (after ≡ option_map (drop count) before)

-- at most `most` bytes were taken from the front, and the rest is left
abbrev pub TakesAtMost : ToldBytes → ToldBytes → ℕ → Type 0
TakesAtMost before after most = (count : ℕ) × (count ≤ most) × TakesCount before after count

-- these bytes were put at the end of what was written
abbrev pub Appends : ToldBytes → ToldBytes → List ℕ → Type 0
Appends before after bytes = after ≡ option_map (λ written. written ++ bytes) before

-- some bytes from the start of this text were put at the end of what was written
abbrev pub AppendsPrefix : ToldBytes → ToldBytes → List ℕ → Type 0
AppendsPrefix before after text = (count : ℕ) × Appends before after (take count text)

-- what was written before is still in front
abbrev pub KeepsWritten : ToldBytes → ToldBytes → Type 0
KeepsWritten before after = (more : List ℕ) × Appends before after more

-- the input was read whole, or as far as shows that it is too long
abbrev pub IsReadWhole : ToldBytes → ToldBytes → Type 0
IsReadWhole before after = Tells after [] ⊎ TakesCount before after (most_bytes + 1)

-- if the bytes that the source had left are known, a text that fits them was put at the end of what was written
abbrev pub Writes : (List ℕ → List ℕ → Type 0) → ToldBytes → ToldBytes → ToldBytes → Type 0
Writes Fits left before after = IfSome left (λ input. (text : List ℕ) × Fits input text × Appends before after text)

-- or some of such a text, from its start
abbrev pub WritesPrefix : (List ℕ → List ℕ → Type 0) → ToldBytes → ToldBytes → ToldBytes → Type 0
WritesPrefix Fits left before after = IfSome left (λ input. (text : List ℕ) × Fits input text
    × AppendsPrefix before after text)
