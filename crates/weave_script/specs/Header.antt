-- The first line of a script.
use Rattle.std.specs.Prelude.{ℕ, Bool, ◌&&◌, ◌||◌, [], ◌∷◌, Ok, Err, codes, if◌then◌else◌}
use Rattle.std.specs.Str.{bytes_eq}
use Rattle.weave_text.specs.Lines.{Word, Line}
use Rattle.weave_text.specs.Numbers.{is_number}
use Rattle.weave_script.specs.declared.fault.Cause.TheVariants as causes
use Rattle.weave_script.specs.declared.read.header.Header.{Header}
use Rattle.weave_data.specs.Steps.{◌>>=◌}
use Rattle.weave_data.specs.Limits.{most_gates, most_shards}
use Rattle.weave_script.specs.Fields.{ReadOrCause, number_in}

-- the numbers of gatekeepers and of shards that two words are
abbrev pub sizes_of : Word → Word → ReadOrCause (ℕ × ℕ)
sizes_of gates shards =
    number_in 1 most_gates causes.Gatekeepers gates >>= λ gates.
    number_in 1 most_shards causes.Shards shards >>= λ shards.
    Ok (gates, shards)

-- the word is that of a version
abbrev pub is_version : Word → Bool
is_version word = bytes_eq word (codes "1") || bytes_eq word (codes "2")

-- a header of a version, with these numbers of gatekeepers and shards
abbrev pub header_with : Bool → Word → Word → ReadOrCause Header
header_with joins gates shards =
    sizes_of gates shards >>= λ sizes. Ok (record { joins = joins; gates = sizes.0; shards = sizes.1 })

-- what the header says; it is first judged as a whole
abbrev pub header_of : Line → ReadOrCause Header
header_of (word ∷ version ∷ gates ∷ shards ∷ []) =
    if bytes_eq word (codes "weaver") && is_version version && is_number gates && is_number shards
    then header_with (bytes_eq version (codes "2")) gates shards
    else Err causes.Header
header_of _ = Err causes.Header
