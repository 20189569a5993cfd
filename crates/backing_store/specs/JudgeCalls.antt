-- What a judge keeps of a call. For proofs: no public contract cites it.
use Rattle.std.specs.Prelude.{ℕ, List, [], Option, None, Some}

-- this list if no place was refused, otherwise none of it
abbrev pub if_permitted : {A : Type 0} → Option ℕ → List A → List A
if_permitted None kept = kept
if_permitted (Some place) kept = []
