-- One step of a visit, for proofs: no public contract cites this.
use Rattle.std.specs.Prelude.{◌⊎◌, List, [], ◌∷◌, Contains, Option, Some, None}
use Rattle.vector_stamp.specs.declared.clock.Stamp.{Stamp}
use Rattle.version_chain.specs.declared.view.Seen.{Seen}

-- the version that was looked at, if it was seen
abbrev pub read_of : Option Seen → Stamp → List Stamp
read_of None update = []
read_of (Some seen) update = update ∷ []

-- each of these stamps was known before, or was handed in
abbrev pub LearnsOnly : List Stamp → List Stamp → List Stamp → Type 0
LearnsOnly handed old new = (stamp : Stamp) → Contains new stamp → Contains old stamp ⊎ Contains handed stamp

-- no stamp is forgotten
abbrev pub ForgetsNone : List Stamp → List Stamp → Type 0
ForgetsNone old new = (stamp : Stamp) → Contains old stamp → Contains new stamp
