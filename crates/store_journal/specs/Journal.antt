-- The bytes of a journal, and the commits that an image of it has.
use Rattle.std.specs.Prelude.{◌≡◌, ℕ, zero, suc, ◌+◌, ◌<◌, List, [], ◌∷◌, ◌++◌, length, take, get_or, Option, None, Some, if◌then◌else◌, ◌==◌, nat_lt}
use Rattle.std.specs.Int.{w32, to_be_bytes, from_be_bytes}

-- a record without its gate byte: the payload's length as four bytes, the most significant first, and the payload
abbrev pub framed : List ℕ → List ℕ
framed payload = to_be_bytes w32 (length payload) ++ payload

-- the length of the record after a gate byte
abbrev pub record_size : List ℕ → ℕ
record_size (a ∷ b ∷ c ∷ d ∷ rest) = suc (suc (suc (suc (from_be_bytes w32 (a ∷ b ∷ c ∷ d ∷ [])))))
record_size bytes = 0

-- where the walk over an image stopped: the commits of its whole records, and the place of the gate byte after them
pub record Walk (C : Type 0) : Type 0 where
  pub commits : List C
  pub gate : ℕ

-- the one value if there is none, else what follows from it
abbrev pub onward : {C X : Type 0} → Option C → X → (C → X) → X
onward None stop go_on = stop
onward (Some c) stop go_on = go_on c

-- `reader earlier payload` is the commit of a payload after earlier commits: it has exactly one reading within the
-- limits, its stamp is after that of the commit before, its epoch is at most the number of its record, its count is at
-- least 1, and its operations pass.
module _ {C : Type 0} (reader : List C → List ℕ → Option C) where
  -- the commit of a payload of this size, if it is in the file with one byte after it
  abbrev pub sized : List C → ℕ → List ℕ → Option C
  sized earlier size rest = if nat_lt size (length rest) then reader earlier (take size rest) else None

  -- the commit of the record after a gate byte, if it is whole
  abbrev pub whole : List C → List ℕ → Option C
  whole earlier (a ∷ b ∷ c ∷ d ∷ rest) = sized earlier (from_be_bytes w32 (a ∷ b ∷ c ∷ d ∷ [])) rest
  whole earlier bytes = None

  -- over an image from a gate byte at `place`; the bytes of a record that was read are passed over
  abbrev pub walk : List C → ℕ → ℕ → List ℕ → Walk C
  walk earlier place skip [] = record { commits = earlier; gate = place }
  walk earlier place (suc skip) (byte ∷ rest) = walk earlier place skip rest
  walk earlier place zero (gate ∷ rest) =
      if gate == 1 then onward (whole earlier rest) (record { commits = earlier; gate = place })
      (λ c. walk (earlier ++ c ∷ []) (place + 1 + record_size rest) (record_size rest) rest)
      else record { commits = earlier; gate = place }

  -- the commits of an image: those of its whole records from the front, up to the first gate byte that isn't 1
  abbrev pub file_commits : List ℕ → List C
  file_commits file = (walk [] 0 0 file).commits

  -- the place of the gate byte after them
  abbrev pub gate_of : List ℕ → ℕ
  gate_of file = (walk [] 0 0 file).gate

  -- the file isn't a journal: it has more than one byte, and a gate byte 1 with no whole record
  abbrev pub IsForeign : List ℕ → Type 0
  IsForeign file = (1 < length file) × (gate_of file < length file) × (get_or file (gate_of file) 0 ≡ 1)
