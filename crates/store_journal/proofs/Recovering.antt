-- A recovery: a read, and then the gate.
-- Used by `recover`.
use Rattle.std.proofs.Common.{◌≡◌, ℕ, List, Option, Some, IfSome, IsSome, ◌∙◌, ap}
use Rattle.weave_io.specs.Told.{ToldBytes}
use Rattle.store_journal.specs.Disk.{AddsNone}
use Rattle.store_journal.specs.Standing.{IsJournal}
use Rattle.store_journal.proofs.Adding.{told_bytes, if_told}

-- what was read is what the disk says
pub read_is : (told : ToldBytes) (bytes : List ℕ) → IsSome told → IfSome told (λ file. file ≡ bytes) → told ≡ Some bytes
read_is told bytes some all =
    let said = told_bytes told some in
    said.1 ∙ ap Some (if_told (λ file. file ≡ bytes) told said.0 said.1 all)

-- an image of now is an image of the journal
pub journal_read : {C : Type 0} (reader : List C → List ℕ → Option C) (commits : List C) (pending : Option C) (told : ToldBytes) (before now : List ℕ → Type 0) (bytes : List ℕ) → told ≡ Some bytes → IfSome told now → AddsNone before now
    → ((c : List ℕ) → before c → IsJournal reader commits pending c) → IsJournal reader commits pending bytes
journal_read reader commits pending told before now bytes is image none all = all bytes (none bytes (if_told now told bytes is image))
