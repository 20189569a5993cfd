-- A disk that says no bytes: a crash may leave any. (Only a disk of the operating system cites this.)
use Rattle.std.specs.Prelude.{⊤, ℕ, ◌≤◌, List}

-- any bytes
abbrev pub AnyBytes : List ℕ → Type 0
AnyBytes bytes = ⊤

pub none_since : {D : Type 0} (disk : D) (c : List ℕ) → AnyBytes c → AnyBytes c
none_since disk c any = any

pub any_since : {D : Type 0} (disk : D) (t : ℕ) (c : List ℕ) → t ≤ 0 → AnyBytes c → AnyBytes c
any_since disk t c le any = any

pub any_image : {D : Type 0} (disk : D) → ⊤
any_image disk = tt
