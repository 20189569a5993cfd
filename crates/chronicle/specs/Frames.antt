-- What no holder changes of a machine: lists of numbers, among them the names of the locks of which it keeps notes.
use Rattle.std.specs.Prelude.{ℕ, List, ◌∷◌}
use Rattle.atomic_table.specs.Seated.{TableId}

abbrev pub Frame : Type 0
Frame = List (List ℕ)

-- a lock's name: the parts of its table's identity, as numbers that a frame can list. No two locks have the same name
abbrev pub name_of_table : TableId → List ℕ
name_of_table z = z.words ∷ z.slots ∷ z.views_name ∷ z.atom ∷ z.block ∷ z.offset ∷ z.slot_names
