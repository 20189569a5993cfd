-- Tables with the same name are the same table.
-- Used by `meet`.
use Rattle.std.proofs.Common.{◌≡◌, ℕ, List, get_or, drop, ap}
use Rattle.atomic_table.specs.Seated.{TableId}
use Rattle.chronicle.specs.Frames.{name_of_table}

abbrev table_named : List ℕ → TableId
table_named l = record { words = get_or l 0 0; slots = get_or l 1 0; views_name = get_or l 2 0; atom = get_or l 3 0; block = get_or l 4 0; offset = get_or l 5 0; slot_names = drop 6 l }

-- a table is known by its name: two with the same name are one
pub same_table : (a b : TableId) → name_of_table a ≡ name_of_table b → a ≡ b
same_table a b e = ap table_named e
