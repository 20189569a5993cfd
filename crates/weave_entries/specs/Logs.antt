-- Logs, entry by entry.
use Rattle.std.specs.Prelude.{◌≡◌, List, ◌∷◌, ◌++◌}

-- at each entry of a log P holds of the entries before it and of the entry
abbrev pub AtEachEntry : {E : Type 0} → (List E → E → Type 0) → List E → Type 0
AtEachEntry {E} P log = (before : List E) (entry : E) (after : List E) → log ≡ before ++ entry ∷ after → P before entry
