-- Names in byte order.
use Rattle.std.specs.Prelude.{Bool, true, ◌&&◌, List, [], ◌∷◌}
use Rattle.std.specs.Ordering.{is_lt}
use Rattle.weave_data.specs.Names.{name_cmp}
use Rattle.weave_data.specs.declared.name.Name.{Name}

-- the names rise in byte order, so none comes twice
abbrev pub is_rising : List Name → Bool
is_rising [] = true
is_rising (v ∷ []) = true
is_rising (v ∷ w ∷ rest) = is_lt (name_cmp v w) && is_rising (w ∷ rest)
