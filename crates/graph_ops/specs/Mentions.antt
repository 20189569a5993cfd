-- The vertices that a transaction names.
use Rattle.std.specs.Prelude.{Bool, not, cond, List, [], ◌∷◌, ◌++◌, option_to_list}
use Rattle.std.specs.List.{filter, flat_map, list_any}
use Rattle.weave_data.specs.Names.{same_name}
use Rattle.graph_ops.specs.Operations.{needed_by, vertex_of}
use Rattle.weave_data.specs.declared.name.Name.{Name}
use Rattle.graph_ops.specs.declared.op.Op.{Op}

-- each name of a list once, where it comes first
abbrev pub first_mentions : List Name → List Name
first_mentions [] = []
first_mentions (v ∷ rest) = v ∷ filter (λ w. not (same_name v w)) (first_mentions rest)

-- the vertices that an operation names: its own, and the target of a join; the target of a link is not named
abbrev pub named_by_op : Op → List Name
named_by_op op = vertex_of op ∷ option_to_list (needed_by op)

-- the vertices that operations name, in order of first mention
abbrev pub named_by : List Op → List Name
named_by ops = first_mentions (flat_map named_by_op ops)

-- whether a name is among these
abbrev pub is_among : List Name → Name → Bool
is_among names name = list_any (λ other. same_name other name) names

-- the names with one more, unless it is among them
abbrev pub with_name : Name → List Name → List Name
with_name name names = cond (is_among names name) names (names ++ name ∷ [])

-- the names with some more, one after another. No public contract cites this.
abbrev pub with_all_names : List Name → List Name → List Name
with_all_names [] names = names
with_all_names (name ∷ more) names = with_all_names more (with_name name names)
