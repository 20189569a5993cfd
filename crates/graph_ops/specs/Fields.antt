-- The names that an operation takes, as they are handed out.
use Rattle.std.specs.Prelude.{List}
use Rattle.weave_data.specs.declared.name.Name.{Name}
use Rattle.graph_ops.specs.declared.op.Fields.{Fields}
use Rattle.graph_ops.specs.declared.op.Fields.TheVariants.{One, Two, Three, Four}

-- as a list
abbrev pub names_of_fields : Fields → List Name
names_of_fields (One names) = names
names_of_fields (Two names) = names
names_of_fields (Three names) = names
names_of_fields (Four names) = names
