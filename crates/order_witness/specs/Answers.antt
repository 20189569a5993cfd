-- Answers of `get`s and of programs, compared by value. No public contract cites this.
use Rattle.std.specs.Prelude.{Bool, true, false, not, ◌&&◌, ◌==◌, List}
use Rattle.std.specs.Cmp.Lexicographic.{pointwise}
use Rattle.std.specs.Option.{option_eq}
use Rattle.weave_data.specs.Names.{same_name}
use Rattle.weave_data.specs.declared.name.Name.{Name}
use Rattle.graph_ops.specs.declared.record.Record.{Record}
use Rattle.graph_ops.specs.declared.record.Edge.{Edge}
use Rattle.graph_ops.specs.declared.tx.Got.{Got}
use Rattle.program_defs.specs.declared.program.Answer.{Answer}
use Rattle.program_defs.specs.declared.program.Answer.TheVariants.{Shown, Reached, Found, Walk}

-- the same names under the same names
abbrev pub same_names : List (Name × Name) → List (Name × Name) → Bool
same_names = pointwise (λ p q. same_name p.0 q.0 && same_name p.1 q.1)

-- the same edge
abbrev pub same_edge : Edge → Edge → Bool
same_edge a b = same_name a.target b.target && same_names a.tags b.tags

-- the same record
abbrev pub same_record : Record → Record → Bool
same_record a b =
    same_names a.props b.props && pointwise (λ p q. same_name p.0 q.0 && same_edge p.1 q.1) a.edges b.edges

-- the same answer
abbrev pub same_got : Got → Got → Bool
same_got a b = (a.op == b.op) && option_eq same_record a.state b.state

-- the same truth value
abbrev pub same_truth : Bool → Bool → Bool
same_truth true b = b
same_truth false b = not b

-- the same answer of a program other than `price`
abbrev pub same_outcome : Answer → Answer → Bool
same_outcome (Shown a) (Shown b) = option_eq same_record a b
same_outcome (Reached a) (Reached b) = same_truth a b
same_outcome (Found a) (Found b) = pointwise same_name a b
same_outcome (Walk a) (Walk b) = option_eq (pointwise same_name) a b
same_outcome _ _ = false
