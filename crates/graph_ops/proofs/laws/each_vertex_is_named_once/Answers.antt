use Rattle.std.proofs.Common.{Bool, true, false, IsTrue, ◌≡◌, refl, sym, ◌∙◌}
use Rattle.std.specs.List.{flat_map}
use Rattle.graph_ops.specs.Mentions.{named_by, named_by_op}
use Rattle.graph_ops.proofs.Naming.{mentions-distinct, mentions-among, among-has, has-among, none-on}
use Rattle.graph_ops.proofs.laws.each_vertex_is_named_once.Goals as goal

not_so : (b : Bool) → ¬ IsTrue b → b ≡ false
not_so true h = absurd (h refl)
not_so false h = refl

pub returns : goal.returns
returns c =
    record {
      once = λ ops. mentions-distinct (flat_map named_by_op ops);
      of_operations = λ ops v. (
        (λ has. among-has (flat_map named_by_op ops) v (sym (mentions-among (flat_map named_by_op ops) v) ∙ has-among (named_by ops) v has)),
        (λ has. among-has (named_by ops) v (mentions-among (flat_map named_by_op ops) v ∙ has-among (flat_map named_by_op ops) v has)),
      );
      tested = λ names v. (among-has names v, has-among names v);
      no_others = λ ops v none. none-on ops v (not_so _ none);
    }
