use Rattle.std.proofs.Common.{refl}
use Rattle.order_graph.proofs.frontier.stamps_keep_the_laws.Goals as goal

pub returns : goal.returns
returns c =
    record {
      before-trans = c.stamps_are_ordered.ensures.transitive;
      before-strict = c.stamps_are_ordered.ensures.irreflexive;
      same_is = λ a b. (c.equality_is_decided.ensures.stamps a b).0;
      same_itself = λ a. (c.equality_is_decided.ensures.stamps a a).1 refl;
    }
