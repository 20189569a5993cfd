-- An update whose items are being added. Only proofs use this. No public contract cites this.
use Rattle.std.specs.Prelude.{◌≡◌, ◌<◌, ◌+◌, ℕ, Bool, cond, List, drop, IsTrue}
use Rattle.graph_ops.specs.declared.op.Op.{Op}
use Rattle.graph_ops.specs.VertexOps.{state_after_ops, none_refused}
use Rattle.version_parts.specs.declared.lists.Lists.{Lists}
use Rattle.version_parts.specs.Counts.{count_updates, changes}
use Rattle.version_parts.specs.InOrder.{ListsInOrder}
use Rattle.version_parts.specs.Ordered.{AreBefore}
use Rattle.version_parts.specs.States.{state_at}

-- the items of the first `place` operations were added: the other operations pass, and lead to the state after all of
-- them
pub record IsUnderWay (update place : ℕ) (ops : List Op) (start now : Lists) : Type 0 where
  pub before : AreBefore (record { update = update; place = place }) now
  pub order : ListsInOrder now
  pub earlier : (other : ℕ) → other < update → state_at other now ≡ state_at other start
  pub passes : IsTrue (none_refused (drop place ops) (state_at update now))
  pub state : state_after_ops (drop place ops) (state_at update now) ≡ state_after_ops ops (state_at update start)
  pub counts : (test : ℕ → Bool) → count_updates test now + cond (test update) (changes (drop place ops)) 0
      ≡ count_updates test start + cond (test update) (changes ops) 0
