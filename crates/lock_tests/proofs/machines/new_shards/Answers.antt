use Rattle.std.proofs.Common.{◌+◌, ◌∙◌, ℕ, ap, subst, sym, vec_len}
use Rattle.shard_node.specs.Shards.{ShardView}
use Rattle.weaver_locks.specs.Closing.{IsNewShard}
use Rattle.weaver_locks.proofs.Lists.{pushed}
use Rattle.lock_tests.proofs.machines.new_shards.Goals as goal

pub loop-number-preserved : goal.loop-number-preserved
loop-number-preserved g c =
    let more = rw c.expect.ensures at c.push.ensures.items in
    let longer = rw c.expect.ensures at c.push.ensures.len in
    let one = rw c.expect-shard.ensures at c.new.ensures in
    let was = c.loop-number.invariant in
    record {
      count = longer ∙ ap (λ (n : ℕ). n + 1) was.count;
      new = pushed (λ (k : ℕ) (v : ShardView). IsNewShard k c.args.gates v) c.loop-number.made.items c.push.new.self.items
          c.expect-shard.result (vec_len c.loop-number.made) (vec_len c.push.new.self) more c.loop-number.made.ok.0 longer was.new
          (subst (λ (n : ℕ). IsNewShard n c.args.gates c.expect-shard.result) (sym was.count) one);
    }
