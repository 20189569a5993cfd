use Rattle.std.proofs.Common.{◌+◌, ◌∙◌, ℕ, ap, subst, sym, vec_len}
use Rattle.gatekeeper.specs.Gates.{GateView, IsNew}
use Rattle.weaver_locks.proofs.Lists.{pushed}
use Rattle.lock_tests.proofs.machines.new_gates.Goals as goal

pub loop-home-preserved : goal.loop-home-preserved
loop-home-preserved g c =
    let more = rw c.expect.ensures at c.push.ensures.items in
    let longer = rw c.expect.ensures at c.push.ensures.len in
    let one = rw c.expect-gate.ensures at c.new.ensures in
    let was = c.loop-home.invariant in
    record {
      count = longer ∙ ap (λ (n : ℕ). n + 1) was.count;
      new = pushed (λ (k : ℕ) (v : GateView). IsNew k c.args.gates c.args.shards v) c.loop-home.made.items c.push.new.self.items
          c.expect-gate.result (vec_len c.loop-home.made) (vec_len c.push.new.self) more c.loop-home.made.ok.0 longer was.new
          (subst (λ (n : ℕ). IsNew n c.args.gates c.args.shards c.expect-gate.result) (sym was.count) one);
    }
