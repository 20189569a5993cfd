use Rattle.std.proofs.Common.{arith, ◌≡◌, length, sym, ap, subst}
use Rattle.std.specs.List.{All}
use Rattle.std.proofs.lemmas.List.Elements.{All-push}
use Rattle.weaver_locks.proofs.Lists.{mapped_on}
use Rattle.weaver_locks.proofs.bare.bare_shards.Goals as goal

pub loop-shard-preserved : goal.loop-shard-preserved
loop-shard-preserved c =
    let was = c.loop-shard.invariant in
    let steps = c.in-Some.ensures.steps in
    let some = steps.1 in
    let one = c.new.result in
    let items = sym c.push_reserved.ensures.items in
    let bare = c.loop-shard.bare.items in
    let locks = c.args.locks.now in
    let long = ap (λ l. length l) (sym steps.0) in record {
      all = mapped_on (λ b. b.shard) bare c.push_reserved.new.self.items one _ _ c.in-Some.shard
          c.push_reserved.ensures.items steps.0 c.new.ensures.shard was.all;
      long = omega (arith, was.long, some, long);
      space = omega (arith, was.space, some, c.push_reserved.ensures.len, c.push_reserved.ensures.capacity);
      count = subst (All (λ b. b.shards ≡ c.args.count)) items (All-push (λ b. b.shards ≡ c.args.count) bare one was.count c.new.ensures.shards);
      gates = subst (All (λ b. b.gates.value ≡ locks.gates)) items (All-push (λ b. b.gates.value ≡ locks.gates) bare one was.gates c.new.ensures.gates);
      store = subst (All (λ b. b.store.value ≡ locks.store)) items (All-push (λ b. b.store.value ≡ locks.store) bare one was.store c.new.ensures.store);
      oracle = subst (All (λ b. b.oracle.value ≡ locks.oracle)) items
          (All-push (λ b. b.oracle.value ≡ locks.oracle) bare one was.oracle c.new.ensures.oracle);
    }
