use Rattle.std.proofs.Common.{arith, ◌≡◌, length, sym, ap, subst}
use Rattle.std.specs.List.{All}
use Rattle.std.proofs.lemmas.List.Elements.{All-push}
use Rattle.weaver_locks.proofs.Lists.{mapped_on}
use Rattle.weaver_locks.proofs.bare.bare_gates.Goals as goal

pub loop-gate-preserved : goal.loop-gate-preserved
loop-gate-preserved c =
    let was = c.loop-gate.invariant in
    let steps = c.in-Some.ensures.steps in
    let some = steps.1 in
    let one = c.new.result in
    let long = ap (λ l. length l) (sym steps.0) in record {
      all = mapped_on (λ b. b.gate) c.loop-gate.bare.items c.push_reserved.new.self.items one _ _ c.in-Some.gate
          c.push_reserved.ensures.items steps.0 c.new.ensures.gate was.all;
      long = omega (arith, was.long, some, long);
      space = omega (arith, was.space, some, c.push_reserved.ensures.len, c.push_reserved.ensures.capacity);
      store = subst (All (λ b. b.store.value ≡ c.args.locks.now.store)) (sym c.push_reserved.ensures.items)
          (All-push (λ b. b.store.value ≡ c.args.locks.now.store) c.loop-gate.bare.items one was.store c.new.ensures.store);
      shards = subst (All (λ b. b.shards.value ≡ c.args.locks.now.shards)) (sym c.push_reserved.ensures.items)
          (All-push (λ b. b.shards.value ≡ c.args.locks.now.shards) c.loop-gate.bare.items one was.shards c.new.ensures.shards);
    }
