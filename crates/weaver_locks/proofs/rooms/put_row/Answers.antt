use Rattle.std.proofs.Common.{arith, ◌<◌, length, length-set, sym, ap, ◌∙◌, subst, Vec, vec_len, vec_capacity}
use Rattle.std.specs.Global.{Global}
use Rattle.std.proofs.lemmas.List.{get_or_default, get_or-set_other}
use Rattle.chronicle.specs.declared.pass.Pass.{Pass}
use Rattle.lock_row.proofs.Lists.{first_left, next_left}
use Rattle.weaver_locks.proofs.Gathering.{taken_more}
use Rattle.weaver_locks.proofs.rooms.put_row.Goals as goal

pub push_reserved-requires : goal.push_reserved-requires
push_reserved-requires g c =
    let was = c.loop-pass.invariant in
    let k = c.loop-pass.place in
    let low : k < length c.args.rooms.now.items = omega (arith, was.count, c.in-Some.ensures.steps.1) in
    let v = c.index_mut.result.now in
    let here = c.index_mut.ensures.value ∙ was.ahead k v (omega arith) in
    subst (λ (x : Vec (Pass g.row.E.Denot) Global). vec_len x < vec_capacity x) (sym here) (c.requires.space k v low)

pub loop-pass-preserved : goal.loop-pass-preserved
loop-pass-preserved g c =
    let was = c.loop-pass.invariant in
    let k = c.loop-pass.place in
    let rooms = c.loop-pass.rooms.items in
    let passes = c.args.passes.items in
    let v = c.index_mut.result.now in
    let w = c.push_reserved.new.self in
    let pass = c.in-Some.pass in
    let steps = c.in-Some.ensures.steps in
    let some = steps.1 in
    let low : k < length rooms = omega (arith, was.count, was.same, some) in
    let left = sym steps.0 ∙ was.left in
    let long = ap (λ l. length l) (sym steps.0) in record {
      left = next_left passes k pass _ left;
      long = omega (arith, was.long, some, long);
      count = omega (arith, was.count, some);
      same = length-set rooms k w ∙ was.same;
      taken = taken_more passes c.args.rooms.now.items rooms k pass v w low (λ d. first_left passes k pass d _ left)
          (λ r. sym (was.ahead k r (omega arith)) ∙ sym (c.index_mut.ensures.value ∙ get_or_default rooms k v r low))
          record { items = c.push_reserved.ensures.items; space = c.push_reserved.ensures.capacity } was.taken;
      ahead = λ j r far. get_or-set_other rooms k j w r (λ e. absurd (omega arith)) ∙ was.ahead j r (omega arith);
    }
