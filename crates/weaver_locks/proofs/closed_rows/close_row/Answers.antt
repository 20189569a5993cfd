use Rattle.std.proofs.Common.{rules, arith, ◌≡◌, ◌<◌, ◌+◌, List, Vec, length, refl, sym, ap, ◌∙◌, subst}
use Rattle.std.specs.Global.{Global}
use Rattle.std.specs.Vec.Iter.{into_iter_items}
use Rattle.std.proofs.lemmas.List.{length_push}
use Rattle.chronicle.specs.declared.chronicle.Chronicle.{Chronicle}
use Rattle.chronicle.specs.declared.pass.Pass.{Pass}
use Rattle.chronicle.specs.Locks.{lock_of, IsFilled}
use Rattle.chronicle.specs.Passes.{AreAll}
use Rattle.lock_row.proofs.Lists.{first_left, next_left}
use Rattle.weaver_locks.proofs.Lists.{from_start, from_next}
use Rattle.weaver_locks.proofs.ClosingRows.{ClosedSoFar, closed_more}
use Rattle.weaver_locks.proofs.closed_rows.close_row.Goals as goal

pub loop-lock-init : goal.loop-lock-init
loop-lock-init g c =
    let none : length c.args.machines.items ≡ 0 = ap (λ l. length l) c.requires.room.none in record {
      left = from_start c.args.locks.items (into_iter_items c.into_iter-lock-iterator.result) (length c.args.machines.items) none (search rules);
      long = search rules;
      rooms_left = from_start c.args.rooms.items (into_iter_items c.into_iter-rooms.result) (length c.args.machines.items) none (search rules);
      rooms_long = search rules;
      count = search (rules, none);
      rooms_count = search (rules, none);
      space = omega (arith, c.requires.room.space, c.args.locks.ok.0);
      closed = λ k l r m low. absurd (omega (arith, low, none));
    }

pub close-requires-clause-filled : goal.close-requires-clause-filled
close-requires-clause-filled g c =
    let was = c.loop-lock.invariant in
    let k = length c.loop-lock.machines.items in
    let lock = c.in-Some.lock in
    let low : k < length c.args.locks.items = omega (arith, was.count, c.in-Some.ensures.steps.1) in
    subst IsFilled (first_left c.args.locks.items k lock lock _ (sym c.in-Some.ensures.steps.0 ∙ was.left)) (c.requires.filled k lock low)

pub close-requires-clause-passes : goal.close-requires-clause-passes
close-requires-clause-passes g c =
    let was = c.loop-lock.invariant in
    let k = length c.loop-lock.machines.items in
    let lock = c.in-Some.lock in
    let room = c.in-Some-next.room in
    let low : k < length c.args.locks.items = omega (arith, was.count, c.in-Some.ensures.steps.1) in
    let at = first_left c.args.locks.items k lock lock _ (sym c.in-Some.ensures.steps.0 ∙ was.left) in
    let there = first_left c.args.rooms.items k room room _ (sym c.in-Some-next.ensures.items ∙ was.rooms_left) in
    subst (λ (z : Chronicle g.row.M.Denot g.row.M-Entry.Denot × Vec (Pass g.row.M-Entry.Denot) Global). AreAll (lock_of z.0) z.1.items)
    (λ i. (at i, there i)) (c.requires.passes k lock room low)

pub loop-lock-preserved : goal.loop-lock-preserved
loop-lock-preserved g c =
    let was = c.loop-lock.invariant in
    let machines = c.loop-lock.machines.items in
    let k = length machines in
    let lock = c.in-Some.lock in
    let room = c.in-Some-next.room in
    let machine = c.close.result in
    let steps = c.in-Some.ensures.steps in
    let some = steps.1 in
    let left = sym steps.0 ∙ was.left in
    let rooms_left = sym c.in-Some-next.ensures.items ∙ was.rooms_left in
    let long = ap (λ l. length l) (sym steps.0) in
    let rooms_long = ap (λ l. length l) (sym c.in-Some-next.ensures.items) in
    let items = c.push_reserved.ensures.items in
    let more : length c.push_reserved.new.self.items ≡ k + 1 = ap (λ l. length l) items ∙ length_push machines machine in
    let closed = c.close.ensures in record {
      left = from_next c.args.locks.items k (length c.push_reserved.new.self.items) more (next_left c.args.locks.items k lock _ left);
      long = omega (arith, was.long, some, long);
      rooms_left = from_next c.args.rooms.items k (length c.push_reserved.new.self.items) more (next_left c.args.rooms.items k room _ rooms_left);
      rooms_long = omega (arith, was.rooms_long, c.in-Some-next.ensures.len, rooms_long);
      count = omega (arith, was.count, some, more);
      rooms_count = omega (arith, was.rooms_count, c.in-Some-next.ensures.len, more);
      space = omega (arith, was.space, c.push_reserved.ensures.capacity);
      closed = subst (λ (n : _). ClosedSoFar g.M.Machine.frame g.M.Machine.log c.args.locks.items c.args.rooms.items c.push_reserved.new.self.items n) (sym more)
          (subst (λ (ms : List g.row.M.Denot). ClosedSoFar g.M.Machine.frame g.M.Machine.log c.args.locks.items c.args.rooms.items ms (k + 1)) (sym items)
          (closed_more g.M.Machine.frame g.M.Machine.log c.args.locks.items c.args.rooms.items machines k lock room machine refl
          (λ d. first_left c.args.locks.items k lock d _ left) (λ r. first_left c.args.rooms.items k room r _ rooms_left)
          record { frame_is = closed.frame; longest = closed.longest; prefixes = closed.prefixes; own = closed.own; authors = closed.authors }
          was.closed));
    }

pub returns-clause-closed : goal.returns-clause-closed
returns-clause-closed g c k l r m low =
    let was = c.loop-lock.invariant in
    was.closed k l r m (omega (arith, low, was.count, c.in-None.ensures.steps.0))
