use Rattle.std.proofs.Common.{rules, arith, ◌<◌, ◌+◌, List, Vec, length, length-set, get_or, sym, ◌∙◌, subst}
use Rattle.std.proofs.lemmas.List.{get_or-set_other}
use Rattle.std.specs.Global.{Global}
use Rattle.chronicle.specs.declared.chronicle.Chronicle.{Chronicle}
use Rattle.chronicle.specs.declared.pass.Pass.{Pass}
use Rattle.chronicle.specs.Locks.{lock_of}
use Rattle.lock_row.specs.Hands.{IsNewPass, AreFirst}
use Rattle.lock_row.proofs.Lists.{one_of}
use Rattle.lock_row.proofs.Hands.{DealtSoFar, first_popped, left_more, dealt_more}
use Rattle.lock_row.proofs.dealing.deal_hand.Goals as goal

pub loop-place-init : goal.loop-place-init
loop-place-init g c = record {
  count = search rules;
  len = search rules;
  room = search rules;
  dealt = λ k l p below. absurd (omega arith);
  left = λ k l ps below. absurd (omega arith);
  ahead = λ k l ps far low. c.requires.left k l ps low;
}

pub unreachable-requires : goal.unreachable-requires
unreachable-requires g c =
    let was = c.loop-place.invariant in
    let k = c.loop-place.place in
    let v = c.index_mut.result.now in
    let low : k < length c.args.locks.now = c.loop-place-test.true in
    let first = subst (λ (x : Vec (Pass g.row.M-Entry.Denot) Global). AreFirst (c.args.number + 1)
    (lock_of (get_or c.args.locks.now k (one_of c.args.locks.now k low))) x.items)
    (sym c.index_mut.ensures.value) (was.ahead k (one_of c.args.locks.now k low) v (omega arith) low) in
    absurd (omega (arith, first.count_is, v.ok.0, c.in_default.ensures.cases.0))

pub loop-place-preserved : goal.loop-place-preserved
loop-place-preserved g c =
    let was = c.loop-place.invariant in
    let k = c.loop-place.place in
    let n = c.args.number in
    let E = g.row.M-Entry.Denot in
    let locks = c.args.locks.now in
    let passes = c.loop-place.passes.items in
    let hand = c.loop-place.hand.items in
    let v = c.index_mut.result.now in
    let qs = c.pop.new.self in
    let p = c.in-Some.pass in
    let low : k < length locks = c.loop-place-test.true in
    let low_pass : k < length passes = omega (arith, low, was.count) in
    let first : (d : Chronicle g.row.M.Denot E) → AreFirst (n + 1) (lock_of (get_or locks k d)) v.items = λ d.
    subst (λ (x : Vec (Pass E) Global). AreFirst (n + 1) (lock_of (get_or locks k d)) x.items) (sym c.index_mut.ensures.value)
    (was.ahead k d v (omega arith) low) in
    let split : (d : Chronicle g.row.M.Denot E) → AreFirst n (lock_of (get_or locks k d)) qs.items × IsNewPass n (lock_of (get_or locks k d)) p = λ d.
    first_popped n (lock_of (get_or locks k d)) v.items qs.items p (first d) c.in-Some.ensures.items in
    record {
      count = length-set passes k qs ∙ was.count;
      len = search rules;
      room = search rules;
      dealt = subst (λ (l : List (Pass E)). DealtSoFar locks n l (k + 1)) (sym c.push_reserved.ensures.items)
          (dealt_more locks n hand k p (search rules) was.dealt (λ d. (split d).1));
      left = left_more locks n passes k qs low_pass was.left (λ d. (split d).0);
      ahead = λ j d ps far within. subst (λ (x : Vec (Pass E) Global). AreFirst (n + 1) (lock_of (get_or locks j d)) x.items)
          (sym (get_or-set_other passes k j qs ps (λ e. absurd (omega arith)))) (was.ahead j d ps (omega arith) within);
    }
