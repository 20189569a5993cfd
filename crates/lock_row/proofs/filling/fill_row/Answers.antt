use Rattle.std.proofs.Common.{◌≡◌, ◌<◌, length-set, length, get_or, sym, ap, ◌∙◌, subst}
use Rattle.std.proofs.lemmas.List.{get_or_default}
use Rattle.chronicle.specs.declared.chronicle.Chronicle.{Chronicle}
use Rattle.chronicle.specs.Locks.{Lock, lock_of, IsVacant}
use Rattle.lock_row.proofs.Lists.{all_done, below_same, first_left, long_on, next_left, one_left, one_on}
use Rattle.lock_row.proofs.Openings.{one_row_more, one_row_names, filled_more}
use Rattle.lock_row.proofs.filling.fill_row.Goals as goal

pub fill-requires : goal.fill-requires
fill-requires g c =
    let was = c.loop-machine.invariant in
    let k = c.loop-machine.place in
    let before = c.args.locks.now.items in
    let low : k < length before = one_left k _ _ _ was.count c.in-Some.ensures.steps.1 in
    let v = c.in-Some-next.vacant in
    let m = c.in-Some.machine in
    let vacant = first_left c.args.vacants.items k v v _ (sym c.in-Some-next.ensures.items ∙ was.vacants_left) in
    let machine = first_left c.args.machines.items k m m _ (sym c.in-Some.ensures.steps.0 ∙ was.left) in
    let d = c.index_mut.result.now in
    let here : lock_of d ≡ lock_of (get_or before k d) = ap lock_of c.index_mut.ensures.value ∙ was.row k d low in
    let fits = c.requires.fit k d m low in record {
      vacant = subst (λ (l : Lock g.row.M-Entry.Denot). IsVacant l v) (sym here)
          (subst (IsVacant (lock_of (get_or before k d))) vacant (c.requires.vacant k d v low));
      frame = ap g.M.Machine.frame (sym machine) ∙ (fits.frame_is ∙ ap (λ (l : Lock g.row.M-Entry.Denot). l.frame) (sym here));
      log = ap g.M.Machine.log (sym machine) ∙ (fits.log_is ∙ ap (λ (l : Lock g.row.M-Entry.Denot). l.start) (sym here));
    }

pub loop-machine-preserved : goal.loop-machine-preserved
loop-machine-preserved g c =
    let was = c.loop-machine.invariant in
    let k = c.loop-machine.place in
    let before = c.args.locks.now.items in
    let locks = c.loop-machine.locks.items in
    let lock = c.fill.new.self in
    let steps = c.in-Some.ensures.steps in
    let some = steps.1 in
    let low : k < length before = one_left k _ _ _ was.count some in
    let low_now : k < length locks = below_same k _ _ low was.same in
    let old = c.index_mut.result.now in
    let E = g.row.M-Entry.Denot in
    let here : (d : Chronicle g.row.M.Denot E) → lock_of old ≡ lock_of (get_or before k d) = λ d. ap lock_of
    (c.index_mut.ensures.value ∙ get_or_default locks k old d low_now) ∙ was.row k d low in
    let left = sym steps.0 ∙ was.left in
    let vacants_left = sym c.in-Some-next.ensures.items ∙ was.vacants_left in record {
      left = next_left c.args.machines.items k c.in-Some.machine _ left;
      long = long_on _ _ _ _ c.in-Some.machine was.long some steps.0;
      vacants_left = next_left c.args.vacants.items k c.in-Some-next.vacant _ vacants_left;
      vacants_long = long_on _ _ _ _ c.in-Some-next.vacant was.vacants_long c.in-Some-next.ensures.len c.in-Some-next.ensures.items;
      count = one_on k _ _ _ was.count some;
      vacants_count = one_on k _ _ _ was.vacants_count c.in-Some-next.ensures.len;
      same = length-set locks k lock ∙ was.same;
      row = one_row_more before locks k lock low_now was.row (λ d. c.fill.ensures.lock ∙ here d);
      filled = filled_more locks k lock low_now was.filled c.fill.ensures.filled;
    }

pub returns : goal.returns
returns g c =
    let was = c.loop-machine.invariant in
    let done : c.loop-machine.place ≡ length c.args.locks.now.items = all_done _ _ _ was.count c.in-None.ensures.steps.0 in record {
      count = was.same;
      names = one_row_names c.args.locks.now.items c.loop-machine.locks.items was.same was.row;
      row = was.row;
      filled = λ k d low. was.filled k d (below_same k _ _ low (done ∙ sym was.same));
    }
