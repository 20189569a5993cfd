use Rattle.std.proofs.Common.{◌≡◌, ℕ, ◌<◌, ◌≤◌, ◌+◌, List, Vec, length-set, length, get_or, set, sym, ap, ◌∙◌, subst}
use Rattle.std.proofs.lemmas.List.{get_or_default, get_or-set_other}
use Rattle.std.specs.Global.{Global}
use Rattle.chronicle.specs.declared.chronicle.Chronicle.{Chronicle}
use Rattle.chronicle.specs.declared.open.Vacant.{Vacant}
use Rattle.chronicle.specs.declared.pass.Pass.{Pass}
use Rattle.chronicle.specs.Frames.{Frame}
use Rattle.chronicle.specs.Locks.{lock_of, name_of, LockStartsWith}
use Rattle.chronicle.specs.Passes.{IsUnopened}
use Rattle.lock_row.specs.Rows.{names_of}
use Rattle.lock_row.specs.Hands.{AreFirst}
use Rattle.lock_row.proofs.Lists.{all_done, below_same, first_left, itself, later_other, later_too, long_on, next_left, one_left, one_of, one_on}
use Rattle.lock_row.proofs.Openings.{OpenedSoFar, opened_more, same_names}
use Rattle.lock_row.proofs.opening.open_row.Goals as goal

pub open_beside-made-requires : goal.open_beside-made-requires
open_beside-made-requires g c =
    let was = c.loop-part.invariant in
    let k = c.loop-part.place in
    let steps = c.in-Some.ensures.steps in
    let some = steps.1 in
    let low : k < length c.args.locks.now.items = one_left k _ _ _ was.count some in
    let part = first_left c.args.parts.items k c.in-Some.part c.in-Some.part _ (sym steps.0 ∙ was.left) in
    let d = c.index_mut.result.now in
    let here = c.index_mut.ensures.value ∙ was.ahead k d (itself k) in
    subst (λ x. IsUnopened (lock_of x) c.in-Some.part) (sym here)
    (subst (IsUnopened (lock_of (get_or c.args.locks.now.items k d))) part (c.requires.unopened k d c.in-Some.part low))

pub loop-part-preserved : goal.loop-part-preserved
loop-part-preserved g c =
    let was = c.loop-part.invariant in
    let k = c.loop-part.place in
    let E = g.row.M-Entry.Denot in
    let B = g.row.B.Denot in
    let Lock = Chronicle g.row.M.Denot E in
    let before = c.args.locks.now.items in
    let locks = c.loop-part.locks.items in
    let machines = c.args.machines.now in
    let context = c.args.context.now in
    let lock = c.open_beside-made.new.lock in
    let made = c.open_beside-made.result.0 in
    let vacant = c.open_beside-made.result.1 in
    let steps = c.in-Some.ensures.steps in
    let some = steps.1 in
    let left = sym steps.0 ∙ was.left in
    let low : k < length before = one_left k _ _ _ was.count some in
    let low_now : k < length locks = below_same k _ _ low was.same in
    let low_machine : k < length machines = below_same k _ _ low c.requires.machines in
    let old = c.index_mut.result.now in
    let there : (d : Lock) → old ≡ get_or locks k d = λ d. c.index_mut.ensures.value ∙ get_or_default locks k old d low_now in
    let here : (d : Lock) → old ≡ get_or before k d = λ d. there d ∙ was.ahead k d (itself k) in
    let machine : (b : B) → c.index-machines-place.result ≡ get_or machines k b = λ b. c.index-machines-place.is
    ∙ get_or_default machines k c.index-machines-place.result b low_machine in
    let row : names_of c.of-row.result.value.items ≡ names_of before = ap (λ v. names_of v.items) c.of-row.ensures ∙ was.names in
    let told = c.open_beside-made.ensures in
    let frame_in : List (List ℕ) → B → Frame = λ names b. g.B.Bare.frame b context names in
    let frame_of : B → Frame = frame_in (names_of before) in
    let begins : (d : Lock) (b : B) → LockStartsWith (lock_of lock) (lock_of (get_or before k d)).passes (frame_of (get_or machines k b))
    (g.B.Bare.log (get_or machines k b)) = λ d b.
    subst (λ (z : Lock × List (List ℕ) × B). LockStartsWith (lock_of lock) (lock_of z.0).passes (frame_in z.1 z.2) (g.B.Bare.log z.2))
    (λ i. (here d i, row i, machine b i)) told.begins in
    let passes : (d : Lock) → AreFirst (lock_of (get_or before k d)).passes (lock_of lock) made.items = λ d.
    subst (λ (x : Lock). AreFirst (lock_of x).passes (lock_of lock) made.items) (here d) told.passes in record {
      left = next_left c.args.parts.items k c.in-Some.part _ left;
      long = long_on _ _ _ _ c.in-Some.part was.long some steps.0;
      count = one_on k _ _ _ was.count some;
      same = length-set locks k lock ∙ was.same;
      names = same_names locks k lock low_now (λ d. told.name ∙ ap (λ (x : Lock). name_of (lock_of x)) (there d)) ∙ was.names;
      ahead = λ j d far. get_or-set_other locks k j lock d (later_other k j far) ∙ was.ahead j d (later_too k j far);
      passes = c.push_reserved.ensures.len ∙ ap (λ n. n + 1) was.passes;
      vacants = c.push_reserved-in-loop-part.ensures.len ∙ ap (λ n. n + 1) was.vacants;
      passes_room = subst (λ n. length before ≤ n) (sym c.push_reserved.ensures.capacity) was.passes_room;
      vacants_room = subst (λ n. length before ≤ n) (sym c.push_reserved-in-loop-part.ensures.capacity) was.vacants_room;
      opened = subst (λ (z : List (Vec (Pass E) Global) × List (Vacant g.row.M.Denot E)). OpenedSoFar frame_of g.B.Bare.log before machines
          (set locks k lock) z.0 z.1 (k + 1))
          (λ i. (sym c.push_reserved.ensures.items i, sym c.push_reserved-in-loop-part.ensures.items i))
          (opened_more frame_of g.B.Bare.log before machines locks c.loop-part.passes.items c.loop-part.vacants.items k lock made vacant low_now
          (sym c.loop-part.passes.ok.0 ∙ was.passes) (sym c.loop-part.vacants.ok.0 ∙ was.vacants) was.opened
          (λ d b. record { begins = begins d b; passes = passes d; vacant = told.vacant }));
    }

pub returns : goal.returns
returns g c =
    let was = c.loop-part.invariant in
    let before = c.args.locks.now.items in
    let machines = c.args.machines.now in
    let passes = c.loop-part.passes in
    let vacants = c.loop-part.vacants in
    let done : c.loop-part.place ≡ length before = all_done _ _ _ was.count c.in-None.ensures.steps.0 in
    let passes_long : length passes.items ≡ length before = sym passes.ok.0 ∙ (was.passes ∙ done) in
    let vacants_long : length vacants.items ≡ length before = sym vacants.ok.0 ∙ (was.vacants ∙ done) in record {
      count = was.same;
      names = was.names;
      passes_count = was.passes ∙ done;
      vacant_count = was.vacants ∙ done;
      begin = λ k x d b low.
          (was.opened k x d b (one_of passes.items k (below_same k _ _ low passes_long)) (one_of vacants.items k (below_same k _ _ low vacants_long))
          (below_same k _ _ low done)).begins;
      passes = λ hands all k d ps low.
          let first : k < length before = below_same k _ _ low (sym was.same) in
          let is = was.opened k d d (one_of machines k (below_same k _ _ first c.requires.machines)) ps
          (one_of vacants.items k (below_same k _ _ first vacants_long)) (below_same k _ _ first done) in
          subst (λ (n : ℕ). AreFirst n (lock_of (get_or c.loop-part.locks.items k d)) (get_or passes.items k ps).items) (all k d first) is.passes;
      vacant = λ k d v low.
          let first : k < length before = below_same k _ _ low (sym was.same) in
          (was.opened k d d (one_of machines k (below_same k _ _ first c.requires.machines)) (one_of passes.items k (below_same k _ _ first passes_long)) v
          (below_same k _ _ first done)).vacant;
      refused = tt;
    }
