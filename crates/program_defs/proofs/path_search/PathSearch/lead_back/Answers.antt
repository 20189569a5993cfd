use Rattle.std.proofs.Common.{◌+◌, arith, sym, ap, subst, ◌∙◌, ◌++◌, ◌∷◌, []}
use Rattle.weave_data.specs.Names.{same_name}
use Rattle.program_defs.specs.LeastWalks.{WalkState, mark_in, parents, ranks}
use Rattle.program_defs.proofs.Backs.{HasLedBack, led-on, led-ends, led-through}
use Rattle.program_defs.proofs.path_search.PathSearch.lead_back.Goals as goal

pub returns-then-eq : goal.returns-then-eq
returns-then-eq c = λ graph pass d le ranked there.
    let marks = mark_in c.args.self.now.marks in
    let other = ap (same_name c.loop-count.v) (c.start-start.ensures ∙ ap (λ (w : WalkState). w.search.aim.from) c.self.view_is) in
    led-ends graph pass c.args.self.now.search.aim.from (parents marks) (ranks marks) d c.args.to c.loop-count.v c.loop-count.walk.items c.loop-count._count (sym other ∙ sym c.eq.ensures ∙ c.if-eq.true) (c.loop-count.invariant graph pass d le ranked there)

pub loop-count-preserved : goal.loop-count-preserved
loop-count-preserved c = λ graph pass d le ranked there.
    let marks = mark_in c.args.self.now.marks in
    let other = ap (same_name c.loop-count.v) (c.start-start.ensures ∙ ap (λ (w : WalkState). w.search.aim.from) c.self.view_is) in
    subst (λ xs. HasLedBack graph pass c.args.self.now.search.aim.from (parents marks) (ranks marks) d c.args.to c.parent_of-v.result xs (c.loop-count._count + 1)) (sym c.in_ok-push-2.ensures.items)
    (subst (λ u. HasLedBack graph pass c.args.self.now.search.aim.from (parents marks) (ranks marks) d c.args.to u (c.loop-count.walk.items ++ u ∷ []) (c.loop-count._count + 1)) (sym c.parent_of-v.ensures)
    (led-on graph pass c.args.self.now.search.aim.from (parents marks) (ranks marks) d c.args.to ranked c.loop-count.v c.loop-count.walk.items c.loop-count._count (sym other ∙ sym c.eq.ensures ∙ c.if-eq.false) (c.loop-count.invariant graph pass d le ranked there)))

pub returns : goal.returns
returns c = λ graph pass d le ranked there.
    let marks = mark_in c.args.self.now.marks in
    let over = c.loop-count-test.false in
    led-through graph pass c.args.self.now.search.aim.from (parents marks) (ranks marks) d c.args.to c.loop-count.v c.loop-count.walk.items c.loop-count._count (omega (arith, le, over)) (c.loop-count.invariant graph pass d le ranked there)
