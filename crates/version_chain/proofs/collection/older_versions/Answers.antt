use Rattle.std.proofs.Common.{Bool, sym, ap, ◌∙◌}
use Rattle.std.specs.Prelude.{pred}
use Rattle.vector_stamp.specs.Order.{is_before}
use Rattle.vector_stamp.specs.Seeing.{last_place}
use Rattle.vector_stamp.specs.declared.clock.Stamp.{Stamp}
use Rattle.version_chain.proofs.LookBack.{place_passes, place_fails}
use Rattle.version_chain.proofs.collection.older_versions.Goals as goal

pub returns-then-is_before : goal.returns-then-is_before
returns-then-is_before c =
    let test : Stamp → Bool = λ stamp. is_before stamp.clock c.args.bound.now in
    sym (ap pred (c.loop-newest.invariant ∙ ap (last_place test) c.in-Some.ensures.cases.0 ∙ place_passes test c.in-Some.older.now c.in-Some.newest.now (sym c.is_before.ensures ∙ c.if-is_before.true)))

pub loop-newest-preserved : goal.loop-newest-preserved
loop-newest-preserved c =
    let test : Stamp → Bool = λ stamp. is_before stamp.clock c.args.bound.now in
    c.loop-newest.invariant ∙ ap (last_place test) c.in-Some.ensures.cases.0 ∙ place_fails test c.in-Some.older.now c.in-Some.newest.now (sym c.is_before.ensures ∙ c.if-is_before.false)
