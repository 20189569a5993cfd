use Rattle.std.proofs.Common.{◌≡◌, ℕ, ◌+◌, ap, subst, sym, ◌∙◌, List, Option, length, arith}
use Rattle.program_defs.specs.Parents.{AreParents, IsSeenBefore}
use Rattle.program_defs.proofs.ParentSteps.{written-back}
use Rattle.program_defs.proofs.ParentSteps.{none-yet, later}
use Rattle.program_defs.proofs.parents.least_parents.Goals as goal

pub loop-u-init : goal.loop-u-init
loop-u-init c = (none-yet c.args.rows.now c.args.labels.now c.in_ok-parents.parents.items c.in_ok-parents.ensures.none, c.in_ok-parents.ensures.len)

pub note_row-requires-clause-before : goal.note_row-requires-clause-before
note_row-requires-clause-before c =
    subst (λ (ps : List (Option ℕ)). AreParents c.args.rows.now c.args.labels.now (IsSeenBefore c.loop-u.u) c.loop-u.u ps) (sym c.as_mut_slice.ensures.value) c.loop-u.invariant.0

pub loop-u-preserved : goal.loop-u-preserved
loop-u-preserved c =
    let same = c.note_row.auto.parents ∙ ap length c.as_mut_slice.ensures.value in
    let back = written-back c.note_row.new.parents c.loop-u.parents.items c.loop-u.parents.len same (sym c.loop-u.parents.ok.0) in (
      subst (λ (ps : List (Option ℕ)). AreParents c.args.rows.now c.args.labels.now (IsSeenBefore (c.loop-u.u + 1)) (c.loop-u.u + 1) ps) (sym back)
          (later c.args.rows.now c.args.labels.now (c.loop-u.u + 1) c.loop-u.u (c.loop-u.u + 1) c.note_row.new.parents (omega arith) c.note_row.ensures),
      ap length back ∙ same ∙ c.loop-u.invariant.1,
    )

pub returns : goal.returns
returns c =
    let all : c.loop-u.u ≡ length c.args.rows.now = omega (arith, c.loop-u.auto.u-end, c.loop-u-test.false) in
    subst (λ n. AreParents c.args.rows.now c.args.labels.now (IsSeenBefore n) n c.loop-u.parents.items) all c.loop-u.invariant.0
