use Rattle.std.proofs.Common.{◌∙◌, refl, sym, ap, true, false, List, length, arith, Vec, Global, ℕ}
use Rattle.std.specs.Prelude.{slice_index_or, ◌==◌}
use Rattle.std.proofs.lemmas.Bool.{eq-eqb, ne_eqb}
use Rattle.std.proofs.lemmas.Option.{slice_get_read}
use Rattle.std.proofs.lemmas.List.{append-nil}
use Rattle.program_defs.specs.declared.script.Request.{Request}
use Rattle.weaver_core.proofs.Numbering.{looked-at}
use Rattle.lock_tests.proofs.turns.bench.requests_of.Goals as goal
use Rattle.lock_tests.proofs.turns.bench.requests_of.Goals.{then-requests-r, else-requests-r}

pub loop-r-preserved : goal.loop-r-preserved
loop-r-preserved g c =
    let script = c.args.script.now in
    let r = c.loop-r.r in
    let request = c.index-requests-r.result in
    let same = c.loop-r.invariant.1 in
    let at = slice_get_read script.requests _ r request refl (omega (arith, c.loop-r-test.true, ap length same)) (c.index-requests-r.is ∙ ap (λ (xs : List Request). slice_index_or xs r request) same) in
    let read = ap (λ (q : Request). q.session == c.args.session) c.index-requests-r.is in (
      elim c.if-requests-r.branch [
        | then-requests-r w ↦ looked-at script c.args.session r request c.loop-r.found.items c.if-requests-r.found.items true at (read ∙ eq-eqb _ _ w.if-requests-r.true) c.loop-r.invariant.0 (ap (λ (v : Vec ℕ Global). v.items) w.found-is ∙ rw w.expect.ensures at w.push.ensures.items)
        | else-requests-r w ↦ looked-at script c.args.session r request c.loop-r.found.items c.if-requests-r.found.items false at (read ∙ ne_eqb _ _ w.if-requests-r.false) c.loop-r.invariant.0 (ap (λ (v : Vec ℕ Global). v.items) w.found-is ∙ sym (append-nil c.loop-r.found.items))
      ],
      same,
      ap length same,
      refl,
    )
