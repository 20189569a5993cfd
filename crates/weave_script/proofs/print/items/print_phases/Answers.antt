use Rattle.std.proofs.Common.{◌≡◌, ◌+◌, ◌++◌, drop, codes, sym, ap, ◌∙◌, append_assoc, arith}
use Rattle.weave_text.specs.Lines.{lines_text}
use Rattle.weave_script.specs.ScriptLines.{phase_lines}
use Rattle.weave_script.proofs.Due.{next_phase}
use Rattle.weave_script.proofs.print.items.print_phases.Goals as goal

pub loop-phase-preserved : goal.loop-phase-preserved
loop-phase-preserved c =
    let phases = c.args.phases.now in
    let i = c.loop-phase._phase-index in
    let rest = lines_text (phase_lines (drop (i + 1) phases)) in
    let written : c.push.new.self ≡ c.loop-phase.text ++ codes "phase\n" = c.in_ok-push.ensures.ok in
    ap (λ text. text ++ rest) written
    ∙ append_assoc c.loop-phase.text (codes "phase\n") rest
    ∙ ap (λ lines. c.loop-phase.text ++ lines_text lines) (sym (next_phase phases i (omega arith)))
    ∙ c.loop-phase.invariant
