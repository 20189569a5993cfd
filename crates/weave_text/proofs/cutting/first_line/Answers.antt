use Rattle.std.proofs.Common.{◌≡◌, ◌-◌, ◌∷◌, length, take, drop, sym, ap, ◌∙◌, arith}
use Rattle.weave_text.specs.Cutting.{lines_of}
use Rattle.weave_text.proofs.FirstLine.{lines_of-cut, lines_of-whole, has_bytes}
use Rattle.weave_text.proofs.cutting.first_line.Goals as goal

pub returns-in-Some-clause-lines : goal.returns-in-Some-clause-lines
returns-in-Some-clause-lines c = lines_of-cut c.args.text.now c.in-Some.end (sym c.in-Some.ensures)

pub returns-in-None-clause-lines : goal.returns-in-None-clause-lines
returns-in-None-clause-lines c =
    let text = c.args.text.now in
    let none : length text - length text ≡ 0 = omega arith in
    lines_of-whole text (has_bytes text c.is_empty.result c.is_empty.ensures c.if-is_empty.false) (sym c.in-None.ensures) ∙ ap (λ n. text ∷ lines_of (take n (drop (length text) text))) (sym none)
