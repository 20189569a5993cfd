use Rattle.std.proofs.Common.{[], sym, ap, ◌∙◌, append-nil}
use Rattle.weave_text.specs.Lines.{lines_text}
use Rattle.weave_text.specs.Cutting.{lines_of, kept_lines}
use Rattle.weave_text.proofs.Joined.{words_come_back, lines_come_back, kept_joined}
use Rattle.weave_text.proofs.laws.clean_lines_come_back.Goals as goal

pub returns-clause-words : goal.returns-clause-words
returns-clause-words c = words_come_back

pub returns-clause-lines : goal.returns-clause-lines
returns-clause-lines c = lines_come_back

pub returns-clause-followed : goal.returns-clause-followed
returns-clause-followed c lines text h = ap kept_lines (lines_come_back lines text h) ∙ kept_joined lines (lines_of text) h

pub returns-clause-kept : goal.returns-clause-kept
returns-clause-kept c lines h =
    ap (λ text. kept_lines (lines_of text)) (sym (append-nil (lines_text lines))) ∙ returns-clause-followed c lines [] h ∙ append-nil lines
