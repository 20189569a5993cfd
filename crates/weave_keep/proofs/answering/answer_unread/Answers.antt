use Rattle.std.proofs.Common.{List, ℕ, sym, subst}
use Rattle.weave_io.specs.declared.faults.ReadFault.{ReadFault}
use Rattle.weave_keep.specs.Prepared.{AnswersRefusal, AnswersUnread}
use Rattle.weave_keep.proofs.answering.answer_unread.Goals as goal

pub returns-in-TooLong : goal.returns-in-TooLong
returns-in-TooLong c =
    subst (λ (fault : ReadFault). AnswersUnread fault c.refused.result) (sym c.in-TooLong.is)
    (subst (λ (cause : List ℕ). AnswersRefusal 0 cause c.refused.result) c.text.ensures c.refused.ensures)
