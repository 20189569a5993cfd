use Rattle.std.proofs.Common.{sym, ◌∙◌}
use Rattle.vector_stamp.proofs.coherence.are_coherent.Goals as goal

pub returns : goal.returns
returns c =
    let decided = c.coherence_is_decided.ensures.tested c.args.stamps.now in
    let tested = c.is_each_coherent.ensures in
    (λ holds. decided.1 (sym tested ∙ holds), λ coherent. tested ∙ decided.0 coherent)
