use Rattle.std.proofs.Common.{◌++◌, map, ap, ◌∙◌}
use Rattle.std.proofs.lemmas.Iterator.{YieldsList-from_take}
use Rattle.std.proofs.lemmas.Iterator.Adapters.{fact_from_extend}
use Rattle.std.proofs.lemmas.Iterator.Consumers.{YieldsList-at, YieldsList-from_first}
use Rattle.weave_text.specs.Cutting.{words_of}
use Rattle.weave_script.proofs.read.part.cut.Goals as goal

pub returns : goal.returns
returns c = fact_from_extend (λ word. word.now) c.extend.result c.extend.ensures.ran
    (λ it same. YieldsList-at same (YieldsList-from_take _ (YieldsList-at c.take.ensures.source (YieldsList-from_first (λ word. word.now) (λ words. words) (words_of c.args.line.now) c.words.ensures)) c.take.ensures.count))
    (λ xs is gives. ap (map (λ word. word.now)) (gives.0 ∙ ap (λ items. items ++ xs) c.clear.ensures.items) ∙ is)
