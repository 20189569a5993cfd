use Rattle.std.proofs.lemmas.Iterator.{YieldsList-from_take}
use Rattle.std.proofs.lemmas.Iterator.Consumers.{map_from_collect, YieldsList-at, YieldsList-from_first}
use Rattle.weave_text.specs.Cutting.{words_of}
use Rattle.weave_text.proofs.cutting.first_words.Goals as goal

pub returns : goal.returns
returns c = map_from_collect _ c.collect.ensures.ran (YieldsList-from_take c.args.most (YieldsList-at c.take.ensures.source (YieldsList-from_first (λ word. word.now) (λ words. words) (words_of c.args.line.now) c.words.ensures)) c.take.ensures.count)
