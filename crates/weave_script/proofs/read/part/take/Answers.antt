use Rattle.std.proofs.Common.{map, subst, ◌∙◌, ap}
use Rattle.weave_text.specs.Cutting.{words_of}
use Rattle.weave_script.specs.Parts.{TakesLine}
use Rattle.weave_script.proofs.FewWords.{TakesLine-few}
use Rattle.weave_script.proofs.read.part.take.Goals as goal

pub returns : goal.returns
returns c =
    let reading = c.args.reader.now.reading in
    let words = ap (map (λ word. word.now)) c.deref.ensures.value ∙ c.in_ok-cut.ensures in
    TakesLine-few c.args.report reading (words_of c.args.line.now) c.take_words.new.reader c.take_words.result (subst (λ words. TakesLine c.args.report reading words c.take_words.new.reader c.take_words.result) words c.take_words.ensures)
