use Rattle.std.proofs.Common.{map, subst}
use Rattle.weave_script.specs.Indexed.{GivesReading, IsIndexed}
use Rattle.weave_script.specs.Reading.{after_item, after_line_at}
use Rattle.weave_script.proofs.read.lines.after_line_at.Goals as goal

pub returns-in-Between : goal.returns-in-Between
returns-in-Between c =
    let words = map (λ word. word.now) c.args.words.now in
    let reading = c.args.reader.now.reading in
    let taken = subst (λ p. GivesReading IsIndexed c.after_item.result c.after_item.new.reader (after_item (record reading { place = p }) words)) c.in-Between.ensures.after c.after_item.ensures in
    subst (λ p. GivesReading IsIndexed c.after_item.result c.after_item.new.reader (after_line_at p (record reading { place = p }) words)) c.in-Between.ensures.value taken
