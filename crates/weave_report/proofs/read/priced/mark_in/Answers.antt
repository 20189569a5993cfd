use Rattle.std.proofs.Common.{sym, ◌∙◌}
use Rattle.weave_report.specs.ReadingPriced.{is_mark}
use Rattle.weave_report.proofs.PricedParts.{position_map}
use Rattle.weave_report.proofs.read.priced.mark_in.Goals as goal

pub returns : goal.returns
returns c = c.mark_among.ensures ∙ sym (position_map (λ word. word.now) is_mark c.args.words.now)
