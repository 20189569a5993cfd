use Rattle.std.proofs.Common.{false, sym, subst, ◌∙◌}
use Rattle.std.specs.Str.Parse.{ParsesUnsigned}
use Rattle.weave_report.proofs.WideNumbers.{number_is_utf8, wide_of-tested, parsed_wide}
use Rattle.weave_report.proofs.read.priced.wide_number.Goals as goal

pub returns-then-not-is_number : goal.returns-then-not-is_number
returns-then-not-is_number c = sym (wide_of-tested c.args.word.now false (sym c.is_number.ensures ∙ c.if-not-is_number.true))

pub returns-in_default : goal.returns-in_default
returns-in_default c = absurd (c.in_default.ensures.cases.0 (number_is_utf8 c.args.word.now (sym c.is_number.ensures ∙ c.if-not-is_number.false)))

pub returns : goal.returns
returns c =
    let digits = subst (λ digits. ParsesUnsigned 128 10 digits c.parse.result) c.in-Ok.ensures.cases.0 c.parse.ensures.value.0 in
    c.ok.ensures.value ∙ parsed_wide c.args.word.now c.parse.result (sym c.is_number.ensures ∙ c.if-not-is_number.false) digits
