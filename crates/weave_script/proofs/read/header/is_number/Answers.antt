use Rattle.std.proofs.Common.{sym, ap, ◌∙◌, inl, inr}
use Rattle.weave_script.proofs.Numbers.{is_told, is_told-number_up_to}
use Rattle.weave_script.proofs.read.header.is_number.Goals as goal

pub returns-in-NoNumber : goal.returns-in-NoNumber
returns-in-NoNumber c = sym (ap is_told c.in-NoNumber.is) ∙ ap is_told c.number_up_to.ensures ∙ is_told-number_up_to 0 c.args.word.now

pub returns-in-TooLarge : goal.returns-in-TooLarge
returns-in-TooLarge c = elim c.in-TooLarge.is [
  | inl large ↦ sym (ap is_told large) ∙ ap is_told c.number_up_to.ensures ∙ is_told-number_up_to 0 c.args.word.now
  | inr number ↦ sym (ap is_told number.1) ∙ ap is_told c.number_up_to.ensures ∙ is_told-number_up_to 0 c.args.word.now
]
