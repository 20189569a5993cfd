use Rattle.std.proofs.Common.{◌≡◌, ◌∙◌, sym, ap, arith}
use Rattle.weave_text.specs.Numbers.{number_up_to}
use Rattle.weave_text.specs.declared.numbers.Numeral.TheVariants.{NoNumber, TooLarge, Number}
use Rattle.program_defs.specs.Prices.{most_price, price_in}
use Rattle.program_defs.proofs.SaidPrices.{number-is-price, price_of_numeral, said-price, said-within, zero-is-no-price}
use Rattle.program_defs.proofs.prices.price_of.Goals as goal

pub overflow_cast-result : goal.overflow_cast-result
overflow_cast-result c =
    let said : number_up_to most_price c.in_ok-text.text.now ≡ Number c.in-Number.value = ap (number_up_to most_price) (sym c.bytes.ensures.bytes) ∙ sym c.number_up_to.ensures ∙ c.in-Number.is in
    omega (arith, said-within c.in_ok-text.text.now c.in-Number.value said)

pub returns-then-value-ge1 : goal.returns-then-value-ge1
returns-then-value-ge1 c =
    let said : number_up_to most_price c.in_ok-text.text.now ≡ Number c.in-Number.value = ap (number_up_to most_price) (sym c.bytes.ensures.bytes) ∙ sym c.number_up_to.ensures ∙ c.in-Number.is in
    number-is-price c.in_ok-text.text.now c.in-Number.value said (omega (arith, c.if-value-ge1.true)) ∙ ap price_in c.in_ok-text.ensures

pub returns-else-value-ge1 : goal.returns-else-value-ge1
returns-else-value-ge1 c =
    let said : number_up_to most_price c.in_ok-text.text.now ≡ Number c.in-Number.value = ap (number_up_to most_price) (sym c.bytes.ensures.bytes) ∙ sym c.number_up_to.ensures ∙ c.in-Number.is in
    zero-is-no-price c.in_ok-text.text.now c.in-Number.value said (omega (arith, c.if-value-ge1.false)) ∙ ap price_in c.in_ok-text.ensures

pub returns-in-TooLarge : goal.returns-in-TooLarge
returns-in-TooLarge c =
    let said : number_up_to most_price c.in_ok-text.text.now ≡ TooLarge = ap (number_up_to most_price) (sym c.bytes.ensures.bytes) ∙ sym c.number_up_to.ensures ∙ c.in-TooLarge.is in
    ap price_of_numeral (sym said) ∙ said-price c.in_ok-text.text.now ∙ ap price_in c.in_ok-text.ensures

pub returns-in-NoNumber : goal.returns-in-NoNumber
returns-in-NoNumber c =
    let said : number_up_to most_price c.in_ok-text.text.now ≡ NoNumber = ap (number_up_to most_price) (sym c.bytes.ensures.bytes) ∙ sym c.number_up_to.ensures ∙ c.in-NoNumber.is in
    ap price_of_numeral (sym said) ∙ said-price c.in_ok-text.text.now ∙ ap price_in c.in_ok-text.ensures
