-- The price that a text says, by the number that it is.
-- Used by `price_of`.
use Rattle.std.proofs.Common.{◌≡◌, ◌≤◌, ◌<◌, ℕ, Bool, true, false, refl, sym, ap, ◌∙◌, Option, Some, None, ◌&&◌, nat_le, arith, if◌then◌else◌}
use Rattle.std.proofs.lemmas.Bool.{leb-true, le-leb}
use Rattle.weave_data.specs.declared.name.Name.{Name}
use Rattle.weave_text.specs.Numbers.{is_number, number_up_to, value_of}
use Rattle.weave_text.specs.declared.numbers.Numeral.{Numeral}
use Rattle.weave_text.specs.declared.numbers.Numeral.TheVariants.{NoNumber, TooLarge, Number}
use Rattle.program_defs.specs.Prices.{most_price, price_in}

-- the price of a number up to the greatest price
abbrev pub price_of_numeral : Numeral → Option ℕ
price_of_numeral NoNumber = None
price_of_numeral TooLarge = None
price_of_numeral (Number value) = if nat_le 1 value then Some value else None

-- the price that a text says is that of the number that it is
pub said-price : (text : Name) → price_of_numeral (number_up_to most_price text) ≡ price_in (Some text)
unfolding number_up_to
said-price text = at (is_number text) (nat_le 1 (value_of text)) (nat_le (value_of text) most_price) refl
  where
    at : (a b c : Bool) → nat_le 1 (value_of text) ≡ b → price_of_numeral (if a then (if c then Number (value_of text) else TooLarge) else NoNumber) ≡ (if a && b && c then Some (value_of text) else None)
    at true true true e = rw e refl
    at true false true e = rw e refl
    at true true false e = refl
    at true false false e = refl
    at false true c e = refl
    at false false c e = refl

-- a number that was read is at most the greatest price
pub said-within : (text : Name) (value : ℕ) → number_up_to most_price text ≡ Number value → value ≤ most_price
unfolding number_up_to
said-within text value said = at (is_number text) (nat_le (value_of text) most_price) refl said
  where
    at : (a c : Bool) → nat_le (value_of text) most_price ≡ c → (if a then (if c then Number (value_of text) else TooLarge) else NoNumber) ≡ Number value → value ≤ most_price
    at true true e s = let same : value_of text ≡ value = cc in leb-true value most_price (ap (λ n. nat_le n most_price) (sym same) ∙ e)
    at true false e s = cc
    at false c e s = cc

-- a number from 1 on is the price
pub number-is-price : (text : Name) (value : ℕ) → number_up_to most_price text ≡ Number value → 1 ≤ value → Some value ≡ price_in (Some text)
number-is-price text value said low = sym (sym (said-price text) ∙ ap price_of_numeral said ∙ rw (le-leb 1 value low) refl)

-- 0 is none
pub zero-is-no-price : (text : Name) (value : ℕ) → number_up_to most_price text ≡ Number value → value < 1 → None ≡ price_in (Some text)
zero-is-no-price text value said low =
    let nought : value ≡ 0 = omega (arith, low) in
    ap (λ n. price_of_numeral (Number n)) (sym nought) ∙ ap price_of_numeral (sym said) ∙ said-price text
