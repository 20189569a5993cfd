-- A name or a number is read only from its one word, and that word is read as it.
-- Used by CheckFaults, CheckLaws, CheckTold, HeadTexts, HeaderLaws, Reached, ReadAgain, RequestLaws, StepLaws and
-- TextLaws.
use Rattle.std.proofs.Common.{◌≡◌, ℕ, ◌≤◌, ◌<◌, ◌^◌, Ok, Err, ap, ◌∙◌, subst}
use Rattle.std.specs.Prelude.{nat_lt}
use Rattle.std.specs.Fmt.{decimal}
use Rattle.std.proofs.lemmas.Bool.{cond-true, cond-false, ltb-false, le-ltb}
use Rattle.weave_data.specs.Names.{is_name}
use Rattle.weave_data.specs.declared.name.Name.{Name}
use Rattle.weave_text.specs.Lines.{Word}
use Rattle.weave_text.specs.Numbers.{number_up_to}
use Rattle.weave_text.specs.declared.numbers.Numeral.{Numeral}
use Rattle.weave_text.specs.declared.numbers.Numeral.TheVariants.{NoNumber, TooLarge, Number}
use Rattle.weave_script.specs.declared.fault.Cause.{Cause}
use Rattle.weave_script.specs.declared.fault.Cause.TheVariants as causes
use Rattle.weave_data.specs.Steps.{◌>>=◌}
use Rattle.weave_script.specs.Fields.{name_word, found_number, at_least, number_in}
use Rattle.weave_script.specs.Scripts.{IsName}
use Rattle.weave_data.proofs.Steps.{bind_ok, ok_is}
use Rattle.weave_script.proofs.Binds.{pick}

-- a name that is read is the word
pub name_of-ok : (word : Word) (name : Name) → name_word word ≡ Ok name → IsName word × (word ≡ name)
name_of-ok word name e = pick (is_name word) (Ok word) (Err causes.Name) (Ok name) e (λ is same. (is, ok_is {E = Cause} word name same)) (λ is same. absurd cc)

-- a name is read as itself
pub name_of-name : (name : Name) → IsName name → name_word name ≡ Ok name
name_of-name name h = cond-true (is_name name) (Ok name) (Err causes.Name) h

-- a number is read only from its one word, and that is read as it
pub record NumberLaws : Type 0 where
  pub back : (most n : ℕ) → most < 2 ^ 64 → n ≤ most → number_up_to most (decimal n) ≡ Number n
  pub word : (most : ℕ) (word : Word) (n : ℕ) → most < 2 ^ 64 → number_up_to most word ≡ Number n → (word ≡ decimal n) × (n ≤ most)

found_ok : (cause : Cause) (numeral : Numeral) (n : ℕ) → found_number cause numeral ≡ Ok n → numeral ≡ Number n
found_ok cause NoNumber n e = absurd cc
found_ok cause TooLarge n e = absurd cc
found_ok cause (Number m) n e = ap (λ k. Number k) (ok_is {E = Cause} m n e)

at_least_ok : (least : ℕ) (cause : Cause) (n m : ℕ) → at_least least cause n ≡ Ok m → (least ≤ m) × (n ≡ m)
at_least_ok least cause n m e =
    pick (nat_lt n least) (Err cause) (Ok n) (Ok m) e (λ less same. absurd cc) (λ less same.
    let is : n ≡ m = ok_is {E = Cause} n m same in
    (subst (λ k. least ≤ k) is (ltb-false n least less), is))

module _ (laws : NumberLaws) where
  -- a number that is read is in its range, and its word is its digits
  pub number_in-ok : (least most : ℕ) (cause : Cause) (word : Word) (n : ℕ) → most < 2 ^ 64 → number_in least most cause word ≡ Ok n → (least ≤ n) × (n ≤ most) × (word ≡ decimal n)
  number_in-ok least most cause word n small e =
      let step = bind_ok (found_number cause (number_up_to most word)) (at_least least cause) n e in
      let low = at_least_ok least cause step.0 n step.2 in
      let found = laws.word most word step.0 small (found_ok cause (number_up_to most word) step.0 step.1) in
      (low.0, subst (λ k. k ≤ most) low.1 found.1, found.0 ∙ ap decimal low.1)

  -- the word of a number in the range is read as that number
  pub number_in-number : (least most : ℕ) (cause : Cause) (n : ℕ) → most < 2 ^ 64 → least ≤ n → n ≤ most → number_in least most cause (decimal n) ≡ Ok n
  number_in-number least most cause n small low high =
      ap (λ numeral. found_number cause numeral >>= λ m. at_least least cause m) (laws.back most n small high)
      ∙ cond-false (nat_lt n least) (Err cause) (Ok n) (le-ltb n least low)
