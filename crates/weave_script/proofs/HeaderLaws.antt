-- A header is read only from its one line, and that is read as it.
-- Used by Reached, ReadAgain and StepLaws.
use Rattle.std.proofs.Common.{◌≡◌, ℕ, ◌≤◌, ◌<◌, ◌^◌, Bool, true, false, ◌&&◌, ◌||◌, cond, [], ◌∷◌, Ok, Err, refl, sym, ap, ◌∙◌, subst, lit<}
use Rattle.std.specs.Prelude.{codes}
use Rattle.std.specs.Fmt.{decimal}
use Rattle.std.specs.Str.{bytes_eq}
use Rattle.std.proofs.lemmas.Bool.{and_parts}
use Rattle.weave_text.specs.Lines.{Word, Line}
use Rattle.weave_text.specs.Numbers.{is_number}
use Rattle.weave_script.specs.declared.fault.Cause.{Cause}
use Rattle.weave_script.specs.declared.fault.Cause.TheVariants as causes
use Rattle.weave_script.specs.declared.read.header.Header.{Header}
use Rattle.weave_data.specs.Steps.{◌>>=◌}
use Rattle.weave_script.specs.Fields.{ReadOrCause, number_in}
use Rattle.weave_script.specs.Header.{header_of, is_version, sizes_of}
use Rattle.weave_script.specs.ScriptLines.{header_line, version_word}
use Rattle.weave_data.proofs.Steps.{bind_ok, bind_at, ok_is}
use Rattle.weave_report.proofs.ReadSteps.{is_word}
use Rattle.weave_script.proofs.Binds.{pick}
use Rattle.weave_script.proofs.FieldLaws.{NumberLaws, number_in-ok, number_in-number}
use Rattle.weave_script.proofs.Numbers.{is_told, is_told-number_up_to}

-- the numbers of a script's gatekeepers and shards
pub record AreSizes (n m : ℕ) : Type 0 where
  pub gates : (1 ≤ n) × (n ≤ 8)
  pub shards : (1 ≤ m) × (m ≤ 16)

module _ (laws : NumberLaws) where
  sizes_of-ok : (gates shards : Word) (n m : ℕ) → sizes_of gates shards ≡ Ok (n, m) → AreSizes n m × (gates ≡ decimal n) × (shards ≡ decimal m)
  sizes_of-ok gates shards n m e =
      let first = bind_ok (number_in 1 8 causes.Gatekeepers gates) (λ gates. number_in 1 16 causes.Shards shards >>= λ shards. Ok (gates, shards)) (n, m) e in
      let second = bind_ok (number_in 1 16 causes.Shards shards) (λ shards. Ok (first.0, shards)) (n, m) first.2 in
      let same = ok_is {E = Cause} (first.0, second.0) (n, m) second.2 in
      let a = number_in-ok laws 1 8 causes.Gatekeepers gates first.0 (lit< tt) first.1 in
      let b = number_in-ok laws 1 16 causes.Shards shards second.0 (lit< tt) second.1 in
      subst (λ (both : ℕ × ℕ). AreSizes both.0 both.1 × (gates ≡ decimal both.0) × (shards ≡ decimal both.1)) same
      (record { gates = (a.0, a.1); shards = (b.0, b.1) }, a.2, b.2)

  version_is : (word : Word) (two : Bool) → bytes_eq word (codes "2") ≡ two → bytes_eq word (codes "1") || two ≡ true → word ≡ version_word two
  version_is word true is some = is_word word (codes "2") is
  version_is word false is some = is_word word (codes "1") (at (bytes_eq word (codes "1")) some)
    where
      at : (one : Bool) → one || false ≡ true → one ≡ true
      at true h = refl
      at false h = absurd cc

  -- a line that is read as a header is the header of that version and those sizes
  pub header_of-ok : (line : Line) (header : Header) → header_of line ≡ Ok header → AreSizes header.gates header.shards × (line ≡ header_line header.joins header.gates header.shards)
  header_of-ok [] header e = absurd cc
  header_of-ok (a ∷ []) header e = absurd cc
  header_of-ok (a ∷ b ∷ []) header e = absurd cc
  header_of-ok (a ∷ b ∷ c ∷ []) header e = absurd cc
  header_of-ok (a ∷ b ∷ c ∷ d ∷ []) header e =
      let says : ℕ × ℕ → Header = λ sizes. record { joins = bytes_eq b (codes "2"); gates = sizes.0; shards = sizes.1 } in
      pick (bytes_eq a (codes "weaver") && is_version b && is_number c && is_number d) (sizes_of c d >>= λ sizes. Ok (says sizes)) (Err causes.Header) (Ok header) e
      (λ form e.
      let fixed = and_parts (bytes_eq a (codes "weaver") && is_version b) (is_number c) (and_parts (bytes_eq a (codes "weaver") && is_version b && is_number c) (is_number d) form).0 in
      let words = and_parts (bytes_eq a (codes "weaver")) (is_version b) fixed.0 in
      let step = bind_ok (sizes_of c d) (λ sizes. Ok (says sizes)) header e in
      let sizes = sizes_of-ok c d step.0.0 step.0.1 step.1 in
      let version = version_is b (bytes_eq b (codes "2")) refl words.1 in
      subst (λ (h : Header). AreSizes h.gates h.shards × (a ∷ b ∷ c ∷ d ∷ [] ≡ header_line h.joins h.gates h.shards)) (ok_is {E = Cause} (says step.0) header step.2)
      (sizes.0, λ i. is_word a (codes "weaver") words.0 i ∷ version i ∷ sizes.1 i ∷ sizes.2 i ∷ []))
      (λ no e. absurd cc)
  header_of-ok (a ∷ b ∷ c ∷ d ∷ more ∷ words) header e = absurd cc

  number_again : (most n : ℕ) → most < 2 ^ 64 → n ≤ most → is_number (decimal n) ≡ true
  number_again most n small high = sym (is_told-number_up_to most (decimal n)) ∙ ap is_told (laws.back most n small high)

  sizes_again : (n m : ℕ) → AreSizes n m → sizes_of (decimal n) (decimal m) ≡ Ok (n, m)
  sizes_again n m sizes =
      bind_at (number_in 1 8 causes.Gatekeepers (decimal n)) (λ gates. number_in 1 16 causes.Shards (decimal m) >>= λ shards. Ok (gates, shards)) n (number_in-number laws 1 8 causes.Gatekeepers n (lit< tt) sizes.gates.0 sizes.gates.1)
      ∙ bind_at (number_in 1 16 causes.Shards (decimal m)) (λ shards. Ok (n, shards)) m (number_in-number laws 1 16 causes.Shards m (lit< tt) sizes.shards.0 sizes.shards.1)

  -- the header of a version, with sizes in their ranges, is read as them
  pub header_of-line : (joins : Bool) (n m : ℕ) → AreSizes n m → header_of (header_line joins n m) ≡ Ok (record { joins = joins; gates = n; shards = m })
  header_of-line joins n m sizes =
      let says : ℕ × ℕ → ReadOrCause Header = λ sizes. Ok (record { joins = bytes_eq (version_word joins) (codes "2"); gates = sizes.0; shards = sizes.1 }) in
      let said : Bool → ReadOrCause Header = λ j. Ok (record { joins = j; gates = n; shards = m }) in
      ap (λ (b : Bool). cond b (sizes_of (decimal n) (decimal m) >>= says) (Err causes.Header)) (form joins)
      ∙ bind_at (sizes_of (decimal n) (decimal m)) says (n, m) (sizes_again n m sizes)
      ∙ ap said (is_second joins)
    where
      form : (j : Bool) → bytes_eq (codes "weaver") (codes "weaver") && is_version (version_word j) && is_number (decimal n) && is_number (decimal m) ≡ true
      form true = ap (λ (b : Bool). b && is_number (decimal m)) (number_again 8 n (lit< tt) sizes.gates.1) ∙ number_again 16 m (lit< tt) sizes.shards.1
      form false = ap (λ (b : Bool). b && is_number (decimal m)) (number_again 8 n (lit< tt) sizes.gates.1) ∙ number_again 16 m (lit< tt) sizes.shards.1

      is_second : (j : Bool) → bytes_eq (version_word j) (codes "2") ≡ j
      is_second true = refl
      is_second false = refl
