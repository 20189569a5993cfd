-- Counts past the eighth need not be read, and an order is read the same word by word.
-- Used by `counted_stamp` and `order_in`.
use Rattle.std.proofs.Common.{◌≡◌, ℕ, ◌≤◌, ◌==◌, Bool, true, false, cond, List, [], ◌∷◌, ◌++◌, length, refl, sym, ap, ◌∙◌, arith, length-append}
use Rattle.std.specs.Prelude.{◌&&◌, Option, None, Some, Ok, Err, min, nat_lt, option_map}
use Rattle.std.proofs.lemmas.Bool.{eqb-true, eqb-false, false_from_ne_true}
use Rattle.vector_stamp.specs.declared.clock.Stamp.{Stamp}
use Rattle.weave_data.specs.Names.{is_name}
use Rattle.weave_data.specs.declared.name.Name.{Name}
use Rattle.weave_text.specs.Lines.{Word}
use Rattle.weave_text.specs.Numbers.{number_of_word}
use Rattle.program_defs.specs.declared.script.Script.{Script}
use Rattle.weave_report.specs.declared.fault.ReportCause.TheVariants as cause
use Rattle.weave_report.specs.Reading.{order_in}
use Rattle.weave_data.specs.Steps.{◌>>=◌}
use Rattle.weave_report.specs.ReadingFields.{ReadResult, counts_from, names_from, or_cause, stamp_with_counts}
use Rattle.weave_report.specs.ReadingLists.{few_counts, order_from, with_named}
use Rattle.weave_report.specs.ReadingReplies.{named_from, request_named}

-- ---- the counts of a stamp

module _ (gates epoch home : ℕ) where
  -- the stamp of these counts
  abbrev stamp : List ℕ → ReadResult Stamp
  stamp counts = stamp_with_counts gates epoch home counts

  unequal : (below same : Bool) (value : ReadResult Stamp) → same ≡ false → cond (below && same) value (Err cause.Stamp) ≡ Err cause.Stamp
  unequal true false value e = refl
  unequal false false value e = refl
  unequal below true value e = absurd cc

  further : (counts words : List ℕ → ReadResult (List ℕ)) (count : Option ℕ) (before : List ℕ)
      → ((count : ℕ) → (counts (before ++ count ∷ []) >>= stamp) ≡ (words (before ++ count ∷ []) >>= stamp))
      → ((or_cause cause.Stamp count >>= λ count. counts (before ++ count ∷ [])) >>= stamp) ≡ ((or_cause cause.Stamp count >>= λ count. words (before ++ count ∷ [])) >>= stamp)
  further counts words None before same = refl
  further counts words (Some count) before same = same count

  refused : (words : List ℕ → ReadResult (List ℕ)) (count : Option ℕ) (before : List ℕ) → ((count : ℕ) → (words (before ++ count ∷ []) >>= stamp) ≡ Err cause.Stamp)
      → ((or_cause cause.Stamp count >>= λ count. words (before ++ count ∷ [])) >>= stamp) ≡ Err cause.Stamp
  refused words None before none = refl
  refused words (Some count) before none = none count

  -- nine counts are those of no stamp
  too_many : (before : List ℕ) (words : List Word) → 9 ≤ length before → (counts_from before words >>= stamp) ≡ Err cause.Stamp
  too_many before [] n =
      unequal (nat_lt home gates) (length before == min gates 8) _ (false_from_ne_true _ (λ e. absurd (omega (arith, eqb-true _ _ e))))
  too_many before (word ∷ words) n =
      refused (λ before. counts_from before words) (number_of_word word) before (λ count. too_many (before ++ count ∷ []) words (omega (arith, n, length-append before (count ∷ []))))

  another : (full : Bool) (few all : ReadResult (List ℕ)) → (full ≡ true → (all >>= stamp) ≡ Err cause.Stamp) → (full ≡ false → (few >>= stamp) ≡ (all >>= stamp))
      → (cond full (Err cause.Stamp) few >>= stamp) ≡ (all >>= stamp)
  another true few all none same = sym (none refl)
  another false few all none same = same refl

  -- so the counts need not be read past the eighth
  pub few_are_all : (before : List ℕ) (words : List Word) → length before ≤ 8 → (few_counts before words >>= stamp) ≡ (counts_from before words >>= stamp)
  few_are_all before [] n = refl
  few_are_all before (word ∷ words) n =
      another (length before == 8) _ _
      (λ full. refused (λ before. counts_from before words) (number_of_word word) before (λ count. too_many (before ++ count ∷ []) words (omega (arith, eqb-true _ _ full, length-append before (count ∷ [])))))
      (λ room. further (λ before. few_counts before words) (λ before. counts_from before words) (number_of_word word) before
      (λ count. few_are_all (before ++ count ∷ []) words (omega (arith, n, eqb-false _ _ room, length-append before (count ∷ [])))))

-- ---- the order

module _ (script : Script) where
  -- the requests so far and those of these names
  abbrev all_named : Option (List ℕ) → List Name → Option (List ℕ)
  all_named order [] = order
  all_named order (name ∷ names) = all_named (with_named script order name) names

  none_named : (names : List Name) → all_named None names ≡ None
  none_named [] = refl
  none_named (name ∷ names) = none_named names

  named_last : (order : Option (List ℕ)) (names : List Name) (name : Name) → all_named order (names ++ name ∷ []) ≡ with_named script (all_named order names) name
  named_last order [] name = refl
  named_last order (first ∷ names) name = named_last (with_named script order first) names name

  looked_up : (request : Option ℕ) (order : List ℕ) (names : List Name)
      → ((r : ℕ) → or_cause cause.Request (all_named (Some (order ++ r ∷ [])) names) ≡ named_from script (order ++ r ∷ []) names)
      → or_cause cause.Request (all_named (option_map (λ r. order ++ r ∷ []) request) names) ≡ (or_cause cause.Request request >>= λ r. named_from script (order ++ r ∷ []) names)
  looked_up None order names rest = ap (or_cause cause.Request) (none_named names)
  looked_up (Some r) order names rest = rest r

  each_named : (order : List ℕ) (names : List Name) → or_cause cause.Request (all_named (Some order) names) ≡ named_from script order names
  each_named order [] = refl
  each_named order (name ∷ names) = looked_up (request_named script name) order names (λ r. each_named (order ++ r ∷ []) names)

  one : (is : Bool) (word : Word) (left : Word → ReadResult (List ℕ)) (all : Word → ReadResult (List Name)) → left word ≡ (all word >>= named_from script [])
      → (cond is (Ok word) (Err cause.Name) >>= left) ≡ ((cond is (Ok word) (Err cause.Name) >>= all) >>= named_from script [])
  one true word left all same = same
  one false word left all same = refl

  order_is : (before : List Name) (words : List Word) → order_from script (all_named (Some []) before) words ≡ (names_from before words >>= named_from script [])
  order_is before [] = each_named [] before
  order_is before (word ∷ words) =
      one (is_name word) word (λ name. order_from script (with_named script (all_named (Some []) before) name) words) (λ name. names_from (before ++ name ∷ []) words)
      (ap (λ order. order_from script order words) (sym (named_last (Some []) before word)) ∙ order_is (before ++ word ∷ []) words)

  -- the order is read the same
  pub order_is_read : (words : List Word) → order_from script (Some []) words ≡ order_in script words
  order_is_read words = order_is [] words
