-- Answers to `price` that are read are written so, and those that are written are read again.
-- Used by AnswersRead.
use Rattle.std.proofs.Common.{◌≡◌, ℕ, zero, suc, ◌+◌, ◌<◌, ◌≤◌, ◌-◌, ◌^◌, ◌==◌, Bool, true, false, not, ◌&&◌, ◌||◌, cond, ltb, inl, inr, List, [], ◌∷◌, ◌++◌, length, map, take, drop, refl, sym, ap, ◌∙◌, subst, append_assoc, append-nil, arith, add-one}
use Rattle.std.specs.Prelude.{Option, Some, None, Ok, codes, is_some}
use Rattle.std.specs.Fmt.{decimal}
use Rattle.std.specs.List.{AllByRecursion, position, position_or_len}
use Rattle.std.specs.Ordering.{is_lt}
use Rattle.std.specs.Str.{bytes_eq}
use Rattle.std.proofs.lemmas.Bool.{and_parts, and_from, cond-true, cond-false, ltb-true, lt-ltb, eqb-true}
use Rattle.std.proofs.lemmas.Option.{cond_some}
use Rattle.weave_data.specs.Names.{is_name, name_cmp}
use Rattle.weave_data.specs.Steps.{◌>>=◌}
use Rattle.weave_data.specs.declared.name.Name.{Name}
use Rattle.weave_data.proofs.Steps.{bind_ok, ok_is}
use Rattle.weave_text.specs.Lines.{Word}
use Rattle.program_defs.specs.Rising.{is_rising}
use Rattle.program_defs.specs.declared.program.Answer.{Answer}
use Rattle.program_defs.specs.declared.program.Answer.TheVariants.{Priced}
use Rattle.program_defs.specs.declared.program.Bound.{Bound}
use Rattle.report_rules.specs.ReportOf.{is_total}
use Rattle.weave_report.specs.declared.fault.ReportCause.TheVariants as cause
use Rattle.weave_report.specs.Marks.{CutText, cut_first, is_equals}
use Rattle.weave_report.specs.ReadingFields.{ReadResult, read_names}
use Rattle.weave_report.specs.ReadingPriced.{bound_in, bound_of_cut, bounds_from, in_turn, is_next_after, is_mark, is_total_marked, is_none_word, is_priced_form, priced_at, priced_in, priced_walk_in, wide_number_in, wide_number_of}
use Rattle.weave_report.specs.ReportText.{bound_text, priced_words, walk_words}
use Rattle.weave_report.specs.TextOf.{IsName, IsTypedBound, IsTypedPriced, IsTypedWalk}
use Rattle.weave_report.specs.TextLaws.{TextLaws}
use Rattle.weave_report.proofs.ReadSteps.{chosen, err_is_not, is_word, or_cause_again, or_cause_read, passed, then_ok}
use Rattle.weave_report.proofs.FieldsRead.{name_read, name_again, names_read, names_again}
use Rattle.weave_report.proofs.StatesRead.{cut_read, cut_again}
use Rattle.weave_report.proofs.WideNumbers.{wide_is_not_none, wide_of-decimal, word_of-wide}

-- the vertices of bounds
abbrev vertices : List Bound → List Name
vertices bounds = map (λ (bound : Bound). bound.vertex) bounds

-- the names rise after this one, if there is one
RisesAfter : Option Name → List Name → Type 0
RisesAfter None names = is_rising names ≡ true
RisesAfter (Some v) names = is_rising (v ∷ names) ≡ true

first_rises : (last : Option Name) (v : Name) (names : List Name) → is_next_after last v ≡ true → is_rising (v ∷ names) ≡ true → RisesAfter last (v ∷ names)
unfolding RisesAfter
first_rises None v names h k = k
first_rises (Some before) v names h k = and_from (is_lt (name_cmp before v)) (is_rising (v ∷ names)) h k

none_rise : (last : Option Name) → RisesAfter last []
unfolding RisesAfter
none_rise None = refl
none_rise (Some v) = refl

parted : (last : Option Name) (v : Name) (names : List Name) → RisesAfter last (v ∷ names) → (is_next_after last v ≡ true) × (is_rising (v ∷ names) ≡ true)
unfolding RisesAfter
parted None v names h = (refl, h)
parted (Some before) v names h = and_parts (is_lt (name_cmp before v)) (is_rising (v ∷ names)) h

-- ---- the mark

-- a name isn't the mark
name_is_no_mark : (name : Name) → IsName name → is_mark name ≡ false
name_is_no_mark name h = by_test (is_mark name) refl
  where
    no_name : is_name (codes ";") ≡ true → ⊥
    no_name e = cc

    by_test : (b : Bool) → is_mark name ≡ b → b ≡ false
    by_test false e = refl
    by_test true e = absurd (no_name (subst (λ word. is_name word ≡ true) (is_word name (codes ";") e) h))

-- where the mark is, if there is one
place_after : (word : Word) (words : List Word) → is_mark word ≡ false → position_or_len is_mark (word ∷ words) ≡ suc (position_or_len is_mark words)
place_after word words e = ap (λ b. cond (not b) (1 + position_or_len is_mark words) 0) e ∙ omega arith

place_here : (word : Word) (words : List Word) → is_mark word ≡ true → position_or_len is_mark (word ∷ words) ≡ 0
place_here word words e = ap (λ b. cond (not b) (1 + position_or_len is_mark words) 0) e

place_behind : (names words : List Word) → AllByRecursion IsName names → position_or_len is_mark (names ++ codes ";" ∷ words) ≡ length names
place_behind [] words h = place_here (codes ";") words refl
place_behind (name ∷ names) words h = place_after name (names ++ codes ";" ∷ words) (name_is_no_mark name h.0) ∙ ap suc (place_behind names words h.1)

length_within : (names words : List Word) → length names < length (names ++ codes ";" ∷ words)
length_within [] words = omega arith
length_within (name ∷ names) words = omega (arith, length_within names words)

-- the mark after names is the first
marked_at : (names words : List Word) → AllByRecursion IsName names → position is_mark (names ++ codes ";" ∷ words) ≡ Some (length names)
marked_at names words h =
    let at = place_behind names words h in
    cond-true (ltb (position_or_len is_mark (names ++ codes ";" ∷ words)) (length (names ++ codes ";" ∷ words))) _ _
    (lt-ltb _ _ (subst (λ n. n < length (names ++ codes ";" ∷ words)) (sym at) (length_within names words)))
    ∙ ap (λ n. Some n) at

before_mark : (names words : List Word) → take (length names) (names ++ codes ";" ∷ words) ≡ names
before_mark [] words = refl
before_mark (name ∷ names) words = ap (λ names. name ∷ names) (before_mark names words)

behind_mark : (names words : List Word) → drop (suc (length names)) (names ++ codes ";" ∷ words) ≡ words
behind_mark [] words = refl
behind_mark (name ∷ names) words = behind_mark names words

-- words are what is before the mark, the mark, and what is after it
cut_words : (words : List Word) → position_or_len is_mark words < length words
    → words ≡ take (position_or_len is_mark words) words ++ codes ";" ∷ drop (suc (position_or_len is_mark words)) words
cut_words [] h = absurd (omega arith)
cut_words (word ∷ words) h = by_test (λ h. cut_words words h) (is_mark word) refl
  where
    by_test : (position_or_len is_mark words < length words → words ≡ take (position_or_len is_mark words) words ++ codes ";" ∷ drop (suc (position_or_len is_mark words)) words)
        → (b : Bool) → is_mark word ≡ b → word ∷ words ≡ take (position_or_len is_mark (word ∷ words)) (word ∷ words) ++ codes ";" ∷ drop (suc (position_or_len is_mark (word ∷ words))) (word ∷ words)
    by_test more true e = ap (λ word. word ∷ words) (is_word word (codes ";") e)
        ∙ ap (λ n. take n (word ∷ words) ++ codes ";" ∷ drop (suc n) (word ∷ words)) (sym (place_here word words e))
    by_test more false e =
        let at = place_after word words e in
        ap (λ words. word ∷ words) (more (omega (arith, h, at)))
        ∙ ap (λ n. take n (word ∷ words) ++ codes ";" ∷ drop (suc n) (word ∷ words)) (sym at)

cut_at : (words : List Word) (at : ℕ) → position is_mark words ≡ Some at → words ≡ take at words ++ codes ";" ∷ drop (at + 1) words
cut_at words at e =
    let found = cond_some (ltb (position_or_len is_mark words) (length words)) (position_or_len is_mark words) at e in
    cut_words words (ltb-true _ _ found.0)
    ∙ ap (λ n. take n words ++ codes ";" ∷ drop (suc n) words) found.1
    ∙ ap (λ n. take at words ++ codes ";" ∷ drop n words) (sym (add-one at))

module _ (laws : TextLaws) where
  -- ---- numbers and bounds

  wide_read : (word : Word) (n : ℕ) → wide_number_in word ≡ Ok n → (word ≡ decimal n) × (n < 2 ^ 128)
  wide_read word n e = word_of-wide word n (or_cause_read cause.Number (wide_number_of word) n e)

  wide_again : (n : ℕ) → n < 2 ^ 128 → wide_number_in (decimal n) ≡ Ok n
  wide_again n h = or_cause_again cause.Number (wide_number_of (decimal n)) n (wide_of-decimal n h)

  bound_joined : (bound : Bound) → bound_text bound ≡ bound.vertex ++ 61 ∷ decimal bound.price
  bound_joined bound = append_assoc bound.vertex (codes "=") (decimal bound.price)

  bound_from : (word : Word) (o : Option CutText) (bound : Bound) → cut_first is_equals word ≡ o → bound_of_cut o ≡ Ok bound → IsTypedBound bound × (word ≡ bound_text bound)
  bound_from word None bound e k = absurd (err_is_not cause.Line bound k)
  bound_from word (Some (before, mark, behind)) bound e k =
      let cut = cut_read laws is_equals word before mark behind e in
      let one = bind_ok _ _ bound k in
      let two = bind_ok _ _ bound one.2 in
      let vertex = (name_read laws) before one.0 one.1 in
      let price = wide_read behind two.0 two.1 in
      let made : Bound = record { vertex = one.0; price = two.0 } in
      let same = ok_is made bound two.2 in (
        subst IsTypedBound same (record { vertex = vertex.0; price = price.1 }),
        cut.whole ∙ (λ i. vertex.1 i ++ eqb-true mark 61 cut.marked i ∷ price.0 i) ∙ sym (bound_joined made) ∙ ap bound_text same,
      )

  bound_read : (last : Option Name) (word : Word) (bound : Bound) → bound_in last word ≡ Ok bound → IsTypedBound bound × (word ≡ bound_text bound) × (is_next_after last bound.vertex ≡ true)
  bound_read last word bound e =
      let one = bind_ok _ _ bound e in
      let test = passed (is_next_after last one.0.vertex) (Ok one.0) cause.Line bound one.2 in
      let same = ok_is one.0 bound test.1 in
      let read = bound_from word (cut_first is_equals word) one.0 refl one.1 in
      (subst IsTypedBound same read.0, read.1 ∙ ap bound_text same, subst (λ (bound : Bound). is_next_after last bound.vertex ≡ true) same test.0)

  bound_again : (last : Option Name) (bound : Bound) → IsTypedBound bound → is_next_after last bound.vertex ≡ true → bound_in last (bound_text bound) ≡ Ok bound
  bound_again last bound h after =
      then_ok _ _ bound _
      (ap (λ word. bound_of_cut (cut_first is_equals word)) (bound_joined bound)
      ∙ ap bound_of_cut (cut_again laws is_equals bound.vertex 61 (decimal bound.price) (laws.name_lacks 61 bound.vertex refl h.vertex) refl)
      ∙ then_ok _ _ bound.vertex _ ((name_again laws) bound.vertex h.vertex) (then_ok _ _ bound.price _ (wide_again bound.price h.price) refl))
      (cond-true (is_next_after last bound.vertex) _ _ after)

  -- what was read of bounds after others
  record AreBounds (before : List Bound) (last : Option Name) (words : List Word) (bounds : List Bound) : Type 0 where
    more : List Bound
    joined : bounds ≡ before ++ more
    each : AllByRecursion IsTypedBound more
    told : words ≡ map bound_text more
    rises : RisesAfter last (vertices more)

  bounds_read : (before : List Bound) (last : Option Name) (words : List Word) (bounds : List Bound) → bounds_from before last words ≡ Ok bounds → AreBounds before last words bounds
  unfolding RisesAfter
  bounds_read before last [] bounds e =
      record { more = []; joined = sym (ok_is before bounds e) ∙ sym (append-nil before); each = tt; told = refl; rises = none_rise last }
  bounds_read before last (word ∷ words) bounds e =
      let one = bind_ok _ _ bounds e in
      let read = bound_read last word one.0 one.1 in
      let rest = bounds_read (before ++ one.0 ∷ []) (Some one.0.vertex) words bounds one.2 in
      record {
        more = one.0 ∷ rest.more;
        joined = rest.joined ∙ append_assoc before (one.0 ∷ []) rest.more;
        each = (read.0, rest.each);
        told = λ i. read.1 i ∷ rest.told i;
        rises = first_rises last one.0.vertex (vertices rest.more) read.2 rest.rises;
      }

  bounds_again : (before : List Bound) (last : Option Name) (bounds : List Bound) → AllByRecursion IsTypedBound bounds → RisesAfter last (vertices bounds) → bounds_from before last (map bound_text bounds) ≡ Ok (before ++ bounds)
  unfolding RisesAfter
  bounds_again before last [] h rises = ap (λ bounds. Ok bounds) (sym (append-nil before))
  bounds_again before last (bound ∷ bounds) h rises =
      let parts = parted last bound.vertex (vertices bounds) rises in
      then_ok _ _ bound _ (bound_again last bound h.0 parts.0)
      (bounds_again (before ++ bound ∷ []) (Some bound.vertex) bounds h.1 parts.1 ∙ ap (λ bounds. Ok bounds) (append_assoc before (bound ∷ []) bounds))

  -- ---- walks

  -- what was read as a walk and its price
  record IsWalk (total : Word) (names : List Word) (walk : Option (List Name)) (price : ℕ) : Type 0 where
    typed : IsTypedWalk walk
    small : price < 2 ^ 128
    given : is_total walk price ≡ true
    told : (is_none_word total ≡ true → names ≡ []) → total ∷ names ≡ walk_words walk price

  walk_is : (total : Word) (names : List Word) (walk : Option (List Name) × ℕ) → priced_walk_in total names ≡ Ok walk → IsWalk total names walk.0 walk.1
  walk_is total names walk e =
      elim (chosen (is_none_word total) (Ok (None, 0)) (wide_number_in total >>= λ price. read_names names >>= λ walk. Ok (Some walk, price)) (Ok walk) e) [
        | inl k ↦ subst (λ (walk : Option (List Name) × ℕ). IsWalk total names walk.0 walk.1) (ok_is (None, 0) walk k.1) (record {
          typed = tt;
          small = omega arith;
          given = refl;
          told = λ none. λ i. is_word total (codes "none") k.0 i ∷ none k.0 i;
        })
        | inr k ↦
            let one = bind_ok _ _ walk k.1 in
            let two = bind_ok _ _ walk one.2 in
            let price = wide_read total one.0 one.1 in
            let read = (names_read laws) [] names two.0 two.1 in
            subst (λ (walk : Option (List Name) × ℕ). IsWalk total names walk.0 walk.1) (ok_is (Some two.0, one.0) walk two.2) (record {
              typed = subst (AllByRecursion IsName) (sym read.0) read.1;
              small = price.1;
              given = refl;
              told = λ none. λ i. price.0 i ∷ sym read.0 i;
            })
      ]

  -- ---- answers

  -- an answer to `price` that is read
  pub record IsPricedRead (words : List Word) (walk : Option (List Name)) (total : ℕ) (bounds : List Bound) : Type 0 where
    pub form : (is_total walk total && is_rising (map (λ (bound : Bound). bound.vertex) bounds)) ≡ true
    pub typed : IsTypedPriced walk total bounds
    pub told : words ≡ priced_words walk total bounds

  -- words of its form that are read as an answer to `price`
  pub record IsPricedAs (words : List Word) (answer : Answer) : Type 0 where
    pub walk : Option (List Name)
    pub total : ℕ
    pub bounds : List Bound
    pub answer_is : Priced walk total bounds ≡ answer
    pub read : IsPricedRead words walk total bounds

  nothing_before : (total : Word) (words : List Word) (at : ℕ) → is_total_marked total (Some at) ≡ true → is_none_word total ≡ true → take at words ≡ []
  nothing_before total words at h e = ap (λ n. take n words) (eqb-true at 0 (left (is_none_word total) (at == 0) h e))
    where
      left : (none first : Bool) → (not none || first) ≡ true → none ≡ true → first ≡ true
      left true first h e = h
      left false first h e = absurd cc

  read_at : (word total : Word) (words : List Word) (o : Option ℕ) (answer : Answer) → position is_mark words ≡ o → bytes_eq word (codes "price") ≡ true → is_total_marked total o ≡ true
      → priced_at total words o ≡ Ok answer → IsPricedAs (word ∷ total ∷ words) answer
  unfolding RisesAfter
  read_at word total words None answer e same marked k = absurd cc
  read_at word total words (Some at) answer e same marked k =
      let one = bind_ok _ _ answer k in
      let two = bind_ok _ _ answer one.2 in
      let walk = walk_is total (take at words) one.0 one.1 in
      let bounds = bounds_read [] None (drop (at + 1) words) two.0 two.1 in
      let told = walk.told (nothing_before total words at marked) in
      let whole : total ∷ words ≡ walk_words one.0.0 one.0.1 ++ codes ";" ∷ map bound_text two.0 =
      ap (λ words. total ∷ words) (cut_at words at e)
      ∙ (λ i. told i ++ codes ";" ∷ bounds.told i)
      ∙ ap (λ (bounds : List Bound). walk_words one.0.0 one.0.1 ++ codes ";" ∷ map bound_text bounds) (sym bounds.joined) in
      record {
        walk = one.0.0;
        total = one.0.1;
        bounds = two.0;
        answer_is = ok_is (Priced one.0.0 one.0.1 two.0) answer two.2;
        read = record {
          form = and_from (is_total one.0.0 one.0.1) _ walk.given (subst (λ (bounds : List Bound). is_rising (vertices bounds) ≡ true) (sym bounds.joined) bounds.rises);
          typed = record { vertices = walk.typed; price = walk.small; each = subst (AllByRecursion IsTypedBound) (sym bounds.joined) bounds.each };
          told = λ i. is_word word (codes "price") same i ∷ whole i;
        };
      }

  -- words of the form of an answer to `price` that are read as one are its words; it has its form, and its fields are
  -- valid
  pub priced_read : (words : List Word) (answer : Answer) → is_priced_form words ≡ true → priced_in words ≡ Ok answer → IsPricedAs words answer
  priced_read [] answer h e = absurd cc
  priced_read (word ∷ []) answer h e = absurd cc
  priced_read (word ∷ total ∷ words) answer h e =
      let parts = and_parts (bytes_eq word (codes "price")) (is_total_marked total (position is_mark words)) h in
      read_at word total words (position is_mark words) answer refl parts.0 parts.1 e

  -- the words of a valid answer to `price` have its form and are read as it
  pub priced_again : (walk : Option (List Name)) (total : ℕ) (bounds : List Bound) → (is_total walk total && is_rising (map (λ (bound : Bound). bound.vertex) bounds)) ≡ true → IsTypedPriced walk total bounds
      → (is_priced_form (priced_words walk total bounds) ≡ true) × (priced_in (priced_words walk total bounds) ≡ Ok (Priced walk total bounds))
  unfolding RisesAfter
  priced_again None total bounds form h =
      let parts = and_parts (total == 0) _ form in
      let words = map bound_text bounds in
      let marked = marked_at [] words tt in (
        ap (is_total_marked (codes "none")) marked,
        ap (priced_at (codes "none") (codes ";" ∷ words)) marked
            ∙ then_ok _ _ bounds _ (bounds_again [] None bounds h.each parts.1) (ap (λ total. Ok (Priced None total bounds)) (sym (eqb-true total 0 parts.0))),
      )
  priced_again (Some names) total bounds form h =
      let words = map bound_text bounds in
      let marked = marked_at names words h.vertices in
      let other = wide_is_not_none total h.price in (
        ap (is_total_marked (decimal total)) marked ∙ ap (λ b. not b || (length names == 0)) other,
        ap (priced_at (decimal total) (names ++ codes ";" ∷ words)) marked
            ∙ then_ok _ _ (Some names, total) _
            (cond-false (is_none_word (decimal total)) _ _ other
            ∙ then_ok _ _ total _ (wide_again total h.price)
            (ap (λ names. read_names names >>= λ walk. Ok (Some walk, total)) (before_mark names words)
            ∙ then_ok _ _ names _ ((names_again laws) [] names h.vertices) refl))
            (ap (λ rest. bounds_from [] None rest >>= λ bounds. Ok (Priced (Some names) total bounds)) (ap (λ n. drop n (names ++ codes ";" ∷ words)) (add-one (length names)) ∙ behind_mark names words)
            ∙ then_ok _ _ bounds _ (bounds_again [] None bounds h.each form) refl),
      )
