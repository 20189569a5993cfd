-- Stamps that are read are written so, and stamps that are written are read again.
-- Used by RepliesRead and ReportAgain.
use Rattle.std.proofs.Common.{◌≡◌, ℕ, zero, suc, ◌-◌, ◌<◌, ◌≤◌, ◌^◌, min, Bool, true, ◌&&◌, ◌==◌, inl, inr, List, [], ◌∷◌, ◌++◌, length, map, take, drop, refl, sym, ap, ◌∙◌, subst, append_assoc, append-nil, arith, length-append, length-drop}
use Rattle.std.specs.Prelude.{IsTrue, Ok, codes, nat_lt, replicate}
use Rattle.std.specs.Fmt.{decimal}
use Rattle.std.specs.List.{list_all}
use Rattle.std.proofs.lemmas.Bool.{cond-true, and_parts, and_from, lt-ltb, ltb-true, eqb-true, eq-eqb, cases_lt}
use Rattle.weave_text.specs.Cutting.{is_absent_from, pieces_of}
use Rattle.weave_text.specs.Lines.{Word, joined_texts, marked_texts}
use Rattle.weave_text.specs.Numbers.{number_of_word}
use Rattle.vector_stamp.specs.declared.clock.Stamp.{Stamp}
use Rattle.vector_stamp.specs.Order.{has_64_bits}
use Rattle.program_defs.specs.declared.script.Script.{Script}
use Rattle.weave_report.specs.declared.fault.ReportCause.TheVariants as cause
use Rattle.weave_report.specs.ReadingFields.{count_in, counts_from, eight_counts, stamp_parts, read_stamp}
use Rattle.report_rules.specs.ReportOf.{is_stamp_of}
use Rattle.weave_report.specs.ReportText.{stamp_text}
use Rattle.weave_data.proofs.Steps.{bind_ok, ok_is}
use Rattle.weave_report.proofs.ReadSteps.{err_is_not, passed, then_ok, or_cause_read, or_cause_again}
use Rattle.weave_report.specs.TextLaws.{TextLaws}

module _ (laws : TextLaws) where
  -- the number has 64 bits
  abbrev fits : ℕ → Bool
  fits n = nat_lt n (2 ^ 64)

  count_read : (word : Word) (n : ℕ) → count_in word ≡ Ok n → (word ≡ decimal n) × (n < 2 ^ 64)
  count_read word n e = laws.word_of-number word n (or_cause_read cause.Stamp (number_of_word word) n e)

  count_again : (n : ℕ) → n < 2 ^ 64 → count_in (decimal n) ≡ Ok n
  count_again n h = or_cause_again cause.Stamp (number_of_word (decimal n)) n (laws.number_of-decimal n h)

  -- the numbers of these words, and nothing more
  record AreCounts (before : List ℕ) (words : List Word) (counts : List ℕ) : Type 0 where
    own : List ℕ
    behind : counts ≡ before ++ own
    told : words ≡ map decimal own
    small : list_all fits own ≡ true

  counts_read : (before : List ℕ) (words : List Word) (counts : List ℕ) → counts_from before words ≡ Ok counts → AreCounts before words counts
  counts_read before [] counts e = record { own = []; behind = sym (ok_is before counts e) ∙ sym (append-nil before); told = refl; small = refl }
  counts_read before (word ∷ words) counts e =
      let one = bind_ok _ _ counts e in
      let count = count_read word one.0 one.1 in
      let rest = counts_read (before ++ one.0 ∷ []) words counts one.2 in
      record {
        own = one.0 ∷ rest.own;
        behind = rest.behind ∙ append_assoc before (one.0 ∷ []) rest.own;
        told = ap (λ word. word ∷ words) count.0 ∙ ap (λ words. decimal one.0 ∷ words) rest.told;
        small = and_from (fits one.0) (list_all fits rest.own) (lt-ltb one.0 (2 ^ 64) count.1) rest.small;
      }

  counts_again : (before counts : List ℕ) → list_all fits counts ≡ true → counts_from before (map decimal counts) ≡ Ok (before ++ counts)
  counts_again before [] h = ap (λ counts. Ok counts) (sym (append-nil before))
  counts_again before (count ∷ counts) h =
      let parts = and_parts (fits count) (list_all fits counts) h in
      then_ok _ _ count _ (count_again count (ltb-true count (2 ^ 64) parts.0))
      (counts_again (before ++ count ∷ []) counts parts.1 ∙ ap (λ counts. Ok counts) (append_assoc before (count ∷ []) counts))

  -- ---- eight counts

  all_zeros : (n : ℕ) → list_all (λ count. count == 0) (replicate n 0) ≡ true
  all_zeros zero = refl
  all_zeros (suc n) = all_zeros n

  zeros_fit : (n : ℕ) → list_all fits (replicate n 0) ≡ true
  zeros_fit zero = refl
  zeros_fit (suc n) = zeros_fit n

  all_append : (p : ℕ → Bool) (xs ys : List ℕ) → list_all p xs ≡ true → list_all p ys ≡ true → list_all p (xs ++ ys) ≡ true
  all_append p [] ys h k = k
  all_append p (x ∷ xs) ys h k = let parts = and_parts (p x) (list_all p xs) h in and_from (p x) (list_all p (xs ++ ys)) parts.0 (all_append p xs ys parts.1 k)

  all_take : (p : ℕ → Bool) (n : ℕ) (xs : List ℕ) → list_all p xs ≡ true → list_all p (take n xs) ≡ true
  all_take p zero xs h = refl
  all_take p (suc n) [] h = refl
  all_take p (suc n) (x ∷ xs) h = let parts = and_parts (p x) (list_all p xs) h in and_from (p x) (list_all p (take n xs)) parts.0 (all_take p n xs parts.1)

  -- nothing but zeros
  only_zeros : (xs : List ℕ) → list_all (λ count. count == 0) xs ≡ true → xs ≡ replicate (length xs) 0
  only_zeros [] h = refl
  only_zeros (x ∷ xs) h =
      let parts = and_parts (x == 0) (list_all (λ count. count == 0) xs) h in
      λ i. eqb-true x 0 parts.0 i ∷ only_zeros xs parts.1 i

  take_whole : (xs ys : List ℕ) → take (length xs) (xs ++ ys) ≡ xs
  take_whole [] ys = refl
  take_whole (x ∷ xs) ys = ap (λ xs. x ∷ xs) (take_whole xs ys)

  drop_whole : (xs ys : List ℕ) → drop (length xs) (xs ++ ys) ≡ ys
  drop_whole [] ys = refl
  drop_whole (x ∷ xs) ys = drop_whole xs ys

  take_past : (n : ℕ) (xs : List ℕ) → length xs ≤ n → take n xs ≡ xs
  take_past zero [] h = refl
  take_past (suc n) [] h = refl
  take_past zero (x ∷ xs) h = absurd (omega (arith, h))
  take_past (suc n) (x ∷ xs) h = ap (λ xs. x ∷ xs) (take_past n xs (omega arith))

  drop_past : (n : ℕ) (xs : List ℕ) → length xs ≤ n → drop n xs ≡ []
  drop_past zero [] h = refl
  drop_past (suc n) [] h = refl
  drop_past zero (x ∷ xs) h = absurd (omega (arith, h))
  drop_past (suc n) (x ∷ xs) h = drop_past n xs (omega arith)

  both_parts : (n : ℕ) (xs : List ℕ) → take n xs ++ drop n xs ≡ xs
  both_parts zero xs = refl
  both_parts (suc n) [] = refl
  both_parts (suc n) (x ∷ xs) = ap (λ xs. x ∷ xs) (both_parts n xs)

  length_zeros : (n : ℕ) → length {A = ℕ} (replicate n 0) ≡ n
  length_zeros zero = refl
  length_zeros (suc n) = ap suc (length_zeros n)

  length-take : (n : ℕ) (xs : List ℕ) → length (take n xs) ≡ min n (length xs)
  length-take zero xs = omega arith
  length-take (suc n) [] = omega arith
  length-take (suc n) (x ∷ xs) = let more = length-take n xs in omega (arith, more)

  -- the counts that a stamp's text shows, and zeros after them
  record AreShown (gates : ℕ) (counts : List ℕ) : Type 0 where
    shown : take gates (eight_counts counts) ≡ counts
    zeros : list_all (λ count. count == 0) (drop gates (eight_counts counts)) ≡ true
    eight : length (eight_counts counts) ≡ 8

  are_shown : (gates : ℕ) (counts : List ℕ) → length counts ≡ min gates 8 → AreShown gates counts
  are_shown gates counts h =
      let zeros : List ℕ = replicate (8 - length counts) 0 in
      let eight : length (eight_counts counts) ≡ 8 = omega (arith, length-append counts zeros, length_zeros (8 - length counts), h) in
      elim (cases_lt gates 9) [
        | inl few ↦
            let same : gates ≡ length counts = omega (arith, h) in
            record {
              shown = ap (λ n. take n (eight_counts counts)) same ∙ take_whole counts zeros;
              zeros = ap (λ n. list_all (λ count. count == 0) (drop n (eight_counts counts))) same ∙ ap (list_all (λ count. count == 0)) (drop_whole counts zeros) ∙ all_zeros (8 - length counts);
              eight = eight;
            }
        | inr many ↦
            let none : 8 - length counts ≡ 0 = omega (arith, h) in
            record {
              shown = take_past gates (eight_counts counts) (omega (arith, eight)) ∙ ap (λ n. counts ++ replicate n 0) none ∙ append-nil counts;
              zeros = ap (list_all (λ count. count == 0)) (drop_past gates (eight_counts counts) (omega (arith, eight)));
              eight = eight;
            }
      ]

  -- eight counts, of which those after the first ones are 0
  again_eight : (gates : ℕ) (counts : List ℕ) → length counts ≡ 8 → list_all (λ count. count == 0) (drop gates counts) ≡ true → eight_counts (take gates counts) ≡ counts
  again_eight gates counts eight zeros =
      let rest : drop gates counts ≡ replicate (8 - length (take gates counts)) 0 =
      only_zeros (drop gates counts) zeros ∙ ap (λ n. replicate n 0) (omega (arith, length-drop gates counts, length-take gates counts, eight)) in
      ap (λ rest. take gates counts ++ rest) (sym rest) ∙ both_parts gates counts

  -- ---- the text

  three_joined : (a b c : Word) → joined_texts (58 ∷ []) (a ∷ b ∷ c ∷ []) ≡ a ++ codes ":" ++ b ++ codes ":" ++ c
  three_joined a b c =
      let inner : (58 ∷ b) ++ ((58 ∷ c) ++ []) ≡ 58 ∷ b ++ 58 ∷ c = ap (λ c. 58 ∷ b ++ 58 ∷ c) (append-nil c) in
      ap (λ rest. a ++ rest) inner ∙ sym (append_assoc (a ++ codes ":" ++ b) (codes ":") c ∙ append_assoc (a ++ codes ":") b (58 ∷ c) ∙ append_assoc a (codes ":") (b ++ 58 ∷ c))

  three_parts : (gates : ℕ) (parts : List Word) (stamp : Stamp) → stamp_parts gates parts ≡ Ok stamp
      → (a : Word) × (b : Word) × (c : Word) × (parts ≡ a ∷ b ∷ c ∷ []) × (stamp_parts gates (a ∷ b ∷ c ∷ []) ≡ Ok stamp)
  three_parts gates [] stamp e = absurd (err_is_not cause.Stamp stamp e)
  three_parts gates (a ∷ []) stamp e = absurd (err_is_not cause.Stamp stamp e)
  three_parts gates (a ∷ b ∷ []) stamp e = absurd (err_is_not cause.Stamp stamp e)
  three_parts gates (a ∷ b ∷ c ∷ []) stamp e = (a, b, c, refl, e)
  three_parts gates (a ∷ b ∷ c ∷ d ∷ parts) stamp e = absurd (err_is_not cause.Stamp stamp e)

  -- a word that is read as a stamp is this stamp's text, and the stamp has the form of the script's
  pub stamp_read : (script : Script) (word : Word) (stamp : Stamp) → read_stamp script.gates word ≡ Ok stamp → (word ≡ stamp_text script.gates stamp) × IsTrue (is_stamp_of script stamp)
  stamp_read script word stamp e =
      let gates = script.gates in
      let parts = three_parts gates (pieces_of 58 word) stamp e in
      let a = parts.0 in let b = parts.1 in let c = parts.2 in
      let one = bind_ok _ _ stamp parts.4 in
      let two = bind_ok _ _ stamp one.2 in
      let three = bind_ok _ _ stamp two.2 in
      let epoch = count_read a one.0 one.1 in
      let home = count_read b two.0 two.1 in
      let counts = counts_read [] (pieces_of 44 c) three.0 three.1 in
      let made : Stamp = record { home = two.0; clock = record { epoch = one.0; counts = eight_counts three.0 } } in
      let test = passed (nat_lt two.0 gates && (length three.0 == min gates 8)) (Ok made) cause.Stamp stamp three.2 in
      let tests = and_parts (nat_lt two.0 gates) (length three.0 == min gates 8) test.0 in
      let shown = are_shown gates three.0 (eqb-true (length three.0) (min gates 8) tests.1) in
      let told : c ≡ joined_texts (44 ∷ []) (map decimal three.0) = sym (laws.joined_of-pieces 44 c) ∙ ap (joined_texts (44 ∷ [])) (counts.told ∙ ap (map decimal) (sym counts.behind)) in
      let small : list_all fits three.0 ≡ true = subst (λ counts. list_all fits counts ≡ true) (sym counts.behind) counts.small in
      let text : word ≡ stamp_text gates made =
      sym (laws.joined_of-pieces 58 word) ∙ ap (joined_texts (58 ∷ [])) (parts.3 ∙ (λ i. epoch.0 i ∷ home.0 i ∷ told i ∷ [])) ∙ three_joined (decimal one.0) (decimal two.0) (joined_texts (44 ∷ []) (map decimal three.0))
      ∙ ap (λ counts. decimal one.0 ++ codes ":" ++ decimal two.0 ++ codes ":" ++ joined_texts (44 ∷ []) (map decimal counts)) (sym shown.shown) in
      let of : IsTrue (is_stamp_of script made) =
      and_from _ _ (and_from _ _ (and_from _ _ tests.0 (eq-eqb (length (eight_counts three.0)) 8 shown.eight)) shown.zeros)
      (and_from _ _ (lt-ltb one.0 (2 ^ 64) epoch.1) (all_append fits three.0 (replicate (8 - length three.0) 0) small (zeros_fit (8 - length three.0)))) in
      let same = ok_is made stamp test.1 in
      (text ∙ ap (stamp_text gates) same, subst (λ stamp. IsTrue (is_stamp_of script stamp)) same of)

  -- ---- and again

  counts_lack_colon : (first : ℕ) (more : List ℕ) → list_all fits (first ∷ more) ≡ true → is_absent_from 58 (joined_texts (44 ∷ []) (map decimal (first ∷ more))) ≡ true
  counts_lack_colon first more h =
      let parts = and_parts (fits first) (list_all fits more) h in
      laws.lacks-append 58 (decimal first) (marked_texts (44 ∷ []) (map decimal more)) (laws.decimal_lacks 58 first refl (ltb-true first (2 ^ 64) parts.0)) (marked more parts.1)
    where
      marked : (more : List ℕ) → list_all fits more ≡ true → is_absent_from 58 (marked_texts (44 ∷ []) (map decimal more)) ≡ true
      marked [] h = refl
      marked (count ∷ more) h =
          let parts = and_parts (fits count) (list_all fits more) h in
          laws.lacks-append 58 (44 ∷ decimal count) (marked_texts (44 ∷ []) (map decimal more)) (laws.decimal_lacks 58 count refl (ltb-true count (2 ^ 64) parts.0)) (marked more parts.1)

  counts_lack_comma : (counts : List ℕ) → list_all fits counts ≡ true → list_all (is_absent_from 44) (map decimal counts) ≡ true
  counts_lack_comma [] h = refl
  counts_lack_comma (count ∷ counts) h =
      let parts = and_parts (fits count) (list_all fits counts) h in
      and_from _ _ (laws.decimal_lacks 44 count refl (ltb-true count (2 ^ 64) parts.0)) (counts_lack_comma counts parts.1)

  -- counts joined by commas have no colon, and are cut at the commas into the same counts
  cut_again : (counts : List ℕ) → 0 < length counts → list_all fits counts ≡ true
      → (is_absent_from 58 (joined_texts (44 ∷ []) (map decimal counts)) ≡ true) × (pieces_of 44 (joined_texts (44 ∷ []) (map decimal counts)) ≡ map decimal counts)
  cut_again [] some h = absurd (omega arith)
  cut_again (count ∷ counts) some h =
      (counts_lack_colon count counts h, laws.pieces_come_back 44 (decimal count) (map decimal counts) (counts_lack_comma (count ∷ counts) h))

  -- the text of a stamp of a script with fewer than 2^32 gatekeepers is read as this stamp
  pub stamp_again : (script : Script) (stamp : Stamp) → script.gates < 2 ^ 32 → IsTrue (is_stamp_of script stamp) → read_stamp script.gates (stamp_text script.gates stamp) ≡ Ok stamp
  stamp_again script stamp gates_fit h =
      let gates = script.gates in
      let clock = stamp.clock in
      let bits = and_parts (nat_lt stamp.home gates && (length clock.counts == 8) && list_all (λ count. count == 0) (drop gates clock.counts)) (has_64_bits clock) h in
      let zeros = and_parts (nat_lt stamp.home gates && (length clock.counts == 8)) (list_all (λ count. count == 0) (drop gates clock.counts)) bits.0 in
      let home = and_parts (nat_lt stamp.home gates) (length clock.counts == 8) zeros.0 in
      let small = and_parts (fits clock.epoch) (list_all fits clock.counts) bits.1 in
      let eight : length clock.counts ≡ 8 = eqb-true (length clock.counts) 8 home.1 in
      let below : stamp.home < gates = ltb-true stamp.home gates home.0 in
      let shown = take gates clock.counts in
      let few : length shown ≡ min gates 8 = length-take gates clock.counts ∙ ap (min gates) eight in
      let fit : list_all fits shown ≡ true = all_take fits gates clock.counts small.1 in
      let cut = cut_again shown (omega (arith, few, below)) fit in
      let epoch : clock.epoch < 2 ^ 64 = ltb-true clock.epoch (2 ^ 64) small.0 in
      let home_fits : stamp.home < 2 ^ 64 = omega (arith, below, gates_fit) in
      let joined = joined_texts (44 ∷ []) (map decimal shown) in
      let lack : list_all (is_absent_from 58) (decimal clock.epoch ∷ decimal stamp.home ∷ joined ∷ []) ≡ true =
      and_from _ _ (laws.decimal_lacks 58 clock.epoch refl epoch) (and_from _ _ (laws.decimal_lacks 58 stamp.home refl home_fits) (and_from _ _ cut.0 refl)) in
      let parts : pieces_of 58 (stamp_text gates stamp) ≡ decimal clock.epoch ∷ decimal stamp.home ∷ joined ∷ [] =
      ap (pieces_of 58) (sym (three_joined (decimal clock.epoch) (decimal stamp.home) joined)) ∙ laws.pieces_come_back 58 (decimal clock.epoch) (decimal stamp.home ∷ joined ∷ []) lack in
      let tests : (nat_lt stamp.home gates && (length shown == min gates 8)) ≡ true = and_from _ _ home.0 (eq-eqb (length shown) (min gates 8) few) in
      ap (stamp_parts gates) parts
      ∙ then_ok _ _ clock.epoch _ (count_again clock.epoch epoch)
      (then_ok _ _ stamp.home _ (count_again stamp.home home_fits)
      (then_ok _ _ shown _ (ap (counts_from []) cut.1 ∙ counts_again [] shown fit)
      (cond-true _ _ _ tests ∙ ap (λ (counts : List ℕ). Ok (record { home = stamp.home; clock = record { epoch = clock.epoch; counts = counts } })) (again_eight gates clock.counts eight zeros.1))))
