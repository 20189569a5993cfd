-- Steps of loops that read words one after another.
-- Used by `bounds_in`, `counted_stamp`, `names_of` and PricedParts.
use Rattle.std.proofs.Common.{◌≡◌, ℕ, suc, ◌+◌, ◌<◌, List, [], ◌∷◌, ◌++◌, length, map, drop, get_or, Bor, sym, ap, ◌∙◌, add-one}
use Rattle.std.specs.Prelude.{Option, Some, None, Result, Ok, Err}
use Rattle.std.proofs.Math.Seq.{drop-cons}
use Rattle.std.proofs.lemmas.List.{drop-map}
use Rattle.weave_report.specs.declared.fault.LineFault.{LineFault}
use Rattle.weave_report.specs.declared.fault.LineFault.TheVariants.{Refused, Memory}
use Rattle.weave_report.specs.ReadAnswers.{Gives, GivesExactly, Changes}
use Rattle.weave_data.specs.Steps.{◌>>=◌}
use Rattle.weave_data.specs.declared.name.Name.{Name}
use Rattle.program_defs.specs.declared.program.Bound.{Bound}
use Rattle.weave_report.specs.ReadingFields.{ReadResult, name_in, names_from}
use Rattle.weave_report.specs.ReadingPriced.{bound_in, bounds_from}

-- the words that are left begin with the one at this place
pub word_at : (words : List (Bor (List ℕ))) (i : ℕ) (d : Bor (List ℕ)) → i < length words
    → drop i (map (λ word. word.now) words) ≡ (get_or words i d).now ∷ drop (i + 1) (map (λ word. word.now) words)
word_at words i d h =
    let now : Bor (List ℕ) → List ℕ = λ word. word.now in
    drop-map now i words ∙ ap (map now) (drop-cons words i d h)
    ∙ ap (λ rest. (get_or words i d).now ∷ rest) (sym (drop-map now (suc i) words) ∙ ap (λ k. drop k (map now words)) (sym (add-one i)))

module _ {A B : Type 0} where
  -- a step that fails fails the whole
  pub fails : (fault : LineFault) (one : ReadResult A) (next : A → ReadResult B) (whole : ReadResult B) → (one >>= next) ≡ whole → Gives {A = A} (Err fault) one → Gives {A = B} (Err fault) whole
  fails (Refused why) one next whole all h = sym all ∙ ap (λ one. one >>= next) h
  fails Memory one next whole all h = tt

  -- a step that is done leaves the rest
  pub done : (value : A) (one : ReadResult A) (next : A → ReadResult B) (whole : ReadResult B) → (one >>= next) ≡ whole → one ≡ Ok value → next value ≡ whole
  done value one next whole all h = sym (ap (λ one. one >>= next) h) ∙ all

  -- the same of a step that changes a value in its place
  pub changing_fails : (fault : LineFault) (new : A) (one : ReadResult A) (next : A → ReadResult B) (whole : ReadResult B) → (one >>= next) ≡ whole → Changes {A = A} (Err fault) new one → Gives {A = B} (Err fault) whole
  changing_fails (Refused why) new one next whole all h = sym all ∙ ap (λ one. one >>= next) h
  changing_fails Memory new one next whole all h = tt

-- what a function that takes no memory answers, one that takes some may answer
pub exactly_gives : {A : Type 0} (result : Result A LineFault) (read : ReadResult A) → GivesExactly result read → Gives result read
exactly_gives (Ok value) read h = h
exactly_gives (Err (Refused why)) read h = h
exactly_gives (Err Memory) read h = absurd h

-- names that are read from a list of words: a word that is no name
pub names_fail : (words : List (Bor (List ℕ))) (i : ℕ) (d : Bor (List ℕ)) (names : List Name) (fault : LineFault) → i < length words
    → names_from names (drop i (map (λ word. word.now) words)) ≡ names_from [] (map (λ word. word.now) words)
    → GivesExactly {A = Name} (Err fault) (name_in (get_or words i d).now) → Gives {A = List Name} (Err fault) (names_from [] (map (λ word. word.now) words))
names_fail words i d names fault inside so_far failed =
    let rest = drop (i + 1) (map (λ (word : Bor (List ℕ)). word.now) words) in
    fails fault (name_in (get_or words i d).now) (λ name. names_from (names ++ name ∷ []) rest) _
    (ap (names_from names) (sym (word_at words i d inside)) ∙ so_far) (exactly_gives {A = Name} (Err fault) _ failed)

-- and one that is a name
pub names_go_on : (words : List (Bor (List ℕ))) (i : ℕ) (d : Bor (List ℕ)) (names : List Name) (name : Name) → i < length words
    → names_from names (drop i (map (λ word. word.now) words)) ≡ names_from [] (map (λ word. word.now) words)
    → name_in (get_or words i d).now ≡ Ok name → names_from (names ++ name ∷ []) (drop (i + 1) (map (λ word. word.now) words)) ≡ names_from [] (map (λ word. word.now) words)
names_go_on words i d names name inside so_far read =
    let rest = drop (i + 1) (map (λ (word : Bor (List ℕ)). word.now) words) in
    done name (name_in (get_or words i d).now) (λ name. names_from (names ++ name ∷ []) rest) _
    (ap (names_from names) (sym (word_at words i d inside)) ∙ so_far) read

-- bounds: a word that is none in its turn
pub bounds_fail : (words : List (Bor (List ℕ))) (i : ℕ) (d : Bor (List ℕ)) (bounds : List Bound) (last : Option Name) (fault : LineFault) → i < length words
    → bounds_from bounds last (drop i (map (λ word. word.now) words)) ≡ bounds_from [] None (map (λ word. word.now) words)
    → GivesExactly {A = Bound} (Err fault) (bound_in last (get_or words i d).now) → Gives {A = List Bound} (Err fault) (bounds_from [] None (map (λ word. word.now) words))
bounds_fail words i d bounds last fault inside so_far failed =
    let rest = drop (i + 1) (map (λ (word : Bor (List ℕ)). word.now) words) in
    fails fault (bound_in last (get_or words i d).now) (λ (bound : Bound). bounds_from (bounds ++ bound ∷ []) (Some bound.vertex) rest) _
    (ap (bounds_from bounds last) (sym (word_at words i d inside)) ∙ so_far) (exactly_gives {A = Bound} (Err fault) _ failed)

-- and one that is
pub bounds_go_on : (words : List (Bor (List ℕ))) (i : ℕ) (d : Bor (List ℕ)) (bounds : List Bound) (last : Option Name) (bound : Bound) → i < length words
    → bounds_from bounds last (drop i (map (λ word. word.now) words)) ≡ bounds_from [] None (map (λ word. word.now) words)
    → bound_in last (get_or words i d).now ≡ Ok bound → bounds_from (bounds ++ bound ∷ []) (Some bound.vertex) (drop (i + 1) (map (λ word. word.now) words)) ≡ bounds_from [] None (map (λ word. word.now) words)
bounds_go_on words i d bounds last bound inside so_far read =
    let rest = drop (i + 1) (map (λ (word : Bor (List ℕ)). word.now) words) in
    done bound (bound_in last (get_or words i d).now) (λ (bound : Bound). bounds_from (bounds ++ bound ∷ []) (Some bound.vertex) rest) _
    (ap (bounds_from bounds last) (sym (word_at words i d inside)) ∙ so_far) read
