-- A script that a report follows is read up to the report.
-- Used by CheckLaws and CheckTold.
use Rattle.std.proofs.Common.{◌≡◌, ℕ, suc, ◌+◌, Bool, true, false, ◌&&◌, cond, List, [], ◌∷◌, ◌++◌, length, Ok, Err, refl, sym, ap, ◌∙◌, arith}
use Rattle.std.specs.Prelude.{Option, Result, codes, ◌==◌}
use Rattle.std.specs.List.{onto_first}
use Rattle.std.specs.Str.{bytes_eq}
use Rattle.std.proofs.lemmas.Bool.{and_parts, cond-true, cond-false}
use Rattle.weave_data.specs.declared.name.Name.{Name}
use Rattle.weave_text.specs.Cutting.{lines_of, words_of, is_skipped, kept_lines}
use Rattle.weave_text.specs.Lines.{Bytes, Word, Line}
use Rattle.weave_script.specs.declared.fault.Cause.{Cause}
use Rattle.weave_script.specs.declared.fault.Cause.TheVariants as causes
use Rattle.weave_script.specs.declared.read.partial_script.Place.{Place}
use Rattle.weave_script.specs.declared.read.partial_script.Place.TheVariants.{Start, Between, Inside, Behind}
use Rattle.weave_script.specs.declared.read.partial_script.Reading.{Reading}
use Rattle.weave_data.specs.Steps.{◌>>=◌}
use Rattle.weave_script.specs.ReadText.{Fault, Part, at_line, is_open, is_report, read_on}
use Rattle.weave_script.specs.Reading.{after_line_at, within_limits, after_line}
use Rattle.weave_script.specs.Steps.{place_of, step_of}
use Rattle.weave_data.proofs.Steps.{bind_ok, ok_is}
use Rattle.weave_report.proofs.ReadSteps.{is_word}
use Rattle.weave_script.proofs.Reached.{after_lines}

-- ---- a report's first line is none of a script

no_step : (gates shards : ℕ) (places : Name → Option ℕ) (words : List Word) → step_of gates shards places (codes "report" ∷ words) ≡ Err causes.Line
no_step gates shards places [] = refl
no_step gates shards places (a ∷ []) = refl
no_step gates shards places (a ∷ b ∷ []) = refl
no_step gates shards places (a ∷ b ∷ c ∷ []) = refl
no_step gates shards places (a ∷ b ∷ c ∷ d ∷ words) = refl

no_line : (place : Place) (reading : Reading) (words : List Word) → is_open place ≡ true → after_line_at place reading (codes "report" ∷ words) ≡ Err causes.Line
no_line Start reading words opens = absurd cc
no_line Between reading words opens = refl
no_line (Inside opening ops) reading words opens = absurd cc
no_line (Behind steps) reading words opens = ap (λ read. read >>= λ step. Ok (record reading { place = Behind (steps ++ step ∷ []) })) (no_step reading.gates reading.shards (λ name. place_of name reading.requests) words)

report-refused : (reading : Reading) (line : Line) → (is_open reading.place && is_report line) ≡ true → after_line reading line ≡ Err causes.Line
report-refused reading [] e = let parts = and_parts (is_open reading.place) false e in absurd cc
report-refused reading (word ∷ words) e =
    let parts = and_parts (is_open reading.place) (bytes_eq word (codes "report")) e in
    ap (λ word. after_line reading (word ∷ words)) (is_word word (codes "report") parts.1)
    ∙ ap (λ read. read >>= within_limits) (no_line reading.place reading words parts.0)

-- so no line that is accepted begins one
pub accepted-no_report : (reading next : Reading) (line : Line) → after_line reading line ≡ Ok next → (is_open reading.place && is_report line) ≡ false
accepted-no_report reading next line e = go (is_open reading.place && is_report line) refl
  where
    go : (b : Bool) → (is_open reading.place && is_report line) ≡ b → b ≡ false
    go true h = let other = sym e ∙ report-refused reading line h in absurd cc
    go false h = refl

-- ---- reading on past the script's lines

-- the lines from a kept one on, by whether that one begins a report
abbrev from_kept : Bool → ℕ → Reading → Bytes → List Bytes → Result Part Fault
from_kept begins n reading line lines =
    cond begins (Ok (record { reading = reading; line = n; left = line ∷ lines }))
    (at_line n (after_line reading (words_of line)) >>= λ next. read_on true (suc n) next lines)

-- lines that are accepted are read past
pub reads_past : (n : ℕ) (reading : Reading) (front back : List Bytes) (last : Reading) → after_lines reading (kept_lines front) ≡ Ok last → read_on true n reading (front ++ back) ≡ read_on true (n + length front) last back
reads_past n reading [] back last e =
    let none : n ≡ n + 0 = omega arith in
    let same = ok_is {E = Cause} reading last e in
    λ i. read_on true (none i) (same i) back
reads_past n reading (line ∷ front) back last e = go (λ next e. reads_past (suc n) next front back last e) (is_skipped line) (is_open reading.place && is_report (words_of line)) refl e
  where
    count : suc n + length front ≡ n + length (line ∷ front)
    count = omega arith

    go : ((next : Reading) → after_lines next (kept_lines front) ≡ Ok last → read_on true (suc n) next (front ++ back) ≡ read_on true (suc n + length front) last back)
        → (b c : Bool) → (is_open reading.place && is_report (words_of line)) ≡ c
        → after_lines reading (cond b (kept_lines front) (words_of line ∷ kept_lines front)) ≡ Ok last
        → cond b (read_on true (suc n) reading (front ++ back)) (from_kept c n reading line (front ++ back))
        ≡ read_on true (n + length (line ∷ front)) last back
    go rest true c h e = rest reading e ∙ ap (λ k. read_on true k last back) count
    go rest false c h e =
        let step = bind_ok (after_line reading (words_of line)) (λ next. after_lines next (kept_lines front)) last e in
        ap (λ c. from_kept c n reading line (front ++ back))
        (sym h ∙ accepted-no_report reading step.0 (words_of line) step.1)
        ∙ ap (λ read. at_line n read >>= λ next. read_on true (suc n) next (front ++ back)) step.1
        ∙ rest step.0 step.2
        ∙ ap (λ k. read_on true k last back) count

-- where reading on stops: at the first of these lines that is kept
pub record StopsAt (n : ℕ) (reading : Reading) (lines : List Bytes) : Type 0 where
  pub passed : List Bytes
  pub first : Bytes
  pub rest : List Bytes
  pub cut : lines ≡ passed ++ first ∷ rest
  pub stops : read_on true n reading lines ≡ Ok (record { reading = reading; line = n + length passed; left = first ∷ rest })
  pub kept : kept_lines (first ∷ rest) ≡ kept_lines lines

head_is : (a b : Line) (xs ys : List Line) → a ∷ xs ≡ b ∷ ys → a ≡ b
head_is a b xs ys e = cc

-- lines of which the first that is kept begins a report
pub stops_at_report : (n : ℕ) (reading : Reading) (lines : List Bytes) (first : Line) (more : List Line) → is_open reading.place ≡ true → is_report first ≡ true → kept_lines lines ≡ first ∷ more → StopsAt n reading lines
stops_at_report n reading [] first more opens report e = absurd cc
stops_at_report n reading (line ∷ lines) first more opens report e = go (λ e. stops_at_report (suc n) reading lines first more opens report e) (is_skipped line) refl e
  where
    go : (kept_lines lines ≡ first ∷ more → StopsAt (suc n) reading lines) → (b : Bool) → is_skipped line ≡ b → cond b (kept_lines lines) (words_of line ∷ kept_lines lines) ≡ first ∷ more → StopsAt n reading (line ∷ lines)
    go later true skipped e =
        let at = later e in
        let count : suc n + length at.passed ≡ n + length (line ∷ at.passed) = omega arith in
        record {
          passed = line ∷ at.passed;
          first = at.first;
          rest = at.rest;
          cut = ap (λ lines. line ∷ lines) at.cut;
          stops = cond-true (is_skipped line) _ _ skipped ∙ at.stops ∙ ap (λ k. Ok (record { reading = reading; line = k; left = at.first ∷ at.rest })) count;
          kept = at.kept ∙ sym (cond-true (is_skipped line) (kept_lines lines) (words_of line ∷ kept_lines lines) skipped);
        }
    go later false skipped e =
        let none : n ≡ n + 0 = omega arith in
        let begins : (is_open reading.place && is_report (words_of line)) ≡ true =
        ap (λ b. b && is_report (words_of line)) opens ∙ ap is_report (head_is (words_of line) first (kept_lines lines) more e) ∙ report in
        record {
          passed = [];
          first = line;
          rest = lines;
          cut = refl;
          stops = cond-false (is_skipped line) _ _ skipped ∙ cond-true (is_open reading.place && is_report (words_of line)) _ _ begins ∙ ap (λ k. Ok (record { reading = reading; line = k; left = line ∷ lines })) none;
          kept = refl;
        }

-- ---- the text after some lines

tail_is : (a b : Bytes) (xs ys : List Bytes) → a ∷ xs ≡ b ∷ ys → xs ≡ ys
tail_is a b xs ys e = cc

-- what follows a text's first line is the lines of a text
behind_first : (text first : Bytes) (rest : List Bytes) → lines_of text ≡ first ∷ rest → (left : Bytes) × (lines_of left ≡ rest)
behind_first [] first rest e = absurd cc
behind_first (byte ∷ text) first rest e = go (λ line more e. behind_first text line more e) (byte == 10) (lines_of text) refl e
  where
    go : ((line : Bytes) (more : List Bytes) → lines_of text ≡ line ∷ more → (left : Bytes) × (lines_of left ≡ more))
        → (b : Bool) (lines : List Bytes) → lines_of text ≡ lines → cond b ([] ∷ lines) (onto_first byte lines) ≡ first ∷ rest → (left : Bytes) × (lines_of left ≡ rest)
    go later true lines h e = (text, h ∙ tail_is [] first lines rest e)
    go later false [] h e = ([], tail_is (byte ∷ []) first [] rest e)
    go later false (line ∷ more) h e = let left = later line more h in (left.0, left.1 ∙ tail_is (byte ∷ line) first more rest e)

-- and so is what follows some lines
pub text_behind : (text : Bytes) (front back : List Bytes) → lines_of text ≡ front ++ back → (left : Bytes) × (lines_of left ≡ back)
text_behind text [] back e = (text, e)
text_behind text (line ∷ front) back e = let next = behind_first text line (front ++ back) e in text_behind next.0 front back next.1
