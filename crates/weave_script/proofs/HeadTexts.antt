-- Scripts that a report follows, and the lines before the report.
-- Used by `heads_are_texts`, CheckFaults and CheckLaws.
use Rattle.std.proofs.Common.{◌≡◌, ℕ, suc, ◌+◌, Bool, true, false, ◌&&◌, cond, List, [], ◌∷◌, ◌++◌, Ok, refl, sym, ap, subst, ◌∙◌, arith}
use Rattle.std.specs.Prelude.{Result, nat_lt, length}
use Rattle.std.proofs.lemmas.Bool.{cond-true, cond-false}
use Rattle.program_defs.specs.declared.script.Script.{Script}
use Rattle.weave_text.specs.Cutting.{lines_of, words_of, is_skipped, kept_lines}
use Rattle.weave_text.specs.Lines.{Bytes}
use Rattle.weave_script.specs.declared.fault.Cause.TheVariants as causes
use Rattle.weave_script.specs.declared.read.partial_script.Reading.{Reading}
use Rattle.weave_script.specs.CheckText.{IsHead}
use Rattle.weave_data.specs.Steps.{◌>>=◌}
use Rattle.weave_script.specs.ReadText.{Fault, Part, Head, at_line, is_open, is_report, read_on, read_part, script_at, head_before, head_of_text}
use Rattle.weave_script.specs.Reading.{start, after_line}
use Rattle.weave_data.proofs.Steps.{bind_ok, bind_at, ok_is}
use Rattle.weave_script.proofs.FieldLaws.{NumberLaws}
use Rattle.weave_script.proofs.Reached.{after_lines, lines_lead, script_reached}
use Rattle.weave_script.proofs.TextLaws.{at_line_ok, not_long}

-- no line is left, or the first of those that are left begins a report
abbrev pub Stops : Reading → List Bytes → Type 0
Stops reading [] = Unit {0}
Stops reading (line ∷ lines) = (is_open reading.place && is_report (words_of line)) ≡ true

-- the lines before what is left, which lead where reading on leads
pub record LeadsTo (n : ℕ) (reading : Reading) (lines : List Bytes) (part : Part) : Type 0 where
  pub front : List Bytes
  pub cut : lines ≡ front ++ part.left
  pub number : part.line ≡ n + length front
  pub leads : after_lines reading (kept_lines front) ≡ Ok part.reading
  pub accepted : read_on false n reading front ≡ Ok (record { reading = part.reading; line = part.line; left = [] })
  pub stops : Stops part.reading part.left

here : (reading : Reading) (n : ℕ) (lines : List Bytes) → Stops reading lines → LeadsTo n reading lines (record { reading = reading; line = n; left = lines })
here reading n lines stops = record { front = []; cut = refl; number = omega arith; leads = refl; accepted = refl; stops = stops }

abbrev read_to : Reading → ℕ → List Bytes → Result Part Fault
read_to reading n lines = Ok (record { reading = reading; line = n; left = lines })

stopped : (reading : Reading) (n : ℕ) (lines : List Bytes) (part : Part) → read_to reading n lines ≡ Ok part → Stops reading lines → LeadsTo n reading lines part
stopped reading n lines part e stops =
    subst (LeadsTo n reading lines) (ok_is {E = Fault} (record { reading = reading; line = n; left = lines }) part e) (here reading n lines stops)

-- the lines that were read lead to the part
pub read_on-leads : (n : ℕ) (reading : Reading) (lines : List Bytes) (part : Part) → read_on true n reading lines ≡ Ok part → LeadsTo n reading lines part
read_on-leads n reading [] part e = stopped reading n [] part e tt
read_on-leads n reading (line ∷ lines) part e =
    go (λ next e. read_on-leads (suc n) next lines part e) (is_skipped line) refl (is_open reading.place && is_report (words_of line)) refl e
  where
    go : ((next : Reading) → read_on true (suc n) next lines ≡ Ok part → LeadsTo (suc n) next lines part)
        → (b : Bool) → is_skipped line ≡ b → (c : Bool) → (is_open reading.place && is_report (words_of line)) ≡ c
        → cond b (read_on true (suc n) reading lines) (cond c (Ok (record { reading = reading; line = n; left = line ∷ lines })) (at_line n (after_line reading (words_of line)) >>= λ next. read_on true (suc n) next lines)) ≡ Ok part
        → LeadsTo n reading (line ∷ lines) part
    go rest true skipped c report e =
        let more = rest reading e in
        record {
          front = line ∷ more.front;
          cut = ap (λ lines. line ∷ lines) more.cut;
          number = omega (arith, more.number);
          leads = ap (λ b. after_lines reading (cond b (kept_lines more.front) (words_of line ∷ kept_lines more.front))) skipped ∙ more.leads;
          accepted = cond-true (is_skipped line) _ _ skipped ∙ more.accepted;
          stops = more.stops;
        }
    go rest false skipped true report e = stopped reading n (line ∷ lines) part e report
    go rest false skipped false report e =
        let step = bind_ok (at_line n (after_line reading (words_of line))) (λ next. read_on true (suc n) next lines) part e in
        let more = rest step.0 step.2 in
        record {
          front = line ∷ more.front;
          cut = ap (λ lines. line ∷ lines) more.cut;
          number = omega (arith, more.number);
          leads = ap (λ b. after_lines reading (cond b (kept_lines more.front) (words_of line ∷ kept_lines more.front))) skipped
              ∙ bind_at (after_line reading (words_of line)) (λ next. after_lines next (kept_lines more.front)) step.0 (at_line_ok n (after_line reading (words_of line)) step.0 step.1)
              ∙ more.leads;
          accepted = cond-false (is_skipped line) _ _ skipped ∙ ap (λ read. read >>= λ next. read_on false (suc n) next more.front) step.1 ∙ more.accepted;
          stops = more.stops;
        }

head_is : (n : ℕ) (script : Script) (lines : List Bytes) (head : Head) → head_before n script lines ≡ Ok head → (head.script ≡ script) × (head.left ≡ lines)
head_is n script [] head e = absurd cc
head_is n script (line ∷ lines) head e =
    let is = ok_is {E = Fault} (record { script = script; line = n; left = line ∷ lines }) head e in
    (sym (ap (λ (h : Head). h.script) is), sym (ap (λ (h : Head). h.left) is))

module _ (laws : NumberLaws) where
  -- what is read before a report is a script's
  unfoldable pub part_reached : (bytes : Bytes) (part : Part) (script : Script) → LeadsTo 1 start (lines_of bytes) part → script_at part.reading.place part.reading ≡ Ok script → IsHead bytes script part.left
  part_reached bytes part script to ends =
      let led = lines_lead laws start (kept_lines to.front) part.reading (refl, refl, refl, refl) refl to.leads in
      let reached = script_reached part.reading (kept_lines to.front) script led ends in
      record { front = to.front; cut = to.cut; of_script = reached.0; script_is = reached.1 }

  -- a script that is read before a report is valid, and the lines before what is left are its own
  pub head_reached : (bytes : Bytes) (head : Head) → head_of_text bytes ≡ Ok head → IsHead bytes head.script head.left
  head_reached bytes head e =
      let step = bind_ok (read_part true bytes) (λ part. at_line part.line (script_at part.reading.place part.reading) >>= λ script. head_before part.line script part.left) head e in
      let part = step.0 in
      let read : read_on true 1 start (lines_of bytes) ≡ Ok part = not_long (nat_lt 4194304 (length bytes)) (record { line = 0; cause = causes.TooLong }) (read_on true 1 start (lines_of bytes)) part step.1 in
      let ends = bind_ok (at_line part.line (script_at part.reading.place part.reading)) (λ script. head_before part.line script part.left) head step.2 in
      let is = head_is part.line ends.0 part.left head ends.2 in
      let script_is = at_line_ok part.line (script_at part.reading.place part.reading) ends.0 ends.1 ∙ ap (λ script. Ok script) (sym is.0) in
      subst (IsHead bytes head.script) (sym is.1) (part_reached bytes part head.script (read_on-leads 1 start (lines_of bytes) part read) script_is)
