-- The fault that is reported of a text of a script and a report is its first one.
-- Used by `check_faults_are_first`.
use Rattle.std.proofs.Common.{◌≡◌, ℕ, suc, ◌+◌, ◌<◌, ◌≤◌, Bool, true, false, ◌&&◌, cond, List, [], ◌∷◌, ◌++◌, length, Ok, Err, refl, sym, ap, subst, ◌∙◌, append-nil}
use Rattle.std.specs.Prelude.{Result, nat_lt}
use Rattle.std.proofs.Math.Bool.{and-false}
use Rattle.std.proofs.lemmas.Bool.{and_parts, cond-true, cond-false, le-ltb, lt-ltb}
use Rattle.program_defs.specs.declared.script.Script.{Script}
use Rattle.weave_report.specs.FirstRefusal.{IsFirstRefusal}
use Rattle.weave_report.specs.Reading.{report_start}
use Rattle.weave_report.specs.Reading as report
use Rattle.report_rules.specs.declared.report.Report.{Report}
use Rattle.weave_text.specs.Cutting.{lines_of, words_of, is_skipped, kept_lines}
use Rattle.weave_text.specs.Lines.{Bytes}
use Rattle.weave_script.specs.CheckFaults.{begins_report, IsFirstCheckFault, InScript, NoReport, InReport}
use Rattle.weave_script.specs.CheckText.{IsHead}
use Rattle.weave_script.specs.CheckReading.{with_script_read, cause_of, check_text}
use Rattle.weave_script.specs.Faults.{IsFirstScriptFault}
use Rattle.weave_data.specs.Steps.{◌>>=◌}
use Rattle.weave_script.specs.Fields.{ReadOrCause}
use Rattle.weave_script.specs.ReadText.{Fault, Part, at_line, is_open, is_report, read_on, script_at, head_before}
use Rattle.weave_script.specs.Reading.{start, after_line}
use Rattle.weave_script.specs.ScriptLines.{IsTextOf}
use Rattle.weave_script.specs.declared.fault.Cause.{Cause}
use Rattle.weave_script.specs.declared.fault.Cause.TheVariants as causes
use Rattle.weave_script.specs.declared.read.partial_script.Place.{Place}
use Rattle.weave_script.specs.declared.read.partial_script.Place.TheVariants.{Start, Between, Inside, Behind}
use Rattle.weave_script.specs.declared.read.partial_script.Reading.{Reading}
use Rattle.weave_script.proofs.CheckLaws.{finish, told_behind}
use Rattle.weave_script.proofs.FieldLaws.{NumberLaws}
use Rattle.weave_script.proofs.FirstFault.{same_fault, told_at, further, at_once}
use Rattle.weave_script.proofs.HeadTexts.{Stops, LeadsTo, read_on-leads, part_reached}

-- ---- faults of the script

-- the fault is the first one, and its line begins no report
record FailsAt (n : ℕ) (from : Reading) (lines : List Bytes) (fault : Fault) : Type 0 where
  first : IsFirstScriptFault n from lines fault
  plain : (is_open first.reading.place && begins_report first.rest) ≡ false

line_fails : (n : ℕ) (from : Reading) (lines : List Bytes) (fault : Fault) → read_on true n from lines ≡ Err fault → FailsAt n from lines fault
unfolding further at_once
line_fails n from [] fault e = absurd cc
line_fails n from (line ∷ lines) fault e = go (λ next e. line_fails (suc n) next lines fault e) (is_skipped line) refl (is_open from.place && is_report (words_of line)) refl e
  where
    taken : ((next : Reading) → read_on true (suc n) next lines ≡ Err fault → FailsAt (suc n) next lines fault)
        → is_skipped line ≡ false → (is_open from.place && is_report (words_of line)) ≡ false → (read : ReadOrCause Reading) → after_line from (words_of line) ≡ read
        → (at_line n read >>= λ next. read_on true (suc n) next lines) ≡ Err fault → FailsAt n from (line ∷ lines) fault
    taken rest kept plain (Ok next) read e =
        let at = rest next e in
        record {
          first = further n from next line lines fault (λ more. cond-false (is_skipped line) _ _ kept ∙ ap (λ read. at_line n read >>= λ next. read_on false (suc n) next more) read) at.first;
          plain = at.plain;
        }
    taken rest kept plain (Err cause) read e =
        let h = told_at {A = Part} n cause fault e in
        record { first = at_once n from (line ∷ lines) fault h.1 (kept, read ∙ ap (λ c. Err c) h.0); plain = plain }

    go : ((next : Reading) → read_on true (suc n) next lines ≡ Err fault → FailsAt (suc n) next lines fault)
        → (b : Bool) → is_skipped line ≡ b → (c : Bool) → (is_open from.place && is_report (words_of line)) ≡ c
        → cond b (read_on true (suc n) from lines) (cond c (Ok (record { reading = from; line = n; left = line ∷ lines })) (at_line n (after_line from (words_of line)) >>= λ next. read_on true (suc n) next lines)) ≡ Err fault
        → FailsAt n from (line ∷ lines) fault
    go rest true skipped c begins e = let at = rest from e in record { first = further n from from line lines fault (λ more. cond-true (is_skipped line) _ _ skipped) at.first; plain = at.plain }
    go rest false kept true begins e = absurd cc
    go rest false kept false begins e = taken rest kept begins (after_line from (words_of line)) refl e

-- a script can end where a report may begin
open_ends : (place : Place) (reading : Reading) (cause : Cause) → is_open place ≡ true → script_at place reading ≡ Err cause → ⊥
open_ends Start reading cause opens e = absurd cc
open_ends Between reading cause opens e = absurd cc
open_ends (Inside opening ops) reading cause opens e = absurd cc
open_ends (Behind steps) reading cause opens e = absurd cc

none_left : (reading : Reading) (left : List Bytes) (cause : Cause) → Stops reading left → script_at reading.place reading ≡ Err cause → left ≡ []
none_left reading [] cause stops e = refl
none_left reading (line ∷ lines) cause stops e = absurd (open_ends reading.place reading cause (and_parts (is_open reading.place) (is_report (words_of line)) stops).0 e)

-- the script can't end where the text does
end_fails : (n : ℕ) (from : Reading) (lines : List Bytes) (part : Part) (fault : Fault) → LeadsTo n from lines part → script_at part.reading.place part.reading ≡ Err fault.cause → fault.line ≡ part.line
    → FailsAt n from lines fault
end_fails n from lines part fault to ends number = record {
  first = record {
    before = to.front;
    rest = [];
    parts = to.cut ∙ ap (λ left. to.front ++ left) (none_left part.reading part.left fault.cause to.stops ends);
    number = number ∙ to.number;
    reading = part.reading;
    accepted = to.accepted ∙ ap (λ k. Ok (record { reading = part.reading; line = k; left = [] })) to.number;
    refused = ends;
  };
  plain = and-false (is_open part.reading.place);
}

-- ---- the first fault of all

-- the refusal that a report's reader gives is the first one
abbrev pub RefusesFirst : Type 0
RefusesFirst = (script : Script) (n : ℕ) (lines : List Bytes) (refusal : report.Refusal) → report.after_lines script n report_start lines ≡ Err refusal → IsFirstRefusal script n report_start lines refusal

alone : (bytes : Bytes) (script : Script) → IsHead bytes script [] → IsTextOf bytes script
unfolding IsTextOf
alone bytes script head = (head.of_script, ap kept_lines (head.cut ∙ append-nil head.front) ∙ head.script_is)

module _ (laws : NumberLaws) (refuses : RefusesFirst) (bytes : Bytes) (fault : Fault) where
  by_report : (script : Script) (n : ℕ) (left : List Bytes) (head : IsHead bytes script left) → begins_report left ≡ true → n ≡ 1 + length head.front
      → (read : Result Report report.Refusal) → report.after_lines script n report_start left ≡ read → with_script_read script read ≡ Err fault → IsFirstCheckFault bytes fault
  by_report script n left head begins number (Ok told) read e = absurd cc
  by_report script n left head begins number (Err (line, cause)) read e =
      subst (IsFirstCheckFault bytes) (same_fault {A = Script × Report} (record { line = line; cause = cause_of cause }) fault e)
      (InReport script left line cause head begins (subst (λ n. IsFirstRefusal script n report_start left (line, cause)) number (refuses script n left (line, cause) read)))

  by_left : (part : Part) (script : Script) → LeadsTo 1 start (lines_of bytes) part → (head : IsHead bytes script part.left) → part.line ≡ 1 + length head.front
      → (left : List Bytes) → part.left ≡ left → (head_before part.line script left >>= told_behind) ≡ Err fault → IsFirstCheckFault bytes fault
  by_left part script to head number [] none e =
      let whole : IsHead bytes script [] = subst (IsHead bytes script) none head in
      let count : 1 + length (lines_of bytes) ≡ part.line = ap (λ lines. 1 + length lines) (head.cut ∙ ap (λ left. head.front ++ left) none ∙ append-nil head.front) ∙ sym number in
      subst (IsFirstCheckFault bytes) (ap (λ n. record { line = n; cause = causes.End }) count ∙ same_fault {A = Script × Report} (record { line = part.line; cause = causes.End }) fault e)
      (NoReport script (alone bytes script whole))
  by_left part script to head number (line ∷ lines) some e =
      let begins = and_parts (is_open part.reading.place) (is_report (words_of line)) (subst (Stops part.reading) some to.stops) in
      let here : IsHead bytes script (line ∷ lines) = record {
        front = head.front;
        cut = head.cut ∙ ap (λ left. head.front ++ left) some;
        of_script = head.of_script;
        script_is = head.script_is;
      } in
      by_report script part.line (line ∷ lines) here begins.1 number (report.after_lines script part.line report_start (line ∷ lines)) refl e

  by_end : (part : Part) → LeadsTo 1 start (lines_of bytes) part → (ends : ReadOrCause Script) → script_at part.reading.place part.reading ≡ ends
      → ((at_line part.line ends >>= λ script. head_before part.line script part.left) >>= told_behind) ≡ Err fault → IsFirstCheckFault bytes fault
  unfolding part_reached
  by_end part to (Ok script) ends e = by_left part script to (part_reached laws bytes part script to ends) to.number part.left refl e
  by_end part to (Err cause) ends e =
      let h = told_at {A = Script × Report} part.line cause fault e in
      let fails = end_fails 1 start (lines_of bytes) part fault to (ends ∙ ap (λ c. Err c) h.0) h.1 in
      InScript fault fails.first fails.plain

  by_reading : (read : Result Part Fault) → read_on true 1 start (lines_of bytes) ≡ read → ((read >>= finish) >>= told_behind) ≡ Err fault → IsFirstCheckFault bytes fault
  by_reading (Ok part) is e = by_end part (read_on-leads 1 start (lines_of bytes) part is) (script_at part.reading.place part.reading) refl e
  by_reading (Err other) is e =
      let fails = line_fails 1 start (lines_of bytes) fault (is ∙ ap (λ f. Err f) (same_fault {A = Script × Report} other fault e)) in
      InScript fault fails.first fails.plain

  -- if a text that isn't too long has a fault by the check, it is the first one
  pub first_check_fault : length bytes ≤ 4194304 → check_text bytes ≡ Err fault → IsFirstCheckFault bytes fault
  first_check_fault short e =
      by_reading (read_on true 1 start (lines_of bytes)) refl
      (sym (ap (λ part. (part >>= finish) >>= told_behind) (cond-false (nat_lt 4194304 (length bytes)) (Err (record { line = 0; cause = causes.TooLong })) (read_on true 1 start (lines_of bytes)) (le-ltb 4194304 (length bytes) short))) ∙ e)

-- a text that is too long is refused by the check for its length
pub too_long_check : (bytes : Bytes) → 4194304 < length bytes → check_text bytes ≡ Err (record { line = 0; cause = causes.TooLong })
too_long_check bytes long =
    ap (λ part. (part >>= finish) >>= told_behind) (cond-true (nat_lt 4194304 (length bytes)) (Err (record { line = 0; cause = causes.TooLong })) (read_on true 1 start (lines_of bytes)) (lt-ltb 4194304 (length bytes) long))
