-- The refusal that is reported is the first.
-- Used by `refusals_are_first`.
use Rattle.std.proofs.Common.{◌≡◌, ℕ, ◌+◌, Bool, true, false, cond, List, [], ◌∷◌, ◌++◌, length, Ok, Err, refl, sym, ap, ◌∙◌, subst, arith}
use Rattle.std.specs.Prelude.{Result}
use Rattle.std.proofs.lemmas.Bool.{cond-false}
use Rattle.program_defs.specs.declared.script.Script.{Script}
use Rattle.weave_text.specs.Cutting.{lines_of, words_of, is_skipped}
use Rattle.weave_text.specs.Lines.{Bytes}
use Rattle.weave_report.specs.declared.fault.ReportCause.{ReportCause}
use Rattle.weave_report.specs.declared.fault.ReportCause.TheVariants as cause
use Rattle.weave_report.specs.declared.read.parts.Place.{Place}
use Rattle.weave_report.specs.declared.read.parts.Place.TheVariants.{Start, Replies, Gots, Pairs, Answers, Ended}
use Rattle.weave_report.specs.declared.read.parts.Reading.{Reading}
use Rattle.report_rules.specs.declared.report.Report.{Report}
use Rattle.weave_data.specs.Steps.{◌>>=◌}
use Rattle.weave_report.specs.ReadingFields.{ReadResult}
use Rattle.weave_report.specs.Reading.{Refusal, after_any_line, after_report_line, after_lines, behind_line, report_in, report_start, whole_report}
use Rattle.weave_report.specs.FirstRefusal.{IsFirstRefusal, IsRefusedAt, is_at_end, read_over}
use Rattle.weave_data.proofs.Steps.{bind_ok, ok_is}

abbrev refused : Refusal → Result Report Refusal
refused refusal = Err refusal

same_refusal : (a b : Refusal) → refused a ≡ refused b → a ≡ b
same_refusal a b e = cc

told_at : (n : ℕ) (why : ReportCause) (refusal : Refusal) → refused (n, why) ≡ refused refusal → (refusal.0 ≡ n) × (refusal.1 ≡ why)
told_at n why refusal e =
    let same : refusal ≡ (n, why) = sym (same_refusal (n, why) refusal e) in
    (ap (λ (refusal : Refusal). refusal.0) same, ap (λ (refusal : Refusal). refusal.1) same)

-- after the last line
not_whole : (n : ℕ) (place : Place) (report : Report) (refusal : Refusal) → whole_report n place report ≡ refused refusal → (refusal.0 ≡ n) × (is_at_end place ≡ false) × (refusal.1 ≡ cause.End)
not_whole n Ended report refusal e = absurd cc
not_whole n Start report refusal e = let told = told_at n cause.End refusal e in (told.0, refl, told.1)
not_whole n Replies report refusal e = let told = told_at n cause.End refusal e in (told.0, refl, told.1)
not_whole n (Gots commit answers) report refusal e = let told = told_at n cause.End refusal e in (told.0, refl, told.1)
not_whole n Pairs report refusal e = let told = told_at n cause.End refusal e in (told.0, refl, told.1)
not_whole n Answers report refusal e = let told = told_at n cause.End refusal e in (told.0, refl, told.1)

-- no line is before it
at_once : (script : Script) (n : ℕ) (from : Reading) (lines : List Bytes) (refusal : Refusal) → refusal.0 ≡ n → IsRefusedAt script from lines refusal.1 → IsFirstRefusal script n from lines refusal
at_once script n from lines refusal number refused = record {
  before = [];
  rest = lines;
  parts = refl;
  number = omega (arith, number);
  reading = from;
  accepted = refl;
  refused = refused;
}

-- one line that was accepted is before it
further : (script : Script) (n : ℕ) (from next : Reading) (line : Bytes) (lines : List Bytes) (refusal : Refusal) → after_any_line script from line ≡ Ok next
    → IsFirstRefusal script (n + 1) next lines refusal → IsFirstRefusal script n from (line ∷ lines) refusal
further script n from next line lines refusal step first = record {
  before = line ∷ first.before;
  rest = first.rest;
  parts = ap (λ lines. line ∷ lines) first.parts;
  number = omega (arith, first.number);
  reading = first.reading;
  accepted = ap (λ one. one >>= λ next. read_over script next first.before) step ∙ first.accepted;
  refused = first.refused;
}

-- the line that was refused isn't skipped
line_refused : (script : Script) (from : Reading) (line : Bytes) (why : ReportCause) (b : Bool) → is_skipped line ≡ b
    → cond b (Ok from) (after_report_line script from (words_of line)) ≡ Err why → (is_skipped line ≡ false) × (after_report_line script from (words_of line) ≡ Err why)
line_refused script from line why true skipped e = absurd cc
line_refused script from line why false kept e = (kept, e)

-- a refusal that is reported is the first one
pub first_refused : (script : Script) (n : ℕ) (from : Reading) (lines : List Bytes) (refusal : Refusal) → after_lines script n from lines ≡ Err refusal → IsFirstRefusal script n from lines refusal
first_refused script n from [] refusal e = let told = not_whole n from.place from.report refusal e in at_once script n from [] refusal told.0 (told.1, told.2)
first_refused script n from (line ∷ lines) refusal e = go (λ next e. first_refused script (n + 1) next lines refusal e) (after_any_line script from line) refl e
  where
    go : ((next : Reading) → after_lines script (n + 1) next lines ≡ Err refusal → IsFirstRefusal script (n + 1) next lines refusal) → (one : ReadResult Reading) → after_any_line script from line ≡ one
        → behind_line n one (λ next. after_lines script (n + 1) next lines) ≡ Err refusal → IsFirstRefusal script n from (line ∷ lines) refusal
    go rest (Ok next) step e = further script n from next line lines refusal step (rest next e)
    go rest (Err why) step e =
        let told = told_at n why refusal e in
        at_once script n from (line ∷ lines) refusal told.0 (line_refused script from line refusal.1 (is_skipped line) refl (step ∙ ap (λ why. Err why) (sym told.1)))

-- if the text of a report is refused, the refusal is of its first line that is refused
pub first_refused_of_text : (script : Script) (first_line : ℕ) (bytes : Bytes) (refusal : Refusal) → report_in script first_line bytes ≡ Err refusal → IsFirstRefusal script first_line report_start (lines_of bytes) refusal
unfolding report_in
first_refused_of_text script first_line bytes refusal e = first_refused script first_line report_start (lines_of bytes) refusal e

-- ---- a first refusal is reported

whole_or_told : (n : ℕ) (place : Place) (report : Report) → is_at_end place ≡ false → whole_report n place report ≡ refused (n, cause.End)
whole_or_told n Ended report h = absurd cc
whole_or_told n Start report h = refl
whole_or_told n Replies report h = refl
whole_or_told n (Gots commit answers) report h = refl
whole_or_told n Pairs report h = refl
whole_or_told n Answers report h = refl

refused_as : (n : ℕ) (why : ReportCause) (refusal : Refusal) → refusal.0 ≡ n → refusal.1 ≡ why → refused (n, why) ≡ refused refusal
refused_as n why refusal number same = λ i. Err (sym number i, sym same i)

told_there : (script : Script) (n : ℕ) (from : Reading) (lines : List Bytes) (refusal : Refusal) → refusal.0 ≡ n → IsRefusedAt script from lines refusal.1 → after_lines script n from lines ≡ Err refusal
told_there script n from [] refusal number h = whole_or_told n from.place from.report h.0 ∙ refused_as n cause.End refusal number h.1
told_there script n from (line ∷ lines) refusal number h =
    ap (λ one. behind_line n one (λ next. after_lines script (n + 1) next lines)) (cond-false (is_skipped line) (Ok from) (after_report_line script from (words_of line)) h.0 ∙ h.1)
    ∙ refused_as n refusal.1 refusal number refl

told_behind : (script : Script) (n : ℕ) (from : Reading) (before rest : List Bytes) (reading : Reading) (refusal : Refusal) → refusal.0 ≡ n + length before → read_over script from before ≡ Ok reading
    → IsRefusedAt script reading rest refusal.1 → after_lines script n from (before ++ rest) ≡ Err refusal
told_behind script n from [] rest reading refusal number accepted h =
    told_there script n from rest refusal (omega (arith, number)) (subst (λ reading. IsRefusedAt script reading rest refusal.1) (sym (ok_is from reading accepted)) h)
told_behind script n from (line ∷ before) rest reading refusal number accepted h =
    let one = bind_ok (after_any_line script from line) (λ next. read_over script next before) reading accepted in
    ap (λ one. behind_line n one (λ next. after_lines script (n + 1) next (before ++ rest))) one.1
    ∙ told_behind script (n + 1) one.0 before rest reading refusal (omega (arith, number)) one.2 h

-- the first refusal is reported
pub first_is_told : (script : Script) (n : ℕ) (from : Reading) (lines : List Bytes) (refusal : Refusal) → IsFirstRefusal script n from lines refusal → after_lines script n from lines ≡ Err refusal
first_is_told script n from lines refusal first =
    ap (after_lines script n from) first.parts ∙ told_behind script n from first.before first.rest first.reading refusal first.number first.accepted first.refused
