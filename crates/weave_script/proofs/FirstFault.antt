-- The fault that is reported is the first.
-- Used by `faults_are_first` and CheckFaults.
use Rattle.std.proofs.Common.{◌≡◌, ℕ, suc, ◌+◌, ◌<◌, ◌≤◌, Bool, true, false, cond, List, [], ◌∷◌, ◌++◌, length, Ok, Err, refl, sym, ap, ◌∙◌, arith}
use Rattle.std.specs.Prelude.{Result, nat_lt}
use Rattle.std.proofs.lemmas.Bool.{cond-true, cond-false, le-ltb, lt-ltb}
use Rattle.program_defs.specs.declared.script.Script.{Script}
use Rattle.weave_text.specs.Cutting.{lines_of, words_of, is_skipped}
use Rattle.weave_text.specs.Lines.{Bytes}
use Rattle.weave_script.specs.declared.fault.Cause.{Cause}
use Rattle.weave_script.specs.declared.fault.Cause.TheVariants as causes
use Rattle.weave_script.specs.declared.read.partial_script.Reading.{Reading}
use Rattle.weave_data.specs.Steps.{◌>>=◌}
use Rattle.weave_script.specs.Fields.{ReadOrCause}
use Rattle.weave_script.specs.Faults.{IsScriptRefusedAt, IsFirstScriptFault}
use Rattle.weave_script.specs.ReadText.{Fault, Part, at_line, read_on, read_text, script_at}
use Rattle.weave_script.specs.Reading.{start, after_line}
use Rattle.weave_data.proofs.Steps.{ok_is}

-- the fault, as a result
abbrev pub err : {A E : Type 0} → E → Result A E
err e = Err e

-- two equal results have the same fault
pub same_fault : {A : Type 0} (a b : Fault) → err {A = A} a ≡ err b → a ≡ b
same_fault a b e = cc

-- what ends with the script that is read
abbrev finish : Part → Result Script Fault
finish part = at_line part.line (script_at part.reading.place part.reading)

-- a fault at a line has that line and its cause
pub told_at : {A : Type 0} (n : ℕ) (cause : Cause) (fault : Fault) → err {A = A} (record { line = n; cause = cause }) ≡ Err fault → (cause ≡ fault.cause) × (fault.line ≡ n)
told_at {A} n cause fault e =
    let same : record { line = n; cause = cause } ≡ fault = same_fault {A = A} (record { line = n; cause = cause }) fault e in
    (ap (λ (f : Fault). f.cause) same, sym (ap (λ (f : Fault). f.line) same))

fault_at : (n : ℕ) (read : ReadOrCause Script) (fault : Fault) → at_line n read ≡ Err fault → (read ≡ Err fault.cause) × (fault.line ≡ n)
fault_at n (Ok value) fault e = absurd cc
fault_at n (Err cause) fault e = let h = told_at n cause fault e in (ap (λ c. Err c) h.0, h.1)

-- one line that was accepted is before it
unfoldable pub further : (n : ℕ) (from next : Reading) (line : Bytes) (lines : List Bytes) (fault : Fault) → ((more : List Bytes) → read_on false n from (line ∷ more) ≡ read_on false (suc n) next more)
    → IsFirstScriptFault (suc n) next lines fault → IsFirstScriptFault n from (line ∷ lines) fault
further n from next line lines fault step first =
    let count : suc n + length first.before ≡ n + length (line ∷ first.before) = omega arith in
    record {
      before = line ∷ first.before;
      rest = first.rest;
      parts = ap (λ lines. line ∷ lines) first.parts;
      number = first.number ∙ count;
      reading = first.reading;
      accepted = step first.before ∙ first.accepted ∙ ap (λ k. Ok (record { reading = first.reading; line = k; left = [] })) count;
      refused = first.refused;
    }

-- no line is before it
unfoldable pub at_once : (n : ℕ) (from : Reading) (lines : List Bytes) (fault : Fault) → fault.line ≡ n → IsScriptRefusedAt from lines fault.cause → IsFirstScriptFault n from lines fault
at_once n from lines fault number refused =
    let none : n ≡ n + 0 = omega arith in
    record {
      before = [];
      rest = lines;
      parts = refl;
      number = number ∙ none;
      reading = from;
      accepted = ap (λ k. Ok (record { reading = from; line = k; left = [] })) none;
      refused = refused;
    }

first_fault : (n : ℕ) (from : Reading) (lines : List Bytes) (fault : Fault) → (read_on false n from lines >>= finish) ≡ Err fault → IsFirstScriptFault n from lines fault
first_fault n from [] fault e =
    let h = fault_at n (script_at from.place from) fault e in
    at_once n from [] fault h.1 h.0
first_fault n from (line ∷ lines) fault e = go (λ next e. first_fault (suc n) next lines fault e) (is_skipped line) refl e
  where
    taken : ((next : Reading) → (read_on false (suc n) next lines >>= finish) ≡ Err fault → IsFirstScriptFault (suc n) next lines fault)
        → is_skipped line ≡ false → (read : ReadOrCause Reading) → after_line from (words_of line) ≡ read
        → ((at_line n read >>= λ next. read_on false (suc n) next lines) >>= finish) ≡ Err fault → IsFirstScriptFault n from (line ∷ lines) fault
    taken rest kept (Ok next) read e =
        further n from next line lines fault
        (λ more. cond-false (is_skipped line) _ _ kept ∙ ap (λ read. at_line n read >>= λ next. read_on false (suc n) next more) read)
        (rest next e)
    taken rest kept (Err cause) read e =
        let h = told_at n cause fault e in
        at_once n from (line ∷ lines) fault h.1 (kept, read ∙ ap (λ c. Err c) h.0)

    go : ((next : Reading) → (read_on false (suc n) next lines >>= finish) ≡ Err fault → IsFirstScriptFault (suc n) next lines fault)
        → (b : Bool) → is_skipped line ≡ b
        → (cond b (read_on false (suc n) from lines) (at_line n (after_line from (words_of line)) >>= λ next. read_on false (suc n) next lines) >>= finish) ≡ Err fault
        → IsFirstScriptFault n from (line ∷ lines) fault
    go rest true skipped e = further n from from line lines fault (λ more. cond-true (is_skipped line) _ _ skipped) (rest from e)
    go rest false kept e = taken rest kept (after_line from (words_of line)) refl e

-- if a text that isn't too long is refused, it is for its first fault
pub first_fault_of_text : (bytes : Bytes) (fault : Fault) → length bytes ≤ 4194304 → read_text bytes ≡ Err fault → IsFirstScriptFault 1 start (lines_of bytes) fault
first_fault_of_text bytes fault short e =
    first_fault 1 start (lines_of bytes) fault
    (sym (ap (λ part. part >>= finish) (cond-false (nat_lt 4194304 (length bytes)) (Err (record { line = 0; cause = causes.TooLong })) (read_on false 1 start (lines_of bytes)) (le-ltb 4194304 (length bytes) short))) ∙ e)

-- ---- the first fault is reported

-- lines that were accepted are read past
past : (n : ℕ) (reading : Reading) (front back : List Bytes) (part : Part) → read_on false n reading front ≡ Ok part → read_on false n reading (front ++ back) ≡ read_on false part.line part.reading back
past n reading [] back part e = ap (λ (p : Part). read_on false p.line p.reading back) (ok_is {E = Fault} (record { reading = reading; line = n; left = [] }) part e)
past n reading (line ∷ front) back part e = go (λ next e. past (suc n) next front back part e) (is_skipped line) (after_line reading (words_of line)) e
  where
    go : ((next : Reading) → read_on false (suc n) next front ≡ Ok part → read_on false (suc n) next (front ++ back) ≡ read_on false part.line part.reading back)
        → (b : Bool) (read : ReadOrCause Reading)
        → cond b (read_on false (suc n) reading front) (at_line n read >>= λ next. read_on false (suc n) next front) ≡ Ok part
        → cond b (read_on false (suc n) reading (front ++ back)) (at_line n read >>= λ next. read_on false (suc n) next (front ++ back)) ≡ read_on false part.line part.reading back
    go rest true read e = rest reading e
    go rest false (Ok next) e = rest next e
    go rest false (Err cause) e = absurd cc

-- the first of the lines is refused, or the script can't end there
refused_there : (n : ℕ) (reading : Reading) (rest : List Bytes) (fault : Fault) → fault.line ≡ n → IsScriptRefusedAt reading rest fault.cause → (read_on false n reading rest >>= finish) ≡ Err fault
refused_there n reading [] fault number refused =
    ap (λ read. at_line n read) refused ∙ ap (λ k. Err (record { line = k; cause = fault.cause })) (sym number)
refused_there n reading (line ∷ lines) fault number refused =
    ap (λ part. part >>= finish) (cond-false (is_skipped line) _ _ refused.0 ∙ ap (λ read. at_line n read >>= λ next. read_on false (suc n) next lines) refused.1)
    ∙ ap (λ k. Err (record { line = k; cause = fault.cause })) (sym number)

-- a text that isn't too long and has a first fault is refused for it
pub first_fault_told : (bytes : Bytes) (fault : Fault) → length bytes ≤ 4194304 → IsFirstScriptFault 1 start (lines_of bytes) fault → read_text bytes ≡ Err fault
first_fault_told bytes fault short first =
    ap (λ part. part >>= finish)
    (cond-false (nat_lt 4194304 (length bytes)) (Err (record { line = 0; cause = causes.TooLong })) (read_on false 1 start (lines_of bytes)) (le-ltb 4194304 (length bytes) short)
    ∙ ap (λ lines. read_on false 1 start lines) first.parts
    ∙ past 1 start first.before first.rest (record { reading = first.reading; line = 1 + length first.before; left = [] }) first.accepted)
    ∙ refused_there (1 + length first.before) first.reading first.rest fault first.number first.refused

-- a text that is too long is refused for its length
pub too_long_text : (bytes : Bytes) → 4194304 < length bytes → read_text bytes ≡ Err (record { line = 0; cause = causes.TooLong })
too_long_text bytes long =
    ap (λ part. part >>= finish) (cond-true (nat_lt 4194304 (length bytes)) (Err (record { line = 0; cause = causes.TooLong })) (read_on false 1 start (lines_of bytes)) (lt-ltb 4194304 (length bytes) long))
