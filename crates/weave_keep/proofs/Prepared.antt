-- From what a script's work ends with to what is prepared for the input.
use Rattle.std.proofs.Common.{◌≡◌, inl, inr, ℕ, ◌+◌, Bool, true, List, [], ◌++◌, length, nat_lt, codes, None, Some, IfSome, Result, Ok, Err, refl, sym, ap, ◌∙◌, subst, arith, if◌then◌else◌}
use Rattle.std.proofs.lemmas.Bool.{lt-ltb}
use Rattle.program_defs.specs.declared.script.Script.{Script}
use Rattle.weave_data.specs.Limits.{most_bytes}
use Rattle.weave_io.specs.Told.{ToldBytes, IsReadWhole, TakesAtMost, TakesCount, Tells}
use Rattle.weave_io.specs.declared.faults.ReadFault.{ReadFault}
use Rattle.weave_io.specs.declared.faults.ReadFault.TheVariants as fault
use Rattle.weave_script.specs.Answers.{IfScriptRefused}
use Rattle.weave_script.specs.CauseTexts.{cause_text}
use Rattle.weave_script.specs.Limits.{IsShort}
use Rattle.weave_script.specs.ReadText.{Fault, read_text}
use Rattle.weave_script.specs.ScriptLines.{IsTextOf}
use Rattle.weave_script.specs.declared.fault.Cause.{Cause}
use Rattle.weave_script.specs.declared.fault.Cause.TheVariants.{TooLong}
use Rattle.weave_script.specs.declared.fault.ScriptFault.{ScriptFault}
use Rattle.weave_script.specs.declared.fault.ScriptFault.TheVariants as script_fault
use Rattle.weaver_top.specs.Refusals.{refusal_line}
use Rattle.weave_keep.specs.declared.answering.Answer.{Answer}
use Rattle.weave_keep.specs.declared.answering.Unanswered.{Unanswered}
use Rattle.weave_keep.specs.declared.answering.Unanswered.TheVariants as why
use Rattle.store_journal.specs.declared.kept_commit.Commit.{Commit}
use Rattle.weave_keep.specs.KeepEnds.{CanBeKept, KeepsCommits, TellsKeepRefusal, TellsKept, added_by, added_if_read}
use Rattle.weave_keep.specs.KeptReports.{can_be_kept, commits_of_script}
use Rattle.weave_keep.specs.Prepared.{AnswersRefusal, AnswersScriptToKeep, AnswersUnread, DiskFacts, EndsWork, IsPreparedToKeep}
use Rattle.weave_keep.proofs.Ends.{if_any}
use Rattle.weave_keep.proofs.Journals.{told_so}

-- The commits that are added

-- those of a script that can be kept
pub added_by_script : (script : Script) (recovered : List Commit) → can_be_kept script ≡ true → added_if_read recovered (Ok script) ≡ commits_of_script recovered script
added_by_script script recovered can = ap (λ (b : Bool). if b then commits_of_script recovered script else []) can

-- those of an input that was read as this
pub added_by_read : (input : List ℕ) (recovered : List Commit) (read : Result Script Fault) → read_text input ≡ read → added_by input recovered ≡ added_if_read recovered read
added_by_read input recovered read is = ap (added_if_read recovered) is

-- Inputs

-- what is promised of a refusal holds of its line and cause
pub of_read_fault : (A : Type 0) (reason : ScriptFault) (line : ℕ) (cause : Cause) (P : ℕ → Cause → Type 0) → reason ≡ script_fault.Refused line cause → IfScriptRefused {A = A} (Err reason) P → P line cause
of_read_fault A reason line cause P is holds = let Q : ScriptFault → Type 0 = λ one. IfScriptRefused {A = A} (Err one) P in subst Q is holds

-- out of memory is prepared for each input, if the disk is as before
out_of_memory : (disk : DiskFacts) (left rest : ToldBytes) (ReadFailed : Type 0) (reason : Unanswered) → disk.Same → reason ≡ why.Memory → IsPreparedToKeep disk left rest ReadFailed (Err reason)
out_of_memory disk left rest ReadFailed reason same is = let P : Unanswered → Type 0 = λ one. IsPreparedToKeep disk left rest ReadFailed (Err one) in subst P (sym is) (if_any left (λ told not. same))

-- an input that is refused with this line
refused_so : (disk : DiskFacts) (left rest : ToldBytes) (ReadFailed : Type 0) (line : ℕ) (cause : List ℕ) (result : Result Answer Unanswered) → disk.Same → IsReadWhole left rest → AnswersRefusal line cause result
    → ((answer : Answer) → answer.text.items ≡ refusal_line line cause → IfSome left (λ input. TellsKeepRefusal input answer.text.items)) → IsPreparedToKeep disk left rest ReadFailed result
refused_so disk left rest ReadFailed line cause (Ok answer) same whole (status, text) says = (whole, inr (status, record { says = says answer text; untouched = same }))
refused_so disk left rest ReadFailed line cause (Err reason) same whole is says = out_of_memory disk left rest ReadFailed reason same is

-- the input of a script that can be kept
abbrev kept_input : (script : Script) (input : List ℕ) → IsShort input → IsTextOf input script → can_be_kept script ≡ true → CanBeKept input
kept_input script input is_short is_text can = record { taken = record { input_is_short = is_short; value = script; input_is_its_text = is_text }; can = can }

-- what its work ended with is prepared for its text
of_work : (disk : DiskFacts) (script : Script) (input : List ℕ) (result : Result Answer Unanswered) → IsShort input → IsTextOf input script → read_text input ≡ Ok script → can_be_kept script ≡ true → EndsWork disk script result
    → IsPreparedToKeep disk (Some input) (Some []) ⊥ result
of_work disk script input (Ok answer) is_short is_text is can (status, work) =
    let same : added_by input work.recovered ≡ commits_of_script work.recovered script = added_by_read input work.recovered (Ok script) is ∙ added_by_script script work.recovered can in (
      inl refl,
      inl (
        status,
        refl,
        record {
          recovered = work.recovered;
          read = work.read;
          report = record { kept = kept_input script input is_short is_text can; report = work.report };
          kept = subst (λ (l : List Commit). KeepsCommits disk.now disk.images (work.recovered ++ l)) (sym same) work.kept;
        },
      ),
    )
of_work disk script input (Err why.Read) is_short is_text is can wrong = absurd wrong
of_work disk script input (Err why.Memory) is_short is_text is can ends = λ not. absurd (not (kept_input script input is_short is_text can))
of_work disk script input (Err why.Disk) is_short is_text is can failed = (inl refl, kept_input script input is_short is_text can, failed)
of_work disk script input (Err why.Foreign) is_short is_text is can foreign = (inl refl, kept_input script input is_short is_text can, foreign)

-- what is prepared for a script is prepared for its text
pub of_script : (disk : DiskFacts) (script : Script) (input : List ℕ) (result : Result Answer Unanswered) → IsShort input → IsTextOf input script → read_text input ≡ Ok script → AnswersScriptToKeep disk script result
    → IsPreparedToKeep disk (Some input) (Some []) ⊥ result
of_script disk script input result is_short is_text is (inl (can, ends)) = of_work disk script input result is_short is_text is can ends
of_script disk script input result is_short is_text is (inr (cannot, same, refusal)) =
    refused_so disk (Some input) (Some []) ⊥ 0 (codes "unkept") result same (inl refl) refusal (λ answer line. inr (record {
      taken = record { input_is_short = is_short; value = script; input_is_its_text = is_text };
      cannot = cannot;
      line = line;
    }))

-- an input with a fault is refused for its first one
pub of_fault : (disk : DiskFacts) (first : Fault) (input : List ℕ) (result : Result Answer Unanswered) → disk.Same → ((script : Script) → ¬ IsTextOf input script) → read_text input ≡ Err first
    → AnswersRefusal first.line (cause_text first.cause) result → IsPreparedToKeep disk (Some input) (Some []) ⊥ result
of_fault disk first input result same none is refusal =
    refused_so disk (Some input) (Some []) ⊥ first.line (cause_text first.cause) result same (inl refl) refusal
    (λ answer line. inl (record { not_taken = λ taken. none taken.value taken.input_is_its_text; fault = first; is_first = is; line = line }))

-- What was read

-- what is prepared for the input is prepared for what the source had left
pub of_input : (disk : DiskFacts) (left rest : ToldBytes) (ReadFailed : Type 0) (input : List ℕ) (result : Result Answer Unanswered) → Tells left input → Tells rest [] → IsPreparedToKeep disk (Some input) (Some []) ⊥ result → IsPreparedToKeep disk left rest ReadFailed result
of_input disk left rest ReadFailed input (Ok answer) tells end (whole, inl (status, all, work)) = (
  inl end,
  inl (
    status,
    end,
    record {
      recovered = work.recovered;
      read = work.read;
      report = told_so (λ one. TellsKept work.recovered one answer.text.items) left input tells work.report;
      kept = told_so (λ one. KeepsCommits disk.now disk.images (work.recovered ++ added_by one work.recovered)) left input tells work.kept;
    },
  ),
)
of_input disk left rest ReadFailed input (Ok answer) tells end (whole, inr (status, refused)) =
    (inl end, inr (status, record { says = told_so (λ one. TellsKeepRefusal one answer.text.items) left input tells refused.says; untouched = refused.untouched }))
of_input disk left rest ReadFailed input (Err why.Read) tells end (failed, takes, same) = absurd failed
of_input disk left rest ReadFailed input (Err why.Memory) tells end spared = told_so (λ one. ¬ CanBeKept one → disk.Same) left input tells spared
of_input disk left rest ReadFailed input (Err why.Disk) tells end (whole, kept, failed) = (inl end, told_so CanBeKept left input tells kept, failed)
of_input disk left rest ReadFailed input (Err why.Foreign) tells end (whole, kept, foreign) = (inl end, told_so CanBeKept left input tells kept, foreign)

-- a text that says that the input is too long
too_long_told : (left rest : ToldBytes) (text : List ℕ) → TakesCount left rest (most_bytes + 1) → text ≡ refusal_line 0 (cause_text TooLong) → IfSome left (λ input. TellsKeepRefusal input text)
too_long_told None rest text takes line = tt
too_long_told (Some input) rest text takes line =
    let many = takes.0 in
    let over : nat_lt 4194304 (length input) ≡ true = lt-ltb 4194304 (length input) (omega (arith, many)) in
    inl (record {
      not_taken = λ taken. (let short = taken.input_is_short in omega (arith, short, many));
      fault = record { line = 0; cause = TooLong };
      is_first = rw over refl;
      line = line;
    })

-- what is prepared if the input was not read
pub of_unread : (disk : DiskFacts) (left rest : ToldBytes) (ReadFailed : Type 0) (reason : ReadFault) (result : Result Answer Unanswered) → disk.Same → AnswersUnread reason result
    → (reason ≡ fault.TooLong → TakesCount left rest (most_bytes + 1)) → (reason ≡ fault.Read → ReadFailed × TakesAtMost left rest most_bytes) → IsPreparedToKeep disk left rest ReadFailed result
of_unread disk left rest ReadFailed fault.TooLong result same answers long failed =
    refused_so disk left rest ReadFailed 0 (cause_text TooLong) result same (inr (long refl)) answers (λ answer line. too_long_told left rest answer.text.items (long refl) line)
of_unread disk left rest ReadFailed fault.Read result same answers long failed =
    let P : Result Answer Unanswered → Type 0 = λ one. IsPreparedToKeep disk left rest ReadFailed one in
    subst P (sym answers) ((failed refl).0, (failed refl).1, same)
of_unread disk left rest ReadFailed fault.Memory result same answers long failed =
    let P : Result Answer Unanswered → Type 0 = λ one. IsPreparedToKeep disk left rest ReadFailed one in
    subst P (sym answers) (if_any left (λ told not. same))
