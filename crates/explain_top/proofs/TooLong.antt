-- What is written for an input that is too long. Used by `too_long`.
use Rattle.std.proofs.Common.{◌≡◌, ℕ, ◌<◌, List, ◌++◌, length, true, nat_lt, Result, Ok, Err, IfOk, refl, sym, subst, arith}
use Rattle.std.proofs.lemmas.Bool.{lt-ltb}
use Rattle.std.specs.declared.alloc.AllocError.{AllocError}
use Rattle.explain_top.specs.Explained.{Explains}
use Rattle.explain_top.specs.declared.answering.Answer.{Answer}
use Rattle.explain_top.specs.declared.command.Command.{Command}
use Rattle.explain_top.specs.declared.command.Command.TheVariants as ways
use Rattle.weave_script.specs.declared.fault.Cause.TheVariants.{TooLong}
use Rattle.weave_script.specs.CauseTexts.{cause_text}
use Rattle.weave_script.specs.CheckReading.{check_text}
use Rattle.weave_script.specs.ReadText.{read_text}
use Rattle.weaver_top.specs.declared.command.Command.TheVariants.{Run, Check}
use Rattle.weaver_top.specs.declared.status.Status.{Status}
use Rattle.weaver_top.specs.declared.status.Status.TheVariants.{Refused}
use Rattle.weaver_top.specs.Answers.{TellsAt}
use Rattle.weaver_top.specs.Refusals.{TellsRefusal, refusal_line}

-- it is read as that fault
long_check : (input : List ℕ) → 4194304 < length input → check_text input ≡ Err (record { line = 0; cause = TooLong })
long_check input long = let over : nat_lt 4194304 (length input) ≡ true = lt-ltb 4194304 (length input) long in rw over refl

long_script : (input : List ℕ) → 4194304 < length input → read_text input ≡ Err (record { line = 0; cause = TooLong })
long_script input long = let over : nat_lt 4194304 (length input) ≡ true = lt-ltb 4194304 (length input) long in rw over refl

-- the line for it
check_line : (input : List ℕ) → 4194304 < length input → TellsAt Check Refused input (refusal_line 0 (cause_text TooLong))
check_line input long = record {
  not_taken = λ taken. (let short = taken.input_is_short in omega (arith, short, long));
  fault = record { line = 0; cause = TooLong };
  is_first = long_check input long;
  line = refl;
}

script_line : (input : List ℕ) → 4194304 < length input → TellsRefusal Run input (refusal_line 0 (cause_text TooLong))
script_line input long = record {
  not_taken = λ taken. (let short = taken.input_is_short in omega (arith, short, long));
  fault = record { line = 0; cause = TooLong };
  is_first = long_script input long;
  line = refl;
}

-- a text that begins with this line is an explanation by any command
by_line : (command : Command) (input text more : List ℕ) → 4194304 < length input → text ≡ refusal_line 0 (cause_text TooLong) ++ more → Explains command Refused input text
by_line ways.Check input text more long is = record { line = refusal_line 0 (cause_text TooLong); more = more; is_line = check_line input long; begins = is }
by_line ways.Script input text more long is = record { line = refusal_line 0 (cause_text TooLong); more = more; is_line = script_line input long; begins = is }
by_line (ways.Picture window) input text more long is = record { line = refusal_line 0 (cause_text TooLong); more = more; is_line = check_line input long; begins = is }

-- so is an answer with that text
pub explains_long : (result : Result Answer AllocError) (more : List ℕ) → IfOk result (λ answer. answer.status ≡ Refused) → IfOk result (λ answer. answer.text.items ≡ refusal_line 0 (cause_text TooLong) ++ more) → (command : Command) (input : List ℕ) → 4194304 < length input → IfOk result (λ answer. Explains command answer.status input answer.text.items)
explains_long (Ok answer) more status text command input long =
    let P : Status → Type 0 = λ ended. Explains command ended input answer.text.items in
    subst P (sym status) (by_line command input answer.text.items more long text)
explains_long (Err fault) more status text command input long = tt
