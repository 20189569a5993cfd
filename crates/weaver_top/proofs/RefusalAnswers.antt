-- What holds of a refusal holds of the answer made of it.
-- Used by `too_long` and `verdict_on`.
use Rattle.std.proofs.Common.{◌≡◌, ℕ, List, Result, Ok, Err, IfOk, subst}
use Rattle.weave_script.specs.declared.fault.Cause.{Cause}
use Rattle.weave_script.specs.declared.fault.ScriptFault.{ScriptFault}
use Rattle.weave_script.specs.declared.fault.ScriptFault.TheVariants as fault
use Rattle.weave_script.specs.Answers.{IfScriptRefused}
use Rattle.weaver_top.specs.declared.answer.Answer.{Answer}
use Rattle.weaver_top.specs.declared.status.Status.TheVariants.{Refused}

-- what is promised of a refusal holds of its line and cause
pub of_the_fault : (A : Type 0) (why : ScriptFault) (line : ℕ) (cause : Cause) (P : ℕ → Cause → Type 0) → why ≡ fault.Refused line cause → IfScriptRefused {A = A} (Err why) P → P line cause
of_the_fault A why line cause P is holds = let Q : ScriptFault → Type 0 = λ why. IfScriptRefused {A = A} (Err why) P in subst Q is holds

-- what holds of each answer that refuses with this line holds of one that was made, if memory did not run out
pub of_the_answer : {E : Type 0} (result : Result Answer E) (line : List ℕ) (P : Answer → Type 0) → IfOk result (λ answer. answer.status ≡ Refused) → IfOk result (λ answer. answer.text.items ≡ line) → ((answer : Answer) → answer.status ≡ Refused → answer.text.items ≡ line → P answer) → IfOk result P
of_the_answer (Ok answer) line P status text all = all answer status text
of_the_answer (Err error) line P status text all = tt
