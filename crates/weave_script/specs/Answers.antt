-- What a reader of scripts answers.
use Rattle.std.specs.Prelude.{ℕ, Result, Ok, Err}
use Rattle.weave_script.specs.declared.fault.Cause.{Cause}
use Rattle.weave_script.specs.declared.fault.ScriptFault.{ScriptFault}
use Rattle.weave_script.specs.declared.fault.ScriptFault.TheVariants.{Refused, Memory}

-- if a line was refused, P holds of its number and the cause
abbrev pub IfScriptRefused : {A : Type 0} → Result A ScriptFault → (ℕ → Cause → Type 0) → Type 0
IfScriptRefused (Ok answer) P = Unit {0}
IfScriptRefused (Err (Refused line cause)) P = P line cause
IfScriptRefused (Err Memory) P = Unit {0}
