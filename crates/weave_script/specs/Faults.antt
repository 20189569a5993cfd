-- Where the first fault of a text is.
use Rattle.std.specs.Prelude.{◌≡◌, ◌+◌, ℕ, false, List, [], ◌∷◌, ◌++◌, length, Ok, Err}
use Rattle.weave_text.specs.Cutting.{words_of, is_skipped}
use Rattle.weave_text.specs.Lines.{Bytes}
use Rattle.weave_script.specs.declared.fault.Cause.{Cause}
use Rattle.weave_script.specs.declared.read.partial_script.Reading.{Reading}
use Rattle.weave_script.specs.ReadText.{Fault, read_on, script_at}
use Rattle.weave_script.specs.Reading.{after_line}

-- after this reading the first of the lines is refused for the cause; or there is none, and the script can't end there
abbrev pub IsScriptRefusedAt : Reading → List Bytes → Cause → Type 0
IsScriptRefusedAt reading [] cause = script_at reading.place reading ≡ Err cause
IsScriptRefusedAt reading (line ∷ lines) cause =
    (is_skipped line ≡ false) × (after_line reading (words_of line) ≡ Err cause)

-- the fault is the first one after this reading, with lines numbered from n: those before it are accepted
pub record IsFirstScriptFault (n : ℕ) (from : Reading) (lines : List Bytes) (fault : Fault) : Type 0 where
  pub before : List Bytes
  pub rest : List Bytes
  pub parts : lines ≡ before ++ rest
  pub number : fault.line ≡ n + length before
  pub reading : Reading
  pub accepted : read_on false n from before ≡ Ok (record { reading = reading; line = n + length before; left = [] })
  pub refused : IsScriptRefusedAt reading rest fault.cause
