-- What `check` writes of what `run` wrote.
use Rattle.std.specs.Prelude.{◌≡◌, ℕ, List, [], ◌∷◌, ◌++◌}
use Rattle.weaver_top.specs.Headlines.{TellsYes}
use Rattle.weaver_top.specs.VerdictLines.{yes_line}
use Rattle.weave_script.specs.Limits.{IsShort}

-- if the input ends with a line feed, and isn't too long together with the text after it, then `check` has to write
-- `yes` for both together
abbrev pub IsAcceptedByCheck : List ℕ → List ℕ → Type 0
IsAcceptedByCheck input text = (front : List ℕ) → input ≡ front ++ 10 ∷ [] → IsShort (input ++ text)
    → TellsYes (input ++ text) yes_line
