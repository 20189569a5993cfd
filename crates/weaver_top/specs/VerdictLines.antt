-- What `check` writes: `yes`, or the first clause of a right report that the report breaks, with the first place.
use Rattle.std.specs.Prelude.{◌≡◌, ℕ, List, [], ◌∷◌, ◌++◌, codes}
use Rattle.std.specs.Fmt.{decimal}
use Rattle.program_defs.specs.declared.script.Script.{Script}
use Rattle.report_rules.specs.declared.report.Clause.{Clause}
use Rattle.report_rules.specs.declared.report.Clause.TheVariants.{I, Ii, Iii, Iv, V, Vi, Vii, Viii}
use Rattle.report_rules.specs.declared.report.Report.{Report}
use Rattle.report_rules.specs.RightReport.{BreaksFirst}
use Rattle.weave_script.specs.CheckText.{IsCheckTextOf}
use Rattle.weave_script.specs.Limits.{IsShort}

-- the word of a clause
abbrev pub clause_text : Clause → List ℕ
clause_text I = codes "i"
clause_text Ii = codes "ii"
clause_text Iii = codes "iii"
clause_text Iv = codes "iv"
clause_text V = codes "v"
clause_text Vi = codes "vi"
clause_text Vii = codes "vii"
clause_text Viii = codes "viii"

-- the line for a right report
abbrev pub yes_line : List ℕ
yes_line = codes "yes" ++ 10 ∷ []

-- the line for a report that isn't right
abbrev pub no_line : Clause → ℕ → List ℕ
no_line clause place = codes "no " ++ clause_text clause ++ codes " " ++ decimal place ++ 10 ∷ []

-- the input is a valid script and then a report for it that isn't right, and the text names the first clause that
-- breaks and the first place at which it does
pub record TellsNo (input text : List ℕ) : Type 0 where
  pub input_is_short : IsShort input
  pub script : Script
  pub report : Report
  pub input_is_their_text : IsCheckTextOf input script report
  pub clause : Clause
  pub place : ℕ
  pub breaks : BreaksFirst script report clause place
  pub line : text ≡ no_line clause place
