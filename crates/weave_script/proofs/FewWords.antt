-- No line of a script has twelve words, so words after the twelfth change nothing.
-- Used by `take`.
use Rattle.std.proofs.Common.{◌≡◌, Bool, List, [], ◌∷◌, take, refl, sym, ap, ◌∙◌}
use Rattle.std.specs.Prelude.{◌&&◌, Result, Ok, Err}
use Rattle.weave_text.specs.Lines.{Word, Line}
use Rattle.weave_script.specs.declared.fault.LineFault.{LineFault}
use Rattle.weave_script.specs.declared.fault.LineFault.TheVariants as line_fault
use Rattle.weave_script.specs.declared.read.part.Taken.{Taken}
use Rattle.weave_script.specs.declared.read.part.Taken.TheVariants as taken
use Rattle.weave_script.specs.declared.read.lines.Reader.{Reader}
use Rattle.weave_script.specs.declared.read.partial_script.Place.{Place}
use Rattle.weave_script.specs.declared.read.partial_script.Place.TheVariants.{Start, Between, Inside, Behind}
use Rattle.weave_script.specs.declared.read.partial_script.Reading.{Reading}
use Rattle.weave_data.specs.Steps.{◌>>=◌}
use Rattle.weave_script.specs.Parts.{TakesLine, ends_before}
use Rattle.weave_script.specs.ReadText.{is_open, is_report}
use Rattle.weave_script.specs.Reading.{after_line, after_line_at, within_limits}

module _ (reading : Reading) where
  long : (place : Place) (a b c d e f g h i j k l : Word) (rest : List Word)
      → after_line_at place reading (a ∷ b ∷ c ∷ d ∷ e ∷ f ∷ g ∷ h ∷ i ∷ j ∷ k ∷ l ∷ []) ≡ after_line_at place reading (a ∷ b ∷ c ∷ d ∷ e ∷ f ∷ g ∷ h ∷ i ∷ j ∷ k ∷ l ∷ rest)
  long Start a b c d e f g h i j k l rest = refl
  long Between a b c d e f g h i j k l rest = refl
  long (Inside opening ops) a b c d e f g h i j k l rest = refl
  long (Behind steps) a b c d e f g h i j k l rest = refl

  few : (place : Place) (line : Line) → after_line_at place reading (take 12 line) ≡ after_line_at place reading line
  few place [] = refl
  few place (a ∷ []) = refl
  few place (a ∷ b ∷ []) = refl
  few place (a ∷ b ∷ c ∷ []) = refl
  few place (a ∷ b ∷ c ∷ d ∷ []) = refl
  few place (a ∷ b ∷ c ∷ d ∷ e ∷ []) = refl
  few place (a ∷ b ∷ c ∷ d ∷ e ∷ f ∷ []) = refl
  few place (a ∷ b ∷ c ∷ d ∷ e ∷ f ∷ g ∷ []) = refl
  few place (a ∷ b ∷ c ∷ d ∷ e ∷ f ∷ g ∷ h ∷ []) = refl
  few place (a ∷ b ∷ c ∷ d ∷ e ∷ f ∷ g ∷ h ∷ i ∷ []) = refl
  few place (a ∷ b ∷ c ∷ d ∷ e ∷ f ∷ g ∷ h ∷ i ∷ j ∷ []) = refl
  few place (a ∷ b ∷ c ∷ d ∷ e ∷ f ∷ g ∷ h ∷ i ∷ j ∷ k ∷ []) = refl
  few place (a ∷ b ∷ c ∷ d ∷ e ∷ f ∷ g ∷ h ∷ i ∷ j ∷ k ∷ l ∷ rest) = long place a b c d e f g h i j k l rest

same_line : (reading : Reading) (line : Line) → after_line reading (take 12 line) ≡ after_line reading line
same_line reading line = ap (λ read. read >>= within_limits) (few reading reading.place line)

same_report : (line : Line) → is_report (take 12 line) ≡ is_report line
same_report [] = refl
same_report (word ∷ words) = refl

same_end : (report : Bool) (reading : Reading) (line : Line) → ends_before report reading (take 12 line) ≡ ends_before report reading line
same_end report reading line = ap (λ begins. report && is_open reading.place && begins) (same_report line)

-- a line is taken as its first twelve words are
pub TakesLine-few : (report : Bool) (reading : Reading) (line : Line) (reader : Reader) (result : Result Taken LineFault) → TakesLine report reading (take 12 line) reader result → TakesLine report reading line reader result
TakesLine-few report reading line reader (Ok taken.Line) (ready, ends, read) = (ready, sym (same_end report reading line) ∙ ends, sym (same_line reading line) ∙ read)
TakesLine-few report reading line reader (Ok taken.Nothing) (ready, same, ends) = (ready, same, sym (same_end report reading line) ∙ ends)
TakesLine-few report reading line reader (Err (line_fault.Refused cause)) (ends, read) = (sym (same_end report reading line) ∙ ends, sym (same_line reading line) ∙ read)
TakesLine-few report reading line reader (Err line_fault.Memory) taken = tt
