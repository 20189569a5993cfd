-- What the judge of phases answers.
use Rattle.std.specs.Prelude.{◌≡◌, ℕ, ◌-◌, ◌<◌, ◌≤◌, List, length, map, Option, Some, None, slice_get}
use Rattle.weave_data.specs.declared.name.Name.{Name}
use Rattle.weave_data.specs.Facts.{AllHold, BreaksFirstAt}
use Rattle.program_defs.specs.declared.script.Script.{Script}
use Rattle.report_rules.specs.declared.report.Report.{Report}
use Rattle.report_rules.specs.declared.report.Reply.{Reply}
use Rattle.report_rules.specs.declared.report.ReplyState.{ReplyState}
use Rattle.report_rules.specs.declared.report.ReplyState.TheVariants as said
use Rattle.report_rules.specs.Lookups.{RequestPrecedes, committed_number}
use Rattle.report_rules.specs.RightReport.{conflicts_clause, replies_clause}
use Rattle.report_rules.specs.Meetings.{commit_number, phase_of}
use Rattle.order_witness.specs.Heads.{item}
use Rattle.run_judge.specs.declared.judge.PhaseFault.{PhaseFault}
use Rattle.run_judge.specs.declared.judge.PhasePart.{PhasePart}
use Rattle.run_judge.specs.declared.judge.PhasePart.TheVariants.{Precedence, Conflict, Number, EarlierRefusal, Refusal}
use Rattle.run_judge.specs.declared.phase_numbers.Numbered.{Numbered}
use Rattle.run_judge.specs.declared.phases.Broken.{Broken}
use Rattle.run_judge.specs.declared.phases.Phases.{Phases}
use Rattle.run_judge.specs.declared.ways.Ways.{Ways}
use Rattle.run_judge.specs.Numbers.{ArePeaksOf, HasEarlier, IsGreatest, greatest_at}
use Rattle.run_judge.specs.Promises.{KeepsPhases, commits_before_refusal, phases_clause, refusal_number}

-- the other request is of an earlier phase, and its number isn't below that of the reply
pub record IsNotBelow (script : Script) (numbers : ℕ → Option ℕ) (r : ℕ) (own : Option ℕ) (other : ℕ) : Type 0 where
  pub m : ℕ
  pub n : ℕ
  pub earlier : phase_of script other < phase_of script r
  pub has : numbers other ≡ Some m
  pub reply_has : own ≡ Some n
  pub not_below : n ≤ m

-- the other request is a commit of an earlier phase, with a number above that of the refusal
pub record IsAbove (script : Script) (report : Report) (r : ℕ) (refused : Option ℕ) (other : ℕ) : Type 0 where
  pub m : ℕ
  pub at : ℕ
  pub earlier : phase_of script other < phase_of script r
  pub has : commit_number report other ≡ Some m
  pub reply_has : refused ≡ Some at
  pub above : at < m

-- the reply of request r breaks this part with the other request
abbrev pub BreaksPart : Script → Report → ℕ → ReplyState → PhasePart → ℕ → Type 0
BreaksPart script report r state Precedence other =
    (phase_of script r < phase_of script other) × RequestPrecedes report other r
BreaksPart script report r state Conflict other =
    (v : Name) × (state ≡ said.Conflict v other) × ¬ (phase_of script r ≡ phase_of script other)
BreaksPart script report r state Number other =
    IsNotBelow script (commit_number report) r (committed_number state) other
BreaksPart script report r state EarlierRefusal other =
    IsNotBelow script (refusal_number report) r (committed_number state) other
BreaksPart script report r state Refusal other = IsAbove script report r (commits_before_refusal state) other

-- None if each reply keeps the phases; else the first reply line that doesn't, how it doesn't, and with which request
abbrev pub IsFirstPhaseFault : Script → Report → Option PhaseFault → Type 0
IsFirstPhaseFault script report None = AllHold (phases_clause script report)
IsFirstPhaseFault script report (Some fault) =
    BreaksFirstAt (phases_clause script report) fault.place
    × ((reply : Reply) × (slice_get report.replies (fault.place - 1) ≡ Some reply)
    × BreaksPart script report reply.request reply.state fault.part fault.other)

-- the commit numbers of replies, and after how many commits they are refused. No public contract cites this.
abbrev pub commit_values : List Reply → List (Option ℕ)
commit_values replies = map (λ (reply : Reply). committed_number reply.state) replies

abbrev pub refusal_values : List Reply → List (Option ℕ)
refusal_values replies = map (λ (reply : Reply). commits_before_refusal reply.state) replies

-- What is known of the phases of a report. No public contract cites this.
pub record AreKnown (script : Script) (report : Report) (ways : Ways) (known : Phases) : Type 0 where
  pub phases : (r : ℕ) → r < length report.replies → item known.phases.items r ≡ phase_of script r
  pub peaks : ArePeaksOf known.phases.items ways.chains.items known.peaks.items
  pub commits : (place : ℕ) → place < length report.replies
      → IsGreatest (HasEarlier (commit_values report.replies) known.phases.items place)
      (greatest_at known.commits.items place)
  pub refusals : (place : ℕ) → place < length report.replies
      → IsGreatest (HasEarlier (refusal_values report.replies) known.phases.items place)
      (greatest_at known.refusals.items place)

-- What is known is so, and these clauses hold. No public contract cites this.
pub record CanJudgePhases (script : Script) (report : Report) (ways : Ways) (known : Phases) : Type 0 where
  pub replies : AllHold (replies_clause script report)
  pub conflicts : AllHold (conflicts_clause script report)
  pub known_so : AreKnown script report ways known

-- the newer request of a conflict. No public contract cites this.
abbrev pub newer_of : ReplyState → Option ℕ
newer_of (said.Conflict v newer) = Some newer
newer_of _ = None

-- the newer request of a conflict, if its phase by these phases is another one. No public contract cites this.
abbrev pub IsConflictFound : List ℕ → ℕ → Option ℕ → Option ℕ → Type 0
IsConflictFound phases r newer None = (other : ℕ) → newer ≡ Some other → item phases r ≡ item phases other
IsConflictFound phases r newer (Some other) = (newer ≡ Some other) × ¬ (item phases r ≡ item phases other)

-- the request of the greatest number, if that isn't below this one. No public contract cites this.
abbrev pub IsOneNotBelow : Option Numbered → Option ℕ → Option ℕ → Type 0
IsOneNotBelow greatest own None =
    (found : Numbered) (n : ℕ) → greatest ≡ Some found → own ≡ Some n → found.number < n
IsOneNotBelow greatest own (Some other) =
    (found : Numbered) × (n : ℕ) × (greatest ≡ Some found) × (own ≡ Some n) × (found.request ≡ other)
    × (n ≤ found.number)

-- the request of the greatest number, if that is above this one. No public contract cites this.
abbrev pub IsOneAbove : Option Numbered → Option ℕ → Option ℕ → Type 0
IsOneAbove greatest own None =
    (found : Numbered) (n : ℕ) → greatest ≡ Some found → own ≡ Some n → found.number ≤ n
IsOneAbove greatest own (Some other) =
    (found : Numbered) × (n : ℕ) × (greatest ≡ Some found) × (own ≡ Some n) × (found.request ≡ other)
    × (n < found.number)

-- The reply of a request with this state keeps the phases, or breaks a part. No public contract cites this.
abbrev pub IsBrokenPart : Script → Report → ℕ → ReplyState → Option Broken → Type 0
IsBrokenPart script report r state None = KeepsPhases script report r state
IsBrokenPart script report r state (Some broken) = BreaksPart script report r state broken.part broken.other

-- the first part that is broken, with its request. No public contract cites this.
abbrev pub first_part : Option ℕ → Option ℕ → Option ℕ → Option ℕ → Option ℕ → Option Broken
first_part (Some other) conflict number earlier refusal = Some (record { part = Precedence; other = other })
first_part None (Some other) number earlier refusal = Some (record { part = Conflict; other = other })
first_part None None (Some other) earlier refusal = Some (record { part = Number; other = other })
first_part None None None (Some other) refusal = Some (record { part = EarlierRefusal; other = other })
first_part None None None None (Some other) = Some (record { part = Refusal; other = other })
first_part None None None None None = None
