-- What a judge of reports answers.
use Rattle.std.specs.Prelude.{ℕ, ◌^◌, Bool, true, nat_lt, length, Option, Some, None}
use Rattle.std.specs.List.{list_all}
use Rattle.program_defs.specs.declared.script.Script.{Script}
use Rattle.program_defs.specs.declared.script.Request.{Request}
use Rattle.program_defs.specs.declared.script.Work.{Work}
use Rattle.program_defs.specs.declared.script.Work.TheVariants.{Change, Look}
use Rattle.report_rules.specs.declared.report.Report.{Report}
use Rattle.weave_data.specs.Facts.{Facts, AllHold, BreaksFirstAt}
use Rattle.report_rules.specs.RightReport.{IsRightReport, BreaksFirst}
use Rattle.order_witness.specs.declared.judge.Judged.{Judged}
use Rattle.order_witness.specs.declared.judge.Judged.TheVariants.{Yes, No}

-- none if each fact holds, otherwise the place, from 1, of the first that doesn't
abbrev pub IsFirstFault : Facts → Option ℕ → Type 0
IsFirstFault facts None = AllHold facts
IsFirstFault facts (Some place) = BreaksFirstAt facts place

-- yes for a right report, otherwise the first clause that breaks and its first place. No public contract cites this.
abbrev pub IsJudgement : Script → Report → Judged → Type 0
IsJudgement script report Yes = IsRightReport script report
IsJudgement script report (No clause place) = BreaksFirst script report clause place

-- if the work is a transaction, it has fewer than 2^32 operations: a reply numbers them with 32 bits
abbrev pub is_numbered_work : Work → Bool
is_numbered_work (Change ops) = nat_lt (length ops) (2 ^ 32)
is_numbered_work (Look program) = true

-- each transaction of the script has fewer than 2^32 operations
abbrev pub has_numbered_operations : Script → Bool
has_numbered_operations script = list_all (λ (request : Request). is_numbered_work request.work) script.requests
