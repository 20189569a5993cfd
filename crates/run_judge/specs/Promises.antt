-- What `run` promises beyond the clauses of a right report, place by place.
use Rattle.std.specs.Prelude.{◌≡◌, ◌<◌, ◌≤◌, ◌⊎◌, ℕ, IsTrue, List, [], ◌∷◌, ◌++◌, Option, Some, None}
use Rattle.std.specs.Option.{option_and_then}
use Rattle.weave_data.specs.Facts.{Facts, AllHold, facts_in_turn, facts_of_each}
use Rattle.weave_data.specs.declared.name.Name.{Name}
use Rattle.program_defs.specs.declared.script.Script.{Script}
use Rattle.report_rules.specs.declared.report.Report.{Report}
use Rattle.report_rules.specs.declared.report.Reply.{Reply}
use Rattle.report_rules.specs.declared.report.ReplyState.{ReplyState}
use Rattle.report_rules.specs.declared.report.ReplyState.TheVariants.{Refused}
use Rattle.report_rules.specs.declared.report.StepAnswer.{StepAnswer}
use Rattle.report_rules.specs.Lookups.{RequestPrecedes, committed_number, is_final, is_in, reply_at}
use Rattle.report_rules.specs.Meetings.{IsConflictInOnePhase, MeetAt, commit_number, phase_of}
use Rattle.report_rules.specs.PrintedOrder.{IsInPrintedOrder, IsPrintedOrder}

-- The printed order. Place: that in the order; one more than its length if more is printed.

-- the printed order begins with these requests
abbrev pub BeginsPrintedOrder : Report → List ℕ → Type 0
BeginsPrintedOrder report front = (rest : List ℕ) × IsPrintedOrder report (front ++ rest)

-- the order begins as the printed order at each of its places, and is the printed order
abbrev pub printed_order_clause : Report → Facts
printed_order_clause report =
    facts_in_turn (λ before r. BeginsPrintedOrder report (before ++ r ∷ [])) report.order
    ++ IsInPrintedOrder report ∷ []

-- Meetings. Place: that in the order.

-- of a listed request and each one listed before it that meets it at a vertex, one precedes the other
abbrev pub IsOrderedWhereMet : Script → Report → List ℕ → ℕ → Type 0
IsOrderedWhereMet script report before r =
    (v : Name) (earlier : ℕ) → IsTrue (is_in earlier before) → MeetAt script report v earlier r
    → RequestPrecedes report earlier r ⊎ RequestPrecedes report r earlier

-- this for each place in the order
abbrev pub meetings_clause : Script → Report → Facts
meetings_clause script report = facts_in_turn (IsOrderedWhereMet script report) report.order

-- Phases. Place: the reply line.

-- no request of a later phase precedes this one
abbrev pub NoLaterPrecedes : Script → Report → ℕ → Type 0
NoLaterPrecedes script report r =
    (other : ℕ) → phase_of script r < phase_of script other → ¬ RequestPrecedes report other r

-- after how many commits a reply says that its request is refused
abbrev pub commits_before_refusal : ReplyState → Option ℕ
commits_before_refusal (Refused op reason at) = Some at
commits_before_refusal _ = None

-- after how many commits a request is refused, if it is
abbrev pub refusal_number : Report → ℕ → Option ℕ
refusal_number report r = option_and_then (λ (reply : Reply). commits_before_refusal reply.state) (reply_at report r)

-- what earlier phases have of this kind is below a commit number
abbrev pub IsAboveEarlier : Script → (ℕ → Option ℕ) → ℕ → Option ℕ → Type 0
IsAboveEarlier script numbers r own =
    (other m n : ℕ) → phase_of script other < phase_of script r → numbers other ≡ Some m → own ≡ Some n → m < n

-- the commit numbers of earlier phases are at most the number of commits after which the request was refused
abbrev pub IsAfterEarlierCommits : Script → Report → ℕ → Option ℕ → Type 0
IsAfterEarlierCommits script report r refused =
    (other m at : ℕ) → phase_of script other < phase_of script r → commit_number report other ≡ Some m
    → refused ≡ Some at → m ≤ at

-- The reply of request r, with this state, keeps the phases: no request of a later phase precedes r; a conflict is with
-- a request of its own phase; a commit number is above those of earlier phases, and above the numbers of commits after
-- which requests of earlier phases were refused; a refusal is after the commits of earlier phases.
pub record KeepsPhases (script : Script) (report : Report) (r : ℕ) (state : ReplyState) : Type 0 where
  pub precedence : NoLaterPrecedes script report r
  pub conflict : IsConflictInOnePhase script r state
  pub number : IsAboveEarlier script (commit_number report) r (committed_number state)
  pub earlier_refusal : IsAboveEarlier script (refusal_number report) r (committed_number state)
  pub refusal : IsAfterEarlierCommits script report r (commits_before_refusal state)

-- the same of a reply
abbrev pub IsReplyInPhase : Script → Report → Reply → Type 0
IsReplyInPhase script report reply = KeepsPhases script report reply.request reply.state

-- this for each reply
abbrev pub phases_clause : Script → Report → Facts
phases_clause script report = facts_of_each (IsReplyInPhase script report) report.replies

-- Replies. Place: the reply line.

-- each reply is final
abbrev pub final_replies_clause : Report → Facts
final_replies_clause report = facts_of_each (λ (reply : Reply). IsTrue (is_final reply.state)) report.replies

-- Answers of steps. Place: the answer.

-- none may be there
abbrev pub no_steps_clause : Report → Facts
no_steps_clause report = facts_of_each (λ (answer : StepAnswer). ⊥) report.answers

-- The whole

-- each of these clauses holds
pub record KeepsPromises (script : Script) (report : Report) : Type 0 where
  pub printed_order : AllHold (printed_order_clause report)
  pub meetings : AllHold (meetings_clause script report)
  pub phases : AllHold (phases_clause script report)
  pub final_replies : AllHold (final_replies_clause report)
  pub no_steps : AllHold (no_steps_clause report)
