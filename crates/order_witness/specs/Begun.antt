-- Precedence between the begun requests of a report, as a test.
use Rattle.std.specs.Prelude.{◌≡◌, ℕ, Bool, true, ◌&&◌, not, ◌==◌, List, Option, Some, is_some, slice_get}
use Rattle.std.specs.List.{list_any, filter_map}
use Rattle.std.specs.Option.{option_and_then}
use Rattle.vector_stamp.specs.declared.clock.Stamp.{Stamp}
use Rattle.vector_stamp.specs.Order.{stamp_before}
use Rattle.vector_stamp.specs.Precedence.{precedes}
use Rattle.report_rules.specs.declared.report.Report.{Report}
use Rattle.report_rules.specs.declared.report.Reply.{Reply}
use Rattle.report_rules.specs.declared.report.Pair.{Pair}
use Rattle.report_rules.specs.declared.report.ReplyState.{ReplyState}
use Rattle.report_rules.specs.declared.report.ReplyState.TheVariants.{Conflict}
use Rattle.program_defs.specs.declared.script.Script.{Script}
use Rattle.report_rules.specs.RightReport.{is_committed_and_names}
use Rattle.report_rules.specs.Lookups.{are_both, committed_number, same_session, request_names_vertex, stamp_at, given_pairs, RequestPrecedes}

-- one request precedes another, both begun
abbrev pub request_precedes : Report → ℕ → ℕ → Bool
request_precedes report a b = are_both (precedes (given_pairs report)) (stamp_at report a) (stamp_at report b)

-- no two begun requests have the same stamp
abbrev pub StampsDiffer : Report → Type 0
StampsDiffer report = (a b : ℕ) (s : Stamp) → stamp_at report a ≡ Some s → stamp_at report b ≡ Some s → a ≡ b

-- no begun request precedes itself
abbrev pub NonePrecedesItself : Report → Type 0
NonePrecedesItself report = (r : ℕ) → ¬ RequestPrecedes report r r

-- the stamp of a reply of the list
abbrev pub stamp_in : List Reply → ℕ → Option Stamp
stamp_in replies r = option_and_then (λ (reply : Reply). reply.stamp) (slice_get replies r)

-- the pair joins these two, and both its ends are begun
abbrev pub is_pair_between : List Reply → ℕ → ℕ → Pair → Bool
is_pair_between replies a b pair =
    (a == pair.earlier && b == pair.later)
    && (is_some (stamp_in replies pair.earlier) && is_some (stamp_in replies pair.later))

-- a pair of the list joins these two
abbrev pub pairs_lead : List Reply → List Pair → ℕ → ℕ → Bool
pairs_lead replies pairs a b = list_any (is_pair_between replies a b) pairs

-- the commit numbers in replies. No public contract cites this.
abbrev pub numbers_in : List Reply → List ℕ
numbers_in replies = filter_map (λ (reply : Reply). committed_number reply.state) replies

-- one request's stamp is before the other's, both begun
abbrev pub is_request_before : Report → ℕ → ℕ → Bool
is_request_before report a b = are_both stamp_before (stamp_at report a) (stamp_at report b)

-- by this precedence, the newer request of a conflict is a committed transaction of another session, both name the
-- vertex, and the aborted one precedes it. No public contract cites this.
abbrev pub is_conflict_in_place : Script → Report → (ℕ → ℕ → Bool) → ℕ → ReplyState → Bool
is_conflict_in_place script report precedence r (Conflict v newer) =
    is_committed_and_names script report v newer && not (same_session script r newer) && request_names_vertex script r v
    && precedence r newer
is_conflict_in_place script report precedence r _ = true
