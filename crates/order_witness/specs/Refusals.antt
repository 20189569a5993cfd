-- Refusals: which replies are refused as they say, after the number of commits that they say.
-- No public contract cites this.
use Rattle.std.specs.Prelude.{◌≡◌, ◌≤◌, ℕ, Bool, true, false, ◌&&◌, ◌==◌, List, Option, Some, None, ⊤, MatchBool, slice_get, slice_index_or, map}
use Rattle.std.specs.List.{filter}
use Rattle.graph_ops.specs.PlainGraph.{PlainGraph}
use Rattle.graph_ops.specs.declared.op.Reason.{Reason}
use Rattle.program_defs.specs.declared.script.Script.{Script}
use Rattle.program_defs.specs.declared.script.Request.{Request}
use Rattle.report_rules.specs.declared.report.Report.{Report}
use Rattle.report_rules.specs.declared.report.Reply.{Reply}
use Rattle.report_rules.specs.declared.report.ReplyState.{ReplyState}
use Rattle.report_rules.specs.declared.report.ReplyState.TheVariants.{Refused}
use Rattle.report_rules.specs.Lookups.{AreBoth, is_some_and, request_at, committed_number, commits}
use Rattle.report_rules.specs.Replay.{IsWorkRefused, graph_of_commits}
use Rattle.report_rules.specs.RightReport.{stands_among_commits}

-- on this graph, if it is there, the request is refused at this operation for this reason
abbrev pub IsRefusedOn : Option PlainGraph → Option Request → ℕ → Reason → Type 0
IsRefusedOn graph request op reason = AreBoth (λ g (r : Request). IsWorkRefused g r.work op reason) graph request

-- a request whose reply says that it is refused is refused as said on this graph
abbrev pub IsRefusedSo : Script → Option PlainGraph → ℕ → ReplyState → Type 0
IsRefusedSo script graph r (Refused op reason at) = IsRefusedOn graph (request_at script r) op reason
IsRefusedSo script graph r _ = ⊤

-- the mark says whether the fact holds
abbrev pub Marks : Bool → Type 0 → Type 0
Marks mark Fact = MatchBool mark Fact (¬ Fact)

-- of a request that is refused after this number of commits the new mark says whether this graph refuses it as said;
-- the mark of any other stays. No public contract cites this.
abbrev pub IsMarkedOn : Script → PlainGraph → ℕ → ℕ → ReplyState → Bool → Bool → Type 0
IsMarkedOn script graph after r (Refused op reason at) old new =
    MatchBool (at == after) (Marks new (IsRefusedOn (Some graph) (request_at script r) op reason)) (new ≡ old)
IsMarkedOn script graph after r _ old new = new ≡ old

-- the marks of all replies change like this. No public contract cites this.
abbrev pub AreMarkedOn : Script → PlainGraph → ℕ → List Reply → List Bool → List Bool → Type 0
AreMarkedOn script graph after replies old new =
    (place : ℕ) (reply : Reply) → slice_get replies place ≡ Some reply
    → IsMarkedOn script graph after reply.request reply.state
    (slice_index_or old place false) (slice_index_or new place false)

-- after how many commits a request is refused
abbrev pub refused_after : ReplyState → Option ℕ
refused_after (Refused op reason at) = Some at
refused_after _ = None

-- the marks of those that are refused after at most this number of commits say whether they are refused there as said
abbrev pub AreMarkedUpTo : ℕ → Script → Report → List Bool → Type 0
AreMarkedUpTo most script report marks =
    (place at : ℕ) (reply : Reply) → slice_get report.replies place ≡ Some reply → refused_after reply.state ≡ Some at
    → at ≤ most
    → Marks (slice_index_or marks place false)
    (IsRefusedSo script (graph_of_commits script report at) reply.request reply.state)

-- the marks of those that are refused after some of the commits
abbrev pub AreMarked : Script → Report → List Bool → Type 0
AreMarked script report marks = AreMarkedUpTo (commits report) script report marks

-- a refusal's number of commits is in order, and by its mark the request is refused after them.
-- No public contract cites this.
abbrev pub is_refusal_in_place : Script → Report → ℕ → ReplyState → Bool → Bool
is_refusal_in_place script report r (Refused op reason at) mark = stands_among_commits script report r at && mark
is_refusal_in_place script report r _ mark = true

-- the requests of a list of replies with this commit number. No public contract cites this.
abbrev pub numbered_in : ℕ → List Reply → List ℕ
numbered_in number replies =
    map (λ (reply : Reply). reply.request)
    (filter (λ (reply : Reply). is_some_and (λ n. n == number) (committed_number reply.state)) replies)

-- the graph that was to come is there, and is this one; or there is none
abbrev pub IsExpectedGraph : Option PlainGraph → PlainGraph → Bool → Type 0
IsExpectedGraph expected now there = MatchBool there (expected ≡ Some now) (expected ≡ None)
