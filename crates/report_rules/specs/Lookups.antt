-- What a script and a report say of a request. Requests are numbered from 0.
use Rattle.std.specs.Prelude.{ℕ, Bool, true, false, nat_eq, ◌==◌, IsTrue, List, length, Option, Some, None, is_some, slice_get}
use Rattle.std.specs.List.{filter_map, list_any, AllByRecursion}
use Rattle.std.specs.Option.{option_and_then, option_map_or}
use Rattle.vector_stamp.specs.declared.clock.Stamp.{Stamp}
use Rattle.vector_stamp.specs.Precedence.{GivenPair, Precedes}
use Rattle.weave_data.specs.declared.name.Name.{Name}
use Rattle.graph_ops.specs.Mentions.{named_by, is_among}
use Rattle.program_defs.specs.declared.script.Script.{Script}
use Rattle.program_defs.specs.declared.script.Request.{Request}
use Rattle.program_defs.specs.declared.script.Work.{Work}
use Rattle.program_defs.specs.declared.script.Work.TheVariants.{Change, Look}
use Rattle.program_defs.specs.Works.{is_look}
use Rattle.report_rules.specs.declared.report.Report.{Report}
use Rattle.report_rules.specs.declared.report.Reply.{Reply}
use Rattle.report_rules.specs.declared.report.Pair.{Pair}
use Rattle.report_rules.specs.declared.report.ReplyState.{ReplyState}
use Rattle.report_rules.specs.declared.report.ReplyState.TheVariants.{Unbegun, Begun, Committed, Conflict, Refused, Finished}

-- whether the number is one of the list
abbrev pub is_in : ℕ → List ℕ → Bool
is_in n = list_any (nat_eq n)

module _ {A : Type 0} where
  -- a value is there, and passes
  abbrev pub is_some_and : (A → Bool) → Option A → Bool
  is_some_and test None = false
  is_some_and test (Some x) = test x

  -- if a value is there, it passes
  abbrev pub is_none_or : (A → Bool) → Option A → Bool
  is_none_or test None = true
  is_none_or test (Some x) = test x

  module _ {B : Type 0} where
    -- both are there, and the test holds of them
    abbrev pub are_both : (A → B → Bool) → Option A → Option B → Bool
    are_both test (Some x) (Some y) = test x y
    are_both test _ _ = false

    -- both are there, and this is true of them
    abbrev pub AreBoth : (A → B → Type 0) → Option A → Option B → Type 0
    AreBoth Relates (Some x) (Some y) = Relates x y
    AreBoth Relates _ _ = ⊥

-- Of the script

-- request r
abbrev pub request_at : Script → ℕ → Option Request
request_at script r = slice_get script.requests r

-- whether the request is a program; one that the script doesn't have is none
abbrev pub is_program : Script → ℕ → Bool
is_program script r = option_map_or (λ (request : Request). is_look request.work) (request_at script r) false

-- the two requests are of one session
abbrev pub same_session : Script → ℕ → ℕ → Bool
same_session script a b =
    are_both (λ (x : Request) (y : Request). x.session == y.session) (request_at script a) (request_at script b)

-- the work is a transaction that names the vertex
abbrev pub work_names : Name → Work → Bool
work_names v (Change ops) = is_among (named_by ops) v
work_names v (Look program) = false

-- the request is a transaction that names the vertex
abbrev pub request_names_vertex : Script → ℕ → Name → Bool
request_names_vertex script r v = is_some_and (λ (request : Request). work_names v request.work) (request_at script r)

-- Of the report

-- reply r, which in a right report is that of request r
abbrev pub reply_at : Report → ℕ → Option Reply
reply_at report r = slice_get report.replies r

-- the stamp of a request, which is begun if it has one
abbrev pub stamp_at : Report → ℕ → Option Stamp
stamp_at report r = option_and_then (λ (reply : Reply). reply.stamp) (reply_at report r)

-- the commit number
abbrev pub committed_number : ReplyState → Option ℕ
committed_number (Committed number answers) = Some number
committed_number _ = None

-- the commit numbers in the replies
abbrev pub commit_numbers : Report → List ℕ
commit_numbers report = filter_map (λ (reply : Reply). committed_number reply.state) report.replies

-- how many transactions are committed
abbrev pub commits : Report → ℕ
commits report = length (commit_numbers report)

-- the request is a committed transaction
abbrev pub is_committed : Report → ℕ → Bool
is_committed report r = is_some_and (λ (reply : Reply). is_some (committed_number reply.state)) (reply_at report r)

-- a committed transaction, or a finished program
abbrev pub is_committed_or_finished : ReplyState → Bool
is_committed_or_finished (Committed number answers) = true
is_committed_or_finished (Finished answer) = true
is_committed_or_finished _ = false

-- the order may list the request
abbrev pub may_be_listed : Report → ℕ → Bool
may_be_listed report r = is_some_and (λ (reply : Reply). is_committed_or_finished reply.state) (reply_at report r)

-- committed, aborted or finished
abbrev pub is_final : ReplyState → Bool
is_final Unbegun = false
is_final Begun = false
is_final (Committed number answers) = true
is_final (Conflict v newer) = true
is_final (Refused op reason at) = true
is_final (Finished answer) = true

-- no reply is unbegun or merely begun
abbrev pub EveryReplyIsFinal : Report → Type 0
EveryReplyIsFinal report = AllByRecursion (λ (reply : Reply). IsTrue (is_final reply.state)) report.replies

-- Precedence

-- a pair as stamps; with an end that isn't begun it joins nothing
abbrev pub given_by : Option Stamp → Option Stamp → Option GivenPair
given_by (Some earlier) (Some later) = Some (earlier, later)
given_by _ _ = None

-- the pairs of the report, as stamps
abbrev pub given_pairs : Report → List GivenPair
given_pairs report =
    filter_map (λ (pair : Pair). given_by (stamp_at report pair.earlier) (stamp_at report pair.later)) report.pairs

-- both requests are begun, finished or not, and the first precedes the second by the order of stamps and the pairs
abbrev pub RequestPrecedes : Report → ℕ → ℕ → Type 0
RequestPrecedes report a b = AreBoth (Precedes (given_pairs report)) (stamp_at report a) (stamp_at report b)
