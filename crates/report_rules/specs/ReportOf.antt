-- What it is to be the report of some text for a script. The types of reports have more values, which no text gives. Of
-- a value of the program the types say besides that its names are names, that numbers other than a stamp's are within
-- their ranges, and that keys rise.
use Rattle.std.specs.Prelude.{ℕ, Bool, true, false, ◌+◌, ◌&&◌, nat_lt, ◌==◌, ◌≡◌, IsTrue, List, [], ◌∷◌, length, map, drop, Option, Some, None, IsSomeAnd, ⊤, if◌then◌else◌}
use Rattle.std.specs.List.{list_all, AllByRecursion}
use Rattle.weave_data.specs.Limits.{most_gates}
use Rattle.weave_data.specs.declared.name.Name.{Name}
use Rattle.vector_stamp.specs.declared.clock.Stamp.{Stamp}
use Rattle.vector_stamp.specs.Order.{has_64_bits}
use Rattle.graph_ops.specs.Operations.{is_get}
use Rattle.graph_ops.specs.declared.op.Op.{Op}
use Rattle.graph_ops.specs.declared.tx.Got.{Got}
use Rattle.program_defs.specs.declared.program.Program.{Program}
use Rattle.program_defs.specs.declared.program.Program.TheVariants.{Show, Reach, Around, Path, Price}
use Rattle.program_defs.specs.declared.program.Answer.{Answer}
use Rattle.program_defs.specs.declared.program.Answer.TheVariants.{Shown, Reached, Found, Walk, Priced}
use Rattle.program_defs.specs.declared.program.Bound.{Bound}
use Rattle.program_defs.specs.declared.script.Script.{Script}
use Rattle.program_defs.specs.Rising.{is_rising}
use Rattle.program_defs.specs.declared.script.Request.{Request}
use Rattle.program_defs.specs.declared.script.Work.{Work}
use Rattle.program_defs.specs.declared.script.Work.TheVariants.{Change, Look}
use Rattle.report_rules.specs.declared.report.Report.{Report}
use Rattle.report_rules.specs.declared.report.Reply.{Reply}
use Rattle.report_rules.specs.declared.report.Pair.{Pair}
use Rattle.report_rules.specs.declared.report.ReplyState.{ReplyState}
use Rattle.report_rules.specs.declared.report.ReplyState.TheVariants.{Unbegun, Begun, Committed, Conflict, Refused, Finished}
use Rattle.report_rules.specs.Lookups.{is_none_or, request_at}

-- the number is that of a request of the script
abbrev pub is_request_of : Script → ℕ → Bool
is_request_of script r = nat_lt r (length script.requests)

-- a stamp's home is a gatekeeper of the script; there are eight counts, of which those past the number of gatekeepers
-- are 0; its numbers have 64 bits
abbrev pub is_stamp_of : Script → Stamp → Bool
is_stamp_of script stamp =
    nat_lt stamp.home script.gates && (length stamp.clock.counts == most_gates)
    && list_all (λ count. count == 0) (drop script.gates stamp.clock.counts)
    && has_64_bits stamp.clock

-- the numbers of the `get`s among operations, of which the first has this number
abbrev pub numbers_of_gets : ℕ → List Op → List ℕ
numbers_of_gets number [] = []
numbers_of_gets number (op ∷ ops) =
    if is_get op then number ∷ numbers_of_gets (number + 1) ops else numbers_of_gets (number + 1) ops

-- there is one answer for each `get`, in order
abbrev pub AnswersEachGet : List Op → List Got → Type 0
AnswersEachGet ops answers = map (λ (got : Got). got.op) answers ≡ numbers_of_gets 1 ops

-- there is a walk with its price, or none with total 0
abbrev pub is_total : Option (List Name) → ℕ → Bool
is_total (Some walk) total = true
is_total None total = total == 0

-- the answer has the form that the program's answers have; the vertices with prices rise
abbrev pub has_form_for : Program → Answer → Bool
has_form_for (Show v) (Shown state) = true
has_form_for (Reach from to pass) (Reached reached) = true
has_form_for (Around from bound pass) (Found vertices) = true
has_form_for (Path from to bound pass) (Walk walk) = true
has_form_for (Price from to key) (Priced walk total bounds) =
    is_total walk total && is_rising (map (λ (bound : Bound). bound.vertex) bounds)
has_form_for _ _ = false

-- A line can say this of the work, with or without a stamp. Without one it says `unbegun`; with one it says of a
-- transaction that it is begun, committed, aborted by a conflict or refused, and of a program that it is running or
-- done.
abbrev pub MatchesWork : Script → Work → Option Stamp → ReplyState → Type 0
MatchesWork script work None Unbegun = ⊤
MatchesWork script work (Some stamp) Begun = ⊤
MatchesWork script (Change ops) (Some stamp) (Committed number answers) = AnswersEachGet ops answers
MatchesWork script (Change ops) (Some stamp) (Conflict v newer) = IsTrue (is_request_of script newer)
MatchesWork script (Change ops) (Some stamp) (Refused op reason at) = ⊤
MatchesWork script (Look program) (Some stamp) (Finished answer) = IsTrue (has_form_for program answer)
MatchesWork script _ _ _ = ⊥

-- a reply is of a request of the script, its stamp is one of the script's, and a line can say it of the request's work
abbrev pub IsReplyOf : Script → Reply → Type 0
IsReplyOf script reply =
    IsTrue (is_none_or (is_stamp_of script) reply.stamp)
    × IsSomeAnd (request_at script reply.request)
    (λ (request : Request). MatchesWork script request.work reply.stamp reply.state)

-- a pair is of two requests of the script
abbrev pub IsPairOf : Script → Pair → Type 0
IsPairOf script pair = IsTrue (is_request_of script pair.earlier && is_request_of script pair.later)

-- the report of some text for this script: its replies, its pairs and its order speak of the script's requests in the
-- forms of lines; the answers of steps are free
pub record IsReportOf (script : Script) (report : Report) : Type 0 where
  pub replies : AllByRecursion (IsReplyOf script) report.replies
  pub pairs : AllByRecursion (IsPairOf script) report.pairs
  pub order : AllByRecursion (λ r. IsTrue (is_request_of script r)) report.order
