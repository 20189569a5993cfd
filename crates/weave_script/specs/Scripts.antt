-- Scripts that have a text.
use Rattle.std.specs.Prelude.{◌≡◌, ◌≤◌, ◌<◌, ℕ, Bool, List, [], ◌∷◌, length, Option, Some, None}
use Rattle.std.specs.List.{AllByRecursion, IsDistinct}
use Rattle.weave_data.specs.Names.{same_name}
use Rattle.weave_data.specs.Limits.{last_session, most_bound, most_epoch, most_gates, most_notice, most_ops, most_shards}
use Rattle.graph_ops.specs.Operations.{op_fields, version_1_op}
use Rattle.graph_ops.specs.declared.op.Op.{Op}
use Rattle.program_defs.specs.declared.program.Filter.{Filter}
use Rattle.program_defs.specs.declared.program.Program.{Program}
use Rattle.program_defs.specs.declared.program.Program.TheVariants.{Show, Reach, Around, Path, Price}
use Rattle.program_defs.specs.declared.script.Request.{Request}
use Rattle.program_defs.specs.declared.script.Script.{Script}
use Rattle.program_defs.specs.declared.script.Step.{Step}
use Rattle.program_defs.specs.declared.script.Step.TheVariants.{Begin, Judge, Send, Say, Hear, Nop, Deliver, Apply, Visit, Reply, Collect, Epoch, Restart}
use Rattle.program_defs.specs.declared.script.Work.{Work}
use Rattle.program_defs.specs.declared.script.Work.TheVariants.{Change, Look}
use Rattle.program_defs.specs.Works.{ops_of}
pub use Rattle.weave_report.specs.TextOf.{IsName, request_names}
use Rattle.weave_script.specs.Limits.{over_limit, counts_of_script}
use Rattle.weave_script.specs.Ops.{op_in}

-- every field is a name
abbrev pub IsOperation : Op → Type 0
IsOperation op = AllByRecursion IsName (op_fields op)

-- the version (2 if `joins`) has the operation
abbrev pub IsOfVersion : Bool → Op → Type 0
IsOfVersion joins op = op_in (version_1_op op) joins ≡ op

-- and each operation of a request
abbrev pub IsRequestOf : Bool → Request → Type 0
IsRequestOf joins request = AllByRecursion (IsOfVersion joins) (ops_of request.work)

-- names, if there is a filter
abbrev pub IsFilter : Option Filter → Type 0
IsFilter None = Unit {0}
IsFilter (Some filter) = IsName filter.key × IsName filter.value

-- names, and a bound of at most 1,000
abbrev pub IsProgram : Program → Type 0
IsProgram (Show v) = IsName v
IsProgram (Reach from to pass) = IsName from × IsName to × IsFilter pass
IsProgram (Around from bound pass) = IsName from × (bound ≤ most_bound) × IsFilter pass
IsProgram (Path from to bound pass) = IsName from × IsName to × (bound ≤ most_bound) × IsFilter pass
IsProgram (Price from to key) = IsName from × IsName to × IsName key

-- a program, or at most 64 operations
abbrev pub IsWork : Work → Type 0
IsWork (Change ops) = AllByRecursion IsOperation ops × (length ops ≤ most_ops)
IsWork (Look program) = IsProgram program

-- a request of a session 0 to 63 at one of `gates` gatekeepers
pub record IsRequest (gates : ℕ) (request : Request) : Type 0 where
  pub name : IsName request.name
  pub session : request.session ≤ last_session
  pub gate : request.gate < gates
  pub work : IsWork request.work

-- a number of a notice or a message
abbrev pub IsNotice : ℕ → Type 0
IsNotice n = (1 ≤ n) × (n ≤ most_notice)

-- a step in a script with these numbers of gatekeepers, shards and requests
abbrev pub IsStep : ℕ → ℕ → ℕ → Step → Type 0
IsStep gates shards requests (Begin request) = request < requests
IsStep gates shards requests (Judge gate) = gate < gates
IsStep gates shards requests (Send gate) = gate < gates
IsStep gates shards requests (Say gate) = gate < gates
IsStep gates shards requests (Hear gate notice) = (gate < gates) × IsNotice notice
IsStep gates shards requests (Nop gate shard) = (gate < gates) × (shard < shards)
IsStep gates shards requests (Deliver gate shard number) = (gate < gates) × (shard < shards) × IsNotice number
IsStep gates shards requests (Apply shard gate) = (shard < shards) × (gate < gates)
IsStep gates shards requests (Visit request) = request < requests
IsStep gates shards requests (Reply request) = request < requests
IsStep gates shards requests (Collect shard) = shard < shards
IsStep gates shards requests (Epoch gate epoch) = (gate < gates) × (1 ≤ epoch) × (epoch ≤ most_epoch)
IsStep gates shards requests (Restart gate epoch) = (gate < gates) × (1 ≤ epoch) × (epoch ≤ most_epoch)

-- each number is at least the one before it, the first is at least `low`, and all are at most `high`
abbrev pub RiseTo : ℕ → ℕ → List ℕ → Type 0
RiseTo low high [] = Unit {0}
RiseTo low high (n ∷ ns) = (low ≤ n) × (n ≤ high) × RiseTo n high ns

-- the steps that a script has
abbrev pub steps_of : Option (List Step) → List Step
steps_of None = []
steps_of (Some steps) = steps

-- Everything is in its range, no two requests have the same name, phases are before, between and after requests in
-- their order, no limit is met, and one version has all operations: in version 2 (if `joins`) links are joins.
pub record IsScript (script : Script) : Type 0 where
  pub gates : (1 ≤ script.gates) × (script.gates ≤ most_gates)
  pub shards : (1 ≤ script.shards) × (script.shards ≤ most_shards)
  pub requests : AllByRecursion (IsRequest script.gates) script.requests
  pub distinct : IsDistinct same_name (request_names script.requests)
  pub phases : RiseTo 0 (length script.requests) script.phases
  pub steps : AllByRecursion (IsStep script.gates script.shards (length script.requests)) (steps_of script.steps)
  pub within : over_limit (counts_of_script 0 script.requests (length (steps_of script.steps))) ≡ None
  pub joins : Bool
  pub version : AllByRecursion (IsRequestOf joins) script.requests
