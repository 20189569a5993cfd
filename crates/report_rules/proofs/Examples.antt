-- Words for worked examples.
-- Used by NoText, OneSession, OneThingWrong, ThreeGatekeepers, TwoSessions, WithPrograms and 5 crates above.
use Rattle.std.proofs.Common.{ℕ, List, [], ◌++◌, Some, None}
use Rattle.std.specs.Prelude.{codes, replicate, ◌-◌, length}
use Rattle.vector_stamp.specs.declared.clock.Stamp.{Stamp}
use Rattle.weave_data.specs.declared.name.Name.{Name}
use Rattle.graph_ops.specs.declared.op.Op.{Op}
use Rattle.graph_ops.specs.declared.record.Record.{Record}
use Rattle.program_defs.specs.declared.program.Program.{Program}
use Rattle.program_defs.specs.declared.script.Script.{Script}
use Rattle.program_defs.specs.declared.script.Request.{Request}
use Rattle.program_defs.specs.declared.script.Work.TheVariants.{Change, Look}
use Rattle.report_rules.specs.declared.report.Report.{Report}
use Rattle.report_rules.specs.declared.report.Reply.{Reply}
use Rattle.report_rules.specs.declared.report.Pair.{Pair}
use Rattle.report_rules.specs.declared.report.ReplyState.{ReplyState}

-- a stamp with these counts, and 0 for the gatekeepers that there aren't
abbrev pub stamp_in : ℕ → ℕ → List ℕ → Stamp
stamp_in epoch home counts = record { home = home; clock = record { epoch = epoch; counts = counts ++ replicate (8 - length counts) 0 } }

-- a stamp of epoch 0
abbrev pub stamp : ℕ → List ℕ → Stamp
stamp home counts = stamp_in 0 home counts

abbrev pub transaction : Name → ℕ → ℕ → List Op → Request
transaction name session gate ops = record { name = name; session = session; gate = gate; work = Change ops }

abbrev pub look : Name → ℕ → ℕ → Program → Request
look name session gate program = record { name = name; session = session; gate = gate; work = Look program }

-- a script with this number of gatekeepers
abbrev pub script_of : ℕ → List Request → Script
script_of gates requests = record { gates = gates; shards = 1; requests = requests; phases = []; steps = None }

abbrev pub reply : ℕ → Stamp → ReplyState → Reply
reply r stamp state = record { request = r; stamp = Some stamp; state = state }

abbrev pub settled : Name → ℕ → ℕ → Pair
settled v earlier later = record { vertex = v; earlier = earlier; later = later }

abbrev pub report_of : List Reply → List Pair → List ℕ → Report
report_of replies pairs order = record { replies = replies; pairs = pairs; order = order; answers = [] }

abbrev pub empty_record : Record
empty_record = record { props = []; edges = [] }

abbrev pub t1 : Name
t1 = codes "t1"

abbrev pub t2 : Name
t2 = codes "t2"

abbrev pub v : Name
v = codes "v"

abbrev pub w : Name
w = codes "w"

abbrev pub k : Name
k = codes "k"

abbrev pub x : Name
x = codes "x"
