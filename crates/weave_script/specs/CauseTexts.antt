-- The texts of causes.
use Rattle.std.specs.Prelude.{codes}
use Rattle.weave_text.specs.Lines.{Word}
use Rattle.weave_script.specs.declared.fault.Cause.{Cause}
use Rattle.weave_script.specs.declared.fault.Cause.TheVariants.{TooLong, Header, Gatekeepers, Shards, Line, Name, Number, Session, Gatekeeper, Shard, Bound, Taken, Request, Operations, Requests, Programs, Gets, Vertices, Steps, Stamp, End}

-- the word of a cause
abbrev pub cause_text : Cause → Word
cause_text TooLong = codes "too_long"
cause_text Header = codes "header"
cause_text Gatekeepers = codes "gatekeepers"
cause_text Shards = codes "shards"
cause_text Line = codes "line"
cause_text Name = codes "name"
cause_text Number = codes "number"
cause_text Session = codes "session"
cause_text Gatekeeper = codes "gatekeeper"
cause_text Shard = codes "shard"
cause_text Bound = codes "bound"
cause_text Taken = codes "taken"
cause_text Request = codes "request"
cause_text Operations = codes "operations"
cause_text Requests = codes "requests"
cause_text Programs = codes "programs"
cause_text Gets = codes "gets"
cause_text Vertices = codes "vertices"
cause_text Steps = codes "steps"
cause_text Stamp = codes "stamp"
cause_text End = codes "end"
