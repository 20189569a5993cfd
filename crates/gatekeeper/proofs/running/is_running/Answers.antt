use Rattle.std.proofs.Common.{ap, ◌∙◌, is_some}
use Rattle.weave_entries.specs.GateReplay.{is_begun}
use Rattle.gatekeeper.proofs.Programs.{any_met}
use Rattle.gatekeeper.proofs.running.is_running.Goals as goal

pub returns : goal.returns
returns c = λ programs holds. c.contains_key.ensures ∙ ap is_some (holds (c.args.author, c.args.request)) ∙ any_met (is_begun c.args.author c.args.request) programs
