use Rattle.std.proofs.Common.{Option, sym, ap, ◌∙◌}
use Rattle.std.specs.Option.{option_map}
use Rattle.std.specs.Prelude.{◌==◌}
use Rattle.gatekeeper.specs.Opened.{as_begun}
use Rattle.report_rules.specs.Lookups.{is_some_and}
use Rattle.weave_entries.specs.GateReplay.{BegunRequest}
use Rattle.weaver_core.proofs.giving_replies.flies.Goals as goal

pub returns-in-Some : goal.returns-in-Some
returns-in-Some c = ap (λ (o : Option BegunRequest). is_some_and (λ (flight : BegunRequest). flight.request == c.args.request) o) (sym (ap (option_map as_begun) c.in-Some.is) ∙ c.flight.ensures)

pub returns-in-None : goal.returns-in-None
returns-in-None c = ap (λ (o : Option BegunRequest). is_some_and (λ (flight : BegunRequest). flight.request == c.args.request) o) (sym (ap (option_map as_begun) c.in-None.is) ∙ c.flight.ensures)
