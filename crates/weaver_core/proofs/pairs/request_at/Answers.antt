use Rattle.std.proofs.Common.{sym, ap, ◌∙◌}
use Rattle.std.specs.Option.{option_and_then}
use Rattle.std.proofs.lemmas.List.Elements.{Contains-get_or}
use Rattle.std.proofs.lemmas.Option.{slice_get-get_or, slice_get_past}
use Rattle.weaver_core.specs.Reporting.{found_in}
use Rattle.weaver_core.proofs.pairs.request_at.Goals as goal

pub request_of-requires : goal.request_of-requires
request_of-requires c = c.requires _ (Contains-get_or c.args.events.now c.args.place _ c.if-place-events.true)

pub returns-then-place-events : goal.returns-then-place-events
returns-then-place-events c =
    c.request_of.ensures ∙ sym (ap (option_and_then (found_in c.args.requests.now.entries)) (slice_get-get_or c.args.events.now c.args.place _ c.if-place-events.true))

pub returns-else-place-events : goal.returns-else-place-events
returns-else-place-events c = sym (ap (option_and_then (found_in c.args.requests.now.entries)) (slice_get_past c.args.events.now c.args.place c.if-place-events.false))
