use Rattle.std.proofs.Common.{refl, sym, ◌∙◌}
use Rattle.weaver_core.proofs.clocks.hear_in.Goals as goal

pub returns-in_default-clause-hears : goal.returns-in_default-clause-hears
returns-in_default-clause-hears c = (refl, sym c.notice_at.ensures ∙ c.in_default.is)

pub returns-clause-hears : goal.returns-clause-hears
returns-clause-hears c = record { clock = c.in-Some.clock; notice_is = sym c.notice_at.ensures ∙ c.in-Some.is; adds = c.in_ok-hear.ensures.heard }
