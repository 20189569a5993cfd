use Rattle.std.proofs.Common.{ℕ, Option, Some, sym, ap, ◌∙◌}
use Rattle.std.specs.Prelude.{option_copied}
use Rattle.std.specs.Option.{option_map}
use Rattle.weave_entries.specs.declared.session_log.SessionEntry.{SessionEntry}
use Rattle.weaver_core.specs.Sessions.{request_by}
use Rattle.weaver_core.proofs.client.last_request.Goals as goal

abbrev named : Option SessionEntry → Option ℕ
named o = option_map (λ (entry : SessionEntry). request_by entry.deed) o

pub returns-in-Some : goal.returns-in-Some
returns-in-Some c = ap Some c.request_by.ensures ∙ ap named (sym (ap option_copied c.in-Some.is) ∙ c.last.ensures.value)

pub returns-in-None : goal.returns-in-None
returns-in-None c = ap named (sym (ap option_copied c.in-None.is) ∙ c.last.ensures.value)
