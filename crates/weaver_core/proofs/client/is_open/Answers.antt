use Rattle.std.proofs.Common.{ℕ, Bool, Option, sym, ap, ◌∙◌}
use Rattle.std.specs.Prelude.{option_copied}
use Rattle.report_rules.specs.Lookups.{is_some_and}
use Rattle.weave_entries.specs.declared.session_log.SessionEntry.{SessionEntry}
use Rattle.weaver_core.specs.Sessions.{is_begin_of}
use Rattle.weaver_core.proofs.client.is_open.Goals as goal

abbrev begins-it : ℕ → Option SessionEntry → Bool
begins-it r o = is_some_and (λ (entry : SessionEntry). is_begin_of r entry.deed) o

pub returns-in-Some : goal.returns-in-Some
returns-in-Some c = c.begins.ensures ∙ ap (begins-it c.args.request) (sym (ap option_copied c.in-Some.is) ∙ c.last.ensures.value)

pub returns-in-None : goal.returns-in-None
returns-in-None c = ap (begins-it c.args.request) (sym (ap option_copied c.in-None.is) ∙ c.last.ensures.value)
