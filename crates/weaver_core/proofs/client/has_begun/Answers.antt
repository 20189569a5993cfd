use Rattle.std.proofs.Common.{ℕ, Bool, Option, sym, ap, ◌∙◌}
use Rattle.std.specs.Prelude.{nat_le, option_copied}
use Rattle.report_rules.specs.Lookups.{is_some_and}
use Rattle.weave_entries.specs.declared.session_log.SessionEntry.{SessionEntry}
use Rattle.weaver_core.specs.Sessions.{request_by}
use Rattle.weaver_core.proofs.client.has_begun.Goals as goal

abbrev at-most : ℕ → Option SessionEntry → Bool
at-most r o = is_some_and (λ (entry : SessionEntry). nat_le r (request_by entry.deed)) o

pub returns-in-Some : goal.returns-in-Some
returns-in-Some c = ap (nat_le c.args.request) c.request_by.ensures ∙ ap (at-most c.args.request) (sym (ap option_copied c.in-Some.is) ∙ c.last.ensures.value)

pub returns-in-None : goal.returns-in-None
returns-in-None c = ap (at-most c.args.request) (sym (ap option_copied c.in-None.is) ∙ c.last.ensures.value)
