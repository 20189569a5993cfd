use Rattle.std.proofs.Common.{ℕ, Option, sym, ap, ◌∙◌}
use Rattle.std.specs.Prelude.{option_copied}
use Rattle.std.specs.Option.{option_and_then}
use Rattle.vector_stamp.specs.declared.clock.Stamp.{Stamp}
use Rattle.weave_entries.specs.declared.session_log.SessionEntry.{SessionEntry}
use Rattle.weaver_core.specs.Splitting.{begun_by_session}
use Rattle.weaver_core.proofs.client.waiting_in.Goals as goal

abbrev begun : Option SessionEntry → Option (ℕ × Stamp)
begun o = option_and_then (λ (entry : SessionEntry). begun_by_session entry.deed) o

pub returns-in-Some : goal.returns-in-Some
returns-in-Some c = c.begun_by.ensures ∙ ap begun (sym (ap option_copied c.in-Some.is) ∙ c.last.ensures.value)

pub returns-in-None : goal.returns-in-None
returns-in-None c = ap begun (sym (ap option_copied c.in-None.is) ∙ c.last.ensures.value)
