use Rattle.std.proofs.Common.{refl, sym, ◌∙◌}
use Rattle.weaver_core.proofs.beginning.begin_one.Goals as goal

pub returns-in-Twice-clause-begins : goal.returns-in-Twice-clause-begins
returns-in-Twice-clause-begins c = (sym c.standing.ensures.standing ∙ c.in-Twice.is, refl, refl)

pub returns-in-Early-clause-begins : goal.returns-in-Early-clause-begins
returns-in-Early-clause-begins c = (sym c.standing.ensures.standing ∙ c.in-Early.is, refl, refl)

pub begin_next-requires-clause-next : goal.begin_next-requires-clause-next
begin_next-requires-clause-next c = sym c.standing.ensures.standing ∙ c.in-Next.is

pub begin_next-requires-clause-turn : goal.begin_next-requires-clause-turn
begin_next-requires-clause-turn c = c.standing.ensures.next c.in-Next.is
