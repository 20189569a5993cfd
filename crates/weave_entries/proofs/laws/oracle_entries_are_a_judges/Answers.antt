use Rattle.std.proofs.Common.{◌≡◌, ℕ, refl}
use Rattle.weave_entries.specs.declared.oracle_log.OracleDeed.{OracleDeed}
use Rattle.weave_entries.specs.declared.oracle_log.OracleDeed.TheVariants.{Settled}
use Rattle.weave_entries.specs.OracleReplay.{oracle_entry_of, settled_by}
use Rattle.weave_entries.proofs.laws.oracle_entries_are_a_judges.Goals as goal

deed_back : (author : ℕ) (deed : OracleDeed) → oracle_entry_of (settled_by author deed) ≡ record { author = author; deed = deed }
deed_back author (Settled earlier later places) = refl

pub returns : goal.returns
returns c = record { there = λ entry. refl; back = λ entry. deed_back entry.author entry.deed }
