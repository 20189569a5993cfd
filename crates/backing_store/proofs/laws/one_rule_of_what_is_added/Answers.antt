use Rattle.std.proofs.Common.{◌≡◌, ℕ, List, map, refl}
use Rattle.vector_stamp.specs.declared.clock.Stamp.{Stamp}
use Rattle.vector_stamp.specs.Precedence.{GivenPair}
use Rattle.weave_entries.specs.declared.verdict.Verdict.{Verdict}
use Rattle.weave_entries.specs.declared.verdict.Verdict.TheVariants.{Committed, Conflict, Refused}
use Rattle.weave_entries.specs.OracleReplay.{oracle_entry_of}
use Rattle.weave_entries.specs.StoreRule.{entries_of_settling, settled_if}
use Rattle.backing_store.specs.Commits.{entries_added}
use Rattle.backing_store.proofs.laws.one_rule_of_what_is_added.Goals as goal

both : (verdict : Verdict) (author : ℕ) (pairs : List GivenPair) (earlier : List Stamp) (later : Stamp) → settled_if verdict (entries_of_settling author pairs earlier later) ≡ map oracle_entry_of (entries_added verdict author pairs earlier later)
both (Committed number answers counts) author pairs earlier later = refl
both (Conflict vertex newer) author pairs earlier later = refl
both (Refused op reason at) author pairs earlier later = refl

pub returns : goal.returns
returns c = both
