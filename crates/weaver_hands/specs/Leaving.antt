-- What hands' calls leave as it was.
use Rattle.std.specs.Prelude.{◌≡◌, ℕ, Contains}
use Rattle.weave_entries.specs.declared.gate_log.GateEntry.{GateEntry}
use Rattle.weave_entries.specs.declared.gate_log.GateDeed.TheVariants.{Finished}
use Rattle.weave_account.specs.Account.{gate_log, shard_log}
use Rattle.weave_account.specs.GoesOn.{visits_by}
use Rattle.seen_logs.specs.Seen.{IsWithin}
use Rattle.weaver_locks.specs.declared.hand.Hand.{Hand}
use Rattle.weaver_locks.specs.Hands.{hand_number, made_by, seen_by}

-- The hand made no entry, and has seen no less than before.
pub record MadeNone (old new : Hand) : Type 0 where
  pub number : hand_number new ≡ hand_number old
  pub made : made_by new ≡ made_by old
  pub more : IsWithin (seen_by old) (seen_by new)

-- The hand made no visit for this request, and has seen no less than before.
pub record MakesNoVisit (old new : Hand) (r : ℕ) : Type 0 where
  pub number : hand_number new ≡ hand_number old
  pub more : IsWithin (seen_by old) (seen_by new)
  pub visits : (shard : ℕ) → visits_by r (shard_log (made_by new) shard) ≡ visits_by r (shard_log (made_by old) shard)

-- It did not finish the request either.
pub record LeavesAlone (old new : Hand) (r : ℕ) : Type 0 where
  pub unvisited : MakesNoVisit old new r
  pub finished : (home : ℕ) (entry : GateEntry) → Contains (gate_log (made_by new) home) entry → entry.deed ≡ Finished r
      → Contains (gate_log (made_by old) home) entry
