-- Of which requests a hand asked the oracle since a phase began.
use Rattle.std.specs.Prelude.{◌≡◌, ℕ, List, ◌++◌, Contains}
use Rattle.vector_stamp.specs.declared.clock.Stamp.{Stamp}
use Rattle.weave_entries.specs.declared.oracle_log.OracleEntry.{OracleEntry}
use Rattle.weave_entries.specs.GateReplay.{BegunRequest, begun_in}
use Rattle.weave_entries.specs.OracleReplay.{settled_entry}
use Rattle.weave_account.specs.Account.{gate_log}
use Rattle.seen_logs.specs.Seen.{entries_since}
use Rattle.weaver_locks.specs.declared.hand.Hand.{Hand}
use Rattle.weaver_locks.specs.declared.shared.Shared.{Shared}
use Rattle.weaver_locks.specs.Hands.{hand_number, made_by, seen_by}
use Rattle.weaver_locks.specs.Locks.{start_of}
use Rattle.weaver_workers.specs.ClientWork.{Stand}

-- the stamp is that of a request that the hand began since the start
pub record IsBegunSince (shared : Shared) (hand : Hand) (stamp : Stamp) : Type 0 where
  pub home : ℕ
  pub begun : BegunRequest
  pub there : Contains (begun_in (entries_since (gate_log (start_of shared) home) (gate_log (seen_by hand) home))) begun
  pub own : begun.author ≡ hand_number hand
  pub stamp_is : begun.stamp ≡ stamp

-- each entry that the hand has added to the oracle's log puts events before such a request
abbrev pub AsksForOwn : Shared → Stand → Stand → Type 0
AsksForOwn shared from at = (gained : List OracleEntry)
    → (made_by at.hand).oracle ≡ (made_by from.hand).oracle ++ gained
    → (entry : OracleEntry) → Contains gained entry → IsBegunSince shared at.hand (settled_entry entry).later
