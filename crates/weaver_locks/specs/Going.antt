-- How the passes of a hand go on in a hold of another lock. No public contract cites this.
use Rattle.std.specs.Prelude.{◌≡◌, ℕ, ◌<◌, List, ◌++◌, length, slice_index_or, Contains}
use mathlib.Core.List.{IsPrefix}
use Rattle.weave_entries.specs.declared.oracle_log.OracleDeed.{OracleDeed}
use Rattle.weave_entries.specs.declared.oracle_log.OracleEntry.{OracleEntry}
use Rattle.seen_logs.specs.Entries.{oracle_pairs}
use Rattle.chronicle.specs.declared.chronicle.Chronicle.{Chronicle}
use Rattle.chronicle.specs.declared.pass.Pass.{Pass}
use Rattle.chronicle.specs.Locks.{Lock, lock_of}
use Rattle.chronicle.specs.Logs.{entries_of}
use Rattle.chronicle.specs.Passes.{IsReady, number_of, seen_by_pass, own_entries}
use Rattle.weaver_locks.specs.declared.hand.Hand.{Hand}
use Rattle.weaver_locks.specs.declared.shared.Shared.{Shared}
use Rattle.weaver_locks.specs.Hands.{hand_number}

module _ {E : Type 0} where
  -- the pass p is q now: it may have seen more, and has the same entries of its own
  pub record GoesOnAs (lock : Lock E) (p q : Pass E) : Type 0 where
    pub ready : IsReady lock q
    pub number : number_of q ≡ number_of p
    pub own_is : own_entries q ≡ own_entries p
    pub more : IsPrefix (seen_by_pass p) (seen_by_pass q)

module _ {M E : Type 0} where
  -- each pass of a row goes on like this
  pub record AllGoOn (locks : List (Chronicle M E)) (before after : List (Pass E)) : Type 0 where
    pub count : length after ≡ length before
    pub each : (k : ℕ) (c : Chronicle M E) (p : Pass E) → k < length locks
        → GoesOnAs (lock_of (slice_index_or locks k c)) (slice_index_or before k p) (slice_index_or after k p)

-- The oracle's log was `settled` in a hold within another lock's, and the hand added these entries of its own there.
pub record AddsToOracle (shared : Shared) (old : Hand) (oracle : Pass OracleDeed) (settled asked : List OracleEntry)
    : Type 0 where
  pub ready : IsReady (lock_of shared.oracle) oracle
  pub number : number_of oracle ≡ hand_number old
  pub found : IsPrefix (seen_by_pass old.oracle) (oracle_pairs settled)
  pub own_is : entries_of (hand_number old) (oracle_pairs settled) ≡ own_entries old.oracle
  pub left : seen_by_pass oracle ≡ oracle_pairs (settled ++ asked)
  pub by : (entry : OracleEntry) → Contains asked entry → entry.author ≡ hand_number old
