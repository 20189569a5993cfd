-- The laws that a phase's start relies on besides those of a whole phase, in one record. No public contract cites this.
use Rattle.std.specs.Prelude.{◌≡◌, ◌≢◌, ℕ, [], Contains, Some}
use Rattle.vector_stamp.specs.declared.clock.Stamp.{Stamp}
use Rattle.program_defs.specs.declared.script.Script.{Script}
use Rattle.program_defs.specs.Limits.{IsWithinLimits}
use Rattle.weave_entries.specs.GateReplay.{BegunRequest, programs_of}
use Rattle.weave_entries.specs.SessionReplay.{session_of}
use Rattle.weave_entries.specs.ShardRules.{IsShardLog}
use Rattle.weave_account.specs.declared.account.Account.{Account}
use Rattle.weave_account.specs.Account.{IsBegunStamp, gate_log, reads_of, session_log, shard_log}
use Rattle.weave_account.specs.IsAccount.{IsAccount}
use Rattle.seen_logs.specs.Seen.{IsSeenByHand, ShardRefersWithin, without_sessions}
use Rattle.weaver_locks.specs.declared.hand.Hand.{Hand}
use Rattle.weaver_locks.specs.Hands.{seen_by}
use Rattle.weaver_hands.specs.Programs.{own_reads}

pub record ReadyLaws : Type 0 where
  -- Accounts
  pub last_begun : (script : Script) (account : Account) → IsWithinLimits script → IsAccount script account
      → (session : ℕ) (stamp : Stamp) → (session_of [] (session_log account session)).last ≡ Some stamp
      → IsBegunStamp account stamp
  pub seen : (script : Script) (account : Account) → IsWithinLimits script → IsAccount script account
      → ((shard : ℕ) → IsShardLog script.gates (shard_log account shard))
      → (number : ℕ) → IsSeenByHand script.shards number (without_sessions account) (without_sessions account)
  -- Reads
  pub unread : (shards : ℕ) (seen : Account) → ((shard : ℕ) → ShardRefersWithin shards seen shard) → (r : ℕ)
      → ((home : ℕ) (begun : BegunRequest) → Contains (programs_of (gate_log seen home)) begun → begun.request ≢ r)
      → reads_of seen r ≡ []
  pub own_unread : (hand : Hand) (r : ℕ) → reads_of (seen_by hand) r ≡ [] → own_reads hand r ≡ []
