-- Scripts within the product's limits.
use Rattle.std.specs.Prelude.{◌≡◌, ℕ, ◌<◌, ◌≤◌, Bool, ◌&&◌, nat_lt, nat_le, length, Some, slice_get}
use Rattle.weave_data.specs.Limits.{most_gates, most_ops, most_requests, most_sessions, most_shards}
use Rattle.program_defs.specs.Works.{ops_of}
use Rattle.program_defs.specs.declared.script.Request.{Request}
use Rattle.program_defs.specs.declared.script.Script.{Script}

-- 1 to 8 gatekeepers, 1 to 16 shards and at most 10,000 requests; each of these has one of the gatekeepers, a session
-- below 64, and at most 64 operations
pub record IsWithinLimits (script : Script) : Type 0 where
  pub some_gate : 1 ≤ script.gates
  pub few_gates : script.gates ≤ most_gates
  pub some_shard : 1 ≤ script.shards
  pub few_shards : script.shards ≤ most_shards
  pub few_requests : length script.requests ≤ most_requests
  pub homes : (r : ℕ) (request : Request) → slice_get script.requests r ≡ Some request → request.gate < script.gates
  pub sessions : (r : ℕ) (request : Request) → slice_get script.requests r ≡ Some request
      → request.session < most_sessions
  pub few_ops : (r : ℕ) (request : Request) → slice_get script.requests r ≡ Some request
      → length (ops_of request.work) ≤ most_ops

-- The same as tests, for proofs

-- for proofs: no public contract cites it
abbrev pub are_counts_within_limits : ℕ → ℕ → ℕ → Bool
are_counts_within_limits gates shards requests =
    (nat_le 1 gates && nat_le 1 shards)
    && ((nat_le gates most_gates && nat_le shards most_shards) && nat_le requests most_requests)

-- for proofs: no public contract cites it
abbrev pub is_request_within : ℕ → Request → Bool
is_request_within gates request =
    (nat_lt request.gate gates && nat_lt request.session most_sessions)
    && nat_le (length (ops_of request.work)) most_ops
