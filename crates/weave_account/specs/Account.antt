-- What the logs of a run, all together, say of its requests. A log that isn't there counts as empty.
use Rattle.std.specs.Prelude.{◌≡◌, ℕ, Bool, ◌==◌, List, [], map, Contains, slice_index_or, Option, None}
use Rattle.std.specs.List.{find, flat_map}
use Rattle.std.specs.Option.{option_map}
use Rattle.weave_data.specs.declared.name.Name.{Name}
use Rattle.graph_ops.specs.Operations.{State}
use Rattle.vector_stamp.specs.declared.clock.Stamp.{Stamp}
use Rattle.vector_stamp.specs.Precedence.{GivenPair, Precedes}
use Rattle.weave_entries.specs.declared.gate_log.GateEntry.{GateEntry}
use Rattle.weave_entries.specs.declared.shard_log.ShardEntry.{ShardEntry}
use Rattle.weave_entries.specs.declared.session_log.SessionEntry.{SessionEntry}
use Rattle.weave_entries.specs.GateReplay.{BegunRequest, begun_in, ended_in, flight_of}
use Rattle.weave_entries.specs.OracleReplay.{pairs_of_log}
use Rattle.weave_entries.specs.ShardReplay.{reads_in}
use Rattle.weave_entries.specs.StoreReplay.{Commit, commits_of}
use Rattle.report_rules.specs.Lookups.{is_in}
use Rattle.weave_account.specs.declared.account.Account.{Account}

-- The logs

-- the log of a gatekeeper
abbrev pub gate_log : Account → ℕ → List GateEntry
gate_log account home = slice_index_or account.gates home []

-- the log of a shard
abbrev pub shard_log : Account → ℕ → List ShardEntry
shard_log account shard = slice_index_or account.shards shard []

-- the log of a session
abbrev pub session_log : Account → ℕ → List SessionEntry
session_log account session = slice_index_or account.sessions session []

-- The requests

-- what was begun at the gatekeepers
abbrev pub all_begun : Account → List BegunRequest
all_begun account = flat_map begun_in account.gates

-- no transaction is in flight at any gatekeeper
abbrev pub NoneInFlight : Account → Type 0
NoneInFlight account = (home : ℕ) → flight_of (gate_log account home) ≡ None

-- the stamp of a request, if it was begun
abbrev pub stamp_of : Account → ℕ → Option Stamp
stamp_of account r =
    option_map (λ (begun : BegunRequest). begun.stamp)
    (find (λ (begun : BegunRequest). begun.request == r) (all_begun account))

-- the stamps of all begun requests
abbrev pub begun_stamps : Account → List Stamp
begun_stamps account = map (λ (begun : BegunRequest). begun.stamp) (all_begun account)

-- a stamp is that of a begun request
abbrev pub IsBegunStamp : Account → Stamp → Type 0
IsBegunStamp account stamp = Contains (begun_stamps account) stamp

-- a request was ended at some gatekeeper: a transaction sent, or a program finished
abbrev pub is_ended : Account → ℕ → Bool
is_ended account r = is_in r (flat_map ended_in account.gates)

-- what a request read in all shards: each vertex, with the state after the updates that it saw. The order of reads in
-- different shards plays no part.
abbrev pub reads_of : Account → ℕ → List (Name × State)
reads_of account r = flat_map (reads_in r) account.shards

-- Precedence

-- the pairs of the oracle
abbrev pub pairs_in : Account → List GivenPair
pairs_in account = pairs_of_log account.oracle

-- one stamp precedes another by the order of stamps and the oracle's pairs
abbrev pub Precedence : Account → Stamp → Stamp → Type 0
Precedence account a b = Precedes (pairs_in account) a b

-- The commits

-- the commits, in the order of their numbers
abbrev pub commits_in : Account → List Commit
commits_in account = commits_of account.store
