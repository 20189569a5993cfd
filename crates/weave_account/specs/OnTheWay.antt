-- Where a commit is on its way to the shards of the vertices that it names.
use Rattle.std.specs.Prelude.{◌≡◌, ◌⊎◌, ℕ, Contains, Some}
use Rattle.weave_data.specs.declared.name.Name.{Name}
use Rattle.weave_data.specs.Names.{shard_of}
use Rattle.graph_ops.specs.VertexOps.{ops_on}
use Rattle.program_defs.specs.declared.script.Script.{Script}
use Rattle.weave_entries.specs.declared.message.Addressed.{Addressed}
use Rattle.weave_entries.specs.GateReplay.{BegunRequest, addressed_to, flight_of}
use Rattle.weave_entries.specs.StoreReplay.{Commit}
use Rattle.weave_account.specs.declared.account.Account.{Account}
use Rattle.weave_account.specs.Account.{gate_log}

-- its message is on the channel from this gatekeeper to the vertex's shard, with the vertex's operations and the
-- number of commits at the vertex before it
pub record IsOnChannel (script : Script) (account : Account) (commit : Commit) (v : Name) (count home : ℕ) : Type 0
  where
    pub addressed : Addressed
    pub sent : Contains (addressed_to (shard_of v script.shards) (gate_log account home)) addressed
    pub stamp_is : addressed.message.stamp ≡ commit.stamp
    pub part_there : Contains addressed.message.parts (record { vertex = v; before = count; ops = ops_on v commit.ops })

-- the commit is in flight at this gatekeeper
pub record CommitIsInFlight (account : Account) (commit : Commit) (home : ℕ) : Type 0 where
  pub flight : BegunRequest
  pub flies : flight_of (gate_log account home) ≡ Some flight
  pub request_is : flight.request ≡ commit.request
  pub stamp_is : flight.stamp ≡ commit.stamp

-- it is in flight at a gatekeeper, or on the channel from there
pub record IsOnTheWay (script : Script) (account : Account) (commit : Commit) (v : Name) (count : ℕ) : Type 0 where
  pub home : ℕ
  pub place : CommitIsInFlight account commit home ⊎ IsOnChannel script account commit v count home
