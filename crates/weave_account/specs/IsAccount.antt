-- When logs are an account of a run: eight clauses, over single entries, what is before them in their log, and
-- precedence by all pairs of the oracle.
use Rattle.program_defs.specs.declared.script.Script.{Script}
use Rattle.weave_account.specs.declared.account.Account.{Account}
use Rattle.weave_account.specs.Gatekeepers.{GatekeepersClause}
use Rattle.weave_account.specs.Clocks.{ClocksClause}
use Rattle.weave_account.specs.Sessions.{SessionsClause}
use Rattle.weave_account.specs.Store.{StoreClause}
use Rattle.weave_account.specs.Oracle.{OracleClause}
use Rattle.weave_account.specs.Channels.{ChannelsClause}
use Rattle.weave_account.specs.Shards.{ShardsClause}
use Rattle.weave_account.specs.Programs.{ProgramsClause}

-- the logs are an account of a run of the script; the clause on shards is that on processing, on visits and on the
-- bounds of collections
pub record IsAccount (script : Script) (account : Account) : Type 0 where
  pub gatekeepers : GatekeepersClause script account
  pub clocks : ClocksClause account
  pub sessions : SessionsClause script account
  pub store : StoreClause script account
  pub oracle : OracleClause account
  pub channels : ChannelsClause script account
  pub shards : ShardsClause script account
  pub programs : ProgramsClause script account
