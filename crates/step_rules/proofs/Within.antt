-- The logs of a core's gatekeepers, shards and sessions are there.
-- Used by BeginAccount, BeginStep, FewSteps, FinishStep, QuietGateEntry, ReplyStep, Replying, ShardStep, StepGoesOn
-- and VisitStep.
use Rattle.std.proofs.Common.{◌≡◌, ℕ, ◌<◌, length, Some, arith}
use Rattle.program_defs.specs.declared.script.Request.{Request}
use Rattle.program_defs.specs.declared.script.Script.{Script}
use Rattle.program_defs.specs.Limits.{IsWithinLimits}
use Rattle.report_rules.specs.Lookups.{request_at}
use Rattle.weave_account.specs.declared.account.Account.{Account}
use Rattle.weave_account.specs.IsAccount.{IsAccount}
use Rattle.step_rules.specs.CoreState.{CoreState}
use Rattle.step_rules.specs.IsCore.{IsCore}

module _ {script : Script} {account : Account} (is : IsAccount script account) where
  -- the account has the log of each gatekeeper of the script
  pub gate-within : (home : ℕ) → home < script.gates → home < length account.gates
  gate-within home inside = let many = is.gatekeepers.as_many in omega (arith, inside, many)

  -- the account has the log of each shard of the script
  pub shard-within : (shard : ℕ) → shard < script.shards → shard < length account.shards
  shard-within shard inside = let many = is.shards.as_many in omega (arith, inside, many)

module _ {script : Script} {state : CoreState} (limits : IsWithinLimits script) (core : IsCore script state) where
  -- the account has the log of each request's gatekeeper
  pub home-within : (r : ℕ) (request : Request) → request_at script r ≡ Some request → request.gate < length state.account.gates
  home-within r request at = gate-within core.account request.gate (limits.homes r request at)

  -- the account has the log of each request's session
  pub session-within : (r : ℕ) (request : Request) → request_at script r ≡ Some request → request.session < length state.account.sessions
  session-within r request at = let many = core.sessions in let less = limits.sessions r request at in omega (arith, many, less)
