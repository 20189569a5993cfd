-- The account before anything was done.
use Rattle.std.specs.Prelude.{replicate, []}
use Rattle.weave_data.specs.Limits.{most_sessions}
use Rattle.program_defs.specs.declared.script.Script.{Script}
use Rattle.weave_account.specs.declared.account.Account.{Account}

-- an empty log for each gatekeeper and shard of the script and each of 64 sessions, and empty logs of store and oracle
abbrev pub no_logs : Script → Account
no_logs script = record {
  gates = replicate script.gates [];
  store = [];
  oracle = [];
  shards = replicate script.shards [];
  sessions = replicate most_sessions [];
}
