-- When the parts of a core are ready for a phase of workers.
use Rattle.std.specs.Prelude.{◌≡◌, ℕ, ◌<◌, Contains, IsTrue, Some}
use Rattle.program_defs.specs.declared.script.Request.{Request}
use Rattle.program_defs.specs.declared.script.Script.{Script}
use Rattle.report_rules.specs.Lookups.{request_at}
use Rattle.weave_entries.specs.GateReplay.{BegunRequest}
use Rattle.weave_account.specs.declared.account.Account.{Account}
use Rattle.weave_account.specs.Account.{all_begun}
use Rattle.step_rules.specs.Requests.{has_reply}

-- each request below this number has its reply, and no other has begun
pub record IsAnsweredUpTo (script : Script) (bound : ℕ) (account : Account) : Type 0 where
  pub replied : (r : ℕ) (request : Request) → r < bound → request_at script r ≡ Some request
      → IsTrue (has_reply account r request)
  pub unbegun : (begun : BegunRequest) → Contains (all_begun account) begun → begun.request < bound
