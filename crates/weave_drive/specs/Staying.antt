-- What stays of an account's report when the account goes on.
use Rattle.std.specs.Prelude.{◌≡◌, ℕ, IsTrue, Some}
use Rattle.vector_stamp.specs.declared.clock.Stamp.{Stamp}
use Rattle.program_defs.specs.declared.script.Request.{Request}
use Rattle.program_defs.specs.declared.script.Script.{Script}
use Rattle.program_defs.specs.Works.{is_look}
use Rattle.report_rules.specs.Lookups.{request_at}
use Rattle.weave_entries.specs.StoreReplay.{Judgement, judgement_of}
use Rattle.weave_account.specs.declared.account.Account.{Account}
use Rattle.weave_account.specs.Account.{is_ended, pairs_in, reads_of, stamp_of}
use Rattle.weave_account.specs.GoesOn.{IsBeginningOf}

-- Stamps and verdicts stay. A finished program stays finished, with what it read, hence with its answer. The pairs are
-- the first ones in the list.
pub record ReportStays (script : Script) (account next : Account) : Type 0 where
  pub stamps : (r : ℕ) (stamp : Stamp) → stamp_of account r ≡ Some stamp → stamp_of next r ≡ Some stamp
  pub verdicts : (r : ℕ) (judged : Judgement) → judgement_of r account.store ≡ Some judged
      → judgement_of r next.store ≡ Some judged
  pub finished : (r : ℕ) → IsTrue (is_ended account r) → IsTrue (is_ended next r)
  pub answers : (r : ℕ) (request : Request) → request_at script r ≡ Some request → IsTrue (is_look request.work)
      → IsTrue (is_ended account r) → reads_of next r ≡ reads_of account r
  pub pairs : IsBeginningOf (pairs_in account) (pairs_in next)
