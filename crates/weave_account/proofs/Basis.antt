-- What the lemmas on an account are given: the account, its script's limits, and the laws of the crates below.
-- Used by 65 functions, laws and files of this crate and of those above.
use Rattle.vector_stamp.specs.Precedence.{IsAcyclic}
use Rattle.program_defs.specs.declared.script.Script.{Script}
use Rattle.weave_account.specs.declared.account.Account.{Account}
use Rattle.weave_account.specs.Account.{pairs_in}
use Rattle.weave_account.specs.IsAccount.{IsAccount}
use Rattle.program_defs.specs.Limits.{IsWithinLimits}
use Rattle.weave_account.specs.LowerLaws.{LawsForAccounts}

-- an account of a script within its limits, with the laws of the crates below a crate
pub record BasisWith (Laws : Type 0) (script : Script) (account : Account) : Type 0 where
  pub laws : Laws
  pub limits : IsWithinLimits script
  pub is : IsAccount script account

-- with the laws of the crates below this one
abbrev pub Basis : Script → Account → Type 0
Basis script account = BasisWith LawsForAccounts script account

-- what lemmas on an account are given follows from its script's limits and the laws of the crates below
pub based : {Laws : Type 0} {script : Script} {account : Account} → Laws → IsWithinLimits script → IsAccount script account
    → BasisWith Laws script account
based laws limits is = record { laws = laws; limits = limits; is = is }

-- in an account within the script's limits, no stamp precedes itself
pub acyclic : (script : Script) (account : Account) → Basis script account → IsAcyclic (pairs_in account)
acyclic script account basis = basis.laws.acyclic account.oracle basis.is.oracle.log
