-- What the lemmas on an account are given: the account, its script's limits, and the laws of the crates below.
-- Used by Nudged and SentMessages.
use Rattle.std.proofs.Common.{ℕ, ◌<◌, arith}
use Rattle.program_defs.specs.declared.script.Script.{Script}
use Rattle.weave_account.specs.declared.account.Account.{Account}
use Rattle.drive_rules.specs.LowerLaws.{LawsForReadiness}
use Rattle.weave_account.proofs.Basis.{BasisWith}

-- each gatekeeper of a script with this basis is one of at most eight
pub below-eight : (script : Script) (account : Account) → BasisWith LawsForReadiness script account → (home : ℕ) → home < script.gates → home < 8
below-eight script account basis home inside = let few = basis.limits.few_gates in omega (arith, inside, few)
