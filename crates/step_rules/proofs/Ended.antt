-- A number passes the test of being in a list exactly if it is a member of the list.
-- Used by FinishStep, QuietGateEntry and ReplyStep.
use Rattle.std.proofs.Common.{ℕ, List, Contains, IsTrue, refl, sym, subst}
use Rattle.std.specs.Prelude.{nat_eq}
use Rattle.std.proofs.lemmas.Bool.{eqb-true, eq-eqb}
use Rattle.weave_data.proofs.Members.{any_from, any_has}
use Rattle.report_rules.specs.Lookups.{is_in}

-- a member passes the test
pub in-has : (xs : List ℕ) (n : ℕ) → Contains xs n → IsTrue (is_in n xs)
in-has xs n h = any_from (nat_eq n) xs n h (eq-eqb n n refl)

-- and what passes it is a member
pub has-in : (xs : List ℕ) (n : ℕ) → IsTrue (is_in n xs) → Contains xs n
has-in xs n h = let found = any_has (nat_eq n) xs h in subst (λ k. Contains xs k) (sym (eqb-true n found.0 found.2)) found.1
