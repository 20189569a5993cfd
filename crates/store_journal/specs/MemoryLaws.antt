-- The images of now, and those since a moment. (Only the laws of the trait cite this file.)
use Rattle.std.proofs.Common.{ℕ, ◌≤◌, List, length, arith, subst, sym}
use Rattle.std.proofs.lemmas.List.{take_all}
use Rattle.store_journal.specs.declared.call.Call.{Call}
use Rattle.store_journal.specs.Memory.{shape_of, IsImageOf, WasImage}

-- since now there are only these
pub only_of_now : (first : List ℕ) (calls : List Call) (c : List ℕ) → WasImage first calls (length calls) c
    → IsImageOf (shape_of first calls) c
only_of_now first calls c was =
    subst (λ l. IsImageOf (shape_of first l) c) (take_all was.0 calls was.1) was.3

-- since any moment that has come there are these
pub now_is_since : (first : List ℕ) (calls : List Call) (t : ℕ) (c : List ℕ) → t ≤ length calls
    → IsImageOf (shape_of first calls) c → WasImage first calls t c
now_is_since first calls t c le image = (
  length calls,
  le,
  same_long (length calls),
  subst (λ l. IsImageOf (shape_of first l) c) (sym (take_all (length calls) calls (same_long (length calls)))) image,
)
  where
    same_long : (n : ℕ) → n ≤ n
    same_long n = omega arith
