-- A sorted list of names, none twice, is their set.
-- Used by `go_down` and `present`.
use Rattle.std.proofs.Common.{◌≡◌, List, [], ◌∷◌, sym, ◌∙◌, false}
use Rattle.std.specs.Cmp.{both_ways as same_test}
use Rattle.std.specs.List.{IsDistinct, AllByRecursion}
use Rattle.std.specs.List.Sorted.{IsSorted, IsPermutation}
use Rattle.std.proofs.lemmas.Bool.{or_parts}
use Rattle.std.proofs.lemmas.List.Sorted.{list_any-IsPermutation}
use Rattle.std.proofs.lemmas.Map.Keys.{IsDistinct-cons, IsDistinct-IsPermutation}
use Rattle.weave_data.specs.Names.{name_cmp, same_name}
use Rattle.weave_data.specs.declared.name.Name.{Name}
use Rattle.graph_ops.specs.Mentions.{is_among}
use Rattle.graph_ops.proofs.States.{same_name-sym}
use Rattle.program_defs.specs.Searching.{IsOnce}
use Rattle.program_defs.specs.Visits.{as_set}
use Rattle.program_defs.proofs.Members.{as_set-has, as_set-only}
use Rattle.program_defs.proofs.Sets.{same-sets, sorted-set, as_set-set}

differs-all : (v : Name) (xs : List Name) → is_among xs v ≡ false → AllByRecursion (λ y. same_name v y ≡ false) xs
differs-all v [] none = tt
differs-all v (x ∷ xs) none = let parts = or_parts (same_name x v) _ none in (same_name-sym v x ∙ parts.0, differs-all v xs parts.1)

once-distinct : (xs : List Name) → IsOnce xs → IsDistinct same_name xs
unfolding IsDistinct
once-distinct [] once = tt
once-distinct (x ∷ xs) once = IsDistinct-cons same_name x xs (differs-all x xs once.0) (once-distinct xs once.1)

-- a list in which no name comes twice is, when it is sorted, the set of its names
pub sorted-is-set : (xs ys : List Name) → IsPermutation xs ys → IsSorted name_cmp ys → IsOnce xs → ys ≡ as_set xs
sorted-is-set xs ys moved sorted once =
    same-sets ys (as_set xs) (sorted-set ys sorted (IsDistinct-IsPermutation same_name same_name-sym xs ys moved (once-distinct xs once))) (as_set-set xs)
    (λ v. sym (list_any-IsPermutation (λ other. same_name other v) xs ys moved) ∙ same_test _ _ (as_set-has xs v) (as_set-only xs v))
