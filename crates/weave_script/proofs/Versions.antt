-- A valid script is of the version in which it is printed.
-- Used by CheckLaws and TextLaws.
use Rattle.std.proofs.Common.{◌≡◌, Bool, true, false, ◌||◌, List, [], ◌∷◌, refl, ap, ◌∙◌}
use Rattle.std.specs.List.{AllByRecursion, list_any}
use Rattle.std.proofs.lemmas.Bool.{both_ways}
use Rattle.graph_ops.specs.declared.op.Op.{Op}
use Rattle.graph_ops.specs.declared.op.Op.TheVariants.{Create, Delete, Set, Unset, Link, Join, Unlink, Tag, Untag, Get}
use Rattle.program_defs.specs.declared.script.Request.{Request}
use Rattle.program_defs.specs.declared.script.Script.{Script}
use Rattle.program_defs.specs.Works.{ops_of}
use Rattle.weave_script.specs.ScriptLines.{has_joins, is_join}
use Rattle.weave_script.specs.Scripts.{IsOfVersion, IsRequestOf, IsScript}

-- version 1 has no join
no_join : (op : Op) → IsOfVersion false op → is_join op ≡ false
no_join (Create v) e = refl
no_join (Delete v) e = refl
no_join (Set v key value) e = refl
no_join (Unset v key) e = refl
no_join (Link v name target) e = refl
no_join (Join v name target) e = absurd cc
no_join (Unlink v name) e = refl
no_join (Tag v name key value) e = refl
no_join (Untag v name key) e = refl
no_join (Get v) e = refl

-- and it has every other operation
of_first : (op : Op) → is_join op ≡ false → IsOfVersion false op
of_first (Create v) e = refl
of_first (Delete v) e = refl
of_first (Set v key value) e = refl
of_first (Unset v key) e = refl
of_first (Link v name target) e = refl
of_first (Join v name target) e = absurd cc
of_first (Unlink v name) e = refl
of_first (Tag v name key value) e = refl
of_first (Untag v name key) e = refl
of_first (Get v) e = refl

module _ {A : Type 0} (P : A → Type 0) (p : A → Bool) where
  none-any : ((x : A) → P x → p x ≡ false) → (xs : List A) → AllByRecursion P xs → list_any p xs ≡ false
  none-any each [] h = refl
  none-any each (x ∷ xs) h = ap (λ b. b || list_any p xs) (each x h.0) ∙ none-any each xs h.1

  any-none : ((x : A) → p x ≡ false → P x) → (xs : List A) → list_any p xs ≡ false → AllByRecursion P xs
  any-none each [] e = tt
  any-none each (x ∷ xs) e = (each x (left (p x) (list_any p xs) e), any-none each xs (right (p x) (list_any p xs) e))
    where
      left : (a b : Bool) → a || b ≡ false → a ≡ false
      left true b e = e
      left false b e = refl

      right : (a b : Bool) → a || b ≡ false → b ≡ false
      right true b e = absurd cc
      right false b e = e

-- a script of version 1 has no join
first_has_none : (requests : List Request) → AllByRecursion (IsRequestOf false) requests → has_joins requests ≡ false
first_has_none = none-any (IsRequestOf false) (λ (request : Request). list_any is_join (ops_of request.work)) (λ request. none-any (IsOfVersion false) is_join no_join (ops_of request.work))

-- and without joins it is of version 1
none_is_first : (requests : List Request) → has_joins requests ≡ false → AllByRecursion (IsRequestOf false) requests
none_is_first = any-none (IsRequestOf false) (λ (request : Request). list_any is_join (ops_of request.work)) (λ request. any-none (IsOfVersion false) is_join of_first (ops_of request.work))

-- a valid script is valid as one of the version in which it is printed
pub printed_version : (script : Script) → IsScript script → (is : IsScript script) × (is.joins ≡ has_joins script.requests)
printed_version script h = at h.joins (has_joins script.requests) refl h.version
  where
    with_version : (j : Bool) → AllByRecursion (IsRequestOf j) script.requests → IsScript script
    with_version j version = record { gates = h.gates; shards = h.shards; requests = h.requests; distinct = h.distinct; phases = h.phases; steps = h.steps; within = h.within; joins = j; version = version }

    at : (j k : Bool) → has_joins script.requests ≡ k → AllByRecursion (IsRequestOf j) script.requests → (is : IsScript script) × (is.joins ≡ k)
    at j false e version = (with_version false (none_is_first script.requests e), refl)
    at true true e version = (with_version true version, refl)
    at false true e version = absurd (both_ways (has_joins script.requests) (first_has_none script.requests version) e)
