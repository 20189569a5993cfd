use Rattle.std.proofs.Common.{ℕ, ◌==◌, Contains, List, IsTrue, refl, subst, map}
use Rattle.std.specs.List.{list_any}
use Rattle.std.proofs.lemmas.Bool.{eqb-true, eq-eqb}
use Rattle.weave_data.proofs.Members.{any_from, any_has, has_map, map_has}
use Rattle.vector_stamp.specs.declared.clock.Stamp.{Stamp}
use Rattle.weave_entries.specs.SessionReplay.{begins_in, replied_in}
use Rattle.weave_entries.proofs.laws.begun_and_replied_are_decided.Goals as goal

by_key : {A : Type 0} (key : A → ℕ) (xs : List A) (request : ℕ) → IsTrue (list_any (λ x. key x == request) xs) → Contains (map key xs) request
by_key key xs request h =
    let found = any_has (λ x. key x == request) xs h in
    subst (Contains (map key xs)) (eqb-true (key found.0) request found.2) (has_map key xs found.0 found.1)

key_has : {A : Type 0} (key : A → ℕ) (xs : List A) (request : ℕ) → Contains (map key xs) request → IsTrue (list_any (λ x. key x == request) xs)
key_has key xs request h =
    let at = map_has key xs request h in
    any_from (λ x. key x == request) xs at.0 at.1 (eq-eqb (key at.0) request at.2)

pub returns : goal.returns
returns c =
    record {
      begun = λ request log. (by_key (λ (begun : ℕ × Stamp). begun.0) (begins_in log) request, key_has (λ (begun : ℕ × Stamp). begun.0) (begins_in log) request);
      replied = λ request log. (
        (λ h. let found = any_has (λ replied. replied == request) (replied_in log) h in subst (Contains (replied_in log)) (eqb-true found.0 request found.2) found.1),
        (λ h. any_from (λ replied. replied == request) (replied_in log) request h (eq-eqb request request refl)),
      );
    }
