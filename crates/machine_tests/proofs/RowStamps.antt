-- The stamps of the versions of a row, before and after a call.
-- Used by `apply_all`, `collect`, `take_back` and `view`.
use Rattle.std.proofs.Common.{◌≡◌, ◌≢◌, ℕ, ◌≤◌, List, [], ◌∷◌, ◌++◌, drop, length, get_or, All, Contains, inl, inr, refl, sym, ap, subst, ◌∙◌, arith}
use Rattle.std.proofs.lemmas.List.{map-append}
use Rattle.std.proofs.lemmas.List.Elements.{All-contains, All-contains_itself, Contains-append_left, Contains-append_right, Contains-append_cases, Contains-push}
use Rattle.weave_data.proofs.Members.{has_read, has_head, has_tail, has_map, map_has, drop_has, only}
use Rattle.vector_stamp.specs.declared.clock.Stamp.{Stamp}
use Rattle.vector_stamp.specs.Order.{id_of}
use Rattle.version_chain.specs.declared.version.Version.{Version}
use Rattle.version_chain.specs.Chains.{ChainView, stamps_of_versions, with_version}
use Rattle.machine_tests.specs.Covers.{IsAmong}

-- of versions that are dropped none is needed
pub among-drop : (n : ℕ) (versions : List Version) (stamps : List Stamp) → IsAmong (stamps_of_versions versions) stamps → IsAmong (stamps_of_versions (drop n versions)) stamps
among-drop n versions stamps among one has =
    let from = map_has (λ (version : Version). version.stamp) (drop n versions) one has in
    among one (subst (Contains (stamps_of_versions versions)) from.2 (has_map (λ (version : Version). version.stamp) versions from.0 (drop_has n versions from.0 from.1)))

-- one more version has its stamp at the end
pub among-push : (versions : List Version) (newest : Version) (stamps grown : List Stamp) → grown ≡ stamps ++ newest.stamp ∷ [] → IsAmong (stamps_of_versions versions) stamps → IsAmong (stamps_of_versions (versions ++ newest ∷ [])) grown
among-push versions newest stamps grown is among one has =
    subst (λ (all : List Stamp). Contains all one) (sym is)
    (elim (Contains-append_cases (stamps_of_versions versions) (newest.stamp ∷ []) one (subst (λ (all : List Stamp). Contains all one) (map-append (λ (version : Version). version.stamp) versions (newest ∷ [])) has)) [
      | inl before ↦ Contains-append_left stamps (newest.stamp ∷ []) one (among one before)
      | inr last ↦ subst (Contains (stamps ++ newest.stamp ∷ [])) (only newest.stamp one last) (Contains-push stamps newest.stamp)
    ])

split_last : (versions : List Version) → 1 ≤ length versions → (front : List Version) × (last : Version) × (versions ≡ front ++ last ∷ [])
split_last [] some = absurd (omega (arith, some))
split_last (version ∷ []) some = ([], version, refl)
split_last (version ∷ next ∷ versions) some =
    let rest = split_last (next ∷ versions) (omega arith) in
    (version ∷ rest.0, rest.1, ap (λ (all : List Version). version ∷ all) rest.2)

-- what is left if the newest version is taken back
pub among-back : (old new : ChainView) (stamps : List Stamp) → 1 ≤ length old.kept → ((newest : Version) (chain : ChainView) → old ≡ with_version newest chain → new ≡ chain) → IsAmong (stamps_of_versions old.kept) stamps → IsAmong (stamps_of_versions new.kept) stamps
among-back old new stamps some back among one has =
    let last = split_last old.kept some in
    let is : new ≡ record { dropped = old.dropped; kept = last.0 } = back last.1 (record { dropped = old.dropped; kept = last.0 }) (ap (λ (kept : List Version). record { dropped = old.dropped; kept = kept }) last.2) in
    let there : Contains (stamps_of_versions last.0) one = subst (λ (chain : ChainView). Contains (stamps_of_versions chain.kept) one) is has in
    let joined : stamps_of_versions old.kept ≡ stamps_of_versions last.0 ++ last.1.stamp ∷ [] = ap stamps_of_versions last.2 ∙ map-append (λ (version : Version). version.stamp) last.0 (last.1 ∷ []) in
    among one (subst (λ (all : List Stamp). Contains all one) (sym joined) (Contains-append_left (stamps_of_versions last.0) (last.1.stamp ∷ []) one there))

module _ (kept stamps : List Stamp) (program : Stamp) (among : IsAmong kept stamps) where
  -- a program that is none of the stamps is none of those that are among them
  pub others-kept : All (λ (event : Stamp). id_of event ≢ id_of program) stamps → All (λ (event : Stamp). id_of event ≢ id_of program) kept
  others-kept all k d below = All-contains (λ (event : Stamp). id_of event ≢ id_of program) stamps (get_or kept k d) all (among (get_or kept k d) (All-contains_itself kept k d below))

  -- a program, the kept stamps and known ones are among the program, all stamps and the known ones
  pub among-all : (known : List Stamp) (one : Stamp) → Contains (program ∷ kept ++ known) one → Contains (program ∷ stamps ++ known) one
  among-all known one has = elim (has_read program (kept ++ known) one has) [
    | inl same ↦ subst (Contains (program ∷ stamps ++ known)) same (has_head program (stamps ++ known))
    | inr later ↦ has_tail program (stamps ++ known) one (elim (Contains-append_cases kept known one later) [
      | inl of ↦ Contains-append_left stamps known one (among one of)
      | inr knows ↦ Contains-append_right stamps known one knows
    ])
  ]
