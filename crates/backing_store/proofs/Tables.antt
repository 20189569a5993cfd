-- What is asked of a table, name by name.
-- Used by `asked_at`.
use Rattle.std.proofs.Common.{◌≡◌, ℕ, ◌+◌, ◌<◌, List, [], ◌∷◌, ◌++◌, length, get_or, take, sym, ap, ◌∙◌}
use Rattle.std.proofs.lemmas.List.{take_more}
use Rattle.std.proofs.lemmas.List.Elements.{filter_map-append, filter-append}
use Rattle.weave_data.specs.declared.name.Name.{Name}
use Rattle.vector_stamp.specs.declared.clock.Stamp.{Stamp}
use Rattle.backing_store.specs.declared.lasts.KeptCommit.{KeptCommit}
use Rattle.backing_store.specs.Keeping.{held_of, unordered_of}

-- the unordered commits held for one more name are those so far, and then the ones of this name
pub unordered_more : (table : List (Name × KeptCommit)) (stamp : Stamp) (names : List Name) (i : ℕ) (name : Name) → i < length names → name ≡ get_or names i name → unordered_of stamp (held_of table (take i names)) ++ unordered_of stamp (held_of table (name ∷ [])) ≡ unordered_of stamp (held_of table (take (i + 1) names))
unordered_more table stamp names i name inside is =
    let more : take (i + 1) names ≡ take i names ++ name ∷ [] = take_more names i name inside ∙ ap (λ (v : Name). take i names ++ v ∷ []) (sym is) in
    sym (ap (λ (all : List Name). unordered_of stamp (held_of table all)) more
    ∙ ap (unordered_of stamp) (filter_map-append _ (take i names) (name ∷ []))
    ∙ filter-append _ (held_of table (take i names)) (held_of table (name ∷ [])))
