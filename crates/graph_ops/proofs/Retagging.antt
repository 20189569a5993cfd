-- The rows on an edge's tags.
-- Used by `change_edge`, `take_back_tag_of` and crate version_parts.
use Rattle.std.proofs.Common.{◌≡◌, cond, List, [], ◌∷◌, Option, Some, None, Ok, Err, IfSome, option_map, refl, ap, ◌∙◌, sym, subst}
use Rattle.std.specs.Cmp.Lexicographic.{nat_list_cmp_total}
use Rattle.std.specs.declared.cmp.Ordering.TheVariants.{Less, Equal, Greater}
use Rattle.std.specs.Ordering.{is_eq, match_ordering}
use Rattle.weave_data.specs.Names.{name_cmp}
use Rattle.weave_data.specs.Pairs.{IsRising, at_key, put}
use Rattle.weave_data.specs.declared.name.Name.{Name}
use Rattle.weave_data.proofs.Changing.{found_put}
use Rattle.graph_ops.specs.Operations.{done_with, on_edge}
use Rattle.graph_ops.specs.TagChanges.{tags_after, record_after, edge_after, DoesToTags}
use Rattle.graph_ops.specs.TakingBack.{edges_retagged, with_edge, CanRetag, HasOutcome}
use Rattle.weave_data.specs.Changes.{undone_pairs, Fits}
use Rattle.weave_data.specs.declared.change.Undo.{Undo}
use Rattle.graph_ops.specs.declared.op.OpFault.{OpFault}
use Rattle.graph_ops.specs.declared.op.OpFault.TheVariants.{Refused, Memory}
use Rattle.std.specs.BTreeMap.{is_at}
use Rattle.std.specs.Map.{keys_of}
use Rattle.std.proofs.lemmas.Map.{lookup-none}
use Rattle.std.proofs.lemmas.Map.Keys.{sorted_tail}
use Rattle.std.proofs.lemmas.Map.Entries.{none_below_head}
use Rattle.std.proofs.lemmas.Cmp.{tied_itself}
use Rattle.graph_ops.specs.declared.record.Edge.{Edge}
use Rattle.graph_ops.specs.declared.record.Record.{Record}
use Rattle.graph_ops.specs.declared.tags.TagChange.{TagChange}

-- a value that is put twice
pub put_over : {X : Type 0} (key : Name) (value before : X) (es : List (Name × X)) → put key value (put key before es) ≡ put key value es
put_over key value before [] = ap (λ o. match_ordering o ((key, value) ∷ (key, before) ∷ []) ((key, value) ∷ []) ((key, before) ∷ (key, value) ∷ [])) (tied_itself nat_list_cmp_total key)
put_over key value before (e ∷ es) =
    elim (name_cmp key e.0) as (λ o. name_cmp key e.0 ≡ o → put key value (match_ordering o ((key, before) ∷ e ∷ es) ((e.0, before) ∷ es) (e ∷ put key before es)) ≡ match_ordering o ((key, value) ∷ e ∷ es) ((e.0, value) ∷ es) (e ∷ put key value es)) [
      | Less ↦ λ less. ap (λ o. match_ordering o ((key, value) ∷ (key, before) ∷ e ∷ es) ((key, value) ∷ e ∷ es) ((key, before) ∷ put key value (e ∷ es))) (tied_itself nat_list_cmp_total key)
      | Equal ↦ λ equal. ap (λ o. match_ordering o ((key, value) ∷ (e.0, before) ∷ es) ((e.0, value) ∷ es) ((e.0, before) ∷ put key value es)) equal
      | Greater ↦ λ greater. ap (λ o. match_ordering o ((key, value) ∷ e ∷ put key before es) ((e.0, value) ∷ put key before es) (e ∷ put key value (put key before es))) greater ∙ ap (λ rest. e ∷ rest) (put_over key value before es)
    ] refl

-- what is there is put again
pub put_same : {X : Type 0} (key : Name) (value : X) (es : List (Name × X)) → IsRising es → at_key key es ≡ Some value → put key value es ≡ es
put_same key value [] rising there = cc
put_same {X} key value (e ∷ es) rising there =
    elim (name_cmp key e.0) as (λ o. name_cmp key e.0 ≡ o → cond (is_eq o) (Some e.1) (at_key key es) ≡ Some value → match_ordering o ((key, value) ∷ e ∷ es) ((e.0, value) ∷ es) (e ∷ put key value es) ≡ e ∷ es) [
      | Less ↦ λ less h. let none : at_key key (e ∷ es) ≡ None = lookup-none (is_at (name_cmp key)) (e ∷ es) (none_below_head nat_list_cmp_total key e es rising less) in cc (none, there)
      | Equal ↦ λ equal h. ap pair_of (sym h)
      | Greater ↦ λ greater h. ap (λ rest. e ∷ rest) (put_same key value es (sorted_tail name_cmp e.0 (keys_of es) rising) h)
    ] refl there
  where
    pair_of : Option X → List (Name × X)
    pair_of None = []
    pair_of (Some x) = (e.0, x) ∷ es

-- an edge that was swapped out, whose tags changed, and that was swapped in again
module _ (name : Name) (was : Record) (edge bare : Edge) (tags : List (Name × Name)) (held edges : List (Name × Edge)) (rising : IsRising was.edges) (there : at_key name was.edges ≡ Some edge) (out : held ≡ put name bare was.edges) (back_in : edges ≡ put name (record edge { tags = tags }) held) where
  -- the edges are those from before, with the new tags of this edge
  pub after : edges ≡ put name (record edge { tags = tags }) was.edges
  after = back_in ∙ ap (put name (record edge { tags = tags })) out ∙ put_over name (record edge { tags = tags }) bare was.edges

  now_there : at_key name edges ≡ Some (record edge { tags = tags })
  now_there = ap (at_key name) after ∙ found_put name (record edge { tags = tags }) was.edges

  -- if its tags are as they were, the edges are as they were
  pub as_before : tags ≡ edge.tags → edges ≡ was.edges
  as_before same = after ∙ ap (λ all. put name (record edge { tags = all }) was.edges) same ∙ put_same name edge was.edges rising there

  here : (change : TagChange) → edge_after change name was ≡ record_after was name edge (tags_after change edge.tags)
  here change = ap (λ x. on_edge x (λ found. record_after was name found (tags_after change found.tags))) there

  -- if the change passes with these tags, the operation on the record passes and leaves these edges
  pub changed : (change : TagChange) → tags_after change edge.tags ≡ Ok tags → edge_after change name was ≡ done_with (record was { edges = edges })
  changed change passes = here change ∙ ap (record_after was name edge) passes ∙ ap (λ all. done_with (record was { edges = all })) (sym after)

  -- a change that can be taken back on the new tags without memory can be taken back so on the edges
  pub can_retag : (undo : Undo Name) → Fits undo tags → CanRetag name undo edges
  can_retag undo fits = subst (λ x. IfSome x (λ found. Fits undo found.tags)) (sym now_there) fits

  -- if the tags with the change taken back are those from before, so are the edges
  pub retagged_back : (undo : Undo Name) → undone_pairs undo tags ≡ edge.tags → edges_retagged name undo edges ≡ was.edges
  retagged_back undo back =
      ap (λ x. with_edge name (option_map {T = Edge} (λ found. record found { tags = undone_pairs undo found.tags }) x) edges) now_there
      ∙ ap (λ all. put name (record edge { tags = all }) edges) back
      ∙ ap (put name edge) after
      ∙ put_over name edge (record edge { tags = tags }) was.edges
      ∙ put_same name edge was.edges rising there

  -- if the change of the tags fails, so does the operation, with the same fault, and the record is as it was
  pub failed : (change : TagChange) (fault : OpFault) → DoesToTags (tags_after change edge.tags) edge.tags tags (Err fault) → HasOutcome (edge_after change name was) (Some was) (Some (record was { edges = edges })) (Err fault)
  failed change (Refused reason) a = (here change ∙ ap (record_after was name edge) a.0, ap (λ all. Some (record was { edges = all })) (as_before a.1))
  failed change Memory a = ap (λ all. Some (record was { edges = all })) (as_before a)
