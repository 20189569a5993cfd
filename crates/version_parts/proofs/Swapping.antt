-- A value that is taken out of a map, changed and put in again.
-- Used by `add_to` and `add_to_edge`.
use Rattle.std.proofs.Common.{◌≡◌, List, [], ◌∷◌, ◌++◌, Option, Some, is_some, IsTrue, sym, ap, ◌∙◌}
use Rattle.weave_data.specs.declared.name.Name.{Name}
use Rattle.weave_data.specs.Pairs.{IsRising, at_key, has, put}
use Rattle.weave_data.proofs.Changing.{found_put}
use Rattle.graph_ops.proofs.Retagging.{put_over, put_same}
use Rattle.version_parts.specs.declared.edge.EdgeItems.{EdgeItems}
use Rattle.version_parts.specs.declared.track.Item.{Item}
use Rattle.version_parts.specs.States.{Tracks, items_or_none, with_item, edge_or_none, with_edge_item, with_item_of}

module _ {X : Type 0} (key : Name) (pairs held after : List (Name × X)) (empty was now : X) (out : held ≡ put key empty pairs) where
  -- while the value is out, with an empty one in its place, the map still has the key
  pub still_there : IsTrue (has key held)
  still_there = ap (has key) out ∙ ap is_some (found_put key empty pairs)

  -- putting a value in over the empty one is the same as putting it over the value that was taken out
  pub put_again : after ≡ put key now held → after ≡ put key now pairs
  put_again back_in = back_in ∙ ap (put key now) out ∙ put_over key now empty pairs

  -- where keys rise, putting in again the value that was taken out leaves the map as it was
  pub as_before : IsRising pairs → at_key key pairs ≡ Some was → after ≡ put key now held → now ≡ was → after ≡ pairs
  as_before rising there back_in same = put_again back_in ∙ ap (λ (value : X). put key value pairs) same ∙ put_same key was pairs rising there

-- a list of items swapped out, pushed to and put back gives the tracks with one more item at its key
pub item_added : (key : Name) (item : Item Name) (tracks held after : Tracks) (empty was now : List (Item Name)) → held ≡ put key empty tracks → at_key key tracks ≡ Some was → after ≡ put key now held → now ≡ was ++ item ∷ [] → after ≡ with_item key item tracks
item_added key item tracks held after empty was now out there back_in is =
    put_again key tracks held after empty was now out back_in
    ∙ ap (λ (items : List (Item Name)). put key items tracks) is
    ∙ sym (ap (λ (o : Option (List (Item Name))). put key (items_or_none o ++ item ∷ []) tracks) there)

-- the items of an edge
pub edge_item_added : (name : Name) (tag : Option Name) (item : Item Name) (edges held after : List (Name × EdgeItems)) (empty was now : EdgeItems) → held ≡ put name empty edges → at_key name edges ≡ Some was → after ≡ put name now held → now ≡ with_edge_item tag item was → after ≡ with_item_of name tag item edges
edge_item_added name tag item edges held after empty was now out there back_in is =
    put_again name edges held after empty was now out back_in
    ∙ ap (λ (edge : EdgeItems). put name edge edges) is
    ∙ sym (ap (λ (o : Option EdgeItems). put name (with_edge_item tag item (edge_or_none o)) edges) there)
