-- Worked rows of the definitions.
-- Used by nothing: worked examples.
use Rattle.std.proofs.Common.{◌≡◌, ℕ, [], ◌∷◌, Some, refl}
use Rattle.graph_ops.specs.declared.op.Op.{Op}
use Rattle.graph_ops.specs.declared.op.Op.TheVariants.{Create, Delete, Set, Link, Unlink, Tag}
use Rattle.version_parts.specs.declared.lists.Lists.{Lists}
use Rattle.version_parts.specs.Counts.{count_in_lists}
use Rattle.version_parts.specs.Cuts.{lists_until, collected_lists}
use Rattle.version_parts.specs.States.{state_at, no_items, with_op}

-- the lists with one more operation of an update
abbrev then_op : ℕ → ℕ → Op → Lists → Lists
then_op update place op lists = with_op (record { update = update; place = place }) op lists

-- `create`, `set`, `delete` and `create` in one update: the property is hidden
abbrev made_again : Lists
made_again = then_op 1 3 (Create (118 ∷ [])) (then_op 1 2 (Delete (118 ∷ [])) (then_op 1 1 (Set (118 ∷ []) (97 ∷ []) (98 ∷ [])) (then_op 1 0 (Create (118 ∷ [])) no_items)))

-- after the update the vertex is there, without properties and edges
pub made_again_is_empty : state_at 1 made_again ≡ Some (record { props = []; edges = [] })
made_again_is_empty = refl

-- `delete`, `create` and `set` after an update: the property is there
abbrev set_again : Lists
set_again = then_op 2 2 (Set (118 ∷ []) (97 ∷ []) (98 ∷ [])) (then_op 2 1 (Create (118 ∷ [])) (then_op 2 0 (Delete (118 ∷ [])) made_again))

-- after the second update it has this one property
pub set_again_has_it : state_at 2 set_again ≡ Some (record { props = (97 ∷ [], 98 ∷ []) ∷ []; edges = [] })
set_again_has_it = refl

-- after the first update it has none, as before
pub set_again_before : state_at 1 set_again ≡ Some (record { props = []; edges = [] })
set_again_before = refl

-- an edge that was linked again has none of the tags from before
abbrev linked_again : Lists
linked_again = then_op 2 1 (Link (118 ∷ []) (101 ∷ []) (99 ∷ [])) (then_op 2 0 (Unlink (118 ∷ []) (101 ∷ [])) (then_op 1 2 (Tag (118 ∷ []) (101 ∷ []) (107 ∷ []) (98 ∷ [])) (then_op 1 1 (Link (118 ∷ []) (101 ∷ []) (97 ∷ [])) (then_op 1 0 (Create (118 ∷ [])) no_items))))

-- after the first update the edge has its first target and the tag
pub linked_before : state_at 1 linked_again ≡ Some (record { props = []; edges = (101 ∷ [], record { target = 97 ∷ []; tags = (107 ∷ [], 98 ∷ []) ∷ [] }) ∷ [] })
linked_before = refl

-- after the second update the edge has its new target and no tag
pub linked_again_has_no_tag : state_at 2 linked_again ≡ Some (record { props = []; edges = (101 ∷ [], record { target = 99 ∷ []; tags = [] }) ∷ [] })
linked_again_has_no_tag = refl

-- a collection drops what is hidden, and keeps what is there
pub collected_items : count_in_lists (collected_lists 2 linked_again) ≡ 2
collected_items = refl

-- the collection leaves the state after the oldest update as it was
pub collected_state : state_at 2 (collected_lists 2 linked_again) ≡ state_at 2 linked_again
collected_state = refl

-- of the vertex that was made again a collection leaves just the item of its last making
pub hidden_is_dropped : collected_lists 1 made_again ≡ record { presence = record { time = record { update = 1; place = 3 }; value = Some tt } ∷ []; props = []; edges = [] }
hidden_is_dropped = refl

-- taking back the second update leaves the four items of the first
pub taken_back : count_in_lists (lists_until 1 set_again) ≡ 4
taken_back = refl
