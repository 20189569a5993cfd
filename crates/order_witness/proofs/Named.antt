-- A vertex is named by operations exactly if one of them names it.
-- Used by `work_names`.
use Rattle.std.proofs.Common.{◌≡◌, Bool, true, false, not, cond, ◌||◌, List, [], ◌∷◌, ◌++◌, Option, Some, None, refl, ap, ◌∙◌}
use Rattle.std.specs.List.{flat_map, list_any}
use Rattle.std.specs.Prelude.{option_to_list}
use Rattle.weave_data.specs.declared.name.Name.{Name}
use Rattle.weave_data.specs.Names.{same_name, one_name}
use Rattle.graph_ops.specs.declared.op.Op.{Op}
use Rattle.graph_ops.specs.Operations.{needed_by, vertex_of}
use Rattle.graph_ops.specs.Mentions.{is_among, first_mentions, named_by, named_by_op}
use Rattle.graph_ops.proofs.FirstMentions.{others}

-- without a name, and with it in front: the same names
still_among : (w v : Name) (names : List Name) → (same_name w v || is_among (others w names) v) ≡ (same_name w v || is_among names v)
still_among w v [] = refl
still_among w v (x ∷ names) =
    elim (same_name w x) as (λ b. same_name w x ≡ b → (same_name w v || is_among (cond (not b) (x ∷ others w names) (others w names)) v) ≡ (same_name w v || (same_name x v || is_among names v))) [
      | true ↦ λ e. still_among w v names ∙ again (same_name w v) (is_among names v) (same_name x v) (ap (λ y. same_name y v) (one_name w x e))
      | false ↦ λ e. swapped (same_name w v) (same_name x v) (is_among (others w names) v) (is_among names v) (still_among w v names)
    ] refl
  where
    again : (a c d : Bool) → a ≡ d → (a || c) ≡ (a || (d || c))
    again true c d e = refl
    again false c d e = ap (λ y. y || c) e

    swapped : (a d b c : Bool) → (a || b) ≡ (a || c) → (a || (d || b)) ≡ (a || (d || c))
    swapped true d b c e = refl
    swapped false d b c e = ap (λ y. d || y) e

mentions_among : (names : List Name) (v : Name) → is_among (first_mentions names) v ≡ is_among names v
mentions_among [] v = refl
mentions_among (w ∷ names) v = still_among w v (first_mentions names) ∙ ap (λ b. same_name w v || b) (mentions_among names v)

-- a name is among those of an operation if it is its vertex's, or that of the other one that it needs
own_or_needed : (needed : Option Name) (v : Name) (rest : List Name) → is_among (option_to_list needed ++ rest) v ≡ (is_among (option_to_list needed) v || is_among rest v)
own_or_needed None v rest = refl
own_or_needed (Some w) v rest = at (same_name w v)
  where
    at : (b : Bool) → (b || is_among rest v) ≡ ((b || false) || is_among rest v)
    at true = refl
    at false = refl

mapped : (ops : List Op) (v : Name) → is_among (flat_map named_by_op ops) v ≡ list_any (λ (op : Op). is_among (named_by_op op) v) ops
mapped [] v = refl
mapped (op ∷ ops) v =
    ap (λ b. same_name (vertex_of op) v || b) (own_or_needed (needed_by op) v (flat_map named_by_op ops))
    ∙ or_turned (same_name (vertex_of op) v) (is_among (option_to_list (needed_by op)) v) (is_among (flat_map named_by_op ops) v)
    ∙ ap (λ b. is_among (named_by_op op) v || b) (mapped ops v)
  where
    or_turned : (a b c : Bool) → (a || (b || c)) ≡ ((a || b) || c)
    or_turned true b c = refl
    or_turned false b c = refl

-- a vertex is named if an operation names it
pub among_named : (ops : List Op) (v : Name) → is_among (named_by ops) v ≡ list_any (λ (op : Op). is_among (named_by_op op) v) ops
among_named ops v = mentions_among (flat_map named_by_op ops) v ∙ mapped ops v
