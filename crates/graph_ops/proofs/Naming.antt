-- What a transaction names: the vertices that its operations name, each once, and no others.
-- Used by `each_vertex_is_named_once` and `other_vertices_change_nothing`.
use Rattle.std.proofs.Common.{◌≡◌, ◌≢◌, Bool, true, false, ◌||◌, not, cond, List, [], ◌∷◌, ◌++◌, IsTrue, Contains, AllPairs, refl, sym, ap, subst, ◌∙◌}
use Rattle.std.specs.List.{filter, flat_map}
use Rattle.std.specs.Prelude.{option_to_list}
use Rattle.std.proofs.lemmas.List.Folds.{list_any-append}
use Rattle.std.proofs.lemmas.Bool.{both_ways, or_left, or_right}
use Rattle.std.proofs.lemmas.List.Kept.{AllPairs-filter}
use Rattle.weave_data.proofs.Members.{filter_has, any_from, any_has}
use Rattle.weave_data.proofs.Ordered.{pairs_none, pairs_cons}
use Rattle.weave_data.specs.Names.{same_name, one_name}
use Rattle.weave_data.specs.declared.name.Name.{Name}
use Rattle.graph_ops.specs.Operations.{needed_by, vertex_of}
use Rattle.graph_ops.specs.Mentions.{first_mentions, named_by, named_by_op, is_among}
use Rattle.graph_ops.specs.PlainGraph.{PlainGraph}
use Rattle.graph_ops.specs.VertexOps.{ops_on}
use Rattle.graph_ops.specs.declared.op.Op.{Op}
use Rattle.graph_ops.proofs.Alike.{AgreeAt, AgreeFor}
use Rattle.graph_ops.proofs.Vertices.{same_name-refl}

-- Each once

-- no name comes twice among the first mentions
pub mentions-distinct : (xs : List Name) → AllPairs (λ a b. a ≢ b) (first_mentions xs)
mentions-distinct [] = pairs_none (λ (a b : Name). a ≢ b)
mentions-distinct (x ∷ xs) =
    pairs_cons (λ (a b : Name). a ≢ b) x (filter (λ w. not (same_name x w)) (first_mentions xs))
    (λ y has same. differs y ((filter_has (λ w. not (same_name x w)) (first_mentions xs) y has).1) same)
    (AllPairs-filter (λ (a b : Name). a ≢ b) (λ w. not (same_name x w)) (first_mentions xs) (mentions-distinct xs))
  where
    differs : (y : Name) → IsTrue (not (same_name x y)) → x ≡ y → ⊥
    differs y h same =
        let there : same_name x y ≡ true = subst (λ k. IsTrue (same_name x k)) same (same_name-refl x) in
        both_ways (same_name x y) (at (same_name x y) h) there
      where
        at : (b : Bool) → IsTrue (not b) → b ≡ false
        at true h = absurd (cc)
        at false h = refl

-- The same members

-- to leave out one name doesn't touch another one
others-among : (u v : Name) → same_name u v ≡ false → (xs : List Name) → is_among (filter (λ w. not (same_name u w)) xs) v ≡ is_among xs v
others-among u v differ [] = refl
others-among u v differ (x ∷ xs) = at (same_name u x) refl (others-among u v differ xs)
  where
    at : (b : Bool) → same_name u x ≡ b → is_among (filter (λ w. not (same_name u w)) xs) v ≡ is_among xs v
        → is_among (cond (not b) (x ∷ filter (λ w. not (same_name u w)) xs) (filter (λ w. not (same_name u w)) xs)) v ≡ is_among (x ∷ xs) v
    at true same e = e ∙ ap (λ b. b || is_among xs v) (sym (ap (λ k. same_name k v) (sym (one_name u x same)) ∙ differ))
    at false other e = ap (λ b. same_name x v || b) e

-- a name is among the first mentions exactly if it is among all
pub mentions-among : (xs : List Name) (v : Name) → is_among (first_mentions xs) v ≡ is_among xs v
mentions-among [] v = refl
mentions-among (x ∷ xs) v = at (same_name x v) refl (mentions-among xs v)
  where
    at : (b : Bool) → same_name x v ≡ b → is_among (first_mentions xs) v ≡ is_among xs v → b || is_among (filter (λ w. not (same_name x w)) (first_mentions xs)) v ≡ b || is_among xs v
    at true same rest = refl
    at false other rest = others-among x v other (first_mentions xs) ∙ rest

-- a list contains each name that is among it
pub among-has : (xs : List Name) (v : Name) → IsTrue (is_among xs v) → Contains xs v
among-has xs v h =
    let found = any_has (λ other. same_name other v) xs h in
    subst (Contains xs) (one_name found.0 v found.2) found.1

-- and each name that a list contains is among it
pub has-among : (xs : List Name) (v : Name) → Contains xs v → IsTrue (is_among xs v)
has-among xs v h = any_from (λ other. same_name other v) xs v h (same_name-refl v)

-- Operations

-- a name is among two lists together if it is among one of them
among-append : (xs ys : List Name) (v : Name) → is_among (xs ++ ys) v ≡ is_among xs v || is_among ys v
among-append xs ys v = list_any-append (λ other. same_name other v) xs ys

not-right : (a b : Bool) → a || b ≡ false → b ≡ false
not-right true b e = absurd (cc)
not-right false b e = e

-- on a vertex that isn't named there is no operation
pub none-on : (ops : List Op) (v : Name) → is_among (named_by ops) v ≡ false → ops_on v ops ≡ []
none-on ops v e = from ops (sym (mentions-among (flat_map named_by_op ops) v) ∙ e)
  where
    from : (ops : List Op) → is_among (flat_map named_by_op ops) v ≡ false → ops_on v ops ≡ []
    from [] e = refl
    from (op ∷ ops) e = at (same_name (vertex_of op) v) e (from ops)
      where
        at : (b : Bool) → b || is_among (option_to_list (needed_by op) ++ flat_map named_by_op ops) v ≡ false → (is_among (flat_map named_by_op ops) v ≡ false → ops_on v ops ≡ []) → cond b (op ∷ ops_on v ops) (ops_on v ops) ≡ []
        at true e rest = cc
        at false e rest = rest (not-right _ _ (sym (among-append (option_to_list (needed_by op)) (flat_map named_by_op ops) v) ∙ e))

-- graphs that are alike at the named vertices are alike at each operation's
pub agree-named : (ops : List Op) (g h : PlainGraph) → ((v : Name) → IsTrue (is_among (named_by ops) v) → g v ≡ h v) → AgreeFor ops g h
agree-named ops g h alike = from ops (λ v there. alike v (mentions-among (flat_map named_by_op ops) v ∙ there))
  where
    each : (names : List Name) → ((v : Name) → IsTrue (is_among names v) → g v ≡ h v) → AgreeAt names g h
    each [] f = tt
    each (v ∷ more) f = (f v (or_left _ _ (same_name-refl v)), each more (λ w there. f w (or_right _ _ there)))

    from : (more : List Op) → ((v : Name) → IsTrue (is_among (flat_map named_by_op more) v) → g v ≡ h v) → AgreeFor more g h
    from [] f = tt
    from (op ∷ more) f = (
      each (named_by_op op) (λ v there. f v (among-append (named_by_op op) (flat_map named_by_op more) v ∙ or_left _ _ there)),
      from more (λ v there. f v (among-append (named_by_op op) (flat_map named_by_op more) v ∙ or_right _ _ there)),
    )
