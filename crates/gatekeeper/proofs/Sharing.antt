-- Operations are put under their vertices, and parts into their shards' lists.
-- Used by `commit_messages`, `make_place`, `parts_by_shard`, `parts_of_all`, `parts_of_one` and `put_behind`.
use Rattle.std.proofs.Common.{◌≡◌, ◌≢◌, ℕ, zero, suc, ◌+◌, ◌<◌, ◌≤◌, Bool, false, not, cond, nat_eq, List, [], ◌∷◌, ◌++◌, length, map, filter, drop, get_or, slice_set, Option, None, Some, IsSome, is_some, inl, inr, refl, sym, ap, subst, ◌∙◌, arith}
use Rattle.std.proofs.Math.Nat.{mod-lt}
use Rattle.std.specs.List.{flat_map, range_with_len, AllByRecursion, IsDistinct}
use Rattle.std.specs.Map.{lookup}
use Rattle.std.specs.Option.{unwrap_or}
use Rattle.std.proofs.lemmas.Bool.{cases_Bool, cases_lt, eqb-true, eq-eqb}
use Rattle.std.proofs.lemmas.List.{append-nil, map-append, length-drop, drop_more, drop_all}
use Rattle.std.proofs.lemmas.List.Elements.{filter-append}
use Rattle.std.proofs.lemmas.List.FromFn.{length-map-range_with_len, get_or-map-range_with_len}
use Rattle.std.proofs.lemmas.Map.Keys.{IsDistinct-head, IsDistinct-tail, IsDistinct-cons}
use Rattle.weave_data.specs.Names.{same_name, shard_of}
use Rattle.weave_data.specs.declared.name.Name.{Name}
use Rattle.graph_ops.specs.Mentions.{first_mentions, named_by, named_by_op}
use Rattle.graph_ops.specs.Operations.{vertex_of}
use Rattle.graph_ops.specs.declared.op.Op.{Op}
use Rattle.graph_ops.specs.declared.part.Part.{Part}
use Rattle.graph_ops.proofs.States.{here_or_else}
use Rattle.weave_entries.specs.declared.verdict.Counted.{Counted}
use Rattle.weave_entries.specs.Sending.{ops_on, part_for, is_kept_at, parts_for}
use Rattle.gatekeeper.specs.Parts.{ops_at, parts_by_shard, AreOfTheirOwn, HasOpsOf}

-- Operations under their vertices

-- the second table is the first with these operations under the vertex
abbrev pub Writes : Name → List Op → List (Name × List Op) → List (Name × List Op) → Type 0
Writes v some es fs = (q : Name) → lookup (same_name q) fs ≡ cond (same_name v q) (Some some) (lookup (same_name q) es)

-- operations that aren't found are none
pub absent : (x : Option (List Op)) → is_some x ≡ false → x ≡ None
absent None none = refl
absent (Some some) none = cc

-- an empty place is not seen
pub placed : (v : Name) (es fs : List (Name × List Op)) → lookup (same_name v) es ≡ None → Writes v [] es fs → (q : Name) → ops_at q fs ≡ ops_at q es
placed v es fs none writes q =
    ap (λ x. unwrap_or x []) (writes q)
    ∙ here_or_else v (λ k b. unwrap_or (cond b (Some []) (lookup (same_name k) es)) [] ≡ ops_at k es) (ap (λ x. unwrap_or x []) (sym none)) (λ k. refl) q

-- one more operation follows those on its vertex
pub behind : (op : Op) (v : Name) (es fs : List (Name × List Op)) (before after : List Op) → v ≡ vertex_of op → lookup (same_name v) es ≡ Some before → (IsSome (lookup (same_name v) es) → Writes v after es fs) → after ≡ before ++ op ∷ [] → (q : Name) → ops_at q fs ≡ ops_at q es ++ ops_on q (op ∷ [])
behind op v es fs before after is found writes more q =
    ap (λ x. unwrap_or x []) (writes (subst IsSome (sym found) refl) q)
    ∙ here_or_else v (λ k b. unwrap_or (cond b (Some after) (lookup (same_name k) es)) [] ≡ ops_at k es ++ cond b (op ∷ []) [])
    (more ∙ ap (λ x. unwrap_or x [] ++ op ∷ []) (sym found))
    (λ k. sym (append-nil (ops_at k es))) q
    ∙ ap (λ w. ops_at q es ++ cond (same_name w q) (op ∷ []) []) is

-- Vertices that are counted once

filter_all : {A : Type 0} (P : A → Type 0) (p : A → Bool) (xs : List A) → AllByRecursion P xs → AllByRecursion P (filter p xs)
filter_all P p [] all = tt
filter_all P p (x ∷ xs) all =
    elim (cases_Bool (p x)) [
      | inl holds ↦ rw holds (all.0, filter_all P p xs all.1)
      | inr fails ↦ rw fails (filter_all P p xs all.1)
    ]

filter_distinct : (p : Name → Bool) (names : List Name) → IsDistinct same_name names → IsDistinct same_name (filter p names)
filter_distinct p [] own = own
filter_distinct p (v ∷ names) own =
    let rest = filter_distinct p names (IsDistinct-tail same_name v names own) in
    elim (cases_Bool (p v)) [
      | inl holds ↦ rw holds (IsDistinct-cons same_name v (filter p names) (filter_all (λ w. same_name v w ≡ false) p names (IsDistinct-head same_name v names own)) rest)
      | inr fails ↦ rw fails rest
    ]

others_differ : (v : Name) (names : List Name) → AllByRecursion (λ w. same_name v w ≡ false) (filter (λ w. not (same_name v w)) names)
others_differ v [] = tt
others_differ v (w ∷ names) =
    elim (cases_Bool (same_name v w)) [
      | inl same ↦ rw same (others_differ v names)
      | inr other ↦ rw other (other, others_differ v names)
    ]

none_twice : IsDistinct same_name []
unfolding IsDistinct
none_twice = tt

mentions_distinct : (names : List Name) → IsDistinct same_name (first_mentions names)
mentions_distinct [] = none_twice
mentions_distinct (v ∷ names) =
    let rest = first_mentions names in
    IsDistinct-cons same_name v (filter (λ w. not (same_name v w)) rest) (others_differ v rest) (filter_distinct (λ w. not (same_name v w)) rest (mentions_distinct names))

-- no vertex that operations name is counted twice
pub counted_once : (counts : List Counted) (ops : List Op) → map (λ (counted : Counted). counted.vertex) counts ≡ named_by ops → AreOfTheirOwn counts
counted_once counts ops is = subst (IsDistinct same_name) (sym is) (mentions_distinct (flat_map named_by_op ops))

-- a table of all operations has those on each counted vertex
pub has_all : (table : List (Name × List Op)) (ops : List Op) (counts : List Counted) → ((v : Name) → ops_at v table ≡ ops_on v ops) → HasOpsOf table ops counts
has_all table ops [] has = tt
has_all table ops (one ∷ rest) has = (has one.vertex, has_all table ops rest has)

-- and, without those on one vertex, those on the others
pub has_others : (old new : List (Name × List Op)) (ops : List Op) (v : Name) (rest : List Counted) → AllByRecursion (λ w. same_name v w ≡ false) (map (λ (counted : Counted). counted.vertex) rest) → ((w : Name) → same_name v w ≡ false → ops_at w new ≡ ops_at w old) → HasOpsOf old ops rest → HasOpsOf new ops rest
has_others old new ops v [] own others has = tt
has_others old new ops v (one ∷ rest) own others has = (others one.vertex own.0 ∙ has.0, has_others old new ops v rest own.1 others has.1)

-- Parts in their shards' lists

module _ {A : Type 0} (f g : ℕ → A) (place : ℕ) (same : (n : ℕ) → n ≢ place → f n ≡ g n) where
  set_beyond : (first count : ℕ) → place < first → map f (range_with_len first count) ≡ map g (range_with_len first count)
  set_beyond first zero beyond = refl
  set_beyond first (suc count) beyond = λ i. same first (λ is. omega arith) i ∷ set_beyond (first + 1) count (omega arith) i

  set_within : (first count k : ℕ) → first + k ≡ place → k < count → slice_set (map f (range_with_len first count)) k (g place) ≡ map g (range_with_len first count)
  set_within first zero k is within = absurd (omega arith)
  set_within first (suc count) zero is within =
      let here : place ≡ first = omega arith in
      λ i. g (here i) ∷ set_beyond (first + 1) count (omega arith) i
  set_within first (suc count) (suc k) is within = λ i. same first (λ e. omega arith) i ∷ set_within (first + 1) count k (omega arith) (omega arith) i

-- what one more vertex gives a shard
parts_more : (shards shard : ℕ) (ops : List Op) (counts : List Counted) (one : Counted) → parts_for shards shard ops (counts ++ one ∷ []) ≡ parts_for shards shard ops counts ++ map (part_for ops) (filter (is_kept_at shards shard) (one ∷ []))
parts_more shards shard ops counts one =
    ap (map (part_for ops)) (filter-append (is_kept_at shards shard) counts (one ∷ []))
    ∙ map-append (part_for ops) (filter (is_kept_at shards shard) counts) (filter (is_kept_at shards shard) (one ∷ []))

parts_here : (shards : ℕ) (ops : List Op) (counts : List Counted) (one : Counted) (shard : ℕ) → shard ≡ shard_of one.vertex shards → parts_for shards shard ops (counts ++ one ∷ []) ≡ parts_for shards shard ops counts ++ part_for ops one ∷ []
parts_here shards ops counts one shard is =
    parts_more shards shard ops counts one
    ∙ ap (λ b. parts_for shards shard ops counts ++ map (part_for ops) (cond b (one ∷ []) [])) (eq-eqb (shard_of one.vertex shards) shard (sym is))

parts_elsewhere : (shards : ℕ) (ops : List Op) (counts : List Counted) (one : Counted) (shard : ℕ) → shard ≢ shard_of one.vertex shards → parts_for shards shard ops counts ≡ parts_for shards shard ops (counts ++ one ∷ [])
parts_elsewhere shards ops counts one shard other =
    elim (cases_Bool (nat_eq (shard_of one.vertex shards) shard)) [
      | inl same ↦ absurd (other (sym (eqb-true (shard_of one.vertex shards) shard same)))
      | inr differ ↦
          sym (append-nil (parts_for shards shard ops counts))
          ∙ ap (λ b. parts_for shards shard ops counts ++ map (part_for ops) (cond b (one ∷ []) [])) (sym differ)
          ∙ sym (parts_more shards shard ops counts one)
    ]

-- a shard is one of them
pub shard_within : (shards : ℕ) (ops : List Op) (counts : List Counted) (name : Name) (shares : List (List Part)) → 1 ≤ shards → shares ≡ parts_by_shard shards ops counts → shard_of name shards < length shares
shard_within shards ops counts name shares some is =
    let below : shard_of name shards < shards = mod-lt _ (omega arith) in
    let long = ap length is ∙ length-map-range_with_len (λ shard. parts_for shards shard ops counts) 0 shards in
    omega arith

-- one more part is at the end of its shard's list
pub share_more : (shards : ℕ) (ops : List Op) (counts : List Counted) (one : Counted) (shard : ℕ) (part : Part) (shares : List (List Part)) (share next : List Part) → 1 ≤ shards → shard ≡ shard_of one.vertex shards → part ≡ part_for ops one → shares ≡ parts_by_shard shards ops counts → share ≡ get_or shares shard share → next ≡ share ++ part ∷ [] → slice_set shares shard next ≡ parts_by_shard shards ops (counts ++ one ∷ [])
share_more shards ops counts one shard part shares share next some is part_is shares_are share_is next_is =
    let before : ℕ → List Part = λ n. parts_for shards n ops counts in
    let after : ℕ → List Part = λ n. parts_for shards n ops (counts ++ one ∷ []) in
    let below : shard_of one.vertex shards < shards = mod-lt _ (omega arith) in
    let within : shard < shards = omega arith in
    let was : share ≡ before shard = share_is ∙ ap (λ xs. get_or xs shard share) shares_are ∙ get_or-map-range_with_len before 0 shards shard shard share within (omega arith) in
    let now : next ≡ after shard = next_is ∙ ap (λ xs. xs ++ part ∷ []) was ∙ ap (λ x. before shard ++ x ∷ []) part_is ∙ sym (parts_here shards ops counts one shard is) in
    (λ i. slice_set (shares_are i) shard (now i))
    ∙ set_within before after shard (λ n other. parts_elsewhere shards ops counts one n (λ e. other (e ∙ sym is))) 0 shards shard (omega arith) within

-- The lists, one after another

-- a list of one element that has x at its place is the list of x alone
pub one_of : {A : Type 0} (xs : List A) (x : A) → length xs ≡ 1 → x ≡ get_or xs 0 x → x ∷ [] ≡ xs
one_of [] x long is = absurd (omega (arith, long))
one_of (y ∷ []) x long is = ap (λ z. z ∷ []) is
one_of (y ∷ z ∷ xs) x long is = absurd (omega (arith, long))

first_is : {A : Type 0} (x y : A) (xs ys : List A) → x ∷ xs ≡ y ∷ ys → x ≡ y
first_is x y xs ys is = cc

rest_is : {A : Type 0} (x y : A) (xs ys : List A) → x ∷ xs ≡ y ∷ ys → xs ≡ ys
rest_is x y xs ys is = cc

module _ {A : Type 0} (f : ℕ → A) (count : ℕ) where
  abbrev all : List A
  all = map f (range_with_len 0 count)

  -- where something is left, it is that of the next place
  pub next_is : (place : ℕ) (one : A) (rest : List A) → one ∷ rest ≡ drop place all → (place < count) × (one ≡ f place) × (rest ≡ drop (place + 1) all)
  next_is place one rest is =
      let long = length-map-range_with_len f 0 count in
      elim (cases_lt place (length all)) [
        | inl within ↦
            let both : one ∷ rest ≡ get_or all place one ∷ drop (place + 1) all = is ∙ drop_more all place one within in
            let below : place < count = omega arith in (
              below,
              first_is _ _ _ _ both ∙ get_or-map-range_with_len f 0 count place place one below (omega arith),
              rest_is _ _ _ _ both,
            )
        | inr beyond ↦ let none : one ∷ rest ≡ [] = is ∙ drop_all place all beyond in absurd (cc)
      ]

  -- where nothing is left, all places were gone through
  pub all_gone : (place : ℕ) (rest : List A) → rest ≡ drop place all → length rest ≡ 0 → count ≤ place
  all_gone place rest is none =
      let long = length-map-range_with_len f 0 count in
      let left = ap length is ∙ length-drop place all in
      omega arith
