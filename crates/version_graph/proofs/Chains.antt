-- Chains in a table: what it has at each vertex, after a part was applied or taken back.
-- Used by `apply_all`, `apply_parts`, `chain`, `make_place`, `new`, `take_all_back`, `update` and Collecting.
use Rattle.std.proofs.Common.{◌≡◌, ◌≢◌, ℕ, suc, ◌+◌, ◌<◌, Bool, true, false, cond, List, [], ◌∷◌, ◌++◌, length, take, get_or, All, Option, None, Some, is_some, inl, inr, refl, sym, ap, subst, ◌∙◌, arith}
use Rattle.std.specs.Prelude.{◌==◌, AllPairs}
use Rattle.std.specs.FinMap as map
use Rattle.std.specs.FinMap.{nat_cmp-IsAntisymmetric, slice_cmp-IsAntisymmetric, same_map, get-insert, get-remove, get-empty}
use Rattle.std.specs.Cmp.Lexicographic.{nat_list_cmp_total}
use Rattle.std.proofs.lemmas.List.Elements.{All-push, All-contains}
use Rattle.weave_data.proofs.Members.{has_last}
use Rattle.std.specs.Map.{lookup}
use Rattle.std.proofs.lemmas.Bool.Decides.{eqb_tells}
use Rattle.std.proofs.lemmas.Bool.{ne_eqb, eq-eqb, cases_Bool}
use Rattle.std.proofs.lemmas.List.{get_or_append_left, length-append, length-take-le, get_or-take, get_or_default, take_more}
use Rattle.std.proofs.lemmas.List.Sums.{fold-append}
use Rattle.weave_data.specs.Names.{name_cmp, same_name, one_name}
use Rattle.weave_data.specs.declared.name.Name.{Name}
use Rattle.graph_ops.specs.declared.part.Part.{Part}
use Rattle.graph_ops.proofs.States.{here_or_else}
use Rattle.graph_ops.proofs.Vertices.{same_name-refl}
use Rattle.vector_stamp.specs.declared.clock.Stamp.{Stamp}
use Rattle.version_chain.specs.declared.version.Version.{Version}
use Rattle.version_chain.specs.Chains.{ChainView, no_updates, update_count, with_version, with_update, next_version, IsNextUpdate, KeepsOne}
use Rattle.version_graph.specs.Graphs.{Chains, chain_of, chain_or_new, after_part, after_parts}
use Rattle.version_graph.specs.Tables.{with_updates, chain_at, with_chain, chains_held, at_vertex, HasNewest, WereApplied}

-- Chains with and without updates

no_length : (versions : List Version) → length versions ≡ 0 → versions ≡ []
no_length [] is = refl
no_length (version ∷ versions) is = absurd (omega (arith, is))

none_is_new : (chain : ChainView) → update_count chain ≡ 0 → chain ≡ no_updates
none_is_new chain none =
    let dropped_is : chain.dropped ≡ 0 = omega (arith, none) in
    let kept_is : chain.kept ≡ [] = no_length chain.kept (omega (arith, none)) in
    λ i. record { dropped = dropped_is i; kept = kept_is i }

-- leaving out a chain without updates, and then taking a new one for it, gives the chain again
pub or_new : (chain : ChainView) → chain_or_new (with_updates (Some chain)) ≡ chain
or_new chain = elim (eqb_tells (update_count chain) 0) [
  | inl none ↦ rw none.0 (sym (none_is_new chain none.1))
  | inr some ↦ rw some.0 refl
]

-- a chain with one more version has updates
pub has_updates : (newest : Version) (chain : ChainView) → with_updates (Some (with_version newest chain)) ≡ Some (with_version newest chain)
has_updates newest chain =
    let count = length-append chain.kept (newest ∷ []) in
    let some : (update_count (with_version newest chain) == 0) ≡ false = ne_eqb (update_count (with_version newest chain)) 0 (λ none. omega (arith, none, count)) in
    rw some refl

-- a chain that is there has updates
abbrev IsSettled : Option ChainView → Type 0
IsSettled chain = with_updates (Some (chain_or_new chain)) ≡ chain

settled_at : (chain : Option ChainView) → IsSettled (with_updates chain)
settled_at None = refl
settled_at (Some chain) = ap (λ (c : ChainView). with_updates (Some c)) (or_new chain)

settled_part : (stamp : Stamp) (v : Name) (chain : Option ChainView) (part : Part) (b : Bool) → IsSettled chain → IsSettled (cond b (Some (with_update stamp part.ops (chain_or_new chain))) chain)
settled_part stamp v chain part true settled = has_updates (next_version stamp part.ops (chain_or_new chain).kept) (chain_or_new chain)
settled_part stamp v chain part false settled = settled

settled_parts : (stamp : Stamp) (v : Name) (chain : Option ChainView) (parts : List Part) → IsSettled chain → IsSettled (after_parts stamp v chain parts)
settled_parts stamp v chain [] settled = settled
settled_parts stamp v chain (part ∷ parts) settled = settled_parts stamp v (after_part stamp v chain part) parts (settled_part stamp v chain part (same_name part.vertex v) settled)

base_version : (newest : Version) (chain : ChainView) → KeepsOne (with_version newest chain)
base_version newest chain some = let count = length-append chain.kept (newest ∷ []) in omega (arith, count)

base_part : (stamp : Stamp) (chain : Option ChainView) (part : Part) (b : Bool) → KeepsOne (chain_or_new chain) → KeepsOne (chain_or_new (cond b (Some (with_update stamp part.ops (chain_or_new chain))) chain))
base_part stamp chain part true base = base_version (next_version stamp part.ops (chain_or_new chain).kept) (chain_or_new chain)
base_part stamp chain part false base = base

base_parts : (stamp : Stamp) (v : Name) (chain : Option ChainView) (parts : List Part) → KeepsOne (chain_or_new chain) → KeepsOne (chain_or_new (after_parts stamp v chain parts))
base_parts stamp v chain [] base = base
base_parts stamp v chain (part ∷ parts) base = base_parts stamp v (after_part stamp v chain part) parts (base_part stamp chain part (same_name part.vertex v) base)

-- The table

-- the second table is the first with this chain at the vertex
abbrev pub Writes : Name → ChainView → List (Name × ChainView) → List (Name × ChainView) → Type 0
Writes v chain es fs = (q : Name) → lookup (same_name q) fs ≡ cond (same_name v q) (Some chain) (lookup (same_name q) es)

-- a chain that isn't found is none
pub absent : (x : Option ChainView) → is_some x ≡ false → x ≡ None
absent None none = refl
absent (Some chain) none = absurd cc

-- a place without updates is not seen
pub placed : (v : Name) (es fs : List (Name × ChainView)) → lookup (same_name v) es ≡ None → Writes v no_updates es fs → (q : Name) → chain_at q fs ≡ chain_at q es
placed v es fs none writes q =
    ap with_updates (writes q)
    ∙ here_or_else v (λ k b. with_updates (cond b (Some no_updates) (lookup (same_name k) es)) ≡ chain_at k es) (ap with_updates (sym none)) (λ k. refl) q

-- a chain that was written in its place
pub written : (v : Name) (es fs : List (Name × ChainView)) (after : ChainView) → Writes v after es fs → (q : Name) → chain_at q fs ≡ at_vertex v q (with_updates (Some after)) (chain_at q es)
written v es fs after writes q =
    ap with_updates (writes q)
    ∙ here_or_else v (λ k b. with_updates (cond b (Some after) (lookup (same_name k) es)) ≡ cond b (with_updates (Some after)) (chain_at k es)) refl (λ k. refl) q

-- a chain that is written over itself changes no chain
pub same_place : (v : Name) (es fs : List (Name × ChainView)) (chain : ChainView) → lookup (same_name v) es ≡ Some chain → Writes v chain es fs → (q : Name) → chain_at q fs ≡ chain_at q es
same_place v es fs chain found writes q =
    ap with_updates (writes q)
    ∙ here_or_else v (λ k b. with_updates (cond b (Some chain) (lookup (same_name k) es)) ≡ chain_at k es) (ap with_updates (sym found)) (λ k. refl) q

-- the chain in a vertex's place is what the table has there, or a new one if that is nothing
pub found_or_new : (v : Name) (es : List (Name × ChainView)) (chain : ChainView) → lookup (same_name v) es ≡ Some chain → chain_or_new (chain_at v es) ≡ chain
found_or_new v es chain found = ap (λ (x : Option ChainView). chain_or_new (with_updates x)) found ∙ or_new chain

-- if the chain in a vertex's place gets the part's update, each vertex has its chain after the part
pub updated : (stamp : Stamp) (part : Part) (es fs : List (Name × ChainView)) (before after : ChainView) → lookup (same_name part.vertex) es ≡ Some before → Writes part.vertex after es fs → after ≡ with_update stamp part.ops before → (q : Name) → chain_at q fs ≡ after_part stamp q (chain_at q es) part
updated stamp part es fs before after found writes is q =
    written part.vertex es fs after writes q
    ∙ here_or_else part.vertex (λ k b. cond b (with_updates (Some after)) (chain_at k es) ≡ cond b (Some (with_update stamp part.ops (chain_or_new (chain_at k es)))) (chain_at k es))
    (ap (λ (c : ChainView). with_updates (Some c)) is ∙ has_updates (next_version stamp part.ops before.kept) before ∙ ap (λ (c : ChainView). Some (with_update stamp part.ops c)) (sym (found_or_new part.vertex es before found)))
    (λ k. refl) q

-- the newest update of a chain that is found
pub newest_found : (v : Name) (es : List (Name × ChainView)) (chain : ChainView) → lookup (same_name v) es ≡ Some chain → HasNewest (chain_at v es) → HasNewest (Some chain)
newest_found v es chain found has =
    by (with_updates (Some chain)) (or_new chain) (subst (λ (x : Option ChainView). HasNewest (with_updates x)) found has)
  where
    by : (x : Option ChainView) → chain_or_new x ≡ chain → HasNewest x → HasNewest (Some chain)
    by None is none = absurd none
    by (Some other) is has_newest = subst (λ (c : ChainView). HasNewest (Some c)) is has_newest

-- if the table has a chain with a newest version at a vertex, it is the one in the vertex's place
pub found_version : (v : Name) (es : List (Name × ChainView)) (chain before : ChainView) (newest : Version) → lookup (same_name v) es ≡ Some chain → chain_at v es ≡ Some (with_version newest before) → chain ≡ with_version newest before
found_version v es chain before newest found is = sym (found_or_new v es chain found) ∙ ap chain_or_new is

-- Parts, one after another

apart_name : (v w : Name) → v ≢ w → same_name v w ≡ false
apart_name v w other = elim (cases_Bool (same_name v w)) [
  | inl same ↦ absurd (other (one_name v w same))
  | inr apart ↦ apart
]

-- parts of other vertices leave a vertex's chain as it is
pub apart_same : (stamp : Stamp) (v : Name) (chain : Option ChainView) (parts : List Part) → All (λ (part : Part). part.vertex ≢ v) parts → after_parts stamp v chain parts ≡ chain
apart_same stamp v chain [] apart = refl
apart_same stamp v chain (part ∷ parts) apart =
    let other : same_name part.vertex v ≡ false = apart_name part.vertex v (apart 0 part (omega arith)) in
    rw other (apart_same stamp v chain parts (λ k d below. apart (suc k) d (omega (arith, below))))

-- of parts of vertices of their own, those before one of them are of other vertices than it
pub apart_before : (parts : List Part) (n : ℕ) (d : Part) → n < length parts → AllPairs (λ (one other : Part). one.vertex ≢ other.vertex) parts → All (λ (part : Part). part.vertex ≢ (get_or parts n d).vertex) (take n parts)
apart_before parts n d below apart k e k_below =
    let within : k < n = omega (arith, k_below, length-take-le n parts (omega (arith, below))) in
    let at : get_or (take n parts) k e ≡ get_or parts k e = get_or-take n parts k e within in
    let there : k < length parts = omega (arith, within, below) in
    λ same. apart k n e within below (ap (λ (part : Part). part.vertex) (sym at) ∙ same ∙ ap (λ (part : Part). part.vertex) (get_or_default parts n d e below))

-- the chain after one more of the parts is that after the parts before it, and then after this one
pub one_more : (stamp : Stamp) (v : Name) (chain : Option ChainView) (parts : List Part) (n : ℕ) (d : Part) → n < length parts → after_parts stamp v chain (take (n + 1) parts) ≡ after_part stamp v (after_parts stamp v chain (take n parts)) (get_or parts n d)
one_more stamp v chain parts n d below =
    ap (after_parts stamp v chain) (take_more parts n d below) ∙ fold-append (after_part stamp v) chain (take n parts) (get_or parts n d ∷ [])

All-last : {A : Type 0} (P : A → Type 0) (xs : List A) (x : A) → All P (xs ++ x ∷ []) → P x
All-last P xs x all = All-contains P (xs ++ x ∷ []) x all (has_last xs x)

All-front : {A : Type 0} (P : A → Type 0) (xs ys : List A) → All P (xs ++ ys) → All P xs
All-front P xs ys all k d below = subst P (get_or_append_left xs ys d k below) (all k d (omega (arith, length-append xs ys, below)))

-- if n parts were applied, and the next one is, to a vertex whose chain keeps one version, n + 1 were applied
pub applied_on : (stamp : Stamp) (parts : List Part) (n : ℕ) (d : Part) (before now next : List (Name × ChainView)) → n < length parts → WereApplied stamp (take n parts) before now
    → ((v : Name) → chain_at v next ≡ after_part stamp v (chain_at v now) (get_or parts n d)) → KeepsOne (chain_or_new (chain_at (get_or parts n d).vertex before)) → WereApplied stamp (take (n + 1) parts) before next
applied_on stamp parts n d before now next below so_far more base = record {
  applied = λ v. more v ∙ ap (λ (c : Option ChainView). after_part stamp v c (get_or parts n d)) (so_far.applied v) ∙ sym (one_more stamp v (chain_at v before) parts n d below);
  base = subst (All (λ (part : Part). KeepsOne (chain_or_new (chain_at part.vertex before)))) (sym (take_more parts n d below)) (All-push (λ (part : Part). KeepsOne (chain_or_new (chain_at part.vertex before))) (take n parts) (get_or parts n d) so_far.base base);
}

-- and one less
module _ (stamp : Stamp) (rest earlier : List Part) (last : Part) (before now : List (Name × ChainView)) (split : rest ≡ earlier ++ last ∷ []) (were : WereApplied stamp rest before now) where
  was : Option ChainView
  was = after_parts stamp last.vertex (chain_at last.vertex before) earlier

  applied_last : (v : Name) → chain_at v now ≡ after_part stamp v (after_parts stamp v (chain_at v before) earlier) last
  applied_last v = were.applied v ∙ ap (after_parts stamp v (chain_at v before)) split ∙ fold-append (after_part stamp v) (chain_at v before) earlier (last ∷ [])

  base_last : KeepsOne (chain_or_new (chain_at last.vertex before))
  base_last = All-last (λ (part : Part). KeepsOne (chain_or_new (chain_at part.vertex before))) earlier last (subst (All (λ (part : Part). KeepsOne (chain_or_new (chain_at part.vertex before)))) split were.base)

  -- the vertex of the last part has its update, on the chain after the parts before it
  pub last_is : chain_at last.vertex now ≡ Some (with_update stamp last.ops (chain_or_new (after_parts stamp last.vertex (chain_at last.vertex before) earlier)))
  last_is = applied_last last.vertex ∙ ap
      (λ (b : Bool). cond b (Some (with_update stamp last.ops
      (chain_or_new (after_parts stamp last.vertex (chain_at last.vertex before) earlier))))
      (after_parts stamp last.vertex (chain_at last.vertex before) earlier)) (same_name-refl last.vertex)

  -- the newest update of that vertex can be taken back
  pub last_newest : HasNewest (chain_at last.vertex now)
  last_newest = subst HasNewest (sym last_is) (newest_of (next_version stamp last.ops (chain_or_new (after_parts stamp last.vertex (chain_at last.vertex before) earlier)).kept) (chain_or_new (after_parts stamp last.vertex (chain_at last.vertex before) earlier)) (base_parts stamp last.vertex (chain_at last.vertex before) earlier base_last))
    where
      newest_of : (newest : Version) (chain : ChainView) → KeepsOne chain → HasNewest (Some (with_version newest chain))
      newest_of newest chain base =
          let count = length-append chain.kept (newest ∷ []) in
          (omega (arith, count), λ some. let one = base some in omega (arith, count, one))

  -- when it is taken back, just the parts before the last one are applied
  pub one_less : (next : List (Name × ChainView)) → ((newest : Version) (chain : ChainView) → chain_at last.vertex now ≡ Some (with_version newest chain) → (v : Name) → chain_at v next ≡ at_vertex last.vertex v (with_updates (Some chain)) (chain_at v now)) → WereApplied stamp earlier before next
  one_less next took = record {
    applied = λ v.
        took (next_version stamp last.ops (chain_or_new (after_parts stamp last.vertex (chain_at last.vertex before) earlier)).kept) (chain_or_new (after_parts stamp last.vertex (chain_at last.vertex before) earlier)) last_is v
        ∙ ap (at_vertex last.vertex v (with_updates (Some (chain_or_new (after_parts stamp last.vertex (chain_at last.vertex before) earlier))))) (applied_last v)
        ∙ here_or_else last.vertex (λ k b. cond b (with_updates (Some (chain_or_new (after_parts stamp last.vertex (chain_at last.vertex before) earlier)))) (cond b (Some (with_update stamp last.ops (chain_or_new (after_parts stamp k (chain_at k before) earlier)))) (after_parts stamp k (chain_at k before) earlier)) ≡ after_parts stamp k (chain_at k before) earlier)
        (settled_parts stamp last.vertex (chain_at last.vertex before) earlier (settled_at (lookup (same_name last.vertex) before)))
        (λ k. refl) v;
    base = All-front (λ (part : Part). KeepsOne (chain_or_new (chain_at part.vertex before))) earlier (last ∷ []) (subst (All (λ (part : Part). KeepsOne (chain_or_new (chain_at part.vertex before)))) split were.base);
  }

-- The finite map of a table

get_with : (v : Name) (chain : Option ChainView) (chains : Chains) (q : Name) → map.get (with_chain v chain chains) q ≡ cond (same_name q v) chain (map.get chains q)
get_with v None chains q = get-remove nat_list_cmp_total chains v q
get_with v (Some chain) chains q = get-insert nat_list_cmp_total chains v chain q

with_updates-cond : (b : Bool) (chain : ChainView) (rest : Option ChainView) → cond b (with_updates (Some chain)) (with_updates rest) ≡ with_updates (cond b (Some chain) rest)
with_updates-cond true chain rest = refl
with_updates-cond false chain rest = refl

get_held : (table : List (Name × ChainView)) (q : Name) → map.get (chains_held table) q ≡ chain_at q table
get_held [] q = get-empty name_cmp q
get_held (slot ∷ rest) q =
    get_with slot.0 (with_updates (Some slot.1)) (chains_held rest) q
    ∙ ap (cond (same_name q slot.0) (with_updates (Some slot.1))) (get_held rest q)
    ∙ with_updates-cond (same_name q slot.0) slot.1 (lookup (same_name q) rest)

-- the table has at each vertex the chain that the graph has there
pub seen_at : (table : List (Name × ChainView)) (chains : Chains) → chains_held table ≡ chains → (v : Name) → chain_at v table ≡ chain_of chains v
seen_at table chains view v = sym (get_held table v) ∙ ap (λ (c : Chains). chain_of c v) view

-- tables with the same chains give the same graph
pub unchanged : (table others : List (Name × ChainView)) (chains : Chains) → chains_held others ≡ chains → ((v : Name) → chain_at v table ≡ chain_at v others) → chains_held table ≡ chains
unchanged table others chains view same =
    same_map nat_list_cmp_total (slice_cmp-IsAntisymmetric nat_cmp-IsAntisymmetric) _ _ (λ q. get_held table q ∙ same q ∙ sym (get_held others q)) ∙ view

-- an empty table has no chain
pub seen_none : (table : List (Name × ChainView)) → table ≡ [] → (v : Name) → chain_of (chains_held table) v ≡ None
seen_none table empty v = get_held table v ∙ ap (chain_at v) empty

-- if parts were applied to the chains of the table, they were applied to those of the graph
pub applied_graph : (stamp : Stamp) (parts : List Part) (before after : List (Name × ChainView)) (chains next : Chains) → chains_held before ≡ chains → chains_held after ≡ next → ((v : Name) → chain_at v after ≡ after_parts stamp v (chain_at v before) parts) → (v : Name) → chain_of next v ≡ after_parts stamp v (chain_of chains v) parts
applied_graph stamp parts before after chains next view view_next applied v =
    sym (seen_at after next view_next v) ∙ applied v ∙ ap (λ (c : Option ChainView). after_parts stamp v c parts) (seen_at before chains view v)

-- the next part is the next update of its vertex, since the parts before it are of others
pub next_here : (stamp : Stamp) (parts : List Part) (n : ℕ) (part : Part) (before now : List (Name × ChainView)) → part ≡ get_or parts n part → n < length parts → AllPairs (λ (one other : Part). one.vertex ≢ other.vertex) parts
    → All (λ (each : Part). IsNextUpdate (chain_or_new (chain_at each.vertex before)) each.before each.ops) parts → WereApplied stamp (take n parts) before now → IsNextUpdate (chain_or_new (chain_at part.vertex now)) part.before part.ops
next_here stamp parts n part before now is below apart next were =
    let at : IsNextUpdate (chain_or_new (chain_at part.vertex before)) part.before part.ops = subst (λ (each : Part). IsNextUpdate (chain_or_new (chain_at each.vertex before)) each.before each.ops) (sym is) (next n part below) in
    let others : All (λ (each : Part). each.vertex ≢ part.vertex) (take n parts) = subst (λ (one : Part). All (λ (each : Part). each.vertex ≢ one.vertex) (take n parts)) (sym is) (apart_before parts n part below apart) in
    subst (λ (chain : Option ChainView). IsNextUpdate (chain_or_new chain) part.before part.ops) (sym (were.applied part.vertex ∙ apart_same stamp part.vertex (chain_at part.vertex before) (take n parts) others)) at

-- if the next part's vertex keeps a version where some were dropped, so it did before all parts
pub base_here : (stamp : Stamp) (parts : List Part) (n : ℕ) (part : Part) (before now : List (Name × ChainView)) → part ≡ get_or parts n part → n < length parts → AllPairs (λ (one other : Part). one.vertex ≢ other.vertex) parts
    → WereApplied stamp (take n parts) before now → KeepsOne (chain_or_new (chain_at part.vertex now)) → KeepsOne (chain_or_new (chain_at (get_or parts n part).vertex before))
base_here stamp parts n part before now is below apart were base =
    let others : All (λ (each : Part). each.vertex ≢ part.vertex) (take n parts) = subst (λ (one : Part). All (λ (each : Part). each.vertex ≢ one.vertex) (take n parts)) (sym is) (apart_before parts n part below apart) in
    subst (λ (one : Part). KeepsOne (chain_or_new (chain_at one.vertex before))) is (subst (λ (chain : Option ChainView). KeepsOne (chain_or_new chain)) (were.applied part.vertex ∙ apart_same stamp part.vertex (chain_at part.vertex before) (take n parts) others) base)

-- if the next part is applied, to a chain that keeps a version if some were dropped, one part more was applied
pub one_on : (stamp : Stamp) (parts : List Part) (n : ℕ) (part : Part) (before now next : List (Name × ChainView)) → part ≡ get_or parts n part → n < length parts → AllPairs (λ (one other : Part). one.vertex ≢ other.vertex) parts
    → WereApplied stamp (take n parts) before now → ((v : Name) → chain_at v next ≡ after_part stamp v (chain_at v now) part) → KeepsOne (chain_or_new (chain_at part.vertex now)) → WereApplied stamp (take (n + 1) parts) before next
one_on stamp parts n part before now next is below apart were more base =
    applied_on stamp parts n part before now next below were (λ v. more v ∙ ap (after_part stamp v (chain_at v now)) is) (base_here stamp parts n part before now is below apart were base)

-- if no chain changes any more, the parts that were applied so far are still those that were applied
pub were_same : (stamp : Stamp) (parts : List Part) (before now next : List (Name × ChainView)) → WereApplied stamp parts before now → ((v : Name) → chain_at v next ≡ chain_at v now) → WereApplied stamp parts before next
were_same stamp parts before now next were same = record { applied = λ v. same v ∙ were.applied v; base = were.base }

-- if no parts were applied, the chains are as before
pub none_left : (stamp : Stamp) (rest : List Part) (before now : List (Name × ChainView)) → length rest ≡ 0 → WereApplied stamp rest before now → (v : Name) → chain_at v now ≡ chain_at v before
none_left stamp [] before now none were = were.applied
none_left stamp (part ∷ parts) before now none were = absurd (omega (arith, none))

-- what a look-up finds, with its updates, is the chain that the graph has there
pub chain_found : (v : Name) (table : List (Name × ChainView)) (chains : Chains) (x : Option ChainView) → chains_held table ≡ chains → lookup (same_name v) table ≡ x → with_updates x ≡ chain_of chains v
chain_found v table chains x view found = ap with_updates (sym found) ∙ seen_at table chains view v

-- a chain without updates is left out
pub without_updates : (chain : ChainView) → update_count chain ≡ 0 → with_updates (Some chain) ≡ None
without_updates chain none = rw (eq-eqb (update_count chain) 0 none) refl

-- a chain with updates stays
pub having_updates : (chain : ChainView) → update_count chain ≢ 0 → with_updates (Some chain) ≡ Some chain
having_updates chain some = rw (ne_eqb (update_count chain) 0 some) refl

-- parts that are the next updates in the graph are the next ones in its table
pub next_seen : (parts : List Part) (table : List (Name × ChainView)) (chains : Chains) → chains_held table ≡ chains → All (λ (part : Part). IsNextUpdate (chain_or_new (chain_of chains part.vertex)) part.before part.ops) parts → All (λ (part : Part). IsNextUpdate (chain_or_new (chain_at part.vertex table)) part.before part.ops) parts
next_seen parts table chains view next k d below =
    subst (λ (chain : Option ChainView). IsNextUpdate (chain_or_new chain) (get_or parts k d).before (get_or parts k d).ops) (sym (seen_at table chains view (get_or parts k d).vertex)) (next k d below)
