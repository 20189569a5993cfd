-- A state that updates make has at most 1,000 edges, under names that rise.
-- Used by `visit_vertex` and crate weaver_hands.
use Rattle.std.proofs.Common.{◌≡◌, suc, ◌+◌, ◌≤◌, ◌<◌, Bool, true, false, not, cond, List, [], ◌∷◌, length, Option, Some, None, IfSome, fold, refl, sym, ap, ◌∙◌, arith}
use Rattle.std.specs.Prelude.{nat_le, ◌&&◌, ⊤}
use Rattle.std.specs.BTreeMap.{is_at}
use Rattle.std.specs.Map.{keys_of}
use Rattle.std.specs.Cmp.Lexicographic.{nat_list_cmp_total}
use Rattle.std.specs.declared.cmp.Ordering.{Ordering}
use Rattle.std.specs.declared.cmp.Ordering.TheVariants.{Less, Equal, Greater}
use Rattle.std.specs.Ordering.{is_eq, match_ordering}
use Rattle.std.proofs.lemmas.Map.{lookup-none}
use Rattle.std.proofs.lemmas.Map.Entries.{none_below_head}
use Rattle.std.proofs.lemmas.Map.Keys.{sorted_tail}
use Rattle.std.proofs.lemmas.Bool.{leb-false}
use Rattle.std.proofs.lemmas.Option.{none-some}
use Rattle.weave_data.specs.Names.{name_cmp}
use Rattle.weave_data.specs.Pairs.{IsRising, at_key, has, is_full, put, without_key}
use Rattle.weave_data.specs.declared.name.Name.{Name}
use Rattle.weave_data.proofs.Changing.{none_rise, rising_put, rising_without}
use Rattle.graph_ops.specs.Operations.{State, outcome_of_op, target_of}
use Rattle.graph_ops.specs.VertexOps.{state_after_ops, state_left}
use Rattle.graph_ops.specs.declared.op.Op.{Op}
use Rattle.graph_ops.specs.declared.record.Edge.{Edge}
use Rattle.graph_ops.specs.declared.record.Record.{Record}
use Rattle.graph_ops.proofs.EachOp.{EdgesKeep, HasGood, edges-kept}
use Rattle.weave_entries.specs.ShardReplay.{Update, state_of_updates}

-- Pairs under rising keys

-- a key is at most one more, and one that is there is none
length-put : {X : Type 0} (key : Name) (value : X) (es : List (Name × X)) → length (put key value es) ≤ length es + 1
length-put key value [] = omega arith
length-put {X} key value (e ∷ es) = by (length-put key value es) (name_cmp key e.0)
  where
    by : length (put key value es) ≤ length es + 1 → (o : Ordering) → length (match_ordering o ((key, value) ∷ e ∷ es) ((e.0, value) ∷ es) (e ∷ put key value es)) ≤ length (e ∷ es) + 1
    by more Less = omega arith
    by more Equal = omega arith
    by more Greater = omega (arith, more)

length-put-has : {X : Type 0} (key : Name) (value there : X) (es : List (Name × X)) → IsRising es → at_key key es ≡ Some there → length (put key value es) ≡ length es
length-put-has key value there [] rising is = absurd (none-some there is)
length-put-has {X} key value there (e ∷ es) rising is =
    elim (name_cmp key e.0) as (λ o. name_cmp key e.0 ≡ o → cond (is_eq o) (Some e.1) (at_key key es) ≡ Some there → length (match_ordering o ((key, value) ∷ e ∷ es) ((e.0, value) ∷ es) (e ∷ put key value es)) ≡ length (e ∷ es)) [
      | Less ↦ λ less h. absurd (none-some there (sym (lookup-none (is_at (name_cmp key)) (e ∷ es) (none_below_head nat_list_cmp_total key e es rising less)) ∙ is))
      | Equal ↦ λ equal h. refl
      | Greater ↦ λ greater h. ap suc (length-put-has key value there es (sorted_tail name_cmp e.0 (keys_of es) rising) h)
    ] refl is

length-without : {X : Type 0} (key : Name) (es : List (Name × X)) → length (without_key key es) ≤ length es
length-without key [] = omega arith
length-without {X} key (e ∷ es) = by (length-without key es) (is_at (name_cmp key) e.0)
  where
    by : length (without_key key es) ≤ length es → (b : Bool) → length (cond b es (e ∷ without_key key es)) ≤ length (e ∷ es)
    by rest true = omega arith
    by rest false = omega (arith, rest)

-- States

abbrev AreGood : List (Name × Edge) → Type 0
AreGood edges = (length edges ≤ 1000) × IsRising edges

abbrev IsGood : State → Type 0
IsGood state = HasGood AreGood state

linked : (name : Name) (edge : Edge) (edges : List (Name × Edge)) → AreGood edges → has name edges ≡ false → is_full 1000 name edges ≡ false → AreGood (put name edge edges)
linked name edge edges good new spare =
    let room : length edges < 1000 = leb-false 1000 (length edges) (sym (ap (λ b. not b && nat_le 1000 (length edges)) new) ∙ spare) in
    let more = length-put name edge edges in
    (omega (arith, more, room), rising_put name edge edges good.1)

retagged : (name : Name) (edge there : Edge) (edges : List (Name × Edge)) → AreGood edges → at_key name edges ≡ Some there → AreGood (put name edge edges)
retagged name edge there edges good is =
    let same = length-put-has name edge there edges good.1 is in
    let few = good.0 in
    (omega (arith, same, few), rising_put name edge edges good.1)

good-kept : EdgesKeep AreGood (λ target. ⊤)
good-kept = record {
  none = (omega arith, none_rise {X = Edge} [] refl);
  link = λ name target edges good _ new spare. linked name (record { target = target; tags = [] }) edges good new spare;
  unlink = λ name edges good. (let less = length-without name edges in let few = good.0 in (omega (arith, less, few), rising_without name edges good.1));
  retag = λ name edge tags edges good is. retagged name (record edge { tags = tags }) edge edges good is;
}

any-target : (o : Option Name) → IfSome o (λ target. ⊤)
any-target None = tt
any-target (Some target) = tt

good-left : (op : Op) (state : State) → IsGood state → IsGood (state_left state (outcome_of_op op state))
good-left op state good = edges-kept AreGood (λ target. ⊤) good-kept op state good (any-target (target_of op))

good-after : (ops : List Op) (state : State) → IsGood state → IsGood (state_after_ops ops state)
good-after [] state good = good
good-after (op ∷ ops) state good = good-after ops (state_left state (outcome_of_op op state)) (good-left op state good)

good-updates : (updates : List Update) (state : State) → IsGood state → IsGood (fold (λ now (update : Update). state_after_ops update.ops now) state updates)
good-updates [] state good = good
good-updates (update ∷ updates) state good = good-updates updates (state_after_ops update.ops state) (good-after update.ops state good)

-- a state that updates made has few edges
pub few-edges : (updates : List Update) → IfSome (state_of_updates updates) (λ (found : Record). length found.edges ≤ 1000)
few-edges updates = at (state_of_updates updates) (good-updates updates None tt)
  where
    at : (state : State) → IsGood state → IfSome state (λ (found : Record). length found.edges ≤ 1000)
    at None good = tt
    at (Some was) good = good.0
