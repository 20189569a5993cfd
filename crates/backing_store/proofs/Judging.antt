-- What is decided of a transaction is what the rule says.
-- Used by `judge_tx`.
use Rattle.std.proofs.Common.{◌≡◌, ℕ, ◌<◌, zero, suc, List, [], ◌∷◌, length, map, Option, None, Some, Result, Ok, Err, IfOk, refl, sym, ap, ◌∙◌, subst, arith}
use Rattle.std.specs.Prelude.{position, slice_get, slice_index_or, slice_index}
use Rattle.std.specs.List.{find}
use Rattle.weave_data.specs.declared.name.Name.{Name}
use Rattle.vector_stamp.specs.declared.clock.Stamp.{Stamp}
use Rattle.vector_stamp.specs.Order.{stamp_before}
use Rattle.vector_stamp.specs.Precedence.{GivenPair, precedes}
use Rattle.vector_stamp.specs.Settling.{refused_place}
use Rattle.graph_ops.specs.declared.op.Op.{Op}
use Rattle.graph_ops.specs.Mentions.{named_by}
use Rattle.graph_ops.specs.PlainGraph.{PlainGraph, TxOutcome, transaction}
use Rattle.weave_entries.specs.declared.verdict.Counted.{Counted}
use Rattle.weave_entries.specs.declared.verdict.Verdict.{Verdict}
use Rattle.weave_entries.specs.declared.verdict.Verdict.TheVariants.{Conflict}
use Rattle.weave_entries.specs.StoreReplay.{Commit, graph_committed}
use Rattle.weave_entries.specs.StoreRule.{LastCommit, lasts_of, asked_of, counts_of, conflict_or, verdict_by, verdict_on}
use Rattle.backing_store.specs.declared.lasts.KeptCommit.{KeptCommit}
use Rattle.backing_store.specs.declared.asked.Asked.{Asked}
use Rattle.backing_store.specs.Keeping.{first_newer, count_held, held_of, unordered_of, IsAsked}
use Rattle.backing_store.specs.Trying.{verdict_of_ops, verdict_asked, IsBefore}
use Rattle.backing_store.proofs.Firsts.{found_at, found_none, found_within, position_map}
use Rattle.backing_store.proofs.Rule.{newer_or, newer_is, vertices_asked, stamps_asked, newer_asked, counts_are}

-- what follows from what holds of an answer holds of it, too
pub if_ok : {A E : Type 0} {P Q : A → Type 0} (result : Result A E) → ((a : A) → P a → Q a) → IfOk result P → IfOk result Q
if_ok (Ok a) go p = go a p
if_ok (Err e) go p = tt

-- The second check

conflict_there : (asked : List LastCommit) (place : ℕ) (rest : Verdict) → place < length asked → Conflict (slice_index_or (map (λ (last : LastCommit). last.vertex) asked) place []) (slice_index (map (λ (last : LastCommit). last.commit.request) asked) place) ≡ conflict_or (slice_get asked place) rest
conflict_there [] place rest below = absurd (omega arith)
conflict_there (last ∷ asked) zero rest below = refl
conflict_there (last ∷ asked) (suc place) rest below = conflict_there asked place rest (omega arith)

module _ (pairs : List GivenPair) (stamp : Stamp) (asked : List LastCommit) (rest : Verdict) where
  by_place : (place : Option ℕ) → position (λ (last : LastCommit). precedes pairs stamp last.commit.stamp) asked ≡ place → verdict_asked place (map (λ (last : LastCommit). last.vertex) asked) (map (λ (last : LastCommit). last.commit.request) asked) rest ≡ conflict_or (find (λ (last : LastCommit). precedes pairs stamp last.commit.stamp) asked) rest
  by_place None is = ap (λ (found : Option LastCommit). conflict_or found rest) (sym (found_none _ asked is))
  by_place (Some place) is = conflict_there asked place rest (found_within _ asked place is) ∙ ap (λ (found : Option LastCommit). conflict_or found rest) (sym (found_at _ asked place is))

  -- a refused place gives the conflict with the first asked commit that the stamp precedes, and none gives the rest
  pub asked_is : verdict_asked (refused_place pairs (map (λ (last : LastCommit). last.commit.stamp) asked) stamp) (map (λ (last : LastCommit). last.vertex) asked) (map (λ (last : LastCommit). last.commit.request) asked) rest ≡ conflict_or (find (λ (last : LastCommit). precedes pairs stamp last.commit.stamp) asked) rest
  asked_is = by_place _ (sym (position_map (λ (last : LastCommit). last.commit.stamp) (precedes pairs stamp) asked))

-- The operations

ops_are : (ops : List Op) (commits : List Commit) (outcome : TxOutcome) → verdict_of_ops (length commits) (counts_of ops commits) outcome ≡ verdict_by ops commits outcome
ops_are ops commits (Ok passed) = refl
ops_are ops commits (Err stopped) = refl

-- The whole

module _ (graph : PlainGraph) (lasts : List (Name × KeptCommit)) (made : ℕ) (names : List Name) (asked : Asked) (stamp : Stamp) (ops : List Op) (commits : List Commit) (before : IsBefore graph lasts made names asked stamp ops commits) (pairs : List GivenPair) where
  first_is : (rest : Verdict) → newer_or (first_newer lasts stamp names) rest ≡ conflict_or (find (λ (last : LastCommit). stamp_before stamp last.commit.stamp) (lasts_of ops commits)) rest
  first_is rest = ap (λ (named : List Name). newer_or (first_newer lasts stamp named) rest) before.names_are ∙ sym (newer_is lasts commits before.lasts_are stamp rest (named_by ops))

  -- the new stamp is before a last one
  pub stale_is : (vertex : Name) (newer : ℕ) → first_newer lasts stamp names ≡ Some (vertex, newer) → Conflict vertex newer ≡ verdict_on pairs commits stamp ops
  stale_is vertex newer is =
      let rest = conflict_or (find (λ (last : LastCommit). precedes pairs stamp last.commit.stamp) (asked_of stamp (lasts_of ops commits))) (verdict_by ops commits (transaction ops (graph_committed commits))) in
      ap (λ (found : Option (Name × ℕ)). newer_or found rest) (sym is) ∙ first_is rest

  -- it is before none of them
  pub decided_is : (counts : List Counted) (tried : Verdict) → first_newer lasts stamp names ≡ None → counts ≡ map (λ (v : Name). record { vertex = v; before = count_held lasts v }) names → tried ≡ verdict_of_ops made counts (transaction ops graph) → verdict_asked (refused_place pairs asked.stamps stamp) asked.vertices asked.newer tried ≡ verdict_on pairs commits stamp ops
  decided_is counts tried none counts_is tried_is =
      let all : IsAsked asked (unordered_of stamp (held_of lasts (named_by ops))) = subst (λ (named : List Name). IsAsked asked (unordered_of stamp (held_of lasts named))) before.names_are before.asked_is in
      let counted : counts ≡ counts_of ops commits = counts_is ∙ ap (map (λ (v : Name). record { vertex = v; before = count_held lasts v })) before.names_are ∙ counts_are lasts commits before.lasts_are ops in
      let rest = verdict_by ops commits (transaction ops (graph_committed commits)) in
      let by_ops : tried ≡ rest =
      tried_is
      ∙ ap (λ (number : ℕ). verdict_of_ops number counts (transaction ops graph)) before.made_is
      ∙ ap (λ (cs : List Counted). verdict_of_ops (length commits) cs (transaction ops graph)) counted
      ∙ ap (λ (g : PlainGraph). verdict_of_ops (length commits) (counts_of ops commits) (transaction ops g)) before.graph_is
      ∙ ops_are ops commits (transaction ops (graph_committed commits)) in
      ap (λ (stamps : List Stamp). verdict_asked (refused_place pairs stamps stamp) asked.vertices asked.newer tried) (stamps_asked lasts commits before.lasts_are ops stamp asked all)
      ∙ ap (λ (vertices : List Name). verdict_asked (refused_place pairs (map (λ (last : LastCommit). last.commit.stamp) (asked_of stamp (lasts_of ops commits))) stamp) vertices asked.newer tried) (vertices_asked lasts commits before.lasts_are ops stamp asked all)
      ∙ ap (λ (newer : List ℕ). verdict_asked (refused_place pairs (map (λ (last : LastCommit). last.commit.stamp) (asked_of stamp (lasts_of ops commits))) stamp) (map (λ (last : LastCommit). last.vertex) (asked_of stamp (lasts_of ops commits))) newer tried) (newer_asked lasts commits before.lasts_are ops stamp asked all)
      ∙ ap (verdict_asked (refused_place pairs (map (λ (last : LastCommit). last.commit.stamp) (asked_of stamp (lasts_of ops commits))) stamp) (map (λ (last : LastCommit). last.vertex) (asked_of stamp (lasts_of ops commits))) (map (λ (last : LastCommit). last.commit.request) (asked_of stamp (lasts_of ops commits)))) by_ops
      ∙ asked_is pairs stamp (asked_of stamp (lasts_of ops commits)) rest
      ∙ ap (λ (found : Option (Name × ℕ)). newer_or found (conflict_or (find (λ (last : LastCommit). precedes pairs stamp last.commit.stamp) (asked_of stamp (lasts_of ops commits))) rest)) (sym none)
      ∙ first_is (conflict_or (find (λ (last : LastCommit). precedes pairs stamp last.commit.stamp) (asked_of stamp (lasts_of ops commits))) rest)
