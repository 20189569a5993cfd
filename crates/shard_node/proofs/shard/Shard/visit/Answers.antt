use Rattle.std.proofs.Common.{inl, ◌≤◌, length, None, is_some, true, false, ◌≡◌, ◌≢◌, ◌++◌, ◌∷◌, [], List, All, Contains, ◌⊎◌, refl, sym, ap, subst, ◌∙◌}
use Rattle.std.proofs.lemmas.Result.{err_from_is_err_and}
use Rattle.vector_stamp.specs.declared.clock.Stamp.{Stamp}
use Rattle.vector_stamp.specs.Order.{id_of}
use Rattle.vector_stamp.specs.Coherence.{AreCoherent}
use Rattle.vector_stamp.specs.Settling.{pairs_of}
use Rattle.version_chain.specs.Chains.{ChainView}
use Rattle.version_chain.specs.declared.view.View.{View}
use Rattle.version_chain.specs.Views.{has_unordered, view_of, put_before, entries_for, ReachesBack}
use Rattle.weave_entries.specs.declared.shard_log.ShardEntry.{ShardEntry}
use Rattle.weave_entries.specs.declared.shard_log.ShardDeed.TheVariants.{Visited}
use Rattle.weave_entries.specs.ShardReplay.{first_unready, last_of, updates_of}
use Rattle.weave_entries.specs.ShardRules.{kept_stamps, updates_read, is_settled_by, IsKeptFor}
use Rattle.shard_node.specs.Shards.{ShardView, AddsEntry}
use Rattle.shard_node.specs.Keeping.{first_not_ready, chain_in}
use Rattle.shard_node.proofs.Keeping.{keeps_visited}
use Rattle.shard_node.proofs.LowMarks.{last-still, marks-still}
use Rattle.shard_node.proofs.Ready.{unready-is, seen-chain, seen-stamps, read-few}
use Rattle.shard_node.proofs.Updates.{updates-are, settled-is, pairs-are, entries-are, reaches-back, view-state}
use Rattle.shard_node.proofs.Views.{same_view}
use Rattle.shard_node.proofs.shard.Shard.visit.Goals as goal

pub see-requires-clause-other_ids : goal.see-requires-clause-other_ids
see-requires-clause-other_ids g c =
    let stamps = seen-stamps _ _ _ _ c.self.invariant.0 c.args.vertex ∙ ap (λ (v : ShardView). kept_stamps c.args.vertex v.log) c.self.view_is in
    subst (All (λ (update : Stamp). id_of update ≢ id_of c.args.stamp)) (sym stamps) c.requires.other_ids

pub see-requires-clause-coherent : goal.see-requires-clause-coherent
see-requires-clause-coherent g c =
    let stamps = seen-stamps _ _ _ _ c.self.invariant.0 c.args.vertex ∙ ap (λ (v : ShardView). kept_stamps c.args.vertex v.log) c.self.view_is in
    subst (λ (list : List Stamp). AreCoherent (c.args.stamp ∷ list ++ g.J.Judge.known c.args.judge.now)) (sym stamps) c.requires.coherent

pub see-requires-clause-base : goal.see-requires-clause-base
see-requires-clause-base g c =
    let log_is : c.self.inside.log.items ≡ c.args.self.now.log = ap (λ (v : ShardView). v.log) c.self.view_is in
    let base : IsKeptFor c.args.stamp c.args.vertex c.self.inside.log.items = subst (IsKeptFor c.args.stamp c.args.vertex) (sym log_is) c.requires.base in
    subst (ReachesBack c.args.stamp) (sym (seen-chain _ _ _ _ c.self.invariant.0 c.args.vertex)) (reaches-back c.args.stamp c.args.vertex c.self.inside.log.items base)

pub invariant_of-self-2 : goal.invariant_of-self-2
invariant_of-self-2 g c =
    let log = c.self.inside.log.items in
    let pairs = g.J.Judge.pairs c.args.judge.now in
    let log_is : log ≡ c.args.self.now.log = ap (λ (v : ShardView). v.log) c.self.view_is in
    let base : IsKeptFor c.args.stamp c.args.vertex log = subst (IsKeptFor c.args.stamp c.args.vertex) (sym log_is) c.requires.base in
    let ready : first_unready c.self.inside.gates c.args.stamp log ≡ None = sym (unready-is _ _ _ _ c.self.invariant.0 c.args.stamp) ∙ ap (first_not_ready 0 c.args.stamp) (sym c.as_slice.ensures.value) ∙ sym c.first_unready.ensures ∙ c.in_default.is in
    let seen : c.in_ok-view.view ≡ view_of pairs c.args.stamp (chain_in c.args.vertex log) = c.in_ok-view.ensures.view ∙ ap (view_of pairs c.args.stamp) (seen-chain _ _ _ _ c.self.invariant.0 c.args.vertex) in
    let updates : c.in_ok-view.view.updates ≡ updates_read pairs c.args.stamp c.args.vertex log = ap (λ (view : View). view.updates) seen ∙ updates-are pairs c.args.stamp c.args.vertex log in
    let settled : c.in_ok-view.view.settled ≡ is_settled_by pairs c.args.stamp c.args.vertex log = ap (λ (view : View). view.settled) seen ∙ settled-is pairs c.args.stamp c.args.vertex log in
    let applied = subst (λ n. n ≤ length (updates_of c.args.vertex log)) (sym updates) (read-few _ _ _ _ c.self.invariant.0 c.the_last_update_read_is_seen.ensures.within pairs c.args.stamp c.args.vertex) in
    let entry : ShardEntry = record { author = c.args.author; deed = Visited c.args.request c.args.stamp c.args.vertex c.in_ok-view.view.updates c.in_ok-view.view.settled } in
    let longer : c.push_reserved.new.self.items ≡ log ++ entry ∷ [] = c.push_reserved.ensures.items ∙ ap (λ (l : List ShardEntry). l ++ entry ∷ []) c.reserve.ensures.items in (
      keeps_visited _ _ _ _ c.self.invariant.0 c.args.author c.args.request c.args.stamp c.args.vertex c.in_ok-view.view.updates c.in_ok-view.view.settled _
          (record {
            ready = ready;
            base = base;
            applied = applied;
            pairs = pairs;
            updates_are = updates;
            settled_is = settled;
          }) longer,
      marks-still _ _ _ c.self.invariant.1 _ (λ gate. ap (last_of gate) longer ∙ last-still log entry refl refl gate),
    )

pub returns : goal.returns
returns g c = record {
  ready =
      ap (λ (v : ShardView). first_unready v.gates c.args.stamp v.log) (sym c.self.view_is)
      ∙ sym (unready-is _ _ _ _ c.self.invariant.0 c.args.stamp)
      ∙ ap (first_not_ready 0 c.args.stamp) (sym c.as_slice.ensures.value)
      ∙ sym c.first_unready.ensures
      ∙ c.in_default.is;
  state =
      let pairs = g.J.Judge.pairs c.args.judge.now in
      let log_is : c.self.inside.log.items ≡ c.args.self.now.log = ap (λ (v : ShardView). v.log) c.self.view_is in
      let chain = seen-chain _ _ _ _ c.self.invariant.0 c.args.vertex ∙ ap (chain_in c.args.vertex) log_is in
      ap (λ (view : View). view.state) (c.in_ok-view.ensures.view ∙ ap (view_of pairs c.args.stamp) chain)
      ∙ view-state c.the_last_update_read_is_seen.ensures.skipped pairs c.args.stamp c.args.vertex c.args.self.now.log c.requires.base;
  entry =
      let pairs = g.J.Judge.pairs c.args.judge.now in
      let log = c.self.inside.log.items in
      let seen : c.in_ok-view.view ≡ view_of pairs c.args.stamp (chain_in c.args.vertex log) = c.in_ok-view.ensures.view ∙ ap (view_of pairs c.args.stamp) (seen-chain _ _ _ _ c.self.invariant.0 c.args.vertex) in
      let updates : c.in_ok-view.view.updates ≡ updates_read pairs c.args.stamp c.args.vertex log = ap (λ (view : View). view.updates) seen ∙ updates-are pairs c.args.stamp c.args.vertex log in
      let settled : c.in_ok-view.view.settled ≡ is_settled_by pairs c.args.stamp c.args.vertex log = ap (λ (view : View). view.settled) seen ∙ settled-is pairs c.args.stamp c.args.vertex log in
      let next : ShardView = record { number = c.self.inside.number; gates = c.self.inside.gates; log = c.push_reserved.new.self.items } in
      subst (λ (v : ShardView). AddsEntry v next c.args.author (Visited c.args.request c.args.stamp c.args.vertex (updates_read pairs c.args.stamp c.args.vertex v.log) (is_settled_by pairs c.args.stamp c.args.vertex v.log))) c.self.view_is
      (record {
        log = c.push_reserved.ensures.items ∙ (λ i. c.reserve.ensures.items i ++ record { author = c.args.author; deed = Visited c.args.request c.args.stamp c.args.vertex (updates i) (settled i) } ∷ []);
        number = refl;
        gates = refl;
      });
  pairs =
      let pairs = g.J.Judge.pairs c.args.judge.now in
      let chain = seen-chain _ _ _ _ c.self.invariant.0 c.args.vertex ∙ ap (λ (v : ShardView). chain_in c.args.vertex v.log) c.self.view_is in
      c.in_ok-view.ensures.pairs
      ∙ ap (λ (k : ChainView). pairs ++ pairs_of (put_before pairs c.args.stamp k) c.args.stamp) chain
      ∙ pairs-are pairs c.args.stamp c.args.vertex c.args.self.now.log;
  no_pair = tt;
  known =
      let stamps = seen-stamps _ _ _ _ c.self.invariant.0 c.args.vertex ∙ ap (λ (v : ShardView). kept_stamps c.args.vertex v.log) c.self.view_is in
      λ event has. subst (λ (list : List Stamp). Contains (g.J.Judge.known c.args.judge.now) event ⊎ Contains {X = Stamp} (c.args.stamp ∷ list) event) stamps (c.see.ensures.known event has);
  stay_known = c.see.ensures.stay_known;
  logged =
      let pairs = g.J.Judge.pairs c.args.judge.now in
      let chain = seen-chain _ _ _ _ c.self.invariant.0 c.args.vertex ∙ ap (λ (v : ShardView). chain_in c.args.vertex v.log) c.self.view_is in
      λ keeps.
      c.in_ok-view.ensures.logged keeps
      ∙ ap (λ (k : ChainView). g.J.Judge.log_of c.args.judge.now ++ entries_for pairs c.args.author c.args.stamp k) chain
      ∙ ap (λ entries. g.J.Judge.log_of c.args.judge.now ++ entries) (entries-are pairs c.args.stamp c.args.vertex c.args.self.now.log c.args.author);
  not_logged = tt;
  not_ready =
      λ some.
      let none : first_unready c.args.self.now.gates c.args.stamp c.args.self.now.log ≡ None =
      ap (λ (v : ShardView). first_unready v.gates c.args.stamp v.log) (sym c.self.view_is)
      ∙ sym (unready-is _ _ _ _ c.self.invariant.0 c.args.stamp)
      ∙ ap (first_not_ready 0 c.args.stamp) (sym c.as_slice.ensures.value)
      ∙ sym c.first_unready.ensures
      ∙ c.in_default.is in
      let never : false ≡ true = sym (ap is_some none) ∙ some in absurd cc;
  not_asked = λ none. c.see.ensures.not_asked (ap (has_unordered c.args.stamp) (seen-stamps _ _ _ _ c.self.invariant.0 c.args.vertex ∙ ap (λ (v : ShardView). kept_stamps c.args.vertex v.log) c.self.view_is) ∙ none);
  refused = tt;
  unchanged = tt;
}

pub returns-in-Some : goal.returns-in-Some
returns-in-Some g c = record {
  ready = tt;
  state = tt;
  entry = tt;
  pairs = tt;
  no_pair = refl;
  known = λ event has. inl has;
  stay_known = λ event has. has;
  logged = tt;
  not_logged = λ keeps. refl;
  not_ready = λ some. refl;
  not_asked = λ none. refl;
  refused =
      ap (λ (v : ShardView). first_unready v.gates c.args.stamp v.log) (sym c.self.view_is)
      ∙ sym (unready-is _ _ _ _ c.self.invariant.0 c.args.stamp)
      ∙ ap (first_not_ready 0 c.args.stamp) (sym c.as_slice.ensures.value)
      ∙ sym c.first_unready.ensures
      ∙ c.in-Some.is;
  unchanged = refl;
}

pub returns-in_err-reserve : goal.returns-in_err-reserve
returns-in_err-reserve g c =
    let p = err_from_is_err_and c.from_residual.result c.from_residual.ensures.1 in
    rw (p.1, p.2) (record {
      ready = tt;
      state = tt;
      entry = tt;
      pairs = tt;
      no_pair = refl;
      known = λ event has. inl has;
      stay_known = λ event has. has;
      logged = tt;
      not_logged = λ keeps. refl;
      not_ready = λ some. refl;
      not_asked = λ none. refl;
      refused = tt;
      unchanged = same_view c.self.inside.number c.self.inside.gates _ _ _ c.reserve.ensures.items c.self.view_is;
    })

pub returns-in_err-view : goal.returns-in_err-view
returns-in_err-view g c =
    let p = err_from_is_err_and c.from_residual-in_err-view.result c.from_residual-in_err-view.ensures.1 in
    rw (p.1, p.2) (record {
      ready = tt;
      state = tt;
      entry = tt;
      pairs = tt;
      no_pair = c.in_err-view.ensures.no_pair;
      known =
          let stamps = seen-stamps _ _ _ _ c.self.invariant.0 c.args.vertex ∙ ap (λ (v : ShardView). kept_stamps c.args.vertex v.log) c.self.view_is in
          λ event has. subst (λ (list : List Stamp). Contains (g.J.Judge.known c.args.judge.now) event ⊎ Contains {X = Stamp} (c.args.stamp ∷ list) event) stamps (c.see.ensures.known event has);
      stay_known = c.see.ensures.stay_known;
      logged = tt;
      not_logged = c.in_err-view.ensures.not_logged;
      not_ready =
          λ some.
          let none : first_unready c.args.self.now.gates c.args.stamp c.args.self.now.log ≡ None =
          ap (λ (v : ShardView). first_unready v.gates c.args.stamp v.log) (sym c.self.view_is)
          ∙ sym (unready-is _ _ _ _ c.self.invariant.0 c.args.stamp)
          ∙ ap (first_not_ready 0 c.args.stamp) (sym c.as_slice.ensures.value)
          ∙ sym c.first_unready.ensures
          ∙ c.in_default.is in
          let never : false ≡ true = sym (ap is_some none) ∙ some in absurd cc;
      not_asked = λ none. c.see.ensures.not_asked (ap (has_unordered c.args.stamp) (seen-stamps _ _ _ _ c.self.invariant.0 c.args.vertex ∙ ap (λ (v : ShardView). kept_stamps c.args.vertex v.log) c.self.view_is) ∙ none);
      refused = tt;
      unchanged = same_view c.self.inside.number c.self.inside.gates _ _ _ c.reserve.ensures.items c.self.view_is;
    })
