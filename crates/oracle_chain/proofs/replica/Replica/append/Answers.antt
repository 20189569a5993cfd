use Rattle.std.proofs.Common.{◌∷◌, ◌++◌, [], List, Contains, sym, ap, subst, ◌∙◌, inl, inr, arith}
use Rattle.std.specs.List.{flat_map}
use Rattle.std.proofs.lemmas.List.Elements.{Contains-append_left, Contains-append_right, Contains-append_cases}
use Rattle.vector_stamp.specs.declared.clock.Stamp.{Stamp}
use Rattle.vector_stamp.specs.Precedence.{GivenPair}
use Rattle.order_graph.specs.Building.{ends_of}
use Rattle.oracle_chain.specs.Held.{HeldView}
use Rattle.oracle_chain.specs.Replay.{ask_stamps, outcome_by, pairs_put, outcomes_of, pairs_after}
use Rattle.oracle_chain.proofs.Replaying.{pairs-append, outcomes-append, ends-of-asks}
use Rattle.oracle_chain.proofs.replica.Replica.append.Goals as goal

pub decide-outcome-requires-clause-coherent : goal.decide-outcome-requires-clause-coherent
decide-outcome-requires-clause-coherent c =
    let asks = c.self.inside.asks.items in
    let all : (s : Stamp) → Contains (ends_of (pairs_after asks)) s → Contains (flat_map ask_stamps c.args.self.now.asks) s =
    λ s h. subst (λ (view : HeldView). Contains (flat_map ask_stamps view.asks) s) c.self.view_is (ends-of-asks c.ends_are_of_pairs.ensures.no_others asks s h) in
    c.parts_and_unions_are_coherent.ensures.part _ (ask_stamps c.args.ask ++ flat_map ask_stamps c.args.self.now.asks) c.requires.coherent
    (λ s h. elim (Contains-append_cases (ask_stamps c.args.ask) (ends_of c.self.inside.graph.pairs) s h) [
      | inl handed ↦ Contains-append_left (ask_stamps c.args.ask) (flat_map ask_stamps c.args.self.now.asks) s handed
      | inr known ↦ Contains-append_right (ask_stamps c.args.ask) (flat_map ask_stamps c.args.self.now.asks) s (all s (subst (λ (ps : List GivenPair). Contains (ends_of ps) s) c.self.invariant.1 known))
    ])

pub invariant_of-self : goal.invariant_of-self
invariant_of-self c =
    let asks = c.self.inside.asks.items in
    let outcome = c.decide-outcome.ensures.outcome ∙ ap (λ (ps : List GivenPair). outcome_by ps c.args.ask) c.self.invariant.1 in (
      c.push_reserved.ensures.items
          ∙ (λ i. c.self.invariant.0 i ++ outcome i ∷ [])
          ∙ sym (outcomes-append [] asks (c.args.ask ∷ []))
          ∙ ap outcomes_of (sym c.push_reserved-2.ensures.items),
      c.decide-outcome.ensures.pairs
          ∙ ap (λ (ps : List GivenPair). ps ++ pairs_put ps c.args.ask) c.self.invariant.1
          ∙ sym (pairs-append [] asks (c.args.ask ∷ []))
          ∙ ap pairs_after (sym c.push_reserved-2.ensures.items),
      (let room = ap (λ (view : HeldView). view.room) c.self.view_is in
          omega (arith, room, c.requires.room, c.self.invariant.2, c.push_reserved-2.ensures.len, c.push_reserved-2.ensures.capacity, c.saturating_sub-self-inside.ensures)),
      (let room = ap (λ (view : HeldView). view.room) c.self.view_is in
          omega (arith, room, c.requires.room, c.self.invariant.3, c.push_reserved.ensures.len, c.push_reserved.ensures.capacity, c.saturating_sub-self-inside.ensures)),
    )
