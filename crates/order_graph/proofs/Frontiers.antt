-- A frontier of an event, over the chains.
-- Used by `frontier_of`, `precedes` and Adding.
use Rattle.std.proofs.Common.{◌≡◌, ℕ, ◌+◌, ◌<◌, ◌≤◌, ◌||◌, List, [], ◌∷◌, length, take, slice_index_or, Option, Some, None, ◌⊎◌, inl, inr, refl, sym, subst, ◌∙◌, Contains, IsTrue}
use Rattle.std.proofs.lemmas.Bool.{cases_lt, or_cases, or_left, or_right}
use Rattle.std.proofs.lemmas.List.{take_more, take_all, get_or_past, get_or-replicate}
use Rattle.std.proofs.lemmas.Option.{none-some}
use Rattle.std.proofs.lemmas.List.Elements.{Contains-get_or, Contains-push_cases}
use Rattle.vector_stamp.specs.declared.clock.Stamp.{Stamp}
use Rattle.vector_stamp.specs.Order.{stamp_before}
use Rattle.vector_stamp.specs.Coherence.{AreCoherent}
use Rattle.vector_stamp.specs.Precedence.{GivenPair, Precedes, ByStamps, ByPair, Through, IsClosed, precedes}
use Rattle.order_graph.specs.declared.chain.Event.{Event}
use Rattle.order_graph.specs.Building.{ends_of}
use Rattle.order_graph.specs.Frontiers.{at_or_before, latest_of, empty_frontier, joined_frontiers, is_up_to_frontier, IsFrontier, StampOrderLaws}
use Rattle.order_graph.specs.Chains.{EventChainView, no_chain, events_of, IsLatestAt, AreChains}
use Rattle.weave_data.proofs.Members.{has_none, has_tail}
use Rattle.order_graph.proofs.Orders.{AreApart, at_itself, at_from, at_cases, at_then, then_at}
use Rattle.order_graph.proofs.Joining.{AreOwn, length-joined, joined_reads, covered_left, covered_right}

module _ (laws : StampOrderLaws) (pairs : List GivenPair) (closed : IsClosed pairs (precedes pairs)) where
  -- what precedes an event precedes each one that the event is at or before
  pub precedes_at : (a b c : Stamp) → IsTrue (precedes pairs a b) → IsTrue (at_or_before b c) → IsTrue (precedes pairs a c)
  precedes_at a b c g h =
      elim (at_cases laws b c h) [
        | inl same ↦ subst (λ x. IsTrue (precedes pairs a x)) same g
        | inr before ↦ closed.transitive a b c g (closed.has_stamps b c before)
      ]

  -- what is at or before an event precedes all that the event precedes
  pub at_precedes : (a b c : Stamp) → IsTrue (at_or_before a b) → IsTrue (precedes pairs b c) → IsTrue (precedes pairs a c)
  at_precedes a b c g h =
      elim (at_cases laws a b g) [
        | inl same ↦ subst (λ x. IsTrue (precedes pairs x c)) (sym same) h
        | inr before ↦ closed.transitive a b c (closed.has_stamps a b before) h
      ]

  -- a way that isn't the order of stamps alone has a last pair
  abbrev HasLastPair : Stamp → Stamp → Type 0
  HasLastPair a b = (earlier : Stamp) × (later : Stamp) × Contains pairs (earlier, later) × IsTrue (precedes pairs a later) × IsTrue (at_or_before later b)

  -- an event that precedes another is before it by its stamp, or its way there has a last pair
  pub last_pair : ((a b : Stamp) → Precedes pairs a b → IsTrue (precedes pairs a b)) → (a b : Stamp) → Precedes pairs a b → IsTrue (stamp_before a b) ⊎ HasLastPair a b
  last_pair tested _ _ (ByStamps a b h) = inl h
  last_pair tested _ _ (ByPair a b h) = inr (a, b, h, closed.has_pairs a b h, at_itself laws b)
  last_pair tested _ _ (Through a b c g h) =
      elim (last_pair tested b c h) [
        | inr last ↦ inr (last.0, last.1, last.2, closed.transitive a b last.1 (tested a b g) last.3, last.4)
        | inl before ↦ elim (last_pair tested a b g) [
          | inl first ↦ inl (laws.before-trans a b c first before)
          | inr last ↦ inr (last.0, last.1, last.2, last.3, at_from laws last.1 c (at_then laws last.1 b c last.4 before))
        ]
      ]

-- what the frontier of an event covers, over some of the chains
pub record IsFrontierOver (pairs : List GivenPair) (event : Stamp) (seen : List EventChainView) (frontier : List (Option Stamp)) : Type 0 where
  pub eight : length frontier ≡ 8
  pub precede : (gate : ℕ) (latest : Stamp) → latest_of frontier gate ≡ Some latest → (latest.home ≡ gate) × Contains (ends_of pairs) latest × IsTrue (precedes pairs latest event)
  pub all : (chain : EventChainView) → Contains seen chain → (other : Event) → Contains chain.events other → IsTrue (at_or_before other.stamp event) → (stamp : Stamp) → IsTrue (precedes pairs stamp other.stamp) → IsTrue (stamp_before stamp event || is_up_to_frontier frontier stamp)

-- a frontier joined with that of an event, if there is one
abbrev pub IsJoinedWith : List (Option Stamp) → Option Event → List (Option Stamp) → Type 0
IsJoinedWith frontier None next = next ≡ frontier
IsJoinedWith frontier (Some latest) next = next ≡ joined_frontiers frontier latest.frontier.latest

-- the empty frontier has no event of any gatekeeper
pub none_there : (gate : ℕ) (latest : Stamp) → latest_of empty_frontier gate ≡ Some latest → ⊥
none_there gate latest is =
    elim (cases_lt gate 8) [
      | inl below ↦ none-some latest (sym (get_or-replicate 8 gate None None below) ∙ is)
      | inr past ↦ none-some latest (sym (get_or_past empty_frontier gate None past) ∙ is)
    ]

-- over no chains the empty frontier is a frontier of any event
pub over_none : (pairs : List GivenPair) (event : Stamp) → IsFrontierOver pairs event [] empty_frontier
over_none pairs event =
    record {
      eight = refl;
      precede = λ gate latest is. absurd (none_there gate latest is);
      all = λ chain has. absurd (has_none chain has);
    }

module _ (laws : StampOrderLaws) (apart : AreApart) (pairs : List GivenPair) (closed : IsClosed pairs (precedes pairs)) (chains : List EventChainView) (are : AreChains pairs (ends_of pairs) chains) (event : Stamp) (coherent : AreCoherent (event ∷ ends_of pairs)) where
  over_more_none : (i : ℕ) (frontier : List (Option Stamp)) → i < length chains → IsFrontierOver pairs event (take i chains) frontier → IsLatestAt (events_of chains i) event None → IsFrontierOver pairs event (take (i + 1) chains) frontier
  over_more_none i frontier below over none =
      record {
        eight = over.eight;
        precede = over.precede;
        all = λ chain has other in_chain at stamp before. elim (Contains-push_cases (take i chains) (slice_index_or chains i no_chain) chain (subst (λ (cs : List EventChainView). Contains cs chain) (take_more chains i no_chain below) has)) [
          | inl seen ↦ over.all chain seen other in_chain at stamp before
          | inr here ↦ absurd (none other (subst (λ (c : EventChainView). Contains c.events other) (sym here) in_chain) at)
        ];
      }

  module _ (i : ℕ) (frontier : List (Option Stamp)) (below : i < length chains) (over : IsFrontierOver pairs event (take i chains) frontier) (latest : Event) (is_latest : IsLatestAt (events_of chains i) event (Some latest)) where
    of_latest : IsFrontier pairs latest.stamp latest.frontier.latest
    of_latest = are.exact i latest is_latest.0

    own : AreOwn (event ∷ ends_of pairs) frontier
    own gate stamp is = let h = over.precede gate stamp is in (h.0, has_tail event (ends_of pairs) stamp h.1)

    own_latest : AreOwn (event ∷ ends_of pairs) latest.frontier.latest
    own_latest gate stamp is = let h = of_latest.precede gate stamp is in (h.0, has_tail event (ends_of pairs) stamp h.1)

    from_latest : (stamp : Stamp) → IsTrue (precedes pairs stamp latest.stamp) → IsTrue (stamp_before stamp event || is_up_to_frontier (joined_frontiers frontier latest.frontier.latest) stamp)
    from_latest stamp h =
        elim (or_cases (stamp_before stamp latest.stamp) _ (of_latest.all stamp h)) [
          | inl before ↦ or_left (stamp_before stamp event) _ (then_at laws stamp latest.stamp event before is_latest.1)
          | inr by ↦ or_right (stamp_before stamp event) _ (covered_right laws apart (event ∷ ends_of pairs) coherent frontier latest.frontier.latest over.eight of_latest.eight own own_latest stamp by)
        ]

    over_more_some : IsFrontierOver pairs event (take (i + 1) chains) (joined_frontiers frontier latest.frontier.latest)
    over_more_some =
        record {
          eight = length-joined frontier latest.frontier.latest over.eight of_latest.eight;
          precede = λ gate stamp is. elim (joined_reads laws apart (event ∷ ends_of pairs) coherent frontier latest.frontier.latest over.eight of_latest.eight gate stamp is) [
            | inl old ↦ over.precede gate stamp old
            | inr new ↦ let h = of_latest.precede gate stamp new in (h.0, h.1, precedes_at laws pairs closed stamp latest.stamp event h.2 is_latest.1)
          ];
          all = λ chain has other in_chain at stamp before. elim (Contains-push_cases (take i chains) (slice_index_or chains i no_chain) chain (subst (λ (cs : List EventChainView). Contains cs chain) (take_more chains i no_chain below) has)) [
            | inl seen ↦ elim (or_cases (stamp_before stamp event) _ (over.all chain seen other in_chain at stamp before)) [
              | inl first ↦ or_left (stamp_before stamp event) _ first
              | inr by ↦ or_right (stamp_before stamp event) _ (covered_left laws apart (event ∷ ends_of pairs) coherent frontier latest.frontier.latest over.eight of_latest.eight stamp by)
            ]
            | inr here ↦ from_latest stamp (precedes_at laws pairs closed stamp other.stamp latest.stamp before (is_latest.2 other (subst (λ (c : EventChainView). Contains c.events other) (sym here) in_chain) at))
          ];
        }

  -- over one chain more it is the old one joined with that of the chain's latest event, if there is one
  pub over_more : (i : ℕ) (frontier : List (Option Stamp)) → i < length chains → IsFrontierOver pairs event (take i chains) frontier → (latest : Option Event) → IsLatestAt (events_of chains i) event latest → (next : List (Option Stamp)) → IsJoinedWith frontier latest next → IsFrontierOver pairs event (take (i + 1) chains) next
  over_more i frontier below over None is next same = subst (IsFrontierOver pairs event (take (i + 1) chains)) (sym same) (over_more_none i frontier below over is)
  over_more i frontier below over (Some latest) is next same = subst (IsFrontierOver pairs event (take (i + 1) chains)) (sym same) (over_more_some i frontier below over latest is)

  in_chains : (gate : ℕ) (other : Event) → Contains (events_of chains gate) other → Contains chains (slice_index_or chains gate no_chain)
  in_chains gate other has =
      elim (cases_lt gate (length chains)) [
        | inl below ↦ Contains-get_or chains gate no_chain below
        | inr past ↦ absurd (has_none other (subst (λ (c : EventChainView). Contains c.events other) (get_or_past chains gate no_chain past) has))
      ]

  -- a frontier of the event over all the chains is a frontier of the event
  pub over_all : ((a b : Stamp) → Precedes pairs a b → IsTrue (precedes pairs a b)) → ((a b : Stamp) → IsTrue (precedes pairs a b) → Precedes pairs a b) → (n : ℕ) (frontier : List (Option Stamp)) → length chains ≤ n → IsFrontierOver pairs event (take n chains) frontier → IsFrontier pairs event frontier
  over_all tested way n frontier all over =
      record {
        eight = over.eight;
        precede = over.precede;
        all = λ stamp before. elim (last_pair laws pairs closed tested stamp event (way stamp event before)) [
          | inl first ↦ or_left (stamp_before stamp event) _ first
          | inr last ↦
              let found = are.found last.0 last.1 last.2 in
              let same : found.1.stamp ≡ last.1 = found.3 in
              over.all (slice_index_or chains found.0 no_chain) (subst (λ (cs : List EventChainView). Contains cs (slice_index_or chains found.0 no_chain)) (sym (take_all n chains all)) (in_chains found.0 found.1 found.2)) found.1 found.2
              (subst (λ x. IsTrue (at_or_before x event)) (sym same) last.4) stamp (subst (λ x. IsTrue (precedes pairs stamp x)) (sym same) last.3)
        ];
      }
