use Rattle.std.proofs.Common.{◌≡◌, ℕ, ◌<◌, ◌∷◌, ◌++◌, [], List, Contains, ap, ◌∙◌, sym, subst, inl, inr, arith, refl}
use Rattle.std.proofs.lemmas.Bool.{false≢true}
use Rattle.std.proofs.lemmas.Result.{IfOk-from_err}
use Rattle.vector_stamp.specs.declared.clock.Stamp.{Stamp}
use Rattle.vector_stamp.specs.Order.{id_of}
use Rattle.vector_stamp.specs.Coherence.{AreCoherent}
use Rattle.vector_stamp.specs.Precedence.{GivenPair, IsAcyclic}
use Rattle.order_graph.specs.Kept.{PairsView}
use Rattle.order_graph.specs.Building.{ends_of}
use Rattle.order_graph.specs.Frontiers.{IsFrontier, joined_frontiers}
use Rattle.order_graph.specs.Chains.{AreChains}
use Rattle.weave_data.proofs.Members.{has_read, has_head, has_tail}
use Rattle.weave_data.proofs.Results.{on_err_known}
use Rattle.order_graph.proofs.Stamps.{PartsAreCoherent}
use Rattle.order_graph.proofs.Adding.{IsFrontierWith, with_itself, chains_lead_on, is_in_turn, put_keeps, raised_keeps, same_chains}
use Rattle.order_graph.proofs.Raising.{room_raised}
use Rattle.order_graph.proofs.graph.OrderGraph.add.Goals as goal

-- the later stamp of those of a pair
later_has : (a b : Stamp) (stamps : List Stamp) → Contains (a ∷ b ∷ stamps) b
later_has a b stamps = has_tail a (b ∷ stamps) b (has_head b stamps)

-- the earlier event alone, and the later one, with those of the pairs
of_earlier : PartsAreCoherent → (a b : Stamp) (pairs : List GivenPair) → AreCoherent (a ∷ b ∷ ends_of pairs) → AreCoherent (a ∷ ends_of pairs)
of_earlier part a b pairs all =
    part (a ∷ ends_of pairs) (a ∷ b ∷ ends_of pairs) all (λ stamp h. elim (has_read a (ends_of pairs) stamp h) [
      | inl here ↦ subst (Contains (a ∷ b ∷ ends_of pairs)) here (has_head a (b ∷ ends_of pairs))
      | inr there ↦ has_tail a (b ∷ ends_of pairs) stamp (has_tail b (ends_of pairs) stamp there)
    ])

of_later : PartsAreCoherent → (a b : Stamp) (pairs : List GivenPair) → AreCoherent (a ∷ b ∷ ends_of pairs) → AreCoherent (b ∷ ends_of pairs)
of_later part a b pairs all = part (b ∷ ends_of pairs) (a ∷ b ∷ ends_of pairs) all (λ stamp h. has_tail a (b ∷ ends_of pairs) stamp h)

-- what is seen of a graph
abbrev seen : List GivenPair → ℕ → PairsView
seen pairs spare = record { pairs = pairs; spare = spare }

pub of-requires : goal.of-requires
of-requires c = c.requires.coherent.homes c.args.earlier (has_head c.args.earlier (c.args.later ∷ ends_of c.args.self.now.pairs))

pub invariant_of-self : goal.invariant_of-self
invariant_of-self c =
    let same = c.reserve.ensures.items in (
      subst IsAcyclic (sym same) c.self.invariant.0,
      subst (λ (ps : List GivenPair). AreChains ps (ends_of ps) c.self.inside.chains) (sym same) c.self.invariant.1,
      c.self.invariant.2,
      omega (arith, c.self.invariant.3, c.reserve.ensures.len, c.reserve.ensures.capacity),
    )

pub returns-in_err-reserve-clause-added : goal.returns-in_err-reserve-clause-added
returns-in_err-reserve-clause-added c = IfOk-from_err c.from_residual.result _ c.from_residual.ensures.0

pub returns-in_err-reserve-clause-spared : goal.returns-in_err-reserve-clause-spared
returns-in_err-reserve-clause-spared c = IfOk-from_err c.from_residual.result _ c.from_residual.ensures.0

pub returns-in_err-reserve-clause-room : goal.returns-in_err-reserve-clause-room
returns-in_err-reserve-clause-room c some =
    let spare : c.self.inside.spare ≡ c.args.self.now.spare = ap (λ (k : PairsView). k.spare) c.self.view_is in
    absurd (omega (arith, some, spare, c.self.invariant.3, c.in_err-reserve.ensures.full))

pub returns-in_err-reserve-clause-as_before : goal.returns-in_err-reserve-clause-as_before
returns-in_err-reserve-clause-as_before c =
    on_err_known _ _ (ap (λ (ps : List GivenPair). seen ps c.self.inside.spare) c.reserve.ensures.items ∙ c.self.view_is)

pub put_event-requires-clause-rising : goal.put_event-requires-clause-rising
put_event-requires-clause-rising c = c.self.invariant.1.rising c.args.later.home

pub put_event-requires-clause-home : goal.put_event-requires-clause-home
put_event-requires-clause-home c = c.requires.coherent.homes c.args.later (later_has c.args.earlier c.args.later (ends_of c.args.self.now.pairs))

pub put_event-requires-clause-in_turn : goal.put_event-requires-clause-in_turn
put_event-requires-clause-in_turn c other has =
    let pairs = c.args.self.now.pairs in
    let kept : c.self.inside.pairs.items ≡ pairs = ap (λ (k : PairsView). k.pairs) c.self.view_is in
    let are : AreChains pairs (ends_of pairs) c.self.inside.chains = subst (λ (ps : List GivenPair). AreChains ps (ends_of ps) c.self.inside.chains) kept c.self.invariant.1 in
    is_in_turn c.stamps_keep_the_laws.ensures c.coherence_is_decided.ensures.apart c.more_pairs_more_precedence.ensures.at_the_end pairs (c.precedence_is_decided.ensures.closed pairs) c.args.earlier c.args.later c.requires c.self.inside.chains are other has

pub invariant_of-self-in_err-put_event : goal.invariant_of-self-in_err-put_event
invariant_of-self-in_err-put_event c =
    let same = c.reserve.ensures.items in
    let are = same_chains c.self.inside.pairs.items (ends_of c.self.inside.pairs.items) c.self.inside.chains c.put_event.new.chains c.put_event.ensures.eight c.in_err-put_event.ensures.as_before c.self.invariant.1 in (
      subst IsAcyclic (sym same) c.self.invariant.0,
      subst (λ (ps : List GivenPair). AreChains ps (ends_of ps) c.put_event.new.chains) (sym same) are,
      λ gate below. omega (arith, c.self.invariant.2 gate below, c.in_err-put_event.ensures.never_less gate),
      omega (arith, c.self.invariant.3, c.reserve.ensures.len, c.reserve.ensures.capacity),
    )

pub returns-in_err-put_event-clause-added : goal.returns-in_err-put_event-clause-added
returns-in_err-put_event-clause-added c =
    IfOk-from_err c.from_residual-in_err-put_event.result _ c.from_residual-in_err-put_event.ensures.0

pub returns-in_err-put_event-clause-spared : goal.returns-in_err-put_event-clause-spared
returns-in_err-put_event-clause-spared c =
    IfOk-from_err c.from_residual-in_err-put_event.result _ c.from_residual-in_err-put_event.ensures.0

pub returns-in_err-put_event-clause-as_before : goal.returns-in_err-put_event-clause-as_before
returns-in_err-put_event-clause-as_before c =
    on_err_known _ _ (ap (λ (ps : List GivenPair). seen ps c.self.inside.spare) c.reserve.ensures.items ∙ c.self.view_is)

pub returns-in_err-put_event-clause-room : goal.returns-in_err-put_event-clause-room
returns-in_err-put_event-clause-room c some =
    let spare : c.self.inside.spare ≡ c.args.self.now.spare = ap (λ (k : PairsView). k.spare) c.self.view_is in
    let home : c.args.later.home < 8 = c.requires.coherent.homes c.args.later (later_has c.args.earlier c.args.later (ends_of c.args.self.now.pairs)) in
    absurd (false≢true (c.in_err-put_event.ensures.room (omega (arith, some, spare, c.self.invariant.2 c.args.later.home home))))

-- the chains once the later event is put in
are_put : (c : goal.After-before-2-1) → AreChains c.args.self.now.pairs (c.args.later ∷ ends_of c.args.self.now.pairs) c.put_event.new.chains
are_put c =
    let pairs = c.args.self.now.pairs in
    let kept : c.self.inside.pairs.items ≡ pairs = ap (λ (k : PairsView). k.pairs) c.self.view_is in
    let are : AreChains pairs (ends_of pairs) c.self.inside.chains = subst (λ (ps : List GivenPair). AreChains ps (ends_of ps) c.self.inside.chains) kept c.self.invariant.1 in
    let exact : IsFrontier pairs c.args.later c.frontier_of.result.latest = c.frontier_of.ensures pairs are (of_later c.parts_and_unions_are_coherent.ensures.part c.args.earlier c.args.later pairs c.requires.coherent) in
    put_keeps c.stamps_keep_the_laws.ensures c.coherence_is_decided.ensures.apart c.more_pairs_more_precedence.ensures.at_the_end pairs (c.precedence_is_decided.ensures.closed pairs) c.args.earlier c.args.later c.requires c.self.inside.chains c.put_event.new.chains (record { stamp = c.args.later; frontier = c.frontier_of.result }) refl are exact c.put_event.ensures.eight c.in_ok-put_event.ensures.put c.put_event.ensures.others

pub raise_all-requires-clause-earlier : goal.raise_all-requires-clause-earlier
raise_all-requires-clause-earlier c gate =
    chains_lead_on c.stamps_keep_the_laws.ensures c.args.self.now.pairs (c.precedence_is_decided.ensures.closed c.args.self.now.pairs) (c.args.later ∷ ends_of c.args.self.now.pairs) c.put_event.new.chains (are_put c) c.args.earlier gate

pub push_reserved-requires : goal.push_reserved-requires
push_reserved-requires c = omega (arith, c.in_ok-reserve.ensures.ok)

pub raise_all-requires-clause-later : goal.raise_all-requires-clause-later
raise_all-requires-clause-later c gate =
    chains_lead_on c.stamps_keep_the_laws.ensures c.args.self.now.pairs (c.precedence_is_decided.ensures.closed c.args.self.now.pairs) (c.args.later ∷ ends_of c.args.self.now.pairs) c.put_event.new.chains (are_put c) c.args.later gate

pub invariant_of-self-2 : goal.invariant_of-self-2
invariant_of-self-2 c =
    let pairs = c.args.self.now.pairs in
    let a = c.args.earlier in
    let b = c.args.later in
    let apart = c.coherence_is_decided.ensures.apart in
    let at_the_end = c.more_pairs_more_precedence.ensures.at_the_end in
    let closed = c.precedence_is_decided.ensures.closed pairs in
    let kept : c.self.inside.pairs.items ≡ pairs = ap (λ (k : PairsView). k.pairs) c.self.view_is in
    let are : AreChains pairs (ends_of pairs) c.self.inside.chains = subst (λ (ps : List GivenPair). AreChains ps (ends_of ps) c.self.inside.chains) kept c.self.invariant.1 in
    let exact : IsFrontier pairs b c.frontier_of.result.latest = c.frontier_of.ensures pairs are (of_later c.parts_and_unions_are_coherent.ensures.part a b pairs c.requires.coherent) in
    let put = c.in_ok-put_event.ensures.put in
    let are_now = put_keeps c.stamps_keep_the_laws.ensures apart at_the_end pairs closed a b c.requires c.self.inside.chains c.put_event.new.chains (record { stamp = b; frontier = c.frontier_of.result }) refl are exact c.put_event.ensures.eight put c.put_event.ensures.others in
    let coherent_a = of_earlier c.parts_and_unions_are_coherent.ensures.part a b pairs c.requires.coherent in
    let exact_a : IsFrontier pairs a c.frontier_of-before.result.latest = c.frontier_of-before.ensures pairs are coherent_a in
    let with_a : IsFrontierWith pairs a c.join.new.self.latest = subst (IsFrontierWith pairs a) (sym (c.join.ensures ∙ ap (joined_frontiers c.frontier_of-before.result.latest) c.of.ensures)) (with_itself c.stamps_keep_the_laws.ensures apart pairs a coherent_a c.frontier_of-before.result.latest exact_a) in
    let are_then = raised_keeps c.stamps_keep_the_laws.ensures apart at_the_end pairs closed a b c.requires c.join.new.self.latest with_a c.put_event.new.chains are_now put.there.0 put.there.1 put.there.2 in
    let items : c.push_reserved.new.self.items ≡ pairs ++ (a, b) ∷ [] = c.push_reserved.ensures.items ∙ ap (λ (ps : List GivenPair). ps ++ (a, b) ∷ []) (c.reserve.ensures.items ∙ kept) in
    let acyclic = c.no_cycle_arises.ensures.one_pair pairs a b (subst IsAcyclic kept c.self.invariant.0) (λ same. c.requires.of_two (ap id_of same)) c.requires.permitted in (
      subst IsAcyclic (sym items) acyclic,
      subst (λ (ps : List GivenPair). AreChains ps (ends_of ps) c.raise_all.new.chains) (sym items) (subst (AreChains (pairs ++ (a, b) ∷ []) (ends_of (pairs ++ (a, b) ∷ []))) (sym c.raise_all.ensures) are_then),
      λ gate below. omega (arith, c.self.invariant.2 gate below, c.in_ok-put_event.ensures.spared gate, room_raised a b c.join.new.self.latest c.put_event.new.chains c.raise_all.new.chains c.raise_all.ensures gate, c.saturating_sub-self-inside.ensures),
      omega (arith, c.self.invariant.3, c.reserve.ensures.len, c.reserve.ensures.capacity, c.in_ok-reserve.ensures.ok, c.push_reserved.ensures.len, c.push_reserved.ensures.capacity, c.saturating_sub-self-inside.ensures),
    )

pub returns-clause-added : goal.returns-clause-added
returns-clause-added c =
    c.push_reserved.ensures.items ∙ ap (λ (ps : List GivenPair). ps ++ (c.args.earlier, c.args.later) ∷ []) (c.reserve.ensures.items ∙ ap (λ (k : PairsView). k.pairs) c.self.view_is)

pub returns-clause-spared : goal.returns-clause-spared
returns-clause-spared c =
    let spare : c.self.inside.spare ≡ c.args.self.now.spare = ap (λ (k : PairsView). k.spare) c.self.view_is in
    omega (arith, spare, c.saturating_sub-self-inside.ensures)

pub returns-clause-room : goal.returns-clause-room
returns-clause-room c some = refl

pub returns-clause-as_before : goal.returns-clause-as_before
returns-clause-as_before c = tt
