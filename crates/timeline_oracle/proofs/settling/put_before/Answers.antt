use Rattle.std.proofs.Common.{◌≡◌, ◌≢◌, ◌<◌, ◌≤◌, ◌+◌, ◌++◌, [], ◌∷◌, ℕ, Bool, true, false, not, cond, List, Vec, Global, length, get_or, take, refl, sym, ap, ◌∙◌, subst, arith, length-take, Contains, IsTrue, None}
use Rattle.std.proofs.lemmas.List.{append-nil, append_assoc, map-append, take_more, take_all}
use Rattle.std.proofs.lemmas.List.Elements.{Contains-get_or}
use Rattle.weave_data.proofs.Members.{take_has}
use Rattle.vector_stamp.specs.declared.clock.Stamp.{Stamp}
use Rattle.vector_stamp.specs.Coherence.{AreCoherent}
use Rattle.vector_stamp.specs.Precedence.{GivenPair, precedes}
use Rattle.vector_stamp.specs.Settling.{refused_place, additions_from, places_of, pairs_of}
use Rattle.order_graph.specs.Building.{ends_of}
use Rattle.timeline_oracle.proofs.Known.{among_handed, others_than}
use Rattle.timeline_oracle.proofs.Places.{none_in_first, fails_at}
use Rattle.timeline_oracle.proofs.settling.put_before.Goals as goal
use Rattle.timeline_oracle.proofs.settling.put_before.Goals.{then-put_one, else-put_one}

-- One more event

not_is_true : (b : Bool) → not b ≡ true → b ≡ false
not_is_true true is = absurd (cc)
not_is_true false is = refl

not_is_false : (b : Bool) → not b ≡ false → b ≡ true
not_is_false true is = refl
not_is_false false is = absurd (cc)

pairs_with : (added : List (ℕ × Stamp)) (place : ℕ) (event later : Stamp) (before : Bool) → pairs_of (added ++ cond before [] ((place, event) ∷ [])) later ≡ pairs_of added later ++ cond before [] ((event, later) ∷ [])
pairs_with added place event later true = map-append (λ (one : ℕ × Stamp). (one.1, later)) added []
pairs_with added place event later false = map-append (λ (one : ℕ × Stamp). (one.1, later)) added ((place, event) ∷ [])

places_with : (added : List (ℕ × Stamp)) (place : ℕ) (event : Stamp) (before : Bool) → places_of (added ++ cond before [] ((place, event) ∷ [])) ≡ places_of added ++ cond before [] (place ∷ [])
places_with added place event true = map-append (λ (one : ℕ × Stamp). one.0) added []
places_with added place event false = map-append (λ (one : ℕ × Stamp). one.0) added ((place, event) ∷ [])

pub put_one-requires-clause-coherent : goal.put_one-requires-clause-coherent
put_one-requires-clause-coherent c =
    let below : c.loop-place.place < length c.args.earlier.now = omega arith in
    let nowhere : Stamp = record { home = 0; clock = record { epoch = 0; counts = [] } } in
    let event = get_or c.args.earlier.now c.loop-place.place nowhere in
    let has = Contains-get_or c.args.earlier.now c.loop-place.place nowhere below in
    let laws = c.ends_are_of_pairs.ensures in
    subst (λ (pairs : List GivenPair). AreCoherent (event ∷ c.args.later ∷ ends_of pairs)) (sym c.loop-place.invariant.1)
    (c.fewer_are_coherent.ensures _ (c.args.later ∷ c.args.earlier.now ++ ends_of c.args.graph.now.pairs) c.requires.coherent
    (among_handed laws.appended laws.no_others c.settling_puts_all_before.ensures.of_earlier c.args.graph.now.pairs c.args.earlier.now c.loop-place.place event c.args.later has))

pub put_one-requires-clause-permitted : goal.put_one-requires-clause-permitted
put_one-requires-clause-permitted c =
    let pairs = c.args.graph.now.pairs in
    let below : c.loop-place.place < length c.args.earlier.now = omega arith in
    let within : c.loop-place.place ≤ length c.args.earlier.now = omega arith in
    let nowhere : Stamp = record { home = 0; clock = record { epoch = 0; counts = [] } } in
    let event = get_or c.args.earlier.now c.loop-place.place nowhere in
    let has = Contains-get_or c.args.earlier.now c.loop-place.place nowhere below in
    let others : (other : Stamp) → Contains (take c.loop-place.place c.args.earlier.now) other → other ≢ c.args.later =
    λ other h. others_than c.args.earlier.now c.args.later c.requires.other_ids other (take_has c.loop-place.place c.args.earlier.now other h) in
    let none : refused_place pairs (take c.loop-place.place c.args.earlier.now) c.args.later ≡ None =
    none_in_first (precedes pairs c.args.later) c.args.earlier.now c.loop-place.place c.args.later within c.requires.permitted in
    let still = c.settling_puts_all_before.ensures.still_permitted pairs (take c.loop-place.place c.args.earlier.now) c.args.later event others none (fails_at (precedes pairs c.args.later) c.args.earlier.now c.requires.permitted event has) in
    subst (λ (ps : List GivenPair). ¬ IsTrue (precedes ps c.args.later event)) (sym c.loop-place.invariant.1) still

pub loop-place-preserved : goal.loop-place-preserved
loop-place-preserved c =
    let pairs = c.args.graph.now.pairs in
    let earlier = c.args.earlier.now in
    let later = c.args.later in
    let n : ℕ = c.loop-place.place in
    let nowhere : Stamp = record { home = 0; clock = record { epoch = 0; counts = [] } } in
    let event : Stamp = get_or earlier n nowhere in
    let so_far : List Stamp = take n earlier in
    let added : List (ℕ × Stamp) = additions_from 0 pairs so_far later in
    let before : Bool = precedes c.loop-place.graph.pairs event later in
    let long : length so_far ≡ n = omega (arith, length-take n earlier, c.loop-place-test.true) in
    let step : additions_from 0 pairs (take (n + 1) earlier) later ≡ added ++ cond before [] ((n, event) ∷ []) =
    ap (λ (events : List Stamp). additions_from 0 pairs events later) (take_more earlier n nowhere c.loop-place-test.true)
    ∙ c.settling_puts_all_before.ensures.place_by_place pairs so_far event later
    ∙ ap (λ (ps : List GivenPair). added ++ cond (precedes ps event later) [] ((length so_far, event) ∷ [])) (sym c.loop-place.invariant.1)
    ∙ ap (λ (at : ℕ). added ++ cond before [] ((at, event) ∷ [])) long in
    let pairs_then : c.put_one.new.graph.pairs ≡ pairs ++ pairs_of (additions_from 0 pairs (take (n + 1) earlier) later) later =
    c.put_one.ensures.pairs
    ∙ ap (λ (ps : List GivenPair). ps ++ cond before [] ((event, later) ∷ [])) c.loop-place.invariant.1
    ∙ append_assoc pairs (pairs_of added later) (cond before [] ((event, later) ∷ []))
    ∙ ap (λ (ps : List GivenPair). pairs ++ ps) (sym (pairs_with added n event later before) ∙ ap (λ (events : List (ℕ × Stamp)). pairs_of events later) (sym step)) in
    let room : c.args.graph.now.spare ≤ n + 1 + c.put_one.new.graph.spare = omega (arith, c.loop-place.invariant.2, c.put_one.ensures.spared) in
    let places_then : places_of added ++ cond before [] (n ∷ []) ≡ places_of (additions_from 0 pairs (take (n + 1) earlier) later) = sym (places_with added n event before) ∙ ap places_of (sym step) in
    elim c.if-put_one.branch [
      | then-put_one w ↦
          let fails : before ≡ false = not_is_true before (sym c.put_one.ensures.added ∙ w.if-put_one.true) in (
            ap (λ (v : Vec ℕ Global). v.items) w.places-is ∙ w.push_reserved.ensures.items ∙ ap (λ (ps : List ℕ). ps ++ n ∷ []) c.loop-place.invariant.0
                ∙ ap (λ (is : Bool). places_of added ++ cond is [] (n ∷ [])) (sym fails) ∙ places_then,
            pairs_then,
            room,
            omega (arith, ap (λ (v : Vec ℕ Global). v.len) w.places-is, w.push_reserved.ensures.len, c.loop-place.invariant.3),
            omega (arith, ap (λ (v : Vec ℕ Global). v.cap) w.places-is, w.push_reserved.ensures.capacity, c.loop-place.invariant.4),
          )
      | else-put_one w ↦
          let holds : before ≡ true = not_is_false before (sym c.put_one.ensures.added ∙ w.if-put_one.false) in (
            ap (λ (v : Vec ℕ Global). v.items) w.places-is ∙ c.loop-place.invariant.0 ∙ sym (append-nil (places_of added))
                ∙ ap (λ (is : Bool). places_of added ++ cond is [] (n ∷ [])) (sym holds) ∙ places_then,
            pairs_then,
            room,
            omega (arith, ap (λ (v : Vec ℕ Global). v.len) w.places-is, c.loop-place.invariant.3),
            omega (arith, ap (λ (v : Vec ℕ Global). v.cap) w.places-is, c.loop-place.invariant.4),
          )
    ]

pub returns-clause-places : goal.returns-clause-places
returns-clause-places c =
    c.loop-place.invariant.0 ∙ ap (λ (events : List Stamp). places_of (additions_from 0 c.args.graph.now.pairs events c.args.later)) (take_all c.loop-place.place c.args.earlier.now c.loop-place-test.false)

pub returns-clause-not_more : goal.returns-clause-not_more
returns-clause-not_more c = omega (arith, c.loop-place.invariant.3, c.loop-place.places.ok.0, c.loop-place.auto.place-end)

pub returns-clause-pairs : goal.returns-clause-pairs
returns-clause-pairs c =
    c.loop-place.invariant.1
    ∙ ap (λ (events : List Stamp). c.args.graph.now.pairs ++ pairs_of (additions_from 0 c.args.graph.now.pairs events c.args.later) c.args.later) (take_all c.loop-place.place c.args.earlier.now c.loop-place-test.false)
