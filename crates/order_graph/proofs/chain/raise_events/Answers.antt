use Rattle.std.proofs.Common.{◌≡◌, ◌<◌, [], length, true, slice_index_or, slice_set, sym, ap, ◌∙◌, subst, arith}
use Rattle.std.proofs.lemmas.List.{get_or_default}
use Rattle.std.proofs.lemmas.List.Edits.{map_over_more}
use Rattle.order_graph.specs.declared.chain.Event.{Event}
use Rattle.order_graph.specs.Chains.{leads_to, joined_event, raised_event}
use Rattle.order_graph.proofs.Raising.{raised_first, raised_last, raised_led, raised_so_far}
use Rattle.order_graph.proofs.chain.raise_events.Goals as goal

pub loop-place-init : goal.loop-place-init
loop-place-init c =
    raised_first c.args.earlier.now c.args.later.now c.args.frontier.now.latest c.args.events.now c.first_led-from.result c.first_led-from.ensures.within (c.first_led-from.ensures.first c.requires.later).0

pub returns-then-is_led_by : goal.returns-then-is_led_by
returns-then-is_led_by c =
    let events = c.args.events.now in
    let place = c.loop-place.place in
    let nothing : Event = record { stamp = record { home = 0; clock = record { epoch = 0; counts = [] } }; frontier = record { latest = [] } } in
    let same : slice_index_or c.loop-place.events place nothing ≡ slice_index_or events place nothing = raised_so_far c.args.earlier.now c.args.later.now c.args.frontier.now.latest events c.loop-place.events place c.loop-place-test.true c.loop-place.invariant nothing in
    let led : leads_to c.args.earlier.now (slice_index_or events place nothing) ≡ true = subst (λ (event : Event). leads_to c.args.earlier.now event ≡ true) same (sym c.if-is_led_by.ensures) in
    c.loop-place.invariant ∙ raised_last c.args.earlier.now c.args.later.now c.args.frontier.now.latest events place (omega (arith, c.loop-place-test.true))
    (λ k d after below. c.requires.earlier place k d after below (subst (λ (event : Event). leads_to c.args.earlier.now event ≡ true) (get_or_default events place nothing d c.loop-place-test.true) led))

pub loop-place-preserved : goal.loop-place-preserved
loop-place-preserved c =
    let events = c.args.events.now in
    let now = c.loop-place.events in
    let place = c.loop-place.place in
    let earlier = c.args.earlier.now in
    let later = c.args.later.now in
    let latest = c.args.frontier.now.latest in
    let nothing : Event = record { stamp = record { home = 0; clock = record { epoch = 0; counts = [] } }; frontier = record { latest = [] } } in
    let event : Event = slice_index_or now place nothing in
    let same : event ≡ slice_index_or events place nothing = raised_so_far earlier later latest events now place c.loop-place-test.true c.loop-place.invariant nothing in
    let led : leads_to later event ≡ true = subst (λ (x : Event). leads_to later x ≡ true) (sym same) ((c.first_led-from.ensures.first c.requires.later).1 place nothing c.loop-place.auto.place c.loop-place-test.true) in
    let next : Event = record { stamp = event.stamp; frontier = c.join.new.self } in
    let joined_now : next ≡ joined_event latest event = λ i. record { stamp = event.stamp; frontier = record { latest = c.join.ensures i } } in
    let is : next ≡ raised_event earlier later latest event = joined_now ∙ sym (raised_led earlier later latest event led (sym c.if-is_led_by.ensures)) in
    let within : place < length now = omega (arith, c.loop-place.auto.events, c.loop-place-test.true) in
    ap (λ (x : Event). slice_set now place x) is ∙ map_over_more (raised_event earlier later latest) events now place event c.loop-place-test.true c.loop-place.invariant (get_or_default now place nothing event within)

pub returns : goal.returns
returns c =
    c.loop-place.invariant ∙ raised_last c.args.earlier.now c.args.later.now c.args.frontier.now.latest c.args.events.now c.loop-place.place (omega (arith, c.first_led-from.ensures.within, c.loop-place.auto.place-end, c.loop-place-test.false))
    (λ k d after below. absurd (omega (arith, after, below, c.loop-place-test.false)))
