use Rattle.std.proofs.Common.{◌<◌, length, map, refl, sym, ap, subst, ◌∙◌, arith}
use Rattle.weave_entries.specs.GateReplay.{clock_of}
use Rattle.gatekeeper.specs.Gates.{GateView}
use Rattle.gatekeeper.specs.Stopping.{AreLeftOpen, program_in_log, found_flight}
use Rattle.gatekeeper.specs.Running.{HoldsPrograms}
use Rattle.gatekeeper.proofs.Returning.{StampLaws, returns-again, room-again}
use Rattle.gatekeeper.proofs.gate.Gate.returned.Goals as goal

pub put_all-requires-clause-fits : goal.put_all-requires-clause-fits
put_all-requires-clause-fits c =
    let s = c.stopped.inside in
    let is = c.stopped.invariant in
    let laws : StampLaws = record { strict = c.stamps_are_ordered.ensures.irreflexive; same = λ a b. (c.equality_is_decided.ensures.stamps a b).0; itself = λ a. (c.equality_is_decided.ensures.stamps a a).1 refl } in
    let left = subst (λ (v : GateView). AreLeftOpen c.args.flight c.args.running.items v.log) (sym c.stopped.view_is) c.requires.left in
    let few = room-again laws s.home s.shards s.channels.items s.nops.items s.room.entries _ s.log.items is (c.stamps_rise.ensures.rise s.home s.shards s.log.items is.home_is is.rules) c.args.flight c.args.running.items left in
    omega (arith, few, ap length c.as_slice-2.ensures.value)

pub invariant_of-result : goal.invariant_of-result
invariant_of-result c =
    let s = c.stopped.inside in
    let is = c.stopped.invariant in
    let laws : StampLaws = record { strict = c.stamps_are_ordered.ensures.irreflexive; same = λ a b. (c.equality_is_decided.ensures.stamps a b).0; itself = λ a. (c.equality_is_decided.ensures.stamps a a).1 refl } in
    let left = subst (λ (v : GateView). AreLeftOpen c.args.flight c.args.running.items v.log) (sym c.stopped.view_is) c.requires.left in
    let later = subst (λ (v : GateView). (clock_of v.home v.log).epoch < c.args.epoch) (sym c.stopped.view_is) c.requires.epoch in
    returns-again laws s.home s.shards s.channels.items s.nops.items s.room.entries _ s.log.items is (c.stamps_rise.ensures.rise s.home s.shards s.log.items is.home_is is.rules) c.args.flight c.args.running.items left
    c.args.author c.args.epoch _ _ _ _ later c.raise.ensures (c.find_flight-flight.ensures ∙ ap (found_flight c.args.flight) c.as_slice-3.ensures.value)
    (subst (HoldsPrograms _) (λ i. map (program_in_log (c.as_slice.ensures.value i)) (c.as_slice-2.ensures.value i)) c.put_all.ensures) c.add.ensures.items
