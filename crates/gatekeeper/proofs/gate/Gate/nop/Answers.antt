use Rattle.std.proofs.Common.{refl, sym, ap, subst, ◌∙◌, arith, ◌≡◌, ◌<◌, ◌^◌, ◌++◌, ◌∷◌, [], List, length, None}
use Rattle.vector_stamp.specs.declared.clock.Clock.{Clock}
use Rattle.vector_stamp.specs.declared.clock.Stamp.{Stamp}
use Rattle.graph_ops.specs.declared.part.Part.{Part}
use Rattle.weave_entries.specs.declared.message.Message.{Message}
use Rattle.weave_entries.specs.declared.gate_log.GateDeed.TheVariants.{Nop}
use Rattle.weave_entries.specs.GateReplay.{next_stamp, next_number, nop_message}
use Rattle.weave_entries.specs.GateRules.{SendsNop}
use Rattle.gatekeeper.specs.declared.places.Place.{Place}
use Rattle.gatekeeper.specs.Gates.{GateView}
use Rattle.gatekeeper.specs.Messages.{IsSentOn}
use Rattle.gatekeeper.proofs.Keeping.{keeps_on, one_bits}
use Rattle.gatekeeper.proofs.Begins.{none_flies, own_fits}
use Rattle.gatekeeper.proofs.Messages.{number_told, nop_then}
use Rattle.gatekeeper.proofs.gate.Gate.nop.Goals as goal

pub tick-stamp-requires-clause-room : goal.tick-stamp-requires-clause-room
tick-stamp-requires-clause-room c =
    let few : length c.self.inside.log.items < 2 ^ 63 = omega (arith, c.self.inside.log.ok.0, c.self.inside.log.ok.1, c.self.inside.log.small) in
    own_fits _ _ _ _ _ _ _ _ c.self.invariant c.counts_are_few.ensures.own few

pub returns-clause-number : goal.returns-clause-number
returns-clause-number c =
    c.send_one-number.ensures.number ∙ number_told _ _ _ _ _ _ _ _ c.self.invariant c.make_room.new.channels.items c.args.shard c.make_room.ensures.kept c.in_ok-make_room.ensures.room
    ∙ ap (λ (v : GateView). next_number c.args.shard v.log) c.self.view_is

pub invariant_of-self-2 : goal.invariant_of-self-2
invariant_of-self-2 c =
    let home = c.self.inside.home in
    let shard = c.args.shard in
    let log = c.self.inside.log.items in
    let nops = c.self.inside.nops.items in
    let number = c.send_one-number.result in
    let now = c.make_room.new.channels.items in
    let next = c.send_one-number.new.channels.items in
    let keeps = c.make_room.ensures.kept in
    let room = c.in_ok-make_room.ensures.room in
    let low = c.low_mark-low.result in
    let stamp : c.tick-stamp.result ≡ next_stamp home c.self.inside.clock = c.tick-stamp.ensures.stamp ∙ (λ i. record { home = home; clock = c.tick-stamp.ensures.clock i }) in
    let entry_is : c.len.result ≡ length log = c.len.ensures ∙ c.reserve-2.ensures.len ∙ c.self.inside.log.ok.0 in
    let at_is : c.len-2.result ≡ length nops = c.len-2.ensures ∙ c.reserve.ensures.len ∙ c.self.inside.nops.ok.0 in
    let place_is : ◌≡◌ {A = Place} (record { entry = c.len.result; at = c.len-2.result }) (record { entry = length log; at = length nops }) = λ i. record { entry = entry_is i; at = at_is i } in
    let sent = subst (λ (p : Place). IsSentOn now next shard p) place_is c.send_one-number.ensures.sent in
    let made : List Part → Message = λ ps. record { request = None; stamp = c.tick-stamp.result; low = low; parts = ps } in
    let nops_are : c.put.new.items.items ≡ nops ++ nop_message c.tick-stamp.result low ∷ [] = c.put.ensures.items ∙ ap (λ (ns : List Message). ns ++ made c.new.result ∷ []) c.reserve.ensures.items ∙ ap (λ (ps : List Part). nops ++ made ps ∷ []) c.new.ensures in
    let fits : SendsNop home c.self.inside.shards log shard number c.tick-stamp.result low = record {
      alone = none_flies _ _ c.self.invariant.flight_is (sym c.is_some-busy.ensures ∙ c.if-busy.false);
      shard_is = subst (λ (v : GateView). shard < v.shards) (sym c.self.view_is) c.requires;
      stamp_is = stamp ∙ ap (λ (k : Clock). next_stamp home k) c.self.invariant.clock_is;
      number_is = c.send_one-number.ensures.number ∙ number_told _ _ _ _ _ _ _ _ c.self.invariant now shard keeps room;
      low_is = c.low_mark-low.ensures _ c.self.invariant.running_is;
    } in
    keeps_on _ _ _ _ _ _ _ _ c.args.author (Nop shard number c.tick-stamp.result low) _ _ _ _ _ _ c.self.invariant (record {
      fits = fits;
      bits = one_bits c.tick-stamp.result c.shows_64_bits.ensures;
      log_is = rw c.reserve-2.ensures.items at c.add.ensures.items;
      clock_is = sym (ap (λ (s : Stamp). s.clock) c.tick-stamp.ensures.stamp);
      flight_is = refl;
      running_is = c.self.invariant.running_is;
    })
    (sent.count ∙ keeps.count ∙ c.self.invariant.all_channels)
    (nop_then _ _ _ _ _ _ _ _ c.self.invariant now next c.args.author shard number c.tick-stamp.result low _ nops_are keeps sent)
