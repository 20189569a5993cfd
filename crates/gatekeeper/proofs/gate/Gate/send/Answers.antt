use Rattle.std.proofs.Common.{refl, sym, ap, subst, ◌∙◌, arith, ◌≡◌, ◌-◌, ◌++◌, ◌∷◌, [], List, Some, length, vec_len, vec_capacity}
use Rattle.shard_queue.specs.Outbox.{Channel}
use Rattle.weave_entries.specs.declared.message.Addressed.{Addressed}
use Rattle.weave_entries.specs.declared.gate_log.GateDeed.TheVariants.{Sent}
use Rattle.weave_entries.specs.GateReplay.{flight_of}
use Rattle.gatekeeper.specs.Gates.{GateView, SendsFlight}
use Rattle.gatekeeper.specs.Messages.{CanAllGo, AreSent, messages_made}
use Rattle.gatekeeper.specs.Opened.{as_begun}
use Rattle.gatekeeper.specs.declared.places.Place.{Place}
use Rattle.gatekeeper.proofs.Keeping.{keeps_on, no_bits}
use Rattle.gatekeeper.proofs.Messages.{made_is, all_can_go, sent_then, all_then, flight_told, sends_fit}
use Rattle.gatekeeper.proofs.gate.Gate.send.Goals as goal

pub send_all-requires : goal.send_all-requires
send_all-requires c =
    let one = c.in-Some.flight in
    let low = c.low_mark-low.ensures _ c.self.invariant.running_is in
    let made = c.in_ok-made.ensures ∙ ap (λ (cs : List (Channel Place)). messages_made cs c.self.inside.shards one c.low_mark-low.result c.args.ops.now c.args.verdict.now) c.as_slice.ensures.value in
    let is = c.as_slice-2.ensures ∙ c.from_vec-messages.ensures ∙ made ∙ made_is _ _ _ _ _ _ _ _ c.self.invariant c.channels_rise.ensures.beyond one c.low_mark-low.result c.args.ops.now c.args.verdict.now low in
    let long = c.self.inside.channels.ok.0 in
    subst (λ (ms : List Addressed). CanAllGo c.make_all_room.new.channels.items ms) (sym is)
    (all_can_go _ _ _ _ _ _ _ _ c.self.invariant one c.make_all_room.new.channels.items (λ shard below. c.in_ok-make_all_room.ensures.room shard (omega arith)) c.args.ops.now c.args.verdict.now)

pub invariant_of-self-2 : goal.invariant_of-self-2
invariant_of-self-2 c =
    let one = c.in-Some.flight in
    let log = c.self.inside.log.items in
    let messages = c.from_vec-messages.result in
    let low = c.low_mark-low.ensures _ c.self.invariant.running_is in
    let made = c.in_ok-made.ensures ∙ ap (λ (cs : List (Channel Place)). messages_made cs c.self.inside.shards one c.low_mark-low.result c.args.ops.now c.args.verdict.now) c.as_slice.ensures.value in
    let is = c.from_vec-messages.ensures ∙ made ∙ made_is _ _ _ _ _ _ _ _ c.self.invariant c.channels_rise.ensures.beyond one c.low_mark-low.result c.args.ops.now c.args.verdict.now low in
    let told : flight_of c.args.self.now.log ≡ Some (as_begun one) = ap (λ (v : GateView). flight_of v.log) (sym c.self.view_is) ∙ flight_told _ _ _ _ _ _ _ _ c.self.invariant one c.in-Some.is in
    let fits = sends_fit _ _ _ _ _ _ _ _ c.self.invariant one c.in-Some.is c.args.author (c.requires.author (as_begun one) told) c.args.ops.now c.args.verdict.now (c.requires.counts (as_begun one) told) messages is in
    let entry : c.len.result ≡ length log = c.len.ensures ∙ c.reserve.ensures.len ∙ c.self.inside.log.ok.0 in
    let sent : AreSent c.make_all_room.new.channels.items c.send_all.new.channels.items (length log) messages =
    subst (λ n. AreSent c.make_all_room.new.channels.items c.send_all.new.channels.items n messages) entry
    (subst (λ (ms : List Addressed). AreSent c.make_all_room.new.channels.items c.send_all.new.channels.items c.len.result ms) c.as_slice-2.ensures c.send_all.ensures) in
    keeps_on _ _ _ _ _ _ _ _ c.args.author (Sent one.request messages) _ _ _ _ _ _ c.self.invariant (record {
      fits = fits;
      bits = no_bits;
      log_is = rw c.reserve.ensures.items at c.add.ensures.items;
      clock_is = refl;
      flight_is = refl;
      running_is = c.self.invariant.running_is;
    })
    (all_then _ _ _ _ _ _ _ _ c.self.invariant _ _ _ c.make_all_room.ensures.kept sent)
    (sent_then _ _ _ _ _ _ _ _ c.self.invariant _ _ c.args.author one.request messages c.make_all_room.ensures.kept sent)

pub returns-clause-entry : goal.returns-clause-entry
returns-clause-entry c =
    let one = c.in-Some.flight in
    let low = c.low_mark-low.ensures _ c.self.invariant.running_is in
    let made = c.in_ok-made.ensures ∙ ap (λ (cs : List (Channel Place)). messages_made cs c.self.inside.shards one c.low_mark-low.result c.args.ops.now c.args.verdict.now) c.as_slice.ensures.value in
    let is = c.from_vec-messages.ensures ∙ made ∙ made_is _ _ _ _ _ _ _ _ c.self.invariant c.channels_rise.ensures.beyond one c.low_mark-low.result c.args.ops.now c.args.verdict.now low in
    let log = rw c.reserve.ensures.items at c.add.ensures.items in
    let kept = c.reserve.ensures.capacity in
    let same = c.reserve.ensures.len in
    let more = c.add.ensures.capacity in
    let longer = c.add.ensures.len in
    let next : GateView = record { home = c.self.inside.home; gates = c.self.inside.gates; shards = c.self.inside.shards; log = c.add.new.log.items; spare = vec_capacity c.add.new.log - vec_len c.add.new.log } in
    subst (λ (v : GateView). SendsFlight v next c.args.author c.args.ops.now c.args.verdict.now) c.self.view_is
    (record {
      flight = as_begun one;
      flies = flight_told _ _ _ _ _ _ _ _ c.self.invariant one c.in-Some.is;
      adds = record {
        log = log ∙ ap (λ (ms : List Addressed). c.self.inside.log.items ++ record { author = c.args.author; deed = Sent one.request ms } ∷ []) is;
        home = refl;
        gates = refl;
        shards = refl;
        spare = omega arith;
      };
    })
