use Rattle.std.proofs.Common.{refl, sym, ap, ◌∙◌, ◌≡◌, ◌≤◌, arith, length, slice_get, Some}
use Rattle.std.specs.Option.{option_and_then}
use Rattle.std.proofs.lemmas.Option.{slice_get_read}
use Rattle.shard_queue.specs.Outbox.{sent_as}
use Rattle.gatekeeper.specs.Places.{message_at}
use Rattle.gatekeeper.specs.Gates.{GateView}
use Rattle.gatekeeper.proofs.Begins.{fetched_beyond, fetched_at}
use Rattle.gatekeeper.proofs.gate.Gate.fetch.Goals as goal

pub returns-in_default : goal.returns-in_default
returns-in_default c =
    let long = ap length c.deref.ensures.value in
    let beyond : c.self.inside.shards ≤ c.args.shard = omega (arith, c.in_default.ensures.lookup.3, c.self.invariant.all_channels, long) in
    fetched_beyond _ _ _ _ _ _ _ _ c.self.invariant c.channels_rise.ensures.beyond c.args.self.now c.args.shard c.args.number (ap (λ (v : GateView). v.log) (sym c.self.view_is)) beyond

pub returns : goal.returns
returns c =
    let at = c.in-Some.ensures.lookup.3 in
    let stands : slice_get c.deref.result.now c.args.shard ≡ Some c.in-Some.channel.now = slice_get_read c.deref.result.now _ c.args.shard c.in-Some.channel.now refl at.0 (at.1 c.in-Some.channel.now) in
    fetched_at _ _ _ _ _ _ _ _ c.self.invariant c.args.self.now c.args.shard c.args.number (ap (λ (v : GateView). v.log) (sym c.self.view_is)) c.in-Some.channel.now (rw c.deref.ensures.value at stands) _
    (c.find_message.ensures ∙ (λ i. option_and_then (message_at (c.as_slice-2.ensures.value i) (c.as_slice.ensures.value i)) (sent_as c.args.number c.in-Some.channel.now.sent)))
