use Rattle.std.proofs.Common.{Ok, Err, sym, ap, refl, subst, ◌∙◌}
use Rattle.std.proofs.lemmas.Result.{err_from_is_err_and}
use Rattle.std.specs.Prelude.{is_some}
use Rattle.std.specs.declared.alloc.AllocError.{AllocError}
use Rattle.weaver_locks.specs.Locks.{shard_count}
use Rattle.weave_entries.specs.ShardReplay.{arrived_at}
use Rattle.weaver_hands.specs.Messages.{BringsAs}
use Rattle.weaver_hands.specs.declared.messages.Pulled.{Pulled}
use Rattle.weaver_hands.proofs.Alone.{none-at-gate, none-at-shard, none-then-none}
use Rattle.weaver_hands.proofs.Arrived.{arrives_so, brought_so, has_arrived}
use Rattle.weaver_hands.proofs.messages.bring.Goals as goal

pub arrive-requires-clause-seen : goal.arrive-requires-clause-seen
arrive-requires-clause-seen g c = c.in_ok-message.ensures.seen c.in-Some.message c.in-Some.is

pub returns-in_err-arrival-clause-brought : goal.returns-in_err-arrival-clause-brought
returns-in_err-arrival-clause-brought g c =
    let old = c.args.hand.now in
    let fetched = c.fetch.new.hand in
    let new = c.arrive.new.hand in
    let first = c.in_ok-message.ensures.hold in
    let second = c.in_err-arrival.ensures.hold in
    let p = err_from_is_err_and c.from_residual-in_err-arrival.result c.from_residual-in_err-arrival.ensures.1 in
    subst (BringsAs (shard_count c.args.shared.now) old new c.args.gate c.args.shard c.args.number) (sym (p.1 ∙ ap Err p.2))
    (none-then-none c.more_is_seen.ensures.later old fetched new (none-at-gate old fetched c.args.gate first.0 first.1)
    (none-at-shard fetched new c.args.shard second.0 second.1))

pub returns-clause-brought : goal.returns-clause-brought
returns-clause-brought g c =
    let shared = c.args.shared.now in
    let fetched = c.fetch.new.hand in
    let new = c.arrive.new.hand in
    let message = c.in-Some.message in
    let first = c.in_ok-message.ensures.hold in
    let second = c.in_ok-arrival.ensures.hold in
    let arrives = arrives_so AllocError (shard_count shared) fetched new c.args.gate c.args.shard c.args.number message second.0 _ second.1 second.2 in
    subst (λ (p : Pulled). BringsAs (shard_count shared) c.args.hand.now new c.args.gate c.args.shard c.args.number (Ok p)) (sym c.of_arrival.ensures)
    (brought_so (is_some (arrived_at c.args.gate c.args.number second.0)) c.in_ok-arrival.arrival second.2 (shard_count shared) c.args.hand.now new c.args.gate
    c.args.shard c.args.number (record {
      fetched = fetched;
      sent = first.0;
      fetches = first.1;
      message = message;
      message_is = sym first.2 ∙ c.in-Some.is;
      before = second.0;
      arrives = arrives;
      arrived = has_arrived c.arrivals_keep_their_laws.ensures shared fetched new c.arrive.ensures.hand c.args.gate c.args.shard c.args.number
          c.requires.gate message second.0 (c.in_ok-message.ensures.seen message c.in-Some.is) arrives;
    }) refl)
