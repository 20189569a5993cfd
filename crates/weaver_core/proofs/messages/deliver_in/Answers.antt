use Rattle.std.proofs.Common.{Some, refl, sym, ap, subst, ◌∙◌}
use Rattle.std.specs.Prelude.{option_copied}
use Rattle.shard_queue.specs.declared.inbox.Arrival.{Arrival}
use Rattle.weave_entries.specs.ShardRules.{IsTakable}
use Rattle.weaver_core.specs.Messages.{ArrivesAtShard}
use Rattle.weaver_core.proofs.messages.deliver_in.Goals as goal

pub returns-in_default-clause-delivers : goal.returns-in_default-clause-delivers
returns-in_default-clause-delivers c = (refl, sym c.fetch.ensures ∙ ap (option_copied) c.in_default.is)

-- the copy is the message that was sent
pub arrive-requires-clause-takable : goal.arrive-requires-clause-takable
arrive-requires-clause-takable c =
    let sent = sym c.fetch.ensures ∙ ap option_copied c.in-Some.is in
    subst IsTakable (sym c.in_ok-copied.ensures) (c.requires.takable c.in-Some.message.now sent)

pub returns-in-Ok-Kept-clause-delivers : goal.returns-in-Ok-Kept-clause-delivers
returns-in-Ok-Kept-clause-delivers c =
    let sent = sym c.fetch.ensures ∙ ap option_copied c.in-Some.is in
    record {
      message = c.in_ok-copied.copied;
      is_sent = sent ∙ ap Some (sym c.in_ok-copied.ensures);
      arrives = subst (λ (arrival : Arrival). ArrivesAtShard c.args.shards.now c.arrive.new.self c.args.shard c.args.gate c.args.number c.in_ok-copied.copied arrival) c.in-Ok-Kept.field-0-is c.in-Ok-Kept.ensures.arrives;
    }

pub returns-in-Ok-Repeat-clause-delivers : goal.returns-in-Ok-Repeat-clause-delivers
returns-in-Ok-Repeat-clause-delivers c =
    let sent = sym c.fetch.ensures ∙ ap option_copied c.in-Some.is in
    record {
      message = c.in_ok-copied.copied;
      is_sent = sent ∙ ap Some (sym c.in_ok-copied.ensures);
      arrives = subst (λ (arrival : Arrival). ArrivesAtShard c.args.shards.now c.arrive.new.self c.args.shard c.args.gate c.args.number c.in_ok-copied.copied arrival) c.in-Ok-Repeat.field-0-is c.in-Ok-Repeat.ensures.arrives;
    }
