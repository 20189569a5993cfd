use Rattle.shard_node.proofs.Splitting.{later-skipped, last-precedes}
use Rattle.shard_node.proofs.laws.visits_split_the_updates.Goals as goal

pub returns-clause-read : goal.returns-clause-read
returns-clause-read c = λ pairs program v log.
    last-precedes pairs program v log c.the_last_update_read_is_seen.ensures.named (λ earlier event. c.settling_puts_all_before.ensures.all_precede pairs earlier program event)

pub returns-clause-skipped : goal.returns-clause-skipped
returns-clause-skipped c = λ pairs program v log.
    later-skipped pairs program v log (λ update updates place. c.the_last_update_read_is_seen.ensures.skipped pairs program update updates place) ((c.precedence_is_decided.ensures.closed pairs).has_stamps)
