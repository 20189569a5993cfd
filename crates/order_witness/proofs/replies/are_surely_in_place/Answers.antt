use Rattle.order_witness.proofs.InPlace.{replies_hold}
use Rattle.order_witness.proofs.replies.are_surely_in_place.Goals as goal

pub returns : goal.returns
returns c holds =
    replies_hold c.args.script.now c.args.replies.now (c.are_at_places-at_places.ensures c.if-not-at_places.false) (c.in_ok-apart.ensures c.if-not-apart.false) (c.in_ok-turns.ensures holds)
