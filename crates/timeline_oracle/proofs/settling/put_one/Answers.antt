use Rattle.std.proofs.Common.{◌≡◌, false, sym}
use Rattle.vector_stamp.specs.Precedence.{precedes}
use Rattle.timeline_oracle.proofs.Known.{left_open}
use Rattle.timeline_oracle.proofs.settling.put_one.Goals as goal

pub add-requires : goal.add-requires
add-requires c =
    let pairs = c.args.graph.now.pairs in
    let not_there : precedes pairs c.args.earlier c.args.later ≡ false = sym c.if-is_put_before.ensures in
    record {
      of_two = c.requires.other_id;
      left_open = left_open pairs (c.precedence_is_decided.ensures.closed pairs) c.args.earlier c.args.later not_there c.requires.permitted;
      coherent = c.requires.coherent;
      permitted = c.requires.permitted;
    }
