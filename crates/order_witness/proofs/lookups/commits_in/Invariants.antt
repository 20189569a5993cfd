use Rattle.std.proofs.Common.{◌≡◌, ◌≤◌, take, length}
use Rattle.order_witness.specs.Begun.{numbers_in}
use Rattle.order_witness.proofs.lookups.commits_in.Given as goal

abbrev pub invariant-loop-reply : goal.invariant-loop-reply
invariant-loop-reply l = record {
  counted : l.count ≡ length (numbers_in (take l.reply-index l.replies));
  within : l.count ≤ l.reply-index;
}
