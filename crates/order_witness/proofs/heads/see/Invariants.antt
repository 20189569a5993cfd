use Rattle.std.proofs.Common.{◌≡◌, ◌<◌, ℕ, length, take, IsTrue, false}
use Rattle.report_rules.specs.Lookups.{is_in}
use Rattle.order_witness.specs.ByNumber.{list_at}
use Rattle.order_witness.specs.Heads.{AreSeenDone, is_done, item, seen_by_request}
use Rattle.order_witness.proofs.heads.see.Given as goal

abbrev pub invariant-loop-request : goal.invariant-loop-request
invariant-loop-request l = record {
  size : length l.seen ≡ length l.initial.seen;
  seen : AreSeenDone l.befores l.done l.initial.seen → AreSeenDone l.befores l.done l.seen;
  is_left : (r : ℕ) → IsTrue (is_in r (take l.request-index l.requests)) → r < length l.initial.seen → seen_by_request l.seen r < length (list_at l.befores r) → is_done l.done (item (list_at l.befores r) (seen_by_request l.seen r)) ≡ false;
}
