use Rattle.std.proofs.Common.{rules, ◌≡◌, length, ap, arith}
use Rattle.store_journal.specs.Payloads.{commit_with, payload_of}
use Rattle.store_journal.proofs.ShortPayloads.{payload_short}
use Rattle.store_journal.proofs.payload.record_of.Goals as goal

pub overflow_cast-size : goal.overflow_cast-size
overflow_cast-size c =
    let is : c.into_bytes-payload.result.items ≡ payload_of (commit_with c.args.stamp.now c.args.ops.now) = search rules in
    omega (
      arith,
      c.len-size.ensures,
      c.into_bytes-payload.result.ok.0,
      ap length is,
      payload_short c.operations_come_back.ensures.short c.args.stamp.now c.args.ops.now c.in_ok-print_payload.ensures.typed c.requires,
    )

pub returns-clause-short : goal.returns-clause-short
returns-clause-short c =
    payload_short c.operations_come_back.ensures.short c.args.stamp.now c.args.ops.now c.in_ok-print_payload.ensures.typed c.requires
