use Rattle.std.proofs.Common.{List, sym, ap, subst}
use Rattle.weave_entries.specs.declared.gate_log.GateEntry.{GateEntry}
use Rattle.weaver_core.specs.GateTable.{AreGatesInOrder}
use Rattle.weaver_core.proofs.AtGates.{first-count}
use Rattle.weaver_core.proofs.gates.Gates.new.Goals as goal

pub invariant_of-result : goal.invariant_of-result
invariant_of-result c =
    let made = c.in_ok-made.made.items in
    subst (λ n. AreGatesInOrder n c.args.shards made) (sym (first-count c.args.gates c.args.gates c.args.shards made c.in_ok-made.ensures)) c.in_ok-made.ensures.in_order

pub returns : goal.returns
returns c = ap (λ (logs : List (List GateEntry)). record { shards = c.args.shards; logs = logs }) c.in_ok-made.ensures.logs
