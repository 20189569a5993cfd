-- A payload is short: its length has 32 bits.
-- Used by `record_of`.
use Rattle.std.proofs.Common.{◌≡◌, ◌*◌, ◌<◌, ◌≤◌, ◌^◌, List, [], ◌∷◌, length, map, refl, arith, length-append}
use Rattle.std.specs.List.{AllByRecursion}
use Rattle.weave_data.specs.Limits.{most_ops}
use Rattle.vector_stamp.specs.declared.clock.Stamp.{Stamp}
use Rattle.graph_ops.specs.declared.op.Op.{Op}
use Rattle.weave_text.specs.Lines.{line_text, lines_text}
use Rattle.weave_script.specs.ScriptLines.{op_line}
use Rattle.weave_script.specs.Scripts.{IsOperation}
use Rattle.store_journal.specs.Payloads.{commit_with, ops_text, payload_of, stamp_bytes}

-- each operation's line is short
abbrev pub LinesAreShort : Type 0
LinesAreShort = (op : Op) → IsOperation op → length (line_text (op_line op)) ≤ 139

ops_short : LinesAreShort → (ops : List Op) → AllByRecursion IsOperation ops → length (ops_text ops) ≤ 139 * length ops
ops_short short [] all = omega arith
ops_short short (op ∷ ops) all =
    omega (arith, length-append (line_text (op_line op)) (lines_text (map op_line ops)), short op all.0, ops_short short ops all.1)

-- so its length has 32 bits
pub payload_short : LinesAreShort → (stamp : Stamp) (ops : List Op) → AllByRecursion IsOperation ops → length ops ≤ most_ops
    → length (payload_of (commit_with stamp ops)) < 2 ^ 32
payload_short short stamp ops all few =
    let sixteen : length (stamp_bytes stamp) ≡ 16 = refl in
    omega (arith, length-append (stamp_bytes stamp) (ops_text ops), sixteen, ops_short short ops all, few)
