use Rattle.std.proofs.Common.{◌≡◌, ℕ, List, [], ◌∷◌, ◌++◌, map, sym, ◌∙◌, ap, append_assoc}
use Rattle.std.specs.Int.{w64, to_be_bytes}
use Rattle.vector_stamp.specs.Order.{own_count}
use Rattle.weave_text.specs.Lines.{lines_text}
use Rattle.weave_script.specs.ScriptLines.{op_line}
use Rattle.store_journal.proofs.payload.print_payload.Goals as goal

in_one : (text epoch count lines : List ℕ) (version : ℕ) → (((text ++ version ∷ []) ++ epoch) ++ count) ++ lines ≡ text ++ version ∷ ((epoch ++ count) ++ lines)
in_one text epoch count lines version =
    append_assoc ((text ++ version ∷ []) ++ epoch) count lines
    ∙ append_assoc (text ++ version ∷ []) epoch (count ++ lines)
    ∙ append_assoc text (version ∷ []) (epoch ++ (count ++ lines))
    ∙ ap (λ more. text ++ version ∷ more) (sym (append_assoc epoch count lines))

pub returns-clause-text : goal.returns-clause-text
returns-clause-text c =
    let lines = lines_text (map op_line c.args.ops.now) in
    let epoch : c.to_be_bytes.result ≡ to_be_bytes w64 c.args.stamp.now.clock.epoch = c.to_be_bytes.ensures in
    let count : c.to_be_bytes-2.result ≡ to_be_bytes w64 (own_count c.args.stamp.now) = c.to_be_bytes-2.ensures ∙ ap (to_be_bytes w64) c.own_count.ensures in
    c.in_ok-print_ops.ensures.text
    ∙ ap (λ t. t ++ lines) (c.in_ok-push-3.ensures.ok ∙ ap (λ t. t ++ c.to_be_bytes-2.result) (c.in_ok-push-2.ensures.ok ∙ ap (λ t. t ++ c.to_be_bytes.result) c.in_ok-push.ensures.ok))
    ∙ in_one c.args.text.now c.to_be_bytes.result c.to_be_bytes-2.result lines c.version_byte.result
    ∙ (λ i. c.args.text.now ++ c.version_byte.ensures i ∷ ((epoch i ++ count i) ++ lines))
