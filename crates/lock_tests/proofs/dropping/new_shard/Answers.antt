use Rattle.std.proofs.Common.{◌≡◌, ◌∙◌, List, [], ◌∷◌, ◌++◌, length, ap}
use Rattle.weave_entries.specs.declared.gate_log.GateDeed.{GateDeed}
use Rattle.seen_logs.specs.Entries.{gate_entries}
use Rattle.chronicle.specs.declared.note.Note.{Note}
use Rattle.chronicle.specs.Logs.{Log}
use Rattle.chronicle.specs.Passes.{seen_by_note}
use Rattle.oracle_lock.specs.Seen.{gates_noted}
use Rattle.lock_tests.proofs.SentRun.{keeps-notes}
use Rattle.lock_tests.proofs.dropping.new_shard.Goals as goal

pub new-requires-3 : goal.new-requires-3
new-requires-3 g c =
    let notes = c.new-2.result in
    let pushed = rw c.expect.ensures at c.push.ensures.items in
    let items : notes.gates.items ≡ c.note_of-gate.result ∷ [] =
    ap (λ v. v.items) c.new-2.ensures.gates ∙ pushed ∙ ap (λ (l : List (Note GateDeed)). l ++ c.note_of-gate.result ∷ []) c.new-gates.ensures.items in
    keeps-notes c.expect-shard.result notes (rw c.expect-shard.ensures at c.new.ensures)
    (ap gates_noted items ∙ ap (λ (l : Log GateDeed). gate_entries l ∷ []) c.note_of-gate.ensures)
    (ap seen_by_note c.new-2.ensures.store ∙ c.note_of-store.ensures) (ap seen_by_note c.new-2.ensures.oracle ∙ c.note_of-oracle.ensures)
    (ap (λ (l : List (Note GateDeed)). length l) items)
