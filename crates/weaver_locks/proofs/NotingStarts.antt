-- Notes of what new passes have seen.
-- Used by `note_gate`, `note_shard`, `note_starts` and `note_store`.
use Rattle.std.proofs.Common.{◌≡◌, List, length, map, ◌∙◌, arith}
use Rattle.chronicle.specs.declared.chronicle.Chronicle.{Chronicle}
use Rattle.chronicle.specs.declared.pass.Pass.{Pass}
use Rattle.chronicle.specs.declared.note.Note.{Note}
use Rattle.chronicle.specs.Locks.{Lock, lock_of}
use Rattle.chronicle.specs.Passes.{IsReady, number_of, seen_by_pass, seen_by_note, lock_noted}
use Rattle.lock_row.specs.Hands.{AreDealt, IsNewPass}
use Rattle.lock_row.specs.Notings.{AllStay, HaveNoted}
use Rattle.lock_row.specs.Rows.{AreReady, names_of}
use Rattle.lock_row.proofs.Lists.{mapped_alike, one_of}
use Rattle.weaver_locks.specs.Noted.{NoteStarts}

module _ {M E : Type 0} (locks : List (Chronicle M E)) (before : List (Pass E)) (dealt : AreDealt 0 locks before) where
  -- the new passes with number 0 are ready
  pub dealt_ready : AreReady locks before
  dealt_ready k c p low = (dealt k c p low).ready

  -- passes that stay as they were are still the new ones with number 0
  pub dealt_stay : (after : List (Pass E)) → AllStay locks before after → AreDealt 0 locks after
  dealt_stay after stay k c p low =
      let was = dealt k c p low in
      let now = stay k c p low in
      record { ready = now.ready; number_is = now.number ∙ was.number_is; seen_is = now.seen_is ∙ was.seen_is }

  -- notes that have seen what these passes have, one of each lock, have seen the locks' logs at the start
  pub starts_noted : (notes : List (Note E)) → length before ≡ length locks → length notes ≡ length locks
      → map lock_noted notes ≡ names_of locks → HaveNoted locks before notes → NoteStarts locks notes
  starts_noted notes many long names has = record {
    names = names;
    starts = mapped_alike (λ (c : Chronicle M E). (lock_of c).start) seen_by_note locks notes long
        (λ k c n low. let p : Pass E = one_of before k (omega (arith, low, many)) in (has k c p n low).seen_is ∙ (dealt k c p low).seen_is);
  }

-- a pass that made a note
pub new_stays : {E : Type 0} (lock : Lock E) (p q : Pass E) → IsNewPass 0 lock p → IsReady lock q → number_of q ≡ number_of p → seen_by_pass q ≡ seen_by_pass p
    → IsNewPass 0 lock q
new_stays lock p q was ready number same = record { ready = ready; number_is = number ∙ was.number_is; seen_is = same ∙ was.seen_is }
