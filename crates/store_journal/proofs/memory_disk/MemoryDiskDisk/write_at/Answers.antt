use Rattle.std.proofs.Common.{rules, ◌≡◌, true, Ok, ap}
use Rattle.store_journal.proofs.Recorded.{elapses_to, grows_written, follows_written, recorded_done, recorded_failed}
use Rattle.store_journal.proofs.memory_disk.MemoryDiskDisk.write_at.Goals as goal

pub returns-in-Ok-true-clause-crash : goal.returns-in-Ok-true-clause-crash
returns-in-Ok-true-clause-crash c =
    follows_written c.overwrite_and_note-outcome.result c.args.at c.args.bytes.now _ _ _ _ _ (ap (λ s. s.first) c.self.view_is) (ap (λ s. s.calls) c.self.view_is) (c.overwrite_and_note-outcome.ensures.noted, c.overwrite_and_note-outcome.ensures.err)

pub returns-in-Ok-true-clause-time : goal.returns-in-Ok-true-clause-time
returns-in-Ok-true-clause-time c =
    elapses_to _ _ _ _ (ap (λ s. s.first) c.self.view_is) (grows_written c.overwrite_and_note-outcome.result c.args.at c.args.bytes.now _ _ _ (ap (λ s. s.calls) c.self.view_is) (c.overwrite_and_note-outcome.ensures.noted, c.overwrite_and_note-outcome.ensures.err))

pub returns-clause-crash : goal.returns-clause-crash
returns-clause-crash c =
    follows_written c.overwrite_and_note-outcome.result c.args.at c.args.bytes.now _ _ _ _ _ (ap (λ s. s.first) c.self.view_is) (ap (λ s. s.calls) c.self.view_is) (c.overwrite_and_note-outcome.ensures.noted, c.overwrite_and_note-outcome.ensures.err)

pub returns-clause-time : goal.returns-clause-time
returns-clause-time c =
    elapses_to _ _ _ _ (ap (λ s. s.first) c.self.view_is) (grows_written c.overwrite_and_note-outcome.result c.args.at c.args.bytes.now _ _ _ (ap (λ s. s.calls) c.self.view_is) (c.overwrite_and_note-outcome.ensures.noted, c.overwrite_and_note-outcome.ensures.err))

pub returns-in-Ok-true-clause-recorded : goal.returns-in-Ok-true-clause-recorded
returns-in-Ok-true-clause-recorded c =
    let done : c.overwrite_and_note-outcome.result ≡ Ok true = search rules in
    recorded_done c.overwrite_and_note-outcome.result c.args.at c.args.bytes.now _ _ _ (ap (λ s. s.calls) c.self.view_is)
    (c.overwrite_and_note-outcome.ensures.noted, c.overwrite_and_note-outcome.ensures.err) done

pub returns-clause-recorded : goal.returns-clause-recorded
returns-clause-recorded c =
    let other : c.overwrite_and_note-outcome.result ≡ Ok true → ⊥ = search rules in
    recorded_failed c.overwrite_and_note-outcome.result c.args.at c.args.bytes.now _ _ _ (ap (λ s. s.calls) c.self.view_is)
    (c.overwrite_and_note-outcome.ensures.noted, c.overwrite_and_note-outcome.ensures.err) other
