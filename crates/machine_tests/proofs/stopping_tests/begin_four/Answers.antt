use Rattle.std.proofs.Common.{ℕ, List, [], ◌∷◌, ◌++◌, ap, ◌∙◌}
use Rattle.weave_entries.specs.declared.gate_log.GateEntry.{GateEntry}
use Rattle.weave_entries.specs.declared.gate_log.GateDeed.{GateDeed}
use Rattle.weave_entries.specs.declared.gate_log.GateDeed.TheVariants.{BeganTx, BeganProgram, Finished}
use Rattle.machine_tests.proofs.stopping_tests.begin_four.Goals as goal

-- a log with one more entry
abbrev more : ℕ → GateDeed → List GateEntry → List GateEntry
more author deed log = log ++ record { author = author; deed = deed } ∷ []

pub returns-clause-log : goal.returns-clause-log
returns-clause-log g c =
    let one = (rw c.expect-first.ensures at c.begin_program.ensures.entry).log in
    let two = (rw c.expect-finished.ensures at c.begin_program-2.ensures.entry).log in
    let three = (rw c.expect.ensures at c.finish.ensures.entry).log in
    let four = (rw c.expect-second.ensures at c.begin_program-3.ensures.entry).log in
    let five = (rw c.expect-flight.ensures at c.begin_tx.ensures.entry).log in
    five
    ∙ ap (more 9 (BeganTx 3 c.expect-flight.result)) (
    four ∙ ap (more 8 (BeganProgram 2 c.expect-second.result)) (
    three ∙ ap (more 8 (Finished 1)) (
    two ∙ ap (more 8 (BeganProgram 1 c.expect-finished.result)) (
    one ∙ ap (more 7 (BeganProgram 1 c.expect-first.result)) c.requires))))
