use Rattle.std.proofs.Common.{rules, ◌≡◌, ◌+◌, ◌<◌, true, false, [], ◌∷◌, ◌++◌, length, drop, get_or, Some, sym, ◌∙◌, ap, subst}
use Rattle.store_journal.specs.Walked.{TakesPayload, payload_in}
use Rattle.store_journal.proofs.Rests.{rest_of}
use Rattle.store_journal.proofs.WalkSteps.{at_record, at_strange}
use Rattle.store_journal.proofs.walk.pass_record.Goals as goal

pub returns-then-not-branch-clause-step : goal.returns-then-not-branch-clause-step
returns-then-not-branch-clause-step c earlier passed =
    let file = c.args.file.now in
    let gate = c.args.walked.now.gate in
    let there : gate < length file = search rules in
    let is_open : get_or file gate 0 ≡ 1 = search rules in
    let some : payload_in (drop (gate + 1) file) ≡ Some c.in-Some.payload.now = ap payload_in (sym (rest_of file (gate + 1))) ∙ sym c.in-Some.ensures.payload in
    let none : c.in_ok-take_payload.field-0 ≡ false = search rules in
    let takes = subst (λ more. TakesPayload c.in-Some.payload.now c.take_payload.new.walked more earlier) none (c.in_ok-take_payload.ensures.commit earlier passed) in (
      takes.1,
      at_strange file gate earlier there is_open c.in-Some.payload.now some takes.0
          ∙ ap (λ k. record { commits = earlier; gate = k }) (sym c.take_payload.ensures.gate),
    )

pub returns-clause-step : goal.returns-clause-step
returns-clause-step c earlier passed =
    let file = c.args.file.now in
    let gate = c.args.walked.now.gate in
    let there : gate < length file = search rules in
    let is_open : get_or file gate 0 ≡ 1 = search rules in
    let some : payload_in (drop (gate + 1) file) ≡ Some c.in-Some.payload.now = ap payload_in (sym (rest_of file (gate + 1))) ∙ sym c.in-Some.ensures.payload in
    let more : c.in_ok-take_payload.field-0 ≡ true = search rules in
    let takes = subst (λ m. TakesPayload c.in-Some.payload.now c.take_payload.new.walked m earlier) more (c.in_ok-take_payload.ensures.commit earlier passed) in
    let now = takes.2 in (
      earlier ++ takes.0 ∷ [],
      record { graph = now.graph; clock = now.clock; number = now.number; epochs = now.epochs },
      at_record file gate earlier there is_open c.in-Some.payload.now takes.0 some takes.1,
    )
