-- The line with which a script is refused, and the words after it.
use Rattle.std.proofs.Common.{◌≡◌, Err}
use Rattle.explain_top.proofs.Taken.{of_the_fault, script_refused}
use Rattle.explain_top.proofs.answering.script_words.Goals as goal
use Rattle.program_defs.specs.declared.script.Script.{Script}
use Rattle.weave_script.specs.ReadText.{Fault, read_text}

pub returns-in-Err-Refused-clause-explains : goal.returns-in-Err-Refused-clause-explains
returns-in-Err-Refused-clause-explains c =
    let fault : Fault = record { line = c.in-Err-Refused.line; cause = c.in-Err-Refused.cause } in
    let first : read_text c.args.input.now ≡ Err fault = of_the_fault Script c.in-Err-Refused.field-0 fault.line fault.cause (λ line cause. read_text c.args.input.now ≡ Err (record { line = line; cause = cause })) c.in-Err-Refused.field-0-is c.in-Err-Refused.ensures.refused in
    script_refused c.args.input.now _ fault c.refused_for.result first (λ script short. c.texts_are_read.ensures.refused c.args.input.now fault script short first) c.refused_for.ensures.status c.refused_for.ensures.text
