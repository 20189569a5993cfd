use Rattle.std.proofs.Common.{◌∙◌, ◌+◌, inl, inr, refl, sym, ap, subst, arith, length}
use Rattle.std.proofs.lemmas.Bool.{cases_Bool}
use Rattle.program_defs.specs.declared.script.Script.{Script}
use Rattle.weave_drive.specs.Progress.{HasNoNextVertex}
use Rattle.weave_drive.proofs.Driven.{drives-more, drives-through}
use Rattle.weave_drive.proofs.Quiet.{drives-quiet}
use Rattle.weave_drive.proofs.Replied.{begins-below, first-quiet, first-reading, last-answered, middle-quiet, middle-read, middle-sent}
use Rattle.weave_drive.proofs.answering.answer.Goals as goal

pub end_request-requires-clause-home : goal.end_request-requires-clause-home
end_request-requires-clause-home c =
    let cores = c.in_ok-step.ensures.cores in
    let inside = cores.limits.homes c.args.request c.asked-found.result.now c.asked-found.ensures in
    let still = ap (λ (s : Script). s.gates) c.in_ok-step.ensures.done.script_is in
    omega (arith, inside, still)

pub end_request-requires-clause-reading : goal.end_request-requires-clause-reading
end_request-requires-clause-reading c f =
    first-reading c.the_crates_below_keep_their_laws.ensures c.args.core.now c.step.new.core c.args.request c.asked-found.result.now c.asked-found.ensures c.in_ok-step.ensures.cores _ c.in_ok-step.ensures.done c.requires.answered (sym c.is_change-change.ensures ∙ f)

pub end_request-requires-clause-quiet : goal.end_request-requires-clause-quiet
end_request-requires-clause-quiet c f =
    first-quiet c.the_crates_below_keep_their_laws.ensures c.args.core.now c.step.new.core c.args.request c.asked-found.result.now c.asked-found.ensures c.in_ok-step.ensures.cores _ c.in_ok-step.ensures.done c.requires.answered (sym c.is_change-change.ensures ∙ f)

pub returns-in_err-end_request-clause-drives : goal.returns-in_err-end_request-clause-drives
returns-in_err-end_request-clause-drives c =
    drives-through (c.args.request + 1) c.args.core.now c.step.new.core c.end_request.new.core (c.step.ensures.drives (c.args.request + 1) (begins-below c.args.request)) (drives-more 0 (c.args.request + 1) (omega arith) c.step.new.core c.end_request.new.core c.end_request.ensures.drives)

pub step-requires-2 : goal.step-requires-2
step-requires-2 c =
    let inside = c.requires.there in
    let first = ap (λ (s : Script). length s.requests) c.in_ok-step.ensures.done.script_is in
    let middle = ap (λ (s : Script). length s.requests) c.end_request.ensures.drives.script_is in
    omega (arith, inside, first, middle)

pub returns-clause-drives : goal.returns-clause-drives
returns-clause-drives c =
    drives-through (c.args.request + 1) c.args.core.now c.end_request.new.core c.step-2.new.core
    (drives-through (c.args.request + 1) c.args.core.now c.step.new.core c.end_request.new.core (c.step.ensures.drives (c.args.request + 1) (begins-below c.args.request)) (drives-more 0 (c.args.request + 1) (omega arith) c.step.new.core c.end_request.new.core c.end_request.ensures.drives))
    (c.step-2.ensures.drives (c.args.request + 1) refl)

pub returns-clause-answered : goal.returns-clause-answered
returns-clause-answered c =
    let laws = c.the_crates_below_keep_their_laws.ensures in
    let old = c.args.core.now in
    let first = c.step.new.core in
    let middle = c.end_request.new.core in
    let r = c.args.request in
    let found = c.asked-found.result.now in
    let is = c.asked-found.ensures in
    let cores = c.in_ok-step.ensures.cores in
    let did = c.in_ok-step.ensures.done in
    let drives = c.end_request.ensures.drives in
    let same = c.is_change-change.ensures in
    elim (cases_Bool c.is_change-change.result) [
      | inl change ↦
          let quiet = middle-quiet laws old first r found is cores _ did c.requires.answered middle drives (c.in_ok-end_request.ensures.sent change) in
          last-answered laws old first r found is cores _ did c.requires.answered middle drives c.step-2.new.core _ quiet
          (middle-sent laws old first r found is cores _ did c.requires.answered middle drives (sym same ∙ change) quiet) c.in_ok-step-2.ensures.done (c.step-2.ensures.drives 0 refl)
      | inr look ↦
          let quiet = drives-quiet first middle drives (first-quiet laws old first r found is cores _ did c.requires.answered (sym same ∙ look)) in
          last-answered laws old first r found is cores _ did c.requires.answered middle drives c.step-2.new.core _ quiet
          (middle-read laws old first r found is cores _ did c.requires.answered middle drives (sym same ∙ look) (subst (λ (s : Script). HasNoNextVertex s c.args.request c.end_request.new.core.state.account) (sym drives.script_is) (c.in_ok-end_request.ensures.read look))) c.in_ok-step-2.ensures.done (c.step-2.ensures.drives 0 refl)
    ]

pub returns-in_err-step-2-clause-drives : goal.returns-in_err-step-2-clause-drives
returns-in_err-step-2-clause-drives c =
    drives-through (c.args.request + 1) c.args.core.now c.end_request.new.core c.step-2.new.core
    (drives-through (c.args.request + 1) c.args.core.now c.step.new.core c.end_request.new.core (c.step.ensures.drives (c.args.request + 1) (begins-below c.args.request)) (drives-more 0 (c.args.request + 1) (omega arith) c.step.new.core c.end_request.new.core c.end_request.ensures.drives))
    (c.step-2.ensures.drives (c.args.request + 1) refl)
