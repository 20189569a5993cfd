use Rattle.std.proofs.Common.{ℕ, ◌<◌, List, None, Some, length, sym, ap, subst, ◌∙◌}
use Rattle.std.specs.Prelude.{nat_lt, if◌then◌else◌}
use Rattle.std.specs.Option.{option_and_then}
use Rattle.program_defs.specs.declared.script.Request.{Request}
use Rattle.weaver_workers.specs.ClientWork.{WorkerEndsAs, WorkerGoesOn}
use Rattle.weaver_workers.specs.Keeping.{KeepsClient}
use Rattle.weaver_workers.specs.Phases.{phase_end}
use Rattle.weaver_workers.specs.Turning.{stand}
use Rattle.weaver_workers.proofs.Answered.{has-replies, in-script, none-from, session-is, unanswered-of}
use Rattle.weaver_workers.proofs.Deeds.{asked-there}
use Rattle.weaver_workers.proofs.Going.{goes-none}
use Rattle.weaver_workers.proofs.ReadOn.{if-both}
use Rattle.weaver_workers.proofs.worker.go_client.Goals as goal

pub returns-in_default : goal.returns-in_default
returns-in_default g c number keeps =
    let upto = phase_end c.args.script.now c.args.phase in
    record {
      goes = goes-none c.args.shared.now c.args.script.now number upto (stand c.args.hand.now c.args.client.now) keeps;
      ends = has-replies c.workers_keep_their_laws.ensures number c.args.client.now keeps.at_end upto
          (ap (option_and_then (λ r. if nat_lt r upto then Some r else None))
          (sym c.first_unanswered.ensures ∙ none-from c.first_unanswered.result c.in_default.not-Some));
    }

pub bounds-as_slice-first : goal.bounds-as_slice-first
bounds-as_slice-first g c =
    let ready = c.requires.ready in
    subst (λ (xs : List Request). c.in-Some.first < length xs) (sym c.as_slice.ensures)
    (in-script c.args.script.now ready.number c.in-Some.first (unanswered-of c.args.script.now ready.number c.args.client.now c.in-Some.first
    ready.keeps.requests (sym c.first_unanswered.ensures ∙ c.in-Some.is)))

pub go_session-requires-clause-keeps : goal.go_session-requires-clause-keeps
go_session-requires-clause-keeps g c κs within =
    let ready = c.requires.ready in
    let asked = c.index-as_slice-first.result in
    let among = unanswered-of c.args.script.now ready.number c.args.client.now c.in-Some.first ready.keeps.requests
    (sym c.first_unanswered.ensures ∙ c.in-Some.is) in
    let same = session-is c.args.script.now ready.number c.in-Some.first asked among (asked-there c.args.script.now c.as_slice.result.now
    c.in-Some.first asked c.as_slice.ensures (in-script c.args.script.now ready.number c.in-Some.first among) c.index-as_slice-first.is) in
    subst (λ (number : ℕ). KeepsClient c.args.shared.now c.args.script.now number c.args.hand.now c.args.client.now)
    (sym same) ready.keeps

pub returns : goal.returns
returns g c = if-both c.go_session.result (λ ended goes ends number keeps.
    (let asked = c.index-as_slice-first.result in
    let among = unanswered-of c.args.script.now number c.args.client.now c.in-Some.first keeps.requests
    (sym c.first_unanswered.ensures ∙ c.in-Some.is) in
    let same = session-is c.args.script.now number c.in-Some.first asked among (asked-there c.args.script.now c.as_slice.result.now
    c.in-Some.first asked c.as_slice.ensures (in-script c.args.script.now number c.in-Some.first among) c.index-as_slice-first.is) in
    let old = stand c.args.hand.now c.args.client.now in
    let new = stand c.go_session.new.hand c.go_session.new.client in
    record {
      goes = subst (λ (upto : ℕ). WorkerGoesOn c.args.shared.now c.args.script.now number upto old new) c.end_of_phase-upto.ensures
          (subst (λ (n : ℕ). WorkerGoesOn c.args.shared.now c.args.script.now n c.end_of_phase-upto.result old new) same goes);
      ends = subst (λ (upto : ℕ). WorkerEndsAs c.args.shared.now c.args.script.now upto new ended) c.end_of_phase-upto.ensures ends;
    })) c.go_session.ensures.goes c.go_session.ensures.ends
