use Rattle.std.proofs.Common.{◌<◌, ℕ, sym, ap, subst, ◌∙◌, arith}
use Rattle.weaver_workers.specs.ClientWork.{most_busy_turns}
use Rattle.weaver_workers.specs.Turning.{ended_after, stand, WasBusyForNext}
use Rattle.weaver_workers.proofs.Answered.{given-below, has-replies, in-script, none-from, unanswered-of}
use Rattle.weaver_workers.proofs.Below.{first-below, goes-below}
use Rattle.weaver_workers.proofs.BusyTurns.{busy-after, few-after, never-busy}
use Rattle.weaver_workers.proofs.Going.{goes-none, goes-then}
use Rattle.weaver_workers.proofs.ReadOn.{ends-by}
use Rattle.weaver_workers.proofs.client_work.go_session.Goals as goal

pub loop-init : goal.loop-init
loop-init g c = record {
  goes = goes-none c.args.shared.now c.args.script.now c.args.number c.args.upto (stand c.args.hand.now c.args.client.now) c.requires.keeps;
  few = omega arith;
  was_busy = never-busy c.args.shared.now c.args.script.now c.args.upto (stand c.args.hand.now c.args.client.now);
}

pub next_below-requires : goal.next_below-requires
next_below-requires g c = (c.args.number, c.loop.invariant.goes.keeps.at_end)

pub returns-in_default-clause-goes : goal.returns-in_default-clause-goes
returns-in_default-clause-goes g c = c.loop.invariant.goes

pub returns-in_default-clause-ends : goal.returns-in_default-clause-ends
returns-in_default-clause-ends g c =
    has-replies c.workers_keep_their_laws.ensures c.args.number c.loop.client c.loop.invariant.goes.keeps.at_end c.args.upto
    (sym c.next_below.ensures.next ∙ none-from c.next_below.result c.in_default.not-Some)

pub try_next-requires-clause-keeps : goal.try_next-requires-clause-keeps
try_next-requires-clause-keeps g c = c.loop.invariant.goes.keeps

pub try_next-requires-clause-there : goal.try_next-requires-clause-there
try_next-requires-clause-there g c =
    let request = c.in-Some-next_below.request in
    let parts = given-below c.args.upto request c.loop.client c.next_below.result c.next_below.ensures.next c.in-Some-next_below.is in
    in-script c.args.script.now c.args.number request
    (unanswered-of c.args.script.now c.args.number c.loop.client request c.loop.invariant.goes.keeps.requests parts.0)

pub returns-in-Some-ended_by-clause-goes : goal.returns-in-Some-ended_by-clause-goes
returns-in-Some-ended_by-clause-goes g c =
    let request = c.in-Some-next_below.request in
    let parts = given-below c.args.upto request c.loop.client c.next_below.result c.next_below.ensures.next c.in-Some-next_below.is in
    goes-then c.args.shared.now c.args.script.now c.args.number c.args.upto (stand c.args.hand.now c.args.client.now)
    (stand c.loop.hand c.loop.client) (stand c.try_next.new.hand c.try_next.new.client) c.loop.invariant.goes
    (c.in_ok-tried.ensures c.args.upto parts.1).goes

pub returns-in-Some-ended_by-clause-ends : goal.returns-in-Some-ended_by-clause-ends
returns-in-Some-ended_by-clause-ends g c =
    let request = c.in-Some-next_below.request in
    let parts = given-below c.args.upto request c.loop.client c.next_below.result c.next_below.ensures.next c.in-Some-next_below.is in
    ends-by c.args.shared.now c.args.script.now c.args.upto (stand c.loop.hand c.loop.client)
    (stand c.try_next.new.hand c.try_next.new.client) c.in_ok-tried.tried
    c.loop.busy c.ended_by.result c.in-Some-ended_by.ended
    (c.ended_by.ensures ∙ ap (ended_after c.in_ok-tried.tried) c.busy_after-busy.ensures) c.in-Some-ended_by.is
    (c.in_ok-tried.ensures c.args.upto parts.1).answered
    (let goes = (c.in_ok-tried.ensures c.args.upto parts.1).goes in
    goes-below c.args.shared.now c.args.script.now c.args.number c.args.upto goes.path (stand c.loop.hand c.loop.client)
    (stand c.try_next.new.hand c.try_next.new.client) goes.went
    (first-below c.args.shared.now c.args.script.now c.args.number c.args.upto (stand c.loop.hand c.loop.client)
    c.loop.invariant.goes.keeps request parts.0 parts.1)) c.loop.invariant.few c.loop.invariant.was_busy

pub loop-preserved : goal.loop-preserved
loop-preserved g c =
    let request = c.in-Some-next_below.request in
    let parts = given-below c.args.upto request c.loop.client c.next_below.result c.next_below.ensures.next c.in-Some-next_below.is in
    let tries = c.in_ok-tried.ensures c.args.upto parts.1 in
    record {
      goes = goes-then c.args.shared.now c.args.script.now c.args.number c.args.upto (stand c.args.hand.now c.args.client.now)
          (stand c.loop.hand c.loop.client) (stand c.try_next.new.hand c.try_next.new.client) c.loop.invariant.goes tries.goes;
      few = subst (λ (n : ℕ). n < most_busy_turns) (sym c.busy_after-busy.ensures)
          (few-after c.in_ok-tried.tried c.loop.busy c.ended_by.result
          (c.ended_by.ensures ∙ ap (ended_after c.in_ok-tried.tried) c.busy_after-busy.ensures)
          (none-from c.ended_by.result c.in_default-ended_by.not-Some));
      was_busy = subst (WasBusyForNext c.args.shared.now c.args.script.now c.args.upto
          (stand c.try_next.new.hand c.try_next.new.client)) (sym c.busy_after-busy.ensures)
          (busy-after c.args.shared.now c.args.script.now c.args.upto (stand c.loop.hand c.loop.client)
          (stand c.try_next.new.hand c.try_next.new.client) c.in_ok-tried.tried c.loop.busy tries.answered c.loop.invariant.few
          c.loop.invariant.was_busy);
    }
