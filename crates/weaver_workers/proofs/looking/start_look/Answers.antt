use Rattle.std.proofs.Common.{refl, sym, ap, subst, arith}
use Rattle.std.specs.Prelude.{Option, ◌+◌, ◌<◌, ℕ}
use Rattle.vector_stamp.specs.declared.clock.Stamp.{Stamp}
use Rattle.weave_entries.specs.SessionReplay.{SessionState}
use Rattle.weave_entries.specs.declared.session_log.SessionDeed.TheVariants.{Begun}
use Rattle.weaver_core.specs.Sessions.{IsClientOf, IsInTurn, SessionValues}
use Rattle.weaver_locks.specs.Locks.{shard_count}
use Rattle.weaver_hands.specs.Transactions.{Starts}
use Rattle.weaver_workers.proofs.Deeds.{asked-there, deed-done, started}
use Rattle.weaver_workers.proofs.looking.start_look.Goals as goal

pub start-requires-clause-gate : goal.start-requires-clause-gate
start-requires-clause-gate g c =
    subst (λ (n : ℕ). c.index-as_slice-request.result.gate < n) (sym c.requires.locks.gates)
    (c.requires.limits.homes c.args.request c.index-as_slice-request.result
    (asked-there c.args.script.now c.as_slice.result.now c.args.request c.index-as_slice-request.result c.as_slice.ensures
    c.requires.there c.index-as_slice-request.is))

pub start-requires-clause-new : goal.start-requires-clause-new
start-requires-clause-new g c =
    (c.requires.keeps.fresh c.args.client.now.session.begun c.args.request (omega arith) c.requires.turn.next).unbegun

pub returns-in-Ok-clause-goes : goal.returns-in-Ok-clause-goes
returns-in-Ok-clause-goes g c upto below =
    let laws = c.workers_keep_their_laws.ensures in
    let asked = c.index-as_slice-request.result in
    let asked_is = asked-there c.args.script.now c.as_slice.result.now c.args.request asked c.as_slice.ensures c.requires.there
    c.index-as_slice-request.is in
    let adds = c.begun.ensures.begun in
    let at_end = subst (λ (s : SessionState). IsClientOf c.args.number s c.reserve.new.self.log.items) (sym c.reserve.ensures.same.session)
    (subst (λ l. IsClientOf c.args.number c.args.client.now.session l) (sym c.reserve.ensures.same.log) c.requires.keeps.at_end) in
    started laws c.args.shared.now c.args.script.now c.args.number upto c.args.hand.now c.start.new.hand c.args.client.now
    c.reserve.new.self _ c.requires.keeps c.reserve.ensures.same c.start.ensures.hand (record {
      r = c.args.request;
      asked = asked;
      next = record {
        request_is = asked_is;
        turn = subst (λ (s : SessionState). IsInTurn s c.args.request) (sym c.reserve.ensures.same.session) c.requires.turn;
        below = below;
      };
      program = c.args.program.now;
      work_is = c.requires.work asked asked_is;
      stamp = c.in-Ok.stamp;
      starts = subst (λ (last : Option Stamp). Starts (shard_count c.args.shared.now) c.args.hand.now c.start.new.hand asked.gate
          c.args.request last c.in-Ok.stamp) c.last-last.ensures c.in-Ok.ensures.done;
      walk = c.in_ok-walk.walk;
      program_is = c.in_ok-walk.ensures.program;
      unread = c.in_ok-walk.ensures.reads;
      requests = adds.requests;
      log = adds.log;
      running = refl;
      replies = ap (λ (v : SessionValues). v.replies) c.begun.ensures.values;
    })
    (subst (λ (n : ℕ). asked.gate < n) (sym c.requires.locks.gates) (c.requires.limits.homes c.args.request asked asked_is))
    adds.client (deed-done laws c.args.number c.reserve.new.self c.begun.new.self (Begun c.args.request c.in-Ok.stamp) at_end adds)

pub returns-in-Ok-clause-runs : goal.returns-in-Ok-clause-runs
returns-in-Ok-clause-runs g c =
    let goes = returns-in-Ok-clause-goes g c (c.args.request + 1) (omega arith) in
    record { running = _; running_is = refl; runs = (goes.keeps.running _ refl).runs }
