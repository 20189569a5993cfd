use Rattle.std.proofs.Common.{sym, subst, ◌∙◌, arith}
use Rattle.std.specs.Prelude.{Option, ◌<◌, ℕ}
use Rattle.vector_stamp.specs.declared.clock.Stamp.{Stamp}
use Rattle.weave_entries.specs.SessionReplay.{SessionState}
use Rattle.weaver_core.specs.Sessions.{IsInTurn}
use Rattle.weaver_locks.specs.Locks.{shard_count}
use Rattle.weaver_hands.specs.Transactions.{Transacts}
use Rattle.weaver_workers.proofs.Deeds.{asked-there, changed, few-ops, nothing-runs, refused}
use Rattle.weaver_workers.proofs.ReadOn.{if-ok}
use Rattle.weaver_workers.proofs.Refusals.{refuses-transaction}
use Rattle.weaver_workers.proofs.changing.try_change.Goals as goal

pub transact-requires-clause-new : goal.transact-requires-clause-new
transact-requires-clause-new g c =
    (c.requires.keeps.fresh c.args.client.now.session.begun c.args.request (omega arith) c.requires.turn.next).unbegun

pub transact-requires-clause-few : goal.transact-requires-clause-few
transact-requires-clause-few g c =
    few-ops c.args.script.now c.requires.limits c.args.request c.args.ops.now c.requires.there c.requires.work

pub answer_change-requires-clause-next : goal.answer_change-requires-clause-next
answer_change-requires-clause-next g c =
    let turn = subst (λ (s : SessionState). IsInTurn s c.args.request) (sym c.reserve.ensures.same.session) c.requires.turn in
    record {
      replied = turn.replied;
      next = turn.next;
      rises = λ last at. c.in-Ok.ensures.done.after_last last (c.last-last.ensures ∙ at);
    }

pub returns-in_ok-answer_change-in-Ok : goal.returns-in_ok-answer_change-in-Ok
returns-in_ok-answer_change-in-Ok g c upto below =
    let asked = c.index-as_slice-request.result in
    let asked_is = asked-there c.args.script.now c.as_slice.result.now c.args.request asked c.as_slice.ensures c.requires.there
    c.index-as_slice-request.is in
    record {
      goes = changed c.workers_keep_their_laws.ensures c.args.shared.now c.args.script.now c.args.number upto c.args.hand.now
          c.transact.new.hand c.args.client.now c.reserve.new.self c.answer_change.new.client c.requires.keeps
          c.reserve.ensures.same c.transact.ensures.hand c.args.request asked (record {
            request_is = asked_is;
            turn = subst (λ (s : SessionState). IsInTurn s c.args.request) (sym c.reserve.ensures.same.session) c.requires.turn;
            below = below;
          }) c.args.ops.now (c.requires.work asked asked_is)
          (subst (λ (n : ℕ). asked.gate < n) (sym c.requires.locks.gates) (c.requires.limits.homes c.args.request asked asked_is))
          c.in-Ok.stamp c.in-Ok.verdict
          (subst (λ (last : Option Stamp). Transacts (shard_count c.args.shared.now) c.args.hand.now c.transact.new.hand asked.gate
          c.args.request c.args.ops.now last c.in-Ok.stamp c.in-Ok.verdict) c.last-last.ensures c.in-Ok.ensures.done)
          c.in_ok-answer_change-in-Ok.ensures;
      answered = tt;
    }

pub tried_in_vain-requires : goal.tried_in_vain-requires
tried_in_vain-requires g c =
    refuses-transaction (shard_count c.args.shared.now) c.args.hand.now c.transact.new.hand c.index-as_slice-request.result.gate
    c.args.request c.args.ops.now _ c.in-Err.fault c.in-Err.ensures.done

pub returns-in-Err : goal.returns-in-Err
returns-in-Err g c =
    let asked = c.index-as_slice-request.result in
    let asked_is = asked-there c.args.script.now c.as_slice.result.now c.args.request asked c.as_slice.ensures c.requires.there
    c.index-as_slice-request.is in
    if-ok c.tried_in_vain.result (λ tried is upto below.
    refused c.workers_keep_their_laws.ensures c.args.shared.now c.args.script.now c.args.number upto c.args.hand.now
    c.transact.new.hand c.args.client.now c.reserve.new.self c.reserve.new.self c.requires.keeps
    c.reserve.ensures.same c.transact.ensures.hand
    (nothing-runs c.args.client.now.running (sym c.requires.keeps.waits ∙ c.requires.turn.replied)) c.args.request asked (record {
      request_is = asked_is;
      turn = subst (λ (s : SessionState). IsInTurn s c.args.request) (sym c.reserve.ensures.same.session) c.requires.turn;
      below = below;
    }) c.args.ops.now (c.requires.work asked asked_is) _ c.in-Err.fault tried c.in-Err.ensures.done is) c.tried_in_vain.ensures.tried
