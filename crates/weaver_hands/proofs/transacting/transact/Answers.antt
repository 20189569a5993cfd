use Rattle.std.proofs.Common.{◌≡◌, ℕ, false, Option, Some, None, Err, inl, inr, refl, sym, ap, subst, ◌∙◌}
use Rattle.std.specs.Prelude.{is_some}
use Rattle.std.proofs.lemmas.Result.{err_from_is_err_and}
use Rattle.std.proofs.lemmas.Option.{same_Some}
use Rattle.weave_account.specs.declared.account.Account.{Account}
use Rattle.weaver_locks.specs.Locks.{shard_count}
use Rattle.weaver_hands.specs.Transactions.{TransactsAs}
use Rattle.weaver_hands.proofs.Refusals.{memory-left}
use Rattle.weaver_hands.proofs.Alone.{none-at-gate, none-at-store}
use Rattle.weaver_hands.proofs.transacting.transact.Goals as goal

-- what isn't there is none
none-there : {A : Type 0} (o : Option A) → is_some o ≡ false → o ≡ None
none-there None e = refl
none-there (Some x) e = absurd cc

pub begin_tx-requires-clause-last : goal.begin_tx-requires-clause-last
begin_tx-requires-clause-last g c x is =
    c.begun_stamps_may_be_heard.ensures c.args.shared.now c.args.hand.now x c.requires.hand (c.requires.last x is)

pub commit-requires-clause-begun : goal.commit-requires-clause-begun
commit-requires-clause-begun g c =
    let hold = c.in-Ok.ensures.hold in
    (c.calls_follow_each_other.ensures.judge c.args.shared.now c.args.hand.now c.begin_tx.new.hand c.args.gate c.args.request
    c.in-Ok.stamp hold.0 c.requires.hand c.begin_tx.ensures.hand c.requires.new hold.1).begun

pub commit-requires-clause-new : goal.commit-requires-clause-new
commit-requires-clause-new g c =
    let hold = c.in-Ok.ensures.hold in
    (c.calls_follow_each_other.ensures.judge c.args.shared.now c.args.hand.now c.begin_tx.new.hand c.args.gate c.args.request
    c.in-Ok.stamp hold.0 c.requires.hand c.begin_tx.ensures.hand c.requires.new hold.1).new

pub send-requires-clause-judged : goal.send-requires-clause-judged
send-requires-clause-judged g c =
    let hold = c.in-Ok.ensures.hold in
    let flies = c.calls_follow_each_other.ensures.flies c.args.shared.now c.args.hand.now c.begin_tx.new.hand c.args.gate
    c.args.request c.in-Ok.stamp hold.0 c.requires.hand c.begin_tx.ensures.hand c.requires.new hold.1 in
    c.calls_follow_each_other.ensures.send c.args.shared.now c.begin_tx.new.hand c.commit.new.hand c.args.gate c.args.request
    c.in-Ok.stamp c.args.ops.now c.in_ok-verdict.verdict c.begin_tx.ensures.hand c.commit.ensures.hand flies
    c.in_ok-verdict.ensures.hold

pub returns-in-Ok-send-clause-done : goal.returns-in-Ok-send-clause-done
returns-in-Ok-send-clause-done g c =
    let hold = c.in-Ok.ensures.hold in
    let sent = c.in-Ok-send.ensures.hold in
    let judges = c.in_ok-verdict.ensures.hold in
    let flies = c.calls_follow_each_other.ensures.flies c.args.shared.now c.args.hand.now c.begin_tx.new.hand c.args.gate
    c.args.request c.in-Ok.stamp hold.0 c.requires.hand c.begin_tx.ensures.hand c.requires.new hold.1 in
    let still = c.what_was_begun_goes_on.ensures.flight c.args.shared.now c.begin_tx.new.hand c.commit.new.hand c.begin_tx.ensures.hand
    c.commit.ensures.hand judges.was.number (ap (λ (a : Account). a.gates) judges.was.made) judges.was.more c.args.gate c.args.request
    c.in-Ok.stamp flies in
    record {
      begun = c.begin_tx.new.hand;
      begun_seen = c.own_entries_are_those_seen.ensures c.args.shared.now c.begin_tx.new.hand c.begin_tx.ensures.hand;
      judged = c.commit.new.hand;
      judged_seen = c.own_entries_are_those_seen.ensures c.args.shared.now c.commit.new.hand c.commit.ensures.hand;
      before = hold.0;
      begins = hold.1;
      stamp_is = hold.2;
      not_busy = none-there _ hold.3;
      after_last = c.in-Ok.ensures.after;
      hears_no_more = hold.4;
      bits = c.in-Ok.ensures.bits;
      judges = c.in_ok-verdict.ensures.hold;
      flying = sent.0;
      sends = sent.1;
      flight_is = same_Some _ _ (sym sent.1.as_seen ∙ still)
          ∙ ap (λ (number : ℕ). record { author = number; request = c.args.request; stamp = c.in-Ok.stamp })
          (judges.was.number ∙ hold.1.number);
    }

pub returns-in_err-verdict-clause-done : goal.returns-in_err-verdict-clause-done
returns-in_err-verdict-clause-done g c =
    let begun = c.begin_tx.new.hand in
    let new = c.commit.new.hand in
    let hold = c.in-Ok.ensures.hold in
    let judges = c.in_err-verdict.ensures.hold in
    let p = err_from_is_err_and c.from_residual.result c.from_residual.ensures.1 in
    subst (TransactsAs (shard_count c.args.shared.now) c.args.hand.now new c.args.gate c.args.request c.args.ops.now c.args.last) (sym (p.1 ∙ ap Err p.2))
    (inr (inl (record {
      begun = begun;
      stamp = c.in-Ok.stamp;
      before = hold.0;
      begins = hold.1;
      stamp_is = hold.2;
      stops = none-at-store begun new judges.before judges.settled judges.was;
    })))

pub out_of_memory-requires : goal.out_of_memory-requires
out_of_memory-requires g c = memory-left (Unit {0}) c.in-Err-send.fault false refl c.in-Err-send.ensures.hold.1.never_idle

pub returns-in-Err-send-clause-done : goal.returns-in-Err-send-clause-done
returns-in-Err-send-clause-done g c =
    let judged = c.commit.new.hand in
    let new = c.send.new.hand in
    let hold = c.in-Ok.ensures.hold in
    let sent = c.in-Err-send.ensures.hold in
    subst (λ fault. TransactsAs (shard_count c.args.shared.now) c.args.hand.now new c.args.gate c.args.request c.args.ops.now c.args.last (Err fault))
    (sym c.out_of_memory.ensures)
    (inr (inr (record {
      begun = c.begin_tx.new.hand;
      judged = judged;
      stamp = c.in-Ok.stamp;
      before = hold.0;
      begins = hold.1;
      stamp_is = hold.2;
      verdict = c.in_ok-verdict.verdict;
      judges = c.in_ok-verdict.ensures.hold;
      stops = none-at-gate judged new c.args.gate sent.0 sent.1.was;
    })))
