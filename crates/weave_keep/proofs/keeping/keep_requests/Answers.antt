use Rattle.std.proofs.Common.{◌+◌, ◌<◌, ◌≤◌, ◌∷◌, ◌++◌, [], arith, sym, subst, ℕ, List, length}
use Rattle.report_rules.specs.declared.report.Reply.{Reply}
use Rattle.weave_keep.specs.Keepable.{AreKeptUpTo, IsKeptRequest}
use Rattle.store_journal.proofs.Moments.{joined, started}
use Rattle.weave_keep.proofs.Requests.{all_commits, all_replies, made_report, none_kept, one_more_kept, same_fault, up_to_none, up_to_one}
use Rattle.weave_keep.proofs.Versions.{holds_at}
use Rattle.weave_keep.proofs.Working.{risen_later}
use Rattle.weave_keep.proofs.keeping.keep_requests.Goals as goal

pub count_of-place-end-requires : goal.count_of-place-end-requires
count_of-place-end-requires g c = c.requires.kept.few

pub loop-place-init : goal.loop-place-init
loop-place-init g c = record {
  so_far = none_kept c.args.store.now c.args.requests.now c.new-replies.result c.new-order.result c.requires.fresh c.new-replies.ensures c.new-order.ensures;
  at_rest = c.requires.at_rest;
  told = λ told. told;
  faults = omega arith;
  moments = λ told. started g.D.Disk.moment g.D.Disk.images_since c.args.disk.now _ (λ file here. up_to_none c.args.store.now _ (g.D.Disk.seen c.args.disk.now) (g.D.Disk.images c.args.disk.now) c.requires.at_rest told file (g.met.D.Disk.since_now c.args.disk.now file here));
}

pub keep_request-requires-clause-on : goal.keep_request-requires-clause-on
keep_request-requires-clause-on g c = c.loop-place.invariant.so_far.on

pub keep_request-requires-clause-at_rest : goal.keep_request-requires-clause-at_rest
keep_request-requires-clause-at_rest g c = c.loop-place.invariant.at_rest

pub keep_request-requires-clause-counted : goal.keep_request-requires-clause-counted
keep_request-requires-clause-counted g c = c.loop-place.invariant.so_far.count

pub keep_request-requires-clause-kept : goal.keep_request-requires-clause-kept
keep_request-requires-clause-kept g c =
    let inside : c.loop-place.place < length c.args.requests.now = omega (arith, c.loop-place-test.true, c.count_of-place-end.ensures) in
    holds_at IsKeptRequest c.args.requests.now c.loop-place.place c.index-requests-place.result c.requires.kept.each inside c.index-requests-place.is

pub loop-place-preserved : goal.loop-place-preserved
loop-place-preserved g c =
    let was = c.loop-place.invariant in
    let start = c.args.store.now in
    let requests = c.args.requests.now in
    let place = c.loop-place.place in
    let inside : place < length requests = omega (arith, c.loop-place-test.true, c.count_of-place-end.ensures) in
    let more = one_more_kept start c.loop-place.store c.keep_request.new.store requests place c.loop-place.replies c.loop-place.order c.index-requests-place.result c.in-Ok.reply was.so_far inside c.index-requests-place.is (record { says = c.in-Ok.ensures.reply; commits = c.in-Ok.ensures.commits; further = c.in-Ok.ensures.goes_on }) in
    record {
      so_far = subst (λ (rs : List Reply). AreKeptUpTo start c.keep_request.new.store requests (place + 1) rs c.list.new.order) (sym c.in-Ok-list.ensures.replies) (subst (λ (os : List ℕ). AreKeptUpTo start c.keep_request.new.store requests (place + 1) (c.loop-place.replies ++ c.in-Ok.reply ∷ []) os) (sym c.in-Ok-list.ensures.order) more);
      at_rest = c.in-Ok.ensures.at_rest;
      told = λ told. c.keep_request.ensures.told (was.told told);
      faults = omega (arith, was.faults, c.keep_request.ensures.never_falls);
      moments = λ told. joined g.D.Disk.moment g.D.Disk.images_since c.args.disk.now c.loop-place.disk c.keep_request.new.disk _ _ _ (was.moments told) (c.keep_request.ensures.any_moment (was.told told)) (λ file has. has)
          (up_to_one start c.loop-place.store requests place c.loop-place.replies c.loop-place.order c.index-requests-place.result was.so_far inside c.index-requests-place.is);
    }

pub returns-in-Err-clause-any_moment : goal.returns-in-Err-clause-any_moment
returns-in-Err-clause-any_moment g c told =
    let was = c.loop-place.invariant in
    let inside : c.loop-place.place < length c.args.requests.now = omega (arith, c.loop-place-test.true, c.count_of-place-end.ensures) in
    joined g.D.Disk.moment g.D.Disk.images_since c.args.disk.now c.loop-place.disk c.keep_request.new.disk _ _ _ (was.moments told) (c.keep_request.ensures.any_moment (was.told told)) (λ file has. has)
    (up_to_one c.args.store.now c.loop-place.store c.args.requests.now c.loop-place.place c.loop-place.replies c.loop-place.order c.index-requests-place.result was.so_far inside c.index-requests-place.is)

pub returns-in-Err-clause-failed : goal.returns-in-Err-clause-failed
returns-in-Err-clause-failed g c is =
    risen_later (g.D.Disk.faults c.args.disk.now) (g.D.Disk.faults c.loop-place.disk) (g.D.Disk.faults c.keep_request.new.disk) c.loop-place.invariant.faults (c.keep_request.ensures.failed (same_fault c.keep_request.result _ _ c.in-Err.is is))

pub returns-in-Err-clause-never_halted : goal.returns-in-Err-clause-never_halted
returns-in-Err-clause-never_halted g c is = c.keep_request.ensures.never_halted (same_fault c.keep_request.result _ _ c.in-Err.is is)

pub returns-in-Err-list-clause-any_moment : goal.returns-in-Err-list-clause-any_moment
returns-in-Err-list-clause-any_moment g c told =
    let was = c.loop-place.invariant in
    let inside : c.loop-place.place < length c.args.requests.now = omega (arith, c.loop-place-test.true, c.count_of-place-end.ensures) in
    joined g.D.Disk.moment g.D.Disk.images_since c.args.disk.now c.loop-place.disk c.keep_request.new.disk _ _ _ (was.moments told) (c.keep_request.ensures.any_moment (was.told told)) (λ file has. has)
    (up_to_one c.args.store.now c.loop-place.store c.args.requests.now c.loop-place.place c.loop-place.replies c.loop-place.order c.index-requests-place.result was.so_far inside c.index-requests-place.is)

pub returns-clause-report : goal.returns-clause-report
returns-clause-report g c =
    let end : length c.args.requests.now ≤ c.loop-place.place = omega (arith, c.loop-place-test.false, c.count_of-place-end.ensures) in
    let so_far = c.loop-place.invariant.so_far in
    made_report _ c.loop-place.replies c.new-pairs.result c.loop-place.order c.new-answers.result (all_replies c.args.store.now c.loop-place.store c.args.requests.now c.loop-place.place c.loop-place.replies c.loop-place.order so_far end) c.new-pairs.ensures so_far.in_order c.new-answers.ensures

pub returns-clause-commits : goal.returns-clause-commits
returns-clause-commits g c =
    let end : length c.args.requests.now ≤ c.loop-place.place = omega (arith, c.loop-place-test.false, c.count_of-place-end.ensures) in
    all_commits c.args.store.now c.loop-place.store c.args.requests.now c.loop-place.place c.loop-place.replies c.loop-place.order c.loop-place.invariant.so_far end

pub returns-clause-at_rest : goal.returns-clause-at_rest
returns-clause-at_rest g c = c.loop-place.invariant.at_rest

pub returns-clause-any_moment : goal.returns-clause-any_moment
returns-clause-any_moment g c told = c.loop-place.invariant.moments told
