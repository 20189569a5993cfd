use Rattle.std.proofs.Common.{◌∙◌}
use Rattle.machine_tests.proofs.Covered.{has_all, store_after, judge_after}
use Rattle.machine_tests.proofs.store_calls.try_commit.Goals as goal

pub commit-requires-clause-coherent : goal.commit-requires-clause-coherent
commit-requires-clause-coherent g c =
    let pushed = rw c.expect.ensures at c.push.ensures.items in
    c.parts_and_unions_are_coherent.ensures.part _ c.as_slice-all.result.now (c.are_coherent.ensures.0 c.if-not-are_coherent.false)
    (has_all c.args.stamps.now.items c.as_slice-all.result.now c.args.store.now (g.J.Judge.known c.args.judge.now) c.args.stamp (c.as_slice-all.ensures.value ∙ pushed) c.requires (c.what_is_asked_is_kept.ensures.kept c.args.store.now))

pub returns : goal.returns
returns g c =
    let pushed = rw c.expect.ensures at c.push.ensures.items in
    record {
      of_store = store_after c.args.stamps.now.items c.push.new.self.items c.args.store.now (g.J.Judge.known c.args.judge.now) c.args.stamp pushed c.requires c.args.author c.args.request c.args.ops.now c.commit.new.self c.commit.result c.commit.ensures.entry c.commit.ensures.store;
      of_judge = λ one has. judge_after c.args.stamps.now.items c.push.new.self.items c.args.store.now (g.J.Judge.known c.args.judge.now) c.args.stamp pushed c.requires c.args.ops.now (λ other. c.what_is_asked_is_kept.ensures.asked c.args.store.now c.args.stamp other c.args.ops.now) (c.what_is_asked_is_kept.ensures.kept c.args.store.now) one (c.commit.ensures.known one has);
    }
