use Rattle.std.proofs.Common.{◌≡◌}
use Rattle.weave_keep.proofs.Requests.{commits_so, moments_so, reply_so}
use Rattle.weave_keep.proofs.keeping.keep_request.Goals as goal

pub returns-in-Ok-clause-reply : goal.returns-in-Ok-clause-reply
returns-in-Ok-clause-reply g c =
    reply_so c.args.store.now c.commit.new.self c.args.place c.args.request.now c.requires.counted c.ops_of.result.now c.ops_of.ensures c.commit.result (c.commit.new.disk ≡ c.args.disk.now) c.in-Ok.kept c.reply_of.result c.in-Ok.is c.reply_of.ensures
    (record { committed = c.commit.ensures.committed; refused = c.commit.ensures.refused; passes = c.commit.ensures.passes; unwritten = c.commit.ensures.unwritten })

pub returns-in-Ok-clause-commits : goal.returns-in-Ok-clause-commits
returns-in-Ok-clause-commits g c =
    commits_so c.args.store.now c.commit.new.self c.args.place c.args.request.now c.requires.counted c.ops_of.result.now c.ops_of.ensures c.commit.result (c.commit.new.disk ≡ c.args.disk.now) c.in-Ok.kept c.in-Ok.is
    (record { committed = c.commit.ensures.committed; refused = c.commit.ensures.refused; passes = c.commit.ensures.passes; unwritten = c.commit.ensures.unwritten })

pub returns-in-Ok-clause-goes_on : goal.returns-in-Ok-clause-goes_on
returns-in-Ok-clause-goes_on g c = record { on = c.in-Ok.ensures.goes_on; epoch = c.in-Ok.ensures.stamped.epoch; count = c.in-Ok.ensures.stamped.count }

pub returns-in-Ok-clause-any_moment : goal.returns-in-Ok-clause-any_moment
returns-in-Ok-clause-any_moment g c told =
    moments_so c.args.store.now c.commit.new.self c.args.place c.args.request.now c.requires.counted c.ops_of.result.now c.ops_of.ensures c.commit.result g.D.Disk.seen g.D.Disk.images g.D.Disk.moment g.D.Disk.images_since g.met.D.Disk.since_now c.args.disk.now c.commit.new.disk c.requires.at_rest told (c.commit.ensures.any_moment c.requires.on told)
    (record { committed = c.commit.ensures.committed; refused = c.commit.ensures.refused; passes = c.commit.ensures.passes; unwritten = c.commit.ensures.unwritten })

pub returns-in-Err-clause-any_moment : goal.returns-in-Err-clause-any_moment
returns-in-Err-clause-any_moment g c told =
    moments_so c.args.store.now c.commit.new.self c.args.place c.args.request.now c.requires.counted c.ops_of.result.now c.ops_of.ensures c.commit.result g.D.Disk.seen g.D.Disk.images g.D.Disk.moment g.D.Disk.images_since g.met.D.Disk.since_now c.args.disk.now c.commit.new.disk c.requires.at_rest told (c.commit.ensures.any_moment c.requires.on told)
    (record { committed = c.commit.ensures.committed; refused = c.commit.ensures.refused; passes = c.commit.ensures.passes; unwritten = c.commit.ensures.unwritten })
