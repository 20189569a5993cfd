use Rattle.std.proofs.Common.{◌∷◌, [], ap, ◌∙◌, refl, option_map}
use Rattle.store_journal.specs.Commits.{commit_of}
use Rattle.store_journal.specs.Disk.{written_at}
use Rattle.store_journal.proofs.Adding.{wrote, synced, there, opens, ends, acknowledges, added_from_gate}
use Rattle.store_journal.proofs.record.add_record.Goals as goal

pub returns-in_err-write_at-clause-any_moment : goal.returns-in_err-write_at-clause-any_moment
returns-in_err-write_at-clause-any_moment g c commits next at_rest added told =
    wrote g.D.Disk.seen g.D.Disk.images g.D.Disk.moment g.D.Disk.images_since g.met.D.Disk.since_now commit_of commits next c.args.gate c.args.bytes.now added c.args.disk.now at_rest told
    c.write_at.new.self c.write_at.ensures.crash c.write_at.ensures.time

pub returns-in_err-sync-clause-any_moment : goal.returns-in_err-sync-clause-any_moment
returns-in_err-sync-clause-any_moment g c commits next at_rest added told =
    synced g.D.Disk.seen g.D.Disk.images g.D.Disk.moment g.D.Disk.images_since g.met.D.Disk.since_now commit_of commits next c.args.gate c.args.bytes.now added c.args.disk.now at_rest told
    c.write_at.new.self c.sync.new.self c.write_at.ensures.crash c.write_at.ensures.time c.sync.ensures.crash c.sync.ensures.time

pub returns-in_err-write_at-2-clause-any_moment : goal.returns-in_err-write_at-2-clause-any_moment
returns-in_err-write_at-2-clause-any_moment g c commits next at_rest added told =
    opens g.D.Disk.seen g.D.Disk.images g.D.Disk.moment g.D.Disk.images_since g.met.D.Disk.since_now commit_of commits next c.args.gate c.args.bytes.now added c.args.disk.now at_rest told
    c.sync.new.self c.write_at-2.new.self
    (synced g.D.Disk.seen g.D.Disk.images g.D.Disk.moment g.D.Disk.images_since g.met.D.Disk.since_now commit_of commits next c.args.gate c.args.bytes.now added c.args.disk.now at_rest told
    c.write_at.new.self c.sync.new.self c.write_at.ensures.crash c.write_at.ensures.time c.sync.ensures.crash c.sync.ensures.time)
    (there g.D.Disk.seen g.D.Disk.images g.D.Disk.moment g.D.Disk.images_since g.met.D.Disk.since_now commit_of commits next c.args.gate c.args.bytes.now added c.args.disk.now at_rest told
    c.write_at.new.self c.sync.new.self c.in_ok-write_at.ensures.written c.in_ok-sync.ensures.same c.in_ok-sync.ensures.synced)
    c.write_at-2.ensures.crash c.write_at-2.ensures.time

pub returns-clause-any_moment : goal.returns-clause-any_moment
returns-clause-any_moment g c commits next at_rest added told =
    ends g.D.Disk.seen g.D.Disk.images g.D.Disk.moment g.D.Disk.images_since g.met.D.Disk.since_now commit_of commits next c.args.gate c.args.bytes.now added c.args.disk.now at_rest told
    c.sync.new.self c.write_at-2.new.self c.sync-2.new.self
    (synced g.D.Disk.seen g.D.Disk.images g.D.Disk.moment g.D.Disk.images_since g.met.D.Disk.since_now commit_of commits next c.args.gate c.args.bytes.now added c.args.disk.now at_rest told
    c.write_at.new.self c.sync.new.self c.write_at.ensures.crash c.write_at.ensures.time c.sync.ensures.crash c.sync.ensures.time)
    (there g.D.Disk.seen g.D.Disk.images g.D.Disk.moment g.D.Disk.images_since g.met.D.Disk.since_now commit_of commits next c.args.gate c.args.bytes.now added c.args.disk.now at_rest told
    c.write_at.new.self c.sync.new.self c.in_ok-write_at.ensures.written c.in_ok-sync.ensures.same c.in_ok-sync.ensures.synced)
    c.write_at-2.ensures.crash c.write_at-2.ensures.time c.sync-2.ensures.crash c.sync-2.ensures.time

pub returns-in_err-sync-2-clause-any_moment : goal.returns-in_err-sync-2-clause-any_moment
returns-in_err-sync-2-clause-any_moment g c commits next at_rest added told =
    ends g.D.Disk.seen g.D.Disk.images g.D.Disk.moment g.D.Disk.images_since g.met.D.Disk.since_now commit_of commits next c.args.gate c.args.bytes.now added c.args.disk.now at_rest told
    c.sync.new.self c.write_at-2.new.self c.sync-2.new.self
    (synced g.D.Disk.seen g.D.Disk.images g.D.Disk.moment g.D.Disk.images_since g.met.D.Disk.since_now commit_of commits next c.args.gate c.args.bytes.now added c.args.disk.now at_rest told
    c.write_at.new.self c.sync.new.self c.write_at.ensures.crash c.write_at.ensures.time c.sync.ensures.crash c.sync.ensures.time)
    (there g.D.Disk.seen g.D.Disk.images g.D.Disk.moment g.D.Disk.images_since g.met.D.Disk.since_now commit_of commits next c.args.gate c.args.bytes.now added c.args.disk.now at_rest told
    c.write_at.new.self c.sync.new.self c.in_ok-write_at.ensures.written c.in_ok-sync.ensures.same c.in_ok-sync.ensures.synced)
    c.write_at-2.ensures.crash c.write_at-2.ensures.time c.sync-2.ensures.crash c.sync-2.ensures.time

pub returns-clause-acknowledged : goal.returns-clause-acknowledged
returns-clause-acknowledged g c commits next at_rest added =
    acknowledges g.D.Disk.seen g.D.Disk.images g.D.Disk.moment g.D.Disk.images_since g.met.D.Disk.since_now commit_of commits next c.args.gate c.args.bytes.now added c.args.disk.now
    c.sync-2.new.self (g.D.Disk.seen c.args.disk.now) refl at_rest
    (c.in_ok-sync-2.ensures.same ∙ c.in_ok-write_at-2.ensures.written ∙ ap (option_map (written_at c.args.gate (1 ∷ []))) (c.in_ok-sync.ensures.same ∙ c.in_ok-write_at.ensures.written))
    c.in_ok-sync-2.ensures.synced

pub returns-clause-bytes : goal.returns-clause-bytes
returns-clause-bytes g c commits at_rest =
    c.in_ok-sync-2.ensures.same ∙ c.in_ok-write_at-2.ensures.written ∙ ap (option_map (written_at c.args.gate (1 ∷ []))) (c.in_ok-sync.ensures.same ∙ c.in_ok-write_at.ensures.written)
    ∙ added_from_gate commit_of commits c.args.gate c.args.bytes.now (g.D.Disk.seen c.args.disk.now) (g.D.Disk.images c.args.disk.now) at_rest
