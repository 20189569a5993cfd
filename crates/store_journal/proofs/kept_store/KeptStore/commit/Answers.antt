use Rattle.store_journal.proofs.Ended.{any_moment, at_rest, bytes, committed, failed, goes_on, halted, halts, law, never_falls, no_call, no_fault, no_memory, passes, refused, stamped, told, unwritten}
use Rattle.store_journal.proofs.kept_store.KeptStore.commit.Goals as goal

pub returns-clause-committed : goal.returns-clause-committed
returns-clause-committed g c =
    committed g.D.Disk.seen g.D.Disk.images g.D.Disk.moment g.D.Disk.images_since g.D.Disk.faults g.met.D.Disk.since_now c.args.disk.now c.attempt.new.disk c.args.self.now c.attempt.new.self c.args.ops.now
    c.attempt.result c.attempt.ensures

pub returns-clause-refused : goal.returns-clause-refused
returns-clause-refused g c =
    refused g.D.Disk.seen g.D.Disk.images g.D.Disk.moment g.D.Disk.images_since g.D.Disk.faults g.met.D.Disk.since_now c.args.disk.now c.attempt.new.disk c.args.self.now c.attempt.new.self c.args.ops.now
    c.attempt.result c.attempt.ensures

pub returns-clause-stamped : goal.returns-clause-stamped
returns-clause-stamped g c =
    stamped g.D.Disk.seen g.D.Disk.images g.D.Disk.moment g.D.Disk.images_since g.D.Disk.faults g.met.D.Disk.since_now c.args.disk.now c.attempt.new.disk c.args.self.now c.attempt.new.self c.args.ops.now
    c.attempt.result c.attempt.ensures

pub returns-clause-at_rest : goal.returns-clause-at_rest
returns-clause-at_rest g c =
    at_rest g.D.Disk.seen g.D.Disk.images g.D.Disk.moment g.D.Disk.images_since g.D.Disk.faults g.met.D.Disk.since_now c.args.disk.now c.attempt.new.disk c.args.self.now c.attempt.new.self c.args.ops.now
    c.attempt.result c.attempt.ensures c.requires.at_rest

pub returns-clause-any_moment : goal.returns-clause-any_moment
returns-clause-any_moment g c on told =
    any_moment g.D.Disk.seen g.D.Disk.images g.D.Disk.moment g.D.Disk.images_since g.D.Disk.faults g.met.D.Disk.since_now c.args.disk.now c.attempt.new.disk c.args.self.now c.attempt.new.self c.args.ops.now
    c.attempt.result c.attempt.ensures c.requires.at_rest on told

pub returns-clause-law : goal.returns-clause-law
returns-clause-law g c start recovered since on told is so_far =
    law g.D.Disk.seen g.D.Disk.images g.D.Disk.moment g.D.Disk.images_since g.D.Disk.faults g.met.D.Disk.since_now c.args.disk.now c.attempt.new.disk c.args.self.now c.attempt.new.self c.args.ops.now
    c.attempt.result c.attempt.ensures c.requires.at_rest start recovered since on told is so_far

pub returns-clause-failed : goal.returns-clause-failed
returns-clause-failed g c is =
    failed g.D.Disk.seen g.D.Disk.images g.D.Disk.moment g.D.Disk.images_since g.D.Disk.faults g.met.D.Disk.since_now c.args.disk.now c.attempt.new.disk c.args.self.now c.attempt.new.self c.args.ops.now
    c.attempt.result c.attempt.ensures is

pub returns-clause-passes : goal.returns-clause-passes
returns-clause-passes g c is =
    passes g.D.Disk.seen g.D.Disk.images g.D.Disk.moment g.D.Disk.images_since g.D.Disk.faults g.met.D.Disk.since_now c.args.disk.now c.attempt.new.disk c.args.self.now c.attempt.new.self c.args.ops.now
    c.attempt.result c.attempt.ensures is

pub returns-clause-halts : goal.returns-clause-halts
returns-clause-halts g c is =
    halts g.D.Disk.seen g.D.Disk.images g.D.Disk.moment g.D.Disk.images_since g.D.Disk.faults g.met.D.Disk.since_now c.args.disk.now c.attempt.new.disk c.args.self.now c.attempt.new.self c.args.ops.now
    c.attempt.result c.attempt.ensures is

pub returns-clause-goes_on : goal.returns-clause-goes_on
returns-clause-goes_on g c =
    goes_on g.D.Disk.seen g.D.Disk.images g.D.Disk.moment g.D.Disk.images_since g.D.Disk.faults g.met.D.Disk.since_now c.args.disk.now c.attempt.new.disk c.args.self.now c.attempt.new.self c.args.ops.now
    c.attempt.result c.attempt.ensures

pub returns-clause-halted : goal.returns-clause-halted
returns-clause-halted g c =
    halted g.D.Disk.seen g.D.Disk.images g.D.Disk.moment g.D.Disk.images_since g.D.Disk.faults g.met.D.Disk.since_now c.args.disk.now c.attempt.new.disk c.args.self.now c.attempt.new.self c.args.ops.now
    c.attempt.result c.attempt.ensures

pub returns-clause-no_memory : goal.returns-clause-no_memory
returns-clause-no_memory g c is =
    no_memory g.D.Disk.seen g.D.Disk.images g.D.Disk.moment g.D.Disk.images_since g.D.Disk.faults g.met.D.Disk.since_now c.args.disk.now c.attempt.new.disk c.args.self.now c.attempt.new.self c.args.ops.now
    c.attempt.result c.attempt.ensures is

pub returns-clause-no_call : goal.returns-clause-no_call
returns-clause-no_call g c is =
    no_call g.D.Disk.seen g.D.Disk.images g.D.Disk.moment g.D.Disk.images_since g.D.Disk.faults g.met.D.Disk.since_now c.args.disk.now c.attempt.new.disk c.args.self.now c.attempt.new.self c.args.ops.now
    c.attempt.result c.attempt.ensures is

pub returns-clause-unwritten : goal.returns-clause-unwritten
returns-clause-unwritten g c =
    unwritten g.D.Disk.seen g.D.Disk.images g.D.Disk.moment g.D.Disk.images_since g.D.Disk.faults g.met.D.Disk.since_now c.args.disk.now c.attempt.new.disk c.args.self.now c.attempt.new.self c.args.ops.now
    c.attempt.result c.attempt.ensures

pub returns-clause-never_falls : goal.returns-clause-never_falls
returns-clause-never_falls g c =
    never_falls g.D.Disk.seen g.D.Disk.images g.D.Disk.moment g.D.Disk.images_since g.D.Disk.faults g.met.D.Disk.since_now c.args.disk.now c.attempt.new.disk c.args.self.now c.attempt.new.self c.args.ops.now
    c.attempt.result c.attempt.ensures

pub returns-clause-told : goal.returns-clause-told
returns-clause-told g c some =
    told g.D.Disk.seen g.D.Disk.images g.D.Disk.moment g.D.Disk.images_since g.D.Disk.faults g.met.D.Disk.since_now c.args.disk.now c.attempt.new.disk c.args.self.now c.attempt.new.self c.args.ops.now
    c.attempt.result c.attempt.ensures some

pub returns-clause-bytes : goal.returns-clause-bytes
returns-clause-bytes g c =
    bytes g.D.Disk.seen g.D.Disk.images g.D.Disk.moment g.D.Disk.images_since g.D.Disk.faults g.met.D.Disk.since_now c.args.disk.now c.attempt.new.disk c.args.self.now c.attempt.new.self c.args.ops.now
    c.attempt.result c.attempt.ensures

pub returns-clause-no_fault : goal.returns-clause-no_fault
returns-clause-no_fault g c =
    no_fault g.D.Disk.seen g.D.Disk.images g.D.Disk.moment g.D.Disk.images_since g.D.Disk.faults g.met.D.Disk.since_now c.args.disk.now c.attempt.new.disk c.args.self.now c.attempt.new.self c.args.ops.now
    c.attempt.result c.attempt.ensures
