use Rattle.std.proofs.Common.{◌≡◌, length, sym, subst, IfSome, rules}
use Rattle.store_journal.specs.declared.reading.TheConstants.{PIECE}
use Rattle.store_journal.proofs.Quiet.{IsFront, front_none, quiet_call}
use Rattle.store_journal.proofs.reading.read_synced.Goals as goal

pub loop-bytes-init : goal.loop-bytes-init
loop-bytes-init g c =
    let room : length c.as_mut_slice-buffer.result.now ≡ PIECE = search rules in
    record {
      quiet = quiet_call g.D.Disk.images g.D.Disk.moment g.D.Disk.images_since g.met.D.Disk.since_now c.args.disk.now c.sync.new.self c.sync.ensures.crash c.sync.ensures.time;
      same = c.in_ok-sync.ensures.same;
      none = c.sync.ensures.crash;
      synced = c.in_ok-sync.ensures.synced;
      front = subst (λ l. IfSome (g.D.Disk.seen c.sync.new.self) (IsFront l)) (sym c.new-bytes.ensures.items) (front_none (g.D.Disk.seen c.sync.new.self));
      told = c.sync.ensures.told;
      faults = c.in_ok-sync.ensures.no_fault;
      room = room;
    }

pub returns-in_err-sync-clause-any_moment : goal.returns-in_err-sync-clause-any_moment
returns-in_err-sync-clause-any_moment g c =
    quiet_call g.D.Disk.images g.D.Disk.moment g.D.Disk.images_since g.met.D.Disk.since_now c.args.disk.now c.sync.new.self c.sync.ensures.crash c.sync.ensures.time

pub returns-in_err-storage-clause-any_moment : goal.returns-in_err-storage-clause-any_moment
returns-in_err-storage-clause-any_moment g c =
    quiet_call g.D.Disk.images g.D.Disk.moment g.D.Disk.images_since g.met.D.Disk.since_now c.args.disk.now c.sync.new.self c.sync.ensures.crash c.sync.ensures.time
