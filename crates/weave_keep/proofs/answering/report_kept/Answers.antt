use Rattle.std.proofs.Common.{◌≡◌, Err, refl, sym, subst}
use Rattle.weave_io.specs.Counts.{HasRisen}
use Rattle.weave_keep.specs.declared.answering.Unanswered.{Unanswered}
use Rattle.weave_keep.specs.KeptReports.{commits_of_script}
use Rattle.weave_keep.specs.Prepared.{DiskFacts, EndsWork}
use Rattle.weave_keep.proofs.Journals.{adding, reads, recovering}
use Rattle.weave_keep.proofs.Working.{risen_later, unworked, worked}
use Rattle.weave_keep.proofs.answering.report_kept.Goals as goal

pub returns-in-Ok-clause-ends : goal.returns-in-Ok-clause-ends
returns-in-Ok-clause-ends g c =
    worked (record {
      seen = g.D.Disk.seen c.args.disk.now;
      now = g.D.Disk.seen c.report_from.new.disk;
      images = g.D.Disk.images c.report_from.new.disk;
      Failed = HasRisen (g.D.Disk.faults c.args.disk.now) (g.D.Disk.faults c.report_from.new.disk);
      Same = c.report_from.new.disk ≡ c.args.disk.now;
    }) (record {
      seen = g.D.Disk.seen c.recover.new.disk;
      now = g.D.Disk.seen c.report_from.new.disk;
      images = g.D.Disk.images c.report_from.new.disk;
      Failed = HasRisen (g.D.Disk.faults c.recover.new.disk) (g.D.Disk.faults c.report_from.new.disk);
      Same = c.report_from.new.disk ≡ c.recover.new.disk;
    }) c.args.script.now c.in-Ok.store.commits c.report_from.result (reads (g.D.Disk.seen c.args.disk.now) c.in-Ok.store.commits c.in-Ok.ensures.not_foreign c.in-Ok.ensures.recovered) refl refl
    (risen_later (g.D.Disk.faults c.args.disk.now) (g.D.Disk.faults c.recover.new.disk) (g.D.Disk.faults c.report_from.new.disk) c.recover.ensures.never_falls) c.report_from.ensures.ends

pub returns-in-Ok-clause-any_moment : goal.returns-in-Ok-clause-any_moment
returns-in-Ok-clause-any_moment g c told =
    adding c.images_have_the_commits.ensures.commits g.D.Disk.images g.D.Disk.moment g.D.Disk.images_since (λ recovered. commits_of_script recovered c.args.script.now) c.args.disk.now c.recover.new.disk c.report_from.new.disk
    (g.D.Disk.seen c.args.disk.now) c.in-Ok.store.commits told (g.met.D.Disk.reads_as_image c.args.disk.now) c.in-Ok.ensures.not_foreign c.in-Ok.ensures.recovered
    (c.recover.ensures.from_an_image told) (c.report_from.ensures.any_moment (c.recover.ensures.told told))

pub returns-in-Err-clause-ends : goal.returns-in-Err-clause-ends
returns-in-Err-clause-ends g c =
    let facts : DiskFacts = record {
      seen = g.D.Disk.seen c.args.disk.now;
      now = g.D.Disk.seen c.recover.new.disk;
      images = g.D.Disk.images c.recover.new.disk;
      Failed = HasRisen (g.D.Disk.faults c.args.disk.now) (g.D.Disk.faults c.recover.new.disk);
      Same = c.recover.new.disk ≡ c.args.disk.now;
    } in
    subst (λ (reason : Unanswered). EndsWork facts c.args.script.now (Err reason)) (sym c.unrecovered.ensures)
    (unworked facts c.args.script.now c.recover.result c.in-Err.fault c.in-Err.is c.recover.ensures.failed c.recover.ensures.foreign c.recover.ensures.unwritten)

pub returns-in-Err-clause-any_moment : goal.returns-in-Err-clause-any_moment
returns-in-Err-clause-any_moment g c told =
    recovering c.images_have_the_commits.ensures.commits g.D.Disk.images g.D.Disk.moment g.D.Disk.images_since (λ recovered. commits_of_script recovered c.args.script.now) c.args.disk.now c.recover.new.disk (c.recover.ensures.from_an_image told)

pub report_from-requires-clause-fresh : goal.report_from-requires-clause-fresh
report_from-requires-clause-fresh g c = record { on = c.in-Ok.ensures.fresh.1; epoch = c.in-Ok.ensures.epoch; count = c.in-Ok.ensures.fresh.0 }

pub report_from-requires-clause-at_rest : goal.report_from-requires-clause-at_rest
report_from-requires-clause-at_rest g c = c.in-Ok.ensures.at_rest

pub report_from-requires-clause-kept : goal.report_from-requires-clause-kept
report_from-requires-clause-kept g c = c.requires
