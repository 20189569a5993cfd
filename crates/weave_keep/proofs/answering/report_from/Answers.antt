use Rattle.std.proofs.Common.{◌≡◌, ◌∙◌, ◌++◌, Err, refl, sym, ap, subst, List}
use Rattle.weave_io.specs.Counts.{HasRisen}
use Rattle.store_journal.specs.Disk.{LeavesOnly}
use Rattle.store_journal.specs.declared.kept_commit.Commit.{Commit}
use Rattle.weave_keep.specs.KeepEnds.{IsJournalUpTo, KeepsCommits}
use Rattle.weave_keep.specs.Keepable.{AreKeptRequests}
use Rattle.weave_keep.proofs.Journals.{at_rest_keeps}
use Rattle.weave_keep.proofs.Working.{not_kept, same_commits, same_report}
use Rattle.weave_keep.proofs.answering.report_from.Goals as goal

pub returns-in-Err-clause-any_moment : goal.returns-in-Err-clause-any_moment
returns-in-Err-clause-any_moment g c told =
    subst (λ (l : List Commit). LeavesOnly g.D.Disk.moment g.D.Disk.images_since c.args.disk.now c.keep_requests.new.disk (IsJournalUpTo c.args.store.now.commits l))
    (same_commits c.args.store.now c.args.script.now c.as_slice.result.now c.as_slice.ensures c.requires.fresh) (c.keep_requests.ensures.any_moment told)

pub returns-in-Err-clause-ends : goal.returns-in-Err-clause-ends
returns-in-Err-clause-ends g c =
    not_kept (record {
      seen = g.D.Disk.seen c.args.disk.now;
      now = g.D.Disk.seen c.keep_requests.new.disk;
      images = g.D.Disk.images c.keep_requests.new.disk;
      Failed = HasRisen (g.D.Disk.faults c.args.disk.now) (g.D.Disk.faults c.keep_requests.new.disk);
      Same = c.keep_requests.new.disk ≡ c.args.disk.now;
    }) c.args.script.now c.args.store.now.commits _ _ c.unkept.ensures (λ is. c.keep_requests.ensures.failed (c.in-Err.is ∙ ap Err is))

pub returns-in-Ok-print_report-clause-ends : goal.returns-in-Ok-print_report-clause-ends
returns-in-Ok-print_report-clause-ends g c = (
  refl,
  c.in-Ok-print_report.ensures.text ∙ same_report c.args.store.now c.args.script.now c.as_slice.result.now c.as_slice.ensures c.requires.fresh c.in-Ok.report c.in-Ok.ensures.report,
  subst (λ (l : List Commit). KeepsCommits (g.D.Disk.seen c.keep_requests.new.disk) (g.D.Disk.images c.keep_requests.new.disk) l)
      (c.in-Ok.ensures.commits ∙ ap (λ (l : List Commit). c.args.store.now.commits ++ l) (same_commits c.args.store.now c.args.script.now c.as_slice.result.now c.as_slice.ensures c.requires.fresh))
      (at_rest_keeps c.images_have_the_commits.ensures.commits c.keep_requests.new.store.commits c.keep_requests.new.store.place (g.D.Disk.seen c.keep_requests.new.disk) (g.D.Disk.images c.keep_requests.new.disk) c.in-Ok.ensures.at_rest),
)

pub returns-in-Ok-print_report-clause-any_moment : goal.returns-in-Ok-print_report-clause-any_moment
returns-in-Ok-print_report-clause-any_moment g c told =
    subst (λ (l : List Commit). LeavesOnly g.D.Disk.moment g.D.Disk.images_since c.args.disk.now c.keep_requests.new.disk (IsJournalUpTo c.args.store.now.commits l))
    (same_commits c.args.store.now c.args.script.now c.as_slice.result.now c.as_slice.ensures c.requires.fresh) (c.keep_requests.ensures.any_moment told)

pub returns-clause-any_moment : goal.returns-clause-any_moment
returns-clause-any_moment g c told =
    subst (λ (l : List Commit). LeavesOnly g.D.Disk.moment g.D.Disk.images_since c.args.disk.now c.keep_requests.new.disk (IsJournalUpTo c.args.store.now.commits l))
    (same_commits c.args.store.now c.args.script.now c.as_slice.result.now c.as_slice.ensures c.requires.fresh) (c.keep_requests.ensures.any_moment told)

pub keep_requests-requires-clause-kept : goal.keep_requests-requires-clause-kept
keep_requests-requires-clause-kept g c = subst AreKeptRequests (sym c.as_slice.ensures) c.requires.kept
