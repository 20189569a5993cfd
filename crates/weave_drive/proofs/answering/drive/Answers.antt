use Rattle.weave_drive.proofs.Deeds.{driven-gates}
use Rattle.weave_drive.proofs.Stays.{report-stays}
use Rattle.weave_drive.proofs.answering.drive.Goals as goal

pub returns-clause-gates : goal.returns-clause-gates
returns-clause-gates c = driven-gates c.args.upto c.args.core.now.script c.args.core.now.state c.drive_all.new.core.state c.drive_all.ensures.drives.driven

pub returns-clause-stays : goal.returns-clause-stays
returns-clause-stays c = report-stays c.the_crates_below_keep_their_laws.ensures c.args.upto c.args.core.now c.drive_all.new.core c.script.ensures.limits c.script.ensures.core c.drive_all.ensures.drives
