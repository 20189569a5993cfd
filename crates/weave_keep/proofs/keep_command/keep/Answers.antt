-- Each clause but one follows from how the call ends.
use Rattle.std.proofs.Common.{⊎_elim}
use Rattle.weave_keep.proofs.Ends as ends
use Rattle.weave_keep.proofs.Journals.{from_one_journal, not_foreign}
use Rattle.weave_keep.proofs.keep_command.keep.Goals as goal

pub returns-clause-any_moment : goal.returns-clause-any_moment
returns-clause-any_moment g c = c.keep_input.ensures.any_moment

pub returns-clause-from_a_journal : goal.returns-clause-from_a_journal
returns-clause-from_a_journal g c commits pending told all =
    from_one_journal g.D.Disk.images g.D.Disk.moment g.D.Disk.images_since (g.S.Source.left c.args.source.now) c.args.disk.now c.keep_input.new.disk commits pending all (c.keep_input.ensures.any_moment told)

pub returns-clause-kept : goal.returns-clause-kept
returns-clause-kept g c = ends.kept c.keep_input.ensures.ends

pub returns-clause-read : goal.returns-clause-read
returns-clause-read g c = ends.read c.keep_input.ensures.ends

pub returns-clause-refused : goal.returns-clause-refused
returns-clause-refused g c = ends.refused c.keep_input.ensures.ends

pub returns-clause-disk : goal.returns-clause-disk
returns-clause-disk g c = ends.failed c.keep_input.ensures.ends

pub returns-clause-foreign : goal.returns-clause-foreign
returns-clause-foreign g c = ends.foreign c.keep_input.ensures.ends

pub returns-clause-can_be_kept : goal.returns-clause-can_be_kept
returns-clause-can_be_kept g c = ends.can_be_kept_first c.keep_input.ensures.ends

pub returns-clause-write : goal.returns-clause-write
returns-clause-write g c = ends.write c.keep_input.ensures.ends

pub returns-clause-no_others : goal.returns-clause-no_others
returns-clause-no_others g c = ends.no_others c.keep_input.ensures.ends

pub returns-clause-cut_short : goal.returns-clause-cut_short
returns-clause-cut_short g c = ends.cut_short c.keep_input.ensures.ends

pub returns-clause-nothing_written : goal.returns-clause-nothing_written
returns-clause-nothing_written g c = ends.nothing_written c.keep_input.ensures.ends

pub returns-clause-untouched : goal.returns-clause-untouched
returns-clause-untouched g c = ends.untouched c.keep_input.ensures.ends

pub returns-clause-only_to_keep : goal.returns-clause-only_to_keep
returns-clause-only_to_keep g c = ends.only_to_keep c.keep_input.ensures.ends

pub returns-clause-unwritten : goal.returns-clause-unwritten
returns-clause-unwritten g c = ends.unwritten c.keep_input.ensures.ends

pub returns-clause-written_stays : goal.returns-clause-written_stays
returns-clause-written_stays g c = ends.written_stays c.keep_input.ensures.ends

pub returns-clause-all_is_read : goal.returns-clause-all_is_read
returns-clause-all_is_read g c = ends.all_is_read c.keep_input.ensures.ends

pub returns-clause-read_first : goal.returns-clause-read_first
returns-clause-read_first g c = ends.read_first c.keep_input.ensures.ends

pub returns-clause-read_in_time : goal.returns-clause-read_in_time
returns-clause-read_in_time g c = ends.read_in_time c.keep_input.ensures.ends

pub returns-clause-without_stall : goal.returns-clause-without_stall
returns-clause-without_stall g c = ends.without_stall c.keep_input.ensures.ends

pub returns-clause-rest : goal.returns-clause-rest
returns-clause-rest g c = c.keep_input.ensures.ends.within

pub returns-clause-never_foreign : goal.returns-clause-never_foreign
returns-clause-never_foreign g c commits pending told all is =
    not_foreign (g.D.Disk.seen c.args.disk.now) (g.D.Disk.images c.args.disk.now) commits pending (c.images_have_the_commits.ensures.never_foreign commits pending) told (g.met.D.Disk.reads_as_image c.args.disk.now) all (ends.foreign c.keep_input.ensures.ends is)

pub returns-clause-all_kept : goal.returns-clause-all_kept
returns-clause-all_kept g c no_read no_fault no_stall no_disk = ends.all_kept c.keep_input.ensures.ends c.texts_are_of_one_script.ensures.one no_read (⊎_elim no_fault no_stall) no_disk
