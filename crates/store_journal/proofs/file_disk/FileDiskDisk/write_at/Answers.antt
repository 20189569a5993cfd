use Rattle.std.proofs.Common.{length}
use Rattle.store_journal.proofs.Recorded.{torn_none}
use Rattle.store_journal.proofs.file_disk.FileDiskDisk.write_at.Goals as goal

pub returns-clause-crash : goal.returns-clause-crash
returns-clause-crash c image any = (image, tt, torn_none c.args.at (length c.args.bytes.now) image)
