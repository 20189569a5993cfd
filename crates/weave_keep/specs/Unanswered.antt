-- Why `keep` has nothing to write, and its status then.
use Rattle.store_journal.specs.declared.faults.KeepFault.{KeepFault}
use Rattle.store_journal.specs.declared.faults.KeepFault.TheVariants as keep
use Rattle.store_journal.specs.declared.faults.RecoverFault.{RecoverFault}
use Rattle.store_journal.specs.declared.faults.RecoverFault.TheVariants as recover
use Rattle.weaver_top.specs.declared.status.Status.{Status}
use Rattle.weaver_top.specs.declared.status.Status.TheVariants as status
use Rattle.weave_keep.specs.declared.answering.Unanswered.{Unanswered}
use Rattle.weave_keep.specs.declared.answering.Unanswered.TheVariants.{Read, Memory, Disk, Foreign}

-- the status without an answer
abbrev pub unanswered_status : Unanswered → Status
unanswered_status Read = status.Read
unanswered_status Memory = status.Memory
unanswered_status Disk = status.Disk
unanswered_status Foreign = status.Foreign

-- why, if the journal was not recovered
abbrev pub unrecovered : RecoverFault → Unanswered
unrecovered recover.Disk = Disk
unrecovered (recover.Foreign at) = Foreign
unrecovered recover.Memory = Memory

-- why, if a transaction was not kept
abbrev pub unkept : KeepFault → Unanswered
unkept keep.Disk = Disk
unkept keep.Halted = Memory
unkept keep.Memory = Memory
