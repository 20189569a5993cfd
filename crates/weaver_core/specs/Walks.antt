-- The programs that are running, and what the logs say of them.
use Rattle.std.specs.Prelude.{◌≡◌, ℕ, false, List, Option, Some, ⊤}
use Rattle.std.specs.Option.{option_map}
use Rattle.weave_data.specs.declared.name.Name.{Name}
use Rattle.vector_stamp.specs.declared.clock.Stamp.{Stamp}
use Rattle.graph_ops.specs.Operations.{State}
use Rattle.graph_ops.specs.declared.op.Op.{Op}
use Rattle.program_defs.specs.Agreement.{AreSameReads}
use Rattle.program_defs.specs.declared.program.Program.{Program}
use Rattle.program_defs.specs.declared.script.Request.{Request}
use Rattle.program_defs.specs.declared.script.Script.{Script}
use Rattle.program_defs.specs.declared.script.Step.{Step}
use Rattle.program_defs.specs.declared.script.Step.TheVariants.{Begin, Visit, Reply}
use Rattle.program_defs.specs.declared.script.Work.TheVariants.{Change, Look}
use Rattle.report_rules.specs.Lookups.{request_at}
use Rattle.weave_entries.specs.GateReplay.{program_begun}
use Rattle.weave_account.specs.declared.account.Account.{Account}
use Rattle.weave_account.specs.Account.{gate_log, is_ended, reads_of, stamp_of}
use Rattle.path_program.specs.AnyPrograms.{HasRead, any_of}
use Rattle.path_program.specs.declared.any.AnyProgram.{AnyProgram}
use Rattle.weaver_core.specs.declared.walks.Running.{Running}

-- One program. Public contracts cite `HasReadAll` and `IsLookAt` alone.

-- a walk is of the program, and has read these states and no others, in whatever order
pub record HasReadAll (walk : AnyProgram) (program : Program) (all : List (Name × State)) : Type 0 where
  pub program_is : any_of walk ≡ program
  pub reads : List (Name × State)
  pub has_read : HasRead walk reads
  pub same : AreSameReads reads all

-- the program was begun, is not finished, and has read what the shards' logs say
pub record IsRunningAs (account : Account) (r : ℕ) (request : Request) (program : Program)
    (running : Running) : Type 0 where
  pub request_is : running.request ≡ r
  pub author : ℕ
  pub begun : program_begun r (gate_log account request.gate)
      ≡ Some (record { author = author; request = r; stamp = running.stamp })
  pub stamped : stamp_of account r ≡ Some running.stamp
  pub runs : is_ended account r ≡ false
  pub walk : HasReadAll running.walk program (reads_of account r)

-- the request of this number is a transaction
pub record IsChangeAt (script : Script) (r : ℕ) : Type 0 where
  pub request : Request
  pub request_is : request_at script r ≡ Some request
  pub ops : List Op
  pub work_is : request.work ≡ Change ops

-- the request of this number is this program
pub record IsLookAt (script : Script) (r : ℕ) (program : Program) : Type 0 where
  pub request : Request
  pub request_is : request_at script r ≡ Some request
  pub work_is : request.work ≡ Look program

-- it is a program
pub record IsLook (script : Script) (r : ℕ) : Type 0 where
  pub program : Program
  pub look : IsLookAt script r program

-- it is a program, which is running so
pub record IsRunningIn (script : Script) (account : Account) (r : ℕ) (running : Running) : Type 0 where
  pub program : Program
  pub look : IsLookAt script r program
  pub runs : IsRunningAs account r look.request program running

-- the program that the core itself began with this stamp
abbrev pub begun_with : ℕ → Option Stamp → AnyProgram → Option Running
begun_with r stamp walk = option_map (λ (one : Stamp). record { request = r; stamp = one; walk = walk }) stamp

-- the step is of no request
abbrev pub IsOtherStep : Step → Type 0
IsOtherStep (Begin r) = ⊥
IsOtherStep (Visit r) = ⊥
IsOtherStep (Reply r) = ⊥
IsOtherStep _ = ⊤
