-- When a call of a gatekeeper is refused.
use Rattle.std.specs.Prelude.{◌≡◌, Bool, true, false, Result, Ok, Err}
use Rattle.gatekeeper.specs.declared.fault.GateFault.{GateFault}
use Rattle.gatekeeper.specs.declared.fault.GateFault.TheVariants.{Busy, Idle, Old, Memory}

-- `Ok` if the test is false, refused with this fault if it is true, or out of memory in either case
abbrev pub IsRefusedWhere : {A : Type 0} → GateFault → Bool → Result A GateFault → Type 0
IsRefusedWhere fault test (Ok answer) = test ≡ false
IsRefusedWhere fault test (Err Memory) = Unit {0}
IsRefusedWhere fault test (Err Busy) = (fault ≡ Busy) × (test ≡ true)
IsRefusedWhere fault test (Err Idle) = (fault ≡ Idle) × (test ≡ true)
IsRefusedWhere fault test (Err Old) = (fault ≡ Old) × (test ≡ true)
