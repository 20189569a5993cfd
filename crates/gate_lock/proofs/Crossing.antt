-- A gatekeeper with notes may be sent to another thread, so its lock may be shared.
-- Used by crate weaver_locks.
use denote.Param.Send.{IsSync}
use Rattle.chronicle.proofs.Shares.{chronicle_sync}
use Rattle.chronicle.specs.contracts.chronicle.Chronicle as chronicle
use Rattle.weave_entries.specs.contracts.gate_log.GateDeed as gate_deed
use Rattle.gate_lock.specs.contracts.noted_gate.NotedGate as noted
use Rattle.gate_lock.specs.contracts.noted_gate.NotedGateMachine.TheImpl as machine
use Rattle.gate_lock.proofs.noted_gate.NotedGate.TheSendSync as noted_sends

-- threads may share its lock
pub lock_sync : IsSync (chronicle.the_row noted.the_row gate_deed.the_row machine.ghosts)
lock_sync = chronicle_sync noted.the_row gate_deed.the_row machine.ghosts noted_sends.the_send
