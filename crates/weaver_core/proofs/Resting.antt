-- When machines did a step: by its answer, and by what it left.
-- Used by `apply`, `begin`, `begin_in`, `collect`, `deliver`, `finish`, `hear`, `is_open`, `judge`, `next_message`,
-- `nop`, `ops_of`, `raise`, `reply`, `reply_in`, `restart`, `say`, `send`, `visit_taken`, `visit_with`, BeginDone,
-- ClockDone, FinishDone, Idle, JudgeDone, MessagesDone, ReplyDone, SendDone, Unordered and VisitDone.
use Rattle.std.proofs.Common.{◌≡◌, ℕ, ◌<◌, true, false, cond, List, [], ◌∷◌, length, Option, None, Some, refl, sym, ap, ◌∙◌, arith}
use Rattle.std.specs.Prelude.{get_or, slice_get, IsSome, if◌then◌else◌}
use Rattle.std.proofs.lemmas.Bool.{both_ways}
use Rattle.std.proofs.lemmas.List.{length-set}
use Rattle.std.proofs.lemmas.Option.{get_or_from_slice_get, none-some, slice_get-get_or}
use Rattle.vector_stamp.specs.declared.clock.Clock.{Clock}
use Rattle.program_defs.specs.declared.script.Request.{Request}
use Rattle.program_defs.specs.declared.script.Script.{Script}
use Rattle.program_defs.specs.declared.script.Step.{Step}
use Rattle.report_rules.specs.Lookups.{request_at}
use Rattle.report_rules.specs.declared.report.StepAnswer.{StepAnswer}
use Rattle.report_rules.specs.declared.report.StepAnswer.TheVariants.{Ok}
use Rattle.weave_entries.specs.declared.gate_log.GateEntry.{GateEntry}
use Rattle.weave_entries.specs.declared.gate_log.GateDeed.{GateDeed}
use Rattle.weave_entries.specs.declared.oracle_log.OracleEntry.{OracleEntry}
use Rattle.weave_entries.specs.declared.session_log.SessionEntry.{SessionEntry}
use Rattle.weave_entries.specs.declared.session_log.SessionDeed.{SessionDeed}
use Rattle.weave_entries.specs.declared.shard_log.ShardEntry.{ShardEntry}
use Rattle.weave_entries.specs.declared.shard_log.ShardDeed.{ShardDeed}
use Rattle.weave_entries.specs.declared.store_log.StoreEntry.{StoreEntry}
use Rattle.step_rules.specs.Answers.{answer_of}
use Rattle.step_rules.specs.CoreState.{with_gate_deed, with_session_deed, with_shard_deed}
use Rattle.step_rules.specs.Entries.{state_with}
use Rattle.step_rules.specs.IsCore.{IsSmall}
use Rattle.step_rules.specs.Trace.{is_ok}
use Rattle.weaver_core.specs.Sessions as clients
use Rattle.weaver_core.specs.Cores.{MachinesFrame, IsFrameOf, MachinesDo, MachinesView, machines_of}
use Rattle.weaver_core.specs.GateTable as gates
use Rattle.weaver_core.specs.ShardTable as tables

-- a step that is done leaves the state of the definition
pub done : (script : Script) (step : Step) (old new : MachinesView) → answer_of script old.state step ≡ Ok → new.state ≡ state_with script old.state step → new.frame ≡ old.frame → IsSmall script old.state step → MachinesDo script step old new Ok
done script step old new ok is frame small = record {
  answer_is = sym ok;
  state_is = is ∙ sym (ap (λ (a : StepAnswer). if is_ok a then state_with script old.state step else old.state) ok);
  frame_is = frame;
  small = λ _. small;
}

-- machines that stay as they were did each step whose answer is not `ok`
pub rests : (script : Script) (step : Step) (old new : MachinesView) (answer : StepAnswer) → answer_of script old.state step ≡ answer → is_ok answer ≡ false → new ≡ old → MachinesDo script step old new answer
rests script step old new answer is not-ok same = record {
  answer_is = sym is;
  state_is = ap (λ (m : MachinesView). m.state) same ∙ sym (ap (λ (a : StepAnswer). if is_ok a then state_with script old.state step else old.state) is ∙ ap (λ b. cond b (state_with script old.state step) old.state) not-ok);
  frame_is = ap (λ (m : MachinesView). m.frame) same;
  small = λ ok. absurd (both_ways (is_ok answer) not-ok (ap is_ok (sym is ∙ ok)));
}

-- a gatekeeper of the script is there
pub gate-there : (script : Script) (frame : MachinesFrame) (g : ℕ) → IsFrameOf script frame → g < script.gates → g < frame.gates
gate-there script frame g of below = let many = of.gates in omega (arith, many, below)

-- a gatekeeper of the script is among those from which the shards have channels
pub sender-there : (script : Script) (frame : MachinesFrame) (g : ℕ) → IsFrameOf script frame → g < script.gates → g < frame.senders
sender-there script frame g of below = let many = of.senders in omega (arith, many, below)

-- and it has channels to the shards of the script
pub receiver-there : (script : Script) (frame : MachinesFrame) (s : ℕ) → IsFrameOf script frame → s < script.shards → s < frame.shards
receiver-there script frame s of below = let many = of.shards in omega (arith, many, below)

-- Machines of parts

module _ (old : gates.GateTable) (store : List StoreEntry) (oracle : List OracleEntry) (shards : tables.ShardTable) (was : clients.ClientTable) (notices : List Clock) where
  abbrev before : MachinesView
  before = machines_of old store oracle shards was notices

  -- if the table of gatekeepers gets one more entry, the account gets it
  pub gate-gains : (new : gates.GateTable) (g author : ℕ) (deed : GateDeed) → gates.AddsToGate old new g author deed → (machines_of new store oracle shards was notices).state.account ≡ with_gate_deed before.state.account g author deed
  gate-gains new g author deed adds = ap (λ (logs : List (List GateEntry)). record before.state.account { gates = logs }) adds.logs

  -- if the table of sessions gets one more entry, the account gets it
  pub session-gains : (is : clients.ClientTable) (s : ℕ) (deed : SessionDeed) → clients.AddsToSession was is s deed → (machines_of old store oracle shards is notices).state.account ≡ with_session_deed before.state.account s deed
  session-gains is s deed adds = ap (λ (logs : List (List SessionEntry)). record before.state.account { sessions = logs }) adds.logs

  -- if the table of shards gets one more entry, the account gets it
  pub shard-gains : (new : tables.ShardTable) (s : ℕ) (deed : ShardDeed) → tables.AddsToShard shards new s deed → (machines_of old store oracle new was notices).state.account ≡ with_shard_deed before.state.account s deed
  shard-gains new s deed adds = ap (λ (logs : List (List ShardEntry)). record before.state.account { shards = logs }) adds.logs

  -- what the machines are made for stays when a shard gets one more entry
  pub shard-frame : (new : tables.ShardTable) (s : ℕ) (deed : ShardDeed) → tables.AddsToShard shards new s deed → (machines_of old store oracle new was notices).frame ≡ before.frame
  shard-frame new s deed adds = λ i. record { gates = length old.logs; shards = old.shards; senders = adds.gates i; requests = was.requests }

  -- with the same table of shards the machines are the same
  pub same-shards : (new : tables.ShardTable) → new ≡ shards → machines_of old store oracle new was notices ≡ before
  same-shards new same = ap (λ (t : tables.ShardTable). machines_of old store oracle t was notices) same

  -- what the machines are made for stays
  pub gate-frame : (new : gates.GateTable) (g author : ℕ) (deed : GateDeed) → gates.AddsToGate old new g author deed → (machines_of new store oracle shards was notices).frame ≡ before.frame
  gate-frame new g author deed adds =
      let many : length new.logs ≡ length old.logs = ap length adds.logs ∙ length-set old.logs g _ in
      λ i. record { gates = many i; shards = adds.shards i; senders = shards.gates; requests = was.requests }

  -- sessions of which only the room differs are the same machines
  pub same-sessions : (is : clients.ClientTable) → clients.AreSameClients was is → machines_of old store oracle shards is notices ≡ before
  same-sessions is same = λ i. machines_of old store oracle shards (record { requests = same.requests i; logs = same.logs i; spares = is.spares; values = same.values i }) notices

  -- and with the same gatekeepers they are the same machines, too
  pub same-gates : (new : gates.GateTable) → new ≡ old → machines_of new store oracle shards was notices ≡ before
  same-gates new same = ap (λ (g : gates.GateTable). machines_of g store oracle shards was notices) same

-- The request of a step

-- a number below that of the requests is a request's
pub some-request : (script : Script) (r : ℕ) → r < length script.requests → IsSome (request_at script r)
some-request script r below = by (request_at script r) refl
  where
    by : (o : Option Request) → request_at script r ≡ o → IsSome o
    by (Some request) is = refl
    by None is = absurd (past script.requests r below is)
      where
        past : (requests : List Request) (n : ℕ) → n < length requests → slice_get requests n ≡ None → ⊥
        past [] n less none = omega (arith, less)
        past (request ∷ requests) n less none = none-some _ (sym none ∙ slice_get-get_or (request ∷ requests) n request less)

-- the request that was read is the script's
pub found : (script : Script) (r : ℕ) (asked : Request) → IsSome (request_at script r) → asked ≡ get_or script.requests r asked → request_at script r ≡ Some asked
found script r asked there is = by (request_at script r) refl there
  where
    by : (o : Option Request) → request_at script r ≡ o → IsSome o → request_at script r ≡ Some asked
    by None at none = let e : false ≡ true = none in absurd (cc)
    by (Some request) at some = at ∙ ap Some (sym (is ∙ get_or_from_slice_get script.requests r request asked at))

-- a number below the count of requests has a request in the script
pub some-one : (script : Script) (r : ℕ) → r < length script.requests → (request : Request) × (request_at script r ≡ Some request)
some-one script r below = by (request_at script r) refl (some-request script r below)
  where
    by : (o : Option Request) → request_at script r ≡ o → IsSome o → (request : Request) × (request_at script r ≡ Some request)
    by (Some request) at some = (request, at)
    by None at none = let e : false ≡ true = none in absurd (cc)
