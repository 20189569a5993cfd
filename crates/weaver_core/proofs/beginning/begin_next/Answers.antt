use Rattle.std.proofs.Common.{◌≡◌, ◌<◌, List, length, Result, Option, Err, IsTrue, sym, ap, subst, ◌∙◌}
use Rattle.std.specs.Prelude.{◌&&◌, is_some}
use Rattle.std.specs.Option.{ForSome}
use Rattle.vector_stamp.specs.declared.clock.Stamp.{Stamp}
use Rattle.vector_stamp.specs.Clocks.{counts_no_more}
use Rattle.vector_stamp.specs.Order.{stamp_before}
use Rattle.program_defs.specs.Works.{is_change}
use Rattle.gatekeeper.specs.Answers.{IsRefusedWhere}
use Rattle.gatekeeper.specs.declared.fault.GateFault.{GateFault}
use Rattle.gatekeeper.specs.declared.fault.GateFault.TheVariants.{Busy}
use Rattle.weave_entries.specs.declared.session_log.SessionEntry.{SessionEntry}
use Rattle.weave_entries.specs.declared.session_log.SessionDeed.TheVariants.{Begun}
use Rattle.weave_entries.specs.GateReplay.{begun_stamp, clock_of, flight_of}
use Rattle.weave_entries.specs.SessionReplay.{FitsSession, SessionState}
use Rattle.weaver_core.specs.Sessions.{session_at}
use Rattle.weaver_core.specs.GateTable.{gate_log_at}
use Rattle.weaver_core.proofs.AtClients.{after-room, same-session}
use Rattle.weaver_core.proofs.beginning.begin_next.Goals as goal

-- each of two facts on the last stamp gives a third
for-both : (last : Option Stamp) (P Q R : Stamp → Type 0) → ((s : Stamp) → P s → Q s → R s) → ForSome last P → ForSome last Q → ForSome last R
for-both last P Q R go p q s is = go s (p s is) (q s is)

-- the room taken first changes no log
pub begun-requires-clause-turn : goal.begun-requires-clause-turn
begun-requires-clause-turn c =
    let was = c.args.clients.now in
    let s = c.args.asked.now.session in
    let g = c.args.asked.now.gate in
    let clock = clock_of g (gate_log_at c.args.gates.now g) in
    let session = same-session was c.reserve.new.self s c.reserve.ensures.same in
    let stamp = c.in-Ok.stamp in
    let last : c.last-last.result ≡ (session_at was s).last = c.last-last.ensures ∙ ap (λ (state : SessionState). state.last) session in
    subst (λ (state : SessionState). FitsSession state (Begun c.args.request stamp)) (sym session) (record {
      replied = c.requires.turn.replied;
      next = c.requires.turn.next;
      rises = for-both (session_at was s).last (λ heard. IsTrue (counts_no_more g clock heard.clock)) (λ heard. IsTrue (counts_no_more g clock heard.clock) → IsTrue (stamp_before heard stamp)) (λ heard. IsTrue (stamp_before heard stamp))
          (λ heard known rise. rise known) c.requires.known
          (subst (λ (o : Option Stamp). ForSome o (λ heard. IsTrue (counts_no_more g clock heard.clock) → IsTrue (stamp_before heard stamp))) last c.in-Ok.ensures.after);
    })

pub returns-in-Ok-clause-begins : goal.returns-in-Ok-clause-begins
returns-in-Ok-clause-begins c =
    let was = c.args.clients.now in
    let s = c.args.asked.now.session in
    let g = c.args.asked.now.gate in
    let clock = clock_of g (gate_log_at c.args.gates.now g) in
    let session = same-session was c.reserve.new.self s c.reserve.ensures.same in
    let last : c.last-last.result ≡ (session_at was s).last = c.last-last.ensures ∙ ap (λ (state : SessionState). state.last) session in
    record {
      next = c.requires.next;
      stamp = c.in-Ok.stamp;
      stamp_is = c.in-Ok.ensures.stamp ∙ ap (begun_stamp g clock) last;
      small = c.in-Ok.ensures.bits;
      gate = c.in-Ok.ensures.entry;
      session = after-room was c.reserve.new.self c.begun.new.self s (Begun c.args.request c.in-Ok.stamp) c.reserve.ensures.same c.begun.ensures.begun;
      values = c.begun.ensures.values ∙ c.reserve.ensures.same.values;
      free = c.in-Ok.ensures.busy;
    }

abbrev refused-with : GateFault → Result Stamp GateFault
refused-with fault = Err fault

pub returns-in-Err-Busy-clause-begins : goal.returns-in-Err-Busy-clause-begins
returns-in-Err-Busy-clause-begins c =
    let g = c.args.asked.now.gate in
    let busy = subst (λ (fault : GateFault). IsRefusedWhere Busy (is_change c.args.asked.now.work && is_some (flight_of (gate_log_at c.args.gates.now g))) (refused-with fault)) c.in-Err-Busy.field-0-is c.in-Err-Busy.ensures.busy in
    record { next = c.requires.next; flies = busy.1; gates_are = c.in-Err-Busy.ensures.refused; clients_are = c.reserve.ensures.same }

pub last-last-requires : goal.last-last-requires
last-last-requires c = subst (λ (logs : List (List SessionEntry)). c.args.asked.now.session < length logs) (sym c.reserve.ensures.same.logs) c.requires.session

pub begun-requires-clause-there : goal.begun-requires-clause-there
begun-requires-clause-there c = subst (λ (logs : List (List SessionEntry)). c.args.asked.now.session < length logs) (sym c.reserve.ensures.same.logs) c.requires.session
