-- If one gatekeeper of a core gets one more entry, the table of their logs has it, and the gatekeepers stay in order.
-- Used by `begin`, `finish`, `first_gates`, `hear`, `hear_at`, `new`, `nop`, `raise`, `raise_at`, `restart` and
-- `send`.
use Rattle.std.proofs.Common.{◌≡◌, ℕ, ◌+◌, ◌<◌, List, [], ◌∷◌, ◌++◌, length, map, Some, refl, sym, ap, ◌∙◌, subst, arith}
use Rattle.std.specs.Prelude.{slice_get, slice_set}
use Rattle.std.proofs.lemmas.List.{length-replicate, length-map, length-set}
use Rattle.graph_ops.specs.declared.op.Op.{Op}
use Rattle.gatekeeper.specs.Gates.{Adds, GateView, MakesRoom, IsNew, SendsFlight}
use Rattle.weave_entries.specs.declared.gate_log.GateEntry.{GateEntry}
use Rattle.weave_entries.specs.declared.gate_log.GateDeed.{GateDeed}
use Rattle.weave_entries.specs.declared.gate_log.GateDeed.TheVariants.{Sent}
use Rattle.weave_entries.specs.declared.verdict.Verdict.{Verdict}
use Rattle.weave_entries.specs.GateReplay.{BegunRequest, flight_of}
use Rattle.weave_entries.specs.Sending.{messages_of}
use Rattle.weaver_core.specs.GateTable.{AddsToGate, AreFirstGates, AreGatesInOrder, GateTable, IsSameGate, gate_log_at, log_of_gate}
use Rattle.weaver_core.proofs.Tables.{each-push, each-set, image-at, image-changes, image-push, image-rests}

-- the table of these gatekeepers
abbrev pub table_of : ℕ → List GateView → GateTable
table_of shards gates = record { shards = shards; logs = map log_of_gate gates }

-- room first, then an entry
pub room-then-adds : (before more after : GateView) (entries author : ℕ) (deed : GateDeed) → MakesRoom before more entries → Adds more after author deed → Adds before after author deed
room-then-adds before more after entries author deed room adds =
    let kept = room.kept in
    let less = adds.spare in
    record {
      log = adds.log ∙ ap (λ (log : List GateEntry). log ++ record { author = author; deed = deed } ∷ []) room.log;
      home = adds.home ∙ room.home;
      gates = adds.gates ∙ room.gates;
      shards = adds.shards ∙ room.shards;
      spare = omega (arith, kept, less);
    }

-- nothing differs in what was not changed
pub unchanged : (before after : GateView) → after ≡ before → IsSameGate before after
unchanged before after is = record { log = ap (λ (x : GateView). x.log) is; home = ap (λ (x : GateView). x.home) is; gates = ap (λ (x : GateView). x.gates) is; shards = ap (λ (x : GateView). x.shards) is }

-- what a gatekeeper is made for stays
pub record IsSameFrame (before after : GateView) : Type 0 where
  pub home : after.home ≡ before.home
  pub gates : after.gates ≡ before.gates
  pub shards : after.shards ≡ before.shards

module _ (shards : ℕ) (gates : List GateView) (g : ℕ) (before after : GateView) (within : g < length gates) (at : slice_get gates g ≡ Some before) where
  -- the table has one more entry
  pub adds-at : (author : ℕ) (deed : GateDeed) → Adds before after author deed → AddsToGate (table_of shards gates) (table_of shards (slice_set gates g after)) g author deed
  adds-at author deed adds = record { logs = image-changes log_of_gate gates g before at (λ (log : List GateEntry). log ++ record { author = author; deed = deed } ∷ []) [] after adds.log; shards = refl }

  -- the table of gatekeepers stays the same if the log of the one that is set does
  pub table-rests : after.log ≡ before.log → table_of shards (slice_set gates g after) ≡ table_of shards gates
  table-rests same = ap (λ (logs : List (List GateEntry)). record { shards = shards; logs = logs }) (image-rests log_of_gate gates g before at after same)

  -- the gatekeepers are still in order
  pub still-in-order : AreGatesInOrder (length gates) shards gates → IsSameFrame before after → AreGatesInOrder (length (slice_set gates g after)) shards (slice_set gates g after)
  still-in-order are same = subst (λ n. AreGatesInOrder n shards (slice_set gates g after)) (sym (length-set gates g after)) (record {
    each_gates = each-set (λ n (gate : GateView). gate.gates ≡ length gates) gates g after within are.each_gates (same.gates ∙ are.each_gates g before at);
    homes = each-set (λ n (gate : GateView). gate.home ≡ n) gates g after within are.homes (same.home ∙ are.homes g before at);
    each_shards = each-set (λ n (gate : GateView). gate.shards ≡ shards) gates g after within are.each_shards (same.shards ∙ are.each_shards g before at);
  })

  -- gatekeepers stay in order if one of them gets one more entry
  pub in-order-after : (author : ℕ) (deed : GateDeed) → AreGatesInOrder (length gates) shards gates → Adds before after author deed → AreGatesInOrder (length (slice_set gates g after)) shards (slice_set gates g after)
  in-order-after author deed are adds = still-in-order are (record { home = adds.home; gates = adds.gates; shards = adds.shards })

  -- gatekeepers stay in order if nothing but the room of one of them changes
  pub in-order-still : AreGatesInOrder (length gates) shards gates → IsSameGate before after → AreGatesInOrder (length (slice_set gates g after)) shards (slice_set gates g after)
  in-order-still are same = still-in-order are (record { home = same.home; gates = same.gates; shards = same.shards })

-- one gatekeeper more, before its first event
pub first-more : (first count shards : ℕ) (made then_made : List GateView) (gate : GateView) → AreFirstGates first count shards made → length made ≡ first → IsNew first count shards gate → then_made ≡ made ++ gate ∷ [] → AreFirstGates (first + 1) count shards then_made
first-more first count shards made then_made gate are many new is =
    subst (AreFirstGates (first + 1) count shards) (sym is) (record {
      in_order = record {
        each_gates = each-push (λ n (one : GateView). one.gates ≡ count) made gate are.in_order.each_gates new.gates_are;
        homes = each-push (λ n (one : GateView). one.home ≡ n) made gate are.in_order.homes (new.home_is ∙ sym many);
        each_shards = each-push (λ n (one : GateView). one.shards ≡ shards) made gate are.in_order.each_shards new.shards_are;
      };
      logs = image-push log_of_gate made gate [] first are.logs new.log_is;
    })

-- if these are the first gatekeepers up to a number, there are exactly that many
pub first-count : (first count shards : ℕ) (made : List GateView) → AreFirstGates first count shards made → length made ≡ first
first-count first count shards made are = sym (length-map made log_of_gate) ∙ ap length are.logs ∙ length-replicate first []

-- what was sent, in terms of the table
module _ (shards : ℕ) (gates : List GateView) (g : ℕ) (before after : GateView) (within : g < length gates) (at : slice_get gates g ≡ Some before) (are : AreGatesInOrder (length gates) shards gates)
    (author : ℕ) (ops : List Op) (verdict : Verdict) (sends : SendsFlight before after author ops verdict) where
  -- after a flight is sent, the gatekeeper's log has one more entry in the table: it was sent, with its messages
  pub sends-at : (flight : BegunRequest) → flight_of (gate_log_at (table_of shards gates) g) ≡ Some flight
      → AddsToGate (table_of shards gates) (table_of shards (slice_set gates g after)) g author (Sent flight.request (messages_of shards (gate_log_at (table_of shards gates) g) flight ops verdict))
  sends-at flight flies =
      let log : before.log ≡ gate_log_at (table_of shards gates) g = sym (image-at log_of_gate gates g before at []) in
      let e : Some sends.flight ≡ Some flight = sym sends.flies ∙ ap flight_of log ∙ flies in
      let is : sends.flight ≡ flight = cc in
      let many = are.each_shards g before at in
      let deed : Sent sends.flight.request (messages_of before.shards before.log sends.flight ops verdict) ≡ Sent flight.request (messages_of shards (gate_log_at (table_of shards gates) g) flight ops verdict) =
      λ i. Sent (is i).request (messages_of (many i) (log i) (is i) ops verdict) in
      adds-at shards gates g before after within at author _ (subst (λ (d : GateDeed). Adds before after author d) deed sends.adds)
