-- No transaction is in flight at the start of a phase, nor in its closed logs.
-- Used by PhaseEnds.
use Rattle.std.proofs.Common.{◌≡◌, ℕ, ◌==◌, List, Contains, IsTrue, Option, None, Some, inl, inr, refl, sym, ap, subst, ◌∙◌, eq-eqb}
use Rattle.std.specs.List.{filter}
use Rattle.std.proofs.lemmas.Bool.{cases_Bool, eqb-true, both_ways}
use Rattle.std.proofs.lemmas.Option.{none-some}
use Rattle.std.proofs.lemmas.List.Elements.{Contains-append_left}
use Rattle.weave_data.proofs.Members.{any_from, any_has, flat_has, has_flat}
use Rattle.program_defs.specs.declared.script.Script.{Script}
use Rattle.weave_entries.specs.declared.gate_log.GateEntry.{GateEntry}
use Rattle.weave_entries.specs.GateReplay.{BegunRequest, ended_by, ended_in, flight_of, has_ended_in, program_by, tx_by, txs_of}
use Rattle.weave_account.specs.declared.account.Account.{Account}
use Rattle.weave_account.specs.Account.{gate_log, NoneInFlight}
use Rattle.weave_account.specs.IsAccount.{IsAccount}
use Rattle.weave_account.proofs.GoesOn.{has-on}
use Rattle.hands_account.proofs.Once.{begun-author}
use Rattle.weaver_core.specs.declared.client.Client.{Client}
use Rattle.weaver_locks.specs.declared.hand.Hand.{Hand}
use Rattle.weaver_locks.specs.declared.shared.Shared.{Shared}
use Rattle.weaver_locks.specs.Hands.{hand_number, made_by}
use Rattle.weaver_locks.proofs.EachLog.{row-at}
use Rattle.weaver_workers.proofs.Landed.{own-flight}
use Rattle.workers_account.specs.Phase.{IsClosedBy, IsPhaseRun, IsPhaseStart}
use Rattle.workers_account.specs.PhaseLaws.{PhaseLaws}
use Rattle.workers_account.proofs.Parts.{gate-entry, gates-on, part-of}

-- a request that a log has ended by the test is among those that it has ended
ended-test : (log : List GateEntry) (r : ℕ) → IsTrue (has_ended_in r log) → Contains (ended_in log) r
ended-test log r test =
    let has = any_has (λ ended. ended == r) (ended_in log) test in
    subst (λ (q : ℕ). Contains (ended_in log) q) (eqb-true has.0 r has.2) has.1

-- a transaction of a phase's start was sent then
sent-before : (laws : PhaseLaws) (script : Script) (start : Account) (shared : Shared) (clients : List Client) → IsPhaseStart script start shared clients
    → (home : ℕ) (tx : BegunRequest) → Contains (txs_of (gate_log start home)) tx → Contains (ended_in (gate_log start home)) tx.request
sent-before laws script start shared clients at-start home tx there =
    let log = gate_log start home in
    elim (cases_Bool (has_ended_in tx.request log)) [
      | inl done ↦ ended-test log tx.request done
      | inr open-still ↦
          let flies = (laws.flights home script.shards log (at-start.is_account.gatekeepers.logs home)
          (laws.once_at script start at-start.limits at-start.is_account home) tx).1 (
            there,
            λ (ended : Contains (ended_in log) tx.request). both_ways (has_ended_in tx.request log) open-still
                (any_from (λ q. q == tx.request) (ended_in log) tx.request ended (eq-eqb tx.request tx.request refl)),
          ) in
          absurd (none-some tx (sym (at-start.landed home) ∙ flies))
    ]

module _ (laws : PhaseLaws) (shared : Shared) (script : Script) (upto : ℕ) (start : Account) (was is : List Client) (hands : List Hand)
    (run : IsPhaseRun shared script upto start was is hands) (closed : Account) (end : IsClosedBy shared script start is hands closed)
    (account : IsAccount script closed) where
  -- what ended in a log that is within the closed one ended there
  ended-on : (home r : ℕ) (log : List GateEntry) → ((entry : GateEntry) → Contains log entry → Contains (gate_log closed home) entry)
      → Contains (ended_in log) r → Contains (ended_in (gate_log closed home)) r
  ended-on home r log within h =
      let from = flat_has (λ (e : GateEntry). ended_by e.deed) log r h in
      has_flat (λ (e : GateEntry). ended_by e.deed) (gate_log closed home) from.0 r (within from.0 from.1) from.2

  -- what would be in flight was begun at the start, and sent there, or by a hand of which nothing is in flight
  none-flies : (home : ℕ) (tx : BegunRequest) → flight_of (gate_log closed home) ≡ Some tx → ⊥
  none-flies home tx flown =
      let flies = (laws.flights home script.shards (gate_log closed home) (account.gatekeepers.logs home)
      (laws.once_at script closed run.at_start.limits account home) tx).0 flown in
      let from = flat_has (λ (e : GateEntry). tx_by e.author e.deed) (gate_log closed home) tx flies.0 in
      elim (gate-entry laws shared script upto start was is hands run closed end home from.0 from.1) [
        | inl early ↦
            flies.1 (ended-on home tx.request (gate_log start home)
            (has-on (gate_log start home) (gate_log closed home) (gates-on laws shared script upto start was is hands run closed end home))
            (sent-before laws script start shared was run.at_start home tx (has_flat (λ (e : GateEntry). tx_by e.author e.deed) (gate_log start home) from.0 tx early from.2)))
        | inr since ↦
            let hand = since.0 in
            let part = part-of laws shared script upto start was is hands run hand since.1 in
            let own = λ (e : GateEntry). e.author == hand_number hand in
            let made : gate_log (made_by hand) home ≡ filter own (gate_log closed home) =
            sym (ap (λ (a : Account). gate_log a home) (end.made hand since.1)) ∙ row-at (filter own) refl closed.gates home in
            let began = Contains-append_left (tx_by (from.0).author (from.0).deed) (program_by (from.0).author (from.0).deed) tx from.2 in
            let mine = sym (since.2 ∙ begun-author (from.0).author (from.0).deed tx began) in
            none-some tx (sym (part.landed home) ∙ ap (λ (log : List GateEntry). flight_of log) made
            ∙ own-flight (hand_number hand) (gate_log closed home) tx flown mine)
      ]

  -- if the closed logs are an account, no transaction is in flight in them
  pub none-in-flight : NoneInFlight closed
  none-in-flight home = by (flight_of (gate_log closed home)) refl
    where
      by : (o : Option BegunRequest) → flight_of (gate_log closed home) ≡ o → flight_of (gate_log closed home) ≡ None
      by None is = is
      by (Some tx) is = absurd (none-flies home tx is)
