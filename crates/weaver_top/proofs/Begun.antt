-- Where requests begin and end: what has its reply has ended, so it is not in flight.
-- Used by OnThreads and Unanswered.
use Rattle.std.proofs.Common.{◌≡◌, ℕ, ◌==◌, Bool, List, ◌∷◌, Contains, IsTrue, Some, sym, ap, subst, ◌∙◌}
use Rattle.std.specs.Prelude.{◌&&◌}
use Rattle.std.specs.List.{flat_map}
use Rattle.std.proofs.lemmas.Bool.{and_parts, eqb-true}
use Rattle.std.proofs.lemmas.List.Concat.{flat_map-append}
use Rattle.std.proofs.lemmas.List.Elements.{Contains-append_left}
use Rattle.weave_data.proofs.Images.{flat-has}
use Rattle.weave_data.proofs.Members.{cut_at, has_none, only}
use Rattle.weave_data.proofs.Numbers.{has-in}
use Rattle.program_defs.specs.declared.script.Request.{Request}
use Rattle.program_defs.specs.declared.script.Script.{Script}
use Rattle.program_defs.specs.declared.script.Work.{Work}
use Rattle.program_defs.specs.Limits.{IsWithinLimits}
use Rattle.program_defs.specs.Works.{is_change, is_look}
use Rattle.report_rules.specs.Lookups.{is_some_and, request_at}
use Rattle.weave_entries.specs.declared.gate_log.GateDeed.{GateDeed}
use Rattle.weave_entries.specs.declared.gate_log.GateDeed.TheVariants.{BeganTx, BeganProgram, Sent, Nop, Heard, Raised, Finished}
use Rattle.weave_entries.specs.declared.gate_log.GateEntry.{GateEntry}
use Rattle.weave_entries.specs.GateReplay.{BegunRequest, begun_by, begun_in, ended_by, ended_in, flight_of}
use Rattle.weave_entries.specs.SessionReplay.{has_reply_in}
use Rattle.weave_entries.proofs.OwnStamps.{tx-begun}
use Rattle.weave_account.specs.declared.account.Account.{Account}
use Rattle.weave_account.specs.Account.{all_begun, gate_log, session_log}
use Rattle.weave_account.specs.Gatekeepers.{BeginsAs}
use Rattle.weave_account.specs.IsAccount.{IsAccount}
use Rattle.weave_account.proofs.Beginning.{all-in}
use Rattle.weave_account.proofs.PhaseOrder.{ended-deed}
use Rattle.weave_account.proofs.Replying.{place-of}
use Rattle.weaver_top.specs.LowerLaws.{LawsForCommands}
use Rattle.weaver_core.proofs.Replied.{replied-ended}

module _ (laws : LawsForCommands) (script : Script) (account : Account) (limits : IsWithinLimits script) (is : IsAccount script account) where
  -- Gatekeepers

  own-gate : (home r : ℕ) (kind : Work → Bool) (request : Request) → request_at script r ≡ Some request
      → IsTrue (is_some_and (λ (request : Request). (request.gate == home) && kind request.work) (request_at script r)) → request.gate ≡ home
  own-gate home r kind request there own =
      eqb-true request.gate home (and_parts (request.gate == home) (kind request.work)
      (subst (λ q. IsTrue (is_some_and (λ (request : Request). (request.gate == home) && kind request.work) q)) there own)).0

  deed-gate : (home : ℕ) (before : List GateEntry) (author : ℕ) (deed : GateDeed) (b : BegunRequest) (request : Request) → Contains (begun_by author deed) b
      → BeginsAs script account home before deed → request_at script b.request ≡ Some request → request.gate ≡ home
  deed-gate home before author (BeganTx r stamp) b request h rule there =
      own-gate home r is_change request (ap (λ (k : BegunRequest). request_at script k.request) (only _ b h) ∙ there) rule.own
  deed-gate home before author (BeganProgram r stamp) b request h rule there =
      own-gate home r is_look request (ap (λ (k : BegunRequest). request_at script k.request) (only _ b h) ∙ there) rule.own
  deed-gate home before author (Sent r messages) b request h rule there = absurd (has_none b h)
  deed-gate home before author (Nop to number stamp low) b request h rule there = absurd (has_none b h)
  deed-gate home before author (Heard clock) b request h rule there = absurd (has_none b h)
  deed-gate home before author (Raised epoch) b request h rule there = absurd (has_none b h)
  deed-gate home before author (Finished r) b request h rule there = absurd (has_none b h)

  -- what was begun at a gatekeeper is a request of it
  begun-gate : (home : ℕ) (b : BegunRequest) (request : Request) → Contains (begun_in (gate_log account home)) b → request_at script b.request ≡ Some request → request.gate ≡ home
  begun-gate home b request h there =
      let entry = flat-has (λ (e : GateEntry). begun_by e.author e.deed) (gate_log account home) b h in
      let place = cut_at (gate_log account home) entry.0 entry.1.0 in
      deed-gate home place.before (entry.0).author (entry.0).deed b request entry.1.1 (is.gatekeepers.begins home place.before entry.0 place.after place.is) there

  -- what has ended at a gatekeeper was begun there
  ended-begun : (home r : ℕ) → Contains (ended_in (gate_log account home)) r → (b : BegunRequest) × Contains (begun_in (gate_log account home)) b × (b.request ≡ r)
  ended-begun home r h =
      let entry = flat-has (λ (e : GateEntry). ended_by e.deed) (gate_log account home) r h in
      let place = cut_at (gate_log account home) entry.0 entry.1.0 in
      let begun =
      ended-deed place.before (entry.0).author (entry.0).deed r entry.1.1
      (laws.ends home script.shards (gate_log account home) (is.gatekeepers.logs home) place.before entry.0 place.after place.is) in
      let longer : Contains (begun_in (gate_log account home)) begun.0 = subst (λ l. Contains (begun_in l) begun.0) (sym place.is)
      (subst (λ bs. Contains bs begun.0) (sym (flat_map-append (λ (e : GateEntry). begun_by e.author e.deed) place.before (entry.0 ∷ place.after))) (Contains-append_left (begun_in place.before) (begun_in (entry.0 ∷ place.after)) begun.0 begun.1)) in
      (begun.0, longer, begun.2)

  -- Replies

  -- a transaction in flight has no reply
  pub flight-unanswered : (home number : ℕ) (flight : BegunRequest) (request : Request) → flight_of (gate_log account home) ≡ Some flight → request_at script flight.request ≡ Some request
      → IsTrue (has_reply_in flight.request (session_log account number)) → ⊥
  flight-unanswered home number flight request flies there replied =
      let r = flight.request in
      let so = (laws.in_flight home script.shards (gate_log account home) (is.gatekeepers.logs home) (laws.once script account limits is home) flight).0 flies in
      let log = flat-has ended_in account.gates r (has-in (flat_map ended_in account.gates) r (replied-ended script account is r number replied)) in
      let other = place-of account.gates log.0 log.1.0 in
      let here : Contains (ended_in (gate_log account other.0)) r = subst (λ l. Contains (ended_in l) r) (sym other.1) log.1.1 in
      let b = ended-begun other.0 r here in
      let gate : request.gate ≡ other.0 = begun-gate other.0 b.0 request b.1 (ap (request_at script) b.2 ∙ there) in
      let own : request.gate ≡ home = begun-gate home flight request (tx-begun (gate_log account home) flight so.0) there in
      so.1 (subst (λ g. Contains (ended_in (gate_log account g)) r) (sym gate ∙ own) here)

  -- a transaction in flight was begun
  pub flight-begun : (home : ℕ) (flight : BegunRequest) → flight_of (gate_log account home) ≡ Some flight → Contains (all_begun account) flight
  flight-begun home flight flies =
      all-in account home flight (tx-begun (gate_log account home) flight
      ((laws.in_flight home script.shards (gate_log account home) (is.gatekeepers.logs home) (laws.once script account limits is home) flight).0 flies).0)
