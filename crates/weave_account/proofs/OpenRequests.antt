-- What a gatekeeper's log leaves open is what its sessions wait for.
-- Used by `sessions_have_what_is_open`.
use Rattle.std.proofs.Common.{◌≡◌, ℕ, ◌==◌, Bool, true, false, not, List, [], ◌++◌, length, Contains, IsTrue, Option, None, Some, inl, inr, refl, sym, ap, subst, ◌∙◌, ◌↔◌}
use Rattle.std.specs.List.{flat_map}
use Rattle.std.proofs.lemmas.Bool.{both_ways, cases_Bool, cases_lt, eqb-true}
use Rattle.std.proofs.lemmas.List.{get_or_past}
use Rattle.std.proofs.lemmas.List.Elements.{Contains-append_cases, Contains-get_or}
use Rattle.weave_data.proofs.Images.{flat-has}
use Rattle.weave_data.proofs.Members.{any_has, has_flat, has_none, map_has}
use Rattle.weave_data.proofs.Numbers.{has-in, in-has}
use Rattle.vector_stamp.specs.declared.clock.Stamp.{Stamp}
use Rattle.program_defs.specs.Works.{is_change, is_look}
use Rattle.program_defs.specs.declared.script.Request.{Request}
use Rattle.program_defs.specs.declared.script.Script.{Script}
use Rattle.program_defs.specs.declared.script.Work.{Work}
use Rattle.program_defs.specs.declared.script.Work.TheVariants.{Change, Look}
use Rattle.report_rules.specs.Lookups.{is_some_and, request_at}
use Rattle.weave_entries.specs.declared.gate_log.GateEntry.{GateEntry}
use Rattle.weave_entries.specs.GateReplay.{BegunRequest, begun_in, ended_in, flight_of, has_ended_in, program_by, programs_of, running_of, tx_by}
use Rattle.weave_entries.specs.GateRules.{BeginsEachOnce, IsGateLog}
use Rattle.weave_entries.specs.SessionReplay.{begins_in, has_begun_in, has_reply_in}
use Rattle.weave_entries.proofs.OwnStamps.{program-begun, tx-begun}
use Rattle.weave_account.specs.declared.account.Account.{Account}
use Rattle.weave_account.specs.Account.{all_begun, gate_log, session_log, stamp_of}
use Rattle.weave_account.proofs.Basis.{Basis}
use Rattle.weave_account.proofs.Beginning.{begun-stamp}
use Rattle.weave_account.proofs.FinalReplies.{finished-replied}
use Rattle.weave_account.proofs.InSession.{begun-in-session, sent-unless}
use Rattle.weave_account.proofs.PhaseOrder.{replied-ended}
use Rattle.weave_account.proofs.RepliesClause.{begin-of}
use Rattle.weave_account.proofs.Replying.{place-of}
use Rattle.weave_account.proofs.Requests.{begun-gate, each-once, ended-home, flight-begun, program-own, tx-own}
use Rattle.weave_account.proofs.Sessions.{session-begun}
use Rattle.weave_account.specs.OpenRequests.{IsOpenAt}

-- a program that was begun and not finished is running
abbrev pub RunningLaw : Type 0
RunningLaw = (home shards : ℕ) (log : List GateEntry) → IsGateLog home shards log → BeginsEachOnce log → (program : BegunRequest)
    → Contains (running_of log) program ↔ (Contains (programs_of log) program × ¬ Contains (ended_in log) program.request)

change-or-look : (work : Work) → IsTrue (is_look work) → IsTrue (is_change work) → ⊥
change-or-look (Change ops) look change = cc
change-or-look (Look program) look change = cc

some-is : (o : Option BegunRequest) (p : BegunRequest → Bool) → not (is_some_and p o) ≡ false → (b : BegunRequest) × (o ≡ Some b) × IsTrue (p b)
some-is None p e = absurd (let f : true ≡ false = e in cc)
some-is (Some b) p e = (b, refl, elim (cases_Bool (p b)) [ inl holds ↦ holds | inr fails ↦ (let f : true ≡ false = sym (ap not fails) ∙ e in absurd (cc)) ])

not-so : (b : Bool) → (IsTrue b → ⊥) → b ≡ false
not-so b never = elim (cases_Bool b) [ inl holds ↦ absurd (never holds) | inr is ↦ is ]

module _ (script : Script) (account : Account) (basis : Basis script account) (running-law : RunningLaw) where
  -- what was begun at a gatekeeper is among all that was begun
  inside : (g : ℕ) (b : BegunRequest) → Contains (begun_in (gate_log account g)) b → Contains (all_begun account) b
  inside g b h = elim (cases_lt g (length account.gates)) [
    | inl within ↦ has_flat begun_in account.gates (gate_log account g) b (Contains-get_or account.gates g [] within) h
    | inr past ↦ absurd (has_none b (subst (λ (l : List GateEntry). Contains (begun_in l) b) (get_or_past account.gates g [] past) h))
  ]

  -- a request that ended nowhere has no reply
  no-reply-of : (r : ℕ) (request : Request) → request_at script r ≡ Some request → ¬ Contains (ended_in (gate_log account request.gate)) r → has_reply_in r (session_log account request.session) ≡ false
  no-reply-of r request there open-still = not-so (has_reply_in r (session_log account request.session)) (λ replied.
      open-still (ended-home script account basis r request there (has-in (flat_map ended_in account.gates) r (replied-ended script account basis r request.session replied))))

  not-ended-of : (g r : ℕ) → ¬ Contains (ended_in (gate_log account g)) r → has_ended_in r (gate_log account g) ≡ false
  not-ended-of g r open-still = not-so (has_ended_in r (gate_log account g)) (λ ended.
      let found = any_has (λ n. n == r) (ended_in (gate_log account g)) ended in
      open-still (subst (Contains (ended_in (gate_log account g))) (eqb-true found.0 r found.2) found.1))

  -- a running program is open in its session
  pub program-open : (g : ℕ) (b : BegunRequest) → Contains (running_of (gate_log account g)) b → IsOpenAt script account g is_look b
  program-open g b h =
      let left = (running-law g script.shards (gate_log account g) (basis.is.gatekeepers.logs g) (each-once script account basis g) b).0 h in
      let own = program-own script account basis g b left.0 in
      let stamp = begun-stamp account basis.is.gatekeepers.once b (inside g b (program-begun (gate_log account g) b left.0)) in
      let still : ¬ Contains (ended_in (gate_log account own.request.gate)) b.request = λ ended. left.1 (subst (λ n. Contains (ended_in (gate_log account n)) b.request) own.gate_is ended) in
      record {
        request = own.request;
        request_is = own.request_is;
        gate_is = own.gate_is;
        kind_is = own.kind_is;
        has_begun = begun-in-session script account basis b.request own.request b.stamp own.request_is stamp;
        stamp_is = stamp;
        no_reply = no-reply-of b.request own.request own.request_is still;
        not_ended = not-ended-of g b.request left.1;
      }

  -- so is the transaction in flight
  pub flight-open : (flight-law : (g : ℕ) (b : BegunRequest) → flight_of (gate_log account g) ≡ Some b → ¬ Contains (ended_in (gate_log account g)) b.request)
      → (g : ℕ) (b : BegunRequest) → flight_of (gate_log account g) ≡ Some b → IsOpenAt script account g is_change b
  flight-open flight-law g b flies =
      let tx = flight-begun script account basis g b flies in
      let own = tx-own script account basis g b tx in
      let stamp = begun-stamp account basis.is.gatekeepers.once b (inside g b (tx-begun (gate_log account g) b tx)) in
      let still : ¬ Contains (ended_in (gate_log account own.request.gate)) b.request = λ ended. flight-law g b flies (subst (λ n. Contains (ended_in (gate_log account n)) b.request) own.gate_is ended) in
      record {
        request = own.request;
        request_is = own.request_is;
        gate_is = own.gate_is;
        kind_is = own.kind_is;
        has_begun = begun-in-session script account basis b.request own.request b.stamp own.request_is stamp;
        stamp_is = stamp;
        no_reply = no-reply-of b.request own.request own.request_is still;
        not_ended = not-ended-of g b.request (flight-law g b flies);
      }

  -- a request that is a program was begun as one
  look-begun : (home : ℕ) (b : BegunRequest) → Contains (begun_in (gate_log account home)) b → (request : Request) → request_at script b.request ≡ Some request → IsTrue (is_look request.work) → Contains (programs_of (gate_log account home)) b
  look-begun home b h request there look =
      let entry = flat-has (λ (e : GateEntry). begun-by e) (gate_log account home) b h in
      elim (Contains-append_cases (tx_by (entry.0).author (entry.0).deed) (program_by (entry.0).author (entry.0).deed) b entry.1.1) [
        | inl tx ↦
            (let own = tx-own script account basis home b (has_flat (λ (e : GateEntry). tx_by e.author e.deed) (gate_log account home) entry.0 b entry.1.0 tx) in
            let same : Some request ≡ Some own.request = sym there ∙ own.request_is in
            let one : request ≡ own.request = cc in
            absurd (change-or-look request.work look (subst (λ (k : Request). IsTrue (is_change k.work)) (sym one) own.kind_is)))
        | inr program ↦ has_flat (λ (e : GateEntry). program_by e.author e.deed) (gate_log account home) entry.0 b entry.1.0 program
      ]
    where
      begun-by : GateEntry → List BegunRequest
      begun-by e = tx_by e.author e.deed ++ program_by e.author e.deed

  -- a program that has begun and has no reply is running
  pub open-runs : (r : ℕ) (request : Request) → request_at script r ≡ Some request → IsTrue (is_look request.work) → IsTrue (has_begun_in r (session_log account request.session))
      → has_reply_in r (session_log account request.session) ≡ false
      → (b : BegunRequest) × Contains (running_of (gate_log account request.gate)) b × (b.request ≡ r) × (stamp_of account r ≡ Some b.stamp)
  open-runs r request there look begun unreplied =
      let log = session_log account request.session in
      let from = map_has (λ (p : ℕ × Stamp). p.0) (begins_in log) r ((basis.laws.begun_tested r log).0 begun) in
      let stamp : stamp_of account r ≡ Some (from.0).1 =
      subst (λ q. stamp_of account q ≡ Some (from.0).1) from.2 (session-begun script account basis request.session (from.0).0 (from.0).1 from.1) in
      let b = begin-of script account basis r (from.0).1 stamp in
      let gate = flat-has begun_in account.gates b.0 b.1 in
      let home = place-of account.gates gate.0 gate.1.0 in
      let here : Contains (begun_in (gate_log account home.0)) b.0 = subst (λ l. Contains (begun_in l) b.0) (sym home.1) gate.1.1 in
      let request-is : request_at script (b.0).request ≡ Some request = ap (request_at script) b.2 ∙ there in
      let own : request.gate ≡ home.0 = begun-gate script account basis home.0 b.0 here request request-is in
      let program : Contains (programs_of (gate_log account request.gate)) b.0 = subst (λ g. Contains (programs_of (gate_log account g)) b.0) (sym own) (look-begun home.0 b.0 here request request-is look) in
      let still : ¬ Contains (ended_in (gate_log account request.gate)) (b.0).request = λ ended.
      both_ways (has_reply_in r log) unreplied ((finished-replied script account basis r request there look).0
      (in-has (flat_map ended_in account.gates) r (ended-all request.gate r (subst (Contains (ended_in (gate_log account request.gate))) b.2 ended)))) in (
        b.0,
        (running-law request.gate script.shards (gate_log account request.gate) (basis.is.gatekeepers.logs request.gate) (each-once script account basis request.gate) b.0).1 (program, still),
        b.2,
        subst (λ q. stamp_of account q ≡ Some (b.0).stamp) b.2 (begun-stamp account basis.is.gatekeepers.once b.0 b.1),
      )
    where
      ended-all : (g q : ℕ) → Contains (ended_in (gate_log account g)) q → Contains (flat_map ended_in account.gates) q
      ended-all g q h = elim (cases_lt g (length account.gates)) [
        | inl within ↦ has_flat ended_in account.gates (gate_log account g) q (Contains-get_or account.gates g [] within) h
        | inr past ↦ absurd (has_none q (subst (λ (l : List GateEntry). Contains (ended_in l) q) (get_or_past account.gates g [] past) h))
      ]

  -- a transaction that has begun and was not sent is in flight
  pub open-flies : (r : ℕ) (request : Request) → request_at script r ≡ Some request → IsTrue (is_change request.work) → IsTrue (has_begun_in r (session_log account request.session))
      → has_ended_in r (gate_log account request.gate) ≡ false
      → (b : BegunRequest) × (flight_of (gate_log account request.gate) ≡ Some b) × (b.request ≡ r)
  open-flies r request there change begun unsent =
      let is = some-is (flight_of (gate_log account request.gate)) (λ (flight : BegunRequest). flight.request == r) (sym (sent-unless script account basis r request there change begun) ∙ unsent) in
      (is.0, is.1, eqb-true (is.0).request r is.2)
