-- Each program that a hand began since the start has read its vertices in turn, and a hand finishes no programs but
-- those.
-- Used by Closed.
use Rattle.std.proofs.Common.{◌≡◌, ℕ, ◌-◌, ◌<◌, Bool, false, List, [], ◌∷◌, ◌++◌, take, Contains, AllPairs, IsTrue, Some, inl, inr, refl, sym, ap, subst, ◌∙◌, arith}
use Rattle.std.specs.Prelude.{if◌then◌else◌}
use Rattle.std.proofs.lemmas.List.Concat.{flat_map-append}
use Rattle.std.proofs.lemmas.List.Elements.{Contains-append_cases, Contains-append_left}
use Rattle.std.proofs.lemmas.Option.{same_Some}
use Rattle.weave_data.proofs.Members.{flat_has, has_flat, has_head, has_map}
use Rattle.weave_data.proofs.Ordered.{pairs_across}
use Rattle.vector_stamp.specs.declared.clock.Stamp.{Stamp}
use Rattle.program_defs.specs.declared.program.Program.{Program}
use Rattle.program_defs.specs.declared.script.Request.{Request}
use Rattle.program_defs.specs.declared.script.Work.{Work}
use Rattle.program_defs.specs.declared.script.Work.TheVariants.{Look}
use Rattle.program_defs.specs.Works.{is_look}
use Rattle.report_rules.specs.Lookups.{request_at}
use Rattle.weave_entries.specs.declared.gate_log.GateEntry.{GateEntry}
use Rattle.weave_entries.specs.declared.gate_log.GateDeed.{GateDeed}
use Rattle.weave_entries.specs.declared.gate_log.GateDeed.TheVariants.{BeganTx, BeganProgram, Sent, Nop, Heard, Raised, Finished}
use Rattle.weave_entries.specs.declared.session_log.SessionEntry.{SessionEntry}
use Rattle.weave_entries.specs.GateReplay.{BegunRequest, ended_by, ended_in, program_by, programs_of}
use Rattle.weave_entries.specs.GateRules.{EndsAs, IsGateLog}
use Rattle.weave_entries.specs.SessionReplay.{SessionState, begins_in, replied_count, replied_in, reply_by, session_of}
use Rattle.weave_entries.proofs.OwnStamps.{program-begun}
use Rattle.weave_account.specs.declared.account.Account.{Account}
use Rattle.weave_account.specs.Account.{all_begun, gate_log, is_ended, reads_of, session_log}
use Rattle.weave_account.specs.Programs.{ReadsInTurn}
use Rattle.weave_account.specs.Sessions.{requests_of_session}
use Rattle.weave_account.proofs.GoesOn.{has-on}
use Rattle.hands_account.specs.Runs.{FinishesItsOwn, FinishesOwnPrograms, IsOwnProgram}
use Rattle.hands_account.proofs.Places.{since-place}
use Rattle.seen_logs.specs.Seen.{entries_since}
use Rattle.weaver_core.specs.Sessions.{log_of_client}
use Rattle.weaver_core.specs.Walks.{IsLookAt}
use Rattle.weaver_hands.specs.Programs.{own_reads}
use Rattle.weaver_locks.specs.declared.hand.Hand.{Hand}
use Rattle.weaver_locks.specs.Hands.{hand_number, seen_by}
use Rattle.workers_account.specs.Phase.{IsClosedBy}
use Rattle.workers_account.proofs.Begun.{all-has}
use Rattle.workers_account.proofs.Ended.{all-ended, ended-all}
use Rattle.workers_account.proofs.ReadTurns.{turn-same}
use Rattle.workers_account.proofs.SessionLogs.{pairs-take}
use Rattle.workers_account.proofs.Programs.{none-waits}
use Rattle.sessions_account.proofs.Leading.{keeps-first}
use Rattle.sessions_account.proofs.Runs.{given-from, history, own-entry, part, Run, seen-on}
use Rattle.sessions_account.proofs.SessionLogs.{LogLeft, begun-for, gained-log, logs-right, start-logged}
use Rattle.sessions_account.proofs.Ends.{ended-for, sessions-kept}
use Rattle.sessions_account.proofs.Visits.{all-own, since-gained}

module _ (x : Run) (closed : Account) (end : IsClosedBy x.shared x.script x.start x.is x.hands closed) (hand : Hand) (h : Contains x.hands hand) where
  abbrev number : ℕ
  number = hand_number hand

  -- what a hand has seen to have ended has ended in the closed logs
  ended-closed : (r : ℕ) → IsTrue (is_ended (seen_by hand) r) → IsTrue (is_ended closed r)
  ended-closed r ended =
      let home = all-ended (seen_by hand) r ended in
      let from = flat_has (λ (e : GateEntry). ended_by e.deed) (gate_log (seen_by hand) home.0) r home.1 in
      ended-all closed home.0 r (has_flat (λ (e : GateEntry). ended_by e.deed) (gate_log closed home.0) from.0 r
      (has-on (gate_log (seen_by hand) home.0) (gate_log closed home.0) ((end.within hand h).gates home.0) from.0 from.1) from.2)

  -- each program that the hand began since the start has read its vertices in turn, and all of them if it has ended
  pub programs : (r : ℕ) → IsOwnProgram number x.start (seen_by hand) r → (request : Request) (program : Program)
      → request_at x.script r ≡ Some request → request.work ≡ Look program
      → ReadsInTurn (reads_of (seen_by hand) r) program (IsTrue (is_ended (seen_by hand) r))
  programs r own request program at look =
      let begun : BegunRequest = record { author = number; request = r; stamp = own.1 } in
      let there = since-gained x hand h own.0 r own.1 own.2 in
      let one = begun-for x closed end hand h own.0 begun there in
      let looks : IsLookAt x.script r program = record { request = request; request_is = at; work_is = look } in
      let turn = (part x hand h).new_turns one.session (given-from x hand h one.session one.left.given) r own.1 one.logged program looks in
      let same : one.of.0 ≡ request = same_Some one.of.0 request (sym one.of.1 ∙ at) in
      let log_is : session_log closed request.session ≡ log_of_client ((history x hand h).left one.session) =
      ap (λ (q : Request). session_log closed q.session) (sym same) ∙ ap (session_log closed) one.of.2 ∙ one.left.is_log in
      turn-same (own_reads hand r) (reads_of (seen_by hand) r) program (Contains (replied_in (log_of_client ((history x hand h).left one.session))) r)
      (IsTrue (is_ended (seen_by hand) r)) (sym (all-own x closed end hand h own.0 r own.1 there))
      (λ ended. inl (subst (λ (l : List SessionEntry). Contains (replied_in l) r) log_is
      ((x.laws.phase.has_reply r (session_log closed request.session)).0
      ((sessions-kept x closed end).finished_are_replied r request at
      (subst (λ (w : Work). IsTrue (is_look w)) (sym look) refl) (ended-closed r ended)))))
      turn

  -- Finishes

  -- a reply since then is of a request that began since then
  replied-new : (session : ℕ) (left : LogLeft x closed end session hand h) (r : ℕ) → Contains (replied_in ((part x hand h).logs session)) r
      → (stamp : Stamp) → Contains (begins_in (session_log x.start session)) (r, stamp) → ⊥
  replied-new session left r entries_since stamp before =
      let client = (history x hand h).from.clients session in
      let keeps = keeps-first x.laws x.shared x.script x.start x.was x.served.hand_of x.served.at_start (history x hand h).from (history x hand h).may_begin
      session (given-from x hand h session left.given) in
      let gained = (part x hand h).logs session in
      let requests = requests_of_session x.script session in
      let log = session_log x.start session in
      let right = x.served.at_start.is_account.sessions.logs session in
      let state : session_of requests log ≡ client.session =
      ap (λ (l : List SessionEntry). session_of requests l) left.was_log
      ∙ ap (λ (rs : List ℕ). session_of rs (log_of_client client)) (sym keeps.requests) ∙ sym keeps.at_end.state in
      let waits : (session_of requests log).waits ≡ false = ap (λ (s : SessionState). s.waits) state ∙ none-waits x.shared x.script session (history x hand h).from.hand client (history x hand h).may_begin.seen keeps in
      let count : replied_count (session_of requests log) ≡ (session_of requests log).begun =
      ap (λ (b : Bool). if b then (session_of requests log).begun - 1 else (session_of requests log).begun) waits in
      let replied : Contains (replied_in log) r =
      subst (λ (rs : List ℕ). Contains rs r)
      (x.laws.phase.begun_first session requests log right ∙ ap (λ (n : ℕ). take n requests) (sym count) ∙ sym (x.laws.phase.replied_first session requests log right))
      (has_map (λ (begun : ℕ × Stamp). begun.0) (begins_in log) (r, stamp) before) in
      let whole = session_log closed session in
      let all = logs-right x closed end session in
      let rise : AllPairs (λ (a b : ℕ). a < b) (replied_in whole) =
      subst (AllPairs (λ (a b : ℕ). a < b)) (sym (x.laws.phase.replied_first session requests whole all))
      (pairs-take (λ (a b : ℕ). a < b) (replied_count (session_of requests whole)) requests (x.laws.phase.rise x.script session)) in
      let parts : replied_in whole ≡ replied_in log ++ replied_in gained =
      ap replied_in (gained-log x closed end session hand h left) ∙ flat_map-append (λ (e : SessionEntry). reply_by e.deed) log gained in
      let less = pairs_across (λ (a b : ℕ). a < b) (replied_in log) (replied_in gained) r r (subst (AllPairs (λ (a b : ℕ). a < b)) parts rise) replied entries_since in
      omega (arith, less)

  -- a program that the hand finished had not begun at the start
  finished-new : (home r : ℕ) (entry : GateEntry) → Contains ((part x hand h).gates home) entry → entry.deed ≡ Finished r
      → (begun : BegunRequest) → Contains (all_begun x.start) begun → begun.request ≡ r → ⊥
  finished-new home r entry there deed-is begun before same =
      let ended : Contains (ended_in ((part x hand h).gates home)) r =
      has_flat (λ (e : GateEntry). ended_by e.deed) ((part x hand h).gates home) entry r there (subst (λ (d : GateDeed). Contains (ended_by d) r) (sym deed-is) (has_head r [])) in
      let one = ended-for x closed end hand h home r ended in
      let early = start-logged x closed end begun before one.of.0 (ap (request_at x.script) same ∙ one.of.1) in
      replied-new one.session one.left r one.since begun.stamp
      (subst (λ (y : ℕ × ℕ). Contains (begins_in (session_log x.start y.1)) (y.0, begun.stamp)) (λ i. (same i, one.of.2 i)) early)

  -- the hand has finished no programs but those that it began since the start
  pub finishes : FinishesOwnPrograms number x.start (seen_by hand)
  finishes home before entry after at own = by entry.deed refl
    where
      by : (deed : GateDeed) → entry.deed ≡ deed → FinishesItsOwn number x.start (seen_by hand) deed
      by (BeganTx r stamp) deed-is = tt
      by (BeganProgram r stamp) deed-is = tt
      by (Sent r messages) deed-is = tt
      by (Nop shard n stamp low) deed-is = tt
      by (Heard clock) deed-is = tt
      by (Raised epoch) deed-is = tt
      by (Finished r) deed-is =
          let log = gate_log (seen_by hand) home in
          let there = own-entry x hand h home before entry after at own in
          let right = subst (λ (n : ℕ). IsGateLog home n log) x.served.at_start.locks.shards ((part x hand h).is_hand.legal.gate_logs home) in
          let rule = x.laws.phase.ends home x.script.shards log right before entry after at in
          let ends = subst (λ (d : GateDeed). EndsAs before entry.author d) deed-is rule in
          let begun : BegunRequest = record { author = entry.author; request = r; stamp = ends.0 } in
          let place = since-place (gate_log x.start home) log (seen-on x hand h home) before entry after at own.1 in
          let parts : programs_of before ≡ programs_of (gate_log x.start home) ++ programs_of place.0 =
          ap programs_of place.1 ∙ flat_map-append (λ (e : GateEntry). program_by e.author e.deed) (gate_log x.start home) place.0 in
          elim (Contains-append_cases (programs_of (gate_log x.start home)) (programs_of place.0) begun (subst (λ (l : List BegunRequest). Contains l begun) parts ends.1)) [
            | inl early ↦ absurd (finished-new home r entry there deed-is begun (all-has x.start home begun (program-begun (gate_log x.start home) begun early)) refl)
            | inr since-then ↦
                let all : programs_of (entries_since (gate_log x.start home) log) ≡ programs_of place.0 ++ programs_of (entry ∷ after) =
                ap programs_of place.2 ∙ flat_map-append (λ (e : GateEntry). program_by e.author e.deed) place.0 (entry ∷ after) in (
                  home,
                  ends.0,
                  subst (λ (n : ℕ). Contains (programs_of (entries_since (gate_log x.start home) log)) (record { author = n; request = r; stamp = ends.0 })) own.0
                      (subst (λ (l : List BegunRequest). Contains l begun) (sym all)
                      (Contains-append_left (programs_of place.0) (programs_of (entry ∷ after)) begun since-then)),
                )
          ]
