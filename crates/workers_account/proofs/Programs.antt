-- Each program that a hand began since the start has read its vertices in turn, and a hand finishes no programs but
-- those.
-- Used by ByLog, ClosedAccount and crate sessions_account.
use Rattle.std.proofs.Common.{◌≡◌, ℕ, ◌-◌, ◌<◌, Bool, false, List, [], ◌∷◌, ◌++◌, length, drop, take, Contains, AllPairs, IsTrue, Option, None, Some, inl, inr, refl, sym, ap, subst, ◌∙◌, arith}
use Rattle.std.specs.Prelude.{is_some, if◌then◌else◌}
use Rattle.std.proofs.lemmas.List.{append-nil}
use Rattle.std.proofs.lemmas.List.Concat.{flat_map-append}
use Rattle.std.proofs.lemmas.List.Elements.{Contains-append_cases, Contains-append_left}
use Rattle.std.proofs.lemmas.Option.{same_Some}
use Rattle.std.proofs.Math.Seq.{drop-append_seam}
use Rattle.weave_data.proofs.Members.{cut_at, flat_has, has_flat, has_head, has_map, has_none, only}
use Rattle.weave_data.proofs.Ordered.{pairs_across}
use Rattle.vector_stamp.specs.declared.clock.Stamp.{Stamp}
use Rattle.program_defs.specs.declared.program.Program.{Program}
use Rattle.program_defs.specs.declared.script.Request.{Request}
use Rattle.program_defs.specs.declared.script.Script.{Script}
use Rattle.program_defs.specs.declared.script.Work.TheVariants.{Look}
use Rattle.report_rules.specs.Lookups.{request_at}
use Rattle.weave_entries.specs.declared.gate_log.GateEntry.{GateEntry}
use Rattle.weave_entries.specs.declared.gate_log.GateDeed.{GateDeed}
use Rattle.weave_entries.specs.declared.gate_log.GateDeed.TheVariants.{BeganTx, BeganProgram, Sent, Nop, Heard, Raised, Finished}
use Rattle.weave_entries.specs.declared.session_log.SessionEntry.{SessionEntry}
use Rattle.weave_entries.specs.GateReplay.{BegunRequest, begun_by, begun_in, ended_by, ended_in, program_by, programs_of, tx_by}
use Rattle.weave_entries.specs.GateRules.{EndsAs, IsGateLog}
use Rattle.weave_entries.specs.SessionReplay.{SessionState, begins_in, replied_count, replied_in, reply_by, session_of}
use Rattle.weave_entries.proofs.OwnStamps.{program-begun}
use Rattle.weave_account.specs.declared.account.Account.{Account}
use Rattle.weave_account.specs.Account.{all_begun, gate_log, is_ended, reads_of, session_log}
use Rattle.weave_account.specs.Programs.{ReadsInTurn}
use Rattle.weave_account.specs.Sessions.{requests_of_session}
use Rattle.weave_account.proofs.GoesOn.{has-on}
use Rattle.hands_account.specs.Runs.{FinishesItsOwn, FinishesOwnPrograms, IsOwnProgram}
use Rattle.hands_account.proofs.Places.{since-place}
use Rattle.hands_account.proofs.Programs.{reads-move}
use Rattle.seen_logs.specs.Seen.{entries_since}
use Rattle.weaver_core.specs.declared.client.Client.{Client}
use Rattle.weaver_core.specs.declared.walks.Running.{Running}
use Rattle.weaver_core.specs.Sessions.{log_of_client}
use Rattle.weaver_core.specs.Walks.{IsLookAt}
use Rattle.weaver_hands.specs.Programs.{own_reads}
use Rattle.weaver_locks.specs.declared.hand.Hand.{Hand}
use Rattle.weaver_locks.specs.declared.shared.Shared.{Shared}
use Rattle.weaver_locks.specs.Hands.{hand_number, seen_by}
use Rattle.weaver_locks.specs.Locks.{start_of}
use Rattle.weaver_workers.specs.Keeping.{IsRunningFor, KeepsClient}
use Rattle.workers_account.specs.Phase.{IsClosedBy, IsPhaseRun}
use Rattle.workers_account.specs.PhaseLaws.{PhaseLaws}
use Rattle.workers_account.proofs.Parts.{Part, gate-entry, part-of, seen-on}
use Rattle.workers_account.proofs.SessionLogs.{pairs-take}
use Rattle.workers_account.proofs.Begun.{BegunInPart, LeftLog, all-has, begun-in-part, gained-log, logs-right, start-logged}
use Rattle.workers_account.proofs.Ended.{all-ended, ended-in-part}
use Rattle.workers_account.proofs.Follows.{begun-new}
use Rattle.workers_account.proofs.Own.{own-entry}
use Rattle.workers_account.proofs.Visited.{all-own, since-part}

-- what a deed ended was begun before it, by its author
pub ended-begun : (before : List GateEntry) (author : ℕ) (deed : GateDeed) (r : ℕ) → Contains (ended_by deed) r → EndsAs before author deed
    → (begun : BegunRequest) × Contains (begun_in before) begun × (begun.request ≡ r) × (begun.author ≡ author)
ended-begun before author (Sent q messages) r h ends =
    let begun : BegunRequest = record { author = author; request = q; stamp = ends.0 } in
    let from = flat_has (λ (e : GateEntry). tx_by e.author e.deed) before begun ends.1 in (
      begun,
      has_flat (λ (e : GateEntry). begun_by e.author e.deed) before from.0 begun from.1
          (Contains-append_left (tx_by (from.0).author (from.0).deed) (program_by (from.0).author (from.0).deed) begun from.2),
      only q r h,
      refl,
    )
ended-begun before author (Finished q) r h ends =
    let begun : BegunRequest = record { author = author; request = q; stamp = ends.0 } in
    (begun, program-begun before begun ends.1, only q r h, refl)
ended-begun before author (BeganTx q stamp) r h ends = absurd (has_none r h)
ended-begun before author (BeganProgram q stamp) r h ends = absurd (has_none r h)
ended-begun before author (Nop shard number stamp low) r h ends = absurd (has_none r h)
ended-begun before author (Heard clock) r h ends = absurd (has_none r h)
ended-begun before author (Raised epoch) r h ends = absurd (has_none r h)

-- a client has no request that waits for a reply, if its hand has seen what there was at the start and no more
pub none-waits : (shared : Shared) (script : Script) (session : ℕ) (hand : Hand) (client : Client) → seen_by hand ≡ start_of shared
    → KeepsClient shared script session hand client → client.session.waits ≡ false
none-waits shared script session hand client seen keeps = by client.running refl
  where
    none-since : (one : Running) → IsRunningFor shared script hand client.session one → ⊥
    none-since one for =
        let home = one.stamp.home in
        let log = gate_log (start_of shared) home in
        let nothing : entries_since log (gate_log (seen_by hand) home) ≡ [] =
        ap (λ (a : Account). drop (length log) (gate_log a home)) seen
        ∙ ap (drop (length log)) (sym (append-nil log)) ∙ drop-append_seam log [] in
        has_none (record { author = hand_number hand; request = one.request; stamp = one.stamp })
        (subst (λ (l : List GateEntry). Contains (programs_of l) (record { author = hand_number hand; request = one.request; stamp = one.stamp })) nothing for.runs.begun)

    by : (o : Option Running) → client.running ≡ o → client.session.waits ≡ false
    by None is = keeps.waits ∙ ap is_some is
    by (Some one) is = absurd (none-since one (keeps.running one is))

module _ (laws : PhaseLaws) (shared : Shared) (script : Script) (upto : ℕ) (start : Account) (was is : List Client) (hands : List Hand)
    (run : IsPhaseRun shared script upto start was is hands) (closed : Account) (end : IsClosedBy shared script start is hands closed)
    (hand : Hand) (h : Contains hands hand) where
  abbrev number : ℕ
  number = hand_number hand

  abbrev part : Part shared script upto was is run.hand_of hand
  part = part-of laws shared script upto start was is hands run hand h

  -- a request that the hand began has not ended at the start
  not-ended : (home : ℕ) (begun : BegunRequest) → Contains (begun_in (part.gates home)) begun → (other : ℕ) (entry : GateEntry) → Contains (gate_log start other) entry
      → Contains (ended_by entry.deed) begun.request → ⊥
  not-ended home begun there other entry early ends =
      let cut = cut_at (gate_log start other) entry early in
      let rule = laws.ends other script.shards (gate_log start other) (run.at_start.is_account.gatekeepers.logs other) cut.before entry cut.after cut.is in
      let before = ended-begun cut.before entry.author entry.deed begun.request ends rule in
      let from = flat_has (λ (e : GateEntry). begun_by e.author e.deed) cut.before before.0 before.1 in
      begun-new laws shared script upto start was is hands run closed end hand h home begun there before.0
      (all-has start other before.0 (has_flat (λ (e : GateEntry). begun_by e.author e.deed) (gate_log start other) from.0 before.0
      (has-on cut.before (gate_log start other) (entry ∷ cut.after, cut.is) from.0 from.1) from.2)) before.2

  -- each program that the hand began since the start has read its vertices in turn, and all of them if it has ended
  pub programs : (r : ℕ) → IsOwnProgram number start (seen_by hand) r → (request : Request) (program : Program)
      → request_at script r ≡ Some request → request.work ≡ Look program
      → ReadsInTurn (reads_of (seen_by hand) r) program (IsTrue (is_ended (seen_by hand) r))
  programs r own request program at look =
      let home = own.0 in
      let stamp = own.1 in
      let begun : BegunRequest = record { author = number; request = r; stamp = stamp } in
      let there = since-part laws shared script upto start was is hands run closed end hand h home r stamp own.2 in
      let one = begun-in-part laws shared script upto start was is hands run closed end hand h home begun there in
      let left = one.left in
      let followed = left.part.has.followed in
      let gained = followed.in_step.gained in
      let looks : IsLookAt script r program = record { request = request; request_is = at; work_is = look } in
      let turn = followed.reads gained.session gained.in_session r stamp one.logged program looks in
      reads-move program (own_reads hand r) (reads_of (seen_by hand) r) (Contains (replied_in (log_of_client left.part.has.on.left)) r) (IsTrue (is_ended (seen_by hand) r))
      (sym (all-own laws shared script upto start was is hands run closed end hand h home r stamp there))
      (λ ended. replied home begun there one left ended)
      turn
    where
      replied : (home : ℕ) (begun : BegunRequest) → Contains (begun_in (part.gates home)) begun → (one : BegunInPart laws shared script upto start was is hands run closed end begun hand h)
          → (left : LeftLog laws shared script upto start was is hands run closed end one.session hand h) → IsTrue (is_ended (seen_by hand) begun.request)
          → Contains (replied_in (log_of_client left.part.has.on.left)) begun.request
      replied home begun there one left ended =
          let r = begun.request in
          let at_home = all-ended (seen_by hand) r ended in
          let from = flat_has (λ (e : GateEntry). ended_by e.deed) (gate_log (seen_by hand) at_home.0) r at_home.1 in
          let in_closed = has-on (gate_log (seen_by hand) at_home.0) (gate_log closed at_home.0) ((end.within hand h).gates at_home.0) from.0 from.1 in
          elim (gate-entry laws shared script upto start was is hands run closed end at_home.0 from.0 in_closed) [
            | inl early ↦ absurd (not-ended home begun there at_home.0 from.0 early from.2)
            | inr later ↦
                let theirs = part-of laws shared script upto start was is hands run later.0 later.1 in
                let end_one = ended-in-part laws shared script upto start was is hands run closed end later.0 later.1 at_home.0 r
                (has_flat (λ (e : GateEntry). ended_by e.deed) (theirs.gates at_home.0) from.0 r later.3 from.2) in
                let same : end_one.request ≡ one.request = same_Some end_one.request one.request (sym end_one.request_is ∙ one.request_is) in
                let sessions : end_one.session ≡ one.session = sym end_one.session_is ∙ ap (λ (q : Request). q.session) same ∙ one.session_is in
                subst (λ (l : List SessionEntry). Contains (replied_in l) r) (ap (session_log closed) sessions ∙ left.is_log) end_one.replied
          ]

  -- Finishes

  -- a reply since then is of a request that began since then
  pub replied-new : (session : ℕ) (left : LeftLog laws shared script upto start was is hands run closed end session hand h) (r : ℕ)
      → Contains (replied_in left.part.has.followed.in_step.gained.session) r → (stamp : Stamp) → Contains (begins_in (session_log start session)) (r, stamp) → ⊥
  replied-new session left r since stamp before =
      let on = left.part.has.on in
      let gained = left.part.has.followed.in_step.gained.session in
      let requests = requests_of_session script session in
      let log = session_log start session in
      let right = run.at_start.is_account.sessions.logs session in
      let state : session_of requests log ≡ on.client.session =
      ap (λ (l : List SessionEntry). session_of requests l) left.was_log
      ∙ ap (λ (rs : List ℕ). session_of rs (log_of_client on.client)) (sym on.keeps.requests) ∙ sym on.keeps.at_end.state in
      let waits : (session_of requests log).waits ≡ false = ap (λ (s : SessionState). s.waits) state ∙ none-waits shared script session part.from on.client part.seen on.keeps in
      let count : replied_count (session_of requests log) ≡ (session_of requests log).begun =
      ap (λ (b : Bool). if b then (session_of requests log).begun - 1 else (session_of requests log).begun) waits in
      let replied : Contains (replied_in log) r =
      subst (λ (rs : List ℕ). Contains rs r)
      (laws.begun_first session requests log right ∙ ap (λ (n : ℕ). take n requests) (sym count) ∙ sym (laws.replied_first session requests log right))
      (has_map (λ (begun : ℕ × Stamp). begun.0) (begins_in log) (r, stamp) before) in
      let whole = session_log closed session in
      let all = logs-right laws shared script upto start was is hands run closed end session in
      let rise : AllPairs (λ (a b : ℕ). a < b) (replied_in whole) =
      subst (AllPairs (λ (a b : ℕ). a < b)) (sym (laws.replied_first session requests whole all))
      (pairs-take (λ (a b : ℕ). a < b) (replied_count (session_of requests whole)) requests (laws.rise script session)) in
      let parts : replied_in whole ≡ replied_in log ++ replied_in gained =
      ap replied_in (gained-log laws shared script upto start was is hands run closed end session hand h left)
      ∙ flat_map-append (λ (e : SessionEntry). reply_by e.deed) log gained in
      let less = pairs_across (λ (a b : ℕ). a < b) (replied_in log) (replied_in gained) r r (subst (AllPairs (λ (a b : ℕ). a < b)) parts rise) replied since in
      omega (arith, less)

  -- a program that the hand finished had not begun at the start
  finished-new : (home r : ℕ) (entry : GateEntry) → Contains (part.gates home) entry → entry.deed ≡ Finished r
      → (begun : BegunRequest) → Contains (all_begun start) begun → begun.request ≡ r → ⊥
  finished-new home r entry there deed-is begun before same =
      let ended : Contains (ended_in (part.gates home)) r =
      has_flat (λ (e : GateEntry). ended_by e.deed) (part.gates home) entry r there (subst (λ (d : GateDeed). Contains (ended_by d) r) (sym deed-is) (has_head r [])) in
      let one = ended-in-part laws shared script upto start was is hands run closed end hand h home r ended in
      let step = one.left.part.has.followed.in_step in
      let since = step.in_step.ended home r (subst (λ (g : ℕ → List GateEntry). Contains (ended_in (g home)) r) (sym one.left.part.has.gates_are) ended) in
      let logged = start-logged laws shared script upto start was is hands run closed end begun before one.request (ap (request_at script) same ∙ one.request_is) in
      replied-new one.session one.left r since begun.stamp
      (subst (λ (x : ℕ × ℕ). Contains (begins_in (session_log start x.1)) (x.0, begun.stamp)) (λ i. (same i, one.session_is i)) logged)

  -- the hand has finished no programs but those that it began since the start
  pub finishes : FinishesOwnPrograms number start (seen_by hand)
  finishes home before entry after at own = by entry.deed refl
    where
      by : (deed : GateDeed) → entry.deed ≡ deed → FinishesItsOwn number start (seen_by hand) deed
      by (BeganTx r stamp) deed-is = tt
      by (BeganProgram r stamp) deed-is = tt
      by (Sent r messages) deed-is = tt
      by (Nop shard n stamp low) deed-is = tt
      by (Heard clock) deed-is = tt
      by (Raised epoch) deed-is = tt
      by (Finished r) deed-is =
          let log = gate_log (seen_by hand) home in
          let there = own-entry laws shared script upto start was is hands run hand part home before entry after at own in
          let right = subst (λ (n : ℕ). IsGateLog home n log) run.at_start.locks.shards (part.is_hand.legal.gate_logs home) in
          let rule = laws.ends home script.shards log right before entry after at in
          let ends = subst (λ (d : GateDeed). EndsAs before entry.author d) deed-is rule in
          let begun : BegunRequest = record { author = entry.author; request = r; stamp = ends.0 } in
          let place = since-place (gate_log start home) log (seen-on laws shared script upto start was is hands run hand part home) before entry after at own.1 in
          let parts : programs_of before ≡ programs_of (gate_log start home) ++ programs_of place.0 =
          ap programs_of place.1 ∙ flat_map-append (λ (e : GateEntry). program_by e.author e.deed) (gate_log start home) place.0 in
          elim (Contains-append_cases (programs_of (gate_log start home)) (programs_of place.0) begun (subst (λ (l : List BegunRequest). Contains l begun) parts ends.1)) [
            | inl early ↦ absurd (finished-new home r entry there deed-is begun (all-has start home begun (program-begun (gate_log start home) begun early)) refl)
            | inr since-then ↦
                let all : programs_of (entries_since (gate_log start home) log) ≡ programs_of place.0 ++ programs_of (entry ∷ after) =
                ap programs_of place.2 ∙ flat_map-append (λ (e : GateEntry). program_by e.author e.deed) place.0 (entry ∷ after) in (
                  home,
                  ends.0,
                  subst (λ (n : ℕ). Contains (programs_of (entries_since (gate_log start home) log)) (record { author = n; request = r; stamp = ends.0 })) own.0
                      (subst (λ (l : List BegunRequest). Contains l begun) (sym all)
                      (Contains-append_left (programs_of place.0) (programs_of (entry ∷ after)) begun since-then)),
                )
          ]
