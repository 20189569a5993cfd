-- The hand that goes on with a session at the end of a phase began all that was begun of it in the phase.
-- Used by HowFar.
use Rattle.std.proofs.Common.{◌≡◌, ℕ, zero, suc, ◌<◌, ◌≤◌, ◌==◌, List, [], ◌∷◌, ◌++◌, map, take, AllPairs, Contains, Option, None, Some, ◌⊎◌, inl, inr, refl, sym, ap, subst, ◌∙◌, arith}
use Rattle.std.specs.Prelude.{slice_get, IsSomeAnd}
use Rattle.std.specs.List.{filter}
use Rattle.std.proofs.lemmas.Bool.{cases_eq, eqb-true}
use Rattle.std.proofs.lemmas.Option.{none-some, same_Some}
use Rattle.weave_data.proofs.Images.{get-has}
use Rattle.weave_data.proofs.Members.{filter_has, flat_has, has_flat, has_map, has_none, has_read, only}
use Rattle.weave_data.proofs.Ordered.{pairs_head, pairs_tail}
use Rattle.vector_stamp.specs.declared.clock.Stamp.{Stamp}
use Rattle.vector_stamp.specs.Order.{id_of}
use Rattle.program_defs.specs.declared.script.Request.{Request}
use Rattle.program_defs.specs.declared.script.Script.{Script}
use Rattle.report_rules.specs.Lookups.{request_at}
use Rattle.weave_entries.specs.declared.gate_log.GateEntry.{GateEntry}
use Rattle.weave_entries.specs.declared.session_log.SessionEntry.{SessionEntry}
use Rattle.weave_entries.specs.GateReplay.{BegunRequest, begun_by, begun_in}
use Rattle.weave_entries.specs.SessionReplay.{begins_in, SessionState}
use Rattle.weave_account.specs.declared.account.Account.{Account}
use Rattle.weave_account.specs.Account.{all_begun, gate_log, session_log}
use Rattle.weave_account.specs.IsAccount.{IsAccount}
use Rattle.weave_account.proofs.InSession.{NoneBegun, SomeBegun}
use Rattle.seen_logs.proofs.MakesAccount.{one-begin}
use Rattle.hands_account.proofs.LastStamp.{IsAfter, last-begun}
use Rattle.weaver_core.specs.declared.client.Client.{Client}
use Rattle.weaver_core.specs.Sessions.{log_of_client, IsClientOf}
use Rattle.weaver_locks.specs.declared.hand.Hand.{Hand}
use Rattle.weaver_locks.specs.declared.shared.Shared.{Shared}
use Rattle.weaver_locks.specs.Following.{MayHear}
use Rattle.weaver_locks.specs.Hands.{hand_number, made_by}
use Rattle.weaver_locks.specs.Locks.{start_of}
use Rattle.weaver_locks.proofs.EachLog.{row-at}
use Rattle.weaver_workers.specs.Keeping.{KeepsClient}
use Rattle.workers_account.specs.Gained.{IsBegunAtItsGate}
use Rattle.workers_account.specs.Phase.{IsClosedBy, IsPhaseRun}
use Rattle.workers_account.specs.PhaseLaws.{PhaseLaws}
use Rattle.workers_account.proofs.Begun.{BegunInPart, LeftLog, all-has, begun-in-part, begun-on, gained-log, made-there}
use Rattle.workers_account.proofs.Follows.{begun-new}
use Rattle.workers_account.proofs.Parts.{part-of}
use Rattle.workers_account.proofs.SessionLogs.{begins-cases, begins-later, later-differs, log-at, pairs-take, pairs-unmap}
use Rattle.workers_account.proofs.Visited.{begun-author}

-- of rising numbers each of the first ones, up to a place, is at most the one at that place
front-most : (xs : List ℕ) → AllPairs (λ (a b : ℕ). a < b) xs → (n r a : ℕ) → slice_get xs n ≡ Some r → Contains (take (suc n) xs) a
    → a ≤ r
front-most [] rise n r a at h = absurd (none-some r at)
front-most (x ∷ xs) rise zero r a at h =
    let here = same_Some x r at in
    let same = only x a h in
    omega (arith, here, same)
front-most (x ∷ xs) rise (suc n) r a at h =
    elim (has_read x (take (suc n) xs) a h) [
      | inl here ↦
          let less = pairs_head (λ (a b : ℕ). a < b) x xs r rise (get-has xs n r at) in
          omega (arith, here, less)
      | inr more ↦ front-most xs (pairs_tail (λ (a b : ℕ). a < b) x xs rise) n r a at more
    ]

-- if a session's log gained begins, its last stamp is that of one of them
last-gained : (laws : PhaseLaws) (number : ℕ) (session : SessionState) (log early gained : List SessionEntry) → IsClientOf number session log
    → log ≡ early ++ gained → (r : ℕ) (stamp : Stamp) → Contains (begins_in gained) (r, stamp)
    → (q : ℕ) × (last : Stamp) × (session.last ≡ Some last) × Contains (begins_in gained) (q, last)
last-gained laws number session log early gained is split r stamp h =
    by (subst (λ (s : SessionState). IsAfter session.requests s (begins_in log)) (sym is.state) (last-begun number session.requests log is.right)).1
  where
    firsts : map (λ (begun : ℕ × Stamp). begun.0) (begins_in log) ≡ take session.begun session.requests
    firsts = laws.begun_first number session.requests log is.right ∙ ap (λ (s : SessionState). take s.begun session.requests) (sym is.state)

    among : Contains (take session.begun session.requests) r
    among =
        subst (λ (rs : List ℕ). Contains rs r) firsts
        (has_map (λ (begun : ℕ × Stamp). begun.0) (begins_in log) (r, stamp)
        (subst (λ (l : List SessionEntry). Contains (begins_in l) (r, stamp)) (sym split) (begins-later early gained r stamp h)))

    rise : AllPairs (λ (a b : ℕ × Stamp). a.0 < b.0) (begins_in (early ++ gained))
    rise =
        subst (λ (l : List SessionEntry). AllPairs (λ (a b : ℕ × Stamp). a.0 < b.0) (begins_in l)) split
        (pairs-unmap (λ (a b : ℕ). a < b) (λ (begun : ℕ × Stamp). begun.0) (begins_in log)
        (subst (AllPairs (λ (a b : ℕ). a < b)) (sym firsts) (pairs-take (λ (a b : ℕ). a < b) session.begun session.requests is.rising)))

    by : NoneBegun session ⊎ SomeBegun session.requests session (begins_in log)
        → (q : ℕ) × (last : Stamp) × (session.last ≡ Some last) × Contains (begins_in gained) (q, last)
    by (inl none) = absurd (has_none r (subst (λ (n : ℕ). Contains (take n session.requests) r) none.begun-is among))
    by (inr one) =
        elim (begins-cases early gained one.request one.stamp
        (subst (λ (l : List SessionEntry). Contains (begins_in l) (one.request, one.stamp)) split one.there)) [
          | inl before ↦
              let less = later-differs early gained rise one.request r one.stamp stamp before h in
              let most = front-most session.requests is.rising one.place one.request r one.at
              (subst (λ (n : ℕ). Contains (take n session.requests) r) one.begun-is among) in
              absurd (omega (arith, less, most))
          | inr since ↦ (one.request, one.stamp, one.last-is, since)
        ]

-- what was begun at its own gatekeeper was begun at some one
at-some-gate : (gates : ℕ → List GateEntry) (author number r : ℕ) (stamp : Stamp) (o : Option Request) → author ≡ number
    → IsSomeAnd o (λ (request : Request). Contains (begun_in (gates request.gate)) (record { author = author; request = r; stamp = stamp }))
    → (home : ℕ) × Contains (begun_in (gates home)) (record { author = number; request = r; stamp = stamp })
at-some-gate gates author number r stamp None same impossible = absurd impossible
at-some-gate gates author number r stamp (Some request) same begun = (
  request.gate,
  subst (λ (n : ℕ). Contains (begun_in (gates request.gate)) (record { author = n; request = r; stamp = stamp })) same begun,
)

module _ (laws : PhaseLaws) (shared : Shared) (script : Script) (upto : ℕ) (start : Account) (was is : List Client)
    (hands : List Hand) (run : IsPhaseRun shared script upto start was is hands) (closed : Account)
    (end : IsClosedBy shared script start is hands closed) (account : IsAccount script closed) where
  -- two begun requests with one stamp are one
  same-begin : (a b : BegunRequest) → Contains (all_begun closed) a → Contains (all_begun closed) b → a.stamp ≡ b.stamp → a ≡ b
  same-begin a b has-a has-b same =
      elim (cases_eq a.request b.request) [
        | inl one ↦ one-begin closed account.gatekeepers.once a b has-a has-b one
        | inr other ↦ absurd (laws.ids script closed run.at_start.limits account a b has-a has-b other (ap id_of same))
      ]

  -- what a followed session's log gained, its hand began at a gatekeeper
  gained-begun : (t : ℕ) (hand : Hand) (h : Contains hands hand) (left : LeftLog laws shared script upto start was is hands run closed end t hand h)
      → (r : ℕ) (stamp : Stamp) → Contains (begins_in left.part.has.followed.in_step.gained.session) (r, stamp)
      → (home : ℕ) × Contains (begun_in ((part-of laws shared script upto start was is hands run hand h).gates home))
      (record { author = hand_number hand; request = r; stamp = stamp })
  gained-begun t hand h left r stamp there =
      let part = part-of laws shared script upto start was is hands run hand h in
      at-some-gate part.gates (hand_number part.from) (hand_number hand) r stamp (request_at script r) part.number_is
      (subst (λ (gates : ℕ → List GateEntry). IsBegunAtItsGate script (hand_number part.from) gates r stamp) left.part.has.gates_are
      (left.part.has.followed.in_step.in_step.at_gate r stamp there))

  -- what a hand's part began is among all that was begun
  part-begun : (hand : Hand) (h : Contains hands hand) (home : ℕ) (begun : BegunRequest)
      → Contains (begun_in ((part-of laws shared script upto start was is hands run hand h).gates home)) begun → Contains (all_begun closed) begun
  part-begun hand h home begun there =
      let part = part-of laws shared script upto start was is hands run hand h in
      let from = flat_has (λ (e : GateEntry). begun_by e.author e.deed) (part.gates home) begun there in
      all-has closed home begun (has_flat (λ (e : GateEntry). begun_by e.author e.deed) (gate_log closed home) from.0 begun
      (made-there laws shared script upto start was is hands run closed end hand h home from.0 from.1) from.2)

  -- what a hand made at a gatekeeper, also before the phase, is there, with its number
  made-closed : (hand : Hand) → Contains hands hand → (home : ℕ) (begun : BegunRequest) → Contains (begun_in (gate_log (made_by hand) home)) begun
      → Contains (all_begun closed) begun × (begun.author ≡ hand_number hand)
  made-closed hand h home begun there =
      let own = λ (e : GateEntry). e.author == hand_number hand in
      let from = flat_has (λ (e : GateEntry). begun_by e.author e.deed) (gate_log (made_by hand) home) begun there in
      let one = filter_has own (gate_log closed home) from.0
      (subst (λ (l : List GateEntry). Contains l from.0)
      (sym (ap (λ (a : Account). gate_log a home) (end.made hand h)) ∙ row-at (filter own) refl closed.gates home) from.1) in (
        all-has closed home begun (has_flat (λ (e : GateEntry). begun_by e.author e.deed) (gate_log closed home) from.0 begun one.0 from.2),
        sym (begun-author (from.0).author (from.0).deed begun from.2) ∙ eqb-true (from.0).author (hand_number hand) one.1,
      )

  module _ (session : ℕ) (hand : Hand) (left : Client) (h : Contains hands hand) (left-is : slice_get is session ≡ Some left)
      (keeps : KeepsClient shared script session hand left) where
    module _ (other : Hand) (o : Contains hands other) (home : ℕ) (begun : BegunRequest)
        (there : Contains (begun_in ((part-of laws shared script upto start was is hands run other o).gates home)) begun)
        (same : (begun-in-part laws shared script upto start was is hands run closed end other o home begun there).session ≡ session) where
      abbrev one : BegunInPart laws shared script upto start was is hands run closed end begun other o
      one = begun-in-part laws shared script upto start was is hands run closed end other o home begun there

      abbrev gained : List SessionEntry
      gained = one.left.part.has.followed.in_step.gained.session

      -- the session's last stamp is that of a request that the other hand began
      last : (q : ℕ) × (stamp : Stamp) × (left.session.last ≡ Some stamp) × Contains (begins_in gained) (q, stamp)
      last =
          last-gained laws session left.session (log_of_client left) (session_log start one.session) gained keeps.at_end
          (sym (log-at closed is end.sessions session left left-is) ∙ ap (session_log closed) (sym same)
          ∙ gained-log laws shared script upto start was is hands run closed end one.session other o one.left)
          begun.request begun.stamp one.logged

      abbrev its : BegunRequest
      its = record { author = hand_number other; request = last.0; stamp = last.1 }

      began : (at : ℕ) × Contains (begun_in ((part-of laws shared script upto start was is hands run other o).gates at)) its
      began = gained-begun one.session other o one.left last.0 last.1 last.3

      -- this hand may let it be heard
      hear : MayHear shared hand last.1
      hear = keeps.last last.1 last.2

      is-it : Contains (all_begun closed) hear.begun → hear.begun ≡ its
      is-it has = same-begin hear.begun its has (part-begun other o began.0 its began.1) hear.stamp_is

      -- so a hand that began a request of the session in the phase has the number of this one
      pub one-hand : hand_number other ≡ hand_number hand
      one-hand = by hear.there
        where
          by : Contains (begun_in (gate_log (made_by hand) hear.home)) hear.begun
              ⊎ Contains (begun_in (gate_log (start_of shared) hear.home)) hear.begun → hand_number other ≡ hand_number hand
          by (inl made) =
              let in_closed = made-closed hand h hear.home hear.begun made in
              sym (ap (λ (b : BegunRequest). b.author) (is-it in_closed.0)) ∙ in_closed.1
          by (inr early) =
              let at_start = subst (λ (a : Account). Contains (begun_in (gate_log a hear.home)) hear.begun) run.at_start.start_is early in
              let in_closed = all-has closed hear.home hear.begun
              (begun-on laws shared script upto start was is hands run closed end hear.home hear.begun at_start) in
              absurd (begun-new laws shared script upto start was is hands run closed end other o began.0 its began.1 hear.begun
              (all-has start hear.home hear.begun at_start) (ap (λ (b : BegunRequest). b.request) (is-it in_closed)))
