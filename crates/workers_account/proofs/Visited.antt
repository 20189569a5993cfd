-- Who read what in a phase: each visit is of a program that had begun at the start, or of one that its hand began
-- since.
-- Used by ByLog, HeardOf, HowFar, OneHand, OpenPairs, OwnWorkers, Programs and crate sessions_account.
use Rattle.std.proofs.Common.{◌≡◌, ◌≢◌, ℕ, ◌<◌, ◌==◌, false, List, ◌∷◌, ◌++◌, length, Contains, ◌⊎◌, inl, inr, sym, ap, subst, ◌∙◌, append_assoc, eq-eqb, arith}
use Rattle.std.specs.List.{filter}
use Rattle.std.proofs.lemmas.Bool.{eqb-true, ne_eqb}
use Rattle.std.proofs.lemmas.List.{append-nil, length-append}
use Rattle.std.proofs.lemmas.List.Concat.{flat_map-append}
use Rattle.std.proofs.lemmas.List.Elements.{filter-append}
use Rattle.std.proofs.lemmas.Option.{same_Some}
use Rattle.weave_data.proofs.ListPlaces.{all-from}
use Rattle.weave_data.proofs.Lists.{filter-none}
use Rattle.weave_data.proofs.Members.{cut_at, filter_has, flat_has, has_cut, has_filter, has_flat, has_none, only}
use Rattle.vector_stamp.specs.declared.clock.Stamp.{Stamp}
use Rattle.program_defs.specs.declared.script.Request.{Request}
use Rattle.program_defs.specs.declared.script.Script.{Script}
use Rattle.report_rules.specs.Lookups.{request_at}
use Rattle.weave_entries.specs.declared.gate_log.GateEntry.{GateEntry}
use Rattle.weave_entries.specs.declared.gate_log.GateDeed.{GateDeed}
use Rattle.weave_entries.specs.declared.shard_log.ShardEntry.{ShardEntry}
use Rattle.weave_entries.specs.declared.shard_log.ShardDeed.{ShardDeed}
use Rattle.weave_entries.specs.declared.shard_log.ShardDeed.TheVariants.{Arrived, Applied, Visited, Collected}
use Rattle.weave_entries.specs.GateReplay.{BegunRequest, begun_by, begun_in, programs_of}
use Rattle.weave_entries.specs.ShardReplay.{Visit, visit_by, visits_of}
use Rattle.weave_entries.proofs.OwnStamps.{program-begun}
use Rattle.weave_account.specs.declared.account.Account.{Account}
use Rattle.weave_account.specs.Account.{all_begun, gate_log, reads_of, shard_log}
use Rattle.weave_account.specs.GoesOn.{visits_by}
use Rattle.weave_account.specs.Shards.{ShardFitsAs}
use Rattle.weave_account.proofs.GoesOn.{has-on, longer}
use Rattle.hands_account.proofs.ByHands.{start-or-hand, start-within}
use Rattle.hands_account.proofs.Once.{begun-author as entry-author}
use Rattle.seen_logs.specs.Seen.{VisitsItsOwn, entries_since}
use Rattle.weaver_core.specs.declared.client.Client.{Client}
use Rattle.weaver_hands.specs.Programs.{own_reads}
use Rattle.weaver_locks.specs.declared.hand.Hand.{Hand}
use Rattle.weaver_locks.specs.declared.shared.Shared.{Shared}
use Rattle.weaver_locks.specs.Closing.{seen_by_number}
use Rattle.weaver_locks.specs.Hands.{hand_number, seen_by}
use Rattle.weaver_locks.specs.Locks.{hands_of}
use Rattle.workers_account.specs.Phase.{IsClosedBy, IsPhaseRun}
use Rattle.workers_account.specs.PhaseLaws.{PhaseLaws}
use Rattle.workers_account.proofs.Parts.{of-number, own-since, part-of}
use Rattle.workers_account.proofs.Begun.{BegunInPart, all-has, begun-in-part}
use Rattle.workers_account.proofs.Follows.{begun-new}
use Rattle.workers_account.proofs.Own.{since-is}

-- what an entry began has the entry's author
pub begun-author : (author : ℕ) (deed : GateDeed) (begun : BegunRequest) → Contains (begun_by author deed) begun → author ≡ begun.author
begun-author author deed begun h = entry-author author deed begun h

-- a visit has its entry's author
visit-author : (author : ℕ) (deed : ShardDeed) (visit : Visit) → Contains (visit_by author deed) visit → author ≡ visit.author
visit-author author (Visited r stamp v updates settled) visit h =
    ap (λ (x : Visit). x.author) (only (record { author = author; request = r; stamp = stamp; vertex = v; updates = updates; settled = settled }) visit h)
visit-author author (Arrived home number message) visit h = absurd (has_none visit h)
visit-author author (Applied home number) visit h = absurd (has_none visit h)
visit-author author (Collected bound) visit h = absurd (has_none visit h)

module _ (laws : PhaseLaws) (shared : Shared) (script : Script) (upto : ℕ) (start : Account) (was is : List Client) (hands : List Hand)
    (run : IsPhaseRun shared script upto start was is hands) (closed : Account) (end : IsClosedBy shared script start is hands closed) where
  -- the request had begun at the start
  pub record BeganBefore (r : ℕ) : Type 0 where
    pub begun : BegunRequest
    pub there : Contains (all_begun start) begun
    pub request_is : begun.request ≡ r

  -- the hand of this number began it since
  pub record BeganSince (r author : ℕ) : Type 0 where
    pub hand : Hand
    pub h : Contains hands hand
    pub number_is : hand_number hand ≡ author
    pub home : ℕ
    pub begun : BegunRequest
    pub there : Contains (begun_in ((part-of laws shared script upto start was is hands run hand h).gates home)) begun
    pub request_is : begun.request ≡ r

  -- what a hand began since the start, as it has seen it, is of its part
  pub since-part : (hand : Hand) (h : Contains hands hand) (home r : ℕ) (stamp : Stamp)
      → Contains (programs_of (entries_since (gate_log start home) (gate_log (seen_by hand) home))) (record { author = hand_number hand; request = r; stamp = stamp })
      → Contains (begun_in ((part-of laws shared script upto start was is hands run hand h).gates home)) (record { author = hand_number hand; request = r; stamp = stamp })
  since-part hand h home r stamp there =
      let part = part-of laws shared script upto start was is hands run hand h in
      let begun : BegunRequest = record { author = hand_number hand; request = r; stamp = stamp } in
      let more = entries_since (gate_log start home) (gate_log (seen_by hand) home) in
      let from = flat_has (λ (e : GateEntry). begun_by e.author e.deed) more begun (program-begun more begun there) in
      let own = begun-author from.0.author from.0.deed begun from.2 in
      has_flat (λ (e : GateEntry). begun_by e.author e.deed) (part.gates home) from.0 begun
      (subst (λ (l : List GateEntry). Contains l from.0)
      (ap (filter (λ (e : GateEntry). e.author == hand_number hand)) (since-is laws shared script upto start was is hands run hand part home)
      ∙ own-since laws shared script upto start was is hands run hand part home)
      (has_filter (λ (e : GateEntry). e.author == hand_number hand) more from.0 from.1 (eq-eqb from.0.author (hand_number hand) own)))
      from.2

  -- a visit of the start is of a program that had begun
  visit-before : (shard : ℕ) (before : List ShardEntry) (author : ℕ) (deed : ShardDeed) (visit : Visit) → Contains (visit_by author deed) visit
      → ShardFitsAs script start shard before deed → BeganBefore visit.request
  visit-before shard before author (Visited r stamp v updates settled) visit h fits =
      let same = only (record { author = author; request = r; stamp = stamp; vertex = v; updates = updates; settled = settled }) visit h in
      let begun : BegunRequest = record { author = fits.author; request = r; stamp = stamp } in
      record {
        begun = begun;
        there = all-has start fits.home begun (program-begun (gate_log start fits.home) begun fits.begun);
        request_is = ap (λ (x : Visit). x.request) same;
      }
  visit-before shard before author (Arrived home number message) visit h fits = absurd (has_none visit h)
  visit-before shard before author (Applied home number) visit h fits = absurd (has_none visit h)
  visit-before shard before author (Collected bound) visit h fits = absurd (has_none visit h)

  -- one of a hand is of a program that it began since
  pub visit-since : (author : ℕ) → author < hands_of shared → (deed : ShardDeed) (visit : Visit) → Contains (visit_by author deed) visit
      → VisitsItsOwn author start (seen_by_number hands author) deed → BeganSince visit.request visit.author
  visit-since author low (Visited r stamp v updates settled) visit h own =
      let same = only (record { author = author; request = r; stamp = stamp; vertex = v; updates = updates; settled = settled }) visit h in
      let one = of-number laws shared script upto start was is hands run author low in
      let seen = subst (λ (x : ℕ × Account). Contains (programs_of (entries_since (gate_log start own.0) (gate_log x.1 own.0))) (record { author = x.0; request = r; stamp = stamp }))
      (λ i. (sym one.number_is i, one.seen_is i)) own.1 in
      record {
        hand = one.hand;
        h = one.there;
        number_is = one.number_is ∙ ap (λ (x : Visit). x.author) same;
        home = own.0;
        begun = record { author = hand_number one.hand; request = r; stamp = stamp };
        there = since-part one.hand one.there own.0 r stamp seen;
        request_is = ap (λ (x : Visit). x.request) same;
      }
  visit-since author low (Arrived home number message) visit h own = absurd (has_none visit h)
  visit-since author low (Applied home number) visit h own = absurd (has_none visit h)
  visit-since author low (Collected bound) visit h own = absurd (has_none visit h)

  -- each visit in the closed logs is of a request that began before, or since by its author
  pub visit-of : (shard : ℕ) (visit : Visit) → Contains (visits_of (shard_log closed shard)) visit → BeganBefore visit.request ⊎ BeganSince visit.request visit.author
  visit-of shard visit there =
      let from = flat_has (λ (e : ShardEntry). visit_by e.author e.deed) (shard_log closed shard) visit there in
      let cut = cut_at (shard_log closed shard) from.0 from.1 in
      elim (start-or-hand (hands_of shared) (shard_log start shard) (λ n. shard_log (seen_by_number hands n) shard) (shard_log closed shard)
      (λ n known. (end.of_hands.within n known).shards shard) ((start-within end.of_hands).shards shard)
      cut.before from.0 cut.after cut.is from.0.author (end.of_hands.shard_entries shard cut.before from.0 cut.after cut.is)) [
        | inl early ↦ inl (visit-before shard cut.before from.0.author from.0.deed visit from.2
            (run.at_start.is_account.shards.deeds shard cut.before from.0 early.0 early.1))
        | inr by ↦ inr (visit-since from.0.author by.known from.0.deed visit from.2
            (end.of_hands.own_visits from.0.author by.known shard cut.before from.0 by.rest by.at by.own))
      ]

  module _ (hand : Hand) (h : Contains hands hand) (home r : ℕ) (stamp : Stamp)
      (there : Contains (begun_in ((part-of laws shared script upto start was is hands run hand h).gates home)) (record { author = hand_number hand; request = r; stamp = stamp })) where
    begun-here : BegunInPart laws shared script upto start was is hands run closed end (record { author = hand_number hand; request = r; stamp = stamp }) hand h
    begun-here = begun-in-part laws shared script upto start was is hands run closed end hand h home _ there

    -- a visit for what a hand began is its own
    pub visit-own : (shard : ℕ) (visit : Visit) → Contains (visits_of (shard_log closed shard)) visit → visit.request ≡ r → visit.author ≡ hand_number hand
    visit-own shard visit seen for-r =
        elim (visit-of shard visit seen) [
          | inl before ↦ absurd (begun-new laws shared script upto start was is hands run closed end hand h home _ there before.begun before.there (before.request_is ∙ for-r))
          | inr later ↦
              let other = begun-in-part laws shared script upto start was is hands run closed end later.hand later.h later.home later.begun later.there in
              let same : other.request ≡ begun-here.request =
              same_Some other.request begun-here.request (sym other.request_is ∙ ap (request_at script) (later.request_is ∙ for-r) ∙ begun-here.request_is) in
              let sessions : other.session ≡ begun-here.session = sym other.session_is ∙ ap (λ (q : Request). q.session) same ∙ begun-here.session_is in
              sym later.number_is ∙ sym other.left.part.mine ∙ ap run.hand_of sessions ∙ begun-here.left.part.mine
        ]

    -- so the hand's visits have read all that it has seen read for it
    pub all-own : own_reads hand r ≡ reads_of (seen_by hand) r
    all-own = laws.reads_all hand r (λ shard visit seen.
        (let one = filter_has (λ (v : Visit). v.request == r) (visits_of (shard_log (seen_by hand) shard)) visit seen in
        let from = flat_has (λ (e : ShardEntry). visit_by e.author e.deed) (shard_log (seen_by hand) shard) visit one.0 in
        visit-own shard visit
        (has_flat (λ (e : ShardEntry). visit_by e.author e.deed) (shard_log closed shard) from.0 visit
        (has-on (shard_log (seen_by hand) shard) (shard_log closed shard) ((end.within hand h).shards shard) from.0 from.1) from.2)
        (eqb-true visit.request r one.1)))

    -- no visit was made for it that the hand has not seen
    none-later : (shard : ℕ) (visit : Visit) → Contains (visits_of ((end.within hand h).shards shard).0) visit → visit.request ≢ r
    none-later shard visit later for-r =
        let seen = shard_log (seen_by hand) shard in
        let on = (end.within hand h).shards shard in
        let from = flat_has (λ (e : ShardEntry). visit_by e.author e.deed) on.0 visit later in
        let cut = cut_at on.0 from.0 from.1 in
        let at : shard_log closed shard ≡ (seen ++ cut.before) ++ from.0 ∷ cut.after =
        on.1 ∙ ap (λ (l : List ShardEntry). seen ++ l) cut.is ∙ sym (append_assoc seen cut.before (from.0 ∷ cut.after)) in
        let all : Contains (visits_of (shard_log closed shard)) visit =
        has_flat (λ (e : ShardEntry). visit_by e.author e.deed) (shard_log closed shard) from.0 visit
        (subst (λ (l : List ShardEntry). Contains l from.0) (sym at) (has_cut (seen ++ cut.before) from.0 cut.after)) from.2 in
        let mine : from.0.author ≡ hand_number hand = visit-author from.0.author from.0.deed visit from.2 ∙ visit-own shard visit all for-r in
        let many = length-append seen cut.before in
        let number = run.by_number hand h in
        elim (end.of_hands.shard_entries shard (seen ++ cut.before) from.0 cut.after at) [
          | inl early ↦
              let starts = ap (λ (a : Account). length (shard_log a shard)) number.1 in
              let longer-now = longer (shard_log start shard) (shard_log (seen_by_number hands (hand_number hand)) shard)
              ((end.of_hands.seen (hand_number hand) number.0).starts.shards shard) in
              absurd (omega (arith, early, many, starts, longer-now))
          | inr by ↦
              let less : length (seen ++ cut.before) < length seen = subst (λ (a : Account). length (seen ++ cut.before) < length (shard_log a shard)) number.1
              (subst (λ (n : ℕ). length (seen ++ cut.before) < length (shard_log (seen_by_number hands n) shard)) mine by.1) in
              absurd (omega (arith, less, many))
        ]

    -- and it has seen all visits that were made for it
    pub visits-seen : (shard : ℕ) → visits_by r (shard_log (seen_by hand) shard) ≡ visits_by r (shard_log closed shard)
    visits-seen shard =
        let for-it = λ (visit : Visit). visit.request == r in
        let seen = shard_log (seen_by hand) shard in
        let on = (end.within hand h).shards shard in
        sym (ap (visits_by r) on.1
        ∙ ap (filter for-it) (flat_map-append (λ (e : ShardEntry). visit_by e.author e.deed) seen on.0)
        ∙ filter-append for-it (visits_of seen) (visits_of on.0)
        ∙ ap (λ (l : List Visit). filter for-it (visits_of seen) ++ l)
        (filter-none for-it (visits_of on.0) (all-from (λ (visit : Visit). (visit.request == r) ≡ false) (visits_of on.0)
        (λ visit later. ne_eqb visit.request r (none-later shard visit later))))
        ∙ append-nil (filter for-it (visits_of seen)))
