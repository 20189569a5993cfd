-- Who read what: each visit is of a program that had begun at the start, or of one that its hand began since.
-- Used by Programs.
use Rattle.std.proofs.Common.{◌≡◌, ℕ, ◌<◌, ◌==◌, List, Contains, ◌⊎◌, inl, inr, sym, ap, subst, ◌∙◌, eq-eqb}
use Rattle.std.specs.List.{filter}
use Rattle.std.proofs.lemmas.Bool.{eqb-true}
use Rattle.weave_data.proofs.Members.{cut_at, filter_has, flat_has, has_filter, has_flat, has_none, only}
use Rattle.vector_stamp.specs.declared.clock.Stamp.{Stamp}
use Rattle.weave_entries.specs.declared.gate_log.GateEntry.{GateEntry}
use Rattle.weave_entries.specs.declared.shard_log.ShardEntry.{ShardEntry}
use Rattle.weave_entries.specs.declared.shard_log.ShardDeed.{ShardDeed}
use Rattle.weave_entries.specs.declared.shard_log.ShardDeed.TheVariants.{Arrived, Applied, Visited, Collected}
use Rattle.weave_entries.specs.GateReplay.{BegunRequest, begun_by, begun_in, programs_of}
use Rattle.weave_entries.specs.ShardReplay.{Visit, visit_by, visits_of}
use Rattle.weave_entries.proofs.OwnStamps.{program-begun}
use Rattle.weave_account.specs.declared.account.Account.{Account}
use Rattle.weave_account.specs.Account.{all_begun, gate_log, reads_of, shard_log}
use Rattle.weave_account.specs.Shards.{ShardFitsAs}
use Rattle.weave_account.proofs.GoesOn.{has-on}
use Rattle.hands_account.proofs.ByHands.{start-or-hand, start-within}
use Rattle.seen_logs.specs.Seen.{VisitsItsOwn, entries_since}
use Rattle.weaver_hands.specs.Programs.{own_reads}
use Rattle.weaver_locks.specs.declared.hand.Hand.{Hand}
use Rattle.weaver_locks.specs.Closing.{seen_by_number}
use Rattle.weaver_locks.specs.Hands.{hand_number, seen_by}
use Rattle.weaver_locks.specs.Locks.{hands_of}
use Rattle.workers_account.specs.Phase.{IsClosedBy}
use Rattle.workers_account.proofs.Begun.{all-has}
use Rattle.workers_account.proofs.Visited.{begun-author}
use Rattle.sessions_account.proofs.Joined.{same-sessions}
use Rattle.sessions_account.proofs.Runs.{Run, of-number, own-since, part, since-is}
use Rattle.sessions_account.proofs.SessionLogs.{begun-for}
use Rattle.sessions_account.proofs.Follows.{begun-new}

module _ (x : Run) where
  -- the hand of this number began the request since the start
  pub record BeganSince (r author : ℕ) : Type 0 where
    pub hand : Hand
    pub h : Contains x.hands hand
    pub number_is : hand_number hand ≡ author
    pub home : ℕ
    pub begun : BegunRequest
    pub there : Contains (begun_in ((part x hand h).gates home)) begun
    pub request_is : begun.request ≡ r

  -- what a hand began since the start, as it has seen it, it gained
  pub since-gained : (hand : Hand) (h : Contains x.hands hand) (home r : ℕ) (stamp : Stamp)
      → Contains (programs_of (entries_since (gate_log x.start home) (gate_log (seen_by hand) home))) (record { author = hand_number hand; request = r; stamp = stamp })
      → Contains (begun_in ((part x hand h).gates home)) (record { author = hand_number hand; request = r; stamp = stamp })
  since-gained hand h home r stamp there =
      let begun : BegunRequest = record { author = hand_number hand; request = r; stamp = stamp } in
      let more = entries_since (gate_log x.start home) (gate_log (seen_by hand) home) in
      let from = flat_has (λ (e : GateEntry). begun_by e.author e.deed) more begun (program-begun more begun there) in
      let own = begun-author from.0.author from.0.deed begun from.2 in
      has_flat (λ (e : GateEntry). begun_by e.author e.deed) ((part x hand h).gates home) from.0 begun
      (subst (λ (l : List GateEntry). Contains l from.0)
      (ap (filter (λ (e : GateEntry). e.author == hand_number hand)) (since-is x hand h home) ∙ own-since x hand h home)
      (has_filter (λ (e : GateEntry). e.author == hand_number hand) more from.0 from.1 (eq-eqb from.0.author (hand_number hand) own)))
      from.2

  abbrev HadBegun : ℕ → Type 0
  HadBegun r = (begun : BegunRequest) × Contains (all_begun x.start) begun × (begun.request ≡ r)

  -- a visit of the start is of a program that had begun
  visit-before : (shard : ℕ) (before : List ShardEntry) (author : ℕ) (deed : ShardDeed) (visit : Visit) → Contains (visit_by author deed) visit
      → ShardFitsAs x.script x.start shard before deed → HadBegun visit.request
  visit-before shard before author (Visited r stamp v updates settled) visit h fits =
      let same = only (record { author = author; request = r; stamp = stamp; vertex = v; updates = updates; settled = settled }) visit h in
      let begun : BegunRequest = record { author = fits.author; request = r; stamp = stamp } in
      (begun, all-has x.start fits.home begun (program-begun (gate_log x.start fits.home) begun fits.begun), ap (λ (y : Visit). y.request) same)
  visit-before shard before author (Arrived home number message) visit h fits = absurd (has_none visit h)
  visit-before shard before author (Applied home number) visit h fits = absurd (has_none visit h)
  visit-before shard before author (Collected bound) visit h fits = absurd (has_none visit h)

  -- one of a hand is of a program that it began since
  visit-since : (author : ℕ) → author < hands_of x.shared → (deed : ShardDeed) (visit : Visit) → Contains (visit_by author deed) visit
      → VisitsItsOwn author x.start (seen_by_number x.hands author) deed → BeganSince visit.request visit.author
  visit-since author low (Visited r stamp v updates settled) visit h own =
      let same = only (record { author = author; request = r; stamp = stamp; vertex = v; updates = updates; settled = settled }) visit h in
      let one = of-number x author low in
      let seen = subst (λ (y : ℕ × Account). Contains (programs_of (entries_since (gate_log x.start own.0) (gate_log y.1 own.0))) (record { author = y.0; request = r; stamp = stamp }))
      (λ i. (sym one.number_is i, one.seen_is i)) own.1 in
      record {
        hand = one.hand;
        h = one.there;
        number_is = one.number_is ∙ ap (λ (y : Visit). y.author) same;
        home = own.0;
        begun = record { author = hand_number one.hand; request = r; stamp = stamp };
        there = since-gained one.hand one.there own.0 r stamp seen;
        request_is = ap (λ (y : Visit). y.request) same;
      }
  visit-since author low (Arrived home number message) visit h own = absurd (has_none visit h)
  visit-since author low (Applied home number) visit h own = absurd (has_none visit h)
  visit-since author low (Collected bound) visit h own = absurd (has_none visit h)

  module _ (closed : Account) (end : IsClosedBy x.shared x.script x.start x.is x.hands closed) where
    -- so each visit of the closed logs is
    visit-of : (shard : ℕ) (visit : Visit) → Contains (visits_of (shard_log closed shard)) visit → HadBegun visit.request ⊎ BeganSince visit.request visit.author
    visit-of shard visit there =
        let from = flat_has (λ (e : ShardEntry). visit_by e.author e.deed) (shard_log closed shard) visit there in
        let cut = cut_at (shard_log closed shard) from.0 from.1 in
        elim (start-or-hand (hands_of x.shared) (shard_log x.start shard) (λ n. shard_log (seen_by_number x.hands n) shard) (shard_log closed shard)
        (λ n known. (end.of_hands.within n known).shards shard) ((start-within end.of_hands).shards shard)
        cut.before from.0 cut.after cut.is from.0.author (end.of_hands.shard_entries shard cut.before from.0 cut.after cut.is)) [
          | inl early ↦ inl (visit-before shard cut.before from.0.author from.0.deed visit from.2
              (x.served.at_start.is_account.shards.deeds shard cut.before from.0 early.0 early.1))
          | inr by ↦ inr (visit-since from.0.author by.known from.0.deed visit from.2
              (end.of_hands.own_visits from.0.author by.known shard cut.before from.0 by.rest by.at by.own))
        ]

    module _ (hand : Hand) (h : Contains x.hands hand) (home r : ℕ) (stamp : Stamp)
        (there : Contains (begun_in ((part x hand h).gates home)) (record { author = hand_number hand; request = r; stamp = stamp })) where
      -- a visit for what a hand began is its own
      visit-own : (shard : ℕ) (visit : Visit) → Contains (visits_of (shard_log closed shard)) visit → visit.request ≡ r → visit.author ≡ hand_number hand
      visit-own shard visit seen for-r =
          elim (visit-of shard visit seen) [
            | inl before ↦ absurd (begun-new x closed end hand h home _ there before.0 before.1 (before.2 ∙ for-r))
            | inr later ↦
                let one = begun-for x closed end hand h home _ there in
                let other = begun-for x closed end later.hand later.h later.home later.begun later.there in
                let same : other.session ≡ one.session = same-sessions x.script other.session one.session later.begun.request r other.of one.of (later.request_is ∙ for-r) in
                sym later.number_is ∙ sym other.left.given.1 ∙ ap x.served.hand_of same ∙ one.left.given.1
          ]

      -- so the hand's visits have read all that it has seen read for it
      pub all-own : own_reads hand r ≡ reads_of (seen_by hand) r
      all-own = x.laws.phase.reads_all hand r (λ shard visit seen.
          (let one = filter_has (λ (v : Visit). v.request == r) (visits_of (shard_log (seen_by hand) shard)) visit seen in
          let from = flat_has (λ (e : ShardEntry). visit_by e.author e.deed) (shard_log (seen_by hand) shard) visit one.0 in
          visit-own shard visit
          (has_flat (λ (e : ShardEntry). visit_by e.author e.deed) (shard_log closed shard) from.0 visit
          (has-on (shard_log (seen_by hand) shard) (shard_log closed shard) ((end.within hand h).shards shard) from.0 from.1) from.2)
          (eqb-true visit.request r one.1)))
