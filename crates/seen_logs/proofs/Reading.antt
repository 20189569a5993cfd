-- At the end what a hand's program has read, and whether it has ended, is as its hand has seen; a program of the start
-- has read what it had read then.
-- Used by `programs_read_what_was_seen`.
use Rattle.std.proofs.Common.{◌≡◌, ◌≢◌, ℕ, ◌<◌, ◌≤◌, ◌==◌, Bool, true, false, List, [], ◌∷◌, ◌++◌, length, map, Contains, IsTrue, AllPairs, inl, inr, refl, sym, ap, subst, ◌∙◌, append_assoc, arith}
use Rattle.std.specs.List.{filter, flat_map}
use Rattle.std.proofs.lemmas.Bool.{cases_order, ne_eqb}
use Rattle.std.proofs.lemmas.List.{append-nil, length-append}
use Rattle.std.proofs.lemmas.List.Concat.{flat_map-append}
use Rattle.std.proofs.lemmas.List.Elements.{Contains-append_right, filter-append}
use Rattle.std.proofs.Math.Seq.{drop-append_seam}
use Rattle.weave_data.proofs.Lists.{filter-none}
use Rattle.weave_data.proofs.Members.{cut_at, filter_has, flat_has, has_cut, has_flat, has_none, only, drop_has}
use Rattle.weave_data.proofs.Numbers.{has-in, in-has}
use Rattle.weave_data.proofs.Ordered.{pairs_across}
use Rattle.weave_data.proofs.ListPlaces.{all-from}
use Rattle.weave_entries.specs.declared.gate_log.GateEntry.{GateEntry}
use Rattle.weave_entries.specs.declared.gate_log.GateDeed.{GateDeed}
use Rattle.weave_entries.specs.declared.gate_log.GateDeed.TheVariants.{BeganTx, BeganProgram, Sent, Nop, Heard, Raised, Finished}
use Rattle.weave_entries.specs.declared.shard_log.ShardEntry.{ShardEntry}
use Rattle.weave_entries.specs.GateReplay.{BegunRequest, begun_by, begun_in, ended_by, ended_in, program_by, programs_of, tx_by}
use Rattle.weave_entries.specs.GateRules.{EndsAs}
use Rattle.weave_entries.specs.ShardReplay.{Visit, reads_in, visit_by, visits_of}
use Rattle.weave_entries.specs.ShardRules.{IsShardLog}
use Rattle.weave_account.specs.declared.account.Account.{Account}
use Rattle.weave_account.specs.Account.{all_begun, gate_log, is_ended, reads_of, shard_log}
use Rattle.weave_account.specs.Gatekeepers.{BeginEachOnce}
use Rattle.seen_logs.specs.LowerLaws.{LawsForSeenLogs}
use Rattle.seen_logs.specs.Seen.{GatesGoOn, ShardsGoOn, entries_since, visit_entry}
use Rattle.seen_logs.proofs.Asking.{program-begun}
use Rattle.seen_logs.proofs.Closing.{IsEnd, begun-since, since-begun, since-start}
use Rattle.seen_logs.proofs.MakesAccount.{one-begin, tx-begun, visit-is}
use Rattle.seen_logs.proofs.Onward.{earlier-place, since-on}
use Rattle.seen_logs.proofs.Placed.{list-within, lists-across}
use Rattle.seen_logs.proofs.Updates.{read-stays, shard-before, within}
use Rattle.seen_logs.proofs.Within.{all-later}
use Rattle.weave_account.proofs.VisitsStay.{flat-alike, read-in, map-alike}
use Rattle.weave_account.proofs.Beginning.{list-there}
use Rattle.weave_account.proofs.Replying.{place-of}
use Rattle.weave_account.proofs.GoesOn.{has-on, longer, flat-on}

-- Lists

-- two tests are equal if the first holds exactly if the second does
same-test : (a b : Bool) → (IsTrue a → IsTrue b) → (IsTrue b → IsTrue a) → a ≡ b
same-test true true f g = refl
same-test true false f g = sym (f refl)
same-test false true f g = g refl
same-test false false f g = refl

-- No later visit

-- the shards' logs have no visit of the request past what they were
abbrev NoneLater : Account → Account → ℕ → Type 0
NoneLater old closed r = (shard : ℕ) (before : List ShardEntry) (visit : Visit) (after : List ShardEntry)
    → shard_log closed shard ≡ before ++ visit_entry visit ∷ after → length (shard_log old shard) ≤ length before → visit.request ≢ r

module _ (laws : LawsForSeenLogs) (gates : ℕ) (old closed : Account) (on : ShardsGoOn old closed)
    (legal : (shard : ℕ) → IsShardLog gates (shard_log closed shard)) (r : ℕ) (none : NoneLater old closed r) where
  none-since : (shard : ℕ) → filter (λ (visit : Visit). visit.request == r) (visits_of (on shard).0) ≡ []
  none-since shard =
      filter-none (λ (visit : Visit). visit.request == r) (visits_of (on shard).0)
      (all-from (λ (visit : Visit). (visit.request == r) ≡ false) (visits_of (on shard).0)
      (λ visit h. (
      let log = shard_log old shard in
      let entry = flat_has (λ (e : ShardEntry). visit_by e.author e.deed) (on shard).0 visit h in
      let cut = cut_at (on shard).0 entry.0 entry.1 in
      let same = visit-is (entry.0).author (entry.0).deed visit entry.2 in
      let at : shard_log closed shard ≡ (log ++ cut.before) ++ visit_entry visit ∷ cut.after =
      (on shard).1 ∙ ap (λ l. log ++ l) (cut.is ∙ ap (λ e. cut.before ++ e ∷ cut.after) (sym same))
      ∙ sym (append_assoc log cut.before (visit_entry visit ∷ cut.after)) in
      let many = length-append log cut.before in
      ne_eqb visit.request r (none shard (log ++ cut.before) visit cut.after at (omega (arith, many))))))

  visits-same : (shard : ℕ) → filter (λ (visit : Visit). visit.request == r) (visits_of (shard_log closed shard))
      ≡ filter (λ (visit : Visit). visit.request == r) (visits_of (shard_log old shard))
  visits-same shard =
      let log = shard_log old shard in
      let p = λ (visit : Visit). visit.request == r in
      ap (λ l. filter p (visits_of l)) (on shard).1
      ∙ ap (filter p) (flat_map-append (λ (e : ShardEntry). visit_by e.author e.deed) log (on shard).0)
      ∙ filter-append p (visits_of log) (visits_of (on shard).0)
      ∙ ap (λ l. filter p (visits_of log) ++ l) (none-since shard)
      ∙ append-nil (filter p (visits_of log))

  reads-same : (shard : ℕ) → reads_in r (shard_log closed shard) ≡ reads_in r (shard_log old shard)
  reads-same shard =
      let log = shard_log old shard in
      let whole : IsShardLog gates (log ++ (on shard).0) = subst (IsShardLog gates) (on shard).1 (legal shard) in
      ap (map (read-in (shard_log closed shard))) (visits-same shard)
      ∙ map-alike (read-in (shard_log closed shard)) (read-in log) (filter (λ (visit : Visit). visit.request == r) (visits_of log))
      (λ visit h. (
      let there = filter_has (λ (visit : Visit). visit.request == r) (visits_of log) visit h in
      ap (λ l. read-in l visit) (on shard).1
      ∙ read-stays laws gates log (on shard).0 whole visit (within laws gates log (shard-before gates log (on shard).0 whole) visit there.0)))

  -- so it reads the same
  all-same : reads_of closed r ≡ reads_of old r
  all-same = flat-alike (reads_in r) refl closed.shards old.shards reads-same

module _ {gates shards hands : ℕ} {start : Account} {seen_by : ℕ → Account} {closed : Account} (end : IsEnd gates shards hands start seen_by closed)
    (once : BeginEachOnce closed) where
  -- Programs of hands

  module _ (number : ℕ) (known : number < hands) (home : ℕ) (begun : BegunRequest) (author_is : begun.author ≡ number)
      (there : Contains (programs_of (entries_since (gate_log start home) (gate_log (seen_by number) home))) begun) where
    began : Contains (all_begun closed) begun
    began = since-begun end number known home begun there

    none-of-others : NoneLater (seen_by number) closed begun.request
    none-of-others shard before visit after at late same =
        let starts = longer _ _ ((end.of.seen number known).starts.shards shard) in
        let is-of = since-start end shard before (visit_entry visit) after at (omega (arith, starts, late)) in
        let other = begun-since end shard before visit after at is-of in
        let one = one-begin closed once _ _ (since-begun end visit.author is-of.known other.0 _ other.1) began same in
        let authors : visit.author ≡ number = ap (λ (b : BegunRequest). b.author) one ∙ author_is in
        let less : length before < length (shard_log (seen_by number) shard) = subst
        (λ n. length before < length (shard_log (seen_by n) shard)) authors is-of.less in
        omega (arith, less, late)

    -- at the end it has read what its hand has seen
    pub own-reads : reads_of closed begun.request ≡ reads_of (seen_by number) begun.request
    own-reads = all-same end.laws gates (seen_by number) closed (end.of.within number known).shards end.legal.shard_logs begun.request none-of-others

    ends-own : (home : ℕ) (before : List GateEntry) (author : ℕ) (deed : GateDeed) (after : List GateEntry) (r : ℕ)
        → gate_log closed home ≡ before ++ record { author = author; deed = deed } ∷ after
        → EndsAs before author deed → Contains (ended_by deed) r → r ≡ begun.request → author ≡ number
    ends-own home before author (Sent request messages) after r at ends h same =
        let tx = flat_has (λ (e : GateEntry). tx_by e.author e.deed) before _ ends.1 in
        let all = has_flat (λ (e : GateEntry). tx_by e.author e.deed) (gate_log closed home) tx.0 _
        (subst (λ l. Contains l tx.0) (sym at) (has-on before _ (record { author = author; deed = Sent request messages } ∷ after, refl) tx.0 tx.1)) tx.2 in
        ap (λ (b : BegunRequest). b.author) (one-begin closed once _ _ (tx-begun closed home _ all) began (only request r h ∙ same)) ∙ author_is
    ends-own home before author (Finished request) after r at ends h same =
        let program = flat_has (λ (e : GateEntry). program_by e.author e.deed) before _ ends.1 in
        let all = has_flat (λ (e : GateEntry). program_by e.author e.deed) (gate_log closed home) program.0 _
        (subst (λ l. Contains l program.0) (sym at)
        (has-on before _ (record { author = author; deed = Finished request } ∷ after, refl) program.0 program.1)) program.2 in
        ap (λ (b : BegunRequest). b.author) (one-begin closed once _ _ (program-begun closed home _ all) began (only request r h ∙ same)) ∙ author_is
    ends-own home before author (BeganTx q stamp) after r at ends h same = absurd (has_none r h)
    ends-own home before author (BeganProgram q stamp) after r at ends h same = absurd (has_none r h)
    ends-own home before author (Nop shard n stamp low) after r at ends h same = absurd (has_none r h)
    ends-own home before author (Heard clock) after r at ends h same = absurd (has_none r h)
    ends-own home before author (Raised epoch) after r at ends h same = absurd (has_none r h)

    seen-end : (home : ℕ) → Contains (ended_in (gate_log closed home)) begun.request → Contains (ended_in (gate_log (seen_by number) home)) begun.request
    seen-end home h =
        let log = gate_log closed home in
        let entry = flat_has (λ (e : GateEntry). ended_by e.deed) log begun.request h in
        let cut = cut_at log entry.0 entry.1 in
        let by = ends-own home cut.before (entry.0).author (entry.0).deed cut.after begun.request cut.is
        (end.laws.ends home shards log (end.legal.gate_logs home) cut.before entry.0 cut.after cut.is) entry.2 refl in
        let less : length cut.before < length (gate_log (seen_by number) home) = (elim (end.of.gate_entries home cut.before entry.0 cut.after cut.is) [
          | inl given ↦ (let starts = longer _ _ ((end.of.seen number known).starts.gates home) in omega (arith, starts, given))
          | inr own ↦ subst (λ n. length cut.before < length (gate_log (seen_by n) home)) by own.1
        ]) in
        let place = earlier-place (gate_log (seen_by number) home) log ((end.of.within number known).gates home) cut.before entry.0 cut.after cut.is less in
        has_flat (λ (e : GateEntry). ended_by e.deed) (gate_log (seen_by number) home) entry.0 begun.request
        (subst (λ l. Contains l entry.0) (sym place.1) (has_cut cut.before entry.0 place.0)) entry.2

    end-there : (account other : Account)
        → ((home : ℕ) → Contains (ended_in (gate_log account home)) begun.request → Contains (ended_in (gate_log other home)) begun.request)
        → IsTrue (is_ended account begun.request) → IsTrue (is_ended other begun.request)
    end-there account other each ended =
        let log = flat_has ended_in account.gates begun.request (has-in (flat_map ended_in account.gates) begun.request ended) in
        let place = place-of account.gates log.0 log.1 in
        let now = each place.0 (subst (λ l. Contains (ended_in l) begun.request) (sym place.1) log.2) in
        let entry = flat_has (λ (e : GateEntry). ended_by e.deed) (gate_log other place.0) begun.request now in
        in-has (flat_map ended_in other.gates) begun.request
        (has_flat ended_in other.gates (gate_log other place.0) begun.request (list-there other.gates place.0 entry.0 entry.1) now)

    -- and it has ended exactly if its hand has seen that
    pub own-end : is_ended closed begun.request ≡ is_ended (seen_by number) begun.request
    own-end =
        same-test (is_ended closed begun.request) (is_ended (seen_by number) begun.request)
        (end-there closed (seen_by number) seen-end)
        (end-there (seen_by number) closed (λ home h. has-on (ended_in (gate_log (seen_by number) home)) (ended_in (gate_log closed home))
        (flat-on (λ (e : GateEntry). ended_by e.deed) (gate_log (seen_by number) home) (gate_log closed home)
        ((end.of.within number known).gates home)) begun.request h))

  -- Programs of the start

  start-within : GatesGoOn start closed
  start-within home =
      let some = end.of.some in
      (all-later start (seen_by 0) closed (end.of.seen 0 (omega (arith, some))).starts (end.of.within 0 (omega (arith, some)))).gates home

  start-shards : ShardsGoOn start closed
  start-shards shard =
      let some = end.of.some in
      (all-later start (seen_by 0) closed (end.of.seen 0 (omega (arith, some))).starts (end.of.within 0 (omega (arith, some)))).shards shard

  -- what was begun at the start was not begun again since
  not-twice : (h home : ℕ) (x y : BegunRequest) → Contains (begun_in (gate_log start h)) x → Contains (begun_in (entries_since (gate_log start home) (gate_log closed home))) y
      → x.request ≢ y.request
  not-twice h home x y hx hy same =
      elim (cases_order h home) [
        | inl at_one ↦
            let log = gate_log start home in
            let more = start-within home in
            let rest : entries_since log (gate_log closed home) ≡ more.0 = ap (λ l. entries_since log l) more.1 ∙ drop-append_seam log more.0 in
            let parts : begun_in (gate_log closed home) ≡ begun_in log ++ begun_in more.0 =
            ap begun_in more.1 ∙ flat_map-append (λ (e : GateEntry). begun_by e.author e.deed) log more.0 in
            pairs_across R (begun_in log) (begun_in more.0) x y
            (subst (AllPairs R) parts (list-within R begun_in refl closed.gates once home))
            (subst (λ k. Contains (begun_in (gate_log start k)) x) at_one hx) (subst (λ l. Contains (begun_in l) y) rest hy) same
        | inr (inl first) ↦ lists-across R begun_in refl closed.gates once h home first x y (in-all h x hx) (in-since home y hy) same
        | inr (inr second) ↦ lists-across R begun_in refl closed.gates once home h second y x (in-since home y hy) (in-all h x hx) (sym same)
      ]
    where
      R : BegunRequest → BegunRequest → Type 0
      R a b = a.request ≢ b.request

      in-all : (k : ℕ) (b : BegunRequest) → Contains (begun_in (gate_log start k)) b → Contains (begun_in (gate_log closed k)) b
      in-all k b g =
          has-on (begun_in (gate_log start k)) (begun_in (gate_log closed k))
          (flat-on (λ (e : GateEntry). begun_by e.author e.deed) (gate_log start k) (gate_log closed k) (start-within k)) b g

      in-since : (k : ℕ) (b : BegunRequest) → Contains (begun_in (entries_since (gate_log start k) (gate_log closed k))) b → Contains (begun_in (gate_log closed k)) b
      in-since k b g =
          let entry = flat_has (λ (e : GateEntry). begun_by e.author e.deed) (entries_since (gate_log start k) (gate_log closed k)) b g in
          has_flat (λ (e : GateEntry). begun_by e.author e.deed) (gate_log closed k) entry.0 b
          (drop_has (length (gate_log start k)) (gate_log closed k) entry.0 entry.1) entry.2

  module _ (home : ℕ) (begun : BegunRequest) (there : Contains (begun_in (gate_log start home)) begun) where
    none-since-start : NoneLater start closed begun.request
    none-since-start shard before visit after at late same =
        let is-of = since-start end shard before (visit_entry visit) after at late in
        let other = begun-since end shard before visit after at is-of in
        let on = (end.of.within visit.author is-of.known).gates other.0 in
        let starts = longer _ _ ((end.of.seen visit.author is-of.known).starts.gates other.0) in
        let more = since-on (gate_log start other.0) (gate_log (seen_by visit.author) other.0) (gate_log closed other.0) starts on in
        let entry = flat_has (λ (e : GateEntry). program_by e.author e.deed)
        (entries_since (gate_log start other.0) (gate_log (seen_by visit.author) other.0)) _ other.1 in
        let later = has-on (entries_since (gate_log start other.0) (gate_log (seen_by visit.author) other.0))
        (entries_since (gate_log start other.0) (gate_log closed other.0)) more entry.0 entry.1 in
        not-twice home other.0 begun _ there
        (has_flat (λ (e : GateEntry). begun_by e.author e.deed) (entries_since (gate_log start other.0) (gate_log closed other.0)) entry.0 _ later
        (Contains-append_right (tx_by (entry.0).author (entry.0).deed) (program_by (entry.0).author (entry.0).deed) _ entry.2)) (sym same)

    -- what was begun at the start has read what it had read then
    pub start-reads : reads_of closed begun.request ≡ reads_of start begun.request
    start-reads = all-same end.laws gates start closed start-shards end.legal.shard_logs begun.request none-since-start
