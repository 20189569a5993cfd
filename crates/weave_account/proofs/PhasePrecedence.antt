-- In a run by phases no request of a later phase precedes one of an earlier phase. It rests on the clauses on
-- gatekeepers, clocks, sessions and the oracle.
-- Used by `stamps_are_begun` and PhasesKept.
use Rattle.std.proofs.Common.{◌≡◌, ◌≢◌, ℕ, ◌+◌, ◌<◌, ◌≤◌, ◌==◌, ◌&&◌, Bool, cond, List, [], ◌∷◌, ◌++◌, map, Contains, IsTrue, Option, Some, None, ◌⊎◌, inl, inr, refl, sym, ap, subst, ◌∙◌, append_assoc, arith}
use Rattle.std.specs.List.{count_by}
use Rattle.std.proofs.lemmas.Bool.{cases_eq, cases_lt, eq-eqb}
use Rattle.std.proofs.lemmas.List.Concat.{flat_map-append}
use Rattle.std.proofs.lemmas.List.Elements.{Contains-append_cases}
use Rattle.std.proofs.lemmas.List.Sums.{fold-append}
use Rattle.weave_data.proofs.Ends.{count_push, flat_push}
use Rattle.weave_data.proofs.Entries.{each_before}
use Rattle.weave_data.proofs.Members.{has_none, has_map, has_read, only, cut_at}
use Rattle.weave_data.proofs.Ordered.{pairs_cases}
use Rattle.vector_stamp.specs.declared.clock.Clock.{Clock}
use Rattle.vector_stamp.specs.declared.clock.Stamp.{Stamp}
use Rattle.vector_stamp.specs.Order.{count_of, stamp_before}
use Rattle.vector_stamp.specs.Precedence.{GivenPair, JoinsEvents, PrecedesAmong, AmongByStamps, AmongByPair, AmongThrough}
use Rattle.program_defs.specs.declared.script.Request.{Request}
use Rattle.program_defs.specs.declared.script.Script.{Script}
use Rattle.weave_entries.specs.declared.gate_log.GateEntry.{GateEntry}
use Rattle.weave_entries.specs.declared.gate_log.GateDeed.{GateDeed}
use Rattle.weave_entries.specs.declared.gate_log.GateDeed.TheVariants.{BeganTx, BeganProgram, Sent, Nop, Heard, Raised, Finished}
use Rattle.weave_entries.specs.GateReplay.{BegunRequest, begun_by, begun_in, clock_after, clock_of, stamps_by, stamps_of, ticks_of}
use Rattle.weave_entries.specs.GateRules.{FitsAs, IsGateLog}
use Rattle.report_rules.specs.declared.report.Pair.{Pair}
use Rattle.program_defs.specs.declared.script.Work.{Work}
use Rattle.report_rules.specs.Lookups.{is_some_and, request_at}
use Rattle.report_rules.specs.Meetings.{phase_of}
use Rattle.weave_account.specs.declared.account.Account.{Account}
use Rattle.weave_account.specs.Account.{all_begun, gate_log, pairs_in, Precedence, stamp_of}
use Rattle.weave_account.specs.Clocks.{IsKnown}
use Rattle.weave_account.specs.Pairs.{ArePairsOf, IsPairInAccount}
use Rattle.weave_account.specs.PairsByPlace.{placed_pairs}
use Rattle.weave_account.specs.Phases.{EndsPhase, IsRunByPhases}
use Rattle.weave_account.proofs.Basis.{Basis}
use Rattle.weave_account.proofs.Beginning.{all-in, begun-stamp}
use Rattle.weave_account.proofs.BegunStamps.{clock-there}
use Rattle.weave_account.proofs.Growing.{begun-stays}
use Rattle.weave_data.proofs.Counting.{count-more}
use Rattle.weave_data.proofs.Images.{flat-has, map-has}
use Rattle.weave_account.proofs.PhaseOrder.{at-end, replied-begun}
use Rattle.weave_account.proofs.PlacedPairs.{one-request, placed-are}
use Rattle.weave_account.proofs.RepliesClause.{begin-of}
use Rattle.weave_account.proofs.Replying.{begun-rightly, home-below}

-- One begin

-- what a begin leaves as the clock, and the one event that it is
record IsEvent (home : ℕ) (before : Clock) (deed : GateDeed) (begun : BegunRequest) : Type 0 where
  clock : clock_after home before deed ≡ begun.stamp.clock
  stamps : stamps_by deed ≡ begun.stamp ∷ []

begin-event : (home author : ℕ) (before : Clock) (deed : GateDeed) (begun : BegunRequest) → Contains (begun_by author deed) begun
    → IsEvent home before deed begun
begin-event home author before (BeganTx r stamp) begun h =
    let same = only _ begun h in record { clock = ap (λ (b : BegunRequest). b.stamp.clock) same; stamps = ap (λ (b : BegunRequest). b.stamp ∷ []) same }
begin-event home author before (BeganProgram r stamp) begun h =
    let same = only _ begun h in record { clock = ap (λ (b : BegunRequest). b.stamp.clock) same; stamps = ap (λ (b : BegunRequest). b.stamp ∷ []) same }
begin-event home author before (Sent r messages) begun h = absurd (has_none begun h)
begin-event home author before (Nop to number stamp low) begun h = absurd (has_none begun h)
begin-event home author before (Heard clock) begun h = absurd (has_none begun h)
begin-event home author before (Raised epoch) begun h = absurd (has_none begun h)
begin-event home author before (Finished r) begun h = absurd (has_none begun h)

-- a begin counts one more than the ticks of its epoch before it
begin-count : (script : Script) (account : Account) (basis : Basis script account) (home : ℕ) (begun : BegunRequest)
    → Contains (begun_in (gate_log account home)) begun
    → (before : List GateEntry) (entry : GateEntry) (after : List GateEntry) → gate_log account home ≡ before ++ entry ∷ after
    → Contains (begun_by entry.author entry.deed) begun
    → count_of home begun.stamp.clock ≡ ticks_of begun.stamp.clock.epoch before + 1
begin-count script account basis home begun there before entry after is h =
    let event = begin-event home entry.author (clock_of home before) entry.deed begun h in
    let log = before ++ entry ∷ [] in
    let right : IsGateLog home script.shards log = each_before (λ b (e : GateEntry). FitsAs home script.shards b e.author e.deed) log after
    (subst (IsGateLog home script.shards) (is ∙ sym (append_assoc before (entry ∷ []) after)) (basis.is.gatekeepers.logs home)) in
    let clock : clock_of home log ≡ begun.stamp.clock =
    fold-append (λ c (e : GateEntry). clock_after home c e.deed) _ before (entry ∷ []) ∙ event.clock in
    let counts : count_of home (clock_of home log) ≡ ticks_of (clock_of home log).epoch log =
    basis.laws.ticks home script.shards log (home-below script account basis home begun there) right in
    let ticks : count_of home begun.stamp.clock ≡ ticks_of begun.stamp.clock.epoch log =
    subst (λ (c : Clock). count_of home c ≡ ticks_of c.epoch log) clock counts in
    let stamps : stamps_of log ≡ stamps_of before ++ begun.stamp ∷ [] =
    flat_push (λ (e : GateEntry). stamps_by e.deed) before entry ∙ ap (λ ss. stamps_of before ++ ss) event.stamps in
    ticks ∙ ap (count_by (λ (s : Stamp). s.clock.epoch == begun.stamp.clock.epoch)) stamps
    ∙ count_push (λ (s : Stamp). s.clock.epoch == begun.stamp.clock.epoch) (stamps_of before) begun.stamp
    ∙ ap (λ b. ticks_of begun.stamp.clock.epoch before + cond b 1 0) (eq-eqb begun.stamp.clock.epoch begun.stamp.clock.epoch refl)

-- a longer log has at least as many ticks of an epoch
ticks-front : (epoch : ℕ) (log more : List GateEntry) → ticks_of epoch log ≤ ticks_of epoch (log ++ more)
ticks-front epoch log more =
    let stamps = ap (count_by (λ (s : Stamp). s.clock.epoch == epoch)) (flat_map-append (λ (e : GateEntry). stamps_by e.deed) log more) in
    let le = count-more (λ (s : Stamp). s.clock.epoch == epoch) (stamps_of log) (stamps_of more) in
    omega (arith, stamps, le)

-- the script has each begun request
request-of : (script : Script) (account : Account) (basis : Basis script account) (b : BegunRequest) → Contains (all_begun account) b
    → (request : Request) × (request_at script b.request ≡ Some request)
request-of script account basis b h =
    let right = begun-rightly script account basis b h in at right.home right.kind (request_at script b.request) refl (right.rule).own
  where
    at : (home : ℕ) (kind : Work → Bool) (o : Option Request) → request_at script b.request ≡ o
        → IsTrue (is_some_and (λ (request : Request). (request.gate == home) && kind request.work) o)
        → (request : Request) × (request_at script b.request ≡ Some request)
    at home kind None e own = cc
    at home kind (Some request) e own = (request, e)

-- Pairs join begun events

pair-ends : (account : Account) (pairs : List Pair) (givens : List GivenPair) (given : GivenPair) → ArePairsOf account pairs givens
    → Contains givens given → (pair : Pair) × IsPairInAccount account pair given
pair-ends account [] [] given are h = absurd (has_none given h)
pair-ends account [] (first ∷ givens) given are h = absurd are
pair-ends account (pair ∷ pairs) [] given are h = absurd are
pair-ends account (pair ∷ pairs) (first ∷ givens) given are h =
    elim (has_read first givens given h) [
      | inl same ↦ (pair, subst (IsPairInAccount account pair) same are.0)
      | inr more ↦ pair-ends account pairs givens given are.1 more
    ]

module _ (script : Script) (account : Account) (basis : Basis script account) where
  -- the stamps of all begun requests
  abbrev events : List Stamp
  events = map (λ (b : BegunRequest). b.stamp) (all_begun account)

  event-of : (r : ℕ) (stamp : Stamp) → stamp_of account r ≡ Some stamp → Contains events stamp
  event-of r stamp e =
      let b = begin-of script account basis r stamp e in
      subst (Contains events) b.3 (has_map (λ (k : BegunRequest). k.stamp) (all_begun account) b.0 b.1)

  -- each pair of the oracle joins two of them
  pub joins : JoinsEvents events (pairs_in account)
  joins a b h =
      let pair = pair-ends account (placed_pairs account) (pairs_in account) (a, b) (placed-are script account basis) h in
      (event-of (pair.0).earlier a (pair.1).earlier_is, event-of (pair.0).later b (pair.1).later_is)

  -- the request of an event
  begin-at : (stamp : Stamp) → Contains events stamp → (b : BegunRequest) × Contains (all_begun account) b × (b.stamp ≡ stamp)
  begin-at stamp h = let image = map-has (λ (b : BegunRequest). b.stamp) (all_begun account) stamp h in (image.of, image.has, image.is)

  module _ (phase : ℕ) (logs : Account) (ends : EndsPhase script account phase logs) where
    -- it was begun after the phase
    abbrev IsLate : Stamp → Type 0
    IsLate stamp = (b : BegunRequest) → Contains (all_begun account) b → b.stamp ≡ stamp → phase < phase_of script b.request

    -- a begin of the logs at the end of the phase is one of the account, of that phase or an earlier one
    early : (b : BegunRequest) → Contains (all_begun logs) b → Contains (all_begun account) b × (phase_of script b.request ≤ phase)
    early b h = (begun-stays script logs account ends.goes_on b h, ends.begun b h)

    -- what was begun in the phase or before was begun by its end
    begun-by-then : (b : BegunRequest) → Contains (all_begun account) b → phase_of script b.request ≤ phase → Contains (all_begun logs) b
    begun-by-then b h le =
        let request = request-of script account basis b h in
        let then =
        replied-begun script logs (at-end script account basis phase logs ends) b.request (request.0).session
        (ends.replied b.request request.0 request.1 le) in
        at b then.0 then.1 then.2
        (pairs_cases (λ (x y : BegunRequest). x.request ≢ y.request) (all_begun account) basis.is.gatekeepers.once b then.0 h (early then.0 then.1).0)
      where
        at : (b c : BegunRequest) → Contains (all_begun logs) c → c.request ≡ b.request
            → (b ≡ c) ⊎ ((b.request ≢ c.request) ⊎ (c.request ≢ b.request)) → Contains (all_begun logs) b
        at b c there same (inl is) = subst (Contains (all_begun logs)) (sym is) there
        at b c there same (inr (inl differ)) = absurd (differ (sym same))
        at b c there same (inr (inr differ)) = absurd (differ same)

    -- an event that isn't late has a clock that was known at the end of the phase, in epoch 0
    known-then : (b : BegunRequest) → Contains (all_begun logs) b → IsKnown logs b.stamp.clock × (b.stamp.clock.epoch ≡ 0)
    known-then b h =
        let right = begun-rightly script logs (at-end script account basis phase logs ends) b h in
        let known = ends.is_account.clocks.known right.home b.stamp.clock (clock-there (gate_log logs right.home) b right.there) in
        (known, elim (cases_eq b.stamp.clock.epoch 0) [ inl first ↦ first | inr above ↦ absurd (ends.epochs b.stamp.clock.epoch (known.raised above)) ])

    -- a late event counts more of its gatekeeper's events than were made by then
    counts-more : (s : Stamp) → Contains events s → IsLate s
        → (home : ℕ) × (ticks_of s.clock.epoch (gate_log logs home) < count_of home s.clock)
    counts-more s h late =
        let b = begin-at s h in
        let right = begun-rightly script account basis b.0 b.1 in
        let more = (ends.goes_on).gates right.home in
        let parts : Contains (begun_in (gate_log logs right.home) ++ begun_in more.0) b.0 =
        subst (λ bs. Contains bs b.0) (flat_map-append (λ (e : GateEntry). begun_by e.author e.deed) (gate_log logs right.home) more.0)
        (subst (λ l. Contains (begun_in l) b.0) more.1 right.there) in
        elim (Contains-append_cases (begun_in (gate_log logs right.home)) (begun_in more.0) b.0 parts) [
          | inl then ↦ absurd (let le = (early b.0 (all-in logs right.home b.0 then)).1 in let lt = late b.0 b.1 b.2 in omega (arith, le, lt))
          | inr later ↦
              let entry = flat-has (λ (e : GateEntry). begun_by e.author e.deed) more.0 b.0 later in
              let place = cut_at more.0 entry.0 entry.1.0 in
              let is : gate_log account right.home ≡ (gate_log logs right.home ++ place.before) ++ entry.0 ∷ place.after =
              more.1 ∙ ap (λ l. gate_log logs right.home ++ l) place.is
              ∙ sym (append_assoc (gate_log logs right.home) place.before (entry.0 ∷ place.after)) in
              let count =
              begin-count script account basis right.home b.0 right.there (gate_log logs right.home ++ place.before) entry.0 place.after is entry.1.1 in
              let grow = ticks-front ((b.0).stamp.clock.epoch) (gate_log logs right.home) place.before in
              (right.home, subst (λ (k : Stamp). ticks_of k.clock.epoch (gate_log logs right.home) < count_of right.home k.clock) b.2 (omega (arith, count, grow)))
        ]

    -- Nothing late precedes what isn't

    by-stamps : (s t : Stamp) → Contains events s → IsTrue (stamp_before s t) → IsLate s → IsLate t
    by-stamps s t hs before late b h is =
        elim (cases_lt phase (phase_of script b.request)) [
          | inl less ↦ less
          | inr le ↦
              let then = known-then b (begun-by-then b h (omega (arith, le))) in
              let known : IsKnown logs t.clock = subst (λ (k : Stamp). IsKnown logs k.clock) is then.0 in
              let zero-epoch : t.clock.epoch ≡ 0 = ap (λ (k : Stamp). k.clock.epoch) (sym is) ∙ then.1 in
              let more = counts-more s hs late in
              elim (basis.laws.each_count s.clock t.clock before) [
                | inl lower ↦ absurd (omega (arith, lower, zero-epoch))
                | inr same ↦ absurd (too-many s t more.0 more.1 same.0 (same.1 more.0) (known.counts more.0))
              ]
        ]
      where
        too-many : (s t : Stamp) (home : ℕ) → ticks_of s.clock.epoch (gate_log logs home) < count_of home s.clock
            → s.clock.epoch ≡ t.clock.epoch → count_of home s.clock ≤ count_of home t.clock
            → count_of home t.clock ≤ ticks_of t.clock.epoch (gate_log logs home) → ⊥
        too-many s t home more epoch le known =
            let same = ap (λ e. ticks_of e (gate_log logs home)) epoch in
            omega (arith, more, le, known, same)

    by-pair : (s t : Stamp) → Contains (pairs_in account) (s, t) → IsLate s → IsLate t
    by-pair s t h late b there is =
        elim (cases_lt phase (phase_of script b.request)) [
          | inl less ↦ less
          | inr le ↦
              let at-then = at-end script account basis phase logs ends in
              let pair-then = ends.pairs s t b.request h (begun-stamp account basis.is.gatekeepers.once b there ∙ ap Some is) (omega (arith, le)) in
              let pair = pair-ends logs (placed_pairs logs) (pairs_in logs) (s, t) (placed-are script logs at-then) pair-then in
              let first = begin-of script logs at-then (pair.0).earlier s (pair.1).earlier_is in
              let both = early first.0 first.1 in
              absurd (let lt = late first.0 both.0 first.3 in let low = both.1 in omega (arith, lt, low))
        ]

    late-stays : (s t : Stamp) → PrecedesAmong events (pairs_in account) s t → IsLate s → IsLate t
    late-stays _ _ (AmongByStamps s t hs ht before) late = by-stamps s t hs before late
    late-stays _ _ (AmongByPair s t hs ht h) late = by-pair s t h late
    late-stays _ _ (AmongThrough s t u first second) late = late-stays t u second (late-stays s t first late)

-- in a run by phases no request of a later phase precedes one of an earlier phase
pub later-never-precedes : (script : Script) (account : Account) (basis : Basis script account) → IsRunByPhases script account
    → (a b : ℕ) (x y : Stamp) → phase_of script a < phase_of script b
    → stamp_of account a ≡ Some x → stamp_of account b ≡ Some y → ¬ Precedence account y x
later-never-precedes script account basis run a b x y less ea eb h =
    let phase = phase_of script a in
    let first = begin-of script account basis a x ea in
    let second = begin-of script account basis b y eb in
    let ended = run phase second.0 second.1 (subst (λ n. phase < phase_of script n) (sym second.2) less) in
    let logs = ended.0 in
    let ends = ended.1 in
    let among =
    basis.laws.events (events script account basis) (pairs_in account) (joins script account basis) y x
    (event-of script account basis b y eb) (event-of script account basis a x ea) h in
    let late = late-stays script account basis phase logs ends y x among (λ k there is. (let same : k.request ≡ b = one-request script account basis k second.0 there second.1 (is ∙ sym second.3) ∙ second.2 in subst (λ n. phase < phase_of script n) (sym same) less)) in
    let too-late : phase < phase_of script a = subst (λ n. phase < phase_of script n) first.2 (late first.0 first.1 first.3) in
    omega (arith, too-late)
