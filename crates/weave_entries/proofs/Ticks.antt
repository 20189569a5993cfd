-- The own count of a gatekeeper is the number of its ticks in the epoch, and its events are told apart by epoch and
-- own count.
-- Used by `stamps_rise`.
use Rattle.std.proofs.Common.{◌≡◌, ℕ, ◌+◌, ◌<◌, ◌≤◌, true, nat_eq, nat_lt, List, [], ◌∷◌, ◌++◌, count_by, get_or, Contains, IsTrue, Option, None, Some, ◌⊎◌, inl, inr, refl, sym, ap, subst, ◌∙◌, arith}
use Rattle.std.specs.List.{AllPairs}
use Rattle.std.specs.Option.{ForSome}
use Rattle.std.proofs.lemmas.Bool.{cases_Bool, cases_order, eqb-true, eq-eqb, lt-ltb, ltb-true, or_left, or_right, or_cases, and_from, and_parts}
use Rattle.std.proofs.lemmas.List.{append-nil, get_or_default}
use Rattle.std.proofs.lemmas.List.Elements.{Contains-append_cases}
use Rattle.vector_stamp.specs.declared.clock.Clock.{Clock}
use Rattle.vector_stamp.specs.declared.clock.Stamp.{Stamp}
use Rattle.vector_stamp.specs.declared.clock.EventId.{EventId}
use Rattle.vector_stamp.specs.Order.{count_of, own_count, id_of, id_before, HasEightCounts, is_at_most, stamp_before}
use Rattle.vector_stamp.specs.ClockLaws.{ClockLaws}
use Rattle.vector_stamp.specs.Clocks.{first_clock, clock_after_hearing}
use Rattle.vector_stamp.specs.Coherence.{AreCoherent}
use Rattle.weave_entries.specs.declared.gate_log.GateEntry.{GateEntry}
use Rattle.weave_entries.specs.declared.gate_log.GateDeed.{GateDeed}
use Rattle.weave_entries.specs.declared.gate_log.GateDeed.TheVariants.{BeganTx, BeganProgram, Sent, Nop, Heard, Raised, Finished}
use Rattle.weave_entries.specs.GateReplay.{clock_after_last, next_stamp, clock_after, clock_of, stamps_by, stamps_of}
use Rattle.weave_entries.specs.GateRules.{IsBegunAt, FitsAs, IsGateLog, StampsRise}
use Rattle.weave_data.proofs.Ends.{count_push, count_none}
use Rattle.weave_data.proofs.Members.{only}
use Rattle.weave_data.proofs.Ordered.{pairs_push, pairs_placed}
use Rattle.weave_entries.proofs.Replay.{clock-push, stamps-push, by_entries}
use Rattle.weave_entries.proofs.Rising.{last-eight, rises}
use Rattle.weave_entries.proofs.Small.{own-first}

module _ (laws : ClockLaws) where
  -- What is heard before a tick: a later epoch, in which nothing was counted, or nothing of the own count

  abbrev pub HeardSo : ℕ → Clock → Clock → Type 0
  HeardSo home clock heard = ((clock.epoch < heard.epoch) × (count_of home heard ≡ 0)) ⊎ ((heard.epoch ≡ clock.epoch) × (count_of home heard ≡ count_of home clock))

  module _ (home : ℕ) (clock : Clock) (below : home < 8) (eight : HasEightCounts clock) where
    -- hearing a clock leaves a later epoch with own count 0, or the same epoch with the same own count
    pub heard_so : (heard : Clock) → HasEightCounts heard → HeardSo home clock (clock_after_hearing home clock heard)
    heard_so heard eight_heard =
        elim (cases_order heard.epoch clock.epoch) [
          | inl same ↦ inr (omega (arith, laws.hearing_epoch home clock heard, same), laws.hearing_own home clock heard below eight eight_heard same)
          | inr (inl lower) ↦ let e = laws.hearing_lower home clock heard lower in inr (ap (λ (c : Clock). c.epoch) e, ap (λ (c : Clock). count_of home c) e)
          | inr (inr higher) ↦
              let e : (clock_after_hearing home clock heard).epoch ≡ heard.epoch = omega (arith, laws.hearing_epoch home clock heard, higher) in
              inl (omega arith, laws.hearing_higher home clock heard below eight eight_heard higher)
        ]

    -- the same after the last stamp of a session, if any, was heard
    pub last_so : (last : Option Stamp) → ForSome last (λ heard. HasEightCounts heard.clock) → HeardSo home clock (clock_after_last home clock last)
    last_so None each = inr (refl, refl)
    last_so (Some stamp) each = heard_so stamp.clock (each stamp refl)

  -- the stamp of the tick after it
  abbrev pub TickedSo : ℕ → Clock → Stamp → Type 0
  TickedSo home clock stamp = (stamp.home ≡ home) × (((clock.epoch < stamp.clock.epoch) × (count_of home stamp.clock ≡ 1)) ⊎ ((stamp.clock.epoch ≡ clock.epoch) × (count_of home stamp.clock ≡ count_of home clock + 1)))

  -- a begun stamp is the gatekeeper's own, in a later epoch with own count 1 or in the same one with one more
  pub ticked_so : (home : ℕ) (clock : Clock) (stamp : Stamp) → home < 8 → HasEightCounts clock → IsBegunAt home clock stamp → TickedSo home clock stamp
  ticked_so home clock stamp below eight begun =
      let heard : Clock = clock_after_last home clock begun.last in
      let more : count_of home ((next_stamp home heard).clock) ≡ count_of home heard + 1 = laws.tick_counts home heard below (last-eight laws home clock below eight begun.last begun.eight) in
      let own : count_of home stamp.clock ≡ count_of home heard + 1 = ap (λ (s : Stamp). count_of home s.clock) begun.is ∙ more in
      let epoch : stamp.clock.epoch ≡ heard.epoch = ap (λ (s : Stamp). s.clock.epoch) begun.is in (
        ap (λ (s : Stamp). s.home) begun.is,
        elim (last_so home clock below eight begun.last begun.eight) [
          | inl later ↦ let a = later.0 in let b = later.1 in inl (omega arith, omega arith)
          | inr same ↦ let a = same.0 in let b = same.1 in inr (omega arith, omega arith)
        ],
      )

  -- Along a log

  -- the ticks of an epoch among these stamps
  abbrev pub ticks_in : ℕ → List Stamp → ℕ
  ticks_in epoch stamps = count_by (λ (stamp : Stamp). nat_eq stamp.clock.epoch epoch) stamps

  -- a stamp's epoch is at most the clock's, and in the clock's epoch its own count is
  abbrev pub NoLater : ℕ → Clock → Stamp → Type 0
  NoLater home clock stamp = (stamp.clock.epoch < clock.epoch) ⊎ ((stamp.clock.epoch ≡ clock.epoch) × (count_of home stamp.clock ≤ count_of home clock))

  -- a stamp at most the clock is of an earlier epoch, or of the same one with an own count at most the clock's
  pub no_later : (home : ℕ) (clock : Clock) (stamp : Stamp) → IsTrue (is_at_most stamp.clock clock) → NoLater home clock stamp
  no_later home clock stamp at_most =
      elim (laws.at_most_each stamp.clock clock at_most) [
        | inl less ↦ inl less
        | inr (same, each) ↦ inr (same, each home)
      ]

  pub record TicksTo (home : ℕ) (clock : Clock) (stamps : List Stamp) : Type 0 where
    pub counts : count_of home clock ≡ ticks_in clock.epoch stamps
    pub homes : (stamp : Stamp) → Contains stamps stamp → stamp.home ≡ home
    pub ids : AllPairs (λ a b. IsTrue (id_before a b)) stamps

  -- of a later epoch there is no tick yet
  none_yet : (home epoch : ℕ) (clock : Clock) (stamps : List Stamp) → clock.epoch < epoch → ((stamp : Stamp) → Contains stamps stamp → NoLater home clock stamp) → ticks_in epoch stamps ≡ 0
  none_yet home epoch clock stamps later each =
      count_none (λ (stamp : Stamp). nat_eq stamp.clock.epoch epoch) stamps (λ stamp has.
      elim (cases_Bool (nat_eq stamp.clock.epoch epoch)) [
        | inl same ↦ let e : stamp.clock.epoch ≡ epoch = eqb-true _ _ same in elim (each stamp has) [
          | inl less ↦ absurd (omega arith)
          | inr here ↦ let h = here.0 in absurd (omega arith)
        ]
        | inr other ↦ other
      ])

  -- the clock hears, and nothing ticks
  hears_on : (home : ℕ) (clock next : Clock) (stamps : List Stamp) → ((stamp : Stamp) → Contains stamps stamp → NoLater home clock stamp) → HeardSo home clock next → TicksTo home clock stamps → TicksTo home next (stamps ++ [])
  hears_on home clock next stamps each heard so_far =
      rw append-nil (record {
        counts = elim heard [
          | inl later ↦ later.1 ∙ sym (none_yet home next.epoch clock stamps later.0 each)
          | inr same ↦ same.1 ∙ so_far.counts ∙ ap (λ n. ticks_in n stamps) (sym same.0)
        ];
        homes = so_far.homes;
        ids = so_far.ids;
      })

  -- an event after all before it
  id_write : (a b : Stamp) → (a.clock.epoch < b.clock.epoch) ⊎ ((a.clock.epoch ≡ b.clock.epoch) × (own_count a < own_count b)) → IsTrue (id_before a b)
  id_write a b (inl less) = or_left _ _ (lt-ltb _ _ less)
  id_write a b (inr (same, less)) = or_right (nat_lt a.clock.epoch b.clock.epoch) _ (and_from _ _ (eq-eqb _ _ same) (lt-ltb _ _ less))

  ticks_on : (home : ℕ) (clock : Clock) (stamp : Stamp) (stamps : List Stamp) → ((one : Stamp) → Contains stamps one → NoLater home clock one) → TickedSo home clock stamp → TicksTo home clock stamps → TicksTo home stamp.clock (stamps ++ stamp ∷ [])
  ticks_on home clock stamp stamps each ticked so_far =
      let here : nat_eq stamp.clock.epoch stamp.clock.epoch ≡ true = eq-eqb _ _ refl in
      let pushed : ticks_in stamp.clock.epoch (stamps ++ stamp ∷ []) ≡ ticks_in stamp.clock.epoch stamps + 1 = count_push (λ (one : Stamp). nat_eq one.clock.epoch stamp.clock.epoch) stamps stamp ∙ rw here refl in
      record {
        counts = elim ticked.1 [
          | inl later ↦ let none = none_yet home stamp.clock.epoch clock stamps later.0 each in let one = later.1 in omega arith
          | inr same ↦ let was = so_far.counts ∙ ap (λ n. ticks_in n stamps) (sym same.0) in let more = same.1 in omega arith
        ];
        homes = λ one has. elim (Contains-append_cases stamps (stamp ∷ []) one has) [
          | inl earlier ↦ so_far.homes one earlier
          | inr last ↦ ap (λ (s : Stamp). s.home) (sym (only stamp one last)) ∙ ticked.0
        ];
        ids = pairs_push (λ (a b : Stamp). IsTrue (id_before a b)) stamps stamp so_far.ids (λ one has. id_write one stamp (
            let own_one : own_count one ≡ count_of home one.clock = ap (λ n. count_of n one.clock) (so_far.homes one has) in
            let own : own_count stamp ≡ count_of home stamp.clock = ap (λ n. count_of n stamp.clock) ticked.0 in
            elim (each one has) [
              | inl less ↦ elim ticked.1 [
                | inl later ↦ let a = later.0 in inl (omega arith)
                | inr same ↦ let a = same.0 in inl (omega arith)
              ]
              | inr within ↦ let a = within.0 in let b = within.1 in elim ticked.1 [
                | inl later ↦ let d = later.0 in inl (omega arith)
                | inr same ↦ let d = same.0 in let e = same.1 in inr (omega arith, omega arith)
              ]
            ]));
      }

  -- an empty message's stamp is that of a begin without a stamp to hear
  pub nop_is_begun : (home : ℕ) (clock : Clock) (stamp : Stamp) → stamp ≡ next_stamp home clock → IsBegunAt home clock stamp
  nop_is_begun home clock stamp is = record { last = None; eight = λ heard e. absurd (cc); is = is }

  module _ (home shards : ℕ) (below : home < 8) (log : List GateEntry) (author : ℕ) where
    step : (deed : GateDeed) (clock : Clock) (stamps : List Stamp) → HasEightCounts clock → clock ≡ clock_of home log → ((one : Stamp) → Contains stamps one → NoLater home clock one) → FitsAs home shards log author deed → TicksTo home clock stamps → TicksTo home (clock_after home clock deed) (stamps ++ stamps_by deed)
    step (BeganTx request stamp) clock stamps eight is each fits so_far = ticks_on home clock stamp stamps each (ticked_so home clock stamp below eight (subst (λ (c : Clock). IsBegunAt home c stamp) (sym is) fits.begun)) so_far
    step (BeganProgram request stamp) clock stamps eight is each fits so_far = ticks_on home clock stamp stamps each (ticked_so home clock stamp below eight (subst (λ (c : Clock). IsBegunAt home c stamp) (sym is) fits)) so_far
    step (Sent request messages) clock stamps eight is each fits so_far = hears_on home clock clock stamps each (inr (refl, refl)) so_far
    step (Nop shard number stamp low) clock stamps eight is each fits so_far = ticks_on home clock stamp stamps each (ticked_so home clock stamp below eight (nop_is_begun home clock stamp (fits.stamp_is ∙ ap (λ (c : Clock). next_stamp home c) (sym is)))) so_far
    step (Heard heard) clock stamps eight is each fits so_far = hears_on home clock (clock_after_hearing home clock heard) stamps each (heard_so home clock below eight heard fits) so_far
    step (Raised epoch) clock stamps eight is each fits so_far =
        let less : clock.epoch < epoch = subst (λ (c : Clock). c.epoch < epoch) (sym is) fits in
        hears_on home clock (first_clock epoch) stamps each (inl (less, own-first laws home epoch)) so_far
    step (Finished request) clock stamps eight is each fits so_far = hears_on home clock clock stamps each (inr (refl, refl)) so_far

  -- a log's stamps are its gatekeeper's, their ids rise, and the own count is the number of those in the clock's epoch
  pub ticks_rise_to : (home shards : ℕ) → home < 8 → (log : List GateEntry) → IsGateLog home shards log → TicksTo home (clock_of home log) (stamps_of log)
  ticks_rise_to home shards below =
      by_entries home shards (λ log. TicksTo home (clock_of home log) (stamps_of log))
      (record { counts = own-first laws home 0; homes = λ stamp has. absurd (omega (arith, has.1)); ids = λ i j d less within. absurd (omega arith) })
      (λ log entry right fits so_far.
      let facts = rises laws home shards below log right in
      let stepped = step home shards below log entry.author entry.deed (clock_of home log) (stamps_of log) facts.eight refl (λ one has. no_later home (clock_of home log) one (facts.under one has)) fits so_far in
      subst (λ (c : Clock). TicksTo home c (stamps_of (log ++ entry ∷ []))) (sym (clock-push log entry home))
      (subst (λ (s : List Stamp). TicksTo home (clock_after home (clock_of home log) entry.deed) s) (sym (stamps-push log entry)) stepped))

  -- Coherence

  -- an id is before another by its epoch, or by its own count within the epoch
  id_read : (a b : Stamp) → IsTrue (id_before a b) → (a.clock.epoch < b.clock.epoch) ⊎ ((a.clock.epoch ≡ b.clock.epoch) × (own_count a < own_count b))
  id_read a b h =
      elim (or_cases (nat_lt a.clock.epoch b.clock.epoch) _ h) [
        | inl less ↦ inl (ltb-true _ _ less)
        | inr both ↦ let parts = and_parts _ _ both in inr (eqb-true _ _ parts.0, ltb-true _ _ parts.1)
      ]

  apart_not : (a b : Stamp) → IsTrue (id_before a b) → IsTrue (id_before b a) → ⊥
  apart_not a b g h =
      elim (id_read a b g) [
        | inl less ↦ elim (id_read b a h) [
          | inl more ↦ absurd (omega arith)
          | inr same ↦ let e = same.0 in absurd (omega arith)
        ]
        | inr here ↦ let e = here.0 in let own = here.1 in elim (id_read b a h) [
          | inl more ↦ absurd (omega arith)
          | inr same ↦ let back = same.1 in absurd (omega arith)
        ]
      ]

  same_not : (a b : Stamp) → IsTrue (id_before a b) → id_of a ≡ id_of b → ⊥
  same_not a b h is =
      let epoch : a.clock.epoch ≡ b.clock.epoch = ap (λ (i : EventId). i.epoch) is in
      let own : own_count a ≡ own_count b = ap (λ (i : EventId). i.count) is in
      elim (id_read a b h) [
        | inl less ↦ absurd (omega arith)
        | inr same ↦ let less = same.1 in absurd (omega arith)
      ]

  -- the stamps of a gatekeeper are coherent
  pub coherent : (home : ℕ) (clock : Clock) (stamps : List Stamp) → home < 8 → StampsRise stamps → TicksTo home clock stamps → AreCoherent stamps
  coherent home clock stamps below rise ticks =
      record {
        homes = λ a has. let e = ticks.homes a has in omega arith;
        one_of_id = λ a b at_a at_b same. elim (cases_order at_a.0 at_b.0) [
          | inl here ↦ sym at_a.2 ∙ get_or_default stamps at_a.0 a b at_a.1 ∙ ap (λ k. get_or stamps k b) here ∙ at_b.2
          | inr (inl first) ↦ absurd (same_not a b (pair a b at_a at_b first) same)
          | inr (inr second) ↦ absurd (same_not b a (pair b a at_b at_a second) (sym same))
        ];
        by_ids = λ a b at_a at_b home_is before. elim (cases_order at_a.0 at_b.0) [
          | inl here ↦
              let e : a ≡ b = sym at_a.2 ∙ get_or_default stamps at_a.0 a b at_a.1 ∙ ap (λ k. get_or stamps k b) here ∙ at_b.2 in
              absurd (apart_not a b before (subst (λ (s : Stamp). IsTrue (id_before b s)) (sym e) (subst (λ (s : Stamp). IsTrue (id_before s b)) e before)))
          | inr (inl first) ↦ pairs_placed (λ x y. IsTrue (stamp_before x y)) stamps rise a b at_a at_b first
          | inr (inr second) ↦ absurd (apart_not a b before (pair b a at_b at_a second))
        ];
      }
    where
      pair : (a b : Stamp) (at_a : Contains stamps a) (at_b : Contains stamps b) → at_a.0 < at_b.0 → IsTrue (id_before a b)
      pair a b at_a at_b first = pairs_placed (λ x y. IsTrue (id_before x y)) stamps ticks.ids a b at_a at_b first
