-- No clock of a log counts an event of a gatekeeper that isn't there, if no heard clock does.
-- Used by `clocks_count_none_past`.
use Rattle.std.proofs.Common.{ℕ, ◌<◌, List, [], ◌∷◌, ◌++◌, map, Contains, Option, None, Some, inl, inr, refl, sym, ap, subst, ◌∙◌}
use Rattle.std.specs.List.{flat_map}
use Rattle.std.specs.Option.{ForSome}
use Rattle.std.proofs.lemmas.List.{append-nil}
use Rattle.std.proofs.lemmas.List.Elements.{Contains-append_cases}
use Rattle.weave_data.proofs.Entries as entries
use Rattle.weave_data.proofs.Members.{has_none, has_read, map_has, flat_has, only}
use Rattle.vector_stamp.specs.declared.clock.Clock.{Clock}
use Rattle.vector_stamp.specs.declared.clock.Stamp.{Stamp}
use Rattle.vector_stamp.specs.Order.{CountsNonePast}
use Rattle.vector_stamp.specs.ClockLaws.{ClockLaws}
use Rattle.vector_stamp.specs.Clocks.{clock_after_hearing}
use Rattle.weave_entries.specs.declared.message.Addressed.{Addressed}
use Rattle.weave_entries.specs.declared.gate_log.GateEntry.{GateEntry}
use Rattle.weave_entries.specs.declared.gate_log.GateDeed.{GateDeed}
use Rattle.weave_entries.specs.declared.gate_log.GateDeed.TheVariants.{BeganTx, BeganProgram, Sent, Nop, Heard, Raised, Finished}
use Rattle.weave_entries.specs.GateReplay.{BegunRequest, clock_after_last, clock_after, clock_of, running_of, low_mark, clocks_of_message, clocks_by, clocks_in}
use Rattle.weave_entries.specs.GateRules.{FitsAs, IsGateLog, HearsNonePastAt, HearsNonePastAs, HearsNonePast}
use Rattle.weave_entries.proofs.LowMarks.{low-meet}
use Rattle.weave_entries.proofs.OwnStamps.{flight-stamp, running-stamp, of-begun, stamp-clock}
use Rattle.weave_entries.proofs.Replay.{clock-push, clocks-push}

-- the clock, and those of the log so far
pub record NoneTo (gates : ℕ) (clock : Clock) (clocks : List Clock) : Type 0 where
  pub own : CountsNonePast gates clock
  pub each : (one : Clock) → Contains clocks one → CountsNonePast gates one

module _ (laws : ClockLaws) (gates home shards : ℕ) (below : home < gates) where
  begun-none : (clock : Clock) (stamp : Stamp) → CountsNonePast gates clock → HearsNonePastAt gates home clock stamp → CountsNonePast gates stamp.clock
  begun-none clock stamp none hears =
      subst (λ (s : Stamp). CountsNonePast gates s.clock) (sym hears.is) (laws.tick_none_past gates home (clock_after_last home clock hears.last) below (heard hears.last hears.none_past))
    where
      heard : (last : Option Stamp) → ForSome last (λ one. CountsNonePast gates one.clock) → CountsNonePast gates (clock_after_last home clock last)
      heard None each = none
      heard (Some last) each = laws.hearing_none_past gates home clock last.clock none (each last refl)

  module _ (log : List GateEntry) (author : ℕ) (so_far : NoneTo gates (clock_of home log) (clocks_in log)) where
    low-none : (stamp : Stamp) → CountsNonePast gates stamp.clock → CountsNonePast gates (low_mark stamp (running_of log))
    low-none stamp none =
        let others : List Clock = map (λ (begun : BegunRequest). begun.stamp.clock) (running_of log) in
        subst (CountsNonePast gates) (sym (low-meet stamp.clock (running_of log))) (laws.meet_none_past gates stamp.clock others (λ clock has.
        elim (has_read stamp.clock others clock has) [
          | inl here ↦ subst (CountsNonePast gates) here none
          | inr there ↦
              let at = map_has (λ (begun : BegunRequest). begun.stamp.clock) (running_of log) clock there in
              subst (CountsNonePast gates) at.2 (so_far.each at.0.stamp.clock (stamp-clock log at.0.stamp (running-stamp log at.0 at.1)))
        ]))

    -- one more clock, or two
    one-more : (next one : Clock) → CountsNonePast gates next → CountsNonePast gates one → NoneTo gates next (clocks_in log ++ one ∷ [])
    one-more next one none none_one =
        record {
          own = none;
          each = λ clock has. elim (Contains-append_cases (clocks_in log) (one ∷ []) clock has) [
            | inl earlier ↦ so_far.each clock earlier
            | inr last ↦ subst (CountsNonePast gates) (only one clock last) none_one
          ];
        }

    still : (next : Clock) → CountsNonePast gates next → NoneTo gates next (clocks_in log ++ [])
    still next none = record { own = none; each = λ clock has. so_far.each clock (subst (λ (cs : List Clock). Contains cs clock) (append-nil (clocks_in log)) has) }

    -- if no clock counted an event of an absent gatekeeper, none does after a right deed that heard no such clock
    pub step : (deed : GateDeed) → FitsAs home shards log author deed → HearsNonePastAs gates home log deed → NoneTo gates (clock_after home (clock_of home log) deed) (clocks_in log ++ clocks_by deed)
    step (BeganTx request stamp) fits hears = let none = begun-none (clock_of home log) stamp so_far.own hears in one-more stamp.clock stamp.clock none none
    step (BeganProgram request stamp) fits hears = let none = begun-none (clock_of home log) stamp so_far.own hears in one-more stamp.clock stamp.clock none none
    step (Sent request messages) fits hears =
        let begun : BegunRequest = record { author = author; request = request; stamp = fits.stamp } in
        let none : CountsNonePast gates fits.stamp.clock = so_far.each fits.stamp.clock (stamp-clock log fits.stamp (flight-stamp log begun fits.flight)) in
        record {
          own = so_far.own;
          each = λ clock has. elim (Contains-append_cases (clocks_in log) (flat_map clocks_of_message messages) clock has) [
            | inl earlier ↦ so_far.each clock earlier
            | inr new ↦
                let at = flat_has clocks_of_message messages clock new in
                let is = of-begun shards log begun fits.ops fits.verdict at.0 (subst (λ (ms : List Addressed). Contains ms at.0) fits.messages_are at.1) in
                elim (has_read at.0.message.stamp.clock (at.0.message.low ∷ []) clock at.2) [
                  | inl its_stamp ↦ subst (CountsNonePast gates) (ap (λ (s : Stamp). s.clock) (sym is.stamp_is) ∙ its_stamp) none
                  | inr its_low ↦ subst (CountsNonePast gates) (sym is.low_is ∙ only at.0.message.low clock its_low) (low-none fits.stamp none)
                ]
          ];
        }
    step (Nop shard number stamp low) fits hears =
        let none : CountsNonePast gates stamp.clock = subst (λ (s : Stamp). CountsNonePast gates s.clock) (sym fits.stamp_is) (laws.tick_none_past gates home (clock_of home log) below so_far.own) in
        record {
          own = none;
          each = λ clock has. elim (Contains-append_cases (clocks_in log) (stamp.clock ∷ low ∷ []) clock has) [
            | inl earlier ↦ so_far.each clock earlier
            | inr new ↦ elim (has_read stamp.clock (low ∷ []) clock new) [
              | inl its_stamp ↦ subst (CountsNonePast gates) its_stamp none
              | inr its_low ↦ subst (CountsNonePast gates) (sym fits.low_is ∙ only low clock its_low) (low-none stamp none)
            ]
          ];
        }
    step (Heard heard) fits hears = one-more (clock_after_hearing home (clock_of home log) heard) heard (laws.hearing_none_past gates home (clock_of home log) heard so_far.own hears) hears
    step (Raised epoch) fits hears = still _ (laws.first_none_past gates epoch)
    step (Finished request) fits hears = still (clock_of home log) so_far.own

  -- both rules at once
  abbrev Rule : List GateEntry → GateEntry → Type 0
  Rule before entry = FitsAs home shards before entry.author entry.deed × HearsNonePastAs gates home before entry.deed

  -- in a whole log no clock counts an event of a gatekeeper that isn't there, if none that is heard does
  pub none_past : (log : List GateEntry) → IsGateLog home shards log → HearsNonePast gates home log → NoneTo gates (clock_of home log) (clocks_in log)
  none_past log right hears =
      entries.by_entries Rule (λ log. NoneTo gates (clock_of home log) (clocks_in log))
      (record { own = laws.first_none_past gates 0; each = λ clock has. absurd (has_none clock has) })
      (λ log entry each fits so_far.
      subst (λ (c : Clock). NoneTo gates c (clocks_in (log ++ entry ∷ []))) (sym (clock-push log entry home))
      (subst (λ (cs : List Clock). NoneTo gates (clock_after home (clock_of home log) entry.deed) cs) (sym (clocks-push log entry))
      (step log entry.author so_far entry.deed fits.0 fits.1)))
      log (λ before entry after is. (right before entry after is, hears before entry after is))
