-- Low marks: at most the message's stamp, and at most the stamp of each program that is running.
-- Used by `low_marks_are_below`, `stamps_rise` and NonePast.
use Rattle.std.proofs.Common.{◌≡◌, ℕ, ◌<◌, List, [], ◌∷◌, ◌++◌, map, fold, not, Contains, IsTrue, inl, inr, refl, sym, subst, ◌∙◌}
use Rattle.std.proofs.lemmas.List.Elements.{Contains-append_cases}
use Rattle.weave_data.proofs.Members.{has_none, has_read, has_head, has_tail, has_map, map_has, only, filter_has}
use Rattle.vector_stamp.specs.declared.clock.Clock.{Clock}
use Rattle.vector_stamp.specs.declared.clock.Stamp.{Stamp}
use Rattle.vector_stamp.specs.Order.{HasEightCounts, HaveEightCounts, is_at_most}
use Rattle.vector_stamp.specs.ClockLaws.{ClockLaws}
use Rattle.vector_stamp.specs.Clocks.{meet_of, meet_with}
use Rattle.weave_entries.specs.declared.message.Addressed.{Addressed}
use Rattle.weave_entries.specs.declared.gate_log.GateEntry.{GateEntry}
use Rattle.weave_entries.specs.declared.gate_log.GateDeed.{GateDeed}
use Rattle.weave_entries.specs.declared.gate_log.GateDeed.TheVariants.{BeganTx, BeganProgram, Sent, Nop, Heard, Raised, Finished}
use Rattle.weave_entries.specs.GateReplay.{BegunRequest, is_begun, nop_message, next_stamp, begun_stamp, clock_of, stamps_by, stamps_of, running_after, running_of, messages_by, sent_in, low_mark}
use Rattle.weave_entries.specs.GateRules.{IsBegunAt, FitsAs, IsGateLog}
use Rattle.weave_entries.proofs.OwnStamps.{flight-stamp, running-stamp, sent-stamp, of-begun}
use Rattle.weave_entries.proofs.Replay.{stamps-push, running-push, sent-push, by_entries}
use Rattle.weave_entries.proofs.Rising.{begun-eight, rises}
use Rattle.weave_entries.proofs.Channels.{begun_later}

-- a low mark is the meet of a list
pub low-meet : (clock : Clock) (running : List BegunRequest) → fold (λ low (begun : BegunRequest). meet_of low begun.stamp.clock) clock running ≡ meet_with clock (map (λ (begun : BegunRequest). begun.stamp.clock) running)
low-meet clock [] = refl
low-meet clock (begun ∷ running) = low-meet (meet_of clock begun.stamp.clock) running

module _ (laws : ClockLaws) where
  -- each stamp has eight counts
  stamps_step : (home shards : ℕ) (log : List GateEntry) (author : ℕ) (deed : GateDeed) → home < 8 → HasEightCounts (clock_of home log) → FitsAs home shards log author deed → (stamp : Stamp) → Contains (stamps_by deed) stamp → HasEightCounts stamp.clock
  stamps_step home shards log author (BeganTx request made) below eight fits stamp has =
      let is : begun_stamp home (clock_of home log) fits.begun.last ≡ stamp = sym fits.begun.is ∙ only made stamp has in
      subst (λ (s : Stamp). HasEightCounts s.clock) is (begun-eight laws home (clock_of home log) below eight fits.begun.last fits.begun.eight)
  stamps_step home shards log author (BeganProgram request made) below eight fits stamp has =
      let is : begun_stamp home (clock_of home log) fits.last ≡ stamp = sym fits.is ∙ only made stamp has in
      subst (λ (s : Stamp). HasEightCounts s.clock) is (begun-eight laws home (clock_of home log) below eight fits.last fits.eight)
  stamps_step home shards log author (Sent request messages) below eight fits stamp has = absurd (has_none stamp has)
  stamps_step home shards log author (Nop shard number made low) below eight fits stamp has =
      let is : next_stamp home (clock_of home log) ≡ stamp = sym fits.stamp_is ∙ only made stamp has in
      subst (λ (s : Stamp). HasEightCounts s.clock) is (laws.tick_eight home (clock_of home log) eight)
  stamps_step home shards log author (Heard clock) below eight fits stamp has = absurd (has_none stamp has)
  stamps_step home shards log author (Raised epoch) below eight fits stamp has = absurd (has_none stamp has)
  stamps_step home shards log author (Finished request) below eight fits stamp has = absurd (has_none stamp has)

  -- each stamp that a gatekeeper made has eight counts
  pub stamps-eight : (home shards : ℕ) → home < 8 → (log : List GateEntry) → IsGateLog home shards log → (stamp : Stamp) → Contains (stamps_of log) stamp → HasEightCounts stamp.clock
  stamps-eight home shards below =
      by_entries home shards (λ log. (stamp : Stamp) → Contains (stamps_of log) stamp → HasEightCounts stamp.clock)
      (λ stamp has. absurd (has_none stamp has))
      (λ log entry right fits so_far stamp has.
      elim (Contains-append_cases (stamps_of log) (stamps_by entry.deed) stamp (subst (λ (ss : List Stamp). Contains ss stamp) (stamps-push log entry) has)) [
        | inl earlier ↦ so_far stamp earlier
        | inr new ↦ stamps_step home shards log entry.author entry.deed below ((rises laws home shards below log right).eight) fits stamp new
      ])

  -- a low mark as it is made
  module _ (home shards : ℕ) (below : home < 8) (log : List GateEntry) (right : IsGateLog home shards log) (stamp : Stamp) (eight : HasEightCounts stamp.clock) where
    all-eight : HaveEightCounts (stamp.clock ∷ map (λ (begun : BegunRequest). begun.stamp.clock) (running_of log))
    all-eight clock has =
        elim (has_read stamp.clock (map (λ (begun : BegunRequest). begun.stamp.clock) (running_of log)) clock has) [
          | inl here ↦ subst HasEightCounts here eight
          | inr there ↦
              let at = map_has (λ (begun : BegunRequest). begun.stamp.clock) (running_of log) clock there in
              subst HasEightCounts at.2 (stamps-eight home shards below log right at.0.stamp (running-stamp log at.0 at.1))
        ]

    -- the low mark of a stamp with eight counts, over the programs that are running, has eight counts
    pub low-eight : HasEightCounts (low_mark stamp (running_of log))
    low-eight = subst HasEightCounts (sym (low-meet stamp.clock (running_of log))) (laws.meet_eight stamp.clock (map (λ (begun : BegunRequest). begun.stamp.clock) (running_of log)) all-eight)

    below-each : (clock : Clock) → Contains (stamp.clock ∷ map (λ (begun : BegunRequest). begun.stamp.clock) (running_of log)) clock → IsTrue (is_at_most (low_mark stamp (running_of log)) clock)
    below-each clock has = subst (λ (c : Clock). IsTrue (is_at_most c clock)) (sym (low-meet stamp.clock (running_of log))) (laws.meet_below_each stamp.clock (map (λ (begun : BegunRequest). begun.stamp.clock) (running_of log)) all-eight clock has)

    -- the low mark made with a stamp is at most the stamp
    pub low-stamp : IsTrue (is_at_most (low_mark stamp (running_of log)) stamp.clock)
    low-stamp = below-each stamp.clock (has_head stamp.clock _)

    -- and at most the stamp of each running program
    pub low-running : (b : BegunRequest) → Contains (running_of log) b → IsTrue (is_at_most (low_mark stamp (running_of log)) b.stamp.clock)
    low-running b has = below-each b.stamp.clock (has_tail stamp.clock _ b.stamp.clock (has_map (λ (begun : BegunRequest). begun.stamp.clock) (running_of log) b has))

  -- what holds of a message as long as these programs run
  pub record LowOf (running : List BegunRequest) (addressed : Addressed) : Type 0 where
    pub eight : HasEightCounts addressed.message.low
    pub of_stamp : IsTrue (is_at_most addressed.message.low addressed.message.stamp.clock)
    pub of_running : (b : BegunRequest) → Contains running b → IsTrue (is_at_most addressed.message.low b.stamp.clock)

  made_low : (home shards : ℕ) → home < 8 → (log : List GateEntry) → IsGateLog home shards log → (stamp : Stamp) → HasEightCounts stamp.clock → (addressed : Addressed) → addressed.message.stamp ≡ stamp → addressed.message.low ≡ low_mark stamp (running_of log) → LowOf (running_of log) addressed
  made_low home shards below log right stamp eight addressed stamp_is low_is =
      record {
        eight = subst HasEightCounts (sym low_is) (low-eight home shards below log right stamp eight);
        of_stamp = subst (λ (c : Clock). IsTrue (is_at_most c addressed.message.stamp.clock)) (sym low_is) (subst (λ (s : Stamp). IsTrue (is_at_most (low_mark stamp (running_of log)) s.clock)) (sym stamp_is) (low-stamp home shards below log right stamp eight));
        of_running = λ b has. subst (λ (c : Clock). IsTrue (is_at_most c b.stamp.clock)) (sym low_is) (low-running home shards below log right stamp eight b has);
      }

  module _ (home shards : ℕ) (below : home < 8) (log : List GateEntry) (right : IsGateLog home shards log) (author : ℕ) where
    -- a program that begins is after all that was sent
    begins_later : (request : ℕ) (stamp : Stamp) → IsBegunAt home (clock_of home log) stamp → (addressed : Addressed) → Contains (sent_in log) addressed → LowOf (running_of log) addressed → LowOf (running_of log ++ record { author = author; request = request; stamp = stamp } ∷ []) addressed
    begins_later request stamp begun addressed has so_far =
        let facts = rises laws home shards below log right in
        let sent = facts.under addressed.message.stamp (sent-stamp home shards log right addressed has) in
        let later = begun_later laws home (clock_of home log) stamp below facts.eight begun in
        record {
          eight = so_far.eight;
          of_stamp = so_far.of_stamp;
          of_running = λ b has_b. elim (Contains-append_cases (running_of log) (record { author = author; request = request; stamp = stamp } ∷ []) b has_b) [
            | inl earlier ↦ so_far.of_running b earlier
            | inr last ↦ subst (λ (x : BegunRequest). IsTrue (is_at_most addressed.message.low x.stamp.clock)) (only _ b last) (
                laws.at_most_at_most addressed.message.low addressed.message.stamp.clock stamp.clock so_far.of_stamp (
                laws.at_most_at_most addressed.message.stamp.clock (clock_of home log) stamp.clock sent (laws.before_is_at_most (clock_of home log) stamp.clock later)))
          ];
        }

    -- with fewer programs it holds too
    runs_on : (deed : GateDeed) → FitsAs home shards log author deed → (addressed : Addressed) → Contains (sent_in log) addressed → LowOf (running_of log) addressed → LowOf (running_after (running_of log) author deed) addressed
    runs_on (BeganTx request stamp) fits addressed has so_far = so_far
    runs_on (BeganProgram request stamp) fits addressed has so_far = begins_later request stamp fits addressed has so_far
    runs_on (Sent request messages) fits addressed has so_far = so_far
    runs_on (Nop shard number stamp low) fits addressed has so_far = so_far
    runs_on (Heard clock) fits addressed has so_far = so_far
    runs_on (Raised epoch) fits addressed has so_far = so_far
    runs_on (Finished request) fits addressed has so_far =
        record {
          eight = so_far.eight;
          of_stamp = so_far.of_stamp;
          of_running = λ b has_b. so_far.of_running b ((filter_has (λ begun. not (is_begun author request begun)) (running_of log) b has_b).0);
        }

    -- what a deed sends
    sends_low : (deed : GateDeed) → FitsAs home shards log author deed → (addressed : Addressed) → Contains (messages_by deed) addressed → LowOf (running_after (running_of log) author deed) addressed
    sends_low (BeganTx request stamp) fits addressed has = absurd (has_none addressed has)
    sends_low (BeganProgram request stamp) fits addressed has = absurd (has_none addressed has)
    sends_low (Sent request messages) fits addressed has =
        let begun : BegunRequest = record { author = author; request = request; stamp = fits.stamp } in
        let is = of-begun shards log begun fits.ops fits.verdict addressed (subst (λ (ms : List Addressed). Contains ms addressed) fits.messages_are has) in
        made_low home shards below log right fits.stamp (stamps-eight home shards below log right fits.stamp (flight-stamp log begun fits.flight)) addressed is.stamp_is is.low_is
    sends_low (Nop shard number stamp low) fits addressed has =
        let one : Addressed = record { shard = shard; number = number; message = nop_message stamp low } in
        let eight : HasEightCounts stamp.clock = subst (λ (s : Stamp). HasEightCounts s.clock) (sym fits.stamp_is) (laws.tick_eight home (clock_of home log) ((rises laws home shards below log right).eight)) in
        subst (LowOf (running_of log)) (only one addressed has) (made_low home shards below log right stamp eight one refl fits.low_is)
    sends_low (Heard clock) fits addressed has = absurd (has_none addressed has)
    sends_low (Raised epoch) fits addressed has = absurd (has_none addressed has)
    sends_low (Finished request) fits addressed has = absurd (has_none addressed has)

  -- this holds of each message at the end of a gatekeeper's log
  pub lows : (home shards : ℕ) → home < 8 → (log : List GateEntry) → IsGateLog home shards log → (addressed : Addressed) → Contains (sent_in log) addressed → LowOf (running_of log) addressed
  lows home shards below =
      by_entries home shards (λ log. (addressed : Addressed) → Contains (sent_in log) addressed → LowOf (running_of log) addressed)
      (λ addressed has. absurd (has_none addressed has))
      (λ log entry right fits so_far addressed has.
      subst (λ (rs : List BegunRequest). LowOf rs addressed) (sym (running-push log entry))
      (elim (Contains-append_cases (sent_in log) (messages_by entry.deed) addressed (subst (λ (ms : List Addressed). Contains ms addressed) (sent-push log entry) has)) [
        | inl earlier ↦ runs_on home shards below log right entry.author entry.deed fits addressed earlier (so_far addressed earlier)
        | inr new ↦ sends_low home shards below log right entry.author entry.deed fits addressed new
      ]))
