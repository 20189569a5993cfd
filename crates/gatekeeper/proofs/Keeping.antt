-- Fields that are what the replay of the log gives, after one more entry.
-- Used by `begin_program`, `begin_tx`, `epoch`, `finish`, `hear`, `new`, `nop`, `send` and Returning.
use Rattle.std.proofs.Common.{◌≡◌, ℕ, ◌<◌, ◌≤◌, List, [], ◌∷◌, ◌++◌, All, length, map, Contains, IsTrue, Option, None, inl, inr, refl, sym, ap, subst, ◌∙◌}
use Rattle.std.specs.Map.{lookup}
use Rattle.std.specs.Option.{option_map}
use Rattle.std.proofs.lemmas.List.{append-nil}
use Rattle.std.proofs.lemmas.Option.{slice_get_within, get_or_from_slice_get}
use Rattle.vector_stamp.specs.declared.clock.Clock.{Clock}
use Rattle.vector_stamp.specs.Clocks.{start_clock}
use Rattle.shard_queue.specs.Outbox.{Channel}
use Rattle.weave_entries.specs.declared.message.Message.{Message}
use Rattle.weave_entries.specs.declared.message.Addressed.{Addressed}
use Rattle.weave_entries.specs.declared.gate_log.GateEntry.{GateEntry}
use Rattle.weave_entries.specs.declared.gate_log.GateDeed.{GateDeed}
use Rattle.weave_entries.specs.GateReplay.{BegunRequest, clock_after, flight_after, running_after, messages_by, to_shard, stamps_by, stamps_of, running_of, channel_of}
use Rattle.weave_entries.specs.GateRules.{FitsAs}
use Rattle.weave_entries.proofs.Replay.{channel-push, clock-push, flight-push, running-push, stamps-push}
use Rattle.gatekeeper.specs.declared.flight.Flight.{Flight}
use Rattle.gatekeeper.specs.Opened.{as_begun}
use Rattle.gatekeeper.specs.Gates.{HaveBits, IsGateReplay}
use Rattle.gatekeeper.specs.Running.{same_program, HoldsPrograms}
use Rattle.gatekeeper.specs.declared.places.Place.{Place}
use Rattle.gatekeeper.specs.Places.{LeadTo}
use Rattle.gatekeeper.proofs.Leading.{lead-still, LeadAfter}
use Rattle.weave_data.proofs.Entries.{each_none, each_push}
use Rattle.weave_data.proofs.Members.{has_none, only}
use Rattle.std.proofs.lemmas.List.Elements.{Contains-append_cases}
use Rattle.vector_stamp.specs.declared.clock.Stamp.{Stamp}
use Rattle.vector_stamp.specs.Order.{has_64_bits}

-- if the clock of a stamp has 64 bits, so have all stamps of the list of this one alone
pub one_bits : (stamp : Stamp) → IsTrue (has_64_bits stamp.clock) → HaveBits (stamp ∷ [])
one_bits stamp bits one has = subst (λ (s : Stamp). IsTrue (has_64_bits s.clock)) (only stamp one has) bits

-- where there are no stamps, all have 64 bits
pub no_bits : HaveBits []
no_bits stamp has = absurd (has_none stamp has)

-- with one more entry, of a deed that fits, the clock, the flight and the programs go on as the deed says
pub record GoesOnBy (home shards : ℕ) (clock : Clock) (flight : Option Flight) (log : List GateEntry) (author : ℕ)
    (deed : GateDeed)
    (next : Clock) (flying : Option Flight) (run : List ((ℕ × ℕ) × Clock)) (longer : List GateEntry) : Type 0 where
  pub fits : FitsAs home shards log author deed
  pub bits : HaveBits (stamps_by deed)
  pub log_is : longer ≡ log ++ record { author = author; deed = deed } ∷ []
  pub clock_is : next ≡ clock_after home clock deed
  pub flight_is : option_map as_begun flying ≡ flight_after (option_map as_begun flight) author deed
  pub running_is : HoldsPrograms run (running_after (running_of log) author deed)

module _ (home shards : ℕ) (clock : Clock) (flight : Option Flight) (running : List ((ℕ × ℕ) × Clock))
    (channels : List (Channel Place))
    (nops : List Message) (log : List GateEntry) (author : ℕ) (deed : GateDeed) (next : Clock) (flying : Option Flight)
    (run : List ((ℕ × ℕ) × Clock)) where
  -- each field goes on as the entry says
  pub keeps_on : (sent : List (Channel Place)) (empty : List Message) (longer : List GateEntry)
      → IsGateReplay home shards clock flight running channels nops log
      → GoesOnBy home shards clock flight log author deed next flying run longer
      → length sent ≡ shards → LeadAfter empty log author deed sent
      → IsGateReplay home shards next flying run sent empty longer
  keeps_on sent empty longer kept goes all_sent sent_is =
      let entry : GateEntry = record { author = author; deed = deed } in
      subst (λ (l : List GateEntry). IsGateReplay home shards next flying run sent empty l) (sym goes.log_is) (record {
        clock_is = goes.clock_is ∙ ap (λ (c : Clock). clock_after home c deed) kept.clock_is
            ∙ sym (clock-push log entry home);
        flight_is = goes.flight_is ∙ ap (λ (f : Option BegunRequest). flight_after f author deed) kept.flight_is
            ∙ sym (flight-push log entry);
        running_is = subst (HoldsPrograms run) (sym (running-push log entry)) goes.running_is;
        all_channels = all_sent;
        channels_are = λ shard channel at.
            subst (LeadTo empty (log ++ entry ∷ []) channel.sent) (sym (channel-push log entry shard))
            (sent_is shard channel at);
        home_is = kept.home_is;
        some_shard = kept.some_shard;
        rules = each_push (λ before (one : GateEntry). FitsAs home shards before one.author one.deed) log entry kept.rules goes.fits;
        bits = λ stamp has. elim (Contains-append_cases (stamps_of log) (stamps_by deed) stamp
            (subst (λ (ss : List Stamp). Contains ss stamp) (stamps-push log entry) has)) [
              | inl earlier ↦ kept.bits stamp earlier
              | inr new ↦ goes.bits stamp new
            ];
      })

  -- and where it sends nothing, the channels stay
  pub keeps_still : (longer : List GateEntry) → IsGateReplay home shards clock flight running channels nops log
      → GoesOnBy home shards clock flight log author deed next flying run longer → messages_by deed ≡ []
      → IsGateReplay home shards next flying run channels nops longer
  keeps_still longer kept goes nothing =
      let entry : GateEntry = record { author = author; deed = deed } in
      keeps_on channels nops longer kept goes kept.all_channels
      (λ shard channel at.
      let lead = lead-still nops [] log (entry ∷ []) channel.sent (channel_of shard log) (kept.channels_are shard channel at) in
      let same : channel_of shard log ≡ channel_of shard log ++ map (λ (addressed : Addressed). addressed.message) (to_shard shard (messages_by deed)) =
      sym (append-nil (channel_of shard log))
      ∙ ap (λ (ms : List Addressed). channel_of shard log ++ map (λ (addressed : Addressed). addressed.message)
      (to_shard shard ms)) (sym nothing) in
      subst (LeadTo nops (log ++ entry ∷ []) channel.sent) same
      (subst (λ (ns : List Message). LeadTo ns (log ++ entry ∷ []) channel.sent (channel_of shard log))
      (append-nil nops) lead))

-- the programs may be in another table, and the log in another place
pub keeps_programs : (home shards : ℕ) (clock : Clock) (flight : Option Flight) (running : List ((ℕ × ℕ) × Clock))
    (channels : List (Channel Place)) (nops : List Message) (log : List GateEntry) (run : List ((ℕ × ℕ) × Clock))
    (same : List GateEntry)
    → IsGateReplay home shards clock flight running channels nops log → HoldsPrograms run (running_of log) → same ≡ log
    → IsGateReplay home shards clock flight run channels nops same
keeps_programs home shards clock flight running channels nops log run same kept holds is =
    subst (λ (l : List GateEntry). IsGateReplay home shards clock flight run channels nops l) (sym is) (record {
      clock_is = kept.clock_is;
      flight_is = kept.flight_is;
      running_is = holds;
      all_channels = kept.all_channels;
      channels_are = kept.channels_are;
      home_is = kept.home_is;
      some_shard = kept.some_shard;
      rules = kept.rules;
      bits = kept.bits;
    })

-- before the first entry nothing is running, and nothing was sent
pub keeps_none : (home shards : ℕ) (clock : Clock) (run : List ((ℕ × ℕ) × Clock)) (channels : List (Channel Place)) (nops : List Message) (log : List GateEntry) → log ≡ [] → clock ≡ start_clock → run ≡ [] → length channels ≡ shards → All (λ (channel : Channel Place). channel.sent ≡ []) channels → home < 8 → 1 ≤ shards → IsGateReplay home shards clock None run channels nops log
keeps_none home shards clock run channels nops log log_is clock_is run_is count empty home_is some =
    subst (λ (l : List GateEntry). IsGateReplay home shards clock None run channels nops l) (sym log_is) (record {
      clock_is = clock_is;
      flight_is = refl;
      running_is = λ program. ap (lookup (same_program program)) run_is;
      all_channels = count;
      channels_are = λ shard channel at.
          let none : channel.sent ≡ [] = subst (λ (one : Channel Place). one.sent ≡ []) (get_or_from_slice_get channels shard channel channel at) (empty shard channel (slice_get_within channels shard channel at)) in
          subst (λ (places : List Place). LeadTo nops [] places []) (sym none) tt;
      home_is = home_is;
      some_shard = some;
      bits = λ stamp has. absurd (has_none stamp has);
      rules = each_none (λ before (one : GateEntry). FitsAs home shards before one.author one.deed);
    })
