-- If a gatekeeper's entries refer to what was seen, each clock of its log is known by what was seen.
-- Used by `clocks_count_within` and MakesAccount.
use Rattle.std.proofs.Common.{◌≡◌, ◌≢◌, ℕ, ◌<◌, List, [], ◌∷◌, ◌++◌, Contains, IsTrue, arith, inl, inr, refl, sym, ap, subst, ◌∙◌, append_assoc}
use Rattle.std.specs.List.{list_any}
use Rattle.std.proofs.lemmas.Bool.{eq-eqb}
use Rattle.std.proofs.lemmas.List.{append-nil}
use Rattle.weave_data.proofs.Ends.{by_last}
use Rattle.weave_data.proofs.Members.{any_from, cut_at, flat_has, has_cut, has_none, has_read, map_has, only}
use Rattle.graph_ops.specs.declared.op.Op.{Op}
use Rattle.vector_stamp.specs.declared.clock.Clock.{Clock}
use Rattle.vector_stamp.specs.declared.clock.Stamp.{Stamp}
use Rattle.vector_stamp.specs.Clocks.{first_clock}
use Rattle.weave_entries.specs.declared.gate_log.GateEntry.{GateEntry}
use Rattle.weave_entries.specs.declared.gate_log.GateDeed.{GateDeed}
use Rattle.weave_entries.specs.declared.gate_log.GateDeed.TheVariants.{BeganTx, BeganProgram, Sent, Nop, Heard, Raised, Finished}
use Rattle.weave_entries.specs.declared.message.Addressed.{Addressed}
use Rattle.weave_entries.specs.declared.verdict.Verdict.{Verdict}
use Rattle.weave_entries.specs.declared.verdict.Verdict.TheVariants.{Committed, Conflict, Refused}
use Rattle.weave_entries.specs.GateReplay.{BegunRequest, clock_after, clock_of, clocks_by, clocks_in, clocks_of_message, low_mark, running_of, stamps_by, stamps_of}
use Rattle.weave_entries.specs.GateRules.{FitsAs, IsGateLog}
use Rattle.weave_entries.specs.Sending.{message_to, messages_of, shards_named}
use Rattle.weave_account.specs.declared.account.Account.{Account}
use Rattle.weave_account.specs.Account.{gate_log}
use Rattle.weave_account.specs.Clocks.{IsKnown, is_raised, raises_to}
use Rattle.weave_account.proofs.Beginning.{list-there}
use Rattle.seen_logs.specs.LowerLaws.{LawsForSeenLogs}
use Rattle.seen_logs.specs.References.{GateRefersAs}
use Rattle.seen_logs.specs.Seen.{GateRefersWithin}

-- the stamp and the low mark of a message are those of its transaction's begin and of the programs that run then
message-clocks : (shards : ℕ) (before : List GateEntry) (begun : BegunRequest) (ops : List Op) (verdict : Verdict) (addressed : Addressed)
    → Contains (messages_of shards before begun ops verdict) addressed
    → (addressed.message.stamp ≡ begun.stamp) × (addressed.message.low ≡ low_mark begun.stamp (running_of before))
message-clocks shards before begun ops (Committed number answers counts) addressed h =
    let of = map_has (message_to shards before begun ops counts) (shards_named shards counts) addressed h in
    (ap (λ (one : Addressed). one.message.stamp) (sym of.2), ap (λ (one : Addressed). one.message.low) (sym of.2))
message-clocks shards before begun ops (Conflict vertex newer) addressed h = absurd (has_none addressed h)
message-clocks shards before begun ops (Refused op reason at) addressed h = absurd (has_none addressed h)

module _ (laws : LawsForSeenLogs) (shards : ℕ) (seen : Account) (home : ℕ) (refers : GateRefersWithin shards seen home) where
  -- a stamp of a deed that refers to what was seen
  deed-stamp : (before : List GateEntry) (author : ℕ) (deed : GateDeed) (stamp : Stamp) → Contains (stamps_by deed) stamp
      → GateRefersAs seen shards before author deed → IsKnown seen stamp.clock
  deed-stamp before author (BeganTx r stamp) one h known = subst (λ (s : Stamp). IsKnown seen s.clock) (only stamp one h) known
  deed-stamp before author (BeganProgram r stamp) one h known = subst (λ (s : Stamp). IsKnown seen s.clock) (only stamp one h) known
  deed-stamp before author (Nop shard number stamp low) one h known = subst (λ (s : Stamp). IsKnown seen s.clock) (only stamp one h) known
  deed-stamp before author (Sent r messages) one h known = absurd (has_none one h)
  deed-stamp before author (Heard clock) one h known = absurd (has_none one h)
  deed-stamp before author (Raised epoch) one h known = absurd (has_none one h)
  deed-stamp before author (Finished r) one h known = absurd (has_none one h)

  -- a stamp of the log up to some entry
  stamp-known : (before after : List GateEntry) → gate_log seen home ≡ before ++ after → (stamp : Stamp) → Contains (stamps_of before) stamp
      → IsKnown seen stamp.clock
  stamp-known before after at stamp h =
      let entry = flat_has (λ (e : GateEntry). stamps_by e.deed) before stamp h in
      let cut = cut_at before entry.0 entry.1 in
      let placed : gate_log seen home ≡ cut.before ++ entry.0 ∷ (cut.after ++ after) =
      at ∙ ap (λ l. l ++ after) cut.is ∙ append_assoc cut.before (entry.0 ∷ cut.after) after in
      deed-stamp cut.before (entry.0).author (entry.0).deed stamp entry.2 (refers cut.before entry.0 (cut.after ++ after) placed)

  low-known : (before after : List GateEntry) → gate_log seen home ≡ before ++ after → (stamp : Stamp) → IsKnown seen stamp.clock
      → IsKnown seen (low_mark stamp (running_of before))
  low-known before after at stamp known =
      laws.low_known seen stamp (running_of before) known
      (λ begun runs. stamp-known before after at begun.stamp (laws.running_stamp before begun runs))

  deed-clocks : (before : List GateEntry) (author : ℕ) (deed : GateDeed) (after : List GateEntry)
      → gate_log seen home ≡ before ++ record { author = author; deed = deed } ∷ after
      → GateRefersAs seen shards before author deed → FitsAs home shards before author deed
      → (clock : Clock) → Contains (clocks_by deed) clock → IsKnown seen clock
  deed-clocks before author (BeganTx r stamp) after at known fits clock h = subst (IsKnown seen) (only stamp.clock clock h) known
  deed-clocks before author (BeganProgram r stamp) after at known fits clock h = subst (IsKnown seen) (only stamp.clock clock h) known
  deed-clocks before author (Sent r messages) after at known fits clock h =
      let of = flat_has clocks_of_message messages clock h in
      let begun : BegunRequest = record { author = author; request = r; stamp = fits.stamp } in
      let clocks = message-clocks shards before begun fits.ops fits.verdict of.0 (subst (λ l. Contains l of.0) fits.messages_are of.1) in
      let own = stamp-known before (record { author = author; deed = Sent r messages } ∷ after) at fits.stamp (laws.flight_stamp before begun fits.flight) in
      elim (has_read (of.0).message.stamp.clock ((of.0).message.low ∷ []) clock of.2) [
        | inl first ↦ subst (IsKnown seen) (sym (ap (λ (s : Stamp). s.clock) clocks.0) ∙ first) own
        | inr second ↦ subst (IsKnown seen) (sym clocks.1 ∙ only (of.0).message.low clock second)
            (low-known before (record { author = author; deed = Sent r messages } ∷ after) at fits.stamp own)
      ]
  deed-clocks before author (Nop shard number stamp low) after at known fits clock h =
      elim (has_read stamp.clock (low ∷ []) clock h) [
        | inl first ↦ subst (IsKnown seen) first known
        | inr second ↦ subst (IsKnown seen) (sym fits.low_is ∙ only low clock second)
            (low-known before (record { author = author; deed = Nop shard number stamp low } ∷ after) at stamp known)
      ]
  deed-clocks before author (Heard heard) after at known fits clock h = subst (IsKnown seen) (only heard clock h) known
  deed-clocks before author (Raised epoch) after at known fits clock h = absurd (has_none clock h)
  deed-clocks before author (Finished r) after at known fits clock h = absurd (has_none clock h)

  -- each clock of the log is known
  pub clocks-known : IsGateLog home shards (gate_log seen home) → (clock : Clock) → Contains (clocks_in (gate_log seen home)) clock
      → IsKnown seen clock
  clocks-known legal clock h =
      let entry = flat_has (λ (e : GateEntry). clocks_by e.deed) (gate_log seen home) clock h in
      let cut = cut_at (gate_log seen home) entry.0 entry.1 in
      deed-clocks cut.before (entry.0).author (entry.0).deed cut.after cut.is (refers cut.before entry.0 cut.after cut.is)
      (legal cut.before entry.0 cut.after cut.is) clock entry.2

  -- The clock itself

  -- a first clock counts nothing, so it is known if its epoch was raised
  first-known : (epoch : ℕ) → (epoch ≢ 0 → IsTrue (is_raised seen epoch)) → IsKnown seen (first_clock epoch)
  first-known epoch raised =
      record {
        eight = refl;
        counts = λ gate. (let none = laws.raised_count gate epoch in omega (arith, none));
        raised = raised;
      }

  raised-there : (before : List GateEntry) (author epoch : ℕ) (after : List GateEntry)
      → gate_log seen home ≡ before ++ record { author = author; deed = Raised epoch } ∷ after → IsTrue (is_raised seen epoch)
  raised-there before author epoch after at =
      let entry : GateEntry = record { author = author; deed = Raised epoch } in
      let there : Contains (gate_log seen home) entry = subst (λ l. Contains l entry) (sym at) (has_cut before entry after) in
      any_from (λ (log : List GateEntry). list_any (λ (e : GateEntry). raises_to epoch e.deed) log) seen.gates (gate_log seen home)
      (list-there seen.gates home entry there)
      (any_from (λ (e : GateEntry). raises_to epoch e.deed) (gate_log seen home) entry there (eq-eqb epoch epoch refl))

  module _ (small : home < 8) where
    deed-clock : (before : List GateEntry) (author : ℕ) (deed : GateDeed) (after : List GateEntry)
        → gate_log seen home ≡ before ++ record { author = author; deed = deed } ∷ after
        → GateRefersAs seen shards before author deed → IsKnown seen (clock_of home before)
        → IsKnown seen (clock_after home (clock_of home before) deed)
    deed-clock before author (BeganTx r stamp) after at known so_far = known
    deed-clock before author (BeganProgram r stamp) after at known so_far = known
    deed-clock before author (Sent r messages) after at known so_far = so_far
    deed-clock before author (Nop shard number stamp low) after at known so_far = known
    deed-clock before author (Heard heard) after at known so_far = laws.heard_known seen home small (clock_of home before) heard so_far known
    deed-clock before author (Raised epoch) after at known so_far = first-known epoch (λ above. raised-there before author epoch after at)
    deed-clock before author (Finished r) after at known so_far = so_far

    clock-before : (before after : List GateEntry) → gate_log seen home ≡ before ++ after → IsKnown seen (clock_of home before)
    clock-before =
        by_last (λ before. (after : List GateEntry) → gate_log seen home ≡ before ++ after → IsKnown seen (clock_of home before))
        (λ after at. first-known 0 (λ above. absurd (above refl)))
        (λ before entry so_far after at.
        let placed = at ∙ append_assoc before (entry ∷ []) after in
        subst (IsKnown seen) (sym (laws.replay_clock home before entry))
        (deed-clock before entry.author entry.deed after placed (refers before entry after placed) (so_far (entry ∷ after) placed)))

    -- the gatekeeper's clock is known
    pub clock-known : IsKnown seen (clock_of home (gate_log seen home))
    clock-known = clock-before (gate_log seen home) [] (sym (append-nil (gate_log seen home)))
