-- If of each gatekeeper a message later than a program was processed, the shard is ready for the program; and it stays
-- so, since what is sent and processed is never taken back.
-- Used by `messages_arrive_as_sent` and `readiness_stays`.
use Rattle.std.proofs.Common.{◌≡◌, ℕ, ◌+◌, ◌<◌, ◌≤◌, ◌==◌, true, not, cond, List, [], ◌∷◌, ◌++◌, Contains, IsTrue, Option, None, Some, inl, inr, refl, sym, ap, subst, ◌∙◌, append_assoc, arith}
use Rattle.std.specs.Prelude.{count_by}
use Rattle.std.specs.List.{find, range_with_len}
use Rattle.std.proofs.lemmas.Bool.{cases_eq, or_left, or_right}
use Rattle.std.proofs.lemmas.List.{append-nil}
use Rattle.std.proofs.lemmas.List.Concat.{flat_map-append}
use Rattle.std.proofs.lemmas.List.Elements.{Contains-append_left}
use Rattle.std.proofs.lemmas.List.Sums.{sum_by-append}
use Rattle.weave_data.proofs.Members.{find_has}
use Rattle.vector_stamp.specs.declared.clock.Stamp.{Stamp}
use Rattle.vector_stamp.specs.Order.{stamp_before}
use Rattle.program_defs.specs.declared.script.Script.{Script}
use Rattle.weave_entries.specs.declared.gate_log.GateEntry.{GateEntry}
use Rattle.weave_entries.specs.declared.message.Addressed.{Addressed}
use Rattle.weave_entries.specs.declared.message.Message.{Message}
use Rattle.weave_entries.specs.declared.shard_log.ShardEntry.{ShardEntry}
use Rattle.weave_entries.specs.GateReplay.{addressed_to, messages_by, to_shard}
use Rattle.weave_entries.specs.ShardReplay.{arrived_at, first_unready, head_of, is_past, is_ready_for, last_of, processed_by, processed_count, processed_of}
use Rattle.weave_account.specs.declared.account.Account.{Account}
use Rattle.weave_account.specs.Account.{gate_log, shard_log}
use Rattle.weave_account.specs.GoesOn.{GoesOn}
use Rattle.drive_rules.specs.LowerLaws.{LawsForReadiness}
use Rattle.drive_rules.specs.Readiness.{IsPassed}
use Rattle.drive_rules.proofs.ListFacts.{range-within}
use Rattle.drive_rules.proofs.Processed.{are-first}
use Rattle.drive_rules.proofs.SentMessages.{as_sent, arrived-sent, either-sent, number-within}
use Rattle.weave_account.proofs.Ready.{ready-at}
use Rattle.weave_account.proofs.Basis.{BasisWith}

-- The logs go on

-- what was processed stays, so processed numbers are never less
processed-more : (home : ℕ) (log more : List ShardEntry) → processed_count home log ≤ processed_count home (log ++ more)
processed-more home log more =
    let numbers = flat_map-append (λ (entry : ShardEntry). processed_by entry.deed) log more in
    let count = ap (count_by (λ (of : ℕ × ℕ). of.0 == home)) numbers ∙ sum_by-append (λ (of : ℕ × ℕ). cond (of.0 == home) 1 0) (processed_of log) (processed_of more) in
    omega (arith, count)

-- what arrived is there, after however many entries
arrived-more : (laws : LawsForReadiness) (log more : List ShardEntry) (home number : ℕ) (message : Message) → arrived_at home number log ≡ Some message → arrived_at home number (log ++ more) ≡ Some message
arrived-more laws log [] home number message is = ap (arrived_at home number) (append-nil log) ∙ is
arrived-more laws log (entry ∷ more) home number message is =
    ap (arrived_at home number) (sym (append_assoc log (entry ∷ []) more))
    ∙ arrived-more laws (log ++ entry ∷ []) more home number message (laws.logs.stay log entry home number message is)

-- a later message stays processed
pub stays-passed : (account next : Account) → GoesOn account next → (shard : ℕ) (stamp : Stamp) (home : ℕ) → IsPassed account shard stamp home → IsPassed next shard stamp home
stays-passed account next on shard stamp home passed =
    let gates = on.gates home in
    let shards = on.shards shard in
    let sent : addressed_to shard (gate_log next home) ≡ addressed_to shard (gate_log account home) ++ addressed_to shard gates.0 = ap (addressed_to shard) gates.1 ∙ flat_map-append (λ (entry : GateEntry). to_shard shard (messages_by entry.deed)) (gate_log account home) gates.0 in
    let count : processed_count home (shard_log account shard) ≤ processed_count home (shard_log next shard) = subst (λ log. processed_count home (shard_log account shard) ≤ processed_count home log) (sym shards.1) (processed-more home (shard_log account shard) shards.0) in
    let done = passed.done in
    record {
      addressed = passed.addressed;
      sent = subst (λ sent. Contains sent passed.addressed) (sym sent) (Contains-append_left (addressed_to shard (gate_log account home)) (addressed_to shard gates.0) passed.addressed passed.sent);
      later = passed.later;
      done = omega (arith, done, count);
    }

module _ (script : Script) (account : Account) (basis : BasisWith LawsForReadiness script account) (shard : ℕ) where
  -- what a channel has processed had arrived
  pub processed-arrived : (home number : ℕ) → 1 ≤ number → number ≤ processed_count home (shard_log account shard) → (message : Message) × (arrived_at home number (shard_log account shard) ≡ Some message)
  processed-arrived home number low high =
      let first = are-first basis.laws script account shard (shard_log account shard) (basis.is.shards.deeds shard) in
      first.there home number (first.all home number low high)

  module _ (stamp : Stamp) where
    -- a gatekeeper of which a later message was processed
    passed-ready : (home : ℕ) → IsPassed account shard stamp home → IsTrue (is_ready_for stamp (shard_log account shard) home)
    passed-ready home passed =
        let log = shard_log account shard in
        let low = (number-within script account basis shard home passed.addressed passed.sent).0 in
        let done = passed.done in
        let last = processed-arrived home (processed_count home log) (omega (arith, low, done)) (omega arith) in
        let last-sent = arrived-sent script account basis shard home (processed_count home log) last.0 last.1 in
        let later : IsTrue (stamp_before stamp last.0.stamp) = elim (either-sent script account basis shard home passed.addressed passed.sent (as_sent shard (processed_count home log) last.0) last-sent) [
          | inl same ↦ subst (λ (a : Addressed). IsTrue (stamp_before stamp a.message.stamp)) same passed.later
          | inr (inl before) ↦ basis.laws.stamps.transitive stamp passed.addressed.message.stamp last.0.stamp passed.later before.1
          | inr (inr after) ↦ (let lt = after.0 in absurd (omega (arith, lt, done)))
        ] in
        or_left (is_past stamp (last_of home log)) (is_past stamp (head_of home log)) (ap (is_past stamp) last.1 ∙ later)

    -- ready at each gatekeeper is ready
    none-unready : ((home : ℕ) → home < script.gates → IsTrue (is_ready_for stamp (shard_log account shard) home)) → first_unready script.gates stamp (shard_log account shard) ≡ None
    none-unready ready = at (find (λ g. not (is_ready_for stamp (shard_log account shard) g)) (range_with_len 0 script.gates)) refl
      where
        at : (o : Option ℕ) → find (λ g. not (is_ready_for stamp (shard_log account shard) g)) (range_with_len 0 script.gates) ≡ o → o ≡ None
        at None e = refl
        at (Some g) e =
            let found = find_has (λ g. not (is_ready_for stamp (shard_log account shard) g)) (range_with_len 0 script.gates) g e in
            let below = (range-within 0 script.gates g found.0).1 in
            let clash : not true ≡ true = sym (ap not (ready g (omega (arith, below)))) ∙ found.1 in cc

    -- if a program's stamp is passed at each gatekeeper, the shard is ready for it
    pub ready-for : ((home : ℕ) → home < script.gates → IsPassed account shard stamp home) → first_unready script.gates stamp (shard_log account shard) ≡ None
    ready-for passed = none-unready (λ home below. passed-ready home (passed home below))

-- A shard that is ready stays so

module _ (script : Script) (account next : Account) (basis : BasisWith LawsForReadiness script next) (on : GoesOn account next) (shard : ℕ) (stamp : Stamp) where
  -- it stays ready, whether by a processed message or by a head
  pub ready-stays : first_unready script.gates stamp (shard_log account shard) ≡ None → first_unready script.gates stamp (shard_log next shard) ≡ None
  ready-stays ready = none-unready script next basis shard stamp at
    where
      at : (home : ℕ) → home < script.gates → IsTrue (is_ready_for stamp (shard_log next shard) home)
      at home below =
          let past = ready-at script.gates stamp (shard_log account shard) home below ready in
          let shards = on.shards shard in
          let there : arrived_at home past.number (shard_log next shard) ≡ Some past.message = ap (arrived_at home past.number) shards.1 ∙ arrived-more basis.laws (shard_log account shard) shards.0 home past.number past.message past.arrived in
          let count : processed_count home (shard_log account shard) ≤ processed_count home (shard_log next shard) = subst (λ log. processed_count home (shard_log account shard) ≤ processed_count home log) (sym shards.1) (processed-more home (shard_log account shard) shards.0) in
          let within = past.within in
          elim (cases_eq past.number (processed_count home (shard_log next shard) + 1)) [
            | inl head ↦ or_right (is_past stamp (last_of home (shard_log next shard))) (is_past stamp (head_of home (shard_log next shard))) (ap (is_past stamp) (ap (λ n. arrived_at home n (shard_log next shard)) (sym head) ∙ there) ∙ past.later)
            | inr other ↦ passed-ready script next basis shard stamp home (record {
              addressed = as_sent shard past.number past.message;
              sent = arrived-sent script next basis shard home past.number past.message there;
              later = past.later;
              done = omega (arith, within, count, other);
            })
          ]
