-- What machines have seen goes on, and what it says of the messages that were sent.
-- Used by `machines_note_more` and `messages_are_made`.
use Rattle.std.proofs.Common.{ℕ, ◌≤◌, ◌==◌, List, [], ◌∷◌, length, Contains, inl, inr, refl, sym, ap, subst}
use Rattle.std.proofs.lemmas.Bool.{eqb-true, cases_lt}
use Rattle.weave_data.proofs.Members.{cut_at, filter_has, flat_has, has_none, only}
use Rattle.weave_entries.specs.declared.gate_log.GateEntry.{GateEntry}
use Rattle.weave_entries.specs.declared.gate_log.GateDeed.{GateDeed}
use Rattle.weave_entries.specs.declared.gate_log.GateDeed.TheVariants.{BeganTx, BeganProgram, Sent, Nop, Heard, Raised, Finished}
use Rattle.weave_entries.specs.declared.message.Addressed.{Addressed}
use Rattle.weave_entries.specs.declared.oracle_log.OracleEntry.{OracleEntry}
use Rattle.weave_entries.specs.declared.shard_log.ShardEntry.{ShardEntry}
use Rattle.weave_entries.specs.declared.store_log.StoreEntry.{StoreEntry}
use Rattle.weave_entries.specs.Logs.{AtEachEntry}
use Rattle.weave_entries.specs.GateReplay.{addressed_to, messages_by, nop_message, to_shard}
use Rattle.weave_entries.specs.ShardRules.{IsShardLog}
use Rattle.weave_account.specs.declared.account.Account.{Account}
use Rattle.weave_account.specs.Account.{gate_log, shard_log}
use Rattle.weave_account.specs.GoesOn.{IsBeginningOf}
use Rattle.weave_account.specs.Seen.{IsMade}
use Rattle.seen_logs.specs.LowerLaws.{LawsForSeenLogs}
use Rattle.seen_logs.specs.References.{GateRefersAs, OracleRefersAs, ShardRefersAs, StoreRefersAs}
use Rattle.seen_logs.specs.Seen.{GateRefersWithin, GatesGoOn, OracleRefersWithin, ShardRefersWithin, ShardsGoOn, StoreRefersWithin}
use Rattle.seen_logs.proofs.Going.{gate-stays, oracle-stays, shard-stays, store-stays}
use Rattle.seen_logs.proofs.Onward.{earlier-place}

-- what is so of each entry that a log had, and of each later one, is so of each
each-on : {E : Type 0} (P Q : List E → E → Type 0) (xs ys : List E) → IsBeginningOf xs ys → AtEachEntry P xs
    → ((before : List E) (entry : E) → P before entry → Q before entry)
    → AtEachEntry (λ before entry. length xs ≤ length before → Q before entry) ys → AtEachEntry Q ys
each-on P Q xs ys on old step new before entry after at =
    elim (cases_lt (length before) (length xs)) [
      | inl less ↦ (let place = earlier-place xs ys on before entry after at less in step before entry (old before entry place.0 place.1))
      | inr more ↦ new before entry after at more
    ]

module _ (laws : LawsForSeenLogs) where
  -- what a gatekeeper has seen goes on
  pub gate-notes : (gates shards : ℕ) (seen next : Account) → GatesGoOn seen next → IsBeginningOf seen.store next.store → ShardsGoOn seen next
      → ((shard : ℕ) → IsShardLog gates (shard_log next shard)) → (home : ℕ) → GateRefersWithin shards seen home
      → AtEachEntry (λ before (entry : GateEntry). length (gate_log seen home) ≤ length before → GateRefersAs next shards before entry.author entry.deed)
      (gate_log next home)
      → GateRefersWithin shards next home
  gate-notes gates shards seen next gates_on store_on shards_on legal home old new =
      each-on (λ before (entry : GateEntry). GateRefersAs seen shards before entry.author entry.deed)
      (λ before (entry : GateEntry). GateRefersAs next shards before entry.author entry.deed)
      (gate_log seen home) (gate_log next home) (gates_on home) old
      (λ before entry refers. gate-stays laws seen next gates_on store_on shards_on gates legal shards before entry.author entry.deed refers) new

  -- what the store has seen
  pub store-notes : (seen next : Account) → GatesGoOn seen next → IsBeginningOf seen.store next.store → IsBeginningOf seen.oracle next.oracle
      → StoreRefersWithin seen
      → AtEachEntry (λ before (entry : StoreEntry). length seen.store ≤ length before → StoreRefersAs next before entry.author entry.deed) next.store
      → StoreRefersWithin next
  store-notes seen next gates_on store_on oracle_on old new =
      each-on (λ before (entry : StoreEntry). StoreRefersAs seen before entry.author entry.deed)
      (λ before (entry : StoreEntry). StoreRefersAs next before entry.author entry.deed)
      seen.store next.store store_on old
      (λ before entry refers. store-stays laws seen next gates_on oracle_on before entry.author entry.deed refers) new

  -- what the oracle has seen
  pub oracle-notes : (seen next : Account) → GatesGoOn seen next → IsBeginningOf seen.oracle next.oracle → OracleRefersWithin seen
      → AtEachEntry (λ before (entry : OracleEntry). length seen.oracle ≤ length before → OracleRefersAs next entry.deed) next.oracle
      → OracleRefersWithin next
  oracle-notes seen next gates_on oracle_on old new =
      each-on (λ before (entry : OracleEntry). OracleRefersAs seen entry.deed) (λ before (entry : OracleEntry). OracleRefersAs next entry.deed)
      seen.oracle next.oracle oracle_on old (λ before entry refers. oracle-stays laws seen next gates_on entry.deed refers) new

  -- and what a shard has seen
  pub shard-notes : (shards : ℕ) (seen next : Account) → GatesGoOn seen next → IsBeginningOf seen.store next.store
      → IsBeginningOf seen.oracle next.oracle → (shard : ℕ) → IsBeginningOf (shard_log seen shard) (shard_log next shard)
      → ShardRefersWithin shards seen shard
      → AtEachEntry (λ before (entry : ShardEntry). length (shard_log seen shard) ≤ length before
      → ShardRefersAs next shards shard before entry.author entry.deed) (shard_log next shard)
      → ShardRefersWithin shards next shard
  shard-notes shards seen next gates_on store_on oracle_on shard on old new =
      each-on (λ before (entry : ShardEntry). ShardRefersAs seen shards shard before entry.author entry.deed)
      (λ before (entry : ShardEntry). ShardRefersAs next shards shard before entry.author entry.deed)
      (shard_log seen shard) (shard_log next shard) on old
      (λ before entry refers. shard-stays laws seen next gates_on store_on oracle_on shards shard before entry.author entry.deed refers) new

-- Messages

-- a message that a deed sent is made of a judgement, or empty
deed-made : (shards : ℕ) (seen : Account) (before : List GateEntry) (author : ℕ) (deed : GateDeed) (shard : ℕ) (addressed : Addressed)
    → Contains (to_shard shard (messages_by deed)) addressed → GateRefersAs seen shards before author deed
    → IsMade shards seen.store shard addressed.message
deed-made shards seen before author (Sent r messages) shard addressed h refers =
    let sent = filter_has (λ (one : Addressed). one.shard == shard) messages addressed h in
    inr (record {
      judged = refers.judged;
      is_judged = refers.is_judged;
      log = before;
      begun = record { author = author; request = r; stamp = (refers.judged).stamp };
      stamp_is = refl;
      addressed = addressed;
      sent = subst (λ l. Contains l addressed) refers.messages_are sent.0;
      shard_is = eqb-true addressed.shard shard sent.1;
      message_is = refl;
    })
deed-made shards seen before author (Nop to number stamp low) shard addressed h refers =
    let one : Addressed = record { shard = to; number = number; message = nop_message stamp low } in
    let sent = filter_has (λ (one : Addressed). one.shard == shard) (one ∷ []) addressed h in
    inl (ap (λ (a : Addressed). a.message.parts) (sym (only one addressed sent.0)))
deed-made shards seen before author (BeganTx r stamp) shard addressed h refers = absurd (has_none addressed h)
deed-made shards seen before author (BeganProgram r stamp) shard addressed h refers = absurd (has_none addressed h)
deed-made shards seen before author (Heard clock) shard addressed h refers = absurd (has_none addressed h)
deed-made shards seen before author (Raised epoch) shard addressed h refers = absurd (has_none addressed h)
deed-made shards seen before author (Finished r) shard addressed h refers = absurd (has_none addressed h)

-- each message that a gatekeeper sent is so
pub sent-made : (shards : ℕ) (seen : Account) (home : ℕ) → GateRefersWithin shards seen home → (shard : ℕ) (addressed : Addressed)
    → Contains (addressed_to shard (gate_log seen home)) addressed → IsMade shards seen.store shard addressed.message
sent-made shards seen home refers shard addressed h =
    let entry = flat_has (λ (e : GateEntry). to_shard shard (messages_by e.deed)) (gate_log seen home) addressed h in
    let cut = cut_at (gate_log seen home) entry.0 entry.1 in
    deed-made shards seen cut.before (entry.0).author (entry.0).deed shard addressed entry.2 (refers cut.before entry.0 cut.after cut.is)
