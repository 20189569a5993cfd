-- What a hand has seen goes on: what it made earlier refers to what was seen then, and so to what is seen now.
-- Used by `asked_pairs_precede`, `hands_see_more`, `own_visits_stay`, Closing, Noting, Reading and 6 crates above.
use Rattle.std.proofs.Common.{◌≡◌, ℕ, ◌<◌, ◌≤◌, List, [], ◌∷◌, ◌++◌, length, drop, Contains, ◌⊎◌, inl, inr, refl, sym, ap, subst, ◌∙◌, arith}
use Rattle.std.proofs.lemmas.Bool.{cases_Bool, cases_lt}
use Rattle.std.proofs.lemmas.List.{drop-append-le, length-append}
use Rattle.weave_data.proofs.Members.{has_head, has_flat, has_none, has_read}
use Rattle.vector_stamp.specs.declared.clock.Stamp.{Stamp}
use Rattle.vector_stamp.specs.Precedence.{ByPair, GivenPair, precedes}
use Rattle.vector_stamp.specs.Settling.{additions_from, places_of}
use Rattle.weave_entries.specs.declared.gate_log.GateEntry.{GateEntry}
use Rattle.weave_entries.specs.declared.oracle_log.OracleEntry.{OracleEntry}
use Rattle.weave_entries.specs.declared.shard_log.ShardEntry.{ShardEntry}
use Rattle.weave_entries.specs.declared.shard_log.ShardDeed.{ShardDeed}
use Rattle.weave_entries.specs.declared.shard_log.ShardDeed.TheVariants.{Arrived, Applied, Visited, Collected}
use Rattle.weave_entries.specs.declared.store_log.StoreEntry.{StoreEntry}
use Rattle.weave_entries.specs.Logs.{AtEachEntry}
use Rattle.weave_entries.specs.GateReplay.{program_by, programs_of}
use Rattle.weave_entries.specs.OracleReplay.{pairs_of_entry, settled_entry}
use Rattle.weave_entries.specs.OracleRules.{IsOracleLog, IsRightEntry, IsRightFrom}
use Rattle.weave_entries.specs.ShardReplay.{Visit}
use Rattle.weave_entries.specs.ShardRules.{IsShardLog}
use Rattle.weave_account.specs.declared.account.Account.{Account}
use Rattle.weave_account.specs.Account.{Precedence, gate_log, shard_log}
use Rattle.weave_account.specs.GoesOn.{IsBeginningOf}
use Rattle.weave_account.specs.Oracle.{seen_last}
use Rattle.weave_account.proofs.GoesOn.{has-on, longer, flat-on}
use Rattle.seen_logs.specs.LowerLaws.{LawsForSeenLogs}
use Rattle.seen_logs.specs.References.{GateRefersAs, IsAskedAsSeen, OracleRefersAs, ShardRefersAs, StoreRefersAs}
use Rattle.seen_logs.specs.Seen.{AddsAsSeen, AnswersFor, HasAsked, IsOwn, IsSeenByHand, IsWithin, VisitsItsOwn, VisitsOwnPrograms, entries_since, visit_entry}
use Rattle.seen_logs.proofs.Going.{asked-stays, gate-stays, oracle-stays, shard-stays, store-stays}
use Rattle.seen_logs.proofs.Placed.{in-front}
use Rattle.seen_logs.proofs.Within.{all-later}

-- Lists

-- what is left of a list goes on if the list does
pub since-on : {A : Type 0} (start xs ys : List A) → length start ≤ length xs → IsBeginningOf xs ys → IsBeginningOf (entries_since start xs) (entries_since start ys)
since-on start xs ys few on = (on.0, ap (drop (length start)) on.1 ∙ drop-append-le (length start) xs on.0 few)

-- a place of a list that went on, if it is within what the list was
pub earlier-place : {A : Type 0} (xs ys : List A) → IsBeginningOf xs ys → (before : List A) (e : A) (after : List A) → ys ≡ before ++ e ∷ after
    → length before < length xs → (rest : List A) × (xs ≡ before ++ e ∷ rest)
earlier-place xs ys on before e after at less = in-front xs on.0 before after e (sym on.1 ∙ at) less

-- an entry is one for which the hand answered already, or its own new one
old-or-new : {E : Type 0} (number : ℕ) (start seen before : List E) (author : ℕ) → length start ≤ length seen → AnswersFor number start before author
    → (length before < length seen) ⊎ IsOwn number seen before author
old-or-new number start seen before author few (inr given) = inl (omega (arith, few, given))
old-or-new number start seen before author few (inl own) =
    elim (cases_lt (length before) (length seen)) [ inl old ↦ inl old | inr new ↦ inr (own, new) ]

-- Going on

-- a hand's own program was begun by it
own-stays : (number : ℕ) (start seen next : Account) → IsWithin start seen → IsWithin seen next → (deed : ShardDeed)
    → VisitsItsOwn number start seen deed → VisitsItsOwn number start next deed
own-stays number start seen next starts on (Visited r stamp v updates settled) begun =
    let home = begun.0 in
    let few = longer (gate_log start home) (gate_log seen home) (starts.gates home) in
    let more = since-on (gate_log start home) (gate_log seen home) (gate_log next home) few (on.gates home) in (
      home,
      has-on (programs_of (entries_since (gate_log start home) (gate_log seen home))) (programs_of (entries_since (gate_log start home) (gate_log next home)))
          (flat-on (λ (e : GateEntry). program_by e.author e.deed) (entries_since (gate_log start home) (gate_log seen home))
          (entries_since (gate_log start home) (gate_log next home)) more) _ begun.1,
    )
own-stays number start seen next starts on (Arrived home n message) begun = tt
own-stays number start seen next starts on (Applied home n) begun = tt
own-stays number start seen next starts on (Collected bound) begun = tt

-- at the start no visit is a hand's own
pub own-none : (number : ℕ) (start : Account) → VisitsOwnPrograms number start start
own-none number start shard before entry after at own =
    absurd (let many = ap length at ∙ length-append before (entry ∷ after) in let long = own.1 in omega (arith, many, long))

-- the visits of a hand that it had made are of its own programs, and so are the new ones
pub own-on : (number : ℕ) (start seen next : Account) → IsWithin start seen → IsWithin seen next → VisitsOwnPrograms number start seen
    → ((shard : ℕ) → AtEachEntry (λ before (entry : ShardEntry). IsOwn number (shard_log seen shard) before entry.author
    → VisitsItsOwn number start next entry.deed) (shard_log next shard)) → VisitsOwnPrograms number start next
own-on number start seen next starts on old new shard before entry after at own =
    elim (cases_lt (length before) (length (shard_log seen shard))) [
      | inl earlier ↦
          let place = earlier-place (shard_log seen shard) (shard_log next shard) (on.shards shard) before entry after at earlier in
          own-stays number start seen next starts on entry.deed (old shard before entry place.0 place.1 own)
      | inr later ↦ new shard before entry after at (own.0, later)
    ]

-- a visit that asked is one that had asked if it is within what was seen
pub asked-before : (number : ℕ) (start seen next : Account) → IsWithin seen next → (shard : ℕ) (before : List ShardEntry) (visit : Visit)
    → HasAsked number start next shard before visit → length before < length (shard_log seen shard) → HasAsked number start seen shard before visit
asked-before number start seen next on shard before visit asked less =
    let place = earlier-place (shard_log seen shard) (shard_log next shard) (on.shards shard) before (visit_entry visit) asked.after asked.at less in
    record { after = place.0; at = place.1; answers = asked.answers; marked = asked.marked }

module _ (laws : LawsForSeenLogs) (gates shards number : ℕ) (start seen next : Account) (hand : IsSeenByHand shards number start seen) (on : IsWithin seen next)
    (legal : (shard : ℕ) → IsShardLog gates (shard_log next shard)) (adds : AddsAsSeen shards number start seen next) where
  gate-entry : (home : ℕ) (before : List GateEntry) (entry : GateEntry) (after : List GateEntry) → gate_log next home ≡ before ++ entry ∷ after
      → AnswersFor number (gate_log start home) before entry.author → GateRefersAs next shards before entry.author entry.deed
  gate-entry home before entry after at mine =
      elim (old-or-new number (gate_log start home) (gate_log seen home) before entry.author (longer _ _ (hand.starts.gates home)) mine) [
        | inl old ↦
            let place = earlier-place (gate_log seen home) (gate_log next home) (on.gates home) before entry after at old in
            gate-stays laws seen next on.gates on.store on.shards gates legal shards before entry.author entry.deed
            (hand.gate_entries home before entry place.0 place.1 mine)
        | inr new ↦ adds.gate_entries home before entry after at new
      ]

  store-entry : (before : List StoreEntry) (entry : StoreEntry) (after : List StoreEntry) → next.store ≡ before ++ entry ∷ after
      → AnswersFor number start.store before entry.author → StoreRefersAs next before entry.author entry.deed
  store-entry before entry after at mine =
      elim (old-or-new number start.store seen.store before entry.author (longer _ _ hand.starts.store) mine) [
        | inl old ↦
            let place = earlier-place seen.store next.store on.store before entry after at old in
            store-stays laws seen next on.gates on.oracle before entry.author entry.deed (hand.store_entries before entry place.0 place.1 mine)
        | inr new ↦ adds.store_entries before entry after at new
      ]

  oracle-entry : (before : List OracleEntry) (entry : OracleEntry) (after : List OracleEntry) → next.oracle ≡ before ++ entry ∷ after
      → AnswersFor number start.oracle before entry.author → OracleRefersAs next entry.deed × IsAskedAsSeen next entry
  oracle-entry before entry after at mine =
      elim (old-or-new number start.oracle seen.oracle before entry.author (longer _ _ hand.starts.oracle) mine) [
        | inl old ↦
            let place = earlier-place seen.oracle next.oracle on.oracle before entry after at old in
            let was = hand.oracle_entries before entry place.0 place.1 mine in
            (oracle-stays laws seen next on.gates entry.deed was.0, asked-stays laws seen next on.store on.shards gates legal entry was.1)
        | inr new ↦ adds.oracle_entries before entry after at new
      ]

  shard-entry : (shard : ℕ) (before : List ShardEntry) (entry : ShardEntry) (after : List ShardEntry) → shard_log next shard ≡ before ++ entry ∷ after
      → AnswersFor number (shard_log start shard) before entry.author → ShardRefersAs next shards shard before entry.author entry.deed
  shard-entry shard before entry after at mine =
      elim (old-or-new number (shard_log start shard) (shard_log seen shard) before entry.author (longer _ _ (hand.starts.shards shard)) mine) [
        | inl old ↦
            let place = earlier-place (shard_log seen shard) (shard_log next shard) (on.shards shard) before entry after at old in
            shard-stays laws seen next on.gates on.store on.oracle shards shard before entry.author entry.deed
            (hand.shard_entries shard before entry place.0 place.1 mine)
        | inr new ↦ adds.shard_entries shard before entry after at new
      ]

  once : (shard other : ℕ) (before rest : List ShardEntry) (a b : Visit) → HasAsked number start next shard before a
      → HasAsked number start next other rest b → a.stamp ≡ b.stamp → seen_last before a ≡ seen_last rest b
      → (shard ≡ other) × (length before ≡ length rest)
  once shard other before rest a b asked_a asked_b stamps lasts =
      elim (cases_lt (length before) (length (shard_log seen shard))) [
        | inr new ↦ adds.asks_once shard other before rest a b asked_a asked_b new stamps lasts
        | inl old ↦ elim (cases_lt (length rest) (length (shard_log seen other))) [
          | inr new ↦ (let same = adds.asks_once other shard rest before b a asked_b asked_a new (sym stamps) (sym lasts) in (sym same.0, sym same.1))
          | inl also ↦ hand.asks_once shard other before rest a b
              (asked-before number start seen next on shard before a asked_a old)
              (asked-before number start seen next on other rest b asked_b also) stamps lasts
        ]
      ]

  -- what the hand has seen now
  pub hand-on : IsSeenByHand shards number start next
  hand-on =
      record {
        starts = all-later start seen next hand.starts on;
        gate_entries = gate-entry;
        store_entries = store-entry;
        oracle_entries = oracle-entry;
        shard_entries = shard-entry;
        asks_once = once;
      }

-- What was asked for

-- an entry of an oracle's log is right after some pairs
right-after : (pairs : List GivenPair) (log : List OracleEntry) → IsRightFrom pairs log → (entry : OracleEntry) → Contains log entry
    → (earlier : List GivenPair) × IsRightEntry earlier (settled_entry entry)
right-after pairs [] right entry h = absurd (has_none entry h)
right-after pairs (one ∷ log) right entry h =
    elim (has_read one log entry h) [
      | inl same ↦ (pairs, subst (λ e. IsRightEntry pairs (settled_entry e)) same right.0)
      | inr more ↦ right-after (pairs ++ pairs_of_entry (settled_entry one)) log right.1 entry more
    ]

-- an entry of one earlier event adds the pair of that one
one-pair : (pairs : List GivenPair) (author : ℕ) (earlier : List Stamp) (later : Stamp) (places : List ℕ) (event : Stamp)
    → IsRightEntry pairs (record { author = author; earlier = earlier; later = later; places = places }) → earlier ≡ event ∷ []
    → Contains (pairs_of_entry (record { author = author; earlier = earlier; later = later; places = places })) (event, later)
one-pair pairs author earlier later places event right is =
    let placed : places ≡ places_of (additions_from 0 pairs (event ∷ []) later) = right.added ∙ ap (λ es. places_of (additions_from 0 pairs es later)) is in
    elim (cases_Bool (precedes pairs event later)) [
      | inl already ↦ absurd (right.some (placed ∙ rw already refl))
      | inr open_yet ↦
          let first : places ≡ 0 ∷ [] = placed ∙ rw open_yet refl in
          subst (λ es. Contains (pairs_of_entry (record { author = author; earlier = es; later = later; places = places })) (event, later)) (sym is)
          (subst (λ ps. Contains (pairs_of_entry (record { author = author; earlier = event ∷ []; later = later; places = ps })) (event, later)) (sym first)
          (has_head (event, later) []))
    ]

-- the update for which a visit asked precedes its program by what was seen
pub asked-precedes : (shards number : ℕ) (start seen : Account) → IsSeenByHand shards number start seen → IsOracleLog seen.oracle
    → (shard : ℕ) (before : List ShardEntry) (visit : Visit) → HasAsked number start seen shard before visit
    → (update : Stamp) → seen_last before visit ≡ update ∷ [] → Precedence seen update visit.stamp
asked-precedes shards number start seen hand legal shard before visit asked update is =
    let its = (hand.shard_entries shard before (visit_entry visit) asked.after asked.at asked.answers).asked asked.marked in
    let entry = settled_entry its.entry in
    let right = right-after [] seen.oracle legal its.entry its.is_there in
    let pair = one-pair right.0 entry.author entry.earlier entry.later entry.places update right.1 (its.earlier_is ∙ is) in
    let there = has_flat (λ (e : OracleEntry). pairs_of_entry (settled_entry e)) seen.oracle its.entry (update, entry.later) its.is_there pair in
    subst (λ later. Precedence seen update later) its.later_is (ByPair update entry.later there)
