-- What a hand made at gatekeepers, and what it has not made.
-- Used by `apply`, `arrive`, `begin_program`, `begin_tx`, `commit`, `fetch`, `hear`, `nop`, `say`, `send`, `visit` and
-- Going.
use Rattle.std.proofs.Common.{eqb, ◌≡◌, eqb, ◌≢◌, ℕ, ◌<◌, ◌≤◌, suc, List, [], ◌∷◌, get_or, Contains, inl, inr, refl, sym, ap, ◌∙◌, subst, arith, eq-eqb}
use Rattle.std.specs.Prelude.{Result, Ok, Err}
use Rattle.weave_data.proofs.Members.{flat_has, has_filter, has_flat, has_none, only}
use Rattle.weave_data.proofs.RowsSet.{set-has}
use Rattle.weave_entries.specs.declared.gate_log.GateDeed.{GateDeed}
use Rattle.weave_entries.specs.declared.gate_log.GateDeed.TheVariants.{BeganTx, BeganProgram, Sent, Nop, Heard, Finished}
use Rattle.weave_entries.specs.declared.gate_log.GateEntry.{GateEntry}
use Rattle.weave_entries.specs.GateReplay.{BegunRequest, begun_by}
use Rattle.weave_account.specs.declared.account.Account.{Account}
use Rattle.weave_account.specs.Account.{gate_log}
use Rattle.weaver_locks.specs.declared.hand.Hand.{Hand}
use Rattle.weaver_locks.specs.declared.shared.Shared.{Shared}
use Rattle.weaver_locks.specs.Following.{HasNotBegun}
use Rattle.weaver_locks.specs.GateHolds.{gate_entries_of, gate_entry_by}
use Rattle.weaver_locks.specs.Hands.{hand_number, made_by, seen_by, with_gate_entries, IsHand}
use Rattle.weaver_locks.proofs.EachLog.{own-gate}
use Rattle.lock_tests.specs.Workers.{HasNotFinished, MadeBut}

-- an entry with the hand's number that was seen at a gatekeeper is one that the hand made
pub made-gate : (shared : Shared) (hand : Hand) → IsHand shared hand → (home : ℕ) (entry : GateEntry)
    → Contains (gate_log (seen_by hand) home) entry → entry.author ≡ hand_number hand → Contains (gate_log (made_by hand) home) entry
made-gate shared hand is home entry there author_is =
    subst (λ (l : List GateEntry). Contains l entry) (sym (own-gate shared hand is home))
    (has_filter (λ (e : GateEntry). eqb e.author (hand_number hand)) (gate_log (seen_by hand) home) entry there
    (eq-eqb entry.author (hand_number hand) author_is))

-- if a hand made what it had made and some entries at one gatekeeper, it made no other entry at gatekeepers
pub made-there : (old new : Hand) (gate : ℕ) (added : List GateEntry) → made_by new ≡ with_gate_entries gate added (made_by old) → MadeBut old new added
made-there old new gate added made home entry h =
    set-has (made_by old).gates gate home added entry (subst (λ (a : Account). Contains (gate_log a home) entry) made h)

-- if what a hand made at gatekeepers is what it had made, it made no entry there
pub made-elsewhere : (old new : Hand) → (made_by new).gates ≡ (made_by old).gates → MadeBut old new []
made-elsewhere old new made home entry h =
    inl (subst (λ (ls : List (List GateEntry)). Contains (get_or ls home []) entry) made h)

-- Entries that begin and finish nothing

abbrev finishes : GateDeed → ℕ
finishes (Finished r) = 1
finishes _ = 0

pub record IsQuiet (deed : GateDeed) : Type 0 where
  pub begins_none : (author : ℕ) → begun_by author deed ≡ []
  pub finishes_none : (r : ℕ) → deed ≢ Finished r

abbrev pub Quiet : List GateEntry → Type 0
Quiet added = (entry : GateEntry) → Contains added entry → IsQuiet entry.deed

not-finished : (deed : GateDeed) → finishes deed ≡ 0 → (r : ℕ) → deed ≢ Finished r
not-finished deed none r same =
    let one : finishes deed ≡ 1 = ap finishes same in
    omega (arith, one, none)

-- the sending of a transaction begins and finishes nothing
pub sent-quiet : (r : ℕ) (messages : _) → IsQuiet (Sent r messages)
sent-quiet r messages = record { begins_none = λ author. refl; finishes_none = not-finished (Sent r messages) refl }

-- an empty message begins and finishes nothing
pub nop-quiet : (shard number : ℕ) (stamp : _) (low : _) → IsQuiet (Nop shard number stamp low)
nop-quiet shard number stamp low = record {
  begins_none = λ author. refl;
  finishes_none = not-finished (Nop shard number stamp low) refl;
}

-- the hearing of a clock begins and finishes nothing
pub heard-quiet : (clock : _) → IsQuiet (Heard clock)
heard-quiet clock = record { begins_none = λ author. refl; finishes_none = not-finished (Heard clock) refl }

-- a list without entries begins and finishes nothing
pub none-quiet : Quiet []
none-quiet entry h = absurd (has_none entry h)

-- the entry of a call begins and finishes nothing, if so it is with the deed of each answer
pub call-quiet : {A F : Type 0} (hand : Hand) (deed : A → GateDeed) (result : Result A F) → ((answer : A) → IsQuiet (deed answer))
    → Quiet (gate_entries_of hand deed result)
call-quiet hand deed (Ok answer) quiet entry h =
    subst (λ (e : GateEntry). IsQuiet e.deed) (only (gate_entry_by hand (deed answer)) entry h) (quiet answer)
call-quiet hand deed (Err fault) quiet entry h = absurd (has_none entry h)

-- What was not begun

abbrev pub BeginBelow : ℕ → List GateEntry → Type 0
BeginBelow next added = (entry : GateEntry) (begun : BegunRequest) → Contains added entry
    → Contains (begun_by entry.author entry.deed) begun → begun.request < next

-- entries that begin and finish nothing begin no request with a number from this one on
pub quiet-below : (next : ℕ) (added : List GateEntry) → Quiet added → BeginBelow next added
quiet-below next added quiet entry begun h there =
    absurd (has_none begun (subst (λ (l : List BegunRequest). Contains l begun) ((quiet entry h).begins_none entry.author) there))

-- if no request from a number on was begun, and new begins are below a later one, none from the later one on was begun
pub still-new : (old new : Hand) (added : List GateEntry) → MadeBut old new added → (before next : ℕ) → before ≤ next → BeginBelow next added
    → ((r : ℕ) → before ≤ r → HasNotBegun old r) → (r : ℕ) → next ≤ r → HasNotBegun new r
still-new old new added made before next more below fresh r low home begun h =
    let by = flat_has (λ (e : GateEntry). begun_by e.author e.deed) (gate_log (made_by new) home) begun h in
    elim (made home by.0 by.1) [
      | inl there ↦ fresh r (omega (arith, more, low)) home begun
          (has_flat (λ (e : GateEntry). begun_by e.author e.deed) (gate_log (made_by old) home) by.0 begun there by.2)
      | inr one ↦ (λ same. let less = below by.0 begun one by.2 in omega (arith, less, low, same))
    ]

-- the begin of a transaction begins no request with a number above its own
pub tx-below : (hand : Hand) (r : ℕ) (stamp : _) → BeginBelow (suc r) (gate_entry_by hand (BeganTx r stamp) ∷ [])
tx-below hand r stamp entry begun h there =
    let here = subst (λ (e : GateEntry). Contains (begun_by e.author e.deed) begun) (sym (only (gate_entry_by hand (BeganTx r stamp)) entry h)) there in
    let one = only (record { author = hand_number hand; request = r; stamp = stamp }) begun here in
    let same : r ≡ begun.request = ap (λ (b : BegunRequest). b.request) one in
    omega (arith, same)

-- the begin of a program begins no request with a number above its own
pub program-below : (hand : Hand) (r : ℕ) (stamp : _) → BeginBelow (suc r) (gate_entry_by hand (BeganProgram r stamp) ∷ [])
program-below hand r stamp entry begun h there =
    let here = subst (λ (e : GateEntry). Contains (begun_by e.author e.deed) begun) (sym (only (gate_entry_by hand (BeganProgram r stamp)) entry h)) there in
    let one = only (record { author = hand_number hand; request = r; stamp = stamp }) begun here in
    let same : r ≡ begun.request = ap (λ (b : BegunRequest). b.request) one in
    omega (arith, same)

-- an entry that is no finish finishes no request
pub one-unfinished : (hand : Hand) (deed : GateDeed) → finishes deed ≡ 0 → (r : ℕ) (entry : GateEntry)
    → Contains (gate_entry_by hand deed ∷ []) entry → entry.deed ≢ Finished r
one-unfinished hand deed none r entry h same =
    not-finished deed none r (ap (λ (e : GateEntry). e.deed) (only (gate_entry_by hand deed) entry h) ∙ same)

-- the entries of a call to finish begin no request
pub finish-below : {A F : Type 0} (hand : Hand) (r next : ℕ) (result : Result A F)
    → BeginBelow next (gate_entries_of hand (λ (answer : A). Finished r) result)
finish-below hand r next (Ok answer) entry begun h there =
    absurd (has_none begun (subst (λ (e : GateEntry). Contains (begun_by e.author e.deed) begun) (sym (only (gate_entry_by hand (Finished r)) entry h)) there))
finish-below hand r next (Err fault) entry begun h there = absurd (has_none entry h)

-- What was not finished

abbrev pub FinishBelow : ℕ → List GateEntry → Type 0
FinishBelow next added = (entry : GateEntry) → Contains added entry → (r : ℕ) → next ≤ r → entry.deed ≢ Finished r

-- entries that begin and finish nothing finish no program with a number from this one on
pub quiet-unfinished : (next : ℕ) (added : List GateEntry) → Quiet added → FinishBelow next added
quiet-unfinished next added quiet entry h r low = (quiet entry h).finishes_none r

-- nor does an entry of a deed that is no finish
pub begins-unfinished : (hand : Hand) (deed : GateDeed) → finishes deed ≡ 0 → (next : ℕ) → FinishBelow next (gate_entry_by hand deed ∷ [])
begins-unfinished hand deed none next entry h r low = one-unfinished hand deed none r entry h

abbrev finished-by : GateDeed → ℕ
finished-by (Finished r) = r
finished-by _ = 0

-- the finish of a program with a number below this one finishes none from this number on
pub finish-unfinished : {A F : Type 0} (hand : Hand) (r next : ℕ) (result : Result A F) → r < next
    → FinishBelow next (gate_entries_of hand (λ (answer : A). Finished r) result)
finish-unfinished hand r next (Ok answer) below entry h other low same =
    let one : r ≡ other = ap finished-by (ap (λ (e : GateEntry). e.deed) (only (gate_entry_by hand (Finished r)) entry h) ∙ same) in
    omega (arith, one, below, low)
finish-unfinished hand r next (Err fault) below entry h other low same = absurd (has_none entry h)

-- if no program from a number on was finished, and new finishes are below a later one, none from that one on was
pub still-unfinished : (old new : Hand) (added : List GateEntry) → MadeBut old new added → (before next : ℕ) → before ≤ next
    → FinishBelow next added → ((r : ℕ) → before ≤ r → HasNotFinished old r) → (r : ℕ) → next ≤ r → HasNotFinished new r
still-unfinished old new added made before next more below fresh r low home entry h =
    elim (made home entry h) [
      | inl there ↦ fresh r (omega (arith, more, low)) home entry there
      | inr one ↦ below entry one r low
    ]
