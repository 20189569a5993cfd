-- What the proofs are given, and the entries of the closed logs: each was there at the start, or is of a hand, which
-- has seen it.
-- Used by `closed_logs_go_on`, Account, Begins, InTurn, Once, Programs, Work and crates sessions_account and
-- workers_account.
use Rattle.std.proofs.Common.{◌≡◌, ℕ, ◌<◌, ◌≤◌, Bool, List, ◌∷◌, ◌++◌, length, drop, Contains, AllPairs, IsTrue, ◌⊎◌, inl, inr, refl, sym, ap, subst, ◌∙◌, arith}
use Rattle.std.specs.List.{filter, flat_map}
use Rattle.std.proofs.lemmas.List.{length-append}
use Rattle.std.proofs.lemmas.List.Concat.{flat_map-append}
use Rattle.weave_data.proofs.Members.{has_cut, has_flat, has_head}
use Rattle.weave_data.proofs.Ordered.{pairs_across}
use Rattle.program_defs.specs.declared.script.Script.{Script}
use Rattle.program_defs.specs.Limits.{IsWithinLimits}
use Rattle.weave_entries.specs.declared.gate_log.GateEntry.{GateEntry}
use Rattle.weave_entries.specs.declared.store_log.StoreEntry.{StoreEntry}
use Rattle.weave_account.specs.declared.account.Account.{Account}
use Rattle.weave_account.specs.Account.{gate_log, shard_log}
use Rattle.weave_account.specs.GoesOn.{IsBeginningOf}
use Rattle.weave_account.proofs.GoesOn.{onward}
use Rattle.seen_logs.specs.Closed.{AreOfHands, IsOfHands}
use Rattle.seen_logs.specs.Seen.{AreLegal, IsOwn, IsWithin, without_sessions}
use Rattle.seen_logs.proofs.Onward.{earlier-place}
use Rattle.hands_account.specs.LowerLaws.{LawsForHands}
use Rattle.hands_account.specs.Runs.{IsFollowedByHand, IsRunByHands}
use Rattle.hands_account.proofs.Places.{filter-across, in-back, less-or, since-place}

-- what the lemmas on the closed logs of a run are given
pub record IsClosedRun (script : Script) (hands : ℕ) (start : Account) (seen_by : ℕ → Account) (closed : Account) : Type 0 where
  pub laws : LawsForHands
  pub limits : IsWithinLimits script
  pub legal : AreLegal script.gates script.shards closed
  pub of : AreOfHands script.shards hands (without_sessions start) seen_by (without_sessions closed)
  pub runs : IsRunByHands script hands start seen_by closed

-- Any log

-- an entry was there at the start
abbrev pub IsAtStart : {E : Type 0} → List E → List E → E → Type 0
IsAtStart {E} start before entry = (rest : List E) × (start ≡ before ++ entry ∷ rest)

-- this hand made it since, and has seen it
pub record IsByHand {E : Type 0} (hands : ℕ) (start : List E) (seen_by : ℕ → List E) (before : List E) (entry : E) (author number : ℕ) : Type 0 where
  pub known : number < hands
  pub own : IsOwn number start before author
  pub rest : List E
  pub at : seen_by number ≡ before ++ entry ∷ rest

module _ {E : Type 0} (hands : ℕ) (start : List E) (seen_by : ℕ → List E) (closed : List E)
    (on : (number : ℕ) → number < hands → IsBeginningOf (seen_by number) closed) where
  -- what was made since the start is of its author
  pub by-author : (before : List E) (entry : E) (after : List E) → closed ≡ before ++ entry ∷ after → (author : ℕ)
      → IsOfHands hands start seen_by before author → length start ≤ length before → (number : ℕ) → author ≡ number
      → IsByHand hands start seen_by before entry author number
  by-author before entry after at author (inl given) late number is = absurd (omega (arith, given, late))
  by-author before entry after at author (inr own) late number is =
      let known : number < hands = subst (λ n. n < hands) is own.0 in
      let less : length before < length (seen_by number) = subst (λ n. length before < length (seen_by n)) is own.1 in
      let place = earlier-place (seen_by number) closed (on number known) before entry after at less in
      record { known = known; own = (is, late); rest = place.0; at = place.1 }

  -- each entry was there at the start, or is of its author
  pub start-or-hand : IsBeginningOf start closed → (before : List E) (entry : E) (after : List E) → closed ≡ before ++ entry ∷ after → (author : ℕ)
      → IsOfHands hands start seen_by before author → IsAtStart start before entry ⊎ IsByHand hands start seen_by before entry author author
  start-or-hand more before entry after at author of =
      elim (less-or (length before) (length start)) [
        | inl given ↦ inl (earlier-place start closed more before entry after at given)
        | inr late ↦ inr (by-author before entry after at author of late author refl)
      ]

module _ {E B : Type 0} (R : B → B → Type 0) (f : E → List B) where
  -- of two entries of one log, what is made of the first has the relation to what is made of the second
  pub pair-there : (log : List E) → AllPairs R (flat_map f log) → (before mid rest : List E) (e d : E) → log ≡ (before ++ e ∷ mid) ++ d ∷ rest
      → (x y : B) → Contains (f e) x → Contains (f d) y → R x y
  pair-there log pairs before mid rest e d at x y hx hy =
      let front = before ++ e ∷ mid in
      pairs_across R (flat_map f front) (flat_map f (d ∷ rest)) x y
      (subst (AllPairs R) (ap (flat_map f) at ∙ flat_map-append f front (d ∷ rest)) pairs)
      (has_flat f front e x (has_cut before e mid) hx) (has_flat f (d ∷ rest) d y (has_head d rest) hy)

  -- and so of two entries since the start, of what passes a test
  pub pair-since : (p : B → Bool) (start log : List E) → IsBeginningOf start log → AllPairs R (filter p (flat_map f (drop (length start) log)))
      → (before mid rest : List E) (e d : E) → log ≡ (before ++ e ∷ mid) ++ d ∷ rest → length start ≤ length before
      → (x y : B) → Contains (f e) x → Contains (f d) y → IsTrue (p x) → IsTrue (p y) → R x y
  pair-since p start log on pairs before mid rest e d at late x y hx hy px py =
      let front = before ++ e ∷ mid in
      let many = length-append before (e ∷ mid) in
      let place = since-place start log on front d rest at (omega (arith, late, many)) in
      let back = in-back start place.0 before mid e (sym place.1) late in
      let whole : flat_map f (drop (length start) log) ≡ flat_map f place.0 ++ flat_map f (d ∷ rest) =
      ap (flat_map f) place.2 ∙ flat_map-append f place.0 (d ∷ rest) in
      filter-across R p (flat_map f place.0) (flat_map f (d ∷ rest)) (subst (λ l. AllPairs R (filter p l)) whole pairs) x y
      (has_flat f place.0 e x (subst (λ l. Contains l e) (sym back.2) (has_cut back.0 e mid)) hx)
      (has_flat f (d ∷ rest) d y (has_head d rest) hy) px py

-- The logs of a run

-- the logs at the start go on, since a hand has seen them and more
pub start-within : {shards hands : ℕ} {start : Account} {seen_by : ℕ → Account} {closed : Account} → AreOfHands shards hands start seen_by closed
    → IsWithin start closed
start-within {start = start} {seen_by = seen_by} {closed = closed} of =
    let some = of.some in
    let starts = (of.seen 0 (omega (arith, some))).starts in
    let ends = of.within 0 (omega (arith, some)) in
    record {
      gates = λ home. onward (gate_log start home) (gate_log (seen_by 0) home) (gate_log closed home) (starts.gates home) (ends.gates home);
      store = onward start.store (seen_by 0).store closed.store starts.store ends.store;
      oracle = onward start.oracle (seen_by 0).oracle closed.oracle starts.oracle ends.oracle;
      shards = λ shard. onward (shard_log start shard) (shard_log (seen_by 0) shard) (shard_log closed shard) (starts.shards shard) (ends.shards shard);
    }

module _ {script : Script} {hands : ℕ} {start : Account} {seen_by : ℕ → Account} {closed : Account} (run : IsClosedRun script hands start seen_by closed) where
  -- there is at least one hand
  pub first : 0 < hands
  first = let some = run.of.some in omega (arith, some)

  -- a hand follows the script
  pub follows : (number : ℕ) → number < hands → IsFollowedByHand script number start (seen_by number) closed
  follows = run.runs.follows

  -- what a hand has seen starts with the logs at the start
  pub starts : (number : ℕ) → number < hands → IsWithin (without_sessions start) (seen_by number)
  starts number known = (run.of.seen number known).starts

  -- the logs at the start go on
  pub gates-on : (home : ℕ) → IsBeginningOf (gate_log start home) (gate_log closed home)
  gates-on = (start-within run.of).gates

  -- the store's log at the start goes on
  pub store-on : IsBeginningOf start.store closed.store
  store-on = (start-within run.of).store

  -- an entry of a gatekeeper's log is of this hand
  abbrev pub IsGateByHand : ℕ → List GateEntry → GateEntry → ℕ → Type 0
  IsGateByHand home before entry number =
      IsByHand hands (gate_log start home) (λ n. gate_log (seen_by n) home) before entry entry.author number

  -- an entry that a gatekeeper's log gained since the start was made by the hand with its author's number
  pub gate-by : (home : ℕ) (before : List GateEntry) (entry : GateEntry) (after : List GateEntry) → gate_log closed home ≡ before ++ entry ∷ after
      → length (gate_log start home) ≤ length before → (number : ℕ) → entry.author ≡ number → IsGateByHand home before entry number
  gate-by home before entry after at late number is =
      by-author hands (gate_log start home) (λ n. gate_log (seen_by n) home) (gate_log closed home) (λ n known. (run.of.within n known).gates home)
      before entry after at entry.author (run.of.gate_entries home before entry after at) late number is

  -- an entry of a gatekeeper's closed log was there at the start, or was made by the hand of its author
  pub gate-case : (home : ℕ) (before : List GateEntry) (entry : GateEntry) (after : List GateEntry) → gate_log closed home ≡ before ++ entry ∷ after
      → IsAtStart (gate_log start home) before entry ⊎ IsGateByHand home before entry entry.author
  gate-case home before entry after at =
      start-or-hand hands (gate_log start home) (λ n. gate_log (seen_by n) home) (gate_log closed home) (λ n known. (run.of.within n known).gates home)
      (gates-on home) before entry after at entry.author (run.of.gate_entries home before entry after at)

  -- a judgement is of this hand
  abbrev pub IsStoreByHand : List StoreEntry → StoreEntry → ℕ → Type 0
  IsStoreByHand before entry number = IsByHand hands start.store (λ n. (seen_by n).store) before entry entry.author number

  -- an entry that the store's log gained since the start was made by the hand with its author's number
  pub store-by : (before : List StoreEntry) (entry : StoreEntry) (after : List StoreEntry) → closed.store ≡ before ++ entry ∷ after
      → length start.store ≤ length before → (number : ℕ) → entry.author ≡ number → IsStoreByHand before entry number
  store-by before entry after at late number is =
      by-author hands start.store (λ n. (seen_by n).store) closed.store (λ n known. (run.of.within n known).store)
      before entry after at entry.author (run.of.store_entries before entry after at) late number is

  -- an entry of the store's closed log was there at the start, or was made by the hand of its author
  pub store-case : (before : List StoreEntry) (entry : StoreEntry) (after : List StoreEntry) → closed.store ≡ before ++ entry ∷ after
      → IsAtStart start.store before entry ⊎ IsStoreByHand before entry entry.author
  store-case before entry after at =
      start-or-hand hands start.store (λ n. (seen_by n).store) closed.store (λ n known. (run.of.within n known).store)
      store-on before entry after at entry.author (run.of.store_entries before entry after at)
