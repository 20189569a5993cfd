-- A closed log, and what the hands have seen of it.
-- Used by ClosedRun and Closings.
use Rattle.std.proofs.Common.{◌≡◌, ⊎_elim, inl, inr, ℕ, ◌<◌, ◌≤◌, List, [], ◌∷◌, ◌++◌, length, map, get_or, refl, sym, ap, ◌∙◌, subst, arith, Vec}
use Rattle.std.specs.Global.{Global}
use Rattle.std.specs.List.{All, Any, Contains}
use Rattle.std.proofs.lemmas.Bool.{cases_lt}
use Rattle.std.proofs.lemmas.List.{get_or-map, get_or_past, length-map, map-append}
use Rattle.std.proofs.lemmas.List.Elements.{All-nil, All-contains}
use mathlib.Core.List.{IsPrefix}
use Rattle.seen_logs.specs.Closed.{IsOfHands}
use Rattle.chronicle.specs.declared.chronicle.Chronicle.{Chronicle}
use Rattle.chronicle.specs.declared.pass.Pass.{Pass}
use Rattle.chronicle.specs.Frames.{Frame}
use Rattle.chronicle.specs.Logs.{Log, entries_of, IsGrown}
use Rattle.chronicle.specs.Locks.{Lock, lock_of}
use Rattle.chronicle.specs.Passes.{number_of, seen_by_pass, own_entries}
use Rattle.lock_row.proofs.Lists.{one_of}
use Rattle.weaver_locks.specs.declared.hand.Hand.{Hand}
use Rattle.weaver_locks.specs.Hands.{hand_number}
use Rattle.weaver_locks.specs.Rooms.{HaveGathered}
use Rattle.weaver_locks.specs.ClosedRows.{CameOut, AreClosed}
use Rattle.weaver_locks.specs.ClosingLaws.{OwnEntries}
use Rattle.weaver_locks.proofs.Lists.{all_unmapped, any_unmapped}

module _ {E : Type 0} (hands : List Hand) where
  -- the closed log of a lock, of whose log each hand has seen what `seen_by` says
  pub record IsClosedLog (seen_by : Hand → Log E) (passes : ℕ) (start log : Log E) : Type 0 where
    pub longest : Any (λ h. seen_by h ≡ log) hands
    pub prefixes : All (λ h. IsPrefix (seen_by h) log) hands
    pub own : All (λ h. entries_of (hand_number h) log ≡ entries_of (hand_number h) (seen_by h)) hands
    pub authors : IsGrown passes start log

  -- whichever way it is said what they have seen
  pub closed_alike : (s t : Hand → Log E) (passes : ℕ) (start log : Log E) → All (λ h. s h ≡ t h) hands
      → IsClosedLog s passes start log → IsClosedLog t passes start log
  closed_alike s t passes start log same is = record {
    longest = let a = is.longest in
        (a.0, a.1, a.2, a.3, sym (All-contains (λ h. s h ≡ t h) hands a.1 same (a.0, a.2, a.3)) ∙ a.4);
    prefixes = λ k d low. subst (λ (l : Log E). IsPrefix l log) (same k d low) (is.prefixes k d low);
    own = λ k d low. subst (λ (l : Log E). entries_of (hand_number (get_or hands k d)) log ≡ entries_of (hand_number (get_or hands k d)) l)
        (same k d low) (is.own k d low);
    authors = is.authors;
  }

  -- a log that isn't there
  pub closed_empty : (passes : ℕ) (hand : Hand) → Contains hands hand → IsClosedLog (λ h. []) passes [] []
  closed_empty passes hand there = record {
    longest = (there.0, hand, there.1, there.2, refl);
    prefixes = λ k d low. ([], refl);
    own = λ k d low. refl;
    authors = ([], refl, All-nil (λ e. e.0 < passes));
  }

  module _ {M : Type 0} (frame_of : M → Frame) (log_of : M → Log E) where
    -- what `close` says of passes, said of hands
    pub closed_log : (part : Hand → Pass E) (lock : Lock E) (m : M) (ps : List (Pass E)) → ps ≡ map part hands
        → All (λ h. number_of (part h) ≡ hand_number h) hands → CameOut frame_of log_of lock ps m
        → IsClosedLog (λ h. seen_by_pass (part h)) lock.passes lock.start (log_of m)
    closed_log part lock m ps is numbers closed = record {
      longest = any_unmapped (λ p. seen_by_pass p ≡ log_of m) part hands (subst (Any (λ p. seen_by_pass p ≡ log_of m)) is closed.longest);
      prefixes = all_unmapped (λ p. IsPrefix (seen_by_pass p) (log_of m)) part hands (subst (All (λ p. IsPrefix (seen_by_pass p) (log_of m))) is closed.prefixes);
      own = λ k d low. subst (λ (n : ℕ). entries_of n (log_of m) ≡ entries_of n (seen_by_pass (part (get_or hands k d)))) (numbers k d low)
          (all_unmapped (λ p. entries_of (number_of p) (log_of m) ≡ own_entries p) part hands
          (subst (All (λ p. entries_of (number_of p) (log_of m) ≡ own_entries p)) is closed.own) k d low);
      authors = closed.authors;
    }

    module _ (row : Hand → List (Pass E)) (locks : List (Chronicle M E)) (rooms : List (Vec (Pass E) Global)) (machines : List M) (passes count : ℕ)
        (hand : Hand) (there : Contains hands hand) (lengths : All (λ h. length (row h) ≡ length locks) hands) where
      abbrev seen_at : ℕ → Hand → Log E
      seen_at k h = get_or (map seen_by_pass (row h)) k []

      abbrev start_at : ℕ → Log E
      start_at k = get_or (map (λ (c : Chronicle M E). (lock_of c).start) locks) k []

      abbrev log_at : ℕ → Log E
      log_at k = get_or (map log_of machines) k []

      far_closed : (k : ℕ) → length locks ≤ k → length machines ≡ length locks → IsClosedLog (seen_at k) passes (start_at k) (log_at k)
      far_closed k far long =
          let S : Chronicle M E → Log E = λ c. (lock_of c).start in
          let start : start_at k ≡ [] = get_or_past (map S locks) k [] (omega (arith, far, length-map locks S)) in
          let log : log_at k ≡ [] = get_or_past (map log_of machines) k [] (omega (arith, far, long, length-map machines log_of)) in
          subst (λ (z : Log E × Log E). IsClosedLog (seen_at k) passes z.0 z.1) (λ i. (sym start i, sym log i))
          (closed_alike (λ h. []) (seen_at k) passes [] []
          (λ j d low. let r = row (get_or hands j d) in sym (get_or_past (map seen_by_pass r) k [] (omega (arith, far, lengths j d low, length-map r seen_by_pass))))
          (closed_empty passes hand there))

      near_closed : (k : ℕ) → k < length locks → length machines ≡ length locks → length rooms ≡ length locks
          → AreClosed frame_of log_of locks rooms machines → HaveGathered row count hands rooms
          → All (λ (c : Chronicle M E). (lock_of c).passes ≡ passes) locks
          → All (λ h. All (λ p. number_of p ≡ hand_number h) (row h)) hands
          → IsClosedLog (seen_at k) passes (start_at k) (log_at k)
      near_closed k low long rooms_long closed gathered all numbers =
          let S : Chronicle M E → Log E = λ c. (lock_of c).start in
          let its = All-contains (λ h. length (row h) ≡ length locks) hands hand lengths there in
          let p : Pass E = one_of (row hand) k (omega (arith, low, its)) in
          let c : Chronicle M E = one_of locks k low in
          let m : M = one_of machines k (omega (arith, low, long)) in
          let room : Vec (Pass E) Global = one_of rooms k (omega (arith, low, rooms_long)) in
          let part : Hand → Pass E = λ h. get_or (row h) k p in
          let lock : Lock E = lock_of (get_or locks k c) in
          let is = closed_log part lock (get_or machines k m) (get_or rooms k room).items (gathered k p room (omega (arith, low, rooms_long))).items
          (λ j d l. numbers j d l k p (omega (arith, low, lengths j d l))) (closed k c room m low) in
          let start : lock.start ≡ start_at k = sym (get_or-map S locks k c [] low) in
          let log : log_of (get_or machines k m) ≡ log_at k = sym (get_or-map log_of machines k m [] (omega (arith, low, long))) in
          subst (λ (z : ℕ × Log E × Log E). IsClosedLog (seen_at k) z.0 z.1 z.2) (λ i. (all k c low i, start i, log i))
          (closed_alike (λ h. seen_by_pass (part h)) (seen_at k) lock.passes lock.start (log_of (get_or machines k m))
          (λ j d l. let r = row (get_or hands j d) in sym (get_or-map seen_by_pass r k p [] (omega (arith, low, lengths j d l)))) is)

      -- the closed logs of a row, by place
      pub row_closed : length machines ≡ length locks → length rooms ≡ length locks
          → AreClosed frame_of log_of locks rooms machines → HaveGathered row count hands rooms
          → All (λ (c : Chronicle M E). (lock_of c).passes ≡ passes) locks
          → All (λ h. All (λ p. number_of p ≡ hand_number h) (row h)) hands
          → (k : ℕ) → IsClosedLog (seen_at k) passes (start_at k) (log_at k)
      row_closed long rooms_long closed gathered all numbers k = ⊎_elim
          (λ (low : k < length locks). near_closed k low long rooms_long closed gathered all numbers)
          (λ (far : length locks ≤ k). far_closed k far long)
          (cases_lt k (length locks))

-- the hand with a number, among these
pub record IsNumbered (hands : List Hand) (number : ℕ) : Type 0 where
  pub hand : Hand
  pub there : Contains hands hand
  pub number_is : hand_number hand ≡ number

module _ {E R : Type 0} (pair : R → ℕ × E) (entry : ℕ × E → R) (pairs_back : (log : List (ℕ × E)) → map pair (map entry log) ≡ log)
    (law : OwnEntries E) (hands : List Hand) (seen_by : Hand → Log E) (passes : ℕ) (start log : Log E)
    (closed : IsClosedLog hands seen_by passes start log) (logs : ℕ → List R)
    (numbered : (n : ℕ) → n < passes → (is : IsNumbered hands n) × (logs n ≡ map entry (seen_by is.hand))) where
  -- each entry of a closed log was there at the start, or a hand made it, and has seen it
  pub entries_of_hands : (first whole : List R) → first ≡ map entry start → whole ≡ map entry log
      → (before : List R) (e : R) (after : List R) → whole ≡ before ++ e ∷ after → IsOfHands passes first logs before (pair e).0
  entries_of_hands first whole first_is whole_is before e after at =
      let many : length (map pair before) ≡ length before = length-map before pair in
      let began : length first ≡ length start = ap (λ (l : List R). length l) first_is ∙ length-map start entry in
      let split : log ≡ map pair before ++ pair e ∷ map pair after =
      sym (pairs_back log) ∙ (ap (map pair) (sym whole_is ∙ at) ∙ map-append pair before (e ∷ after)) in
      ⊎_elim (λ (low : length before < length first). inl low)
      (λ (far : length first ≤ length before).
      let low : (pair e).0 < passes = law.authors passes start log (map pair before) (map pair after) (pair e) closed.authors split (omega (arith, far, many, began)) in
      let of = numbered (pair e).0 low in
      let h = of.0.hand in
      let begins = All-contains (λ x. IsPrefix (seen_by x) log) hands h closed.prefixes of.0.there in
      let same = All-contains (λ x. entries_of (hand_number x) log ≡ entries_of (hand_number x) (seen_by x)) hands h closed.own of.0.there in
      let place = law.places (hand_number h) (seen_by h) log (map pair before) (map pair after) (pair e) begins same split (sym of.0.number_is) in
      let long : length (logs (pair e).0) ≡ length (seen_by h) = ap (λ (l : List R). length l) of.1 ∙ length-map (seen_by h) entry in
      inr (low, omega (arith, place, many, long)))
      (cases_lt (length before) (length first))
