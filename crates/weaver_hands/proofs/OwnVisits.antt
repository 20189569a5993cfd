-- A hand's visits are of programs that it began itself, and stay so.
-- Used by `hands_visit_their_own_programs`.
use Rattle.std.proofs.Common.{◌≡◌, ◌≢◌, inl, inr, ℕ, ◌<◌, ◌≤◌, ◌==◌, List, [], ◌∷◌, ◌++◌, drop, length, Contains, Ok, Err, Result, refl, sym, ap, subst, ◌∙◌, eq-eqb}
use Rattle.std.specs.Prelude.{filter}
use Rattle.std.proofs.lemmas.Bool.{cases_eq}
use Rattle.std.proofs.lemmas.List.{append-nil, drop-append-le}
use Rattle.std.proofs.lemmas.List.Concat.{flat_map-append}
use Rattle.std.proofs.lemmas.List.Elements.{filter-append}
use Rattle.std.proofs.Math.Seq.{drop-append_seam}
use Rattle.weave_data.proofs.Members.{has_cut, has_filter, has_flat, has_head, has_none, only}
use Rattle.weave_data.specs.declared.name.Name.{Name}
use Rattle.weave_data.specs.Names.{shard_of}
use Rattle.graph_ops.specs.Operations.{State}
use Rattle.weave_entries.specs.declared.shard_log.ShardDeed.{ShardDeed}
use Rattle.weave_entries.specs.declared.shard_log.ShardDeed.TheVariants.{Arrived, Applied, Visited, Collected}
use Rattle.weave_entries.specs.declared.shard_log.ShardEntry.{ShardEntry}
use Rattle.weave_entries.specs.GateReplay.{programs_of}
use Rattle.weave_entries.specs.ShardReplay.{Visit, visit_by, visits_of}
use Rattle.weave_account.specs.Account.{gate_log, shard_log}
use Rattle.weave_account.specs.GoesOn.{visits_by}
use Rattle.seen_logs.specs.LowerLaws.{LawsForSeenLogs}
use Rattle.seen_logs.specs.Seen.{IsWithin, VisitsItsOwn, VisitsOwnPrograms, entries_since, visit_entry}
use Rattle.weaver_core.specs.declared.walks.Running.{Running}
use Rattle.weaver_locks.specs.declared.hand.Hand.{Hand}
use Rattle.weaver_locks.specs.declared.shared.Shared.{Shared}
use Rattle.weaver_locks.specs.HandLaws.{HandLaws}
use Rattle.weaver_locks.specs.Hands.{hand_number, seen_by, IsHand}
use Rattle.weaver_locks.specs.Locks.{start_of}
use Rattle.weaver_locks.specs.ShardHolds.{VisitsIn}
use Rattle.weaver_locks.proofs.OwnVisits.{VisitsStay}
use Rattle.weaver_hands.specs.declared.fault.HandFault.{HandFault}
use Rattle.weaver_hands.specs.declared.fault.HandFault.TheVariants.{Busy, NotYet, Empty, Waits, Memory}
use Rattle.weaver_hands.specs.Leaving.{MakesNoVisit}
use Rattle.weaver_hands.specs.Programs.{entries_of_author, IsRunning, VisitsAs}
use Rattle.weaver_hands.proofs.Alone.{none-at-shard, unvisited-if-none}
use Rattle.weaver_hands.proofs.Calls.{visit-alone}
use Rattle.weaver_hands.proofs.Running.{begun-on, more-here, now-made, same-elsewhere, shard-there, visit, was-made}

-- what two lists have after the same beginning
rest-is : {A : Type 0} (xs ys zs : List A) → xs ++ ys ≡ xs ++ zs → ys ≡ zs
rest-is xs ys zs same = sym (drop-append_seam xs ys) ∙ ap (drop (length xs)) same ∙ drop-append_seam xs zs

-- an entry past a beginning is one of the rest
past : {A : Type 0} (xs ys before after : List A) (x : A) → xs ++ ys ≡ before ++ x ∷ after → length xs ≤ length before → Contains ys x
past xs ys before after x at late =
    let rest : ys ≡ drop (length xs) before ++ x ∷ after =
    sym (drop-append_seam xs ys) ∙ ap (drop (length xs)) at ∙ drop-append-le (length xs) before (x ∷ after) late in
    subst (λ l. Contains l x) (sym rest) (has_cut (drop (length xs) before) x after)

module _ (number r : ℕ) where
  -- an author's visits for a request in a longer log
  visits-both : (log more : List ShardEntry) → visits_by r (entries_of_author number (log ++ more)) ≡ visits_by r (entries_of_author number log) ++ visits_by r (entries_of_author number more)
  visits-both log more =
      let own = entries_of_author number log in
      let new = entries_of_author number more in
      ap (visits_by r) (filter-append (λ (entry : ShardEntry). entry.author == number) log more)
      ∙ ap (filter (λ (visit : Visit). visit.request == r)) (flat_map-append (λ (e : ShardEntry). visit_by e.author e.deed) own new)
      ∙ filter-append (λ (visit : Visit). visit.request == r) (visits_of own) (visits_of new)

-- an own visit is among those for its request
among-own : (number : ℕ) (more : List ShardEntry) (visit : Visit) → Contains more (visit_entry visit) → visit.author ≡ number
    → Contains (visits_by visit.request (entries_of_author number more)) visit
among-own number more visit there own =
    has_filter (λ (one : Visit). one.request == visit.request) (visits_of (entries_of_author number more)) visit
    (has_flat (λ (e : ShardEntry). visit_by e.author e.deed) (entries_of_author number more) (visit_entry visit) visit
    (has_filter (λ (e : ShardEntry). e.author == number) more (visit_entry visit) there (eq-eqb visit.author number own)) (has_head visit []))
    (eq-eqb visit.request visit.request refl)

module _ (hands : HandLaws) (laws : LawsForSeenLogs) (shared : Shared) (old new : Hand) (is_old : IsHand shared old) (is_new : IsHand shared new)
    (number : hand_number new ≡ hand_number old) (more : IsWithin (seen_by old) (seen_by new)) where
  abbrev n : ℕ
  n = hand_number old

  -- if a hand's visits for a request in a shard are the old ones and these, its new entries have these
  pub new-visits : (shard r : ℕ) (zs : List Visit)
      → visits_by r (entries_of_author n (shard_log (seen_by new) shard)) ≡ visits_by r (entries_of_author n (shard_log (seen_by old) shard)) ++ zs
      → visits_by r (entries_of_author n (more.shards shard).0) ≡ zs
  new-visits shard r zs is =
      rest-is (visits_by r (entries_of_author n (shard_log (seen_by old) shard))) (visits_by r (entries_of_author n (more.shards shard).0)) zs
      (sym (visits-both n r (shard_log (seen_by old) shard) (more.shards shard).0)
      ∙ ap (λ l. visits_by r (entries_of_author n l)) (sym (more.shards shard).1) ∙ is)

  -- each new visit of the hand is of a program that it began itself
  abbrev pub OwnNew : Type 0
  OwnNew = (shard : ℕ) (visit : Visit) → Contains (visits_by visit.request (entries_of_author n (more.shards shard).0)) visit
      → VisitsItsOwn n (start_of shared) (seen_by new) (visit_entry visit).deed

  by-deed : OwnNew → (shard author : ℕ) (deed : ShardDeed) → Contains (more.shards shard).0 (record { author = author; deed = deed }) → author ≡ n
      → VisitsItsOwn n (start_of shared) (seen_by new) deed
  by-deed each shard author (Visited r stamp v updates settled) there own =
      let visit : Visit = record { author = author; request = r; stamp = stamp; vertex = v; updates = updates; settled = settled } in
      each shard visit (among-own n (more.shards shard).0 visit there own)
  by-deed each shard author (Arrived gate m message) there own = tt
  by-deed each shard author (Applied gate m) there own = tt
  by-deed each shard author (Collected bound) there own = tt

  -- if the hand's new visits are of its own programs, its visits stay of its own programs
  pub on-if-own : VisitsStay → OwnNew → VisitsOwnPrograms n (start_of shared) (seen_by old) → VisitsOwnPrograms (hand_number new) (start_of shared) (seen_by new)
  on-if-own stay each was =
      subst (λ m. VisitsOwnPrograms m (start_of shared) (seen_by new)) (sym number)
      (stay n (start_of shared) (seen_by old) (seen_by new) is_old.seen.starts more was
      (λ shard before entry after at own. by-deed each shard entry.author entry.deed
      (past (shard_log (seen_by old) shard) (more.shards shard).0 before after entry (sym (more.shards shard).1 ∙ at) own.1) own.0))

  -- no new visit
  none-new : (shard : ℕ) (visit : Visit) → Contains (visits_by visit.request (entries_of_author n (more.shards shard).0)) visit
      → MakesNoVisit old new visit.request → ⊥
  none-new shard visit h none =
      has_none visit (subst (λ l. Contains l visit) (new-visits shard visit.request []
      (now-made hands laws shared old new is_old is_new number visit.request shard ∙ none.visits shard
      ∙ was-made hands laws shared old new is_old is_new number visit.request shard
      ∙ sym (append-nil (visits_by visit.request (entries_of_author n (shard_log (seen_by old) shard)))))) h)

  -- a hand that visits only its own programs still does if it made no visit
  pub on-if-none : VisitsStay → ((r : ℕ) → MakesNoVisit old new r) → VisitsOwnPrograms n (start_of shared) (seen_by old)
      → VisitsOwnPrograms (hand_number new) (start_of shared) (seen_by new)
  on-if-none stay none = on-if-own stay (λ shard visit h. absurd (none-new shard visit h (none visit.request)))

  -- a visit of a program that is running
  module _ (running : Running) (runs : IsRunning shared old running) (v : Name) (state : State) (s : ℕ) (low : s < length shared.shards.items)
      (visits : VisitsIn (length shared.gates.items) (length shared.shards.items) old new s running.request running.stamp v (Ok state))
      (alone : (r : ℕ) → r ≢ running.request → MakesNoVisit old new r) where
    abbrev one : Visit
    one = visit hands laws shared old new is_old is_new running v state s low visits

    -- it is the new one
    is-it : (shard : ℕ) (other : Visit) → Contains (visits_by other.request (entries_of_author n (more.shards shard).0)) other
        → other.request ≡ running.request → one ≡ other
    is-it shard other h same =
        let here = subst (λ r. Contains (visits_by r (entries_of_author n (more.shards shard).0)) other) same h in
        elim (cases_eq shard s) [
          | inl at ↦
              let now = subst (λ k. visits_by running.request (entries_of_author n (shard_log (seen_by new) k))
              ≡ visits_by running.request (entries_of_author n (shard_log (seen_by old) k)) ++ one ∷ []) (sym at)
              (more-here hands laws shared old new is_old is_new running v state s low visits) in
              only one other (subst (λ l. Contains l other) (new-visits shard running.request (one ∷ []) now) here)
          | inr apart ↦
              let now = same-elsewhere hands laws shared old new is_old is_new running v state s low visits shard apart
              ∙ sym (append-nil (visits_by running.request (entries_of_author n (shard_log (seen_by old) shard)))) in
              absurd (has_none other (subst (λ l. Contains l other) (new-visits shard running.request [] now) here))
        ]

    its-own : (shard : ℕ) (other : Visit) → Contains (visits_by other.request (entries_of_author n (more.shards shard).0)) other
        → VisitsItsOwn n (start_of shared) (seen_by new) (visit_entry other).deed
    its-own shard other h = elim (cases_eq other.request running.request) [
      | inr apart ↦ absurd (none-new shard other h (alone other.request apart))
      | inl same ↦
          let begun = begun-on hands laws shared old new is_old is_new number more.gates running.stamp.home running.request running.stamp runs.begun in
          subst (λ (w : Visit). VisitsItsOwn n (start_of shared) (seen_by new) (visit_entry w).deed) (is-it shard other h same) (
            running.stamp.home,
            subst (λ m. Contains (programs_of (entries_since (gate_log (start_of shared) running.stamp.home) (gate_log (seen_by new) running.stamp.home)))
                (record { author = m; request = running.request; stamp = running.stamp })) number begun,
          )
    ]

    -- a hand that visits only its own programs still does if it made one visit, for the program that it runs
    pub on-if-visited : VisitsStay → VisitsOwnPrograms n (start_of shared) (seen_by old) → VisitsOwnPrograms (hand_number new) (start_of shared) (seen_by new)
    on-if-visited stay = on-if-own stay its-own

-- a hand that visits only its own programs still does after a visit of a program that it runs
pub on-after-visit : HandLaws → LawsForSeenLogs → VisitsStay → (shared : Shared) (old new : Hand) (was is : Running) (result : Result (Unit {0}) HandFault)
    → IsHand shared old → IsHand shared new → IsRunning shared old was
    → VisitsAs (length shared.gates.items) (length shared.shards.items) old new was is result
    → VisitsOwnPrograms (hand_number old) (start_of shared) (seen_by old)
    → VisitsOwnPrograms (hand_number new) (start_of shared) (seen_by new)
on-after-visit hands laws stay shared old new was is (Ok done) is_old is_new runs did own =
    on-if-visited hands laws shared old new is_old is_new did.visits.was.number did.visits.was.more was runs did.vertex did.state
    (shard_of did.vertex (length shared.shards.items)) (shard-there did.vertex (length shared.shards.items) shared.framed.some_shard) did.visits
    (λ r other. (visit-alone (length shared.gates.items) (length shared.shards.items) old new was is (Ok done) did r other).unvisited) stay own
on-after-visit hands laws stay shared old new was is (Err (NotYet shard gate)) is_old is_new runs did own =
    on-if-none hands laws shared old new is_old is_new did.visits.was.number did.visits.was.more stay
    (λ r. unvisited-if-none old new r (none-at-shard old new shard did.visits.before did.visits.was)) own
on-after-visit hands laws stay shared old new was is (Err Memory) is_old is_new runs did own =
    on-if-none hands laws shared old new is_old is_new did.0.number did.0.more stay (λ r. unvisited-if-none old new r did.0) own
on-after-visit hands laws stay shared old new was is (Err Busy) is_old is_new runs none own = absurd none
on-after-visit hands laws stay shared old new was is (Err Empty) is_old is_new runs none own = absurd none
on-after-visit hands laws stay shared old new was is (Err (Waits vertex)) is_old is_new runs none own = absurd none
