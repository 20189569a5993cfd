-- What visits saw and read stays the same while the logs go on. It rests on the clause on shards.
-- Used by `facts_stay_true` and crates seen_logs and weaver_hands.
use Rattle.std.proofs.Common.{◌≡◌, ℕ, zero, suc, ◌≤◌, ◌==◌, List, [], ◌∷◌, ◌++◌, map, length, get_or, take, Contains, IsTrue, ◌⊎◌, inl, inr, refl, sym, ap, subst, ◌∙◌, arith}
use Rattle.std.specs.List.{filter, flat_map}
use Rattle.std.proofs.lemmas.List.{append-nil, length-append, length-map, map-append, take-append-le}
use Rattle.std.proofs.lemmas.List.Concat.{flat_map-append}
use Rattle.std.proofs.lemmas.List.Elements.{Contains-append_left, filter-append}
use Rattle.weave_data.proofs.Members.{has_head, has_tail, filter_has}
use Rattle.weave_data.specs.declared.name.Name.{Name}
use Rattle.graph_ops.specs.Operations.{State}
use Rattle.vector_stamp.specs.declared.clock.Stamp.{Stamp}
use Rattle.vector_stamp.specs.Seeing.{last_seen}
use Rattle.vector_stamp.specs.Settling.{SettledEntry}
use Rattle.program_defs.specs.declared.script.Script.{Script}
use Rattle.weave_entries.specs.declared.shard_log.ShardEntry.{ShardEntry}
use Rattle.weave_entries.specs.ShardReplay.{Update, Visit, visit_by, visits_of, updates_of, state_of_updates, reads_in}
use Rattle.weave_account.specs.declared.account.Account.{Account}
use Rattle.program_defs.specs.declared.program.Program.{Program}
use Rattle.weave_account.specs.Account.{is_ended, reads_of, shard_log}
use Rattle.weave_account.specs.Programs.{ReadsInTurn}
use Rattle.weave_account.specs.GoesOn.{GoesOn, IsBeginningOf}
use Rattle.weave_account.specs.Oracle.{IsAskedByCommit, IsAskedByVisit, HasItsEntry, seen_last, marked_in}
use Rattle.weave_account.specs.Shards.{AreShardDeeds}
use Rattle.weave_account.proofs.Basis.{Basis}
use Rattle.weave_account.proofs.Growing.{asked-stays}
use Rattle.weave_account.proofs.Meeting.{visit-fits}
use Rattle.weave_account.proofs.Updates.{go-on, grows}

-- the last of the first n elements is that of a longer list
pub seen-front : (n : ℕ) (xs ys : List Stamp) → n ≤ length xs → last_seen n (xs ++ ys) ≡ last_seen n xs
seen-front zero xs ys le = refl
seen-front (suc n) [] ys le = absurd (omega (arith, le))
seen-front (suc zero) (x ∷ xs) ys le = refl
seen-front (suc (suc n)) (x ∷ xs) ys le = seen-front (suc n) xs ys (omega (arith, le))

-- two images of a list, alike at each member
pub map-alike : {A B : Type 0} (f g : A → B) (xs : List A) → ((x : A) → Contains xs x → f x ≡ g x) → map f xs ≡ map g xs
map-alike f g [] same = refl
map-alike f g (x ∷ xs) same =
    ap (λ y. y ∷ map f xs) (same x (has_head x xs)) ∙ ap (λ ys. g x ∷ ys) (map-alike f g xs (λ y h. same y (has_tail x xs y h)))

-- the images of two lists of lists, put together, if they are alike at each place
pub flat-alike : {A B : Type 0} (f : List A → List B) → f [] ≡ [] → (xss yss : List (List A))
    → ((i : ℕ) → f (get_or xss i []) ≡ f (get_or yss i [])) → flat_map f xss ≡ flat_map f yss
flat-alike f empty [] [] same = refl
flat-alike f empty [] (ys ∷ yss) same =
    flat-alike f empty [] yss (λ i. same (suc i)) ∙ ap (λ l. l ++ flat_map f yss) (sym empty ∙ same 0)
flat-alike f empty (xs ∷ xss) [] same =
    ap (λ l. l ++ flat_map f xss) (same 0 ∙ empty) ∙ flat-alike f empty xss [] (λ i. same (suc i))
flat-alike f empty (xs ∷ xss) (ys ∷ yss) same =
    ap (λ l. l ++ flat_map f xss) (same 0) ∙ ap (λ l. f ys ++ l) (flat-alike f empty xss yss (λ i. same (suc i)))

-- a vertex with its state after updates
abbrev pub with-state : Name → List Update → Name × State
with-state v us = (v, state_of_updates us)

-- what a visit reads at the end of a log
abbrev pub read-in : List ShardEntry → Visit → Name × State
read-in log visit = (visit.vertex, state_of_updates (take visit.updates (updates_of visit.vertex log)))

-- a program, and what a visit of it saw last
abbrev seen-in : List ShardEntry → Visit → ℕ × List Stamp
seen-in log visit = (visit.request, seen_last log visit)

module _ (script : Script) (account next : Account) (basis : Basis script account) (on : GoesOn account next) where
  -- a visit that was made is there later
  visit-there : (shard : ℕ) (visit : Visit) → Contains (visits_of (shard_log account shard)) visit
      → Contains (visits_of (shard_log next shard)) visit
  visit-there shard visit h =
      let more = on.shards shard in
      subst (λ l. Contains (visits_of l) visit) (sym more.1) (subst (λ vs. Contains vs visit) (sym (flat_map-append (λ (e : ShardEntry). visit_by e.author e.deed) (shard_log account shard) more.0))
      (Contains-append_left (visits_of (shard_log account shard)) (visits_of more.0) visit h))

  -- the updates of the vertex of a visit go on, and the visit saw some of the first ones
  record GoOn (shard : ℕ) (visit : Visit) : Type 0 where
    rest : List Update
    are : updates_of visit.vertex (shard_log next shard) ≡ updates_of visit.vertex (shard_log account shard) ++ rest
    within : visit.updates ≤ length (updates_of visit.vertex (shard_log account shard))

  updates-go-on : (shard : ℕ) (visit : Visit) → Contains (visits_of (shard_log account shard)) visit → GoOn shard visit
  updates-go-on shard visit h =
      let of = visit-fits script account basis shard visit h in
      let more = on.shards shard in
      let longer = go-on script account basis shard visit.vertex (of.fits).kept_here (shard_log account shard) more.0 (basis.is.shards.deeds shard) in
      let all =
      grows script account basis shard visit.vertex (of.fits).kept_here of.before of.rest
      (subst (AreShardDeeds script account shard) of.is (basis.is.shards.deeds shard)) in
      let whole = ap (λ l. length (updates_of visit.vertex l)) of.is in
      let applied = (of.fits).applied in
      record { rest = longer.0; are = ap (updates_of visit.vertex) more.1 ∙ longer.1; within = omega (arith, all, whole, applied) }

  -- what a visit saw last stays
  seen-stays : (shard : ℕ) (visit : Visit) → Contains (visits_of (shard_log account shard)) visit
      → seen_last (shard_log next shard) visit ≡ seen_last (shard_log account shard) visit
  seen-stays shard visit h =
      let longer = updates-go-on shard visit h in
      let us = updates_of visit.vertex (shard_log account shard) in
      let le = longer.within in
      let many = length-map us (λ (u : Update). u.stamp) in
      ap (λ xs. last_seen visit.updates (map (λ (u : Update). u.stamp) xs)) longer.are
      ∙ ap (last_seen visit.updates) (map-append (λ (u : Update). u.stamp) us longer.rest)
      ∙ seen-front visit.updates (map (λ (u : Update). u.stamp) us) (map (λ (u : Update). u.stamp) longer.rest) (omega (arith, le, many))

  -- an oracle's entry that a visit asked for stays so
  by-visit : (settled : SettledEntry) → IsAskedByVisit account settled → IsAskedByVisit next settled
  by-visit settled asked = record {
    shard = asked.shard;
    visit = asked.visit;
    visited = visit-there asked.shard asked.visit asked.visited;
    marked = asked.marked;
    later_is = asked.later_is;
    earlier_is = asked.earlier_is ∙ sym (seen-stays asked.shard asked.visit asked.visited);
  }

  -- an entry that a commit or a visit asked for is asked for still when the account goes on
  pub asked-for-stays : (settled : SettledEntry) → IsAskedByCommit account settled ⊎ IsAskedByVisit account settled
      → IsAskedByCommit next settled ⊎ IsAskedByVisit next settled
  asked-for-stays settled (inl commit) = inl (asked-stays script account next on settled commit)
  asked-for-stays settled (inr visit) = inr (by-visit settled visit)

  -- a visit that has its entry of the oracle still has it when the account goes on
  pub entry-stays : (shard : ℕ) (visit : Visit) → Contains (visits_of (shard_log account shard)) visit
      → HasItsEntry account (shard_log account shard) visit → HasItsEntry next (shard_log next shard) visit
  entry-stays shard visit h its =
      let more = on.oracle in
      record {
        entry = its.entry;
        is_there = subst (λ l. Contains l its.entry) (sym more.1) (Contains-append_left account.oracle more.0 its.entry its.is_there);
        later_is = its.later_is;
        earlier_is = its.earlier_is ∙ sym (seen-stays shard visit h);
      }

  -- what a visit read stays
  read-stays : (shard : ℕ) (visit : Visit) → Contains (visits_of (shard_log account shard)) visit
      → read-in (shard_log next shard) visit ≡ read-in (shard_log account shard) visit
  read-stays shard visit h =
      let longer = updates-go-on shard visit h in
      ap (with-state visit.vertex)
      (ap (take visit.updates) longer.are ∙ take-append-le visit.updates (updates_of visit.vertex (shard_log account shard)) longer.rest longer.within)

  -- what a request read in a shard goes on
  pub reads-go-on : (r shard : ℕ) → IsBeginningOf (reads_in r (shard_log account shard)) (reads_in r (shard_log next shard))
  reads-go-on r shard =
      let log = shard_log account shard in
      let more = on.shards shard in
      let later = shard_log next shard in
      let visits : visits_of later ≡ visits_of log ++ visits_of more.0 =
      ap visits_of more.1 ∙ flat_map-append (λ (e : ShardEntry). visit_by e.author e.deed) log more.0 in
      let its = filter (λ (visit : Visit). visit.request == r) (visits_of log) in
      let new = filter (λ (visit : Visit). visit.request == r) (visits_of more.0) in (
        map (read-in later) new,
        ap (λ vs. map (read-in later) (filter (λ (visit : Visit). visit.request == r) vs)) visits
            ∙ ap (map (read-in later)) (filter-append (λ (visit : Visit). visit.request == r) (visits_of log) (visits_of more.0))
            ∙ map-append (read-in later) its new
            ∙ ap (λ reads. reads ++ map (read-in later) new) (map-alike (read-in later) (read-in log) its (λ visit h. read-stays shard visit (filter_has (λ (visit : Visit). visit.request == r) (visits_of log) visit h).0)),
      )

  -- a request reads no more while its visits are the same
  pub reads-stay : (r : ℕ)
      → ((shard : ℕ) → filter (λ (visit : Visit). visit.request == r) (visits_of (shard_log next shard)) ≡ filter (λ (visit : Visit). visit.request == r) (visits_of (shard_log account shard)))
      → reads_of next r ≡ reads_of account r
  reads-stay r same =
      flat-alike (reads_in r) refl next.shards account.shards
      (λ shard.
      let its = filter (λ (visit : Visit). visit.request == r) (visits_of (shard_log account shard)) in
      ap (map (read-in (shard_log next shard))) (same shard)
      ∙ map-alike (read-in (shard_log next shard)) (read-in (shard_log account shard)) its (λ visit h. read-stays shard visit (filter_has (λ (visit : Visit). visit.request == r) (visits_of (shard_log account shard)) visit h).0))

  -- so they stay in turn, if it isn't finished meanwhile
  pub turn-stays : (r : ℕ) (program : Program)
      → ((shard : ℕ) → filter (λ (visit : Visit). visit.request == r) (visits_of (shard_log next shard)) ≡ filter (λ (visit : Visit). visit.request == r) (visits_of (shard_log account shard)))
      → is_ended next r ≡ is_ended account r → ReadsInTurn (reads_of account r) program (IsTrue (is_ended account r))
      → ReadsInTurn (reads_of next r) program (IsTrue (is_ended next r))
  turn-stays r program same ended turn =
      subst (λ reads. ReadsInTurn reads program (IsTrue (is_ended next r))) (sym (reads-stay r same))
      (subst (λ b. ReadsInTurn (reads_of account r) program (IsTrue b)) (sym ended) turn)

  -- what marked visits saw last stays the same, if no program visits anything more
  pub marked-stay : ((shard : ℕ) → visits_of (shard_log next shard) ≡ visits_of (shard_log account shard))
      → flat_map marked_in next.shards ≡ flat_map marked_in account.shards
  marked-stay same =
      flat-alike marked_in refl next.shards account.shards
      (λ shard.
      let its = filter (λ (visit : Visit). visit.settled) (visits_of (shard_log account shard)) in
      ap (λ visits. map (seen-in (shard_log next shard)) (filter (λ (visit : Visit). visit.settled) visits)) (same shard)
      ∙ map-alike (seen-in (shard_log next shard)) (seen-in (shard_log account shard)) its (λ visit h. ap (λ stamps. (visit.request, stamps)) (seen-stays shard visit (filter_has (λ (visit : Visit). visit.settled) (visits_of (shard_log account shard)) visit h).0)))

  -- a request that has the same number of reads in each shard has the same ones
  pub reads-same : (r : ℕ)
      → ((shard : ℕ) → length (reads_in r (shard_log next shard)) ≡ length (reads_in r (shard_log account shard)))
      → reads_of next r ≡ reads_of account r
  reads-same r many =
      flat-alike (reads_in r) refl next.shards account.shards
      (λ shard. (let more = reads-go-on r shard in more.1 ∙ no-more (reads_in r (shard_log account shard)) more.0 (sym (ap length more.1) ∙ many shard)))
    where
      no-more : (xs ys : List (Name × State)) → length (xs ++ ys) ≡ length xs → xs ++ ys ≡ xs
      no-more xs [] e = append-nil xs
      no-more xs (y ∷ ys) e = absurd (let long = length-append xs (y ∷ ys) in omega (arith, long, e))
