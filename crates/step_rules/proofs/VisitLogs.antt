-- With one more visit, the updates of a shard's log stay, and there is one more read, and one more mark if the oracle
-- made an entry.
-- Used by VisitStep and crates weave_phase, weaver_core and workers_account.
use Rattle.std.proofs.Common.{◌≡◌, ◌≢◌, ℕ, zero, suc, ◌==◌, Bool, true, false, cond, List, [], ◌∷◌, ◌++◌, map, take, Contains, Some, inl, inr, refl, sym, ap, ◌∙◌, arith}
use Rattle.std.specs.Prelude.{filter, slice_get, ◌&&◌}
use Rattle.std.specs.List.{filter_map, find, flat_map}
use Rattle.std.specs.Option.{option_map}
use Rattle.std.proofs.lemmas.Bool.{eq-eqb, ne_eqb}
use Rattle.std.proofs.lemmas.List.{append-nil, map-append}
use Rattle.std.proofs.lemmas.List.Concat.{flat_map-append}
use Rattle.std.proofs.lemmas.List.Elements.{filter-append}
use Rattle.weave_data.proofs.Members.{has_none, has_read, has_tail}
use Rattle.weave_data.specs.declared.name.Name.{Name}
use Rattle.graph_ops.specs.Operations.{State}
use Rattle.vector_stamp.specs.declared.clock.Stamp.{Stamp}
use Rattle.vector_stamp.specs.Seeing.{last_seen}
use Rattle.weave_entries.specs.declared.shard_log.ShardEntry.{ShardEntry}
use Rattle.weave_entries.specs.declared.shard_log.ShardDeed.TheVariants.{Visited}
use Rattle.weave_entries.specs.ShardReplay.{Arrival, Update, Visit, arrival_by, arrivals_of, arrived_at, processed_by, processed_of, reads_in, state_of_updates, updates_in, updates_of, visit_by, visits_of}
use Rattle.weave_account.specs.Oracle.{marked_in, seen_last}

-- Places

-- the image of the element at a place of a list is at this place of the images
pub map-get : {A B : Type 0} (f : A → B) (xs : List A) (j : ℕ) (x : A) → slice_get xs j ≡ Some x → slice_get (map f xs) j ≡ Some (f x)
map-get f [] j x e = cc
map-get f (y ∷ xs) zero x e = let same : y ≡ x = cc in ap (λ z. Some (f z)) same
map-get f (y ∷ xs) (suc j) x e = map-get f xs j x e

-- what is among the first elements of a list is in the list
pub in-take : {A : Type 0} (n : ℕ) (xs : List A) (x : A) → Contains (take n xs) x → Contains xs x
in-take zero xs x h = absurd (has_none x h)
in-take (suc n) [] x h = absurd (has_none x h)
in-take (suc n) (y ∷ xs) x h = elim (has_read y (take n xs) x h) [
  | inl same ↦ (zero, omega arith, same)
  | inr more ↦ has_tail y xs x (in-take n xs x more)
]

-- One more visit

module _ (log : List ShardEntry) (r : ℕ) (stamp : Stamp) (v : Name) (k : ℕ) (made : Bool) where
  abbrev pub entry : ShardEntry
  entry = record { author = 0; deed = Visited r stamp v k made }

  abbrev pub visit : Visit
  visit = record { author = 0; request = r; stamp = stamp; vertex = v; updates = k; settled = made }

  abbrev pub read-of : Visit → Name × State
  read-of w = (w.vertex, state_of_updates (take w.updates (updates_of w.vertex log)))

  abbrev pub mark-of : Visit → ℕ × List Stamp
  mark-of w = (w.request, seen_last log w)

  arrivals-same : arrivals_of (log ++ entry ∷ []) ≡ arrivals_of log
  arrivals-same = flat_map-append (λ (e : ShardEntry). arrival_by e.deed) log (entry ∷ []) ∙ append-nil (arrivals_of log)

  processed-same : processed_of (log ++ entry ∷ []) ≡ processed_of log
  processed-same = flat_map-append (λ (e : ShardEntry). processed_by e.deed) log (entry ∷ []) ∙ append-nil (processed_of log)

  -- one more visit leaves the updates of each vertex as they were
  pub updates-same : (w : Name) → updates_of w (log ++ entry ∷ []) ≡ updates_of w log
  updates-same w =
      ap (λ (arrived : List Arrival). flat_map (updates_in w) (filter_map (λ (of : ℕ × ℕ). option_map (λ (arrival : Arrival). arrival.message) (find (λ (arrival : Arrival). (arrival.gate == of.0) && (arrival.number == of.1)) arrived)) (processed_of (log ++ entry ∷ [])))) arrivals-same
      ∙ ap (λ (ps : List (ℕ × ℕ)). flat_map (updates_in w) (filter_map (λ (of : ℕ × ℕ). arrived_at of.0 of.1 log) ps)) processed-same

  -- the visits in the log are those before, and then the new one
  pub visits-push : visits_of (log ++ entry ∷ []) ≡ visits_of log ++ visit ∷ []
  visits-push = flat_map-append (λ (e : ShardEntry). visit_by e.author e.deed) log (entry ∷ [])

  reads-push : (q : ℕ) → reads_in q (log ++ entry ∷ []) ≡ reads_in q log ++ map read-of (filter (λ (w : Visit). w.request == q) (visit ∷ []))
  reads-push q =
      let states : reads_in q (log ++ entry ∷ []) ≡ map read-of (filter (λ (w : Visit). w.request == q) (visits_of (log ++ entry ∷ [])))
      = λ i. map (λ (w : Visit). (w.vertex, state_of_updates (take w.updates (updates-same w.vertex i)))) (filter (λ (w : Visit). w.request == q) (visits_of (log ++ entry ∷ []))) in
      states ∙ ap (λ ws. map read-of (filter (λ (w : Visit). w.request == q) ws)) visits-push
      ∙ ap (map read-of) (filter-append (λ (w : Visit). w.request == q) (visits_of log) (visit ∷ []))
      ∙ map-append read-of (filter (λ (w : Visit). w.request == q) (visits_of log)) (filter (λ (w : Visit). w.request == q) (visit ∷ []))

  -- a program has read one more after the entry of its visit
  pub reads-more : reads_in r (log ++ entry ∷ []) ≡ reads_in r log ++ read-of visit ∷ []
  reads-more = reads-push r ∙ ap (λ b. reads_in r log ++ map read-of (cond b (visit ∷ []) [])) (eq-eqb r r refl)

  -- any other request than the visit's has read the same
  pub reads-stay : (q : ℕ) → q ≢ r → reads_in q (log ++ entry ∷ []) ≡ reads_in q log
  reads-stay q differ = reads-push q ∙ ap (λ b. reads_in q log ++ map read-of (cond b (visit ∷ []) [])) (ne_eqb r q (λ same. differ (sym same))) ∙ append-nil (reads_in q log)

  -- the marked visits in the log are those before, and then the new one if it is marked as settled
  pub marks-push : marked_in (log ++ entry ∷ []) ≡ marked_in log ++ cond made (mark-of visit ∷ []) []
  marks-push =
      let marks : marked_in (log ++ entry ∷ []) ≡ map mark-of (filter (λ (w : Visit). w.settled) (visits_of (log ++ entry ∷ [])))
      = λ i. map (λ (w : Visit). (w.request, seen-now w i)) (filter (λ (w : Visit). w.settled) (visits_of (log ++ entry ∷ []))) in
      marks ∙ ap (λ ws. map mark-of (filter (λ (w : Visit). w.settled) ws)) visits-push
      ∙ ap (map mark-of) (filter-append (λ (w : Visit). w.settled) (visits_of log) (visit ∷ []))
      ∙ map-append mark-of (filter (λ (w : Visit). w.settled) (visits_of log)) (filter (λ (w : Visit). w.settled) (visit ∷ []))
      ∙ ap (λ more. marked_in log ++ more) (one made)
    where
      seen-now : (w : Visit) → seen_last (log ++ entry ∷ []) w ≡ seen_last log w
      seen-now w = ap (λ us. last_seen w.updates (map (λ (u : Update). u.stamp) us)) (updates-same w.vertex)

      one : (b : Bool) → map mark-of (cond b (visit ∷ []) []) ≡ cond b (mark-of visit ∷ []) []
      one true = refl
      one false = refl
