-- What a collection leaves: no view changes for a program whose clock the bound is at most.
-- Used by `collections_leave_views` and Changed.
use Rattle.std.proofs.Common.{◌≡◌, ℕ, zero, suc, ◌+◌, ◌-◌, ◌<◌, ◌≤◌, Bool, not, List, [], ◌∷◌, ◌++◌, take, drop, length, slice_get, IsTrue, ◌⊎◌, inl, inr, None, refl, sym, ap, subst, ◌∙◌, arith}
use Rattle.std.specs.Prelude.{pred, fold}
use Rattle.std.specs.List.{list_any}
use Rattle.std.specs.Option.{IsSomeAnd}
use Rattle.std.proofs.lemmas.Bool.{cases_lt, or_left}
use Rattle.std.proofs.lemmas.List.{drop-map, drop-take, take-append-drop, length-take, length-drop, length-map}
use Rattle.std.proofs.lemmas.List.Sums.{fold-append}
use Rattle.weave_data.proofs.Options.{some-weaker}
use Rattle.graph_ops.specs.Operations.{State}
use Rattle.vector_stamp.specs.declared.clock.Clock.{Clock}
use Rattle.vector_stamp.specs.declared.clock.Stamp.{Stamp}
use Rattle.vector_stamp.specs.Order.{is_before, is_at_most, stamp_before}
use Rattle.vector_stamp.specs.Precedence.{GivenPair, precedes}
use Rattle.vector_stamp.specs.Seeing.{with_front, last_place, is_seen, seen_of, last_seen}
use Rattle.vector_stamp.proofs.LastPlaces.{front-first, last-dropped, place-drop}
use Rattle.vector_stamp.proofs.Seen.{place-within, place-some}
use Rattle.version_chain.specs.declared.version.Version.{Version}
use Rattle.version_chain.specs.Chains.{ChainView, update_count, stamps_of_versions, newest_state}
use Rattle.version_chain.specs.Views.{kept_seen, view_of, ReachesBack}
use Rattle.version_chain.specs.Collection.{older_versions, collected_chain}

-- The last element that passes a test

front-past : (front : Bool) (place k : ℕ) → k < place → suc k < with_front front place
front-past front zero k below = absurd (omega (arith, below))
front-past front (suc place) k below = omega (arith, below)

module _ {A : Type 0} (test : A → Bool) where
  -- no element that passes is past the last place
  pub place-past : (xs : List A) (k : ℕ) → IsSomeAnd (slice_get xs k) (λ x. IsTrue (test x)) → k < last_place test xs
  place-past [] k passes = absurd passes
  place-past (x ∷ xs) zero passes = omega (arith, front-first (test x) (last_place test xs) passes)
  place-past (x ∷ xs) (suc k) passes = front-past (test x) (last_place test xs) k (place-past xs k passes)

-- the newest state of some versions, whatever was before them
newest-some : (state : State) (versions : List Version) → 1 ≤ length versions → fold (λ (before : State) (version : Version). version.state) state versions ≡ newest_state versions
newest-some state [] some = absurd (omega (arith, some))
newest-some state (version ∷ versions) some = refl

stamp-there : (P : Stamp → Type 0) (versions : List Version) (n : ℕ) → IsSomeAnd (slice_get versions n) (λ version. P version.stamp) → IsSomeAnd (slice_get (stamps_of_versions versions) n) P
stamp-there P [] n holds = holds
stamp-there P (version ∷ versions) zero holds = holds
stamp-there P (version ∷ versions) (suc n) holds = stamp-there P versions n holds

get-dropped : {A : Type 0} (n : ℕ) (xs : List A) → slice_get (drop n xs) 0 ≡ slice_get xs n
get-dropped zero xs = refl
get-dropped (suc n) [] = refl
get-dropped (suc n) (x ∷ xs) = get-dropped n xs

-- What is kept

module _ (bound : Clock) (chain : ChainView) where
  abbrev before : Version → Bool
  before version = is_before version.stamp.clock bound

  abbrev older : ℕ
  older = older_versions bound chain.kept

  -- a collection drops at most as many versions as are kept
  pub older-within : older ≤ length chain.kept
  older-within = let within = place-within before chain.kept in by (last_place before chain.kept) within
    where
      by : (place : ℕ) → place ≤ length chain.kept → pred place ≤ length chain.kept
      by zero within = omega arith
      by (suc place) within = omega (arith, within)

  -- if at least one version is kept where any was dropped, that is so after the collection too
  pub one-kept : (1 ≤ chain.dropped → 1 ≤ length chain.kept) → 1 ≤ chain.dropped + older → 1 ≤ length chain.kept - older
  one-kept base some = by (last_place before chain.kept) (place-within before chain.kept) some
    where
      by : (place : ℕ) → place ≤ length chain.kept → 1 ≤ chain.dropped + pred place → 1 ≤ length chain.kept - pred place
      by zero within some = let one = base (omega (arith, some)) in omega (arith, one)
      by (suc place) within some = omega (arith, within)

  -- a collection leaves the number of updates of the chain, counted with the dropped ones, as it was
  pub same-count : update_count (collected_chain bound chain) ≡ update_count chain
  same-count = omega (arith, older-within, length-drop older chain.kept)

  -- nothing is dropped if none is older
  pub none-older : older ≡ 0 → collected_chain bound chain ≡ chain
  none-older none =
      let same : chain.dropped + 0 ≡ chain.dropped = omega arith in
      (λ i. record { dropped = chain.dropped + none i; kept = drop (none i) chain.kept })
      ∙ (λ i. record { dropped = same i; kept = chain.kept })

  module _ (ordered : (a b c : Clock) → IsTrue (is_before a b) → IsTrue (is_at_most b c) → IsTrue (is_before a c))
      (program : Stamp) (below : IsTrue (is_at_most bound program.clock)) where
    -- the oldest version that is kept is before the program, if any was dropped
    oldest-before : 0 < older → IsSomeAnd (slice_get (stamps_of_versions chain.kept) older) (λ oldest. IsTrue (stamp_before oldest program))
    oldest-before some = by (last_place before chain.kept) refl some
      where
        by : (place : ℕ) → last_place before chain.kept ≡ place → 0 < pred place → IsSomeAnd (slice_get (stamps_of_versions chain.kept) (pred place)) (λ oldest. IsTrue (stamp_before oldest program))
        by zero is some = absurd (omega (arith, some))
        by (suc place) is some =
            stamp-there (λ oldest. IsTrue (stamp_before oldest program)) chain.kept place
            (some-weaker (λ version. IsTrue (before version)) (λ version. IsTrue (stamp_before version.stamp program)) (slice_get chain.kept place)
            (λ version is_older. ordered version.stamp.clock bound program.clock is_older below) (place-some before chain.kept place is))

    -- and so what is kept reaches back far enough
    pub still-reaches : ReachesBack program chain ⊎ (chain.dropped < chain.dropped + older) → ReachesBack program (collected_chain bound chain)
    still-reaches was some = elim (cases_lt 0 older) [
      | inl more ↦
          let first : slice_get (stamps_of_versions (drop older chain.kept)) 0 ≡ slice_get (stamps_of_versions chain.kept) older = ap (λ (stamps : List Stamp). slice_get stamps 0) (sym (drop-map (λ (version : Version). version.stamp) older chain.kept)) ∙ get-dropped older (stamps_of_versions chain.kept) in
          subst (λ found. IsSomeAnd found (λ oldest. IsTrue (stamp_before oldest program))) (sym first) (oldest-before more)
      | inr none ↦
          let is : older ≡ 0 = omega (arith, none) in
          subst (ReachesBack program) (sym (none-older is)) (elim was [
            | inl reaches ↦ reaches
            | inr more ↦ absurd (omega (arith, is, more))
          ]) some
    ]

    module _ (pairs : List GivenPair) (some : 0 < older) where
      abbrev stamps : List Stamp
      stamps = stamps_of_versions chain.kept

      abbrev all_seen : ℕ
      all_seen = kept_seen pairs program chain

      abbrev left_seen : ℕ
      left_seen = kept_seen pairs program (collected_chain bound chain)

      stamps-left : stamps_of_versions (drop older chain.kept) ≡ drop older stamps
      stamps-left = sym (drop-map (λ (version : Version). version.stamp) older chain.kept)

      -- the program sees the oldest version that is kept
      sees-oldest : older < all_seen
      sees-oldest = place-past (is_seen pairs program) stamps older (some-weaker (λ oldest. IsTrue (stamp_before oldest program)) (λ oldest. IsTrue (is_seen pairs program oldest)) (slice_get stamps older) (λ oldest first. or_left (stamp_before oldest program) _ first) (oldest-before some))

      left : left_seen ≡ all_seen - older
      left = ap (seen_of pairs program) stamps-left ∙ place-drop (is_seen pairs program) older stamps

      both : all_seen ≡ older + left_seen
      both = let sees = sees-oldest in omega (arith, sees, left)

      some-left : 1 ≤ left_seen
      some-left = let sees = sees-oldest in omega (arith, sees, left)

      seen-within : all_seen ≤ length chain.kept
      seen-within = let within = place-within (is_seen pairs program) stamps in omega (arith, within, length-map chain.kept (λ (version : Version). version.stamp))

      same-state : newest_state (take left_seen (drop older chain.kept)) ≡ newest_state (take all_seen chain.kept)
      same-state =
          let long : 1 ≤ length (take left_seen (drop older chain.kept)) = omega (arith, some-left, both, seen-within, length-take left_seen (drop older chain.kept), length-drop older chain.kept) in
          let parts : take older (take all_seen chain.kept) ++ take left_seen (drop older chain.kept) ≡ take all_seen chain.kept =
          ap (λ (versions : List Version). take older (take all_seen chain.kept) ++ versions) (sym (drop-take older left_seen chain.kept) ∙ ap (λ (n : ℕ). drop older (take n chain.kept)) (sym both)) ∙ take-append-drop older (take all_seen chain.kept) in
          sym (newest-some (newest_state (take older (take all_seen chain.kept))) (take left_seen (drop older chain.kept)) long)
          ∙ sym (fold-append _ None (take older (take all_seen chain.kept)) (take left_seen (drop older chain.kept)))
          ∙ ap newest_state parts

      same-last : last_seen left_seen (stamps_of_versions (drop older chain.kept)) ≡ last_seen all_seen stamps
      same-last = ap (last_seen left_seen) stamps-left ∙ sym (last-dropped older left_seen all_seen stamps both some-left)

      same-view : view_of pairs program (collected_chain bound chain) ≡ view_of pairs program chain
      same-view =
          let updates : (chain.dropped + older) + left_seen ≡ chain.dropped + all_seen = omega (arith, both) in
          λ i. record {
            state = same-state i;
            updates = updates i;
            settled = list_any (λ update. not (precedes pairs update program)) (same-last i);
          }

    -- a collection leaves what a program sees of the chain as it was
    pub view-stays : (pairs : List GivenPair) → view_of pairs program (collected_chain bound chain) ≡ view_of pairs program chain
    view-stays pairs = elim (cases_lt 0 older) [
      | inl some ↦ same-view pairs some
      | inr none ↦ ap (view_of pairs program) (none-older (omega (arith, none)))
    ]
