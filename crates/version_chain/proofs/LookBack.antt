-- Looking back from the newest version: what was skipped isn't seen; the first version seen is the last of the view.
-- Used by `ask`, `look_back`, `older_versions`, `view_at` and Changed.
use Rattle.std.proofs.Common.{◌≡◌, ℕ, zero, suc, ◌+◌, Bool, true, false, cond, not, List, [], ◌∷◌, ◌++◌, take, length, Contains, IsTrue, inl, inr, Option, Some, None, refl, sym, ap, subst, ◌∙◌, append_assoc, arith}
use Rattle.std.specs.List.{list_any}
use Rattle.std.proofs.Math.Bool.{or-false}
use Rattle.std.proofs.lemmas.List.{append-nil, map-append}
use Rattle.std.proofs.lemmas.Bool.{cases_Bool, or_left}
use Rattle.std.specs.Prelude.{◌<◌, ◌≤◌, Result, Ok, Err, IfOk, slice_get}
use Rattle.std.specs.Option.{IsSomeAnd}
use Rattle.std.specs.declared.alloc.AllocError.{AllocError}
use Rattle.std.proofs.lemmas.List.Sums.{fold-append}
use Rattle.std.proofs.lemmas.List.Elements.{Contains-append_left, Contains-append_right}
use mathlib.Core.List.{IsPrefix}
use Rattle.weave_data.proofs.Members.{has_none, has_read, has_head, has_tail, has_last, has_map, any_from}
use Rattle.weave_data.proofs.Lists.{length-step}
use Rattle.vector_stamp.specs.declared.clock.Stamp.{Stamp}
use Rattle.vector_stamp.specs.Order.{stamp_before, unordered}
use Rattle.vector_stamp.specs.Coherence.{AreCoherent}
use Rattle.vector_stamp.specs.Precedence.{GivenPair, precedes}
use Rattle.vector_stamp.specs.Settling.{SettledEntry, additions_from, places_of, pairs_of, entries_of_call}
use Rattle.vector_stamp.specs.Seeing.{with_front, last_place, is_seen, seen_of, last_seen}
use Rattle.version_chain.specs.declared.version.Version.{Version}
use Rattle.version_chain.specs.Chains.{ChainView, stamps_of_versions, newest_state}
use Rattle.version_chain.specs.Views.{has_unordered, read_update, view_of, ReachesBack}
use Rattle.version_chain.specs.Looks.{LearnsOnly, read_of}
use Rattle.version_chain.specs.declared.view.View.{View}
use Rattle.version_chain.specs.declared.view.Seen.{Seen}

-- an element in front, whether it passes or not, moves the place of the last one that passes by one
with_front-suc : (b : Bool) (n : ℕ) → with_front b (suc n) ≡ suc (suc n)
with_front-suc true n = refl
with_front-suc false n = refl

-- if the last element passes, the place of the last one that passes is its own
pub place_passes : {A : Type 0} (test : A → Bool) (xs : List A) (x : A) → test x ≡ true → last_place test (xs ++ x ∷ []) ≡ suc (length xs)
place_passes test [] x passes = rw passes refl
place_passes test (y ∷ ys) x passes = rw (place_passes test ys x passes) (with_front-suc (test y) (length ys))

-- if it fails, that place is the one among the others
pub place_fails : {A : Type 0} (test : A → Bool) (xs : List A) (x : A) → test x ≡ false → last_place test (xs ++ x ∷ []) ≡ last_place test xs
place_fails test [] x fails = rw fails refl
place_fails test (y ∷ ys) x fails = ap (with_front (test y)) (place_fails test ys x fails)

last_seen-at : (xs : List Stamp) (x : Stamp) (ys : List Stamp) → last_seen (suc (length xs)) (xs ++ x ∷ ys) ≡ x ∷ []
last_seen-at [] x ys = refl
last_seen-at (y ∷ xs) x ys = last_seen-at xs x ys

-- the first of two lists
pub take-front : {A : Type 0} (xs ys : List A) → take (length xs) (xs ++ ys) ≡ xs
take-front [] ys = refl
take-front (x ∷ xs) ys = ap (λ zs. x ∷ zs) (take-front xs ys)

length-stamps : (versions : List Version) → length (stamps_of_versions versions) ≡ length versions
length-stamps [] = refl
length-stamps (version ∷ versions) = ap suc (length-stamps versions)

-- if a look saw a version, its test passed, and the version is the one looked at
pub some_of : (b : Bool) (seen first : Seen) → Some seen ≡ cond b (Some first) None → (b ≡ true) × (seen ≡ first)
some_of true seen first is = (refl, cc)
some_of false seen first is = absurd cc

module _ (versions rest older : List Version) (newest : Version) (front : IsPrefix rest versions) (split : rest ≡ older ++ newest ∷ []) where
  whole : versions ≡ (older ++ newest ∷ []) ++ front.0
  whole = sym front.1 ∙ ap (λ (vs : List Version). vs ++ front.0) split

  -- the stamp of the version that is looked at is one of those of the versions
  pub newest_stamp-in : Contains (stamps_of_versions versions) newest.stamp
  newest_stamp-in =
      let here : Contains versions newest = subst (λ (vs : List Version). Contains vs newest) (sym whole) (Contains-append_left (older ++ newest ∷ []) front.0 newest (has_last older newest)) in
      has_map (λ (version : Version). version.stamp) versions newest here

  -- if no version is unordered with the program, the newest one is not
  pub none_unordered : (program : Stamp) → has_unordered program (stamps_of_versions versions) ≡ false → unordered newest.stamp program ≡ false
  none_unordered program none = elim (cases_Bool (unordered newest.stamp program)) [
    | inl is ↦ let some : has_unordered program (stamps_of_versions versions) ≡ true = any_from (λ update. unordered update program) (stamps_of_versions versions) newest.stamp newest_stamp-in is in absurd cc
    | inr ordered ↦ ordered
  ]

  -- the versions before the one that is looked at begin the versions
  pub older-front : IsPrefix older versions
  older-front = (newest ∷ front.0, sym (whole ∙ append_assoc older (newest ∷ []) front.0))

  -- program, this version and what the judge knows are still coherent, if it learned only of program and versions
  pub one_coherent : (part : (stamps others : List Stamp) → AreCoherent others → ((stamp : Stamp) → Contains stamps stamp → Contains others stamp) → AreCoherent stamps) (program : Stamp) (old now : List Stamp) → LearnsOnly (program ∷ stamps_of_versions versions) old now → AreCoherent (program ∷ stamps_of_versions versions ++ old) → AreCoherent (program ∷ newest.stamp ∷ now)
  one_coherent part program old now learns coherent =
      part (program ∷ newest.stamp ∷ now) (program ∷ stamps_of_versions versions ++ old) coherent (λ stamp has. elim (has_read program (newest.stamp ∷ now) stamp has) [
        | inl is ↦ subst (Contains (program ∷ stamps_of_versions versions ++ old)) is (has_head program (stamps_of_versions versions ++ old))
        | inr later ↦ elim (has_read newest.stamp now stamp later) [
          | inl is ↦ subst (Contains (program ∷ stamps_of_versions versions ++ old)) is (has_tail program (stamps_of_versions versions ++ old) newest.stamp (Contains-append_left (stamps_of_versions versions) old newest.stamp newest_stamp-in))
          | inr known ↦ elim (learns stamp known) [
            | inl before ↦ has_tail program (stamps_of_versions versions ++ old) stamp (Contains-append_right (stamps_of_versions versions) old stamp before)
            | inr handed ↦ Contains-append_left (program ∷ stamps_of_versions versions) old stamp handed
          ]
        ]
      ])

  -- a look at this version lets the judge learn only of program and versions, if so far it learned only of these
  pub learns_on : (program : Stamp) (old now next : List Stamp) → LearnsOnly (program ∷ stamps_of_versions versions) old now → LearnsOnly (program ∷ newest.stamp ∷ []) now next → LearnsOnly (program ∷ stamps_of_versions versions) old next
  learns_on program old now next learns more stamp has = elim (more stamp has) [
    | inl before ↦ learns stamp before
    | inr handed ↦ elim (has_read program (newest.stamp ∷ []) stamp handed) [
      | inl is ↦ inr (subst (Contains (program ∷ stamps_of_versions versions)) is (has_head program (stamps_of_versions versions)))
      | inr later ↦ elim (has_read newest.stamp [] stamp later) [
        | inl is ↦ inr (subst (Contains (program ∷ stamps_of_versions versions)) is (has_tail program (stamps_of_versions versions) newest.stamp newest_stamp-in))
        | inr none ↦ absurd (has_none stamp none)
      ]
    ]
  ]

  stamps_split : stamps_of_versions rest ≡ stamps_of_versions older ++ newest.stamp ∷ []
  stamps_split = ap stamps_of_versions split ∙ map-append _ older (newest ∷ [])

  stamps_whole : stamps_of_versions versions ≡ stamps_of_versions older ++ newest.stamp ∷ stamps_of_versions front.0
  stamps_whole = ap stamps_of_versions (whole ∙ append_assoc older (newest ∷ []) front.0) ∙ map-append _ older (newest ∷ front.0)

  module _ (pairs : List GivenPair) (program : Stamp) (same : seen_of pairs program (stamps_of_versions versions) ≡ seen_of pairs program (stamps_of_versions rest)) where
    -- if the program doesn't see this version, it sees as many of all versions as of those before it
    pub passed_over : is_seen pairs program newest.stamp ≡ false → seen_of pairs program (stamps_of_versions versions) ≡ seen_of pairs program (stamps_of_versions older)
    passed_over fails = same ∙ ap (seen_of pairs program) stamps_split ∙ place_fails (is_seen pairs program) (stamps_of_versions older) newest.stamp fails

    seen_here : is_seen pairs program newest.stamp ≡ true → seen_of pairs program (stamps_of_versions versions) ≡ suc (length older)
    seen_here passes = same ∙ ap (seen_of pairs program) stamps_split ∙ place_passes (is_seen pairs program) (stamps_of_versions older) newest.stamp passes ∙ ap suc (length-stamps older)

    read_here : is_seen pairs program newest.stamp ≡ true → last_seen (seen_of pairs program (stamps_of_versions versions)) (stamps_of_versions versions) ≡ newest.stamp ∷ []
    read_here passes =
        ap (λ (n : ℕ). last_seen n (stamps_of_versions versions)) (seen_here passes ∙ ap suc (sym (length-stamps older)))
        ∙ ap (last_seen (suc (length (stamps_of_versions older)))) stamps_whole
        ∙ last_seen-at (stamps_of_versions older) newest.stamp (stamps_of_versions front.0)

    -- the version that was seen
    abbrev pub seen_version : Seen
    seen_version = record { state = newest.state; settled = not (precedes pairs newest.stamp program) }

    -- if the program sees this version, it is the last one that it sees
    pub read_is : (seen : Seen) → Some seen ≡ cond (is_seen pairs program newest.stamp) (Some seen_version) None → (dropped : ℕ) → read_update pairs program (record { dropped = dropped; kept = versions }) ≡ newest.stamp ∷ []
    read_is seen is dropped = read_here (some_of (is_seen pairs program newest.stamp) seen seen_version is).0

    newest_is : newest_state (older ++ newest ∷ []) ≡ newest.state
    newest_is = fold-append _ None older (newest ∷ [])

    -- and the view is its state, the updates up to it, and whether it has still to be put before the program
    pub view_is : (seen : Seen) → Some seen ≡ cond (is_seen pairs program newest.stamp) (Some seen_version) None → (dropped : ℕ) → record { state = seen.state; updates = dropped + length rest; settled = seen.settled } ≡ view_of pairs program (record { dropped = dropped; kept = versions })
    view_is seen is dropped =
        let both = some_of (is_seen pairs program newest.stamp) seen seen_version is in
        let count : length rest ≡ suc (length older) = ap length split ∙ length-step older newest in
        let at : seen_of pairs program (stamps_of_versions versions) ≡ suc (length older) = seen_here both.0 in
        let taken : take (suc (length older)) versions ≡ older ++ newest ∷ [] = ap (λ (n : ℕ). take n versions) (sym (length-step older newest)) ∙ ap (take (length (older ++ newest ∷ []))) whole ∙ take-front (older ++ newest ∷ []) front.0 in
        let state_is : seen.state ≡ newest_state (take (seen_of pairs program (stamps_of_versions versions)) versions) = ap (λ (s : Seen). s.state) both.1 ∙ sym newest_is ∙ ap newest_state (sym taken) ∙ ap (λ (n : ℕ). newest_state (take n versions)) (sym at) in
        let settled_is : seen.settled ≡ list_any (λ update. not (precedes pairs update program)) (last_seen (seen_of pairs program (stamps_of_versions versions)) (stamps_of_versions versions)) = ap (λ (s : Seen). s.settled) both.1 ∙ sym (or-false (not (precedes pairs newest.stamp program))) ∙ ap (list_any (λ update. not (precedes pairs update program))) (sym (read_here both.0)) in
        let updates_is : dropped + length rest ≡ dropped + seen_of pairs program (stamps_of_versions versions) = ap (λ (n : ℕ). dropped + n) (count ∙ sym at) in
        λ i. record { state = state_is i; updates = updates_is i; settled = settled_is i }

-- what a look says, over pairs that are the same
pub seen_on : (pairs others : List GivenPair) (program : Stamp) (newest : Version) → others ≡ pairs → (seen : Seen) (result : Option Seen) → result ≡ Some seen → result ≡ cond (is_seen others program newest.stamp) (Some (record { state = newest.state; settled = not (precedes others newest.stamp program) })) None
    → Some seen ≡ cond (is_seen pairs program newest.stamp) (Some (record { state = newest.state; settled = not (precedes pairs newest.stamp program) })) None
seen_on pairs others program newest same seen result is says =
    sym is ∙ says ∙ ap (λ (ps : List GivenPair). cond (is_seen ps program newest.stamp) (Some (record { state = newest.state; settled = not (precedes ps newest.stamp program) })) None) same

-- what the judge gained by the look that saw, said of the whole view
pub pairs_seen : (result : Option Seen) (seen : Seen) (update program : Stamp) (read : List Stamp) (old mid new : List GivenPair) → result ≡ Some seen → read ≡ update ∷ [] → mid ≡ old
    → new ≡ mid ++ pairs_of (additions_from 0 mid (read_of result update) program) program → new ≡ old ++ pairs_of (additions_from 0 old read program) program
pairs_seen (Some other) seen update program read old mid new is read_is same gained =
    gained ∙ ap (λ (ps : List GivenPair). ps ++ pairs_of (additions_from 0 ps (update ∷ []) program) program) same ∙ ap (λ (us : List Stamp). old ++ pairs_of (additions_from 0 old us program) program) (sym read_is)
pairs_seen None seen update program read old mid new is read_is same gained = absurd cc

-- the same of the entries of its log
pub log_seen : (author : ℕ) (result : Option Seen) (seen : Seen) (update program : Stamp) (read : List Stamp) (old mid : List GivenPair) (log was now : List SettledEntry) → result ≡ Some seen → read ≡ update ∷ [] → mid ≡ old → was ≡ log
    → now ≡ was ++ entries_of_call author (read_of result update) program (places_of (additions_from 0 mid (read_of result update) program)) → now ≡ log ++ entries_of_call author read program (places_of (additions_from 0 old read program))
log_seen author (Some other) seen update program read old mid log was now is read_is same same_log gained =
    gained ∙ ap (λ (l : List SettledEntry). l ++ entries_of_call author (update ∷ []) program (places_of (additions_from 0 mid (update ∷ []) program))) same_log
    ∙ ap (λ (ps : List GivenPair). log ++ entries_of_call author (update ∷ []) program (places_of (additions_from 0 ps (update ∷ []) program))) same
    ∙ ap (λ (us : List Stamp). log ++ entries_of_call author us program (places_of (additions_from 0 old us program))) (sym read_is)
log_seen author None seen update program read old mid log was now is read_is same same_log gained = absurd cc

-- a look-back that skipped the update adds no pairs
pub pairs_skipped : (result : Option Seen) (update program : Stamp) (old mid new : List GivenPair) → result ≡ None → mid ≡ old → new ≡ mid ++ pairs_of (additions_from 0 mid (read_of result update) program) program → new ≡ old
pairs_skipped None update program old mid new is same gained = gained ∙ append-nil mid ∙ same
pairs_skipped (Some seen) update program old mid new is same gained = absurd cc

-- a look-back that skipped the update adds nothing to the judge's log
pub log_skipped : (author : ℕ) (result : Option Seen) (update program : Stamp) (mid : List GivenPair) (log was now : List SettledEntry) → result ≡ None → was ≡ log → now ≡ was ++ entries_of_call author (read_of result update) program (places_of (additions_from 0 mid (read_of result update) program)) → now ≡ log
log_skipped author None update program mid log was now is same gained = gained ∙ append-nil was ∙ same
log_skipped author (Some seen) update program mid log was now is same gained = absurd cc

is_skipped : (b : Bool) (result : Option Seen) (first : Seen) → result ≡ None → result ≡ cond b (Some first) None → b ≡ false
is_skipped true result first none is = absurd cc
is_skipped false result first none is = refl

-- a version that a look skipped isn't seen, over pairs that are the same
pub skipped_on : (pairs others : List GivenPair) (program : Stamp) (newest : Version) → others ≡ pairs → (result : Option Seen) → result ≡ None → result ≡ cond (is_seen others program newest.stamp) (Some (record { state = newest.state; settled = not (precedes others newest.stamp program) })) None
    → is_seen pairs program newest.stamp ≡ false
skipped_on pairs others program newest same result none says =
    ap (λ (ps : List GivenPair). is_seen ps program newest.stamp) (sym same) ∙ is_skipped (is_seen others program newest.stamp) result _ none says

first_seen : (first : Bool) (rest : ℕ) → first ≡ true → 1 ≤ with_front first rest
first_seen true zero is = omega arith
first_seen true (suc n) is = omega arith
first_seen false rest is = absurd cc

sees_some : (pairs : List GivenPair) (program : Stamp) (updates : List Stamp) → IsSomeAnd (slice_get updates 0) (λ oldest. IsTrue (stamp_before oldest program)) → 1 ≤ seen_of pairs program updates
sees_some pairs program [] before = absurd before
sees_some pairs program (update ∷ updates) before =
    let seen : is_seen pairs program update ≡ true = or_left (stamp_before update program) _ before in
    first_seen (is_seen pairs program update) (seen_of pairs program updates) seen

-- if versions were dropped, a kept one is seen
pub base_seen : (pairs : List GivenPair) (program : Stamp) (chain : ChainView) (result : Result View AllocError) → IfOk result (λ view. view ≡ view_of pairs program chain) → ReachesBack program chain → IfOk result (λ view. 1 ≤ chain.dropped → chain.dropped < view.updates)
base_seen pairs program chain (Ok view) is reaches = λ dropped.
    let some : 1 ≤ seen_of pairs program (stamps_of_versions chain.kept) = sees_some pairs program (stamps_of_versions chain.kept) (reaches dropped) in
    let updates : view.updates ≡ chain.dropped + seen_of pairs program (stamps_of_versions chain.kept) = ap (λ (v : View). v.updates) is in
    omega (arith, some, updates)
base_seen pairs program chain (Err error) is reaches = tt

-- A judge that is asked twice about one version

-- a judge that is asked twice learns only of the program and the version
pub learns_twice : (program update : Stamp) (old mid new : List Stamp) → LearnsOnly (program ∷ update ∷ []) old mid → LearnsOnly (program ∷ update ∷ []) mid new → LearnsOnly (program ∷ update ∷ []) old new
learns_twice program update old mid new first second stamp has = elim (second stamp has) [
  | inl before ↦ first stamp before
  | inr handed ↦ inr handed
]

-- and what it knows after the first time is still coherent with these two
pub still_coherent : ((stamps others : List Stamp) → AreCoherent others → ((stamp : Stamp) → Contains stamps stamp → Contains others stamp) → AreCoherent stamps) → (program update : Stamp) (old mid : List Stamp) → LearnsOnly (program ∷ update ∷ []) old mid → AreCoherent (program ∷ update ∷ old) → AreCoherent (program ∷ update ∷ mid)
still_coherent part program update old mid learns coherent =
    part (program ∷ update ∷ mid) (program ∷ update ∷ old) coherent (λ stamp has. elim (has_read program (update ∷ mid) stamp has) [
      | inl is ↦ subst (Contains (program ∷ update ∷ old)) is (has_head program (update ∷ old))
      | inr later ↦ elim (has_read update mid stamp later) [
        | inl is ↦ subst (Contains (program ∷ update ∷ old)) is (has_tail program (update ∷ old) update (has_head update old))
        | inr known ↦ elim (learns stamp known) [
          | inl before ↦ Contains-append_right (program ∷ update ∷ []) old stamp before
          | inr handed ↦ Contains-append_left (program ∷ update ∷ []) old stamp handed
        ]
      ]
    ])
