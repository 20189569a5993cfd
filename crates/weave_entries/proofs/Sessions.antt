-- Which requests of a session have begun and have their replies, and their stamps.
-- Used by `sessions_go_in_turn`.
use Rattle.std.proofs.Common.{◌≡◌, ℕ, zero, suc, ◌+◌, ◌-◌, ◌<◌, ◌⊎◌, add-one, true, cond, List, [], ◌∷◌, ◌++◌, map, take, slice_get, Contains, IsTrue, Some, inl, inr, refl, sym, ap, subst, ◌∙◌, arith}
use Rattle.std.proofs.lemmas.List.{append-nil, map-append}
use Rattle.std.proofs.lemmas.List.Sums.{fold-append}
use Rattle.std.proofs.lemmas.List.Elements.{Contains-append_cases}
use Rattle.weave_data.proofs.Ends.{flat_push}
use Rattle.weave_data.proofs.Entries as entries
use Rattle.weave_data.proofs.Members.{has_none, only}
use Rattle.weave_data.proofs.Ordered.{pairs_none, pairs_push}
use Rattle.vector_stamp.specs.declared.clock.Stamp.{Stamp}
use Rattle.vector_stamp.specs.Order.{stamp_before, StampsRise}
use Rattle.weave_entries.specs.declared.session_log.SessionEntry.{SessionEntry}
use Rattle.weave_entries.specs.declared.session_log.SessionDeed.{SessionDeed}
use Rattle.weave_entries.specs.declared.session_log.SessionDeed.TheVariants.{Begun, Replied}
use Rattle.weave_entries.specs.SessionReplay.{SessionState, session_after, session_of, with_begun, with_reply, begin_by, begins_in, reply_by, replied_in, replied_count, FitsSession, IsSessionLog}

-- one more of the first elements
take_more : {A : Type 0} (xs : List A) (n : ℕ) (x : A) → slice_get xs n ≡ Some x → take (n + 1) xs ≡ take n xs ++ x ∷ []
take_more xs n x at = rw (add-one n) (from xs n x at)
  where
    from : {A : Type 0} (xs : List A) (n : ℕ) (x : A) → slice_get xs n ≡ Some x → take (suc n) xs ≡ take n xs ++ x ∷ []
    from [] n x at = absurd (cc)
    from (y ∷ xs) zero x at = let same : y ≡ x = cc in ap (λ z. z ∷ []) same
    from (y ∷ xs) (suc n) x at = ap (λ zs. y ∷ zs) (from xs n x at)

-- the stamps of the requests that a session's log begins
abbrev pub stamps_begun : List SessionEntry → List Stamp
stamps_begun log = map (λ (begun : ℕ × Stamp). begun.1) (begins_in log)

-- the requests that were begun, and those that have replies, are the first ones; the stamps rise to the last one
pub record IsInTurn (requests : List ℕ) (session : SessionState) (begins : List (ℕ × Stamp)) (replied : List ℕ) : Type 0 where
  pub requests_are : session.requests ≡ requests
  pub begun_are : map (λ (begun : ℕ × Stamp). begun.0) begins ≡ take session.begun requests
  pub replied_are : replied ≡ take (replied_count session) requests
  pub some : session.waits ≡ true → 0 < session.begun
  pub rise : StampsRise (map (λ (begun : ℕ × Stamp). begun.1) begins)
  pub last : (stamp : Stamp) → Contains (map (λ (begun : ℕ × Stamp). begun.1) begins) stamp → (last : Stamp) × (session.last ≡ Some last) × ((stamp ≡ last) ⊎ IsTrue (stamp_before stamp last))

module _ (transitive : (a b c : Stamp) → IsTrue (stamp_before a b) → IsTrue (stamp_before b c) → IsTrue (stamp_before a c))
    (requests : List ℕ) (session : SessionState) (begins : List (ℕ × Stamp)) (replied : List ℕ) (so_far : IsInTurn requests session begins replied) where
  -- the next request begins
  begun_on : (request : ℕ) (stamp : Stamp) → FitsSession session (Begun request stamp) → IsInTurn requests (with_begun stamp session) (begins ++ (request, stamp) ∷ []) (replied ++ [])
  begun_on request stamp fits =
      let at : slice_get requests session.begun ≡ Some request = subst (λ (rs : List ℕ). slice_get rs session.begun ≡ Some request) so_far.requests_are fits.next in
      let stamps : List Stamp = map (λ (begun : ℕ × Stamp). begun.1) begins in
      let stamps_are : map (λ (begun : ℕ × Stamp). begun.1) (begins ++ (request, stamp) ∷ []) ≡ stamps ++ stamp ∷ [] = map-append (λ (begun : ℕ × Stamp). begun.1) begins ((request, stamp) ∷ []) in
      let count : replied_count session ≡ session.begun = ap (λ b. cond b (session.begun - 1) session.begun) fits.replied in
      let same : session.begun + 1 - 1 ≡ session.begun = omega arith in
      let before : (one : Stamp) → Contains stamps one → IsTrue (stamp_before one stamp) = λ one has.
      (let l = so_far.last one has in
      elim l.2 [
        | inl is ↦ subst (λ (s : Stamp). IsTrue (stamp_before s stamp)) (sym is) (fits.rises l.0 l.1)
        | inr earlier ↦ transitive one l.0 stamp earlier (fits.rises l.0 l.1)
      ]) in
      record {
        requests_are = so_far.requests_are;
        begun_are = map-append (λ (begun : ℕ × Stamp). begun.0) begins ((request, stamp) ∷ []) ∙ ap (λ rs. rs ++ request ∷ []) so_far.begun_are ∙ sym (take_more requests session.begun request at);
        replied_are = append-nil replied ∙ so_far.replied_are ∙ ap (λ n. take n requests) (count ∙ sym same);
        some = λ _. omega arith;
        rise = subst StampsRise (sym stamps_are) (pairs_push (λ (a b : Stamp). IsTrue (stamp_before a b)) stamps stamp so_far.rise before);
        last = λ one has. (
          stamp,
          refl,
          elim (Contains-append_cases stamps (stamp ∷ []) one (subst (λ (ss : List Stamp). Contains ss one) stamps_are has)) [
            | inl earlier ↦ inr (before one earlier)
            | inr new ↦ inl (sym (only stamp one new))
          ],
        );
      }

  -- the last one gets its reply
  replied_on : (request : ℕ) → FitsSession session (Replied request) → IsInTurn requests (with_reply session) (begins ++ []) (replied ++ request ∷ [])
  replied_on request fits =
      let some : 0 < session.begun = so_far.some fits.waits in
      let at : slice_get requests (session.begun - 1) ≡ Some request = subst (λ (rs : List ℕ). slice_get rs (session.begun - 1) ≡ Some request) so_far.requests_are fits.last in
      let count : replied_count session ≡ session.begun - 1 = ap (λ b. cond b (session.begun - 1) session.begun) fits.waits in
      let next : session.begun - 1 + 1 ≡ session.begun = omega arith in
      subst (λ (bs : List (ℕ × Stamp)). IsInTurn requests (with_reply session) bs (replied ++ request ∷ [])) (sym (append-nil begins)) (record {
        requests_are = so_far.requests_are;
        begun_are = so_far.begun_are;
        replied_are =
            ap (λ rs. rs ++ request ∷ []) (so_far.replied_are ∙ ap (λ n. take n requests) count)
            ∙ sym (take_more requests (session.begun - 1) request at)
            ∙ ap (λ n. take n requests) next;
        some = λ waits. absurd (cc);
        rise = so_far.rise;
        last = so_far.last;
      })

  step : (deed : SessionDeed) → FitsSession session deed → IsInTurn requests (session_after session deed) (begins ++ begin_by deed) (replied ++ reply_by deed)
  step (Begun request stamp) fits = begun_on request stamp fits
  step (Replied request) fits = replied_on request fits

-- in a session's log the begun requests are its first ones, so are those with replies, and the begun stamps rise
pub in_turn : ((a b c : Stamp) → IsTrue (stamp_before a b) → IsTrue (stamp_before b c) → IsTrue (stamp_before a c)) → (number : ℕ) (requests : List ℕ) (log : List SessionEntry) → IsSessionLog number requests log → IsInTurn requests (session_of requests log) (begins_in log) (replied_in log)
in_turn transitive number requests =
    entries.by_entries (λ before (entry : SessionEntry). (entry.author ≡ number) × FitsSession (session_of requests before) entry.deed) (λ log. IsInTurn requests (session_of requests log) (begins_in log) (replied_in log))
    (record { requests_are = refl; begun_are = refl; replied_are = refl; some = λ waits. absurd (cc); rise = pairs_none (λ (a b : Stamp). IsTrue (stamp_before a b)); last = λ stamp has. absurd (has_none stamp has) })
    (λ log entry right fits so_far.
    let stepped = step transitive requests (session_of requests log) (begins_in log) (replied_in log) so_far entry.deed fits.1 in
    let state : session_of requests (log ++ entry ∷ []) ≡ session_after (session_of requests log) entry.deed = fold-append _ _ log (entry ∷ []) in
    subst (λ (s : SessionState). IsInTurn requests s (begins_in (log ++ entry ∷ [])) (replied_in (log ++ entry ∷ []))) (sym state)
    (subst (λ (bs : List (ℕ × Stamp)). IsInTurn requests (session_after (session_of requests log) entry.deed) bs (replied_in (log ++ entry ∷ []))) (sym (flat_push (λ (e : SessionEntry). begin_by e.deed) log entry))
    (subst (λ rs. IsInTurn requests (session_after (session_of requests log) entry.deed) (begins_in log ++ begin_by entry.deed) rs) (sym (flat_push (λ (e : SessionEntry). reply_by e.deed) log entry)) stepped)))
