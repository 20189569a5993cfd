-- In a session requests begin in script order, and their stamps rise.
-- Used by `facts_stay_true`, ConflictsClause, Growing, InSession, KnownClocks, ListingClause, Meeting, OpenRequests,
-- ReadingPlace, RepliesClause, Unprocessed and Visiting.
use Rattle.std.proofs.Common.{◌≡◌, ◌≢◌, ℕ, zero, suc, ◌+◌, ◌<◌, ◌≤◌, ◌==◌, List, [], ◌∷◌, ◌++◌, map, length, take, drop, Contains, AllPairs, IsTrue, Option, Some, None, ◌⊎◌, inl, inr, refl, sym, ap, subst, ◌∙◌, arith}
use Rattle.std.specs.Prelude.{slice_get}
use Rattle.std.specs.List.{find, range_with_len}
use Rattle.std.specs.Option.{option_map}
use Rattle.std.proofs.lemmas.Bool.{cases_eq, eqb-true, eq-eqb}
use Rattle.std.proofs.lemmas.List.{append-nil, map-append}
use Rattle.std.proofs.lemmas.List.Concat.{flat_map-append}
use Rattle.std.proofs.lemmas.List.Sums.{fold-append}
use Rattle.std.proofs.lemmas.List.Elements.{Contains-append_cases, Contains-append_left}
use Rattle.std.proofs.lemmas.Option.{slice_get_within}
use Rattle.weave_data.proofs.Members.{has_read, has_none, filter_has, find_has, has_map}
use Rattle.vector_stamp.specs.declared.clock.Stamp.{Stamp}
use Rattle.vector_stamp.specs.Order.{stamp_before}
use Rattle.program_defs.specs.declared.script.Request.{Request}
use Rattle.program_defs.specs.declared.script.Script.{Script}
use Rattle.weave_entries.specs.declared.session_log.SessionEntry.{SessionEntry}
use Rattle.weave_entries.specs.declared.session_log.SessionDeed.{SessionDeed}
use Rattle.weave_entries.specs.declared.session_log.SessionDeed.TheVariants.{Begun, Replied}
use Rattle.weave_entries.specs.SessionReplay.{SessionState, session_start, session_after, session_of, FitsSession, IsSessionLog, begin_by, begins_in, session_stamp_of}
use Rattle.weave_data.proofs.Ends.{by_last}
use Rattle.weave_data.proofs.Entries.{each_before, each_last}
use Rattle.report_rules.specs.Lookups.{is_in, is_some_and, are_both, request_at}
use Rattle.weave_account.specs.declared.account.Account.{Account}
use Rattle.weave_account.specs.Account.{session_log, stamp_of}
use Rattle.weave_account.specs.Sessions.{requests_of_session}
use Rattle.weave_data.proofs.Ordered.{pairs_head, pairs_tail, find_by_key, pairs_push}
use Rattle.weave_data.proofs.Images.{map-has}
use Rattle.weave_data.proofs.Numbers.{in-has, has-in, IsSorted, in-head, in-tail, in-cases, in-append_cases, in-filter, sorted-filter, sorted-at}
use Rattle.weave_account.specs.LowerLaws.{LawsForAccounts}
use Rattle.weave_account.proofs.Basis.{Basis}
use Rattle.report_rules.specs.Lookups.{same_session}

-- Lists

module _ {A : Type 0} where
  -- the first elements and the next one are the first elements, one more
  pub take-more : (xs : List A) (n : ℕ) (x : A) → slice_get xs n ≡ Some x → take (suc n) xs ≡ take n xs ++ x ∷ []
  take-more [] n x e = cc
  take-more (y ∷ xs) zero x e = let same : y ≡ x = cc in ap (λ k. k ∷ []) same
  take-more (y ∷ xs) (suc n) x e = ap (λ ys. y ∷ ys) (take-more xs n x e)

  -- a list cut at a place
  pub cut-here : (xs : List A) (n : ℕ) (x : A) → slice_get xs n ≡ Some x → xs ≡ take n xs ++ x ∷ drop (suc n) xs
  cut-here [] n x e = cc
  cut-here (y ∷ xs) zero x e = let same : y ≡ x = cc in ap (λ k. k ∷ xs) same
  cut-here (y ∷ xs) (suc n) x e = ap (λ ys. y ∷ ys) (cut-here xs n x e)

  -- the first elements and the rest are the list
  pub take-drop : (xs : List A) (n : ℕ) → xs ≡ take n xs ++ drop n xs
  take-drop xs zero = refl
  take-drop [] (suc n) = refl
  take-drop (x ∷ xs) (suc n) = ap (λ ys. x ∷ ys) (take-drop xs n)

  -- of two elements one is before the other, if they aren't one
  pub pairs-either : (R : A → A → Type 0) (xs : List A) (x y : A) → AllPairs R xs → Contains xs x → Contains xs y
      → (x ≡ y) ⊎ (R x y ⊎ R y x)
  pairs-either R [] x y pairs h g = absurd (has_none x h)
  pairs-either R (z ∷ xs) x y pairs h g =
      elim (has_read z xs x h) [
        | inl same ↦ elim (has_read z xs y g) [
          | inl too ↦ inl (sym same ∙ too)
          | inr later ↦ inr (inl (subst (λ k. R k y) same (pairs_head R z xs y pairs later)))
        ]
        | inr more ↦ elim (has_read z xs y g) [
          | inl same ↦ inr (inr (subst (λ k. R k x) same (pairs_head R z xs x pairs more)))
          | inr later ↦ pairs-either R xs x y (pairs_tail R z xs pairs) more later
        ]
      ]

  -- what follows from a relation of each two holds of each two
  pub pairs-map : (R S : A → A → Type 0) → ((x y : A) → R x y → S x y) → (xs : List A) → AllPairs R xs → AllPairs S xs
  pairs-map R S f xs pairs i j d below within = f _ _ (pairs i j d below within)

-- numbers in a row rise
pub range-sorted : (a n : ℕ) → IsSorted (λ x y. x < y) (range_with_len a n)
range-sorted a zero = tt
range-sorted a (suc n) = ((λ y h. let low = above (a + 1) n y h in omega (arith, low)), range-sorted (a + 1) n)
  where
    above : (a n y : ℕ) → IsTrue (is_in y (range_with_len a n)) → a ≤ y
    above a zero y h = cc
    above a (suc n) y h =
        elim (in-cases y a (range_with_len (a + 1) n) h) [ inl same ↦ omega (arith, same) | inr more ↦ (let low = above (a + 1) n y more in omega (arith, low)) ]

in-range : (a n y : ℕ) → a ≤ y → y < a + n → IsTrue (is_in y (range_with_len a n))
in-range a zero y low high = absurd (omega (arith, low, high))
in-range a (suc n) y low high =
    elim (cases_eq y a) [ inl same ↦ subst (λ k. IsTrue (is_in k (a ∷ range_with_len (a + 1) n))) (sym same) (in-head a _) | inr differ ↦ in-tail y a _ (in-range (a + 1) n y (omega (arith, low, differ)) (omega (arith, high))) ]

-- One session

-- the first begins before the second
abbrev pub BeginsBefore : (ℕ × Stamp) → (ℕ × Stamp) → Type 0
BeginsBefore p q = (p.0 < q.0) × IsTrue (stamp_before p.1 q.1)

module _ (laws : LawsForAccounts) (number : ℕ) (requests : List ℕ) (rising : IsSorted (λ x y. x < y) requests) where
  -- what was begun are the first requests, in order, with rising stamps
  pub record Begins (state : SessionState) (begun : List (ℕ × Stamp)) : Type 0 where
    pub taken : map (λ (b : ℕ × Stamp). b.0) begun ≡ take state.begun requests
    pub rise : AllPairs BeginsBefore begun
    pub under : (b : ℕ × Stamp) → Contains begun b
        → (l : Stamp) × (state.last ≡ Some l) × ((b.1 ≡ l) ⊎ IsTrue (stamp_before b.1 l))

  one-more : (n : ℕ) → suc n ≡ n + 1
  one-more n = omega arith

  step : (state : SessionState) (begun : List (ℕ × Stamp)) (deed : SessionDeed) → state.requests ≡ requests
      → FitsSession state deed → Begins state begun → Begins (session_after state deed) (begun ++ begin_by deed)
  step state begun (Replied r) is fits so-far =
      subst (Begins (session_after state (Replied r))) (sym (append-nil begun))
      (record { taken = so-far.taken; rise = so-far.rise; under = so-far.under })
  step state begun (Begun r stamp) is fits so-far =
      let next : slice_get requests state.begun ≡ Some r = ap (λ rs. slice_get rs state.begun) (sym is) ∙ fits.next in
      let below : (b : ℕ × Stamp) → Contains begun b → b.0 < r =
      λ b h. sorted-at (λ x y. x < y) (take state.begun requests) (r ∷ drop (suc state.begun) requests) b.0 r (subst (IsSorted (λ x y. x < y)) (cut-here requests state.begun r next) rising)
      (subst (λ rs. IsTrue (is_in b.0 rs)) so-far.taken (in-has (map (λ (b : ℕ × Stamp). b.0) begun) b.0 (has_map (λ (b : ℕ × Stamp). b.0) begun b h)))
      (in-head r _) in
      let earlier : (b : ℕ × Stamp) → Contains begun b → IsTrue (stamp_before b.1 stamp) =
      λ b h. (let last = so-far.under b h in let rises : IsTrue (stamp_before last.0 stamp) = fits.rises last.0 last.1 in
      elim last.2 [ inl same ↦ subst (λ s. IsTrue (stamp_before s stamp)) (sym same) rises | inr before ↦ laws.transitive b.1 last.0 stamp before rises ]) in
      record {
        taken = map-append (λ (b : ℕ × Stamp). b.0) begun ((r, stamp) ∷ []) ∙ ap (λ rs. rs ++ r ∷ []) so-far.taken ∙ sym (take-more requests state.begun r next) ∙ ap (λ n. take n requests) (one-more state.begun);
        rise = pairs_push BeginsBefore begun (r, stamp) so-far.rise (λ b h. (below b h, earlier b h));
        under = λ b h. elim (Contains-append_cases begun ((r, stamp) ∷ []) b h) [
          | inl old ↦ (stamp, refl, inr (earlier b old))
          | inr new ↦ elim (has_read (r, stamp) [] b new) [ inl same ↦ (stamp, refl, inl (ap (λ (p : ℕ × Stamp). p.1) (sym same))) | inr none ↦ absurd (has_none b none) ]
        ];
      }

  -- the requests of a session stay
  pub same-requests : (log : List SessionEntry) → (session_of requests log).requests ≡ requests
  same-requests =
      by_last (λ log. (session_of requests log).requests ≡ requests) refl
      (λ log entry so-far. ap (λ (s : SessionState). s.requests) (fold-append (λ session (e : SessionEntry). session_after session e.deed) (session_start requests) log (entry ∷ [])) ∙ keep (session_of requests log) entry.deed ∙ so-far)
    where
      keep : (state : SessionState) (deed : SessionDeed) → (session_after state deed).requests ≡ state.requests
      keep state (Begun r stamp) = refl
      keep state (Replied r) = refl

  -- this holds along a session's log
  pub begins : (log : List SessionEntry) → IsSessionLog number requests log → Begins (session_of requests log) (begins_in log)
  begins =
      by_last (λ log. IsSessionLog number requests log → Begins (session_of requests log) (begins_in log))
      (λ each. record { taken = refl; rise = λ i j d below within. absurd (omega (arith, within)); under = λ b h. absurd (has_none b h) })
      (λ log entry more each.
      let fits = each_last _ log entry each in
      subst (λ (s : SessionState). Begins s (begins_in (log ++ entry ∷ [])))
      (sym (fold-append (λ session (e : SessionEntry). session_after session e.deed) (session_start requests) log (entry ∷ [])))
      (subst (Begins (session_after (session_of requests log) entry.deed)) (sym (flat_map-append (λ (e : SessionEntry). begin_by e.deed) log (entry ∷ []) ∙ ap (λ rest. begins_in log ++ rest) (append-nil (begin_by entry.deed))))
      (step (session_of requests log) (begins_in log) entry.deed (same-requests log) fits.1 (more (each_before _ log (entry ∷ []) each)))))

-- All sessions

-- in one session an earlier request of one that is begun is begun, with an earlier stamp
abbrev pub SessionsRise : Script → Account → Type 0
SessionsRise script account =
    (a b : ℕ) (y : Stamp) → a < b → IsTrue (same_session script a b) → stamp_of account b ≡ Some y → (x : Stamp) × (stamp_of account a ≡ Some x) × IsTrue (stamp_before x y)

-- two requests of one session
pub both-there : (x y : Option Request) → IsTrue (are_both (λ (x : Request) (y : Request). x.session == y.session) x y)
    → (a : Request) × (b : Request) × (x ≡ Some a) × (y ≡ Some b) × (a.session ≡ b.session)
both-there None y h = cc
both-there (Some a) None h = cc
both-there (Some a) (Some b) h = (a, b, refl, refl, eqb-true a.session b.session h)

-- the begin of a stamp that a session's log has
pub found : (begun : List (ℕ × Stamp)) (r : ℕ) (s : Stamp)
    → option_map (λ (b : ℕ × Stamp). b.1) (find (λ (b : ℕ × Stamp). b.0 == r) begun) ≡ Some s → Contains begun (r, s)
found begun r s e = at (find (λ (b : ℕ × Stamp). b.0 == r) begun) refl e
  where
    at : (o : Option (ℕ × Stamp)) → find (λ (b : ℕ × Stamp). b.0 == r) begun ≡ o → option_map (λ (b : ℕ × Stamp). b.1) o ≡ Some s
        → Contains begun (r, s)
    at None is e = cc
    at (Some b) is e =
        let has = find_has (λ (b : ℕ × Stamp). b.0 == r) begun b is in
        let stamp : b.1 ≡ s = cc in
        let first : b.0 ≡ r = eqb-true b.0 r has.1 in
        subst (λ (k : ℕ × Stamp). Contains begun k) (λ i. (first i, stamp i)) has.0

apart : (q w : ℕ × Stamp) → BeginsBefore q w → q.0 ≢ w.0
apart q w before same = let lt = before.0 in omega (arith, lt, same)

-- this holds in each session
pub sessions-rise : (script : Script) (account : Account) → Basis script account → SessionsRise script account
sessions-rise script account basis a b y less same e =
    let both = both-there (request_at script a) (request_at script b) same in
    let session = (both.1).session in
    let requests = requests_of_session script session in
    let rising : IsSorted (λ x y. x < y) requests =
    sorted-filter (λ x y. x < y) _ (range_with_len 0 (length script.requests)) (range-sorted 0 (length script.requests)) in
    let log = session_log account session in
    let known = begins basis.laws session requests rising log (basis.is.sessions.logs session) in
    let at-b : Contains (begins_in log) (b, y) = found (begins_in log) b y (basis.is.sessions.stamps b both.1 both.3 ∙ e) in
    let b-taken : IsTrue (is_in b (take (session_of requests log).begun requests)) =
    subst (λ rs. IsTrue (is_in b rs)) known.taken (in-has _ b (has_map (λ (p : ℕ × Stamp). p.0) (begins_in log) (b, y) at-b)) in
    let a-there : IsTrue (is_in a requests) = in-filter _ a (range_with_len 0 (length script.requests)) (in-range 0 (length script.requests) a (omega arith) (let w = slice_get_within script.requests a both.0 both.2 in omega (arith, w)))
    (subst (λ q. IsTrue (is_some_and (λ (request : Request). request.session == session) q)) (sym both.2) (eq-eqb (both.0).session session both.4)) in
    let n = (session_of requests log).begun in
    let a-taken : IsTrue (is_in a (take n requests)) = elim (in-append_cases a (take n requests) (drop n requests) (subst (λ rs. IsTrue (is_in a rs)) (take-drop requests n) a-there)) [
      | inl here ↦ here
      | inr later ↦ absurd (let more = sorted-at (λ x y. x < y) (take n requests) (drop n requests) b a (subst (IsSorted (λ x y. x < y)) (take-drop requests n) rising) b-taken later in omega (arith, more, less))
    ] in
    let image = map-has (λ (p : ℕ × Stamp). p.0) (begins_in log) a (has-in _ a (subst (λ rs. IsTrue (is_in a rs)) (sym known.taken) a-taken)) in
    let p = image.of in
    let once =
    find_by_key (λ (q : ℕ × Stamp). q.0) (begins_in log) p
    (pairs-map BeginsBefore (λ (q w : ℕ × Stamp). q.0 ≢ w.0) apart (begins_in log) known.rise) image.has in
    let stamp-a : stamp_of account a ≡ Some p.1 =
    sym (basis.is.sessions.stamps a both.0 both.2)
    ∙ ap (λ s. session_stamp_of a (session_log account s)) both.4
    ∙ ap (λ k. option_map (λ (q : ℕ × Stamp). q.1) (find (λ (q : ℕ × Stamp). q.0 == k) (begins_in log))) (sym image.is)
    ∙ ap (option_map (λ (q : ℕ × Stamp). q.1)) once in
    let before : IsTrue (stamp_before p.1 y) = elim (pairs-either BeginsBefore (begins_in log) p (b, y) known.rise image.has at-b) [
      | inl one ↦ absurd (let first : p.0 ≡ b = ap (λ (q : ℕ × Stamp). q.0) one in let is = image.is in omega (arith, first, is, less))
      | inr (inl earlier) ↦ earlier.1
      | inr (inr later) ↦ absurd (let lt = later.0 in let is = image.is in omega (arith, lt, is, less))
    ] in
    (p.1, stamp-a, before)

some-session : (session : ℕ) (q : Option Request) → IsTrue (is_some_and (λ (request : Request). request.session == session) q)
    → (request : Request) × (q ≡ Some request) × (request.session ≡ session)
some-session session None h = cc
some-session session (Some request) h = (request, refl, eqb-true request.session session h)

-- a request that a session's log begins has the stamp of its begin at the gatekeeper
pub session-begun : (script : Script) (account : Account) → Basis script account → (session r : ℕ) (stamp : Stamp)
    → Contains (begins_in (session_log account session)) (r, stamp) → stamp_of account r ≡ Some stamp
session-begun script account basis session r stamp h =
    let requests = requests_of_session script session in
    let rising : IsSorted (λ x y. x < y) requests =
    sorted-filter (λ x y. x < y) _ (range_with_len 0 (length script.requests)) (range-sorted 0 (length script.requests)) in
    let log = session_log account session in
    let known = begins basis.laws session requests rising log (basis.is.sessions.logs session) in
    let n = (session_of requests log).begun in
    let taken : IsTrue (is_in r (take n requests)) =
    subst (λ rs. IsTrue (is_in r rs)) known.taken (in-has _ r (has_map (λ (p : ℕ × Stamp). p.0) (begins_in log) (r, stamp) h)) in
    let whole : Contains requests r =
    subst (λ rs. Contains rs r) (sym (take-drop requests n))
    (Contains-append_left (take n requests) (drop n requests) r (has-in (take n requests) r taken)) in
    let own =
    filter_has (λ q. is_some_and (λ (request : Request). request.session == session) (request_at script q))
    (range_with_len 0 (length script.requests)) r whole in
    let there = some-session session (request_at script r) own.1 in
    let once =
    find_by_key (λ (q : ℕ × Stamp). q.0) (begins_in log) (r, stamp)
    (pairs-map BeginsBefore (λ (q w : ℕ × Stamp). q.0 ≢ w.0) apart (begins_in log) known.rise) h in
    sym (basis.is.sessions.stamps r there.0 there.1)
    ∙ ap (λ s. session_stamp_of r (session_log account s)) there.2
    ∙ ap (option_map (λ (q : ℕ × Stamp). q.1)) once
