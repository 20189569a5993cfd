-- What a session at the end of its log says of that log: which requests have no reply there, and which was begun last.
-- Used by HowFar, OfPhase, ReadyClients, RepliesKept, StepReads and TurnsKept.
use Rattle.std.proofs.Common.{◌≡◌, ℕ, zero, suc, ◌-◌, ◌<◌, ◌≤◌, Bool, List, [], ◌∷◌, take, AllPairs, Contains, Some, ◌⊎◌, inl, inr, sym, ap, subst, ◌∙◌, arith}
use Rattle.std.specs.Prelude.{slice_get, if◌then◌else◌}
use Rattle.std.proofs.lemmas.List.Concat.{flat_map-append}
use Rattle.std.proofs.lemmas.List.Elements.{Contains-append_cases, Contains-append_left, Contains-append_right}
use Rattle.std.proofs.lemmas.Option.{none-some, same_Some}
use Rattle.weave_data.proofs.Images.{get-has}
use Rattle.weave_data.proofs.Members.{has_none, has_read}
use Rattle.weave_data.proofs.Ordered.{pairs_head, pairs_tail}
use Rattle.vector_stamp.specs.declared.clock.Stamp.{Stamp}
use Rattle.weave_entries.specs.declared.session_log.SessionEntry.{SessionEntry}
use Rattle.weave_entries.specs.SessionReplay.{RepliesToLast, SessionState, begin_by, begins_in, replied_count, replied_in, reply_by}
use Rattle.weave_account.specs.GoesOn.{IsBeginningOf}
use Rattle.weaver_core.specs.Sessions.{IsClientOf, IsInTurn}
use Rattle.workers_account.specs.ReadLaws.{ReadLaws}
use Rattle.hands_account.proofs.LastStamp.{IsAfter, last-begun}
use Rattle.weave_account.proofs.InSession.{NoneBegun, SomeBegun}

-- Logs that go on

-- what was begun stays so
pub begins-on : (log next : List SessionEntry) → IsBeginningOf log next → (begun : ℕ × Stamp) → Contains (begins_in log) begun
    → Contains (begins_in next) begun
begins-on log next on begun h =
    subst (λ (l : List SessionEntry). Contains (begins_in l) begun) (sym on.1)
    (subst (λ (l : List (ℕ × Stamp)). Contains l begun) (sym (flat_map-append (λ (e : SessionEntry). begin_by e.deed) log on.0))
    (Contains-append_left (begins_in log) (begins_in on.0) begun h))

-- what a log's continuation begins is begun in the longer log
pub begins-now : (log next : List SessionEntry) (on : IsBeginningOf log next) (begun : ℕ × Stamp) → Contains (begins_in on.0) begun
    → Contains (begins_in next) begun
begins-now log next on begun h =
    subst (λ (l : List SessionEntry). Contains (begins_in l) begun) (sym on.1)
    (subst (λ (l : List (ℕ × Stamp)). Contains l begun) (sym (flat_map-append (λ (e : SessionEntry). begin_by e.deed) log on.0))
    (Contains-append_right (begins_in log) (begins_in on.0) begun h))

-- what has its reply keeps it
pub replied-on : (log next : List SessionEntry) → IsBeginningOf log next → (r : ℕ) → Contains (replied_in log) r
    → Contains (replied_in next) r
replied-on log next on r h =
    subst (λ (l : List SessionEntry). Contains (replied_in l) r) (sym on.1)
    (subst (λ (l : List ℕ). Contains l r) (sym (flat_map-append (λ (e : SessionEntry). reply_by e.deed) log on.0))
    (Contains-append_left (replied_in log) (replied_in on.0) r h))

-- what got its reply in the continuation of a session's log has it in the longer log
pub replied-now : (log next : List SessionEntry) (on : IsBeginningOf log next) (r : ℕ) → Contains (replied_in on.0) r
    → Contains (replied_in next) r
replied-now log next on r h =
    subst (λ (l : List SessionEntry). Contains (replied_in l) r) (sym on.1)
    (subst (λ (l : List ℕ). Contains l r) (sym (flat_map-append (λ (e : SessionEntry). reply_by e.deed) log on.0))
    (Contains-append_right (replied_in log) (replied_in on.0) r h))

-- what has its reply had it, or got it since
pub replied-cases : (log next : List SessionEntry) (on : IsBeginningOf log next) (r : ℕ) → Contains (replied_in next) r
    → Contains (replied_in log) r ⊎ Contains (replied_in on.0) r
replied-cases log next on r h =
    Contains-append_cases (replied_in log) (replied_in on.0) r
    (subst (λ (l : List ℕ). Contains l r) (ap replied_in on.1 ∙ flat_map-append (λ (e : SessionEntry). reply_by e.deed) log on.0) h)

-- What has no reply

-- of rising numbers the first ones are less than a later one
pub front-less : (xs : List ℕ) → AllPairs (λ (a b : ℕ). a < b) xs → (n r m a : ℕ) → slice_get xs n ≡ Some r → m ≤ n
    → Contains (take m xs) a → a < r
front-less [] rise n r m a at low h = absurd (none-some r at)
front-less (x ∷ xs) rise n r zero a at low h = absurd (has_none a h)
front-less (x ∷ xs) rise zero r (suc m) a at low h = absurd (omega (arith, low))
front-less (x ∷ xs) rise (suc n) r (suc m) a at low h =
    elim (has_read x (take m xs) a h) [
      | inl here ↦ subst (λ (y : ℕ). y < r) here (pairs_head (λ (a b : ℕ). a < b) x xs r rise (get-has xs n r at))
      | inr more ↦ front-less xs (pairs_tail (λ (a b : ℕ). a < b) x xs rise) n r m a at (omega (arith, low)) more
    ]

module _ (laws : ReadLaws) (number : ℕ) (session : SessionState) (log : List SessionEntry) (is : IsClientOf number session log) where
  -- a request at a place past those that have their replies has none
  no-reply : (n r m : ℕ) → slice_get session.requests n ≡ Some r → replied_count session ≡ m → m ≤ n → Contains (replied_in log) r → ⊥
  no-reply n r m at count low h =
      let first : replied_in log ≡ take m session.requests = laws.replied_first number session.requests log is.right
      ∙ ap (λ (s : SessionState). take (replied_count s) session.requests) (sym is.state)
      ∙ ap (λ (k : ℕ). take k session.requests) count in
      let less = front-less session.requests is.rising n r m r at low (subst (λ (l : List ℕ). Contains l r) first h) in
      omega (arith, less)

  -- the next request has no reply
  pub next-unreplied : (r : ℕ) → IsInTurn session r → Contains (replied_in log) r → ⊥
  next-unreplied r turn h =
      no-reply session.begun r session.begun turn.next
      (ap (λ (b : Bool). if b then session.begun - 1 else session.begun) turn.replied) (omega arith) h

  -- one that waits for its reply has none
  pub waiting-unreplied : (r : ℕ) → RepliesToLast session r → Contains (replied_in log) r → ⊥
  waiting-unreplied r turn h =
      no-reply (session.begun - 1) r (session.begun - 1) turn.last
      (ap (λ (b : Bool). if b then session.begun - 1 else session.begun) turn.waits) (omega arith) h

-- What was begun last

-- the request that waits was begun with the session's last stamp
pub last-there : (number : ℕ) (session : SessionState) (log : List SessionEntry) → IsClientOf number session log → (r : ℕ) (stamp : Stamp)
    → 1 ≤ session.begun → RepliesToLast session r → session.last ≡ Some stamp → Contains (begins_in log) (r, stamp)
last-there number session log is r stamp some turn last =
    by (subst (λ (s : SessionState). IsAfter session.requests s (begins_in log)) (sym is.state) (last-begun number session.requests log is.right)).1
  where
    by : NoneBegun session ⊎ SomeBegun session.requests session (begins_in log) → Contains (begins_in log) (r, stamp)
    by (inl none) = absurd (omega (arith, some, none.begun-is))
    by (inr one) =
        let place : session.begun - 1 ≡ one.place = omega (arith, one.begun-is) in
        let request : one.request ≡ r = same_Some one.request r (sym one.at ∙ ap (slice_get session.requests) (sym place) ∙ turn.last) in
        let stamps : one.stamp ≡ stamp = same_Some one.stamp stamp (sym one.last-is ∙ last) in
        subst (λ (q : ℕ). Contains (begins_in log) (q, stamp)) request
        (subst (λ (s : Stamp). Contains (begins_in log) (one.request, s)) stamps one.there)
