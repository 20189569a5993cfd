-- What a session's log says of its requests: each is begun once, and their numbers rise.
-- Used by Begun, ByLog, Ended, Follows, HowFar, OneHand, OwnWorkers, Programs, ReadyClients and crates
-- sessions_account and weave_phase.
use Rattle.std.proofs.Common.{◌≡◌, ◌≢◌, ℕ, ◌<◌, ◌==◌, List, [], ◌∷◌, ◌++◌, map, take, drop, get_or, Contains, AllPairs, Option, None, Some, ◌⊎◌, inl, inr, refl, sym, ap, subst, ◌∙◌, arith}
use Rattle.std.specs.Prelude.{slice_get}
use Rattle.std.specs.List.{find}
use Rattle.std.specs.Option.{option_map}
use Rattle.std.proofs.lemmas.Bool.{eqb-true}
use Rattle.std.proofs.lemmas.List.{take-append-drop}
use Rattle.std.proofs.lemmas.List.Concat.{flat_map-append}
use Rattle.std.proofs.lemmas.List.Elements.{Contains-append_cases, Contains-append_left, Contains-append_right}
use Rattle.std.proofs.lemmas.Option.{get_or_from_slice_get, none-some, same_Some, slice_get-map}
use Rattle.weave_data.proofs.Members.{find_has, has_map}
use Rattle.weave_data.proofs.Ordered.{find_by_key, pairs_across, pairs_cases, pairs_cons, pairs_front, pairs_head, pairs_none, pairs_tail}
use Rattle.vector_stamp.specs.declared.clock.Stamp.{Stamp}
use Rattle.program_defs.specs.declared.script.Request.{Request}
use Rattle.program_defs.specs.declared.script.Script.{Script}
use Rattle.report_rules.specs.Lookups.{request_at}
use Rattle.weave_entries.specs.declared.session_log.SessionEntry.{SessionEntry}
use Rattle.weave_entries.specs.SessionReplay.{IsSessionLog, begin_by, begins_in, replied_count, replied_in, session_of, session_stamp_of}
use Rattle.weave_account.specs.declared.account.Account.{Account}
use Rattle.weave_account.specs.Account.{session_log}
use Rattle.weave_account.specs.Sessions.{requests_of_session}
use Rattle.weaver_core.specs.declared.client.Client.{Client}
use Rattle.weaver_core.specs.Sessions.{log_of_client}
use Rattle.weaver_core.proofs.ValuesStay.{in-session as of-session}
use Rattle.workers_account.specs.PhaseLaws.{PhaseLaws}
use Rattle.step_rules.proofs.VisitLogs.{in-take}

-- a relation between what is made of elements holds between the elements
pub pairs-unmap : {A B : Type 0} (R : B → B → Type 0) (f : A → B) (xs : List A) → AllPairs R (map f xs) → AllPairs (λ (a b : A). R (f a) (f b)) xs
pairs-unmap {A} {B} R f [] pairs = pairs_none (λ (a b : A). R (f a) (f b))
pairs-unmap {A} {B} R f (x ∷ xs) pairs =
    pairs_cons (λ (a b : A). R (f a) (f b)) x xs (λ y h. pairs_head R (f x) (map f xs) (f y) pairs (has_map f xs y h))
    (pairs-unmap R f xs (pairs_tail R (f x) (map f xs) pairs))

-- if a relation implies another, and holds of all pairs of a list, the other one does
pub pairs-weaker : {A : Type 0} (R S : A → A → Type 0) → ((x y : A) → R x y → S x y) → (xs : List A) → AllPairs R xs → AllPairs S xs
pairs-weaker R S weaker [] pairs = pairs_none S
pairs-weaker R S weaker (x ∷ xs) pairs =
    pairs_cons S x xs (λ y h. weaker x y (pairs_head R x xs y pairs h)) (pairs-weaker R S weaker xs (pairs_tail R x xs pairs))

-- the first ones of a list keep a relation
pub pairs-take : {A : Type 0} (R : A → A → Type 0) (n : ℕ) (xs : List A) → AllPairs R xs → AllPairs R (take n xs)
pairs-take R n xs pairs = pairs_front R (take n xs) (drop n xs) (subst (AllPairs R) (sym (take-append-drop n xs)) pairs)

-- a session's request is one of the script, of that session
pub in-session : (script : Script) (t q : ℕ) → Contains (requests_of_session script t) q
    → (request : Request) × (request_at script q ≡ Some request) × (request.session ≡ t)
in-session script t q has = of-session script t q has

-- the log of a session is its client's
pub log-at : (account : Account) (clients : List Client) → account.sessions ≡ map log_of_client clients → (session : ℕ) (client : Client)
    → slice_get clients session ≡ Some client → session_log account session ≡ log_of_client client
log-at account clients are session client at =
    ap (λ (logs : List (List SessionEntry)). get_or logs session []) are
    ∙ get_or_from_slice_get (map log_of_client clients) session (log_of_client client) []
    (slice_get-map log_of_client clients session ∙ ap (option_map log_of_client) at)

module _ (laws : PhaseLaws) (script : Script) (session : ℕ) (log : List SessionEntry)
    (right : IsSessionLog session (requests_of_session script session) log) where
  abbrev requests : List ℕ
  requests = requests_of_session script session

  firsts : map (λ (begun : ℕ × Stamp). begun.0) (begins_in log) ≡ take (session_of requests log).begun requests
  firsts = laws.begun_first session requests log right

  -- the requests that began rise
  pub begins-rise : AllPairs (λ (a b : ℕ × Stamp). a.0 < b.0) (begins_in log)
  begins-rise = pairs-unmap (λ (a b : ℕ). a < b) (λ (begun : ℕ × Stamp). begun.0) (begins_in log)
      (subst (AllPairs (λ (a b : ℕ). a < b)) (sym firsts) (pairs-take (λ (a b : ℕ). a < b) (session_of requests log).begun requests (laws.rise script session)))

  -- each request that a session's log begins is one of that session, in the script
  pub begun-here : (r : ℕ) (stamp : Stamp) → Contains (begins_in log) (r, stamp)
      → (request : Request) × (request_at script r ≡ Some request) × (request.session ≡ session)
  begun-here r stamp h =
      in-session script session r (in-take (session_of requests log).begun requests r
      (subst (λ (rs : List ℕ). Contains rs r) firsts (has_map (λ (begun : ℕ × Stamp). begun.0) (begins_in log) (r, stamp) h)))

  -- each request that has its reply in a session's log is one of that session, in the script
  pub replied-here : (r : ℕ) → Contains (replied_in log) r
      → (request : Request) × (request_at script r ≡ Some request) × (request.session ≡ session)
  replied-here r h =
      in-session script session r (in-take (replied_count (session_of requests log)) requests r
      (subst (λ (rs : List ℕ). Contains rs r) (laws.replied_first session requests log right) h))

  -- a request began with one stamp
  pub one-stamp : (r : ℕ) (a b : Stamp) → Contains (begins_in log) (r, a) → Contains (begins_in log) (r, b) → a ≡ b
  one-stamp r a b ha hb =
      elim (pairs_cases (λ (x y : ℕ × Stamp). x.0 < y.0) (begins_in log) begins-rise (r, a) (r, b) ha hb) [
        | inl same ↦ ap (λ (x : ℕ × Stamp). x.1) same
        | inr (inl less) ↦ absurd (omega (arith, less))
        | inr (inr less) ↦ absurd (omega (arith, less))
      ]

  -- and the log says that the request began with this stamp
  pub stamp-there : (r : ℕ) (stamp : Stamp) → Contains (begins_in log) (r, stamp) → session_stamp_of r log ≡ Some stamp
  stamp-there r stamp h =
      ap (option_map (λ (begun : ℕ × Stamp). begun.1))
      (find_by_key (λ (begun : ℕ × Stamp). begun.0) (begins_in log) (r, stamp)
      (pairs-weaker (λ (a b : ℕ × Stamp). a.0 < b.0) (λ (a b : ℕ × Stamp). a.0 ≢ b.0) (λ x y less same. omega (arith, less, same)) (begins_in log) begins-rise) h)

-- a request that the log says began with a stamp did
pub stamp-from : (log : List SessionEntry) (r : ℕ) (stamp : Stamp) → session_stamp_of r log ≡ Some stamp → Contains (begins_in log) (r, stamp)
stamp-from log r stamp is = by (find (λ (begun : ℕ × Stamp). begun.0 == r) (begins_in log)) refl is
  where
    by : (o : Option (ℕ × Stamp)) → find (λ (begun : ℕ × Stamp). begun.0 == r) (begins_in log) ≡ o
        → option_map (λ (begun : ℕ × Stamp). begun.1) o ≡ Some stamp → Contains (begins_in log) (r, stamp)
    by None at e = absurd (none-some stamp e)
    by (Some begun) at e =
        let has = find_has (λ (b : ℕ × Stamp). b.0 == r) (begins_in log) begun at in
        subst (λ (b : ℕ × Stamp). Contains (begins_in log) b) (λ i. (eqb-true begun.0 r has.1 i, same_Some begun.1 stamp e i)) has.0

-- what a log has begun is begun in one that goes on
pub begins-on : (log more : List SessionEntry) (r : ℕ) (stamp : Stamp) → Contains (begins_in log) (r, stamp) → Contains (begins_in (log ++ more)) (r, stamp)
begins-on log more r stamp h =
    subst (λ (bs : List (ℕ × Stamp)). Contains bs (r, stamp)) (sym (flat_map-append (λ (e : SessionEntry). begin_by e.deed) log more))
    (Contains-append_left (begins_in log) (begins_in more) (r, stamp) h)

-- what began in the entries after a log began in the whole
pub begins-later : (log more : List SessionEntry) (r : ℕ) (stamp : Stamp) → Contains (begins_in more) (r, stamp) → Contains (begins_in (log ++ more)) (r, stamp)
begins-later log more r stamp h =
    subst (λ (bs : List (ℕ × Stamp)). Contains bs (r, stamp)) (sym (flat_map-append (λ (e : SessionEntry). begin_by e.deed) log more))
    (Contains-append_right (begins_in log) (begins_in more) (r, stamp) h)

-- what began in the whole began in the log or in the entries after it
pub begins-cases : (log more : List SessionEntry) (r : ℕ) (stamp : Stamp) → Contains (begins_in (log ++ more)) (r, stamp)
    → Contains (begins_in log) (r, stamp) ⊎ Contains (begins_in more) (r, stamp)
begins-cases log more r stamp h =
    Contains-append_cases (begins_in log) (begins_in more) (r, stamp)
    (subst (λ (bs : List (ℕ × Stamp)). Contains bs (r, stamp)) (flat_map-append (λ (e : SessionEntry). begin_by e.deed) log more) h)

-- what began later is none of what had begun
pub later-differs : (log more : List SessionEntry) → AllPairs (λ (a b : ℕ × Stamp). a.0 < b.0) (begins_in (log ++ more))
    → (r q : ℕ) (a b : Stamp) → Contains (begins_in log) (r, a) → Contains (begins_in more) (q, b) → r < q
later-differs log more rise r q a b ha hb =
    pairs_across (λ (x y : ℕ × Stamp). x.0 < y.0) (begins_in log) (begins_in more) (r, a) (q, b)
    (subst (AllPairs (λ (x y : ℕ × Stamp). x.0 < y.0)) (flat_map-append (λ (e : SessionEntry). begin_by e.deed) log more) rise) ha hb
