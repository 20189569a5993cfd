-- The first request of a session without a reply: those before it have theirs, and it is the one that runs or the next.
-- Used by `go_client`, `go_session`, `look_on` and `read_or_nudge`.
use Rattle.std.proofs.Common.{◌≡◌, inl, inr, ℕ, zero, suc, ◌+◌, ◌-◌, ◌<◌, ◌≤◌, ◌==◌, Bool, true, false, List, [], ◌∷◌, length, take, get_or, Contains, Option, None, Some, refl, sym, ap, ◌∙◌, subst, arith}
use Rattle.std.specs.Prelude.{nat_lt, slice_get, IsTrue, if◌then◌else◌}
use Rattle.std.specs.List.{range_with_len}
use Rattle.std.specs.Option.{option_and_then}
use Rattle.std.proofs.lemmas.Bool.{cases_lt, eqb-true, lt-ltb, ltb-true}
use Rattle.std.proofs.lemmas.List.FromFn.{get_or-range_with_len, length-range_with_len}
use Rattle.std.proofs.lemmas.Option.{get_or_from_slice_get, none-some, same_Some, slice_get-get_or, slice_get_within}
use Rattle.weave_data.proofs.Members.{filter_has, has_head, has_tail}
use Rattle.program_defs.specs.declared.script.Request.{Request}
use Rattle.program_defs.specs.declared.script.Script.{Script}
use Rattle.report_rules.specs.Lookups.{is_some_and, request_at}
use Rattle.weave_entries.specs.declared.session_log.SessionEntry.{SessionEntry}
use Rattle.weave_entries.specs.SessionReplay.{has_reply_in, replied_count, session_of, SessionState}
use Rattle.weave_account.specs.Sessions.{requests_of_session}
use Rattle.weaver_core.specs.declared.client.Client.{Client}
use Rattle.weaver_core.specs.Sessions.{log_of_client, requests_in, unanswered_in, IsClientOf, IsInTurn}
use Rattle.weaver_core.proofs.Turns.{place-of}
use Rattle.weaver_workers.specs.ClientWork.{HasReplies}
use Rattle.weaver_workers.specs.KeepLaws.{KeepLaws}
use Rattle.weaver_workers.specs.Turning.{below_in}
use Rattle.weaver_workers.proofs.Rows.{greater}

-- an element among the first ones
in-take : {A : Type 0} (n : ℕ) (xs : List A) (i : ℕ) (x : A) → i < n → slice_get xs i ≡ Some x → Contains (take n xs) x
in-take zero xs i x less e = absurd (omega (arith, less))
in-take (suc n) [] i x less e = absurd (none-some x e)
in-take (suc n) (y ∷ xs) zero x less e = let same : y ≡ x = cc in subst (λ z. Contains (y ∷ take n xs) z) same (has_head y (take n xs))
in-take (suc n) (y ∷ xs) (suc i) x less e = has_tail y (take n xs) x (in-take n xs i x (omega (arith, less)) e)

-- a session's requests are of the script, and of that session
pub of-session : (script : Script) (number r : ℕ) → Contains (requests_of_session script number) r
    → IsTrue (is_some_and (λ (request : Request). request.session == number) (request_at script r))
of-session script number r h =
    (filter_has (λ q. is_some_and (λ (request : Request). request.session == number) (request_at script q)) (range_with_len 0 (length script.requests)) r h).1

-- the request that is given is one of the session's
pub unanswered-among : (requests : List ℕ) (log : List SessionEntry) (r : ℕ) → unanswered_in requests log ≡ Some r → Contains requests r
unanswered-among requests log r is =
    let at = replied_count (session_of requests log) in
    (at, slice_get_within requests at r is, get_or_from_slice_get requests at r r is)

module _ (laws : KeepLaws) (number : ℕ) (client : Client) (at_end : IsClientOf number client.session client.log.items) where
  abbrev requests : List ℕ
  requests = client.session.requests

  abbrev count : ℕ
  count = replied_count (session_of requests (log_of_client client))

  -- a request at one of the first places has its reply
  answered-before : (i r : ℕ) → i < count → slice_get requests i ≡ Some r → IsTrue (has_reply_in r (log_of_client client))
  answered-before i r low at = (laws.has_reply r (log_of_client client)).1
      (subst (λ (l : List ℕ). Contains l r) (sym (laws.replied_first number requests (log_of_client client) at_end.right)) (in-take count requests i r low at))

  -- if none is given, each request before has its reply
  pub has-replies : (upto : ℕ) → below_in upto client ≡ None → HasReplies upto client
  has-replies upto none r among low =
      let place = place-of requests r among in
      elim (cases_lt place.0 count) [
        | inl early ↦ answered-before place.0 r early place.1
        | inr late ↦ absurd (given upto none (slice_get requests count) refl r place.0 place.1 late low)
      ]
    where
      below-is : (q upto : ℕ) → q < upto → option_and_then (λ r. if nat_lt r upto then Some r else None) (Some q) ≡ Some q
      below-is q upto low = ap (λ (b : Bool). if b then Some q else None) (lt-ltb q upto low)

      not-after : (q upto r i : ℕ) → slice_get requests count ≡ Some q → slice_get requests i ≡ Some r → count ≤ i → r < upto → q < upto
      not-after q upto r i is at late low = elim (cases_lt count i) [
        | inl before ↦ (let less = greater requests count i q r at_end.rising is at before in omega (arith, less, low))
        | inr same ↦ (let one : i ≡ count = omega (arith, late, same) in
            let q_is : r ≡ q = same_Some r q (sym at ∙ ap (slice_get requests) one ∙ is) in omega (arith, q_is, low))
      ]

      given : (upto : ℕ) → below_in upto client ≡ None → (o : Option ℕ) → slice_get requests count ≡ o → (r i : ℕ) → slice_get requests i ≡ Some r
          → count ≤ i → r < upto → ⊥
      given upto none None is r i at late low = none-some (get_or requests count r) (sym is ∙ slice_get-get_or requests count r (let within = slice_get_within requests i r at in omega (arith, within, late)))
      given upto none (Some q) is r i at late low =
          none-some q (sym none ∙ ap (option_and_then (λ r. if nat_lt r upto then Some r else None)) is ∙ below-is q upto (not-after q upto r i is at late low))

  -- if the last begun one waits, it is the one that is given
  pub unanswered-waits : (r : ℕ) → client.session.waits ≡ true → unanswered_in requests (log_of_client client) ≡ Some r
      → slice_get requests (client.session.begun - 1) ≡ Some r
  unanswered-waits r waits is =
      ap (slice_get requests) (sym (ap (λ (s : SessionState). replied_count s) (sym at_end.state) ∙ ap (λ (b : Bool). if b then client.session.begun - 1 else client.session.begun) waits)) ∙ is

  -- if no request of a session waits for its reply, its first unanswered one is next in its turn
  pub unanswered-next : (r : ℕ) → client.session.waits ≡ false → unanswered_in requests (log_of_client client) ≡ Some r
      → IsInTurn client.session r
  unanswered-next r waits is = record {
    replied = waits;
    next = ap (slice_get requests) (sym (ap (λ (s : SessionState). replied_count s) (sym at_end.state) ∙ ap (λ (b : Bool). if b then client.session.begun - 1 else client.session.begun) waits)) ∙ is;
  }

-- the request that comes before `upto` is the first one without a reply
pub below-parts : (upto r : ℕ) (o : Option ℕ) → option_and_then (λ q. if nat_lt q upto then Some q else None) o ≡ Some r
    → (o ≡ Some r) × (r < upto)
below-parts upto r None is = absurd (none-some r is)
below-parts upto r (Some q) is = at (nat_lt q upto) refl is
  where
    at : (b : Bool) → nat_lt q upto ≡ b → (if b then Some q else None) ≡ Some r → (Some q ≡ Some r) × (r < upto)
    at false test is = absurd (none-some r is)
    at true test is = (is, subst (λ (x : ℕ). x < upto) (same_Some q r is) (ltb-true q upto test))

-- the request that is given below `upto` is the session's first one without a reply
pub given-below : (upto r : ℕ) (client : Client) (given : Option ℕ) → given ≡ below_in upto client → given ≡ Some r
    → (unanswered_in (requests_in client) (log_of_client client) ≡ Some r) × (r < upto)
given-below upto r client given given-is is = below-parts upto r (unanswered_in (requests_in client) (log_of_client client)) (sym given-is ∙ is)

-- a session's requests are among the script's
pub in-script : (script : Script) (number r : ℕ) → Contains (requests_of_session script number) r → r < length script.requests
in-script script number r h =
    let count = length script.requests in
    let place = (filter_has (λ q. is_some_and (λ (request : Request). request.session == number) (request_at script q)) (range_with_len 0 count) r h).0 in
    let long = length-range_with_len 0 count in
    let within = place.1 in
    let low : place.0 < count = subst (λ (n : ℕ). place.0 < n) long within in
    let is = get_or-range_with_len 0 count place.0 r low in
    let base : 0 + place.0 < count = omega (arith, low) in
    subst (λ (x : ℕ). x < count) (sym is ∙ place.2) base

-- the script's request at a number of a session is of that session
pub session-is : (script : Script) (number r : ℕ) (asked : Request) → Contains (requests_of_session script number) r
    → request_at script r ≡ Some asked → asked.session ≡ number
session-is script number r asked h is =
    eqb-true asked.session number (subst (λ (o : Option Request). IsTrue (is_some_and (λ (request : Request). request.session == number) o)) is
    (of-session script number r h))

-- the first request without a reply is of the session
pub unanswered-of : (script : Script) (number : ℕ) (client : Client) (r : ℕ) → client.session.requests ≡ requests_of_session script number
    → unanswered_in (requests_in client) (log_of_client client) ≡ Some r → Contains (requests_of_session script number) r
unanswered-of script number client r same is = subst (λ (rs : List ℕ). Contains rs r) same (unanswered-among (requests_in client) (log_of_client client) r is)

-- what is not there is none
pub none-from : {A : Type 0} (o : Option A) → ((x : A) → o ≡ Some x → ⊥) → o ≡ None
none-from None none = refl
none-from (Some x) none = absurd (none x refl)
