-- The first request without a reply, of one session and of all sessions of a table.
-- Used by `first_unanswered`.
use Rattle.std.proofs.Common.{◌≡◌, ℕ, zero, suc, ◌-◌, ◌<◌, ◌≤◌, Bool, true, false, List, [], ◌∷◌, map, get_or, Option, None, Some, inl, inr, refl, sym, ap, ◌∙◌, arith}
use Rattle.std.specs.Prelude.{fold, min, slice_get, if◌then◌else◌}
use Rattle.std.specs.Option.{option_map}
use Rattle.std.proofs.Math.Nat.{min-eq_left, min-eq_right, min-le_left}
use Rattle.std.proofs.lemmas.Bool.{cases_lt}
use Rattle.std.proofs.lemmas.Option.{none-some, same_Some}
use Rattle.weave_entries.specs.declared.session_log.SessionEntry.{SessionEntry}
use Rattle.weave_entries.specs.SessionReplay.{IsSessionLog, SessionState, next_request, replied_count, session_of}
use Rattle.step_rules.proofs.VisitLogs.{map-get}
use Rattle.weaver_core.specs.Sessions.{IsFirstUnanswered, IsUnanswered, last_entry, last_request, least_unanswered, lesser_number, log_of_client, request_by, requests_in, unanswered_at, unanswered_by, unanswered_in}
use Rattle.weaver_core.specs.declared.client.Client.{Client}
use Rattle.weaver_core.proofs.AtClients.{table_of}
use Rattle.weaver_core.proofs.Tables.{image-at}
use Rattle.weaver_core.proofs.Turns.{ends-with, none-last}
use Rattle.step_rules.proofs.SessionTurns.{requests-same}

-- One session

count-free : (session : SessionState) → session.waits ≡ false → replied_count session ≡ session.begun
count-free session is = ap (λ (w : Bool). if w then session.begun - 1 else session.begun) is

count-waits : (session : SessionState) → session.waits ≡ true → replied_count session ≡ session.begun - 1
count-waits session is = ap (λ (w : Bool). if w then session.begun - 1 else session.begun) is

-- if none waits it is the next one
pub unanswered-next : (requests : List ℕ) (log : List SessionEntry) → (session_of requests log).waits ≡ false → next_request (session_of requests log) ≡ unanswered_in requests log
unanswered-next requests log free =
    let session = session_of requests log in
    ap (λ (rs : List ℕ). slice_get rs session.begun) (requests-same requests log) ∙ ap (slice_get requests) (sym (count-free session free))

-- if one waits, the first unanswered request of a session is that of its log's last entry
pub unanswered-last : (number : ℕ) (requests : List ℕ) (log : List SessionEntry) → IsSessionLog number requests log → (session_of requests log).waits ≡ true → last_request log ≡ unanswered_in requests log
unanswered-last number requests log right waits = by (last_entry log) refl
  where
    by : (o : Option SessionEntry) → last_entry log ≡ o → last_request log ≡ unanswered_in requests log
    by None is = absurd (let e : false ≡ true = sym (ap (λ l. (session_of requests l).waits) (none-last log is)) ∙ waits in cc)
    by (Some entry) is =
        ap (option_map (λ (e : SessionEntry). request_by e.deed)) is ∙ sym (ends-with number requests log right entry is).at ∙ ap (slice_get requests) (sym (count-waits (session_of requests log) waits))

-- The least of some numbers

lesser-within : (most : ℕ) (x : Option ℕ) → lesser_number most x ≤ most
lesser-within most None = omega arith
lesser-within most (Some n) = min-le_left most n

-- a lesser one is the one that was there
lesser-is : (most : ℕ) (x : Option ℕ) → lesser_number most x < most → x ≡ Some (lesser_number most x)
lesser-is most None less = absurd (omega (arith, less))
lesser-is most (Some n) less = elim (cases_lt n most) [
  | inl below ↦ ap Some (sym (min-eq_right (omega (arith, below))))
  | inr over ↦ absurd (let same : min most n ≡ most = min-eq_left over in omega (arith, less, same))
]

least-within : (xs : List (Option ℕ)) (most : ℕ) → fold lesser_number most xs ≤ most
least-within [] most = omega arith
least-within (x ∷ xs) most = let rest = least-within xs (lesser_number most x) in let first = lesser-within most x in omega (arith, rest, first)

least-of : (xs : List (Option ℕ)) (most i r : ℕ) → slice_get xs i ≡ Some (Some r) → fold lesser_number most xs ≤ r
least-of [] most i r at = absurd (none-some _ at)
least-of (x ∷ xs) most zero r at =
    let is : lesser_number most x ≡ min most r = ap (lesser_number most) (same_Some x (Some r) at) in
    let rest = least-within xs (lesser_number most x) in
    let first : min most r ≤ r = min-le-right most r in
    omega (arith, is, rest, first)
  where
    min-le-right : (a b : ℕ) → min a b ≤ b
    min-le-right a b = elim (cases_lt b a) [
      | inl below ↦ (let same : min a b ≡ b = min-eq_right (omega (arith, below)) in omega (arith, same))
      | inr over ↦ (let same : min a b ≡ a = min-eq_left over in omega (arith, same, over))
    ]
least-of (x ∷ xs) most (suc i) r at = least-of xs (lesser_number most x) i r at

least-one : (xs : List (Option ℕ)) (most : ℕ) → fold lesser_number most xs < most → (i : ℕ) × (slice_get xs i ≡ Some (Some (fold lesser_number most xs)))
least-one [] most less = absurd (omega (arith, less))
least-one (x ∷ xs) most less = elim (cases_lt (fold lesser_number (lesser_number most x) xs) (lesser_number most x)) [
  | inl below ↦ (let rest = least-one xs (lesser_number most x) below in (suc rest.0, rest.1))
  | inr over ↦
      let within = least-within xs (lesser_number most x) in
      let same : lesser_number most x ≡ fold lesser_number (lesser_number most x) xs = omega (arith, over, within) in
      (zero, ap Some (lesser-is most x (omega (arith, same, less)) ∙ ap Some same))
]

-- Images

mapped-past : {A B : Type 0} (f : A → B) (xs : List A) (i : ℕ) (d : B) → slice_get xs i ≡ None → get_or (map f xs) i d ≡ d
mapped-past f [] i d none = refl
mapped-past f (y ∷ xs) zero d none = absurd (none-some y (sym none))
mapped-past f (y ∷ xs) (suc i) d none = mapped-past f xs i d none

mapped-from : {A B : Type 0} (f : A → B) (xs : List A) (i : ℕ) (y : B) → slice_get (map f xs) i ≡ Some y → (x : A) × (slice_get xs i ≡ Some x) × (f x ≡ y)
mapped-from f [] i y at = absurd (none-some y at)
mapped-from f (z ∷ xs) zero y at = (z, refl, same_Some (f z) y at)
mapped-from f (z ∷ xs) (suc i) y at = mapped-from f xs i y at

-- All sessions

module _ (clients : List Client) where
  -- that of a session, by the table
  by-table : (s : ℕ) (client : Client) → slice_get clients s ≡ Some client → unanswered_at (table_of clients) s ≡ unanswered_by client
  by-table s client at = λ i. unanswered_in (image-at requests_in clients s client at [] i) (image-at log_of_client clients s client at [] i)

  is-least : (most s r : ℕ) → unanswered_at (table_of clients) s ≡ Some r → least_unanswered most clients ≤ r
  is-least most s r is = by (slice_get clients s) refl
    where
      by : (o : Option Client) → slice_get clients s ≡ o → least_unanswered most clients ≤ r
      by (Some client) at = least-of (map unanswered_by clients) most s r (map-get unanswered_by clients s client at ∙ ap Some (sym (by-table s client at) ∙ is))
      by None none = absurd (none-some r (sym (ap (λ (rs : List ℕ). unanswered_in rs (get_or (map log_of_client clients) s [])) (mapped-past requests_in clients s [] none)) ∙ is))

  is-one : (most : ℕ) → least_unanswered most clients < most → IsUnanswered (table_of clients) (least_unanswered most clients)
  is-one most less =
      let one = least-one (map unanswered_by clients) most less in
      let from = mapped-from unanswered_by clients one.0 (Some (least_unanswered most clients)) one.1 in
      record { session = one.0; at = by-table one.0 from.0 from.1 ∙ from.2 }

  -- the least of the sessions' unanswered requests is the first unanswered one of their table
  pub first-of : (most : ℕ) → IsFirstUnanswered (table_of clients) most (least_unanswered most clients)
  first-of most = record { least = is-least most; unanswered = is-one most; within = least-within (map unanswered_by clients) most }
