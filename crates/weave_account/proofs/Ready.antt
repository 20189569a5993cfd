-- When a shard is ready for a program: what each of its channels has after the program.
-- Used by Applying, Collecting, InSession, ReplayClause, Requests, Unprocessed and crates drive_rules and weave_phase.
use Rattle.std.proofs.Common.{◌≡◌, ℕ, zero, suc, ◌+◌, ◌<◌, ◌≤◌, Bool, true, false, not, List, [], ◌∷◌, ◌++◌, map, Contains, AllPairs, IsTrue, Option, Some, None, ◌⊎◌, inl, inr, refl, sym, ap, subst, ◌∙◌, arith}
use Rattle.std.specs.List.{filter_map, cons_option, range_with_len}
use Rattle.std.proofs.lemmas.Bool.{cases_eq, or_cases}
use Rattle.std.proofs.lemmas.List.{append-nil, append_assoc}
use Rattle.std.proofs.lemmas.List.FromFn.{length-range_with_len, get_or-range_with_len}
use Rattle.std.proofs.lemmas.List.Concat.{flat_map-append}
use Rattle.std.proofs.lemmas.List.Elements.{Contains-append_cases}
use Rattle.weave_data.proofs.Members.{has_read, has_head, has_tail, has_none, find_lacks, has_map}
use Rattle.vector_stamp.specs.declared.clock.Stamp.{Stamp}
use Rattle.vector_stamp.specs.Order.{stamp_before}
use Rattle.weave_entries.specs.declared.gate_log.GateEntry.{GateEntry}
use Rattle.weave_entries.specs.declared.gate_log.GateDeed.{GateDeed}
use Rattle.weave_entries.specs.declared.gate_log.GateDeed.TheVariants.{BeganTx, BeganProgram, Sent, Nop, Heard, Raised, Finished}
use Rattle.weave_entries.specs.declared.message.Message.{Message}
use Rattle.weave_entries.specs.declared.message.Addressed.{Addressed}
use Rattle.weave_entries.specs.declared.shard_log.ShardEntry.{ShardEntry}
use Rattle.weave_entries.specs.GateReplay.{BegunRequest, tx_by, txs_of, flight_after, flight_of}
use Rattle.weave_entries.specs.GateRules.{FitsAs, IsGateLog}
use Rattle.weave_entries.specs.ShardReplay.{arrived_at, processed_count, head_of, last_of, is_past, is_ready_for, first_unready}
use Rattle.weave_entries.proofs.Channels.{stamps_in}
use Rattle.weave_data.proofs.Entries.{by_entries}
use Rattle.weave_data.proofs.Ordered.{pairs_head, pairs_tail}
use Rattle.std.proofs.lemmas.List.Sums.{fold-append}

-- A transaction that was begun is in flight, or was sent

-- where it was sent
pub record WasSent (log : List GateEntry) (begun : BegunRequest) : Type 0 where
  pub before : List GateEntry
  pub author : ℕ
  pub messages : List Addressed
  pub after : List GateEntry
  pub is : log ≡ before ++ record { author = author; deed = Sent begun.request messages } ∷ after

-- a begun transaction is in flight, or was sent
abbrev pub IsGone : List GateEntry → Option BegunRequest → BegunRequest → Type 0
IsGone log flight begun = (flight ≡ Some begun) ⊎ WasSent log begun

sent-longer : (log : List GateEntry) (entry : GateEntry) (begun : BegunRequest) → WasSent log begun → WasSent (log ++ entry ∷ []) begun
sent-longer log entry begun w =
    record { before = w.before; author = w.author; messages = w.messages; after = w.after ++ entry ∷ []; is = ap (λ l. l ++ entry ∷ []) w.is ∙ append_assoc w.before _ (entry ∷ []) }

-- the flight after one more entry
flight-push : (log : List GateEntry) (entry : GateEntry)
    → flight_of (log ++ entry ∷ []) ≡ flight_after (flight_of log) entry.author entry.deed
flight-push log entry = fold-append (λ flight (e : GateEntry). flight_after flight e.author e.deed) None log (entry ∷ [])

gone-step : (home shards : ℕ) (log : List GateEntry) (author : ℕ) (deed : GateDeed) → FitsAs home shards log author deed
    → ((b : BegunRequest) → Contains (txs_of log) b → IsGone log (flight_of log) b)
    → (b : BegunRequest) → Contains (txs_of log ++ tx_by author deed) b
    → IsGone (log ++ record { author = author; deed = deed } ∷ []) (flight_after (flight_of log) author deed) b
gone-step home shards log author (BeganTx r stamp) fits so-far b h =
    elim (Contains-append_cases (txs_of log) _ b h) [
      | inl before ↦ elim (so-far b before) [
        | inl flying ↦ (let clash : Some b ≡ None = sym flying ∙ fits.alone in cc)
        | inr sent ↦ inr (sent-longer log _ b sent)
      ]
      | inr new ↦ elim (has_read _ [] b new) [ inl same ↦ inl (ap Some same) | inr none ↦ absurd (has_none b none) ]
    ]
gone-step home shards log author (Sent r messages) fits so-far b h =
    elim (so-far b (subst (λ xs. Contains xs b) (append-nil (txs_of log)) h)) [
      | inl flying ↦
          let same : record { author = author; request = r; stamp = fits.stamp } ≡ b = some-same _ _ (sym fits.flight ∙ flying) in
          inr (record { before = log; author = author; messages = messages; after = []; is = ap (λ (k : BegunRequest). log ++ record { author = author; deed = Sent k.request messages } ∷ []) same })
      | inr sent ↦ inr (sent-longer log _ b sent)
    ]
  where
    some-same : (x y : BegunRequest) → Some x ≡ Some y → x ≡ y
    some-same x y e = cc
gone-step home shards log author (BeganProgram r stamp) fits so-far b h =
    elim (so-far b (subst (λ xs. Contains xs b) (append-nil (txs_of log)) h)) [ inl flying ↦ inl flying | inr sent ↦ inr (sent-longer log _ b sent) ]
gone-step home shards log author (Nop shard number stamp low) fits so-far b h =
    elim (so-far b (subst (λ xs. Contains xs b) (append-nil (txs_of log)) h)) [ inl flying ↦ inl flying | inr sent ↦ inr (sent-longer log _ b sent) ]
gone-step home shards log author (Heard clock) fits so-far b h =
    elim (so-far b (subst (λ xs. Contains xs b) (append-nil (txs_of log)) h)) [ inl flying ↦ inl flying | inr sent ↦ inr (sent-longer log _ b sent) ]
gone-step home shards log author (Raised epoch) fits so-far b h =
    elim (so-far b (subst (λ xs. Contains xs b) (append-nil (txs_of log)) h)) [ inl flying ↦ inl flying | inr sent ↦ inr (sent-longer log _ b sent) ]
gone-step home shards log author (Finished r) fits so-far b h =
    elim (so-far b (subst (λ xs. Contains xs b) (append-nil (txs_of log)) h)) [ inl flying ↦ inl flying | inr sent ↦ inr (sent-longer log _ b sent) ]

-- a transaction that was begun is in flight, or was sent
pub gone : (home shards : ℕ) (log : List GateEntry) → IsGateLog home shards log → (b : BegunRequest) → Contains (txs_of log) b
    → IsGone log (flight_of log) b
gone home shards =
    by_entries (λ before (entry : GateEntry). FitsAs home shards before entry.author entry.deed)
    (λ log. (b : BegunRequest) → Contains (txs_of log) b → IsGone log (flight_of log) b)
    (λ b h. absurd (has_none b h))
    (λ log entry right fits so-far b h.
    subst (λ (f : Option BegunRequest). IsGone (log ++ entry ∷ []) f b) (sym (flight-push log entry))
    (gone-step home shards log entry.author entry.deed fits so-far b (subst (λ xs. Contains xs b) (flat_map-append (λ (e : GateEntry). tx_by e.author e.deed) log (entry ∷ []) ∙ ap (λ rest. txs_of log ++ rest) (append-nil (tx_by entry.author entry.deed))) h)))

-- Two messages of a channel

-- of two elements of a list whose numbers and stamps rise one is before the other, if they aren't one
pub either-sent : (sent : List Addressed) → AllPairs (λ a b. a < b) (map (λ (a : Addressed). a.number) sent)
    → AllPairs (λ a b. IsTrue (stamp_before a b)) (stamps_in sent) → (x y : Addressed) → Contains sent x → Contains sent y
    → (x ≡ y) ⊎ (((x.number < y.number) × IsTrue (stamp_before (x.message).stamp (y.message).stamp)) ⊎ ((y.number < x.number) × IsTrue (stamp_before (y.message).stamp (x.message).stamp)))
either-sent [] numbers stamps x y h g = absurd (has_none x h)
either-sent (z ∷ sent) numbers stamps x y h g =
    let later : (w : Addressed) → Contains sent w → (z.number < w.number) × IsTrue (stamp_before (z.message).stamp (w.message).stamp) =
    λ w k. (
      pairs_head (λ a b. a < b) z.number (map (λ (a : Addressed). a.number) sent) w.number numbers (has_map (λ (a : Addressed). a.number) sent w k),
      pairs_head (λ a b. IsTrue (stamp_before a b)) (z.message).stamp (stamps_in sent) (w.message).stamp stamps (has_map (λ (m : Message). m.stamp) (map (λ (a : Addressed). a.message) sent) w.message (has_map (λ (a : Addressed). a.message) sent w k)),
    ) in
    elim (has_read z sent x h) [
      | inl same ↦ elim (has_read z sent y g) [
        | inl too ↦ inl (sym same ∙ too)
        | inr more ↦ inr (inl (subst (λ (k : Addressed). (k.number < y.number) × IsTrue (stamp_before (k.message).stamp (y.message).stamp)) same (later y more)))
      ]
      | inr more ↦ elim (has_read z sent y g) [
        | inl same ↦ inr (inr (subst (λ (k : Addressed). (k.number < x.number) × IsTrue (stamp_before (k.message).stamp (x.message).stamp)) same (later x more)))
        | inr too ↦ either-sent sent (pairs_tail (λ a b. a < b) z.number _ numbers) (pairs_tail (λ a b. IsTrue (stamp_before a b)) (z.message).stamp _ stamps) x y more too
      ]
    ]

-- numbers in a row rise
pub range-pairs : (a n : ℕ) → AllPairs (λ x y. x < y) (range_with_len a n)
range-pairs a n i j d below within =
    let long = length-range_with_len a n in
    let first = get_or-range_with_len a n i d (omega arith) in
    let second = get_or-range_with_len a n j d (omega arith) in
    omega (arith, first, second)

-- numbers in a row are at least the first
pub range-low : (a n y : ℕ) → Contains (range_with_len a n) y → a ≤ y
range-low a n y h =
    let long = length-range_with_len a n in
    let lt = h.1 in
    let at = get_or-range_with_len a n h.0 y (omega arith) in
    let is = h.2 in
    omega (arith, at, is)

-- what a member gives is there
pub filter_map-has : {A B : Type 0} (f : A → Option B) (xs : List A) (x : A) (y : B) → Contains xs x → f x ≡ Some y
    → Contains (filter_map f xs) y
filter_map-has f [] x y h e = absurd (has_none x h)
filter_map-has {B = B} f (z ∷ xs) x y h e =
    elim (has_read z xs x h) [
      | inl same ↦ subst (λ o. Contains (cons_option o (filter_map f xs)) y) (sym (ap f same ∙ e)) (has_head y (filter_map f xs))
      | inr more ↦ later (f z) (filter_map-has f xs x y more e)
    ]
  where
    later : (o : Option B) → Contains (filter_map f xs) y → Contains (cons_option o (filter_map f xs)) y
    later None h = h
    later (Some w) h = has_tail w (filter_map f xs) y h

-- Readiness at a gatekeeper

-- a test whose contrary does not hold does
pub not-not : (b : Bool) → ¬ IsTrue (not b) → IsTrue b
not-not true f = refl
not-not false f = absurd (f refl)

-- the message that made a channel ready: the last processed one, or the head
pub record IsPast (stamp : Stamp) (log : List ShardEntry) (home : ℕ) : Type 0 where
  pub number : ℕ
  pub message : Message
  pub arrived : arrived_at home number log ≡ Some message
  pub within : number ≤ processed_count home log + 1
  pub later : IsTrue (stamp_before stamp message.stamp)

past-some : (stamp : Stamp) (o : Option Message) → IsTrue (is_past stamp o)
    → (m : Message) × (o ≡ Some m) × IsTrue (stamp_before stamp m.stamp)
past-some stamp None h = cc
past-some stamp (Some m) h = (m, refl, h)

-- each number of a row is there
pub has-range : (a n y : ℕ) → a ≤ y → y < a + n → Contains (range_with_len a n) y
has-range a zero y low high = absurd (omega (arith, low, high))
has-range a (suc n) y low high =
    elim (cases_eq y a) [
      | inl same ↦ subst (λ k. Contains (a ∷ range_with_len (a + 1) n) k) (sym same) (has_head a (range_with_len (a + 1) n))
      | inr differ ↦ has_tail a (range_with_len (a + 1) n) y (has-range (a + 1) n y (omega (arith, low, differ)) (omega (arith, high)))
    ]

-- a shard that is ready has a later message of each gatekeeper
pub ready-at : (gates : ℕ) (stamp : Stamp) (log : List ShardEntry) (home : ℕ) → home < gates
    → first_unready gates stamp log ≡ None → IsPast stamp log home
ready-at gates stamp log home below ready =
    let is : IsTrue (is_ready_for stamp log home) =
    not-not (is_ready_for stamp log home)
    (find_lacks (λ g. not (is_ready_for stamp log g)) (range_with_len 0 gates) home ready (has-range 0 gates home (omega arith) (omega (arith, below)))) in
    elim (or_cases (is_past stamp (last_of home log)) (is_past stamp (head_of home log)) is) [
      | inl last ↦ (let m = past-some stamp (last_of home log) last in record { number = processed_count home log; message = m.0; arrived = m.1; within = omega arith; later = m.2 })
      | inr head ↦ (let m = past-some stamp (head_of home log) head in record { number = processed_count home log + 1; message = m.0; arrived = m.1; within = omega arith; later = m.2 })
    ]
