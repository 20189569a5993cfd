-- What collections leave: the oldest version kept, if any was dropped, is before a bound, and each bound is at
-- most the stamps of the programs that are running. It rests on what a hand can have seen, of which an account has
-- all.
-- Used by `accounts_were_seen`, `collections_leave_what_programs_see` and KnownClocks.
use Rattle.std.proofs.Common.{◌≡◌, ℕ, zero, suc, ◌+◌, ◌<◌, max, List, [], ◌∷◌, ◌++◌, map, fold, drop, Contains, IsTrue, Option, Some, None, ◌⊎◌, inl, inr, refl, sym, ap, subst, ◌∙◌, append_assoc, arith}
use Rattle.std.specs.Prelude.{pred, slice_get, IsSomeAnd}
use Rattle.std.specs.List.{range_with_len}
use Rattle.std.specs.Option.{option_map}
use Rattle.std.proofs.lemmas.Bool.{cases_order}
use Rattle.std.proofs.lemmas.List.{append-nil}
use Rattle.std.proofs.lemmas.List.Elements.{Contains-append_left}
use Rattle.weave_data.proofs.Entries.{by_entries, each_before}
use Rattle.weave_data.proofs.Members.{cut_at, has_head, has_last, has_map, has_none, has_read, has_tail, only}
use Rattle.weave_data.specs.Names.{shard_of}
use Rattle.weave_data.specs.declared.name.Name.{Name}
use Rattle.vector_stamp.specs.declared.clock.Clock.{Clock}
use Rattle.vector_stamp.specs.declared.clock.Stamp.{Stamp}
use Rattle.vector_stamp.specs.Clocks.{meet_of}
use Rattle.vector_stamp.specs.Order.{HasEightCounts, is_at_most, is_before, stamp_before}
use Rattle.vector_stamp.specs.Seeing.{last_place}
use Rattle.vector_stamp.proofs.Seen.{place-some}
use Rattle.program_defs.specs.declared.script.Script.{Script}
use Rattle.weave_entries.specs.declared.gate_log.GateEntry.{GateEntry}
use Rattle.weave_entries.specs.declared.message.Addressed.{Addressed}
use Rattle.weave_entries.specs.declared.message.Message.{Message}
use Rattle.weave_entries.specs.declared.shard_log.ShardEntry.{ShardEntry}
use Rattle.weave_entries.specs.declared.shard_log.ShardDeed.{ShardDeed}
use Rattle.weave_entries.specs.declared.shard_log.ShardDeed.TheVariants.{Arrived, Applied, Visited, Collected}
use Rattle.weave_entries.specs.declared.store_log.StoreEntry.{StoreEntry}
use Rattle.weave_entries.specs.Logs.{AtEachEntry}
use Rattle.weave_entries.specs.GateReplay.{BegunRequest, addressed_to, channel_of, running_of, stamps_by}
use Rattle.weave_entries.specs.ShardReplay.{Update, arrived_at, bound_of, dropped_after, dropped_from, last_of, meet_if, meet_of_all, older_than, processed_count, updates_of}
use Rattle.weave_entries.specs.ShardRules.{IsKeptFor, dropped_of}
use Rattle.weave_account.specs.declared.account.Account.{Account}
use Rattle.weave_account.specs.Account.{gate_log, shard_log}
use Rattle.weave_account.specs.Collection.{IsBeforeABound, oldest_kept}
use Rattle.weave_account.specs.LowerLaws.{LawsForAccounts}
use Rattle.weave_account.specs.Seen.{HavePassed, ComesAs, HasSeen, HasSeenSent, TakesAs}
use Rattle.weave_account.specs.Shards.{ShardFitsAs}
use Rattle.weave_account.proofs.Basis.{Basis}
use Rattle.weave_account.proofs.Applying.{Takes, arrived-was-sent}
use Rattle.weave_account.proofs.Heads.{seen-go-on}
use Rattle.weave_data.proofs.Images.{flat-has, map-has, within-list}
use Rattle.weave_data.proofs.Options.{some-weaker}
use Rattle.weave_account.proofs.Requests.{in-range}
use Rattle.weave_account.proofs.Ready.{has-range}

-- Lists

-- an element at a place is there in a longer list
get-longer : {A : Type 0} (P : A → Type 0) (xs ys : List A) (i : ℕ) → IsSomeAnd (slice_get xs i) P
    → IsSomeAnd (slice_get (xs ++ ys) i) P
get-longer P [] ys i h = absurd h
get-longer P (x ∷ xs) ys zero h = h
get-longer P (x ∷ xs) ys (suc i) h = get-longer P xs ys i h

-- Dropping

-- an update is before a bound
abbrev IsOlder : Clock → Update → Type 0
IsOlder bound update = IsTrue (is_before update.stamp.clock bound)

-- if any update is older than the newest one before the bound, it follows that many of them
newest-before : (bound : Clock) (updates : List Update) → 0 < older_than bound updates
    → IsSomeAnd (slice_get updates (older_than bound updates)) (IsOlder bound)
newest-before bound updates some = at (last_place (λ (u : Update). is_before u.stamp.clock bound) updates) refl some
  where
    at : (place : ℕ) → last_place (λ (u : Update). is_before u.stamp.clock bound) updates ≡ place → 0 < pred place
        → IsSomeAnd (slice_get updates (pred place)) (IsOlder bound)
    at zero is some = absurd (omega (arith, some))
    at (suc n) is some = place-some (λ (u : Update). is_before u.stamp.clock bound) updates n is

-- what is dropped after one more entry
dropped-push : (v : Name) (before log : List ShardEntry) (entry : ShardEntry) (n : ℕ)
    → dropped_from v before (log ++ entry ∷ []) n ≡ dropped_after v (before ++ log) entry.deed (dropped_from v before log n)
dropped-push v before [] entry n = ap (λ l. dropped_after v l entry.deed n) (sym (append-nil before))
dropped-push v before (e ∷ log) entry n =
    let more = dropped_after v before e.deed n in
    dropped-push v (before ++ e ∷ []) log entry more
    ∙ ap (λ l. dropped_after v l entry.deed (dropped_from v (before ++ e ∷ []) log more)) (append_assoc before (e ∷ []) log)

max-second : (a b : ℕ) → a < b → max a b ≡ b
max-second a b less = omega (arith, less)

max-first : (a b : ℕ) → (b < a) ⊎ (a ≡ b) → max a b ≡ a
max-first a b (inl less) = omega (arith, less)
max-first a b (inr same) = omega (arith, same)

module _ (laws : LawsForAccounts) (shards : ℕ) (store : List StoreEntry) (passes : HavePassed store)
    (shard : ℕ) (v : Name) (here : shard_of v shards ≡ shard) where
  abbrev Fits : List ShardEntry → Type 0
  Fits log = AtEachEntry (λ before (entry : ShardEntry). TakesAs shards store shard before entry.deed) log

  -- an update so far is the oldest one kept after one more entry, if the number dropped then is its place
  at-place : (log : List ShardEntry) → Fits log → (entry : ShardEntry) (place author : ℕ) (bound : Clock)
      → dropped_from v [] (log ++ entry ∷ []) 0 ≡ place
      → Contains (log ++ entry ∷ []) (record { author = author; deed = Collected (Some bound) })
      → IsSomeAnd (slice_get (updates_of v log) place) (IsOlder bound) → IsBeforeABound v (log ++ entry ∷ [])
  at-place log each entry place author bound is collected there =
      let more = seen-go-on laws shards store shard log (record { passes = passes; takes = each }) v here (entry ∷ []) in
      record {
        author = author;
        bound = bound;
        collected = collected;
        oldest =
            subst (λ i. IsSomeAnd (slice_get (updates_of v (log ++ entry ∷ [])) i) (IsOlder bound)) (sym is)
            (subst (λ us. IsSomeAnd (slice_get us place) (IsOlder bound)) (sym more.1) (get-longer (IsOlder bound) (updates_of v log) more.0 place there));
      }

  -- the same number is dropped as before
  unchanged : (log : List ShardEntry) → Fits log → (entry : ShardEntry)
      → dropped_from v [] (log ++ entry ∷ []) 0 ≡ dropped_from v [] log 0
      → (0 < dropped_from v [] log 0 → IsBeforeABound v log) → 0 < dropped_from v [] (log ++ entry ∷ []) 0
      → IsBeforeABound v (log ++ entry ∷ [])
  unchanged log each entry same so-far some =
      let kept = so-far (omega (arith, same, some)) in
      at-place log each entry (dropped_from v [] log 0) kept.author kept.bound same
      (Contains-append_left log (entry ∷ []) (record { author = kept.author; deed = Collected (Some kept.bound) }) kept.collected) kept.oldest

  step : (log : List ShardEntry) → Fits log → (author : ℕ) (deed : ShardDeed)
      → (0 < dropped_from v [] log 0 → IsBeforeABound v log)
      → 0 < dropped_from v [] (log ++ record { author = author; deed = deed } ∷ []) 0
      → IsBeforeABound v (log ++ record { author = author; deed = deed } ∷ [])
  step log each author (Arrived home number message) so-far some =
      unchanged log each _ (dropped-push v [] log (record { author = author; deed = Arrived home number message }) 0) so-far some
  step log each author (Applied home number) so-far some =
      unchanged log each _ (dropped-push v [] log (record { author = author; deed = Applied home number }) 0) so-far some
  step log each author (Visited r stamp w updates settled) so-far some =
      unchanged log each _ (dropped-push v [] log (record { author = author; deed = Visited r stamp w updates settled }) 0) so-far some
  step log each author (Collected None) so-far some =
      unchanged log each _ (dropped-push v [] log (record { author = author; deed = Collected None }) 0) so-far some
  step log each author (Collected (Some bound)) so-far some =
      let entry : ShardEntry = record { author = author; deed = Collected (Some bound) } in
      let dropped = dropped_from v [] log 0 in
      let older = older_than bound (updates_of v log) in
      let push : dropped_from v [] (log ++ entry ∷ []) 0 ≡ max dropped older = dropped-push v [] log entry 0 in
      elim (cases_order dropped older) [
        | inr (inl less) ↦ at-place log each entry older author bound (push ∙ max-second dropped older less) (has_last log entry) (newest-before bound (updates_of v log) (omega (arith, less)))
        | inl same ↦ unchanged log each entry (push ∙ max-first dropped older (inr same)) so-far some
        | inr (inr more) ↦ unchanged log each entry (push ∙ max-first dropped older (inl more)) so-far some
      ]

  -- if any version was dropped, the oldest one kept is before a bound
  pub bound-below : (log : List ShardEntry) → Fits log → 0 < dropped_from v [] log 0 → IsBeforeABound v log
  bound-below =
      by_entries (λ before (entry : ShardEntry). TakesAs shards store shard before entry.deed)
      (λ log. 0 < dropped_from v [] log 0 → IsBeforeABound v log)
      (λ some. absurd (omega (arith, some)))
      (λ log entry each fits so-far some. step log each entry.author entry.deed so-far some)

-- Bounds

-- a clock is at most a clock that is there
record IsBelow (bound : Clock) (low : Option Clock) : Type 0 where
  pub clock : Clock
  pub is : low ≡ Some clock
  pub below : IsTrue (is_at_most bound clock)

module _ (laws : LawsForAccounts) where
  -- the meet of two, if both are there, has eight counts
  eight-met : (a b : Option Clock) → ((clock : Clock) → a ≡ Some clock → HasEightCounts clock)
      → ((clock : Clock) → b ≡ Some clock → HasEightCounts clock) → (clock : Clock) → meet_if a b ≡ Some clock
      → HasEightCounts clock
  eight-met (Some x) (Some y) ex ey clock e =
      let same : meet_of x y ≡ clock = cc in subst HasEightCounts same (laws.met_eight x y (ex x refl) (ey y refl))
  eight-met (Some x) None ex ey clock e = cc
  eight-met None b ex ey clock e = cc

  -- what is at most the meet of two, if both are there, is at most each
  below-both : (a b : Option Clock) → ((clock : Clock) → a ≡ Some clock → HasEightCounts clock)
      → ((clock : Clock) → b ≡ Some clock → HasEightCounts clock)
      → (bound clock : Clock) → meet_if a b ≡ Some clock → IsTrue (is_at_most bound clock) → IsBelow bound a × IsBelow bound b
  below-both (Some x) (Some y) ex ey bound clock e below =
      let same : meet_of x y ≡ clock = cc in
      let to : IsTrue (is_at_most bound (meet_of x y)) = subst (λ c. IsTrue (is_at_most bound c)) (sym same) below in (
        record { clock = x; is = refl; below = laws.clocks.at_most_at_most bound (meet_of x y) x to (laws.below_first x y (ex x refl) (ey y refl)) },
        record { clock = y; is = refl; below = laws.clocks.at_most_at_most bound (meet_of x y) y to (laws.below_second x y (ex x refl) (ey y refl)) },
      )
  below-both (Some x) None ex ey bound clock e below = cc
  below-both None b ex ey bound clock e below = cc

  -- the meet of these, if all are there, is at most each
  below-each : (first : Option Clock) (lows : List (Option Clock))
      → ((low : Option Clock) → Contains (first ∷ lows) low → (clock : Clock) → low ≡ Some clock → HasEightCounts clock)
      → (bound : Clock) → fold meet_if first lows ≡ Some bound → (low : Option Clock) → Contains (first ∷ lows) low
      → IsBelow bound low
  below-each first [] eight bound e low h =
      record { clock = bound; is = sym (only first low h) ∙ e; below = laws.clocks.at_most_itself bound }
  below-each first (next ∷ lows) eight bound e low h =
      let of-first = eight first (has_head first (next ∷ lows)) in
      let of-next = eight next (has_tail first (next ∷ lows) next (has_head next lows)) in
      let rest : (other : Option Clock) → Contains (meet_if first next ∷ lows) other → IsBelow bound other =
      λ other k. below-each (meet_if first next) lows eight-rest bound e other k in
      let met = rest (meet_if first next) (has_head (meet_if first next) lows) in
      let two = below-both first next of-first of-next bound met.clock met.is met.below in
      elim (has_read first (next ∷ lows) low h) [
        | inl same ↦ subst (IsBelow bound) same two.0
        | inr more ↦ elim (has_read next lows low more) [ inl same ↦ subst (IsBelow bound) same two.1 | inr later ↦ rest low (has_tail (meet_if first next) lows low later) ]
      ]
    where
      eight-rest : (other : Option Clock) → Contains (meet_if first next ∷ lows) other → (clock : Clock) → other ≡ Some clock
          → HasEightCounts clock
      eight-rest other k clock is =
          elim (has_read (meet_if first next) lows other k) [
            | inl same ↦ eight-met first next (eight first (has_head first (next ∷ lows))) (eight next (has_tail first (next ∷ lows) next (has_head next lows))) clock (same ∙ is)
            | inr later ↦ eight other (has_tail first (next ∷ lows) other (has_tail next lows other later)) clock is
          ]

-- Of what was seen

-- the low mark of the last processed message of a gatekeeper
abbrev pub low-of : List ShardEntry → ℕ → Option Clock
low-of log gate = option_map (λ (message : Message). message.low) (last_of gate log)

module _ (laws : LawsForAccounts) (gates shards : ℕ) (seen : Account) (shard : ℕ) (log : List ShardEntry) (sent : HasSeenSent gates shards seen shard log) where
  abbrev WasSent : ℕ → ℕ → Message → Type 0
  WasSent home number message =
      Contains (addressed_to shard (gate_log seen home)) (record { shard = shard; number = number; message = message })

  deed-takes : (before : List ShardEntry) (deed : ShardDeed) → ComesAs gates seen shard before deed → Takes WasSent before deed
  deed-takes before (Arrived home number message) comes = comes
  deed-takes before (Applied home number) comes = comes
  deed-takes before (Visited r stamp w n settled) comes = tt
  deed-takes before (Collected bound) comes = tt

  -- what arrived is on its channel
  arrived-there : (home number : ℕ) (message : Message) → arrived_at home number log ≡ Some message
      → Contains (channel_of shard (gate_log seen home)) message
  arrived-there home number message e =
      has_map (λ (a : Addressed). a.message) (addressed_to shard (gate_log seen home)) (record { shard = shard; number = number; message = message })
      (arrived-was-sent WasSent log (λ before entry after is. deed-takes before entry.deed (sent.comes before entry after is)) home number message e)

  -- has eight counts
  low-eight : (low : Option Clock) → Contains (map (low-of log) (range_with_len 0 gates)) low → (clock : Clock) → low ≡ Some clock
      → HasEightCounts clock
  low-eight low h clock is =
      let image = map-has (low-of log) (range_with_len 0 gates) low h in
      of-message image.of (in-range 0 gates image.of image.has) (last_of image.of log) refl (image.is ∙ is)
    where
      of-message : (gate : ℕ) → gate < 0 + gates → (o : Option Message) → last_of gate log ≡ o
          → option_map (λ (message : Message). message.low) o ≡ Some clock → HasEightCounts clock
      of-message gate within None is e = cc
      of-message gate within (Some message) is e =
          let low : message.low ≡ clock = cc in
          let few = sent.few in
          subst HasEightCounts low
          (laws.low_eight gate shards shard (gate_log seen gate) (omega (arith, within, few)) (sent.logs gate) message (arrived-there gate (processed_count gate log) message is))

  module _ (home : ℕ) (inside : home < gates) (program : BegunRequest) (running : Contains (running_of (gate_log seen home)) program) where
    -- the low mark of the program's gatekeeper is at most the program's stamp
    low-below : (message : Message) → last_of home log ≡ Some message → IsTrue (is_at_most message.low program.stamp.clock)
    low-below message e =
        let few = sent.few in
        laws.low_marks home shards shard (gate_log seen home) (omega (arith, inside, few)) (sent.logs home) message
        (arrived-there home (processed_count home log) message e) program running

    -- the bound of the shard's collection is at most the stamp of each program that is running
    pub below-program : (bound : Clock) → bound_of gates log ≡ Some bound → IsTrue (is_at_most bound program.stamp.clock)
    below-program bound e =
        let low = all (map (low-of log) (range_with_len 0 gates)) low-eight e (low-of log home) own in
        ends (last_of home log) refl low.clock low.is low.below
      where
        own : Contains (map (low-of log) (range_with_len 0 gates)) (low-of log home)
        own = has_map (low-of log) (range_with_len 0 gates) home (has-range 0 gates home (omega arith) (omega (arith, inside)))

        all : (lows : List (Option Clock))
            → ((low : Option Clock) → Contains lows low → (clock : Clock) → low ≡ Some clock → HasEightCounts clock)
            → meet_of_all lows ≡ Some bound → (low : Option Clock) → Contains lows low → IsBelow bound low
        all [] eight e low h = absurd (has_none low h)
        all (first ∷ lows) eight e low h = below-each laws first lows eight bound e low h

        ends : (o : Option Message) → last_of home log ≡ o → (clock : Clock)
            → option_map (λ (message : Message). message.low) o ≡ Some clock → IsTrue (is_at_most bound clock)
            → IsTrue (is_at_most bound program.stamp.clock)
        ends None is clock e below = cc
        ends (Some message) is clock e below =
            let same : message.low ≡ clock = cc in
            laws.clocks.at_most_at_most bound clock program.stamp.clock below
            (subst (λ c. IsTrue (is_at_most c program.stamp.clock)) same (low-below message is))

-- what was seen up to some entry was seen
pub sent-before : (gates shards : ℕ) (seen : Account) (shard : ℕ) (before after : List ShardEntry)
    → HasSeenSent gates shards seen shard (before ++ after) → HasSeenSent gates shards seen shard before
sent-before gates shards seen shard before after sent = record {
  few = sent.few;
  logs = sent.logs;
  comes = each_before (λ before (entry : ShardEntry). ComesAs gates seen shard before entry.deed) before after sent.comes;
}

module _ (laws : LawsForAccounts) (gates shards : ℕ) (seen : Account) (shard : ℕ) (log : List ShardEntry) (has : HasSeen shards seen.store shard log) (sent : HasSeenSent gates shards seen shard log)
    (home : ℕ) (inside : home < gates) (program : BegunRequest) (running : Contains (running_of (gate_log seen home)) program) (v : Name) (here : shard_of v shards ≡ shard) where
  -- if any version was dropped, the oldest one kept is before the program
  oldest-seen : 0 < dropped_of v log
      → IsSomeAnd (oldest_kept v log) (λ (update : Update). IsTrue (stamp_before update.stamp program.stamp))
  oldest-seen some =
      let kept = bound-below laws shards seen.store has.passes shard v here log has.takes some in
      let entry : ShardEntry = record { author = kept.author; deed = Collected (Some kept.bound) } in
      let place = cut_at log entry kept.collected in
      let is : Some kept.bound ≡ bound_of gates place.before = sent.comes place.before entry place.after place.is in
      let so-far =
      sent-before gates shards seen shard place.before (entry ∷ place.after) (subst (HasSeenSent gates shards seen shard) place.is sent) in
      let below = below-program laws gates shards seen shard place.before so-far home inside program running kept.bound (sym is) in
      some-weaker (IsOlder kept.bound) (λ (update : Update). IsTrue (stamp_before update.stamp program.stamp)) (oldest_kept v log)
      (λ update before. laws.clocks.before_at_most update.stamp.clock kept.bound program.stamp.clock before below) kept.oldest

  -- so what is kept of the vertex reaches back far enough for the program
  pub kept-for : IsKeptFor program.stamp v log
  kept-for some =
      at-front (λ stamp. IsTrue (stamp_before stamp program.stamp)) (updates_of v log) (dropped_of v log) (oldest-seen (omega (arith, some)))
    where
      at-front : (P : Stamp → Type 0) (updates : List Update) (n : ℕ)
          → IsSomeAnd (slice_get updates n) (λ (update : Update). P update.stamp)
          → IsSomeAnd (slice_get (drop n (map (λ (update : Update). update.stamp) updates)) 0) P
      at-front P [] n h = absurd h
      at-front P (update ∷ updates) zero h = h
      at-front P (update ∷ updates) (suc n) h = at-front P updates n h

-- In an account

module _ (script : Script) (account : Account) (basis : Basis script account) where
  deed-comes : (shard : ℕ) (before : List ShardEntry) (deed : ShardDeed) → ShardFitsAs script account shard before deed
      → ComesAs script.gates account shard before deed
  deed-comes shard before (Arrived home number message) fits = fits.sent
  deed-comes shard before (Applied home number) fits = fits
  deed-comes shard before (Visited r stamp w n settled) fits = tt
  deed-comes shard before (Collected bound) fits = fits

  -- an account has what a hand can have seen of its gatekeepers' logs
  pub account-sent : (shard : ℕ) → HasSeenSent script.gates script.shards account shard (shard_log account shard)
  account-sent shard = record {
    few = basis.limits.few_gates;
    logs = basis.is.gatekeepers.logs;
    comes = λ before entry after is. deed-comes shard before entry.deed (basis.is.shards.deeds shard before entry after is);
  }

  -- a gatekeeper where a program is running is one of the script's
  pub running-inside : (home : ℕ) (program : BegunRequest) → Contains (running_of (gate_log account home)) program → home < script.gates
  running-inside home program running =
      let entry =
      flat-has (λ (e : GateEntry). stamps_by e.deed) (gate_log account home) program.stamp
      (basis.laws.own_running (gate_log account home) program running) in
      let within = within-list account.gates home entry.0 entry.1.0 in
      let as-many = basis.is.gatekeepers.as_many in
      omega (arith, within, as-many)
