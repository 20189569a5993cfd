-- What a gatekeeper left open when it stopped is found again: the transaction in flight with its author and stamp, and
-- the running programs with their authors.
-- Used by `returned` and `stop`.
use Rattle.std.proofs.Common.{◌≡◌, ◌≢◌, ℕ, suc, ◌<◌, ◌≤◌, Bool, true, false, ◌&&◌, ◌==◌, List, [], ◌∷◌, ◌++◌, map, filter, fold, length, take, min, get_or, Contains, AllPairs, IsTrue, Option, None, Some, is_some, inl, inr, refl, sym, ap, subst, ◌∙◌, arith, nat_lt, if◌then◌else◌}
use Rattle.std.specs.Cmp.{IsEquivalence, nat_eq_equiv}
use Rattle.std.specs.List.{list_any, AllByRecursion, IsDistinct}
use Rattle.std.proofs.Math.Seq.{take-suc}
use Rattle.std.proofs.lemmas.Bool.{both_ways, cases_Bool, eqb-true, eq-eqb, and_parts, ltb-true}
use Rattle.std.proofs.lemmas.List.{length-map}
use Rattle.std.proofs.lemmas.List.Sums.{fold-append}
use Rattle.std.proofs.lemmas.List.Elements.{Contains-append_cases}
use Rattle.std.proofs.lemmas.Map.Steps.{length-le_from_keys}
use Rattle.weave_data.proofs.Ends.{by_last}
use Rattle.weave_data.proofs.Members.{any_has, filter_has, has_filter, has_head, has_map, has_none, has_read, has_tail, map_has, no-members, only}
use Rattle.weave_data.proofs.Ordered.{pairs_across, pairs_cases, pairs_front, pairs_head, pairs_tail}
use Rattle.vector_stamp.specs.declared.clock.Clock.{Clock}
use Rattle.vector_stamp.specs.declared.clock.Stamp.{Stamp}
use Rattle.vector_stamp.specs.Clocks.{meet_of, lesser_counts}
use Rattle.vector_stamp.specs.Order.{same_stamp, stamp_before, StampsRise}
use Rattle.weave_entries.specs.declared.gate_log.GateEntry.{GateEntry}
use Rattle.weave_entries.specs.declared.gate_log.GateDeed.{GateDeed}
use Rattle.weave_entries.specs.declared.gate_log.GateDeed.TheVariants.{BeganTx, BeganProgram, Sent, Nop, Heard, Raised, Finished}
use Rattle.weave_entries.specs.GateReplay.{BegunRequest, is_begun, flight_after, flight_of, programs_of, program_by, running_of, stamps_by, stamps_of, low_mark}
use Rattle.weave_entries.proofs.Once.{running_begun}
use Rattle.weave_entries.proofs.OwnStamps.{begun-stamp, program-begun}
use Rattle.weave_entries.proofs.Replay.{flight-push, programs-push, stamps-push}
use Rattle.gatekeeper.specs.Running.{same_program, meet_of_stamps, HoldsPrograms}
use Rattle.gatekeeper.specs.Stopping.{AreLeftOpen, AreThoseRunning, IsLeftOver, found_flight, begun_number, HasRoomAgain, as_open, as_program, author_after, program_in_log, begins_with_stamp, last_tx, program_author, tx_after}
use Rattle.gatekeeper.specs.declared.stopping.Open.{Open}
use Rattle.std.specs.Option.{option_map}
use Rattle.shard_queue.specs.Outbox.{Channel}
use Rattle.vector_stamp.specs.Clocks.{first_clock}
use Rattle.weave_entries.specs.declared.message.Message.{Message}
use Rattle.weave_entries.specs.GateReplay.{clock_of}
use Rattle.gatekeeper.specs.Gates.{IsGateReplay}
use Rattle.gatekeeper.specs.Opened.{as_begun}
use Rattle.gatekeeper.specs.declared.flight.Flight.{Flight}
use Rattle.gatekeeper.specs.declared.places.Place.{Place}
use Rattle.gatekeeper.proofs.Keeping.{keeps_still, no_bits}
use Rattle.gatekeeper.proofs.Programs.{any_met}

-- One more entry

-- the last begun transaction, with one more entry
pub last-push : (log : List GateEntry) (entry : GateEntry) → last_tx (log ++ entry ∷ []) ≡ tx_after entry.author (last_tx log) entry.deed
last-push log entry = fold-append (λ last (one : GateEntry). tx_after one.author last one.deed) None log (entry ∷ [])

-- and up to a place of the log
pub last-taken : (log : List GateEntry) (place : ℕ) (entry : GateEntry) → place < length log → entry ≡ get_or log place entry
    → last_tx (take (suc place) log) ≡ tx_after entry.author (last_tx (take place log)) entry.deed
last-taken log place entry within is =
    ap last_tx (take-suc log place entry within) ∙ last-push (take place log) (get_or log place entry)
    ∙ ap (λ (e : GateEntry). tx_after e.author (last_tx (take place log)) e.deed) (sym is)

-- the author of a program, with one more entry
pub author-push : (one : Open) (log : List GateEntry) (entry : GateEntry) → program_author one (log ++ entry ∷ []) ≡ author_after one (program_author one log) entry
author-push one log entry = fold-append (author_after one) 0 log (entry ∷ [])

-- and up to a place of the log
pub author-taken : (one : Open) (log : List GateEntry) (place : ℕ) (entry : GateEntry) → place < length log → entry ≡ get_or log place entry
    → program_author one (take (suc place) log) ≡ author_after one (program_author one (take place log)) entry
author-taken one log place entry within is =
    ap (program_author one) (take-suc log place entry within) ∙ author-push one (take place log) (get_or log place entry)
    ∙ ap (author_after one (program_author one (take place log))) (sym is)

-- The flight

flight-step : (author : ℕ) (deed : GateDeed) (flight last : Option BegunRequest) → ((b : BegunRequest) → flight ≡ Some b → last ≡ Some b)
    → (b : BegunRequest) → flight_after flight author deed ≡ Some b → tx_after author last deed ≡ Some b
flight-step author (BeganTx request stamp) flight last so_far b is = is
flight-step author (BeganProgram request stamp) flight last so_far b is = so_far b is
flight-step author (Sent request messages) flight last so_far b is = absurd (cc)
flight-step author (Nop shard number stamp low) flight last so_far b is = so_far b is
flight-step author (Heard clock) flight last so_far b is = so_far b is
flight-step author (Raised epoch) flight last so_far b is = so_far b is
flight-step author (Finished request) flight last so_far b is = so_far b is

-- the transaction in flight is the one that was begun last
pub flight-last : (log : List GateEntry) (b : BegunRequest) → flight_of log ≡ Some b → last_tx log ≡ Some b
flight-last =
    by_last (λ log. (b : BegunRequest) → flight_of log ≡ Some b → last_tx log ≡ Some b) (λ b is. absurd (cc)) (λ log entry so_far b is.
    last-push log entry ∙ flight-step entry.author entry.deed (flight_of log) (last_tx log) so_far b (sym (flight-push log entry) ∙ is))

-- The authors of programs

-- the laws of stamps that are used here
pub record StampLaws : Type 0 where
  pub strict : (a : Stamp) → IsTrue (stamp_before a a) → ⊥
  pub same : (a b : Stamp) → IsTrue (same_stamp a b) → a ≡ b
  pub itself : (a : Stamp) → IsTrue (same_stamp a a)

module _ (laws : StampLaws) where
  -- a deed whose stamp comes after that of a program doesn't begin it
  later-begins-no : (b : BegunRequest) (deed : GateDeed) → ((s : Stamp) → Contains (stamps_by deed) s → IsTrue (stamp_before b.stamp s)) → begins_with_stamp (as_open b) deed ≡ false
  later-begins-no b (BeganTx request stamp) after = refl
  later-begins-no b (BeganProgram request stamp) after = elim (cases_Bool ((request == b.request) && same_stamp stamp b.stamp)) [
    | inl same ↦
        let is : stamp ≡ b.stamp = laws.same stamp b.stamp (and_parts (request == b.request) (same_stamp stamp b.stamp) same).1 in
        absurd (laws.strict b.stamp (subst (λ s. IsTrue (stamp_before b.stamp s)) is (after stamp (has_head stamp []))))
    | inr other ↦ other
  ]
  later-begins-no b (Sent request messages) after = refl
  later-begins-no b (Nop shard number stamp low) after = refl
  later-begins-no b (Heard clock) after = refl
  later-begins-no b (Raised epoch) after = refl
  later-begins-no b (Finished request) after = refl

  -- the deed that begins a program is found to begin it
  begins-it : (author : ℕ) (deed : GateDeed) (b : BegunRequest) → Contains (program_by author deed) b → (begins_with_stamp (as_open b) deed ≡ true) × (author ≡ b.author)
  begins-it author (BeganTx request stamp) b has = absurd (has_none b has)
  begins-it author (BeganProgram request stamp) b has =
      let new : BegunRequest = record { author = author; request = request; stamp = stamp } in
      let is : new ≡ b = only new b has in
      (subst (λ (c : BegunRequest). begins_with_stamp (as_open c) (BeganProgram request stamp) ≡ true) is (rw (eq-eqb request request refl) (laws.itself stamp)), ap (λ (c : BegunRequest). c.author) is)
  begins-it author (Sent request messages) b has = absurd (has_none b has)
  begins-it author (Nop shard number stamp low) b has = absurd (has_none b has)
  begins-it author (Heard clock) b has = absurd (has_none b has)
  begins-it author (Raised epoch) b has = absurd (has_none b has)
  begins-it author (Finished request) b has = absurd (has_none b has)

  -- the author that is found for a program is the one who began it
  pub author-found : (log : List GateEntry) → StampsRise (stamps_of log) → (b : BegunRequest) → Contains (programs_of log) b → program_author (as_open b) log ≡ b.author
  author-found =
      by_last (λ log. StampsRise (stamps_of log) → (b : BegunRequest) → Contains (programs_of log) b → program_author (as_open b) log ≡ b.author)
      (λ rise b has. absurd (has_none b has))
      (λ log entry so_far rise b has.
      let rises : StampsRise (stamps_of log ++ stamps_by entry.deed) = subst StampsRise (stamps-push log entry) rise in
      let R : Stamp → Stamp → Type 0 = λ a c. IsTrue (stamp_before a c) in
      author-push (as_open b) log entry
      ∙ elim (Contains-append_cases (programs_of log) (program_by entry.author entry.deed) b (subst (λ ps. Contains ps b) (programs-push log entry) has)) [
        | inl earlier ↦
            let at = begun-stamp log b (program-begun log b earlier) in
            let no = later-begins-no b entry.deed (λ s h. pairs_across R (stamps_of log) (stamps_by entry.deed) b.stamp s rises at h) in
            ap (λ t. if t then entry.author else program_author (as_open b) log) no
            ∙ so_far (pairs_front R (stamps_of log) (stamps_by entry.deed) rises) b earlier
        | inr new ↦
            let begins = begins-it entry.author entry.deed b new in
            ap (λ t. if t then entry.author else program_author (as_open b) log) begins.0 ∙ begins.1
      ])

-- The meet of equal stamps

min-same : (n : ℕ) → min n n ≡ n
min-same n = omega arith

lesser-same : (xs : List ℕ) → lesser_counts xs xs ≡ xs
lesser-same [] = refl
lesser-same (x ∷ xs) = rw (min-same x) (ap (λ ys. x ∷ ys) (lesser-same xs))

not-less : (n : ℕ) → nat_lt n n ≡ false
not-less n = elim (cases_Bool (nat_lt n n)) [ inl less ↦ absurd (omega (arith, ltb-true n n less)) | inr not-so ↦ not-so ]

-- a clock's meet with itself is that clock
pub meet-same : (clock : Clock) → meet_of clock clock ≡ clock
meet-same clock = rw (not-less clock.epoch) (λ i. record { epoch = clock.epoch; counts = lesser-same clock.counts i })

all-meet : (b : BegunRequest) (xs : List BegunRequest) → ((c : BegunRequest) → Contains xs c → c ≡ b) → fold (λ low (c : BegunRequest). meet_of low c.stamp.clock) b.stamp.clock xs ≡ b.stamp.clock
all-meet b [] same = refl
all-meet b (c ∷ xs) same =
    let is : c ≡ b = same c (has_head c xs) in
    ap (λ (low : Clock). fold (λ low (d : BegunRequest). meet_of low d.stamp.clock) low xs) (ap (λ (d : BegunRequest). meet_of b.stamp.clock d.stamp.clock) is ∙ meet-same b.stamp.clock)
    ∙ all-meet b xs (λ d h. same d (has_tail c xs d h))

-- if all members are one, so is the meet of their stamps
alike : (b : BegunRequest) (xs : List BegunRequest) → Contains xs b → ((c : BegunRequest) → Contains xs c → c ≡ b) → meet_of_stamps xs ≡ Some b.stamp.clock
alike b [] has same = absurd (has_none b has)
alike b (c ∷ xs) has same =
    let is : c ≡ b = same c (has_head c xs) in
    ap Some (ap (λ (d : BegunRequest). low_mark d.stamp xs) is ∙ all-meet b xs (λ d h. same d (has_tail c xs d h)))

-- The table

is-begun-is : (q : ℕ × ℕ) (b : BegunRequest) → IsTrue (is_begun q.0 q.1 b) → (b.author ≡ q.0) × (b.request ≡ q.1)
is-begun-is q b h = let parts = and_parts (b.author == q.0) (b.request == q.1) h in (eqb-true b.author q.0 parts.0, eqb-true b.request q.1 parts.1)

module _ (given : List Open) (running : List BegunRequest) (those : AreThoseRunning given running) where
  -- a running program is known by author and number
  only-one : (q : ℕ × ℕ) (b c : BegunRequest) → Contains running b → IsTrue (is_begun q.0 q.1 b) → Contains running c → IsTrue (is_begun q.0 q.1 c) → c ≡ b
  only-one q b c has_b is_b has_c is_c =
      let key_b = is-begun-is q b is_b in
      let key_c = is-begun-is q c is_c in
      let number : c.request ≡ b.request = key_c.1 ∙ sym key_b.1 in
      elim (pairs_cases (λ (x y : Open). x.request ≢ y.request) given those.once (as_open c) (as_open b) (those.all c has_c) (those.all b has_b)) [
        | inl same ↦
            let author : c.author ≡ b.author = key_c.0 ∙ sym key_b.0 in
            let stamp : c.stamp ≡ b.stamp = ap (λ (o : Open). o.stamp) same in
            λ i. record { author = author i; request = number i; stamp = stamp i }
        | inr (inl differ) ↦ absurd (differ number)
        | inr (inr differ) ↦ absurd (differ (sym number))
      ]

  module _ (author : Open → ℕ) (right : (b : BegunRequest) → Contains running b → author (as_open b) ≡ b.author) where
    abbrev found : List BegunRequest
    found = map (λ (o : Open). as_program (author o) o) given

    running-found : (b : BegunRequest) → Contains running b → Contains found b
    running-found b has =
        subst (Contains found) (λ i. record { author = right b has i; request = b.request; stamp = b.stamp }) (has_map (λ (o : Open). as_program (author o) o) given (as_open b) (those.all b has))

    found-running : (b : BegunRequest) → Contains found b → Contains running b
    found-running b has =
        let of = map_has (λ (o : Open). as_program (author o) o) given b has in
        let one = those.no_others of.0 of.1 in
        let begun : BegunRequest = one.0 in
        let is : begun ≡ as_program (author of.0) of.0 =
        (λ i. record { author = sym (right begun one.1) i; request = begun.request; stamp = begun.stamp }) ∙ ap (λ (o : Open). as_program (author o) o) one.2 in
        subst (Contains running) (is ∙ of.2) one.1

    -- a table that holds the programs as they are found holds those that are running
    pub holds-running : (table : List ((ℕ × ℕ) × Clock)) → HoldsPrograms table found → HoldsPrograms table running
    holds-running table holds q = holds q ∙ at (filter p running) refl
      where
        p : BegunRequest → Bool
        p = is_begun q.0 q.1

        at : (left : List BegunRequest) → filter p running ≡ left → meet_of_stamps (filter p found) ≡ meet_of_stamps left
        at [] e = ap meet_of_stamps (no-members (filter p found) (λ b h.
            let parts = filter_has p found b h in
            has_none b (subst (λ xs. Contains xs b) e (has_filter p running b (found-running b parts.0) parts.1))))
        at (b ∷ left) e =
            let here = filter_has p running b (subst (λ xs. Contains xs b) (sym e) (has_head b left)) in
            alike b (filter p found) (has_filter p found b (running-found b here.0) here.1)
            (λ c h. let parts = filter_has p found c h in only-one q b c here.0 here.1 (found-running c parts.0) parts.1)
            ∙ sym (alike b (b ∷ left) (has_head b left) (λ c h.
            let parts = filter_has p running c (subst (λ xs. Contains xs c) (sym e) h) in only-one q b c here.0 here.1 parts.0 parts.1))

    -- The room

    abbrev keys : List Open → List (ℕ × ℕ)
    keys opens = map (λ (o : Open). (author o, o.request)) opens

    keys-distinct : (opens : List Open) → AllPairs (λ (a b : Open). a.request ≢ b.request) opens → IsDistinct same_program (keys opens)
    unfolding IsDistinct
    keys-distinct [] once = tt
    keys-distinct (o ∷ opens) once = (apart opens (λ x h. pairs_head (λ (a b : Open). a.request ≢ b.request) o opens x once h), keys-distinct opens (pairs_tail (λ (a b : Open). a.request ≢ b.request) o opens once))
      where
        apart : (rest : List Open) → ((x : Open) → Contains rest x → o.request ≢ x.request) → AllByRecursion (λ y. same_program (author o, o.request) y ≡ false) (keys rest)
        apart [] differ = tt
        apart (x ∷ rest) differ = (
          elim (cases_Bool (same_program (author o, o.request) (author x, x.request))) [
            | inl same ↦ absurd (differ x (has_head x rest) (eqb-true o.request x.request (and_parts (author o == author x) (o.request == x.request) same).1))
            | inr other ↦ other
          ],
          apart rest (λ y h. differ y (has_tail x rest y h)),
        )

    program-equiv : IsEquivalence same_program
    program-equiv = record {
      refl = λ x. rw (eq-eqb x.0 x.0 refl, eq-eqb x.1 x.1 refl) refl;
      symm = λ x y i. nat_eq_equiv.symm x.0 y.0 i && nat_eq_equiv.symm x.1 y.1 i;
      congr = λ x y z e.
          let parts = and_parts (x.0 == y.0) (x.1 == y.1) e in
          λ i. (eqb-true x.0 y.0 parts.0 i == z.0) && (eqb-true x.1 y.1 parts.1 i == z.1);
    }

    -- there is room for the programs that are handed in, where one table had held them
    pub fit-again : (room : ℕ) → HasRoomAgain running room → length given ≤ room
    fit-again room again =
        let few : length (keys given) ≤ length again.table =
        length-le_from_keys program-equiv (keys given) again.table (keys-distinct given those.once) (λ q any.
        let at = any_has (same_program q) (keys given) any in
        let of = map_has (λ (o : Open). (author o, o.request)) given at.0 at.1 in
        let one = those.no_others of.0 of.1 in
        let begun : BegunRequest = one.0 in
        let parts = and_parts (q.0 == at.0.0) (q.1 == at.0.1) at.2 in
        let who : begun.author ≡ q.0 = sym (right begun one.1) ∙ ap author one.2 ∙ ap (λ (k : ℕ × ℕ). k.0) of.2 ∙ sym (eqb-true q.0 at.0.0 parts.0) in
        let which : begun.request ≡ q.1 = ap (λ (o : Open). o.request) one.2 ∙ ap (λ (k : ℕ × ℕ). k.1) of.2 ∙ sym (eqb-true q.1 at.0.1 parts.1) in
        let is : IsTrue (is_begun q.0 q.1 begun) = rw (eq-eqb begun.author q.0 who, eq-eqb begun.request q.1 which) refl in
        let runs : list_any (is_begun q.0 q.1) running ≡ true = any-from (is_begun q.0 q.1) running begun one.1 is in
        ap is_some (again.held q) ∙ any_met (is_begun q.0 q.1) running ∙ runs) in
        omega (arith, few, again.fits, length-map {B = ℕ × ℕ} given (λ (o : Open). (author o, o.request)))
      where
        any-from : (p : BegunRequest → Bool) (xs : List BegunRequest) (x : BegunRequest) → Contains xs x → IsTrue (p x) → list_any p xs ≡ true
        any-from p [] x has is = absurd (has_none x has)
        any-from p (y ∷ xs) x has is = elim (cases_Bool (p y)) [
          | inl here ↦ rw here refl
          | inr not-here ↦ elim (has_read y xs x has) [
            | inl same ↦ absurd (both_ways (p y) not-here (subst (λ z. IsTrue (p z)) (sym same) is))
            | inr more ↦ rw not-here (any-from p xs x more is)
          ]
        ]

-- The whole

-- the flight that is found is the one that the log leaves
pub flight-again : (flight : Option ℕ) (log : List GateEntry) → flight ≡ option_map begun_number (flight_of log) → found_flight flight log ≡ flight_of log
flight-again flight log is = ap (λ (f : Option ℕ). found_flight f log) is ∙ at (flight_of log) refl
  where
    at : (o : Option BegunRequest) → flight_of log ≡ o → found_flight (option_map begun_number o) log ≡ o
    at None e = refl
    at (Some b) e = flight-last log b e

-- what a gatekeeper leaves over when it stops: its table of programs is empty, and its room stays
pub stops : (home shards : ℕ) (clock : Clock) (flight : Option Flight) (running : List ((ℕ × ℕ) × Clock)) (channels : List (Channel Place)) (nops : List Message) (log : List GateEntry) (entries : List ((ℕ × ℕ) × Clock)) (room : ℕ)
    → IsGateReplay home shards clock flight running channels nops log → entries ≡ [] → length running ≤ room → IsLeftOver home shards channels nops entries room log
stops home shards clock flight running channels nops log entries room kept none fits = record {
  all_channels = kept.all_channels;
  channels_are = kept.channels_are;
  home_is = kept.home_is;
  some_shard = kept.some_shard;
  rules = kept.rules;
  bits = kept.bits;
  nothing_runs = none;
  room_again = record { table = running; held = kept.running_is; fits = fits };
}

module _ (laws : StampLaws) (home shards : ℕ) (channels : List (Channel Place)) (nops : List Message) (entries : List ((ℕ × ℕ) × Clock)) (room : ℕ) (log : List GateEntry)
    (left : IsLeftOver home shards channels nops entries room log) (rise : StampsRise (stamps_of log)) (flight : Option ℕ) (given : List Open) (open_ones : AreLeftOpen flight given log) where
  right-author : (b : BegunRequest) → Contains (running_of log) b → program_author (as_open b) log ≡ b.author
  right-author b has = author-found laws log rise b (running_begun log b has)

  -- there is room for what is handed in again
  pub room-again : length given ≤ room
  room-again = fit-again given (running_of log) open_ones.running_are (λ (o : Open). program_author o log) right-author room left.room_again

  -- with the flight and the programs that are handed in again, and the epoch raised, the fields are what the log gives
  pub returns-again : (author epoch : ℕ) (found : Option Flight) (table : List ((ℕ × ℕ) × Clock)) (clock : Clock) (longer : List GateEntry)
      → (clock_of home log).epoch < epoch → clock ≡ first_clock epoch
      → option_map as_begun found ≡ found_flight flight log → HoldsPrograms table (map (program_in_log log) given)
      → longer ≡ log ++ record { author = author; deed = Raised epoch } ∷ []
      → IsGateReplay home shards clock found table channels nops longer
  returns-again author epoch found table clock longer later clock_is found_is held longer_is =
      keeps_still home shards (clock_of home log) found table channels nops log author (Raised epoch) clock found table longer
      (record {
        clock_is = refl;
        flight_is = found_is ∙ flight-again flight log open_ones.flight_is;
        running_is = holds-running given (running_of log) open_ones.running_are (λ (o : Open). program_author o log) right-author table held;
        all_channels = left.all_channels;
        channels_are = left.channels_are;
        home_is = left.home_is;
        some_shard = left.some_shard;
        rules = left.rules;
        bits = left.bits;
      })
      (record {
        fits = later;
        bits = no_bits;
        log_is = longer_is;
        clock_is = clock_is;
        flight_is = refl;
        running_is = holds-running given (running_of log) open_ones.running_are (λ (o : Open). program_author o log) right-author table held;
      }) refl
