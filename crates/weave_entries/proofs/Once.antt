-- A request ends after its begin, by its author, and once if it is begun once.
-- Used by `requests_end`, `what_has_not_ended_goes_on`, OwnStamps and crates gatekeeper and workers_account.
use Rattle.std.proofs.Common.{◌≡◌, ◌≢◌, ℕ, Bool, true, false, not, List, [], ◌∷◌, ◌++◌, map, filter, Contains, Option, None, Some, inl, inr, refl, sym, ap, subst, ◌∙◌, arith}
use Rattle.std.specs.List.{AllPairs, flat_map, list_any}
use Rattle.std.proofs.lemmas.Bool.{both_ways, eqb-true, and_parts}
use Rattle.std.proofs.lemmas.List.{append-nil}
use Rattle.std.proofs.lemmas.List.Elements.{Contains-append_cases, Contains-append_left, Contains-append_right}
use Rattle.std.proofs.lemmas.List.Kept.{AllPairs-filter}
use Rattle.vector_stamp.specs.declared.clock.Stamp.{Stamp}
use Rattle.weave_entries.specs.declared.gate_log.GateEntry.{GateEntry}
use Rattle.weave_entries.specs.declared.gate_log.GateDeed.{GateDeed}
use Rattle.weave_entries.specs.declared.gate_log.GateDeed.TheVariants.{BeganTx, BeganProgram, Sent, Nop, Heard, Raised, Finished}
use Rattle.weave_entries.specs.GateReplay.{BegunRequest, is_begun, tx_by, program_by, txs_of, programs_of, requests_of, flight_after, flight_of, running_after, running_of}
use Rattle.weave_entries.specs.GateRules.{FitsAs, IsGateLog, BeginsEachOnce, ended_by, EndsEachOnce, EndsAs, EndsWhatItBegan}
use Rattle.weave_data.proofs.Ends.{by_last}
use Rattle.weave_data.proofs.Ends.{flat_push}
use Rattle.weave_data.proofs.Members.{only, has_none, has_last, filter_has, any_has}
use Rattle.weave_data.proofs.Ordered.{pairs_push, pairs_front, pairs_last, pairs_cases}
use Rattle.weave_entries.proofs.Replay.{flight-push, running-push, txs-push, programs-push, by_entries}

-- two elements of which no pair has R either way are the same
one_place : {A : Type 0} (R : A → A → Type 0) (xs : List A) → AllPairs R xs → (x y : A) → Contains xs x → Contains xs y → (R x y → ⊥) → (R y x → ⊥) → x ≡ y
one_place R xs pairs x y at_x at_y not_first not_second =
    elim (pairs_cases R xs pairs x y at_x at_y) [
      | inl same ↦ same
      | inr (inl first) ↦ absurd (not_first first)
      | inr (inr second) ↦ absurd (not_second second)
    ]

-- What ends was begun

is_begun_is : (author request : ℕ) (begun : BegunRequest) → is_begun author request begun ≡ true → (begun.author ≡ author) × (begun.request ≡ request)
is_begun_is author request begun h = let parts = and_parts _ _ h in (eqb-true _ _ parts.0, eqb-true _ _ parts.1)

flight_step : (author : ℕ) (deed : GateDeed) (flight : Option BegunRequest) (txs : List BegunRequest) → ((b : BegunRequest) → flight ≡ Some b → Contains txs b) → (b : BegunRequest) → flight_after flight author deed ≡ Some b → Contains (txs ++ tx_by author deed) b
flight_step author (BeganTx request stamp) flight txs so_far b is =
    let e : record { author = author; request = request; stamp = stamp } ≡ b = cc in
    subst (λ x. Contains (txs ++ record { author = author; request = request; stamp = stamp } ∷ []) x) e (has_last txs _)
flight_step author (BeganProgram request stamp) flight txs so_far b is = Contains-append_left txs [] b (so_far b is)
flight_step author (Sent request messages) flight txs so_far b is = absurd (cc)
flight_step author (Nop shard number stamp low) flight txs so_far b is = Contains-append_left txs [] b (so_far b is)
flight_step author (Heard clock) flight txs so_far b is = Contains-append_left txs [] b (so_far b is)
flight_step author (Raised epoch) flight txs so_far b is = Contains-append_left txs [] b (so_far b is)
flight_step author (Finished request) flight txs so_far b is = Contains-append_left txs [] b (so_far b is)

-- the transaction in flight was begun
pub flight_begun : (log : List GateEntry) → (b : BegunRequest) → flight_of log ≡ Some b → Contains (txs_of log) b
flight_begun =
    by_last (λ log. (b : BegunRequest) → flight_of log ≡ Some b → Contains (txs_of log) b) (λ b is. absurd (cc)) (λ log entry so_far b is.
    subst (λ ts. Contains ts b) (sym (txs-push log entry)) (flight_step entry.author entry.deed (flight_of log) (txs_of log) so_far b (sym (flight-push log entry) ∙ is)))

running_step : (author : ℕ) (deed : GateDeed) (running programs : List BegunRequest) → ((b : BegunRequest) → Contains running b → Contains programs b) → (b : BegunRequest) → Contains (running_after running author deed) b → Contains (programs ++ program_by author deed) b
running_step author (BeganTx request stamp) running programs so_far b has = Contains-append_left programs [] b (so_far b has)
running_step author (BeganProgram request stamp) running programs so_far b has =
    elim (Contains-append_cases running (record { author = author; request = request; stamp = stamp } ∷ []) b has) [
      | inl earlier ↦ Contains-append_left programs (record { author = author; request = request; stamp = stamp } ∷ []) b (so_far b earlier)
      | inr last ↦ Contains-append_right programs (record { author = author; request = request; stamp = stamp } ∷ []) b last
    ]
running_step author (Sent request messages) running programs so_far b has = Contains-append_left programs [] b (so_far b has)
running_step author (Nop shard number stamp low) running programs so_far b has = Contains-append_left programs [] b (so_far b has)
running_step author (Heard clock) running programs so_far b has = Contains-append_left programs [] b (so_far b has)
running_step author (Raised epoch) running programs so_far b has = Contains-append_left programs [] b (so_far b has)
running_step author (Finished request) running programs so_far b has = Contains-append_left programs [] b (so_far b ((filter_has _ running b has).0))

-- each running program was begun
pub running_begun : (log : List GateEntry) → (b : BegunRequest) → Contains (running_of log) b → Contains (programs_of log) b
running_begun =
    by_last (λ log. (b : BegunRequest) → Contains (running_of log) b → Contains (programs_of log) b) (λ b has. absurd (has_none b has)) (λ log entry so_far b has.
    subst (λ ps. Contains ps b) (sym (programs-push log entry)) (running_step entry.author entry.deed (running_of log) (programs_of log) so_far b (subst (λ rs. Contains rs b) (running-push log entry) has)))

ends_as : (home shards : ℕ) (log : List GateEntry) (author : ℕ) (deed : GateDeed) → FitsAs home shards log author deed → EndsAs log author deed
ends_as home shards log author (BeganTx request stamp) fits = tt
ends_as home shards log author (BeganProgram request stamp) fits = tt
ends_as home shards log author (Sent request messages) fits = (fits.stamp, flight_begun log _ fits.flight)
ends_as home shards log author (Nop shard number stamp low) fits = tt
ends_as home shards log author (Heard clock) fits = tt
ends_as home shards log author (Raised epoch) fits = tt
ends_as home shards log author (Finished request) fits =
    let found = any_has (is_begun author request) (running_of log) fits in
    let is = is_begun_is author request found.0 found.2 in
    (found.0.stamp, subst (λ x. Contains (programs_of log) x) (λ i. record { author = is.0 i; request = is.1 i; stamp = found.0.stamp }) (running_begun log found.0 found.1))

-- in a gatekeeper's log each request is sent or finished after its begin, by the author of its begin
pub ends_what_it_began : (home shards : ℕ) (log : List GateEntry) → IsGateLog home shards log → EndsWhatItBegan log
ends_what_it_began home shards log right before entry after is = ends_as home shards before entry.author entry.deed (right before entry after is)

-- No request ends twice

-- what ended, what flies and what runs are different requests, and all were begun
pub record EndsTo (requests ended : List ℕ) (flight : Option BegunRequest) (running : List BegunRequest) : Type 0 where
  pub once : AllPairs (λ a b. a ≢ b) ended
  pub among : (r : ℕ) → Contains ended r → Contains requests r
  pub flies : (b : BegunRequest) → flight ≡ Some b → Contains requests b.request × (Contains ended b.request → ⊥)
  pub runs : (b : BegunRequest) → Contains running b → Contains requests b.request × (Contains ended b.request → ⊥)
  pub apart : (b d : BegunRequest) → flight ≡ Some b → Contains running d → d.request ≢ b.request
  pub alone : AllPairs (λ a b. a.request ≢ b.request) running

stays : (requests ended : List ℕ) (flight : Option BegunRequest) (running : List BegunRequest) → EndsTo requests ended flight running → EndsTo (requests ++ []) (ended ++ []) flight running
stays requests ended flight running so_far = subst (λ rs. EndsTo rs (ended ++ []) flight running) (sym (append-nil requests)) (subst (λ es. EndsTo requests es flight running) (sym (append-nil ended)) so_far)

-- the requests that a deed began
abbrev requests_by : ℕ → GateDeed → List ℕ
requests_by author deed = map (λ (begun : BegunRequest). begun.request) (tx_by author deed ++ program_by author deed)

-- a transaction is begun, with a request that is new
begins_tx : (author request : ℕ) (stamp : Stamp) (requests ended : List ℕ) (flight : Option BegunRequest) (running : List BegunRequest) → ((r : ℕ) → Contains requests r → r ≢ request) → EndsTo requests ended flight running → EndsTo (requests ++ request ∷ []) (ended ++ []) (Some (record { author = author; request = request; stamp = stamp })) running
begins_tx author request stamp requests ended flight running new so_far =
    subst (λ es. EndsTo (requests ++ request ∷ []) es (Some (record { author = author; request = request; stamp = stamp })) running) (sym (append-nil ended)) (record {
      once = so_far.once;
      among = λ r has. Contains-append_left requests (request ∷ []) r (so_far.among r has);
      flies = λ b is.
          let e : request ≡ b.request = cc in
          (subst (Contains (requests ++ request ∷ [])) e (has_last requests request), λ has. new request (so_far.among request (subst (Contains ended) (sym e) has)) refl);
      runs = λ b has. let was = so_far.runs b has in (Contains-append_left requests (request ∷ []) b.request was.0, was.1);
      apart = λ b d is has same. let e : request ≡ b.request = cc in new d.request ((so_far.runs d has).0) (same ∙ sym e);
      alone = so_far.alone;
    })

-- the same holds of a program
begins_program : (author request : ℕ) (stamp : Stamp) (requests ended : List ℕ) (flight : Option BegunRequest) (running : List BegunRequest) → ((r : ℕ) → Contains requests r → r ≢ request) → EndsTo requests ended flight running → EndsTo (requests ++ request ∷ []) (ended ++ []) flight (running ++ record { author = author; request = request; stamp = stamp } ∷ [])
begins_program author request stamp requests ended flight running new so_far =
    let begun : BegunRequest = record { author = author; request = request; stamp = stamp } in
    subst (λ es. EndsTo (requests ++ request ∷ []) es flight (running ++ begun ∷ [])) (sym (append-nil ended)) (record {
      once = so_far.once;
      among = λ r has. Contains-append_left requests (request ∷ []) r (so_far.among r has);
      flies = λ b is. let was = so_far.flies b is in (Contains-append_left requests (request ∷ []) b.request was.0, was.1);
      runs = λ b has. elim (Contains-append_cases running (begun ∷ []) b has) [
        | inl earlier ↦ let was = so_far.runs b earlier in (Contains-append_left requests (request ∷ []) b.request was.0, was.1)
        | inr last ↦
            let e : request ≡ b.request = ap (λ (x : BegunRequest). x.request) (only begun b last) in
            (subst (Contains (requests ++ request ∷ [])) e (has_last requests request), λ in_ended. new request (so_far.among request (subst (Contains ended) (sym e) in_ended)) refl)
      ];
      apart = λ b d is has same. elim (Contains-append_cases running (begun ∷ []) d has) [
        | inl earlier ↦ so_far.apart b d is earlier same
        | inr last ↦
            let e : request ≡ d.request = ap (λ (x : BegunRequest). x.request) (only begun d last) in
            new b.request ((so_far.flies b is).0) (sym (e ∙ same))
      ];
      alone = pairs_push (λ (a b : BegunRequest). a.request ≢ b.request) running begun so_far.alone (λ d has. new d.request ((so_far.runs d has).0));
    })

-- the transaction in flight is sent
sends_flight : (b : BegunRequest) (requests ended : List ℕ) (flight : Option BegunRequest) (running : List BegunRequest) → flight ≡ Some b → EndsTo requests ended flight running → EndsTo (requests ++ []) (ended ++ b.request ∷ []) None running
sends_flight b requests ended flight running flying so_far =
    let was = so_far.flies b flying in
    subst (λ rs. EndsTo rs (ended ++ b.request ∷ []) None running) (sym (append-nil requests)) (record {
      once = pairs_push (λ x y. x ≢ y) ended b.request so_far.once (λ r has same. was.1 (subst (Contains ended) same has));
      among = λ r has. elim (Contains-append_cases ended (b.request ∷ []) r has) [
        | inl earlier ↦ so_far.among r earlier
        | inr last ↦ subst (Contains requests) (only b.request r last) was.0
      ];
      flies = λ d is. absurd (cc);
      runs = λ d has. let runs = so_far.runs d has in (
        runs.0,
        λ in_ended. elim (Contains-append_cases ended (b.request ∷ []) d.request in_ended) [
          | inl earlier ↦ runs.1 earlier
          | inr last ↦ so_far.apart b d flying has (sym (only b.request d.request last))
        ],
      );
      apart = λ d e is has. absurd (cc);
      alone = so_far.alone;
    })

-- a running program is finished
finishes : (author request : ℕ) (requests ended : List ℕ) (flight : Option BegunRequest) (running : List BegunRequest) → list_any (is_begun author request) running ≡ true → EndsTo requests ended flight running → EndsTo (requests ++ []) (ended ++ request ∷ []) flight (filter (λ begun. not (is_begun author request begun)) running)
finishes author request requests ended flight running any so_far =
    let found = any_has (is_begun author request) running any in
    let one : BegunRequest = found.0 in
    let here : Contains running one = found.1 in
    let is = is_begun_is author request one found.2 in
    let was = so_far.runs one here in
    let left : BegunRequest → Bool = λ begun. not (is_begun author request begun) in
    subst (λ rs. EndsTo rs (ended ++ request ∷ []) flight (filter left running)) (sym (append-nil requests)) (record {
      once = pairs_push (λ x y. x ≢ y) ended request so_far.once (λ r has same. was.1 (subst (Contains ended) (same ∙ sym is.1) has));
      among = λ r has. elim (Contains-append_cases ended (request ∷ []) r has) [
        | inl earlier ↦ so_far.among r earlier
        | inr last ↦ subst (Contains requests) (is.1 ∙ only request r last) was.0
      ];
      flies = λ b flying. let flies = so_far.flies b flying in (
        flies.0,
        λ in_ended. elim (Contains-append_cases ended (request ∷ []) b.request in_ended) [
          | inl earlier ↦ flies.1 earlier
          | inr last ↦ so_far.apart b one flying here (is.1 ∙ only request b.request last)
        ],
      );
      runs = λ d has.
          let kept = filter_has left running d has in
          let runs = so_far.runs d kept.0 in (
            runs.0,
            λ in_ended. elim (Contains-append_cases ended (request ∷ []) d.request in_ended) [
              | inl earlier ↦ runs.1 earlier
              | inr last ↦
                  let same : one.request ≡ d.request = is.1 ∙ only request d.request last in
                  let e : one ≡ d = one_place (λ (a b : BegunRequest). a.request ≢ b.request) running so_far.alone one d here kept.0 (λ differ. differ same) (λ differ. differ (sym same)) in
                  let gone : left one ≡ false = rw found.2 refl in
                  let stays_left : left one ≡ true = subst (λ (x : BegunRequest). left x ≡ true) (sym e) kept.1 in
                  both_ways (left one) gone stays_left
            ],
          );
      apart = λ b d flying has. so_far.apart b d flying ((filter_has left running d has).0);
      alone = AllPairs-filter (λ (a b : BegunRequest). a.request ≢ b.request) left running so_far.alone;
    })

once_step : (home shards : ℕ) (log : List GateEntry) (author : ℕ) (deed : GateDeed) (requests ended : List ℕ) (flight : Option BegunRequest) (runs : List BegunRequest) → flight ≡ flight_of log → runs ≡ running_of log → FitsAs home shards log author deed → AllPairs (λ a b. a ≢ b) (requests ++ requests_by author deed) → EndsTo requests ended flight runs → EndsTo (requests ++ requests_by author deed) (ended ++ ended_by deed) (flight_after flight author deed) (running_after runs author deed)
once_step home shards log author (BeganTx request stamp) requests ended flight running is_flight is_running fits distinct so_far = begins_tx author request stamp requests ended flight running (pairs_last (λ a b. a ≢ b) requests request distinct) so_far
once_step home shards log author (BeganProgram request stamp) requests ended flight running is_flight is_running fits distinct so_far = begins_program author request stamp requests ended flight running (pairs_last (λ a b. a ≢ b) requests request distinct) so_far
once_step home shards log author (Sent request messages) requests ended flight running is_flight is_running fits distinct so_far = sends_flight (record { author = author; request = request; stamp = fits.stamp }) requests ended flight running (is_flight ∙ fits.flight) so_far
once_step home shards log author (Nop shard number stamp low) requests ended flight running is_flight is_running fits distinct so_far = stays requests ended flight running so_far
once_step home shards log author (Heard clock) requests ended flight running is_flight is_running fits distinct so_far = stays requests ended flight running so_far
once_step home shards log author (Raised epoch) requests ended flight running is_flight is_running fits distinct so_far = stays requests ended flight running so_far
once_step home shards log author (Finished request) requests ended flight running is_flight is_running fits distinct so_far = finishes author request requests ended flight running (ap (list_any (is_begun author request)) is_running ∙ fits) so_far

-- the requests that were sent or finished
abbrev ended_of : List GateEntry → List ℕ
ended_of log = flat_map (λ (entry : GateEntry). ended_by entry.deed) log

-- if each request is begun once, those that ended, fly and run are different ones, and all were begun
pub ends_to : (home shards : ℕ) (log : List GateEntry) → IsGateLog home shards log → BeginsEachOnce log → EndsTo (requests_of log) (ended_of log) (flight_of log) (running_of log)
ends_to home shards =
    by_entries home shards (λ log. BeginsEachOnce log → EndsTo (requests_of log) (ended_of log) (flight_of log) (running_of log))
    (λ distinct. record { once = λ i j d less within. absurd (omega arith); among = λ r has. absurd (has_none r has); flies = λ b is. absurd (cc); runs = λ b has. absurd (has_none b has); apart = λ b d is. absurd (cc); alone = λ i j d less within. absurd (omega arith) })
    (λ log entry right fits so_far distinct.
    let began : requests_of (log ++ entry ∷ []) ≡ requests_of log ++ requests_by entry.author entry.deed = flat_push _ log entry in
    let all : AllPairs (λ a b. a ≢ b) (requests_of log ++ requests_by entry.author entry.deed) = subst (AllPairs (λ a b. a ≢ b)) began distinct in
    let before = so_far (pairs_front (λ a b. a ≢ b) (requests_of log) (requests_by entry.author entry.deed) all) in
    let stepped = once_step home shards log entry.author entry.deed (requests_of log) (ended_of log) (flight_of log) (running_of log) refl refl fits all before in
    let ended : ended_of (log ++ entry ∷ []) ≡ ended_of log ++ ended_by entry.deed = flat_push _ log entry in
    subst (λ rs. EndsTo rs (ended_of (log ++ entry ∷ [])) (flight_of (log ++ entry ∷ [])) (running_of (log ++ entry ∷ []))) (sym began)
    (subst (λ es. EndsTo (requests_of log ++ requests_by entry.author entry.deed) es (flight_of (log ++ entry ∷ [])) (running_of (log ++ entry ∷ []))) (sym ended)
    (subst (λ f. EndsTo (requests_of log ++ requests_by entry.author entry.deed) (ended_of log ++ ended_by entry.deed) f (running_of (log ++ entry ∷ []))) (sym (flight-push log entry))
    (subst (λ rs. EndsTo (requests_of log ++ requests_by entry.author entry.deed) (ended_of log ++ ended_by entry.deed) (flight_after (flight_of log) entry.author entry.deed) rs) (sym (running-push log entry)) stepped))))

-- if each request is begun once, none is sent or finished twice
pub ends_each_once : (home shards : ℕ) (log : List GateEntry) → IsGateLog home shards log → BeginsEachOnce log → EndsEachOnce log
ends_each_once home shards log right distinct = (ends_to home shards log right distinct).once
