-- If the next worker is seated, or unseated, one more is; in the end all have their seats, or all clients are back in
-- their places.
-- Used by `seat_all` and `unseat_all`.
use Rattle.std.proofs.Common.{◌≡◌, ℕ, ◌+◌, ◌<◌, ◌≤◌, List, [], ◌∷◌, ◌++◌, AllPairs, Contains, length, map, get_or, slice_get, slice_set, Option, None, Some, inl, inr, refl, sym, ap, subst, ◌∙◌, arith, length-set}
use Rattle.std.specs.Option.{option_map}
use mathlib.Core.Logic.{dite}
use native.Mathlib.Decide.{ℕ_discrete}
use Rattle.std.proofs.lemmas.Bool.{cases_lt}
use Rattle.std.proofs.lemmas.List.{length_push}
use Rattle.std.proofs.lemmas.Option.{get_or_from_slice_get, none-some, same_Some, slice_get-get_or, slice_get-map, slice_get_read, slice_get_within}
use Rattle.weave_data.proofs.Lists.{get_set_here, get_set_other}
use Rattle.weaver_core.specs.declared.client.Client.{Client}
use Rattle.weaver_locks.specs.declared.hand.Hand.{Hand}
use Rattle.weaver_workers.specs.declared.worker.Worker.{Worker}
use Rattle.weave_phase.specs.declared.seats.Seat.{Seat}
use Rattle.weave_phase.specs.OneSeat.{IsSeated, IsUnseated}
use Rattle.weave_phase.specs.Seats.{client_in, SeatsAreDealt, ArePutBack, AreTaken, IsDealt}
use Rattle.weave_phase.proofs.Placed.{once, push_cases}

-- the session is not one of the first k
abbrev pub NotBefore : List ℕ → ℕ → ℕ → Type 0
NotBefore sessions k session = (j : ℕ) → j < k → ¬ (slice_get sessions j ≡ Some session)

-- after k hands
pub record SeatedSoFar (sessions : List ℕ) (gates k : ℕ) (hands : List Hand) (old now : List (Option Client)) (seats : List Seat)
    : Type 0 where
  pub many : length seats ≡ k
  pub each : (clients : List Client) → map Some clients ≡ old → (j : ℕ) (hand : Hand) (seat : Seat) → slice_get hands j ≡ Some hand
      → slice_get seats j ≡ Some seat → IsDealt sessions gates clients j hand seat.worker
  pub undone : (j : ℕ) (seat : Seat) → slice_get seats j ≡ Some seat → seat.answer ≡ None
  pub long : length now ≡ length old
  pub taken : (j session : ℕ) → j < k → slice_get sessions j ≡ Some session → slice_get now session ≡ Some None
  pub left : (session : ℕ) → NotBefore sessions k session → slice_get now session ≡ slice_get old session

-- after k workers
pub record UnseatedSoFar (sessions : List ℕ) (k : ℕ) (seats : List Seat) (old now : List (Option Client)) : Type 0 where
  pub long : length now ≡ length old
  pub back : (j session : ℕ) (seat : Seat) → j < k → slice_get sessions j ≡ Some session → slice_get seats j ≡ Some seat
      → slice_get now session ≡ Some (client_in seat.worker)
  pub left : (session : ℕ) → NotBefore sessions k session → slice_get now session ≡ slice_get old session

abbrev Rises : List ℕ → Type 0
Rises sessions = AllPairs (λ (a b : ℕ). a < b) sessions

not_before : (sessions : List ℕ) (k session : ℕ) → Rises sessions → slice_get sessions k ≡ Some session → NotBefore sessions k session
not_before sessions k session rising here j low at = once sessions rising j k session at here low

no_contained : (sessions : List ℕ) (k session : ℕ) → ¬ Contains sessions session → NotBefore sessions k session
no_contained sessions k session none j low at =
    none (j, slice_get_within sessions j session at, get_or_from_slice_get sessions j session session at)

-- the client of the next session is still in its place
pub still_there : (sessions : List ℕ) (gates k : ℕ) (hands : List Hand) (old now : List (Option Client)) (seats : List Seat)
    → Rises sessions → SeatedSoFar sessions gates k hands old now seats
    → ((session : ℕ) → Contains sessions session → (client : Client) × (slice_get old session ≡ Some (Some client)))
    → (session : ℕ) → slice_get sessions k ≡ Some session → (client : Client) × (slice_get now session ≡ Some (Some client))
still_there sessions gates k hands old now seats rising so_far there session here =
    let was = there session (k, slice_get_within sessions k session here, get_or_from_slice_get sessions k session session here) in
    (was.0, so_far.left session (not_before sessions k session rising here) ∙ was.1)

in_clients : (clients : List Client) (session : ℕ) (client : Client) → slice_get (map Some clients) session ≡ Some (Some client)
    → slice_get clients session ≡ Some client
in_clients clients session client is = of (slice_get clients session) (sym (slice_get-map Some clients session) ∙ is)
  where
    of : (found : Option Client) → option_map Some found ≡ Some (Some client) → found ≡ Some client
    of (Some x) e = same_Some (Some x) (Some client) e
    of None e = absurd (none-some (Some client) e)

-- one that is seated is dealt
dealt : (sessions : List ℕ) (gates k : ℕ) (hand : Hand) (clients : List Client) (now next : List (Option Client)) (worker : Worker)
    → ((session : ℕ) → slice_get sessions k ≡ Some session → slice_get (map Some clients) session ≡ slice_get now session)
    → IsSeated sessions gates k hand now next worker → IsDealt sessions gates clients k hand worker
dealt sessions gates k hand clients now next worker same seated = record {
  session = λ low.
      let session = get_or sessions k 0 in
      let here : slice_get sessions k ≡ Some session = slice_get-get_or sessions k 0 low in
      let takes = seated.session session here in
      record {
        session = session;
        session_is = here;
        client = takes.client;
        client_is = in_clients clients session takes.client (same session here ∙ takes.client_is);
        worker_is = takes.worker_is;
      };
  gate = seated.gate;
  shard = seated.shard;
}

-- one more is seated
module _ (sessions : List ℕ) (gates k : ℕ) (hands : List Hand) (old now next : List (Option Client)) (seats : List Seat)
    (rising : Rises sessions) (so_far : SeatedSoFar sessions gates k hands old now seats)
    (hand : Hand) (here : slice_get hands k ≡ Some hand) (worker : Worker) (seated : IsSeated sessions gates k hand now next worker) where
  abbrev seat : Seat
  seat = record { worker = worker; answer = None }

  each_more : (clients : List Client) → map Some clients ≡ old → (j : ℕ) (h : Hand) (s : Seat) → slice_get hands j ≡ Some h
      → slice_get (seats ++ seat ∷ []) j ≡ Some s → IsDealt sessions gates clients j h s.worker
  each_more clients all j h s at_hand at_seat = elim (push_cases seats seat s j at_seat) [
    | inl before ↦ so_far.each clients all j h s at_hand before
    | inr last ↦
        let same : k ≡ j = sym so_far.many ∙ sym last.0 in
        let hand_is : hand ≡ h = same_Some hand h (sym here ∙ ap (slice_get hands) same ∙ at_hand) in
        subst (λ (z : ℕ × Hand × Seat). IsDealt sessions gates clients z.0 z.1 z.2.worker) (λ i. (same i, hand_is i, last.1 i))
        (dealt sessions gates k hand clients now next worker (λ session at.
        ap (λ l. slice_get l session) all ∙ sym (so_far.left session (not_before sessions k session rising at))) seated)
  ]

  -- with the hand of number k seated, one more hand is seated so far
  pub seated_more : SeatedSoFar sessions gates (k + 1) hands old next (seats ++ seat ∷ [])
  seated_more = record {
    many = length_push seats seat ∙ ap (λ n. n + 1) so_far.many;
    each = each_more;
    undone = λ j s at. elim (push_cases seats seat s j at) [
      | inl before ↦ so_far.undone j s before
      | inr last ↦ ap (λ (z : Seat). z.answer) (sym last.1)
    ];
    long = elim (cases_lt k (length sessions)) [
      | inl low ↦
          let takes = seated.session (get_or sessions k 0) (slice_get-get_or sessions k 0 low) in
          ap length takes.left ∙ length-set now (get_or sessions k 0) None ∙ so_far.long
      | inr far ↦ ap length (seated.others far) ∙ so_far.long
    ];
    taken = λ j session low at. elim (cases_lt k (length sessions)) [
      | inl near ↦
          let last = get_or sessions k 0 in
          let there : slice_get sessions k ≡ Some last = slice_get-get_or sessions k 0 near in
          let takes = seated.session last there in
          ap (λ l. slice_get l session) takes.left ∙ dite (ℕ_discrete session last)
          (λ e. ap (slice_get (slice_set now last None)) e
          ∙ get_set_here now last None (slice_get_within now last (Some takes.client) takes.client_is))
          (λ ne. get_set_other now last session None ne ∙ dite (ℕ_discrete j k)
          (λ e. absurd (ne (same_Some session last (sym at ∙ ap (slice_get sessions) e ∙ there))))
          (λ before. so_far.taken j session (omega (arith, low, before)) at))
      | inr far ↦
          let within = slice_get_within sessions j session at in
          ap (λ l. slice_get l session) (seated.others far) ∙ so_far.taken j session (omega arith) at
    ];
    left = λ session none.
        let was = so_far.left session (λ j low. none j (omega arith)) in
        elim (cases_lt k (length sessions)) [
          | inl near ↦
              let last = get_or sessions k 0 in
              let there : slice_get sessions k ≡ Some last = slice_get-get_or sessions k 0 near in
              let takes = seated.session last there in
              ap (λ l. slice_get l session) takes.left
              ∙ get_set_other now last session None (λ e. none k (omega arith) (there ∙ ap Some (sym e))) ∙ was
          | inr far ↦ ap (λ l. slice_get l session) (seated.others far) ∙ was
        ];
  }

module _ (sessions : List ℕ) (gates k : ℕ) (hands : List Hand) (old now : List (Option Client)) (seats : List Seat)
    (so_far : SeatedSoFar sessions gates k hands old now seats) (enough : length sessions ≤ k) where
  -- when all hands are seated, each has its seat, which is for a session, a gatekeeper or a shard by its number
  pub all_dealt : k ≡ length hands → (clients : List Client) → map Some clients ≡ old → SeatsAreDealt sessions gates clients hands seats
  all_dealt end clients all = record { many = so_far.many ∙ end; each = so_far.each clients all }

  -- when the hands of all sessions are seated, their clients, and no others, are out of their places
  pub all_taken : AreTaken sessions old now
  all_taken = record {
    many = so_far.long;
    taken = λ session has.
        so_far.taken has.0 session (omega (arith, has.1, enough)) (slice_get_read sessions _ has.0 session refl has.1 (sym has.2));
    left = λ session none. so_far.left session (no_contained sessions k session none);
  }

-- one more is unseated
module _ (sessions : List ℕ) (k : ℕ) (seats : List Seat) (old now next : List (Option Client)) (rising : Rises sessions)
    (there : (session : ℕ) → Contains sessions session → session < length old) (so_far : UnseatedSoFar sessions k seats old now)
    (seat : Seat) (here : slice_get seats k ≡ Some seat) (unseated : IsUnseated sessions k seat.worker now next) where
  place_in : (session : ℕ) → slice_get sessions k ≡ Some session → session < length now
  place_in session at =
      let low = there session (k, slice_get_within sessions k session at, get_or_from_slice_get sessions k session session at) in
      omega (arith, low, so_far.long)

  -- with the worker of number k unseated, one more worker is unseated so far
  pub unseated_more : UnseatedSoFar sessions (k + 1) seats old next
  unseated_more = record {
    long = elim (cases_lt k (length sessions)) [
      | inl low ↦
          let session = get_or sessions k 0 in
          ap length (unseated.session session (slice_get-get_or sessions k 0 low)) ∙ length-set now session (client_in seat.worker)
          ∙ so_far.long
      | inr far ↦ ap length (unseated.others far) ∙ so_far.long
    ];
    back = λ j session other low at is. dite (ℕ_discrete j k)
        (λ e.
        let at_k : slice_get sessions k ≡ Some session = ap (slice_get sessions) (sym e) ∙ at in
        let same : seat ≡ other = same_Some seat other (sym here ∙ ap (slice_get seats) (sym e) ∙ is) in
        ap (λ l. slice_get l session) (unseated.session session at_k)
        ∙ get_set_here now session (client_in seat.worker) (place_in session at_k)
        ∙ ap (λ (s : Seat). Some (client_in s.worker)) same)
        (λ ne.
        let was = so_far.back j session other (omega (arith, low, ne)) at is in
        elim (cases_lt k (length sessions)) [
          | inl near ↦
              let last = get_or sessions k 0 in
              let there_k : slice_get sessions k ≡ Some last = slice_get-get_or sessions k 0 near in
              ap (λ l. slice_get l session) (unseated.session last there_k)
              ∙ get_set_other now last session (client_in seat.worker)
              (λ e. once sessions rising j k session at (there_k ∙ ap Some (sym e)) (omega (arith, low, ne))) ∙ was
          | inr far ↦ ap (λ l. slice_get l session) (unseated.others far) ∙ was
        ]);
    left = λ session none.
        let was = so_far.left session (λ j low. none j (omega arith)) in
        elim (cases_lt k (length sessions)) [
          | inl near ↦
              let last = get_or sessions k 0 in
              let there_k : slice_get sessions k ≡ Some last = slice_get-get_or sessions k 0 near in
              ap (λ l. slice_get l session) (unseated.session last there_k)
              ∙ get_set_other now last session (client_in seat.worker) (λ e. none k (omega arith) (there_k ∙ ap Some (sym e))) ∙ was
          | inr far ↦ ap (λ l. slice_get l session) (unseated.others far) ∙ was
        ];
  }

-- when the workers of all sessions are unseated, their clients are back in their places
pub all_back : (sessions : List ℕ) (k : ℕ) (seats : List Seat) (old now : List (Option Client)) → UnseatedSoFar sessions k seats old now
    → length sessions ≤ k → ArePutBack sessions seats old now
all_back sessions k seats old now so_far enough = record {
  many = so_far.long;
  back = λ j session seat at is.
      so_far.back j session seat (let low = slice_get_within sessions j session at in omega (arith, low, enough)) at is;
  left = λ session none. so_far.left session (no_contained sessions k session none);
}
