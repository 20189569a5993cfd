-- Lists by their places, and one worker that is seated or unseated.
-- Used by `hand_of`, `seat_all`, `unseat_all`, `worker_of` and SoFar.
use Rattle.std.proofs.Common.{◌≡◌, ◌⊎◌, ℕ, zero, suc, ◌+◌, ◌-◌, ◌<◌, ◌≤◌, List, [], ◌∷◌, ◌++◌, AllPairs, drop, length, map, get_or, slice_get, slice_set, Option, None, Some, inl, inr, refl, sym, ap, subst, ◌∙◌, arith}
use Rattle.std.proofs.lemmas.Bool.{cases_lt}
use Rattle.std.proofs.lemmas.List.{append_assoc, drop_more, length-drop}
use Rattle.std.proofs.lemmas.Option.{get_or_from_slice_get, none-some, same_Some, slice_get_read, slice_get_within}
use Rattle.weaver_core.specs.declared.client.Client.{Client}
use Rattle.weaver_locks.specs.declared.hand.Hand.{Hand}
use Rattle.weaver_workers.specs.declared.worker.Worker.{Worker}
use Rattle.weaver_workers.specs.declared.worker.Worker.TheVariants.{ClientWork, GateWork, ShardWork}
use Rattle.weave_phase.specs.OneSeat.{IsSeated, IsUnseated}
use Rattle.weave_phase.specs.Seats.{client_in}
use mathlib.Core.List.{head-eq_of_cons-eq, tail-eq_of_cons-eq}

-- with one more at the end, an element was there before or is the new one
pub push_cases : {A : Type 0} (xs : List A) (x y : A) (j : ℕ) → slice_get (xs ++ x ∷ []) j ≡ Some y
    → (slice_get xs j ≡ Some y) ⊎ ((j ≡ length xs) × (x ≡ y))
push_cases [] x y zero e = inr (refl, same_Some x y e)
push_cases [] x y (suc j) e = absurd (none-some y e)
push_cases (z ∷ xs) x y zero e = inl e
push_cases (z ∷ xs) x y (suc j) e = elim (push_cases xs x y j e) [ inl h ↦ inl h | inr h ↦ inr (ap suc h.0, h.1) ]

-- in a list that rises each number has one place
pub once : (xs : List ℕ) → AllPairs (λ (a b : ℕ). a < b) xs → (j k n : ℕ) → slice_get xs j ≡ Some n → slice_get xs k ≡ Some n
    → ¬ (j < k)
once xs rising j k n at_j at_k less =
    let less_yet = rising j k 0 less (slice_get_within xs k n at_k) in
    let first = get_or_from_slice_get xs j n 0 at_j in
    let last = get_or_from_slice_get xs k n 0 at_k in
    omega arith

-- Loops that take a list apart

-- what is left of a list at a place begins with the list's element there, and goes on from the next place
pub next_at : {A : Type 0} (xs : List A) (place : ℕ) (x : A) (rest : List A) → x ∷ rest ≡ drop place xs
    → (slice_get xs place ≡ Some x) × (rest ≡ drop (place + 1) xs)
next_at xs place x rest is = elim (cases_lt place (length xs)) [
  | inl within ↦
      let both : x ∷ rest ≡ get_or xs place x ∷ drop (place + 1) xs = is ∙ drop_more xs place x within in
      (slice_get_read xs _ place x refl within (head-eq_of_cons-eq both), tail-eq_of_cons-eq both)
  | inr over ↦ absurd (let long = ap length is ∙ length-drop place xs in omega (arith, long, over))
]

-- if nothing is left from a place on, the list is at most that long
pub all_gone : {A : Type 0} (xs : List A) (place : ℕ) (rest : List A) → rest ≡ drop place xs → length rest ≡ 0 → length xs ≤ place
all_gone xs place rest is none =
    let long = ap length is ∙ length-drop place xs in
    omega arith

-- if those done and the image of what is left are all, they still are with the next one's image among those done
pub map_more : {A B : Type 0} (f : A → B) (done : List B) (all : List B) (left : List A) (x : A) (rest : List A) (y : B)
    → done ++ map f left ≡ all → x ∷ rest ≡ left → y ≡ f x → (done ++ y ∷ []) ++ map f rest ≡ all
map_more f done all left x rest y so_far is new =
    append_assoc done (y ∷ []) (map f rest) ∙ (λ i. done ++ new i ∷ map f rest) ∙ ap (λ l. done ++ map f l) is ∙ so_far

-- A worker that is seated

-- a hand whose number is the place of a session is seated for it, once its client is taken out of its place
pub seated_client : (sessions : List ℕ) (gates k session : ℕ) (hand : Hand) (client : Client) (old new : List (Option Client))
    → slice_get sessions k ≡ Some session → slice_get old session ≡ Some (Some client) → new ≡ slice_set old session None
    → IsSeated sessions gates k hand old new (ClientWork hand client)
seated_client sessions gates k session hand client old new here is left =
    let within = slice_get_within sessions k session here in
    record {
      session = λ other at.
          let same : session ≡ other = same_Some session other (sym here ∙ at) in
          record {
            client = client;
            client_is = subst (λ n. slice_get old n ≡ Some (Some client)) same is;
            left = left ∙ ap (λ n. slice_set old n None) same;
            worker_is = refl;
          };
      others = λ far. absurd (omega arith);
      gate = λ far low. absurd (omega arith);
      shard = λ far. absurd (omega arith);
    }

-- after the hands of sessions come those of gatekeepers, each seated for the one of its number among them
pub seated_gate : (sessions : List ℕ) (gates k : ℕ) (hand : Hand) (old : List (Option Client)) → length sessions ≤ k
    → k - length sessions < gates → IsSeated sessions gates k hand old old (GateWork hand (k - length sessions))
seated_gate sessions gates k hand old over low = record {
  session = λ session at. absurd (let within = slice_get_within sessions k session at in omega arith);
  others = λ far. refl;
  gate = λ far near. refl;
  shard = λ far. absurd (omega arith);
}

-- and then those of shards, each seated for the one of its number among them
pub seated_shard : (sessions : List ℕ) (gates k : ℕ) (hand : Hand) (old : List (Option Client)) → length sessions ≤ k
    → gates ≤ k - length sessions → IsSeated sessions gates k hand old old (ShardWork hand (k - length sessions - gates))
seated_shard sessions gates k hand old over more = record {
  session = λ session at. absurd (let within = slice_get_within sessions k session at in omega arith);
  others = λ far. refl;
  gate = λ far near. absurd (omega arith);
  shard = λ far. ap (λ n. ShardWork hand n) (omega arith);
}

-- A worker that is unseated

-- a worker with a client has a session
pub has_session : (sessions : List ℕ) (k : ℕ) (worker : Worker) (hand : Hand) (client : Client) → worker ≡ ClientWork hand client
    → (length sessions ≤ k → client_in worker ≡ None) → k < length sessions
has_session sessions k worker hand client is other = elim (cases_lt k (length sessions)) [
  | inl low ↦ low
  | inr far ↦ absurd (none-some client (sym (other far) ∙ ap client_in is))
]

-- a session's worker is unseated when its client is put into the session's place
pub unseated_client : (sessions : List ℕ) (k session : ℕ) (worker : Worker) (hand : Hand) (client : Client) (old : List (Option Client))
    → worker ≡ ClientWork hand client → slice_get sessions k ≡ Some session
    → IsUnseated sessions k worker old (slice_set old session (Some client))
unseated_client sessions k session worker hand client old is here =
    let within = slice_get_within sessions k session here in
    record {
      session = λ other at. λ i. slice_set old (same_Some session other (sym here ∙ at) i) (client_in (sym is i));
      others = λ far. absurd (omega arith);
    }

-- a worker that has no client, but would have one if it were a session's, is unseated with nothing put back
pub unseated_other : (sessions : List ℕ) (k : ℕ) (worker : Worker) (old : List (Option Client)) → client_in worker ≡ None
    → (k < length sessions → (client : Client) × (client_in worker ≡ Some client)) → IsUnseated sessions k worker old old
unseated_other sessions k worker old none has = record {
  session = λ session at. absurd (let c = has (slice_get_within sessions k session at) in none-some c.0 (sym none ∙ c.1));
  others = λ far. refl;
}
