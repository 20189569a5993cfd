-- Names of requests, and their places.
-- Used by Clean, Reached, ReadAgain and StepLaws.
use Rattle.std.proofs.Common.{◌≡◌, ℕ, suc, zero, ◌+◌, ◌<◌, Bool, true, false, cond, List, [], ◌∷◌, ◌++◌, length, Option, Some, None, refl, ap, ◌∙◌, subst, arith}
use Rattle.std.specs.List.{AllByRecursion, IsDistinct, position_from}
use Rattle.weave_data.proofs.Lists.{none-of_both}
use Rattle.weave_data.specs.Names.{same_name, one_name}
use Rattle.weave_data.specs.declared.name.Name.{Name}
use Rattle.program_defs.specs.declared.script.Request.{Request}
use Rattle.weave_script.specs.ScriptLines.{name_of_request}
use Rattle.weave_script.specs.Scripts.{IsName, IsRequest, request_names}
use Rattle.weave_script.specs.Steps.{place_of}
use Rattle.graph_ops.proofs.Vertices.{same_name-refl}

-- none of these requests has the name
abbrev pub IsFree : Name → List Request → Type 0
IsFree name requests = AllByRecursion (λ other. same_name other name ≡ false) (request_names requests)

free_from : (name : Name) (k : ℕ) (requests : List Request) → position_from (λ r. same_name r.name name) k requests ≡ None → IsFree name requests
free_from name k [] h = tt
free_from name k (request ∷ requests) h =
    let parts = none-of_both (same_name request.name name) k (position_from (λ (r : Request). same_name r.name name) (k + 1) requests) h in
    (parts.0, free_from name (k + 1) requests parts.1)

-- a name that has no place is the name of no request
pub free-from_place_of : (name : Name) (requests : List Request) → place_of name requests ≡ None → IsFree name requests
free-from_place_of name requests h = free_from name 0 requests h

no_place : (name : Name) (k : ℕ) (requests : List Request) → IsFree name requests → position_from (λ r. same_name r.name name) k requests ≡ None
no_place name k [] h = refl
no_place name k (request ∷ requests) h =
    ap (λ b. cond b (Some k) (position_from (λ (r : Request). same_name r.name name) (k + 1) requests)) h.0 ∙ no_place name (k + 1) requests h.1

-- and a name of no request has no place
pub place_of-free : (name : Name) (requests : List Request) → IsFree name requests → place_of name requests ≡ None
place_of-free name requests h = no_place name 0 requests h

-- one more request with a name of its own
pub distinct-push : (requests : List Request) (request : Request) → IsDistinct same_name (request_names requests) → IsFree request.name requests → IsDistinct same_name (request_names (requests ++ request ∷ []))
unfolding IsDistinct
distinct-push [] request h free = (tt, tt)
distinct-push (other ∷ requests) request h free = (differs requests h.0 free.0, distinct-push requests request h.1 free.1)
  where
    differs : (others : List Request) → AllByRecursion (λ name. same_name other.name name ≡ false) (request_names others) → same_name other.name request.name ≡ false
        → AllByRecursion (λ name. same_name other.name name ≡ false) (request_names (others ++ request ∷ []))
    differs [] k e = (e, tt)
    differs (next ∷ others) k e = (k.0, differs others k.1 e)

all_at : (other : Name) (before : List Request) (request : Request) (behind : List Request) → AllByRecursion (λ name. same_name other name ≡ false) (request_names (before ++ request ∷ behind)) → same_name other request.name ≡ false
all_at other [] request behind h = h.0
all_at other (first ∷ before) request behind h = all_at other before request behind h.1

-- a request's name is the name of none before it
pub free_before : (before : List Request) (request : Request) (behind : List Request) → IsDistinct same_name (request_names (before ++ request ∷ behind)) → IsFree request.name before
unfolding IsDistinct
free_before [] request behind h = tt
free_before (other ∷ before) request behind h = (all_at other.name before request behind h.0, free_before before request behind h.1)

all_nth : (other : Name) (requests : List Request) (j : ℕ) → j < length requests → AllByRecursion (λ name. same_name other name ≡ false) (request_names requests) → same_name other (name_of_request requests j) ≡ false
all_nth other [] j small h = absurd (omega arith)
all_nth other (request ∷ requests) zero small h = h.0
all_nth other (request ∷ requests) (suc j) small h = all_nth other requests j (omega arith) h.1

found_at : (k : ℕ) (requests : List Request) (j : ℕ) → IsDistinct same_name (request_names requests) → j < length requests
    → position_from (λ r. same_name r.name (name_of_request requests j)) k requests ≡ Some (k + j)
unfolding IsDistinct
found_at k [] j h small = absurd (omega arith)
found_at k (request ∷ requests) zero h small =
    ap (λ b. cond b (Some k) (position_from (λ (r : Request). same_name r.name request.name) (k + 1) requests)) (same_name-refl request.name) ∙ ap (λ n. Some n) (omega arith)
found_at k (request ∷ requests) (suc j) h small =
    ap (λ b. cond b (Some k) (position_from (λ (r : Request). same_name r.name (name_of_request requests j)) (k + 1) requests)) (all_nth request.name requests j (omega arith) h.0)
    ∙ found_at (k + 1) requests j h.1 (omega arith) ∙ ap (λ n. Some n) (omega arith)

-- a request is found by its name
pub place_of-name : (requests : List Request) (j : ℕ) → IsDistinct same_name (request_names requests) → j < length requests → place_of (name_of_request requests j) requests ≡ Some j
place_of-name requests j h small = found_at 0 requests j h small ∙ ap (λ n. Some n) (omega arith)

-- request j has the name
pub record IsAt (name : Name) (requests : List Request) (j : ℕ) : Type 0 where
  pub there : j < length requests
  pub named : name_of_request requests j ≡ name

abbrev some : ℕ → Option ℕ
some n = Some n

the_same : (k i : ℕ) → some k ≡ some i → k ≡ i
the_same k i e = cc

either : (b : Bool) (k : ℕ) (rest : Option ℕ) (i : ℕ) {P : Type 0} → cond b (Some k) rest ≡ Some i → (b ≡ true → k ≡ i → P) → (rest ≡ Some i → P) → P
either true k rest i h first second = first refl (the_same k i h)
either false k rest i h first second = second h

named_at : (name : Name) (k : ℕ) (requests : List Request) (i : ℕ) → position_from (λ r. same_name r.name name) k requests ≡ Some i → (j : ℕ) × (i ≡ k + j) × IsAt name requests j
named_at name k [] i h = absurd cc
named_at name k (request ∷ requests) i h =
    either (same_name request.name name) k (position_from (λ (r : Request). same_name r.name name) (k + 1) requests) i h
    (λ same here. (0, omega arith, record { there = omega arith; named = one_name request.name name same }))
    (λ rest. let more = named_at name (k + 1) requests i rest in (suc more.0, omega (arith, more.1), record { there = omega (arith, more.2.there); named = more.2.named }))

-- what is found by a name has it
pub named-from_place_of : (name : Name) (requests : List Request) (i : ℕ) → place_of name requests ≡ Some i → IsAt name requests i
named-from_place_of name requests i h = let found = named_at name 0 requests i h in subst (IsAt name requests) (omega (arith, found.1)) found.2

-- the name of a request is one
pub request_is_named : (gates : ℕ) (requests : List Request) (j : ℕ) → AllByRecursion (IsRequest gates) requests → j < length requests → IsName (name_of_request requests j)
request_is_named gates [] j h small = absurd (omega arith)
request_is_named gates (request ∷ requests) zero h small = h.0.name
request_is_named gates (request ∷ requests) (suc j) h small = request_is_named gates requests j h.1 (omega arith)
