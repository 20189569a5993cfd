-- The index of requests, as it grows.
-- Used by `add_op`, `add_program`, `add_transaction`, `add_vertex` and LimitLaws.
use Rattle.std.proofs.Common.{◌≡◌, ℕ, ◌+◌, suc, Bool, true, false, cond, ◌||◌, List, [], ◌∷◌, ◌++◌, length, Option, Some, None, refl, sym, ap, ◌∙◌, subst, arith, add-one}
use Rattle.std.specs.Prelude.{is_some, count_by}
use Rattle.std.specs.List.{flat_map}
use Rattle.std.proofs.lemmas.Grind.{flat_map-append}
use Rattle.std.proofs.lemmas.List.{append-nil}
use Rattle.std.proofs.lemmas.List.Folds.{list_any-append}
use Rattle.std.proofs.lemmas.List.Sums.{fold-append, sum_by-append}
use Rattle.weave_data.specs.Names.{same_name, one_name}
use Rattle.weave_data.specs.Pairs.{at_key, has}
use Rattle.weave_data.specs.declared.name.Name.{Name}
use Rattle.graph_ops.specs.Mentions.{is_among, with_name}
use Rattle.graph_ops.specs.Operations.{is_get}
use Rattle.graph_ops.specs.declared.op.Op.{Op}
use Rattle.program_defs.specs.declared.script.Request.{Request}
use Rattle.program_defs.specs.declared.script.Work.TheVariants.{Change}
use Rattle.program_defs.specs.Works.{is_look}
use Rattle.weave_script.specs.Indexed.{IsSetOf, IsPlaces, IsNewRequest}
use Rattle.weave_script.specs.Limits.{with_names, vertices_of, vertices_of_work, vertices_of_op, count_programs, count_gets, gets_of_work}
use Rattle.weave_script.specs.Requests.{request_of}
use Rattle.weave_script.specs.Steps.{place_of}
use Rattle.weave_script.specs.declared.read.partial_script.Opening.{Opening}
use Rattle.weave_script.proofs.Keys.{same_both_ways, position_from-push_yes, position_from-push_no, position_from-last}

-- the second table is the first with this value at a name
abbrev pub Writes : {X : Type 0} → Name → X → List (List ℕ × X) → List (List ℕ × X) → Type 0
Writes name v pairs after = (other : Name) → at_key other after ≡ cond (same_name name other) (Some v) (at_key other pairs)

-- ---- sets of names

module _ {X : Type 0} where
  present : (found : Option X) → is_some found ≡ false → found ≡ None
  present None e = refl
  present (Some x) e = absurd cc

  has_put : (same : Bool) (v : X) (found : Option X) (among : Bool) → is_some found ≡ among → is_some (cond same (Some v) found) ≡ (among || (same || false))
  has_put true v found true e = refl
  has_put true v found false e = refl
  has_put false v found true e = e
  has_put false v found false e = e

  -- a table is longer by one if the name that is put in it is new
  pub one_longer : (name : Name) (found : Option X) (pairs after : List (List ℕ × X)) → found ≡ at_key name pairs → length after ≡ length pairs + cond (is_some found) 0 1 → has name pairs ≡ false → length after ≡ length pairs + 1
  one_longer name found pairs after is len new = len ∙ ap (λ b. length pairs + cond b 0 1) (ap is_some is ∙ new)

  -- a new name was put
  pub set_put : (pairs after : List (List ℕ × X)) (names : List Name) (name : Name) (v : X) → Writes name v pairs after → length after ≡ length pairs + 1 → IsSetOf pairs names → has name pairs ≡ false → IsSetOf after (with_name name names)
  set_put pairs after names name v writes more set new =
      let fresh : is_among names name ≡ false = sym (set.among name) ∙ new in
      subst (IsSetOf after) (ap (λ b. cond b names (names ++ name ∷ [])) (sym fresh)) (record {
        among = λ other.
            ap is_some (writes other ∙ ap (λ b. cond b (Some v) (at_key other pairs)) (same_both_ways name other))
            ∙ has_put (same_name other name) v (at_key other pairs) (is_among names other) (set.among other)
            ∙ ap (λ b. is_among names other || (b || false)) (same_both_ways other name)
            ∙ sym (list_any-append (λ n. same_name n other) names (name ∷ []));
        count = more ∙ add-one (length pairs) ∙ ap suc set.count ∙ sym (length_one_more names);
      })
    where
      length_one_more : (xs : List Name) → length (xs ++ name ∷ []) ≡ suc (length xs)
      length_one_more [] = refl
      length_one_more (x ∷ xs) = ap suc (length_one_more xs)

  -- a map of a set of names that has a name already is of the set with this name added
  pub set_same : (pairs : List (List ℕ × X)) (names : List Name) (name : Name) → IsSetOf pairs names → has name pairs ≡ true → IsSetOf pairs (with_name name names)
  set_same pairs names name set there = subst (IsSetOf pairs) (ap (λ b. cond b names (names ++ name ∷ [])) (sym (sym (set.among name) ∙ there))) set

-- ---- places

-- a new name was put with the place after all requests
pub places_put : (pairs after : List (List ℕ × ℕ)) (requests : List Request) (name : Name) (place : ℕ) (request : Request)
    → Writes name place pairs after → IsPlaces pairs requests → IsNewRequest name place requests → request.name ≡ name → IsPlaces after (requests ++ request ∷ [])
places_put pairs after requests name place request writes places new named other = writes other ∙ ap (λ b. cond b (Some place) (at_key other pairs)) (same_both_ways name other) ∙ go (same_name other name) refl
  where
    go : (b : Bool) → same_name other name ≡ b → cond b (Some place) (at_key other pairs) ≡ place_of other (requests ++ request ∷ [])
    go true h =
        let same : other ≡ name = one_name other name h in
        let none : place_of other requests ≡ None = subst (λ n. place_of n requests ≡ None) (sym same) new.0 in
        let here : same_name request.name other ≡ true = subst (λ n. same_name n other ≡ true) (sym named ∙ refl) (sym (same_both_ways other name) ∙ h) in
        ap (λ n. Some n) (new.1 ∙ omega arith) ∙ sym (position_from-push_yes (λ r. same_name r.name other) 0 requests request none here)
    go false h =
        let elsewhere : same_name request.name other ≡ false = ap (λ n. same_name n other) named ∙ sym (same_both_ways other name) ∙ h in
        places other ∙ sym (position_from-push_no (λ r. same_name r.name other) 0 requests request elsewhere)

-- ---- counts of one more request

-- the vertices with one more request
pub vertices_of-push : (requests : List Request) (request : Request) → vertices_of (requests ++ request ∷ []) ≡ with_names (vertices_of requests) (vertices_of_work request.work)
vertices_of-push requests request =
    ap (λ names. with_names [] names) (flat_map-append (λ (r : Request). vertices_of_work r.work) requests (request ∷ []) ∙ ap (λ more. flat_map (λ (r : Request). vertices_of_work r.work) requests ++ more) (append-nil (vertices_of_work request.work)))
    ∙ fold-append (λ so_far name. with_name name so_far) [] (flat_map (λ (r : Request). vertices_of_work r.work) requests) (vertices_of_work request.work)

-- the number of `get`s with one more request
pub gets_of-push : (requests : List Request) (request : Request) → count_gets (requests ++ request ∷ []) ≡ count_gets requests + gets_of_work request.work
gets_of-push requests request = sum_by-append (λ (r : Request). gets_of_work r.work) requests (request ∷ []) ∙ omega arith

-- the number of programs with one more request
pub programs_of-push : (requests : List Request) (request : Request) → count_programs (requests ++ request ∷ []) ≡ count_programs requests + cond (is_look request.work) 1 0
programs_of-push requests request = sum_by-append (λ (r : Request). cond (is_look r.work) 1 0) requests (request ∷ []) ∙ omega arith

-- ---- a transaction, and its operations

-- a transaction's operations leave the places of requests as they are
pub op_places : (pairs : List (List ℕ × ℕ)) (requests : List Request) (opening : Opening) (ops more : List Op)
    → IsPlaces pairs (requests ++ request_of opening (Change ops) ∷ []) → IsPlaces pairs (requests ++ request_of opening (Change more) ∷ [])
op_places pairs requests opening ops more places name =
    places name ∙ position_from-last (λ (r : Request). same_name r.name name) 0 requests (request_of opening (Change ops)) (request_of opening (Change more)) refl

-- one more operation adds its vertices
pub op_vertices : (requests : List Request) (opening : Opening) (ops : List Op) (op : Op)
    → vertices_of (requests ++ request_of opening (Change (ops ++ op ∷ [])) ∷ []) ≡ with_names (vertices_of (requests ++ request_of opening (Change ops) ∷ [])) (vertices_of_op op)
op_vertices requests opening ops op =
    vertices_of-push requests (request_of opening (Change (ops ++ op ∷ [])))
    ∙ ap (λ names. with_names (vertices_of requests) names) (flat_map-append vertices_of_op ops (op ∷ []) ∙ ap (λ more. flat_map vertices_of_op ops ++ more) (append-nil (vertices_of_op op)))
    ∙ fold-append (λ so_far name. with_name name so_far) (vertices_of requests) (flat_map vertices_of_op ops) (vertices_of_op op)
    ∙ ap (λ names. with_names names (vertices_of_op op)) (sym (vertices_of-push requests (request_of opening (Change ops))))

-- one more operation adds 1 to the number of `get`s if it is one
pub op_gets : (requests : List Request) (opening : Opening) (ops : List Op) (op : Op)
    → count_gets (requests ++ request_of opening (Change (ops ++ op ∷ [])) ∷ []) ≡ count_gets (requests ++ request_of opening (Change ops) ∷ []) + cond (is_get op) 1 0
op_gets requests opening ops op =
    let more : count_by is_get (ops ++ op ∷ []) ≡ count_by is_get ops + cond (is_get op) 1 0 = sum_by-append (λ o. cond (is_get o) 1 0) ops (op ∷ []) ∙ omega arith in
    omega (arith, gets_of-push requests (request_of opening (Change (ops ++ op ∷ []))), gets_of-push requests (request_of opening (Change ops)), more)

-- a transaction's operations leave the number of programs as it is
pub op_programs : (requests : List Request) (opening : Opening) (ops more : List Op)
    → count_programs (requests ++ request_of opening (Change more) ∷ []) ≡ count_programs (requests ++ request_of opening (Change ops) ∷ [])
op_programs requests opening ops more = programs_of-push requests (request_of opening (Change more)) ∙ sym (programs_of-push requests (request_of opening (Change ops)))

-- a transaction without operations adds no vertex
pub transaction_vertices : (requests : List Request) (opening : Opening) → vertices_of (requests ++ request_of opening (Change []) ∷ []) ≡ vertices_of requests
transaction_vertices requests opening = vertices_of-push requests (request_of opening (Change []))

-- a transaction without operations adds no program and no `get`
pub transaction_counts : (requests : List Request) (opening : Opening)
    → (count_programs (requests ++ request_of opening (Change []) ∷ []) ≡ count_programs requests) × (count_gets (requests ++ request_of opening (Change []) ∷ []) ≡ count_gets requests)
transaction_counts requests opening = (omega (arith, programs_of-push requests (request_of opening (Change []))), omega (arith, gets_of-push requests (request_of opening (Change []))))

-- one more operation that is a `get` adds 1 to the number of `get`s
pub get_more : (requests : List Request) (opening : Opening) (ops : List Op) (op : Op) → is_get op ≡ true
    → count_gets (requests ++ request_of opening (Change ops) ∷ []) + 1 ≡ count_gets (requests ++ request_of opening (Change (ops ++ op ∷ [])) ∷ [])
get_more requests opening ops op get = sym (op_gets requests opening ops op ∙ ap (λ b. count_gets (requests ++ request_of opening (Change ops) ∷ []) + cond b 1 0) get)

-- an operation that is no `get` leaves their number as it is
pub no_get_more : (requests : List Request) (opening : Opening) (ops : List Op) (op : Op) → is_get op ≡ false
    → count_gets (requests ++ request_of opening (Change ops) ∷ []) ≡ count_gets (requests ++ request_of opening (Change (ops ++ op ∷ [])) ∷ [])
no_get_more requests opening ops op none =
    let more = op_gets requests opening ops op ∙ ap (λ b. count_gets (requests ++ request_of opening (Change ops) ∷ []) + cond b 1 0) none in
    omega (arith, more)
