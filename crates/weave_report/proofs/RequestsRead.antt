-- Requests are found by their names, and named by them.
-- Used by RepliesRead, ReportAgain, ReportClean and ReportRead.
use Rattle.std.proofs.Common.{◌≡◌, ℕ, zero, suc, ◌+◌, ◌<◌, Bool, true, false, cond, List, [], ◌∷◌, ◌++◌, length, map, refl, sym, ap, ◌∙◌, subst, append_assoc, append-nil, arith}
use Rattle.std.specs.Prelude.{IsTrue, Option, Some, None, Ok, IsSomeAnd, option_and_then, slice_get}
use Rattle.std.specs.Cmp.{eq_by_cmp_equiv}
use Rattle.std.specs.Cmp.Lexicographic.{nat_list_cmp_total}
use Rattle.std.specs.List.{AllByRecursion, IsDistinct}
use Rattle.std.specs.Option.{option_map_or}
use Rattle.std.proofs.lemmas.Bool.{cond-true, cond-false, lt-ltb, ltb-true}
use Rattle.std.proofs.lemmas.Map.Keys.{IsDistinct-head, IsDistinct-tail}
use Rattle.std.proofs.lemmas.Option.{cond_some}
use Rattle.vector_stamp.specs.declared.clock.Stamp.{Stamp}
use Rattle.weave_data.specs.Names.{one_name, same_name}
use Rattle.weave_data.specs.declared.name.Name.{Name}
use Rattle.graph_ops.specs.declared.op.Op.{Op}
use Rattle.program_defs.specs.declared.program.Program.{Program}
use Rattle.program_defs.specs.declared.script.Request.{Request}
use Rattle.program_defs.specs.declared.script.Script.{Script}
use Rattle.program_defs.specs.declared.script.Work.{Work}
use Rattle.program_defs.specs.declared.script.Work.TheVariants.{Change, Look}
use Rattle.weave_report.specs.declared.fault.ReportCause.TheVariants as cause
use Rattle.report_rules.specs.declared.report.ReplyState.{ReplyState}
use Rattle.program_defs.specs.Works.{is_look, ops_of}
use Rattle.weave_report.specs.ReadingReplies.{any_named, kind_named, named_from, of_kind, ops_of_request, program_named, look_of_work, request_from, request_named}
use Rattle.report_rules.specs.ReportOf.{MatchesWork, is_request_of}
use Rattle.weave_report.specs.ReportText.{name_at}
use Rattle.weave_report.specs.TextOf.{IsName, IsTypedScript, HasDistinctNames, request_names}
use Rattle.report_rules.specs.Lookups.{is_program, request_at}
use Rattle.weave_data.proofs.Steps.{bind_ok, ok_is}
use Rattle.weave_report.proofs.ReadSteps.{then_ok, or_cause_read, or_cause_again}

-- the name of the request of this number
abbrev name_in_place : List Request → ℕ → Name
name_in_place requests r = option_map_or (λ (request : Request). request.name) (slice_get requests r) []

-- a request's number among those from n on
record IsFoundAt (n r : ℕ) (name : Name) (requests : List Request) : Type 0 where
  place : ℕ
  number : r ≡ n + place
  within : place < length requests
  named : name_in_place requests place ≡ name

found_read : (n : ℕ) (name : Name) (requests : List Request) (r : ℕ) → request_from n name requests ≡ Some r → IsFoundAt n r name requests
found_read n name [] r e = absurd cc
found_read n name (request ∷ requests) r e = by_test (same_name request.name name) refl e (λ k. found_read (n + 1) name requests r k)
  where
    by_test : (b : Bool) → same_name request.name name ≡ b → cond b (Some n) (request_from (n + 1) name requests) ≡ Some r
        → (request_from (n + 1) name requests ≡ Some r → IsFoundAt (n + 1) r name requests) → IsFoundAt n r name (request ∷ requests)
    by_test true h k more = let same : n ≡ r = cc in record { place = 0; number = omega (arith, same); within = omega arith; named = one_name request.name name h }
    by_test false h k more =
        let rest = more k in
        record { place = suc rest.place; number = omega (arith, rest.number); within = omega (arith, rest.within); named = rest.named }

-- a request of this name
pub record IsNamed (script : Script) (name : Name) (r : ℕ) : Type 0 where
  pub within : r < length script.requests
  pub named : name ≡ name_at script r

-- the number that a name gives is that of a request with this name
pub named_read : (script : Script) (name : Name) (r : ℕ) → request_named script name ≡ Some r → IsNamed script name r
named_read script name r e =
    let found = found_read 0 name script.requests r e in
    let same : r ≡ found.place = omega (arith, found.number) in
    record { within = omega (arith, found.within, same); named = sym found.named ∙ ap (name_in_place script.requests) (sym same) }

differs_at : (first : Name) (requests : List Request) (i : ℕ) → AllByRecursion (λ name. same_name first name ≡ false) (request_names requests) → i < length requests → same_name first (name_in_place requests i) ≡ false
differs_at first [] i h k = absurd (omega arith)
differs_at first (request ∷ requests) zero h k = h.0
differs_at first (request ∷ requests) (suc i) h k = differs_at first requests i h.1 (omega arith)

found_again : (n : ℕ) (requests : List Request) (i : ℕ) → IsDistinct same_name (request_names requests) → i < length requests → request_from n (name_in_place requests i) requests ≡ Some (n + i)
found_again n [] i h k = absurd (omega arith)
found_again n (request ∷ requests) zero h k =
    let e : n ≡ n + 0 = omega arith in
    cond-true (same_name request.name request.name) _ _ ((eq_by_cmp_equiv nat_list_cmp_total).refl request.name) ∙ ap (λ (n : ℕ). Some n) e
found_again n (request ∷ requests) (suc i) h k =
    let e : (n + 1) + i ≡ n + suc i = omega arith in
    cond-false (same_name request.name (name_in_place requests i)) _ _ (differs_at request.name requests i (IsDistinct-head same_name request.name (request_names requests) h) (omega arith))
    ∙ found_again (n + 1) requests i (IsDistinct-tail same_name request.name (request_names requests) h) (omega arith) ∙ ap (λ (n : ℕ). Some n) e

-- a request is found by its name
pub named_again : (script : Script) (r : ℕ) → HasDistinctNames script → r < length script.requests → request_named script (name_at script r) ≡ Some r
named_again script r h k = let e : 0 + r ≡ r = omega arith in found_again 0 script.requests r h.distinct k ∙ ap (λ (n : ℕ). Some n) e

named_in_place : (requests : List Request) (i : ℕ) → AllByRecursion IsName (request_names requests) → i < length requests → IsName (name_in_place requests i)
named_in_place [] i h k = absurd (omega arith)
named_in_place (request ∷ requests) zero h k = h.0
named_in_place (request ∷ requests) (suc i) h k = named_in_place requests i h.1 (omega arith)

-- a request's name is a name
pub name_is_name : (script : Script) (r : ℕ) → IsTypedScript script → r < length script.requests → IsName (name_at script r)
name_is_name script r h k = named_in_place script.requests r h.names k

-- a number below the number of requests is one of a request
pub is_request : (script : Script) (r : ℕ) → r < length script.requests → IsTrue (is_request_of script r)
is_request script r h = lt-ltb r (length script.requests) h

-- the number of a request is below the number of requests
pub request_within : (script : Script) (r : ℕ) → IsTrue (is_request_of script r) → r < length script.requests
request_within script r h = ltb-true r (length script.requests) h

-- ---- any request

-- the number that was read for a name is that of a request with this name
pub any_read : (script : Script) (name : Name) (r : ℕ) → any_named script name ≡ Ok r → IsNamed script name r
any_read script name r e = named_read script name r (or_cause_read cause.Request (request_named script name) r e)

-- a request's name is read as its number
pub any_again : (script : Script) (r : ℕ) → HasDistinctNames script → r < length script.requests → any_named script (name_at script r) ≡ Ok r
any_again script r h k = or_cause_again cause.Request (request_named script (name_at script r)) r (named_again script r h k)

-- the requests of these names, and nothing more
pub record AreNamed (script : Script) (before : List ℕ) (names : List Name) (order : List ℕ) : Type 0 where
  pub own : List ℕ
  pub behind : order ≡ before ++ own
  pub named : names ≡ map (name_at script) own
  pub each : AllByRecursion (λ r. IsTrue (is_request_of script r)) own

-- the numbers that were read for names are those of requests with these names
pub all_read : (script : Script) (before : List ℕ) (names : List Name) (order : List ℕ) → named_from script before names ≡ Ok order → AreNamed script before names order
all_read script before [] order e = record { own = []; behind = sym (ok_is before order e) ∙ sym (append-nil before); named = refl; each = tt }
all_read script before (name ∷ names) order e =
    let one = bind_ok _ _ order e in
    let read = any_read script name one.0 one.1 in
    let rest = all_read script (before ++ one.0 ∷ []) names order one.2 in
    record {
      own = one.0 ∷ rest.own;
      behind = rest.behind ∙ append_assoc before (one.0 ∷ []) rest.own;
      named = λ i. read.named i ∷ rest.named i;
      each = (is_request script one.0 read.within, rest.each);
    }

-- requests' names are read as their numbers
pub all_again : (script : Script) (before order : List ℕ) → HasDistinctNames script → AllByRecursion (λ r. IsTrue (is_request_of script r)) order → named_from script before (map (name_at script) order) ≡ Ok (before ++ order)
all_again script before [] h k = ap (λ (order : List ℕ). Ok order) (sym (append-nil before))
all_again script before (r ∷ order) h k =
    then_ok _ _ r _ (any_again script r h (request_within script r k.0))
    (all_again script (before ++ r ∷ []) order h k.1 ∙ ap (λ (order : List ℕ). Ok order) (append_assoc before (r ∷ []) order))

-- if a script is typed, the names of requests of it are names
pub names_told : (script : Script) (order : List ℕ) → IsTypedScript script → AllByRecursion (λ r. IsTrue (is_request_of script r)) order → AllByRecursion IsName (map (name_at script) order)
names_told script [] h k = tt
names_told script (r ∷ order) h k = (name_is_name script r h (request_within script r k.0), names_told script order h k.1)

-- ---- programs and transactions

kept_kind : (program : Bool) (script : Script) (o : Option ℕ) (r : ℕ) → option_and_then (of_kind program script) o ≡ Some r → (is_program script r ≡ program) × (o ≡ Some r)
kept_kind program script None r e = absurd cc
kept_kind true script (Some q) r e =
    let read = cond_some (is_program script q) q r e in
    (ap (is_program script) (sym read.1) ∙ read.0, ap (λ (q : ℕ). Some q) read.1)
kept_kind false script (Some q) r e = by_test (is_program script q) refl e
  where
    by_test : (b : Bool) → is_program script q ≡ b → cond b None (Some q) ≡ Some r → (is_program script r ≡ false) × (Some q ≡ Some r)
    by_test true h k = absurd cc
    by_test false h k = let same : q ≡ r = cc in (ap (is_program script) (sym same) ∙ h, k)

-- a request of this name and kind
pub record IsOfKind (program : Bool) (script : Script) (name : Name) (r : ℕ) : Type 0 where
  pub kind : is_program script r ≡ program
  pub within : r < length script.requests
  pub named : name ≡ name_at script r

-- the number that was read for a name of this kind is that of such a request
pub kind_read : (program : Bool) (script : Script) (name : Name) (r : ℕ) → kind_named program script name ≡ Ok r → IsOfKind program script name r
kind_read program script name r e =
    let read = kept_kind program script (request_named script name) r (or_cause_read cause.Request (option_and_then (of_kind program script) (request_named script name)) r e) in
    let named = named_read script name r read.1 in
    record { kind = read.0; within = named.within; named = named.named }

of_kind-is : (program : Bool) (script : Script) (r : ℕ) → is_program script r ≡ program → of_kind program script r ≡ Some r
of_kind-is true script r h = cond-true (is_program script r) _ _ h
of_kind-is false script r h = cond-false (is_program script r) _ _ h

-- a request's name is read as its number, if it is of the kind
pub kind_again : (program : Bool) (script : Script) (r : ℕ) → HasDistinctNames script → r < length script.requests → is_program script r ≡ program → kind_named program script (name_at script r) ≡ Ok r
kind_again program script r h k kind =
    or_cause_again cause.Request (option_and_then (of_kind program script) (request_named script (name_at script r))) r
    (ap (option_and_then (of_kind program script)) (named_again script r h k) ∙ of_kind-is program script r kind)

-- ---- what can be said of a request

-- a place below the length has an element
pub in_place : {X : Type 0} (xs : List X) (i : ℕ) → i < length xs → (x : X) × (slice_get xs i ≡ Some x)
in_place [] i h = absurd (omega arith)
in_place (x ∷ xs) zero h = (x, refl)
in_place (x ∷ xs) (suc i) h = in_place xs i (omega arith)

change_told : (script : Script) (work : Work) (stamp : Option Stamp) (state : ReplyState) → is_look work ≡ false → ((ops : List Op) → ops_of work ≡ ops → MatchesWork script (Change ops) stamp state) → MatchesWork script work stamp state
change_told script (Change ops) stamp state h told = told ops refl
change_told script (Look program) stamp state h told = absurd cc

look_told : (script : Script) (work : Work) (stamp : Option Stamp) (state : ReplyState) → is_look work ≡ true → ((program : Program) → look_of_work work ≡ Some program → MatchesWork script (Look program) stamp state) → MatchesWork script work stamp state
look_told script (Change ops) stamp state h told = absurd cc
look_told script (Look program) stamp state h told = told program refl

-- what a line can say of a request
abbrev pub MatchesWorkAt : Script → ℕ → Option Stamp → ReplyState → Type 0
MatchesWorkAt script r stamp state = IsSomeAnd (request_at script r) (λ (request : Request). MatchesWork script request.work stamp state)

-- a state that fits a transaction's operations fits the request
pub transaction_told : (script : Script) (r : ℕ) (stamp : Option Stamp) (state : ReplyState) → r < length script.requests → is_program script r ≡ false
    → ((ops : List Op) → ops_of_request script r ≡ ops → MatchesWork script (Change ops) stamp state) → MatchesWorkAt script r stamp state
transaction_told script r stamp state h kind told =
    let at = in_place script.requests r h in
    let Told : Option Request → Type 0 = λ o. IsSomeAnd o (λ (request : Request). MatchesWork script request.work stamp state) in
    let look : is_look at.0.work ≡ false = sym (ap (λ (o : Option Request). option_map_or (λ (request : Request). is_look request.work) o false) at.1) ∙ kind in
    subst Told (sym at.1) (change_told script at.0.work stamp state look (λ ops e. told ops (ap (λ (o : Option Request). option_map_or (λ (request : Request). ops_of request.work) o []) at.1 ∙ e)))

-- the work of a request that is there
pub work_is : (script : Script) (r : ℕ) (stamp : Option Stamp) (state : ReplyState) → MatchesWorkAt script r stamp state
    → (request : Request) × (request_at script r ≡ Some request) × MatchesWork script request.work stamp state
work_is script r stamp state h = given (request_at script r) refl h
  where
    given : (o : Option Request) → request_at script r ≡ o → IsSomeAnd o (λ (request : Request). MatchesWork script request.work stamp state) → (request : Request) × (request_at script r ≡ Some request) × MatchesWork script request.work stamp state
    given None e k = absurd k
    given (Some request) e k = (request, e, k)

-- a place with an element is below the length
pub within_place : {X : Type 0} (xs : List X) (i : ℕ) (x : X) → slice_get xs i ≡ Some x → i < length xs
within_place [] i x e = absurd cc
within_place (y ∷ xs) zero x e = omega arith
within_place (y ∷ xs) (suc i) x e = let more = within_place xs i x e in omega (arith, more)

-- a program of this name
pub record IsProgramAt (script : Script) (name : Name) (r : ℕ) (program : Program) : Type 0 where
  pub request : Request
  pub there : request_at script r ≡ Some request
  pub work : request.work ≡ Look program
  pub named : name ≡ name_at script r

-- the program of a request, with its number
abbrev program_of_work : ℕ → Work → Option (ℕ × Program)
program_of_work r work = option_and_then (λ (program : Program). Some (r, program)) (look_of_work work)

abbrev program_at : Script → ℕ → Option (ℕ × Program)
program_at script r = option_and_then (λ (request : Request). program_of_work r request.work) (request_at script r)

abbrev first_part : Option (ℕ × Program) → ℕ
first_part None = 0
first_part (Some pair) = pair.0

abbrev second_part : Program → Option (ℕ × Program) → Program
second_part other None = other
second_part other (Some pair) = pair.1

pair_parts : (a b : ℕ) (p s : Program) → ◌≡◌ {A = Option (ℕ × Program)} (Some (a, p)) (Some (b, s)) → (a ≡ b) × (p ≡ s)
pair_parts a b p s e = (ap first_part e, ap (second_part p) e)

at_work : (script : Script) (name : Name) (q : ℕ) (request : Request) (work : Work) (r : ℕ) (program : Program) → request_named script name ≡ Some q → request_at script q ≡ Some request → request.work ≡ work
    → program_of_work q work ≡ Some (r, program) → IsProgramAt script name r program
at_work script name q request (Change ops) r program e h w k = absurd cc
at_work script name q request (Look own) r program e h w k =
    let parts = pair_parts q r own program k in
    record {
      request = request;
      there = ap (request_at script) (sym parts.0) ∙ h;
      work = w ∙ ap (λ program. Look program) parts.1;
      named = (named_read script name q e).named ∙ ap (name_at script) parts.0;
    }

at_request : (script : Script) (name : Name) (q : ℕ) (o : Option Request) (r : ℕ) (program : Program) → request_named script name ≡ Some q → request_at script q ≡ o
    → option_and_then (λ (request : Request). program_of_work q request.work) o ≡ Some (r, program) → IsProgramAt script name r program
at_request script name q None r program e h k = absurd cc
at_request script name q (Some request) r program e h k = at_work script name q request request.work r program e h refl k

program_from : (script : Script) (name : Name) (o : Option ℕ) (r : ℕ) (program : Program) → request_named script name ≡ o → option_and_then (program_at script) o ≡ Some (r, program) → IsProgramAt script name r program
program_from script name None r program e k = absurd cc
program_from script name (Some q) r program e k = at_request script name q (request_at script q) r program e refl k

-- the program that a name gives is that of a request with this name
pub program_read : (script : Script) (name : Name) (r : ℕ) (program : Program) → program_named script name ≡ Some (r, program) → IsProgramAt script name r program
program_read script name r program e = program_from script name (request_named script name) r program refl e

-- a program is found by its name
pub program_again : (script : Script) (r : ℕ) (request : Request) (program : Program) → HasDistinctNames script → request_at script r ≡ Some request → request.work ≡ Look program → program_named script (name_at script r) ≡ Some (r, program)
program_again script r request program h e w =
    ap (option_and_then (program_at script)) (named_again script r h (within_place script.requests r request e))
    ∙ ap (option_and_then (λ (request : Request). program_of_work r request.work)) e
    ∙ ap (program_of_work r) w
