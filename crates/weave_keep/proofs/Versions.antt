-- The requests of a script that is within its limits can be kept: each has operations of a version of its own.
use Rattle.std.proofs.Common.{◌≡◌, ℕ, zero, suc, ◌<◌, ◌≤◌, Bool, true, false, ◌||◌, List, [], ◌∷◌, length, get_or, refl, sym, ap, ◌∙◌, subst, arith}
use Rattle.std.proofs.lemmas.Bool.{both_ways}
use Rattle.std.specs.List.{AllByRecursion}
use Rattle.weave_data.specs.Limits.{most_ops, most_requests}
use Rattle.graph_ops.specs.declared.op.Op.{Op}
use Rattle.graph_ops.specs.declared.op.Op.TheVariants.{Create, Delete, Set, Unset, Link, Join, Unlink, Tag, Untag, Get}
use Rattle.program_defs.specs.Works.{ops_of}
use Rattle.program_defs.specs.declared.script.Request.{Request}
use Rattle.weave_script.specs.ScriptLines.{is_join}
use Rattle.weave_script.specs.Scripts.{IsOfVersion, IsRequestOf}
use Rattle.store_journal.specs.Payloads.{has_join}
use Rattle.weave_keep.specs.Keepable.{AreKeptRequests, IsKeptRequest}

-- of version 2 and no join: of version 1
without_join : (op : Op) → IsOfVersion true op → is_join op ≡ false → IsOfVersion false op
without_join (Create v) is free = refl
without_join (Delete v) is free = refl
without_join (Set v key value) is free = refl
without_join (Unset v key) is free = refl
without_join (Link v name target) is free = refl
without_join (Join v name target) is free = absurd (both_ways true free refl)
without_join (Unlink v name) is free = refl
without_join (Tag v name key value) is free = refl
without_join (Untag v name key) is free = refl
without_join (Get v) is free = refl

-- of version 1: no join
no_join : (op : Op) → IsOfVersion false op → is_join op ≡ false
no_join (Create v) is = refl
no_join (Delete v) is = refl
no_join (Set v key value) is = refl
no_join (Unset v key) is = refl
no_join (Link v name target) is = refl
no_join (Join v name target) is = absurd (cc)
no_join (Unlink v name) is = refl
no_join (Tag v name key value) is = refl
no_join (Untag v name key) is = refl
no_join (Get v) is = refl

no_joins : (ops : List Op) → AllByRecursion (IsOfVersion false) ops → has_join ops ≡ false
no_joins [] all = refl
no_joins (op ∷ ops) (is, all) = ap (λ (b : Bool). b || has_join ops) (no_join op is) ∙ no_joins ops all

-- neither holds if not one of both does
neither : (a b : Bool) → (a || b) ≡ false → (a ≡ false) × (b ≡ false)
neither true b free = absurd (both_ways true free refl)
neither false b free = (refl, free)

without_joins : (ops : List Op) → AllByRecursion (IsOfVersion true) ops → has_join ops ≡ false → AllByRecursion (IsOfVersion false) ops
without_joins [] all free = tt
without_joins (op ∷ ops) (is, all) free = let both = neither (is_join op) (has_join ops) free in (without_join op is both.0, without_joins ops all both.1)

-- the operations of a transaction are of the version that has them all
of_own_version : (joins : Bool) (ops : List Op) → AllByRecursion (IsOfVersion joins) ops → AllByRecursion (IsOfVersion (has_join ops)) ops
of_own_version false ops all = subst (λ (b : Bool). AllByRecursion (IsOfVersion b) ops) (sym (no_joins ops all)) all
of_own_version true ops all = at (has_join ops) refl
  where
    at : (b : Bool) → has_join ops ≡ b → AllByRecursion (IsOfVersion (has_join ops)) ops
    at true is = subst (λ (b : Bool). AllByRecursion (IsOfVersion b) ops) (sym is) all
    at false is = subst (λ (b : Bool). AllByRecursion (IsOfVersion b) ops) (sym is) (without_joins ops all is)

each_kept : (joins : Bool) (requests : List Request) → AllByRecursion (IsRequestOf joins) requests → AllByRecursion (λ (request : Request). length (ops_of request.work) ≤ most_ops) requests → AllByRecursion IsKeptRequest requests
each_kept joins [] versions few = tt
each_kept joins (request ∷ requests) (version, versions) (few, all_few) = (record { few = few; version = of_own_version joins (ops_of request.work) version }, each_kept joins requests versions all_few)

-- so all requests of a script can be kept
pub all_kept : (joins : Bool) (requests : List Request) → AllByRecursion (IsRequestOf joins) requests → AllByRecursion (λ (request : Request). length (ops_of request.work) ≤ most_ops) requests → length requests ≤ most_requests → AreKeptRequests requests
all_kept joins requests versions few short = record { few = omega (arith, short); each = each_kept joins requests versions few }

-- what holds of each holds of the one at this place
pub holds_at : {X : Type 0} (P : X → Type 0) (xs : List X) (place : ℕ) (x : X) → AllByRecursion P xs → place < length xs → x ≡ get_or xs place x → P x
holds_at P [] place x all inside is = absurd (omega arith)
holds_at P (y ∷ xs) zero x (holds, all) inside is = subst P (sym is) holds
holds_at P (y ∷ xs) (suc place) x (holds, all) inside is = holds_at P xs place x all (omega arith) is
