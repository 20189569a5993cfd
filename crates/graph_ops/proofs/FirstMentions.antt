-- Names in order of first mention, a name at a time.
-- Used by `named` and crate order_witness.
use Rattle.std.proofs.Common.{◌≡◌, ℕ, ◌+◌, ◌<◌, length, get_or, drop, Bool, true, false, not, cond, ◌||◌, List, [], ◌∷◌, ◌++◌, refl, sym, ap, ◌∙◌, append_assoc, add-one}
use Rattle.std.proofs.Math.Seq.{drop-cons}
use Rattle.std.specs.List.{filter, flat_map}
use Rattle.std.proofs.lemmas.List.Folds.{list_any-append}
use Rattle.graph_ops.specs.Mentions.{is_among, named_by_op, with_all_names, with_name, first_mentions}
use Rattle.graph_ops.specs.declared.op.Op.{Op}
use Rattle.weave_data.specs.declared.name.Name.{Name}
use Rattle.weave_data.specs.Names.{same_name, one_name}

-- those that are not among the names
abbrev pub fresh : List Name → List Name → List Name
fresh names more = filter (λ w. not (is_among names w)) more

-- those that are not this name
abbrev pub others : Name → List Name → List Name
others v more = filter (λ w. not (same_name v w)) more

or_true : (b : Bool) → b || (true || false) ≡ true
or_true true = refl
or_true false = refl

or_false : (b : Bool) → b || (false || false) ≡ b
or_false true = refl
or_false false = refl

seen : (names more : List Name) (v : Name) → is_among names v ≡ true → fresh names (others v more) ≡ fresh names more
seen names [] v h = refl
seen names (w ∷ more) v h =
    elim (same_name v w) as (λ b. same_name v w ≡ b → fresh names (cond (not b) (w ∷ others v more) (others v more)) ≡ fresh names (w ∷ more)) [
      | true ↦ λ e. seen names more v h ∙ sym (ap (λ b. cond (not b) (w ∷ fresh names more) (fresh names more)) (ap (is_among names) (sym (one_name v w e)) ∙ h))
      | false ↦ λ e. ap (λ rest. cond (not (is_among names w)) (w ∷ rest) rest) (seen names more v h)
    ] refl

new : (names more : List Name) (v : Name) → fresh names (others v more) ≡ fresh (names ++ v ∷ []) more
new names [] v = refl
new names (w ∷ more) v =
    let all = names ++ v ∷ [] in
    elim (same_name v w) as (λ b. same_name v w ≡ b → fresh names (cond (not b) (w ∷ others v more) (others v more)) ≡ fresh all (w ∷ more)) [
      | true ↦ λ e. new names more v ∙ sym (ap (λ b. cond (not b) (w ∷ fresh all more) (fresh all more)) (list_any-append (λ other. same_name other w) names (v ∷ []) ∙ ap (λ b. is_among names w || (b || false)) e ∙ or_true (is_among names w)))
      | false ↦ λ e. ap (λ rest. cond (not (is_among names w)) (w ∷ rest) rest) (new names more v) ∙ ap (λ b. cond (not b) (w ∷ fresh all more) (fresh all more)) (sym (list_any-append (λ other. same_name other w) names (v ∷ []) ∙ ap (λ b. is_among names w || (b || false)) e ∙ or_false (is_among names w)))
    ] refl

-- to add v to names and then the new names of a list is to add the new names of v and the list's others
pub mentioned : (names more : List Name) (v : Name) → with_name v names ++ fresh (with_name v names) more ≡ names ++ fresh names (v ∷ others v more)
mentioned names more v =
    elim (is_among names v) as (λ b. is_among names v ≡ b → cond b names (names ++ v ∷ []) ++ fresh (cond b names (names ++ v ∷ [])) more ≡ names ++ cond (not b) (v ∷ fresh names (others v more)) (fresh names (others v more))) [
      | true ↦ λ e. ap (λ rest. names ++ rest) (sym (seen names more v e))
      | false ↦ λ e. append_assoc names (v ∷ []) _ ∙ ap (λ rest. names ++ v ∷ rest) (sym (new names more v))
    ] refl

-- if no name was mentioned before, all are fresh
pub fresh_none : (names : List Name) → fresh [] names ≡ names
fresh_none [] = refl
fresh_none (v ∷ rest) = ap (λ names. v ∷ names) (fresh_none rest)

-- to add some names and then the new names of a list is to add the new names of both
pub all_mentioned : (xs more names : List Name) → with_all_names xs names ++ fresh (with_all_names xs names) (first_mentions more) ≡ names ++ fresh names (first_mentions (xs ++ more))
all_mentioned [] more names = refl
all_mentioned (v ∷ xs) more names = all_mentioned xs more (with_name v names) ∙ mentioned names (first_mentions (xs ++ more)) v

-- to add the names of operation i and then those after it is to add the names of all from i on
pub mentions_more : (names : List Name) (ops : List Op) (i : ℕ) (op : Op) → i < length ops → op ≡ get_or ops i op → with_all_names (named_by_op op) names ++ fresh (with_all_names (named_by_op op) names) (first_mentions (flat_map named_by_op (drop (i + 1) ops))) ≡ names ++ fresh names (first_mentions (flat_map named_by_op (drop i ops)))
mentions_more names ops i op inside is = all_mentioned (named_by_op op) (flat_map named_by_op (drop (i + 1) ops)) names ∙ ap (λ rest. names ++ fresh names (first_mentions (flat_map named_by_op rest))) {x = op ∷ drop (i + 1) ops} (sym here)
  where
    here : drop i ops ≡ op ∷ drop (i + 1) ops
    here = drop-cons ops i op inside ∙ rw (← is, add-one) refl
