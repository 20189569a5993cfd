-- What is added by one author.
-- Used by `add`, `add_range`, `add_to_both` and `five_noted`.
use Rattle.std.proofs.Common.{◌≡◌, ℕ, suc, ◌+◌, ◌-◌, ◌≤◌, eqb, cond, Bool, List, [], ◌∷◌, ◌++◌, sym, ap, ◌∙◌, subst, arith, append_assoc, eq-eqb}
use Rattle.std.specs.Prelude.{Result, Ok, Err, OnOk, OnErr}
use Rattle.std.proofs.lemmas.List.{append-nil}
use Rattle.std.proofs.lemmas.List.Elements.{filter-append, All-nil, All-cons}
use Rattle.std.proofs.lemmas.List.FromFn.{map-range_with_len_more}
use mathlib.Core.List.{IsPrefix}
use Rattle.chronicle.specs.declared.pass.Pass.{Pass}
use Rattle.chronicle.specs.Logs.{entries_of, Follows}
use Rattle.chronicle.specs.Passes.{number_of, seen_by_pass, own_entries}
use Rattle.chronicle_keeper.specs.Totals.{numbered_by}
use Rattle.chronicle_keeper.specs.Additions.{HasAdded}

-- the log after an entry was added, or refused, goes on from what was seen before
pub seen_grows : {A R : Type 0} (seen_by_pass entered before after last : List A) (x : A) (r : Result (Unit {0}) R) → IsPrefix seen_by_pass entered → before ≡ entered → OnOk r (after ≡ before ++ x ∷ []) → OnErr r (after ≡ before) → last ≡ after → IsPrefix seen_by_pass last
seen_grows {A = A} seen_by_pass entered before after last x (Ok u) p same added kept is = (p.0 ++ x ∷ [], sym (append_assoc seen_by_pass p.0 (x ∷ [])) ∙ (ap (λ (l : List A). l ++ x ∷ []) (p.1 ∙ sym same) ∙ (sym added ∙ sym is)))
seen_grows seen_by_pass entered before after last x (Err e) p same added kept is = (p.0, p.1 ∙ (sym same ∙ (sym kept ∙ sym is)))

-- and it follows on what was there at entry
pub follows : {R : Type 0} (n author value : ℕ) (entered before after : List (ℕ × ℕ)) (r : Result (Unit {0}) R) → author ≡ n → before ≡ entered → OnOk r (after ≡ before ++ (author, value) ∷ []) → OnErr r (after ≡ before) → Follows n entered after
follows n author value entered before after (Ok u) is same added kept = let P : ℕ × ℕ → Type 0 = λ e. e.0 ≡ n in ((author, value) ∷ [], ap (λ (l : List (ℕ × ℕ)). l ++ (author, value) ∷ []) (sym same) ∙ sym added, All-cons P (author, value) [] is (All-nil P))
follows n author value entered before after (Err e) is same added kept = let P : ℕ × ℕ → Type 0 = λ e. e.0 ≡ n in ([], append-nil entered ∙ (sym same ∙ sym kept), All-nil P)

one_entry : (n author value : ℕ) → author ≡ n → entries_of n ((author, value) ∷ []) ≡ (n, value) ∷ []
one_entry n author value is = subst (λ (b : Bool). cond {A = List (ℕ × ℕ)} b ((author, value) ∷ []) [] ≡ (n, value) ∷ []) (sym (eq-eqb author n is)) (λ i. (is i, value) ∷ [])

-- the author's own entries have grown by what was added
pub own_grows : {R : Type 0} (n m author value : ℕ) (entered before after last own_entries : List (ℕ × ℕ)) (r : Result (Unit {0}) R) → m ≡ n → entries_of n entered ≡ own_entries → author ≡ n → before ≡ entered → OnOk r (after ≡ before ++ (author, value) ∷ []) → last ≡ after → OnOk r (entries_of m last ≡ own_entries ++ (n, value) ∷ [])
own_grows n m author value entered before after last own_entries (Ok u) still had is same added now =
    ap (λ (k : ℕ). entries_of k last) still ∙ (ap (entries_of n) (now ∙ added) ∙ (filter-append (λ e. eqb e.0 n) before ((author, value) ∷ [])
    ∙ (ap (λ (l : List (ℕ × ℕ)). l ++ entries_of n ((author, value) ∷ [])) (ap (entries_of n) same ∙ had) ∙ ap (λ (l : List (ℕ × ℕ)). own_entries ++ l) (one_entry n author value is))))
own_grows n m author value entered before after last own_entries (Err e) still had is same added now = tt

-- or have stayed, if it was refused
own_kept : {R : Type 0} (n m : ℕ) (entered before after last own_entries : List (ℕ × ℕ)) (r : Result (Unit {0}) R) → m ≡ n → entries_of n entered ≡ own_entries → before ≡ entered → OnErr r (after ≡ before) → last ≡ after → OnErr r (entries_of m last ≡ own_entries)
own_kept n m entered before after last own_entries (Ok u) still had same kept now = tt
own_kept n m entered before after last own_entries (Err e) still had same kept now = ap (λ (k : ℕ). entries_of k last) still ∙ (ap (entries_of n) (now ∙ (kept ∙ same)) ∙ had)

one_or_none : {R : Type 0} (value : ℕ) (a b : Pass ℕ) (r : Result (Unit {0}) R) → number_of b ≡ number_of a → OnOk r (own_entries b ≡ own_entries a ++ (number_of a, value) ∷ []) → OnErr r (own_entries b ≡ own_entries a) → HasAdded value 1 a b
one_or_none value a b (Ok u) number added kept = record { number_is = number; count = 1; few = omega arith; own_is = added }
one_or_none value a b (Err e) number added kept = record { number_is = number; count = 0; few = omega arith; own_is = kept ∙ sym (append-nil (own_entries a)) }

-- what a hold adds to a tally
pub held_added : {R : Type 0} (a b : Pass ℕ) (author value : ℕ) (entered before after : List (ℕ × ℕ)) (r : Result (Unit {0}) R) → number_of b ≡ number_of a → entries_of (number_of a) entered ≡ own_entries a → author ≡ number_of a → before ≡ entered → OnOk r (after ≡ before ++ (author, value) ∷ []) → OnErr r (after ≡ before) → seen_by_pass b ≡ after → HasAdded value 1 a b
held_added a b author value entered before after r still had is same added kept now = one_or_none value a b r still (own_grows (number_of a) (number_of b) author value entered before after (seen_by_pass b) (own_entries a) r still had is same added now) (own_kept (number_of a) (number_of b) entered before after (seen_by_pass b) (own_entries a) r still had same kept now)

-- an author's numbers up to a value, and then the value, are its numbers up to the next
pub numbered_more : (author from value : ℕ) (own_entries before after : List (ℕ × ℕ)) → from ≤ value → before ≡ own_entries ++ numbered_by author from (value - from) → after ≡ before ++ (author, value) ∷ [] → after ≡ own_entries ++ numbered_by author from (value + 1 - from)
numbered_more author from value own_entries before after low was added =
    let more : numbered_by author from (value - from + 1) ≡ numbered_by author from (value - from) ++ (author, value) ∷ [] = map-range_with_len_more (λ (v : ℕ). (author, v)) from (value - from) value (omega arith) in
    let n : value - from + 1 ≡ value + 1 - from = omega arith in
    added ∙ (ap (λ (l : List (ℕ × ℕ)). l ++ (author, value) ∷ []) was ∙ (append_assoc own_entries (numbered_by author from (value - from)) ((author, value) ∷ [])
    ∙ (ap (λ (l : List (ℕ × ℕ)). own_entries ++ l) (sym more) ∙ ap (λ (k : ℕ). own_entries ++ numbered_by author from k) n)))

-- the first three numbers, and then up to two more
pub three_and_more : (a b c d : Pass ℕ) → HasAdded 0 3 a b → own_entries b ≡ own_entries a ++ numbered_by (number_of a) 0 3 → number_of c ≡ number_of b → seen_by_pass c ≡ seen_by_pass b → HasAdded 3 2 c d → HasAdded 0 5 a d
three_and_more a b c d first full number same more = let n : number_of c ≡ number_of a = number ∙ first.number_is in
    let had : own_entries c ≡ own_entries a ++ numbered_by (number_of a) 0 3 = ap (λ (k : ℕ). entries_of k (seen_by_pass c)) number ∙ (ap (entries_of (number_of b)) same ∙ full) in record {
      number_is = more.number_is ∙ n;
      count = suc (suc (suc more.count));
      few = omega (arith, more.few);
      own_is = more.own_is ∙ (ap (λ (l : List (ℕ × ℕ)). l ++ numbered_by (number_of c) 3 more.count) had ∙ (append_assoc (own_entries a) (numbered_by (number_of a) 0 3) (numbered_by (number_of c) 3 more.count)
          ∙ ap (λ (k : ℕ). own_entries a ++ (numbered_by (number_of a) 0 3 ++ numbered_by k 3 more.count)) n));
    }

-- a pass that has the same entries of its own has added the same
pub added_still : (from most : ℕ) (a b c : Pass ℕ) → HasAdded from most a b → number_of c ≡ number_of b → own_entries c ≡ own_entries b → HasAdded from most a c
added_still from most a b c h number same = record { number_is = number ∙ h.number_is; count = h.count; few = h.few; own_is = same ∙ h.own_is }
