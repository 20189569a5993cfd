-- A table with a list for each number, as `empty_lists`, `commits_by_number` and `refusals_by_number` fill it in loops.
-- Used by `after_commits`, `begun_by_stamps`, `commits_by_number`, `empty_lists`, `first_fault`,
-- `keep_before_commits`, `link_between`, `marks_of`, `pairs_by_later`, `refusals_by_number`, `the_only` and InPlace.
use Rattle.std.proofs.Common.{◌≡◌, ℕ, suc, ◌+◌, ◌<◌, ◌≤◌, cond, List, [], ◌∷◌, ◌++◌, length, take, get_or, map, Option, Some, None, eqb, inl, inr, refl, sym, ap, ◌∙◌, subst, arith, Contains}
use Rattle.std.specs.Prelude.{slice_get}
use Rattle.std.specs.List.{filter, cons_option}
use Rattle.std.proofs.lemmas.Bool.{cases_lt, cases_eq, eq-eqb}
use Rattle.std.proofs.lemmas.List.{take_more, get_or_past, get_or_append_left, length-append, map-append}
use Rattle.std.proofs.lemmas.List.Elements.{filter-append, Contains-append_left, Contains-append_right}
use Rattle.std.proofs.Math.Seq.{get_or-append_seam}
use Rattle.std.specs.Option.{unwrap_or}
use Rattle.std.proofs.lemmas.Option.{unwrap_or-slice_get, same_Some}
use Rattle.weave_data.proofs.Members.{has_head}
use Rattle.report_rules.specs.declared.report.Reply.{Reply}
use Rattle.report_rules.specs.declared.report.ReplyState.{ReplyState}
use Rattle.report_rules.specs.declared.report.ReplyState.TheVariants.{Unbegun, Begun, Committed, Conflict, Refused, Finished}
use Rattle.report_rules.specs.Lookups.{is_some_and, committed_number}
use Rattle.report_rules.specs.Replay.{the_only}
use Rattle.order_witness.specs.Begun.{numbers_in}
use Rattle.order_witness.specs.ByNumber.{list_at, place_if_refused}
use Rattle.order_witness.specs.Refusals.{numbered_in, refused_after}
use Rattle.order_witness.proofs.MarkSteps.{nothing}

-- what is at a loop's place of a list is the item that the loop has read there
pub the_item : {A : Type 0} (xs : List A) (i : ℕ) (item x : A) → item ≡ get_or xs i item → slice_get xs i ≡ Some x → x ≡ item
the_item xs i item x is here = sym (ap (λ o. unwrap_or o item) here) ∙ unwrap_or-slice_get xs i item ∙ sym is

-- that many lists, all empty
pub record AreEmptySoFar (count : ℕ) (lists : List (List ℕ)) : Type 0 where
  pub size : length lists ≡ count
  pub empty : (n : ℕ) → list_at lists n ≡ []

-- without any list there are 0, all empty
pub no_lists : AreEmptySoFar 0 []
no_lists = record { size = refl; empty = λ n. get_or_past [] n [] (omega arith) }

-- with one more empty list there is one more, and all are empty
pub list_more : (count : ℕ) (lists : List (List ℕ)) (list : List ℕ) → AreEmptySoFar count lists → list ≡ [] → AreEmptySoFar (count + 1) (lists ++ list ∷ [])
list_more count lists list so_far none = record {
  size = omega (arith, length-append lists (list ∷ []), so_far.size);
  empty = λ n.
      elim (cases_lt n (length lists)) [
        | inl within ↦ get_or_append_left lists (list ∷ []) [] n within ∙ so_far.empty n
        | inr beyond ↦ elim (cases_eq n (length lists)) [
          | inl last ↦ ap (λ k. list_at (lists ++ list ∷ []) k) last ∙ get_or-append_seam lists list [] [] ∙ none
          | inr other ↦ get_or_past (lists ++ list ∷ []) n [] (omega (arith, length-append lists (list ∷ []), beyond, other))
        ]
      ];
}

-- the one of a list of one
pub only_one : (xs : List ℕ) (d : ℕ) → length xs ≡ 1 → the_only xs ≡ Some (get_or xs 0 d)
only_one [] d one = absurd (omega (arith, one))
only_one (x ∷ []) d one = refl
only_one (x ∷ y ∷ xs) d one = absurd (omega (arith, one))

-- a list that hasn't exactly one element has no only one
pub not_one : (xs : List ℕ) → (length xs ≡ 1 → ⊥) → the_only xs ≡ None
not_one [] more = refl
not_one (x ∷ []) more = absurd (more refl)
not_one (x ∷ y ∷ xs) more = refl

-- there are no more commits than replies
pub numbers_within : (replies : List Reply) → length (numbers_in replies) ≤ length replies
numbers_within [] = omega arith
numbers_within (reply ∷ replies) = of_one (committed_number reply.state) (numbers_within replies)
  where
    of_one : (o : Option ℕ) → length (numbers_in replies) ≤ length replies → length (cons_option o (numbers_in replies)) ≤ suc (length replies)
    of_one None rest = omega (arith, rest)
    of_one (Some n) rest = omega (arith, rest)

-- one more reply adds its request, if it has the number, at the end of the requests with that number
pub numbered_more : (n : ℕ) (replies : List Reply) (i : ℕ) (reply : Reply) → i < length replies → reply ≡ get_or replies i reply → numbered_in n (take (i + 1) replies) ≡ numbered_in n (take i replies) ++ numbered_in n (reply ∷ [])
numbered_more n replies i reply lt is =
    ap (numbered_in n) (take_more replies i reply lt ∙ ap (λ (r : Reply). take i replies ++ r ∷ []) (sym is))
    ∙ ap (map (λ (r : Reply). r.request)) (filter-append (λ (r : Reply). is_some_and (λ m. eqb m n) (committed_number r.state)) (take i replies) (reply ∷ []))
    ∙ map-append (λ (r : Reply). r.request) (filter (λ (r : Reply). is_some_and (λ m. eqb m n) (committed_number r.state)) (take i replies)) (filter (λ (r : Reply). is_some_and (λ m. eqb m n) (committed_number r.state)) (reply ∷ []))

-- a reply that is refused after this number of commits has its place
pub place_there : (n place : ℕ) (state : ReplyState) → refused_after state ≡ Some n → place_if_refused n place state ≡ place ∷ []
place_there n place Unbegun e = absurd (nothing n e)
place_there n place Begun e = absurd (nothing n e)
place_there n place (Committed number answers) e = absurd (nothing n e)
place_there n place (Conflict v newer) e = absurd (nothing n e)
place_there n place (Refused op reason at) e = ap (λ b. cond b (place ∷ []) []) (eq-eqb at n (same_Some at n e))
place_there n place (Finished answer) e = absurd (nothing n e)

-- of the first replies, those refused after n commits have their places in list n
abbrev pub HaveRefusedTo : ℕ → List Reply → List (List ℕ) → Type 0
HaveRefusedTo count replies lists =
    (n place : ℕ) (reply : Reply) → n < length lists → place < count → slice_get replies place ≡ Some reply → refused_after reply.state ≡ Some n → Contains (list_at lists n) place

-- once the next reply, if it is refused, has its place in its list, the lists have the places of one reply more
pub refused_more : (replies : List Reply) (i : ℕ) (item : Reply) (lists next : List (List ℕ)) → ((reply : Reply) → slice_get replies i ≡ Some reply → reply ≡ item) → length next ≡ length lists
    → ((n : ℕ) → n < length lists → list_at next n ≡ list_at lists n ++ place_if_refused n i item.state) → HaveRefusedTo i replies lists → HaveRefusedTo (i + 1) replies next
refused_more replies i item lists next is_item same put so_far n place reply within below at refused =
    let in_old : n < length lists = omega (arith, same, within) in
    subst (λ (ps : List ℕ). Contains ps place) (sym (put n in_old)) (elim (cases_lt place i) [
      | inl before ↦ Contains-append_left (list_at lists n) (place_if_refused n i item.state) place (so_far n place reply in_old before at refused)
      | inr last ↦
          let here : place ≡ i = omega (arith, below, last) in
          let item_is : reply ≡ item = is_item reply (ap (slice_get replies) (sym here) ∙ at) in
          let there : place_if_refused n i item.state ≡ i ∷ [] = place_there n i item.state (ap (λ (r : Reply). refused_after r.state) (sym item_is) ∙ refused) in
          Contains-append_right (list_at lists n) (place_if_refused n i item.state) place (subst (λ (ps : List ℕ). Contains ps place) (sym there) (subst (λ k. Contains (i ∷ []) k) (sym here) (has_head i [])))
    ])
