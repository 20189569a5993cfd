-- What the hand with a number has seen: for the law on hands and their numbers.
-- Used by `hands_are_found_by_number`.
use Rattle.std.proofs.Common.{◌≡◌, ℕ, ◌<◌, eqb, eq-eqb, cond, Bool, List, [], ◌∷◌, map, All, Contains, inl, inr, sym, ap, ◌∙◌, subst}
use Rattle.std.proofs.lemmas.Bool.{both_ways, cases_Bool, eqb-true}
use Rattle.std.proofs.lemmas.List.Elements.{All-contains}
use Rattle.weave_data.proofs.Members.{has_head, has_none, has_read, has_tail}
use Rattle.weave_account.specs.declared.account.Account.{Account}
use Rattle.seen_logs.specs.Seen.{VisitsOwnPrograms}
use Rattle.weaver_locks.specs.declared.hand.Hand.{Hand}
use Rattle.weaver_locks.specs.declared.shared.Shared.{Shared}
use Rattle.weaver_locks.specs.Closing.{seen_by_number}
use Rattle.weaver_locks.specs.Following.{VisitsItsOwnPrograms}
use Rattle.weaver_locks.specs.Hands.{hand_number, seen_by}
use Rattle.weaver_locks.specs.Locks.{hands_of, start_of}

-- a hand with this number, if there is one
pub found : (hands : List Hand) (number : ℕ) → Contains (map hand_number hands) number
    → (hand : Hand) × Contains hands hand × (hand_number hand ≡ number) × (seen_by_number hands number ≡ seen_by hand)
found [] number h = absurd (has_none number h)
found (hand ∷ hands) number h =
    let choose : Bool → Account = λ b. cond b (seen_by hand) (seen_by_number hands number) in
    elim (cases_Bool (eqb (hand_number hand) number)) [
      | inl same ↦ (hand, has_head hand hands, eqb-true (hand_number hand) number same, ap choose same)
      | inr other ↦ elim (has_read (hand_number hand) (map hand_number hands) number h) [
        | inl is ↦ absurd (both_ways (eqb (hand_number hand) number) other (eq-eqb (hand_number hand) number is))
        | inr rest ↦
            let later = found hands number rest in
            (later.0, has_tail hand hands later.0 later.1, later.2, ap choose other ∙ later.3)
      ]
    ]

-- each of them visits its own programs
pub own-by-number : (shared : Shared) (hands : List Hand) → ((number : ℕ) → number < hands_of shared → Contains (map hand_number hands) number)
    → All (VisitsItsOwnPrograms shared) hands → (number : ℕ) → number < hands_of shared
    → VisitsOwnPrograms number (start_of shared) (seen_by_number hands number)
own-by-number shared hands each own number low =
    let one = found hands number (each number low) in
    subst (λ (z : ℕ × Account). VisitsOwnPrograms z.0 (start_of shared) z.1) (λ i. (one.2 i, sym one.3 i))
    (All-contains (VisitsItsOwnPrograms shared) hands one.0 own one.1)
