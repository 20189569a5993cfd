-- What a clause says, place by place: a list of facts, one for each place. The clause holds if each of them does. It
-- breaks first at a place whose fact doesn't hold while each before it does.
use Rattle.std.specs.Prelude.{ℕ, zero, suc, List, [], ◌∷◌, ◌++◌, ⊤}

-- the facts of a clause, in the order of its places
abbrev pub Facts : Type 1
Facts = List (Type 0)

-- each fact holds
abbrev pub AllHold : Facts → Type 0
AllHold [] = ⊤
AllHold (Fact ∷ facts) = Fact × AllHold facts

-- the fact at this place, counted from 1, doesn't hold, and each one before it does
abbrev pub BreaksFirstAt : Facts → ℕ → Type 0
BreaksFirstAt [] place = ⊥
BreaksFirstAt (Fact ∷ facts) zero = ⊥
BreaksFirstAt (Fact ∷ facts) (suc zero) = ¬ Fact
BreaksFirstAt (Fact ∷ facts) (suc (suc n)) = Fact × BreaksFirstAt facts (suc n)

module _ {A : Type 0} where
  -- what is said of each element, after these
  abbrev pub facts_after : List A → (List A → A → Type 0) → List A → Facts
  facts_after before Fact [] = []
  facts_after before Fact (x ∷ xs) = Fact before x ∷ facts_after (before ++ x ∷ []) Fact xs

  -- what is said of each element and those before it
  abbrev pub facts_in_turn : (List A → A → Type 0) → List A → Facts
  facts_in_turn Fact xs = facts_after [] Fact xs

  -- what is said of each element by itself
  abbrev pub facts_of_each : (A → Type 0) → List A → Facts
  facts_of_each Fact [] = []
  facts_of_each Fact (x ∷ xs) = Fact x ∷ facts_of_each Fact xs
