-- A worked graph with prices: a to b costs what a row says, a to c 1, c to b 1, b to d 3, c to d 5. Right answers, and
-- wrong ones, each refused by a test.
-- Used by nothing: worked examples.
use Rattle.std.proofs.Common.{◌≡◌, ◌+◌, ℕ, refl, true, false, List, [], ◌∷◌, Option, Some, None, if◌then◌else◌}
use Rattle.std.proofs.lemmas.Bool.{both_ways}
use Rattle.weave_data.specs.Names.{same_name}
use Rattle.weave_data.specs.declared.name.Name.{Name}
use Rattle.graph_ops.specs.PlainGraph.{PlainGraph}
use Rattle.graph_ops.specs.declared.record.Edge.{Edge}
use Rattle.graph_ops.specs.declared.record.Record.{Record}
use Rattle.program_defs.specs.declared.program.Bound.{Bound}
use Rattle.program_defs.specs.Certificate.{passes_tests}
use Rattle.program_defs.specs.PricedAnswer.{IsPricedAnswer}
use Rattle.program_defs.specs.Prices.{price_in, price_of_walk}
use Rattle.program_defs.proofs.CertificateLaw.{tests-are-exact}

abbrev a : Name
a = 97 ∷ []

abbrev b : Name
b = 98 ∷ []

abbrev c : Name
c = 99 ∷ []

abbrev d : Name
d = 100 ∷ []

abbrev x : Name
x = 120 ∷ []

abbrev p : Name
p = 112 ∷ []

-- an edge of that name and price to a vertex, tagged p with one digit
abbrev edge_to : ℕ → Name → ℕ → Name × Edge
edge_to name target digit = (name ∷ [], record { target = target; tags = (p, (48 + digit) ∷ []) ∷ [] })

abbrev vertex : List (Name × Edge) → Option Record
vertex edges = Some (record { props = []; edges = edges })

-- a to b costs this, a to c 1, c to b 1, b to d 3, c to d 5; a second edge from a to b costs 9, and x is absent
abbrev square : ℕ → PlainGraph
square ab v =
    if same_name v a then vertex (edge_to 101 b ab ∷ edge_to 102 c 1 ∷ edge_to 103 b 9 ∷ edge_to 104 x 1 ∷ []) else
    (if same_name v b then vertex (edge_to 101 d 3 ∷ edge_to 102 a 1 ∷ []) else
    (if same_name v c then vertex (edge_to 101 b 1 ∷ edge_to 102 d 5 ∷ []) else
    (if same_name v d then vertex [] else None)))

abbrev at_price : Name → ℕ → Bound
at_price v price = record { vertex = v; price = price }

abbrev all_of : ℕ → ℕ → ℕ → ℕ → List Bound
all_of pa pb pc pd = at_price a pa ∷ at_price b pb ∷ at_price c pc ∷ at_price d pd ∷ []

-- Prices

hundred : price_in (Some (49 ∷ 48 ∷ 48 ∷ [])) ≡ Some 100
hundred = refl

zero_is_none : price_in (Some (48 ∷ [])) ≡ None
zero_is_none = refl

a_leading_zero_is_none : price_in (Some (48 ∷ 55 ∷ [])) ≡ None
a_leading_zero_is_none = refl

a_million : price_in (Some (49 ∷ 48 ∷ 48 ∷ 48 ∷ 48 ∷ 48 ∷ 48 ∷ [])) ≡ Some 1000000
a_million = refl

one_more_is_none : price_in (Some (49 ∷ 48 ∷ 48 ∷ 48 ∷ 48 ∷ 48 ∷ 49 ∷ [])) ≡ None
one_more_is_none = refl

a_letter_is_none : price_in (Some (49 ∷ 97 ∷ [])) ≡ None
a_letter_is_none = refl

-- Walks

abd : price_of_walk (square 2) p a d (a ∷ b ∷ d ∷ []) ≡ Some 5
abd = refl

acbd : price_of_walk (square 2) p a d (a ∷ c ∷ b ∷ d ∷ []) ≡ Some 5
acbd = refl

acd : price_of_walk (square 2) p a d (a ∷ c ∷ d ∷ []) ≡ Some 6
acd = refl

-- an absent vertex ends no walk
ax : price_of_walk (square 2) p a x (a ∷ x ∷ []) ≡ None
ax = refl

-- Answers

module _ (ab : ℕ) (from to : Name) (walk : Option (List Name)) (total : ℕ) (bounds : List Bound) where
  right : passes_tests (square ab) p from bounds to walk total ≡ true → IsPricedAnswer (square ab) from to p walk total bounds
  right e = (tests-are-exact (square ab) from to p walk total bounds).0 e

  wrong : passes_tests (square ab) p from bounds to walk total ≡ false → ¬ IsPricedAnswer (square ab) from to p walk total bounds
  wrong e answer = both_ways _ e ((tests-are-exact (square ab) from to p walk total bounds).1 answer)

-- `price 5 a b d ; a=0 b=2 c=1 d=5`
first_row : IsPricedAnswer (square 2) a d p (Some (a ∷ b ∷ d ∷ [])) 5 (all_of 0 2 1 5)
first_row = right 2 a d (Some (a ∷ b ∷ d ∷ [])) 5 (all_of 0 2 1 5) refl

-- a walk of the same price that comes later from its end
later_walk : ¬ IsPricedAnswer (square 2) a d p (Some (a ∷ c ∷ b ∷ d ∷ [])) 5 (all_of 0 2 1 5)
later_walk = wrong 2 a d (Some (a ∷ c ∷ b ∷ d ∷ [])) 5 (all_of 0 2 1 5) refl

-- `price none ; ..` to a vertex that is absent
to_an_absent_one : IsPricedAnswer (square 2) a x p None 0 (all_of 0 2 1 5)
to_an_absent_one = right 2 a x None 0 (all_of 0 2 1 5) refl

-- `price 0 a ; ..` to the start itself, which has an edge into it
to_itself : IsPricedAnswer (square 2) a a p (Some (a ∷ [])) 0 (all_of 0 2 1 5)
to_itself = right 2 a a (Some (a ∷ [])) 0 (all_of 0 2 1 5) refl

-- `price none ;` from a vertex that is absent
from_an_absent_one : IsPricedAnswer (square 2) x a p None 0 []
from_an_absent_one = right 2 x a None 0 [] refl

-- `price 6 a c d ; a=0 b=2 c=1 d=6`: a walk that is there, with its sum
a_walk_and_its_sum : ¬ IsPricedAnswer (square 2) a d p (Some (a ∷ c ∷ d ∷ [])) 6 (all_of 0 2 1 6)
a_walk_and_its_sum = wrong 2 a d (Some (a ∷ c ∷ d ∷ [])) 6 (all_of 0 2 1 6) refl

-- with 5 from a to b the walk of fewest edges isn't the answer
more_edges : IsPricedAnswer (square 5) a d p (Some (a ∷ c ∷ b ∷ d ∷ [])) 5 (all_of 0 2 1 5)
more_edges = right 5 a d (Some (a ∷ c ∷ b ∷ d ∷ [])) 5 (all_of 0 2 1 5) refl

fewest_edges : ¬ IsPricedAnswer (square 5) a d p (Some (a ∷ c ∷ d ∷ [])) 6 (all_of 0 2 1 6)
fewest_edges = wrong 5 a d (Some (a ∷ c ∷ d ∷ [])) 6 (all_of 0 2 1 6) refl

fewest_edges_first : ¬ IsPricedAnswer (square 5) a d p (Some (a ∷ b ∷ d ∷ [])) 8 (all_of 0 5 1 8)
fewest_edges_first = wrong 5 a d (Some (a ∷ b ∷ d ∷ [])) 8 (all_of 0 5 1 8) refl

-- bounds all one lower than they are, save the start's: only the edge that has to meet each one refuses
too_low : ¬ IsPricedAnswer (square 2) a x p None 0 (all_of 0 1 1 4)
too_low = wrong 2 a x None 0 (all_of 0 1 1 4) refl

-- a bound that no walk has, of vertices that lead to each other (c is left out of the walks)
a_vertex_left_out : ¬ IsPricedAnswer (square 2) a x p None 0 (at_price a 0 ∷ at_price b 2 ∷ at_price d 5 ∷ [])
a_vertex_left_out = wrong 2 a x None 0 (at_price a 0 ∷ at_price b 2 ∷ at_price d 5 ∷ []) refl

-- the order of the bounds
out_of_order : ¬ IsPricedAnswer (square 2) a x p None 0 (at_price b 2 ∷ at_price a 0 ∷ at_price c 1 ∷ at_price d 5 ∷ [])
out_of_order = wrong 2 a x None 0 (at_price b 2 ∷ at_price a 0 ∷ at_price c 1 ∷ at_price d 5 ∷ []) refl

-- no walk, though the target is listed
none_though_listed : ¬ IsPricedAnswer (square 2) a d p None 0 (all_of 0 2 1 5)
none_though_listed = wrong 2 a d None 0 (all_of 0 2 1 5) refl

-- a walk that goes round over the start, and one that stops short of it
round_the_start : ¬ IsPricedAnswer (square 2) a b p (Some (a ∷ b ∷ a ∷ b ∷ [])) 2 (all_of 0 2 1 5)
round_the_start = wrong 2 a b (Some (a ∷ b ∷ a ∷ b ∷ [])) 2 (all_of 0 2 1 5) refl

stops_short : ¬ IsPricedAnswer (square 2) a d p (Some (b ∷ d ∷ [])) 5 (all_of 0 2 1 5)
stops_short = wrong 2 a d (Some (b ∷ d ∷ [])) 5 (all_of 0 2 1 5) refl

-- no walk with a total that isn't 0
total_of_none : ¬ IsPricedAnswer (square 2) a x p None 1 (all_of 0 2 1 5)
total_of_none = wrong 2 a x None 1 (all_of 0 2 1 5) refl

-- a vertex listed that isn't there, with a bound that an edge meets
an_absent_vertex : ¬ IsPricedAnswer (square 2) a d p (Some (a ∷ b ∷ d ∷ [])) 5 (at_price a 0 ∷ at_price b 2 ∷ at_price c 1 ∷ at_price d 5 ∷ at_price x 1 ∷ [])
an_absent_vertex = wrong 2 a d (Some (a ∷ b ∷ d ∷ [])) 5 (at_price a 0 ∷ at_price b 2 ∷ at_price c 1 ∷ at_price d 5 ∷ at_price x 1 ∷ []) refl

-- all bounds one too high, the start's too
a_start_above_0 : ¬ IsPricedAnswer (square 2) a x p None 0 (all_of 1 3 2 6)
a_start_above_0 = wrong 2 a x None 0 (all_of 1 3 2 6) refl

-- two vertices that lead to each other, from a start that is absent, with bounds at the end of 128 bits
at_the_end : ¬ IsPricedAnswer (λ v. if same_name v a then vertex (edge_to 101 b 1 ∷ []) else (if same_name v b then vertex (edge_to 101 a 1 ∷ []) else None)) x x p None 0
    (at_price a 340282366920938463463374607431768211455 ∷ at_price b 340282366920938463463374607431768211455 ∷ [])
at_the_end answer = both_ways _ (λ i. false) ((tests-are-exact (λ v. if same_name v a then vertex (edge_to 101 b 1 ∷ []) else (if same_name v b then vertex (edge_to 101 a 1 ∷ []) else None)) x x p None 0
    (at_price a 340282366920938463463374607431768211455 ∷ at_price b 340282366920938463463374607431768211455 ∷ [])).1 answer)
