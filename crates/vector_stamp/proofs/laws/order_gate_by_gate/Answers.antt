use Rattle.std.proofs.Common.{◌≡◌, ℕ, ◌<◌, ◌≤◌, IsTrue, inl, inr, arith, sym, ◌∙◌, slice_index, length, rules}
use Rattle.std.proofs.lemmas.Bool.{cases_lt}
use Rattle.std.proofs.lemmas.List.{get_or_past}
use Rattle.vector_stamp.specs.declared.clock.Clock.{Clock}
use Rattle.vector_stamp.specs.Order.{count_of, HasEightCounts, is_at_most}
use Rattle.vector_stamp.proofs.Counts.{at_most-by, at_most-at}
use Rattle.vector_stamp.proofs.Orders.{at_most_read, at_most_write}
use Rattle.vector_stamp.proofs.laws.order_gate_by_gate.Goals as goal

by_gates : (a b : Clock) → HasEightCounts a → HasEightCounts b → ((gate : ℕ) → gate < 8 → count_of gate a ≤ count_of gate b) → (k : ℕ) → slice_index a.counts k ≤ slice_index b.counts k
by_gates a b ea eb each k =
    elim (cases_lt k 8) [
      | inl within ↦ each k within
      | inr over ↦ let e : slice_index a.counts k ≡ 0 = get_or_past a.counts k 0 (omega arith) in omega arith
    ]

pub returns : goal.returns
returns c = λ a b ea eb same. (
  (λ h gate below. elim (at_most_read a b h) [ inl less ↦ absurd (omega (arith, less, same)) | inr rest ↦ at_most-at a.counts b.counts gate rest.1 ]),
  (λ each. at_most_write a b (inr (same, at_most-by a.counts b.counts (ea ∙ sym eb) (by_gates a b ea eb each)))),
)
