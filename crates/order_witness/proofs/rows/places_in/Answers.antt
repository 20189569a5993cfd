use Rattle.std.proofs.Common.{◌≡◌, ◌+◌, ◌<◌, ℕ, List, length, inl, inr, sym, ap, ◌∙◌, arith}
use Rattle.std.proofs.lemmas.Bool.{cases_eq, cases_lt}
use Rattle.order_witness.specs.Heads.{item}
use Rattle.order_witness.specs.Rows.{ArePlacesIn}
use Rattle.order_witness.proofs.rows.places_in.Goals as goal

placed_more : (line : List ℕ) (count place : ℕ) (old new : List ℕ) → place < length line → length new ≡ count → (item line place < length new → item new (item line place) ≡ place) → ((r : ℕ) → ¬ (r ≡ item line place) → item new r ≡ item old r) → ArePlacesIn line count place old → ArePlacesIn line count (place + 1) new
placed_more line count place old new inside size here others so_far k less within =
    elim (cases_eq (item line k) (item line place)) [
      | inl same ↦
          let at : item new (item line k) ≡ place = ap (item new) same ∙ here (omega (arith, within, same, size)) in
          (ap (item line) at ∙ sym same, omega (arith, at, inside))
      | inr other ↦
          let before : k < place = elim (cases_lt k place) [ inl lt ↦ lt | inr ge ↦ absurd (other (let last : k ≡ place = omega (arith, less, ge) in ap (item line) last)) ] in
          let was = so_far k before within in
          let stays = others (item line k) other in
          (ap (item line) stays ∙ was.0, let low = was.1 in omega (arith, low, stays))
    ]

pub loop-place-preserved : goal.loop-place-preserved
loop-place-preserved c = record {
  size = c.put_place.ensures.size ∙ c.loop-place.invariant.size;
  placed = placed_more c.args.line.now c.args.count c.loop-place.place c.loop-place.places.items c.put_place.new.places.items c.loop-place-test.true (c.put_place.ensures.size ∙ c.loop-place.invariant.size) c.put_place.ensures.here c.put_place.ensures.others c.loop-place.invariant.placed;
}

pub loop-place-init : goal.loop-place-init
loop-place-init c = record { size = c.in_ok-places.ensures; placed = λ k less within. absurd (omega (arith, less)) }

pub returns : goal.returns
returns c k less within =
    c.loop-place.invariant.placed k (omega (arith, less, c.loop-place-test.false)) within
