use Rattle.std.proofs.Common.{◌<◌, ◌++◌, ◌∷◌, [], ℕ, length, get_or, inl, inr, sym, ap, ◌∙◌, arith}
use Rattle.std.proofs.lemmas.Bool.{cases_eq}
use Rattle.std.proofs.lemmas.List.{get_or_default}
use Rattle.std.proofs.lemmas.List.Elements.{Contains-get_or}
use Rattle.vector_stamp.specs.declared.clock.Stamp.{Stamp}
use Rattle.vector_stamp.specs.Precedence.{precedes}
use Rattle.order_graph.specs.Building.{ends_of}
use Rattle.timeline_oracle.proofs.Known.{among_asked}
use Rattle.timeline_oracle.proofs.Places.{first_at, first_none}
use Rattle.timeline_oracle.proofs.settling.first_refused.Goals as goal

pub is_put_before-requires : goal.is_put_before-requires
is_put_before-requires c =
    let below : c.loop-place.place < length c.args.earlier.now = omega arith in
    c.fewer_are_coherent.ensures _ (c.args.later.now ∷ c.args.earlier.now ++ ends_of c.args.graph.now.pairs) c.requires.coherent
    (among_asked c.args.graph.now.pairs c.args.earlier.now _ c.args.later.now (Contains-get_or c.args.earlier.now c.loop-place.place _ below))

pub returns-then-is_put_before : goal.returns-then-is_put_before
returns-then-is_put_before c =
    let below : c.loop-place.place < length c.args.earlier.now = omega arith in
    sym (first_at (precedes c.args.graph.now.pairs c.args.later.now) c.args.earlier.now c.loop-place.place _ below (λ k h. c.loop-place.invariant k _ h) (sym c.if-is_put_before.ensures))

pub returns : goal.returns
returns c =
    sym (first_none (precedes c.args.graph.now.pairs c.args.later.now) c.args.earlier.now c.args.later.now (λ k h. c.loop-place.invariant k c.args.later.now (omega arith)))

pub loop-place-preserved : goal.loop-place-preserved
loop-place-preserved c = λ k d below.
    let earlier = c.args.earlier.now in
    let n : ℕ = c.loop-place.place in
    let nowhere : Stamp = record { home = 0; clock = record { epoch = 0; counts = [] } } in
    let within : n < length earlier = omega arith in
    elim (cases_eq k n) [
      | inl same ↦ ap (λ (at : ℕ). precedes c.args.graph.now.pairs c.args.later.now (get_or earlier at d)) same
          ∙ ap (precedes c.args.graph.now.pairs c.args.later.now) (get_or_default earlier n d nowhere within)
          ∙ sym c.is_put_before.ensures ∙ c.if-is_put_before.false
      | inr other ↦ c.loop-place.invariant k d (omega (arith, below, other))
    ]
