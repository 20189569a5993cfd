use Rattle.std.proofs.Common.{◌∙◌, arith, ap, ◌++◌, ◌∷◌, [], ℕ}
use Rattle.chronicle.specs.Passes.{own_entries}
use Rattle.chronicle_keeper.proofs.Added.{numbered_more}
use Rattle.chronicle_keeper.proofs.adding.add_range.Goals as goal

pub loop-value-preserved : goal.loop-value-preserved
loop-value-preserved g c = record {
  ready = c.in_ok-add.ensures.ready;
  number = c.in_ok-add.ensures.number ∙ c.loop-value.invariant.number;
  from_on = omega arith;
  own = numbered_more _ _ _ _ _ _ c.loop-value.invariant.from_on c.loop-value.invariant.own (c.in_ok-add.ensures.own ∙ ap (λ (n : ℕ). own_entries c.loop-value.pass ++ (n, c.loop-value.value) ∷ []) c.loop-value.invariant.number);
}
