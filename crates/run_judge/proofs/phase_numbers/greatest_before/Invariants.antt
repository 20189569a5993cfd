use Rattle.std.proofs.Common.{◌≡◌, ◌-◌, length}
use Rattle.run_judge.specs.Numbers.{AreGreatest, HasBefore, HasEarlier, IsGreatest}
use Rattle.run_judge.proofs.phase_numbers.greatest_before.Given as goal

abbrev pub invariant-loop-place : goal.invariant-loop-place
invariant-loop-place l = record {
  size : length l.greatest.items ≡ l.place;
  greatest : AreGreatest l.values l.phases l.place l.greatest.items;
  earlier : IsGreatest (HasEarlier l.values l.phases (l.place - 1)) l.earlier;
  all : IsGreatest (HasBefore l.values l.place) l.all;
}
