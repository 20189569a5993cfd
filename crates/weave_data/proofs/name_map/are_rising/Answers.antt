use Rattle.std.proofs.Common.{true≢false, refl, sym}
use Rattle.weave_data.proofs.Adjacent.{all_rise, out_of_place}
use Rattle.weave_data.proofs.name_map.are_rising.Goals as goal

pub returns : goal.returns
returns g c = (λ h. all_rise c.args.pairs.now c.loop-place.place c.loop-place-test.false c.loop-place.invariant, λ h. refl)

pub returns-then-ge : goal.returns-then-ge
returns-then-ge g c =
    (λ h. absurd (true≢false (sym h)), λ rising. absurd (out_of_place c.args.pairs.now c.loop-place.place _ _ c.loop-place.auto.place c.loop-place-test.true c.if-ge.ensures rising))
