use Rattle.std.proofs.Common.{◌≡◌, ◌<◌, length, ◌∙◌, Bool, true, false, not, true≢false, refl, sym, ap, subst, get_or, List, [], arith}
use Rattle.std.proofs.lemmas.Bool.{both_ways}
use Rattle.std.proofs.lemmas.List.{get_or_read, take_more_same}
use Rattle.weave_data.specs.Names.{same_name, one_name}
use Rattle.weave_data.specs.declared.name.Name.{Name}
use Rattle.graph_ops.proofs.Vertices.{same_name-refl}
use Rattle.program_defs.proofs.certificate.are_same.Goals as goal

from-not : (b : Bool) → not b ≡ false → b ≡ true
from-not true e = refl
from-not false e = cc

pub returns-then-ne : goal.returns-then-ne
returns-then-ne c = (
  λ h. absurd (true≢false (sym h)),
  λ same.
      let place = c.loop-place.place in
      let v : c.index-vertices-place.result ≡ get_or c.args.vertices.now place [] = get_or_read c.args.vertices.now place _ (omega (arith, c.loop-place.auto.place-end, c.loop-place-test.true)) c.index-vertices-place.is [] in
      let o : c.index-others-place.result ≡ get_or c.args.others.now place [] = get_or_read c.args.others.now place _ (omega (arith, c.if-vertices-others.false, c.loop-place.auto.place-end, c.loop-place-test.true)) c.index-others-place.is [] in
      let one : c.index-vertices-place.result ≡ c.index-others-place.result = v ∙ ap (λ (names : List Name). get_or names place []) same ∙ sym o in
      let alike = subst (λ y. same_name c.index-vertices-place.result y ≡ true) one (same_name-refl c.index-vertices-place.result) in
      absurd (both_ways _ (ap not alike) (sym c.ne.ensures ∙ c.if-ne.true)),
)

pub loop-place-preserved : goal.loop-place-preserved
loop-place-preserved c =
    let place = c.loop-place.place in
    let inside : place < length c.args.vertices.now = omega (arith, c.loop-place.auto.place-end, c.loop-place-test.true) in
    let within : place < length c.args.others.now = omega (arith, c.if-vertices-others.false, c.loop-place.auto.place-end, c.loop-place-test.true) in
    let v : c.index-vertices-place.result ≡ get_or c.args.vertices.now place [] = get_or_read c.args.vertices.now place _ inside c.index-vertices-place.is [] in
    let o : c.index-others-place.result ≡ get_or c.args.others.now place [] = get_or_read c.args.others.now place _ within c.index-others-place.is [] in
    let one = one_name c.index-vertices-place.result c.index-others-place.result (from-not _ (sym c.ne.ensures ∙ c.if-ne.false)) in
    take_more_same c.args.vertices.now c.args.others.now place [] inside within c.loop-place.invariant (sym v ∙ one ∙ o)
