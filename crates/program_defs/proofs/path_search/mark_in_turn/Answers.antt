use Rattle.std.proofs.Common.{◌≡◌, ◌+◌, ◌∷◌, arith, sym, ap, length, ◌∙◌, drop}
use Rattle.std.proofs.lemmas.List.{drop_more}
use Rattle.program_defs.specs.LeastWalks.{mark_in, marks_after}
use Rattle.program_defs.proofs.Noting.{marked-step}
use Rattle.program_defs.proofs.path_search.mark_in_turn.Goals as goal

pub loop-hop-preserved : goal.loop-hop-preserved
loop-hop-preserved c =
    let hops = c.args.hops.now in
    let place = c.loop-hop.hop-index in
    let one = c.hop-item.result in
    let rest_is : drop place hops ≡ one ∷ drop (place + 1) hops = drop_more hops place one c.loop-hop-test.true ∙ ap (λ x. x ∷ drop (place + 1) hops) (sym c.hop-item.is) in
    let long = ap length rest_is in
    let room = c.loop-hop.invariant.room in
    let spare = c.mark_target.ensures.spare in
    record {
      room = omega (arith, long, room, spare);
      marks = λ v.
          marked-step c.loop-hop.marks.entries c.mark_target.new.marks.entries one (drop (place + 1) hops) c.mark_target.ensures.marks c.mark_target.ensures.count v
          ∙ ap (λ xs. marks_after (mark_in c.loop-hop.marks.entries) (length c.loop-hop.marks.entries) xs v) (sym rest_is)
          ∙ c.loop-hop.invariant.marks v;
    }
