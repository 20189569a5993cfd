use Rattle.std.proofs.Common.{rules, ◌≡◌, List, sym, subst}
use Rattle.std.specs.List.{All}
use Rattle.std.proofs.lemmas.List.Elements.{All-push}
use Rattle.chronicle.specs.declared.chronicle.Chronicle.{Chronicle}
use Rattle.chronicle.specs.declared.open.Unopened.{Unopened}
use Rattle.chronicle.specs.Locks.{lock_of}
use Rattle.lock_row.specs.Reservations.{AreUnopened}
use Rattle.lock_row.proofs.Openings.{unopened_more}
use Rattle.lock_row.proofs.reserving.reserve_row.Goals as goal

pub loop-place-preserved : goal.loop-place-preserved
loop-place-preserved g c =
    let was = c.loop-place.invariant in
    let one = c.in_ok-lock in
    let Lock = Chronicle g.row.M.Denot g.row.M-Entry.Denot in
    let Part = Unopened g.row.M.Denot g.row.M-Entry.Denot in
    let locks = c.loop-place.locks.items in
    let parts = c.loop-place.parts.items in
    let ready : Lock → Type 0 = λ l. (lock_of l).passes ≡ c.args.passes in record {
      locks = search rules;
      parts = search rules;
      room = search rules;
      parts_room = search rules;
      unopened = subst (λ (z : List Lock × List Part). AreUnopened z.0 z.1)
          (λ i. (sym c.push_reserved.ensures.items i, sym c.push_reserved-in-loop-place.ensures.items i))
          (unopened_more locks parts one.lock one.part (search rules) was.unopened one.ensures.unopened);
      passes = subst (All ready) (sym c.push_reserved.ensures.items) (All-push ready locks one.lock was.passes one.ensures.passes);
    }
