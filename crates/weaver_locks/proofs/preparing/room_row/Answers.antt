use Rattle.std.proofs.Common.{rules, List, Vec, sym, subst}
use Rattle.std.specs.Global.{Global}
use Rattle.chronicle.specs.declared.pass.Pass.{Pass}
use Rattle.weaver_locks.specs.Rooms.{AreRooms}
use Rattle.weaver_locks.proofs.Preparations.{rooms_more}
use Rattle.weaver_locks.proofs.preparing.room_row.Goals as goal

pub loop-place-preserved : goal.loop-place-preserved
loop-place-preserved g c =
    let was = c.loop-place.invariant in
    let rooms = c.loop-place.rooms.items in record {
      len = search rules;
      space = search rules;
      rooms = subst (λ (rs : List (Vec (Pass g.row.E.Denot) Global)). AreRooms c.args.count rs) (sym c.push_reserved.ensures.items)
          (rooms_more c.args.count rooms c.in_ok-room.room was.rooms record { none = c.in_ok-room.ensures.items; space = c.in_ok-room.ensures.capacity });
    }
