use Rattle.std.proofs.Common.{refl, sym, ap, ◌∙◌, subst}
use mathlib.Core.List.{IsPrefix}
use Rattle.chronicle.specs.Frames.{name_of_table}
use Rattle.chronicle.specs.Logs.{entries_of}
use Rattle.chronicle.specs.Locks.{lock_of}
use Rattle.chronicle.specs.Passes.{seen_by_pass, seen_by_note}
use Rattle.chronicle.specs.Seats.{view_in}
use Rattle.chronicle.proofs.Frames.{same_table}
use Rattle.chronicle.proofs.Logs.{one_of_two}
use Rattle.chronicle.proofs.Joining.{copies, gathers, compares}
use Rattle.chronicle.proofs.Taking.{bare_from, first_word, meets, note_is, note_view, part, pass_view, ready_from}
use Rattle.chronicle.proofs.chronicle.Chronicle.meet.Goals as goal

pub into_seat-seat-requires : goal.into_seat-seat-requires
into_seat-seat-requires g c = (_, ap (λ b. b.views) c.replace.ensures.value ∙ c.requires.pass.view_is)

pub into_seat-other-requires : goal.into_seat-other-requires
into_seat-other-requires g c = (_, ap (λ b. b.views) c.replace-2.ensures.value ∙ c.args.note.now.bare)

pub join_seat-requires : goal.join_seat-requires
join_seat-requires g c =
    let views = ap (λ b. b.views) (sym c.replace.ensures.value) ∙ c.into_seat-seat.ensures.2 in
    let noted = ap (λ b. b.views) (sym c.replace-2.ensures.value) ∙ c.into_seat-other.ensures.2 in
    let p = pass_view (lock_of c.args.self.now) c.args.pass.now c.into_seat-seat.result.me.0 c.requires.pass views in
    let n = note_view c.args.note.now c.into_seat-other.result.me.0 noted in (
      c.into_seat-seat.ensures.0 ∙ (ap (λ b. b.table_id) c.replace.ensures.value ∙ c.requires.pass.table_is),
      c.into_seat-other.ensures.0 ∙ (ap (λ b. b.table_id) c.replace-2.ensures.value ∙ same_table _ _ c.requires.note),
      c.into_seat-other.ensures.3,
      first_word _ c.args.self.now.sized.0,
      gathers g.M.Machine.frame g.M.Machine.log _ _ _ _ _ (ap (λ v. v.live) p) (ap (λ v. v.turn) p) (ap (λ v. v.live) n) (ap (λ v. v.turn) n),
    )

pub load-requires : goal.load-requires
load-requires g c =
    let views = ap (λ b. b.views) (sym c.replace.ensures.value) ∙ c.into_seat-seat.ensures.2 in
    let is = ap (λ m. m.0) c.join_seat.ensures.2 in
    let p = pass_view (lock_of c.args.self.now) c.args.pass.now c.into_seat-seat.result.me.0 c.requires.pass views in (
      c.join_seat.ensures.0 ∙ (c.into_seat-seat.ensures.0 ∙ (ap (λ b. b.table_id) c.replace.ensures.value ∙ c.requires.pass.table_is)),
      first_word _ c.args.self.now.sized.0,
      compares g.M.Machine.frame g.M.Machine.log _ _ _ _ (ap (λ v. v.live) is ∙ ap (λ v. v.live) p) (ap (λ v. v.turn) is ∙ ap (λ v. v.turn) p),
    )

pub split_seat-requires : goal.split_seat-requires
split_seat-requires g c =
    let views = ap (λ b. b.views) (sym c.replace.ensures.value) ∙ c.into_seat-seat.ensures.2 in
    let noted = ap (λ b. b.views) (sym c.replace-2.ensures.value) ∙ c.into_seat-other.ensures.2 in
    let met = meets (lock_of c.args.self.now) c.args.pass.now c.args.note.now _ _ c.into_seat-seat.result.me c.join_seat.new.seat.me c.load.new.seat.me c.into_seat-other.result.me.0
    c.requires.pass views c.into_seat-seat.ensures.3 noted c.join_seat.ensures.2 c.load.ensures.2 in (
      c.load.ensures.0 ∙ (c.join_seat.ensures.0 ∙ (c.into_seat-seat.ensures.0 ∙ (ap (λ b. b.table_id) c.replace.ensures.value ∙ c.requires.pass.table_is))),
      first_word _ c.args.self.now.sized.0,
      copies g.M.Machine.frame g.M.Machine.log _ _ _ (ap (λ m. m.0.live) met.seat) (ap (λ m. m.0.turn) met.seat),
    )

pub into_badge-requires : goal.into_badge-requires
into_badge-requires g c = ap (λ m. m.1) c.split_seat.ensures.4

pub invariant_of-note : goal.invariant_of-note
invariant_of-note g c =
    let views = ap (λ b. b.views) (sym c.replace.ensures.value) ∙ c.into_seat-seat.ensures.2 in
    let noted = ap (λ b. b.views) (sym c.replace-2.ensures.value) ∙ c.into_seat-other.ensures.2 in
    let met = meets (lock_of c.args.self.now) c.args.pass.now c.args.note.now _ _ c.into_seat-seat.result.me c.join_seat.new.seat.me c.load.new.seat.me c.into_seat-other.result.me.0
    c.requires.pass views c.into_seat-seat.ensures.3 noted c.join_seat.ensures.2 c.load.ensures.2 in
    record { bare = bare_from _ _ _ _ (note_is _ _ _ _ _ _ _ _ met c.split_seat.ensures.4 c.into_badge.ensures.2) }

pub into_badge-requires-2 : goal.into_badge-requires-2
into_badge-requires-2 g c =
    ap (λ m. m.1) c.split_seat.ensures.2 ∙ (ap (λ m. m.1) c.load.ensures.2.seat ∙ (ap (λ m. m.1) c.join_seat.ensures.2 ∙ c.into_seat-seat.ensures.3))

pub returns : goal.returns
returns g c =
    let lock = lock_of c.args.self.now in
    let p = c.args.pass.now in
    let old = c.args.note.now in
    let views = ap (λ b. b.views) (sym c.replace.ensures.value) ∙ c.into_seat-seat.ensures.2 in
    let noted = ap (λ b. b.views) (sym c.replace-2.ensures.value) ∙ c.into_seat-other.ensures.2 in
    let table = c.load.ensures.0 ∙ (c.join_seat.ensures.0 ∙ (c.into_seat-seat.ensures.0 ∙ (ap (λ b. b.table_id) c.replace.ensures.value ∙ c.requires.pass.table_is))) in
    let met = meets lock p old _ _ c.into_seat-seat.result.me c.join_seat.new.seat.me c.load.new.seat.me c.into_seat-other.result.me.0
    c.requires.pass views c.into_seat-seat.ensures.3 noted c.join_seat.ensures.2 c.load.ensures.2 in
    let both = part lock.frame lock.start (seen_by_pass p) (seen_by_note old) p.number c.load.new.seat.me c.split_seat.new.seat.me c.split_seat.result.me
    c.into_badge-2.result.views c.into_badge.result.views met c.split_seat.ensures.2 c.split_seat.ensures.4 c.into_badge-2.ensures.2 c.into_badge.ensures.2 in
    let seen = ap (λ vs. (view_in vs).seen) both.pass in record {
      ready = ready_from lock _ _ (c.into_badge-2.ensures.0 ∙ (c.split_seat.ensures.0 ∙ table)) both.pass c.requires.pass.low;
      number = refl;
      own = ap (entries_of p.number) seen ∙ met.own;
      note = ap name_of_table (c.into_badge.ensures.0 ∙ (c.split_seat.ensures.3 ∙ table));
      longer = seen;
      either = one_of_two (seen_by_pass p) (seen_by_note old) _ seen;
      pass_before = subst (IsPrefix (seen_by_pass p)) (sym seen) met.first;
      note_before = subst (IsPrefix (seen_by_note old)) (sym seen) met.second;
      one = ap (λ vs. (view_in vs).seen) both.note ∙ sym seen;
    }
