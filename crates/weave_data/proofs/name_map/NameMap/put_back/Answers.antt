use Rattle.std.proofs.Common.{◌≡◌, ◌+◌, ◌≤◌, ◌<◌, true, length, vec_len, sym, ap, ◌∙◌, subst, le_trans, le_of_eq}
use Rattle.weave_data.specs.Changes.{places}
use Rattle.weave_data.specs.Pairs.{has, put}
use Rattle.weave_data.specs.Places.{IsAt}
use Rattle.weave_data.proofs.Finding.{has_at_place}
use Rattle.weave_data.proofs.Kept.{kept_added, room_for}
use Rattle.weave_data.proofs.name_map.NameMap.put_back.Goals as goal

pub unreachable-requires : goal.unreachable-requires
unreachable-requires g c =
    let here = subst (λ es. IsAt c.args.key es c.in_default.field-0) (c.as_slice.ensures.value ∙ c.self.view_is) c.in_default.ensures.found in
    let there : has c.args.key c.args.self.now ≡ true = has_at_place c.args.key _ _ here in
    cc (there, c.requires.0)

pub invariant_of-self : goal.invariant_of-self
invariant_of-self g c =
    let moved = c.move_to_larger.ensures in
    let len : length c.args.self.now ≡ vec_len c.self.inside.pairs = ap length (sym c.self.view_is) ∙ sym c.self.inside.pairs.ok.0 in
    let fits = subst (λ n. places n < places (n + 1) → places (n + 1) ≤ c.args.room) len c.requires.1 in
    let room = room_for (vec_len c.self.inside.pairs) c.args.room _ _ fits c.self.invariant.1 (le_trans moved.capacity c.add.ensures.capacity) (le_trans (le_of_eq (sym c.into_block.ensures.places)) (le_trans moved.block c.add.ensures.capacity)) in
    kept_added c.args.key c.self.inside.pairs.items _ _ _ 0 _ c.args.value c.self.invariant.0 (c.add.ensures.items ∙ ap (put c.args.key c.args.value) moved.items) (c.add.ensures.len ∙ ap (λ n. n + 1) moved.len) room
