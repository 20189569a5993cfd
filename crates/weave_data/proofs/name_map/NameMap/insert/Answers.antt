use Rattle.std.proofs.Common.{◌+◌, ◌≤◌, vec_len, vec_capacity, ap, ◌∙◌, subst, le_trans}
use Rattle.weave_data.specs.Changes.{places}
use Rattle.weave_data.specs.Pairs.{put}
use Rattle.weave_data.specs.Places.{IsGap}
use Rattle.weave_data.proofs.Finding.{none_in_gap}
use Rattle.weave_data.proofs.Kept.{kept_written, kept_added, written_back, dropped_back}
use Rattle.weave_data.proofs.name_map.NameMap.insert.Goals as goal

pub invariant_of-self : goal.invariant_of-self
invariant_of-self g c = kept_written c.args.key c.self.inside.pairs.items _ _ _ _ _ c.args.value c.self.invariant c.write-value.ensures.items c.write-value.ensures.len c.write-value.ensures.capacity

pub invariant_of-self-in-Err : goal.invariant_of-self-in-Err
invariant_of-self-in-Err g c =
    let made = c.in_ok-make_places-in-Err.ensures in
    let is = c.add.ensures.items ∙ ap (put c.args.key c.args.value) made.items in
    let room : places (vec_len c.self.inside.pairs + 1) ≤ vec_capacity c.add.new.pairs = le_trans (subst (λ n. n ≤ vec_capacity c.make_places.new.pairs) (c.places.ensures ∙ ap (λ n. places (n + 1)) c.len-pairs.ensures) made.places) c.add.ensures.capacity in
    kept_added c.args.key c.self.inside.pairs.items _ _ _ 0 _ c.args.value c.self.invariant.0 is (c.add.ensures.len ∙ ap (λ n. n + 1) made.len) room

pub returns-in-Ok-clause-undo : goal.returns-in-Ok-clause-undo
returns-in-Ok-clause-undo g c = written_back c.args.key c.args.value c.self.inside.pairs.items _ _ c.self.invariant.0 c.self.view_is c.write-value.result c.write-value.ensures.before c.write-value.ensures.items

pub returns-in_ok-make_places-in-Err-clause-undo : goal.returns-in_ok-make_places-in-Err-clause-undo
returns-in_ok-make_places-in-Err-clause-undo g c =
    let gap = subst (λ es. IsGap c.args.key es c.in-Err.at) c.as_slice.ensures.value c.in-Err.ensures.absent in
    let is = c.add.ensures.items ∙ ap (put c.args.key c.args.value) c.in_ok-make_places-in-Err.ensures.items in
    dropped_back c.args.key c.args.value c.self.inside.pairs.items _ _ c.self.invariant.0 c.self.view_is (none_in_gap c.args.key _ _ c.self.invariant.0 gap) is
