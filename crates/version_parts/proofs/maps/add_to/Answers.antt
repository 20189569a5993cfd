use Rattle.std.proofs.Common.{◌≤◌}
use Rattle.std.proofs.lemmas.Result.{on_ok_weaker, on_err_weaker}
use Rattle.version_parts.specs.declared.time.Time.{Time}
use Rattle.version_parts.specs.Tracks.{AllTimes}
use Rattle.version_parts.proofs.KeptLaws.{of_key}
use Rattle.version_parts.proofs.Swapping.{still_there, as_before, item_added}
use Rattle.version_parts.proofs.maps.add_to.Goals as goal

pub add-added-requires : goal.add-added-requires
add-added-requires c = of_key c.args.key (AllTimes (λ (time : Time). time.update ≤ c.args.item.time.update)) c.args.tracks.now c.swap-track.result c.requires.times c.swap-track.ensures.before

pub swap-requires : goal.swap-requires
swap-requires c = still_there c.args.key c.args.tracks.now c.swap-track.new.self c.swap-track.new.self c.new.result c.swap-track.result c.swap-track.result c.swap-track.ensures.after

pub returns-clause-ok : goal.returns-clause-ok
returns-clause-ok c =
    on_ok_weaker c.add-added.result (item_added c.args.key c.args.item c.args.tracks.now c.swap-track.new.self c.swap.new.self c.new.result c.swap-track.result c.add-added.new.self c.swap-track.ensures.after c.swap-track.ensures.before c.swap.ensures.after) c.add-added.ensures.ok

pub returns-clause-err : goal.returns-clause-err
returns-clause-err c =
    on_err_weaker c.add-added.result (as_before c.args.key c.args.tracks.now c.swap-track.new.self c.swap.new.self c.new.result c.swap-track.result c.add-added.new.self c.swap-track.ensures.after c.swap-track.ensures.rising c.swap-track.ensures.before c.swap.ensures.after) c.add-added.ensures.err
