use Rattle.std.proofs.Common.{is_some, option_map, sym, ap, ◌∙◌}
use Rattle.weave_data.specs.Changes.{undone_pairs}
use Rattle.weave_data.specs.Pairs.{has, put}
use Rattle.graph_ops.specs.TakingBack.{with_edge}
use Rattle.graph_ops.specs.declared.record.Edge.{Edge}
use Rattle.weave_data.proofs.Changing.{found_put}
use Rattle.graph_ops.proofs.Retagging.{put_over}
use Rattle.graph_ops.proofs.back.take_back_tag_of.Goals as goal

pub swap-requires : goal.swap-requires
swap-requires c = ap (has c.args.name) c.swap-edge.ensures.after ∙ ap is_some (found_put c.args.name c.bare.result c.args.edges.now)

pub returns : goal.returns
returns c =
    let edge = c.swap-edge.result in
    c.swap.ensures.after
    ∙ ap (put c.args.name (record edge { tags = c.take_back.new.self })) c.swap-edge.ensures.after
    ∙ put_over c.args.name (record edge { tags = c.take_back.new.self }) c.bare.result c.args.edges.now
    ∙ ap (λ tags. put c.args.name (record edge { tags = tags }) c.args.edges.now) c.take_back.ensures
    ∙ sym (ap (λ x. with_edge c.args.name (option_map {T = Edge} (λ found. record found { tags = undone_pairs c.args.undo found.tags }) x) c.args.edges.now) c.swap-edge.ensures.before)
