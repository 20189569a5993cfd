use Rattle.std.proofs.Common.{◌<◌, ◌⊎◌, sym, ap, subst, ◌∙◌}
use Rattle.version_chain.specs.Chains.{ChainView, update_count}
use Rattle.version_chain.specs.Views.{view_of, ReachesBack}
use Rattle.version_chain.proofs.chain.Chain.collect.Goals as goal

pub returns-clause-count : goal.returns-clause-count
returns-clause-count c = ap update_count c.drop_older.ensures ∙ c.collections_leave_views.ensures.count c.args.bound.now c.args.self.now

pub returns-clause-views : goal.returns-clause-views
returns-clause-views c = λ pairs program below.
    ap (view_of pairs program) c.drop_older.ensures ∙ c.collections_leave_views.ensures.views c.args.bound.now c.args.self.now pairs program below

pub returns-clause-base : goal.returns-clause-base
returns-clause-base c = λ program below.
    subst (λ (chain : ChainView). ReachesBack program c.args.self.now ⊎ (c.args.self.now.dropped < chain.dropped) → ReachesBack program chain) (sym c.drop_older.ensures)
    (c.collections_leave_views.ensures.base c.args.bound.now c.args.self.now program below)
