use Rattle.std.proofs.Common.{◌≡◌, ◌≤◌, ◌==◌, Some, sym, ap, subst, ◌∙◌}
use Rattle.std.specs.Prelude.{nat_le}
use Rattle.version_parts.specs.declared.cut.Cut.TheVariants.{Older}
use Rattle.version_parts.specs.declared.lists.Lists.{Lists}
use Rattle.version_parts.specs.declared.time.Time.{Time}
use Rattle.version_parts.specs.Counts.{count_updates, size_of}
use Rattle.version_parts.specs.Cuts.{cut_lists, collected_lists}
use Rattle.version_parts.specs.Placed.{AreUpTo}
use Rattle.version_parts.specs.States.{state_at}
use Rattle.version_parts.specs.Times.{beginning}
use Rattle.version_parts.proofs.Counting.{cut_count, collected_old}
use Rattle.version_parts.proofs.Cutting.{collected_stays}
use Rattle.version_parts.proofs.Placing.{collected_within}
use Rattle.version_parts.proofs.Sequences.{later_stay}
use Rattle.version_parts.proofs.parts.Parts.collect.Goals as goal

pub returns-clause-states : goal.returns-clause-states
returns-clause-states c =
    let is : c.cut.new.self ≡ collected_lists c.args.oldest c.args.self.now = c.cut.ensures.items ∙ ap (λ (time : Time). cut_lists (Older c.args.oldest (Some time)) c.args.self.now) c.beginning.ensures in
    λ update later. ap (state_at update) is ∙ collected_stays c.args.oldest update c.args.self.now later

pub returns-clause-within : goal.returns-clause-within
returns-clause-within c =
    let is : c.cut.new.self ≡ collected_lists c.args.oldest c.args.self.now = c.cut.ensures.items ∙ ap (λ (time : Time). cut_lists (Older c.args.oldest (Some time)) c.args.self.now) c.beginning.ensures in
    λ newest within. subst (AreUpTo newest) (sym is) (collected_within c.args.oldest newest c.args.self.now within)

pub returns-clause-counts : goal.returns-clause-counts
returns-clause-counts c =
    let is : c.cut.new.self ≡ collected_lists c.args.oldest c.args.self.now = c.cut.ensures.items ∙ ap (λ (time : Time). cut_lists (Older c.args.oldest (Some time)) c.args.self.now) c.beginning.ensures in
    λ test. subst (λ (lists : Lists). count_updates test lists ≤ count_updates test c.args.self.now) (sym is) (cut_count (Older c.args.oldest (Some beginning)) test c.args.self.now)

pub returns-clause-later : goal.returns-clause-later
returns-clause-later c =
    let is : c.cut.new.self ≡ collected_lists c.args.oldest c.args.self.now = c.cut.ensures.items ∙ ap (λ (time : Time). cut_lists (Older c.args.oldest (Some time)) c.args.self.now) c.beginning.ensures in
    λ update later. ap (count_updates (λ other. other == update)) is ∙ later_stay c.args.oldest update c.args.self.now later c.cut.ensures.order

pub returns-clause-oldest : goal.returns-clause-oldest
returns-clause-oldest c =
    let is : c.cut.new.self ≡ collected_lists c.args.oldest c.args.self.now = c.cut.ensures.items ∙ ap (λ (time : Time). cut_lists (Older c.args.oldest (Some time)) c.args.self.now) c.beginning.ensures in
    subst (λ (lists : Lists). count_updates (λ update. nat_le update c.args.oldest) lists ≤ size_of (state_at c.args.oldest c.args.self.now)) (sym is) (collected_old c.args.oldest c.args.self.now)
