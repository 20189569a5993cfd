use Rattle.std.proofs.Common.{◌≡◌, ◌≤◌, ◌+◌, length, ap, ◌∙◌, arith}
use Rattle.std.specs.Option.{option_to_list}
use Rattle.version_chain.specs.Chains.{ChainView}
use Rattle.version_chain.proofs.Histories.{kept_length}
use Rattle.version_chain.proofs.Changed.{one_popped, taken_kept, taken_versions}
use Rattle.version_chain.proofs.chain.Chain.take_back.Goals as goal

pub invariant_of-self : goal.invariant_of-self
invariant_of-self c =
    let long = kept_length c.self.inside.parts c.self.inside.dropped c.self.inside.stamps.items in
    let seen = ap (λ (chain : ChainView). length chain.kept) c.self.view_is in
    let gone = ap (λ (chain : ChainView). chain.dropped) c.self.view_is in
    let one : length (option_to_list c.pop.result) ≡ 1 = one_popped c.pop.result (c.pop.ensures.variant.1 (omega (arith, long, seen, c.requires.kept, c.self.inside.stamps.ok.0))) in
    let two : 1 ≤ c.self.inside.dropped → 2 ≤ length c.self.inside.stamps.items = λ some. (let both = c.requires.base (omega (arith, some, gone)) in omega (arith, both, long, seen)) in
    let count : c.len.result + c.self.inside.dropped ≡ c.self.inside.dropped + length c.pop.new.self.items = omega (arith, c.len.ensures, c.pop.new.self.ok.0) in
    taken_kept c.self.inside.dropped (c.len.result + c.self.inside.dropped) c.self.inside.parts c.take_back.new.self c.self.inside.stamps.items c.pop.new.self.items (option_to_list c.pop.result) c.self.invariant c.pop.ensures.items one two count
    c.take_back.ensures.states c.take_back.ensures.within c.take_back.ensures.counts

pub returns : goal.returns
returns c = λ newest chain before.
    let long = kept_length c.self.inside.parts c.self.inside.dropped c.self.inside.stamps.items in
    let seen = ap (λ (chain : ChainView). length chain.kept) c.self.view_is in
    let gone = ap (λ (chain : ChainView). chain.dropped) c.self.view_is in
    let one : length (option_to_list c.pop.result) ≡ 1 = one_popped c.pop.result (c.pop.ensures.variant.1 (omega (arith, long, seen, c.requires.kept, c.self.inside.stamps.ok.0))) in
    let two : 1 ≤ c.self.inside.dropped → 2 ≤ length c.self.inside.stamps.items = λ some. (let both = c.requires.base (omega (arith, some, gone)) in omega (arith, both, long, seen)) in
    let count : c.len.result + c.self.inside.dropped ≡ c.self.inside.dropped + length c.pop.new.self.items = omega (arith, c.len.ensures, c.pop.new.self.ok.0) in
    let kept = taken_versions c.self.inside.dropped (c.len.result + c.self.inside.dropped) c.self.inside.parts c.take_back.new.self c.self.inside.stamps.items c.pop.new.self.items (option_to_list c.pop.result) c.self.invariant c.pop.ensures.items one two count
    c.take_back.ensures.states newest chain.kept (ap (λ (all : ChainView). all.kept) (c.self.view_is ∙ before)) in
    let dropped : c.self.inside.dropped ≡ chain.dropped = ap (λ (all : ChainView). all.dropped) (c.self.view_is ∙ before) in
    λ i. record { dropped = dropped i; kept = kept i }
