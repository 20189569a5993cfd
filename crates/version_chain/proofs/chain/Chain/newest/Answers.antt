use Rattle.std.proofs.Common.{◌≡◌, ◌+◌, ℕ, length, sym, ap, ◌∙◌}
use Rattle.std.proofs.lemmas.Result.{IfOk-weaker}
use Rattle.version_parts.specs.States.{state_at}
use Rattle.version_chain.specs.Chains.{ChainView, update_count, newest_state}
use Rattle.version_chain.proofs.Histories.{kept_length, newest_kept}
use Rattle.version_chain.proofs.chain.Chain.newest.Goals as goal

pub returns : goal.returns
returns c =
    let count : c.count.result ≡ c.self.inside.dropped + length c.self.inside.stamps.items = c.count.ensures ∙ ap update_count (sym c.self.view_is) ∙ ap (λ (n : ℕ). c.self.inside.dropped + n) (kept_length c.self.inside.parts c.self.inside.dropped c.self.inside.stamps.items) in
    IfOk-weaker c.state_at.result _ _ (λ state h. h
    ∙ ap (λ (n : ℕ). state_at n c.self.inside.parts) count
    ∙ sym (newest_kept c.self.inside.parts c.self.inside.dropped c.self.inside.stamps.items c.self.invariant.one c.self.invariant.start)
    ∙ ap (λ (chain : ChainView). newest_state chain.kept) c.self.view_is) c.state_at.ensures
