use Rattle.std.proofs.Common.{◌∙◌, ap, ℕ, List, map}
use Rattle.order_witness.proofs.RisingSteps.{sessions_take_turns}
use Rattle.order_witness.proofs.rising.do_sessions_take_turns.Goals as goal

pub returns : goal.returns
returns c holds =
    sessions_take_turns (record { irreflexive = c.stamps_are_ordered.ensures.irreflexive; transitive = c.stamps_are_ordered.ensures.transitive }) c.args.script.now c.args.replies.now c.in_ok-requests.requests.items c.sort_unstable.new.self.items c.as_slice-places.result.now
    c.in_ok-requests.ensures c.sort_unstable.ensures.permutation (c.as_slice-places.ensures.value ∙ c.in_ok-parts.ensures ∙ ap (λ (es : List (ℕ × ℕ)). map (λ (one : ℕ × ℕ). one.1) es) c.as_slice-sorted.ensures.value) (c.sessions_rise.ensures holds)
