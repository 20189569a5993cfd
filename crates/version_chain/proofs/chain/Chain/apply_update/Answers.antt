use Rattle.std.proofs.Common.{◌≡◌, ◌+◌, ◌∷◌, ◌++◌, [], ℕ, List, sym, ap, subst, ◌∙◌, arith}
use Rattle.weave_data.proofs.Results.{on_err_known}
use Rattle.vector_stamp.specs.declared.clock.Stamp.{Stamp}
use Rattle.version_parts.specs.Placed.{AreUpTo}
use Rattle.version_chain.specs.declared.version.Version.{Version}
use Rattle.version_chain.specs.Chains.{with_update}
use Rattle.version_chain.specs.Keeping.{kept_from, IsKept}
use Rattle.version_chain.proofs.Changed.{counted_before, passes_before, refused_kept, same_versions, applied_kept, applied_versions}
use Rattle.version_chain.proofs.chain.Chain.apply_update.Goals as goal

pub add_update-requires-clause-within : goal.add_update-requires-clause-within
add_update-requires-clause-within c =
    let count = counted_before c.self.inside.dropped c.self.inside.parts c.self.inside.stamps.items c.args.self.now c.args.before c.self.view_is c.requires.count in
    subst (λ (n : ℕ). AreUpTo n c.self.inside.parts) (sym count) c.self.invariant.within

pub add_update-requires-clause-passes : goal.add_update-requires-clause-passes
add_update-requires-clause-passes c =
    passes_before c.self.inside.dropped c.self.inside.parts c.self.inside.stamps.items c.args.self.now c.args.before c.self.view_is c.requires.count c.self.invariant c.args.ops.now c.requires.passes

pub invariant_of-self-in_err-add_update : goal.invariant_of-self-in_err-add_update
invariant_of-self-in_err-add_update c =
    let count = counted_before c.self.inside.dropped c.self.inside.parts c.self.inside.stamps.items c.args.self.now c.args.before c.self.view_is c.requires.count in
    subst (IsKept c.self.inside.dropped c.add_update.new.self) (sym c.reserve.ensures.items)
    (refused_kept c.self.inside.dropped c.args.before c.self.inside.parts c.add_update.new.self c.self.inside.stamps.items c.self.invariant count c.add_update.ensures.earlier c.in_err-add_update.ensures.still_within c.in_err-add_update.ensures.same_counts)

pub returns-in_err-add_update-clause-refused : goal.returns-in_err-add_update-clause-refused
returns-in_err-add_update-clause-refused c =
    let count = counted_before c.self.inside.dropped c.self.inside.parts c.self.inside.stamps.items c.args.self.now c.args.before c.self.view_is c.requires.count in
    on_err_known c.from_residual-in_err-add_update.result _
    (ap (λ (stamps : List Stamp). record { dropped = c.self.inside.dropped; kept = kept_from c.self.inside.dropped c.add_update.new.self stamps }) c.reserve.ensures.items
    ∙ ap (λ (versions : List Version). record { dropped = c.self.inside.dropped; kept = versions }) (same_versions c.self.inside.dropped c.args.before c.self.inside.parts c.add_update.new.self c.self.inside.stamps.items c.self.invariant count c.add_update.ensures.earlier)
    ∙ c.self.view_is)

pub invariant_of-self-2 : goal.invariant_of-self-2
invariant_of-self-2 c =
    let count = counted_before c.self.inside.dropped c.self.inside.parts c.self.inside.stamps.items c.args.self.now c.args.before c.self.view_is c.requires.count in
    let after : c.push_reserved.new.self.items ≡ c.self.inside.stamps.items ++ c.args.stamp ∷ [] = c.push_reserved.ensures.items ∙ ap (λ (stamps : List Stamp). stamps ++ c.args.stamp ∷ []) c.reserve.ensures.items in
    subst (IsKept c.self.inside.dropped c.add_update.new.self) (sym after)
    (applied_kept c.self.inside.dropped c.args.before c.self.inside.parts c.add_update.new.self c.self.inside.stamps.items c.self.invariant count c.add_update.ensures.earlier c.args.stamp c.args.ops.now c.requires.small
    (passes_before c.self.inside.dropped c.self.inside.parts c.self.inside.stamps.items c.args.self.now c.args.before c.self.view_is c.requires.count c.self.invariant c.args.ops.now c.requires.passes)
    c.in_ok-add_update.ensures.state c.in_ok-add_update.ensures.within c.in_ok-add_update.ensures.counts
    (c.items_are_placed.ensures.none_later c.args.before (c.args.before + 1) c.self.inside.parts (omega arith) (subst (λ (n : ℕ). AreUpTo n c.self.inside.parts) (sym count) c.self.invariant.within)))

pub returns-clause-applied : goal.returns-clause-applied
returns-clause-applied c =
    let count = counted_before c.self.inside.dropped c.self.inside.parts c.self.inside.stamps.items c.args.self.now c.args.before c.self.view_is c.requires.count in
    let after : c.push_reserved.new.self.items ≡ c.self.inside.stamps.items ++ c.args.stamp ∷ [] = c.push_reserved.ensures.items ∙ ap (λ (stamps : List Stamp). stamps ++ c.args.stamp ∷ []) c.reserve.ensures.items in
    ap (λ (stamps : List Stamp). record { dropped = c.self.inside.dropped; kept = kept_from c.self.inside.dropped c.add_update.new.self stamps }) after
    ∙ ap (λ (versions : List Version). record { dropped = c.self.inside.dropped; kept = versions })
    (applied_versions c.self.inside.dropped c.args.before c.self.inside.parts c.add_update.new.self c.self.inside.stamps.items c.self.invariant count c.add_update.ensures.earlier c.args.stamp c.args.ops.now c.requires.small
    (passes_before c.self.inside.dropped c.self.inside.parts c.self.inside.stamps.items c.args.self.now c.args.before c.self.view_is c.requires.count c.self.invariant c.args.ops.now c.requires.passes)
    c.in_ok-add_update.ensures.state c.in_ok-add_update.ensures.within c.in_ok-add_update.ensures.counts
    (c.items_are_placed.ensures.none_later c.args.before (c.args.before + 1) c.self.inside.parts (omega arith) (subst (λ (n : ℕ). AreUpTo n c.self.inside.parts) (sym count) c.self.invariant.within)))
    ∙ ap (with_update c.args.stamp c.args.ops.now) c.self.view_is
