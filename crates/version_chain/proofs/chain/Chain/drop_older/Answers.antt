use Rattle.std.proofs.Common.{◌≡◌, ◌≤◌, ◌+◌, List, drop, length, sym, ap, subst, ◌∙◌, arith}
use Rattle.std.specs.Prelude.{pred}
use Rattle.vector_stamp.specs.declared.clock.Stamp.{Stamp}
use Rattle.vector_stamp.specs.Order.{is_before}
use Rattle.vector_stamp.specs.Seeing.{last_place}
use Rattle.version_chain.specs.Chains.{ChainView}
use Rattle.version_chain.specs.Collection.{collected_chain}
use Rattle.version_chain.specs.Keeping.{kept_from, IsKept}
use Rattle.version_chain.proofs.Changed.{older_inside, none_dropped, some_dropped, collected_kept, collected_versions}
use Rattle.version_chain.proofs.chain.Chain.drop_older.Goals as goal

pub returns-then-older-eq0 : goal.returns-then-older-eq0
returns-then-older-eq0 c =
    let is : c.older_versions-older.result ≡ pred (last_place (λ (stamp : Stamp). is_before stamp.clock c.args.bound.now) c.self.inside.stamps.items) = c.older_versions-older.ensures ∙ ap (λ (stamps : List Stamp). pred (last_place (λ (stamp : Stamp). is_before stamp.clock c.args.bound.now) stamps)) c.as_slice.ensures.value in
    subst (λ (chain : ChainView). chain ≡ collected_chain c.args.bound.now chain) c.self.view_is (none_dropped c.args.bound.now c.self.inside.dropped c.older_versions-older.result c.self.inside.parts c.self.inside.stamps.items c.self.invariant is c.if-older-eq0.true)

pub drain-requires-clause-in_bounds : goal.drain-requires-clause-in_bounds
drain-requires-clause-in_bounds c =
    let is : c.older_versions-older.result ≡ pred (last_place (λ (stamp : Stamp). is_before stamp.clock c.args.bound.now) c.self.inside.stamps.items) = c.older_versions-older.ensures ∙ ap (λ (stamps : List Stamp). pred (last_place (λ (stamp : Stamp). is_before stamp.clock c.args.bound.now) stamps)) c.as_slice.ensures.value in
    let inside = older_inside c.args.bound.now c.self.inside.dropped c.older_versions-older.result c.self.inside.parts c.self.inside.stamps.items c.self.invariant is (omega arith) in
    omega (arith, inside, c.self.inside.stamps.ok.0)

pub overflow_add-self : goal.overflow_add-self
overflow_add-self c =
    let is : c.older_versions-older.result ≡ pred (last_place (λ (stamp : Stamp). is_before stamp.clock c.args.bound.now) c.self.inside.stamps.items) = c.older_versions-older.ensures ∙ ap (λ (stamps : List Stamp). pred (last_place (λ (stamp : Stamp). is_before stamp.clock c.args.bound.now) stamps)) c.as_slice.ensures.value in
    let inside = older_inside c.args.bound.now c.self.inside.dropped c.older_versions-older.result c.self.inside.parts c.self.inside.stamps.items c.self.invariant is (omega arith) in
    omega (arith, inside, c.self.invariant.small)

pub overflow_add-self-inside : goal.overflow_add-self-inside
overflow_add-self-inside c =
    let is : c.older_versions-older.result ≡ pred (last_place (λ (stamp : Stamp). is_before stamp.clock c.args.bound.now) c.self.inside.stamps.items) = c.older_versions-older.ensures ∙ ap (λ (stamps : List Stamp). pred (last_place (λ (stamp : Stamp). is_before stamp.clock c.args.bound.now) stamps)) c.as_slice.ensures.value in
    let inside = older_inside c.args.bound.now c.self.inside.dropped c.older_versions-older.result c.self.inside.parts c.self.inside.stamps.items c.self.invariant is (omega arith) in
    omega (arith, inside, c.self.invariant.small)

pub invariant_of-self : goal.invariant_of-self
invariant_of-self c =
    let is : c.older_versions-older.result ≡ pred (last_place (λ (stamp : Stamp). is_before stamp.clock c.args.bound.now) c.self.inside.stamps.items) = c.older_versions-older.ensures ∙ ap (λ (stamps : List Stamp). pred (last_place (λ (stamp : Stamp). is_before stamp.clock c.args.bound.now) stamps)) c.as_slice.ensures.value in
    let some : 1 ≤ c.older_versions-older.result = omega arith in
    let inside = older_inside c.args.bound.now c.self.inside.dropped c.older_versions-older.result c.self.inside.parts c.self.inside.stamps.items c.self.invariant is some in
    let after : c.drop-drain.new.self.0.items ≡ drop c.older_versions-older.result c.self.inside.stamps.items = c.drop-drain.ensures.items ∙ c.drain.ensures.kept in
    subst (IsKept (c.self.inside.dropped + c.older_versions-older.result) c.collect.new.self) (sym after)
    (collected_kept c.self.inside.dropped c.older_versions-older.result c.self.inside.parts c.collect.new.self c.self.inside.stamps.items c.self.invariant some inside c.collect.ensures.states (c.collect.ensures.within (c.self.inside.dropped + length c.self.inside.stamps.items) c.self.invariant.within) c.collect.ensures.later c.collect.ensures.oldest)

pub returns : goal.returns
returns c =
    let is : c.older_versions-older.result ≡ pred (last_place (λ (stamp : Stamp). is_before stamp.clock c.args.bound.now) c.self.inside.stamps.items) = c.older_versions-older.ensures ∙ ap (λ (stamps : List Stamp). pred (last_place (λ (stamp : Stamp). is_before stamp.clock c.args.bound.now) stamps)) c.as_slice.ensures.value in
    let some : 1 ≤ c.older_versions-older.result = omega arith in
    let inside = older_inside c.args.bound.now c.self.inside.dropped c.older_versions-older.result c.self.inside.parts c.self.inside.stamps.items c.self.invariant is some in
    let after : c.drop-drain.new.self.0.items ≡ drop c.older_versions-older.result c.self.inside.stamps.items = c.drop-drain.ensures.items ∙ c.drain.ensures.kept in
    ap (λ (stamps : List Stamp). record { dropped = c.self.inside.dropped + c.older_versions-older.result; kept = kept_from (c.self.inside.dropped + c.older_versions-older.result) c.collect.new.self stamps }) after
    ∙ some_dropped c.args.bound.now c.self.inside.dropped c.older_versions-older.result c.self.inside.parts c.self.inside.stamps.items c.self.invariant is c.collect.new.self
    (collected_versions c.self.inside.dropped c.older_versions-older.result c.self.inside.parts c.collect.new.self c.self.inside.stamps.items c.self.invariant some inside c.collect.ensures.states)
    ∙ ap (collected_chain c.args.bound.now) c.self.view_is
