use Rattle.std.proofs.Common.{◌≡◌, ℕ, ◌<◌, List, length, get_or, ap, sym, ◌∙◌, subst}
use Rattle.std.specs.List.{range_with_len}
use Rattle.chronicle.specs.declared.pass.Pass.{Pass}
use Rattle.chronicle.specs.Locks.{lock_of}
use Rattle.chronicle_keeper.specs.Additions.{HasAdded, EachAdded}
use Rattle.chronicle_keeper.proofs.Returned.{all_returned, each_added}
use Rattle.chronicle_keeper.proofs.adding.tallied.Goals as goal

pub close-requires-clause-passes : goal.close-requires-clause-passes
close-requires-clause-passes g c = let p = c.in_ok-shared in let a = c.add_side_by_side in let s = c.as_mut_slice in
    let many : (lock_of c.fill.new.self).passes ≡ c.args.authors = ap (λ l. l.passes) c.fill.ensures.lock ∙ p.ensures.lock.passes_is in
    let added = subst (λ (l : List (Pass ℕ)). (k : ℕ) (d : Pass ℕ) → k < length l → HasAdded 0 c.args.count (get_or l k d) (get_or a.new.passes k d)) s.ensures.value a.ensures.added in
    all_returned (lock_of c.fill.new.self) c.args.count p.passes.items a.new.passes (p.ensures.numbers ∙ ap (range_with_len 0) (sym many)) (a.auto.passes ∙ ap (λ (l : List (Pass ℕ)). length l) s.ensures.value) added
    p.passes.len p.passes.items (a.auto.passes ∙ s.ensures.len) a.ensures.ready

pub returns-clause-each : goal.returns-clause-each
returns-clause-each g c = let p = c.in_ok-shared in let a = c.add_side_by_side in let s = c.as_mut_slice in
    let many : (lock_of c.fill.new.self).passes ≡ c.args.authors = ap (λ l. l.passes) c.fill.ensures.lock ∙ p.ensures.lock.passes_is in
    let added = subst (λ (l : List (Pass ℕ)). (k : ℕ) (d : Pass ℕ) → k < length l → HasAdded 0 c.args.count (get_or l k d) (get_or a.new.passes k d)) s.ensures.value a.ensures.added in
    subst (λ (n : ℕ). EachAdded n c.args.count c.close.result) many (each_added (lock_of c.fill.new.self) c.args.count p.passes.items a.new.passes (p.ensures.numbers ∙ ap (range_with_len 0) (sym many)) (a.auto.passes ∙ ap (λ (l : List (Pass ℕ)). length l) s.ensures.value) added
    p.passes.len p.passes.items (lock_of p.shared).start c.close.result (a.auto.passes ∙ s.ensures.len) (p.ensures.lock.start_is ∙ c.new-like.ensures) p.ensures.seen c.close.ensures.own)
