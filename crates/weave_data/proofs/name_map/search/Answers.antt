use Rattle.std.proofs.Common.{rules}
use Rattle.std.proofs.lemmas.List.Sorted.{answers_always}
use Rattle.weave_data.proofs.Finding.{searched}
use Rattle.weave_data.proofs.name_map.search.Goals as goal

pub returns-clause-found : goal.returns-clause-found
returns-clause-found g c =
    let facts = c.binary_search_by_key.ensures in
    (searched c.args.key _ _ c.requires facts.bound (facts.position (λ pair. pair.0) (answers_always _ _ _ (λ f a r g called. search rules)))).0

pub returns-clause-absent : goal.returns-clause-absent
returns-clause-absent g c =
    let facts = c.binary_search_by_key.ensures in
    (searched c.args.key _ _ c.requires facts.bound (facts.position (λ pair. pair.0) (answers_always _ _ _ (λ f a r g called. search rules)))).1
