use Rattle.std.proofs.Common.{◌≡◌, ◌∙◌, ◌↔◌, Bool, true≢false, sym, ap, subst, List, Option, Some, None, IfSome, IfNone, IsTrue, slice_get, ℕ, arith, false}
use Rattle.std.proofs.lemmas.Option.{slice_get_within}
use Rattle.weave_data.specs.declared.name.Name.{Name}
use Rattle.graph_ops.specs.Graphs.{plain_of}
use Rattle.graph_ops.specs.Mentions.{is_among}
use Rattle.graph_ops.specs.PlainGraph.{PlainGraph}
use Rattle.program_defs.specs.declared.program.Answer.{Answer}
use Rattle.program_defs.specs.declared.program.Answer.TheVariants.{Priced}
use Rattle.program_defs.specs.declared.program.Bound.{Bound}
use Rattle.program_defs.specs.declared.program.Program.{Program}
use Rattle.program_defs.specs.declared.program.Program.TheVariants.{Price}
use Rattle.program_defs.specs.PlainAnswer.{IsPlainAnswer}
use Rattle.program_defs.specs.PricedAnswer.{IsPricedAnswer}
use Rattle.program_defs.proofs.Proving.{not-held, nothing-or-wrong}
use Rattle.program_defs.proofs.certificate.proves.Goals as goal

-- of a `price` and its answer
of-price : (graph : PlainGraph) (program : Program) (answer : Answer) (from to key : Name) (walk : Option (List Name)) (total : ℕ) (bounds : List Bound) (holds : Bool)
    → program ≡ Price from to key → answer ≡ Priced walk total bounds → (IsTrue holds ↔ IsPricedAnswer graph from to key walk total bounds) → (IsTrue holds ↔ IsPlainAnswer graph program answer)
of-price graph program answer from to key walk total bounds holds p a h =
    subst (λ (q : Program). IsTrue holds ↔ IsPlainAnswer graph q answer) (sym p)
    (subst (λ (x : Answer). IsTrue holds ↔ IsPlainAnswer graph (Price from to key) x) (sym a) h)

some-of : {A : Type 0} (P : A → Type 0) (o : Option A) (x : A) → o ≡ Some x → IfSome o P → P x
some-of {A} P o x e h = subst (λ (r : Option A). IfSome r P) e h

none-of : {A : Type 0} {Q : Type 0} (o : Option A) → o ≡ None → IfNone o Q → Q
none-of {A} {Q} o e h = subst (λ (r : Option A). IfNone r Q) e h

pub returns-in-None : goal.returns-in-None
returns-in-None c =
    let bounds = c.as_slice-bounds.result.now in
    let is_answer = c.in-Priced.is ∙ ap (Priced c.in-Priced.walk c.in-Priced.total) (sym c.as_slice-bounds.ensures) in
    let lacks = none-of _ c.in-None.is c.in_ok-numbered.ensures.none in
    of-price (plain_of c.args.graph.now) c.args.program.now c.args.answer.now c.in-Price.from c.in-Price.to c.in-Price.key c.in-Priced.walk c.in-Priced.total bounds false c.in-Price.is is_answer (
      (λ h. absurd (true≢false (sym h))),
      (λ answer. absurd (not-held (plain_of c.args.graph.now) c.in-Price.from c.in-Price.to c.in-Price.key c.in-Priced.walk c.in-Priced.total bounds lacks answer)),
    )

pub returns-in-None-start : goal.returns-in-None-start
returns-in-None-start c =
    let bounds = c.as_slice-bounds.result.now in
    let is_answer = c.in-Priced.is ∙ ap (Priced c.in-Priced.walk c.in-Priced.total) (sym c.as_slice-bounds.ensures) in
    let numbers = some-of _ _ c.in-Some.list c.in-Some.is c.in_ok-numbered.ensures.some in
    let unlisted = subst (λ (vs : List Name). is_among vs c.in-Price.from ≡ false) (c.as_slice.ensures.value ∙ numbers.names) c.in-None-start.ensures.none in
    let nothing = nothing-or-wrong (plain_of c.args.graph.now) c.in-Price.from c.in-Price.to c.in-Price.key c.in-Priced.walk c.in-Priced.total bounds unlisted in
    of-price (plain_of c.args.graph.now) c.args.program.now c.args.answer.now c.in-Price.from c.in-Price.to c.in-Price.key c.in-Priced.walk c.in-Priced.total bounds c.is_nothing.result c.in-Price.is is_answer (
      (λ h. nothing.0 (c.is_nothing.ensures.0 h)),
      (λ answer. c.is_nothing.ensures.1 (nothing.1 answer)),
    )

pub proves_by-requires-clause-start : goal.proves_by-requires-clause-start
proves_by-requires-clause-start c =
    let numbers = some-of _ _ c.in-Some.list c.in-Some.is c.in_ok-numbered.ensures.some in
    let at = subst (λ (vs : List Name). slice_get vs c.in-Some-start.start ≡ Some c.in-Price.from) c.as_slice.ensures.value c.in-Some-start.ensures.some in
    omega (arith, slice_get_within c.in-Some.list.vertices.items c.in-Some-start.start c.in-Price.from at, numbers.len)

pub returns : goal.returns
returns c =
    let bounds = c.as_slice-bounds.result.now in
    let is_answer = c.in-Priced.is ∙ ap (Priced c.in-Priced.walk c.in-Priced.total) (sym c.as_slice-bounds.ensures) in
    let numbers = some-of _ _ c.in-Some.list c.in-Some.is c.in_ok-numbered.ensures.some in
    let at = subst (λ (vs : List Name). slice_get vs c.in-Some-start.start ≡ Some c.in-Price.from) c.as_slice.ensures.value c.in-Some-start.ensures.some in
    of-price (plain_of c.args.graph.now) c.args.program.now c.args.answer.now c.in-Price.from c.in-Price.to c.in-Price.key c.in-Priced.walk c.in-Priced.total bounds c.in_ok-holds-in-Some-start.holds c.in-Price.is is_answer
    (c.in_ok-holds-in-Some-start.ensures (plain_of c.args.graph.now) c.in-Price.key c.in-Price.from bounds numbers at)
