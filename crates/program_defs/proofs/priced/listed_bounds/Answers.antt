use Rattle.std.proofs.Common.{◌<◌, ◌+◌, length, ◌∙◌, ◌++◌, ◌∷◌, [], sym, ap, drop, Some, None, arith, List}
use Rattle.std.proofs.lemmas.List.{append_assoc, get_or_read}
use Rattle.program_defs.specs.declared.program.Bound.{Bound}
use Rattle.program_defs.specs.Labels.{bounds_of}
use Rattle.program_defs.proofs.CertificateSteps.{bounds-next}
use Rattle.program_defs.proofs.priced.listed_bounds.Goals as goal
use Rattle.program_defs.proofs.priced.listed_bounds.Goals.{in-Some+in_ok-push, in_default}

pub loop-place-preserved : goal.loop-place-preserved
loop-place-preserved c =
    let place = c.loop-place.place in
    let vertices = c.args.vertices.now in
    let labels = c.args.labels.now in
    let inside : place < length vertices = omega (arith, c.loop-place.auto.place-end, c.loop-place-test.true) in
    let within : place < length labels = omega (arith, c.requires, c.loop-place.auto.place-end, c.loop-place-test.true) in
    let rest : List Bound = bounds_of (drop (place + 1) vertices) (drop (place + 1) labels) in
    elim c.match-label_of.branch [
      | in-Some+in_ok-push w ↦
          let next = bounds-next vertices labels place (Some w.in-Some.price) inside within (sym c.label_of.ensures ∙ w.in-Some.is) in
          let name = get_or_read vertices place _ inside w.index-vertices-place.is [] in
          rw w.bounds-is (
          ap (λ (xs : List Bound). xs ++ rest) (w.in_ok-push.ensures.ok ∙ ap (λ v. c.loop-place.bounds ++ record { vertex = v; price = w.in-Some.price } ∷ []) name)
          ∙ append_assoc c.loop-place.bounds _ rest
          ∙ ap (λ (xs : List Bound). c.loop-place.bounds ++ xs) (sym next)
          ∙ c.loop-place.invariant
          )
      | in_default w ↦
          let next = bounds-next vertices labels place None inside within (sym c.label_of.ensures ∙ w.in_default.is) in
          rw w.bounds-is (ap (λ (xs : List Bound). c.loop-place.bounds ++ xs) (sym next) ∙ c.loop-place.invariant)
    ]
