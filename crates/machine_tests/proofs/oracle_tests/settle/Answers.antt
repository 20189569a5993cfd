use Rattle.std.proofs.Common.{◌≡◌, List, [], ◌∷◌, ◌++◌, Contains, inl, inr, sym, ◌∙◌, ap, subst}
use Rattle.std.proofs.lemmas.List.Elements.{Contains-append_left, Contains-append_right, Contains-append_cases, Contains-push}
use Rattle.vector_stamp.specs.declared.clock.Stamp.{Stamp}
use Rattle.order_graph.specs.Building.{ends_of}
use Rattle.weave_data.proofs.Members.{has_read}
use Rattle.timeline_oracle.specs.Log.{pairs_of_log}
use Rattle.machine_tests.proofs.oracle_tests.settle.Goals as goal

-- what the list of all stamps has after the later one and the earlier ones were put at its end
module _ (old earlier grown : List Stamp) (later : Stamp) (e : grown ≡ (old ++ later ∷ []) ++ earlier) where
  has_old : (stamp : Stamp) → Contains old stamp → Contains grown stamp
  has_old stamp h = subst (λ (stamps : List Stamp). Contains stamps stamp) (sym e) (Contains-append_left (old ++ later ∷ []) earlier stamp (Contains-append_left old (later ∷ []) stamp h))

  has_handed : (stamp : Stamp) → Contains (later ∷ earlier) stamp → Contains grown stamp
  has_handed stamp h =
      subst (λ (stamps : List Stamp). Contains stamps stamp) (sym e) (elim (has_read later earlier stamp h) [
        | inl here ↦ subst (λ (x : Stamp). Contains ((old ++ later ∷ []) ++ earlier) x) here (Contains-append_left (old ++ later ∷ []) earlier later (Contains-push old later))
        | inr there ↦ Contains-append_right (old ++ later ∷ []) earlier stamp there
      ])

  has_all : (known : List Stamp) → ((stamp : Stamp) → Contains known stamp → Contains old stamp) → (stamp : Stamp) → Contains (later ∷ earlier ++ known) stamp → Contains grown stamp
  has_all known among stamp h =
      elim (Contains-append_cases (later ∷ earlier) known stamp h) [ inl handed ↦ has_handed stamp handed | inr before ↦ has_old stamp (among stamp before) ]

pub settle-requires-clause-coherent : goal.settle-requires-clause-coherent
settle-requires-clause-coherent g c =
    let pushed = rw c.expect.ensures at c.push.ensures.items in
    let extended = rw c.expect-2.ensures at c.extend_from_slice.ensures.items in
    c.parts_and_unions_are_coherent.ensures.part _ c.as_slice-all.result.now (c.are_coherent.ensures.0 c.if-not-are_coherent.false)
    (has_all c.row.inside.kept.items c.args.earlier.now c.as_slice-all.result.now c.args.later (c.as_slice-all.ensures.value ∙ extended ∙ ap (λ (stamps : List Stamp). stamps ++ c.args.earlier.now) pushed) (ends_of (pairs_of_log c.row.inside.oracle)) c.row.invariant)

pub invariant_of-row : goal.invariant_of-row
invariant_of-row g c =
    let pushed = rw c.expect.ensures at c.push.ensures.items in
    let extended = rw c.expect-2.ensures at c.extend_from_slice.ensures.items in
    let grown = extended ∙ ap (λ (stamps : List Stamp). stamps ++ c.args.earlier.now) pushed in
    λ stamp h.
    elim (c.settle.ensures.known stamp h) [
      | inl before ↦ has_old c.row.inside.kept.items c.args.earlier.now c.extend_from_slice.new.self.items c.args.later grown stamp (c.row.invariant stamp before)
      | inr handed ↦ has_handed c.row.inside.kept.items c.args.earlier.now c.extend_from_slice.new.self.items c.args.later grown stamp handed
    ]
