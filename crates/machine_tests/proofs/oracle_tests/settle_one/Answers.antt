use Rattle.std.proofs.Common.{◌∷◌, [], Contains, inl, inr, subst}
use Rattle.order_graph.specs.Building.{ends_of}
use Rattle.weave_data.proofs.Members.{has_read, has_none}
use Rattle.timeline_oracle.specs.Log.{pairs_of_log}
use Rattle.machine_tests.proofs.oracle_tests.settle_one.Goals as goal

pub settle-answer-requires-clause-coherent : goal.settle-answer-requires-clause-coherent
settle-answer-requires-clause-coherent g c =
    c.parts_and_unions_are_coherent.ensures.part _ c.args.events.now c.requires.coherent (λ stamp h. elim (has_read c.args.later (c.args.earlier ∷ ends_of (pairs_of_log c.args.oracle.now)) stamp h) [
      | inl first ↦ subst (Contains c.args.events.now) first c.requires.later
      | inr more ↦ elim (has_read c.args.earlier (ends_of (pairs_of_log c.args.oracle.now)) stamp more) [
        | inl second ↦ subst (Contains c.args.events.now) second c.requires.earlier
        | inr known ↦ c.requires.known stamp known
      ]
    ])

pub returns : goal.returns
returns g c =
    λ stamp h. elim (c.settle-answer.ensures.known stamp h) [
      | inl before ↦ c.requires.known stamp before
      | inr handed ↦ elim (has_read c.args.later (c.args.earlier ∷ []) stamp handed) [
        | inl first ↦ subst (Contains c.args.events.now) first c.requires.later
        | inr more ↦ elim (has_read c.args.earlier [] stamp more) [
          | inl second ↦ subst (Contains c.args.events.now) second c.requires.earlier
          | inr none ↦ absurd (has_none stamp none)
        ]
      ]
    ]
