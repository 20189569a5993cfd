-- If marks are set one place after another, all those gone through are set, and each one is as at the start or set.
-- Used by `mark`.
use Rattle.std.proofs.Common.{◌≡◌, ◌≢◌, ℕ, ◌+◌, ◌<◌, ◌≤◌, Bool, false, List, [], ◌∷◌, ◌++◌, length, take, get_or, Contains, Some, ◌⊎◌, inl, inr, sym, ap, ◌∙◌, subst}
use Rattle.std.specs.Prelude.{slice_get}
use Rattle.std.proofs.lemmas.Bool.{cases_eq}
use Rattle.std.proofs.lemmas.List.{take_more, take_all}
use Rattle.std.proofs.lemmas.List.Elements.{Contains-push_cases}
use Rattle.graph_ops.specs.PlainGraph.{PlainGraph}
use Rattle.program_defs.specs.declared.script.Script.{Script}
use Rattle.report_rules.specs.declared.report.Reply.{Reply}
use Rattle.order_witness.specs.ByNumber.{HasRefused}
use Rattle.order_witness.specs.Refusals.{IsMarkedOn, AreMarkedOn}
use Rattle.order_witness.proofs.MarkSteps.{marked_twice, mark_kept, refused_or_not}

module _ (script : Script) (graph : PlainGraph) (after : ℕ) (replies : List Reply) (start : List Bool) where
  -- the mark of a reply
  abbrev IsSet : List Bool → ℕ → Reply → Type 0
  IsSet now k reply = IsMarkedOn script graph after reply.request reply.state (get_or start k false) (get_or now k false)

  -- the replies at these places are marked
  abbrev pub AreMarkedAt : List ℕ → List Bool → Type 0
  AreMarkedAt places now = (k : ℕ) (reply : Reply) → slice_get replies k ≡ Some reply → Contains places k → IsMarkedOn script graph after reply.request reply.state (get_or start k false) (get_or now k false)

  -- each mark is as at the start, or set
  abbrev pub AreKeptOrSet : List Bool → Type 0
  AreKeptOrSet now = (k : ℕ) (reply : Reply) → slice_get replies k ≡ Some reply → (get_or now k false ≡ get_or start k false) ⊎ IsMarkedOn script graph after reply.request reply.state (get_or start k false) (get_or now k false)

  module _ (old new : List Bool) (p : ℕ) (others : (k : ℕ) → k ≢ p → get_or new k false ≡ get_or old k false)
      (here : (reply : Reply) → slice_get replies p ≡ Some reply → IsMarkedOn script graph after reply.request reply.state (get_or old p false) (get_or new p false))
      (either : AreKeptOrSet old) where
    set_here : (reply : Reply) → slice_get replies p ≡ Some reply → IsSet new p reply
    set_here reply at =
        elim (either p reply at) [
          | inl kept ↦ subst (λ b. IsMarkedOn script graph after reply.request reply.state b (get_or new p false)) kept (here reply at)
          | inr set ↦ marked_twice script graph after reply.request (get_or start p false) (get_or old p false) (get_or new p false) reply.state set (here reply at)
        ]

    set_at : (k : ℕ) (reply : Reply) → k ≡ p → slice_get replies k ≡ Some reply → IsSet new k reply
    set_at k reply same at = subst (λ n. IsSet new n reply) (sym same) (set_here reply (ap (slice_get replies) (sym same) ∙ at))

    -- when the mark of one reply is set, each mark is still as at the start, or set
    pub either_next : AreKeptOrSet new
    either_next k reply at =
        elim (cases_eq k p) [
          | inl same ↦ inr (set_at k reply same at)
          | inr other ↦ elim (either k reply at) [
            | inl kept ↦ inl (others k other ∙ kept)
            | inr set ↦ inr (subst (λ b. IsMarkedOn script graph after reply.request reply.state (get_or start k false) b) (sym (others k other)) set)
          ]
        ]

    -- and the replies at the first places and at this one are marked
    pub marked_next : (places : List ℕ) (i : ℕ) → i < length places → get_or places i 0 ≡ p → AreMarkedAt (take i places) old → AreMarkedAt (take (i + 1) places) new
    marked_next places i lt is marked k reply at has =
        elim (cases_eq k p) [
          | inl same ↦ set_at k reply same at
          | inr other ↦
              subst (λ b. IsMarkedOn script graph after reply.request reply.state (get_or start k false) b) (sym (others k other))
              (marked k reply at (elim (Contains-push_cases (take i places) p k (subst (λ (ps : List ℕ). Contains ps k) (take_more places i 0 lt ∙ ap (λ x. take i places ++ x ∷ []) is) has)) [
                | inl before ↦ before
                | inr same ↦ absurd (other (sym same))
              ]))
        ]

  -- once the places of all that are refused after these commits are gone through, all replies are marked
  pub all_marked : (places : List ℕ) (n : ℕ) (now : List Bool) → length places ≤ n → HasRefused after replies places → AreMarkedAt (take n places) now → AreKeptOrSet now → AreMarkedOn script graph after replies start now
  all_marked places n now all has marked either place reply at =
      elim (either place reply at) [
        | inr set ↦ set
        | inl kept ↦ elim (refused_or_not after reply.state) [
          | inl refused ↦ marked place reply at (subst (λ (ps : List ℕ). Contains ps place) (sym (take_all n places all)) (has place reply at refused))
          | inr other ↦ mark_kept script graph after reply.request (get_or start place false) (get_or now place false) reply.state other kept
        ]
      ]
