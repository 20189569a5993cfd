-- A settle is the list of its calls.
-- Used by `a_settle_is_its_calls`.
use Rattle.std.proofs.Common.{◌≡◌, ℕ, ◌≤◌, true, [], ◌∷◌, ◌++◌, length, Some, IsTrue, inl, inr, refl, sym, ap, subst, ◌∙◌, arith}
use Rattle.std.proofs.lemmas.Bool.{cases_lt, both_ways}
use Rattle.oracle_chain.specs.declared.ask.Ask.{Ask}
use Rattle.oracle_chain.specs.Chain.{ReplicaChainView, is_live, asks_at, asks_of, head_number}
use Rattle.oracle_chain.specs.Calls.{with_ask, with_ask_at, after_levelling, after_settle, after_calls}
use Rattle.oracle_chain.specs.IsReplicaChain.{IsPrefixOf, IsReplicaChain, MayAsk}
use Rattle.oracle_chain.specs.Judging.{levelling_calls, settle_calls}
use Rattle.oracle_chain.proofs.Places.{live-within, head-first, some-head}
use Rattle.oracle_chain.proofs.Growing.{not-before-begins, ask-live, ask-here}
use Rattle.oracle_chain.proofs.Asking.{PartsAreCoherent}
use Rattle.oracle_chain.proofs.Keeping.{Keeps, accept-at}
use Rattle.oracle_chain.proofs.Settling.{levels-first}

module _ (part : PartsAreCoherent) (chain : ReplicaChainView) (is : IsReplicaChain chain) (ask : Ask) (may : MayAsk chain ask) where
  at-head : (h : ℕ) → head_number chain.replicas ≡ Some h
      → after_calls (record chain { replicas = with_ask chain.replicas h ask }) (levelling_calls (asks_at chain.replicas h ++ ask ∷ []) 0 0 (length chain.messages) (with_ask chain.replicas h ask))
      ≡ after_levelling (asks_at chain.replicas h ++ ask ∷ []) (record chain { replicas = with_ask chain.replicas h ask })
  at-head h is-head =
      let rs = chain.replicas in
      let first = head-first rs h is-head in
      let within = live-within rs h first.0 in
      let accepted : Keeps chain (record chain { replicas = with_ask rs h ask }) = accept-at part chain is ask h may is-head in
      let was : (j : ℕ) → is_live (with_ask rs h ask) j ≡ true → IsTrue (is_live rs j) = λ j live. sym (ask-live rs h ask within j) ∙ live in
      let live-h : IsTrue (is_live (with_ask rs h ask) h) = ask-live rs h ask within h ∙ first.0 in
      let here = ask-here rs h ask within in
      let not-before : (j : ℕ) → is_live (with_ask rs h ask) j ≡ true → h ≤ j = λ j live. elim (cases_lt j h) [ inl below ↦ absurd (first.1 j below (was j live)) | inr over ↦ over ] in
      levels-first (asks_at rs h ++ ask ∷ []) (with_ask rs h ask)
      (λ j live. subst (λ xs. IsPrefixOf (asks_at (with_ask rs h ask) j) xs) here (not-before-begins (with_ask rs h ask) h j accepted.is_chain.ordered (not-before j live) live-h live))
      (λ j live none. elim (cases_lt h j) [
        | inl after ↦ absurd (both_ways (is_live (with_ask rs h ask) h) (none h after) live-h)
        | inr over ↦ (let same : j ≡ h = (let other = not-before j live in omega (arith, other, over)) in ap (λ k. asks_at (with_ask rs h ask) k) same ∙ here)
      ])
      [] 0 chain.messages 0 (length chain.messages) refl refl

  -- the calls leave what the settle leaves
  pub settle-is-calls : after_calls chain (settle_calls chain ask) ≡ after_settle chain ask
  settle-is-calls =
      let head = some-head chain.replicas is.some_live in
      subst (λ o. after_calls (record chain { replicas = with_ask_at chain.replicas o ask }) (levelling_calls (asks_of chain.replicas o ++ ask ∷ []) 0 0 (length chain.messages) (with_ask_at chain.replicas o ask))
      ≡ after_levelling (asks_of chain.replicas o ++ ask ∷ []) (record chain { replicas = with_ask_at chain.replicas o ask }))
      (sym head.1) (at-head head.0 head.1)
