-- The order, replayed request after request.
-- Used by `first_fault`, `gives` and Visiting.
use Rattle.std.proofs.Common.{◌≡◌, ℕ, zero, suc, ◌+◌, ◌<◌, Bool, true, false, cond, eqb, List, [], ◌∷◌, ◌++◌, take, get_or, length, IsTrue, Ok, Err, refl, sym, ap, ◌∙◌, subst, arith}
use Rattle.std.specs.Prelude.{MatchBool, nat_eq}
use Rattle.std.specs.Cmp.Lexicographic.{pointwise}
use Rattle.std.proofs.lemmas.Bool.{both_ways, or_left, or_right, eq-eqb, ne_eqb, false_from_ne_true}
use Rattle.order_witness.specs.Answers.{same_got}
use Rattle.order_witness.proofs.SameRecords.{lists_tell, gots_tell}
use Rattle.graph_ops.specs.PlainGraph.{PlainGraph, TxOutcome, graph_left}
use Rattle.graph_ops.specs.declared.tx.Got.{Got}
use Rattle.program_defs.specs.declared.script.Script.{Script}
use Rattle.report_rules.specs.declared.report.Report.{Report}
use Rattle.report_rules.specs.declared.report.ReplyState.TheVariants.{Committed}
use Rattle.weave_data.specs.Facts.{AllHold, BreaksFirstAt}
use Rattle.report_rules.specs.Replay.{OutcomeMatchesReply, replay_from, graph_after, graph_before}
use Rattle.report_rules.specs.Lookups.{is_in, request_at}
use Rattle.order_witness.specs.Replay.{MatchesItsReply, GivesAnswers, TellsOf}

-- what committed replies say are their answers
pub told_answers : (outcome : TxOutcome) (number : ℕ) (answers : List Got) → OutcomeMatchesReply outcome (Committed number answers) ≡ GivesAnswers outcome answers
told_answers (Ok passed) number answers = refl
told_answers (Err stopped) number answers = refl

-- what the comparison shows of a transaction that passed
pub gave : (outcome : TxOutcome) (old now : PlainGraph) (gots answers : List Got) → outcome ≡ Ok (record { graph = now; gots = gots }) → TellsOf (GivesAnswers outcome answers) now (graph_left old outcome) (pointwise same_got gots answers)
gave outcome old now gots answers is =
    subst (λ (o : TxOutcome). TellsOf (GivesAnswers o answers) now (graph_left old o) (pointwise same_got gots answers)) (sym is) (told (pointwise same_got gots answers) refl)
  where
    told : (b : Bool) → pointwise same_got gots answers ≡ b → MatchBool b ((gots ≡ answers) × (now ≡ now)) (¬ (gots ≡ answers))
    told true e = ((lists_tell same_got gots_tell).one gots answers e, refl)
    told false e = λ same. both_ways _ e (subst (λ others. IsTrue (pointwise same_got gots others)) same ((lists_tell same_got gots_tell).itself gots))

module _ (script : Script) (report : Report) where
  -- the graph that these requests leave
  abbrev pub graph_through : PlainGraph → List ℕ → PlainGraph
  graph_through graph [] = graph
  graph_through graph (r ∷ order) = graph_through (graph_after graph (request_at script r)) order

  next_through : (graph : PlainGraph) (order : List ℕ) (i d : ℕ) → i < length order → graph_through graph (take (suc i) order) ≡ graph_after (graph_through graph (take i order)) (request_at script (get_or order i d))
  next_through graph [] i d lt = absurd (omega (arith, lt))
  next_through graph (r ∷ order) zero d lt = refl
  next_through graph (r ∷ order) (suc i) d lt = next_through (graph_after graph (request_at script r)) order i d (omega (arith, lt))

  next_holds : (graph : PlainGraph) (order : List ℕ) (i d : ℕ) → i < length order → AllHold (replay_from graph script report (take i order))
      → MatchesItsReply (graph_through graph (take i order)) script report (get_or order i d) → AllHold (replay_from graph script report (take (suc i) order))
  next_holds graph [] i d lt h fact = absurd (omega (arith, lt))
  next_holds graph (r ∷ order) zero d lt h fact = (fact, tt)
  next_holds graph (r ∷ order) (suc i) d lt h fact = (h.0, next_holds (graph_after graph (request_at script r)) order i d (omega (arith, lt)) h.1 fact)

  next_breaks : (graph : PlainGraph) (order : List ℕ) (i d : ℕ) → i < length order → AllHold (replay_from graph script report (take i order))
      → ¬ MatchesItsReply (graph_through graph (take i order)) script report (get_or order i d) → BreaksFirstAt (replay_from graph script report order) (suc i)
  next_breaks graph [] i d lt h fails = absurd (omega (arith, lt))
  next_breaks graph (r ∷ order) zero d lt h fails = fails
  next_breaks graph (r ∷ order) (suc i) d lt h fails = (h.0, next_breaks (graph_after graph (request_at script r)) order i d (omega (arith, lt)) h.1 fails)

  -- so far the outcome of each request is what its reply says, and this is the graph
  pub record AreReplayed (start graph : PlainGraph) (order : List ℕ) : Type 0 where
    pub hold : AllHold (replay_from start script report order)
    pub left : graph ≡ graph_through start order

  module _ (start : PlainGraph) (order : List ℕ) (i d : ℕ) (graph now : PlainGraph) (lt : i < length order) (so_far : AreReplayed start graph (take i order)) where
    -- if the outcome of the next request is what its reply says, one request more is replayed
    pub one_more : (r : ℕ) → r ≡ get_or order i d → TellsOf (MatchesItsReply graph script report r) now (graph_after graph (request_at script r)) true → AreReplayed start now (take (i + 1) order)
    one_more r is told =
        let same : i + 1 ≡ suc i = omega arith in
        subst (λ n. AreReplayed start now (take n order)) (sym same) (record {
          hold = next_holds start order i d lt so_far.hold (subst (λ x. MatchesItsReply (graph_through start (take i order)) script report x) is (subst (λ g. MatchesItsReply g script report r) so_far.left told.0));
          left = told.1 ∙ ap (λ g. graph_after g (request_at script r)) so_far.left ∙ ap (λ x. graph_after (graph_through start (take i order)) (request_at script x)) is ∙ sym (next_through start order i d lt);
        })

    -- and if it isn't, the replay breaks first at this place
    pub first_break : (r : ℕ) → r ≡ get_or order i d → TellsOf (MatchesItsReply graph script report r) now (graph_after graph (request_at script r)) false → BreaksFirstAt (replay_from start script report order) (i + 1)
    first_break r is told =
        let same : i + 1 ≡ suc i = omega arith in
        subst (λ n. BreaksFirstAt (replay_from start script report order) n) (sym same)
        (next_breaks start order i d lt so_far.hold (λ fact. told (subst (λ g. MatchesItsReply g script report r) (sym so_far.left) (subst (λ x. MatchesItsReply (graph_through start (take i order)) script report x) (sym is) fact))))

-- The graph at a request's place, if the requests before it are others

module _ (script : Script) (report : Report) (r : ℕ) where
  not_this : (x : ℕ) (before : List ℕ) → is_in r (x ∷ before) ≡ false → (eqb x r ≡ false) × (is_in r before ≡ false)
  not_this x before none = (
    ne_eqb x r (λ same. both_ways _ none (or_left _ _ (eq-eqb r x (sym same)))),
    false_from_ne_true _ (λ there. both_ways _ none (or_right (nat_eq r x) _ there)),
  )

  -- the graph at a request's place is what those before it leave, if it isn't among them
  pub graph_here : (graph : PlainGraph) (before after : List ℕ) → is_in r before ≡ false → graph_before r graph script (before ++ r ∷ after) ≡ graph_through script report graph before
  graph_here graph [] after none = ap (λ b. cond b graph (graph_before r (graph_after graph (request_at script r)) script after)) (eq-eqb r r refl)
  graph_here graph (x ∷ before) after none =
      let parts = not_this x before none in
      ap (λ b. cond b graph (graph_before r (graph_after graph (request_at script x)) script (before ++ r ∷ after))) parts.0
      ∙ graph_here (graph_after graph (request_at script x)) before after parts.1
