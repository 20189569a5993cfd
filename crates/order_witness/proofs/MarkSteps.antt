-- Marks, reply after reply and commit after commit.
-- Used by `marks_of`, Marking, Numbered and TurnSteps.
use Rattle.std.proofs.Common.{◌≡◌, ℕ, zero, suc, ◌+◌, ◌-◌, ◌<◌, ◌≤◌, Bool, true, false, List, get_or, Option, Some, None, eqb, ◌⊎◌, inl, inr, refl, sym, ap, ◌∙◌, subst, arith}
use Rattle.std.specs.Prelude.{slice_get, MatchBool}
use Rattle.std.specs.Option.{option_and_then}
use Rattle.std.proofs.lemmas.Bool.{cases_eq, cases_lt, eq-eqb, ne_eqb}
use Rattle.std.proofs.lemmas.Option.{same_Some}
use Rattle.graph_ops.specs.PlainGraph.{PlainGraph}
use Rattle.program_defs.specs.declared.script.Script.{Script}
use Rattle.program_defs.specs.declared.script.Request.{Request}
use Rattle.report_rules.specs.declared.report.Report.{Report}
use Rattle.report_rules.specs.declared.report.Reply.{Reply}
use Rattle.report_rules.specs.declared.report.ReplyState.{ReplyState}
use Rattle.report_rules.specs.declared.report.ReplyState.TheVariants.{Unbegun, Begun, Committed, Conflict, Refused, Finished}
use Rattle.report_rules.specs.Lookups.{request_at}
use Rattle.report_rules.specs.Replay.{graph_of_commits, graph_after_commit, the_only, requests_numbered}
use Rattle.order_witness.specs.Refusals.{IsRefusedOn, IsRefusedSo, Marks, IsMarkedOn, AreMarkedOn, refused_after, AreMarkedUpTo}

-- a number that is there isn't missing
pub nothing : (n : ℕ) → None ≡ Some n → ⊥
nothing n e = cc

module _ (script : Script) (graph : PlainGraph) (after r : ℕ) (old new : Bool) where
  -- a reply that is refused after this number of commits is marked
  pub marked_here : (state : ReplyState) → IsMarkedOn script graph after r state old new → refused_after state ≡ Some after → Marks new (IsRefusedSo script (Some graph) r state)
  marked_here Unbegun h e = absurd (nothing after e)
  marked_here Begun h e = absurd (nothing after e)
  marked_here (Committed number answers) h e = absurd (nothing after e)
  marked_here (Conflict v newer) h e = absurd (nothing after e)
  marked_here (Refused op reason at) h e = subst (λ b. MatchBool b (Marks new (IsRefusedOn (Some graph) (request_at script r) op reason)) (new ≡ old)) (eq-eqb at after (same_Some at after e)) h
  marked_here (Finished answer) h e = absurd (nothing after e)

  -- the mark of a reply that isn't refused after this number of commits stays
  pub kept_mark : (state : ReplyState) → IsMarkedOn script graph after r state old new → (refused_after state ≡ Some after → ⊥) → new ≡ old
  kept_mark Unbegun h e = h
  kept_mark Begun h e = h
  kept_mark (Committed number answers) h e = h
  kept_mark (Conflict v newer) h e = h
  kept_mark (Refused op reason at) h e = subst (λ b. MatchBool b (Marks new (IsRefusedOn (Some graph) (request_at script r) op reason)) (new ≡ old)) (ne_eqb at after (λ same. e (ap Some same))) h
  kept_mark (Finished answer) h e = h

-- a mark that is set twice is as if it were set once
pub marked_twice : (script : Script) (graph : PlainGraph) (after r : ℕ) (old middle new : Bool) (state : ReplyState) → IsMarkedOn script graph after r state old middle → IsMarkedOn script graph after r state middle new → IsMarkedOn script graph after r state old new
marked_twice script graph after r old middle new Unbegun g h = h ∙ g
marked_twice script graph after r old middle new Begun g h = h ∙ g
marked_twice script graph after r old middle new (Committed number answers) g h = h ∙ g
marked_twice script graph after r old middle new (Conflict v newer) g h = h ∙ g
marked_twice script graph after r old middle new (Refused op reason at) g h = both (eqb at after) g h
  where
    both : (b : Bool) → MatchBool b (Marks middle (IsRefusedOn (Some graph) (request_at script r) op reason)) (middle ≡ old) → MatchBool b (Marks new (IsRefusedOn (Some graph) (request_at script r) op reason)) (new ≡ middle) → MatchBool b (Marks new (IsRefusedOn (Some graph) (request_at script r) op reason)) (new ≡ old)
    both true g h = h
    both false g h = h ∙ g
marked_twice script graph after r old middle new (Finished answer) g h = h ∙ g

-- a mark that stays is right for a reply that isn't refused after this number of commits
pub mark_kept : (script : Script) (graph : PlainGraph) (after r : ℕ) (old new : Bool) (state : ReplyState) → (refused_after state ≡ Some after → ⊥) → new ≡ old → IsMarkedOn script graph after r state old new
mark_kept script graph after r old new Unbegun other h = h
mark_kept script graph after r old new Begun other h = h
mark_kept script graph after r old new (Committed number answers) other h = h
mark_kept script graph after r old new (Conflict v newer) other h = h
mark_kept script graph after r old new (Refused op reason at) other h = subst (λ b. MatchBool b (Marks new (IsRefusedOn (Some graph) (request_at script r) op reason)) (new ≡ old)) (sym (ne_eqb at after (λ same. other (ap Some same)))) h
mark_kept script graph after r old new (Finished answer) other h = h

-- a reply is refused after this number of commits, or isn't
pub refused_or_not : (after : ℕ) (state : ReplyState) → (refused_after state ≡ Some after) ⊎ (refused_after state ≡ Some after → ⊥)
refused_or_not after Unbegun = inr (nothing after)
refused_or_not after Begun = inr (nothing after)
refused_or_not after (Committed number answers) = inr (nothing after)
refused_or_not after (Conflict v newer) = inr (nothing after)
refused_or_not after (Refused op reason at) = elim (cases_eq at after) [ inl same ↦ inl (ap Some same) | inr other ↦ inr (λ e. other (same_Some at after e)) ]
refused_or_not after (Finished answer) = inr (nothing after)

-- without a graph nothing is refused so
none_refused : (script : Script) (r : ℕ) (state : ReplyState) (at : ℕ) → refused_after state ≡ Some at → IsRefusedSo script None r state → ⊥
none_refused script r Unbegun at e h = nothing at e
none_refused script r Begun at e h = nothing at e
none_refused script r (Committed number answers) at e h = nothing at e
none_refused script r (Conflict v newer) at e h = nothing at e
none_refused script r (Refused op reason n) at e h = h
none_refused script r (Finished answer) at e h = nothing at e

module _ (script : Script) (report : Report) where
  -- the marks after this number of commits: of those refused after at most this number they are right, the others have none
  pub record AreSoFar (done : ℕ) (marks : List Bool) : Type 0 where
    pub marked : AreMarkedUpTo done script report marks
    pub ahead : (place at : ℕ) (reply : Reply) → slice_get report.replies place ≡ Some reply → refused_after reply.state ≡ Some at → done < at → get_or marks place false ≡ false

  -- past a commit that isn't there, or doesn't pass, there is no graph
  none_after : (done more : ℕ) → graph_of_commits script report done ≡ None → graph_of_commits script report (more + done) ≡ None
  none_after done zero none = subst (λ n. graph_of_commits script report n ≡ None) (let e : done ≡ zero + done = omega arith in e) none
  none_after done (suc more) none = subst (λ n. graph_of_commits script report n ≡ None) (let e : suc (more + done) ≡ suc more + done = omega arith in e) (still (option_and_then (request_at script) (the_only (requests_numbered (suc (more + done)) report))) (graph_of_commits script report (more + done)) (none_after done more none))
    where
      still : (o : Option Request) (g : Option PlainGraph) → g ≡ None → graph_after_commit o g ≡ None
      still None g none = refl
      still (Some request) None none = refl
      still (Some request) (Some graph) none = cc

  none_from : (done at : ℕ) → done ≤ at → graph_of_commits script report done ≡ None → graph_of_commits script report at ≡ None
  none_from done at le none = subst (λ n. graph_of_commits script report n ≡ None) (let e : (at - done) + done ≡ at = omega arith in e) (none_after done (at - done) none)

  -- if marks are right up to `done` commits and there is no graph past them, the marks are right up to any number
  pub at_end : (done most : ℕ) (marks : List Bool) → AreSoFar done marks → graph_of_commits script report (done + 1) ≡ None → AreMarkedUpTo most script report marks
  at_end done most marks so_far none place at reply here is below =
      elim (cases_lt done at) [
        | inr within ↦ so_far.marked place at reply here is within
        | inl beyond ↦
            subst (λ b. Marks b (IsRefusedSo script (graph_of_commits script report at) reply.request reply.state)) (sym (so_far.ahead place at reply here is beyond))
            (λ h. none_refused script reply.request reply.state at is (subst (λ g. IsRefusedSo script g reply.request reply.state) (none_from (done + 1) at (omega (arith, beyond)) none) h))
      ]

  -- if the marks are right up to `done` commits and those on the next graph are set, they are right up to one more
  pub one_more : (done : ℕ) (graph : PlainGraph) (old new : List Bool) → AreSoFar done old → graph_of_commits script report (done + 1) ≡ Some graph → AreMarkedOn script graph (done + 1) report.replies old new → AreSoFar (done + 1) new
  one_more done graph old new so_far there marked = record {
    marked = λ place at reply here is le.
        let this = marked place reply here in
        elim (cases_eq at (done + 1)) [
          | inl same ↦
              subst (λ n. Marks (get_or new place false) (IsRefusedSo script (graph_of_commits script report n) reply.request reply.state)) (sym same)
              (subst (λ g. Marks (get_or new place false) (IsRefusedSo script g reply.request reply.state)) (sym there)
              (marked_here script graph (done + 1) reply.request (get_or old place false) (get_or new place false) reply.state this (is ∙ ap Some same)))
          | inr other ↦
              subst (λ b. Marks b (IsRefusedSo script (graph_of_commits script report at) reply.request reply.state))
              (sym (kept_mark script graph (done + 1) reply.request (get_or old place false) (get_or new place false) reply.state this (λ e. other (same_Some at (done + 1) (sym is ∙ e)))))
              (so_far.marked place at reply here is (omega (arith, le, other)))
        ];
    ahead = λ place at reply here is lt.
        kept_mark script graph (done + 1) reply.request (get_or old place false) (get_or new place false) reply.state (marked place reply here) (λ e. absurd (omega (arith, lt, same_Some at (done + 1) (sym is ∙ e))))
        ∙ so_far.ahead place at reply here is (omega (arith, lt));
  }

  -- if nothing was marked and the marks on the graph of no commits are set, they are right up to no commits
  pub at_start : (graph : PlainGraph) (old new : List Bool) → ((place : ℕ) → get_or old place false ≡ false) → graph_of_commits script report 0 ≡ Some graph → AreMarkedOn script graph 0 report.replies old new → AreSoFar 0 new
  at_start graph old new none there marked = record {
    marked = λ place at reply here is le.
        let same : at ≡ 0 = omega (arith, le) in
        subst (λ n. Marks (get_or new place false) (IsRefusedSo script (graph_of_commits script report n) reply.request reply.state)) (sym same)
        (subst (λ g. Marks (get_or new place false) (IsRefusedSo script g reply.request reply.state)) (sym there)
        (marked_here script graph 0 reply.request (get_or old place false) (get_or new place false) reply.state (marked place reply here) (is ∙ ap Some same)));
    ahead = λ place at reply here is lt.
        kept_mark script graph 0 reply.request (get_or old place false) (get_or new place false) reply.state (marked place reply here) (λ e. absurd (omega (arith, lt, same_Some at 0 (sym is ∙ e)))) ∙ none place;
  }

  -- the graph after one commit more
  pub next_commit : (done : ℕ) → graph_of_commits script report (done + 1) ≡ graph_after_commit (option_and_then (request_at script) (the_only (requests_numbered (done + 1) report))) (graph_of_commits script report done)
  next_commit done =
      let same : suc done ≡ done + 1 = omega arith in
      subst (λ n. graph_of_commits script report n ≡ graph_after_commit (option_and_then (request_at script) (the_only (requests_numbered n report))) (graph_of_commits script report done)) same refl
