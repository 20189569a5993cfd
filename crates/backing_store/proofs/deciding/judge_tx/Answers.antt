use Rattle.std.proofs.Common.{◌≡◌, ◌++◌, ℕ, List, [], Bool, true, false, Option, Some, None, Result, Ok, Err, IfOk, inl, refl, sym, ap, ◌∙◌, rules}
use Rattle.std.specs.Prelude.{is_some, IsSome}
use Rattle.std.proofs.lemmas.Bool.{false≢true}
use Rattle.std.proofs.lemmas.List.{append-nil}
use Rattle.std.proofs.lemmas.Result.{IfOk-from_err}
use Rattle.weave_data.specs.declared.name.Name.{Name}
use Rattle.weave_data.proofs.Results.{on_err_known}
use Rattle.vector_stamp.specs.Precedence.{GivenPair}
use Rattle.vector_stamp.specs.Settling.{refused_place, additions, additions_from, places_of, pairs_of, SettledEntry, entries_of_call}
use Rattle.graph_ops.specs.declared.op.Op.{Op}
use Rattle.graph_ops.specs.Graphs.{plain_of}
use Rattle.graph_ops.specs.Pendings.{BothVertices}
use Rattle.graph_ops.specs.PlainGraph.{PlainGraph, TxOutcome, transaction, graph_left}
use Rattle.weave_entries.specs.declared.verdict.Counted.{Counted}
use Rattle.weave_entries.specs.declared.verdict.Verdict.{Verdict}
use Rattle.weave_entries.specs.declared.verdict.Verdict.TheVariants.{Conflict}
use Rattle.backing_store.specs.JudgeCalls.{if_permitted}
use Rattle.backing_store.specs.Commits.{of_commit}
use Rattle.backing_store.specs.Trying.{IsTrial, verdict_of_ops, verdict_asked, graph_asked, graph_after_verdict}
use Rattle.backing_store.proofs.Judging.{if_ok, stale_is, decided_is}
use Rattle.backing_store.proofs.deciding.judge_tx.Goals as goal

-- what follows from two things that hold of an answer holds of it, too
if_ok_two : {A E : Type 0} {P R Q : A → Type 0} (result : Result A E) → ((a : A) → P a → R a → Q a) → IfOk result P → IfOk result R → IfOk result Q
if_ok_two (Ok a) go p r = go a p r
if_ok_two (Err e) go p r = tt

no_some : {A : Type 0} (o : Option A) → o ≡ None → IsSome o → ⊥
no_some o is some = false≢true (sym (ap is_some is) ∙ some)

-- the graph that is left is that of the verdict
graph_of_verdict : (place : Option ℕ) (vertices : List Name) (newer : List ℕ) (made : ℕ) (counts : List Counted) (graph : PlainGraph) (ops : List Op) (outcome : TxOutcome) → outcome ≡ transaction ops graph
    → graph_asked place graph outcome ≡ graph_after_verdict (verdict_asked place vertices newer (verdict_of_ops made counts outcome)) graph ops
graph_of_verdict None vertices newer made counts graph ops (Ok passed) is = ap (graph_left graph) is
graph_of_verdict None vertices newer made counts graph ops (Err stopped) is = refl
graph_of_verdict (Some place) vertices newer made counts graph ops outcome is = refl

-- what the judge keeps if the operations passed and it permitted them is what it keeps of a commit
kept_of_commit : {A : Type 0} (kept : Bool → List A) → kept false ≡ [] → (place : Option ℕ) (vertices : List Name) (newer : List ℕ) (made : ℕ) (counts : List Counted) (old now : PlainGraph) (outcome : TxOutcome) (pending : Option BothVertices) → IsTrial outcome old now pending
    → if_permitted place (kept (is_some pending)) ≡ of_commit (verdict_asked place vertices newer (verdict_of_ops made counts outcome)) (kept true)
kept_of_commit kept none None vertices newer made counts old now (Ok passed) (Some pending) trial = refl
kept_of_commit kept none None vertices newer made counts old now (Ok passed) None trial = absurd trial
kept_of_commit kept none None vertices newer made counts old now (Err stopped) (Some pending) trial = absurd trial
kept_of_commit kept none None vertices newer made counts old now (Err stopped) None trial = none
kept_of_commit kept none (Some place) vertices newer made counts old now outcome pending trial = refl

-- The stamp is before a last one

pub returns-in-Some : goal.returns-in-Some
returns-in-Some g c =
    let pairs = g.J.Judge.pairs c.args.judge.now in
    let log = g.J.Judge.log_of c.args.judge.now in
    let stamps = c.args.asked.now.stamps in
    let there : c.conflict.result.logged ≡ Conflict c.in-Some.vertex c.in-Some.newer = search rules in
    record {
      logged = λ commits before. there ∙ stale_is _ _ _ _ _ _ _ commits before pairs c.in-Some.vertex c.in-Some.newer (sym c.first_newer.ensures ∙ c.in-Some.is);
      answer = c.conflict.ensures.answer;
      graph = ap (λ (verdict : Verdict). graph_after_verdict verdict (plain_of c.args.graph.now) c.args.ops.now) (sym there);
      back = tt;
      pairs = sym (append-nil pairs) ∙ ap (λ (verdict : Verdict). pairs ++ of_commit verdict (pairs_of (additions_from 0 pairs stamps c.args.stamp) c.args.stamp)) (sym there);
      judge_logged = λ keeps. sym (append-nil log)
          ∙ ap (λ (verdict : Verdict). log ++ of_commit verdict (entries_of_call c.args.author stamps c.args.stamp (places_of (additions_from 0 pairs stamps c.args.stamp)))) (sym there);
      known = λ one h. inl h;
      stay_known = λ one h. h;
      newer = λ some. refl;
      not_asked = λ none. refl;
      unchanged = tt;
    }

-- Out of memory

pub returns-in_err-counts : goal.returns-in_err-counts
returns-in_err-counts g c =
    let result = c.from_residual.result in
    let is = c.from_residual.ensures.0 in
    record {
      logged = λ commits before. IfOk-from_err result _ is;
      answer = IfOk-from_err result _ is;
      graph = IfOk-from_err result _ is;
      back = on_err_known result _ refl;
      pairs = IfOk-from_err result _ is;
      judge_logged = IfOk-from_err result _ is;
      known = λ one h. inl h;
      stay_known = λ one h. h;
      newer = λ some. refl;
      not_asked = λ none. refl;
      unchanged = on_err_known result _ refl;
    }

pub try_ops-requires : goal.try_ops-requires
try_ops-requires g c = record { few = c.requires.few_ops; room = c.requires.room }

pub returns-in_err-tried : goal.returns-in_err-tried
returns-in_err-tried g c =
    let result = c.from_residual-in_err-tried.result in
    let is = c.from_residual-in_err-tried.ensures.0 in
    record {
      logged = λ commits before. IfOk-from_err result _ is;
      answer = IfOk-from_err result _ is;
      graph = IfOk-from_err result _ is;
      back = on_err_known result _ c.in_err-tried.ensures.unchanged;
      pairs = IfOk-from_err result _ is;
      judge_logged = IfOk-from_err result _ is;
      known = λ one h. inl h;
      stay_known = λ one h. h;
      newer = λ some. refl;
      not_asked = λ none. refl;
      unchanged = on_err_known result _ refl;
    }

-- What the judge is asked and decides

pub decide-requires : goal.decide-requires
decide-requires g c =
    record {
      few = c.requires.few;
      vertices = c.requires.vertices;
      newer = c.requires.newer;
      other_ids = c.requires.other_ids;
      coherent = c.requires.coherent;
      answer = c.in_ok-tried.ensures.answer;
    }

pub returns : goal.returns
returns g c =
    let pairs = g.J.Judge.pairs c.args.judge.now in
    let log = g.J.Judge.log_of c.args.judge.now in
    let asked = c.args.asked.now in
    let stamp = c.args.stamp in
    let graph = plain_of c.args.graph.now in
    let ops = c.args.ops.now in
    let counts = c.in_ok-counts.counts in
    let tried = c.in_ok-tried.tried in
    let outcome : TxOutcome = transaction ops graph in
    let place : Option ℕ = refused_place pairs asked.stamps stamp in
    let tried_is : tried.logged ≡ verdict_of_ops c.args.made counts outcome = c.in_ok-tried.ensures.logged in
    let verdict_is = ap (verdict_asked place asked.vertices asked.newer) tried_is in
    let kept_pairs : Bool → List GivenPair = λ keep. pairs_of (additions keep pairs asked.stamps stamp) stamp in
    let kept_entries : Bool → List SettledEntry = λ keep. entries_of_call c.args.author asked.stamps stamp (places_of (additions keep pairs asked.stamps stamp)) in
    record {
      logged = λ commits before.
          if_ok c.decide.result (λ decided is. is ∙ decided_is _ _ _ _ _ _ _ commits before pairs counts tried.logged (sym c.first_newer.ensures ∙ c.in_default.is) c.in_ok-counts.ensures tried_is) c.decide.ensures.logged;
      answer = c.decide.ensures.answer;
      graph = if_ok_two c.decide.result (λ decided logged left.
          left ∙ graph_of_verdict place asked.vertices asked.newer c.args.made counts graph ops outcome refl
          ∙ ap (λ (verdict : Verdict). graph_after_verdict verdict graph ops) (sym (logged ∙ verdict_is)))
          c.decide.ensures.logged (c.decide.ensures.graph outcome graph c.in_ok-tried.ensures.trial);
      back = c.decide.ensures.back outcome graph c.in_ok-tried.ensures.trial;
      pairs = if_ok_two c.decide.result (λ decided logged added.
          added
          ∙ ap (λ (kept : List GivenPair). pairs ++ kept) (kept_of_commit kept_pairs refl place asked.vertices asked.newer c.args.made counts graph _ outcome tried.pending c.in_ok-tried.ensures.trial)
          ∙ ap (λ (verdict : Verdict). pairs ++ of_commit verdict (kept_pairs true)) (sym (logged ∙ verdict_is)))
          c.decide.ensures.logged c.decide.ensures.pairs;
      judge_logged = if_ok_two c.decide.result (λ decided logged added keeps.
          added keeps
          ∙ ap (λ (kept : List SettledEntry). log ++ kept) (kept_of_commit kept_entries refl place asked.vertices asked.newer c.args.made counts graph _ outcome tried.pending c.in_ok-tried.ensures.trial)
          ∙ ap (λ (verdict : Verdict). log ++ of_commit verdict (kept_entries true)) (sym (logged ∙ verdict_is)))
          c.decide.ensures.logged c.decide.ensures.judge_logged;
      known = c.decide.ensures.known;
      stay_known = c.decide.ensures.stay_known;
      newer = λ some. absurd (no_some _ (sym c.first_newer.ensures ∙ c.in_default.is) some);
      not_asked = c.decide.ensures.not_asked;
      unchanged = c.decide.ensures.unchanged;
    }
