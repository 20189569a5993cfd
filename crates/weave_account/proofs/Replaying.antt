-- Requests replayed one after another, vertex by vertex: the state at a vertex is that of the requests that name it,
-- so it depends on these and their order alone.
-- Used by Meeting, ReadingPlace, ReplayClause, ReplayInTurn, Storing and Transactions.
use Rattle.std.proofs.Common.{◌≡◌, ℕ, Bool, true, false, cond, List, [], ◌∷◌, ◌++◌, IsTrue, Option, Some, None, Ok, Err, refl, sym, ap, subst, ◌∙◌}
use Rattle.std.specs.Prelude.{⊤}
use Rattle.std.specs.List.{filter}
use Rattle.std.proofs.lemmas.Bool.{both_ways}
use Rattle.weave_data.specs.declared.name.Name.{Name}
use Rattle.graph_ops.specs.Alike.{EndAlike}
use Rattle.graph_ops.specs.Mentions.{named_by, is_among}
use Rattle.graph_ops.specs.Operations.{State}
use Rattle.graph_ops.specs.PlainGraph.{PlainGraph, PassedTx, TxOutcome, transaction, graph_left}
use Rattle.graph_ops.specs.VertexOps.{ops_on, state_after_ops}
use Rattle.graph_ops.specs.declared.op.Op.{Op}
use Rattle.graph_ops.specs.declared.tx.Got.{Got}
use Rattle.program_defs.specs.declared.script.Request.{Request}
use Rattle.program_defs.specs.declared.script.Script.{Script}
use Rattle.program_defs.specs.declared.script.Work.{Work}
use Rattle.program_defs.specs.declared.script.Work.TheVariants.{Change, Look}
use Rattle.program_defs.specs.Works.{ops_of}
use Rattle.report_rules.specs.Replay.{graph_after, graph_after_work}
use Rattle.report_rules.specs.Lookups.{request_at, request_names_vertex, work_names, is_some_and}
use Rattle.weave_account.specs.LowerLaws.{LawsForAccounts}

-- Words

-- the graph that requests leave, one after another
abbrev pub graph_after_all : PlainGraph → Script → List ℕ → PlainGraph
graph_after_all graph script [] = graph
graph_after_all graph script (r ∷ rest) = graph_after_all (graph_after graph (request_at script r)) script rest

-- the operations of a request; a program has none
abbrev pub ops_in : Option Request → List Op
ops_in None = []
ops_in (Some request) = ops_of request.work

-- a vertex's state after the operations on it of requests, one after another
abbrev pub history : Script → Name → List ℕ → State → State
history script v [] state = state
history script v (r ∷ rest) state = history script v rest (state_after_ops (ops_on v (ops_in (request_at script r))) state)

-- work that is a transaction passes
abbrev pub PassesWork : PlainGraph → Work → Type 0
PassesWork graph (Change ops) = (passed : PassedTx) × (transaction ops graph ≡ Ok passed)
PassesWork graph (Look program) = ⊤

-- a request that is a transaction passes
abbrev pub Passes : PlainGraph → Option Request → Type 0
Passes graph None = ⊤
Passes graph (Some request) = PassesWork graph request.work

-- each request of a list passes on the graph that the ones before it leave
abbrev pub AllPass : PlainGraph → Script → List ℕ → Type 0
AllPass graph script [] = ⊤
AllPass graph script (r ∷ rest) =
    Passes graph (request_at script r) × AllPass (graph_after graph (request_at script r)) script rest

-- Two lists, one after the other

-- requests pass if the first ones do, and then the others
pub all-pass-append : (script : Script) (xs ys : List ℕ) (graph : PlainGraph) → AllPass graph script xs
    → AllPass (graph_after_all graph script xs) script ys → AllPass graph script (xs ++ ys)
all-pass-append script [] ys graph g h = h
all-pass-append script (x ∷ xs) ys graph g h = (g.0, all-pass-append script xs ys (graph_after graph (request_at script x)) g.1 h)

-- the first ones of requests that pass do
pub all-pass-left : (script : Script) (xs ys : List ℕ) (graph : PlainGraph) → AllPass graph script (xs ++ ys)
    → AllPass graph script xs
all-pass-left script [] ys graph h = tt
all-pass-left script (x ∷ xs) ys graph h = (h.0, all-pass-left script xs ys (graph_after graph (request_at script x)) h.1)

-- requests leave the graph that the others leave on that of the first ones
pub after-append : (script : Script) (xs ys : List ℕ) (graph : PlainGraph)
    → graph_after_all graph script (xs ++ ys) ≡ graph_after_all (graph_after_all graph script xs) script ys
after-append script [] ys graph = refl
after-append script (x ∷ xs) ys graph = after-append script xs ys (graph_after graph (request_at script x))

module _ (laws : LawsForAccounts) where
  -- One request at one vertex

  work-step : (graph : PlainGraph) (work : Work) (v : Name) → PassesWork graph work
      → state_after_ops (ops_on v (ops_of work)) (graph v) ≡ graph_after_work graph work v
  work-step graph (Look program) v passes = refl
  work-step graph (Change ops) v passes =
      let left : graph_left graph (transaction ops graph) ≡ passes.0.graph = ap (graph_left graph) passes.1 in
      sym (laws.leaves ops graph passes.0 passes.1 v) ∙ ap (λ (g : PlainGraph). g v) (sym left)

  request-step : (graph : PlainGraph) (q : Option Request) (v : Name) → Passes graph q
      → state_after_ops (ops_on v (ops_in q)) (graph v) ≡ graph_after graph q v
  request-step graph None v passes = refl
  request-step graph (Some request) v passes = work-step graph request.work v passes

  -- the state at a vertex is its history
  pub history-is : (script : Script) (rs : List ℕ) (graph : PlainGraph) (v : Name) → AllPass graph script rs
      → history script v rs (graph v) ≡ graph_after_all graph script rs v
  history-is script [] graph v passes = refl
  history-is script (r ∷ rs) graph v passes =
      ap (history script v rs) (request-step graph (request_at script r) v passes.0)
      ∙ history-is script rs (graph_after graph (request_at script r)) v passes.1

  -- Only those that name the vertex

  unnamed-work : (work : Work) (v : Name) → work_names v work ≡ false → ops_on v (ops_of work) ≡ []
  unnamed-work (Look program) v e = refl
  unnamed-work (Change ops) v e = laws.unnamed ops v (both_ways _ e)

  unnamed : (q : Option Request) (v : Name) → is_some_and (λ (request : Request). work_names v request.work) q ≡ false
      → ops_on v (ops_in q) ≡ []
  unnamed None v e = refl
  unnamed (Some request) v e = unnamed-work request.work v e

  -- a history depends on the requests that name the vertex alone
  pub history-naming : (script : Script) (v : Name) (rs : List ℕ) (state : State)
      → history script v rs state ≡ history script v (filter (λ r. request_names_vertex script r v) rs) state
  history-naming script v [] state = refl
  history-naming script v (r ∷ rs) state = at (request_names_vertex script r v) refl (history-naming script v rs)
    where
      at : (b : Bool) → request_names_vertex script r v ≡ b
          → ((s : State) → history script v rs s ≡ history script v (filter (λ r. request_names_vertex script r v) rs) s)
          → history script v (r ∷ rs) state ≡ history script v (cond b (r ∷ filter (λ r. request_names_vertex script r v) rs) (filter (λ r. request_names_vertex script r v) rs)) state
      at false e rest = ap (λ ops. history script v rs (state_after_ops ops state)) (unnamed (request_at script r) v e) ∙ rest state
      at true e rest = rest (state_after_ops (ops_on v (ops_in (request_at script r))) state)

  -- Two lists of requests

  -- with the same requests naming a vertex, in the same order, they leave the same state there
  pub same-state : (script : Script) (xs ys : List ℕ) (graph : PlainGraph) (v : Name) → AllPass graph script xs
      → AllPass graph script ys
      → filter (λ r. request_names_vertex script r v) xs ≡ filter (λ r. request_names_vertex script r v) ys
      → graph_after_all graph script xs v ≡ graph_after_all graph script ys v
  same-state script xs ys graph v passes others same =
      sym (history-is script xs graph v passes)
      ∙ history-naming script v xs (graph v)
      ∙ ap (λ rs. history script v rs (graph v)) same
      ∙ sym (history-naming script v ys (graph v))
      ∙ history-is script ys graph v others

-- A transaction on graphs that are alike at the vertices that it names

-- a transaction passes on a graph, and answers its `get`s with these answers
abbrev pub PassesWith : PlainGraph → List Op → List Got → Type 0
PassesWith graph ops gots = (passed : PassedTx) × (transaction ops graph ≡ Ok passed) × (passed.gots ≡ gots)

-- a transaction that passes on one of two graphs alike at the vertices that it names passes so on the other one
pub pass-alike : LawsForAccounts → (ops : List Op) (g h : PlainGraph) (gots : List Got)
    → ((v : Name) → IsTrue (is_among (named_by ops) v) → g v ≡ h v) → PassesWith g ops gots → PassesWith h ops gots
pass-alike laws ops g h gots alike passes =
    from (transaction ops h) refl (subst (λ (o : TxOutcome). EndAlike g h o (transaction ops h)) passes.1 (laws.ends_alike ops g h alike))
  where
    from : (o : TxOutcome) → transaction ops h ≡ o → EndAlike g h (Ok passes.0) o → PassesWith h ops gots
    from (Ok q) e a = (q, e, sym a.gots ∙ passes.2)
    from (Err t) e a = absurd a
