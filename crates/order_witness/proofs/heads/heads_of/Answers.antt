use Rattle.std.proofs.Common.{Vec, Global, append-nil, ◌≡◌, ◌+◌, ◌<◌, ◌++◌, ◌∷◌, [], Bool, true, false, List, ℕ, Some, None, cond, get_or, length, take, sym, ap, ◌∙◌, refl}
use Rattle.std.specs.Prelude.{nat_lt}
use Rattle.std.specs.List.{cons_option}
use Rattle.std.proofs.lemmas.Bool.{lt-ltb, le-ltb}
use Rattle.std.proofs.lemmas.List.{take_more}
use Rattle.std.proofs.lemmas.List.Elements.{filter_map-append}
use Rattle.order_witness.specs.declared.heads.Run.{Run}
use Rattle.order_witness.specs.Heads as heads
use Rattle.order_witness.proofs.heads.heads_of.Goals as goal
use Rattle.order_witness.proofs.heads.heads_of.Goals.{then-run+in_ok-push, else-run}

of_test : (x : ℕ) (b : Bool) → cons_option (cond b (Some x) None) [] ≡ cond b (x ∷ []) []
of_test x true = refl
of_test x false = refl

more : (line : List ℕ) (runs : List Run) (i : ℕ) (d : Run) → i < length runs → heads.heads_of line (take (i + 1) runs) ≡ heads.heads_of line (take i runs) ++ cond (nat_lt (get_or runs i d).next (get_or runs i d).end) (heads.item line (get_or runs i d).next ∷ []) []
more line runs i d lt =
    ap (heads.heads_of line) (take_more runs i d lt)
    ∙ filter_map-append (heads.head_of_run line) (take i runs) (get_or runs i d ∷ [])
    ∙ ap (λ (rs : List ℕ). heads.heads_of line (take i runs) ++ rs) (of_test (heads.item line (get_or runs i d).next) (nat_lt (get_or runs i d).next (get_or runs i d).end))

pub loop-run-preserved : goal.loop-run-preserved
loop-run-preserved c =
    let line : List ℕ = c.args.line.now in
    let i : ℕ = c.loop-run.run-index in
    let run : Run = get_or c.args.runs.now i heads.no_run in
    let next = more line c.args.runs.now i heads.no_run c.loop-run-test.true in
    elim c.if-run.branch [
      | then-run+in_ok-push w ↦
          ap (λ (v : Vec ℕ Global). v.items) w.firsts-is ∙ w.in_ok-push.ensures.items ∙ ap (λ (xs : List ℕ). xs ++ w.item.result ∷ []) c.loop-run.invariant
          ∙ ap (λ x. heads.heads_of line (take i c.args.runs.now) ++ x ∷ []) w.item.ensures
          ∙ ap (λ b. heads.heads_of line (take i c.args.runs.now) ++ cond b (heads.item line run.next ∷ []) []) (sym (lt-ltb run.next run.end w.if-run.true)) ∙ sym next
      | else-run w ↦
          ap (λ (v : Vec ℕ Global). v.items) w.firsts-is ∙ c.loop-run.invariant ∙ sym (append-nil (heads.heads_of line (take i c.args.runs.now)))
          ∙ ap (λ b. heads.heads_of line (take i c.args.runs.now) ++ cond b (heads.item line run.next ∷ []) []) (sym (le-ltb run.next run.end w.if-run.false)) ∙ sym next
    ]
