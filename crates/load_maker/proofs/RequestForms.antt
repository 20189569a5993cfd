-- By its kind, a request asks for a drawn program or for a transaction of drawn operations.
-- Used by `draw_request` and `draw_work`.
use Rattle.std.proofs.Common.{◌≡◌, ℕ, ◌+◌, ◌≤◌, ◌%◌, Bool, true, false, ◌&&◌, ◌==◌, List, refl, sym, ap, ◌∙◌}
use Rattle.std.specs.Prelude.{nat_lt, codes}
use Rattle.std.proofs.lemmas.Bool.{cond-true, cond-false, and_from, ne_eqb, le-ltb}
use Rattle.weave_data.specs.declared.name.Name.{Name}
use Rattle.graph_ops.specs.declared.op.Op.{Op}
use Rattle.program_defs.specs.declared.program.Program.{Program}
use Rattle.program_defs.specs.declared.script.Request.{Request}
use Rattle.program_defs.specs.declared.script.Work.{Work}
use Rattle.program_defs.specs.declared.script.Work.TheVariants.{Change, Look}
use Rattle.load_maker.specs.Words.{Words, later}
use Rattle.load_maker.specs.Generated.{numbered_name, operations_of, drawn_program, request_numbered, work_of_kind}
use Rattle.load_maker.proofs.DrawnValues.{one, three}

and_false : (a b : Bool) → b ≡ false → (a && b) ≡ false
and_false true b e = e
and_false false b e = refl

-- a request of another kind is no program
pub no_program : (kind programs : ℕ) → (kind ≡ 0 → ⊥) → ((kind == 0) && nat_lt programs 1000) ≡ false
no_program kind programs other = ap (λ b. b && nat_lt programs 1000) (ne_eqb kind 0 other)

-- nor is one after a thousand of them
pub no_program_more : (kind programs : ℕ) → 1000 ≤ programs → ((kind == 0) && nat_lt programs 1000) ≡ false
no_program_more kind programs many = and_false (kind == 0) (nat_lt programs 1000) (le-ltb programs 1000 many)

-- a request of kind 0, with fewer than 1,000 programs before it, asks for the drawn program
pub look_kind : (programs gets kind : ℕ) (words : Words) {program : Program} {left : Words} → (kind == 0) ≡ true → nat_lt programs 1000 ≡ true
    → (program, left) ≡ drawn_program words → (Look program, left) ≡ work_of_kind programs gets kind words
unfolding work_of_kind
look_kind programs gets kind words zeroth few drawn =
    ap (λ (p : Program × Words). (Look p.0, p.1)) drawn
    ∙ sym (cond-true ((kind == 0) && nat_lt programs 1000) _ _ (and_from _ _ zeroth few))

-- any other asks for a transaction of one to four drawn operations
pub change_kind : (programs gets kind : ℕ) (words : Words) {more : ℕ} {after left : Words} {ops : List Op} → ((kind == 0) && nat_lt programs 1000) ≡ false
    → more ≡ words 0 % 4 → after ≡ later words → (ops, left) ≡ operations_of gets (1 + more) after → (Change ops, left) ≡ work_of_kind programs gets kind words
unfolding work_of_kind
change_kind programs gets kind words not_look more_is after_is drawn =
    ap (λ (p : List Op × Words). (Change p.0, p.1)) drawn
    ∙ one {A = Work × Words} (λ n. n) 4 (λ more words. let ops = operations_of gets (1 + more) words in (Change ops.0, ops.1)) words more_is after_is
    ∙ sym (cond-false ((kind == 0) && nat_lt programs 1000) _ _ not_look)

-- a request is made of a name by its number, a drawn session and gatekeeper, and the work of a kind drawn next
pub request_drawn : (number programs gets : ℕ) (words : Words) {session gate kind : ℕ} {a b c left : Words} {name : Name} {work : Work}
    → session ≡ words 0 % 6 → a ≡ later words → gate ≡ a 0 % 3 → b ≡ later a → kind ≡ b 0 % 10 → c ≡ later b
    → name ≡ numbered_name (codes "r") number → (work, left) ≡ work_of_kind programs gets kind c
    → (record { name = name; session = session; gate = gate; work = work }, left) ≡ request_numbered number programs gets words
unfolding request_numbered
request_drawn number programs gets words {session = session} {gate = gate} s l g k q m name_is drawn =
    (λ i. (record { name = name_is i; session = session; gate = gate; work = (drawn i).0 }, (drawn i).1))
    ∙ three {A = Request × Words} (λ n. n) 6 (λ n. n) 3 (λ n. n) 10
    (λ session gate kind words. let work = work_of_kind programs gets kind words in (record { name = numbered_name (codes "r") number; session = session; gate = gate; work = work.0 }, work.1))
    words s l g k q m
