-- What counters keep while lists grow.
-- Used by `draw_ops` and `draw_requests`.
use Rattle.std.proofs.Common.{◌≡◌, ℕ, ◌+◌, List, [], ◌∷◌, ◌++◌, cond, length, sym, ap, ◌∙◌, arith}
use Rattle.std.specs.Prelude.{count_by, sum_by}
use Rattle.std.proofs.lemmas.List.Sums.{sum_by_push}
use Rattle.graph_ops.specs.declared.op.Op.{Op}
use Rattle.program_defs.specs.declared.script.Request.{Request}
use Rattle.graph_ops.specs.Operations.{is_get}
use Rattle.weave_script.specs.Limits.{count_gets, count_programs}
use Rattle.load_maker.specs.Words.{Words, drawn_list}
use Rattle.load_maker.specs.Generated.{request_numbered, drawn_request}
use Rattle.load_maker.proofs.Drawing.{list_length}

-- with no operation so far, the count of `get`s is that at the start
pub no_gets : (start : ℕ) (ops : List Op) → ops ≡ [] → start ≡ start + count_by is_get ops
no_gets start ops e = let none = ap (λ (ops : List Op). count_by is_get ops) e in omega (arith, none)

-- a count of `get`s that is right is right with one operation more
pub gets_more : (start gets after : ℕ) (ops items : List Op) (op : Op) → items ≡ ops ++ op ∷ [] → gets ≡ start + count_by is_get ops
    → after ≡ gets + count_by is_get (op ∷ []) → after ≡ start + count_by is_get items
gets_more start gets after ops items op push so_far one =
    let more = sum_by_push (λ op. cond (is_get op) 1 0) ops op in
    let same = ap (λ (items : List Op). count_by is_get items) push in
    omega (arith, so_far, one, more, same)

-- the sum over no items is 0
pub counted_none : {A : Type 0} (f : A → ℕ) (xs : List A) → xs ≡ [] → 0 ≡ sum_by f xs
counted_none f xs e = sym (ap (λ xs. sum_by f xs) e)

-- a sum over items that is right is right with one item more
pub counted_more : {A : Type 0} (f : A → ℕ) (count after : ℕ) (xs ys : List A) (x : A) → ys ≡ xs ++ x ∷ [] → count ≡ sum_by f xs → after ≡ count + f x → after ≡ sum_by f ys
counted_more f count after xs ys x push so_far one =
    let more = sum_by_push f xs x in
    let same = ap (λ xs. sum_by f xs) push in
    omega (arith, so_far, one, more, same)

-- the request of the loop's number follows those so far
pub request_here : (number programs gets : ℕ) (start words : Words) (requests : List Request) → (requests, words) ≡ drawn_list drawn_request number start
    → programs ≡ count_programs requests → gets ≡ count_gets requests → request_numbered number programs gets words ≡ drawn_request requests words
request_here number programs gets start words requests drawn p g =
    let count : number ≡ length requests = sym (ap (λ (p : List Request × Words). length p.0) drawn ∙ list_length drawn_request number start) in
    λ i. request_numbered (count i) (p i) (g i) words
