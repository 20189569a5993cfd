-- Values that are made of draws.
-- Used by `draw_op`, `draw_ops`, `draw_program`, `draw_requests`, `draw_step`, `draw_steps` and RequestForms.
use Rattle.std.proofs.Common.{◌≡◌, ℕ, ◌+◌, ◌%◌, List, [], ◌∷◌, ◌++◌, sym, ap, ◌∙◌}
use Rattle.load_maker.specs.Words.{Words, later, draw, drawn_list}
use Rattle.load_maker.proofs.Drawing.{list_more}

-- a value of one draw
pub one : {A B : Type 0} (f : ℕ → B) (m : ℕ) (made : B → Words → A) (w : Words) {b : B} {v : Words}
    → b ≡ f (w 0 % m) → v ≡ later w → made b v ≡ draw m w (λ r w. made (f r) w)
one f m made w d l = λ i. made (d i) (l i)

-- what is made of two values drawn in turn is what drawing them makes
pub two : {A B C : Type 0} (f : ℕ → B) (m : ℕ) (g : ℕ → C) (n : ℕ) (made : B → C → Words → A) (w : Words) {b : B} {c : C} {v u : Words}
    → b ≡ f (w 0 % m) → v ≡ later w → c ≡ g (v 0 % n) → u ≡ later v
    → made b c u ≡ draw m w (λ r w. draw n w (λ s w. made (f r) (g s) w))
two f m g n made w d l e k =
    let second = e ∙ ap (λ (w : Words). g (w 0 % n)) l in
    let left = k ∙ ap later l in
    λ i. made (d i) (second i) (left i)

-- what is made of three values drawn in turn is what drawing them makes
pub three : {A B C D : Type 0} (f : ℕ → B) (m : ℕ) (g : ℕ → C) (n : ℕ) (h : ℕ → D) (o : ℕ) (made : B → C → D → Words → A) (w : Words) {b : B} {c : C} {d : D} {v u t : Words}
    → b ≡ f (w 0 % m) → v ≡ later w → c ≡ g (v 0 % n) → u ≡ later v → d ≡ h (u 0 % o) → t ≡ later u
    → made b c d t ≡ draw m w (λ r w. draw n w (λ s w. draw o w (λ q w. made (f r) (g s) (h q) w)))
three f m g n h o made w p l q k r j =
    let second = q ∙ ap (λ (w : Words). g (w 0 % n)) l in
    let after = k ∙ ap later l in
    let third = r ∙ ap (λ (w : Words). h (w 0 % o)) after in
    let left = j ∙ ap later after in
    λ i. made (p i) (second i) (third i) (left i)

-- no items, with all words left, are a drawn list of 0 items
pub no_items : {A : Type 0} (item : List A → Words → A × Words) (words : Words) {items : List A} → items ≡ [] → (items, words) ≡ drawn_list item 0 words
unfolding drawn_list
no_items item words e = ap (λ items. (items, words)) e

-- a list with one more item
pub one_item_more : {A : Type 0} (item : List A → Words → A × Words) (n : ℕ) (start : Words) {items : List A} {x : A} {w v : Words}
    → (items, w) ≡ drawn_list item n start → (x, v) ≡ item items w → (items ++ x ∷ [], v) ≡ drawn_list item (n + 1) start
one_item_more {A} item n start {items = items} h k =
    ap (λ (last : A × Words). (items ++ last.0 ∷ [], last.1)) k
    ∙ ap (λ (before : List A × Words). let last = item before.0 before.1 in (before.0 ++ last.0 ∷ [], last.1)) h
    ∙ sym (list_more item n start)
