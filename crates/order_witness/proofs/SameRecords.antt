-- Answers that compare equal are equal.
-- Used by `judge_answer`, `same_in_turn`, `same_pairs` and Replays.
use Rattle.std.proofs.Common.{◌≡◌, ℕ, Bool, true, false, ◌&&◌, IsTrue, List, [], ◌∷◌, Option, Some, None, length, eqb, refl, sym, ap, subst, ◌∙◌, arith}
use Rattle.std.specs.Prelude.{MatchBool, ◌↔◌}
use Rattle.std.specs.Cmp.{eq_by_cmp_equiv}
use Rattle.std.specs.Cmp.Lexicographic.{pointwise, nat_list_cmp_total}
use Rattle.std.specs.List.{list_all, zip}
use Rattle.std.specs.Option.{option_eq}
use Rattle.std.proofs.lemmas.Bool.{and_parts, and_from, both_ways, eqb-true, eq-eqb}
use Rattle.weave_data.specs.Names.{same_name, one_name}
use Rattle.weave_data.specs.declared.name.Name.{Name}
use Rattle.graph_ops.specs.declared.record.Record.{Record}
use Rattle.graph_ops.specs.declared.record.Edge.{Edge}
use Rattle.graph_ops.specs.declared.tx.Got.{Got}
use Rattle.graph_ops.specs.contracts.record.RecordPartialEq.TheImpl as record_eq
use Rattle.graph_ops.specs.PlainGraph.{PlainGraph}
use Rattle.program_defs.specs.PlainAnswer.{IsPlainAnswer, is_price}
use Rattle.program_defs.specs.declared.program.Program.{Program}
use Rattle.program_defs.specs.declared.program.Program.TheVariants.{Show, Reach, Around, Path, Price}
use Rattle.program_defs.specs.declared.program.Answer.{Answer}
use Rattle.program_defs.specs.declared.program.Answer.TheVariants.{Shown, Reached, Found, Walk, Priced}
use Rattle.order_witness.specs.Answers.{same_names, same_edge, same_record, same_got, same_truth, same_outcome}

-- a test whether two values are equal
pub record Tells {A : Type 0} (test : A → A → Bool) : Type 0 where
  pub one : (x y : A) → IsTrue (test x y) → x ≡ y
  pub itself : (x : A) → IsTrue (test x x)

module _ {A : Type 0} (test : A → A → Bool) (tells : Tells test) where
  one_list : (xs ys : List A) → IsTrue (pointwise test xs ys) → xs ≡ ys
  one_list [] [] h = refl
  one_list [] (y ∷ ys) h = cc
  one_list (x ∷ xs) [] h = cc
  one_list (x ∷ xs) (y ∷ ys) h =
      let parts = and_parts (test x y) (pointwise test xs ys) h in
      ap (λ z. z ∷ xs) (tells.one x y parts.0) ∙ ap (λ zs. y ∷ zs) (one_list xs ys parts.1)

  list_itself : (xs : List A) → IsTrue (pointwise test xs xs)
  list_itself [] = refl
  list_itself (x ∷ xs) = and_from _ _ (tells.itself x) (list_itself xs)

  -- a test that tells whether values are equal, made place by place, tells whether lists of them are equal
  pub lists_tell : Tells (pointwise test)
  lists_tell = record { one = one_list; itself = list_itself }

  one_option : (a b : Option A) → IsTrue (option_eq test a b) → a ≡ b
  one_option None None h = refl
  one_option None (Some y) h = cc
  one_option (Some x) None h = cc
  one_option (Some x) (Some y) h = ap Some (tells.one x y h)

  option_itself : (a : Option A) → IsTrue (option_eq test a a)
  option_itself None = refl
  option_itself (Some x) = tells.itself x

  options_tell : Tells (option_eq test)
  options_tell = record { one = one_option; itself = option_itself }

  -- over a zip, if the lists have the same length
  pub all_zip : (xs ys : List A) → length xs ≡ length ys → list_all (λ (pair : A × A). test pair.0 pair.1) (zip xs ys) ≡ pointwise test xs ys
  all_zip [] [] same = refl
  all_zip [] (y ∷ ys) same = absurd (omega (arith, same))
  all_zip (x ∷ xs) [] same = absurd (omega (arith, same))
  all_zip (x ∷ xs) (y ∷ ys) same = ap (λ b. test x y && b) (all_zip xs ys (omega (arith, same)))

  -- two lists of different lengths
  pub other_lengths : (xs ys : List A) → (length xs ≡ length ys → ⊥) → pointwise test xs ys ≡ false
  other_lengths [] [] differ = absurd (differ refl)
  other_lengths [] (y ∷ ys) differ = refl
  other_lengths (x ∷ xs) [] differ = refl
  other_lengths (x ∷ xs) (y ∷ ys) differ = both (test x y) (pointwise test xs ys) (other_lengths xs ys (λ same. differ (omega (arith, same))))
    where
      both : (a b : Bool) → b ≡ false → (a && b) ≡ false
      both true b h = h
      both false b h = refl

module _ {A : Type 0} (test : A → A → Bool) (tells : Tells test) where
  -- values under names
  named_tell : Tells (λ (p : Name × A) (q : Name × A). same_name p.0 q.0 && test p.1 q.1)
  named_tell = record {
    one = λ p q h.
        let parts = and_parts (same_name p.0 q.0) (test p.1 q.1) h in
        ap (λ (x : Name). (x, p.1)) (one_name p.0 q.0 parts.0) ∙ ap (λ (y : A). (q.0, y)) (tells.one p.1 q.1 parts.1);
    itself = λ p. and_from _ _ (name_itself p.0) (tells.itself p.1);
  }
    where
      name_itself : (x : Name) → IsTrue (same_name x x)
      name_itself x = (eq_by_cmp_equiv nat_list_cmp_total).refl x

-- the comparison of names tells whether they are equal
pub names_tell : Tells same_name
names_tell = record { one = one_name; itself = λ x. (eq_by_cmp_equiv nat_list_cmp_total).refl x }

maps_tell : Tells same_names
maps_tell = lists_tell _ (named_tell same_name names_tell)

edges_tell : Tells same_edge
edges_tell = record {
  one = λ a b h.
      let parts = and_parts (same_name a.target b.target) (same_names a.tags b.tags) h in
      ap (λ (x : Name). (let e : Edge = record { target = x; tags = a.tags } in e)) (one_name a.target b.target parts.0) ∙ ap (λ (tags : List (Name × Name)). (let e : Edge = record { target = b.target; tags = tags } in e)) (maps_tell.one a.tags b.tags parts.1);
  itself = λ a. and_from _ _ (names_tell.itself a.target) (maps_tell.itself a.tags);
}

records_tell : Tells same_record
records_tell = record {
  one = λ a b h.
      let parts = and_parts (same_names a.props b.props) _ h in
      ap (λ (props : List (Name × Name)). (let r : Record = record { props = props; edges = a.edges } in r)) (maps_tell.one a.props b.props parts.0)
      ∙ ap (λ (edges : List (Name × Edge)). (let r : Record = record { props = b.props; edges = edges } in r)) ((lists_tell _ (named_tell same_edge edges_tell)).one a.edges b.edges parts.1);
  itself = λ a. and_from _ _ (maps_tell.itself a.props) ((lists_tell _ (named_tell same_edge edges_tell)).itself a.edges);
}

-- the test of sameness of answers of `get`s passes exactly if they are equal
pub gots_tell : Tells same_got
gots_tell = record {
  one = λ a b h.
      let parts = and_parts (eqb a.op b.op) (option_eq same_record a.state b.state) h in
      ap (λ (op : ℕ). (let g : Got = record { op = op; state = a.state } in g)) (eqb-true a.op b.op parts.0)
      ∙ ap (λ (state : Option Record). (let g : Got = record { op = b.op; state = state } in g)) ((options_tell same_record records_tell).one a.state b.state parts.1);
  itself = λ a. and_from _ _ (eq-eqb a.op a.op refl) ((options_tell same_record records_tell).itself a.state);
}

-- the derived comparison of records is this test
pub derived : (a b : Record) → record_eq.eq-value.it a b ≡ same_record a b
derived a b = refl

derived_state : (a b : Option Record) → option_eq record_eq.eq-value.it a b ≡ option_eq same_record a b
derived_state None None = refl
derived_state None (Some y) = refl
derived_state (Some x) None = refl
derived_state (Some x) (Some y) = refl

-- Answers of programs

truth_one : (a b : Bool) → IsTrue (same_truth a b) → a ≡ b
truth_one true b h = sym h
truth_one false true h = cc
truth_one false false h = refl

truth_itself : (a : Bool) → IsTrue (same_truth a a)
truth_itself true = refl
truth_itself false = refl

walks_tell : Tells (option_eq (pointwise same_name))
walks_tell = options_tell (pointwise same_name) (lists_tell same_name names_tell)

outcome_one : (a b : Answer) → IsTrue (same_outcome a b) → a ≡ b
outcome_one (Shown a) (Shown b) h = ap Shown ((options_tell same_record records_tell).one a b h)
outcome_one (Shown a) (Reached b) h = cc
outcome_one (Shown a) (Found b) h = cc
outcome_one (Shown a) (Walk b) h = cc
outcome_one (Shown a) (Priced walk total bounds) h = cc
outcome_one (Reached a) (Shown b) h = cc
outcome_one (Reached a) (Reached b) h = ap Reached (truth_one a b h)
outcome_one (Reached a) (Found b) h = cc
outcome_one (Reached a) (Walk b) h = cc
outcome_one (Reached a) (Priced walk total bounds) h = cc
outcome_one (Found a) (Shown b) h = cc
outcome_one (Found a) (Reached b) h = cc
outcome_one (Found a) (Found b) h = ap Found ((lists_tell same_name names_tell).one a b h)
outcome_one (Found a) (Walk b) h = cc
outcome_one (Found a) (Priced walk total bounds) h = cc
outcome_one (Walk a) (Shown b) h = cc
outcome_one (Walk a) (Reached b) h = cc
outcome_one (Walk a) (Found b) h = cc
outcome_one (Walk a) (Walk b) h = ap Walk (walks_tell.one a b h)
outcome_one (Walk a) (Priced walk total bounds) h = cc
outcome_one (Priced walk total bounds) (Shown b) h = cc
outcome_one (Priced walk total bounds) (Reached b) h = cc
outcome_one (Priced walk total bounds) (Found b) h = cc
outcome_one (Priced walk total bounds) (Walk b) h = cc
outcome_one (Priced walk total bounds) (Priced other price more) h = cc

-- an answer that is compared: one to a program other than `price`
IsCompared : Answer → Type 0
IsCompared (Shown a) = Unit {0}
IsCompared (Reached a) = Unit {0}
IsCompared (Found a) = Unit {0}
IsCompared (Walk a) = Unit {0}
IsCompared (Priced walk total bounds) = ⊥

outcome_itself : (a : Answer) → IsCompared a → IsTrue (same_outcome a a)
unfolding IsCompared
outcome_itself (Shown a) c = (options_tell same_record records_tell).itself a
outcome_itself (Reached a) c = truth_itself a
outcome_itself (Found a) c = (lists_tell same_name names_tell).itself a
outcome_itself (Walk a) c = walks_tell.itself a
outcome_itself (Priced walk total bounds) c = absurd c

is_compared : (graph : PlainGraph) (program : Program) (a : Answer) → is_price program ≡ false → IsPlainAnswer graph program a → IsCompared a
unfolding IsCompared
is_compared graph program (Shown a) other is = tt
is_compared graph program (Reached a) other is = tt
is_compared graph program (Found a) other is = tt
is_compared graph program (Walk a) other is = tt
is_compared graph (Show v) (Priced walk total bounds) other is = is
is_compared graph (Reach from to pass) (Priced walk total bounds) other is = is
is_compared graph (Around from bound pass) (Priced walk total bounds) other is = is
is_compared graph (Path from to bound pass) (Priced walk total bounds) other is = is
is_compared graph (Price from to key) (Priced walk total bounds) other is = cc

-- a test that passes exactly if something is so says whether it is
pub said_by_test : (b : Bool) (P : Type 0) → IsTrue b ↔ P → MatchBool b P (¬ P)
said_by_test true P h = h.0 refl
said_by_test false P h = λ is. let e = h.1 is in cc

-- since a program has one plain answer at most, the comparison says whether the reply has it
pub answered : ((graph : PlainGraph) (program : Program) (a b : Answer) → IsPlainAnswer graph program a → IsPlainAnswer graph program b → a ≡ b)
    → (graph : PlainGraph) (program : Program) (found said : Answer) → is_price program ≡ false → IsPlainAnswer graph program found → MatchBool (same_outcome found said) (IsPlainAnswer graph program said) (¬ IsPlainAnswer graph program said)
answered one graph program found said other is = by_test (same_outcome found said) refl
  where
    by_test : (b : Bool) → same_outcome found said ≡ b → MatchBool b (IsPlainAnswer graph program said) (¬ IsPlainAnswer graph program said)
    by_test true e = subst (IsPlainAnswer graph program) (outcome_one found said e) is
    by_test false e = λ too. both_ways _ e (subst (λ (a : Answer). IsTrue (same_outcome found a)) (one graph program found said is too) (outcome_itself found (is_compared graph program found other is)))
