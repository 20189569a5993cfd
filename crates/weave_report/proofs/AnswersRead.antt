-- Answers of programs and of steps that are read are written so, and those that are written are read again.
-- Used by RepliesRead, ReportAgain and ReportRead.
use Rattle.std.proofs.Common.{◌≡◌, Bool, true, false, ◌&&◌, ◌||◌, cond, inl, inr, List, [], ◌∷◌, refl, sym, ap, ◌∙◌, subst}
use Rattle.std.specs.Prelude.{Option, Some, None, Ok, codes}
use Rattle.std.specs.List.{AllByRecursion}
use Rattle.std.specs.Str.{bytes_eq}
use Rattle.std.proofs.lemmas.Bool.{and_parts, or_cases}
use Rattle.weave_data.specs.declared.name.Name.{Name}
use Rattle.weave_text.specs.Cutting.{is_empty}
use Rattle.weave_text.specs.Lines.{Word}
use Rattle.graph_ops.specs.Operations.{State}
use Rattle.program_defs.specs.declared.program.Program.{Program}
use Rattle.program_defs.specs.declared.program.Program.TheVariants.{Show, Reach, Around, Path, Price}
use Rattle.program_defs.specs.declared.program.Answer.{Answer}
use Rattle.program_defs.specs.declared.program.Answer.TheVariants.{Shown, Reached, Found, Walk, Priced}
use Rattle.weave_report.specs.declared.fault.ReportCause.TheVariants as cause
use Rattle.report_rules.specs.declared.report.StepAnswer.{StepAnswer}
use Rattle.report_rules.specs.declared.report.StepAnswer.TheVariants as step
use Rattle.weave_data.specs.Steps.{◌>>=◌}
use Rattle.weave_report.specs.ReadingFields.{read_names}
use Rattle.weave_report.specs.ReadingStates.{is_state_form, is_reached_form, is_found_form, is_walk_form, is_answer_form, shown_in, reached_in, read_found, walk_in, answer_in, bare_answer, is_step_form, step_answer_in}
use Rattle.report_rules.specs.ReportOf.{has_form_for}
use Rattle.weave_report.specs.ReportText.{answer_words, step_answer_words}
use Rattle.weave_report.specs.TextOf.{IsName, IsTypedAnswer, IsTypedStepAnswer}
use Rattle.weave_data.proofs.Steps.{bind_ok, ok_is}
use Rattle.weave_report.proofs.ReadSteps.{chosen, then_ok, is_word, or_cause_read, left_out}
use Rattle.weave_report.proofs.FieldsRead.{name_read, name_again, names_read, names_again, small_number_read, small_number_again}
use Rattle.weave_report.proofs.StatesRead.{state_read, state_again, no_words}
use Rattle.weave_report.specs.TextLaws.{TextLaws}
use Rattle.weave_report.proofs.PricedRead.{priced_read, priced_again}

module _ (laws : TextLaws) where
  -- ---- programs

  -- an answer that is read
  pub record IsAnswer (program : Program) (words : List Word) (answer : Answer) : Type 0 where
    pub form : has_form_for program answer ≡ true
    pub typed : IsTypedAnswer answer
    pub told : words ≡ answer_words answer

  shown_read : (program : Program) (words : List Word) (answer : Answer) → ((state : State) → has_form_for program (Shown state) ≡ true) → is_state_form words ≡ true → shown_in words ≡ Ok answer → IsAnswer program words answer
  shown_read program words answer form h e =
      let one = bind_ok _ _ answer e in
      let state = (state_read laws) words one.0 h one.1 in
      subst (IsAnswer program words) (ok_is (Shown one.0) answer one.2) (record { form = form one.0; typed = state.0; told = state.1 })

  reached_word : (word : Word) (b : Bool) → bytes_eq word (codes "yes") ≡ b → (bytes_eq word (codes "yes") || bytes_eq word (codes "no")) ≡ true → word ∷ [] ≡ answer_words (Reached b)
  reached_word word true e h = ap (λ word. word ∷ []) (is_word word (codes "yes") e)
  reached_word word false e h =
      elim (or_cases (bytes_eq word (codes "yes")) (bytes_eq word (codes "no")) h) [
        | inl k ↦ absurd (both (bytes_eq word (codes "yes")) k e)
        | inr k ↦ ap (λ word. word ∷ []) (is_word word (codes "no") k)
      ]
    where
      both : (b : Bool) → b ≡ true → b ≡ false → ⊥
      both b e k = cc

  reached_read : (program : Program) (words : List Word) (answer : Answer) → ((b : Bool) → has_form_for program (Reached b) ≡ true) → is_reached_form words ≡ true → reached_in words ≡ Ok answer → IsAnswer program words answer
  reached_read program [] answer form h e = absurd cc
  reached_read program (word ∷ more) answer form h e =
      let parts = and_parts (bytes_eq word (codes "yes") || bytes_eq word (codes "no")) (is_empty more) h in
      let b = bytes_eq word (codes "yes") in
      let told : word ∷ more ≡ answer_words (Reached b) = ap (λ more. word ∷ more) ((no_words laws) more parts.1) ∙ reached_word word b refl parts.0 in
      subst (IsAnswer program (word ∷ more)) (ok_is (Reached b) answer e) (record { form = form b; typed = tt; told = told })

  found_read : (program : Program) (words : List Word) (answer : Answer) → ((names : List Name) → has_form_for program (Found names) ≡ true) → is_found_form words ≡ true → read_found words ≡ Ok answer → IsAnswer program words answer
  found_read program [] answer form h e = absurd cc
  found_read program (word ∷ words) answer form h e =
      let one = bind_ok _ _ answer e in
      let names = (names_read laws) [] words one.0 one.1 in
      subst (IsAnswer program (word ∷ words)) (ok_is (Found one.0) answer one.2) (record {
        form = form one.0;
        typed = subst (AllByRecursion IsName) (sym names.0) names.1;
        told = λ i. is_word word (codes "found") h i ∷ sym names.0 i;
      })

  walk_read : (program : Program) (words : List Word) (answer : Answer) → ((walk : Option (List Name)) → has_form_for program (Walk walk) ≡ true) → is_walk_form words ≡ true → walk_in words ≡ Ok answer → IsAnswer program words answer
  walk_read program [] answer form h e = absurd cc
  walk_read program (word ∷ words) answer form h e =
      elim (chosen (bytes_eq word (codes "path")) (read_names words >>= λ names. Ok (Walk (Some names))) (Ok (Walk None)) (Ok answer) e) [
        | inl k ↦
            let one = bind_ok _ _ answer k.1 in
            let names = (names_read laws) [] words one.0 one.1 in
            subst (IsAnswer program (word ∷ words)) (ok_is (Walk (Some one.0)) answer one.2) (record {
              form = form (Some one.0);
              typed = subst (AllByRecursion IsName) (sym names.0) names.1;
              told = λ i. is_word word (codes "path") k.0 i ∷ sym names.0 i;
            })
        | inr k ↦
            let none = and_parts (bytes_eq word (codes "none")) (is_empty words) (left_out (bytes_eq word (codes "path")) (bytes_eq word (codes "none") && is_empty words) h k.0) in
            subst (IsAnswer program (word ∷ words)) (ok_is (Walk None) answer k.1) (record {
              form = form None;
              typed = tt;
              told = λ i. is_word word (codes "none") none.0 i ∷ (no_words laws) words none.1 i;
            })
      ]

  -- words that are read as a program's answer are its words; it has the program's form, and its fields are valid
  pub answer_read : (program : Program) (words : List Word) (answer : Answer) → is_answer_form program words ≡ true → answer_in program words ≡ Ok answer → IsAnswer program words answer
  answer_read (Show v) words answer h e = shown_read (Show v) words answer (λ state. refl) h e
  answer_read (Reach from to pass) words answer h e = reached_read (Reach from to pass) words answer (λ b. refl) h e
  answer_read (Around from bound pass) words answer h e = found_read (Around from bound pass) words answer (λ names. refl) h e
  answer_read (Path from to bound pass) words answer h e = walk_read (Path from to bound pass) words answer (λ walk. refl) h e
  answer_read (Price from to key) words answer h e =
      let priced = priced_read laws words answer h e in
      subst (IsAnswer (Price from to key) words) priced.answer_is (record { form = priced.read.form; typed = priced.read.typed; told = priced.read.told })

  -- the words of a valid answer of the program's form have that form and are read as the answer
  pub answer_again : (program : Program) (answer : Answer) → has_form_for program answer ≡ true → IsTypedAnswer answer
      → (is_answer_form program (answer_words answer) ≡ true) × (answer_in program (answer_words answer) ≡ Ok answer)
  answer_again (Show v) (Shown state) form h =
      let again = (state_again laws) state h in
      (again.0, then_ok _ _ state _ again.1 refl)
  answer_again (Show v) (Reached b) form h = absurd cc
  answer_again (Show v) (Found names) form h = absurd cc
  answer_again (Show v) (Walk walk) form h = absurd cc
  answer_again (Reach from to pass) (Reached true) form h = (refl, refl)
  answer_again (Reach from to pass) (Reached false) form h = (refl, refl)
  answer_again (Reach from to pass) (Shown state) form h = absurd cc
  answer_again (Reach from to pass) (Found names) form h = absurd cc
  answer_again (Reach from to pass) (Walk walk) form h = absurd cc
  answer_again (Around from bound pass) (Found names) form h = (refl, then_ok _ _ names _ ((names_again laws) [] names h) refl)
  answer_again (Around from bound pass) (Shown state) form h = absurd cc
  answer_again (Around from bound pass) (Reached b) form h = absurd cc
  answer_again (Around from bound pass) (Walk walk) form h = absurd cc
  answer_again (Path from to bound pass) (Walk None) form h = (refl, refl)
  answer_again (Path from to bound pass) (Walk (Some names)) form h = (refl, then_ok _ _ names _ ((names_again laws) [] names h) refl)
  answer_again (Path from to bound pass) (Shown state) form h = absurd cc
  answer_again (Path from to bound pass) (Reached b) form h = absurd cc
  answer_again (Path from to bound pass) (Found names) form h = absurd cc
  answer_again (Show v) (Priced walk total bounds) form h = absurd cc
  answer_again (Reach from to pass) (Priced walk total bounds) form h = absurd cc
  answer_again (Around from bound pass) (Priced walk total bounds) form h = absurd cc
  answer_again (Path from to bound pass) (Priced walk total bounds) form h = absurd cc
  answer_again (Price from to key) (Priced walk total bounds) form h = priced_again laws walk total bounds form h
  answer_again (Price from to key) (Shown state) form h = absurd cc
  answer_again (Price from to key) (Reached b) form h = absurd cc
  answer_again (Price from to key) (Found names) form h = absurd cc
  answer_again (Price from to key) (Walk walk) form h = absurd cc

  -- ---- steps

  -- a step's answer that is read
  pub record IsStepAnswer (words : List Word) (answer : StepAnswer) : Type 0 where
    pub typed : IsTypedStepAnswer answer
    pub told : words ≡ step_answer_words answer

  one_word : (word text : Word) (value : StepAnswer) (rest : Option StepAnswer) (answer : StepAnswer) → cond (bytes_eq word text) (Some value) rest ≡ Some answer
      → IsStepAnswer (text ∷ []) value → (rest ≡ Some answer → IsStepAnswer (word ∷ []) answer) → IsStepAnswer (word ∷ []) answer
  one_word word text value rest answer e good more = by_test (bytes_eq word text) refl e
    where
      by_test : (b : Bool) → bytes_eq word text ≡ b → cond b (Some value) rest ≡ Some answer → IsStepAnswer (word ∷ []) answer
      by_test true h k = let same : value ≡ answer = cc in subst (λ word. IsStepAnswer (word ∷ []) answer) (sym (is_word word text h)) (subst (IsStepAnswer (text ∷ [])) same good)
      by_test false h k = more k

  bare_read : (word : Word) (answer : StepAnswer) → bare_answer word ≡ Some answer → IsStepAnswer (word ∷ []) answer
  bare_read word answer e =
      one_word word (codes "ok") step.Ok _ answer e (record { typed = tt; told = refl }) (λ e.
      one_word word (codes "twice") step.Twice _ answer e (record { typed = tt; told = refl }) (λ e.
      one_word word (codes "early") step.Early _ answer e (record { typed = tt; told = refl }) (λ e.
      one_word word (codes "busy") step.Busy _ answer e (record { typed = tt; told = refl }) (λ e.
      one_word word (codes "idle") step.Idle _ answer e (record { typed = tt; told = refl }) (λ e.
      one_word word (codes "old") step.Old _ answer e (record { typed = tt; told = refl }) (λ e.
      one_word word (codes "unknown") step.Unknown _ answer e (record { typed = tt; told = refl }) (λ e.
      one_word word (codes "repeat") step.Repeat _ answer e (record { typed = tt; told = refl }) (λ e.
      one_word word (codes "empty") step.Empty _ answer e (record { typed = tt; told = refl }) (λ e. absurd (none_is e))))))))))
    where
      none_is : ◌≡◌ {A = Option StepAnswer} None (Some answer) → ⊥
      none_is e = cc

  -- words that are read as a step's answer are its words, and its fields are valid
  pub step_answer_read : (words : List Word) (answer : StepAnswer) → is_step_form words ≡ true → step_answer_in words ≡ Ok answer → IsStepAnswer words answer
  step_answer_read [] answer h e = absurd cc
  step_answer_read (word ∷ []) answer h e = bare_read word answer (or_cause_read cause.Line (bare_answer word) answer e)
  step_answer_read (word ∷ vertex ∷ []) answer h e =
      let one = bind_ok _ _ answer e in
      let name = (name_read laws) vertex one.0 one.1 in
      subst (IsStepAnswer (word ∷ vertex ∷ [])) (ok_is (step.Waits one.0) answer one.2) (record { typed = name.0; told = λ i. is_word word (codes "waits") h i ∷ name.1 i ∷ [] })
  step_answer_read (word ∷ shard ∷ gate ∷ []) answer h e =
      let one = bind_ok _ _ answer e in
      let two = bind_ok _ _ answer one.2 in
      let s = (small_number_read laws) shard one.0 one.1 in
      let g = (small_number_read laws) gate two.0 two.1 in
      subst (IsStepAnswer (word ∷ shard ∷ gate ∷ [])) (ok_is (step.Again one.0 two.0) answer two.2) (record { typed = (s.1, g.1); told = λ i. is_word word (codes "again") h i ∷ s.0 i ∷ g.0 i ∷ [] })
  step_answer_read (word ∷ a ∷ b ∷ c ∷ words) answer h e = absurd cc

  -- the words of a valid answer of a step have the form of one and are read as it
  pub step_answer_again : (answer : StepAnswer) → IsTypedStepAnswer answer → (is_step_form (step_answer_words answer) ≡ true) × (step_answer_in (step_answer_words answer) ≡ Ok answer)
  step_answer_again step.Ok h = (refl, refl)
  step_answer_again step.Twice h = (refl, refl)
  step_answer_again step.Early h = (refl, refl)
  step_answer_again step.Busy h = (refl, refl)
  step_answer_again step.Idle h = (refl, refl)
  step_answer_again step.Old h = (refl, refl)
  step_answer_again step.Unknown h = (refl, refl)
  step_answer_again step.Repeat h = (refl, refl)
  step_answer_again step.Empty h = (refl, refl)
  step_answer_again (step.Waits vertex) h = (refl, then_ok _ _ vertex _ ((name_again laws) vertex h) refl)
  step_answer_again (step.Again shard gate) h = (
    refl,
    then_ok _ _ shard _ ((small_number_again laws) shard h.0)
        (then_ok _ _ gate _ ((small_number_again laws) gate h.1) refl),
  )
