-- The beginning of a transaction, and a program, is read only from its one line, and that is read as it.
-- Used by Reached and ReadAgain.
use Rattle.std.proofs.Common.{◌≡◌, ℕ, ◌-◌, ◌≤◌, ◌<◌, ◌^◌, true, [], ◌∷◌, ◌++◌, List, Option, Some, None, Ok, refl, sym, ap, ◌∙◌, subst, arith, lit<}
use Rattle.std.specs.Prelude.{codes}
use Rattle.std.specs.Fmt.{decimal}
use Rattle.std.specs.Option.{option_map}
use Rattle.std.specs.Str.{bytes_eq}
use Rattle.program_defs.specs.declared.program.Filter.{Filter}
use Rattle.program_defs.specs.declared.program.Program.{Program}
use Rattle.program_defs.specs.declared.program.Program.TheVariants.{Show, Reach, Around, Path, Price}
use Rattle.weave_text.specs.Lines.{Word, Line}
use Rattle.weave_script.specs.declared.fault.Cause.{Cause}
use Rattle.weave_script.specs.declared.fault.Cause.TheVariants as causes
use Rattle.weave_script.specs.declared.read.partial_script.Opening.{Opening}
use Rattle.weave_data.specs.Steps.{◌>>=◌}
use Rattle.weave_script.specs.Fields.{ReadOrCause, or_refused, name_word, number_in}
use Rattle.weave_script.specs.Requests.{opening_of, tx_of, tag_of, filter_of, bound_word, show_program, reach_program, around_program, path_program, price_program, show_of, reach_of, around_of, path_of, price_of, program_of, prog_of}
use Rattle.weave_script.specs.ScriptLines.{filter_words, program_words}
use Rattle.weave_script.specs.Scripts.{IsName, IsFilter, IsProgram}
use Rattle.weave_data.proofs.Steps.{bind_ok, bind_at, ok_is}
use Rattle.weave_report.proofs.ReadSteps.{is_word}
use Rattle.weave_script.proofs.Binds.{pick}
use Rattle.weave_script.proofs.FieldLaws.{NumberLaws, name_of-ok, name_of-name, number_in-ok, number_in-number}

-- a request's name and session are valid, and its gatekeeper is below `gates`
pub record IsOpening (gates : ℕ) (opening : Opening) : Type 0 where
  pub name : IsName opening.name
  pub session : opening.session ≤ 63
  pub gate : opening.gate < gates

-- the words of an opening: its name, its session and its gatekeeper
abbrev pub opening_words : Opening → List Word
opening_words opening = opening.name ∷ decimal opening.session ∷ decimal opening.gate ∷ []

-- ---- forms

-- the same value in two options
abbrev some : {A : Type 0} → A → Option A
some x = Some x

some_is : {A : Type 0} (x y : A) → some x ≡ some y → x ≡ y
some_is x y e = cc

form_ok : {A : Type 0} (cause : Cause) (o : Option A) (x : A) → or_refused cause o ≡ Ok x → o ≡ Some x
form_ok cause None x e = absurd cc
form_ok cause (Some y) x e = ap (λ z. Some z) (ok_is {E = Cause} y x e)

map_some : {A B : Type 0} (f : A → B) (o : Option A) (y : B) → option_map f o ≡ Some y → (x : A) × (o ≡ Some x) × (f x ≡ y)
map_some f None y e = absurd cc
map_some f (Some x) y e = (x, refl, some_is (f x) y e)

-- ---- filters

tag_of-ok : (key value : Word) (pass : Option Filter) → tag_of key value ≡ Ok pass → IsFilter pass × (codes "where" ∷ key ∷ value ∷ [] ≡ filter_words pass)
tag_of-ok key value pass e =
    let first = bind_ok (name_word key) (λ key. name_word value >>= λ value. Ok (Some (record { key = key; value = value }))) pass e in
    let second = bind_ok (name_word value) (λ value. Ok (Some (record { key = first.0; value = value }))) pass first.2 in
    let a = name_of-ok key first.0 first.1 in
    let b = name_of-ok value second.0 second.1 in
    subst (λ pass. IsFilter pass × (codes "where" ∷ key ∷ value ∷ [] ≡ filter_words pass)) (ok_is {E = Cause} (Some (record { key = first.0; value = second.0 })) pass second.2)
    ((subst IsName a.1 a.0, subst IsName b.1 b.0), λ i. codes "where" ∷ a.1 i ∷ b.1 i ∷ [])

filter_of-ok : (words : Line) (filter : ReadOrCause (Option Filter)) (pass : Option Filter) → filter_of words ≡ Some filter → filter ≡ Ok pass → IsFilter pass × (words ≡ filter_words pass)
filter_of-ok [] filter pass form e =
    subst (λ pass. IsFilter pass × ([] ≡ filter_words pass)) (ok_is {E = Cause} None pass (some_is (Ok None) filter form ∙ e)) (tt, refl)
filter_of-ok (a ∷ []) filter pass form e = absurd cc
filter_of-ok (a ∷ b ∷ []) filter pass form e = absurd cc
filter_of-ok (word ∷ key ∷ value ∷ []) filter pass form e =
    pick (bytes_eq word (codes "where")) (Some (tag_of key value)) None (Some filter) form
    (λ same h. subst (λ word. IsFilter pass × (word ∷ key ∷ value ∷ [] ≡ filter_words pass)) (sym (is_word word (codes "where") same)) (tag_of-ok key value pass (some_is (tag_of key value) filter h ∙ e)))
    (λ other h. absurd cc)
filter_of-ok (a ∷ b ∷ c ∷ d ∷ words) filter pass form e = absurd cc

filter_of-words : (pass : Option Filter) → IsFilter pass → filter_of (filter_words pass) ≡ Some (Ok pass)
filter_of-words None h = refl
filter_of-words (Some filter) h =
    ap (λ o. Some o)
    (bind_at (name_word filter.key) (λ key. name_word filter.value >>= λ value. Ok (Some (record { key = key; value = value }))) filter.key (name_of-name filter.key h.0)
    ∙ bind_at (name_word filter.value) (λ value. Ok (Some (record { key = filter.key; value = value }))) filter.value (name_of-name filter.value h.1))

module _ (laws : NumberLaws) where
  -- ---- what is before the work

  opening_of-ok : (gates : ℕ) → 1 ≤ gates → gates ≤ 8 → (name session gate : Word) (opening : Opening) → opening_of gates name session gate ≡ Ok opening
      → IsOpening gates opening × (name ∷ session ∷ gate ∷ [] ≡ opening_words opening)
  opening_of-ok gates some few name session gate opening e =
      let first = bind_ok (name_word name) (λ name. number_in 0 63 causes.Session session >>= λ session. number_in 0 (gates - 1) causes.Gatekeeper gate >>= λ gate. Ok (record { name = name; session = session; gate = gate })) opening e in
      let second = bind_ok (number_in 0 63 causes.Session session) (λ session. number_in 0 (gates - 1) causes.Gatekeeper gate >>= λ gate. Ok (record { name = first.0; session = session; gate = gate })) opening first.2 in
      let third = bind_ok (number_in 0 (gates - 1) causes.Gatekeeper gate) (λ gate. Ok (record { name = first.0; session = second.0; gate = gate })) opening second.2 in
      let a = name_of-ok name first.0 first.1 in
      let b = number_in-ok laws 0 63 causes.Session session second.0 (lit< tt) second.1 in
      let c = number_in-ok laws 0 (gates - 1) causes.Gatekeeper gate third.0 (omega arith) third.1 in
      let below : third.0 < gates = omega arith in
      subst (λ opening. IsOpening gates opening × (name ∷ session ∷ gate ∷ [] ≡ opening_words opening)) (ok_is {E = Cause} (record { name = first.0; session = second.0; gate = third.0 }) opening third.2)
      (record { name = subst IsName a.1 a.0; session = b.1; gate = below }, λ i. a.1 i ∷ b.2 i ∷ c.2 i ∷ [])

  opening_of-words : (gates : ℕ) → gates ≤ 8 → (opening : Opening) → IsOpening gates opening
      → opening_of gates opening.name (decimal opening.session) (decimal opening.gate) ≡ Ok opening
  opening_of-words gates few opening h =
      let top : opening.gate ≤ gates - 1 = omega (arith, h.gate) in
      let low : 0 ≤ opening.gate = omega arith in
      let low_session : 0 ≤ opening.session = omega arith in
      let small : gates - 1 < 2 ^ 64 = omega arith in
      bind_at (name_word opening.name) (λ name. number_in 0 63 causes.Session (decimal opening.session) >>= λ session. number_in 0 (gates - 1) causes.Gatekeeper (decimal opening.gate) >>= λ gate. Ok (record { name = name; session = session; gate = gate })) opening.name (name_of-name opening.name h.name)
      ∙ bind_at (number_in 0 63 causes.Session (decimal opening.session)) (λ session. number_in 0 (gates - 1) causes.Gatekeeper (decimal opening.gate) >>= λ gate. Ok (record { name = opening.name; session = session; gate = gate })) opening.session (number_in-number laws 0 63 causes.Session opening.session (lit< tt) low_session h.session)
      ∙ bind_at (number_in 0 (gates - 1) causes.Gatekeeper (decimal opening.gate)) (λ gate. Ok (record { name = opening.name; session = opening.session; gate = gate })) opening.gate (number_in-number laws 0 (gates - 1) causes.Gatekeeper opening.gate small low top)

  -- words that are read as an opening are those of it
  pub tx_of-ok : (gates : ℕ) → 1 ≤ gates → gates ≤ 8 → (line : Line) (opening : Opening) → tx_of gates line ≡ Ok opening → IsOpening gates opening × (line ≡ opening_words opening)
  tx_of-ok gates some few [] opening e = absurd cc
  tx_of-ok gates some few (a ∷ []) opening e = absurd cc
  tx_of-ok gates some few (a ∷ b ∷ []) opening e = absurd cc
  tx_of-ok gates some few (a ∷ b ∷ c ∷ []) opening e = opening_of-ok gates some few a b c opening e
  tx_of-ok gates some few (a ∷ b ∷ c ∷ d ∷ words) opening e = absurd cc

  -- the words of an opening are read as it
  pub tx_of-words : (gates : ℕ) → gates ≤ 8 → (opening : Opening) → IsOpening gates opening → tx_of gates (opening_words opening) ≡ Ok opening
  tx_of-words gates few opening h = opening_of-words gates few opening h

  -- ---- programs

  bound_of-ok : (word : Word) (n : ℕ) → bound_word word ≡ Ok n → (n ≤ 1000) × (word ≡ decimal n)
  bound_of-ok word n e = let h = number_in-ok laws 0 1000 causes.Bound word n (lit< tt) e in (h.1, h.2)

  bound_of-number : (n : ℕ) → n ≤ 1000 → bound_word (decimal n) ≡ Ok n
  bound_of-number n h = number_in-number laws 0 1000 causes.Bound n (lit< tt) (omega arith) h

  -- a program, and its words
  abbrev IsReadAs : Line → Program → Type 0
  IsReadAs words program = IsProgram program × (words ≡ program_words program)

  show_of-ok : (words : Line) (form : ReadOrCause Program) (program : Program) → show_of words ≡ Some form → form ≡ Ok program → IsReadAs (codes "show" ∷ words) program
  show_of-ok [] form program f e = absurd cc
  show_of-ok (v ∷ []) form program f e =
      let step = bind_ok (name_word v) (λ v. Ok (Show v)) program (some_is (show_program v) form f ∙ e) in
      let a = name_of-ok v step.0 step.1 in
      subst (IsReadAs (codes "show" ∷ v ∷ [])) (ok_is {E = Cause} (Show step.0) program step.2) (subst IsName a.1 a.0, λ i. codes "show" ∷ a.1 i ∷ [])
  show_of-ok (v ∷ w ∷ words) form program f e = absurd cc

  reach_of-ok : (words : Line) (form : ReadOrCause Program) (program : Program) → reach_of words ≡ Some form → form ≡ Ok program → IsReadAs (codes "reach" ∷ words) program
  reach_of-ok [] form program f e = absurd cc
  reach_of-ok (from ∷ []) form program f e = absurd cc
  reach_of-ok (from ∷ to ∷ words) form program f e =
      let filter = map_some (reach_program from to) (filter_of words) form f in
      let first = bind_ok (name_word from) (λ from. name_word to >>= λ to. filter.0 >>= λ pass. Ok (Reach from to pass)) program (filter.2 ∙ e) in
      let second = bind_ok (name_word to) (λ to. filter.0 >>= λ pass. Ok (Reach first.0 to pass)) program first.2 in
      let third = bind_ok filter.0 (λ pass. Ok (Reach first.0 second.0 pass)) program second.2 in
      let a = name_of-ok from first.0 first.1 in
      let b = name_of-ok to second.0 second.1 in
      let c = filter_of-ok words filter.0 third.0 filter.1 third.1 in
      subst (IsReadAs (codes "reach" ∷ from ∷ to ∷ words)) (ok_is {E = Cause} (Reach first.0 second.0 third.0) program third.2)
      ((subst IsName a.1 a.0, subst IsName b.1 b.0, c.0), λ i. codes "reach" ∷ a.1 i ∷ b.1 i ∷ c.1 i)

  around_of-ok : (words : Line) (form : ReadOrCause Program) (program : Program) → around_of words ≡ Some form → form ≡ Ok program → IsReadAs (codes "around" ∷ words) program
  around_of-ok [] form program f e = absurd cc
  around_of-ok (from ∷ []) form program f e = absurd cc
  around_of-ok (from ∷ bound ∷ words) form program f e =
      let filter = map_some (around_program from bound) (filter_of words) form f in
      let first = bind_ok (name_word from) (λ from. bound_word bound >>= λ bound. filter.0 >>= λ pass. Ok (Around from bound pass)) program (filter.2 ∙ e) in
      let second = bind_ok (bound_word bound) (λ bound. filter.0 >>= λ pass. Ok (Around first.0 bound pass)) program first.2 in
      let third = bind_ok filter.0 (λ pass. Ok (Around first.0 second.0 pass)) program second.2 in
      let a = name_of-ok from first.0 first.1 in
      let b = bound_of-ok bound second.0 second.1 in
      let c = filter_of-ok words filter.0 third.0 filter.1 third.1 in
      subst (IsReadAs (codes "around" ∷ from ∷ bound ∷ words)) (ok_is {E = Cause} (Around first.0 second.0 third.0) program third.2)
      ((subst IsName a.1 a.0, b.0, c.0), λ i. codes "around" ∷ a.1 i ∷ b.1 i ∷ c.1 i)

  path_of-ok : (words : Line) (form : ReadOrCause Program) (program : Program) → path_of words ≡ Some form → form ≡ Ok program → IsReadAs (codes "path" ∷ words) program
  path_of-ok [] form program f e = absurd cc
  path_of-ok (from ∷ []) form program f e = absurd cc
  path_of-ok (from ∷ to ∷ []) form program f e = absurd cc
  path_of-ok (from ∷ to ∷ bound ∷ words) form program f e =
      let filter = map_some (path_program from to bound) (filter_of words) form f in
      let first = bind_ok (name_word from) (λ from. name_word to >>= λ to. bound_word bound >>= λ bound. filter.0 >>= λ pass. Ok (Path from to bound pass)) program (filter.2 ∙ e) in
      let second = bind_ok (name_word to) (λ to. bound_word bound >>= λ bound. filter.0 >>= λ pass. Ok (Path first.0 to bound pass)) program first.2 in
      let third = bind_ok (bound_word bound) (λ bound. filter.0 >>= λ pass. Ok (Path first.0 second.0 bound pass)) program second.2 in
      let fourth = bind_ok filter.0 (λ pass. Ok (Path first.0 second.0 third.0 pass)) program third.2 in
      let a = name_of-ok from first.0 first.1 in
      let b = name_of-ok to second.0 second.1 in
      let c = bound_of-ok bound third.0 third.1 in
      let d = filter_of-ok words filter.0 fourth.0 filter.1 fourth.1 in
      subst (IsReadAs (codes "path" ∷ from ∷ to ∷ bound ∷ words)) (ok_is {E = Cause} (Path first.0 second.0 third.0 fourth.0) program fourth.2)
      ((subst IsName a.1 a.0, subst IsName b.1 b.0, c.0, d.0), λ i. codes "path" ∷ a.1 i ∷ b.1 i ∷ c.1 i ∷ d.1 i)

  price_of-ok : (words : Line) (form : ReadOrCause Program) (program : Program) → price_of words ≡ Some form → form ≡ Ok program → IsReadAs (codes "price" ∷ words) program
  price_of-ok [] form program f e = absurd cc
  price_of-ok (from ∷ []) form program f e = absurd cc
  price_of-ok (from ∷ to ∷ []) form program f e = absurd cc
  price_of-ok (from ∷ to ∷ key ∷ []) form program f e =
      let first = bind_ok (name_word from) (λ from. name_word to >>= λ to. name_word key >>= λ key. Ok (Price from to key)) program (some_is (price_program from to key) form f ∙ e) in
      let second = bind_ok (name_word to) (λ to. name_word key >>= λ key. Ok (Price first.0 to key)) program first.2 in
      let third = bind_ok (name_word key) (λ key. Ok (Price first.0 second.0 key)) program second.2 in
      let a = name_of-ok from first.0 first.1 in
      let b = name_of-ok to second.0 second.1 in
      let c = name_of-ok key third.0 third.1 in
      subst (IsReadAs (codes "price" ∷ from ∷ to ∷ key ∷ [])) (ok_is {E = Cause} (Price first.0 second.0 third.0) program third.2)
      ((subst IsName a.1 a.0, subst IsName b.1 b.0, subst IsName c.1 c.0), λ i. codes "price" ∷ a.1 i ∷ b.1 i ∷ c.1 i ∷ [])
  price_of-ok (from ∷ to ∷ key ∷ more ∷ words) form program f e = absurd cc

  program_of-ok : (words : Line) (form : ReadOrCause Program) (program : Program) → program_of words ≡ Some form → form ≡ Ok program → IsReadAs words program
  program_of-ok [] form program f e = absurd cc
  program_of-ok (word ∷ words) form program f e =
      pick _ _ _ _ f (λ same f. by (codes "show") same (show_of-ok words form program f e)) (λ other f.
      pick _ _ _ _ f (λ same f. by (codes "reach") same (reach_of-ok words form program f e)) (λ other f.
      pick _ _ _ _ f (λ same f. by (codes "around") same (around_of-ok words form program f e)) (λ other f.
      pick _ _ _ _ f (λ same f. by (codes "path") same (path_of-ok words form program f e)) (λ other f.
      pick _ _ _ _ f (λ same f. by (codes "price") same (price_of-ok words form program f e)) (λ other f. absurd cc)))))
    where
      by : (text : Word) → bytes_eq word text ≡ true → IsReadAs (text ∷ words) program → IsReadAs (word ∷ words) program
      by text same read = subst (λ word. IsReadAs (word ∷ words) program) (sym (is_word word text same)) read

  program_of-words : (program : Program) → IsProgram program → program_of (program_words program) ≡ Some (Ok program)
  program_of-words (Show v) h = ap (λ read. Some read) (bind_at (name_word v) (λ v. Ok (Show v)) v (name_of-name v h))
  program_of-words (Reach from to pass) h =
      ap (option_map (reach_program from to)) (filter_of-words pass h.2)
      ∙ ap (λ read. Some read)
      (bind_at (name_word from) (λ from. name_word to >>= λ to. Ok (Reach from to pass)) from (name_of-name from h.0)
      ∙ bind_at (name_word to) (λ to. Ok (Reach from to pass)) to (name_of-name to h.1))
  program_of-words (Around from bound pass) h =
      ap (option_map (around_program from (decimal bound))) (filter_of-words pass h.2)
      ∙ ap (λ read. Some read)
      (bind_at (name_word from) (λ from. bound_word (decimal bound) >>= λ bound. Ok (Around from bound pass)) from (name_of-name from h.0)
      ∙ bind_at (bound_word (decimal bound)) (λ bound. Ok (Around from bound pass)) bound (bound_of-number bound h.1))
  program_of-words (Path from to bound pass) h =
      ap (option_map (path_program from to (decimal bound))) (filter_of-words pass h.3)
      ∙ ap (λ read. Some read)
      (bind_at (name_word from) (λ from. name_word to >>= λ to. bound_word (decimal bound) >>= λ bound. Ok (Path from to bound pass)) from (name_of-name from h.0)
      ∙ bind_at (name_word to) (λ to. bound_word (decimal bound) >>= λ bound. Ok (Path from to bound pass)) to (name_of-name to h.1)
      ∙ bind_at (bound_word (decimal bound)) (λ bound. Ok (Path from to bound pass)) bound (bound_of-number bound h.2))
  program_of-words (Price from to key) h =
      ap (λ read. Some read)
      (bind_at (name_word from) (λ from. name_word to >>= λ to. name_word key >>= λ key. Ok (Price from to key)) from (name_of-name from h.0)
      ∙ bind_at (name_word to) (λ to. name_word key >>= λ key. Ok (Price from to key)) to (name_of-name to h.1)
      ∙ bind_at (name_word key) (λ key. Ok (Price from to key)) key (name_of-name key h.2))

  -- words that are read as a program are those of it
  pub prog_of-ok : (gates : ℕ) → 1 ≤ gates → gates ≤ 8 → (line : Line) (opening : Opening) (program : Program) → prog_of gates line ≡ Ok (opening, program)
      → IsOpening gates opening × IsProgram program × (line ≡ opening_words opening ++ program_words program)
  prog_of-ok gates some few [] opening program e = absurd cc
  prog_of-ok gates some few (a ∷ []) opening program e = absurd cc
  prog_of-ok gates some few (a ∷ b ∷ []) opening program e = absurd cc
  prog_of-ok gates some few (a ∷ b ∷ c ∷ words) opening program e =
      let form = bind_ok (or_refused causes.Line (program_of words)) (λ program. opening_of gates a b c >>= λ opening. program >>= λ program. Ok (opening, program)) (opening, program) e in
      let front_read = bind_ok (opening_of gates a b c) (λ opening. form.0 >>= λ program. Ok (opening, program)) (opening, program) form.2 in
      let work = bind_ok form.0 (λ program. Ok (front_read.0, program)) (opening, program) front_read.2 in
      let both = ok_is {E = Cause} (front_read.0, work.0) (opening, program) work.2 in
      let front = opening_of-ok gates some few a b c front_read.0 front_read.1 in
      let back = program_of-ok words form.0 work.0 (form_ok causes.Line (program_of words) form.0 form.1) work.1 in
      subst (λ (p : Opening × Program). IsOpening gates p.0 × IsProgram p.1 × (a ∷ b ∷ c ∷ words ≡ opening_words p.0 ++ program_words p.1)) both
      (front.0, back.0, λ i. front.1 i ++ back.1 i)

  -- the words of a program are read as it
  pub prog_of-words : (gates : ℕ) → gates ≤ 8 → (opening : Opening) (program : Program) → IsOpening gates opening → IsProgram program
      → prog_of gates (opening_words opening ++ program_words program) ≡ Ok (opening, program)
  prog_of-words gates few opening program h k =
      let name = opening.name in
      let session = decimal opening.session in
      let gate = decimal opening.gate in
      ap (λ form. or_refused causes.Line form >>= λ program. opening_of gates name session gate >>= λ opening. program >>= λ program. Ok (opening, program)) (program_of-words program k)
      ∙ bind_at (opening_of gates name session gate) (λ opening. Ok (opening, program)) opening (opening_of-words gates few opening h)
