-- The operation of a line whose words are read one after another.
-- Used by `op_of_four`, `op_of_one`, `op_of_three`, `op_of_two` and OpLaws.
use Rattle.std.proofs.Common.{◌≡◌, Bool, true, false, cond, [], ◌∷◌, ◌&&◌, Option, Some, None, Ok, Err, refl, sym, ap, ◌∙◌}
use Rattle.std.specs.Prelude.{codes}
use Rattle.std.specs.List.{list_all}
use Rattle.std.specs.Str.{bytes_eq}
use Rattle.std.proofs.lemmas.Bool.{cond-true, cond-false}
use Rattle.weave_data.specs.Names.{is_name}
use Rattle.weave_data.specs.Steps.{◌>>=◌}
use Rattle.weave_data.specs.declared.name.Name.{Name}
use Rattle.weave_data.proofs.Steps.{bind_at, ok_is}
use Rattle.graph_ops.specs.Operations.{op_with}
use Rattle.graph_ops.specs.declared.op.Op.{Op}
use Rattle.graph_ops.specs.declared.op.Op.TheVariants.{Create, Delete, Get, Set, Unset, Link, Unlink, Tag, Untag}
use Rattle.weave_text.specs.Lines.{Line, Word}
use Rattle.weave_script.specs.declared.fault.Cause.{Cause}
use Rattle.weave_script.specs.declared.fault.Cause.TheVariants as causes
use Rattle.weave_script.specs.Fields.{ReadOrCause, or_refused, name_word}
use Rattle.weave_script.specs.Ops.{op_of}

-- Names

-- the word was read as this name
abbrev pub IsNamed : Word → Name → Type 0
IsNamed word name = ◌≡◌ {A = ReadOrCause Name} (Ok name) (name_word word)

-- the word was refused as a name
abbrev pub IsUnnamed : Word → Cause → Type 0
IsUnnamed word cause = ◌≡◌ {A = ReadOrCause Name} (Err cause) (name_word word)

passed : (b : Bool) (word name : Name) → ◌≡◌ {A = ReadOrCause Name} (Ok name) (cond b (Ok word) (Err causes.Name)) → (b ≡ true) × (word ≡ name)
passed true word name e = (refl, sym (ok_is {E = Cause} name word e))
passed false word name e = absurd cc

refused : (b : Bool) (word : Name) (cause : Cause) → ◌≡◌ {A = ReadOrCause Name} (Err cause) (cond b (Ok word) (Err causes.Name)) → (b ≡ false) × (cause ≡ causes.Name)
refused true word cause e = absurd cc
refused false word cause e = (refl, cc)

named : (word : Word) (name : Name) → IsNamed word name → is_name word ≡ true
named word name e = (passed (is_name word) word name e).0

named_as : (word : Word) (name : Name) → IsNamed word name → word ≡ name
named_as word name e = (passed (is_name word) word name e).1

unnamed : (word : Word) (cause : Cause) → IsUnnamed word cause → is_name word ≡ false
unnamed word cause e = (refused (is_name word) word cause e).0

-- What is read of a line with this word

-- the operation, if its fields are names
abbrev pub of_names : Line → Op → ReadOrCause Op
of_names fields op = cond (list_all is_name fields) (Ok op) (Err causes.Name)

-- no operation has this word
pub unknown_word : (word : Word) (fields : Line) → op_with word fields ≡ None → ◌≡◌ {A = ReadOrCause Op} (Err causes.Line) (op_of (word ∷ fields))
unknown_word word fields none = sym (ap (λ (o : Option Op). or_refused causes.Line o >>= of_names fields) none)

module _ (word : Word) (fields : Line) (op : Op) (finds : op_with word fields ≡ Some op) where
  reads_names : op_of (word ∷ fields) ≡ of_names fields op
  reads_names = bind_at (or_refused causes.Line (op_with word fields)) (of_names fields) op (ap (or_refused causes.Line) finds)

  all_names : list_all is_name fields ≡ true → ◌≡◌ {A = ReadOrCause Op} (Ok op) (op_of (word ∷ fields))
  all_names all = sym (reads_names ∙ cond-true (list_all is_name fields) (Ok op) (Err causes.Name) all)

  no_name : (other : Word) (cause : Cause) → IsUnnamed other cause → list_all is_name fields ≡ false → ◌≡◌ {A = ReadOrCause Op} (Err cause) (op_of (word ∷ fields))
  no_name other cause e fails =
      ap Err (refused (is_name other) other cause e).1
      ∙ sym (reads_names ∙ cond-false (list_all is_name fields) (Ok op) (Err causes.Name) fails)

-- Three fields

-- the operation that has the word
pub finds_set : (word v other last : Word) → true ≡ bytes_eq word (codes "set") → op_with word (v ∷ other ∷ last ∷ []) ≡ Some (Set v other last)
finds_set word v other last set = λ i. cond (sym set i) (Some (Set v other last)) (cond (bytes_eq word (codes "link")) (Some (Link v other last)) (cond (bytes_eq word (codes "untag")) (Some (Untag v other last)) None))

-- the word `link`
pub finds_link : (word v other last : Word) → false ≡ bytes_eq word (codes "set") → true ≡ bytes_eq word (codes "link") → op_with word (v ∷ other ∷ last ∷ []) ≡ Some (Link v other last)
finds_link word v other last set link = λ i. cond (sym set i) (Some (Set v other last)) (cond (sym link i) (Some (Link v other last)) (cond (bytes_eq word (codes "untag")) (Some (Untag v other last)) None))

-- the word `untag`
pub finds_untag : (word v other last : Word) → false ≡ bytes_eq word (codes "set") → false ≡ bytes_eq word (codes "link") → true ≡ bytes_eq word (codes "untag") → op_with word (v ∷ other ∷ last ∷ []) ≡ Some (Untag v other last)
finds_untag word v other last set link untag = λ i. cond (sym set i) (Some (Set v other last)) (cond (sym link i) (Some (Link v other last)) (cond (sym untag i) (Some (Untag v other last)) None))

-- none of the three words
pub finds_none : (word v other last : Word) → false ≡ bytes_eq word (codes "set") → false ≡ bytes_eq word (codes "link") → false ≡ bytes_eq word (codes "untag") → op_with word (v ∷ other ∷ last ∷ []) ≡ None
finds_none word v other last set link untag = λ i. cond (sym set i) (Some (Set v other last)) (cond (sym link i) (Some (Link v other last)) (cond (sym untag i) (Some (Untag v other last)) None))

module _ (word v other last : Word) where
  abbrev three : Line
  three = v ∷ other ∷ last ∷ []

  -- its first field that isn't a name, or the operation if each is one
  pub first_of_three : (op : Op) → op_with word three ≡ Some op → (cause : Cause) → IsUnnamed v cause → ◌≡◌ {A = ReadOrCause Op} (Err cause) (op_of (word ∷ three))
  first_of_three op finds cause e = no_name word three op finds v cause e (λ i. unnamed v cause e i && (is_name other && (is_name last && true)))

  -- the second field is no name
  pub second_of_three : (op : Op) → op_with word three ≡ Some op → (a : Name) (cause : Cause) → IsNamed v a → IsUnnamed other cause → ◌≡◌ {A = ReadOrCause Op} (Err cause) (op_of (word ∷ three))
  second_of_three op finds a cause is e = no_name word three op finds other cause e (λ i. named v a is i && (unnamed other cause e i && (is_name last && true)))

  -- the third field is no name
  pub third_of_three : (op : Op) → op_with word three ≡ Some op → (a b : Name) (cause : Cause) → IsNamed v a → IsNamed other b → IsUnnamed last cause → ◌≡◌ {A = ReadOrCause Op} (Err cause) (op_of (word ∷ three))
  third_of_three op finds a b cause is then_is e = no_name word three op finds last cause e (λ i. named v a is i && (named other b then_is i && (unnamed last cause e i && true)))

  -- each of the three is a name
  pub op_of_names : (make : Name → Name → Name → Op) → op_with word three ≡ Some (make v other last) → (a b d : Name) → IsNamed v a → IsNamed other b → IsNamed last d → ◌≡◌ {A = ReadOrCause Op} (Ok (make a b d)) (op_of (word ∷ three))
  op_of_names make finds a b d is then_is last_is =
      (λ i. Ok (make (sym (named_as v a is) i) (sym (named_as other b then_is) i) (sym (named_as last d last_is) i)))
      ∙ all_names word three (make v other last) finds (λ i. named v a is i && (named other b then_is i && (named last d last_is i && true)))

-- One field

-- the word `create`
pub finds_create : (word v : Word) → true ≡ bytes_eq word (codes "create") → op_with word (v ∷ []) ≡ Some (Create v)
finds_create word v create = λ i. cond (sym create i) (Some (Create v)) (cond (bytes_eq word (codes "delete")) (Some (Delete v)) (cond (bytes_eq word (codes "get")) (Some (Get v)) None))

-- the word `delete`
pub finds_delete : (word v : Word) → false ≡ bytes_eq word (codes "create") → true ≡ bytes_eq word (codes "delete") → op_with word (v ∷ []) ≡ Some (Delete v)
finds_delete word v create delete = λ i. cond (sym create i) (Some (Create v)) (cond (sym delete i) (Some (Delete v)) (cond (bytes_eq word (codes "get")) (Some (Get v)) None))

-- the word `get`
pub finds_get : (word v : Word) → false ≡ bytes_eq word (codes "create") → false ≡ bytes_eq word (codes "delete") → true ≡ bytes_eq word (codes "get") → op_with word (v ∷ []) ≡ Some (Get v)
finds_get word v create delete get = λ i. cond (sym create i) (Some (Create v)) (cond (sym delete i) (Some (Delete v)) (cond (sym get i) (Some (Get v)) None))

-- none of the three words
pub finds_no_one : (word v : Word) → false ≡ bytes_eq word (codes "create") → false ≡ bytes_eq word (codes "delete") → false ≡ bytes_eq word (codes "get") → op_with word (v ∷ []) ≡ None
finds_no_one word v create delete get = λ i. cond (sym create i) (Some (Create v)) (cond (sym delete i) (Some (Delete v)) (cond (sym get i) (Some (Get v)) None))

module _ (word v : Word) where
  abbrev one : Line
  one = v ∷ []

  -- the field is no name
  pub only_field : (op : Op) → op_with word one ≡ Some op → (cause : Cause) → IsUnnamed v cause → ◌≡◌ {A = ReadOrCause Op} (Err cause) (op_of (word ∷ one))
  only_field op finds cause e = no_name word one op finds v cause e (λ i. unnamed v cause e i && true)

  -- the field is a name
  pub op_of_name : (make : Name → Op) → op_with word one ≡ Some (make v) → (a : Name) → IsNamed v a → ◌≡◌ {A = ReadOrCause Op} (Ok (make a)) (op_of (word ∷ one))
  op_of_name make finds a is = (λ i. Ok (make (sym (named_as v a is) i))) ∙ all_names word one (make v) finds (λ i. named v a is i && true)

-- Two fields

-- the word `unset`
pub finds_unset : (word v other : Word) → true ≡ bytes_eq word (codes "unset") → op_with word (v ∷ other ∷ []) ≡ Some (Unset v other)
finds_unset word v other unset = λ i. cond (sym unset i) (Some (Unset v other)) (cond (bytes_eq word (codes "unlink")) (Some (Unlink v other)) None)

-- the word `unlink`
pub finds_unlink : (word v other : Word) → false ≡ bytes_eq word (codes "unset") → true ≡ bytes_eq word (codes "unlink") → op_with word (v ∷ other ∷ []) ≡ Some (Unlink v other)
finds_unlink word v other unset unlink = λ i. cond (sym unset i) (Some (Unset v other)) (cond (sym unlink i) (Some (Unlink v other)) None)

-- neither word
pub finds_no_two : (word v other : Word) → false ≡ bytes_eq word (codes "unset") → false ≡ bytes_eq word (codes "unlink") → op_with word (v ∷ other ∷ []) ≡ None
finds_no_two word v other unset unlink = λ i. cond (sym unset i) (Some (Unset v other)) (cond (sym unlink i) (Some (Unlink v other)) None)

module _ (word v other : Word) where
  abbrev two : Line
  two = v ∷ other ∷ []

  -- the first field is no name
  pub first_of_two : (op : Op) → op_with word two ≡ Some op → (cause : Cause) → IsUnnamed v cause → ◌≡◌ {A = ReadOrCause Op} (Err cause) (op_of (word ∷ two))
  first_of_two op finds cause e = no_name word two op finds v cause e (λ i. unnamed v cause e i && (is_name other && true))

  -- the second field is no name
  pub second_of_two : (op : Op) → op_with word two ≡ Some op → (a : Name) (cause : Cause) → IsNamed v a → IsUnnamed other cause → ◌≡◌ {A = ReadOrCause Op} (Err cause) (op_of (word ∷ two))
  second_of_two op finds a cause is e = no_name word two op finds other cause e (λ i. named v a is i && (unnamed other cause e i && true))

  -- both fields are names
  pub op_of_two_names : (make : Name → Name → Op) → op_with word two ≡ Some (make v other) → (a b : Name) → IsNamed v a → IsNamed other b → ◌≡◌ {A = ReadOrCause Op} (Ok (make a b)) (op_of (word ∷ two))
  op_of_two_names make finds a b is then_is =
      (λ i. Ok (make (sym (named_as v a is) i) (sym (named_as other b then_is) i)))
      ∙ all_names word two (make v other) finds (λ i. named v a is i && (named other b then_is i && true))

-- Four fields

-- a test that gave true has passed
pub has_passed : (result test : Bool) → result ≡ test → result ≡ true → true ≡ test
has_passed result test is passed = sym passed ∙ is

-- the word `tag`
pub finds_tag : (word v edge key value : Word) → true ≡ bytes_eq word (codes "tag") → op_with word (v ∷ edge ∷ key ∷ value ∷ []) ≡ Some (Tag v edge key value)
finds_tag word v edge key value tag = λ i. cond (sym tag i) (Some (Tag v edge key value)) None

-- another word
pub finds_no_four : (word v edge key value : Word) → false ≡ bytes_eq word (codes "tag") → op_with word (v ∷ edge ∷ key ∷ value ∷ []) ≡ None
finds_no_four word v edge key value tag = λ i. cond (sym tag i) (Some (Tag v edge key value)) None

module _ (word v edge key value : Word) (tag : true ≡ bytes_eq word (codes "tag")) where
  abbrev four : Line
  four = v ∷ edge ∷ key ∷ value ∷ []

  -- the first field is no name
  pub first_of_tag : (cause : Cause) → IsUnnamed v cause → ◌≡◌ {A = ReadOrCause Op} (Err cause) (op_of (word ∷ four))
  first_of_tag cause e = no_name word four (Tag v edge key value) (finds_tag word v edge key value tag) v cause e (λ i. unnamed v cause e i && (is_name edge && (is_name key && (is_name value && true))))

  -- the second field is no name
  pub second_of_tag : (a : Name) (cause : Cause) → IsNamed v a → IsUnnamed edge cause → ◌≡◌ {A = ReadOrCause Op} (Err cause) (op_of (word ∷ four))
  second_of_tag a cause is e = no_name word four (Tag v edge key value) (finds_tag word v edge key value tag) edge cause e (λ i. named v a is i && (unnamed edge cause e i && (is_name key && (is_name value && true))))

  -- the third field is no name
  pub third_of_tag : (a b : Name) (cause : Cause) → IsNamed v a → IsNamed edge b → IsUnnamed key cause → ◌≡◌ {A = ReadOrCause Op} (Err cause) (op_of (word ∷ four))
  third_of_tag a b cause is then_is e = no_name word four (Tag v edge key value) (finds_tag word v edge key value tag) key cause e (λ i. named v a is i && (named edge b then_is i && (unnamed key cause e i && (is_name value && true))))

  -- the fourth field is no name
  pub fourth_of_tag : (a b d : Name) (cause : Cause) → IsNamed v a → IsNamed edge b → IsNamed key d → IsUnnamed value cause → ◌≡◌ {A = ReadOrCause Op} (Err cause) (op_of (word ∷ four))
  fourth_of_tag a b d cause is then_is key_is e = no_name word four (Tag v edge key value) (finds_tag word v edge key value tag) value cause e (λ i. named v a is i && (named edge b then_is i && (named key d key_is i && (unnamed value cause e i && true))))

  -- each of the four is a name
  pub op_of_tag : (a b d e : Name) → IsNamed v a → IsNamed edge b → IsNamed key d → IsNamed value e → ◌≡◌ {A = ReadOrCause Op} (Ok (Tag a b d e)) (op_of (word ∷ four))
  op_of_tag a b d e is then_is key_is last_is =
      (λ i. Ok (Tag (sym (named_as v a is) i) (sym (named_as edge b then_is) i) (sym (named_as key d key_is) i) (sym (named_as value e last_is) i)))
      ∙ all_names word four (Tag v edge key value) (finds_tag word v edge key value tag) (λ i. named v a is i && (named edge b then_is i && (named key d key_is i && (named value e last_is i && true))))
