-- Operations are read from their lines alone, and their lines are read as them.
-- Used by SaidCommits.
use Rattle.std.proofs.Common.{◌≡◌, Bool, true, List, [], ◌∷◌, ◌++◌, map, Option, Some, None, Ok, Err, refl, sym, ◌∙◌, ap, subst, append_assoc}
use Rattle.std.specs.Prelude.{IsTrue}
use Rattle.std.specs.List.{AllByRecursion, list_all}
use Rattle.std.proofs.lemmas.Bool.{and_from}
use Rattle.std.proofs.lemmas.List.{append-nil}
use Rattle.graph_ops.specs.declared.op.Op.{Op}
use Rattle.weave_text.specs.Cutting.{is_clean_line, lines_of, words_of}
use Rattle.weave_text.specs.Lines.{Bytes, Line, joined_words, lines_text}
use Rattle.weave_script.specs.Fields.{ReadOrCause}
use Rattle.weave_script.specs.Ops.{op_in_line}
use Rattle.weave_script.specs.ScriptLines.{op_line}
use Rattle.weave_script.specs.Scripts.{IsOfVersion, IsOperation}
use Rattle.weave_data.proofs.Lists.{all-append}
use Rattle.store_journal.specs.Payloads.{onward_read, ops_after, ops_text}

-- what the crates below say of operations and of clean lines
pub record OpLaws : Type 0 where
  pub read : (joins : Bool) (op : Op) → IsOperation op → IsOfVersion joins op → op_in_line joins (op_line op) ≡ Ok op
  pub names : (joins : Bool) (line : Line) (op : Op) → op_in_line joins line ≡ Ok op → IsOperation op
  pub version : (joins : Bool) (line : Line) (op : Op) → op_in_line joins line ≡ Ok op → IsOfVersion joins op
  pub clean : (op : Op) → IsOperation op → IsTrue (is_clean_line (op_line op))
  pub words : (line : Line) → IsTrue (is_clean_line line) → words_of (joined_words line) ≡ line
  pub lines : (lines : List Line) (text : Bytes) → IsTrue (list_all is_clean_line lines)
      → lines_of (lines_text lines ++ text) ≡ map joined_words lines ++ lines_of text

same_some : {A : Type 0} (x y : A) → Some x ≡ Some y → x ≡ y
same_some x y e = cc

none_some : {A X : Type 0} (x : A) → None ≡ Some x → X
none_some x e = absurd cc

module _ (laws : OpLaws) (joins : Bool) where
  -- each of them is an operation of the version
  abbrev pub AreOfVersion : List Op → Type 0
  AreOfVersion ops = AllByRecursion IsOperation ops × AllByRecursion (IsOfVersion joins) ops

  one_more : (ops : List Op) (op : Op) → AreOfVersion ops → IsOperation op → IsOfVersion joins op → AreOfVersion (ops ++ op ∷ [])
  one_more ops op all names of =
      (all-append IsOperation ops (op ∷ []) all.0 (names, tt), all-append (IsOfVersion joins) ops (op ∷ []) all.1 (of, tt))

  read_on : (read : ReadOrCause Op) (rest : Op → Option (List Op)) (ops : List Op) → onward_read read rest ≡ Some ops
      → (op : Op) × (read ≡ Ok op) × (rest op ≡ Some ops)
  read_on (Ok op) rest ops e = (op, refl, e)
  read_on (Err cause) rest ops e = none_some ops e

  -- what is read of lines
  pub are_read : (before : List Op) (lines : List Bytes) (ops : List Op) → AreOfVersion before
      → ops_after joins before lines ≡ Some ops → AreOfVersion ops
  are_read before [] ops all e = subst AreOfVersion (same_some before ops e) all
  are_read before (line ∷ lines) ops all e =
      let step = read_on (op_in_line joins (words_of line)) (λ op. ops_after joins (before ++ op ∷ []) lines) ops e in
      are_read (before ++ step.0 ∷ []) lines ops
      (one_more before step.0 all (laws.names joins (words_of line) step.0 step.1) (laws.version joins (words_of line) step.0 step.1)) step.2

  -- lines of operations
  read_again : (before ops : List Op) → AreOfVersion ops
      → ops_after joins before (map joined_words (map op_line ops)) ≡ Some (before ++ ops)
  read_again before [] all = ap (λ l. Some l) (sym (append-nil before))
  read_again before (op ∷ ops) all =
      let line : words_of (joined_words (op_line op)) ≡ op_line op = laws.words (op_line op) (laws.clean op all.0.0) in
      let read : op_in_line joins (words_of (joined_words (op_line op))) ≡ Ok op =
      ap (op_in_line joins) line ∙ laws.read joins op all.0.0 all.1.0 in
      ap (λ r. onward_read r (λ op. ops_after joins (before ++ op ∷ []) (map joined_words (map op_line ops)))) read
      ∙ read_again (before ++ op ∷ []) ops (all.0.1, all.1.1)
      ∙ ap (λ l. Some l) (append_assoc before (op ∷ []) ops)

  clean_lines : (ops : List Op) → AllByRecursion IsOperation ops → list_all is_clean_line (map op_line ops) ≡ true
  clean_lines [] all = refl
  clean_lines (op ∷ ops) all = and_from _ _ (laws.clean op all.0) (clean_lines ops all.1)

  -- the text of operations
  pub text_read : (ops : List Op) → AreOfVersion ops → ops_after joins [] (lines_of (ops_text ops)) ≡ Some ops
  text_read ops all =
      ap (λ text. ops_after joins [] (lines_of text)) (sym (append-nil (ops_text ops)))
      ∙ ap (ops_after joins []) (laws.lines (map op_line ops) [] (clean_lines ops all.0) ∙ append-nil (map joined_words (map op_line ops)))
      ∙ read_again [] ops all
