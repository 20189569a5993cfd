-- An operation is read only from its one line, and that is read as it.
-- Used by `operations_come_back`, Reached and ReadAgain.
use Rattle.std.proofs.Common.{◌≡◌, Bool, true, false, [], ◌∷◌, Option, Some, None, Ok, Err, refl, sym, ap, ◌∙◌, subst}
use Rattle.std.specs.Prelude.{codes}
use Rattle.std.specs.List.{AllByRecursion, list_all}
use Rattle.std.proofs.lemmas.Bool.{cond-true}
use Rattle.weave_data.specs.Names.{is_name}
use Rattle.graph_ops.specs.Operations.{op_fields, op_with, op_word, version_1_op}
use Rattle.graph_ops.specs.declared.op.Op.{Op}
use Rattle.graph_ops.specs.declared.op.Op.TheVariants.{Create, Delete, Set, Unset, Link, Join, Unlink, Tag, Untag, Get}
use Rattle.weave_text.specs.Lines.{Line}
use Rattle.weave_script.specs.declared.fault.Cause.{Cause}
use Rattle.weave_script.specs.declared.fault.Cause.TheVariants as causes
use Rattle.weave_script.specs.Fields.{or_refused}
use Rattle.weave_script.specs.Ops.{op_in, op_in_line, op_of, is_end}
use Rattle.weave_script.specs.ScriptLines.{op_line, end_line}
use Rattle.weave_script.specs.Scripts.{IsName, IsOfVersion, IsOperation}
use Rattle.weave_data.proofs.Lists.{each_from, list_all-from}
use Rattle.weave_data.proofs.Steps.{bind_ok, bind_at, ok_is}
use Rattle.graph_ops.proofs.EachOp.{finds-op, found-op, found-version_1, vertex-first}
use Rattle.weave_report.proofs.ReadSteps.{is_word}
use Rattle.weave_script.proofs.Binds.{pick}
use Rattle.weave_script.proofs.OpWords.{of_names}

-- an operation of version 1 whose fields are names, and its line
record IsRead (line : Line) (op : Op) : Type 0 where
  names : IsOperation op
  version : version_1_op op ≡ op
  line_is : line ≡ op_line op

-- an operation of the version whose fields are names, and its line
pub record IsReadIn (joins : Bool) (line : Line) (op : Op) : Type 0 where
  pub names : IsOperation op
  pub version : IsOfVersion joins op
  pub line_is : line ≡ op_line op

was_there : (cause : Cause) (o : Option Op) (op : Op) → or_refused cause o ≡ Ok op → o ≡ Some op
was_there cause None op e = absurd cc
was_there cause (Some other) op e = ap Some (ok_is {E = Cause} other op e)

-- an operation that is read in version 1
op_of-ok : (line : Line) (op : Op) → op_of line ≡ Ok op → IsRead line op
op_of-ok [] op e = absurd cc
op_of-ok (word ∷ fields) op e =
    let step = bind_ok (or_refused causes.Line (op_with word fields)) (of_names fields) op e in
    pick (list_all is_name fields) (Ok step.0) (Err causes.Name) (Ok op) step.2 (λ names same.
    let there = was_there causes.Line (op_with word fields) step.0 step.1 in
    let line = found-op word fields step.0 there in
    let fields_are : fields ≡ op_fields step.0 = line.1 in
    let all = each_from is_name IsName (λ name h. h) fields names in
    subst (IsRead (word ∷ fields)) (ok_is {E = Cause} step.0 op same) (record {
      names = subst (AllByRecursion IsName) fields_are all;
      version = found-version_1 word fields step.0 there;
      line_is = λ i. line.0 i ∷ fields_are i;
    })) (λ names same. absurd cc)

-- in each version an operation has the same fields, and the same line
same_fields : (op : Op) (joins : Bool) → op_fields (op_in op joins) ≡ op_fields op
same_fields (Create v) joins = refl
same_fields (Delete v) joins = refl
same_fields (Set v key value) joins = refl
same_fields (Unset v key) joins = refl
same_fields (Link v name target) true = refl
same_fields (Link v name target) false = refl
same_fields (Join v name target) joins = refl
same_fields (Unlink v name) joins = refl
same_fields (Tag v name key value) joins = refl
same_fields (Untag v name key) joins = refl
same_fields (Get v) joins = refl

same_line : (op : Op) (joins : Bool) → op_line (op_in op joins) ≡ op_line op
same_line (Create v) joins = refl
same_line (Delete v) joins = refl
same_line (Set v key value) joins = refl
same_line (Unset v key) joins = refl
same_line (Link v name target) true = refl
same_line (Link v name target) false = refl
same_line (Join v name target) joins = refl
same_line (Unlink v name) joins = refl
same_line (Tag v name key value) joins = refl
same_line (Untag v name key) joins = refl
same_line (Get v) joins = refl

-- an operation of version 1, as a version means it, is one of that version
of_version : (op : Op) (joins : Bool) → version_1_op op ≡ op → IsOfVersion joins (op_in op joins)
of_version (Create v) joins e = refl
of_version (Delete v) joins e = refl
of_version (Set v key value) joins e = refl
of_version (Unset v key) joins e = refl
of_version (Link v name target) true e = refl
of_version (Link v name target) false e = refl
of_version (Join v name target) joins e = absurd cc
of_version (Unlink v name) joins e = refl
of_version (Tag v name key value) joins e = refl
of_version (Untag v name key) joins e = refl
of_version (Get v) joins e = refl

-- an operation that is read
pub op_in_line-ok : (joins : Bool) (line : Line) (op : Op) → op_in_line joins line ≡ Ok op → IsReadIn joins line op
op_in_line-ok joins line op e =
    let step = bind_ok (op_of line) (λ op. Ok (op_in op joins)) op e in
    let read = op_of-ok line step.0 step.1 in
    subst (IsReadIn joins line) (ok_is {E = Cause} (op_in step.0 joins) op step.2) (record {
      names = subst (AllByRecursion IsName) (sym (same_fields step.0 joins)) read.names;
      version = of_version step.0 joins read.version;
      line_is = read.line_is ∙ sym (same_line step.0 joins);
    })

-- a line that passes the test is the end of a transaction
pub is_end-ok : (line : Line) → is_end line ≡ true → line ≡ end_line
is_end-ok [] e = absurd cc
is_end-ok (word ∷ []) e = ap (λ word. word ∷ []) (is_word word (codes "end") e)
is_end-ok (word ∷ more ∷ words) e = absurd cc

-- an operation's line is read in version 1 as the operation of that version, and is no end
op_of-line : (op : Op) → IsOperation op → (op_of (op_line op) ≡ Ok (version_1_op op)) × (is_end (op_line op) ≡ false)
op_of-line op h = (
  bind_at (or_refused causes.Line (op_with (op_word op) (op_fields op))) (of_names (op_fields op)) (version_1_op op) (ap (or_refused causes.Line) (finds-op op))
      ∙ cond-true (list_all is_name (op_fields op)) (Ok (version_1_op op)) (Err causes.Name) (list_all-from is_name (op_fields op) h),
  ap (λ fields. is_end (op_word op ∷ fields)) (vertex-first op).1,
)

-- an operation's line is read as it in a version that has it, and is no end
pub op_in_line-again : (joins : Bool) (op : Op) → IsOperation op → IsOfVersion joins op → (op_in_line joins (op_line op) ≡ Ok op) × (is_end (op_line op) ≡ false)
op_in_line-again joins op h of =
    let read = op_of-line op h in
    (bind_at (op_of (op_line op)) (λ op. Ok (op_in op joins)) (version_1_op op) read.0 ∙ ap (λ op. Ok op) of, read.1)
