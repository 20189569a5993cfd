-- The line of an operation is short.
-- Used by `operations_come_back`.
use Rattle.std.proofs.Common.{◌≡◌, ℕ, ◌+◌, ◌*◌, ◌≤◌, ◌&&◌, nat_le, List, [], ◌∷◌, ◌++◌, refl, arith, length-append}
use Rattle.std.specs.Prelude.{length, codes}
use Rattle.std.specs.List.{AllByRecursion, list_all}
use Rattle.std.proofs.lemmas.Bool.{and_parts, leb-true}
use Rattle.weave_data.specs.Limits.{most_letters}
use Rattle.weave_data.specs.Names.{is_name_byte}
use Rattle.graph_ops.specs.Operations.{op_fields, op_word}
use Rattle.graph_ops.specs.declared.op.Op.{Op}
use Rattle.graph_ops.specs.declared.op.Op.TheVariants.{Create, Delete, Set, Unset, Link, Join, Unlink, Tag, Untag, Get}
use Rattle.weave_text.specs.Lines.{Word, joined_words, line_text, spaced_words}
use Rattle.weave_script.specs.ScriptLines.{op_line}
use Rattle.weave_script.specs.Scripts.{IsName, IsOperation}

name_short : (name : Word) → IsName name → length name ≤ 32
name_short name is =
    let sized = and_parts (nat_le 1 (length name) && nat_le (length name) most_letters) (list_all is_name_byte name) is in
    leb-true (length name) most_letters (and_parts (nat_le 1 (length name)) (nat_le (length name) most_letters) sized.0).1

fields_short : (fields : List Word) → AllByRecursion IsName fields → length (spaced_words fields) ≤ 33 * length fields
fields_short [] h = omega arith
fields_short (field ∷ fields) h =
    omega (
      arith,
      length-append (codes " " ++ field) (spaced_words fields),
      length-append (codes " ") field,
      name_short field h.0,
      fields_short fields h.1,
    )

few_fields : (op : Op) → length (op_fields op) ≤ 4
few_fields (Create v) = omega arith
few_fields (Delete v) = omega arith
few_fields (Set v key value) = omega arith
few_fields (Unset v key) = omega arith
few_fields (Link v name target) = omega arith
few_fields (Join v name target) = omega arith
few_fields (Unlink v name) = omega arith
few_fields (Tag v name key value) = omega arith
few_fields (Untag v name key) = omega arith
few_fields (Get v) = omega arith

short_word : (op : Op) → length (op_word op) ≤ 6
short_word (Create v) = omega arith
short_word (Delete v) = omega arith
short_word (Set v key value) = omega arith
short_word (Unset v key) = omega arith
short_word (Link v name target) = omega arith
short_word (Join v name target) = omega arith
short_word (Unlink v name) = omega arith
short_word (Tag v name key value) = omega arith
short_word (Untag v name key) = omega arith
short_word (Get v) = omega arith

-- a word, at most four names, and a line feed
pub short_line : (op : Op) → IsOperation op → length (line_text (op_line op)) ≤ 139
short_line op names =
    omega (
      arith,
      length-append (joined_words (op_line op)) (codes "\n"),
      length-append (op_word op) (spaced_words (op_fields op)),
      short_word op,
      few_fields op,
      fields_short (op_fields op) names,
    )
