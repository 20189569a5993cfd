-- Worked texts: what the definition says of them.
-- Used by nothing: worked examples.
use Rattle.std.proofs.Common.{◌≡◌, refl, ℕ, [], ◌∷◌, Ok, Err, codes}
use Rattle.std.specs.Prelude.{Result, Some, None}
use Rattle.std.specs.Fmt.{digits}
use Rattle.weave_script.specs.declared.fault.Cause.{Cause}
use Rattle.weave_script.specs.declared.fault.Cause.TheVariants as causes
use Rattle.graph_ops.specs.declared.op.Op.TheVariants.{Link, Join, Get}
use Rattle.program_defs.specs.declared.program.Program.TheVariants.{Path}
use Rattle.program_defs.specs.declared.script.Script.{Script}
use Rattle.program_defs.specs.declared.script.Step.TheVariants.{Begin, Deliver}
use Rattle.program_defs.specs.declared.script.Work.TheVariants.{Change, Look}
use Rattle.weave_text.specs.Numbers.{number_up_to}
use Rattle.graph_ops.specs.declared.op.Op.{Op}
use Rattle.weave_script.specs.ReadText.{Fault, read_text}
use Rattle.weave_script.specs.ScriptLines.{script_text}

refused : ℕ → Cause → Result Script Fault
refused line cause = Err (record { line = line; cause = cause })

no_text : read_text ([]) ≡ refused 1 causes.Header
unfolding refused number_up_to
no_text = refl

only_skipped : read_text (codes "\n# a\n") ≡ refused 3 causes.Header
unfolding refused number_up_to
only_skipped = refl

nine_gatekeepers : read_text (codes "weaver 1 9 1\n") ≡ refused 1 causes.Gatekeepers
unfolding refused number_up_to
nine_gatekeepers = refl

header_as_a_whole : read_text (codes "weaver 1 9 x\n") ≡ refused 1 causes.Header
unfolding refused number_up_to
header_as_a_whole = refl

gatekeepers_before_shards : read_text (codes "weaver 1 9 17\n") ≡ refused 1 causes.Gatekeepers
unfolding refused number_up_to
gatekeepers_before_shards = refl

no_shard : read_text (codes "#\nweaver 1 8 0") ≡ refused 2 causes.Shards
unfolding refused number_up_to
no_shard = refl

session_64 : read_text (codes "weaver 1 1 1\ntx t1 64 0\n") ≡ refused 2 causes.Session
unfolding refused number_up_to
session_64 = refl

two_words_too_few : read_text (codes "weaver 1 1 1\ntx t1 0 0\nset v k\n") ≡ refused 3 causes.Line
unfolding refused number_up_to
two_words_too_few = refl

no_end : read_text (codes "weaver 1 1 1\ntx t1 0 0\ncreate v\n") ≡ refused 4 causes.End
unfolding refused number_up_to
no_end = refl

no_such_request : read_text (codes "weaver 1 1 1\nsteps\nbegin t1\n") ≡ refused 3 causes.Request
unfolding refused number_up_to
no_such_request = refl

no_name_of_a_request : read_text (codes "weaver 1 1 1\nsteps\nbegin T\n") ≡ refused 3 causes.Name
unfolding refused number_up_to
no_name_of_a_request = refl

taken : read_text (codes "weaver 1 1 1\ntx t 0 0\nend\nprog t 0 0 show v\n") ≡ refused 4 causes.Taken
unfolding refused number_up_to
taken = refl

bound_1001 : read_text (codes "weaver 1 1 1\nprog p 0 0 around a 1001\n") ≡ refused 2 causes.Bound
unfolding refused number_up_to
bound_1001 = refl

form_before_fields : read_text (codes "weaver 1 1 1\nprog P 64 0 foo a\n") ≡ refused 2 causes.Line
unfolding refused number_up_to
form_before_fields = refl

where_in_its_place : read_text (codes "weaver 1 1 1\nprog P 64 0 reach a b wher k x\n") ≡ refused 2 causes.Line
unfolding refused number_up_to
where_in_its_place = refl

gatekeeper_1_of_1 : read_text (codes "weaver 1 1 1\ntx t 0 1\n") ≡ refused 2 causes.Gatekeeper
unfolding refused number_up_to
gatekeeper_1_of_1 = refl

leading_zero : read_text (codes "weaver 1 1 1\ntx t 00 0\n") ≡ refused 2 causes.Number
unfolding refused number_up_to
leading_zero = refl

two_spaces : read_text (codes "weaver 1 1 1\ntx t 0  0\n") ≡ refused 2 causes.Line
unfolding refused number_up_to
two_spaces = refl

report_where_a_step_may_stand : read_text (codes "weaver 1 1 1\nsteps\nreport 1\n") ≡ refused 3 causes.Line
unfolding refused number_up_to
report_where_a_step_may_stand = refl

-- a text of a transaction, a phase, a program and a step, with lines that are skipped
small : Script
small = record {
  gates = 1;
  shards = 2;
  requests =
      record { name = codes "t"; session = 0; gate = 0; work = Change (Link (codes "v") (codes "e") (codes "w") ∷ Get (codes "v") ∷ []) }
      ∷ record { name = codes "p"; session = 63; gate = 0; work = Look (Path (codes "v") (codes "w") 1000 (Some (record { key = codes "k"; value = codes "x" }))) }
      ∷ [];
  phases = 0 ∷ 1 ∷ [];
  steps = Some (Begin 1 ∷ Deliver 0 1 12 ∷ []);
}

small_text : read_text (codes "\n# small\nweaver 1 1 2\nphase\ntx t 0 0\nlink v e w\n\nget v\nend\nphase\nprog p 63 0 path v w 1000 where k x\nsteps\nbegin p\ndeliver 0 1 12") ≡ Ok small
unfolding small number_up_to
small_text = refl

-- there is no version 3
third_version : read_text (codes "weaver 3 1 1\n") ≡ refused 1 causes.Header
unfolding refused number_up_to
third_version = refl

-- a transaction with a link, as a value
linking : Op → Script
linking op = record {
  gates = 1;
  shards = 1;
  requests = record { name = codes "t"; session = 0; gate = 0; work = Change (op ∷ []) } ∷ [];
  phases = [];
  steps = None;
}

-- in version 1 it is a link, in version 2 a join
link_in_1 : read_text (codes "weaver 1 1 1\ntx t 0 0\nlink v e w\nend\n") ≡ Ok (linking (Link (codes "v") (codes "e") (codes "w")))
unfolding linking number_up_to
link_in_1 = refl

link_in_2 : read_text (codes "weaver 2 1 1\ntx t 0 0\nlink v e w\nend\n") ≡ Ok (linking (Join (codes "v") (codes "e") (codes "w")))
unfolding linking number_up_to
link_in_2 = refl

-- without it the two versions are one script
one_script : read_text (codes "weaver 2 1 1\ntx t 0 0\nget v\nend\n") ≡ read_text (codes "weaver 1 1 1\ntx t 0 0\nget v\nend\n")
unfolding number_up_to
one_script = refl

-- it is printed with the header of version 2 exactly if it has a join
join_printed : script_text (linking (Join (codes "v") (codes "e") (codes "w"))) ≡ codes "weaver 2 1 1\ntx t 0 0\nlink v e w\nend\n"
unfolding linking digits
join_printed = refl

link_printed : script_text (linking (Link (codes "v") (codes "e") (codes "w"))) ≡ codes "weaver 1 1 1\ntx t 0 0\nlink v e w\nend\n"
unfolding linking digits
link_printed = refl
