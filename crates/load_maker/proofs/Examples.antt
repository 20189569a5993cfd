-- Worked rows: the scripts of one request that a few words give.
-- Used by nothing: worked examples.
use Rattle.std.proofs.Common.{◌≡◌, ℕ, zero, suc, List, [], ◌∷◌, Some, None, refl}
use Rattle.std.specs.Prelude.{codes}
use Rattle.graph_ops.specs.declared.op.Op.TheVariants.{Create, Set, Tag, Unlink}
use Rattle.program_defs.specs.declared.program.Program.TheVariants.{Path}
use Rattle.program_defs.specs.declared.script.Step.TheVariants.{Begin, Judge, Send, Say, Hear, Deliver, Apply, Reply}
use Rattle.program_defs.specs.declared.script.Work.TheVariants.{Change, Look}
use Rattle.program_defs.specs.declared.script.Script.{Script}
use Rattle.load_maker.specs.Words.{Words, drawn_list}
use Rattle.load_maker.specs.Generated.{numbered_name, operation_of, operation_of_form, drawn_program, program_of_form, request_numbered, script_from, drawn_step, step_of_form, work_of_kind}

-- these words, and then zeros
abbrev in_order : List ℕ → Words
in_order [] i = 0
in_order (w ∷ ws) zero = w
in_order (w ∷ ws) (suc i) = in_order ws i

a_program : script_from 1 (in_order (17 ∷ 5 ∷ 20 ∷ 3 ∷ 41 ∷ 2 ∷ 9 ∷ 11 ∷ 7 ∷ 15 ∷ 4 ∷ 8 ∷ 27 ∷ 3 ∷ 6 ∷ 39 ∷ 38 ∷ 7 ∷ 1 ∷ []))
    ≡ record {
      gates = 3;
      shards = 4;
      requests = record { name = numbered_name (codes "r") 0; session = 5; gate = 2; work = Look (Path (numbered_name (codes "v") 1) (numbered_name (codes "v") 2) 4 None) } ∷ [];
      phases = [];
      steps = Some (Begin 0 ∷ Hear 1 1 ∷ Deliver 0 2 20 ∷ Apply 3 1 ∷ []);
    }
unfolding script_from drawn_list request_numbered work_of_kind drawn_program program_of_form drawn_step step_of_form
a_program = refl

-- the script of one transaction
abbrev one_transaction : Script
one_transaction = record {
  gates = 3;
  shards = 4;
  requests = record {
    name = numbered_name (codes "r") 0;
    session = 0;
    gate = 1;
    work = Change (Set (numbered_name (codes "v") 0) (numbered_name (codes "k") 2) (numbered_name (codes "x") 2) ∷ Tag (numbered_name (codes "v") 39) (numbered_name (codes "e") 1) (numbered_name (codes "k") 3) (numbered_name (codes "x") 9) ∷ Create (numbered_name (codes "v") 21) ∷ Unlink (numbered_name (codes "v") 0) (numbered_name (codes "e") 5) ∷ []);
  } ∷ [];
  phases = [];
  steps = Some (Judge 2 ∷ Send 0 ∷ Say 1 ∷ Reply 0 ∷ []);
}

a_transaction : script_from 1 (in_order (6 ∷ 4 ∷ 13 ∷ 7 ∷ 80 ∷ 11 ∷ 6 ∷ 12 ∷ 39 ∷ 6 ∷ 7 ∷ 3 ∷ 9 ∷ 21 ∷ 8 ∷ 40 ∷ 15 ∷ 11 ∷ 2 ∷ 5 ∷ 13 ∷ 3 ∷ 24 ∷ 4 ∷ 9 ∷ 9 ∷ []))
    ≡ one_transaction
unfolding script_from drawn_list request_numbered work_of_kind operation_of operation_of_form drawn_step step_of_form
a_transaction = refl
