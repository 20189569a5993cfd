-- The lines of a script have clean words.
-- Used by `operations_come_back`, `printed_checks_come_back` and `printed_scripts_come_back`.
use Rattle.std.proofs.Common.{◌≡◌, ℕ, ◌+◌, ◌≤◌, ◌<◌, ◌^◌, Bool, true, false, List, [], ◌∷◌, ◌++◌, map, Option, Some, None, refl, arith}
use Rattle.std.specs.Prelude.{IsTrue, length}
use Rattle.std.specs.Fmt.{decimal}
use Rattle.std.specs.List.{AllByRecursion, list_all}
use Rattle.std.proofs.lemmas.Bool.{and_from}
use Rattle.weave_data.proofs.Lists.{all-append, all-map, list_all-from}
use Rattle.weave_data.specs.Names.{is_name}
use Rattle.graph_ops.specs.Operations.{op_fields, op_word}
use Rattle.graph_ops.specs.declared.op.Op.{Op}
use Rattle.graph_ops.proofs.EachOp.{word-is-name}
use Rattle.program_defs.specs.declared.program.Filter.{Filter}
use Rattle.program_defs.specs.declared.program.Program.{Program}
use Rattle.program_defs.specs.declared.program.Program.TheVariants.{Show, Reach, Around, Path, Price}
use Rattle.program_defs.specs.declared.script.Request.{Request}
use Rattle.program_defs.specs.declared.script.Script.{Script}
use Rattle.program_defs.specs.declared.script.Step.{Step}
use Rattle.program_defs.specs.declared.script.Step.TheVariants.{Begin, Judge, Send, Say, Hear, Nop, Deliver, Apply, Visit, Reply, Collect, Epoch, Restart}
use Rattle.program_defs.specs.declared.script.Work.{Work}
use Rattle.program_defs.specs.declared.script.Work.TheVariants.{Change, Look}
use Rattle.weave_text.specs.Cutting.{is_clean, is_clean_line}
use Rattle.weave_text.specs.Lines.{Word, Line}
use Rattle.weave_text.proofs.Clean.{name_is_kept}
use Rattle.weave_script.specs.ScriptLines.{op_line, end_line, filter_words, program_words, work_lines, request_lines, phase_lines, due_phases, later_phases, item_lines, step_line, steps_lines, script_lines, has_joins, version_word, name_of_request}
use Rattle.weave_script.specs.Scripts.{IsName, IsOperation, IsFilter, IsProgram, IsWork, IsRequest, IsStep, IsScript, steps_of}
use Rattle.weave_script.proofs.Places.{request_is_named}

-- names and numbers of 64 bits are clean words
pub record CleanLaws : Type 0 where
  pub name : (word : Word) → IsTrue (is_name word) → IsTrue (is_clean word)
  pub number : (n : ℕ) → n < 2 ^ 64 → IsTrue (is_clean (decimal n))

abbrev IsClean : Word → Type 0
IsClean word = is_clean word ≡ true

abbrev pub IsCleanLine : Line → Type 0
IsCleanLine line = is_clean_line line ≡ true

words_clean : (words : List Word) → AllByRecursion IsClean words → list_all is_clean words ≡ true
words_clean words h = list_all-from is_clean words h

module _ (laws : CleanLaws) where
  name : (word : Word) → IsName word → IsClean word
  name word h = laws.name word h

  small : (n most : ℕ) → n ≤ most → most ≤ 1000000 → IsClean (decimal n)
  small n most h k = laws.number n (omega arith)

  -- an operation is written in words without a mark that ends a line
  pub op_clean : (op : Op) → IsOperation op → IsCleanLine (op_line op)
  op_clean op h =
      let word = word-is-name op in
      and_from _ _ (name_is_kept (op_word op) word) (words_clean (op_line op) (name (op_word op) word, all-map IsName IsClean name (op_fields op) h))

  ops_clean : (ops : List Op) → AllByRecursion IsOperation ops → AllByRecursion IsCleanLine (map op_line ops)
  ops_clean [] h = tt
  ops_clean (op ∷ ops) h = (op_clean op h.0, ops_clean ops h.1)

  filter_clean : (pass : Option Filter) → IsFilter pass → AllByRecursion IsClean (filter_words pass)
  filter_clean None h = tt
  filter_clean (Some filter) h = (refl, (name filter.key h.0, (name filter.value h.1, tt)))

  program_clean : (program : Program) → IsProgram program → AllByRecursion IsClean (program_words program)
  program_clean (Show v) h = (refl, (name v h, tt))
  program_clean (Reach from to pass) h = (refl, (name from h.0, (name to h.1, filter_clean pass h.2)))
  program_clean (Around from bound pass) h = (refl, (name from h.0, (small bound 1000 h.1 (omega arith), filter_clean pass h.2)))
  program_clean (Path from to bound pass) h = (refl, (name from h.0, (name to h.1, (small bound 1000 h.2 (omega arith), filter_clean pass h.3))))
  program_clean (Price from to key) h = (refl, (name from h.0, (name to h.1, (name key h.2, tt))))

  work_clean : (gates : ℕ) → gates ≤ 8 → (request : Request) (work : Work) → IsRequest gates request → IsWork work → AllByRecursion IsCleanLine (work_lines request.name request.session request.gate work)
  work_clean gates few request work is h = go work h
    where
      session : is_clean (decimal request.session) ≡ true
      session = small request.session 63 is.session (omega arith)

      gate : is_clean (decimal request.gate) ≡ true
      gate = laws.number request.gate (omega (arith, is.gate))

      go : (work : Work) → IsWork work → AllByRecursion IsCleanLine (work_lines request.name request.session request.gate work)
      go (Change ops) h = (
        words_clean (request.name ∷ decimal request.session ∷ decimal request.gate ∷ []) (name request.name is.name, (session, (gate, tt))),
        all-append IsCleanLine (map op_line ops) (end_line ∷ []) (ops_clean ops h.0) (refl, tt),
      )
      go (Look program) h =
          (words_clean (request.name ∷ decimal request.session ∷ decimal request.gate ∷ program_words program) (name request.name is.name, (session, (gate, program_clean program h))), tt)

  phases_clean : (phases : List ℕ) → AllByRecursion IsCleanLine (phase_lines phases)
  phases_clean [] = tt
  phases_clean (phase ∷ phases) = (refl, phases_clean phases)

  items_clean : (gates : ℕ) → gates ≤ 8 → (n : ℕ) (requests : List Request) (phases : List ℕ) → AllByRecursion (IsRequest gates) requests → AllByRecursion IsCleanLine (item_lines n requests phases)
  items_clean gates few n [] phases h = phases_clean phases
  items_clean gates few n (request ∷ requests) phases h =
      all-append IsCleanLine (phase_lines (due_phases n phases) ++ request_lines request) (item_lines (n + 1) requests (later_phases n phases))
      (all-append IsCleanLine (phase_lines (due_phases n phases)) (request_lines request) (phases_clean (due_phases n phases)) (work_clean gates few request request.work h.0 h.0.work))
      (items_clean gates few (n + 1) requests (later_phases n phases) h.1)

  step_clean : (gates shards : ℕ) (requests : List Request) → gates ≤ 8 → shards ≤ 16 → AllByRecursion (IsRequest gates) requests → (step : Step) → IsStep gates shards (length requests) step → IsCleanLine (step_line requests step)
  step_clean gates shards requests few few_shards all step h = go step h
    where
      gate : (n : ℕ) → n < gates → is_clean (decimal n) ≡ true
      gate n k = laws.number n (omega arith)

      shard : (n : ℕ) → n < shards → is_clean (decimal n) ≡ true
      shard n k = laws.number n (omega arith)

      named : (n : ℕ) → n < length requests → is_clean (name_of_request requests n) ≡ true
      named n k = name (name_of_request requests n) (request_is_named gates requests n all k)

      go : (step : Step) → IsStep gates shards (length requests) step → IsCleanLine (step_line requests step)
      go (Begin request) h = words_clean (name_of_request requests request ∷ []) (named request h, tt)
      go (Judge n) h = words_clean (decimal n ∷ []) (gate n h, tt)
      go (Send n) h = words_clean (decimal n ∷ []) (gate n h, tt)
      go (Say n) h = words_clean (decimal n ∷ []) (gate n h, tt)
      go (Hear n notice) h = words_clean (decimal n ∷ decimal notice ∷ []) (gate n h.0, (small notice 100000 h.1.1 (omega arith), tt))
      go (Nop n m) h = words_clean (decimal n ∷ decimal m ∷ []) (gate n h.0, (shard m h.1, tt))
      go (Deliver n m number) h = words_clean (decimal n ∷ decimal m ∷ decimal number ∷ []) (gate n h.0, (shard m h.1, (small number 100000 h.2.1 (omega arith), tt)))
      go (Apply m n) h = words_clean (decimal m ∷ decimal n ∷ []) (shard m h.0, (gate n h.1, tt))
      go (Visit request) h = words_clean (name_of_request requests request ∷ []) (named request h, tt)
      go (Reply request) h = words_clean (name_of_request requests request ∷ []) (named request h, tt)
      go (Collect m) h = words_clean (decimal m ∷ []) (shard m h, tt)
      go (Epoch n epoch) h = words_clean (decimal n ∷ decimal epoch ∷ []) (gate n h.0, (small epoch 1000000 h.2 (omega arith), tt))
      go (Restart n epoch) h = words_clean (decimal n ∷ decimal epoch ∷ []) (gate n h.0, (small epoch 1000000 h.2 (omega arith), tt))

  each_step_clean : (gates shards : ℕ) (requests : List Request) → gates ≤ 8 → shards ≤ 16 → AllByRecursion (IsRequest gates) requests → (steps : List Step)
      → AllByRecursion (IsStep gates shards (length requests)) steps → AllByRecursion IsCleanLine (map (step_line requests) steps)
  each_step_clean gates shards requests few few_shards all [] h = tt
  each_step_clean gates shards requests few few_shards all (step ∷ steps) h =
      (step_clean gates shards requests few few_shards all step h.0, each_step_clean gates shards requests few few_shards all steps h.1)

  steps_clean : (gates shards : ℕ) (requests : List Request) → gates ≤ 8 → shards ≤ 16 → AllByRecursion (IsRequest gates) requests → (steps : Option (List Step))
      → AllByRecursion (IsStep gates shards (length requests)) (steps_of steps) → AllByRecursion IsCleanLine (steps_lines requests steps)
  steps_clean gates shards requests few few_shards all None h = tt
  steps_clean gates shards requests few few_shards all (Some steps) h = (refl, each_step_clean gates shards requests few few_shards all steps h)

  version_clean : (joins : Bool) → IsClean (version_word joins)
  version_clean true = refl
  version_clean false = refl

  -- every line of a script is clean
  pub script_is_clean : (script : Script) → IsScript script → IsTrue (list_all is_clean_line (script_lines script))
  script_is_clean script h =
      list_all-from is_clean_line (script_lines script) (
        words_clean (version_word (has_joins script.requests) ∷ decimal script.gates ∷ decimal script.shards ∷ []) (version_clean (has_joins script.requests), (small script.gates 8 h.gates.1 (omega arith), (small script.shards 16 h.shards.1 (omega arith), tt))),
        all-append IsCleanLine (item_lines 0 script.requests script.phases) (steps_lines script.requests script.steps) (items_clean script.gates h.gates.1 0 script.requests script.phases h.requests)
            (steps_clean script.gates script.shards script.requests h.gates.1 h.shards.1 h.requests script.steps h.steps),
      )
