-- Reading is sound: lines that are read to the end give a valid script, and are its printed lines.
-- Used by CheckLaws, CheckReading, CheckTold, HeadTexts, ReadAgain and TextLaws.
use Rattle.std.proofs.Common.{◌≡◌, ℕ, ◌≤◌, Bool, true, cond, List, [], ◌∷◌, ◌++◌, map, length, Option, Some, None, Ok, Err, refl, sym, ap, ◌∙◌, subst, append_assoc, arith}
use Rattle.std.specs.Prelude.{codes, is_some}
use Rattle.std.specs.List.{AllByRecursion, IsDistinct}
use Rattle.std.specs.Str.{bytes_eq}
use Rattle.std.proofs.lemmas.List.{append-nil, length_push, map-append}
use Rattle.weave_data.proofs.Lists.{all-push}
use Rattle.weave_data.specs.Names.{same_name}
use Rattle.weave_data.specs.declared.name.Name.{Name}
use Rattle.graph_ops.specs.declared.op.Op.{Op}
use Rattle.program_defs.specs.declared.script.Request.{Request}
use Rattle.program_defs.specs.declared.script.Script.{Script}
use Rattle.program_defs.specs.declared.script.Step.{Step}
use Rattle.program_defs.specs.declared.script.Work.TheVariants.{Change, Look}
use Rattle.weave_text.specs.Lines.{Word, Line}
use Rattle.weave_script.specs.declared.fault.Cause.{Cause}
use Rattle.weave_script.specs.declared.fault.Cause.TheVariants as causes
use Rattle.weave_script.specs.declared.read.header.Header.{Header}
use Rattle.weave_script.specs.declared.read.partial_script.Opening.{Opening}
use Rattle.weave_script.specs.declared.read.partial_script.Place.{Place}
use Rattle.weave_script.specs.declared.read.partial_script.Place.TheVariants.{Start, Between, Inside, Behind}
use Rattle.weave_script.specs.declared.read.partial_script.Reading.{Reading}
use Rattle.weave_data.specs.Steps.{◌>>=◌}
use Rattle.weave_script.specs.Fields.{ReadOrCause}
use Rattle.weave_script.specs.Header.{header_of}
use Rattle.weave_script.specs.Limits.{over_limit}
use Rattle.weave_script.specs.Ops.{op_in_line}
use Rattle.weave_script.specs.ReadText.{script_at, script_with}
use Rattle.weave_script.specs.Reading.{counts_so_far, unless_taken, after_tx, after_prog, after_phase, after_steps, after_item, after_header, after_line_inside, after_step, after_line_at, unless_met, within_limits, after_line}
use Rattle.weave_script.specs.Requests.{request_of, tx_of, prog_of}
use Rattle.weave_script.specs.ScriptLines.{header_line, op_line, opening_line, end_line, request_lines, phase_line, item_lines, step_line, steps_line, script_lines_in}
use Rattle.weave_script.specs.Scripts.{IsOfVersion, IsOperation, IsRequest, IsRequestOf, IsStep, RiseTo, IsScript, request_names}
use Rattle.weave_script.specs.Steps.{place_of, step_of}
use Rattle.weave_data.proofs.Steps.{bind_ok, ok_is}
use Rattle.weave_report.proofs.ReadSteps.{is_word}
use Rattle.weave_script.proofs.Binds.{pick}
use Rattle.weave_script.proofs.FieldLaws.{NumberLaws}
use Rattle.weave_script.proofs.HeaderLaws.{AreSizes, header_of-ok}
use Rattle.weave_script.proofs.Items.{item_lines-push_request, item_lines-push_phase}
use Rattle.weave_script.proofs.LimitLaws.{within-few}
use Rattle.weave_script.proofs.OpLaws.{op_in_line-ok, is_end-ok}
use Rattle.weave_script.proofs.Phases.{rising-at_most, rise_further, rise-push}
use Rattle.weave_script.proofs.Places.{IsFree, free-from_place_of, distinct-push}
use Rattle.weave_script.proofs.RequestLaws.{IsOpening, tx_of-ok, prog_of-ok}
use Rattle.weave_script.proofs.StepLaws.{step_of-ok}

-- the reading of a script at this place, with what was read so far
abbrev pub at : Bool → ℕ → ℕ → List Request → List ℕ → Place → Reading
at joins gates shards requests phases place = record { joins = joins; gates = gates; shards = shards; requests = requests; phases = phases; place = place }

-- its header, requests and phases are those of a script
pub record AreGood (j : Bool) (n m : ℕ) (requests : List Request) (phases : List ℕ) : Type 0 where
  pub sizes : AreSizes n m
  pub each : AllByRecursion (IsRequest n) requests
  pub version : AllByRecursion (IsRequestOf j) requests
  pub distinct : IsDistinct same_name (request_names requests)
  pub rising : RiseTo 0 (length requests) phases

-- a transaction has begun, with these operations so far
pub record IsOpen (j : Bool) (n : ℕ) (requests : List Request) (opening : Opening) (ops : List Op) : Type 0 where
  pub opened : IsOpening n opening
  pub free : IsFree opening.name requests
  pub each : AllByRecursion IsOperation ops
  pub version : AllByRecursion (IsOfVersion j) ops

-- the script so far can become one
abbrev pub IsGood : Bool → ℕ → ℕ → List Request → List ℕ → Place → Type 0
IsGood j n m requests phases Start = (n ≡ 0) × (m ≡ 0) × (requests ≡ []) × (phases ≡ [])
IsGood j n m requests phases Between = AreGood j n m requests phases
IsGood j n m requests phases (Inside opening ops) = AreGood j n m requests phases × IsOpen j n requests opening ops
IsGood j n m requests phases (Behind steps) = AreGood j n m requests phases × AllByRecursion (IsStep n m (length requests)) steps

-- the lines of all that is before the place
abbrev pub front_lines : Bool → ℕ → ℕ → List Request → List ℕ → List Line
front_lines j n m requests phases = header_line j n m ∷ item_lines 0 requests phases

-- the lines of the script so far
abbrev pub lines_so_far : Bool → ℕ → ℕ → List Request → List ℕ → Place → List Line
lines_so_far j n m requests phases Start = []
lines_so_far j n m requests phases Between = front_lines j n m requests phases
lines_so_far j n m requests phases (Inside opening ops) = front_lines j n m requests phases ++ opening_line opening.name opening.session opening.gate ∷ map op_line ops
lines_so_far j n m requests phases (Behind steps) = front_lines j n m requests phases ++ steps_line ∷ map (step_line requests) steps

-- the reading is one of a valid script so far
abbrev pub IsGoodReading : Reading → Type 0
IsGoodReading reading = IsGood reading.joins reading.gates reading.shards reading.requests reading.phases reading.place

-- the lines of a reading
abbrev pub lines_of_reading : Reading → List Line
lines_of_reading reading = lines_so_far reading.joins reading.gates reading.shards reading.requests reading.phases reading.place

-- these lines and one more led to the next reading
pub record Leads (lines : List Line) (line : Line) (next : Reading) : Type 0 where
  pub good : IsGoodReading next
  pub told : lines_of_reading next ≡ lines ++ line ∷ []

free_name : {A : Type 0} (name : Name) (requests : List Request) (value next : A) → unless_taken name requests value ≡ Ok next → IsFree name requests × (value ≡ next)
free_name name requests value next e = go (place_of name requests) refl e
  where
    go : (found : Option ℕ) → place_of name requests ≡ found → cond (is_some found) (Err causes.Taken) (Ok value) ≡ Ok next → IsFree name requests × (value ≡ next)
    go None h e = (free-from_place_of name requests h, ok_is {E = Cause} value next e)
    go (Some n) h e = absurd cc

-- one more request
request_good : (j : Bool) (n m : ℕ) (requests : List Request) (phases : List ℕ) (request : Request) → AreGood j n m requests phases → IsRequest n request → IsRequestOf j request → IsFree request.name requests
    → AreGood j n m (requests ++ request ∷ []) phases × (front_lines j n m (requests ++ request ∷ []) phases ≡ front_lines j n m requests phases ++ request_lines request)
request_good j n m requests phases request good is of free = (
  record {
    sizes = good.sizes;
    each = all-push (IsRequest n) requests request good.each is;
    version = all-push (IsRequestOf j) requests request good.version of;
    distinct = distinct-push requests request good.distinct free;
    rising = rise_further 0 (length requests) (length (requests ++ request ∷ [])) phases (omega (arith, length_push requests request)) good.rising;
  },
  ap (λ lines. header_line j n m ∷ lines) (item_lines-push_request 0 (length requests) requests request phases (omega arith) (rising-at_most 0 (length requests) phases good.rising)),
)

-- after the header
none_good : (j : Bool) (n m : ℕ) → AreSizes n m → AreGood j n m [] []
unfolding IsDistinct
none_good j n m sizes = record { sizes = sizes; each = tt; version = tt; distinct = tt; rising = tt }

-- the reading after all of these lines, or the cause at the first that is refused
abbrev pub after_lines : Reading → List Line → ReadOrCause Reading
after_lines reading [] = Ok reading
after_lines reading (line ∷ lines) = after_line reading line >>= λ next. after_lines next lines

kept : (reading next : Reading) → within_limits reading ≡ Ok next → (over_limit (counts_so_far next) ≡ None) × (reading ≡ next)
kept reading next e = go (over_limit (counts_so_far reading)) refl e
  where
    go : (found : Option Cause) → over_limit (counts_so_far reading) ≡ found → unless_met reading found ≡ Ok next → (over_limit (counts_so_far next) ≡ None) × (reading ≡ next)
    go None h e =
        let same : reading ≡ next = ok_is {E = Cause} reading next e in
        (subst (λ r. over_limit (counts_so_far r) ≡ None) same h, same)
    go (Some cause) h e = absurd cc

-- the script so far is good and has these lines
pub record Led (lines : List Line) (last : Reading) : Type 0 where
  pub good : IsGoodReading last
  pub within : over_limit (counts_so_far last) ≡ None
  pub told : lines_of_reading last ≡ lines

module _ (laws : NumberLaws) where
  header_leads : (j : Bool) (n m : ℕ) (requests : List Request) (phases : List ℕ) (line : Line) (next : Reading) → IsGood j n m requests phases Start
      → after_header (at j n m requests phases Start) line ≡ Ok next → Leads [] line next
  header_leads j n m requests phases line next good e =
      let step = bind_ok (header_of line) (λ header. Ok (at header.joins header.gates header.shards requests phases Between)) next e in
      let h : Header = step.0 in
      let header = header_of-ok laws line h step.1 in
      subst (Leads [] line) (ok_is {E = Cause} (at h.joins h.gates h.shards requests phases Between) next step.2)
      (subst (λ rs. Leads [] line (at h.joins h.gates h.shards rs phases Between)) (sym good.2)
      (subst (λ ps. Leads [] line (at h.joins h.gates h.shards [] ps Between)) (sym good.3)
      (record { good = none_good h.joins h.gates h.shards header.0; told = ap (λ line. line ∷ []) (sym header.1) })))

  tx_leads : (j : Bool) (n m : ℕ) (requests : List Request) (phases : List ℕ) (words : Line) (next : Reading) → AreGood j n m requests phases
      → after_tx (at j n m requests phases Between) words ≡ Ok next → Leads (front_lines j n m requests phases) (codes "tx" ∷ words) next
  tx_leads j n m requests phases words next good e =
      let step = bind_ok (tx_of n words) (λ opening. unless_taken opening.name requests (at j n m requests phases (Inside opening []))) next e in
      let opening = step.0 in
      let read = tx_of-ok laws n good.sizes.gates.0 good.sizes.gates.1 words opening step.1 in
      let free = free_name opening.name requests (at j n m requests phases (Inside opening [])) next step.2 in
      subst (Leads (front_lines j n m requests phases) (codes "tx" ∷ words)) free.1 (record {
        good = (good, record { opened = read.0; free = free.0; each = tt; version = tt });
        told = ap (λ words. front_lines j n m requests phases ++ (codes "tx" ∷ words) ∷ []) (sym read.1);
      })

  prog_leads : (j : Bool) (n m : ℕ) (requests : List Request) (phases : List ℕ) (words : Line) (next : Reading) → AreGood j n m requests phases
      → after_prog (at j n m requests phases Between) words ≡ Ok next → Leads (front_lines j n m requests phases) (codes "prog" ∷ words) next
  prog_leads j n m requests phases words next good e =
      let step = bind_ok (prog_of n words) (λ prog. unless_taken prog.0.name requests (at j n m (requests ++ request_of prog.0 (Look prog.1) ∷ []) phases Between)) next e in
      let opening = step.0.0 in
      let program = step.0.1 in
      let request = request_of opening (Look program) in
      let read = prog_of-ok laws n good.sizes.gates.0 good.sizes.gates.1 words opening program step.1 in
      let free = free_name opening.name requests (at j n m (requests ++ request ∷ []) phases Between) next step.2 in
      let more = request_good j n m requests phases request good (record { name = read.0.name; session = read.0.session; gate = read.0.gate; work = read.1 }) tt free.0 in
      subst (Leads (front_lines j n m requests phases) (codes "prog" ∷ words)) free.1 (record {
        good = more.0;
        told = more.1 ∙ ap (λ words. front_lines j n m requests phases ++ (codes "prog" ∷ words) ∷ []) (sym read.2);
      })

  phase_leads : (j : Bool) (n m : ℕ) (requests : List Request) (phases : List ℕ) (words : Line) (next : Reading) → AreGood j n m requests phases
      → after_phase (at j n m requests phases Between) words ≡ Ok next → Leads (front_lines j n m requests phases) (codes "phase" ∷ words) next
  phase_leads j n m requests phases [] next good e =
      subst (Leads (front_lines j n m requests phases) phase_line) (ok_is {E = Cause} (at j n m requests (phases ++ length requests ∷ []) Between) next e) (record {
        good = record { sizes = good.sizes; each = good.each; version = good.version; distinct = good.distinct; rising = rise-push 0 (length requests) phases (omega arith) good.rising };
        told = ap (λ lines. header_line j n m ∷ lines) (item_lines-push_phase 0 requests phases (length requests) (omega arith));
      })
  phase_leads j n m requests phases (word ∷ words) next good e = absurd cc

  steps_leads : (j : Bool) (n m : ℕ) (requests : List Request) (phases : List ℕ) (words : Line) (next : Reading) → AreGood j n m requests phases
      → after_steps (at j n m requests phases Between) words ≡ Ok next → Leads (front_lines j n m requests phases) (codes "steps" ∷ words) next
  steps_leads j n m requests phases [] next good e =
      subst (Leads (front_lines j n m requests phases) steps_line) (ok_is {E = Cause} (at j n m requests phases (Behind [])) next e) (record { good = (good, tt); told = refl })
  steps_leads j n m requests phases (word ∷ words) next good e = absurd cc

  item_leads : (j : Bool) (n m : ℕ) (requests : List Request) (phases : List ℕ) (line : Line) (next : Reading) → AreGood j n m requests phases
      → after_item (at j n m requests phases Between) line ≡ Ok next → Leads (front_lines j n m requests phases) line next
  item_leads j n m requests phases [] next good e = absurd cc
  item_leads j n m requests phases (word ∷ words) next good e =
      pick _ _ _ _ e (λ same e. by (codes "tx") same (tx_leads j n m requests phases words next good e)) (λ other e.
      pick _ _ _ _ e (λ same e. by (codes "prog") same (prog_leads j n m requests phases words next good e)) (λ other e.
      pick _ _ _ _ e (λ same e. by (codes "phase") same (phase_leads j n m requests phases words next good e)) (λ other e.
      pick _ _ _ _ e (λ same e. by (codes "steps") same (steps_leads j n m requests phases words next good e)) (λ other e. absurd cc))))
    where
      by : (text : Word) → bytes_eq word text ≡ true → Leads (front_lines j n m requests phases) (text ∷ words) next → Leads (front_lines j n m requests phases) (word ∷ words) next
      by text same leads = subst (λ word. Leads (front_lines j n m requests phases) (word ∷ words) next) (sym (is_word word text same)) leads

  -- the front and a transaction that has begun
  abbrev open_lines : Bool → ℕ → ℕ → List Request → List ℕ → Opening → List Op → List Line
  open_lines j n m requests phases opening ops = front_lines j n m requests phases ++ opening_line opening.name opening.session opening.gate ∷ map op_line ops

  end_leads : (j : Bool) (n m : ℕ) (requests : List Request) (phases : List ℕ) (opening : Opening) (ops : List Op) (line : Line) → AreGood j n m requests phases → IsOpen j n requests opening ops
      → length ops ≤ 64 → line ≡ end_line → Leads (open_lines j n m requests phases opening ops) line (at j n m (requests ++ request_of opening (Change ops) ∷ []) phases Between)
  end_leads j n m requests phases opening ops line good begun few same =
      let request = request_of opening (Change ops) in
      let more = request_good j n m requests phases request good (record { name = begun.opened.name; session = begun.opened.session; gate = begun.opened.gate; work = (begun.each, few) }) begun.version begun.free in
      let front = front_lines j n m requests phases in
      record {
        good = more.0;
        told = more.1 ∙ sym (append_assoc front (opening_line opening.name opening.session opening.gate ∷ map op_line ops) (end_line ∷ []))
            ∙ ap (λ line. open_lines j n m requests phases opening ops ++ line ∷ []) (sym same);
      }

  op_leads : (j : Bool) (n m : ℕ) (requests : List Request) (phases : List ℕ) (opening : Opening) (ops : List Op) (line : Line) (next : Reading) → AreGood j n m requests phases → IsOpen j n requests opening ops
      → (op_in_line j line >>= λ op. Ok (at j n m requests phases (Inside opening (ops ++ op ∷ [])))) ≡ Ok next → Leads (open_lines j n m requests phases opening ops) line next
  op_leads j n m requests phases opening ops line next good begun e =
      let step = bind_ok (op_in_line j line) (λ op. Ok (at j n m requests phases (Inside opening (ops ++ op ∷ [])))) next e in
      let read = op_in_line-ok j line step.0 step.1 in
      let front = front_lines j n m requests phases in
      let first = opening_line opening.name opening.session opening.gate in
      subst (Leads (open_lines j n m requests phases opening ops) line) (ok_is {E = Cause} (at j n m requests phases (Inside opening (ops ++ step.0 ∷ []))) next step.2) (record {
        good = (good, record { opened = begun.opened; free = begun.free; each = all-push IsOperation ops step.0 begun.each read.names; version = all-push (IsOfVersion j) ops step.0 begun.version read.version });
        told = ap (λ lines. front ++ first ∷ lines) (map-append op_line ops (step.0 ∷ []) ∙ ap (λ line. map op_line ops ++ line ∷ []) (sym read.line_is))
            ∙ sym (append_assoc front (first ∷ map op_line ops) (line ∷ []));
      })

  inside_leads : (j : Bool) (n m : ℕ) (requests : List Request) (phases : List ℕ) (opening : Opening) (ops : List Op) (line : Line) (next : Reading) → AreGood j n m requests phases → IsOpen j n requests opening ops
      → length ops ≤ 64 → after_line_inside (at j n m requests phases (Inside opening ops)) opening ops line ≡ Ok next → Leads (open_lines j n m requests phases opening ops) line next
  inside_leads j n m requests phases opening ops line next good begun few e =
      pick _ _ _ _ e
      (λ ends e. subst (Leads (open_lines j n m requests phases opening ops) line) (ok_is {E = Cause} (at j n m (requests ++ request_of opening (Change ops) ∷ []) phases Between) next e)
      (end_leads j n m requests phases opening ops line good begun few (is_end-ok line ends)))
      (λ goes_on e. op_leads j n m requests phases opening ops line next good begun e)

  step_leads : (j : Bool) (n m : ℕ) (requests : List Request) (phases : List ℕ) (steps : List Step) (line : Line) (next : Reading) → AreGood j n m requests phases → AllByRecursion (IsStep n m (length requests)) steps
      → after_step (at j n m requests phases (Behind steps)) steps line ≡ Ok next → Leads (front_lines j n m requests phases ++ steps_line ∷ map (step_line requests) steps) line next
  step_leads j n m requests phases steps line next good each e =
      let step = bind_ok (step_of n m (λ name. place_of name requests) line) (λ step. Ok (at j n m requests phases (Behind (steps ++ step ∷ [])))) next e in
      let read = step_of-ok laws n m good.sizes requests line step.0 step.1 in
      let front = front_lines j n m requests phases in
      subst (Leads (front ++ steps_line ∷ map (step_line requests) steps) line) (ok_is {E = Cause} (at j n m requests phases (Behind (steps ++ step.0 ∷ []))) next step.2) (record {
        good = (good, all-push (IsStep n m (length requests)) steps step.0 each read.0);
        told = ap (λ lines. front ++ steps_line ∷ lines) (map-append (step_line requests) steps (step.0 ∷ []) ∙ ap (λ line. map (step_line requests) steps ++ line ∷ []) (sym read.1))
            ∙ sym (append_assoc front (steps_line ∷ map (step_line requests) steps) (line ∷ []));
      })

  line_leads : (j : Bool) (n m : ℕ) (requests : List Request) (phases : List ℕ) (place : Place) (line : Line) (next : Reading) → IsGood j n m requests phases place
      → over_limit (counts_so_far (at j n m requests phases place)) ≡ None → after_line_at place (at j n m requests phases place) line ≡ Ok next → Leads (lines_so_far j n m requests phases place) line next
  line_leads j n m requests phases Start line next good within e = header_leads j n m requests phases line next good e
  line_leads j n m requests phases Between line next good within e = item_leads j n m requests phases line next good e
  line_leads j n m requests phases (Inside opening ops) line next good within e =
      inside_leads j n m requests phases opening ops line next good.0 good.1 (within-few (length ops) (requests ++ request_of opening (Change ops) ∷ []) 0 within).0 e
  line_leads j n m requests phases (Behind steps) line next good within e = step_leads j n m requests phases steps line next good.0 good.1 e

  -- ---- one line after another

  -- lines read on from a good reading within the limits lead to one such, of the lines so far and then these
  pub lines_lead : (reading : Reading) (lines : List Line) (last : Reading) → IsGoodReading reading → over_limit (counts_so_far reading) ≡ None → after_lines reading lines ≡ Ok last
      → Led (lines_of_reading reading ++ lines) last
  lines_lead reading [] last good within e =
      subst (Led (lines_of_reading reading ++ [])) (ok_is {E = Cause} reading last e) (record { good = good; within = within; told = sym (append-nil (lines_of_reading reading)) })
  lines_lead reading (line ∷ lines) last good within e =
      let step = bind_ok (after_line reading line) (λ next. after_lines next lines) last e in
      let one = bind_ok (after_line_at reading.place reading line) within_limits step.0 step.1 in
      let limits = kept one.0 step.0 one.2 in
      let leads : Leads (lines_of_reading reading) line step.0 = subst (Leads (lines_of_reading reading) line) limits.1
      (line_leads reading.joins reading.gates reading.shards reading.requests reading.phases reading.place line one.0 good within one.1) in
      let rest = lines_lead step.0 lines last leads.good limits.0 step.2 in
      record { good = rest.good; within = rest.within; told = rest.told ∙ ap (λ front. front ++ lines) leads.told ∙ append_assoc (lines_of_reading reading) (line ∷ []) lines }

-- what ends there is a script of these lines
pub script_reached : (last : Reading) (lines : List Line) (script : Script) → Led lines last → script_at last.place last ≡ Ok script → (is : IsScript script) × (lines ≡ script_lines_in is.joins script)
script_reached last lines script led e = go last.joins last.gates last.shards last.requests last.phases last.place led.good led.within led.told e
  where
    go : (j : Bool) (n m : ℕ) (requests : List Request) (phases : List ℕ) (place : Place) → IsGood j n m requests phases place → over_limit (counts_so_far (at j n m requests phases place)) ≡ None
        → lines_so_far j n m requests phases place ≡ lines → script_at place (at j n m requests phases place) ≡ Ok script → (is : IsScript script) × (lines ≡ script_lines_in is.joins script)
    go j n m requests phases Start good within told e = absurd cc
    go j n m requests phases Between good within told e =
        subst (λ script. (is : IsScript script) × (lines ≡ script_lines_in is.joins script)) (ok_is {E = Cause} (script_with None (at j n m requests phases Between)) script e) (
          record { gates = good.sizes.gates; shards = good.sizes.shards; requests = good.each; distinct = good.distinct; phases = good.rising; steps = tt; within = within; joins = j; version = good.version },
          sym told ∙ sym (append-nil (front_lines j n m requests phases)),
        )
    go j n m requests phases (Inside opening ops) good within told e = absurd cc
    go j n m requests phases (Behind steps) good within told e =
        subst (λ script. (is : IsScript script) × (lines ≡ script_lines_in is.joins script)) (ok_is {E = Cause} (script_with (Some steps) (at j n m requests phases (Behind steps))) script e) (
          record { gates = good.0.sizes.gates; shards = good.0.sizes.shards; requests = good.0.each; distinct = good.0.distinct; phases = good.0.rising; steps = good.1; within = within; joins = j; version = good.0.version },
          sym told,
        )
