-- The lines of a script are read as it.
-- Used by CheckLaws, CheckTold and TextLaws.
use Rattle.std.proofs.Common.{◌≡◌, ℕ, ◌+◌, ◌≤◌, Bool, List, [], ◌∷◌, ◌++◌, map, length, Option, Some, None, Ok, Err, refl, sym, ap, ◌∙◌, subst, append_assoc, arith}
use Rattle.std.specs.Prelude.{codes}
use Rattle.std.specs.Fmt.{decimal}
use Rattle.std.specs.List.{AllByRecursion, IsDistinct}
use Rattle.std.proofs.lemmas.Bool.{cond-false}
use Rattle.std.proofs.lemmas.List.{append-nil, length_push, length-append}
use Rattle.weave_data.specs.Names.{same_name}
use Rattle.graph_ops.specs.declared.op.Op.{Op}
use Rattle.program_defs.specs.declared.script.Request.{Request}
use Rattle.program_defs.specs.declared.script.Script.{Script}
use Rattle.program_defs.specs.declared.script.Step.{Step}
use Rattle.program_defs.specs.declared.script.Work.{Work}
use Rattle.program_defs.specs.declared.script.Work.TheVariants.{Change, Look}
use Rattle.program_defs.specs.Works.{ops_of}
use Rattle.weave_text.specs.Lines.{Line}
use Rattle.weave_script.specs.declared.read.partial_script.Opening.{Opening}
use Rattle.weave_script.specs.declared.read.partial_script.Place.{Place}
use Rattle.weave_script.specs.declared.read.partial_script.Place.TheVariants.{Start, Between, Inside, Behind}
use Rattle.weave_script.specs.declared.read.partial_script.Reading.{Reading}
use Rattle.weave_data.specs.Steps.{◌>>=◌}
use Rattle.weave_script.specs.Fields.{ReadOrCause}
use Rattle.weave_script.specs.Header.{header_of}
use Rattle.weave_script.specs.Limits.{over_limit}
use Rattle.weave_script.specs.Ops.{is_end, op_in_line}
use Rattle.weave_script.specs.ReadText.{script_at}
use Rattle.weave_script.specs.Reading.{start, counts_so_far, unless_taken, after_line_at, unless_met, within_limits, after_line}
use Rattle.weave_script.specs.Requests.{request_of, tx_of}
use Rattle.weave_script.specs.ScriptLines.{header_line, op_line, opening_line, end_line, program_words, work_lines, request_lines, phase_line, phase_lines, due_phases, later_phases, item_lines, step_line, steps_line, steps_lines, script_lines_in}
use Rattle.weave_script.specs.Scripts.{IsOfVersion, IsOperation, IsWork, IsRequest, IsRequestOf, IsStep, RiseTo, IsScript, request_names, steps_of}
use Rattle.weave_script.specs.Steps.{place_of, step_of}
use Rattle.weave_data.proofs.Steps.{bind_at}
use Rattle.weave_script.proofs.FieldLaws.{NumberLaws}
use Rattle.weave_script.proofs.HeaderLaws.{AreSizes, header_of-line}
use Rattle.weave_script.proofs.LimitLaws.{AreFew, within-few, few-within, front_few, front_ops_few}
use Rattle.weave_script.proofs.Lines.{unless_taken-free, after_prog-ok}
use Rattle.weave_script.proofs.OpLaws.{op_in_line-again}
use Rattle.weave_script.proofs.Phases.{due_rise, later_rise, due_and_later}
use Rattle.weave_script.proofs.Places.{IsFree, place_of-free, free_before}
use Rattle.weave_script.proofs.Reached.{at, after_lines}
use Rattle.weave_script.proofs.RequestLaws.{IsOpening, tx_of-words, prog_of-words}
use Rattle.weave_script.proofs.StepLaws.{step_of-line}

-- a line at its place, if no limit is met after it
line_again : (reading next : Reading) (line : Line) → after_line_at reading.place reading line ≡ Ok next → over_limit (counts_so_far next) ≡ None → after_line reading line ≡ Ok next
line_again reading next line e within = ap (λ read. read >>= within_limits) e ∙ ap (unless_met next) within

after_lines-append : (reading : Reading) (xs ys : List Line) → after_lines reading (xs ++ ys) ≡ (after_lines reading xs >>= λ next. after_lines next ys)
after_lines-append reading [] ys = refl
after_lines-append reading (x ∷ xs) ys = through (after_line reading x) (λ next. after_lines-append next xs ys)
  where
    through : (step : ReadOrCause Reading) → ((next : Reading) → after_lines next (xs ++ ys) ≡ (after_lines next xs >>= λ last. after_lines last ys))
        → (step >>= λ next. after_lines next (xs ++ ys)) ≡ ((step >>= λ next. after_lines next xs) >>= λ last. after_lines last ys)
    through (Ok next) each = each next
    through (Err cause) each = refl

-- some lines, and then others
pub lines_then : (reading next : Reading) (xs ys : List Line) → after_lines reading xs ≡ Ok next → after_lines reading (xs ++ ys) ≡ after_lines next ys
lines_then reading next xs ys e = after_lines-append reading xs ys ∙ bind_at (after_lines reading xs) (λ next. after_lines next ys) next e

-- one line, and then others
line_then : (reading next : Reading) (line : Line) (lines : List Line) → after_line_at reading.place reading line ≡ Ok next → over_limit (counts_so_far next) ≡ None
    → after_lines reading (line ∷ lines) ≡ after_lines next lines
line_then reading next line lines e within = bind_at (after_line reading line) (λ next. after_lines next lines) next (line_again reading next line e within)

between_within : (j : Bool) (n m : ℕ) (requests : List Request) (phases : List ℕ) → AreFew requests → over_limit (counts_so_far (at j n m requests phases Between)) ≡ None
between_within j n m requests phases few = few-within 0 requests 0 (omega arith) few (omega arith)

-- ---- phases

equal_numbers : (a b : ℕ) → a ≤ b → b ≤ a → a ≡ b
equal_numbers a b h k = omega arith

phases_again : (j : Bool) (n m : ℕ) (requests : List Request) (past phases : List ℕ) → AreFew requests → RiseTo (length requests) (length requests) phases
    → after_lines (at j n m requests past Between) (phase_lines phases) ≡ Ok (at j n m requests (past ++ phases) Between)
phases_again j n m requests past [] few h = ap (λ phases. Ok (at j n m requests phases Between)) (sym (append-nil past))
phases_again j n m requests past (phase ∷ phases) few h =
    let same : phase ≡ length requests = equal_numbers phase (length requests) h.1 h.0 in
    let next = at j n m requests (past ++ length requests ∷ []) Between in
    line_then (at j n m requests past Between) next phase_line (phase_lines phases) refl (between_within j n m requests (past ++ length requests ∷ []) few)
    ∙ phases_again j n m requests (past ++ length requests ∷ []) phases few (subst (λ low. RiseTo low (length requests) phases) same h.2)
    ∙ ap (λ phases. Ok (at j n m requests phases Between)) (append_assoc past (length requests ∷ []) phases ∙ ap (λ phase. past ++ phase ∷ phases) (sym same))

-- ---- transactions

op_again : (j : Bool) (n m : ℕ) (requests : List Request) (phases : List ℕ) (opening : Opening) (before : List Op) (op : Op) → IsOperation op → IsOfVersion j op
    → after_line_at (Inside opening before) (at j n m requests phases (Inside opening before)) (op_line op) ≡ Ok (at j n m requests phases (Inside opening (before ++ op ∷ [])))
op_again j n m requests phases opening before op h of =
    let read = op_in_line-again j op h of in
    cond-false (is_end (op_line op)) _ _ read.1
    ∙ bind_at (op_in_line j (op_line op)) (λ op. Ok (at j n m requests phases (Inside opening (before ++ op ∷ [])))) op read.0

ops_again : (j : Bool) (n m : ℕ) (requests : List Request) (phases : List ℕ) (opening : Opening) (before ops : List Op) → AllByRecursion IsOperation ops → AllByRecursion (IsOfVersion j) ops → length (before ++ ops) ≤ 64
    → AreFew (requests ++ request_of opening (Change (before ++ ops)) ∷ [])
    → after_lines (at j n m requests phases (Inside opening before)) (map op_line ops) ≡ Ok (at j n m requests phases (Inside opening (before ++ ops)))
ops_again j n m requests phases opening before [] h of small few = ap (λ ops. Ok (at j n m requests phases (Inside opening ops))) (sym (append-nil before))
ops_again j n m requests phases opening before (op ∷ ops) h of small few =
    let more = before ++ op ∷ [] in
    let same : more ++ ops ≡ before ++ op ∷ ops = append_assoc before (op ∷ []) ops in
    let small_more : length (more ++ ops) ≤ 64 = subst (λ ops. length ops ≤ 64) (sym same) small in
    let few_more : AreFew (requests ++ request_of opening (Change (more ++ ops)) ∷ []) = subst (λ ops. AreFew (requests ++ request_of opening (Change ops) ∷ [])) (sym same) few in
    let next = at j n m requests phases (Inside opening more) in
    let fits : length more ≤ 64 = omega (arith, length-append more ops, small_more) in
    line_then (at j n m requests phases (Inside opening before)) next (op_line op) (map op_line ops) (op_again j n m requests phases opening before op h.0 of.0)
    (few-within (length more) (requests ++ request_of opening (Change more) ∷ []) 0 fits (front_ops_few requests opening more ops few_more) (omega arith))
    ∙ ops_again j n m requests phases opening more ops h.1 of.1 small_more few_more
    ∙ ap (λ ops. Ok (at j n m requests phases (Inside opening ops))) same

module _ (laws : NumberLaws) where
  tx_again : (j : Bool) (n m : ℕ) (requests : List Request) (phases : List ℕ) (opening : Opening) → n ≤ 8 → IsOpening n opening → IsFree opening.name requests
      → after_line_at Between (at j n m requests phases Between) (opening_line opening.name opening.session opening.gate) ≡ Ok (at j n m requests phases (Inside opening []))
  tx_again j n m requests phases opening small h free =
      bind_at (tx_of n (opening.name ∷ decimal opening.session ∷ decimal opening.gate ∷ [])) (λ opening. unless_taken opening.name requests (at j n m requests phases (Inside opening []))) opening (tx_of-words laws n small opening h)
      ∙ unless_taken-free opening.name requests (at j n m requests phases (Inside opening [])) (place_of-free opening.name requests free)

  work_again : (j : Bool) (n m : ℕ) (requests : List Request) (phases : List ℕ) (opening : Opening) (work : Work) → n ≤ 8 → IsOpening n opening → IsFree opening.name requests → IsWork work → AllByRecursion (IsOfVersion j) (ops_of work)
      → AreFew (requests ++ request_of opening work ∷ [])
      → after_lines (at j n m requests phases Between) (work_lines opening.name opening.session opening.gate work) ≡ Ok (at j n m (requests ++ request_of opening work ∷ []) phases Between)
  work_again j n m requests phases opening (Change ops) small h free work of few =
      let begun = at j n m requests phases (Inside opening []) in
      let whole = at j n m requests phases (Inside opening ops) in
      let ended = at j n m (requests ++ request_of opening (Change ops) ∷ []) phases Between in
      line_then (at j n m requests phases Between) begun (opening_line opening.name opening.session opening.gate) (map op_line ops ++ end_line ∷ []) (tx_again j n m requests phases opening small h free)
      (few-within 0 (requests ++ request_of opening (Change []) ∷ []) 0 (omega arith) (front_ops_few requests opening [] ops few) (omega arith))
      ∙ lines_then begun whole (map op_line ops) (end_line ∷ []) (ops_again j n m requests phases opening [] ops work.0 of work.1 few)
      ∙ line_then whole ended end_line [] refl (between_within j n m (requests ++ request_of opening (Change ops) ∷ []) phases few)
  work_again j n m requests phases opening (Look program) small h free work of few =
      let next = at j n m (requests ++ request_of opening (Look program) ∷ []) phases Between in
      let words = opening.name ∷ decimal opening.session ∷ decimal opening.gate ∷ program_words program in
      line_then (at j n m requests phases Between) next (codes "prog" ∷ words) []
      (after_prog-ok (at j n m requests phases Between) words (opening, program) (prog_of-words laws n small opening program h work) (place_of-free opening.name requests free))
      (between_within j n m (requests ++ request_of opening (Look program) ∷ []) phases few)

  request_again : (j : Bool) (n m : ℕ) (requests : List Request) (phases : List ℕ) (request : Request) → n ≤ 8 → IsRequest n request → IsRequestOf j request → IsFree request.name requests → AreFew (requests ++ request ∷ [])
      → after_lines (at j n m requests phases Between) (request_lines request) ≡ Ok (at j n m (requests ++ request ∷ []) phases Between)
  request_again j n m requests phases request small h of free few =
      work_again j n m requests phases (record { name = request.name; session = request.session; gate = request.gate }) request.work small (record { name = h.name; session = h.session; gate = h.gate }) free h.work of few

  -- ---- requests and phases

  items_again : (j : Bool) (n m : ℕ) (done : List Request) (past : List ℕ) (rest : List Request) (phases : List ℕ) → n ≤ 8 → AllByRecursion (IsRequest n) rest → AllByRecursion (IsRequestOf j) rest → IsDistinct same_name (request_names (done ++ rest))
      → AreFew (done ++ rest) → RiseTo (length done) (length (done ++ rest)) phases
      → after_lines (at j n m done past Between) (item_lines (length done) rest phases) ≡ Ok (at j n m (done ++ rest) (past ++ phases) Between)
  items_again j n m done past [] phases small h of distinct few rising =
      let same = append-nil done in
      phases_again j n m done past phases (subst AreFew same few) (subst (λ requests. RiseTo (length done) (length requests) phases) same rising)
      ∙ ap (λ requests. Ok (at j n m requests (past ++ phases) Between)) (sym same)
  items_again j n m done past (request ∷ rest) phases small h of distinct few rising =
      let k = length done in
      let due = due_phases k phases in
      let later = later_phases k phases in
      let more = done ++ request ∷ [] in
      let same : more ++ rest ≡ done ++ request ∷ rest = append_assoc done (request ∷ []) rest in
      let count : k + 1 ≡ length more = omega (arith, length_push done request) in
      let few_more : AreFew (more ++ rest) = subst AreFew (sym same) few in
      let rising_more : RiseTo (length more) (length (more ++ rest)) later =
      subst (λ low. RiseTo low (length (more ++ rest)) later) count (subst (λ requests. RiseTo (k + 1) (length requests) later) (sym same) (later_rise k k (length (done ++ request ∷ rest)) phases rising)) in
      let behind_phases = at j n m done (past ++ due) Between in
      let behind_request = at j n m more (past ++ due) Between in
      lines_then (at j n m done past Between) behind_request (phase_lines due ++ request_lines request) (item_lines (k + 1) rest later)
      (lines_then (at j n m done past Between) behind_phases (phase_lines due) (request_lines request)
      (phases_again j n m done past due (front_few done (request ∷ rest) few) (due_rise k k (length (done ++ request ∷ rest)) phases rising))
      ∙ request_again j n m done (past ++ due) request small h.0 of.0 (free_before done request rest distinct) (front_few more rest few_more))
      ∙ ap (λ k. after_lines behind_request (item_lines k rest later)) count
      ∙ items_again j n m more (past ++ due) rest later small h.1 of.1 (subst (λ requests. IsDistinct same_name (request_names requests)) (sym same) distinct) few_more rising_more
      ∙ ap (λ requests. Ok (at j n m requests ((past ++ due) ++ later) Between)) same
      ∙ ap (λ phases. Ok (at j n m (done ++ request ∷ rest) phases Between)) (append_assoc past due later ∙ ap (λ phases. past ++ phases) (due_and_later k phases))

  -- ---- steps

  steps_again : (j : Bool) (n m : ℕ) (requests : List Request) (phases : List ℕ) (before steps : List Step) → AreSizes n m → AllByRecursion (IsRequest n) requests → IsDistinct same_name (request_names requests)
      → AllByRecursion (IsStep n m (length requests)) steps → AreFew requests → length (before ++ steps) ≤ 100000
      → after_lines (at j n m requests phases (Behind before)) (map (step_line requests) steps) ≡ Ok (at j n m requests phases (Behind (before ++ steps)))
  steps_again j n m requests phases before [] sizes each distinct h few small = ap (λ steps. Ok (at j n m requests phases (Behind steps))) (sym (append-nil before))
  steps_again j n m requests phases before (step ∷ steps) sizes each distinct h few small =
      let more = before ++ step ∷ [] in
      let same : more ++ steps ≡ before ++ step ∷ steps = append_assoc before (step ∷ []) steps in
      let small_more : length (more ++ steps) ≤ 100000 = subst (λ steps. length steps ≤ 100000) (sym same) small in
      let fits : length more ≤ 100000 = omega (arith, length-append more steps, small_more) in
      line_then (at j n m requests phases (Behind before)) (at j n m requests phases (Behind more)) (step_line requests step) (map (step_line requests) steps)
      (bind_at (step_of n m (λ name. place_of name requests) (step_line requests step)) (λ step. Ok (at j n m requests phases (Behind (before ++ step ∷ [])))) step
      (step_of-line laws n m sizes requests each distinct step h.0))
      (few-within 0 requests (length more) (omega arith) few fits)
      ∙ steps_again j n m requests phases more steps sizes each distinct h.1 few small_more
      ∙ ap (λ steps. Ok (at j n m requests phases (Behind steps))) same

  -- ---- scripts

  -- the place at which the script ends
  abbrev pub last_place : Option (List Step) → Place
  last_place None = Between
  last_place (Some steps) = Behind steps

  -- the script so far, at its end
  abbrev pub last_reading : Bool → Script → Reading
  last_reading joins script = at joins script.gates script.shards script.requests script.phases (last_place script.steps)

  -- the script of the last reading is the whole script
  pub script_at-last : (joins : Bool) (script : Script) → script_at (last_reading joins script).place (last_reading joins script) ≡ Ok script
  script_at-last joins script = go script.steps refl
    where
      go : (steps : Option (List Step)) → script.steps ≡ steps
          → script_at (last_place steps) (at joins script.gates script.shards script.requests script.phases (last_place steps)) ≡ Ok (record script { steps = steps })
      go None e = refl
      go (Some steps) e = refl

  header_again : (j : Bool) (n m : ℕ) → AreSizes n m → after_line_at Start start (header_line j n m) ≡ Ok (at j n m [] [] Between)
  header_again j n m sizes = bind_at (header_of (header_line j n m)) (λ header. Ok (at header.joins header.gates header.shards [] [] Between)) (record { joins = j; gates = n; shards = m }) (header_of-line laws j n m sizes)

  steps_part : (j : Bool) (n m : ℕ) (requests : List Request) (phases : List ℕ) (steps : Option (List Step)) → AreSizes n m → AllByRecursion (IsRequest n) requests → IsDistinct same_name (request_names requests)
      → AllByRecursion (IsStep n m (length requests)) (steps_of steps) → AreFew requests → length (steps_of steps) ≤ 100000
      → after_lines (at j n m requests phases Between) (steps_lines requests steps) ≡ Ok (at j n m requests phases (last_place steps))
  steps_part j n m requests phases None sizes each distinct h few small = refl
  steps_part j n m requests phases (Some steps) sizes each distinct h few small =
      line_then (at j n m requests phases Between) (at j n m requests phases (Behind [])) steps_line (map (step_line requests) steps) refl (few-within 0 requests 0 (omega arith) few (omega arith))
      ∙ steps_again j n m requests phases [] steps sizes each distinct h few small

  -- a script's lines are read as it
  pub script_again : (script : Script) → (h : IsScript script) → after_lines start (script_lines_in h.joins script) ≡ Ok (last_reading h.joins script)
  script_again script h =
      let j = h.joins in
      let n = script.gates in
      let m = script.shards in
      let requests = script.requests in
      let phases = script.phases in
      let sizes : AreSizes n m = record { gates = h.gates; shards = h.shards } in
      let few = within-few 0 requests (length (steps_of script.steps)) h.within in
      line_then start (at j n m [] [] Between) (header_line j n m) (item_lines 0 requests phases ++ steps_lines requests script.steps) (header_again j n m sizes) refl
      ∙ lines_then (at j n m [] [] Between) (at j n m requests phases Between) (item_lines 0 requests phases) (steps_lines requests script.steps)
      (items_again j n m [] [] requests phases h.gates.1 h.requests h.version h.distinct few.1 h.phases)
      ∙ steps_part j n m requests phases script.steps sizes h.requests h.distinct h.steps few.1 few.2
