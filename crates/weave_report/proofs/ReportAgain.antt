-- The lines of a report are read as it.
-- Used by `text_is_of_one_report` and ReportComesBack.
use Rattle.std.proofs.Common.{◌≡◌, ℕ, ◌+◌, ◌<◌, ◌≤◌, ◌^◌, Bool, true, false, List, [], ◌∷◌, ◌++◌, length, map, refl, sym, ap, ◌∙◌, append_assoc, append-nil, arith, length-append}
use Rattle.std.specs.Prelude.{IsTrue, Option, Some, None, Ok, Err, codes, nat_lt, slice_get}
use Rattle.std.specs.Fmt.{decimal}
use Rattle.std.specs.List.{AllByRecursion, enumerate_from, flat_map}
use Rattle.std.specs.Option.{option_map_or}
use Rattle.std.proofs.lemmas.Bool.{cond-true, cond-false, and_parts, lt-ltb, le-ltb}
use Rattle.std.proofs.lemmas.List.{length-map, map-append}
use Rattle.vector_stamp.specs.declared.clock.Stamp.{Stamp}
use Rattle.weave_data.specs.declared.name.Name.{Name}
use Rattle.weave_text.specs.Lines.{Line, Word}
use Rattle.graph_ops.specs.declared.op.Reason.{Reason}
use Rattle.graph_ops.specs.declared.tx.Got.{Got}
use Rattle.program_defs.specs.declared.program.Answer.{Answer}
use Rattle.program_defs.specs.declared.program.Program.{Program}
use Rattle.program_defs.specs.declared.script.Request.{Request}
use Rattle.program_defs.specs.declared.script.Script.{Script}
use Rattle.program_defs.specs.declared.script.Work.{Work}
use Rattle.program_defs.specs.declared.script.Work.TheVariants.{Change, Look}
use Rattle.weave_report.specs.declared.read.parts.Commit.{Commit}
use Rattle.weave_report.specs.declared.read.parts.Place.{Place}
use Rattle.weave_report.specs.declared.read.parts.Place.TheVariants.{Replies, Pairs, Answers, Ended}
use Rattle.weave_report.specs.declared.read.parts.Reading.{Reading}
use Rattle.weave_report.specs.declared.read.parts.ReplyLine.{ReplyLine}
use Rattle.weave_report.specs.declared.read.parts.ReplyLine.TheVariants.{Whole, Committed}
use Rattle.report_rules.specs.declared.report.Pair.{Pair}
use Rattle.report_rules.specs.declared.report.Reply.{Reply}
use Rattle.report_rules.specs.declared.report.ReplyState.{ReplyState}
use Rattle.report_rules.specs.declared.report.ReplyState.TheVariants as told
use Rattle.report_rules.specs.declared.report.Report.{Report}
use Rattle.report_rules.specs.declared.report.StepAnswer.{StepAnswer}
use Rattle.program_defs.specs.Works.{is_look, ops_of}
use Rattle.weave_data.specs.Steps.{◌>>=◌}
use Rattle.weave_data.proofs.Lists.{get-here}
use Rattle.weave_report.specs.ReadingFields.{ReadResult}
use Rattle.weave_report.specs.ReadingStates.{is_answer_form, is_step_form}
use Rattle.weave_report.specs.ReadingReplies.{read_begun, committed_in, conflict_in, finished_by, finished_in, get_numbers, program_in, refused_in, transaction_in, unbegun_in}
use Rattle.weave_report.specs.Reading.{reading, with_reply_read, behind_commit, behind_reply, commit_reply, pair_in, order_in, did_in, next_get, after_got, after_report_line, report_start}
use Rattle.report_rules.specs.ReportOf.{MatchesWork, IsReplyOf, IsPairOf, IsReportOf, is_request_of, is_stamp_of, has_form_for, numbers_of_gets}
use Rattle.weave_report.specs.ReportText.{answer_words, begun_text, did_line, got_line, kind_text, name_at, order_line, pair_line, reason_text, reply_lines, report_lines, stamp_text, step_answer_words}
use Rattle.weave_report.specs.TextOf.{IsName, IsTypedGot, IsTypedReplyState, IsTypedReport, IsTypedScript, IsTypedStepAnswer, HasDistinctNames, IsTypedAnswer}
use Rattle.report_rules.specs.Lookups.{is_program, is_none_or, request_at}
use Rattle.weave_report.proofs.ReadSteps.{then_ok}
use Rattle.weave_report.proofs.FieldsRead.{name_again, names_again, number_again, small_number_again, this_number_again, reason_again}
use Rattle.weave_report.proofs.StampsRead.{stamp_again}
use Rattle.weave_report.proofs.AnswersRead.{answer_again, step_answer_again}
use Rattle.weave_report.proofs.RequestsRead.{any_again, all_again, kind_again, name_is_name, names_told, program_again, request_within, within_place, work_is}
use Rattle.weave_report.proofs.RepliesRead.{got_again}
use Rattle.weave_report.proofs.ReportRead.{after_kept}
use Rattle.weave_report.specs.TextLaws.{TextLaws}

module _ (laws : TextLaws) where
  -- what a script has to have for its reports to be read
  record IsReadable (script : Script) : Type 0 where
    tells : HasDistinctNames script
    typed : IsTypedScript script

  -- ---- replies' lines

  unbegun_again : (program : Bool) (script : Script) (r : ℕ) → IsReadable script → r < length script.requests → is_program script r ≡ program
      → unbegun_in program script (name_at script r) ≡ Ok (Whole (record { request = r; stamp = None; state = told.Unbegun }))
  unbegun_again program script r h within kind =
      then_ok _ _ (name_at script r) _ ((name_again laws) (name_at script r) (name_is_name script r h.typed within))
      (then_ok _ _ r _ (kind_again program script r h.tells within kind) refl)

  begun_again : (program : Bool) (script : Script) (r : ℕ) (stamp : Stamp) → IsReadable script → r < length script.requests → is_program script r ≡ program → IsTrue (is_stamp_of script stamp)
      → read_begun program script (name_at script r) (stamp_text script.gates stamp) ≡ Ok (Whole (record { request = r; stamp = Some stamp; state = told.Begun }))
  begun_again program script r stamp h within kind k =
      then_ok _ _ (name_at script r) _ ((name_again laws) (name_at script r) (name_is_name script r h.typed within))
      (then_ok _ _ stamp _ ((stamp_again laws) script stamp h.typed.gates k)
      (then_ok _ _ r _ (kind_again program script r h.tells within kind) refl))

  committed_again : (script : Script) (r : ℕ) (stamp : Stamp) (number : ℕ) → IsReadable script → r < length script.requests → is_program script r ≡ false → IsTrue (is_stamp_of script stamp) → number < 2 ^ 64
      → committed_in script (name_at script r) (stamp_text script.gates stamp) (decimal number) ≡ Ok (Committed (record { request = r; stamp = stamp; number = number; gets = get_numbers script r }))
  committed_again script r stamp number h within kind k small =
      then_ok _ _ (name_at script r) _ ((name_again laws) (name_at script r) (name_is_name script r h.typed within))
      (then_ok _ _ stamp _ ((stamp_again laws) script stamp h.typed.gates k)
      (then_ok _ _ number _ ((number_again laws) number small)
      (then_ok _ _ r _ (kind_again false script r h.tells within kind) refl)))

  conflict_again : (script : Script) (r : ℕ) (stamp : Stamp) (vertex : Name) (newer : ℕ) → IsReadable script → r < length script.requests → is_program script r ≡ false → IsTrue (is_stamp_of script stamp) → IsName vertex → newer < length script.requests
      → conflict_in script (name_at script r) (stamp_text script.gates stamp) vertex (name_at script newer) ≡ Ok (Whole (record { request = r; stamp = Some stamp; state = told.Conflict vertex newer }))
  conflict_again script r stamp vertex newer h within kind k named there =
      then_ok _ _ (name_at script r) _ ((name_again laws) (name_at script r) (name_is_name script r h.typed within))
      (then_ok _ _ stamp _ ((stamp_again laws) script stamp h.typed.gates k)
      (then_ok _ _ vertex _ ((name_again laws) vertex named)
      (then_ok _ _ (name_at script newer) _ ((name_again laws) (name_at script newer) (name_is_name script newer h.typed there))
      (then_ok _ _ r _ (kind_again false script r h.tells within kind)
      (then_ok _ _ newer _ (any_again script newer h.tells there) refl)))))

  refused_again : (script : Script) (r : ℕ) (stamp : Stamp) (op : ℕ) (reason : Reason) (at : ℕ) → IsReadable script → r < length script.requests → is_program script r ≡ false → IsTrue (is_stamp_of script stamp) → op < 2 ^ 32 → at < 2 ^ 64
      → refused_in script (name_at script r) (stamp_text script.gates stamp) (decimal op) (reason_text reason) (decimal at) ≡ Ok (Whole (record { request = r; stamp = Some stamp; state = told.Refused op reason at }))
  refused_again script r stamp op reason at h within kind k small fits =
      then_ok _ _ (name_at script r) _ ((name_again laws) (name_at script r) (name_is_name script r h.typed within))
      (then_ok _ _ stamp _ ((stamp_again laws) script stamp h.typed.gates k)
      (then_ok _ _ op _ ((small_number_again laws) op small)
      (then_ok _ _ reason _ ((reason_again laws) reason)
      (then_ok _ _ at _ ((number_again laws) at fits)
      (then_ok _ _ r _ (kind_again false script r h.tells within kind) refl)))))

  finished_again : (script : Script) (r : ℕ) (request : Request) (program : Program) (stamp : Stamp) (answer : Answer) → IsReadable script → request_at script r ≡ Some request → request.work ≡ Look program → IsTrue (is_stamp_of script stamp)
      → has_form_for program answer ≡ true → IsTypedAnswer answer
      → finished_in script (name_at script r) (stamp_text script.gates stamp) (answer_words answer) ≡ Ok (Whole (record { request = r; stamp = Some stamp; state = told.Finished answer }))
  finished_again script r request program stamp answer h there work k form typed =
      let words = answer_words answer in
      let again = (answer_again laws) program answer form typed in
      then_ok _ _ (name_at script r) _ ((name_again laws) (name_at script r) (name_is_name script r h.typed (within_place script.requests r request there)))
      (ap (λ o. finished_by o script (stamp_text script.gates stamp) words) (program_again script r request program h.tells there work)
      ∙ cond-true (is_answer_form program words) _ _ again.0
      ∙ then_ok _ _ stamp _ ((stamp_again laws) script stamp h.typed.gates k)
      (then_ok _ _ answer _ again.1 refl))

  -- ---- several lines

  -- if lines are read up to a reading, and more lines from there, they are read so one after the other
  pub kept_append : (script : Script) (before middle : Reading) (xs ys : List Line) (last : ReadResult Reading) → (after_kept laws) script before xs ≡ Ok middle → (after_kept laws) script middle ys ≡ last → (after_kept laws) script before (xs ++ ys) ≡ last
  kept_append script before middle [] ys last e k = ap (λ one. one >>= λ before. (after_kept laws) script before ys) e ∙ k
  kept_append script before middle (x ∷ xs) ys last e k = through (after_report_line script before x) e (λ next e. kept_append script next middle xs ys last e k)
    where
      through : (one : ReadResult Reading) → (one >>= λ next. (after_kept laws) script next xs) ≡ Ok middle → ((next : Reading) → (after_kept laws) script next xs ≡ Ok middle → (after_kept laws) script next (xs ++ ys) ≡ last) → (one >>= λ next. (after_kept laws) script next (xs ++ ys)) ≡ last
      through (Ok next) e each = each next e
      through (Err why) e each = absurd cc

  -- the answers of a commit's `get`s
  gots_again : (script : Script) (report : Report) (commit : Commit) (before answers : List Got) → commit.gets ≡ map (λ (got : Got). got.op) before ++ map (λ (got : Got). got.op) answers → AllByRecursion IsTypedGot answers
      → (after_kept laws) script (behind_commit report commit before) (map got_line answers) ≡ Ok (reading (with_reply_read report (commit_reply commit (before ++ answers))) Replies)
  gots_again script report commit before [] gets h =
      let all : length commit.gets ≤ length before = omega (arith, ap length gets, length-append (map (λ (got : Got). got.op) before) [], length-map before (λ (got : Got). got.op)) in
      ap (λ (next : Reading). Ok next) (cond-false (nat_lt (length before) (length commit.gets)) _ _ (le-ltb (length before) (length commit.gets) all))
      ∙ ap (λ answers. Ok (reading (with_reply_read report (commit_reply commit answers)) Replies)) (sym (append-nil before))
  gots_again script report commit before (got ∷ answers) gets h =
      let op_of : Got → ℕ = λ got. got.op in
      let fewer : length before < length commit.gets = omega (arith, ap length gets, length-append (map op_of before) (map op_of (got ∷ answers)), length-map before op_of, length-map answers op_of) in
      let next : next_get commit before ≡ Some got.op = ap (λ gets. slice_get gets (length before)) gets ∙ ap (λ n. slice_get (map op_of before ++ map op_of (got ∷ answers)) n) (sym (length-map before op_of)) ∙ get-here (map op_of before) got.op (map op_of answers) in
      let regrouped : commit.gets ≡ map op_of (before ++ got ∷ []) ++ map op_of answers =
      gets ∙ sym (append_assoc (map op_of before) (got.op ∷ []) (map op_of answers)) ∙ ap (λ front. front ++ map op_of answers) (sym (map-append op_of before (got ∷ []))) in
      ap (λ next. (after_kept laws) script next (map got_line (got ∷ answers))) (cond-true (nat_lt (length before) (length commit.gets)) _ _ (lt-ltb (length before) (length commit.gets) fewer))
      ∙ ap (λ o. after_got o report commit before (got_line got) >>= λ next. (after_kept laws) script next (map got_line answers)) next
      ∙ ap (λ one. one >>= (λ got. Ok (behind_commit report commit (before ++ got ∷ []))) >>= λ next. (after_kept laws) script next (map got_line answers)) ((got_again laws) got h.0)
      ∙ gots_again script report commit (before ++ got ∷ []) answers regrouped h.1
      ∙ ap (λ answers. Ok (reading (with_reply_read report (commit_reply commit answers)) Replies)) (append_assoc before (got ∷ []) answers)

  -- a reply's line, and those of its `get`s
  module _ (script : Script) (report : Report) (r : ℕ) (h : IsReadable script) where
    -- a line's words after `tx`, or after `prog`
    abbrev words_in : Bool → List Word → ReadResult ReplyLine
    words_in false words = transaction_in script words
    words_in true words = program_in script words

    -- after a reply's line, if its words are read so
    line_again : (program : Bool) (words : Bool → List Word) (line : ReplyLine) (more : List Line) → is_program script r ≡ program → words_in program (words program) ≡ Ok line
        → (after_kept laws) script (reading report Replies) ((kind_text (is_program script r) ∷ words (is_program script r)) ∷ more) ≡ (after_kept laws) script (behind_reply report line) more
    line_again program words line more kind e = ap (λ program. (after_kept laws) script (reading report Replies) ((kind_text program ∷ words program) ∷ more)) kind ∙ by program (words program) e
      where
        by : (program : Bool) (words : List Word) → words_in program words ≡ Ok line
            → (after_kept laws) script (reading report Replies) ((kind_text program ∷ words) ∷ more) ≡ (after_kept laws) script (behind_reply report line) more
        by false words e = ap (λ one. one >>= (λ line. Ok (behind_reply report line)) >>= λ next. (after_kept laws) script next more) e
        by true words e = ap (λ one. one >>= (λ line. Ok (behind_reply report line)) >>= λ next. (after_kept laws) script next more) e

    -- the kind of a request is that of its work
    kind_is : (request : Request) (work : Work) → request_at script r ≡ Some request → request.work ≡ work → is_program script r ≡ is_look work
    kind_is request work there is = ap (λ (o : Option Request). option_map_or (λ (request : Request). is_look request.work) o false) there ∙ ap is_look is

    -- each state, by its words
    reply_cases : (stamp : Option Stamp) (state : ReplyState) (request : Request) (work : Work) → request_at script r ≡ Some request → request.work ≡ work
        → MatchesWork script work stamp state → IsTrue (is_none_or (is_stamp_of script) stamp) → IsTypedReplyState state
        → (after_kept laws) script (reading report Replies) (reply_lines script (record { request = r; stamp = stamp; state = state })) ≡ Ok (reading (with_reply_read report (record { request = r; stamp = stamp; state = state })) Replies)
    reply_cases None told.Unbegun request (Change ops) there work can of typed =
        let kind = kind_is request (Change ops) there work in
        line_again false (λ program. name_at script r ∷ codes "unbegun" ∷ []) _ [] kind (unbegun_again false script r h (within_place script.requests r request there) kind)
    reply_cases None told.Unbegun request (Look program) there work can of typed =
        let kind = kind_is request (Look program) there work in
        line_again true (λ program. name_at script r ∷ codes "unbegun" ∷ []) _ [] kind (unbegun_again true script r h (within_place script.requests r request there) kind)
    reply_cases (Some stamp) told.Begun request (Change ops) there work can of typed =
        let kind = kind_is request (Change ops) there work in
        line_again false (λ program. name_at script r ∷ stamp_text script.gates stamp ∷ begun_text program ∷ []) _ [] kind
        (begun_again false script r stamp h (within_place script.requests r request there) kind of)
    reply_cases (Some stamp) told.Begun request (Look program) there work can of typed =
        let kind = kind_is request (Look program) there work in
        line_again true (λ program. name_at script r ∷ stamp_text script.gates stamp ∷ begun_text program ∷ []) _ [] kind
        (begun_again true script r stamp h (within_place script.requests r request there) kind of)
    reply_cases (Some stamp) (told.Committed number answers) request (Change ops) there work can of typed =
        let kind = kind_is request (Change ops) there work in
        let commit : Commit = record { request = r; stamp = stamp; number = number; gets = get_numbers script r } in
        let ops_are : get_numbers script r ≡ numbers_of_gets 1 ops = ap (λ (o : Option Request). numbers_of_gets 1 (option_map_or (λ (request : Request). ops_of request.work) o [])) there ∙ ap (λ work. numbers_of_gets 1 (ops_of work)) work in
        line_again false (λ program. name_at script r ∷ stamp_text script.gates stamp ∷ codes "committed" ∷ decimal number ∷ []) (Committed commit) (map got_line answers) kind
        (committed_again script r stamp number h (within_place script.requests r request there) kind of typed.0)
        ∙ gots_again script report commit [] answers (ops_are ∙ sym can) typed.1
    reply_cases (Some stamp) (told.Conflict vertex newer) request (Change ops) there work can of typed =
        let kind = kind_is request (Change ops) there work in
        line_again false (λ program. name_at script r ∷ stamp_text script.gates stamp ∷ codes "conflict" ∷ vertex ∷ name_at script newer ∷ []) _ [] kind
        (conflict_again script r stamp vertex newer h (within_place script.requests r request there) kind of typed (request_within script newer can))
    reply_cases (Some stamp) (told.Refused op reason at) request (Change ops) there work can of typed =
        let kind = kind_is request (Change ops) there work in
        line_again false (λ program. name_at script r ∷ stamp_text script.gates stamp ∷ codes "refused" ∷ decimal op ∷ reason_text reason ∷ codes "at" ∷ decimal at ∷ []) _ [] kind
        (refused_again script r stamp op reason at h (within_place script.requests r request there) kind of typed.0 typed.1)
    reply_cases (Some stamp) (told.Finished answer) request (Look program) there work can of typed =
        line_again true (λ program. name_at script r ∷ stamp_text script.gates stamp ∷ codes "done" ∷ answer_words answer) _ [] (kind_is request (Look program) there work)
        (finished_again script r request program stamp answer h there work of can typed)
    reply_cases None told.Begun request work there w can of typed = absurd can
    reply_cases None (told.Committed number answers) request work there w can of typed = absurd can
    reply_cases None (told.Conflict vertex newer) request work there w can of typed = absurd can
    reply_cases None (told.Refused op reason at) request work there w can of typed = absurd can
    reply_cases None (told.Finished answer) request work there w can of typed = absurd can
    reply_cases (Some stamp) told.Unbegun request work there w can of typed = absurd can
    reply_cases (Some stamp) (told.Committed number answers) request (Look program) there w can of typed = absurd can
    reply_cases (Some stamp) (told.Conflict vertex newer) request (Look program) there w can of typed = absurd can
    reply_cases (Some stamp) (told.Refused op reason at) request (Look program) there w can of typed = absurd can
    reply_cases (Some stamp) (told.Finished answer) request (Change ops) there w can of typed = absurd can

  reply_again : (script : Script) (report : Report) (reply : Reply) → IsReadable script → IsReplyOf script reply → IsTypedReplyState reply.state
      → (after_kept laws) script (reading report Replies) (reply_lines script reply) ≡ Ok (reading (with_reply_read report reply) Replies)
  reply_again script report reply h of typed =
      let at = work_is script reply.request reply.stamp reply.state of.1 in
      reply_cases script report reply.request h reply.stamp reply.state at.0 at.0.work at.1 refl at.2 of.0 typed

  -- ---- a report, piece by piece

  -- a report of these parts, at this place
  abbrev built : List Reply → List Pair → List ℕ → List StepAnswer → Place → Reading
  built replies pairs order answers place = reading (record { replies = replies; pairs = pairs; order = order; answers = answers }) place

  replies_again : (script : Script) (before replies : List Reply) → IsReadable script → AllByRecursion (IsReplyOf script) replies → AllByRecursion (λ (reply : Reply). IsTypedReplyState reply.state) replies
      → (after_kept laws) script (built before [] [] [] Replies) (flat_map (reply_lines script) replies) ≡ Ok (built (before ++ replies) [] [] [] Replies)
  replies_again script before [] h of typed = ap (λ replies. Ok (built replies [] [] [] Replies)) (sym (append-nil before))
  replies_again script before (reply ∷ replies) h of typed =
      kept_append script (built before [] [] [] Replies) (built (before ++ reply ∷ []) [] [] [] Replies) (reply_lines script reply) (flat_map (reply_lines script) replies) _
      (reply_again script (record { replies = before; pairs = []; order = []; answers = [] }) reply h of.0 typed.0)
      (replies_again script (before ++ reply ∷ []) replies h of.1 typed.1 ∙ ap (λ replies. Ok (built replies [] [] [] Replies)) (append_assoc before (reply ∷ []) replies))

  pair_again : (script : Script) (pair : Pair) → IsReadable script → IsPairOf script pair → IsName pair.vertex → pair_in script (pair.vertex ∷ name_at script pair.earlier ∷ name_at script pair.later ∷ []) ≡ Ok pair
  pair_again script pair h of named =
      let ends = and_parts (is_request_of script pair.earlier) (is_request_of script pair.later) of in
      let earlier = request_within script pair.earlier ends.0 in
      let later = request_within script pair.later ends.1 in
      then_ok _ _ pair.vertex _ ((name_again laws) pair.vertex named)
      (then_ok _ _ (name_at script pair.earlier) _ ((name_again laws) (name_at script pair.earlier) (name_is_name script pair.earlier h.typed earlier))
      (then_ok _ _ (name_at script pair.later) _ ((name_again laws) (name_at script pair.later) (name_is_name script pair.later h.typed later))
      (then_ok _ _ pair.earlier _ (any_again script pair.earlier h.tells earlier)
      (then_ok _ _ pair.later _ (any_again script pair.later h.tells later) refl))))

  pairs_again : (script : Script) (replies : List Reply) (before pairs : List Pair) → IsReadable script → AllByRecursion (IsPairOf script) pairs → AllByRecursion (λ (pair : Pair). IsName pair.vertex) pairs
      → (after_kept laws) script (built replies before [] [] Pairs) (map (pair_line script) pairs) ≡ Ok (built replies (before ++ pairs) [] [] Pairs)
  pairs_again script replies before [] h of typed = ap (λ pairs. Ok (built replies pairs [] [] Pairs)) (sym (append-nil before))
  pairs_again script replies before (pair ∷ pairs) h of typed =
      ap (λ one. one >>= (λ pair. Ok (built replies (before ++ pair ∷ []) [] [] Pairs)) >>= λ next. (after_kept laws) script next (map (pair_line script) pairs)) (pair_again script pair h of.0 typed.0)
      ∙ pairs_again script replies (before ++ pair ∷ []) pairs h of.1 typed.1 ∙ ap (λ pairs. Ok (built replies pairs [] [] Pairs)) (append_assoc before (pair ∷ []) pairs)

  -- the place at which the order may be
  abbrev place_behind : List Pair → Place
  place_behind [] = Replies
  place_behind (pair ∷ pairs) = Pairs

  first_pairs_again : (script : Script) (replies : List Reply) (pairs : List Pair) → IsReadable script → AllByRecursion (IsPairOf script) pairs → AllByRecursion (λ (pair : Pair). IsName pair.vertex) pairs
      → (after_kept laws) script (built replies [] [] [] Replies) (map (pair_line script) pairs) ≡ Ok (built replies pairs [] [] (place_behind pairs))
  first_pairs_again script replies [] h of typed = refl
  first_pairs_again script replies (pair ∷ pairs) h of typed = pairs_again script replies [] (pair ∷ pairs) h of typed

  order_in_again : (script : Script) (order : List ℕ) → IsReadable script → AllByRecursion (λ r. IsTrue (is_request_of script r)) order → order_in script (map (name_at script) order) ≡ Ok order
  order_in_again script order h of =
      then_ok _ _ (map (name_at script) order) _ ((names_again laws) [] (map (name_at script) order) (names_told script order h.typed of)) (all_again script [] order h.tells of)

  order_again : (script : Script) (replies : List Reply) (pairs : List Pair) (order : List ℕ) → IsReadable script → AllByRecursion (λ r. IsTrue (is_request_of script r)) order
      → (after_kept laws) script (built replies pairs [] [] (place_behind pairs)) (order_line script order ∷ []) ≡ Ok (built replies pairs order [] Answers)
  order_again script replies [] order h of = ap (λ one. one >>= (λ order. Ok (built replies [] order [] Answers)) >>= λ next. Ok next) (order_in_again script order h of)
  order_again script replies (pair ∷ pairs) order h of = ap (λ one. one >>= (λ order. Ok (built replies (pair ∷ pairs) order [] Answers)) >>= λ next. Ok next) (order_in_again script order h of)

  did_again : (number : ℕ) (answer : StepAnswer) → number < 2 ^ 64 → IsTypedStepAnswer answer → did_in number (decimal number ∷ step_answer_words answer) ≡ Ok answer
  did_again number answer small typed =
      let again = (step_answer_again laws) answer typed in
      cond-true (is_step_form (step_answer_words answer)) _ _ again.0
      ∙ then_ok _ _ number _ ((this_number_again laws) number small) again.1

  answers_again : (script : Script) (replies : List Reply) (pairs : List Pair) (order : List ℕ) (before answers : List StepAnswer) → AllByRecursion IsTypedStepAnswer answers → length before + length answers < 2 ^ 64
      → (after_kept laws) script (built replies pairs order before Answers) (map did_line (enumerate_from (length before + 1) answers)) ≡ Ok (built replies pairs order (before ++ answers) Answers)
  answers_again script replies pairs order before [] typed few = ap (λ answers. Ok (built replies pairs order answers Answers)) (sym (append-nil before))
  answers_again script replies pairs order before (answer ∷ answers) typed few =
      let n = length before + 1 in
      let longer : n + 1 ≡ length (before ++ answer ∷ []) + 1 = omega (arith, length-append before (answer ∷ [])) in
      ap (λ one. one >>= (λ answer. Ok (built replies pairs order (before ++ answer ∷ []) Answers)) >>= λ next. (after_kept laws) script next (map did_line (enumerate_from (n + 1) answers))) (did_again n answer (omega arith) typed.0)
      ∙ ap (λ n. (after_kept laws) script (built replies pairs order (before ++ answer ∷ []) Answers) (map did_line (enumerate_from n answers))) longer
      ∙ answers_again script replies pairs order (before ++ answer ∷ []) answers typed.1 (omega (arith, length-append before (answer ∷ [])))
      ∙ ap (λ answers. Ok (built replies pairs order answers Answers)) (append_assoc before (answer ∷ []) answers)

  -- the lines of a report are read as it
  pub report_again : (script : Script) (report : Report) → HasDistinctNames script → IsTypedScript script → IsReportOf script report → IsTypedReport report → (after_kept laws) script report_start (report_lines script report) ≡ Ok (reading report Ended)
  report_again script report tells typed_script of typed =
      let h : IsReadable script = record { tells = tells; typed = typed_script } in
      let first : List Line = (codes "report" ∷ codes "1" ∷ []) ∷ [] in
      let replies : List Line = flat_map (reply_lines script) report.replies in
      let pairs : List Line = map (pair_line script) report.pairs in
      let order : List Line = order_line script report.order ∷ [] in
      let answers : List Line = map did_line (enumerate_from 1 report.answers) in
      let one : (after_kept laws) script report_start (first ++ replies) ≡ Ok (built report.replies [] [] [] Replies) = kept_append script report_start (built [] [] [] [] Replies) first replies _ refl (replies_again script [] report.replies h of.replies typed.replies) in
      let two : (after_kept laws) script report_start (first ++ replies ++ pairs) ≡ Ok (built report.replies report.pairs [] [] (place_behind report.pairs)) =
      kept_append script report_start (built report.replies [] [] [] Replies) (first ++ replies) pairs _ one (first_pairs_again script report.replies report.pairs h of.pairs typed.pairs) in
      let three : (after_kept laws) script report_start (first ++ replies ++ pairs ++ order) ≡ Ok (built report.replies report.pairs report.order [] Answers) =
      kept_append script report_start (built report.replies report.pairs [] [] (place_behind report.pairs)) (first ++ replies ++ pairs) order _ two (order_again script report.replies report.pairs report.order h of.order) in
      let four : (after_kept laws) script report_start (first ++ replies ++ pairs ++ order ++ answers) ≡ Ok (built report.replies report.pairs report.order report.answers Answers) =
      kept_append script report_start (built report.replies report.pairs report.order [] Answers) (first ++ replies ++ pairs ++ order) answers _ three (answers_again script report.replies report.pairs report.order [] report.answers typed.answers (omega (arith, typed.few_answers))) in
      kept_append script report_start (built report.replies report.pairs report.order report.answers Answers) (first ++ replies ++ pairs ++ order ++ answers) ((codes "end" ∷ []) ∷ []) _ four refl

  -- two readings that end alike are of one report
  pub same_end : (a b : Report) → ◌≡◌ {A = ReadResult Reading} (Ok (reading a Ended)) (Ok (reading b Ended)) → a ≡ b
  same_end a b e = ap (λ (read : ReadResult Reading). report_of read) e
    where
      report_of : ReadResult Reading → Report
      report_of (Ok read) = read.report
      report_of (Err why) = a
