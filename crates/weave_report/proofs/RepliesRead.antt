-- The lines of replies that are read are written so, and those that are written are read again.
-- Used by ReportAgain and ReportRead.
use Rattle.std.proofs.Common.{◌≡◌, ℕ, ◌<◌, ◌^◌, Bool, true, false, ◌&&◌, cond, inl, inr, List, [], ◌∷◌, length, refl, sym, ap, ◌∙◌, subst, arith}
use Rattle.std.specs.Prelude.{IsTrue, Option, Some, None, IsSomeAnd, Ok, Err, codes}
use Rattle.std.specs.Fmt.{decimal}
use Rattle.std.specs.Option.{option_map_or}
use Rattle.std.specs.Str.{bytes_eq}
use Rattle.std.proofs.lemmas.Bool.{cond-true, and_parts}
use Rattle.vector_stamp.specs.declared.clock.Stamp.{Stamp}
use Rattle.weave_text.specs.Cutting.{is_empty}
use Rattle.weave_text.specs.Lines.{Word, Line}
use Rattle.graph_ops.specs.declared.tx.Got.{Got}
use Rattle.program_defs.specs.declared.program.Program.{Program}
use Rattle.program_defs.specs.declared.script.Request.{Request}
use Rattle.program_defs.specs.declared.script.Script.{Script}
use Rattle.program_defs.specs.declared.script.Work.{Work}
use Rattle.program_defs.specs.declared.script.Work.TheVariants.{Change, Look}
use Rattle.weave_report.specs.declared.fault.ReportCause.TheVariants as cause
use Rattle.weave_report.specs.declared.read.parts.Commit.{Commit}
use Rattle.weave_report.specs.declared.read.parts.ReplyLine.{ReplyLine}
use Rattle.weave_report.specs.declared.read.parts.ReplyLine.TheVariants.{Whole, Committed}
use Rattle.report_rules.specs.declared.report.Reply.{Reply}
use Rattle.report_rules.specs.declared.report.ReplyState.{ReplyState}
use Rattle.report_rules.specs.declared.report.ReplyState.TheVariants as told
use Rattle.weave_data.specs.Steps.{◌>>=◌}
use Rattle.weave_report.specs.ReadingFields.{name_in, read_number, small_number_in, this_number_in, reason_in, read_stamp}
use Rattle.weave_report.specs.ReadingStates.{is_state_form, read_state, is_answer_form, answer_in}
use Rattle.weave_report.specs.ReadingReplies.{any_named, kind_named, program_named, get_numbers, unbegun_in, read_begun, committed_in, conflict_in, refused_in, transaction_in, finished_by, finished_in, program_in, got_in}
use Rattle.program_defs.specs.Works.{is_look}
use Rattle.report_rules.specs.ReportOf.{MatchesWork, IsReplyOf, is_stamp_of}
use Rattle.weave_report.specs.ReportText.{begun_text, got_line, got_lines, kind_text, name_at, reply_line, stamp_text, state_words}
use Rattle.report_rules.specs.Lookups.{is_program}
use Rattle.weave_report.specs.TextOf.{IsTypedGot, IsTypedReplyState}
use Rattle.weave_data.proofs.Steps.{bind_ok, ok_is}
use Rattle.weave_report.proofs.ReadSteps.{err_is_not, passed, chosen, then_ok, is_word}
use Rattle.weave_report.proofs.FieldsRead.{name_read, number_read, small_number_read, this_number_read, this_number_again, reason_read}
use Rattle.weave_report.proofs.StampsRead.{stamp_read}
use Rattle.weave_report.proofs.StatesRead.{state_read, state_again, no_words}
use Rattle.weave_report.proofs.AnswersRead.{answer_read}
use Rattle.weave_report.proofs.RequestsRead.{MatchesWorkAt, any_read, is_request, kind_read, program_read, transaction_told, in_place}
use Rattle.weave_report.specs.TextLaws.{TextLaws}

module _ (laws : TextLaws) where
  -- ---- what was read

  -- a whole reply of one line
  pub record IsWhole (script : Script) (words : Line) (reply : Reply) : Type 0 where
    pub text : words ≡ reply_line script reply
    pub of : IsReplyOf script reply
    pub typed : IsTypedReplyState reply.state
    pub alone : got_lines reply.state ≡ []

  -- the line of a commit
  abbrev pub commit_line : Script → Commit → Line
  commit_line script commit =
      codes "tx" ∷ name_at script commit.request ∷ stamp_text script.gates commit.stamp ∷ codes "committed" ∷ decimal commit.number ∷ []

  -- a commit whose `get`s are still to be read
  pub record IsCommit (script : Script) (commit : Commit) : Type 0 where
    pub within : commit.request < length script.requests
    pub kind : is_program script commit.request ≡ false
    pub stamp : IsTrue (is_stamp_of script commit.stamp)
    pub number : commit.number < 2 ^ 64
    pub gets : commit.gets ≡ get_numbers script commit.request

  -- the words are the first line of this commit's reply
  pub record IsOpened (script : Script) (words : Line) (commit : Commit) : Type 0 where
    pub text : words ≡ commit_line script commit
    pub of : IsCommit script commit

  -- the words are the line of what was read
  abbrev pub IsReplyLine : Script → Line → ReplyLine → Type 0
  IsReplyLine script words (Whole reply) = IsWhole script words reply
  IsReplyLine script words (Committed commit) = IsOpened script words commit

  -- ---- requests that have no answer yet

  kind_told : (script : Script) (r : ℕ) (stamp : Option Stamp) (state : ReplyState) → r < length script.requests → ((work : Work) → MatchesWork script work stamp state) → MatchesWorkAt script r stamp state
  kind_told script r stamp state h told =
      let at = in_place script.requests r h in
      let Told : Option Request → Type 0 = λ o. IsSomeAnd o (λ (request : Request). MatchesWork script request.work stamp state) in
      subst Told (sym at.1) (told at.0.work)

  unbegun_read : (program : Bool) (script : Script) (name : Word) (line : ReplyLine) → unbegun_in program script name ≡ Ok line → IsReplyLine script (kind_text program ∷ name ∷ codes "unbegun" ∷ []) line
  unbegun_read program script name line e =
      let one = bind_ok _ _ line e in
      let two = bind_ok _ _ line one.2 in
      let kind = kind_read program script one.0 two.0 two.1 in
      let text : name ≡ name_at script two.0 = ((name_read laws) name one.0 one.1).1 ∙ kind.named in
      subst (IsReplyLine script (kind_text program ∷ name ∷ codes "unbegun" ∷ [])) (ok_is (Whole (record { request = two.0; stamp = None; state = told.Unbegun })) line two.2) (record {
        text = λ i. kind_text (sym kind.kind i) ∷ text i ∷ codes "unbegun" ∷ [];
        of = (refl, kind_told script two.0 None told.Unbegun kind.within (λ work. by_work script work));
        typed = tt;
        alone = refl;
      })
    where
      by_work : (script : Script) (work : Work) → MatchesWork script work None told.Unbegun
      by_work script (Change ops) = tt
      by_work script (Look program) = tt

  begun_read : (program : Bool) (script : Script) (name stamp : Word) (line : ReplyLine) → read_begun program script name stamp ≡ Ok line → IsReplyLine script (kind_text program ∷ name ∷ stamp ∷ begun_text program ∷ []) line
  begun_read program script name stamp line e =
      let one = bind_ok _ _ line e in
      let two = bind_ok _ _ line one.2 in
      let three = bind_ok _ _ line two.2 in
      let kind = kind_read program script one.0 three.0 three.1 in
      let text : name ≡ name_at script three.0 = ((name_read laws) name one.0 one.1).1 ∙ kind.named in
      let stamp_is = (stamp_read laws) script stamp two.0 two.1 in
      subst (IsReplyLine script (kind_text program ∷ name ∷ stamp ∷ begun_text program ∷ [])) (ok_is (Whole (record { request = three.0; stamp = Some two.0; state = told.Begun })) line three.2) (record {
        text = λ i. kind_text (sym kind.kind i) ∷ text i ∷ stamp_is.0 i ∷ begun_text (sym kind.kind i) ∷ [];
        of = (stamp_is.1, kind_told script three.0 (Some two.0) told.Begun kind.within (λ work. by_work script two.0 work));
        typed = tt;
        alone = refl;
      })
    where
      by_work : (script : Script) (stamp : Stamp) (work : Work) → MatchesWork script work (Some stamp) told.Begun
      by_work script stamp (Change ops) = tt
      by_work script stamp (Look program) = tt

  -- ---- transactions

  committed_read : (script : Script) (name stamp number : Word) (line : ReplyLine) → committed_in script name stamp number ≡ Ok line → IsReplyLine script (codes "tx" ∷ name ∷ stamp ∷ codes "committed" ∷ number ∷ []) line
  committed_read script name stamp number line e =
      let one = bind_ok _ _ line e in
      let two = bind_ok _ _ line one.2 in
      let three = bind_ok _ _ line two.2 in
      let four = bind_ok _ _ line three.2 in
      let kind = kind_read false script one.0 four.0 four.1 in
      let text : name ≡ name_at script four.0 = ((name_read laws) name one.0 one.1).1 ∙ kind.named in
      let stamp_is = (stamp_read laws) script stamp two.0 two.1 in
      let number_is = (number_read laws) number three.0 three.1 in
      subst (IsReplyLine script (codes "tx" ∷ name ∷ stamp ∷ codes "committed" ∷ number ∷ [])) (ok_is (Committed (record { request = four.0; stamp = two.0; number = three.0; gets = get_numbers script four.0 })) line four.2) (record {
        text = λ i. codes "tx" ∷ text i ∷ stamp_is.0 i ∷ codes "committed" ∷ number_is.0 i ∷ [];
        of = record { within = kind.within; kind = kind.kind; stamp = stamp_is.1; number = number_is.1; gets = refl };
      })

  conflict_read : (script : Script) (name stamp vertex newer : Word) (line : ReplyLine) → conflict_in script name stamp vertex newer ≡ Ok line → IsReplyLine script (codes "tx" ∷ name ∷ stamp ∷ codes "conflict" ∷ vertex ∷ newer ∷ []) line
  conflict_read script name stamp vertex newer line e =
      let one = bind_ok _ _ line e in
      let two = bind_ok _ _ line one.2 in
      let three = bind_ok _ _ line two.2 in
      let four = bind_ok _ _ line three.2 in
      let five = bind_ok _ _ line four.2 in
      let six = bind_ok _ _ line five.2 in
      let kind = kind_read false script one.0 five.0 five.1 in
      let text : name ≡ name_at script five.0 = ((name_read laws) name one.0 one.1).1 ∙ kind.named in
      let stamp_is = (stamp_read laws) script stamp two.0 two.1 in
      let vertex_is = (name_read laws) vertex three.0 three.1 in
      let newer_is = any_read script four.0 six.0 six.1 in
      let newer_text : newer ≡ name_at script six.0 = ((name_read laws) newer four.0 four.1).1 ∙ newer_is.named in
      subst (IsReplyLine script (codes "tx" ∷ name ∷ stamp ∷ codes "conflict" ∷ vertex ∷ newer ∷ [])) (ok_is (Whole (record { request = five.0; stamp = Some two.0; state = told.Conflict three.0 six.0 })) line six.2) (record {
        text = λ i. kind_text (sym kind.kind i) ∷ text i ∷ stamp_is.0 i ∷ codes "conflict" ∷ vertex_is.1 i ∷ newer_text i ∷ [];
        of = (stamp_is.1, transaction_told script five.0 (Some two.0) (told.Conflict three.0 six.0) kind.within kind.kind (λ ops k. is_request script six.0 newer_is.within));
        typed = vertex_is.0;
        alone = refl;
      })

  refused_read : (script : Script) (name stamp op reason at : Word) (line : ReplyLine) → refused_in script name stamp op reason at ≡ Ok line
      → IsReplyLine script (codes "tx" ∷ name ∷ stamp ∷ codes "refused" ∷ op ∷ reason ∷ codes "at" ∷ at ∷ []) line
  refused_read script name stamp op reason at line e =
      let one = bind_ok _ _ line e in
      let two = bind_ok _ _ line one.2 in
      let three = bind_ok _ _ line two.2 in
      let four = bind_ok _ _ line three.2 in
      let five = bind_ok _ _ line four.2 in
      let six = bind_ok _ _ line five.2 in
      let kind = kind_read false script one.0 six.0 six.1 in
      let text : name ≡ name_at script six.0 = ((name_read laws) name one.0 one.1).1 ∙ kind.named in
      let stamp_is = (stamp_read laws) script stamp two.0 two.1 in
      let op_is = (small_number_read laws) op three.0 three.1 in
      let reason_is = (reason_read laws) reason four.0 four.1 in
      let at_is = (number_read laws) at five.0 five.1 in
      subst (IsReplyLine script (codes "tx" ∷ name ∷ stamp ∷ codes "refused" ∷ op ∷ reason ∷ codes "at" ∷ at ∷ [])) (ok_is (Whole (record { request = six.0; stamp = Some two.0; state = told.Refused three.0 four.0 five.0 })) line six.2) (record {
        text = λ i. kind_text (sym kind.kind i) ∷ text i ∷ stamp_is.0 i ∷ codes "refused" ∷ op_is.0 i ∷ reason_is i ∷ codes "at" ∷ at_is.0 i ∷ [];
        of = (stamp_is.1, transaction_told script six.0 (Some two.0) (told.Refused three.0 four.0 five.0) kind.within kind.kind (λ ops k. tt));
        typed = (op_is.1, at_is.1);
        alone = refl;
      })

  -- words after `tx` that are read as a reply make its line, and what it says is valid in the script
  pub transaction_read : (script : Script) (words : List Word) (line : ReplyLine) → transaction_in script words ≡ Ok line → IsReplyLine script (codes "tx" ∷ words) line
  transaction_read script [] line e = absurd (err_is_not cause.Line line e)
  transaction_read script (name ∷ []) line e = absurd (err_is_not cause.Line line e)
  transaction_read script (name ∷ state ∷ []) line e =
      let test = passed (bytes_eq state (codes "unbegun")) (unbegun_in false script name) cause.Line line e in
      subst (λ (state : Word). IsReplyLine script (codes "tx" ∷ name ∷ state ∷ []) line) (sym (is_word state (codes "unbegun") test.0)) (unbegun_read false script name line test.1)
  transaction_read script (name ∷ stamp ∷ state ∷ []) line e =
      let test = passed (bytes_eq state (codes "begun")) (read_begun false script name stamp) cause.Line line e in
      subst (λ (state : Word). IsReplyLine script (codes "tx" ∷ name ∷ stamp ∷ state ∷ []) line) (sym (is_word state (codes "begun") test.0)) (begun_read false script name stamp line test.1)
  transaction_read script (name ∷ stamp ∷ state ∷ number ∷ []) line e =
      let test = passed (bytes_eq state (codes "committed")) (committed_in script name stamp number) cause.Line line e in
      subst (λ (state : Word). IsReplyLine script (codes "tx" ∷ name ∷ stamp ∷ state ∷ number ∷ []) line) (sym (is_word state (codes "committed") test.0)) (committed_read script name stamp number line test.1)
  transaction_read script (name ∷ stamp ∷ state ∷ vertex ∷ newer ∷ []) line e =
      let test = passed (bytes_eq state (codes "conflict")) (conflict_in script name stamp vertex newer) cause.Line line e in
      subst (λ (state : Word). IsReplyLine script (codes "tx" ∷ name ∷ stamp ∷ state ∷ vertex ∷ newer ∷ []) line) (sym (is_word state (codes "conflict") test.0)) (conflict_read script name stamp vertex newer line test.1)
  transaction_read script (a ∷ b ∷ c ∷ d ∷ x ∷ y ∷ []) line e = absurd (err_is_not cause.Line line e)
  transaction_read script (name ∷ stamp ∷ state ∷ op ∷ reason ∷ word ∷ at ∷ []) line e =
      let test = passed (bytes_eq state (codes "refused") && bytes_eq word (codes "at")) (refused_in script name stamp op reason at) cause.Line line e in
      let words = and_parts (bytes_eq state (codes "refused")) (bytes_eq word (codes "at")) test.0 in
      subst (λ (state : Word). IsReplyLine script (codes "tx" ∷ name ∷ stamp ∷ state ∷ op ∷ reason ∷ word ∷ at ∷ []) line) (sym (is_word state (codes "refused") words.0))
      (subst (λ (word : Word). IsReplyLine script (codes "tx" ∷ name ∷ stamp ∷ codes "refused" ∷ op ∷ reason ∷ word ∷ at ∷ []) line) (sym (is_word word (codes "at") words.1)) (refused_read script name stamp op reason at line test.1))
  transaction_read script (a ∷ b ∷ c ∷ d ∷ x ∷ y ∷ z ∷ w ∷ words) line e = absurd (err_is_not cause.Line line e)

  -- ---- programs

  finished_told : (script : Script) (name stamp : Word) (answer : List Word) (o : Option (ℕ × Program)) (line : ReplyLine) → program_named script name ≡ o → finished_by o script stamp answer ≡ Ok line
      → IsReplyLine script (codes "prog" ∷ name ∷ stamp ∷ codes "done" ∷ answer) line
  finished_told script name stamp answer None line h e =
      let one = bind_ok (read_stamp script.gates stamp) (λ stamp. Err cause.Request) line e in
      absurd (err_is_not cause.Request line one.2)
  finished_told script name stamp answer (Some (r, program)) line h e =
      let test = passed (is_answer_form program answer) (read_stamp script.gates stamp >>= λ stamp. answer_in program answer >>= λ answer. Ok (Whole (record { request = r; stamp = Some stamp; state = told.Finished answer }))) cause.Line line e in
      let one = bind_ok _ _ line test.1 in
      let two = bind_ok _ _ line one.2 in
      let at = program_read script name r program h in
      let stamp_is = (stamp_read laws) script stamp one.0 one.1 in
      let answer_is = (answer_read laws) program answer two.0 test.0 two.1 in
      let look : is_program script r ≡ true = ap (λ (o : Option Request). option_map_or (λ (request : Request). is_look request.work) o false) at.there ∙ ap is_look at.work in
      let Told : Option Request → Type 0 = λ o. IsSomeAnd o (λ (request : Request). MatchesWork script request.work (Some one.0) (told.Finished two.0)) in
      subst (IsReplyLine script (codes "prog" ∷ name ∷ stamp ∷ codes "done" ∷ answer)) (ok_is (Whole (record { request = r; stamp = Some one.0; state = told.Finished two.0 })) line two.2) (record {
        text = λ i. kind_text (sym look i) ∷ at.named i ∷ stamp_is.0 i ∷ codes "done" ∷ answer_is.told i;
        of = (stamp_is.1, subst Told (sym at.there) (subst (λ work. MatchesWork script work (Some one.0) (told.Finished two.0)) (sym at.work) answer_is.form));
        typed = answer_is.typed;
        alone = refl;
      })

  finished_read : (script : Script) (name stamp : Word) (answer : List Word) (line : ReplyLine) → finished_in script name stamp answer ≡ Ok line → IsReplyLine script (codes "prog" ∷ name ∷ stamp ∷ codes "done" ∷ answer) line
  finished_read script name stamp answer line e =
      let one = bind_ok _ _ line e in
      let same = ((name_read laws) name one.0 one.1).1 in
      subst (λ (name : Word). IsReplyLine script (codes "prog" ∷ name ∷ stamp ∷ codes "done" ∷ answer) line) (sym same) (finished_told script one.0 stamp answer (program_named script one.0) line refl one.2)

  -- words after `prog` that are read as a reply make its line, and what it says is valid in the script
  pub program_line_read : (script : Script) (words : List Word) (line : ReplyLine) → program_in script words ≡ Ok line → IsReplyLine script (codes "prog" ∷ words) line
  program_line_read script [] line e = absurd (err_is_not cause.Line line e)
  program_line_read script (name ∷ []) line e = absurd (err_is_not cause.Line line e)
  program_line_read script (name ∷ state ∷ []) line e =
      let test = passed (bytes_eq state (codes "unbegun")) (unbegun_in true script name) cause.Line line e in
      subst (λ (state : Word). IsReplyLine script (codes "prog" ∷ name ∷ state ∷ []) line) (sym (is_word state (codes "unbegun") test.0)) (unbegun_read true script name line test.1)
  program_line_read script (name ∷ stamp ∷ state ∷ answer) line e =
      elim (chosen (bytes_eq state (codes "done")) (finished_in script name stamp answer) (cond (bytes_eq state (codes "running") && is_empty answer) (read_begun true script name stamp) (Err cause.Line)) (Ok line) e) [
        | inl h ↦ subst (λ (state : Word). IsReplyLine script (codes "prog" ∷ name ∷ stamp ∷ state ∷ answer) line) (sym (is_word state (codes "done") h.0)) (finished_read script name stamp answer line h.1)
        | inr h ↦
            let test = passed (bytes_eq state (codes "running") && is_empty answer) (read_begun true script name stamp) cause.Line line h.1 in
            let words = and_parts (bytes_eq state (codes "running")) (is_empty answer) test.0 in
            subst (λ (state : Word). IsReplyLine script (codes "prog" ∷ name ∷ stamp ∷ state ∷ answer) line) (sym (is_word state (codes "running") words.0))
            (subst (λ (answer : List Word). IsReplyLine script (codes "prog" ∷ name ∷ stamp ∷ codes "running" ∷ answer) line) (sym ((no_words laws) answer words.1)) (begun_read true script name stamp line test.1))
      ]

  -- ---- what `get`s read

  -- the words are the line of what this `get` read
  pub record IsGot (op : ℕ) (words : Line) (got : Got) : Type 0 where
    pub number : got.op ≡ op
    pub text : words ≡ got_line got
    pub typed : op < 2 ^ 32 → IsTypedGot got

  -- words that are read as what this `get` read are its line; it is valid if the operation's number has 32 bits
  pub got_read : (op : ℕ) (words : Line) (got : Got) → got_in op words ≡ Ok got → IsGot op words got
  got_read op [] got e = absurd (err_is_not cause.Line got e)
  got_read op (word ∷ []) got e = absurd (err_is_not cause.Line got e)
  got_read op (word ∷ number ∷ state) got e =
      let test = passed (bytes_eq word (codes "got") && is_state_form state) (this_number_in op number >>= λ op. read_state state >>= λ state. Ok (record { op = op; state = state })) cause.Line got e in
      let forms = and_parts (bytes_eq word (codes "got")) (is_state_form state) test.0 in
      let one = bind_ok _ _ got test.1 in
      let two = bind_ok _ _ got one.2 in
      let number_is = (this_number_read laws) op number one.0 one.1 in
      let state_is = (state_read laws) state two.0 forms.1 two.1 in
      subst (IsGot op (word ∷ number ∷ state)) (ok_is (record { op = one.0; state = two.0 }) got two.2) (record {
        number = sym number_is.1;
        text = λ i. is_word word (codes "got") forms.0 i ∷ (number_is.0 ∙ ap decimal number_is.1) i ∷ state_is.1 i;
        typed = λ small. record { op = subst (λ n. n < 2 ^ 32) number_is.1 small; state = state_is.0 };
      })

  -- the line of what a `get` read is read as it, if it is valid
  pub got_again : (got : Got) → IsTypedGot got → got_in got.op (got_line got) ≡ Ok got
  got_again got h =
      let state = (state_again laws) got.state h.state in
      cond-true (is_state_form (state_words got.state)) _ _ state.0
      ∙ then_ok _ _ got.op _ ((this_number_again laws) got.op (omega (arith, h.op)))
      (then_ok _ _ got.state _ state.1 refl)
