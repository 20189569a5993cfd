-- The lines of a report, read one after another: a report is read only from its lines, and these are read as it.
-- Used by `read_texts_are_texts`, `text_is_of_one_report`, ReportAgain and ReportComesBack.
use Rattle.std.proofs.Common.{◌≡◌, ℕ, zero, suc, ◌+◌, ◌<◌, ◌≤◌, ◌^◌, Bool, true, false, ◌&&◌, cond, inl, inr, List, [], ◌∷◌, ◌++◌, length, map, take, refl, sym, ap, ◌∙◌, subst, append_assoc, append-nil, arith, lit<}
use Rattle.std.specs.Prelude.{IsTrue, Option, Some, None, Result, Ok, Err, codes, nat_lt, slice_get}
use Rattle.std.specs.Fmt.{decimal}
use Rattle.std.specs.List.{AllByRecursion, enumerate_from, flat_map}
use Rattle.std.specs.Str.{bytes_eq}
use Rattle.std.proofs.lemmas.Bool.{and_parts, and_from, ltb-true, ltb-false}
use Rattle.std.proofs.lemmas.List.{map-append}
use Rattle.std.proofs.lemmas.List.Concat.{flat_map-append}
use Rattle.weave_data.proofs.Lists.{all-push, length-step}
use Rattle.weave_text.specs.Cutting.{is_empty, is_skipped, kept_lines, words_of}
use Rattle.weave_text.specs.Lines.{Bytes, Word, Line}
use Rattle.graph_ops.specs.Operations.{is_get}
use Rattle.graph_ops.specs.declared.op.Op.{Op}
use Rattle.graph_ops.specs.declared.tx.Got.{Got}
use Rattle.program_defs.specs.declared.script.Script.{Script}
use Rattle.weave_report.specs.declared.fault.ReportCause.TheVariants as cause
use Rattle.weave_report.specs.declared.read.parts.Commit.{Commit}
use Rattle.weave_report.specs.declared.read.parts.Place.{Place}
use Rattle.weave_report.specs.declared.read.parts.Place.TheVariants.{Start, Replies, Gots, Pairs, Answers, Ended}
use Rattle.weave_report.specs.declared.read.parts.Reading.{Reading}
use Rattle.weave_report.specs.declared.read.parts.ReplyLine.{ReplyLine}
use Rattle.weave_report.specs.declared.read.parts.ReplyLine.TheVariants.{Whole, Committed}
use Rattle.report_rules.specs.declared.report.Pair.{Pair}
use Rattle.report_rules.specs.declared.report.Reply.{Reply}
use Rattle.report_rules.specs.declared.report.ReplyState.TheVariants as told
use Rattle.report_rules.specs.declared.report.Report.{Report}
use Rattle.report_rules.specs.declared.report.StepAnswer.{StepAnswer}
use Rattle.weave_data.specs.Steps.{◌>>=◌}
use Rattle.weave_report.specs.ReadingFields.{ReadResult, this_number_in}
use Rattle.weave_report.specs.ReadingStates.{is_step_form, step_answer_in}
use Rattle.weave_report.specs.ReadingReplies.{ops_of_request, program_in, transaction_in}
use Rattle.weave_report.specs.Reading.{reading, with_reply_read, with_pair, with_order, with_answer, commit_reply, behind_commit, after_first, behind_reply, pair_in, order_in, after_pairs, after_replies, next_get, after_got, did_in, after_answers, after_report_line_at, after_report_line, after_any_line, behind_line, after_lines, whole_report, Refusal, report_start}
use Rattle.report_rules.specs.ReportOf.{IsReportOf, IsReplyOf, IsPairOf, is_request_of, numbers_of_gets}
use Rattle.weave_report.specs.ReportText.{did_line, got_line, kind_text, name_at, order_line, pair_line, reply_lines, report_lines, stamp_text}
use Rattle.weave_report.specs.TextOf.{IsName, IsTypedGot, IsTypedReplyState, IsTypedReport, IsTypedStepAnswer, HasDistinctNames}
use Rattle.weave_data.proofs.Steps.{bind_ok, ok_is}
use Rattle.weave_report.proofs.ReadSteps.{err_is_not, passed, chosen, is_word}
use Rattle.weave_report.proofs.FieldsRead.{name_read, names_read, this_number_read}
use Rattle.weave_report.proofs.StatesRead.{no_words}
use Rattle.weave_report.proofs.AnswersRead.{step_answer_read}
use Rattle.weave_report.proofs.FewOps.{few_ops_at}
use Rattle.weave_report.proofs.RequestsRead.{any_read, all_read, is_request, transaction_told}
use Rattle.weave_report.proofs.RepliesRead.{IsWhole, IsCommit, IsReplyLine, commit_line, got_read, transaction_read, program_line_read}
use Rattle.weave_report.specs.TextLaws.{TextLaws}

module _ (laws : TextLaws) where
  -- ---- lines that were read so far

  -- the first line of each report
  abbrev pub first_line : Line
  first_line = codes "report" ∷ codes "1" ∷ []

  -- the first line and the replies
  abbrev pub reply_part : Script → Report → List Line
  reply_part script report = first_line ∷ [] ++ flat_map (reply_lines script) report.replies

  -- the lines of the replies, and then those of the pairs
  abbrev pub pair_part : Script → Report → List Line
  pair_part script report = reply_part script report ++ map (pair_line script) report.pairs

  -- and the order with the answers of steps
  abbrev pub answer_part : Script → Report → List Line
  answer_part script report = pair_part script report ++ order_line script report.order ∷ [] ++ map did_line (enumerate_from 1 report.answers)

  -- the lines of a report up to a place
  abbrev pub lines_so_far : Script → Place → Report → List Line
  lines_so_far script Start report = []
  lines_so_far script Replies report = reply_part script report
  lines_so_far script (Gots commit answers) report = reply_part script report ++ (commit_line laws) script commit ∷ map got_line answers
  lines_so_far script Pairs report = pair_part script report
  lines_so_far script Answers report = answer_part script report
  lines_so_far script Ended report = report_lines script report

  -- what holds of a report of which a part was read
  pub record IsRead (script : Script) (report : Report) : Type 0 where
    pub replies : AllByRecursion (IsReplyOf script) report.replies
    pub typed_replies : AllByRecursion (λ (reply : Reply). IsTypedReplyState reply.state) report.replies
    pub pairs : AllByRecursion (IsPairOf script) report.pairs
    pub typed_pairs : AllByRecursion (λ (pair : Pair). IsName pair.vertex) report.pairs
    pub order : AllByRecursion (λ r. IsTrue (is_request_of script r)) report.order
    pub typed_answers : AllByRecursion IsTypedStepAnswer report.answers
    pub few_answers : length report.answers < 2 ^ 64

  -- only replies were read so far
  pub record HasReplies (report : Report) : Type 0 where
    pub no_pairs : report.pairs ≡ []
    pub no_order : report.order ≡ []
    pub no_answers : report.answers ≡ []

  -- only replies and pairs
  pub record HasPairs (report : Report) : Type 0 where
    pub no_order : report.order ≡ []
    pub no_answers : report.answers ≡ []

  -- the answers to a commit's first `get`s, and one at least is still to come
  pub record AnswersFirst (script : Script) (commit : Commit) (answers : List Got) : Type 0 where
    pub of : (IsCommit laws) script commit
    pub numbers : map (λ (got : Got). got.op) answers ≡ take (length answers) commit.gets
    pub fewer : length answers < length commit.gets
    pub typed : AllByRecursion IsTypedGot answers

  -- the report so far is one that is read up to this place
  abbrev pub IsAtPlace : Script → Place → Report → Type 0
  IsAtPlace script Start report = (report.replies ≡ []) × HasReplies report
  IsAtPlace script Replies report = HasReplies report
  IsAtPlace script (Gots commit answers) report = HasReplies report × AnswersFirst script commit answers
  IsAtPlace script Pairs report = HasPairs report
  IsAtPlace script Answers report = Unit {0}
  IsAtPlace script Ended report = Unit {0}

  -- these lines led to this reading
  pub record LeadsTo (script : Script) (lines : List Line) (next : Reading) : Type 0 where
    pub read : IsRead script next.report
    pub place : IsAtPlace script next.place next.report
    pub told : lines_so_far script next.place next.report ≡ lines

  -- ---- one more

  reply_added : (script : Script) (report : Report) (reply : Reply) → IsRead script report → IsReplyOf script reply → IsTypedReplyState reply.state → IsRead script (with_reply_read report reply)
  reply_added script report reply h of typed = record {
    replies = all-push (IsReplyOf script) report.replies reply h.replies of;
    typed_replies = all-push (λ (reply : Reply). IsTypedReplyState reply.state) report.replies reply h.typed_replies typed;
    pairs = h.pairs;
    typed_pairs = h.typed_pairs;
    order = h.order;
    typed_answers = h.typed_answers;
    few_answers = h.few_answers;
  }

  reply_told : (script : Script) (report : Report) (reply : Reply) → reply_part script (with_reply_read report reply) ≡ reply_part script report ++ reply_lines script reply
  reply_told script report reply =
      ap (λ lines. first_line ∷ lines) (flat_map-append (reply_lines script) report.replies (reply ∷ []) ∙ ap (λ lines. flat_map (reply_lines script) report.replies ++ lines) (append-nil (reply_lines script reply)))

  -- ---- replies

  whole_leads : (script : Script) (report : Report) (line : Line) (reply : Reply) → IsRead script report → HasReplies report → (IsWhole laws) script line reply
      → LeadsTo script (reply_part script report ++ line ∷ []) (reading (with_reply_read report reply) Replies)
  whole_leads script report line reply h place whole = record {
    read = reply_added script report reply h whole.of whole.typed;
    place = record { no_pairs = place.no_pairs; no_order = place.no_order; no_answers = place.no_answers };
    told = reply_told script report reply ∙ ap (λ lines. reply_part script report ++ lines) (λ i. sym whole.text i ∷ whole.alone i);
  }

  -- the gets of a transaction's operations are answered
  commit_of : (script : Script) (commit : Commit) (answers : List Got) → (IsCommit laws) script commit → map (λ (got : Got). got.op) answers ≡ commit.gets → IsReplyOf script (commit_reply commit answers)
  commit_of script commit answers h numbers =
      (h.stamp, transaction_told script commit.request (Some commit.stamp) (told.Committed commit.number answers) h.within h.kind (λ ops k. numbers ∙ h.gets ∙ ap (numbers_of_gets 1) k))

  commit_told : (script : Script) (commit : Commit) (answers : List Got) → (IsCommit laws) script commit → reply_lines script (commit_reply commit answers) ≡ (commit_line laws) script commit ∷ map got_line answers
  commit_told script commit answers h = ap (λ program. (kind_text program ∷ name_at script commit.request ∷ stamp_text script.gates commit.stamp ∷ codes "committed" ∷ decimal commit.number ∷ []) ∷ map got_line answers) h.kind

  take_all : {A : Type 0} (n : ℕ) (xs : List A) → length xs ≤ n → take n xs ≡ xs
  take_all zero [] h = refl
  take_all (suc n) [] h = refl
  take_all zero (x ∷ xs) h = absurd (omega (arith, h))
  take_all (suc n) (x ∷ xs) h = ap (λ xs. x ∷ xs) (take_all n xs (omega arith))

  commit_leads : (script : Script) (report : Report) (commit : Commit) (answers : List Got) → IsRead script report → HasReplies report → (IsCommit laws) script commit
      → map (λ (got : Got). got.op) answers ≡ take (length answers) commit.gets → AllByRecursion IsTypedGot answers
      → LeadsTo script (reply_part script report ++ (commit_line laws) script commit ∷ map got_line answers) (behind_commit report commit answers)
  commit_leads script report commit answers h place of numbers typed = by_test (nat_lt (length answers) (length commit.gets)) refl
    where
      by_test : (b : Bool) → nat_lt (length answers) (length commit.gets) ≡ b
          → LeadsTo script (reply_part script report ++ (commit_line laws) script commit ∷ map got_line answers) (cond b (reading report (Gots commit answers)) (reading (with_reply_read report (commit_reply commit answers)) Replies))
      by_test true e = record { read = h; place = (place, record { of = of; numbers = numbers; fewer = ltb-true (length answers) (length commit.gets) e; typed = typed }); told = refl }
      by_test false e =
          let all = numbers ∙ take_all (length answers) commit.gets (ltb-false (length answers) (length commit.gets) e) in
          record {
            read = reply_added script report (commit_reply commit answers) h (commit_of script commit answers of all) (of.number, typed);
            place = record { no_pairs = place.no_pairs; no_order = place.no_order; no_answers = place.no_answers };
            told = reply_told script report (commit_reply commit answers) ∙ ap (λ lines. reply_part script report ++ lines) (commit_told script commit answers of);
          }

  reply_leads : (script : Script) (report : Report) (line : Line) (reply : ReplyLine) → IsRead script report → HasReplies report → (IsReplyLine laws) script line reply → LeadsTo script (reply_part script report ++ line ∷ []) (behind_reply report reply)
  reply_leads script report line (Whole reply) h place k = whole_leads script report line reply h place k
  reply_leads script report line (Committed commit) h place k =
      subst (λ line. LeadsTo script (reply_part script report ++ line ∷ []) (behind_reply report (Committed commit))) (sym k.text) (commit_leads script report commit [] h place k.of refl tt)

  -- ---- pairs and the order

  -- a pair that is read
  record IsPair (script : Script) (words : List Word) (pair : Pair) : Type 0 where
    text : codes "settled" ∷ words ≡ pair_line script pair
    of : IsPairOf script pair
    vertex : IsName pair.vertex

  pair_read : (script : Script) (words : List Word) (pair : Pair) → pair_in script words ≡ Ok pair → IsPair script words pair
  pair_read script [] pair e = absurd (err_is_not cause.Line pair e)
  pair_read script (a ∷ []) pair e = absurd (err_is_not cause.Line pair e)
  pair_read script (a ∷ b ∷ []) pair e = absurd (err_is_not cause.Line pair e)
  pair_read script (vertex ∷ earlier ∷ later ∷ []) pair e =
      let one = bind_ok _ _ pair e in
      let two = bind_ok _ _ pair one.2 in
      let three = bind_ok _ _ pair two.2 in
      let four = bind_ok _ _ pair three.2 in
      let five = bind_ok _ _ pair four.2 in
      let vertex_is = (name_read laws) vertex one.0 one.1 in
      let earlier_is = any_read script two.0 four.0 four.1 in
      let later_is = any_read script three.0 five.0 five.1 in
      let earlier_text : earlier ≡ name_at script four.0 = ((name_read laws) earlier two.0 two.1).1 ∙ earlier_is.named in
      let later_text : later ≡ name_at script five.0 = ((name_read laws) later three.0 three.1).1 ∙ later_is.named in
      subst (IsPair script (vertex ∷ earlier ∷ later ∷ [])) (ok_is (record { vertex = one.0; earlier = four.0; later = five.0 }) pair five.2) (record {
        text = λ i. codes "settled" ∷ vertex_is.1 i ∷ earlier_text i ∷ later_text i ∷ [];
        of = and_from _ _ (is_request script four.0 earlier_is.within) (is_request script five.0 later_is.within);
        vertex = vertex_is.0;
      })
  pair_read script (a ∷ b ∷ c ∷ d ∷ words) pair e = absurd (err_is_not cause.Line pair e)

  pair_leads : (script : Script) (report : Report) (words : List Word) (pair : Pair) → IsRead script report → HasPairs report → IsPair script words pair
      → LeadsTo script (pair_part script report ++ (codes "settled" ∷ words) ∷ []) (reading (with_pair report pair) Pairs)
  pair_leads script report words pair h place k =
      let front = reply_part script report in
      record {
        read = record {
          replies = h.replies;
          typed_replies = h.typed_replies;
          pairs = all-push (IsPairOf script) report.pairs pair h.pairs k.of;
          typed_pairs = all-push (λ (pair : Pair). IsName pair.vertex) report.pairs pair h.typed_pairs k.vertex;
          order = h.order;
          typed_answers = h.typed_answers;
          few_answers = h.few_answers;
        };
        place = record { no_order = place.no_order; no_answers = place.no_answers };
        told = ap (λ lines. front ++ lines) (map-append (pair_line script) report.pairs (pair ∷ [])) ∙ sym (append_assoc front (map (pair_line script) report.pairs) (pair_line script pair ∷ []))
            ∙ ap (λ line. pair_part script report ++ line ∷ []) (sym k.text);
      }

  order_leads : (script : Script) (report : Report) (words : List Word) (order : List ℕ) → IsRead script report → HasPairs report → order_in script words ≡ Ok order
      → LeadsTo script (pair_part script report ++ (codes "order" ∷ words) ∷ []) (reading (with_order report order) Answers)
  order_leads script report words order h place e =
      let one = bind_ok _ _ order e in
      let names = (names_read laws) [] words one.0 one.1 in
      let all = all_read script [] one.0 order one.2 in
      let text : words ≡ map (name_at script) order = sym names.0 ∙ all.named ∙ ap (map (name_at script)) (sym all.behind) in
      record {
        read = record {
          replies = h.replies;
          typed_replies = h.typed_replies;
          pairs = h.pairs;
          typed_pairs = h.typed_pairs;
          order = subst (AllByRecursion (λ r. IsTrue (is_request_of script r))) (sym all.behind) all.each;
          typed_answers = h.typed_answers;
          few_answers = h.few_answers;
        };
        place = tt;
        told = ap (λ answers. pair_part script report ++ order_line script order ∷ [] ++ map did_line (enumerate_from 1 answers)) place.no_answers
            ∙ append-nil (pair_part script report ++ order_line script order ∷ []) ∙ ap (λ words. pair_part script report ++ (codes "order" ∷ words) ∷ []) (sym text);
      }

  pairs_lead : (script : Script) (report : Report) (lines : List Line) (line : Line) (next : Reading) → IsRead script report → HasPairs report → pair_part script report ≡ lines
      → after_pairs script report line ≡ Ok next → LeadsTo script (lines ++ line ∷ []) next
  pairs_lead script report lines [] next h place so_far e = absurd (err_is_not cause.Line next e)
  pairs_lead script report lines (word ∷ words) next h place so_far e =
      elim (chosen (bytes_eq word (codes "settled")) (pair_in script words >>= λ pair. Ok (reading (with_pair report pair) Pairs))
      (cond (bytes_eq word (codes "order")) (order_in script words >>= λ order. Ok (reading (with_order report order) Answers)) (Err cause.Line)) (Ok next) e) [
        | inl k ↦
            let one = bind_ok _ _ next k.1 in
            moved word (codes "settled") words (reading (with_pair report one.0) Pairs) (is_word word (codes "settled") k.0) (ok_is (reading (with_pair report one.0) Pairs) next one.2) (pair_leads script report words one.0 h place (pair_read script words one.0 one.1))
        | inr k ↦
            let test = passed (bytes_eq word (codes "order")) (order_in script words >>= λ order. Ok (reading (with_order report order) Answers)) cause.Line next k.1 in
            let one = bind_ok _ _ next test.1 in
            moved word (codes "order") words (reading (with_order report one.0) Answers) (is_word word (codes "order") test.0) (ok_is (reading (with_order report one.0) Answers) next one.2) (order_leads script report words one.0 h place one.1)
      ]
    where
      moved : (word text : Word) (words : List Word) (made : Reading) → word ≡ text → made ≡ next → LeadsTo script (pair_part script report ++ (text ∷ words) ∷ []) made → LeadsTo script (lines ++ (word ∷ words) ∷ []) next
      moved word text words made is same leads =
          subst (LeadsTo script (lines ++ (word ∷ words) ∷ [])) same
          (subst (λ (word : Word). LeadsTo script (lines ++ (word ∷ words) ∷ []) made) (sym is) (subst (λ (lines : List Line). LeadsTo script (lines ++ (text ∷ words) ∷ []) made) so_far leads))

  replies_lead : (script : Script) (report : Report) (line : Line) (next : Reading) → IsRead script report → HasReplies report → after_replies script report line ≡ Ok next
      → LeadsTo script (reply_part script report ++ line ∷ []) next
  replies_lead script report [] next h place e = absurd (err_is_not cause.Line next e)
  replies_lead script report (word ∷ words) next h place e =
      elim (chosen (bytes_eq word (codes "tx")) (transaction_in script words >>= λ line. Ok (behind_reply report line))
      (cond (bytes_eq word (codes "prog")) (program_in script words >>= λ line. Ok (behind_reply report line)) (after_pairs script report (word ∷ words))) (Ok next) e) [
        | inl k ↦
            let one = bind_ok _ _ next k.1 in
            led (codes "tx") one.0 (is_word word (codes "tx") k.0) (ok_is (behind_reply report one.0) next one.2) ((transaction_read laws) script words one.0 one.1)
        | inr k ↦ elim (chosen (bytes_eq word (codes "prog")) (program_in script words >>= λ line. Ok (behind_reply report line)) (after_pairs script report (word ∷ words)) (Ok next) k.1) [
          | inl j ↦
              let one = bind_ok _ _ next j.1 in
              led (codes "prog") one.0 (is_word word (codes "prog") j.0) (ok_is (behind_reply report one.0) next one.2) ((program_line_read laws) script words one.0 one.1)
          | inr j ↦
              let no_pair : pair_part script report ≡ reply_part script report = ap (λ pairs. reply_part script report ++ map (pair_line script) pairs) place.no_pairs ∙ append-nil (reply_part script report) in
              pairs_lead script report (reply_part script report) (word ∷ words) next h (record { no_order = place.no_order; no_answers = place.no_answers }) no_pair j.1
        ]
      ]
    where
      led : (text : Word) (line : ReplyLine) → word ≡ text → behind_reply report line ≡ next → (IsReplyLine laws) script (text ∷ words) line → LeadsTo script (reply_part script report ++ (word ∷ words) ∷ []) next
      led text line is same k =
          subst (LeadsTo script (reply_part script report ++ (word ∷ words) ∷ [])) same
          (subst (λ (word : Word). LeadsTo script (reply_part script report ++ (word ∷ words) ∷ []) (behind_reply report line)) (sym is) (reply_leads script report (text ∷ words) line h place k))

  -- ---- what `get`s read

  numbers_small : (n : ℕ) (ops : List Op) (k number : ℕ) → slice_get (numbers_of_gets n ops) k ≡ Some number → number < n + length ops
  numbers_small n [] k number e = absurd cc
  numbers_small n (op ∷ ops) k number e = by (is_get op) (numbers_small (n + 1) ops) k e
    where
      by : (b : Bool) → ((k number : ℕ) → slice_get (numbers_of_gets (n + 1) ops) k ≡ Some number → number < n + 1 + length ops)
          → (k : ℕ) → slice_get (cond b (n ∷ numbers_of_gets (n + 1) ops) (numbers_of_gets (n + 1) ops)) k ≡ Some number → number < n + length (op ∷ ops)
      by true rest zero e = let same : n ≡ number = cc in omega (arith, same)
      by true rest (suc k) e = let more = rest k number e in omega (arith, more)
      by false rest k e = let more = rest k number e in omega (arith, more)

  get_is_small : (script : Script) (commit : Commit) (answers : List Got) (op : ℕ) → HasDistinctNames script → (IsCommit laws) script commit → next_get commit answers ≡ Some op → op < 2 ^ 32
  get_is_small script commit answers op tells of e =
      let at : slice_get (numbers_of_gets 1 (ops_of_request script commit.request)) (length answers) ≡ Some op = ap (λ gets. slice_get gets (length answers)) (sym of.gets) ∙ e in
      omega (arith, numbers_small 1 (ops_of_request script commit.request) (length answers) op at, few_ops_at script commit.request tells)

  take_next : {A : Type 0} (n : ℕ) (xs : List A) (x : A) → slice_get xs n ≡ Some x → take (suc n) xs ≡ take n xs ++ x ∷ []
  take_next n [] x e = absurd cc
  take_next zero (y ∷ xs) x e = let same : y ≡ x = cc in ap (λ x. x ∷ []) same
  take_next (suc n) (y ∷ xs) x e = ap (λ xs. y ∷ xs) (take_next n xs x e)

  gots_lead : (script : Script) (report : Report) (commit : Commit) (answers : List Got) (line : Line) (o : Option ℕ) (next : Reading) → HasDistinctNames script → IsRead script report → HasReplies report → AnswersFirst script commit answers
      → next_get commit answers ≡ o → after_got o report commit answers line ≡ Ok next → LeadsTo script (reply_part script report ++ (commit_line laws) script commit ∷ map got_line answers ++ line ∷ []) next
  gots_lead script report commit answers line None next tells h place first k e = absurd (err_is_not cause.Line next e)
  gots_lead script report commit answers line (Some op) next tells h place first k e =
      let one = bind_ok _ _ next e in
      let got = (got_read laws) op line one.0 one.1 in
      let all = answers ++ one.0 ∷ [] in
      let numbers : map (λ (got : Got). got.op) all ≡ take (length all) commit.gets =
      map-append (λ (got : Got). got.op) answers (one.0 ∷ []) ∙ (λ i. first.numbers i ++ got.number i ∷ []) ∙ sym (take_next (length answers) commit.gets op k) ∙ ap (λ n. take n commit.gets) (sym (length-step answers one.0)) in
      let typed = all-push IsTypedGot answers one.0 first.typed (got.typed (get_is_small script commit answers op tells first.of k)) in
      let front = reply_part script report in
      let lines : front ++ (commit_line laws) script commit ∷ map got_line all ≡ front ++ (commit_line laws) script commit ∷ map got_line answers ++ line ∷ [] =
      ap (λ lines. front ++ (commit_line laws) script commit ∷ lines) (map-append got_line answers (one.0 ∷ []) ∙ ap (λ line. map got_line answers ++ line ∷ []) (sym got.text))
      ∙ sym (append_assoc front ((commit_line laws) script commit ∷ map got_line answers) (line ∷ [])) in
      subst (λ (lines : List Line). LeadsTo script lines next) lines (subst (LeadsTo script (front ++ (commit_line laws) script commit ∷ map got_line all)) (ok_is (behind_commit report commit all) next one.2) (commit_leads script report commit all h place first.of numbers typed))

  -- ---- answers of steps

  enumerate-push : {A : Type 0} (n : ℕ) (xs : List A) (x : A) → enumerate_from n (xs ++ x ∷ []) ≡ enumerate_from n xs ++ (n + length xs, x) ∷ []
  enumerate-push n [] x = let same : n ≡ n + 0 = omega arith in ap (λ (n : ℕ). (n, x) ∷ []) same
  enumerate-push n (y ∷ xs) x =
      let same : (n + 1) + length xs ≡ n + length (y ∷ xs) = omega arith in
      ap (λ rest. (n, y) ∷ rest) (enumerate-push (n + 1) xs x ∙ ap (λ (m : ℕ). enumerate_from (n + 1) xs ++ (m, x) ∷ []) same)

  record IsDid (number : ℕ) (words : List Word) (answer : StepAnswer) : Type 0 where
    text : codes "did" ∷ words ≡ did_line (number, answer)
    typed : IsTypedStepAnswer answer
    small : number < 2 ^ 64

  did_read : (number : ℕ) (words : List Word) (answer : StepAnswer) → did_in number words ≡ Ok answer → IsDid number words answer
  did_read number [] answer e = absurd (err_is_not cause.Line answer e)
  did_read number (word ∷ words) answer e =
      let test = passed (is_step_form words) (this_number_in number word >>= λ number. step_answer_in words) cause.Line answer e in
      let one = bind_ok _ _ answer test.1 in
      let number_is = (this_number_read laws) number word one.0 one.1 in
      let answer_is = (step_answer_read laws) words answer test.0 one.2 in
      record { text = λ i. codes "did" ∷ number_is.0 i ∷ answer_is.told i; typed = answer_is.typed; small = number_is.2 }

  did_leads : (script : Script) (report : Report) (words : List Word) (answer : StepAnswer) → IsRead script report → IsDid (length report.answers + 1) words answer
      → LeadsTo script (answer_part script report ++ (codes "did" ∷ words) ∷ []) (reading (with_answer report answer) Answers)
  did_leads script report words answer h k =
      let front = pair_part script report ++ order_line script report.order ∷ [] in
      let number : 1 + length report.answers ≡ length report.answers + 1 = omega arith in
      record {
        read = record {
          replies = h.replies;
          typed_replies = h.typed_replies;
          pairs = h.pairs;
          typed_pairs = h.typed_pairs;
          order = h.order;
          typed_answers = all-push IsTypedStepAnswer report.answers answer h.typed_answers k.typed;
          few_answers = omega (arith, length-step report.answers answer, k.small);
        };
        place = tt;
        told = ap (λ answers. front ++ map did_line answers) (enumerate-push 1 report.answers answer ∙ ap (λ (n : ℕ). enumerate_from 1 report.answers ++ (n, answer) ∷ []) number)
            ∙ ap (λ lines. front ++ lines) (map-append did_line (enumerate_from 1 report.answers) ((length report.answers + 1, answer) ∷ []))
            ∙ sym (append_assoc front (map did_line (enumerate_from 1 report.answers)) (did_line (length report.answers + 1, answer) ∷ []))
            ∙ ap (λ line. answer_part script report ++ line ∷ []) (sym k.text);
      }

  answers_lead : (script : Script) (report : Report) (line : Line) (next : Reading) → IsRead script report → after_answers report line ≡ Ok next → LeadsTo script (answer_part script report ++ line ∷ []) next
  answers_lead script report [] next h e = absurd (err_is_not cause.Line next e)
  answers_lead script report (word ∷ words) next h e =
      elim (chosen (bytes_eq word (codes "did")) (did_in (length report.answers + 1) words >>= λ answer. Ok (reading (with_answer report answer) Answers))
      (cond (bytes_eq word (codes "end") && is_empty words) (Ok (reading report Ended)) (Err cause.Line)) (Ok next) e) [
        | inl k ↦
            let one = bind_ok _ _ next k.1 in
            subst (λ (word : Word). LeadsTo script (answer_part script report ++ (word ∷ words) ∷ []) next) (sym (is_word word (codes "did") k.0))
            (subst (LeadsTo script (answer_part script report ++ (codes "did" ∷ words) ∷ [])) (ok_is (reading (with_answer report one.0) Answers) next one.2)
            (did_leads script report words one.0 h (did_read (length report.answers + 1) words one.0 one.1)))
        | inr k ↦
            let test = passed (bytes_eq word (codes "end") && is_empty words) (Ok (reading report Ended)) cause.Line next k.1 in
            let end = and_parts (bytes_eq word (codes "end")) (is_empty words) test.0 in
            let same : word ∷ words ≡ codes "end" ∷ [] = λ i. is_word word (codes "end") end.0 i ∷ (no_words laws) words end.1 i in
            subst (λ (line : Line). LeadsTo script (answer_part script report ++ line ∷ []) next) (sym same)
            (subst (LeadsTo script (answer_part script report ++ (codes "end" ∷ []) ∷ [])) (ok_is (reading report Ended) next test.1) (record { read = h; place = tt; told = refl }))
      ]

  -- ---- any line

  first_leads : (script : Script) (report : Report) (line : Line) (next : Reading) → IsRead script report → report.replies ≡ [] → HasReplies report → after_first report line ≡ Ok next → LeadsTo script (line ∷ []) next
  first_leads script report [] next h none place e = absurd (err_is_not cause.Line next e)
  first_leads script report (a ∷ []) next h none place e = absurd (err_is_not cause.Line next e)
  first_leads script report (word ∷ version ∷ []) next h none place e =
      let test = passed (bytes_eq word (codes "report") && bytes_eq version (codes "1")) (Ok (reading report Replies)) cause.Line next e in
      let words = and_parts (bytes_eq word (codes "report")) (bytes_eq version (codes "1")) test.0 in
      let same : word ∷ version ∷ [] ≡ first_line = λ i. is_word word (codes "report") words.0 i ∷ is_word version (codes "1") words.1 i ∷ [] in
      subst (LeadsTo script ((word ∷ version ∷ []) ∷ [])) (ok_is (reading report Replies) next test.1) (record {
        read = h;
        place = place;
        told = ap (λ replies. first_line ∷ [] ++ flat_map (reply_lines script) replies) none ∙ ap (λ line. line ∷ []) (sym same);
      })
  first_leads script report (a ∷ b ∷ c ∷ words) next h none place e = absurd (err_is_not cause.Line next e)

  line_leads : (script : Script) (place : Place) (report : Report) (line : Line) (next : Reading) → HasDistinctNames script → IsRead script report → IsAtPlace script place report
      → after_report_line_at script place report line ≡ Ok next → LeadsTo script (lines_so_far script place report ++ line ∷ []) next
  line_leads script Start report line next tells h at e = first_leads script report line next h at.0 at.1 e
  line_leads script Replies report line next tells h at e = replies_lead script report line next h at e
  line_leads script (Gots commit answers) report line next tells h at e = gots_lead script report commit answers line (next_get commit answers) next tells h at.0 at.1 refl e
  line_leads script Pairs report line next tells h at e = pairs_lead script report (pair_part script report) line next h at refl e
  line_leads script Answers report line next tells h at e = answers_lead script report line next h e
  line_leads script Ended report line next tells h at e = absurd (err_is_not cause.Line next e)

  -- ---- all lines

  -- the lines that aren't skipped, one after another
  abbrev pub after_kept : Script → Reading → List Line → ReadResult Reading
  after_kept script before [] = Ok before
  after_kept script before (line ∷ lines) = after_report_line script before line >>= λ next. after_kept script next lines

  lines_lead : (script : Script) (before : Reading) (so_far lines : List Line) (last : Reading) → HasDistinctNames script → LeadsTo script so_far before → after_kept script before lines ≡ Ok last → LeadsTo script (so_far ++ lines) last
  lines_lead script before so_far [] last tells h e = subst (λ lines. LeadsTo script lines last) (sym (append-nil so_far)) (subst (LeadsTo script so_far) (ok_is before last e) h)
  lines_lead script before so_far (line ∷ lines) last tells h e =
      let one = bind_ok _ _ last e in
      let led = line_leads script before.place before.report line one.0 tells h.read h.place one.1 in
      let next : LeadsTo script (so_far ++ line ∷ []) one.0 = subst (λ (so_far : List Line). LeadsTo script (so_far ++ line ∷ []) one.0) h.told led in
      subst (λ lines. LeadsTo script lines last) (append_assoc so_far (line ∷ []) lines) (lines_lead script one.0 (so_far ++ line ∷ []) lines last tells next one.2)

  start_leads : (script : Script) → LeadsTo script [] report_start
  start_leads script = record {
    read = record { replies = tt; typed_replies = tt; pairs = tt; typed_pairs = tt; order = tt; typed_answers = tt; few_answers = lit< tt };
    place = (refl, record { no_pairs = refl; no_order = refl; no_answers = refl });
    told = refl;
  }

  -- what is read to its end has exactly these lines
  pub all_read_is_told : (script : Script) (lines : List Line) (report : Report) → HasDistinctNames script → after_kept script report_start lines ≡ Ok (reading report Ended) → (lines ≡ report_lines script report) × IsReportOf script report × IsTypedReport report
  all_read_is_told script lines report tells e =
      let led = lines_lead script report_start [] lines (reading report Ended) tells (start_leads script) e in (
        sym led.told,
        record { replies = led.read.replies; pairs = led.read.pairs; order = led.read.order },
        record { replies = led.read.typed_replies; pairs = led.read.typed_pairs; answers = led.read.typed_answers; few_answers = led.read.few_answers },
      )

  -- ---- lines with their numbers

  ended : (script : Script) (number : ℕ) (place : Place) (report last : Report) → whole_report number place report ≡ Ok last → reading report place ≡ reading last Ended
  ended script number Ended report last e = ap (λ report. reading report Ended) (whole_is report last e)
    where
      whole_is : (a b : Report) → ◌≡◌ {A = Result Report Refusal} (Ok a) (Ok b) → a ≡ b
      whole_is a b e = cc
  ended script number Start report last e = absurd cc
  ended script number Replies report last e = absurd cc
  ended script number (Gots commit answers) report last e = absurd cc
  ended script number Pairs report last e = absurd cc
  ended script number Answers report last e = absurd cc

  behind_ok : (number : ℕ) (one : ReadResult Reading) (rest : Reading → Result Report Refusal) (report : Report) → behind_line number one rest ≡ Ok report → (next : Reading) × (one ≡ Ok next) × (rest next ≡ Ok report)
  behind_ok number (Ok next) rest report e = (next, refl, e)
  behind_ok number (Err why) rest report e = absurd cc

  skip_or_read : (script : Script) (before : Reading) (line : Bytes) (lines : List Bytes) (b : Bool) (next : Reading) (goal : ReadResult Reading) → is_skipped line ≡ b
      → cond b (Ok before) (after_report_line script before (words_of line)) ≡ Ok next → after_kept script next (kept_lines lines) ≡ goal
      → after_kept script before (cond b (kept_lines lines) (words_of line ∷ kept_lines lines)) ≡ goal
  skip_or_read script before line lines true next goal h e k = ap (λ before. after_kept script before (kept_lines lines)) (ok_is before next e) ∙ k
  skip_or_read script before line lines false next goal h e k = ap (λ one. one >>= λ next. after_kept script next (kept_lines lines)) e ∙ k

  -- if lines are read as a report, those of them that aren't skipped are read to its end
  pub kept_of_lines : (script : Script) (number : ℕ) (before : Reading) (lines : List Bytes) (report : Report) → after_lines script number before lines ≡ Ok report → after_kept script before (kept_lines lines) ≡ Ok (reading report Ended)
  kept_of_lines script number before [] report e = ap (λ (last : Reading). Ok last) (ended script number before.place before.report report e)
  kept_of_lines script number before (line ∷ lines) report e =
      let one = behind_ok number (after_any_line script before line) (λ next. after_lines script (number + 1) next lines) report e in
      by_test (is_skipped line) refl one.0 one.1 (kept_of_lines script (number + 1) one.0 lines report one.2)
    where
      by_test : (b : Bool) → is_skipped line ≡ b → (next : Reading) → after_any_line script before line ≡ Ok next → after_kept script next (kept_lines lines) ≡ Ok (reading report Ended)
          → after_kept script before (kept_lines (line ∷ lines)) ≡ Ok (reading report Ended)
      by_test b h next e k =
          ap (λ b. after_kept script before (cond b (kept_lines lines) (words_of line ∷ kept_lines lines))) h
          ∙ skip_or_read script before line lines b next _ h (sym (ap (λ b. cond b (Ok before) (after_report_line script before (words_of line))) h) ∙ e) k

  -- and if those that aren't skipped are read to a report's end, the lines are read as this report
  pub lines_of_kept : (script : Script) (number : ℕ) (before : Reading) (lines : List Bytes) (report : Report) → after_kept script before (kept_lines lines) ≡ Ok (reading report Ended) → after_lines script number before lines ≡ Ok report
  lines_of_kept script number before [] report e =
      let same : before ≡ reading report Ended = ok_is before (reading report Ended) e in ap (λ (before : Reading). whole_report number before.place before.report) same
  lines_of_kept script number before (line ∷ lines) report e = by_test (is_skipped line) refl (λ number next k. lines_of_kept script number next lines report k)
    where
      by_test : (b : Bool) → is_skipped line ≡ b → ((number : ℕ) (next : Reading) → after_kept script next (kept_lines lines) ≡ Ok (reading report Ended) → after_lines script number next lines ≡ Ok report)
          → after_lines script number before (line ∷ lines) ≡ Ok report
      by_test true h rest =
          ap (λ b. behind_line number (cond b (Ok before) (after_report_line script before (words_of line))) (λ next. after_lines script (number + 1) next lines)) h
          ∙ rest (number + 1) before (sym (ap (λ b. after_kept script before (cond b (kept_lines lines) (words_of line ∷ kept_lines lines))) h) ∙ e)
      by_test false h rest =
          let left = sym (ap (λ b. after_kept script before (cond b (kept_lines lines) (words_of line ∷ kept_lines lines))) h) ∙ e in
          let one = bind_ok _ _ (reading report Ended) left in
          ap (λ b. behind_line number (cond b (Ok before) (after_report_line script before (words_of line))) (λ next. after_lines script (number + 1) next lines)) h
          ∙ ap (λ one. behind_line number one (λ next. after_lines script (number + 1) next lines)) one.1
          ∙ rest (number + 1) one.0 one.2
