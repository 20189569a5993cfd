-- If a refusal is marked by the walk over the replies and the one back, commit numbers of its session keep clear of it.
-- Used by `after_commits`, `first_fault`, `is_after_commits`, `is_before_commits` and `keep_before_commits`.
use Rattle.std.proofs.Common.{◌≡◌, ℕ, suc, ◌+◌, ◌<◌, ◌≤◌, Bool, true, false, not, cond, ◌||◌, IsTrue, List, [], ◌∷◌, ◌++◌, length, Option, Some, None, ltb, inl, inr, refl, sym, ap, ◌∙◌, subst, arith}
use Rattle.std.specs.Prelude.{slice_get, slice_index_or, nat_lt, nat_le}
use Rattle.std.specs.List.{AllByRecursion}
use Rattle.std.proofs.lemmas.Bool.{both_ways, cases_Bool, cases_lt, cases_eq, cases_order, lt-ltb, le-leb, le-ltb, or_left, or_right, not_from_false}
use Rattle.std.proofs.lemmas.List.{get_or_append_left, get_or_past, length-append}
use Rattle.std.proofs.Math.Seq.{get_or-append_seam}
use Rattle.std.proofs.lemmas.Option.{same_Some, slice_get_within}
use Rattle.weave_data.proofs.Lists.{list_all-from}
use Rattle.program_defs.specs.declared.script.Script.{Script}
use Rattle.program_defs.specs.declared.script.Request.{Request}
use Rattle.report_rules.specs.declared.report.Report.{Report}
use Rattle.report_rules.specs.declared.report.Reply.{Reply}
use Rattle.report_rules.specs.declared.report.ReplyState.{ReplyState}
use Rattle.report_rules.specs.declared.report.ReplyState.TheVariants.{Unbegun, Begun, Committed, Conflict, Refused, Finished}
use Rattle.weave_data.specs.Facts.{AllHold}
use Rattle.report_rules.specs.Lookups.{is_none_or, committed_number, request_at, same_session}
use Rattle.report_rules.specs.RightReport.{keeps_number, replies_clause}
use Rattle.order_witness.specs.Heads.{item}
use Rattle.order_witness.specs.Refusals.{refused_after}
use Rattle.order_witness.specs.Turns.{AreRefusedAndCommitted, IsAfterCommits, IsBeforeCommits, IsOfMarked, IsRaisedBy, IsLoweredBy, AreKeptAtMarks}
use Rattle.order_witness.proofs.MarkSteps.{nothing}
use Rattle.order_witness.proofs.InPlace.{of_one}
use Rattle.order_witness.proofs.Replying.{is_numbered}

-- a refused one has no commit number
no_number : (state : ReplyState) (at : ℕ) → refused_after state ≡ Some at → committed_number state ≡ None
no_number Unbegun at e = refl
no_number Begun at e = refl
no_number (Committed number answers) at e = absurd (nothing at e)
no_number (Conflict v newer) at e = refl
no_number (Refused op reason n) at e = refl
no_number (Finished answer) at e = refl

no_request : (x : Request) → None ≡ Some x → ⊥
no_request x e = cc

-- One reply

module _ (script : Script) (place : ℕ) (state : ReplyState) (x : Request) (is : request_at script place ≡ Some x) (old new : List ℕ) (surely : Bool) (size : length new ≡ length old) where
  one_is : (y : Request) → request_at script place ≡ Some y → x ≡ y
  one_is y y_is = same_Some x y (sym is ∙ y_is)

  -- what is said of a request's session is said of the request
  pub raised_at : ((s : ℕ) → item old s ≤ item new s) → ((number : ℕ) → committed_number state ≡ Some number → x.session < length new → number ≤ item new x.session)
      → (IsTrue surely → (at : ℕ) → refused_after state ≡ Some at → (x.session < length old) × (item old x.session ≤ at)) → IsRaisedBy script place state old new surely
  raised_at no_less there after =
      record {
        size = size;
        no_less = no_less;
        there = λ y number y_is number_is. subst (λ (z : Request). z.session < length new → number ≤ item new z.session) (one_is y y_is) (there number number_is);
        after = λ holds y at y_is at_is. subst (λ (z : Request). (z.session < length old) × (item old z.session ≤ at)) (one_is y y_is) (after holds at at_is);
      }

  -- and the same back
  pub lowered_at : ((s : ℕ) → item new s ≤ item old s) → ((number : ℕ) → committed_number state ≡ Some number → x.session < length new → item new x.session ≤ number)
      → (IsTrue surely → (at : ℕ) → refused_after state ≡ Some at → (x.session < length old) × (at < item old x.session)) → IsLoweredBy script place state old new surely
  lowered_at no_more there before =
      record {
        size = size;
        no_more = no_more;
        there = λ y number y_is number_is. subst (λ (z : Request). z.session < length new → item new z.session ≤ number) (one_is y y_is) (there number number_is);
        before = λ holds y at y_is at_is. subst (λ (z : Request). (z.session < length old) × (at < item old z.session)) (one_is y y_is) (before holds at at_is);
      }

module _ (script : Script) (place : ℕ) (state : ReplyState) (none : request_at script place ≡ None) (old : List ℕ) where
  -- without a request nothing is raised
  pub raised_none : IsRaisedBy script place state old old false
  raised_none =
      record {
        size = refl;
        no_less = λ s. omega arith;
        there = λ x number is number_is within. absurd (no_request x (sym none ∙ is));
        after = λ holds x at is at_is. absurd (no_request x (sym none ∙ is));
      }

  -- and nothing is lowered
  pub lowered_none : IsLoweredBy script place state old old false
  lowered_none =
      record {
        size = refl;
        no_more = λ s. omega arith;
        there = λ x number is number_is within. absurd (no_request x (sym none ∙ is));
        before = λ holds x at is at_is. absurd (no_request x (sym none ∙ is));
      }

-- The walk over the replies

-- the commit numbers of the first replies are at most those of their sessions
abbrev pub AreNumbersBelow : Script → List Reply → ℕ → List ℕ → Type 0
AreNumbersBelow script replies count tops =
    (k number : ℕ) (other : Reply) (x : Request) → k < count → slice_get replies k ≡ Some other → committed_number other.state ≡ Some number → request_at script k ≡ Some x → x.session < length tops → number ≤ item tops x.session

-- the commit numbers of the replies from a place on are at least those of their sessions
abbrev pub AreNumbersAbove : Script → List Reply → ℕ → List ℕ → Type 0
AreNumbersAbove script replies from lows =
    (k number : ℕ) (other : Reply) (x : Request) → from ≤ k → slice_get replies k ≡ Some other → committed_number other.state ≡ Some number → request_at script k ≡ Some x → x.session < length lows → item lows x.session ≤ number

module _ (script : Script) (replies : List Reply) (place : ℕ) (here : Reply) (here_is : (reply : Reply) → slice_get replies place ≡ Some reply → reply ≡ here) (old new : List ℕ) (surely : Bool) where
  committed_here : (k number : ℕ) (other : Reply) → k ≡ place → slice_get replies k ≡ Some other → committed_number other.state ≡ Some number → committed_number here.state ≡ Some number
  committed_here k number other same is number_is = ap (λ (r : Reply). committed_number r.state) (sym (here_is other (ap (slice_get replies) (sym same) ∙ is))) ∙ number_is

  module _ (raised : IsRaisedBy script place here.state old new surely) (so_far : AreNumbersBelow script replies place old) where
    -- with one more reply, the numbers are still below
    pub below_next : AreNumbersBelow script replies (place + 1) new
    below_next k number other x less is number_is x_is within =
        elim (cases_lt k place) [
          | inl before ↦ let first = so_far k number other x before is number_is x_is (omega (arith, within, raised.size)) in let more = raised.no_less x.session in omega (arith, first, more)
          | inr last ↦
              let same : k ≡ place = omega (arith, less, last) in
              raised.there x number (ap (request_at script) (sym same) ∙ x_is) (committed_here k number other same is number_is) within
        ]

    -- a refusal that is surely so is after the commits of its session before it
    pub after_now : IsTrue surely → IsAfterCommits script replies place
    after_now holds at k number both less =
        let refused : refused_after here.state ≡ Some at = ap (λ (r : Reply). refused_after r.state) (sym (here_is both.reply both.reply_is)) ∙ both.refused in
        let high = raised.after holds both.x at both.x_is refused in
        let low = so_far k number both.other both.y less both.other_is both.committed both.y_is (subst (λ s. s < length old) both.session high.0) in
        let moved : item old both.x.session ≡ item old both.y.session = ap (item old) both.session in
        omega (arith, high.1, low, moved)

  module _ (lowered : IsLoweredBy script place here.state old new surely) (so_far : AreNumbersAbove script replies (place + 1) old) where
    -- with one reply more from the end, the numbers are still above
    pub above_next : AreNumbersAbove script replies place new
    above_next k number other x from is number_is x_is within =
        elim (cases_eq k place) [
          | inl same ↦ lowered.there x number (ap (request_at script) (sym same) ∙ x_is) (committed_here k number other same is number_is) within
          | inr later ↦ let first = so_far k number other x (omega (arith, from, later)) is number_is x_is (omega (arith, within, lowered.size)) in let less = lowered.no_more x.session in omega (arith, first, less)
        ]

    -- a refusal that is surely so is before the commits of its session after it
    pub before_now : IsTrue surely → IsBeforeCommits script replies place
    before_now holds at k number both less =
        let refused : refused_after here.state ≡ Some at = ap (λ (r : Reply). refused_after r.state) (sym (here_is both.reply both.reply_is)) ∙ both.refused in
        let low = lowered.before holds both.x at both.x_is refused in
        let high = so_far k number both.other both.y (omega (arith, less)) both.other_is both.committed both.y_is (subst (λ s. s < length old) both.session low.0) in
        let moved : item old both.x.session ≡ item old both.y.session = ap (item old) both.session in
        omega (arith, low.1, high, moved)

-- Marks

-- one mark more at the end
pub marked_more : (Fact : ℕ → Type 0) (marks : List Bool) (place : ℕ) (is : Bool) → length marks ≡ place → IsOfMarked Fact marks → (IsTrue is → Fact place) → IsOfMarked Fact (marks ++ is ∷ [])
marked_more Fact marks place is long so_far fact p h =
    elim (cases_order p (length marks)) [
      | inl same ↦ subst Fact (sym (same ∙ long)) (fact (sym (ap (λ n. slice_index_or (marks ++ is ∷ []) n false) same ∙ get_or-append_seam marks is [] false) ∙ h))
      | inr either ↦ elim either [
        | inl less ↦ so_far p (sym (get_or_append_left marks (is ∷ []) false p less) ∙ h)
        | inr more ↦ absurd (both_ways _ (get_or_past (marks ++ is ∷ []) p false (let all = length-append marks (is ∷ []) in omega (arith, more, all))) h)
      ]
    ]

-- the walk back: at first there is nothing after the last reply
pub above_none : (script : Script) (replies : List Reply) (lows : List ℕ) → AreNumbersAbove script replies (length replies) lows
above_none script replies lows k number other x from is number_is x_is within = absurd (let inside = slice_get_within replies k other is in omega (arith, from, inside))

module _ (Fact : ℕ → Type 0) (old new initial : List Bool) (many place : ℕ) (may : Bool) (size : length old ≡ many) (others : (p : ℕ) → ¬ (p ≡ place) → slice_index_or new p false ≡ slice_index_or old p false) (here : IsTrue (slice_index_or new place false) → IsTrue (slice_index_or old place false) × IsTrue may) where
  -- with one mark more that is kept only if it may be, each mark left was there
  pub still_kept : ((p : ℕ) → IsTrue (slice_index_or old p false) → IsTrue (slice_index_or initial p false)) → (p : ℕ) → IsTrue (slice_index_or new p false) → IsTrue (slice_index_or initial p false)
  still_kept so_far p h =
      elim (cases_eq p place) [
        | inl same ↦ so_far p (ap (λ n. slice_index_or old n false) same ∙ (here (sym (ap (λ n. slice_index_or new n false) same) ∙ h)).0)
        | inr other ↦ so_far p (sym (others p other) ∙ h)
      ]

  -- and is of a place of which it may be
  pub still_marked : (IsTrue may → Fact place) → ((p : ℕ) → place + 1 ≤ p → IsTrue (slice_index_or old p false) → Fact p) → (p : ℕ) → place ≤ p → IsTrue (slice_index_or new p false) → Fact p
  still_marked fact so_far p from h =
      elim (cases_eq p place) [
        | inl same ↦ subst Fact (sym same) (fact (here (sym (ap (λ n. slice_index_or new n false) same) ∙ h)).1)
        | inr other ↦ so_far p (omega (arith, from, other)) (sym (others p other) ∙ h)
      ]

-- What the clause asks

module _ {A : Type 0} (P : A → Type 0) where
  each_at : (xs : List A) → ((k : ℕ) (x : A) → slice_get xs k ≡ Some x → P x) → AllByRecursion P xs
  each_at [] each = tt
  each_at (x ∷ xs) each = (each 0 x refl, each_at xs (λ k y at. each (suc k) y at))

kept_before : (at r o : ℕ) (other : Reply) → other.request ≡ o → o < r → ((n : ℕ) → committed_number other.state ≡ Some n → n ≤ at) → IsTrue (keeps_number at r other)
kept_before at r o other is less each =
    let test : ltb other.request r ≡ true = lt-ltb other.request r (omega (arith, is, less)) in
    subst (λ b. IsTrue (cond b (is_none_or (λ number. nat_le number at) (committed_number other.state)) (is_none_or (λ number. nat_lt at number) (committed_number other.state)))) (sym test) (of_option (committed_number other.state) each)
  where
    of_option : (o : Option ℕ) → ((n : ℕ) → o ≡ Some n → n ≤ at) → IsTrue (is_none_or (λ number. nat_le number at) o)
    of_option None f = refl
    of_option (Some n) f = le-leb n at (f n refl)

kept_after : (at r o : ℕ) (other : Reply) → other.request ≡ o → r ≤ o → ((n : ℕ) → committed_number other.state ≡ Some n → at < n) → IsTrue (keeps_number at r other)
kept_after at r o other is at_least each =
    let test : ltb other.request r ≡ false = le-ltb other.request r (omega (arith, is, at_least)) in
    subst (λ b. IsTrue (cond b (is_none_or (λ number. nat_le number at) (committed_number other.state)) (is_none_or (λ number. nat_lt at number) (committed_number other.state)))) (sym test) (of_option (committed_number other.state) each)
  where
    of_option : (o : Option ℕ) → ((n : ℕ) → o ≡ Some n → at < n) → IsTrue (is_none_or (λ number. nat_lt at number) o)
    of_option None f = refl
    of_option (Some n) f = lt-ltb at n (f n refl)

module _ (script : Script) (report : Report) (holds : AllHold (replies_clause script report)) (marks : List Bool) (after : IsOfMarked (IsAfterCommits script report.replies) marks) (before : IsOfMarked (IsBeforeCommits script report.replies) marks) where
  kept_at : (place at : ℕ) (reply : Reply) → slice_get report.replies place ≡ Some reply → refused_after reply.state ≡ Some at → IsTrue (slice_index_or marks place false) → (k : ℕ) (other : Reply) → slice_get report.replies k ≡ Some other → same_session script other.request reply.request ≡ true → IsTrue (keeps_number at reply.request other)
  kept_at place at reply is refused mark k other is_k same =
      let r_is : reply.request ≡ place = is_numbered script report holds place reply is in
      let o_is : other.request ≡ k = is_numbered script report holds k other is_k in
      let sessions : same_session script k place ≡ true = sym (ap (λ n. same_session script n reply.request) o_is ∙ ap (same_session script k) r_is) ∙ same in
      let both = of_one (request_at script k) (request_at script place) sessions in
      let one : (n : ℕ) → committed_number other.state ≡ Some n → AreRefusedAndCommitted script report.replies place at k n = λ n number_is. record { reply = reply; other = other; x = both.y; y = both.x; reply_is = is; refused = refused; other_is = is_k; committed = number_is; x_is = both.second; y_is = both.first; session = sym both.session } in
      elim (cases_order k place) [
        | inl here ↦
            let none : committed_number reply.state ≡ None = no_number reply.state at refused in
            let same_one : other ≡ reply = one_reply other reply (sym is_k ∙ ap (slice_get report.replies) here ∙ is) in
            kept_after at reply.request k other o_is (omega (arith, r_is, here)) (λ n number_is. absurd (nothing n (sym none ∙ ap (λ (r : Reply). committed_number r.state) (sym same_one) ∙ number_is)))
        | inr either ↦ elim either [
          | inl earlier ↦ kept_before at reply.request k other o_is (omega (arith, r_is, earlier)) (λ n number_is. after place mark at k n (one n number_is) earlier)
          | inr later ↦ kept_after at reply.request k other o_is (omega (arith, r_is, later)) (λ n number_is. before place mark at k n (one n number_is) later)
        ]
      ]
    where
      one_reply : (x y : Reply) → Some x ≡ Some y → x ≡ y
      one_reply x y e = cc

  -- commit numbers keep clear of each marked refusal of their session
  pub all_kept : AreKeptAtMarks script report.replies marks
  all_kept place at reply is refused mark =
      list_all-from (λ (other : Reply). not (same_session script other.request reply.request) || keeps_number at reply.request other) report.replies
      (each_at (λ (other : Reply). IsTrue (not (same_session script other.request reply.request) || keeps_number at reply.request other)) report.replies (λ k other is_k.
      elim (cases_Bool (same_session script other.request reply.request)) [
        | inl same ↦ or_right (not (same_session script other.request reply.request)) _ (kept_at place at reply is refused mark k other is_k same)
        | inr other_one ↦ or_left _ _ (not_from_false (same_session script other.request reply.request) other_one)
      ]))
