-- Sets of what was seen, one more at a time.
-- Used by `first_fault`, `first_out_of_place` and `see`.
use Rattle.std.proofs.Common.{◌≡◌, ℕ, ◌+◌, ◌<◌, Bool, true, false, not, ◌||◌, ◌&&◌, IsTrue, List, [], ◌∷◌, ◌++◌, length, take, get_or, Option, Some, None, refl, sym, ap, ◌∙◌}
use Rattle.std.specs.Prelude.{slice_get, nat_eq, nat_lt, nat_le}
use Rattle.std.specs.List.{list_all}
use Rattle.std.specs.Cmp.{nat_eq_equiv}
use Rattle.std.proofs.lemmas.List.{take_more}
use Rattle.std.proofs.lemmas.List.Folds.{list_any-append}
use Rattle.std.proofs.lemmas.Option.{slice_get_within}
use Rattle.report_rules.specs.declared.report.Report.{Report}
use Rattle.report_rules.specs.declared.report.Reply.{Reply}
use Rattle.report_rules.specs.Lookups.{is_in, is_some_and, committed_number, is_committed_or_finished, may_be_listed}
use Rattle.report_rules.specs.RightReport.{is_number_in_place, all_are_listed}
use Rattle.order_witness.specs.Bits.{has_bit}
use Rattle.order_witness.specs.Seen.{is_number_new, has_number, AreNumbersSeen, AreSeen}

or_none : (b : Bool) → (b || false) ≡ b
or_none true = refl
or_none false = refl

-- Commit numbers

turned : (n : ℕ) (o : Option ℕ) → is_some_and (λ m. nat_eq n m) o ≡ is_some_and (λ m. nat_eq m n) o
turned n None = refl
turned n (Some m) = nat_eq_equiv.symm n m

-- if the numbers seen are those of the replies, the test for a new one is what the clause on numbers asks
pub number_test : (count : ℕ) (replies : List Reply) (seen : List ℕ) (o : Option ℕ) → AreNumbersSeen replies seen → is_number_new count seen o ≡ is_number_in_place count replies o
number_test count replies seen None are = refl
number_test count replies seen (Some n) are = ap (λ b. nat_lt 0 n && nat_le n count && not b) (are n)

-- with the commit number of the next reply put in, if it has one, the numbers seen are those of one reply more
pub numbers_more : (replies : List Reply) (i : ℕ) (reply : Reply) (seen next : List ℕ) → i < length replies → reply ≡ get_or replies i reply → AreNumbersSeen (take i replies) seen
    → ((n : ℕ) → has_bit next n ≡ (has_bit seen n || is_some_and (λ m. nat_eq n m) (committed_number reply.state))) → AreNumbersSeen (take (i + 1) replies) next
numbers_more replies i reply seen next lt is are after n =
    after n ∙ ap (λ b. b || is_some_and (λ m. nat_eq n m) (committed_number reply.state)) (are n)
    ∙ ap (λ b. has_number (take i replies) n || b) (turned n (committed_number reply.state) ∙ sym (or_none (is_some_and (λ m. nat_eq m n) (committed_number reply.state))))
    ∙ sym (list_any-append (λ (earlier : Reply). is_some_and (λ m. nat_eq m n) (committed_number earlier.state)) (take i replies) (reply ∷ []))
    ∙ ap (λ (rs : List Reply). has_number rs n) (sym (take_more replies i reply lt ∙ ap (λ (r : Reply). take i replies ++ r ∷ []) (sym is)))

-- Requests

-- with the next request of the order put in, the requests seen are those of one place more
pub seen_more : (order : List ℕ) (i r : ℕ) (seen next : List ℕ) → i < length order → get_or order i 0 ≡ r → AreSeen (take i order) seen → ((n : ℕ) → has_bit next n ≡ (has_bit seen n || nat_eq n r)) → AreSeen (take (i + 1) order) next
seen_more order i r seen next lt is are after n =
    after n ∙ ap (λ b. b || nat_eq n r) (are n)
    ∙ ap (λ b. is_in n (take i order) || b) (sym (or_none (nat_eq n r)))
    ∙ sym (list_any-append (nat_eq n) (take i order) (r ∷ []))
    ∙ ap (is_in n) (sym (take_more order i 0 lt ∙ ap (λ x. take i order ++ x ∷ []) is))

-- what may be listed has a reply
pub listed_within : (report : Report) (r : ℕ) → IsTrue (may_be_listed report r) → r < length report.replies
listed_within report r h = of (slice_get report.replies r) refl h
  where
    of : (o : Option Reply) → slice_get report.replies r ≡ o → IsTrue (is_some_and (λ (reply : Reply). is_committed_or_finished reply.state) o) → r < length report.replies
    of None is g = absurd (cc)
    of (Some reply) is g = slice_get_within report.replies r reply is

-- all that are committed or finished are listed if all are seen
pub all_listed : (report : Report) (seen : List ℕ) → AreSeen report.order seen → list_all (λ (reply : Reply). not (is_committed_or_finished reply.state) || has_bit seen reply.request) report.replies ≡ all_are_listed report
all_listed report seen are = λ i. list_all (λ (reply : Reply). not (is_committed_or_finished reply.state) || are reply.request i) report.replies
