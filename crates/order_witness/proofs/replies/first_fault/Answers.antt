use Rattle.std.proofs.Common.{IsTrue, ◌+◌, ◌<◌, ◌≤◌, List, [], ◌∷◌, ◌++◌, length, ap, subst, arith}
use Rattle.std.specs.Prelude.{nat_le}
use Rattle.std.proofs.lemmas.Bool.{both_ways, lt-leb, le-leb}
use Rattle.program_defs.specs.declared.script.Script.{Script}
use Rattle.report_rules.specs.declared.report.Reply.{Reply}
use Rattle.weave_data.specs.Facts.{Facts, AllHold, BreaksFirstAt, facts_in_turn}
use Rattle.report_rules.specs.RightReport.{is_reply_in_place}
use Rattle.order_witness.specs.Judgement.{IsFirstFault}
use Rattle.order_witness.proofs.Loops.{within_breaks, end_breaks, all_hold}
use Rattle.order_witness.proofs.replies.first_fault.Goals as goal

-- what is said of each place
abbrev IsInPlace : Script → List Reply → Reply → Type 0
IsInPlace script before reply = IsTrue (is_reply_in_place script before reply)

-- no reply is missing
abbrev NoneMissing : Script → List Reply → Type 0
NoneMissing script replies = IsTrue (nat_le (length script.requests) (length replies))

-- the clause over a list of replies
abbrev facts : Script → List Reply → Facts
facts script replies = facts_in_turn (IsInPlace script) replies ++ NoneMissing script replies ∷ []

pub returns-in-Some : goal.returns-in-Some
returns-in-Some c =
    subst (λ (replies : List Reply). BreaksFirstAt (facts c.args.script.now replies) c.in-Some.place) c.as_slice-replies.ensures
    (within_breaks (IsInPlace c.args.script.now) (NoneMissing c.args.script.now c.as_slice-replies.result.now) c.as_slice-replies.result.now c.in-Some.place (subst (IsFirstFault (facts_in_turn (IsInPlace c.args.script.now) c.as_slice-replies.result.now)) c.in-Some.is c.in_ok-place.ensures))

pub returns-then-replies-as_slice : goal.returns-then-replies-as_slice
returns-then-replies-as_slice c =
    let missing : length c.as_slice-replies.result.now < length c.args.script.now.requests = omega (arith, ap length c.as_slice.ensures, c.if-replies-as_slice.true) in
    subst (λ (replies : List Reply). BreaksFirstAt (facts c.args.script.now replies) (length c.as_slice-replies.result.now + 1)) c.as_slice-replies.ensures
    (end_breaks (IsInPlace c.args.script.now) (NoneMissing c.args.script.now c.as_slice-replies.result.now) c.as_slice-replies.result.now (subst (IsFirstFault (facts_in_turn (IsInPlace c.args.script.now) c.as_slice-replies.result.now)) c.in_default.is c.in_ok-place.ensures)
    (both_ways _ (lt-leb _ _ missing)))

pub returns : goal.returns
returns c =
    let all : length c.args.script.now.requests ≤ length c.as_slice-replies.result.now = omega (arith, ap length c.as_slice.ensures, c.if-replies-as_slice.false) in
    subst (λ (replies : List Reply). AllHold (facts c.args.script.now replies)) c.as_slice-replies.ensures
    (all_hold (IsInPlace c.args.script.now) (NoneMissing c.args.script.now c.as_slice-replies.result.now) c.as_slice-replies.result.now (subst (IsFirstFault (facts_in_turn (IsInPlace c.args.script.now) c.as_slice-replies.result.now)) c.in_default.is c.in_ok-place.ensures)
    (le-leb _ _ all))
