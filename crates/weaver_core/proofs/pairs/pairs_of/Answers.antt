use Rattle.std.proofs.Common.{◌≡◌, ◌+◌, ◌∷◌, ◌++◌, suc, drop, Contains, List, sym, ap, subst, ◌∙◌, append_assoc, arith, drop-cons}
use Rattle.std.proofs.Math.ListN.{drop_of_length-le}
use Rattle.std.proofs.lemmas.List.{append-nil}
use Rattle.std.proofs.lemmas.List.Elements.{Contains-get_or}
use Rattle.report_rules.specs.declared.report.Pair.{Pair}
use Rattle.weave_entries.specs.OracleReplay.{settled_entry}
use Rattle.weave_entries.specs.declared.oracle_log.OracleEntry.{OracleEntry}
use Rattle.weaver_core.specs.Marks.{has_mark, mark_of}
use Rattle.weaver_core.specs.Reporting.{all_pairs_found, found_in, pairs_found}
use Rattle.weaver_core.proofs.Events.{all-found}
use Rattle.weaver_core.proofs.pairs.pairs_of.Goals as goal

pub add_pairs_of-requires : goal.add_pairs_of-requires
add_pairs_of-requires c =
    let log = c.log-log.result.now in
    let entry = c.index-log-place.result in
    let here = subst (λ (e : OracleEntry). Contains log e) (sym c.index-log-place.is) (Contains-get_or log c.loop-place.place entry c.loop-place-test.true) in
    c.requires.settled entry (subst (λ (entries : List OracleEntry). Contains entries entry) c.log-log.ensures.entries here)

-- the pairs of one entry more
pub loop-place-preserved : goal.loop-place-preserved
loop-place-preserved c =
    let log = c.log-log.result.now in
    let place = c.loop-place.place in
    let entry = c.index-log-place.result in
    let pairs = c.loop-place.pairs in
    let entries = c.in_ok-requests.requests.entries in
    let store = c.args.store.now in
    let mark = mark_of (found_in entries) (has_mark c.in_ok-visits.visits.entries) store in
    let one = settled_entry entry in
    let step : suc place ≡ place + 1 = omega arith in
    let next : drop place log ≡ entry ∷ drop (place + 1) log = drop-cons log place entry c.loop-place-test.true ∙ (λ k. sym c.index-log-place.is k ∷ drop (step k) log) in
    ap (λ (all : List Pair). all ++ all_pairs_found (found_in entries) store mark (drop (place + 1) log)) c.in_ok-add_pairs_of.ensures
    ∙ append_assoc pairs (pairs_found (found_in entries) store (mark one) one) (all_pairs_found (found_in entries) store mark (drop (place + 1) log))
    ∙ ap (λ (left : List OracleEntry). pairs ++ all_pairs_found (found_in entries) store mark left) (sym next)
    ∙ c.loop-place.invariant

pub returns : goal.returns
returns c =
    let pairs = c.loop-place.pairs in
    let entries = c.in_ok-requests.requests.entries in
    let visits = c.in_ok-visits.visits.entries in
    let store = c.args.store.now in
    sym (append-nil pairs)
    ∙ ap (λ (left : List OracleEntry). pairs ++ all_pairs_found (found_in entries) store (mark_of (found_in entries) (has_mark visits) store) left) (sym (drop_of_length-le c.log-log.result.now c.loop-place-test.false))
    ∙ c.loop-place.invariant
    ∙ ap (all_pairs_found (found_in entries) store (mark_of (found_in entries) (has_mark visits) store)) c.log-log.ensures.entries
    ∙ all-found entries c.args.stamps.now c.in_ok-requests.ensures visits c.args.shards.now.logs c.in_ok-visits.ensures store c.args.oracle.now
