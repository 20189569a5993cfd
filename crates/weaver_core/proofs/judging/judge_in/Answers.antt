use Rattle.std.proofs.Common.{refl, inl, inr, sym, ap, ◌∙◌}
use Rattle.std.specs.Option.{option_map}
use Rattle.gatekeeper.specs.Opened.{as_begun}
use Rattle.weave_entries.specs.OracleReplay.{pairs_of_log}
use Rattle.weaver_core.proofs.Settled.{judged-now, log-is, none-of}
use Rattle.weaver_core.proofs.judging.judge_in.Goals as goal

-- The names of the goals follow the branches: no flight, a flight with a verdict, and a flight that is judged.

pub returns-in_default-clause-judges : goal.returns-in_default-clause-judges
returns-in_default-clause-judges c = (refl, refl, inl (sym c.flight.ensures ∙ ap (option_map as_begun) c.in_default.is))

pub returns-then-is_judged-clause-judges : goal.returns-then-is_judged-clause-judges
returns-then-is_judged-clause-judges c = (
  refl,
  refl,
  inr (record {
    flight = as_begun c.in-Some.flight;
    flies = sym c.flight.ensures ∙ ap (option_map as_begun) c.in-Some.is;
    judged = sym c.is_judged.ensures ∙ c.if-is_judged.true;
  }),
)

-- what is asked, for the flight that was found
pub ops_of-ops-requires : goal.ops_of-ops-requires
ops_of-ops-requires c = (c.requires.ready (as_begun c.in-Some.flight) (sym c.flight.ensures ∙ ap (option_map as_begun) c.in-Some.is) (none-of _ (sym c.is_judged.ensures ∙ c.if-is_judged.false))).there

pub commit-requires : goal.commit-requires
commit-requires c =
    let ready = c.requires.ready (as_begun c.in-Some.flight) (sym c.flight.ensures ∙ ap (option_map as_begun) c.in-Some.is) (none-of _ (sym c.is_judged.ensures ∙ c.if-is_judged.false)) in
    rw c.ops_of-ops.ensures (record { few = ready.few; new = ready.new; coherent = ready.coherent })

pub returns-clause-judges : goal.returns-clause-judges
returns-clause-judges c =
    let flight = as_begun c.in-Some.flight in
    let store = c.args.store.now in
    let oracle = c.args.oracle.now in
    let verdict = c.in_ok-_verdict._verdict in
    judged-now c.args.script.now c.args.gates.now store c.commit.new.self oracle c.commit.new.judge c.args.gate flight c.ops_of-ops.result.now verdict
    (sym c.flight.ensures ∙ ap (option_map as_begun) c.in-Some.is) (none-of _ (sym c.is_judged.ensures ∙ c.if-is_judged.false)) c.ops_of-ops.ensures
    c.in_ok-_verdict.ensures.verdict c.in_ok-_verdict.ensures.entry
    (log-is c.oracle_entries_are_a_judges.ensures.back oracle c.commit.new.judge verdict flight.author (pairs_of_log oracle) _ flight.stamp (c.in_ok-_verdict.ensures.logged refl))
