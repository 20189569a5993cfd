use Rattle.std.proofs.Common.{ℕ, sym, ◌∙◌, subst}
use Rattle.weaver_workers.specs.Carrying.{HaveHeardBelow}
use Rattle.weaver_workers.specs.Turning.{stand}
use Rattle.weaver_workers.proofs.Answered.{none-from}
use Rattle.weaver_workers.proofs.Nudged.{read-again, read-once}
use Rattle.weaver_workers.proofs.ReadOn.{hand-carries, if-both, if-ok, keeps-on-then, runs-on}
use Rattle.weaver_workers.proofs.reading.read_or_nudge.Goals as goal

pub read_next-requires-2-clause-runs : goal.read_next-requires-2-clause-runs
read_next-requires-2-clause-runs g c =
    runs-on c.workers_keep_their_laws.ensures c.args.shared.now c.read_next.new.hand c.nudge.new.hand c.read_next.new.client
    c.in_ok-read.ensures.hand c.nudge.ensures.carries.hand c.nudge.ensures.carries.only c.in_ok-read.ensures.runs

pub returns-clause-goes : goal.returns-clause-goes
returns-clause-goes g c =
    let laws = c.workers_keep_their_laws.ensures in
    let shared = c.args.shared.now in
    let old = stand c.args.hand.now c.args.client.now in
    let read = stand c.read_next.new.hand c.read_next.new.client in
    let nudged = stand c.nudge.new.hand c.read_next.new.client in
    let new = stand c.read_next-2.new.hand c.read_next-2.new.client in
    if-ok c.read_next-2.result (λ _ last. keeps-on-then laws shared old read new c.in_ok-read.ensures.goes
    (keeps-on-then laws shared read nudged new (hand-carries laws shared c.read_next.new.hand c.nudge.new.hand c.read_next.new.client
    c.nudge.ensures.carries.hand c.nudge.ensures.carries.only) last)) c.read_next-2.ensures.goes

pub returns-in_default-clause-read : goal.returns-in_default-clause-read
returns-in_default-clause-read g c =
    read-once c.args.shared.now c.args.gates (stand c.read_next.new.hand c.read_next.new.client) c.in_ok-read.read
    (sym c.unready.ensures ∙ none-from c.unready.result c.in_default.not-Some) c.in_ok-read.ensures.read

pub returns-clause-read : goal.returns-clause-read
returns-clause-read g c =
    let runs = c.in_ok-read.ensures.runs in
    let heard = subst (λ (home : ℕ). HaveHeardBelow c.args.gates home c.read_next.new.hand c.nudge.new.hand)
    (c.home_of-home.ensures runs.running runs.running_is) c.in_ok-nudge.ensures.heard in
    if-both c.read_next-2.result
    (read-again c.workers_keep_their_laws.ensures c.args.shared.now c.args.gates c.read_next.new.hand c.nudge.new.hand c.read_next-2.new.hand c.read_next.new.client
    c.read_next-2.new.client c.in_ok-read.ensures.hand c.nudge.ensures.carries runs heard) c.read_next-2.ensures.read c.read_next-2.ensures.still
