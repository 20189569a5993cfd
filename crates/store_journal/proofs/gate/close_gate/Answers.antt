use Rattle.std.proofs.Common.{◌≢◌, get_or, sym, ◌∙◌, subst}
use Rattle.std.proofs.lemmas.Bool.{false≢true}
use Rattle.store_journal.specs.Commits.{commit_of}
use Rattle.store_journal.specs.Disk.{Torn}
use Rattle.store_journal.specs.Journal.{gate_of}
use Rattle.store_journal.specs.Standing.{IsLeftByRecovery}
use Rattle.store_journal.proofs.Closing.{closes, closes_and_syncs, is_closed_now, is_closed_there, reads_same, rests_still}
use Rattle.store_journal.proofs.LeftImages.{left_as_is, left_torn}
use Rattle.store_journal.proofs.gate.close_gate.Goals as goal

pub returns-then-is_closed-clause-any_moment : goal.returns-then-is_closed-clause-any_moment
returns-then-is_closed-clause-any_moment g c bytes told only place closed not_foreign =
    rests_still g.D.Disk.images g.D.Disk.moment g.D.Disk.images_since g.met.D.Disk.since_now c.args.disk.now bytes only (IsLeftByRecovery commit_of bytes) (left_as_is commit_of bytes)

pub returns-then-is_closed-clause-closed : goal.returns-then-is_closed-clause-closed
returns-then-is_closed-clause-closed g c bytes told synced place closed =
    is_closed_there commit_of (g.D.Disk.seen c.args.disk.now) (g.D.Disk.images c.args.disk.now) bytes c.args.gate told synced place (closed.0 c.if-is_closed.true)

pub returns-then-is_closed-clause-bytes : goal.returns-then-is_closed-clause-bytes
returns-then-is_closed-clause-bytes g c bytes told place closed =
    reads_same commit_of (g.D.Disk.seen c.args.disk.now) bytes c.args.gate told place (closed.0 c.if-is_closed.true)

pub returns-in_err-write_at-clause-any_moment : goal.returns-in_err-write_at-clause-any_moment
returns-in_err-write_at-clause-any_moment g c bytes told only place closed not_foreign =
    let open_gate : get_or bytes (gate_of commit_of bytes) 1 ≢ 0 = subst (λ k. get_or bytes k 1 ≢ 0) place (λ zero. false≢true (sym c.if-is_closed.false ∙ closed.1 zero)) in
    closes g.D.Disk.images g.D.Disk.moment g.D.Disk.images_since g.met.D.Disk.since_now c.args.disk.now bytes only (IsLeftByRecovery commit_of bytes) (left_as_is commit_of bytes)
    c.args.gate (λ file torn. left_torn commit_of bytes file not_foreign open_gate (subst (λ k. Torn k 1 bytes file) place torn))
    c.write_at.new.self c.write_at.ensures.crash c.write_at.ensures.time

pub returns-in_err-sync-clause-any_moment : goal.returns-in_err-sync-clause-any_moment
returns-in_err-sync-clause-any_moment g c bytes told only place closed not_foreign =
    let open_gate : get_or bytes (gate_of commit_of bytes) 1 ≢ 0 = subst (λ k. get_or bytes k 1 ≢ 0) place (λ zero. false≢true (sym c.if-is_closed.false ∙ closed.1 zero)) in
    closes_and_syncs g.D.Disk.images g.D.Disk.moment g.D.Disk.images_since g.met.D.Disk.since_now c.args.disk.now bytes only (IsLeftByRecovery commit_of bytes) (left_as_is commit_of bytes)
    c.args.gate (λ file torn. left_torn commit_of bytes file not_foreign open_gate (subst (λ k. Torn k 1 bytes file) place torn))
    c.write_at.new.self c.sync.new.self c.write_at.ensures.crash c.write_at.ensures.time c.sync.ensures.crash c.sync.ensures.time

pub returns-clause-any_moment : goal.returns-clause-any_moment
returns-clause-any_moment g c bytes told only place closed not_foreign =
    let open_gate : get_or bytes (gate_of commit_of bytes) 1 ≢ 0 = subst (λ k. get_or bytes k 1 ≢ 0) place (λ zero. false≢true (sym c.if-is_closed.false ∙ closed.1 zero)) in
    closes_and_syncs g.D.Disk.images g.D.Disk.moment g.D.Disk.images_since g.met.D.Disk.since_now c.args.disk.now bytes only (IsLeftByRecovery commit_of bytes) (left_as_is commit_of bytes)
    c.args.gate (λ file torn. left_torn commit_of bytes file not_foreign open_gate (subst (λ k. Torn k 1 bytes file) place torn))
    c.write_at.new.self c.sync.new.self c.write_at.ensures.crash c.write_at.ensures.time c.sync.ensures.crash c.sync.ensures.time

pub returns-clause-closed : goal.returns-clause-closed
returns-clause-closed g c bytes told synced place closed =
    is_closed_now commit_of (g.D.Disk.seen c.args.disk.now) (g.D.Disk.seen c.sync.new.self) (g.D.Disk.images c.sync.new.self) bytes c.args.gate told place
    (c.in_ok-sync.ensures.same ∙ c.in_ok-write_at.ensures.written) c.in_ok-sync.ensures.synced

pub returns-clause-bytes : goal.returns-clause-bytes
returns-clause-bytes g c bytes told place closed = c.in_ok-sync.ensures.same ∙ c.in_ok-write_at.ensures.written
