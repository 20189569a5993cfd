use Rattle.std.proofs.Common.{◌≡◌, ◌++◌, ◌∷◌, [], ◌∙◌, sym, option_map, ℕ, Some, Err}
use Rattle.store_journal.specs.Commits.{commit_of}
use Rattle.store_journal.specs.Disk.{Only, written_at}
use Rattle.store_journal.specs.Journal.{IsForeign, file_commits, gate_of}
use Rattle.store_journal.proofs.Adding.{if_told}
use Rattle.store_journal.proofs.Foreign.{never_foreign}
use Rattle.store_journal.proofs.History.{recovery_after}
use Rattle.store_journal.proofs.KeptSteps.{if_foreign_more, rest_as, rest_begins, rest_commits, said_before}
use Rattle.store_journal.proofs.LeftImages.{from_file, from_itself, of_journal}
use Rattle.store_journal.proofs.Recovering.{journal_read, read_is}
use Rattle.store_journal.proofs.kept_store.KeptStore.recover.Goals as goal

pub returns-in-Err-clause-from_an_image : goal.returns-in-Err-clause-from_an_image
returns-in-Err-clause-from_an_image g c told =
    from_itself commit_of g.D.Disk.images g.D.Disk.moment g.D.Disk.images_since c.args.disk.now c.read_synced.new.disk c.read_synced.ensures.any_moment

pub returns-in-Err-clause-any_moment : goal.returns-in-Err-clause-any_moment
returns-in-Err-clause-any_moment g c commits pending told all =
    of_journal commit_of g.D.Disk.images g.D.Disk.moment g.D.Disk.images_since c.args.disk.now c.read_synced.new.disk commits pending all
    (returns-in-Err-clause-from_an_image g c told)

pub returns-in-Err-clause-law : goal.returns-in-Err-clause-law
returns-in-Err-clause-law g c start commits since next told all so_far =
    recovery_after commit_of commits g.D.Disk.moment g.D.Disk.images_since start c.args.disk.now c.read_synced.new.disk since next so_far
    (returns-in-Err-clause-any_moment g c (commits ++ since) (Some next) told all)

pub returns-in-Err-found_in-clause-from_an_image : goal.returns-in-Err-found_in-clause-from_an_image
returns-in-Err-found_in-clause-from_an_image g c told =
    from_itself commit_of g.D.Disk.images g.D.Disk.moment g.D.Disk.images_since c.args.disk.now c.read_synced.new.disk c.read_synced.ensures.any_moment

pub returns-in-Err-found_in-clause-any_moment : goal.returns-in-Err-found_in-clause-any_moment
returns-in-Err-found_in-clause-any_moment g c commits pending told all =
    of_journal commit_of g.D.Disk.images g.D.Disk.moment g.D.Disk.images_since c.args.disk.now c.read_synced.new.disk commits pending all
    (returns-in-Err-found_in-clause-from_an_image g c told)

pub returns-in-Err-found_in-clause-law : goal.returns-in-Err-found_in-clause-law
returns-in-Err-found_in-clause-law g c start commits since next told all so_far =
    recovery_after commit_of commits g.D.Disk.moment g.D.Disk.images_since start c.args.disk.now c.read_synced.new.disk since next so_far
    (returns-in-Err-found_in-clause-any_moment g c (commits ++ since) (Some next) told all)

pub returns-in_err-close_gate-clause-from_an_image : goal.returns-in_err-close_gate-clause-from_an_image
returns-in_err-close_gate-clause-from_an_image g c told =
    let d1 = c.read_synced.new.disk in
    let bytes = c.in-Ok.file.items in
    let is : g.D.Disk.seen d1 ≡ Some bytes = read_is (g.D.Disk.seen d1) bytes (c.read_synced.ensures.told told) c.in-Ok.ensures.all in
    let only : Only bytes (g.D.Disk.images d1) = if_told (λ b. Only b (g.D.Disk.images d1)) (g.D.Disk.seen d1) bytes is c.in-Ok.ensures.synced in
    let image : g.D.Disk.images c.args.disk.now bytes = c.read_synced.ensures.crash bytes (if_told (g.D.Disk.images d1) (g.D.Disk.seen d1) bytes is (g.met.D.Disk.reads_as_image d1)) in
    from_file commit_of g.D.Disk.images g.D.Disk.moment g.D.Disk.images_since c.args.disk.now d1 c.close_gate.new.disk bytes image c.read_synced.ensures.any_moment
    (c.close_gate.ensures.any_moment bytes is only c.in-Ok-found_in.ensures.gate c.in-Ok-found_in.ensures.closed c.in-Ok-found_in.ensures.not_foreign)

pub returns-in_err-close_gate-clause-any_moment : goal.returns-in_err-close_gate-clause-any_moment
returns-in_err-close_gate-clause-any_moment g c commits pending told all =
    of_journal commit_of g.D.Disk.images g.D.Disk.moment g.D.Disk.images_since c.args.disk.now c.close_gate.new.disk commits pending all
    (returns-in_err-close_gate-clause-from_an_image g c told)

pub returns-in_err-close_gate-clause-law : goal.returns-in_err-close_gate-clause-law
returns-in_err-close_gate-clause-law g c start commits since next told all so_far =
    recovery_after commit_of commits g.D.Disk.moment g.D.Disk.images_since start c.args.disk.now c.close_gate.new.disk since next so_far
    (returns-in_err-close_gate-clause-any_moment g c (commits ++ since) (Some next) told all)

pub returns-clause-from_an_image : goal.returns-clause-from_an_image
returns-clause-from_an_image g c told =
    let d1 = c.read_synced.new.disk in
    let bytes = c.in-Ok.file.items in
    let is : g.D.Disk.seen d1 ≡ Some bytes = read_is (g.D.Disk.seen d1) bytes (c.read_synced.ensures.told told) c.in-Ok.ensures.all in
    let only : Only bytes (g.D.Disk.images d1) = if_told (λ b. Only b (g.D.Disk.images d1)) (g.D.Disk.seen d1) bytes is c.in-Ok.ensures.synced in
    let image : g.D.Disk.images c.args.disk.now bytes = c.read_synced.ensures.crash bytes (if_told (g.D.Disk.images d1) (g.D.Disk.seen d1) bytes is (g.met.D.Disk.reads_as_image d1)) in
    from_file commit_of g.D.Disk.images g.D.Disk.moment g.D.Disk.images_since c.args.disk.now d1 c.close_gate.new.disk bytes image c.read_synced.ensures.any_moment
    (c.close_gate.ensures.any_moment bytes is only c.in-Ok-found_in.ensures.gate c.in-Ok-found_in.ensures.closed c.in-Ok-found_in.ensures.not_foreign)

pub returns-clause-any_moment : goal.returns-clause-any_moment
returns-clause-any_moment g c commits pending told all =
    of_journal commit_of g.D.Disk.images g.D.Disk.moment g.D.Disk.images_since c.args.disk.now c.close_gate.new.disk commits pending all
    (returns-clause-from_an_image g c told)

pub returns-clause-law : goal.returns-clause-law
returns-clause-law g c start commits since next told all so_far =
    recovery_after commit_of commits g.D.Disk.moment g.D.Disk.images_since start c.args.disk.now c.close_gate.new.disk since next so_far
    (returns-clause-any_moment g c (commits ++ since) (Some next) told all)

pub returns-clause-bytes : goal.returns-clause-bytes
returns-clause-bytes g c =
    c.in_ok-close_gate.ensures.bytes c.in-Ok.file.items c.in-Ok.ensures.all c.in-Ok-found_in.ensures.gate c.in-Ok-found_in.ensures.closed
    ∙ (λ i. option_map (written_at (sym c.in-Ok-found_in.ensures.place i) (0 ∷ [])) (c.in-Ok.ensures.same i))

pub returns-clause-at_rest : goal.returns-clause-at_rest
returns-clause-at_rest g c =
    rest_as (file_commits commit_of c.in-Ok.file.items) c.in-Ok-found_in.found.store.commits c.in-Ok-found_in.found.gate c.in-Ok-found_in.found.store.place
    (g.D.Disk.seen c.close_gate.new.disk) (g.D.Disk.images c.close_gate.new.disk) c.in-Ok-found_in.ensures.commits c.in-Ok-found_in.ensures.place
    (c.in_ok-close_gate.ensures.closed c.in-Ok.file.items c.in-Ok.ensures.all c.in-Ok.ensures.synced c.in-Ok-found_in.ensures.gate c.in-Ok-found_in.ensures.closed)

pub returns-clause-commits : goal.returns-clause-commits
returns-clause-commits g c =
    rest_commits c.in-Ok-found_in.found.store.commits c.in-Ok-found_in.found.store.place (g.D.Disk.seen c.close_gate.new.disk) (g.D.Disk.images c.close_gate.new.disk)
    (returns-clause-at_rest g c)

pub returns-clause-begins : goal.returns-clause-begins
returns-clause-begins g c told =
    rest_begins g.D.Disk.images g.D.Disk.moment g.D.Disk.images_since g.met.D.Disk.since_now c.close_gate.new.disk (g.D.Disk.seen c.close_gate.new.disk)
    c.in-Ok-found_in.found.store.commits c.in-Ok-found_in.found.store.place (c.close_gate.ensures.told (c.read_synced.ensures.told told)) (returns-clause-at_rest g c)

pub returns-clause-recovered : goal.returns-clause-recovered
returns-clause-recovered g c =
    said_before (g.D.Disk.seen c.args.disk.now) (g.D.Disk.seen c.read_synced.new.disk) c.in-Ok.file.items (λ file. c.in-Ok-found_in.found.store.commits ≡ file_commits commit_of file)
    c.in-Ok.ensures.same c.in-Ok.ensures.all c.in-Ok-found_in.ensures.commits

pub returns-clause-not_foreign : goal.returns-clause-not_foreign
returns-clause-not_foreign g c =
    said_before (g.D.Disk.seen c.args.disk.now) (g.D.Disk.seen c.read_synced.new.disk) c.in-Ok.file.items (λ file. ¬ IsForeign commit_of file)
    c.in-Ok.ensures.same c.in-Ok.ensures.all c.in-Ok-found_in.ensures.not_foreign

pub returns-in-Err-clause-foreign : goal.returns-in-Err-clause-foreign
returns-in-Err-clause-foreign g c = if_foreign_more {A = ℕ} (Err c.in-Err.fault) (λ at. ⊥) _ (λ at no. absurd no) c.in-Err.ensures.not_foreign

pub returns-in-Err-clause-unwritten : goal.returns-in-Err-clause-unwritten
returns-in-Err-clause-unwritten g c = if_foreign_more {A = ℕ} (Err c.in-Err.fault) (λ at. ⊥) _ (λ at no. absurd no) c.in-Err.ensures.not_foreign

pub returns-in-Err-clause-never_foreign : goal.returns-in-Err-clause-never_foreign
returns-in-Err-clause-never_foreign g c commits pending told all = c.in-Err.ensures.not_foreign

pub returns-in-Err-found_in-clause-foreign : goal.returns-in-Err-found_in-clause-foreign
returns-in-Err-found_in-clause-foreign g c =
    if_foreign_more {A = ℕ} (Err c.in-Err-found_in.reason) _ _ (λ at found. said_before (g.D.Disk.seen c.args.disk.now) (g.D.Disk.seen c.read_synced.new.disk) c.in-Ok.file.items
    (λ file. IsForeign commit_of file × (at ≡ gate_of commit_of file)) c.in-Ok.ensures.same c.in-Ok.ensures.all found) c.in-Err-found_in.ensures.foreign

pub returns-in-Err-found_in-clause-unwritten : goal.returns-in-Err-found_in-clause-unwritten
returns-in-Err-found_in-clause-unwritten g c = if_foreign_more {A = ℕ} (Err c.in-Err-found_in.reason) _ _ (λ at found. c.in-Ok.ensures.same) c.in-Err-found_in.ensures.foreign

pub returns-in-Err-found_in-clause-never_foreign : goal.returns-in-Err-found_in-clause-never_foreign
returns-in-Err-found_in-clause-never_foreign g c commits pending told all =
    let d1 = c.read_synced.new.disk in
    let bytes = c.in-Ok.file.items in
    let is : g.D.Disk.seen d1 ≡ Some bytes = read_is (g.D.Disk.seen d1) bytes (c.read_synced.ensures.told told) c.in-Ok.ensures.all in
    let journal = journal_read commit_of commits pending (g.D.Disk.seen d1) (g.D.Disk.images c.args.disk.now) (g.D.Disk.images d1) bytes is (g.met.D.Disk.reads_as_image d1) c.read_synced.ensures.crash all in
    if_foreign_more {A = ℕ} (Err c.in-Err-found_in.reason) _ _ (λ at found. never_foreign commit_of commits pending bytes journal found.0) c.in-Err-found_in.ensures.foreign
