use Rattle.std.proofs.Common.{rules, arith, ◌≡◌, ℕ, ◌+◌, ◌-◌, ◌<◌, ◌^◌, true, false, length, Err, subst}
use Rattle.graph_ops.specs.Graphs.{IfTxRefused, plain_of}
use Rattle.graph_ops.specs.PlainGraph.{transaction}
use Rattle.store_journal.specs.CommitEnds.{HasCommitted, HasHalted, HasTurnedDown}
use Rattle.store_journal.specs.Keeping.{kept_commits}
use Rattle.store_journal.specs.Payloads.{AreKeptOps, commit_with, kept_stamp}
use Rattle.store_journal.proofs.KeptCommit.{added, ends_committed, ends_halted, ends_refused, opened_kept, rest_at, store_of}
use Rattle.store_journal.proofs.KeptSteps.{refused_kept}
use Rattle.store_journal.proofs.kept_store.KeptStore.attempt.Goals as goal

pub invariant_of-self : goal.invariant_of-self
invariant_of-self g c =
    let s = c.self.inside in
    let gate = c.len-gate.result - 1 in
    let on : s.is_halted ≡ false = search rules in
    let place : gate ≡ length s.journal.items - 1 = omega (arith, c.len-gate.ensures, s.journal.ok.0) in
    let epoch_fits : s.epoch < 2 ^ 64 = search rules in
    let count_fits : s.count + 1 < 2 ^ 64 = search rules in
    let kept_ops : AreKeptOps c.args.ops.now = record { few = c.requires.few; names = c.in-Ok.ensures.typed; version = c.requires.version } in
    opened_kept c.clocks_keep_the_laws.ensures c.payloads_say_commits.ensures.read s.journal.items c.judge.new.journal.items s.number s.epoch s.count gate
    c.kept_stamp-stamp.result s.graph c.judge.new.graph c.args.ops.now c.in-Ok.answers.items s.is_halted on c.self.invariant c.kept_stamp-stamp.ensures place
    c.in-Ok.ensures.added c.in-Ok.ensures.done kept_ops c.in-Ok.ensures.short epoch_fits count_fits
    c.keep_record.new.journal.items c.in-Ok-keep_record.ensures.opened

pub invariant_of-self-in-Err-Refused : goal.invariant_of-self-in-Err-Refused
invariant_of-self-in-Err-Refused g c =
    let s = c.self.inside in
    let same = c.in-Err-Refused.ensures.unchanged in
    refused_kept c.clocks_keep_the_laws.ensures s.journal.items c.judge.new.journal.items s.number s.epoch s.count s.graph c.judge.new.graph s.is_halted
    same.0 same.1 c.self.invariant

pub returns-in-Ok-keep_record : goal.returns-in-Ok-keep_record
returns-in-Ok-keep_record g c =
    let s = c.self.inside in
    let seen = g.D.Disk.seen in
    let images = g.D.Disk.images in
    let d0 = c.args.disk.now in
    let d1 = c.keep_record.new.disk in
    let gate = c.len-gate.result - 1 in
    let on : s.is_halted ≡ false = search rules in
    let place : gate ≡ length s.journal.items - 1 = omega (arith, c.len-gate.ensures, s.journal.ok.0) in
    let epoch_fits : s.epoch < 2 ^ 64 = search rules in
    let count_fits : s.count + 1 < 2 ^ 64 = search rules in
    let kept_ops : AreKeptOps c.args.ops.now = record { few = c.requires.few; names = c.in-Ok.ensures.typed; version = c.requires.version } in
    let rest = rest_at s.journal.items s.epoch s.count gate s.is_halted c.args.self.now (seen d0) (images d0) c.self.view_is on place c.requires.at_rest in
    let is_next = added c.clocks_keep_the_laws.ensures c.payloads_say_commits.ensures.read s.journal.items c.judge.new.journal.items s.number s.epoch s.count gate
    c.kept_stamp-stamp.result s.graph c.judge.new.graph c.args.ops.now c.in-Ok.answers.items s.is_halted on c.self.invariant c.kept_stamp-stamp.ensures place
    c.in-Ok.ensures.added c.in-Ok.ensures.done kept_ops c.in-Ok.ensures.short epoch_fits count_fits in
    subst (λ k. HasCommitted seen images g.D.Disk.moment g.D.Disk.images_since g.D.Disk.faults d0 d1 k (store_of c.keep_record.new.journal.items s.epoch (s.count + 1) s.is_halted) c.args.ops.now c.kept_stamp-stamp.result (s.number + 1) c.in-Ok.answers.items)
    c.self.view_is
    (ends_committed c.clocks_keep_the_laws.ensures c.payloads_say_commits.ensures.read s.journal.items c.judge.new.journal.items s.number s.epoch s.count gate
    c.kept_stamp-stamp.result s.graph c.judge.new.graph c.args.ops.now c.in-Ok.answers.items s.is_halted on c.self.invariant c.kept_stamp-stamp.ensures place
    c.in-Ok.ensures.added c.in-Ok.ensures.done kept_ops c.in-Ok.ensures.short epoch_fits count_fits
    seen images g.D.Disk.moment g.D.Disk.images_since g.D.Disk.faults d0 d1
    (λ told. c.keep_record.ensures.any_moment (kept_commits s.journal.items) (commit_with (kept_stamp s.epoch (s.count + 1)) c.args.ops.now) rest is_next told) c.keep_record.ensures.never_falls c.keep_record.ensures.told
    c.keep_record.new.journal.items c.in-Ok-keep_record.ensures.opened (c.in-Ok-keep_record.ensures.acknowledged (kept_commits s.journal.items) (commit_with (kept_stamp s.epoch (s.count + 1)) c.args.ops.now) rest is_next)
    (c.in-Ok-keep_record.ensures.bytes (kept_commits s.journal.items) rest) c.in-Ok-keep_record.ensures.no_fault)

pub returns-in-Err : goal.returns-in-Err
returns-in-Err g c =
    let s = c.self.inside in
    let seen = g.D.Disk.seen in
    let images = g.D.Disk.images in
    let d0 = c.args.disk.now in
    let d1 = c.keep_record.new.disk in
    let gate = c.len-gate.result - 1 in
    let on : s.is_halted ≡ false = search rules in
    let place : gate ≡ length s.journal.items - 1 = omega (arith, c.len-gate.ensures, s.journal.ok.0) in
    let epoch_fits : s.epoch < 2 ^ 64 = search rules in
    let count_fits : s.count + 1 < 2 ^ 64 = search rules in
    let kept_ops : AreKeptOps c.args.ops.now = record { few = c.requires.few; names = c.in-Ok.ensures.typed; version = c.requires.version } in
    let rest = rest_at s.journal.items s.epoch s.count gate s.is_halted c.args.self.now (seen d0) (images d0) c.self.view_is on place c.requires.at_rest in
    let is_next = added c.clocks_keep_the_laws.ensures c.payloads_say_commits.ensures.read s.journal.items c.judge.new.journal.items s.number s.epoch s.count gate
    c.kept_stamp-stamp.result s.graph c.judge.new.graph c.args.ops.now c.in-Ok.answers.items s.is_halted on c.self.invariant c.kept_stamp-stamp.ensures place
    c.in-Ok.ensures.added c.in-Ok.ensures.done kept_ops c.in-Ok.ensures.short epoch_fits count_fits in
    subst (λ k. HasHalted seen images g.D.Disk.moment g.D.Disk.images_since g.D.Disk.faults d0 d1 k (store_of c.keep_record.new.journal.items s.epoch s.count true) c.args.ops.now)
    c.self.view_is
    (ends_halted c.clocks_keep_the_laws.ensures c.payloads_say_commits.ensures.read s.journal.items c.judge.new.journal.items s.number s.epoch s.count gate
    c.kept_stamp-stamp.result s.graph c.judge.new.graph c.args.ops.now c.in-Ok.answers.items s.is_halted on c.self.invariant c.kept_stamp-stamp.ensures place
    c.in-Ok.ensures.added c.in-Ok.ensures.done kept_ops c.in-Ok.ensures.short epoch_fits count_fits
    seen images g.D.Disk.moment g.D.Disk.images_since g.D.Disk.faults d0 d1
    (λ told. c.keep_record.ensures.any_moment (kept_commits s.journal.items) (commit_with (kept_stamp s.epoch (s.count + 1)) c.args.ops.now) rest is_next told) c.keep_record.ensures.never_falls c.keep_record.ensures.told
    c.keep_record.new.journal.items c.in-Err.ensures.cut c.in-Err.ensures.failed)

pub returns-in-Err-Refused : goal.returns-in-Err-Refused
returns-in-Err-Refused g c =
    let s = c.self.inside in
    let on : s.is_halted ≡ false = search rules in
    let refusal = subst (λ f. IfTxRefused {A = ℕ} (Err f) (λ stopped. transaction c.args.ops.now (plain_of s.graph) ≡ Err stopped)) c.in-Err-Refused.field-0-is c.in-Err-Refused.ensures.refused in
    subst (λ k. HasTurnedDown g.D.Disk.seen g.D.Disk.images g.D.Disk.moment g.D.Disk.images_since g.D.Disk.faults c.args.disk.now c.args.disk.now k (store_of c.judge.new.journal.items s.epoch (s.count + 1) s.is_halted) c.args.ops.now c.kept_stamp-stamp.result
    c.in-Err-Refused.op c.in-Err-Refused.reason s.number)
    c.self.view_is
    (ends_refused s.journal.items c.judge.new.journal.items s.number s.epoch s.count c.kept_stamp-stamp.result s.graph c.args.ops.now s.is_halted on c.self.invariant
    c.kept_stamp-stamp.ensures c.in-Err-Refused.ensures.unchanged.0
    g.D.Disk.seen g.D.Disk.images g.D.Disk.moment g.D.Disk.images_since g.D.Disk.faults c.args.disk.now
    c.in-Err-Refused.op c.in-Err-Refused.reason refusal)
