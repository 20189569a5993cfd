use Rattle.std.proofs.Common.{refl, ap, arith}
use Rattle.program_defs.specs.declared.script.Script.{Script}
use Rattle.weave_drive.proofs.Driven.{drives-on, drives-through}
use Rattle.weave_drive.proofs.Quiet.{drives-quiet}
use Rattle.weave_drive.proofs.Reading.{other-of, shard-there, visit-after, visit-again, visit-ok, visit-whole}
use Rattle.weave_drive.proofs.Replied.{get-inside}
use Rattle.weave_drive.proofs.looking.visit.Goals as goal

pub step-requires : goal.step-requires
step-requires c = get-inside c.args.core.now.script.requests c.args.request c.requires.reading.request c.requires.reading.request_is

pub returns-in-Ok-clause-visits : goal.returns-in-Ok-clause-visits
returns-in-Ok-clause-visits c =
    let laws = c.the_crates_below_keep_their_laws.ensures in
    let old = c.args.core.now in
    let on = drives-on 0 laws old c.step.new.core c.script.ensures.limits c.script.ensures.core (c.step.ensures.drives 0 refl) in
    visit-ok laws old c.step.new.core c.args.request c.args.home _ c.in_ok-step.ensures.cores c.requires.reading c.in_ok-step.ensures.done on (shard-there old.script c.script.ensures.limits) c.in-Ok.is

pub make_ready-requires-clause-home : goal.make_ready-requires-clause-home
make_ready-requires-clause-home c =
    let inside = c.script.ensures.limits.homes c.args.request c.requires.reading.request c.requires.reading.request_is in
    let home = c.requires.reading.gate_is in
    let same = ap (λ (s : Script). s.gates) c.in_ok-step.ensures.done.script_is in
    omega (arith, inside, home, same)

pub make_ready-requires-clause-shard : goal.make_ready-requires-clause-shard
make_ready-requires-clause-shard c =
    let again = visit-again c.the_crates_below_keep_their_laws.ensures c.args.core.now c.step.new.core c.args.request c.args.home _ c.in_ok-step.ensures.cores c.requires.reading c.in_ok-step.ensures.done c.in-Again.shard _ (shard-there c.args.core.now.script c.script.ensures.limits) c.in-Again.is in
    let inside = again.inside in
    let same = ap (λ (s : Script). s.shards) c.in_ok-step.ensures.done.script_is in
    omega (arith, inside, same)

pub make_ready-requires-clause-quiet : goal.make_ready-requires-clause-quiet
make_ready-requires-clause-quiet c = drives-quiet c.args.core.now c.step.new.core (c.step.ensures.drives 0 refl) c.requires.quiet

pub returns-in_err-make_ready-in-Again-clause-drives : goal.returns-in_err-make_ready-in-Again-clause-drives
returns-in_err-make_ready-in-Again-clause-drives c = drives-through 0 c.args.core.now c.step.new.core c.make_ready.new.core (c.step.ensures.drives 0 refl) c.make_ready.ensures.drives

pub returns-in_ok-make_ready-in-Again-clause-drives : goal.returns-in_ok-make_ready-in-Again-clause-drives
returns-in_ok-make_ready-in-Again-clause-drives c = drives-through 0 c.args.core.now c.step.new.core c.make_ready.new.core (c.step.ensures.drives 0 refl) c.make_ready.ensures.drives

pub returns-in_ok-make_ready-in-Again-clause-visits : goal.returns-in_ok-make_ready-in-Again-clause-visits
returns-in_ok-make_ready-in-Again-clause-visits c =
    let laws = c.the_crates_below_keep_their_laws.ensures in
    let old = c.args.core.now in
    let again = visit-again laws old c.step.new.core c.args.request c.args.home _ c.in_ok-step.ensures.cores c.requires.reading c.in_ok-step.ensures.done c.in-Again.shard _ (shard-there old.script c.script.ensures.limits) c.in-Again.is in
    visit-after laws old c.step.new.core c.args.request c.args.home _ c.in_ok-step.ensures.cores c.requires.reading c.in_ok-step.ensures.done c.in-Again.shard c.make_ready.new.core again c.make_ready.ensures.drives c.in_ok-make_ready-in-Again.ensures.ready

pub returns-in_default-clause-visits : goal.returns-in_default-clause-visits
returns-in_default-clause-visits c =
    visit-whole c.the_crates_below_keep_their_laws.ensures c.args.core.now c.step.new.core c.args.request c.args.home _ c.in_ok-step.ensures.cores c.requires.reading c.in_ok-step.ensures.done (other-of _ c.in_default.not-Ok c.in_default.not-Again)
