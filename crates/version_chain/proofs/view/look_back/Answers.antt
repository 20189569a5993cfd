use Rattle.std.proofs.Common.{◌≡◌, ◌+◌, ℕ, length, sym, ap, ◌∙◌, arith}
use Rattle.std.proofs.lemmas.List.{length-append}
use Rattle.std.proofs.lemmas.Result.{err_from_is_err_and}
use Rattle.std.proofs.lemmas.List.Elements.{All-contains}
use Rattle.vector_stamp.specs.declared.clock.Stamp.{Stamp}
use Rattle.vector_stamp.specs.Order.{id_of}
use Rattle.version_chain.specs.Keeping.{kept_from}
use Rattle.version_chain.proofs.Histories.{kept_length, version_at, kept_split}
use Rattle.version_chain.proofs.LookBack.{newest_stamp-in, none_unordered, older-front, one_coherent, learns_on, passed_over, read_is, view_is, seen_on, pairs_seen, log_seen, pairs_skipped, log_skipped, skipped_on}
use Rattle.version_chain.proofs.view.look_back.Goals as goal

pub overflow_add-number : goal.overflow_add-number
overflow_add-number g c =
    let long = ap length c.loop-newest.invariant.front.1 in
    omega (arith, long, length-append (kept_from c.args.dropped c.args.parts.now c.loop-newest.rest.now) c.loop-newest.invariant.front.0, kept_length c.args.parts.now c.args.dropped c.loop-newest.rest.now, kept_length c.args.parts.now c.args.dropped c.args.stamps.now, c.requires.small)

pub look-requires-clause-other_id : goal.look-requires-clause-other_id
look-requires-clause-other_id g c =
    All-contains (λ (update : Stamp). id_of update ≡ id_of c.args.program → ⊥) _ _ c.requires.other_ids (newest_stamp-in (kept_from c.args.dropped c.args.parts.now c.args.stamps.now) (kept_from c.args.dropped c.args.parts.now c.loop-newest.rest.now) (kept_from c.args.dropped c.args.parts.now c.in-Some.older.now) (version_at c.args.parts.now (c.args.dropped + length c.loop-newest.rest.now) c.in-Some.newest.now) c.loop-newest.invariant.front (kept_split c.args.parts.now c.args.dropped c.loop-newest.rest.now c.in-Some.older.now c.in-Some.newest.now c.in-Some.ensures.cases.0))

pub look-requires-clause-coherent : goal.look-requires-clause-coherent
look-requires-clause-coherent g c =
    one_coherent (kept_from c.args.dropped c.args.parts.now c.args.stamps.now) (kept_from c.args.dropped c.args.parts.now c.loop-newest.rest.now) (kept_from c.args.dropped c.args.parts.now c.in-Some.older.now) (version_at c.args.parts.now (c.args.dropped + length c.loop-newest.rest.now) c.in-Some.newest.now) c.loop-newest.invariant.front (kept_split c.args.parts.now c.args.dropped c.loop-newest.rest.now c.in-Some.older.now c.in-Some.newest.now c.in-Some.ensures.cases.0) c.parts_and_unions_are_coherent.ensures.part c.args.program _ _ c.loop-newest.invariant.known c.requires.coherent

pub returns-in_err-seen : goal.returns-in_err-seen
returns-in_err-seen g c =
    let p = err_from_is_err_and c.from_residual.result c.from_residual.ensures.1 in
    rw p.1 (record {
      view = tt;
      pairs = tt;
      no_pair = c.in_err-seen.ensures.no_pair ∙ c.loop-newest.invariant.pairs;
      known = learns_on (kept_from c.args.dropped c.args.parts.now c.args.stamps.now) (kept_from c.args.dropped c.args.parts.now c.loop-newest.rest.now) (kept_from c.args.dropped c.args.parts.now c.in-Some.older.now) (version_at c.args.parts.now (c.args.dropped + length c.loop-newest.rest.now) c.in-Some.newest.now) c.loop-newest.invariant.front (kept_split c.args.parts.now c.args.dropped c.loop-newest.rest.now c.in-Some.older.now c.in-Some.newest.now c.in-Some.ensures.cases.0) c.args.program _ _ _ c.loop-newest.invariant.known c.look.ensures.known;
      stay_known = λ stamp has. c.look.ensures.stay_known stamp (c.loop-newest.invariant.stays stamp has);
      logged = tt;
      not_logged = λ keeps. c.in_err-seen.ensures.not_logged keeps ∙ c.loop-newest.invariant.log keeps;
      not_asked = λ none. c.look.ensures.not_asked (none_unordered (kept_from c.args.dropped c.args.parts.now c.args.stamps.now) (kept_from c.args.dropped c.args.parts.now c.loop-newest.rest.now) (kept_from c.args.dropped c.args.parts.now c.in-Some.older.now) (version_at c.args.parts.now (c.args.dropped + length c.loop-newest.rest.now) c.in-Some.newest.now) c.loop-newest.invariant.front (kept_split c.args.parts.now c.args.dropped c.loop-newest.rest.now c.in-Some.older.now c.in-Some.newest.now c.in-Some.ensures.cases.0) c.args.program none) ∙ c.loop-newest.invariant.not_asked none;
    })

pub returns-in-Some-2 : goal.returns-in-Some-2
returns-in-Some-2 g c = record {
  view = ap (λ (n : ℕ). record { state = c.in-Some-2.seen.state; updates = c.args.dropped + n; settled = c.in-Some-2.seen.settled }) (sym (kept_length c.args.parts.now c.args.dropped c.loop-newest.rest.now))
      ∙ view_is (kept_from c.args.dropped c.args.parts.now c.args.stamps.now) (kept_from c.args.dropped c.args.parts.now c.loop-newest.rest.now) (kept_from c.args.dropped c.args.parts.now c.in-Some.older.now) (version_at c.args.parts.now (c.args.dropped + length c.loop-newest.rest.now) c.in-Some.newest.now) c.loop-newest.invariant.front (kept_split c.args.parts.now c.args.dropped c.loop-newest.rest.now c.in-Some.older.now c.in-Some.newest.now c.in-Some.ensures.cases.0) (g.J.Judge.pairs c.args.judge.now) c.args.program c.loop-newest.invariant.seen c.in-Some-2.seen (seen_on (g.J.Judge.pairs c.args.judge.now) (g.J.Judge.pairs c.loop-newest.judge) c.args.program (version_at c.args.parts.now (c.args.dropped + length c.loop-newest.rest.now) c.in-Some.newest.now) c.loop-newest.invariant.pairs c.in-Some-2.seen c.in_ok-seen.field-0 c.in-Some-2.is c.in_ok-seen.ensures.seen) c.args.dropped;
  pairs = pairs_seen c.in_ok-seen.field-0 c.in-Some-2.seen c.in-Some.newest.now c.args.program _ (g.J.Judge.pairs c.args.judge.now) (g.J.Judge.pairs c.loop-newest.judge) _ c.in-Some-2.is (read_is (kept_from c.args.dropped c.args.parts.now c.args.stamps.now) (kept_from c.args.dropped c.args.parts.now c.loop-newest.rest.now) (kept_from c.args.dropped c.args.parts.now c.in-Some.older.now) (version_at c.args.parts.now (c.args.dropped + length c.loop-newest.rest.now) c.in-Some.newest.now) c.loop-newest.invariant.front (kept_split c.args.parts.now c.args.dropped c.loop-newest.rest.now c.in-Some.older.now c.in-Some.newest.now c.in-Some.ensures.cases.0) (g.J.Judge.pairs c.args.judge.now) c.args.program c.loop-newest.invariant.seen c.in-Some-2.seen (seen_on (g.J.Judge.pairs c.args.judge.now) (g.J.Judge.pairs c.loop-newest.judge) c.args.program (version_at c.args.parts.now (c.args.dropped + length c.loop-newest.rest.now) c.in-Some.newest.now) c.loop-newest.invariant.pairs c.in-Some-2.seen c.in_ok-seen.field-0 c.in-Some-2.is c.in_ok-seen.ensures.seen) c.args.dropped) c.loop-newest.invariant.pairs c.in_ok-seen.ensures.pairs;
  no_pair = tt;
  known = learns_on (kept_from c.args.dropped c.args.parts.now c.args.stamps.now) (kept_from c.args.dropped c.args.parts.now c.loop-newest.rest.now) (kept_from c.args.dropped c.args.parts.now c.in-Some.older.now) (version_at c.args.parts.now (c.args.dropped + length c.loop-newest.rest.now) c.in-Some.newest.now) c.loop-newest.invariant.front (kept_split c.args.parts.now c.args.dropped c.loop-newest.rest.now c.in-Some.older.now c.in-Some.newest.now c.in-Some.ensures.cases.0) c.args.program _ _ _ c.loop-newest.invariant.known c.look.ensures.known;
  stay_known = λ stamp has. c.look.ensures.stay_known stamp (c.loop-newest.invariant.stays stamp has);
  logged = λ keeps.
      log_seen c.args.author c.in_ok-seen.field-0 c.in-Some-2.seen c.in-Some.newest.now c.args.program _ (g.J.Judge.pairs c.args.judge.now) (g.J.Judge.pairs c.loop-newest.judge) _ _ _ c.in-Some-2.is (read_is (kept_from c.args.dropped c.args.parts.now c.args.stamps.now) (kept_from c.args.dropped c.args.parts.now c.loop-newest.rest.now) (kept_from c.args.dropped c.args.parts.now c.in-Some.older.now) (version_at c.args.parts.now (c.args.dropped + length c.loop-newest.rest.now) c.in-Some.newest.now) c.loop-newest.invariant.front (kept_split c.args.parts.now c.args.dropped c.loop-newest.rest.now c.in-Some.older.now c.in-Some.newest.now c.in-Some.ensures.cases.0) (g.J.Judge.pairs c.args.judge.now) c.args.program c.loop-newest.invariant.seen c.in-Some-2.seen (seen_on (g.J.Judge.pairs c.args.judge.now) (g.J.Judge.pairs c.loop-newest.judge) c.args.program (version_at c.args.parts.now (c.args.dropped + length c.loop-newest.rest.now) c.in-Some.newest.now) c.loop-newest.invariant.pairs c.in-Some-2.seen c.in_ok-seen.field-0 c.in-Some-2.is c.in_ok-seen.ensures.seen) c.args.dropped) c.loop-newest.invariant.pairs (c.loop-newest.invariant.log keeps) (c.in_ok-seen.ensures.logged keeps);
  not_logged = tt;
  not_asked = λ none. c.look.ensures.not_asked (none_unordered (kept_from c.args.dropped c.args.parts.now c.args.stamps.now) (kept_from c.args.dropped c.args.parts.now c.loop-newest.rest.now) (kept_from c.args.dropped c.args.parts.now c.in-Some.older.now) (version_at c.args.parts.now (c.args.dropped + length c.loop-newest.rest.now) c.in-Some.newest.now) c.loop-newest.invariant.front (kept_split c.args.parts.now c.args.dropped c.loop-newest.rest.now c.in-Some.older.now c.in-Some.newest.now c.in-Some.ensures.cases.0) c.args.program none) ∙ c.loop-newest.invariant.not_asked none;
}

pub loop-newest-preserved : goal.loop-newest-preserved
loop-newest-preserved g c = record {
  front = older-front (kept_from c.args.dropped c.args.parts.now c.args.stamps.now) (kept_from c.args.dropped c.args.parts.now c.loop-newest.rest.now) (kept_from c.args.dropped c.args.parts.now c.in-Some.older.now) (version_at c.args.parts.now (c.args.dropped + length c.loop-newest.rest.now) c.in-Some.newest.now) c.loop-newest.invariant.front (kept_split c.args.parts.now c.args.dropped c.loop-newest.rest.now c.in-Some.older.now c.in-Some.newest.now c.in-Some.ensures.cases.0);
  seen = passed_over (kept_from c.args.dropped c.args.parts.now c.args.stamps.now) (kept_from c.args.dropped c.args.parts.now c.loop-newest.rest.now) (kept_from c.args.dropped c.args.parts.now c.in-Some.older.now) (version_at c.args.parts.now (c.args.dropped + length c.loop-newest.rest.now) c.in-Some.newest.now) c.loop-newest.invariant.front (kept_split c.args.parts.now c.args.dropped c.loop-newest.rest.now c.in-Some.older.now c.in-Some.newest.now c.in-Some.ensures.cases.0) (g.J.Judge.pairs c.args.judge.now) c.args.program c.loop-newest.invariant.seen
      (skipped_on (g.J.Judge.pairs c.args.judge.now) (g.J.Judge.pairs c.loop-newest.judge) c.args.program (version_at c.args.parts.now (c.args.dropped + length c.loop-newest.rest.now) c.in-Some.newest.now) c.loop-newest.invariant.pairs c.in_ok-seen.field-0 c.in_default-2.is c.in_ok-seen.ensures.seen);
  pairs = pairs_skipped c.in_ok-seen.field-0 c.in-Some.newest.now c.args.program (g.J.Judge.pairs c.args.judge.now) (g.J.Judge.pairs c.loop-newest.judge) _ c.in_default-2.is c.loop-newest.invariant.pairs c.in_ok-seen.ensures.pairs;
  log = λ keeps. log_skipped c.args.author c.in_ok-seen.field-0 c.in-Some.newest.now c.args.program (g.J.Judge.pairs c.loop-newest.judge) _ _ _ c.in_default-2.is (c.loop-newest.invariant.log keeps) (c.in_ok-seen.ensures.logged keeps);
  known = learns_on (kept_from c.args.dropped c.args.parts.now c.args.stamps.now) (kept_from c.args.dropped c.args.parts.now c.loop-newest.rest.now) (kept_from c.args.dropped c.args.parts.now c.in-Some.older.now) (version_at c.args.parts.now (c.args.dropped + length c.loop-newest.rest.now) c.in-Some.newest.now) c.loop-newest.invariant.front (kept_split c.args.parts.now c.args.dropped c.loop-newest.rest.now c.in-Some.older.now c.in-Some.newest.now c.in-Some.ensures.cases.0) c.args.program _ _ _ c.loop-newest.invariant.known c.look.ensures.known;
  stays = λ stamp has. c.look.ensures.stay_known stamp (c.loop-newest.invariant.stays stamp has);
  not_asked = λ none. c.look.ensures.not_asked (none_unordered (kept_from c.args.dropped c.args.parts.now c.args.stamps.now) (kept_from c.args.dropped c.args.parts.now c.loop-newest.rest.now) (kept_from c.args.dropped c.args.parts.now c.in-Some.older.now) (version_at c.args.parts.now (c.args.dropped + length c.loop-newest.rest.now) c.in-Some.newest.now) c.loop-newest.invariant.front (kept_split c.args.parts.now c.args.dropped c.loop-newest.rest.now c.in-Some.older.now c.in-Some.newest.now c.in-Some.ensures.cases.0) c.args.program none) ∙ c.loop-newest.invariant.not_asked none;
}
