use Rattle.std.proofs.Common.{ℕ, Ok, [], ap, refl, take, arith}
use Rattle.std.proofs.lemmas.List.{length-append, length-take, length-take-le}
use Rattle.std.proofs.lemmas.Result.{err_from_is_err_and}
use Rattle.weave_io.specs.Told.{Tells}
use Rattle.weave_io.proofs.Tellings.{takes_more, takes_count, takes_at_most, takes_at_most_still, takes_none, told_whole, risen_on}
use Rattle.weave_io.proofs.reading.read_all.Goals as goal

-- No memory for the buffer

pub returns-in_err-storage : goal.returns-in_err-storage
returns-in_err-storage g c =
    let p = err_from_is_err_and c.from_residual.result c.from_residual.ensures.1 in
    rw (p.1, p.2) (record {
      all = tt;
      end = tt;
      short = tt;
      too_long = λ is. absurd cc;
      read = λ is. absurd cc;
      read_in_time = λ is. absurd cc;
      stops = takes_none _ _ _ refl;
      never_falls = omega arith;
    })

-- The source failed

pub returns-in_err-count : goal.returns-in_err-count
returns-in_err-count g c =
    let p = err_from_is_err_and c.from_residual-in_err-count.result c.from_residual-in_err-count.ensures.1 in
    rw (p.1, p.2) (record {
      all = tt;
      end = tt;
      short = tt;
      too_long = λ is. absurd cc;
      read = λ is. risen_on _ _ _ c.loop-bytes.invariant.faults c.in_err-count.ensures.failed;
      read_in_time = λ is. takes_at_most_still _ _ _ _ _ c.loop-bytes.invariant.taken c.in_err-count.ensures.unchanged (omega (arith, c.loop-bytes.invariant.short, c.loop-bytes.bytes.ok.0));
      stops = takes_at_most_still _ _ _ _ _ c.loop-bytes.invariant.taken c.in_err-count.ensures.unchanged (omega (arith, c.loop-bytes.invariant.short, c.loop-bytes.bytes.ok.0));
      never_falls = omega (arith, c.loop-bytes.invariant.faults, c.take.ensures.never_falls);
    })

-- The end of the input

at_end : (g : _) (c : goal.After-drop-storage-then-count-eq0 g) → Tells (g.S.Source.left c.take.new.self) []
at_end g c = c.in_ok-count.ensures.end (ap Ok c.if-count-eq0.true) (omega (arith, length-take {A = ℕ}))

pub returns-then-count-eq0 : goal.returns-then-count-eq0
returns-then-count-eq0 g c = record {
  all = told_whole _ _ _ _ _ c.loop-bytes.invariant.taken c.in_ok-count.ensures.taken (ap (λ (n : ℕ). take n c.take.new.buf) c.if-count-eq0.true) (at_end g c);
  end = at_end g c;
  short = omega (arith, c.loop-bytes.invariant.short, c.loop-bytes.bytes.ok.0);
  too_long = λ is. absurd cc;
  read = λ is. absurd cc;
  read_in_time = λ is. absurd cc;
  stops = takes_at_most _ _ _ _ (takes_more _ _ _ _ _ c.loop-bytes.invariant.taken c.in_ok-count.ensures.taken)
      (rw (length-append, length-take-le _ _ c.in_ok-count.ensures.within) (omega (arith, c.in_ok-count.ensures.within, length-take {A = ℕ})));
  never_falls = omega (arith, c.loop-bytes.invariant.faults, c.take.ensures.never_falls);
}

-- The input is too long

pub returns-then-count-len : goal.returns-then-count-len
returns-then-count-len g c = record {
  all = tt;
  end = tt;
  short = tt;
  too_long = λ is.
      takes_count _ _ _ _ (takes_more _ _ _ _ _ c.loop-bytes.invariant.taken c.in_ok-count.ensures.taken)
      (rw (length-append, length-take-le _ _ c.in_ok-count.ensures.within) (omega (arith, c.in_ok-count.ensures.within, length-take {A = ℕ})));
  read = λ is. absurd cc;
  read_in_time = λ is. absurd cc;
  stops = takes_at_most _ _ _ _ (takes_more _ _ _ _ _ c.loop-bytes.invariant.taken c.in_ok-count.ensures.taken)
      (rw (length-append, length-take-le _ _ c.in_ok-count.ensures.within) (omega (arith, c.in_ok-count.ensures.within, length-take {A = ℕ})));
  never_falls = omega (arith, c.loop-bytes.invariant.faults, c.take.ensures.never_falls);
}

-- No memory for what came

pub returns-in_err-extend_from_slice : goal.returns-in_err-extend_from_slice
returns-in_err-extend_from_slice g c =
    let p = err_from_is_err_and c.from_residual-in_err-extend_from_slice.result c.from_residual-in_err-extend_from_slice.ensures.1 in
    rw (p.1, p.2) (record {
      all = tt;
      end = tt;
      short = tt;
      too_long = λ is. absurd cc;
      read = λ is. absurd cc;
      read_in_time = λ is. absurd cc;
      stops = takes_at_most _ _ _ _ (takes_more _ _ _ _ _ c.loop-bytes.invariant.taken c.in_ok-count.ensures.taken)
          (rw (length-append, length-take-le _ _ c.in_ok-count.ensures.within) (omega (arith, c.in_ok-count.ensures.within, length-take {A = ℕ})));
      never_falls = omega (arith, c.loop-bytes.invariant.faults, c.take.ensures.never_falls);
    })
