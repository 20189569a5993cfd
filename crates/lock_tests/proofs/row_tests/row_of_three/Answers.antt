use Rattle.std.proofs.Common.{arith, ◌≡◌, ℕ, ◌<◌, List, length, get_or, sym, ap, ◌∙◌, subst}
use Rattle.chronicle.specs.declared.chronicle.Chronicle.{Chronicle}
use Rattle.chronicle.specs.declared.pass.Pass.{Pass}
use Rattle.chronicle.specs.Locks.{Lock}
use Rattle.chronicle.specs.Passes.{IsReady}
use Rattle.lock_tests.specs.declared.row_tests.Empty.{Empty}
use Rattle.lock_tests.specs.declared.row_tests.Noted.{Noted}
use Rattle.lock_row.specs.Rows.{names_of, AreReady}
use Rattle.lock_row.specs.Hands.{HavePasses}
use Rattle.lock_row.proofs.Lists.{written}
use Rattle.lock_tests.proofs.row_tests.row_of_three.Goals as goal

Row : Type 0
Row = List (Chronicle Noted ℕ)

empty : Empty
empty = record { byte = 0 }

pub deal_hand-requires-clause-left : goal.deal_hand-requires-clause-left
deal_hand-requires-clause-left c = subst (λ (ls : List (Chronicle Noted ℕ)). HavePasses 2 ls c.in_ok-passes.passes.items)
    (sym c.deref.ensures.value) (c.in_ok-passes.ensures.passes 2 c.in_ok-locks.ensures.passes)

pub deal_hand-requires-2-clause-left : goal.deal_hand-requires-2-clause-left
deal_hand-requires-2-clause-left c = subst (λ (ls : List (Chronicle Noted ℕ)). HavePasses 1 ls c.deal_hand.new.passes.items)
    (c.deref.ensures.value ∙ sym c.deref-2.ensures.value) c.in_ok-second.ensures.left

pub fill_row-requires-clause-fit : goal.fill_row-requires-clause-fit
fill_row-requires-clause-fit c k l m low =
    let before = c.in_ok-locks.locks.items in
    let opened = c.open_row.new.locks.items in
    let first : k < length before = omega (arith, low, c.in_ok-passes.ensures.count) in
    let value = c.deref-3.ensures.value in
    let begins = c.in_ok-passes.ensures.begin k l l empty first in
    let within : k < length c.in_ok-machines.machines.items = omega
    (arith, low, c.in_ok-machines.ensures.count, c.in_ok-machines.machines.ok.0, ap (λ (ls : List (Chronicle Noted ℕ)). length ls) value) in
    record {
      frame_is = c.in_ok-machines.ensures.names k m within ∙
          (ap (λ (ls : List (Chronicle Noted ℕ)). names_of ls) value ∙ (c.in_ok-passes.ensures.names ∙ sym begins.frame_is));
      log_is = c.in_ok-machines.ensures.empty k m within ∙ sym begins.start_is;
    }

pub invariant_of-result : goal.invariant_of-result
invariant_of-result c =
    let before = c.in_ok-locks.locks.items in
    let opened = c.open_row.new.locks.items in
    let locks = c.fill_row.new.locks.items in
    let three : length before ≡ 3 = omega (arith, c.in_ok-locks.ensures.locks, c.in_ok-locks.locks.ok.0) in
    let long : length opened ≡ 3 = omega (arith, three, c.in_ok-passes.ensures.count) in
    let many : length locks ≡ 3 = omega (arith, long, c.fill_row.ensures.count) in
    let row = c.fill_row.ensures.row in
    let hand = c.machines_for.new.hand in
    let second = c.in_ok-second.second in
    let first = c.in_ok-first.first in
    let second_long : length second.items ≡ 3 = omega (
      arith,
      long,
      c.in_ok-second.ensures.hand_count,
      second.ok.0,
      ap
          (λ (ls : List (Chronicle Noted ℕ)). length ls) c.deref.ensures.value,
    ) in
    let first_long : length first.items ≡ 3 = omega (
      arith,
      long,
      c.in_ok-first.ensures.hand_count,
      first.ok.0,
      ap
          (λ (ls : List (Chronicle Noted ℕ)). length ls) c.deref-2.ensures.value,
    ) in
    let hand_long : length hand ≡ 3 = omega (
      arith,
      first_long,
      c.machines_for.ensures.hand,
      ap
          (λ (ps : List (Pass ℕ)). length ps) c.as_mut_slice.ensures.value,
    ) in
    let back = written first.len hand first.items (omega (arith, hand_long, first_long, first.ok.0)) in
    let filled : (ps : List (Pass ℕ)) → AreReady opened ps → AreReady locks ps = λ ps ready k l p low.
    let within : k < length opened = omega (arith, low, many, long) in
    subst (λ (x : Lock ℕ). IsReady x (get_or ps k p)) (sym (row k l within)) (ready k l p within) in record {
      count = many;
      frames = λ k l low. let within : k < length opened = omega (arith, low, many, long) in
          let begins = c.in_ok-passes.ensures.begin k l l empty (omega (arith, low, many, three)) in
          ap (λ (x : Lock ℕ). x.frame) (row k l within) ∙ (begins.frame_is ∙ (sym c.in_ok-passes.ensures.names ∙ sym c.fill_row.ensures.names));
      first_count = ap (λ (ps : List (Pass ℕ)). length ps) back ∙ hand_long;
      second_count = second_long;
      first_ready = subst (λ (ps : List (Pass ℕ)). AreReady locks ps) (sym back)
          (filled hand (subst (λ (ls : List (Chronicle Noted ℕ)). AreReady ls hand) c.deref-3.ensures.value c.machines_for.ensures.ready));
      second_ready = filled second.items (subst (λ (ls : List (Chronicle Noted ℕ)). AreReady ls second.items) c.deref.ensures.value
          (λ k l p low. (c.in_ok-second.ensures.dealt k l p low).ready));
    }
