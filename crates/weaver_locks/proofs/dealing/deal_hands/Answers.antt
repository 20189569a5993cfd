use Rattle.std.proofs.Common.{rules, arith, ◌≡◌, ℕ, ◌+◌, ◌-◌, ◌<◌, List, get_or, sym, ap, ◌∙◌, subst}
use Rattle.weaver_locks.specs.declared.hand.Hand.{Hand}
use Rattle.weaver_locks.specs.Opened.{HaveFirst, IsNewHand}
use Rattle.weaver_locks.proofs.Dealings.{DealtSoFar, dealt_more}
use Rattle.weaver_locks.proofs.dealing.deal_hands.Goals as goal

pub loop-dealt-init : goal.loop-dealt-init
loop-dealt-init c = record {
  len = search rules;
  space = search rules;
  left = let same : c.args.count ≡ c.args.count - 0 = omega arith in
      subst (λ (n : ℕ). HaveFirst n c.args.locks.now c.args.passes) same c.requires;
  hands = λ k h low. absurd (omega (arith, low));
}

pub deal_last-requires : goal.deal_last-requires
deal_last-requires c =
    let low = c.loop-dealt-test.true in
    let same : c.args.count - c.loop-dealt.dealt ≡ c.args.count - 1 - c.loop-dealt.dealt + 1 = omega (arith, low) in
    record { left = subst (λ (n : ℕ). HaveFirst n c.args.locks.now c.loop-dealt.passes) same c.loop-dealt.invariant.left }

pub loop-dealt-preserved : goal.loop-dealt-preserved
loop-dealt-preserved c =
    let was = c.loop-dealt.invariant in
    let i = c.loop-dealt.dealt in
    let low = c.loop-dealt-test.true in
    let n = c.args.count in
    let locks = c.args.locks.now in
    let hands = c.loop-dealt.hands.items in
    let same : n - 1 - i ≡ n - (i + 1) = omega (arith, low) in record {
      len = search rules;
      space = search rules;
      left = subst (λ (m : ℕ). HaveFirst m locks c.deal_last.new.passes) same c.in_ok-hand.ensures.left;
      hands = subst (λ (hs : List Hand). DealtSoFar locks n hs (i + 1)) (sym c.push_reserved.ensures.items)
          (dealt_more locks n hands i c.in_ok-hand.hand (omega (arith, was.len, c.loop-dealt.hands.ok.0)) was.hands c.in_ok-hand.ensures.hand);
    }

pub returns-clause-hands : goal.returns-clause-hands
returns-clause-hands c k h low =
    let was = c.loop-dealt.invariant in
    let n = c.args.count in
    let locks = c.args.locks.now in
    let hands = c.loop-dealt.hands.items in
    let all : c.loop-dealt.dealt ≡ n = search rules in
    let long = was.len in
    let far : n - 1 - k < c.loop-dealt.dealt = omega (arith, low, all) in
    let at = c.reverse.ensures.by_index k h (omega (arith, low, long, all)) in
    let back : n - 1 - (n - 1 - k) ≡ k = omega (arith, low) in
    let here : get_or c.reverse.new.self.items k h ≡ get_or hands (n - 1 - k) h = at ∙ ap (λ (m : ℕ). get_or hands (m - 1 - k) h) (long ∙ all) in
    subst (IsNewHand locks k) (sym here) (subst (λ (m : ℕ). IsNewHand locks m (get_or hands (n - 1 - k) h)) back (was.hands (n - 1 - k) h far))
