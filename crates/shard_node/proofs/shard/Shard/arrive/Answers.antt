use Rattle.std.proofs.Common.{◌≡◌, ◌++◌, ◌∷◌, [], ◌<◌, Bool, true, false, cond, is_some, List, length, refl, sym, ap, subst, ◌∙◌, arith}
use Rattle.std.proofs.lemmas.Result.{err_from_is_err_and}
use Rattle.shard_queue.specs.Inbox.{has_arrived}
use Rattle.shard_queue.specs.declared.inbox.Arrival.TheVariants.{Kept, Repeat}
use Rattle.weave_entries.specs.declared.shard_log.ShardEntry.{ShardEntry}
use Rattle.weave_entries.specs.declared.shard_log.ShardDeed.TheVariants.{Arrived}
use Rattle.weave_entries.specs.ShardReplay.{arrived_at, last_of}
use Rattle.shard_node.specs.declared.waiting.Waiting.{Waiting}
use Rattle.shard_node.specs.Shards.{ShardView, AddsEntry}
use Rattle.shard_node.proofs.Keeping.{keeps_arrived}
use Rattle.shard_node.proofs.LowMarks.{last-arrived, marks-still}
use Rattle.shard_node.proofs.Ready.{not_there, at_gate, arrived-is}
use Rattle.shard_node.proofs.Views.{same_view}
use Rattle.shard_node.proofs.shard.Shard.arrive.Goals as goal

pub invariant_of-self-2 : goal.invariant_of-self-2
invariant_of-self-2 c =
    let same : length c.reserve.new.self.items ≡ length c.self.inside.log.items = ap length c.reserve.ensures.items in
    let place : c.len.result ≡ length c.self.inside.log.items = omega (arith, c.len.ensures, c.reserve.new.self.ok.0, same) in
    let inbox = c.index_mut-channel.result.now in
    let below : c.args.gate < c.self.inside.gates = subst (λ (v : ShardView). c.args.gate < v.gates) (sym c.self.view_is) c.requires.gate in
    let at = at_gate _ _ _ _ c.self.invariant.0 c.args.gate inbox below c.index_mut-channel.ensures.value in
    let new : has_arrived c.args.number inbox ≡ false = sym c.has.ensures ∙ c.if-has.false in
    let none = not_there _ (sym (arrived-is _ _ _ _ c.self.invariant.0 c.args.gate c.args.number inbox at c.requires.number) ∙ new) in
    let waiting : Waiting = record { place = c.len.result; stamp = c.args.message.stamp } in
    let log = c.self.inside.log.items in
    let entry : ShardEntry = record { author = c.args.author; deed = Arrived c.args.gate c.args.number c.args.message } in
    let longer : c.push_reserved.new.self.items ≡ log ++ entry ∷ [] = c.push_reserved.ensures.items ∙ ap (λ (l : List ShardEntry). l ++ entry ∷ []) c.reserve.ensures.items in (
      keeps_arrived _ _ _ _ c.self.invariant.0 c.each_number_waits_by_itself.ensures c.args.author c.args.gate c.args.number c.args.message inbox c.arrive.new.self _ waiting place refl
          (record { gate_is = below; from_one = c.requires.number; new = none; takable = c.requires.message }) at
          c.in_ok-arrive.ensures.inbox longer,
      marks-still _ _ _ c.self.invariant.1 _ (λ gate. ap (last_of gate) longer ∙ last-arrived log c.args.author c.args.gate c.args.number c.args.message c.requires.number none (c.self.invariant.0.channels c.args.gate inbox at).arrived gate),
    )

pub returns-then-has : goal.returns-then-has
returns-then-has c = record {
  answer =
      let inbox = c.index_mut-channel.result.now in
      let below : c.args.gate < c.self.inside.gates = subst (λ (v : ShardView). c.args.gate < v.gates) (sym c.self.view_is) c.requires.gate in
      let at = at_gate _ _ _ _ c.self.invariant.0 c.args.gate inbox below c.index_mut-channel.ensures.value in
      let old : has_arrived c.args.number inbox ≡ true = sym c.has.ensures ∙ c.if-has.true in
      ap (λ (b : Bool). cond b Repeat Kept) (sym old ∙ arrived-is _ _ _ _ c.self.invariant.0 c.args.gate c.args.number inbox at c.requires.number ∙ ap (λ (v : ShardView). is_some (arrived_at c.args.gate c.args.number v.log)) c.self.view_is);
  kept = λ is. absurd cc;
  repeat = λ is. c.self.view_is;
  refused = tt;
}

pub returns : goal.returns
returns c =
    let entry : ShardEntry = record { author = c.args.author; deed = Arrived c.args.gate c.args.number c.args.message } in
    let next : ShardView = record { number = c.self.inside.number; gates = c.self.inside.gates; log = c.push_reserved.new.self.items } in
    record {
      answer =
          let inbox = c.index_mut-channel.result.now in
          let below : c.args.gate < c.self.inside.gates = subst (λ (v : ShardView). c.args.gate < v.gates) (sym c.self.view_is) c.requires.gate in
          let at = at_gate _ _ _ _ c.self.invariant.0 c.args.gate inbox below c.index_mut-channel.ensures.value in
          let new : has_arrived c.args.number inbox ≡ false = sym c.has.ensures ∙ c.if-has.false in
          ap (λ (b : Bool). cond b Repeat Kept) (sym new ∙ arrived-is _ _ _ _ c.self.invariant.0 c.args.gate c.args.number inbox at c.requires.number ∙ ap (λ (v : ShardView). is_some (arrived_at c.args.gate c.args.number v.log)) c.self.view_is);
      kept = λ is. subst (λ (v : ShardView). AddsEntry v next c.args.author (Arrived c.args.gate c.args.number c.args.message)) c.self.view_is
          (record {
            log = c.push_reserved.ensures.items ∙ ap (λ (l : List ShardEntry). l ++ entry ∷ []) c.reserve.ensures.items;
            number = refl;
            gates = refl;
          });
      repeat = λ is. absurd cc;
      refused = tt;
    }

pub returns-in_err-reserve : goal.returns-in_err-reserve
returns-in_err-reserve c =
    let p = err_from_is_err_and c.from_residual.result c.from_residual.ensures.1 in
    rw p.1 (record { answer = tt; kept = tt; repeat = tt; refused = same_view c.self.inside.number c.self.inside.gates _ _ _ c.reserve.ensures.items c.self.view_is })

pub returns-in_err-arrive : goal.returns-in_err-arrive
returns-in_err-arrive c =
    let p = err_from_is_err_and c.from_residual-in_err-arrive.result c.from_residual-in_err-arrive.ensures.1 in
    rw p.1 (record { answer = tt; kept = tt; repeat = tt; refused = same_view c.self.inside.number c.self.inside.gates _ _ _ c.reserve.ensures.items c.self.view_is })
