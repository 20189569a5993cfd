use Rattle.std.proofs.Common.{◌≡◌, ◌+◌, ◌<◌, ◌^◌, ◌++◌, ◌∷◌, [], length, List, Some, None, refl, sym, ap, subst, ◌∙◌, arith}
use Rattle.std.proofs.lemmas.Result.{err_from_is_err_and}
use Rattle.std.specs.Prelude.{option_copied}
use Rattle.version_graph.specs.Graphs.{chain_of, after_parts, AreNextUpdates}
use Rattle.weave_entries.specs.declared.message.Message.{Message}
use Rattle.weave_entries.specs.declared.shard_log.ShardEntry.{ShardEntry}
use Rattle.weave_entries.specs.declared.shard_log.ShardDeed.TheVariants.{Applied}
use Rattle.weave_entries.specs.ShardReplay.{processed_count, head_of, waits_at}
use Rattle.weave_entries.specs.ShardRules.{PassesAt}
use Rattle.shard_node.specs.Shards.{ShardView, AddsEntry, CanApplyHead}
use Rattle.shard_node.specs.Keeping.{first_differing}
use Rattle.shard_node.proofs.Keeping.{keeps_applied}
use Rattle.shard_node.proofs.LowMarks.{marks-applied}
use Rattle.shard_node.proofs.Ready.{at_gate, head-found, head-waits, number-is, processed-few, waits-is, next-updates}
use Rattle.shard_node.proofs.Views.{same_view}
use Rattle.shard_node.proofs.shard.Shard.apply.Goals as goal

pub apply_parts-requires : goal.apply_parts-requires
apply_parts-requires c =
    let inbox = c.index_mut-channel.result.now in
    let log = c.self.inside.log.items in
    let below : c.args.gate < c.self.inside.gates = subst (λ (v : ShardView). c.args.gate < v.gates) (sym c.self.view_is) c.requires.gate in
    let at = at_gate _ _ _ _ c.self.invariant.0 c.args.gate inbox below c.index_mut-channel.ensures.value in
    let log_is : log ≡ c.args.self.now.log = ap (λ (v : ShardView). v.log) c.self.view_is in
    let head = c.in-Some.head.now in
    let is : head_of c.args.gate log ≡ Some head = head-found _ _ _ _ c.self.invariant.0 c.args.gate inbox _ _ at (c.as_slice.ensures.value ∙ c.reserve.ensures.items) c.head_message.ensures ∙ ap option_copied c.in-Some.is in
    let none : waits_at head log ≡ None = sym (waits-is _ _ _ _ c.self.invariant.0 head) ∙ ap (first_differing c.self.inside.graph) (sym c.as_slice-2.ensures) ∙ sym c.first_waiting.ensures ∙ c.in_default-first_waiting.is in
    let passes = subst (λ (l : List ShardEntry). PassesAt l head) (sym log_is) (c.requires.passes head (ap (head_of c.args.gate) (sym log_is) ∙ is) (ap (waits_at head) (sym log_is) ∙ none)) in
    subst (AreNextUpdates c.self.inside.graph) (sym c.as_slice-3.ensures) (next-updates _ _ _ _ c.self.invariant.0 c.args.gate head is none passes)

pub pass_head-number-requires-clause-head : goal.pass_head-number-requires-clause-head
pass_head-number-requires-clause-head c =
    let inbox = c.index_mut-channel.result.now in
    let below : c.args.gate < c.self.inside.gates = subst (λ (v : ShardView). c.args.gate < v.gates) (sym c.self.view_is) c.requires.gate in
    let at = at_gate _ _ _ _ c.self.invariant.0 c.args.gate inbox below c.index_mut-channel.ensures.value in
    let is : head_of c.args.gate c.self.inside.log.items ≡ Some c.in-Some.head.now = head-found _ _ _ _ c.self.invariant.0 c.args.gate inbox _ _ at (c.as_slice.ensures.value ∙ c.reserve.ensures.items) c.head_message.ensures ∙ ap option_copied c.in-Some.is in
    head-waits _ _ _ _ c.self.invariant.0 c.args.gate inbox c.in-Some.head.now at is

pub pass_head-number-requires-clause-number : goal.pass_head-number-requires-clause-number
pass_head-number-requires-clause-number c =
    let inbox = c.index_mut-channel.result.now in
    let log = c.self.inside.log.items in
    let below : c.args.gate < c.self.inside.gates = subst (λ (v : ShardView). c.args.gate < v.gates) (sym c.self.view_is) c.requires.gate in
    let at = at_gate _ _ _ _ c.self.invariant.0 c.args.gate inbox below c.index_mut-channel.ensures.value in
    let few : length log < 2 ^ 63 = omega (arith, c.self.inside.log.ok.0, c.self.inside.log.ok.1, c.self.inside.log.small) in
    let processed = processed-few _ _ _ _ c.self.invariant.0 c.args.gate inbox at in
    omega (arith, few, processed)

pub invariant_of-self-2 : goal.invariant_of-self-2
invariant_of-self-2 c =
    let inbox = c.index_mut-channel.result.now in
    let log = c.self.inside.log.items in
    let below : c.args.gate < c.self.inside.gates = subst (λ (v : ShardView). c.args.gate < v.gates) (sym c.self.view_is) c.requires.gate in
    let at = at_gate _ _ _ _ c.self.invariant.0 c.args.gate inbox below c.index_mut-channel.ensures.value in
    let log_is : log ≡ c.args.self.now.log = ap (λ (v : ShardView). v.log) c.self.view_is in
    let head = c.in-Some.head.now in
    let is : head_of c.args.gate log ≡ Some head = head-found _ _ _ _ c.self.invariant.0 c.args.gate inbox _ _ at (c.as_slice.ensures.value ∙ c.reserve.ensures.items) c.head_message.ensures ∙ ap option_copied c.in-Some.is in
    let none : waits_at head log ≡ None = sym (waits-is _ _ _ _ c.self.invariant.0 head) ∙ ap (first_differing c.self.inside.graph) (sym c.as_slice-2.ensures) ∙ sym c.first_waiting.ensures ∙ c.in_default-first_waiting.is in
    let passes = subst (λ (l : List ShardEntry). PassesAt l head) (sym log_is) (c.requires.passes head (ap (head_of c.args.gate) (sym log_is) ∙ is) (ap (waits_at head) (sym log_is) ∙ none)) in
    let entry : ShardEntry = record { author = c.args.author; deed = Applied c.args.gate c.pass_head-number.result } in
    let longer : c.push_reserved.new.self.items ≡ log ++ entry ∷ [] = c.push_reserved.ensures.items ∙ ap (λ (l : List ShardEntry). l ++ entry ∷ []) c.reserve.ensures.items in
    let number : c.pass_head-number.result ≡ processed_count c.args.gate log + 1 = c.pass_head-number.ensures.number ∙ ap (λ n. n + 1) (number-is _ _ _ _ c.self.invariant.0 c.args.gate inbox at) in (
      keeps_applied _ _ _ _ c.self.invariant.0 c.each_number_waits_by_itself.ensures c.args.author c.args.gate c.pass_head-number.result head inbox c.pass_head-number.new.channel _ _ below is none passes at c.pass_head-number.ensures.next c.pass_head-number.ensures.number
          (λ v. c.in_ok-apply_parts.ensures.applied v ∙ ap (after_parts head.stamp v (chain_of c.self.inside.graph v)) c.as_slice-3.ensures)
          longer,
      marks-applied _ _ _ c.self.invariant.1 c.args.author c.args.gate c.pass_head-number.result head _ below number is longer,
    )

pub returns-in_default : goal.returns-in_default
returns-in_default c = record {
  next = tt;
  entry = tt;
  refused =
      let inbox = c.index_mut-channel.result.now in
      let log = c.self.inside.log.items in
      let below : c.args.gate < c.self.inside.gates = subst (λ (v : ShardView). c.args.gate < v.gates) (sym c.self.view_is) c.requires.gate in
      let at = at_gate _ _ _ _ c.self.invariant.0 c.args.gate inbox below c.index_mut-channel.ensures.value in
      let log_is : log ≡ c.args.self.now.log = ap (λ (v : ShardView). v.log) c.self.view_is in
      ap (head_of c.args.gate) (sym log_is) ∙ head-found _ _ _ _ c.self.invariant.0 c.args.gate inbox _ _ at (c.as_slice.ensures.value ∙ c.reserve.ensures.items) c.head_message.ensures ∙ ap option_copied c.in_default.is;
  unchanged = same_view c.self.inside.number c.self.inside.gates _ _ _ c.reserve.ensures.items c.self.view_is;
}

pub returns-in-Some-first_waiting : goal.returns-in-Some-first_waiting
returns-in-Some-first_waiting c = record {
  next = tt;
  entry = tt;
  refused =
      let inbox = c.index_mut-channel.result.now in
      let log = c.self.inside.log.items in
      let below : c.args.gate < c.self.inside.gates = subst (λ (v : ShardView). c.args.gate < v.gates) (sym c.self.view_is) c.requires.gate in
      let at = at_gate _ _ _ _ c.self.invariant.0 c.args.gate inbox below c.index_mut-channel.ensures.value in
      let log_is : log ≡ c.args.self.now.log = ap (λ (v : ShardView). v.log) c.self.view_is in
      let head = c.in-Some.head.now in
      let is : head_of c.args.gate log ≡ Some head = head-found _ _ _ _ c.self.invariant.0 c.args.gate inbox _ _ at (c.as_slice.ensures.value ∙ c.reserve.ensures.items) c.head_message.ensures ∙ ap option_copied c.in-Some.is in
      let waits : waits_at head log ≡ Some c.in-Some-first_waiting.vertex = sym (waits-is _ _ _ _ c.self.invariant.0 head) ∙ ap (first_differing c.self.inside.graph) (sym c.as_slice-2.ensures) ∙ sym c.first_waiting.ensures ∙ c.in-Some-first_waiting.is in
      subst (λ (l : List ShardEntry). (one : Message) × (head_of c.args.gate l ≡ Some one) × (waits_at one l ≡ Some c.in-Some-first_waiting.vertex)) log_is (head, is, waits);
  unchanged = same_view c.self.inside.number c.self.inside.gates _ _ _ c.reserve.ensures.items c.self.view_is;
}

pub returns : goal.returns
returns c = record {
  next =
      let inbox = c.index_mut-channel.result.now in
      let log = c.self.inside.log.items in
      let below : c.args.gate < c.self.inside.gates = subst (λ (v : ShardView). c.args.gate < v.gates) (sym c.self.view_is) c.requires.gate in
      let at = at_gate _ _ _ _ c.self.invariant.0 c.args.gate inbox below c.index_mut-channel.ensures.value in
      let log_is : log ≡ c.args.self.now.log = ap (λ (v : ShardView). v.log) c.self.view_is in
      let head = c.in-Some.head.now in
      let is : head_of c.args.gate log ≡ Some head = head-found _ _ _ _ c.self.invariant.0 c.args.gate inbox _ _ at (c.as_slice.ensures.value ∙ c.reserve.ensures.items) c.head_message.ensures ∙ ap option_copied c.in-Some.is in
      let none : waits_at head log ≡ None = sym (waits-is _ _ _ _ c.self.invariant.0 head) ∙ ap (first_differing c.self.inside.graph) (sym c.as_slice-2.ensures) ∙ sym c.first_waiting.ensures ∙ c.in_default-first_waiting.is in
      subst (CanApplyHead c.args.gate) log_is (record { head = head; is = is; waits = none });
  entry =
      let inbox = c.index_mut-channel.result.now in
      let log = c.self.inside.log.items in
      let below : c.args.gate < c.self.inside.gates = subst (λ (v : ShardView). c.args.gate < v.gates) (sym c.self.view_is) c.requires.gate in
      let at = at_gate _ _ _ _ c.self.invariant.0 c.args.gate inbox below c.index_mut-channel.ensures.value in
      let log_is : log ≡ c.args.self.now.log = ap (λ (v : ShardView). v.log) c.self.view_is in
      let number : c.pass_head-number.result ≡ processed_count c.args.gate log + 1 = c.pass_head-number.ensures.number ∙ ap (λ n. n + 1) (number-is _ _ _ _ c.self.invariant.0 c.args.gate inbox at) in
      let next : ShardView = record { number = c.self.inside.number; gates = c.self.inside.gates; log = c.push_reserved.new.self.items } in
      subst (λ (v : ShardView). AddsEntry v next c.args.author (Applied c.args.gate (processed_count c.args.gate v.log + 1))) c.self.view_is
      (record {
        log = c.push_reserved.ensures.items ∙ (λ i. c.reserve.ensures.items i ++ record { author = c.args.author; deed = Applied c.args.gate (number i) } ∷ []);
        number = refl;
        gates = refl;
      });
  refused = tt;
  unchanged = tt;
}

pub returns-in_err-reserve : goal.returns-in_err-reserve
returns-in_err-reserve c =
    let p = err_from_is_err_and c.from_residual.result c.from_residual.ensures.1 in
    rw (p.1, p.2) (record { next = tt; entry = tt; refused = tt; unchanged = same_view c.self.inside.number c.self.inside.gates _ _ _ c.reserve.ensures.items c.self.view_is })

pub returns-in_err-apply_parts : goal.returns-in_err-apply_parts
returns-in_err-apply_parts c =
    let p = err_from_is_err_and c.from_residual-in_err-apply_parts.result c.from_residual-in_err-apply_parts.ensures.1 in
    rw (p.1, p.2) (record { next = tt; entry = tt; refused = tt; unchanged = same_view c.self.inside.number c.self.inside.gates _ _ _ c.reserve.ensures.items c.self.view_is })
