-- What gatekeepers send: the messages of what the store judged.
use Rattle.std.specs.Prelude.{◌≡◌, ℕ, List, Contains, ⊤}
use Rattle.program_defs.specs.declared.script.Script.{Script}
use Rattle.weave_entries.specs.declared.gate_log.GateEntry.{GateEntry}
use Rattle.weave_entries.specs.declared.gate_log.GateDeed.{GateDeed}
use Rattle.weave_entries.specs.declared.gate_log.GateDeed.TheVariants.{Sent}
use Rattle.weave_entries.specs.declared.message.Addressed.{Addressed}
use Rattle.weave_entries.specs.Logs.{AtEachEntry}
use Rattle.weave_entries.specs.Sending.{messages_of}
use Rattle.weave_entries.specs.StoreReplay.{Judgement, judgements_of}
use Rattle.weave_entries.specs.GateReplay.{BegunRequest}
use Rattle.weave_account.specs.declared.account.Account.{Account}
use Rattle.weave_account.specs.Account.{gate_log}

-- what is sent was judged, and its messages are those of its operations and its verdict. That its author asked for
-- the judgement follows: both began it.
pub record SendsJudged (account : Account) (shards : ℕ) (before : List GateEntry) (author r : ℕ)
    (messages : List Addressed) : Type 0 where
  pub judged : Judgement
  pub is_judged : Contains (judgements_of account.store) judged
  pub request_is : judged.request ≡ r
  pub messages_are : (let tx : BegunRequest = record { author = author; request = r; stamp = judged.stamp } in
      messages ≡ messages_of shards before tx judged.ops judged.verdict)

-- what a deed sends, if it sends, is sent like this
abbrev pub SendsAs : Account → ℕ → List GateEntry → ℕ → GateDeed → Type 0
SendsAs account shards before author (Sent r messages) = SendsJudged account shards before author r messages
SendsAs account shards before author _ = ⊤

-- Channels: what is sent is what was judged. Numbers from 1, rising stamps and low marks follow from the rule of a
-- gatekeeper's log.
abbrev pub ChannelsClause : Script → Account → Type 0
ChannelsClause script account =
    (home : ℕ) → AtEachEntry
    (λ before (entry : GateEntry). SendsAs account script.shards before entry.author entry.deed)
    (gate_log account home)
