-- What a step leaves, by its answer; one log of many; and what stays at the beginning of a log.
-- Used by Applications, Deeds, Deliveries, Nudging, Quiet, Reading and Replied.
use Rattle.std.proofs.Common.{◌≡◌, ℕ, zero, suc, ◌<◌, Bool, true, false, cond, is_some, ◌==◌, ◌&&◌, List, [], ◌∷◌, ◌++◌, length, Contains, IsTrue, Option, Some, None, refl, sym, ap, ◌∙◌, arith}
use Rattle.std.specs.Prelude.{slice_index_or, slice_set}
use Rattle.std.specs.List.{find}
use Rattle.std.specs.Option.{option_map, option_or}
use Rattle.std.proofs.lemmas.List.{append-nil}
use Rattle.std.proofs.lemmas.List.Concat.{flat_map-append}
use Rattle.std.proofs.lemmas.List.Folds.{find-append}
use Rattle.weave_data.proofs.Members.{has_none, only}
use Rattle.program_defs.specs.declared.script.Script.{Script}
use Rattle.program_defs.specs.declared.script.Step.{Step}
use Rattle.weave_entries.specs.declared.message.Message.{Message}
use Rattle.weave_entries.specs.declared.shard_log.ShardEntry.{ShardEntry}
use Rattle.weave_entries.specs.ShardReplay.{Arrival, arrival_by, arrivals_of, arrived_at}
use Rattle.weave_account.specs.declared.account.Account.{Account}
use Rattle.weave_account.specs.Account.{shard_log}
use Rattle.weave_account.specs.GoesOn.{GoesOn}
use Rattle.step_rules.specs.CoreState.{CoreState}
use Rattle.step_rules.specs.Answers.{answer_of}
use Rattle.step_rules.specs.Entries.{account_with, state_with}
use Rattle.step_rules.specs.Trace.{is_ok, state_after}

-- the logs after a step are those of its entries if it was done, and else as before
pub account-after : (script : Script) (state : CoreState) (step : Step) → (state_after script state step).account ≡ cond (is_ok (answer_of script state step)) (account_with script state step) state.account
account-after script state step = at (is_ok (answer_of script state step))
  where
    at : (b : Bool) → (cond {A = CoreState} b (state_with script state step) state).account ≡ cond b (account_with script state step) state.account
    at true = refl
    at false = refl

-- a step that was not done leaves the state
pub not-done : (script : Script) (state : CoreState) (step : Step) → is_ok (answer_of script state step) ≡ false → state_after script state step ≡ state
not-done script state step e = ap (λ b. cond {A = CoreState} b (state_with script state step) state) e

-- One log of many

-- after one of many logs is replaced, the log of its number is the new one
pub set-there : {E : Type 0} (logs : List (List E)) (n : ℕ) (log : List E) → n < length logs → slice_index_or (slice_set logs n log) n [] ≡ log
set-there [] n log less = absurd (omega (arith, less))
set-there (x ∷ logs) zero log less = refl
set-there (x ∷ logs) (suc n) log less = set-there logs n log (omega (arith, less))

-- after one of many logs is replaced, each log of another number is as before
pub set-other : {E : Type 0} (logs : List (List E)) (n k : ℕ) (log : List E) → (k ≡ n → ⊥) → slice_index_or (slice_set logs n log) k [] ≡ slice_index_or logs k []
set-other [] n k log differ = refl
set-other (x ∷ logs) zero zero log differ = absurd (differ refl)
set-other (x ∷ logs) zero (suc k) log differ = refl
set-other (x ∷ logs) (suc n) zero log differ = refl
set-other (x ∷ logs) (suc n) (suc k) log differ = set-other logs n k log (λ e. differ (ap suc e))

-- each log goes on with one entry, or with none
pub grown : {E : Type 0} (logs : List (List E)) (n k : ℕ) (entry : E) → (more : List E) × (slice_index_or (slice_set logs n (slice_index_or logs n [] ++ entry ∷ [])) k [] ≡ slice_index_or logs k [] ++ more) × ((e : E) → Contains more e → entry ≡ e)
grown [] n k entry = ([], refl, λ e h. absurd (has_none e h))
grown (log ∷ logs) zero zero entry = (entry ∷ [], refl, λ e h. only entry e h)
grown (log ∷ logs) zero (suc k) entry = ([], sym (append-nil _), λ e h. absurd (has_none e h))
grown (log ∷ logs) (suc n) zero entry = ([], sym (append-nil _), λ e h. absurd (has_none e h))
grown (log ∷ logs) (suc n) (suc k) entry = grown logs n k entry

-- What arrived stays

abbrev message_of : Option Arrival → Option Message
message_of o = option_map (λ (arrival : Arrival). arrival.message) o

arrived-longer : (log more : List ShardEntry) (gate n : ℕ) → is_some (arrived_at gate n log) ≡ true → is_some (arrived_at gate n (log ++ more)) ≡ true
arrived-longer log more gate n some =
    ap (λ all. is_some (message_of (find (λ (arrival : Arrival). (arrival.gate == gate) && (arrival.number == n)) all))) (flat_map-append (λ (entry : ShardEntry). arrival_by entry.deed) log more)
    ∙ ap (λ o. is_some (message_of o)) (find-append (λ (arrival : Arrival). (arrival.gate == gate) && (arrival.number == n)) (arrivals_of log) (arrivals_of more))
    ∙ by (find (λ (arrival : Arrival). (arrival.gate == gate) && (arrival.number == n)) (arrivals_of log)) (find (λ (arrival : Arrival). (arrival.gate == gate) && (arrival.number == n)) (arrivals_of more)) some
  where
    by : (o p : Option Arrival) → is_some (message_of o) ≡ true → is_some (message_of (option_or o p)) ≡ true
    by None p e = cc
    by (Some a) p e = refl

-- a gatekeeper's message of some number that has arrived at a shard has arrived when the account goes on
pub still-arrived : (old new : Account) → GoesOn old new → (shard gate n : ℕ) → IsTrue (is_some (arrived_at gate n (shard_log old shard))) → IsTrue (is_some (arrived_at gate n (shard_log new shard)))
still-arrived old new on shard gate n some =
    let more = on.shards shard in
    ap (λ log. is_some (arrived_at gate n log)) more.1 ∙ arrived-longer (shard_log old shard) more.0 gate n some

-- a message that has arrived at a shard is the same message when the account goes on
pub still-message : (old new : Account) → GoesOn old new → (shard gate n : ℕ) (m : Message) → arrived_at gate n (shard_log old shard) ≡ Some m → arrived_at gate n (shard_log new shard) ≡ Some m
still-message old new on shard gate n m is =
    let more = on.shards shard in
    ap (arrived_at gate n) more.1
    ∙ ap (λ all. message_of (find (λ (arrival : Arrival). (arrival.gate == gate) && (arrival.number == n)) all)) (flat_map-append (λ (entry : ShardEntry). arrival_by entry.deed) (shard_log old shard) more.0)
    ∙ ap message_of (find-append (λ (arrival : Arrival). (arrival.gate == gate) && (arrival.number == n)) (arrivals_of (shard_log old shard)) (arrivals_of more.0))
    ∙ by (find (λ (arrival : Arrival). (arrival.gate == gate) && (arrival.number == n)) (arrivals_of (shard_log old shard))) (find (λ (arrival : Arrival). (arrival.gate == gate) && (arrival.number == n)) (arrivals_of more.0)) is
  where
    by : (o p : Option Arrival) → message_of o ≡ Some m → message_of (option_or o p) ≡ Some m
    by None p e = cc
    by (Some a) p e = e
