-- The lines of steps, in a script with these numbers of gatekeepers and shards whose requests have these places.
use Rattle.std.specs.Prelude.{ℕ, ◌-◌, List, [], ◌∷◌, Option, Ok, Err, codes, if◌then◌else◌}
use Rattle.std.specs.List.{position_from}
use Rattle.std.specs.Str.{bytes_eq}
use Rattle.weave_data.specs.Names.{same_name}
use Rattle.weave_data.specs.declared.name.Name.{Name}
use Rattle.program_defs.specs.declared.script.Request.{Request}
use Rattle.program_defs.specs.declared.script.Step.{Step}
use Rattle.program_defs.specs.declared.script.Step.TheVariants.{Begin, Judge, Send, Say, Hear, Nop, Deliver, Apply, Visit, Reply, Collect, Epoch, Restart}
use Rattle.weave_text.specs.Lines.{Word, Line}
use Rattle.weave_script.specs.declared.fault.Cause.TheVariants as causes
use Rattle.weave_data.specs.Steps.{◌>>=◌}
use Rattle.weave_data.specs.Limits.{most_epoch, most_notice}
use Rattle.weave_script.specs.Fields.{ReadOrCause, or_refused, name_word, number_in}

-- the place, from 0, of the request of a name
abbrev pub place_of : Name → List Request → Option ℕ
place_of name requests = position_from (λ request. same_name request.name name) 0 requests

-- the place of the request that a word names, by the places of names
abbrev pub named_request : (Name → Option ℕ) → Word → ReadOrCause ℕ
named_request places word = name_word word >>= λ name. or_refused causes.Request (places name)

-- reads a word as a gatekeeper number below `gates`
abbrev pub gate_word : ℕ → Word → ReadOrCause ℕ
gate_word gates = number_in 0 (gates - 1) causes.Gatekeeper

-- reads a word as a shard number below `shards`
abbrev pub shard_word : ℕ → Word → ReadOrCause ℕ
shard_word shards = number_in 0 (shards - 1) causes.Shard

-- the number of a notice or a message
abbrev pub notice_word : Word → ReadOrCause ℕ
notice_word = number_in 1 most_notice causes.Number

-- the number of an epoch
abbrev pub epoch_word : Word → ReadOrCause ℕ
epoch_word = number_in 1 most_epoch causes.Number

module _ (gates shards : ℕ) where
  -- what is made of a gatekeeper
  abbrev pub of_gate : (ℕ → Step) → Word → ReadOrCause Step
  of_gate make field = gate_word gates field >>= λ gate. Ok (make gate)

  -- what is made of a shard
  abbrev pub of_shard : (ℕ → Step) → Word → ReadOrCause Step
  of_shard make field = shard_word shards field >>= λ shard. Ok (make shard)

  -- the steps with two fields, from the left
  abbrev pub hear_of : Word → Word → ReadOrCause Step
  hear_of first second = gate_word gates first >>= λ gate. notice_word second >>= λ notice. Ok (Hear gate notice)

  abbrev pub nop_of : Word → Word → ReadOrCause Step
  nop_of first second = gate_word gates first >>= λ gate. of_shard (λ shard. Nop gate shard) second

  abbrev pub apply_of : Word → Word → ReadOrCause Step
  apply_of first second = shard_word shards first >>= λ shard. of_gate (λ gate. Apply shard gate) second

  abbrev pub of_epoch : (ℕ → ℕ → Step) → Word → Word → ReadOrCause Step
  of_epoch make first second = gate_word gates first >>= λ gate. epoch_word second >>= λ epoch. Ok (make gate epoch)

  -- a step with two fields
  abbrev pub step_of_two : Word → Word → Word → ReadOrCause Step
  step_of_two word first second =
      if bytes_eq word (codes "hear") then hear_of first second
      else if bytes_eq word (codes "nop") then nop_of first second
      else if bytes_eq word (codes "apply") then apply_of first second
      else if bytes_eq word (codes "epoch") then of_epoch (λ gate epoch. Epoch gate epoch) first second
      else if bytes_eq word (codes "restart") then of_epoch (λ gate epoch. Restart gate epoch) first second
      else Err causes.Line

  -- the step with three fields, from the left
  abbrev pub deliver_of : Word → Word → Word → ReadOrCause Step
  deliver_of first second third =
      gate_word gates first >>= λ gate. shard_word shards second >>= λ shard. notice_word third >>= λ number.
      Ok (Deliver gate shard number)

  -- a step with three fields
  abbrev pub step_of_three : Word → Word → Word → Word → ReadOrCause Step
  step_of_three word first second third =
      if bytes_eq word (codes "deliver") then deliver_of first second third else Err causes.Line

  module _ (places : Name → Option ℕ) where
    -- what is made of a request
    abbrev pub of_request : (ℕ → Step) → Word → ReadOrCause Step
    of_request make field = named_request places field >>= λ request. Ok (make request)

    -- a step with one field
    abbrev pub step_of_one : Word → Word → ReadOrCause Step
    step_of_one word field =
        if bytes_eq word (codes "begin") then of_request (λ request. Begin request) field
        else if bytes_eq word (codes "judge") then of_gate (λ gate. Judge gate) field
        else if bytes_eq word (codes "send") then of_gate (λ gate. Send gate) field
        else if bytes_eq word (codes "say") then of_gate (λ gate. Say gate) field
        else if bytes_eq word (codes "visit") then of_request (λ request. Visit request) field
        else if bytes_eq word (codes "reply") then of_request (λ request. Reply request) field
        else if bytes_eq word (codes "collect") then of_shard (λ shard. Collect shard) field
        else Err causes.Line

    -- the step of a line
    abbrev pub step_of : Line → ReadOrCause Step
    step_of (word ∷ field ∷ []) = step_of_one word field
    step_of (word ∷ first ∷ second ∷ []) = step_of_two word first second
    step_of (word ∷ first ∷ second ∷ third ∷ []) = step_of_three word first second third
    step_of _ = Err causes.Line
