-- The worked row, answer by answer.
-- Used by nothing: worked examples.
use Rattle.std.proofs.Common.{◌≡◌, true, false, List, [], ◌∷◌, None, Some, refl}
use Rattle.vector_stamp.specs.declared.clock.Stamp.{Stamp}
use Rattle.oracle_chain.specs.declared.ask.Ask.{Ask}
use Rattle.oracle_chain.specs.declared.ask.Outcome.TheVariants.{Settled, Precedes}
use Rattle.oracle_chain.specs.declared.ask.Delivered.TheVariants.{Taken, Repeat, Gap, Gone}
use Rattle.oracle_chain.specs.declared.ask.ChainFault.TheVariants.{Halted, Tail, Unknown, Last}
use Rattle.std.specs.Prelude.{slice_get}
use Rattle.oracle_chain.specs.Replay.{pairs_after, outcomes_of}
use Rattle.oracle_chain.specs.Chain.{asks_at, head_asks, tail_asks, pairs_of_chain}
use Rattle.oracle_chain.specs.Calls.{new_chain, with_ask, Call, Accept, Forward, Deliver, Stop, Answer, Settle, Reply, AtPosition, AsMessage, Became, Stopped, WithOutcome, Faulty, after_calls, replies_of}

-- z is before x; y and q are unordered with both
abbrev x : Stamp
x = record { home = 0; clock = record { epoch = 0; counts = 1 ∷ 0 ∷ 1 ∷ 0 ∷ 0 ∷ 0 ∷ 0 ∷ 0 ∷ [] } }

abbrev y : Stamp
y = record { home = 1; clock = record { epoch = 0; counts = 0 ∷ 2 ∷ 0 ∷ 0 ∷ 0 ∷ 0 ∷ 0 ∷ 0 ∷ [] } }

abbrev q : Stamp
q = record { home = 1; clock = record { epoch = 0; counts = 0 ∷ 1 ∷ 0 ∷ 0 ∷ 0 ∷ 0 ∷ 0 ∷ 0 ∷ [] } }

abbrev z : Stamp
z = record { home = 2; clock = record { epoch = 0; counts = 0 ∷ 0 ∷ 1 ∷ 0 ∷ 0 ∷ 0 ∷ 0 ∷ 0 ∷ [] } }

-- x before y, and q and y before z
abbrev first : Ask
first = record { earlier = x ∷ []; later = y; keep = true }

abbrev second : Ask
second = record { earlier = q ∷ y ∷ []; later = z; keep = true }

-- the calls of the row
abbrev row : List Call
row =
    Accept first ∷ Forward 0 0 ∷ Deliver 0 ∷ Deliver 0 ∷ Accept second ∷ Forward 0 1 ∷ Stop 0 ∷ Deliver 1
    ∷ Forward 1 0 ∷ Forward 1 1 ∷ Deliver 3 ∷ Deliver 2 ∷ Answer 0 ∷ Answer 1 ∷ Deliver 3 ∷ Answer 1 ∷ Stop 2
    ∷ Answer 0 ∷ Answer 1 ∷ Forward 1 0 ∷ Stop 1 ∷ Forward 0 0 ∷ Deliver 9 ∷ []

-- and what they answer
abbrev answers : List Reply
answers =
    AtPosition 0 ∷ AsMessage 0 ∷ Became Taken ∷ Became Repeat ∷ AtPosition 1 ∷ AsMessage 1 ∷ Stopped ∷ Became Taken
    ∷ AsMessage 2 ∷ AsMessage 3 ∷ Became Gap ∷ Became Taken ∷ WithOutcome (Some (Settled (0 ∷ []))) ∷ WithOutcome None
    ∷ Became Taken ∷ WithOutcome (Some (Precedes 1)) ∷ Stopped
    ∷ WithOutcome (Some (Settled (0 ∷ []))) ∷ WithOutcome (Some (Precedes 1)) ∷ Faulty Tail ∷ Faulty Last
    ∷ Faulty Halted ∷ Faulty Unknown ∷ []

-- each answer of the row
pub row-answers : replies_of (new_chain 3) row ≡ answers
row-answers = refl

-- The second row: what a store over the chain asks for three commits, and the answers, with a stop before the third.
-- The first commit asks nothing.
abbrev third : Ask
third = record { earlier = y ∷ []; later = z; keep = true }

-- the verdicts that the store needs
pub store-row : replies_of (new_chain 3) (Settle first ∷ Stop 0 ∷ Settle third ∷ [])
    ≡ WithOutcome (Some (Settled (0 ∷ []))) ∷ Stopped ∷ WithOutcome (Some (Precedes 0)) ∷ []
store-row = refl

-- The table of a single oracle, by settles over a chain of 2
abbrev table : List Call
table =
    Settle first ∷ Settle first ∷ Settle second ∷ Settle (record { earlier = x ∷ []; later = z; keep = true })
    ∷ Settle (record { earlier = z ∷ []; later = y; keep = true })
    ∷ Settle (record { earlier = q ∷ []; later = z; keep = false })
    ∷ Settle (record { earlier = q ∷ []; later = z; keep = true }) ∷ []

-- and what they answer
abbrev table-answers : List Reply
table-answers =
    WithOutcome (Some (Settled (0 ∷ []))) ∷ WithOutcome (Some (Settled [])) ∷ WithOutcome (Some (Precedes 1))
    ∷ WithOutcome (Some (Precedes 0)) ∷ WithOutcome (Some (Settled [])) ∷ WithOutcome (Some (Settled []))
    ∷ WithOutcome (Some (Settled (0 ∷ []))) ∷ []

-- each answer of the table
pub table-row : replies_of (new_chain 2) table ≡ table-answers
table-row = refl

-- A lost ask: its position is used again, and whoever asked first reads the answer to another ask there. Here the two
-- asks want the opposite orders of x and y.
abbrev opposite : Ask
opposite = record { earlier = y ∷ []; later = x; keep = true }

-- the second ask has the position
pub lost-row : replies_of (new_chain 2) (Accept first ∷ Stop 0 ∷ Accept opposite ∷ Answer 0 ∷ [])
    ≡ AtPosition 0 ∷ Stopped ∷ AtPosition 0 ∷ WithOutcome (Some (Settled (0 ∷ []))) ∷ []
lost-row = refl

-- The judge's pairs may go with a head, if its asks were never answered ..
pub pairs-before-stop : pairs_of_chain (after_calls (new_chain 2) (Accept first ∷ Forward 0 0 ∷ [])) ≡ (x, y) ∷ []
pairs-before-stop = refl

-- and then they are gone
pub pairs-after-stop : pairs_of_chain (after_calls (new_chain 2) (Accept first ∷ Forward 0 0 ∷ Stop 0 ∷ [])) ≡ []
pairs-after-stop = refl

-- .. and come back with a message that is delivered later
pub pairs-after-delivery :
    pairs_of_chain (after_calls (new_chain 2) (Accept first ∷ Forward 0 0 ∷ Stop 0 ∷ Deliver 0 ∷ [])) ≡ (x, y) ∷ []
pairs-after-delivery = refl

-- If the pairs were those of the tail, a settle after an unanswered ask would be refused although they have no pair.
pub tail-pairs-would-not-do : pairs_after (tail_asks (after_calls (new_chain 2) (Accept first ∷ [])).replicas) ≡ []
tail-pairs-would-not-do = refl

-- the refusal
pub settle-after-unanswered : replies_of (new_chain 2) (Accept first ∷ Settle opposite ∷ [])
    ≡ AtPosition 0 ∷ WithOutcome (Some (Precedes 0)) ∷ []
settle-after-unanswered = refl

-- A settle answers what was accepted before it too
pub settle-answers-all :
    replies_of (new_chain 3) (Accept first ∷ Settle second ∷ Stop 0 ∷ Stop 1 ∷ Answer 0 ∷ Answer 1 ∷ [])
    ≡ AtPosition 0 ∷ WithOutcome (Some (Precedes 1)) ∷ Stopped ∷ Stopped
    ∷ WithOutcome (Some (Settled (0 ∷ []))) ∷ WithOutcome (Some (Precedes 1)) ∷ []
settle-answers-all = refl

-- The ask of a head that stopped may be appended after another one that the next head accepted: so its stamps count as
-- known although no live list has them.
pub late-message :
    tail_asks (after_calls (new_chain 3) (Accept first ∷ Accept second ∷ Forward 0 0 ∷ Forward 0 1 ∷ Stop 0
    ∷ Accept third ∷ Deliver 1 ∷ Stop 2 ∷ [])).replicas ≡ third ∷ second ∷ []
late-message = refl

-- A message to a head: nobody live sent it
pub message-to-head :
    replies_of (new_chain 2) (Accept first ∷ Forward 0 0 ∷ Stop 0 ∷ Deliver 0 ∷ Answer 0 ∷ Deliver 0 ∷ [])
    ≡ AtPosition 0 ∷ AsMessage 0 ∷ Stopped ∷ Became Taken ∷ WithOutcome (Some (Settled (0 ∷ []))) ∷ Became Repeat ∷ []
message-to-head = refl

-- A message to one that has stopped
pub message-to-stopped :
    replies_of (new_chain 3) (Accept first ∷ Forward 0 0 ∷ Stop 1 ∷ Deliver 0 ∷ Forward 0 0 ∷ Deliver 1 ∷ Answer 0 ∷ [])
    ≡ AtPosition 0 ∷ AsMessage 0 ∷ Stopped ∷ Became Gone ∷ AsMessage 1 ∷ Became Taken
    ∷ WithOutcome (Some (Settled (0 ∷ []))) ∷ []
message-to-stopped = refl

-- Faults in their order: a stopped one before a tail, a tail before an unknown position
pub faults-in-order :
    replies_of (new_chain 2) (Forward 1 7 ∷ Forward 0 7 ∷ Stop 1 ∷ Forward 1 7 ∷ Forward 0 7 ∷ Stop 1 ∷ Stop 0 ∷ [])
    ≡ Faulty Tail ∷ Faulty Unknown ∷ Stopped ∷ Faulty Halted ∷ Faulty Tail ∷ Faulty Halted ∷ Faulty Last ∷ []
faults-in-order = refl

-- Wrong variants

-- An answer from the head's list: it is given before any other replica has the ask, and goes with the head.
pub head-answers : slice_get (outcomes_of (head_asks (after_calls (new_chain 2) (Accept first ∷ [])).replicas)) 0
    ≡ Some (Settled (0 ∷ []))
head-answers = refl

-- and it is gone
pub head-forgets :
    slice_get (outcomes_of (head_asks (after_calls (new_chain 2) (Accept first ∷ Stop 0 ∷ [])).replicas)) 0 ≡ None
head-forgets = refl

-- A message taken past a gap: the list of the second replica would begin with the second ask, and that of the first
-- doesn't.
pub past-a-gap :
    asks_at (with_ask (after_calls (new_chain 2) (Accept first ∷ Accept second ∷ Forward 0 1 ∷ [])).replicas 1 second) 1
    ≡ second ∷ []
past-a-gap = refl

-- A repeated message taken again would put an ask of the first replica at a position where that one has none
pub taken-again :
    asks_at (with_ask (after_calls (new_chain 2) (Accept first ∷ Forward 0 0 ∷ Deliver 0 ∷ [])).replicas 1 first) 1
    ≡ first ∷ first ∷ []
taken-again = refl

-- An ask that keeps no pairs is settled in both orders: so what is settled without pairs says nothing.
pub not-kept-says-nothing :
    replies_of (new_chain 2) (Settle (record { earlier = x ∷ []; later = y; keep = false }) ∷ Settle opposite ∷ [])
    ≡ WithOutcome (Some (Settled [])) ∷ WithOutcome (Some (Settled (0 ∷ []))) ∷ []
not-kept-says-nothing = refl
