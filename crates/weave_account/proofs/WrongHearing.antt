-- A loop in time: a gatekeeper hears of an event before the one that this event rests on was made. Every count is
-- known at the end, and stamps rise.
-- Used by nothing: worked examples.
use Rattle.std.proofs.Common.{[], ◌∷◌, IsTrue, None, refl}
use Rattle.std.specs.Prelude.{codes}
use Rattle.vector_stamp.specs.declared.clock.Stamp.{Stamp}
use Rattle.vector_stamp.specs.Clocks.{counts_no_more}
use Rattle.program_defs.specs.declared.script.Request.{Request}
use Rattle.program_defs.specs.declared.script.Script.{Script}
use Rattle.program_defs.specs.declared.script.Work.TheVariants.{Change}
use Rattle.weave_entries.specs.declared.gate_log.GateEntry.{GateEntry}
use Rattle.weave_entries.specs.declared.gate_log.GateDeed.TheVariants.{BeganTx, Heard, Nop, Sent}
use Rattle.weave_entries.specs.declared.session_log.SessionDeed.TheVariants as session
use Rattle.weave_entries.specs.declared.store_log.StoreDeed.TheVariants.{Judged}
use Rattle.weave_entries.specs.declared.verdict.Verdict.TheVariants.{Committed}
use Rattle.weave_account.specs.declared.account.Account.{Account}
use Rattle.weave_account.specs.IsAccount.{IsAccount}
use Rattle.weave_account.proofs.ExampleParts.{clock-in}

-- two empty transactions of one session: the first at gatekeeper 1, the second at gatekeeper 0
abbrev first : Request
first = record { name = codes "t1"; session = 0; gate = 1; work = Change [] }

abbrev second : Request
second = record { name = codes "t2"; session = 0; gate = 0; work = Change [] }

abbrev script : Script
script = record { gates = 3; shards = 1; requests = first ∷ second ∷ []; phases = []; steps = None }

-- the first has counted an event of gatekeeper 0, which is the begin of the second
abbrev begins-first : Stamp
begins-first = record { home = 1; clock = clock-in 0 1 1 0 }

abbrev begins-second : Stamp
begins-second = record { home = 0; clock = clock-in 0 1 1 1 }

abbrev hears-third : GateEntry
hears-third = record { author = 0; deed = Heard (clock-in 0 0 0 1) }

abbrev begins-after : GateEntry
begins-after = record { author = 0; deed = BeganTx 1 begins-second }

abbrev account : Account
account = record {
  gates =
      (hears-third ∷ begins-after ∷ [])
      ∷ (record { author = 0; deed = Heard (clock-in 0 1 0 0) } ∷ record { author = 0; deed = BeganTx 0 begins-first } ∷ record { author = 0; deed = Sent 0 [] } ∷ [])
      ∷ (record { author = 0; deed = Nop 0 1 (record { home = 2; clock = clock-in 0 0 0 1 }) (clock-in 0 0 0 1) } ∷ [])
      ∷ [];
  store = record { author = 0; deed = Judged 0 begins-first [] [] (Committed 1 [] []) } ∷ [];
  oracle = [];
  shards = [] ∷ [];
  sessions =
      (record { author = 0; deed = session.Begun 0 begins-first } ∷ record { author = 0; deed = session.Replied 0 } ∷ record { author = 0; deed = session.Begun 1 begins-second } ∷ [])
      ∷ [];
}

-- these logs are no account: before a begin the gatekeeper hears a stamp that counts this begin already
pub loop-in-time : ¬ IsAccount script account
loop-in-time is =
    let hears : IsTrue (counts_no_more 0 (clock-in 0 0 0 1) (clock-in 0 1 1 0)) =
    (is.gatekeepers.begins 0 (hears-third ∷ []) begins-after [] refl).hears_no_more begins-first refl in
    cc
