-- When more was seen, and what beginnings of logs keep.
-- Used by `beginnings_are_legal`, `more_is_seen`, Asking, Closing, ExampleRun, MakesAccount, Onward, Reading and
-- crates sessions_account, weaver_workers and workers_account.
use Rattle.std.proofs.Common.{ℕ, List, ◌++◌, subst}
use Rattle.weave_data.proofs.Entries.{each_before}
use Rattle.weave_entries.specs.declared.gate_log.GateEntry.{GateEntry}
use Rattle.weave_entries.specs.GateRules.{HearsAs, HearsNoMore}
use Rattle.weave_account.specs.declared.account.Account.{Account}
use Rattle.weave_account.specs.GoesOn.{GoesOn, IsBeginningOf}
use Rattle.weave_account.proofs.GoesOn.{whole, onward}
use Rattle.seen_logs.specs.Seen.{IsWithin, without_sessions}

-- what was seen is within itself
pub itself : (seen : Account) → IsWithin seen seen
itself seen = record { gates = λ home. whole _; store = whole _; oracle = whole _; shards = λ shard. whole _ }

-- what is within an account is within each account that this one is within
pub all-later : (seen next last : Account) → IsWithin seen next → IsWithin next last → IsWithin seen last
all-later seen next last first second = record {
  gates = λ home. onward _ _ _ (first.gates home) (second.gates home);
  store = onward _ _ _ first.store second.store;
  oracle = onward _ _ _ first.oracle second.oracle;
  shards = λ shard. onward _ _ _ (first.shards shard) (second.shards shard);
}

-- an account that goes on has seen more
pub of-account : (account next : Account) → GoesOn account next → IsWithin account next
of-account account next on = record { gates = on.gates; store = on.store; oracle = on.oracle; shards = on.shards }

-- an account without its sessions has seen the same
pub same-logs : (account : Account) → IsWithin account (without_sessions account) × IsWithin (without_sessions account) account
same-logs account =
    let on = itself account in (
      record { gates = on.gates; store = on.store; oracle = on.oracle; shards = on.shards },
      record {
        gates = on.gates;
        store = on.store;
        oracle = on.oracle;
        shards = on.shards;
      },
    )

-- a rule of logs that each beginning keeps holds of this beginning
pub of-beginning : {E : Type 0} (P : List E → Type 0) → ((log rest : List E) → P (log ++ rest) → P log)
    → (log next : List E) → IsBeginningOf log next → P next → P log
of-beginning P before log next on holds = before log on.0 (subst P on.1 holds)

-- what a gatekeeper heard in the beginning of its log
pub hears-before : (home : ℕ) (log rest : List GateEntry) → HearsNoMore home (log ++ rest) → HearsNoMore home log
hears-before home log rest hears = each_before (λ before (one : GateEntry). HearsAs home before one.deed) log rest hears
