-- What a phase of workers leaves, all together.
-- Used by `closed_parts_can_be_joined`.
use Rattle.std.proofs.Common.{◌≡◌, ℕ, ◌<◌, List, length, map, get_or, Option, Some, inl, inr, sym, ap, ◌∙◌, arith}
use Rattle.std.specs.Prelude.{slice_get}
use Rattle.std.specs.List.{range_with_len}
use Rattle.std.specs.Option.{option_map, unwrap_or}
use Rattle.std.proofs.lemmas.List.{length-map, same_lists}
use Rattle.std.proofs.lemmas.List.FromFn.{length-range_with_len}
use Rattle.std.proofs.lemmas.Option.{slice_get-map, unwrap_or-slice_get}
use Rattle.program_defs.specs.declared.script.Script.{Script}
use Rattle.weave_account.specs.declared.account.Account.{Account}
use Rattle.weave_account.specs.Sessions.{requests_of_session}
use Rattle.weaver_core.specs.declared.client.Client.{Client}
use Rattle.weaver_core.specs.Sessions.{requests_in}
use Rattle.weaver_core.specs.Staying.{StayLaws}
use Rattle.weaver_locks.specs.declared.hand.Hand.{Hand}
use Rattle.weaver_locks.specs.declared.shared.Shared.{Shared}
use Rattle.workers_account.specs.Phase.{IsClosedBy, IsPhaseEnd, IsPhaseRun}
use Rattle.workers_account.specs.PhaseLaws.{PhaseLaws}
use Rattle.workers_account.proofs.ByLog.{clients-by-log}
use Rattle.workers_account.proofs.ClosedAccount.{closed-account}
use Rattle.workers_account.proofs.Ended.{goes}
use Rattle.workers_account.proofs.InFlight.{none-in-flight}
use Rattle.workers_account.proofs.OpenPairs.{gain-below, open-pairs}
use Rattle.workers_account.proofs.OwnWorkers.{own-workers}
use Rattle.workers_account.proofs.Parts.{session-part}

module _ (laws : PhaseLaws) (stay : StayLaws) (shared : Shared) (script : Script) (upto : ℕ) (start : Account) (was is : List Client) (hands : List Hand)
    (closed : Account) (run : IsPhaseRun shared script upto start was is hands) (end : IsClosedBy shared script start is hands closed) where
  -- each session has the requests that it had
  requests-at : (session : ℕ) → session < 64 → slice_get (map requests_in is) session ≡ slice_get (map requests_in was) session
  requests-at session low =
      elim (session-part laws shared script upto start was is hands run session low) [
        | inl same ↦ slice_get-map requests_in is session ∙ ap (option_map requests_in) same ∙ sym (slice_get-map requests_in was session)
        | inr one ↦
            let on = one.2.has.on in
            slice_get-map requests_in is session ∙ ap (option_map requests_in) on.left_is
            ∙ ap Some one.2.has.followed.in_step.requests
            ∙ sym (slice_get-map requests_in was session ∙ ap (option_map requests_in) on.client_is)
      ]

  many : length (map requests_in was) ≡ 64
  many = ap length run.at_start.requests ∙ length-map (range_with_len 0 64) (requests_of_session script) ∙ length-range_with_len 0 64

  as-many : length (map requests_in is) ≡ length (map requests_in was)
  as-many = length-map is requests_in ∙ run.many ∙ sym many

  each-alike : (k : ℕ) (d : List ℕ) → k < length (map requests_in is) → get_or (map requests_in is) k d ≡ get_or (map requests_in was) k d
  each-alike k d low =
      let within : k < 64 = (let e = as-many in let m = many in omega (arith, low, e, m)) in
      sym (unwrap_or-slice_get (map requests_in is) k d) ∙ ap (λ (o : Option (List ℕ)). unwrap_or o d) (requests-at k within)
      ∙ unwrap_or-slice_get (map requests_in was) k d

  -- the closed logs are an account that goes on from the start, with no transaction in flight and clients by their logs
  pub phase-end : IsPhaseEnd script upto start is closed
  phase-end =
      let account = closed-account laws shared script upto start was is hands run closed end in
      record {
        is_account = account;
        goes_on = goes laws shared script upto start was is hands run closed end;
        landed = none-in-flight laws shared script upto start was is hands run closed end account;
        requests = same_lists (map requests_in is) (map requests_in was) as-many each-alike ∙ run.at_start.requests;
        by_log = clients-by-log laws stay shared script upto start was is hands run closed end account;
        begins = gain-below laws stay shared script upto start was is hands run closed end account;
        workers = own-workers laws stay shared script upto start was is hands run closed end account;
        pairs = open-pairs laws stay shared script upto start was is hands run closed end account;
      }
