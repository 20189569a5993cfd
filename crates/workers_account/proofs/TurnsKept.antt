-- Along a client's worker's history each program that its session began reads in turn.
-- Used by `workers_follow_their_sessions` and crate sessions_account.
use Rattle.std.proofs.Common.{◌≡◌, ◌⊎◌, inl, inr, ℕ, List, [], ◌∷◌, ◌++◌, Contains, None, Some, refl, sym, ap, ◌∙◌, subst, append_assoc, arith}
use Rattle.std.proofs.lemmas.Bool.{cases_eq}
use Rattle.std.proofs.lemmas.List.{append-nil, append_cancel_left}
use Rattle.std.proofs.lemmas.List.Concat.{flat_map-append}
use Rattle.std.proofs.lemmas.List.Elements.{Contains-append_cases}
use Rattle.std.proofs.lemmas.Option.{same_Some}
use Rattle.weave_data.proofs.Members.{has_none, only}
use Rattle.weave_data.specs.declared.name.Name.{Name}
use Rattle.graph_ops.specs.Operations.{State}
use Rattle.graph_ops.specs.declared.op.Op.{Op}
use Rattle.vector_stamp.specs.declared.clock.Stamp.{Stamp}
use Rattle.program_defs.specs.declared.program.Program.{Program}
use Rattle.program_defs.specs.declared.script.Request.{Request}
use Rattle.program_defs.specs.declared.script.Script.{Script}
use Rattle.program_defs.specs.declared.script.Work.TheVariants.{Change, Look}
use Rattle.program_defs.specs.Visits.{next_visit}
use Rattle.path_program.specs.AnyPrograms.{any_of}
use Rattle.report_rules.specs.Lookups.{request_at}
use Rattle.weave_entries.specs.declared.session_log.SessionEntry.{SessionEntry}
use Rattle.weave_entries.specs.SessionReplay.{begin_by, begins_in, replied_in}
use Rattle.weave_account.specs.Programs.{ReadsInTurn}
use Rattle.weaver_core.specs.Sessions.{log_of_client}
use Rattle.weaver_core.specs.Walks.{IsLookAt}
use Rattle.weaver_locks.specs.declared.shared.Shared.{Shared}
use Rattle.weaver_locks.specs.Hands.{IsHand}
use Rattle.weaver_hands.specs.Programs.{own_reads}
use Rattle.weaver_workers.specs.ClientWork.{DoesOneCall, DoesChange, DoesCarry, DoesFinish, DoesStart, DoesVisit, Goes, Stand}
use Rattle.weaver_workers.specs.Keeping.{KeepsClient}
use Rattle.workers_account.specs.ReadLaws.{ReadLaws}
use Rattle.workers_account.specs.Visits.{ReadInTurn}
use Rattle.workers_account.proofs.ReadTurns.{turn-at-first, turn-more, turn-same}
use Rattle.workers_account.proofs.SessionEnds.{next-unreplied, replied-cases}
use Rattle.workers_account.proofs.StepReads.{carry-unvisited, step-on}

-- Programs of a script

-- a request is one program at most
pub look-one : (script : Script) (r : ℕ) (a b : Program) → IsLookAt script r a → IsLookAt script r b → a ≡ b
look-one script r a b first second =
    let asked : first.request ≡ second.request = same_Some first.request second.request (sym first.request_is ∙ second.request_is) in
    let works : Look a ≡ Look b = sym first.work_is ∙ ap (λ (x : Request). x.work) asked ∙ second.work_is in
    cc

-- a request that is a program is no transaction
pub look-no-change : (script : Script) (r : ℕ) (program : Program) (asked : Request) (ops : List Op) → IsLookAt script r program
    → request_at script r ≡ Some asked → asked.work ≡ Change ops → ⊥
look-no-change script r program asked ops look is work =
    let same : look.request ≡ asked = same_Some look.request asked (sym look.request_is ∙ is) in
    let clash : Look program ≡ Change ops = sym look.work_is ∙ ap (λ (x : Request). x.work) same ∙ work in
    cc

-- Turns

-- if the request is a program, it has read in turn
abbrev pub HasTurn : Script → Stand → ℕ → Type 0
HasTurn script at r = (program : Program) → IsLookAt script r program
    → ReadsInTurn (own_reads at.hand r) program (Contains (replied_in (log_of_client at.client)) r)

module _ (laws : ReadLaws) (shared : Shared) (script : Script) (number upto : ℕ) (old new : Stand)
    (keeps : KeepsClient shared script number old.hand old.client) (is : IsHand shared new.hand) where
  -- each has read what it had read, and what has got its reply had read all
  turn-left : (r : ℕ) → own_reads new.hand r ≡ own_reads old.hand r
      → ((program : Program) → IsLookAt script r program → Contains (replied_in (log_of_client new.client)) r
      → Contains (replied_in (log_of_client old.client)) r ⊎ (next_visit (own_reads old.hand r) program ≡ None))
      → HasTurn script old r → HasTurn script new r
  turn-left r same done turn program look =
      turn-same (own_reads old.hand r) (own_reads new.hand r) program (Contains (replied_in (log_of_client old.client)) r)
      (Contains (replied_in (log_of_client new.client)) r) same (done program look) (turn program look)

  -- no reply more
  same-replied : log_of_client new.client ≡ log_of_client old.client → (r : ℕ) → Contains (replied_in (log_of_client new.client)) r
      → Contains (replied_in (log_of_client old.client)) r
  same-replied same r h = subst (λ (l : List SessionEntry). Contains (replied_in l) r) same h

  -- after a transaction
  change-turn : (does : DoesChange shared script number upto old new) → (r : ℕ) → HasTurn script old r → HasTurn script new r
  change-turn does r turn =
      turn-left r (laws.reads shared old.hand new.hand r keeps.is_hand is
      (laws.transact _ old.hand new.hand does.asked.gate does.r does.ops old.client.session.last does.stamp does.verdict does.transacts r))
      (λ program look h. done program look (replied-cases (log_of_client old.client) (log_of_client new.client) (step-on shared script number upto old new (inl does)) r h)) turn
    where
      done : (program : Program) → IsLookAt script r program → Contains (replied_in (log_of_client old.client)) r ⊎ Contains (does.r ∷ []) r
          → Contains (replied_in (log_of_client old.client)) r ⊎ (next_visit (own_reads old.hand r) program ≡ None)
      done program look (inl before) = inl before
      done program look (inr now) =
          absurd (look-no-change script does.r program does.asked does.ops
          (subst (λ (q : ℕ). IsLookAt script q program) (sym (only does.r r now)) look) does.next.request_is does.work_is)

  -- after a program was begun
  start-turn : (does : DoesStart shared script number upto old new) → (r : ℕ) → HasTurn script old r → HasTurn script new r
  start-turn does r turn =
      turn-left r (laws.reads shared old.hand new.hand r keeps.is_hand is
      (laws.start _ old.hand new.hand does.asked.gate does.r old.client.session.last does.stamp does.starts r))
      (λ program look h. done program (replied-cases (log_of_client old.client) (log_of_client new.client) (step-on shared script number upto old new (inr (inl does))) r h)) turn
    where
      done : (program : Program) → Contains (replied_in (log_of_client old.client)) r ⊎ Contains [] r
          → Contains (replied_in (log_of_client old.client)) r ⊎ (next_visit (own_reads old.hand r) program ≡ None)
      done program (inl before) = inl before
      done program (inr none) = absurd (has_none r none)

  -- after a visit
  visit-turn : (does : DoesVisit shared old new) → (r : ℕ) → HasTurn script old r → HasTurn script new r
  visit-turn does r turn = elim (cases_eq r does.before.request) [
    | inl same ↦ subst (λ (q : ℕ). HasTurn script new q) (sym same) (read (subst (λ (q : ℕ). HasTurn script old q) same turn))
    | inr other ↦ turn-left r (laws.reads shared old.hand new.hand r keeps.is_hand is
        (laws.visit _ _ old.hand new.hand does.before does.after does.visits r other))
        (λ program look h. inl (same-replied does.same.log r h)) turn
  ]
    where
      read : HasTurn script old does.before.request → HasTurn script new does.before.request
      read was program look =
          let visits = does.visits in
          let one : program ≡ any_of does.before.walk =
          look-one script does.before.request program (any_of does.before.walk) look (keeps.running does.before does.before_is).look in
          let next : next_visit (own_reads old.hand does.before.request) program ≡ Some visits.vertex =
          ap (λ (p : Program). next_visit (own_reads old.hand does.before.request) p) one ∙ visits.in_turn in
          turn-more laws (own_reads old.hand does.before.request) (own_reads new.hand does.before.request) program visits.vertex visits.state
          (Contains (replied_in (log_of_client new.client)) does.before.request) next visits.more
          (turn-same (own_reads old.hand does.before.request) (own_reads old.hand does.before.request) program
          (Contains (replied_in (log_of_client old.client)) does.before.request) (Contains (replied_in (log_of_client new.client)) does.before.request)
          refl (λ h. inl (same-replied does.same.log does.before.request h)) (was program look))

  -- after a program was finished
  finish-turn : (does : DoesFinish shared number old new) → (r : ℕ) → HasTurn script old r → HasTurn script new r
  finish-turn does r turn =
      turn-left r (laws.reads shared old.hand new.hand r keeps.is_hand is
      (laws.finish _ old.hand new.hand does.before does.answer does.finishes r))
      (λ program look h. done program look (replied-cases (log_of_client old.client) (log_of_client new.client) (step-on shared script number upto old new (inr (inr (inr (inl does))))) r h)) turn
    where
      done : (program : Program) → IsLookAt script r program → Contains (replied_in (log_of_client old.client)) r ⊎ Contains (does.before.request ∷ []) r
          → Contains (replied_in (log_of_client old.client)) r ⊎ (next_visit (own_reads old.hand r) program ≡ None)
      done program look (inl before) = inl before
      done program look (inr now) =
          let same : does.before.request ≡ r = only does.before.request r now in
          let one : any_of does.before.walk ≡ program = look-one script r (any_of does.before.walk) program
          (subst (λ (q : ℕ). IsLookAt script q (any_of does.before.walk)) same (keeps.running does.before does.before_is).look) look in
          inr (subst (λ (p : Program). next_visit (own_reads old.hand r) p ≡ None) one
          (subst (λ (q : ℕ). next_visit (own_reads old.hand q) (any_of does.before.walk) ≡ None) same does.finishes.whole))

  -- after the hand only carried
  carry-turn : (does : DoesCarry old new) → (r : ℕ) → HasTurn script old r → HasTurn script new r
  carry-turn does r turn =
      turn-left r (laws.reads shared old.hand new.hand r keeps.is_hand is (carry-unvisited old.hand new.hand does.only r))
      (λ program look h. inl (same-replied does.same.log r h)) turn

  -- if a request has its turn, it still has after one call
  pub step-turn : DoesOneCall shared script number upto old new → (r : ℕ) → HasTurn script old r → HasTurn script new r
  step-turn (inl change) = change-turn change
  step-turn (inr (inl start)) = start-turn start
  step-turn (inr (inr (inl visit))) = visit-turn visit
  step-turn (inr (inr (inr (inl finish)))) = finish-turn finish
  step-turn (inr (inr (inr (inr carry)))) = carry-turn carry

  -- a program that was begun has read nothing
  first-turn : (does : DoesStart shared script number upto old new) → HasTurn script new does.r
  first-turn does program look =
      subst (λ (reads : List (Name × State)). ReadsInTurn reads program (Contains (replied_in (log_of_client new.client)) does.r)) (sym none)
      (turn-at-first program (Contains (replied_in (log_of_client new.client)) does.r)
      (λ h. unreplied (replied-cases (log_of_client old.client) (log_of_client new.client) (step-on shared script number upto old new (inr (inl does))) does.r h)))
    where
      none : own_reads new.hand does.r ≡ []
      none = laws.reads shared old.hand new.hand does.r keeps.is_hand is
          (laws.start _ old.hand new.hand does.asked.gate does.r old.client.session.last does.stamp does.starts does.r)
          ∙ (keeps.fresh old.client.session.begun does.r (omega arith) does.next.turn.next).unread

      unreplied : Contains (replied_in (log_of_client old.client)) does.r ⊎ Contains [] does.r → ⊥
      unreplied (inl before) = next-unreplied laws number old.client.session (log_of_client old.client) keeps.at_end does.r does.next.turn before
      unreplied (inr now) = has_none does.r now

  -- what was begun has a turn
  begun-turn : (does : DoesOneCall shared script number upto old new) → (r : ℕ) (stamp : Stamp)
      → Contains (begins_in (step-on shared script number upto old new does).0) (r, stamp) → HasTurn script new r
  begun-turn (inl change) r stamp h = λ program look.
      absurd (look-no-change script change.r program change.asked change.ops
      (subst (λ (q : ℕ). IsLookAt script q program) (sym (ap (λ (begun : ℕ × Stamp). begun.0) (only (change.r, change.stamp) (r, stamp) h))) look)
      change.next.request_is change.work_is)
  begun-turn (inr (inl start)) r stamp h =
      subst (λ (q : ℕ). HasTurn script new q) (ap (λ (begun : ℕ × Stamp). begun.0) (only (start.r, start.stamp) (r, stamp) h)) (first-turn start)
  begun-turn (inr (inr (inl visit))) r stamp h = absurd (has_none (r, stamp) h)
  begun-turn (inr (inr (inr (inl finish)))) r stamp h = absurd (has_none (r, stamp) h)
  begun-turn (inr (inr (inr (inr carry)))) r stamp h = absurd (has_none (r, stamp) h)

-- The history

-- all that was begun so far has read in turn
record HaveTurns (script : Script) (from at : Stand) : Type 0 where
  gained : List SessionEntry
  log : log_of_client at.client ≡ log_of_client from.client ++ gained
  turns : (r : ℕ) (stamp : Stamp) → Contains (begins_in gained) (r, stamp) → HasTurn script at r

module _ (laws : ReadLaws) (shared : Shared) (script : Script) (number upto : ℕ) where
  -- after one thing more
  turns-more : (from old new : Stand) → KeepsClient shared script number old.hand old.client → IsHand shared new.hand
      → DoesOneCall shared script number upto old new → HaveTurns script from old → HaveTurns script from new
  turns-more from old new keeps is does so_far =
      let on = step-on shared script number upto old new does in
      record {
        gained = so_far.gained ++ on.0;
        log = on.1 ∙ ap (λ (l : List SessionEntry). l ++ on.0) so_far.log ∙ append_assoc (log_of_client from.client) so_far.gained on.0;
        turns = λ r stamp h. elim (Contains-append_cases (begins_in so_far.gained) (begins_in on.0) (r, stamp)
            (subst (λ (l : List (ℕ × Stamp)). Contains l (r, stamp)) (flat_map-append (λ (e : SessionEntry). begin_by e.deed) so_far.gained on.0) h)) [
              | inl before ↦ step-turn laws shared script number upto old new keeps is does r (so_far.turns r stamp before)
              | inr now ↦ begun-turn laws shared script number upto old new keeps is does r stamp now
            ];
      }

  -- and after one after another
  turns-on : (path : List Stand) (from mid at : Stand) → KeepsClient shared script number mid.hand mid.client
      → Goes shared script number upto mid path at → HaveTurns script from mid → HaveTurns script from at
  turns-on [] from mid at keeps went so_far = subst (λ (s : Stand). HaveTurns script from s) went so_far
  turns-on (next ∷ path) from mid at keeps went so_far =
      turns-on path from next at went.0.1 went.1 (turns-more from mid next keeps went.0.1.is_hand went.0.0 so_far)

  -- each program that the session began has read in turn
  pub read-in-turn : (path : List Stand) (from at : Stand) → KeepsClient shared script number from.hand from.client
      → Goes shared script number upto from path at → ReadInTurn script from at
  read-in-turn path from at keeps went gained log r stamp h =
      let so_far = turns-on path from from at keeps went (record {
        gained = [];
        log = sym (append-nil (log_of_client from.client));
        turns = λ q s none. absurd (has_none (q, s) none);
      }) in
      so_far.turns r stamp (subst (λ (l : List SessionEntry). Contains (begins_in l) (r, stamp))
      (append_cancel_left (log_of_client from.client) gained so_far.gained (sym log ∙ so_far.log)) h)
