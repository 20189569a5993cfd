-- What one thing done adds to the logs of a hand and of its session is in step.
-- Used by JoinGains and StepsInStep.
use Rattle.std.proofs.Common.{◌≡◌, ◌≢◌, inl, inr, ℕ, ◌<◌, List, [], ◌∷◌, AllPairs, Contains, Option, Some, Result, Ok, refl, sym, subst}
use Rattle.std.specs.Prelude.{IsSomeAnd, IsTrue}
use Rattle.std.specs.declared.alloc.AllocError.{AllocError}
use Rattle.weave_data.proofs.Members.{flat_has, has_head, has_none, has_read, only}
use Rattle.weave_data.proofs.Ordered.{pairs_none}
use Rattle.seen_logs.proofs.Placed.{pairs-one}
use Rattle.graph_ops.specs.declared.op.Op.{Op}
use Rattle.vector_stamp.specs.declared.clock.Stamp.{Stamp}
use Rattle.program_defs.specs.declared.script.Request.{Request}
use Rattle.program_defs.specs.declared.script.Script.{Script}
use Rattle.program_defs.specs.declared.script.Work.TheVariants.{Change}
use Rattle.report_rules.specs.Lookups.{request_at}
use Rattle.weave_entries.specs.declared.gate_log.GateEntry.{GateEntry}
use Rattle.weave_entries.specs.declared.gate_log.GateDeed.{GateDeed}
use Rattle.weave_entries.specs.declared.gate_log.GateDeed.TheVariants.{BeganTx, BeganProgram, Sent, Nop, Heard, Raised, Finished}
use Rattle.weave_entries.specs.declared.message.Addressed.{Addressed}
use Rattle.weave_entries.specs.declared.session_log.SessionEntry.{SessionEntry}
use Rattle.weave_entries.specs.declared.store_log.StoreEntry.{StoreEntry}
use Rattle.weave_entries.specs.declared.verdict.Verdict.{Verdict}
use Rattle.weave_entries.specs.GateReplay.{BegunRequest, begun_by, begun_in, ended_by, ended_in}
use Rattle.weave_entries.specs.SessionReplay.{begins_in, replied_in}
use Rattle.weave_entries.specs.StoreReplay.{Judgement, judgements_of}
use Rattle.weaver_locks.specs.StoreHolds.{judged_entries}
use Rattle.weaver_workers.specs.Carrying.{is_telling}
use Rattle.weaver_workers.specs.ClientWork.{begun_entry, replied_entry}
use Rattle.weaver_workers.proofs.OnlyCarried.{no-begin}
use Rattle.workers_account.specs.Gained.{AreInStep, IsBegunAtItsGate, IsJudgedFor}
use Rattle.workers_account.proofs.OneGate.{at-each, at-it, at_one}

-- Clocks and empty messages

-- they end nothing
telling-ends : (deed : GateDeed) → IsTrue (is_telling deed) → ended_by deed ≡ []
telling-ends (Heard clock) tells = refl
telling-ends (Nop shard number stamp low) tells = refl
telling-ends (BeganTx r stamp) tells = refl
telling-ends (BeganProgram r stamp) tells = refl
telling-ends (Sent r messages) tells = absurd cc
telling-ends (Raised epoch) tells = refl
telling-ends (Finished r) tells = absurd cc

-- they raise no epoch
telling-raises : (deed : GateDeed) (epoch : ℕ) → IsTrue (is_telling deed) → deed ≢ Raised epoch
telling-raises (Heard clock) epoch tells is = cc
telling-raises (Nop shard number stamp low) epoch tells is = cc
telling-raises (BeganTx r stamp) epoch tells is = cc
telling-raises (BeganProgram r stamp) epoch tells is = cc
telling-raises (Sent r messages) epoch tells is = cc
telling-raises (Raised other) epoch tells is = absurd cc
telling-raises (Finished r) epoch tells is = cc

-- each entry of the log is one of these
abbrev pub Tells : List GateEntry → Type 0
Tells log = (entry : GateEntry) → Contains log entry → IsTrue (is_telling entry.deed)

none-begun : (log : List GateEntry) → Tells log → (begun : BegunRequest) → Contains (begun_in log) begun → ⊥
none-begun log tells begun h =
    let of = flat_has (λ (entry : GateEntry). begun_by entry.author entry.deed) log begun h in
    has_none begun (subst (λ (l : List BegunRequest). Contains l begun) (no-begin of.0.author of.0.deed (tells of.0 of.1)) of.2)

none-ended : (log : List GateEntry) → Tells log → (r : ℕ) → Contains (ended_in log) r → ⊥
none-ended log tells r h =
    let of = flat_has (λ (entry : GateEntry). ended_by entry.deed) log r h in
    has_none r (subst (λ (l : List ℕ). Contains l r) (telling-ends of.0.deed (tells of.0 of.1)) of.2)

-- Deeds that raise no epoch

tx-raises : (r epoch : ℕ) (stamp : Stamp) → BeganTx r stamp ≢ Raised epoch
tx-raises r epoch stamp is = cc

program-raises : (r epoch : ℕ) (stamp : Stamp) → BeganProgram r stamp ≢ Raised epoch
program-raises r epoch stamp is = cc

sent-raises : (r epoch : ℕ) (messages : List Addressed) → Sent r messages ≢ Raised epoch
sent-raises r epoch messages is = cc

finished-raises : (r epoch : ℕ) → Finished r ≢ Raised epoch
finished-raises r epoch is = cc

-- of two begins the first is of the lesser request
abbrev pub Rises : BegunRequest → BegunRequest → Type 0
Rises a b = a.request < b.request

-- the begins in a log of clocks and empty messages rise, as there are none
pub none-rise : (log : List GateEntry) → Tells log → AllPairs Rises (begun_in log)
none-rise log tells = subst (AllPairs Rises) (sym (nothing (begun_in log) (none-begun log tells))) (pairs_none Rises)
  where
    nothing : (xs : List BegunRequest) → ((x : BegunRequest) → Contains xs x → ⊥) → xs ≡ []
    nothing [] none = refl
    nothing (x ∷ xs) none = absurd (none x (has_head x xs))

-- no entry there raises an epoch
abbrev RaiseNone : List GateEntry → Type 0
RaiseNone log = (entry : GateEntry) → Contains log entry → (epoch : ℕ) → entry.deed ≢ Raised epoch

raise-one : (entry : GateEntry) → ((epoch : ℕ) → entry.deed ≢ Raised epoch) → RaiseNone (entry ∷ [])
raise-one entry none other h = subst (λ (e : GateEntry). (epoch : ℕ) → e.deed ≢ Raised epoch) (only entry other h) none

-- Lists in step

module _ (script : Script) (author upto : ℕ) where
  -- logs of clocks and empty messages alone are in step, if nothing was judged or logged by the session
  pub tells-in-step : (gates : ℕ → List GateEntry) → ((home : ℕ) → Tells (gates home)) → AreInStep script author upto gates [] []
  tells-in-step gates tells = record {
    begun = λ home begun h. absurd (none-begun (gates home) (tells home) begun h);
    at_gate = λ r stamp h. absurd (has_none (r, stamp) h);
    below = λ r stamp h. absurd (has_none (r, stamp) h);
    ended = λ home r h. absurd (none-ended (gates home) (tells home) r h);
    replied = λ r h. absurd (has_none r h);
    judged = λ judged h. absurd (has_none judged h);
    no_epoch = λ home entry h epoch. telling-raises entry.deed epoch (tells home entry h);
  }

  module _ (number r : ℕ) where
    -- a program was finished
    module _ (gate : ℕ) where
      abbrev finish_entries : List GateEntry
      finish_entries = record { author = author; deed = Finished r } ∷ []

      abbrev reply_log : List SessionEntry
      reply_log = replied_entry number r ∷ []

      -- one more reply, and the program's finish at its gatekeeper
      pub finish-in-step : AreInStep script author upto (at_one gate finish_entries) [] reply_log
      finish-in-step = record {
        begun = at-each gate finish_entries (λ home l. (begun : BegunRequest) → Contains (begun_in l) begun → Contains (begins_in reply_log) (begun.request, begun.stamp))
            (λ begun h. absurd (has_none begun h)) (λ home other begun h. absurd (has_none begun h));
        at_gate = λ q stamp h. absurd (has_none (q, stamp) h);
        below = λ q stamp h. absurd (has_none (q, stamp) h);
        ended = at-each gate finish_entries (λ home l. (q : ℕ) → Contains (ended_in l) q → Contains (replied_in reply_log) q)
            (λ q h. h) (λ home other q h. absurd (has_none q h));
        replied = λ q h. (gate, subst (λ (l : List GateEntry). Contains (ended_in l) q) (sym (at-it gate finish_entries gate refl)) h);
        judged = λ judged h. absurd (has_none judged h);
        no_epoch = at-each gate finish_entries (λ home l. RaiseNone l)
            (raise-one (record { author = author; deed = Finished r }) (λ epoch. finished-raises r epoch))
            (λ home other entry h. absurd (has_none entry h));
      }

      -- the begins in a finish's entries rise, as there are none
      pub finish-rises : (home : ℕ) → AllPairs Rises (begun_in (at_one gate finish_entries home))
      finish-rises = at-each gate finish_entries (λ home l. AllPairs Rises (begun_in l)) (pairs_none Rises) (λ home other. pairs_none Rises)

    -- the request was begun
    module _ (asked : Request) (stamp : Stamp) (is : request_at script r ≡ Some asked) (low : r < upto) where
      abbrev one : BegunRequest
      one = record { author = author; request = r; stamp = stamp }

      -- at its own gatekeeper, which made these entries
      begun-there : (added : List GateEntry) → Contains (begun_in added) one
          → IsBegunAtItsGate script author (at_one asked.gate added) r stamp
      begun-there added h =
          subst (λ (o : Option Request). IsSomeAnd o (λ (request : Request). Contains (begun_in (at_one asked.gate added request.gate)) one)) (sym is)
          (subst (λ (l : List GateEntry). Contains (begun_in l) one) (sym (at-it asked.gate added asked.gate refl)) h)

      -- a program
      abbrev start_entries : List GateEntry
      start_entries = record { author = author; deed = BeganProgram r stamp } ∷ []

      abbrev begin_log : List SessionEntry
      begin_log = begun_entry number r stamp ∷ []

      -- one more begin of the session, and the program's at its gatekeeper
      pub start-in-step : AreInStep script author upto (at_one asked.gate start_entries) [] begin_log
      start-in-step = record {
        begun = at-each asked.gate start_entries (λ home l. (b : BegunRequest) → Contains (begun_in l) b → Contains (begins_in begin_log) (b.request, b.stamp))
            (λ b h. subst (λ (b : BegunRequest). Contains (begins_in begin_log) (b.request, b.stamp)) (only one b h) (has_head (r, stamp) []))
            (λ home other b h. absurd (has_none b h));
        at_gate = λ q s h. subst (λ (p : ℕ × Stamp). IsBegunAtItsGate script author (at_one asked.gate start_entries) p.0 p.1) (only (r, stamp) (q, s) h)
            (begun-there start_entries (has_head one []));
        below = λ q s h. subst (λ (p : ℕ × Stamp). p.0 < upto) (only (r, stamp) (q, s) h) low;
        ended = at-each asked.gate start_entries (λ home l. (q : ℕ) → Contains (ended_in l) q → Contains (replied_in begin_log) q)
            (λ q h. h) (λ home other q h. absurd (has_none q h));
        replied = λ q h. absurd (has_none q h);
        judged = λ judged h. absurd (has_none judged h);
        no_epoch = at-each asked.gate start_entries (λ home l. RaiseNone l)
            (raise-one (record { author = author; deed = BeganProgram r stamp }) (λ epoch. program-raises r epoch stamp))
            (λ home other entry h. absurd (has_none entry h));
      }

      -- the one that was begun is in order
      pub start-rises : (home : ℕ) → AllPairs Rises (begun_in (at_one asked.gate start_entries home))
      start-rises = at-each asked.gate start_entries (λ home l. AllPairs Rises (begun_in l)) (pairs-one Rises one) (λ home other. pairs_none Rises)

      -- a transaction, which was judged and sent
      module _ (ops : List Op) (work_is : asked.work ≡ Change ops) (judge sender : ℕ) (before : List StoreEntry) (verdict : Verdict)
          (messages : List Addressed) where
        abbrev began_entry : GateEntry
        began_entry = record { author = author; deed = BeganTx r stamp }

        abbrev sent_entry : GateEntry
        sent_entry = record { author = sender; deed = Sent r messages }

        abbrev change_entries : List GateEntry
        change_entries = began_entry ∷ sent_entry ∷ []

        abbrev given : Result Verdict AllocError
        given = Ok verdict

        abbrev judgement : List StoreEntry
        judgement = judged_entries judge r stamp ops before given

        abbrev answer_log : List SessionEntry
        answer_log = begun_entry number r stamp ∷ replied_entry number r ∷ []

        changes-raise : RaiseNone change_entries
        changes-raise entry h = elim (has_read began_entry (sent_entry ∷ []) entry h) [
          | inl first ↦ subst (λ (e : GateEntry). (epoch : ℕ) → e.deed ≢ Raised epoch) first (λ epoch. tx-raises r epoch stamp)
          | inr last ↦ raise-one sent_entry (λ epoch. sent-raises r epoch messages) entry last
        ]

        -- a begin and a reply of the session, the begin and the sending at the gatekeeper, and the judgement
        pub change-in-step : AreInStep script author upto (at_one asked.gate change_entries) judgement answer_log
        change-in-step = record {
          begun = at-each asked.gate change_entries (λ home l. (b : BegunRequest) → Contains (begun_in l) b → Contains (begins_in answer_log) (b.request, b.stamp))
              (λ b h. subst (λ (b : BegunRequest). Contains (begins_in answer_log) (b.request, b.stamp)) (only one b h) (has_head (r, stamp) []))
              (λ home other b h. absurd (has_none b h));
          at_gate = λ q s h. subst (λ (p : ℕ × Stamp). IsBegunAtItsGate script author (at_one asked.gate change_entries) p.0 p.1) (only (r, stamp) (q, s) h)
              (begun-there change_entries (has_head one []));
          below = λ q s h. subst (λ (p : ℕ × Stamp). p.0 < upto) (only (r, stamp) (q, s) h) low;
          ended = at-each asked.gate change_entries (λ home l. (q : ℕ) → Contains (ended_in l) q → Contains (replied_in answer_log) q)
              (λ q h. h) (λ home other q h. absurd (has_none q h));
          replied = λ q h. (asked.gate, subst (λ (l : List GateEntry). Contains (ended_in l) q) (sym (at-it asked.gate change_entries asked.gate refl)) h);
          judged = λ judged h. subst (IsJudgedFor script answer_log) (only _ judged h) (record {
            work = subst (λ (o : Option Request). IsSomeAnd o (λ (request : Request). request.work ≡ Change ops)) (sym is) work_is;
            begun = has_head (r, stamp) [];
          });
          no_epoch = at-each asked.gate change_entries (λ home l. RaiseNone l) changes-raise (λ home other entry h. absurd (has_none entry h));
        }

        -- the one that was begun is in order
        pub change-rises : (home : ℕ) → AllPairs Rises (begun_in (at_one asked.gate change_entries home))
        change-rises = at-each asked.gate change_entries (λ home l. AllPairs Rises (begun_in l)) (pairs-one Rises one) (λ home other. pairs_none Rises)

        -- the judgements of the one entry rise by request, as there is one
        pub judgement-rises : AllPairs (λ (a b : Judgement). a.request < b.request) (judgements_of judgement)
        judgement-rises = pairs-one (λ (a b : Judgement). a.request < b.request) _
