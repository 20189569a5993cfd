-- What a client's worker keeps stays after each thing that it does.
-- Used by Deeds, Going, ReadOn and StillKept.
use Rattle.std.proofs.Common.{◌≡◌, ◌≢◌, ◌⊎◌, ℕ, ◌+◌, ◌-◌, ◌<◌, ◌≤◌, List, [], ◌∷◌, get_or, Contains, Option, Some, None, refl, sym, ap, ◌∙◌, subst, arith}
use Rattle.std.specs.Prelude.{is_some, slice_get}
use Rattle.std.specs.Option.{ForSome}
use Rattle.std.proofs.lemmas.Option.{none-some, same_Some}
use Rattle.weave_data.proofs.Members.{has_none, only}
use Rattle.vector_stamp.specs.declared.clock.Stamp.{Stamp}
use Rattle.program_defs.specs.declared.program.Program.{Program}
use Rattle.program_defs.specs.declared.script.Script.{Script}
use Rattle.program_defs.specs.declared.script.Work.TheVariants.{Look}
use Rattle.path_program.specs.AnyPrograms.{any_of}
use Rattle.weave_entries.specs.declared.gate_log.GateDeed.{GateDeed}
use Rattle.weave_entries.specs.declared.gate_log.GateDeed.TheVariants.{BeganTx, BeganProgram, Sent, Finished}
use Rattle.weave_entries.specs.declared.gate_log.GateEntry.{GateEntry}
use Rattle.weave_entries.specs.declared.session_log.SessionEntry.{SessionEntry}
use Rattle.weave_entries.specs.GateReplay.{BegunRequest, begun_by, begun_in, programs_of, tx_by}
use Rattle.weave_entries.specs.SessionReplay.{SessionState, RepliesToLast, with_begun, with_reply}
use Rattle.weave_account.specs.declared.account.Account.{Account}
use Rattle.weave_account.specs.Account.{gate_log}
use Rattle.weaver_core.specs.declared.client.Client.{Client}
use Rattle.weaver_core.specs.declared.walks.Running.{Running}
use Rattle.weaver_core.specs.Sessions.{log_of_client, IsClientOf}
use Rattle.weaver_core.specs.Walks.{IsLookAt}
use Rattle.weaver_locks.specs.declared.hand.Hand.{Hand}
use Rattle.weaver_locks.specs.declared.shared.Shared.{Shared}
use Rattle.weaver_locks.specs.Following.{HasNotBegun, MayHear}
use Rattle.weaver_locks.specs.GateHolds.{gate_entry_by}
use Rattle.weaver_locks.specs.Hands.{hand_number, seen_by, IsHand}
use Rattle.weaver_locks.specs.Locks.{gate_count, shard_count, start_of}
use Rattle.weaver_hands.specs.Leaving.{LeavesAlone}
use Rattle.weaver_hands.specs.Programs.{own_reads, IsRunning, ReadsNoMore}
use Rattle.program_defs.specs.Agreement.{AreSameReads}
use Rattle.seen_logs.specs.Seen.{entries_since}
use Rattle.weaver_workers.specs.Carrying.{OnlyCarries}
use Rattle.weaver_workers.specs.ClientWork.{DoesCarry, DoesChange, DoesFinish, DoesStart, DoesVisit, IsSameSession, RunsSameProgram, Stand}
use Rattle.weaver_workers.specs.KeepLaws.{KeepLaws}
use Rattle.weaver_workers.specs.Keeping.{IsFresh, IsRunningFor, KeepsClient}
use Rattle.weaver_workers.proofs.Landed.{LandedIn}
use Rattle.weaver_workers.proofs.OnlyCarried.{alone-still, heard-still, landed-still, unbegun-still}
use Rattle.weaver_workers.proofs.Rows.{greater}
use Rattle.weaver_workers.proofs.Transacted.{heard-after, heard-now, heard-on, landed-after, landed-with}

-- Clients and their sessions

-- none is running
none-running : (P : Running → Type 0) (running : Option Running) → running ≡ None → ForSome running P
none-running P running none x at = absurd (none-some x (sym none ∙ at))

-- this one is running
one-running : (P : Running → Type 0) (running : Option Running) (one : Running) → running ≡ Some one → P one → ForSome running P
one-running P running one is p x at = subst P (same_Some one x (sym is ∙ at)) p

same-client : (number : ℕ) (was is : Client) → IsSameSession was is → IsClientOf number was.session was.log.items
    → IsClientOf number is.session is.log.items
same-client number was is same at_end =
    subst (λ (s : SessionState). IsClientOf number s (log_of_client is)) (sym same.session)
    (subst (λ (l : List SessionEntry). IsClientOf number was.session l) (sym same.log) at_end)

-- a fresh request is none that was begun before
not-begun : (session : SessionState) (n at r q : ℕ) → ((i j a b : ℕ) → slice_get session.requests i ≡ Some a → slice_get session.requests j ≡ Some b → i < j → a < b)
    → slice_get session.requests at ≡ Some q → slice_get session.requests n ≡ Some r → at < n → r ≢ q
not-begun session n at r q rises is_q is_r low same =
    let less : q < r = rises at n q r is_q is_r low in
    omega (arith, less, same)

-- the hand began the program since the start, and has not finished it
abbrev HasBegun : Shared → Hand → Stamp → ℕ → Type 0
HasBegun shared hand stamp r = Contains (programs_of (entries_since (gate_log (start_of shared) stamp.home) (gate_log (seen_by hand) stamp.home)))
    (record { author = hand_number hand; request = r; stamp = stamp })

abbrev IsUnfinished : Hand → Stamp → ℕ → Type 0
IsUnfinished hand stamp r = (entry : GateEntry) → Contains (gate_log (seen_by hand) stamp.home) entry
    → entry.author ≡ hand_number hand → entry.deed ≢ Finished r

module _ (laws : KeepLaws) (shared : Shared) where
  -- the same program goes on running
  still-runs : (hand : Hand) (was is : Running) → ReadsNoMore was is → IsRunning shared hand was → IsRunning shared hand is
  still-runs hand was is same runs = record {
    begun = subst (λ (stamp : Stamp). HasBegun shared hand stamp is.request) (sym same.stamp_is)
        (subst (λ (r : ℕ). HasBegun shared hand was.stamp r) (sym same.request_is) runs.begun);
    unfinished = subst (λ (stamp : Stamp). IsUnfinished hand stamp is.request) (sym same.stamp_is)
        (subst (λ (r : ℕ). IsUnfinished hand was.stamp r) (sym same.request_is) runs.unfinished);
    reads = runs.reads;
    walk = same.reads runs.reads runs.walk;
    same = subst (λ (r : ℕ). AreSameReads runs.reads (own_reads hand r)) (sym same.request_is) runs.same;
  }

  module _ (script : Script) (number : ℕ) (old new : Stand) (keeps : KeepsClient shared script number old.hand old.client)
      (is_hand : IsHand shared new.hand) where
    -- the session's requests rise
    rises : (i j a b : ℕ) → slice_get old.client.session.requests i ≡ Some a → slice_get old.client.session.requests j ≡ Some b → i < j → a < b
    rises i j a b = greater old.client.session.requests i j a b keeps.at_end.rising

    -- a request that is left alone stays fresh
    fresh-still : (r : ℕ) → HasNotBegun new.hand r → LeavesAlone old.hand new.hand r → IsFresh old.hand r → IsFresh new.hand r
    fresh-still r none alone fresh = record {
      unbegun = none;
      unread = laws.reads shared old.hand new.hand r keeps.is_hand is_hand alone.unvisited ∙ fresh.unread;
    }

    -- a program that is running goes on, when the hand only carries
    walk-still : (was is : Option Running) → RunsSameProgram was is → OnlyCarries old.hand new.hand → new.client.session ≡ old.client.session
        → ForSome was (IsRunningFor shared script old.hand old.client.session)
        → ForSome is (IsRunningFor shared script new.hand new.client.session)
    walk-still None is none only session runs = none-running _ is none
    walk-still (Some was) None impossible only session runs = absurd impossible
    walk-still (Some was) (Some is) same only session runs =
        let for = runs was refl in
        one-running _ (Some is) is refl (record {
          begun = subst (λ (s : SessionState). 1 ≤ s.begun) (sym session) for.begun;
          turn = subst (λ (s : SessionState). RepliesToLast s is.request) (sym session)
              (subst (λ (r : ℕ). RepliesToLast old.client.session r) (sym same.request_is) for.turn);
          stamp_is = ap (λ (s : SessionState). s.last) session ∙ for.stamp_is ∙ ap Some (sym same.stamp_is);
          look = subst (λ (p : Program). IsLookAt script is.request p) (sym same.program_is)
              (subst (λ (r : ℕ). IsLookAt script r (any_of was.walk)) (sym same.request_is) for.look);
          runs = still-runs new.hand was is same (laws.runs shared old.hand new.hand was keeps.is_hand is_hand
              (alone-still old.hand new.hand only was.request) for.runs);
        })

    runs-alike : (was is : Option Running) → RunsSameProgram was is → is_some is ≡ is_some was
    runs-alike None is none = ap is_some none
    runs-alike (Some was) None impossible = absurd impossible
    runs-alike (Some was) (Some is) same = refl

    -- the hand can go on with its session after it only carried
    pub carry-keeps : DoesCarry old new → KeepsClient shared script number new.hand new.client
    carry-keeps does =
        let session = does.same.session in
        record {
          is_hand = is_hand;
          landed = landed-still old.hand new.hand does.only keeps.landed;
          at_end = same-client number old.client new.client does.same keeps.at_end;
          requests = ap (λ (s : SessionState). s.requests) session ∙ keeps.requests;
          waits = ap (λ (s : SessionState). s.waits) session ∙ keeps.waits ∙ sym (runs-alike old.client.running new.client.running does.running);
          running = walk-still old.client.running new.client.running does.running does.only session keeps.running;
          last = λ stamp at. heard-still old.hand new.hand does.only shared stamp
              (keeps.last stamp (sym (ap (λ (s : SessionState). s.last) session) ∙ at));
          fresh = λ n r low at. (let was = keeps.fresh n r (subst (λ (s : SessionState). s.begun ≤ n) session low)
              (subst (λ (s : SessionState). slice_get s.requests n ≡ Some r) session at) in
              fresh-still r (unbegun-still old.hand new.hand does.only r was.unbegun) (alone-still old.hand new.hand does.only r) was);
        }

    -- the session has one request more that was begun
    next-fresh : (q at : ℕ) → new.client.session.requests ≡ old.client.session.requests → new.client.session.begun ≡ old.client.session.begun + 1
        → slice_get old.client.session.requests old.client.session.begun ≡ Some q
        → ((r : ℕ) → r ≢ q → IsFresh old.hand r → IsFresh new.hand r)
        → (n r : ℕ) → new.client.session.begun ≤ n → slice_get new.client.session.requests n ≡ Some r → IsFresh new.hand r
    next-fresh q at same one_more is_q stays n r low is_r =
        let there = subst (λ (rs : List ℕ). slice_get rs n ≡ Some r) same is_r in
        stays r (not-begun old.client.session n old.client.session.begun r q rises is_q there (omega (arith, one_more, low)))
        (keeps.fresh n r (omega (arith, one_more, low)) there)

    -- no request more
    same-fresh : new.client.session.requests ≡ old.client.session.requests → new.client.session.begun ≡ old.client.session.begun
        → ((n r : ℕ) → old.client.session.begun ≤ n → slice_get old.client.session.requests n ≡ Some r → IsFresh old.hand r → IsFresh new.hand r)
        → (n r : ℕ) → new.client.session.begun ≤ n → slice_get new.client.session.requests n ≡ Some r → IsFresh new.hand r
    same-fresh same begun stays n r low is_r =
        let there = subst (λ (rs : List ℕ). slice_get rs n ≡ Some r) same is_r in
        let from = subst (λ (b : ℕ). b ≤ n) begun low in
        stays n r from there (keeps.fresh n r from there)

    -- an entry of a hand that begins this request begins no other
    begins-this : (by : Hand) (q r : ℕ) (deed : GateDeed) (stamp : Stamp)
        → begun_by (hand_number by) deed ≡ record { author = hand_number by; request = q; stamp = stamp } ∷ [] → r ≢ q
        → (entry : GateEntry) (begun : BegunRequest) → Contains (gate_entry_by by deed ∷ []) entry
        → Contains (begun_by entry.author entry.deed) begun → begun.request ≢ r
    begins-this by q r deed stamp is other entry begun h b same =
        let entry_is = only (gate_entry_by by deed) entry h in
        let there = subst (λ (l : List BegunRequest). Contains l begun) is (subst (λ (e : GateEntry). Contains (begun_by e.author e.deed) begun) (sym entry_is) b) in
        let this : q ≡ begun.request = ap (λ (x : BegunRequest). x.request) (only (record { author = hand_number by; request = q; stamp = stamp }) begun there) in
        other (sym same ∙ sym this)

    -- one that begins none
    begins-no : (by : Hand) (r : ℕ) (deed : GateDeed) → begun_by (hand_number by) deed ≡ []
        → (entry : GateEntry) (begun : BegunRequest) → Contains (gate_entry_by by deed ∷ []) entry
        → Contains (begun_by entry.author entry.deed) begun → begun.request ≢ r
    begins-no by r deed is entry begun h b same =
        absurd (has_none begun (subst (λ (l : List BegunRequest). Contains l begun) is
        (subst (λ (e : GateEntry). Contains (begun_by e.author e.deed) begun) (sym (only (gate_entry_by by deed) entry h)) b)))

    module _ (upto : ℕ) (at_end : IsClientOf number new.client.session new.client.log.items) where
      -- a transaction was begun, judged and sent
      module _ (does : DoesChange shared script number upto old new) (low : does.asked.gate < gate_count shared)
          (session : new.client.session ≡ with_reply (with_begun does.stamp old.client.session)) where
        -- it has not begun what it had not begun, but for this one
        unbegun : (r : ℕ) → r ≢ does.r → HasNotBegun old.hand r → HasNotBegun new.hand r
        unbegun r other none =
            let did = does.transacts in
            laws.at_gate did.judged new.hand does.asked.gate _ did.sends.was.made r
            (begins-no did.judged r (Sent did.sends.flight.request _) refl)
            (laws.elsewhere did.begun did.judged (ap (λ (a : Account). a.gates) did.judges.was.made) r
            (laws.at_gate old.hand did.begun does.asked.gate _ did.begins.made r
            (begins-this old.hand does.r r (BeganTx does.r does.stamp) does.stamp refl other) none))

        -- the hand can go on with its session after a transaction was begun, judged and sent
        pub change-keeps : KeepsClient shared script number new.hand new.client
        change-keeps = record {
          is_hand = is_hand;
          landed = landed-after shared old.hand new.hand keeps.is_hand does.asked.gate does.r low does.ops
              old.client.session.last does.stamp does.verdict does.transacts keeps.landed;
          at_end = at_end;
          requests = does.requests ∙ keeps.requests;
          waits = ap (λ (s : SessionState). s.waits) session ∙ sym (ap is_some does.running);
          running = none-running _ new.client.running does.running;
          last = λ stamp at. subst (MayHear shared new.hand)
              (same_Some does.stamp stamp (sym (ap (λ (s : SessionState). s.last) session) ∙ at))
              (heard-after shared old.hand new.hand keeps.is_hand does.asked.gate does.r low does.ops
              old.client.session.last does.stamp does.verdict does.transacts);
          fresh = next-fresh does.r 0 does.requests (ap (λ (s : SessionState). s.begun) session) does.next.turn.next
              (λ r other was. fresh-still r (unbegun r other was.unbegun)
              (laws.transact (shard_count shared) old.hand new.hand does.asked.gate does.r does.ops old.client.session.last
              does.stamp does.verdict does.transacts r) was);
        }

      -- a program was begun
      module _ (does : DoesStart shared script number upto old new) (low : does.asked.gate < gate_count shared)
          (session : new.client.session ≡ with_begun does.stamp old.client.session) where
        -- the hand can go on with its session after a program was begun
        pub start-keeps : KeepsClient shared script number new.hand new.client
        start-keeps =
            let was = keeps.fresh old.client.session.begun does.r (omega arith) does.next.turn.next in
            record {
              is_hand = is_hand;
              landed = landed-with shared old.hand new.hand keeps.is_hand does.asked.gate low does.starts.before
                  (BeganProgram does.r does.stamp) does.starts.begins
                  (λ entry h. ap (λ (e : GateEntry). tx_by e.author e.deed) (sym (only (gate_entry_by old.hand (BeganProgram does.r does.stamp)) entry h)))
                  keeps.landed;
              at_end = at_end;
              requests = does.requests ∙ keeps.requests;
              waits = ap (λ (s : SessionState). s.waits) session ∙ sym (ap is_some does.running);
              running = one-running _ new.client.running _ does.running (record {
                begun = subst (λ (s : SessionState). 1 ≤ s.begun) (sym session) (omega arith);
                turn = record {
                  waits = ap (λ (s : SessionState). s.waits) session;
                  last = subst (λ (s : SessionState). slice_get s.requests (s.begun - 1) ≡ Some does.r) (sym session)
                      (subst (λ (n : ℕ). slice_get old.client.session.requests n ≡ Some does.r) (omega arith) does.next.turn.next);
                };
                stamp_is = ap (λ (s : SessionState). s.last) session;
                look = record { request = does.asked; request_is = does.next.request_is; work_is = does.work_is ∙ ap Look (sym does.program_is) };
                runs = laws.begun shared old.hand new.hand does.asked.gate does.r old.client.session.last does.stamp does.walk
                    keeps.is_hand is_hand low was.unbegun was.unread does.starts does.unread;
              });
              last = λ stamp at. subst (MayHear shared new.hand)
                  (same_Some does.stamp stamp (sym (ap (λ (s : SessionState). s.last) session) ∙ at))
                  (heard-now shared old.hand new.hand keeps.is_hand does.asked.gate low does.starts.before
                  (BeganProgram does.r does.stamp) does.starts.begins
                  (record { author = hand_number old.hand; request = does.r; stamp = does.stamp }) refl);
              fresh = next-fresh does.r 0 does.requests (ap (λ (s : SessionState). s.begun) session) does.next.turn.next
                  (λ r other was. fresh-still r
                  (laws.at_gate old.hand new.hand does.asked.gate _ does.starts.begins.made r
                  (begins-this old.hand does.r r (BeganProgram does.r does.stamp) does.stamp refl other) was.unbegun)
                  (laws.start (shard_count shared) old.hand new.hand does.asked.gate does.r old.client.session.last does.stamp does.starts r) was);
            }

      -- a program was finished
      module _ (does : DoesFinish shared number old new) (session : new.client.session ≡ with_reply old.client.session) where
        -- the home of a running program is a gatekeeper
        pub finish-keeps : (low : does.before.stamp.home < gate_count shared) → KeepsClient shared script number new.hand new.client
        finish-keeps low = record {
          is_hand = is_hand;
          landed = landed-with shared old.hand new.hand keeps.is_hand does.before.stamp.home low does.finishes.before
              (Finished does.before.request) does.finishes.was
              (λ entry h. ap (λ (e : GateEntry). tx_by e.author e.deed) (sym (only (gate_entry_by old.hand (Finished does.before.request)) entry h)))
              keeps.landed;
          at_end = at_end;
          requests = does.requests ∙ keeps.requests;
          waits = ap (λ (s : SessionState). s.waits) session ∙ sym (ap is_some does.running);
          running = none-running _ new.client.running does.running;
          last = λ stamp at. heard-on shared old.hand new.hand keeps.is_hand does.before.stamp.home low does.finishes.before
              (Finished does.before.request) does.finishes.was stamp (keeps.last stamp (sym (ap (λ (s : SessionState). s.last) session) ∙ at));
          fresh = same-fresh does.requests (ap (λ (s : SessionState). s.begun) session) (λ n r low_n is_r was. record {
            unbegun = laws.at_gate old.hand new.hand does.before.stamp.home _ does.finishes.was.made r
                (begins-no old.hand r (Finished does.before.request) refl) was.unbegun;
            unread = laws.reads shared old.hand new.hand r keeps.is_hand is_hand
                (laws.finish (shard_count shared) old.hand new.hand does.before does.answer does.finishes r) ∙ was.unread;
          });
        }

    -- a program read its next vertex
    pub visit-keeps : (does : DoesVisit shared old new) → IsRunning shared new.hand does.after → KeepsClient shared script number new.hand new.client
    visit-keeps does runs =
        let session = does.same.session in
        let gates = ap (λ (a : Account). a.gates) does.visits.visits.was.made in
        let for = keeps.running does.before does.before_is in
        let fed = does.visits.fed in
        record {
          is_hand = is_hand;
          landed = subst (λ (logs : List (List GateEntry)). (home : ℕ) → LandedIn (get_or logs home [])) (sym gates) keeps.landed;
          at_end = same-client number old.client new.client does.same keeps.at_end;
          requests = ap (λ (s : SessionState). s.requests) session ∙ keeps.requests;
          waits = ap (λ (s : SessionState). s.waits) session ∙ keeps.waits ∙ ap is_some does.before_is ∙ sym (ap is_some does.after_is);
          running = one-running _ new.client.running does.after does.after_is (record {
            begun = subst (λ (s : SessionState). 1 ≤ s.begun) (sym session) for.begun;
            turn = subst (λ (s : SessionState). RepliesToLast s does.after.request) (sym session)
                (subst (λ (r : ℕ). RepliesToLast old.client.session r) (sym fed.request_is) for.turn);
            stamp_is = ap (λ (s : SessionState). s.last) session ∙ for.stamp_is ∙ ap Some (sym fed.stamp_is);
            look = subst (λ (p : Program). IsLookAt script does.after.request p) (sym fed.program_is)
                (subst (λ (r : ℕ). IsLookAt script r (any_of does.before.walk)) (sym fed.request_is) for.look);
            runs = runs;
          });
          last = λ stamp at. (let may = keeps.last stamp (sym (ap (λ (s : SessionState). s.last) session) ∙ at) in record {
            home = may.home;
            begun = may.begun;
            stamp_is = may.stamp_is;
            there = subst (λ (logs : List (List GateEntry)). Contains (begun_in (get_or logs may.home [])) may.begun
                ⊎ Contains (begun_in (gate_log (start_of shared) may.home)) may.begun) (sym gates) may.there;
          });
          fresh = λ n r low at. (let there = subst (λ (s : SessionState). slice_get s.requests n ≡ Some r) session at in
              let from = subst (λ (s : SessionState). s.begun ≤ n) session low in
              let was = keeps.fresh n r from there in
              fresh-still r (laws.elsewhere old.hand new.hand gates r was.unbegun)
              (laws.visit (gate_count shared) (shard_count shared) old.hand new.hand does.before does.after does.visits r
              (not-waiting r n for.begun for.turn.last there from)) was);
        }
      where
        -- the program waits for its reply, so its request was begun before
        not-waiting : (r n : ℕ) → 1 ≤ old.client.session.begun → slice_get old.client.session.requests (old.client.session.begun - 1) ≡ Some does.before.request
            → slice_get old.client.session.requests n ≡ Some r → old.client.session.begun ≤ n → r ≢ does.before.request
        not-waiting r n some is_q is_r low =
            not-begun old.client.session n (old.client.session.begun - 1) r does.before.request rises is_q is_r (omega (arith, some, low))
