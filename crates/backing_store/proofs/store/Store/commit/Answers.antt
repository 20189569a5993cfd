use Rattle.std.proofs.Common.{◌≡◌, ◌≢◌, ◌∷◌, ◌++◌, ◌⊎◌, inl, inr, ℕ, List, [], length, All, nat_eq, cond, Some, None, Contains, refl, sym, subst, ap, ◌∙◌, arith}
use Rattle.std.proofs.lemmas.List.{length-map}
use Rattle.std.proofs.lemmas.Result.{IfOk-from_err}
use Rattle.weave_data.proofs.Results.{on_err_known}
use Rattle.vector_stamp.specs.declared.clock.Stamp.{Stamp}
use Rattle.vector_stamp.specs.Order.{id_of}
use Rattle.vector_stamp.specs.Coherence.{AreCoherent}
use Rattle.weave_entries.specs.declared.store_log.StoreEntry.{StoreEntry}
use Rattle.std.specs.Map.{lookup}
use Rattle.std.specs.Option.{option_or}
use Rattle.weave_data.specs.declared.name.Name.{Name}
use Rattle.graph_ops.specs.declared.op.Op.{Op}
use Rattle.graph_ops.specs.PlainGraph.{PlainGraph}
use Rattle.weave_entries.specs.declared.store_log.StoreDeed.TheVariants.{Judged}
use Rattle.weave_entries.specs.declared.verdict.Verdict.{Verdict}
use Rattle.weave_entries.specs.StoreReplay.{commits_of}
use Rattle.backing_store.specs.Commits.{stamps_judged, stamps_kept, asked_at, is_judge_asked, verdict_at, judged_entry, pairs_added, entries_added}
use Rattle.backing_store.specs.Keeping.{IsAsked, IsStoreReplay}
use Rattle.backing_store.specs.declared.asked.Asked.{Asked}
use Rattle.backing_store.specs.declared.lasts.KeptCommit.{KeptCommit}
use Rattle.backing_store.proofs.Replay.{replay_moved, replay_more}
use Rattle.backing_store.proofs.Committing.{known_before, stamps_are, vertices_are, few_asked, others_asked, coherent_asked, counts_fit, counts_low, commits_le, not_asked}
use Rattle.backing_store.proofs.store.Store.commit.Goals as goal

-- Out of memory

-- with the graph that it had, the store is as it was
replay_back : (graph now : PlainGraph) (lasts : List (Name × KeptCommit)) (made : ℕ) (places : List (ℕ × ℕ)) (log : List StoreEntry) → IsStoreReplay graph lasts made places log → now ≡ graph → IsStoreReplay now lasts made places log
replay_back graph now lasts made places log kept back = subst (λ (it : PlainGraph). IsStoreReplay it lasts made places log) (sym back) kept

pub returns-in_err-names : goal.returns-in_err-names
returns-in_err-names g c =
    let result = c.from_residual.result in
    let is = c.from_residual.ensures.0 in
    record {
      verdict = IfOk-from_err result _ is;
      entry = IfOk-from_err result _ is;
      pairs = IfOk-from_err result _ is;
      logged = IfOk-from_err result _ is;
      known = λ one h. inl h;
      stay_known = λ one h. h;
      not_asked = λ asked. refl;
      store = on_err_known result _ refl;
      judge = on_err_known result _ refl;
    }

pub invariant_of-self : goal.invariant_of-self
invariant_of-self g c = replay_moved _ _ _ _ _ c.self.invariant _ _ _ c.make_room.ensures.lasts c.make_room.ensures.places c.make_room.ensures.log

pub returns-in_err-make_room : goal.returns-in_err-make_room
returns-in_err-make_room g c =
    let result = c.from_residual-in_err-make_room.result in
    let is = c.from_residual-in_err-make_room.ensures.0 in
    record {
      verdict = IfOk-from_err result _ is;
      entry = IfOk-from_err result _ is;
      pairs = IfOk-from_err result _ is;
      logged = IfOk-from_err result _ is;
      known = λ one h. inl h;
      stay_known = λ one h. h;
      not_asked = λ asked. refl;
      store = on_err_known result _ (c.make_room.ensures.log ∙ c.self.view_is);
      judge = on_err_known result _ refl;
    }

pub invariant_of-self-in_err-asked : goal.invariant_of-self-in_err-asked
invariant_of-self-in_err-asked g c = replay_moved _ _ _ _ _ c.self.invariant _ _ _ c.make_room.ensures.lasts c.make_room.ensures.places c.make_room.ensures.log

pub returns-in_err-asked : goal.returns-in_err-asked
returns-in_err-asked g c =
    let result = c.from_residual-in_err-asked.result in
    let is = c.from_residual-in_err-asked.ensures.0 in
    record {
      verdict = IfOk-from_err result _ is;
      entry = IfOk-from_err result _ is;
      pairs = IfOk-from_err result _ is;
      logged = IfOk-from_err result _ is;
      known = λ one h. inl h;
      stay_known = λ one h. h;
      not_asked = λ asked. refl;
      store = on_err_known result _ (c.make_room.ensures.log ∙ c.self.view_is);
      judge = on_err_known result _ refl;
    }

pub invariant_of-self-in_err-from_slice : goal.invariant_of-self-in_err-from_slice
invariant_of-self-in_err-from_slice g c = replay_moved _ _ _ _ _ c.self.invariant _ _ _ c.make_room.ensures.lasts c.make_room.ensures.places c.make_room.ensures.log

pub returns-in_err-from_slice : goal.returns-in_err-from_slice
returns-in_err-from_slice g c =
    let result = c.from_residual-in_err-from_slice.result in
    let is = c.from_residual-in_err-from_slice.ensures.0 in
    record {
      verdict = IfOk-from_err result _ is;
      entry = IfOk-from_err result _ is;
      pairs = IfOk-from_err result _ is;
      logged = IfOk-from_err result _ is;
      known = λ one h. inl h;
      stay_known = λ one h. h;
      not_asked = λ asked. refl;
      store = on_err_known result _ (c.make_room.ensures.log ∙ c.self.view_is);
      judge = on_err_known result _ refl;
    }

pub invariant_of-self-in_err-decided : goal.invariant_of-self-in_err-decided
invariant_of-self-in_err-decided g c =
    replay_back _ _ _ _ _ _ (replay_moved _ _ _ _ _ c.self.invariant _ _ _ c.make_room.ensures.lasts c.make_room.ensures.places c.make_room.ensures.log) c.in_err-decided.ensures.back

pub returns-in_err-decided : goal.returns-in_err-decided
returns-in_err-decided g c =
    let result = c.from_residual-in_err-decided.result in
    let is = c.from_residual-in_err-decided.ensures.0 in
    record {
      verdict = IfOk-from_err result _ is;
      entry = IfOk-from_err result _ is;
      pairs = IfOk-from_err result _ is;
      logged = IfOk-from_err result _ is;
      known = λ one h. inl (subst (λ judge. Contains (g.J.Judge.known judge) one) c.in_err-decided.ensures.unchanged h);
      stay_known = λ one h. subst (λ judge. Contains (g.J.Judge.known judge) one) (sym c.in_err-decided.ensures.unchanged) h;
      not_asked = λ asked. c.in_err-decided.ensures.unchanged;
      store = on_err_known result _ (c.make_room.ensures.log ∙ c.self.view_is);
      judge = on_err_known result _ c.in_err-decided.ensures.unchanged;
    }

-- What the judge is asked

-- as many vertices as stamps are asked about, and as many requests
as_many_vertices : (asked : Asked) (held : List (Name × KeptCommit)) → IsAsked asked held → length asked.vertices ≡ length asked.stamps
as_many_vertices asked held is =
    ap (length {A = Name}) is.vertices_are ∙ length-map held (λ (one : Name × KeptCommit). one.0)
    ∙ sym (ap (length {A = Stamp}) is.stamps_are ∙ length-map held (λ (one : Name × KeptCommit). one.1.stamp))

as_many_requests : (asked : Asked) (held : List (Name × KeptCommit)) → IsAsked asked held → length asked.newer ≡ length asked.stamps
as_many_requests asked held is =
    ap (length {A = ℕ}) is.newer_are ∙ length-map held (λ (one : Name × KeptCommit). one.1.request)
    ∙ sym (ap (length {A = Stamp}) is.stamps_are ∙ length-map held (λ (one : Name × KeptCommit). one.1.stamp))

pub judge_tx-requires-clause-few_ops : goal.judge_tx-requires-clause-few_ops
judge_tx-requires-clause-few_ops g c = c.requires.few

pub judge_tx-requires-clause-vertices : goal.judge_tx-requires-clause-vertices
judge_tx-requires-clause-vertices g c = as_many_vertices c.in_ok-asked.asked _ c.in_ok-asked.ensures

pub judge_tx-requires-clause-newer : goal.judge_tx-requires-clause-newer
judge_tx-requires-clause-newer g c = as_many_requests c.in_ok-asked.asked _ c.in_ok-asked.ensures

pub judge_tx-requires-clause-room : goal.judge_tx-requires-clause-room
judge_tx-requires-clause-room g c =
    omega (arith, c.self.invariant.made_is, commits_le c.self.inside.log.items, c.self.inside.log.ok.0, c.self.inside.log.ok.1, c.self.inside.log.small)

pub judge_tx-requires-clause-few : goal.judge_tx-requires-clause-few
judge_tx-requires-clause-few g c =
    few_asked _ _ _ _ _ (replay_moved _ _ _ _ _ c.self.invariant _ _ _ c.make_room.ensures.lasts c.make_room.ensures.places c.make_room.ensures.log) c.args.stamp c.args.ops.now _ _ (c.as_slice.ensures.value ∙ c.in_ok-names.ensures) (c.as_slice-2.ensures.value ∙ c.in_ok-names.ensures) c.in_ok-asked.asked c.in_ok-asked.ensures c.requires.few

pub judge_tx-requires-clause-other_ids : goal.judge_tx-requires-clause-other_ids
judge_tx-requires-clause-other_ids g c =
    others_asked _ _ _ _ _ (replay_moved _ _ _ _ _ c.self.invariant _ _ _ c.make_room.ensures.lasts c.make_room.ensures.places c.make_room.ensures.log) c.args.stamp c.args.ops.now _ _ (c.as_slice.ensures.value ∙ c.in_ok-names.ensures) (c.as_slice-2.ensures.value ∙ c.in_ok-names.ensures) c.in_ok-asked.asked c.in_ok-asked.ensures (subst (λ (log : List StoreEntry). All (λ (judged : Stamp). id_of judged ≢ id_of c.args.stamp) (stamps_judged log)) (sym (c.make_room.ensures.log ∙ c.self.view_is)) c.requires.new)

pub judge_tx-requires-clause-coherent : goal.judge_tx-requires-clause-coherent
judge_tx-requires-clause-coherent g c =
    coherent_asked _ _ _ _ _ (replay_moved _ _ _ _ _ c.self.invariant _ _ _ c.make_room.ensures.lasts c.make_room.ensures.places c.make_room.ensures.log) c.args.stamp c.args.ops.now _ _ (c.as_slice.ensures.value ∙ c.in_ok-names.ensures) (c.as_slice-2.ensures.value ∙ c.in_ok-names.ensures) c.in_ok-asked.asked c.in_ok-asked.ensures (g.J.Judge.known c.args.judge.now) c.parts_and_unions_are_coherent.ensures.part (subst (λ (log : List StoreEntry). AreCoherent (c.args.stamp ∷ stamps_kept (commits_of log) ++ g.J.Judge.known c.args.judge.now)) (sym (c.make_room.ensures.log ∙ c.self.view_is)) c.requires.coherent)

-- What is noted

pub put_commit-requires-clause-room : goal.put_commit-requires-clause-room
put_commit-requires-clause-room g c =
    counts_fit (g.J.Judge.pairs c.args.judge.now) c.make_room.new.log.items c.args.stamp c.args.ops.now c.in_ok-decided.decided.logged (c.in_ok-decided.ensures.logged _ (known_before _ _ _ _ _ (replay_moved _ _ _ _ _ c.self.invariant _ _ _ c.make_room.ensures.lasts c.make_room.ensures.places c.make_room.ensures.log) c.args.stamp c.args.ops.now _ _ (c.as_slice.ensures.value ∙ c.in_ok-names.ensures) (c.as_slice-2.ensures.value ∙ c.in_ok-names.ensures) c.in_ok-asked.asked c.in_ok-asked.ensures)) _ (omega (arith, ap length c.in_ok-names.ensures, c.in_ok-names.names.ok.0, c.len.ensures, c.in_ok-make_room.ensures.room_in_lasts))

pub put_commit-requires-clause-few : goal.put_commit-requires-clause-few
put_commit-requires-clause-few g c =
    counts_low (g.J.Judge.pairs c.args.judge.now) c.make_room.new.log.items c.args.stamp c.args.ops.now c.in_ok-decided.decided.logged (c.in_ok-decided.ensures.logged _ (known_before _ _ _ _ _ (replay_moved _ _ _ _ _ c.self.invariant _ _ _ c.make_room.ensures.lasts c.make_room.ensures.places c.make_room.ensures.log) c.args.stamp c.args.ops.now _ _ (c.as_slice.ensures.value ∙ c.in_ok-names.ensures) (c.as_slice-2.ensures.value ∙ c.in_ok-names.ensures) c.in_ok-asked.asked c.in_ok-asked.ensures)) (omega (arith, ap length c.make_room.ensures.log, c.self.inside.log.ok.0, c.self.inside.log.ok.1, c.self.inside.log.small))

pub put_commit-requires-clause-number : goal.put_commit-requires-clause-number
put_commit-requires-clause-number g c =
    omega (arith, c.self.invariant.made_is, commits_le c.self.inside.log.items, c.self.inside.log.ok.0, c.self.inside.log.ok.1, c.self.inside.log.small)

pub note_place-requires : goal.note_place-requires
note_place-requires g c = c.in_ok-make_room.ensures.room_in_places

pub push_reserved-requires : goal.push_reserved-requires
push_reserved-requires g c = omega (arith, c.in_ok-make_room.ensures.room_in_log)

log_after : (g : _) (c : goal.After-drop-names-2 g) → c.push_reserved.new.self.items ≡ c.make_room.new.log.items ++ record { author = c.args.author; deed = Judged c.args.request c.args.stamp c.args.ops.now c.in_ok-asked.asked.vertices c.in_ok-decided.decided.logged } ∷ []
log_after g c =
    c.push_reserved.ensures.items ∙ ap (λ (ops : List Op). c.make_room.new.log.items ++ record { author = c.args.author; deed = Judged c.args.request c.args.stamp ops c.in_ok-asked.asked.vertices c.in_ok-decided.decided.logged } ∷ []) (c.from_vec-judged.ensures ∙ c.in_ok-from_slice.ensures.items)

pub invariant_of-self-2 : goal.invariant_of-self-2
invariant_of-self-2 g c =
    replay_more _ _ _ _ _ (replay_moved _ _ _ _ _ c.self.invariant _ _ _ c.make_room.ensures.lasts c.make_room.ensures.places c.make_room.ensures.log) (g.J.Judge.pairs c.args.judge.now) c.args.author c.args.request c.args.stamp c.args.ops.now c.in_ok-asked.asked.vertices c.in_ok-decided.decided.logged _ _ _ _ _
    (subst (λ (log : List StoreEntry). All (λ (judged : Stamp). id_of judged ≢ id_of c.args.stamp) (stamps_judged log)) (sym (c.make_room.ensures.log ∙ c.self.view_is)) c.requires.new)
    (vertices_are _ _ _ _ _ (replay_moved _ _ _ _ _ c.self.invariant _ _ _ c.make_room.ensures.lasts c.make_room.ensures.places c.make_room.ensures.log) c.args.stamp c.args.ops.now _ _ (c.as_slice.ensures.value ∙ c.in_ok-names.ensures) (c.as_slice-2.ensures.value ∙ c.in_ok-names.ensures) c.in_ok-asked.asked c.in_ok-asked.ensures)
    (c.in_ok-decided.ensures.logged _ (known_before _ _ _ _ _ (replay_moved _ _ _ _ _ c.self.invariant _ _ _ c.make_room.ensures.lasts c.make_room.ensures.places c.make_room.ensures.log) c.args.stamp c.args.ops.now _ _ (c.as_slice.ensures.value ∙ c.in_ok-names.ensures) (c.as_slice-2.ensures.value ∙ c.in_ok-names.ensures) c.in_ok-asked.asked c.in_ok-asked.ensures))
    (record {
      graph_is = c.in_ok-decided.ensures.graph;
      lasts_are = c.put_commit.ensures.lasts;
      made_is = c.put_commit.ensures.made;
      places_are = λ one. c.note_place.ensures one
          ∙ ap (λ (place : ℕ). option_or (lookup (nat_eq one) c.make_room.new.places.entries) (cond (nat_eq c.args.request one) (Some place) None))
          (c.len-2.ensures ∙ c.make_room.new.log.ok.0);
    })
    (log_after g c)

-- What is answered

pub returns-clause-verdict : goal.returns-clause-verdict
returns-clause-verdict g c =
    c.in_ok-decided.ensures.answer ∙ (c.in_ok-decided.ensures.logged _ (known_before _ _ _ _ _ (replay_moved _ _ _ _ _ c.self.invariant _ _ _ c.make_room.ensures.lasts c.make_room.ensures.places c.make_room.ensures.log) c.args.stamp c.args.ops.now _ _ (c.as_slice.ensures.value ∙ c.in_ok-names.ensures) (c.as_slice-2.ensures.value ∙ c.in_ok-names.ensures) c.in_ok-asked.asked c.in_ok-asked.ensures)) ∙ ap (λ (log : List StoreEntry). verdict_at (g.J.Judge.pairs c.args.judge.now) log c.args.stamp c.args.ops.now) (c.make_room.ensures.log ∙ c.self.view_is)

pub returns-clause-entry : goal.returns-clause-entry
returns-clause-entry g c =
    log_after g c
    ∙ ap (λ (verdict : Verdict). c.make_room.new.log.items ++ record { author = c.args.author; deed = Judged c.args.request c.args.stamp c.args.ops.now c.in_ok-asked.asked.vertices verdict } ∷ []) (sym c.in_ok-decided.ensures.answer)
    ∙ ap (λ (vertices : List Name). c.make_room.new.log.items ++ record { author = c.args.author; deed = Judged c.args.request c.args.stamp c.args.ops.now vertices c.in_ok-decided.decided.answer } ∷ []) (vertices_are _ _ _ _ _ (replay_moved _ _ _ _ _ c.self.invariant _ _ _ c.make_room.ensures.lasts c.make_room.ensures.places c.make_room.ensures.log) c.args.stamp c.args.ops.now _ _ (c.as_slice.ensures.value ∙ c.in_ok-names.ensures) (c.as_slice-2.ensures.value ∙ c.in_ok-names.ensures) c.in_ok-asked.asked c.in_ok-asked.ensures)
    ∙ ap (λ (log : List StoreEntry). log ++ judged_entry c.args.author c.args.request c.args.stamp c.args.ops.now log c.in_ok-decided.decided.answer ∷ []) (c.make_room.ensures.log ∙ c.self.view_is)

pub returns-clause-pairs : goal.returns-clause-pairs
returns-clause-pairs g c =
    c.in_ok-decided.ensures.pairs
    ∙ ap (λ (verdict : Verdict). (g.J.Judge.pairs c.args.judge.now) ++ pairs_added verdict (g.J.Judge.pairs c.args.judge.now) c.in_ok-asked.asked.stamps c.args.stamp) (sym c.in_ok-decided.ensures.answer)
    ∙ ap (λ (stamps : List Stamp). (g.J.Judge.pairs c.args.judge.now) ++ pairs_added c.in_ok-decided.decided.answer (g.J.Judge.pairs c.args.judge.now) stamps c.args.stamp) (stamps_are _ _ _ _ _ (replay_moved _ _ _ _ _ c.self.invariant _ _ _ c.make_room.ensures.lasts c.make_room.ensures.places c.make_room.ensures.log) c.args.stamp c.args.ops.now _ _ (c.as_slice.ensures.value ∙ c.in_ok-names.ensures) (c.as_slice-2.ensures.value ∙ c.in_ok-names.ensures) c.in_ok-asked.asked c.in_ok-asked.ensures)
    ∙ ap (λ (log : List StoreEntry). (g.J.Judge.pairs c.args.judge.now) ++ pairs_added c.in_ok-decided.decided.answer (g.J.Judge.pairs c.args.judge.now) (asked_at log c.args.stamp c.args.ops.now) c.args.stamp) (c.make_room.ensures.log ∙ c.self.view_is)

pub returns-clause-logged : goal.returns-clause-logged
returns-clause-logged g c =
    λ keeps.
    c.in_ok-decided.ensures.judge_logged keeps
    ∙ ap (λ (verdict : Verdict). g.J.Judge.log_of c.args.judge.now ++ entries_added verdict c.args.author (g.J.Judge.pairs c.args.judge.now) c.in_ok-asked.asked.stamps c.args.stamp) (sym c.in_ok-decided.ensures.answer)
    ∙ ap (λ (stamps : List Stamp). g.J.Judge.log_of c.args.judge.now ++ entries_added c.in_ok-decided.decided.answer c.args.author (g.J.Judge.pairs c.args.judge.now) stamps c.args.stamp) (stamps_are _ _ _ _ _ (replay_moved _ _ _ _ _ c.self.invariant _ _ _ c.make_room.ensures.lasts c.make_room.ensures.places c.make_room.ensures.log) c.args.stamp c.args.ops.now _ _ (c.as_slice.ensures.value ∙ c.in_ok-names.ensures) (c.as_slice-2.ensures.value ∙ c.in_ok-names.ensures) c.in_ok-asked.asked c.in_ok-asked.ensures)
    ∙ ap (λ (log : List StoreEntry). g.J.Judge.log_of c.args.judge.now ++ entries_added c.in_ok-decided.decided.answer c.args.author (g.J.Judge.pairs c.args.judge.now) (asked_at log c.args.stamp c.args.ops.now) c.args.stamp) (c.make_room.ensures.log ∙ c.self.view_is)

pub returns-clause-known : goal.returns-clause-known
returns-clause-known g c =
    λ one h.
    let asked = c.judge_tx.ensures.known one h in
    subst (λ (log : List StoreEntry). Contains (g.J.Judge.known c.args.judge.now) one ⊎ Contains (c.args.stamp ∷ asked_at log c.args.stamp c.args.ops.now) one) (c.make_room.ensures.log ∙ c.self.view_is)
    (subst (λ (stamps : List Stamp). Contains (g.J.Judge.known c.args.judge.now) one ⊎ Contains (c.args.stamp ∷ stamps) one) (stamps_are _ _ _ _ _ (replay_moved _ _ _ _ _ c.self.invariant _ _ _ c.make_room.ensures.lasts c.make_room.ensures.places c.make_room.ensures.log) c.args.stamp c.args.ops.now _ _ (c.as_slice.ensures.value ∙ c.in_ok-names.ensures) (c.as_slice-2.ensures.value ∙ c.in_ok-names.ensures) c.in_ok-asked.asked c.in_ok-asked.ensures) asked)

pub returns-clause-not_asked : goal.returns-clause-not_asked
returns-clause-not_asked g c =
    λ is.
    let why = not_asked _ _ _ _ _ (replay_moved _ _ _ _ _ c.self.invariant _ _ _ c.make_room.ensures.lasts c.make_room.ensures.places c.make_room.ensures.log) c.args.stamp c.args.ops.now _ _ (c.as_slice.ensures.value ∙ c.in_ok-names.ensures) (c.as_slice-2.ensures.value ∙ c.in_ok-names.ensures) c.in_ok-asked.asked c.in_ok-asked.ensures (ap (λ (log : List StoreEntry). is_judge_asked log c.args.stamp c.args.ops.now) (c.make_room.ensures.log ∙ c.self.view_is) ∙ is) in
    elim why [
      | inl newer ↦ c.judge_tx.ensures.newer newer
      | inr none ↦ c.judge_tx.ensures.not_asked none
    ]

pub returns-clause-stay_known : goal.returns-clause-stay_known
returns-clause-stay_known g c = c.judge_tx.ensures.stay_known

pub returns-clause-store : goal.returns-clause-store
returns-clause-store g c = tt

pub returns-clause-judge : goal.returns-clause-judge
returns-clause-judge g c = tt
