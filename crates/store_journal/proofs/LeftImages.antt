-- What a recovery leaves of an image.
-- Used by `close_gate` and `recover`.
use Rattle.std.proofs.Common.{◌≡◌, ◌≢◌, inl, inr, ℕ, zero, suc, ◌+◌, min, List, [], ◌∷◌, ◌++◌, length, take, drop, get_or, Option, None, Some, refl, sym, ◌∙◌, ap, subst, arith, append_assoc, length-append, take-append-drop}
use Rattle.std.proofs.lemmas.Bool.{cases_eq}
use Rattle.std.proofs.lemmas.List.{append-nil, take_at}
use Rattle.store_journal.specs.Disk.{ComesFrom, LeavesOnly, Torn}
use Rattle.store_journal.specs.Journal.{Walk, IsForeign, file_commits, gate_of, onward, record_size, walk, whole}
use Rattle.store_journal.specs.Standing.{AreRecords, IsJournal, IsLeftByRecovery}
use Rattle.store_journal.proofs.Closing.{close_torn, parts_of}
use Rattle.store_journal.proofs.Moments.{joined, weaker}
use Rattle.store_journal.proofs.Recorded.{torn_none}
use Rattle.store_journal.proofs.Walking.{walk_closed}

module _ {C : Type 0} (reader : List C → List ℕ → Option C) where
  -- the walk has these commits, and maybe more
  abbrev HasMore : List C → Walk C → Type 0
  HasMore earlier found = (more : List C) × (found.commits ≡ earlier ++ more)

  none_more : (earlier : List C) (place : ℕ) → HasMore earlier (record { commits = earlier; gate = place })
  none_more earlier place = ([], sym (append-nil earlier))

  onward_keeps : (earlier : List C) (place : ℕ) (found : Option C) (next : C → Walk C) → ((c : C) → HasMore (earlier ++ c ∷ []) (next c)) → HasMore earlier (onward found (record { commits = earlier; gate = place }) next)
  onward_keeps earlier place None next again = none_more earlier place
  onward_keeps earlier place (Some c) next again = (c ∷ (again c).0, (again c).1 ∙ append_assoc earlier (c ∷ []) (again c).0)

  -- a walk never loses the commits that it has passed
  walk_keeps : (earlier : List C) (place skip : ℕ) (bytes : List ℕ) → HasMore earlier (walk reader earlier place skip bytes)
  walk_keeps earlier place skip [] = none_more earlier place
  walk_keeps earlier place (suc skip) (byte ∷ rest) = walk_keeps earlier place skip rest
  walk_keeps earlier place zero (gate ∷ rest) = elim (cases_eq gate 1) [
    | inl is_open ↦
        subst (λ g. HasMore earlier (walk reader earlier place 0 (g ∷ rest))) (sym is_open)
        (onward_keeps earlier place (whole reader earlier rest) (λ c. walk reader (earlier ++ c ∷ []) (place + 1 + record_size rest) (record_size rest) rest)
        (λ c. walk_keeps (earlier ++ c ∷ []) (place + 1 + record_size rest) (record_size rest) rest))
    | inr shut ↦ subst (HasMore earlier) (sym (walk_closed reader earlier place gate rest shut)) (none_more earlier place)
  ]

  -- a write at a place, done in part, leaves what is before the place
  torn_front : (front tail c : List ℕ) (n : ℕ) → Torn (length front) n (front ++ tail) c → c ≡ front ++ drop (length front) c
  torn_front front tail c n torn =
      let p = length front in
      let long : min p (length (front ++ tail)) ≡ p = omega (arith, length-append front tail) in
      let is : take p c ≡ front = ap (λ k. take k c) (sym long) ∙ torn.before ∙ ap (λ k. take k (front ++ tail)) long ∙ take_at front tail p refl in
      sym (take-append-drop p c) ∙ ap (λ l. l ++ drop p c) is

  -- the records before the gate are there, with more after them or not
  torn_keeps : (front tail c : List ℕ) (commits : List C) → AreRecords reader front commits → walk reader [] 0 0 (front ++ tail) ≡ record { commits = commits; gate = length front }
      → Torn (length front) 1 (front ++ tail) c → (rest : List ℕ) → c ≡ front ++ rest → HasMore commits (walk reader [] 0 0 c)
  torn_keeps front [] c commits records found torn [] is = subst (HasMore commits) (sym (ap (walk reader [] 0 0) is ∙ found)) (none_more commits (length front))
  torn_keeps front (t ∷ tail) c commits records found torn [] is = absurd (omega (arith, torn.no_shorter, ap length is, length-append front (t ∷ tail), length-append front []))
  torn_keeps front tail c commits records found torn (g ∷ rest) is =
      subst (HasMore commits) (sym (ap (walk reader [] 0 0) is ∙ records g rest)) (walk_keeps commits (length front) 0 (g ∷ rest))

  -- a write of the gate byte loses no whole record, whatever is left of it
  pub torn_commits : (file c : List ℕ) → Torn (gate_of reader file) 1 file c → (more : List C) × (file_commits reader c ≡ file_commits reader file ++ more)
  torn_commits file c torn =
      let p = parts_of reader file in
      let there : gate_of reader file ≡ length p.front = ap (λ (w : Walk C). w.gate) p.found in
      let are : file_commits reader file ≡ p.commits = ap (λ (w : Walk C). w.commits) p.found in
      let same : Torn (length p.front) 1 (p.front ++ p.tail) c = subst (λ f. Torn (length p.front) 1 f c) p.file_is (subst (λ k. Torn k 1 file c) there torn) in
      let has = torn_keeps p.front p.tail c p.commits p.records (sym (ap (walk reader [] 0 0) p.file_is) ∙ p.found) same (drop (length p.front) c) (torn_front p.front p.tail c 1 same) in
      (has.0, has.1 ∙ ap (λ l. l ++ has.0) (sym are))

  -- an image that stays
  pub left_as_is : (file : List ℕ) → IsLeftByRecovery reader file file
  left_as_is file = record {
    foreign = λ is. refl;
    closed = λ is. refl;
    elsewhere = torn_none (gate_of reader file) 1 file;
    commits = ([], sym (append-nil (file_commits reader file)));
    journal = λ kept pending is. is;
  }

  -- one in which the gate is written, if it isn't foreign
  pub left_torn : (file c : List ℕ) → (IsForeign reader file → ⊥) → get_or file (gate_of reader file) 1 ≢ 0 → Torn (gate_of reader file) 1 file c → IsLeftByRecovery reader file c
  left_torn file c not_foreign not_closed torn = record {
    foreign = λ is. absurd (not_foreign is);
    closed = λ is. absurd (not_closed is);
    elsewhere = torn;
    commits = torn_commits file c torn;
    journal = λ kept pending is. close_torn reader kept pending file c is not_closed torn;
  }

  module _ {D : Type 0} (images : D → List ℕ → Type 0) (moment : D → ℕ) (images_since : D → ℕ → List ℕ → Type 0) (old : D) where
    -- each image comes from one before
    abbrev pub FromBefore : List ℕ → Type 0
    FromBefore = ComesFrom (IsLeftByRecovery reader) (images old)

    -- nothing was written
    pub from_itself : (now : D) → LeavesOnly moment images_since old now (images old) → LeavesOnly moment images_since old now FromBefore
    from_itself now run = weaker moment images_since old now (images old) FromBefore run (λ c left. (c, left, left_as_is c))

    -- the gate was written
    pub from_file : (mid now : D) (file : List ℕ) → images old file → LeavesOnly moment images_since old mid (images old)
        → LeavesOnly moment images_since mid now (IsLeftByRecovery reader file) → LeavesOnly moment images_since old now FromBefore
    from_file mid now file image run then =
        joined moment images_since old mid now (images old) (IsLeftByRecovery reader file) FromBefore run then
        (λ c left. (c, left, left_as_is c)) (λ c is. (file, image, is))

    -- so each is an image of the same journal
    pub of_journal : (now : D) (commits : List C) (pending : Option C) → ((c : List ℕ) → images old c → IsJournal reader commits pending c)
        → LeavesOnly moment images_since old now FromBefore → LeavesOnly moment images_since old now (IsJournal reader commits pending)
    of_journal now commits pending all run =
        weaker moment images_since old now FromBefore (IsJournal reader commits pending) run (λ c from. from.2.journal commits pending (all from.0 from.1))
