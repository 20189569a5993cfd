-- The gate that a recovery closes.
-- Used by `close_gate`, KeptSteps and LeftImages.
use Rattle.std.proofs.Common.{◌≡◌, ◌≢◌, inl, inr, ℕ, zero, suc, ◌+◌, ◌-◌, ◌<◌, ◌≤◌, true, false, List, [], ◌∷◌, ◌++◌, length, take, drop, replicate, get_or, nat_lt, if◌then◌else◌, option_map, IfSome, Option, None, Some, refl, sym, ◌∙◌, ap, subst, arith, append_assoc, length-append, length-take, length-drop, take-append-drop}
use Rattle.std.specs.Int.{w32, from_be_bytes}
use Rattle.std.proofs.lemmas.Bool.{cases_eq, ltb-true, cases_Bool}
use Rattle.std.proofs.lemmas.List.{take_all, drop_all, append-nil, get_or_at, get_or_past}
use Rattle.weave_io.specs.Told.{ToldBytes}
use Rattle.store_journal.specs.Disk.{Torn, ImagesFollow, AddsNone, Only, IsSynced, Elapses, LeavesOnly, written_at}
use Rattle.store_journal.specs.Journal.{Walk, framed, onward, sized, record_size, whole, walk, file_commits, gate_of}
use Rattle.store_journal.specs.Standing.{AreRecords, IsClosedJournal, IsJournal, IsAtRest}
use Rattle.store_journal.proofs.Walking.{walk_closed, walk_to_gate, records_sized, one_record_more, no_records}
use Rattle.store_journal.proofs.Moments.{started, goes_on}
use Rattle.store_journal.proofs.Adding.{if_told}
use Rattle.store_journal.proofs.Tearing.{written_gate}
use Rattle.store_journal.proofs.Forms.{short_walk, open_torn}

module _ {C : Type 0} (reader : List C → List ℕ → Option C) where
  -- a file is its whole records and what follows them
  pub record Parts (file : List ℕ) : Type 0 where
    pub front : List ℕ
    pub tail : List ℕ
    pub commits : List C
    pub file_is : file ≡ front ++ tail
    pub found : walk reader [] 0 0 file ≡ record { commits = commits; gate = length front }
    pub records : AreRecords reader front commits

  none_some : (next : C) {X : Type 0} → None ≡ Some next → X
  none_some next e = absurd cc

  sized_none : (earlier : List C) (size : ℕ) (more : List ℕ) → nat_lt size (length more) ≡ false → sized reader earlier size more ≡ None
  sized_none earlier size more long = ap (λ t. if t then reader earlier (take size more) else None) long

  sized_some : (earlier : List C) (size : ℕ) (more : List ℕ) → nat_lt size (length more) ≡ true → sized reader earlier size more ≡ reader earlier (take size more)
  sized_some earlier size more short = ap (λ t. if t then reader earlier (take size more) else None) short

  stops : (front rest : List ℕ) (commits : List C) → AreRecords reader front commits → walk reader [] 0 0 (front ++ rest) ≡ record { commits = commits; gate = length front } → Parts (front ++ rest)
  stops front rest commits records found = record { front = front; tail = rest; commits = commits; file_is = refl; found = found; records = records }

  after_head : (head tail : List ℕ) (now : List C) → AreRecords reader head now → 0 < length tail → walk reader [] 0 0 (head ++ tail) ≡ walk reader now (length head) 0 tail
  after_head head [] now are some = absurd (omega arith)
  after_head head (g ∷ tail) now are some = are g tail

  -- what is known of shorter ends
  abbrev Shorter : ℕ → Type 0
  Shorter n = (front rest : List ℕ) (commits : List C) → length rest ≤ n → AreRecords reader front commits → walk reader [] 0 0 (front ++ rest) ≡ walk reader commits (length front) 0 rest → Parts (front ++ rest)

  record_on : (n : ℕ) → Shorter n → (front : List ℕ) (commits : List C) → AreRecords reader front commits → (a b c d : ℕ) (more : List ℕ) (next : C) → length more ≤ n
      → sized reader commits (from_be_bytes w32 (a ∷ b ∷ c ∷ d ∷ [])) more ≡ Some next → Parts (front ++ 1 ∷ a ∷ b ∷ c ∷ d ∷ more)
  record_on n again front commits records a b c d more next within is =
      let size = from_be_bytes w32 (a ∷ b ∷ c ∷ d ∷ []) in
      elim (cases_Bool (nat_lt size (length more))) [
        | inl short ↦
            let fits : size < length more = ltb-true _ _ short in
            let payload = take size more in
            let tail = drop size more in
            let length_is : size ≡ length payload = omega (arith, fits, length-take size more) in
            let reads : reader commits payload ≡ Some next = sym (sized_some commits size more short) ∙ is in
            let head = front ++ 1 ∷ a ∷ b ∷ c ∷ d ∷ payload in
            let more_records = records_sized reader front commits next a b c d payload records length_is reads in
            let split : head ++ tail ≡ front ++ 1 ∷ a ∷ b ∷ c ∷ d ∷ more = append_assoc front (1 ∷ a ∷ b ∷ c ∷ d ∷ payload) tail ∙ ap (λ l. front ++ 1 ∷ a ∷ b ∷ c ∷ d ∷ l) (take-append-drop size more) in
            subst Parts split (again head tail (commits ++ next ∷ []) (omega (arith, length-drop size more, within)) more_records (after_head head tail (commits ++ next ∷ []) more_records (omega (arith, fits, length-drop size more))))
        | inr long ↦ none_some next (sym (sized_none commits size more long) ∙ is)
      ]

  opened : (n : ℕ) → Shorter n → (front : List ℕ) (commits : List C) → AreRecords reader front commits → (bytes : List ℕ) → length bytes ≤ n → (o : Option C) → whole reader commits bytes ≡ o → Parts (front ++ 1 ∷ bytes)
  opened n again front commits records bytes within None is =
      stops front (1 ∷ bytes) commits records (records 1 bytes ∙ ap (λ w. onward w (record { commits = commits; gate = length front }) (λ c. walk reader (commits ++ c ∷ []) (length front + 1 + record_size bytes) (record_size bytes) bytes)) is)
  opened n again front commits records [] within (Some next) is = none_some next is
  opened n again front commits records (a ∷ []) within (Some next) is = none_some next is
  opened n again front commits records (a ∷ b ∷ []) within (Some next) is = none_some next is
  opened n again front commits records (a ∷ b ∷ c ∷ []) within (Some next) is = none_some next is
  opened n again front commits records (a ∷ b ∷ c ∷ d ∷ more) within (Some next) is = record_on n again front commits records a b c d more next (omega arith) is

  parts_from : (n : ℕ) → Shorter n
  parts_from n front [] commits long records same = record { front = front; tail = []; commits = commits; file_is = refl; found = same; records = records }
  parts_from zero front (gate ∷ bytes) commits long records same = absurd (omega arith)
  parts_from (suc n) front (gate ∷ bytes) commits long records same = elim (cases_eq gate 1) [
    | inl is_open ↦ subst (λ g. Parts (front ++ g ∷ bytes)) (sym is_open) (opened n (parts_from n) front commits records bytes (omega arith) (whole reader commits bytes) refl)
    | inr shut ↦ stops front (gate ∷ bytes) commits records (same ∙ walk_closed reader commits (length front) gate bytes shut)
  ]

  -- each file is so
  pub parts_of : (file : List ℕ) → Parts file
  parts_of file = parts_from (length file) [] file [] (omega arith) (no_records reader) refl

  -- the closed gate is written: the commits are the same, and all that was after them is after a closed gate
  pub close_written : (file : List ℕ) → IsClosedJournal reader (file_commits reader file) (gate_of reader file) (written_at (gate_of reader file) (0 ∷ []) file)
  close_written file =
      let p = parts_of file in
      let found : walk reader [] 0 0 file ≡ record { commits = p.commits; gate = length p.front } = p.found in
      subst (λ (w : Walk C). IsClosedJournal reader w.commits w.gate (written_at w.gate (0 ∷ []) file)) (sym found)
      (subst (λ f. IsClosedJournal reader p.commits (length p.front) (written_at (length p.front) (0 ∷ []) f)) (sym p.file_is) (on p.front p.commits p.records p.tail))
    where
      on : (front : List ℕ) (commits : List C) → AreRecords reader front commits → (tail : List ℕ) → IsClosedJournal reader commits (length front) (written_at (length front) (0 ∷ []) (front ++ tail))
      on front commits records [] =
          let none : length front - length front ≡ 0 = omega arith in
          let same : written_at (length front) (0 ∷ []) (front ++ []) ≡ front ++ 0 ∷ [] =
          ap (λ f. written_at (length front) (0 ∷ []) f) (append-nil front)
          ∙ ap (λ k. take (length front) front ++ (replicate k 0 ++ (0 ∷ drop (length front + 1) front))) none
          ∙ ap (λ l. l ++ 0 ∷ drop (length front + 1) front) (take_all (length front) front (omega arith))
          ∙ ap (λ l. front ++ 0 ∷ l) (drop_all (length front + 1) front (omega arith)) in
          record { front = front; tail = []; file_is = same; place = refl; records = records }
      on front commits records (gate ∷ tail) = record { front = front; tail = tail; file_is = written_gate front gate tail 0; place = refl; records = records }

  -- a gate byte that is 0 is there already
  pub close_there : (file : List ℕ) → get_or file (gate_of reader file) 1 ≡ 0 → IsClosedJournal reader (file_commits reader file) (gate_of reader file) file
  close_there file =
      let p = parts_of file in
      let found : walk reader [] 0 0 file ≡ record { commits = p.commits; gate = length p.front } = p.found in
      subst (λ (w : Walk C). get_or file w.gate 1 ≡ 0 → IsClosedJournal reader w.commits w.gate file) (sym found)
      (subst (λ f. get_or f (length p.front) 1 ≡ 0 → IsClosedJournal reader p.commits (length p.front) f) (sym p.file_is) (on p.front p.commits p.records p.tail))
    where
      on : (front : List ℕ) (commits : List C) → AreRecords reader front commits → (tail : List ℕ) → get_or (front ++ tail) (length front) 1 ≡ 0 → IsClosedJournal reader commits (length front) (front ++ tail)
      on front commits records [] zero_is = absurd (omega (arith, zero_is, get_or_past (front ++ []) (length front) 1 (omega (arith, length-append front []))))
      on front commits records (gate ∷ tail) zero_is =
          let gate_is : gate ≡ 0 = sym (get_or_at front gate tail 1 (length front) refl) ∙ zero_is in
          record { front = front; tail = tail; file_is = ap (λ g. front ++ g ∷ tail) gate_is; place = refl; records = records }

  -- a write of the closed gate that is done in part leaves an image of the same journal: where the gate isn't 0, it has
  -- the whole record of the pending commit and a closed gate after it, or it is the whole file
  pub close_torn : (commits : List C) (pending : Option C) (file c : List ℕ) → IsJournal reader commits pending file → get_or file (gate_of reader file) 1 ≢ 0 → Torn (gate_of reader file) 1 file c → IsJournal reader commits pending c
  close_torn commits pending file c (inl unborn) not_closed torn =
      let at_start : gate_of reader file ≡ 0 = ap (λ (w : Walk C). w.gate) (short_walk reader file unborn.1) in
      inl (unborn.0, omega (arith, torn.no_longer, at_start, unborn.1))
  close_torn commits pending file c (inr (inl closed)) not_closed torn =
      let k = closed.1 in
      let there : gate_of reader file ≡ length k.front = ap (λ f. gate_of reader f) k.file_is ∙ ap (λ (w : Walk C). w.gate) (walk_to_gate reader k.front commits 0 k.tail k.records (omega arith)) in
      let is : get_or file (gate_of reader file) 1 ≡ 0 = (λ i. get_or (k.file_is i) (there i) 1) ∙ get_or_at k.front 0 k.tail 1 (length k.front) refl in
      absurd (not_closed is)
  close_torn commits pending file c (inr (inr staged)) not_closed torn =
      let s = staged.2 in
      elim (cases_eq s.gate 1) [
        | inl is_open ↦
            let head = s.front ++ 1 ∷ framed s.payload in
            let file_is : file ≡ head ++ 0 ∷ s.tail = s.file_is ∙ ap (λ g. s.front ++ g ∷ (framed s.payload ++ 0 ∷ s.tail)) is_open ∙ sym (append_assoc s.front (1 ∷ framed s.payload) (0 ∷ s.tail)) in
            let more = one_record_more reader s.front commits staged.0 s.payload s.records s.short s.reads in
            let there : gate_of reader file ≡ length head = ap (λ f. gate_of reader f) file_is ∙ ap (λ (w : Walk C). w.gate) (walk_to_gate reader head (commits ++ staged.0 ∷ []) 0 s.tail more (omega arith)) in
            absurd (not_closed ((λ i. get_or (file_is i) (there i) 1) ∙ get_or_at head 0 s.tail 1 (length head) refl))
        | inr shut ↦
            let there : gate_of reader file ≡ length s.front = ap (λ f. gate_of reader f) s.file_is ∙ ap (λ (w : Walk C). w.gate) (walk_to_gate reader s.front commits s.gate (framed s.payload ++ 0 ∷ s.tail) s.records shut) in
            inr (inr (staged.0, staged.1, open_torn reader commits staged.0 file c s (subst (λ k. Torn k 1 file c) there torn)))
      ]

module _ {D : Type 0} (images : D → List ℕ → Type 0) (moment : D → ℕ) (images_since : D → ℕ → List ℕ → Type 0)
    (since_now : (disk : D) (c : List ℕ) → images_since disk (moment disk) c → images disk c)
    (old : D) (file : List ℕ) (only : Only file (images old)) (P : List ℕ → Type 0) (here : P file) where
  -- nothing is written
  pub rests_still : LeavesOnly moment images_since old old P
  rests_still = started moment images_since old P (λ c left. subst P (sym (only c (since_now old c left))) here)

  module _ (gate : ℕ) (torn_has : (c : List ℕ) → Torn gate 1 file c → P c) where
    while_closed : (d1 : D) → ImagesFollow (Torn gate 1) (images old) (images d1) → (c : List ℕ) → images d1 c → P c
    while_closed d1 follows c left =
        let from = follows c left in
        torn_has c (subst (λ f. Torn gate 1 f c) (only from.0 from.1) from.2)

    -- while the gate is written
    pub closes : (d1 : D) → ImagesFollow (Torn gate 1) (images old) (images d1) → Elapses (moment old) (moment d1) (images_since old) (images_since d1) (images d1)
        → LeavesOnly moment images_since old d1 P
    closes d1 torn time = goes_on moment images_since old old d1 P (images d1) rests_still time (while_closed d1 torn)

    -- while it is synced
    pub closes_and_syncs : (d1 d2 : D) → ImagesFollow (Torn gate 1) (images old) (images d1) → Elapses (moment old) (moment d1) (images_since old) (images_since d1) (images d1)
        → AddsNone (images d1) (images d2) → Elapses (moment d1) (moment d2) (images_since d1) (images_since d2) (images d2)
        → LeavesOnly moment images_since old d2 P
    closes_and_syncs d1 d2 torn time none time2 =
        goes_on moment images_since old d1 d2 P (images d2) (closes d1 torn time) time2 (λ c left. while_closed d1 torn c (none c left))

module _ {C : Type 0} (reader : List C → List ℕ → Option C) where
  -- the gate is closed already
  pub is_closed_there : (told : ToldBytes) (images : List ℕ → Type 0) (file : List ℕ) (gate : ℕ) → IfSome told (λ f. f ≡ file) → IsSynced told images
      → gate ≡ gate_of reader file → get_or file gate 1 ≡ 0 → IsAtRest reader (file_commits reader file) gate told images
  is_closed_there None images file gate told synced place closed = tt
  is_closed_there (Some bytes) images file gate told synced place closed = (
    subst (IsClosedJournal reader (file_commits reader file) gate) (sym told)
        (subst (λ k. IsClosedJournal reader (file_commits reader file) k file) (sym place) (close_there reader file (subst (λ k. get_or file k 1 ≡ 0) place closed))),
    synced,
  )

  -- it is there already
  pub same_if_closed : (file : List ℕ) (gate : ℕ) → gate ≡ gate_of reader file → get_or file gate 1 ≡ 0 → written_at gate (0 ∷ []) file ≡ file
  same_if_closed file gate place is =
      let k : IsClosedJournal reader (file_commits reader file) gate file = subst (λ p. IsClosedJournal reader (file_commits reader file) p file) (sym place) (close_there reader file (subst (λ p. get_or file p 1 ≡ 0) place is)) in
      (λ i. written_at (sym k.place i) (0 ∷ []) (k.file_is i)) ∙ written_gate k.front 0 k.tail 0 ∙ sym k.file_is

  -- so the disk reads as before
  pub reads_same : (told : ToldBytes) (file : List ℕ) (gate : ℕ) → IfSome told (λ f. f ≡ file) → gate ≡ gate_of reader file → get_or file gate 1 ≡ 0
      → told ≡ option_map (written_at gate (0 ∷ [])) told
  reads_same None file gate read place is = refl
  reads_same (Some bytes) file gate read place is =
      ap Some (sym (subst (λ f. written_at gate (0 ∷ []) f ≡ f) (sym read) (same_if_closed file gate place is)))

  -- the gate was closed
  pub is_closed_now : (before now : ToldBytes) (images : List ℕ → Type 0) (file : List ℕ) (gate : ℕ) → IfSome before (λ f. f ≡ file) → gate ≡ gate_of reader file
      → now ≡ option_map (written_at gate (0 ∷ [])) before → IsSynced now images → IsAtRest reader (file_commits reader file) gate now images
  is_closed_now None now images file gate told place is synced = subst (λ t. IsAtRest reader (file_commits reader file) gate t images) (sym is) tt
  is_closed_now (Some bytes) now images file gate told place is synced =
      let written = written_at gate (0 ∷ []) file in
      let seen_is : now ≡ Some written = is ∙ ap (λ f. Some (written_at gate (0 ∷ []) f)) told in
      subst (λ t. IsAtRest reader (file_commits reader file) gate t images) (sym seen_is)
      (subst (λ k. IsClosedJournal reader (file_commits reader file) k (written_at k (0 ∷ []) file)) (sym place) (close_written reader file), if_told (λ b. Only b images) now written seen_is synced)
