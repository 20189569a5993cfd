-- Rows of what precedes each request, request by request.
-- Used by `join_one_before`, `row_of` and `rows_of`.
use Rattle.std.proofs.Common.{◌≡◌, ℕ, zero, suc, ◌+◌, ◌-◌, ◌<◌, ◌≤◌, false, IsTrue, List, [], length, set, ◌⊎◌, inl, inr, refl, sym, ap, ◌∙◌, subst, arith, get_or-set_same, get_or-set_other}
use Rattle.std.specs.Prelude.{replicate}
use Rattle.std.proofs.lemmas.Bool.{both_ways, cases_eq, cases_lt, or_cases, or_left, leb-true, le-leb}
use Rattle.std.proofs.lemmas.List.{get_or_past}
use Rattle.report_rules.specs.Lookups.{is_in}
use Rattle.order_witness.specs.ByNumber.{list_at}
use Rattle.order_witness.specs.Heads.{item}
use Rattle.order_witness.specs.Preceding.{IsTransitive, LeadsBySteps, Test, leads_directly}
use Rattle.order_witness.specs.Preceding.LeadsBySteps.{Directly, Through}
use Rattle.order_witness.specs.Rows.{AreTurns, HadTurn}
use Rattle.run_judge.specs.declared.chains.Spot.{Spot}
use Rattle.run_judge.specs.Chains.{AreTurnChains, IsAtSpot, spot_at}
use Rattle.run_judge.specs.Rows.{AreTurnRows, IsJoined, IsPartOfRow, IsRow, is_counted}

zero_item : (n c : ℕ) → item (replicate n 0) c ≡ 0
zero_item zero c = get_or_past [] c 0 (omega arith)
zero_item (suc n) zero = refl
zero_item (suc n) (suc c) = zero_item n c

module _ (before : Test) (ends : ℕ → List ℕ) where
  abbrev Leads : ℕ → ℕ → Type 0
  Leads = LeadsBySteps (leads_directly before ends)

  -- the last step of a way
  last_step : (a b : ℕ) → Leads a b → IsTrue (leads_directly before ends a b) ⊎ ((d : ℕ) × Leads a d × IsTrue (leads_directly before ends d b))
  last_step _ _ (Directly a b h) = inl h
  last_step _ _ (Through a x b first then) =
      elim (last_step x b then) [
        | inl h ↦ inr (x, first, h)
        | inr more ↦ inr (more.0, Through a x more.0 first more.1, more.2)
      ]

  module _ (chains : List (List ℕ)) (spots : List Spot) (turns : List ℕ) (count : ℕ) (are : AreTurnChains before turns (length turns) chains spots) (in_turn : AreTurns (leads_directly before ends) turns count) where
    -- one of the first turns is a turn
    pub weaken : (n a : ℕ) → n ≤ length turns → HadTurn turns n a → HadTurn turns (length turns) a
    weaken n a most had = let within = had.within in record { j = had.j; within = omega (arith, most, within); event = had.event }

    -- what leads to one that had its turn had its turn
    had_before : (a b : ℕ) → Leads a b → HadTurn turns (length turns) b → HadTurn turns (length turns) a
    had_before _ _ (Directly a b h) had =
        let within = had.within in
        weaken had.j a (omega (arith, within)) (in_turn.after had.j a within (subst (λ r. IsTrue (leads_directly before ends a r)) (sym had.event) h))
    had_before _ _ (Through a x b first then) had = had_before a x first (had_before x b then had)

    -- what leads to one that had its turn is at its spot
    pub placed_before : (a b : ℕ) → Leads a b → HadTurn turns (length turns) b → IsAtSpot chains (spot_at spots a) a
    placed_before a b h had = are.placed a (had_before a b h had)

    -- a row of zeroes counts nothing
    pub part_starts : (b : ℕ) (row : List ℕ) → row ≡ replicate (length chains) 0 → (long : length row ≡ length chains) → IsPartOfRow Leads chains spots b row
    part_starts b row zeroes long =
        let none : (c : ℕ) → item row c ≡ 0 = λ c. ap (λ (xs : List ℕ). item xs c) zeroes ∙ zero_item (length chains) c in
        record {
          size = long;
          within = λ c. (let is = none c in omega (arith, is));
          sound = λ c k there less. absurd (let is = none c in omega (arith, is, less));
          closed = λ c k a there less h. absurd (let is = none c in omega (arith, is, less));
        }

    -- A row is joined with that of a request that leads to b, and with the requests of its chain up to it

    module _ (b : ℕ) (old other new : List ℕ) (chain m e : ℕ) (at_chain : chain < length chains) (some : 0 < m) (inside : m ≤ length (list_at chains chain)) (is : item (list_at chains chain) (m - 1) ≡ e) (leads : Leads e b) (row : IsRow Leads chains spots e other) (part : IsPartOfRow Leads chains spots b old) (joined : IsJoined old other new chain m) where
      -- no number becomes less
      pub grows : (c : ℕ) → item old c ≤ item new c
      grows c =
          elim (cases_lt c (length old)) [
            | inl below ↦ (joined.each c below).first
            | inr past ↦ (let none : item old c ≡ 0 = get_or_past old c 0 past in omega (arith, none))
          ]

      other_within : (c : ℕ) → item other c ≤ item new c
      other_within c =
          elim (cases_lt c (length old)) [
            | inl below ↦ (joined.each c below).second
            | inr past ↦
                let size = row.size in
                let its = part.size in
                let none : item other c ≡ 0 = get_or_past other c 0 (omega (arith, past, size, its)) in
                omega (arith, none)
          ]

      -- what was counted is
      pub stays : (a : ℕ) → IsTrue (is_counted spots old a) → IsTrue (is_counted spots new a)
      stays a h =
          let had = leb-true (spot_at spots a).place (item old (spot_at spots a).chain) h in
          let more = grows (spot_at spots a).chain in
          le-leb (spot_at spots a).place (item new (spot_at spots a).chain) (omega (arith, had, more))

      counted_before : (a : ℕ) → Leads a e → IsTrue (is_counted spots new a)
      counted_before a h =
          let had = leb-true (spot_at spots a).place (item other (spot_at spots a).chain) (row.all a h) in
          let more = other_within (spot_at spots a).chain in
          le-leb (spot_at spots a).place (item new (spot_at spots a).chain) (omega (arith, had, more))

      up_to_it : (k : ℕ) → k < m → (item (list_at chains chain) k ≡ e) ⊎ Leads (item (list_at chains chain) k) e
      up_to_it k less =
          elim (cases_eq k (m - 1)) [
            | inl last ↦ inl (ap (item (list_at chains chain)) last ∙ is)
            | inr earlier ↦
                let x : ℕ = item (list_at chains chain) k in
                let stamp : IsTrue (before x (item (list_at chains chain) (m - 1))) = are.rising chain k (m - 1) (omega (arith, less, earlier)) (omega (arith, some, inside)) in
                inr (Directly x e (or_left (before x e) _ (subst (λ n. IsTrue (before x n)) is stamp)))
          ]

      -- the place is counted
      pub has_place : m ≤ item new chain
      has_place = (joined.each chain (let size = part.size in omega (arith, at_chain, size))).counted refl

      -- and so is that request, if that is its place
      pub counted_itself : (spot_at spots e).chain ≡ chain → (spot_at spots e).place ≡ m → IsTrue (is_counted spots new e)
      counted_itself same place =
          let has = has_place in
          let at : item new (spot_at spots e).chain ≡ item new chain = ap (item new) same in
          le-leb (spot_at spots e).place (item new (spot_at spots e).chain) (omega (arith, has, place, at))

      chain_so : (c k : ℕ) → c ≡ chain → k < m → (item (list_at chains c) k ≡ e) ⊎ Leads (item (list_at chains c) k) e
      chain_so c k same less = subst (λ n. (item (list_at chains n) k ≡ e) ⊎ Leads (item (list_at chains n) k) e) (sym same) (up_to_it k less)

      -- what is counted: by the old row, or it is that request or leads to it
      from_where : (c k : ℕ) → c < length chains → k < item new c → (k < item old c) ⊎ ((item (list_at chains c) k ≡ e) ⊎ Leads (item (list_at chains c) k) e)
      from_where c k there less =
          elim ((joined.each c (let size = part.size in omega (arith, there, size))).only k less) [
            | inl was ↦ inl was
            | inr rest ↦ elim rest [
              | inl of_other ↦ inr (inr (row.sound c k there of_other))
              | inr up_to ↦ inr (chain_so c k up_to.0 up_to.1)
            ]
          ]

      most_within : (c : ℕ) → c < length old → item new c ≤ length (list_at chains c)
      most_within c below =
          elim (cases_lt 0 (item new c)) [
            | inr none ↦ omega (arith, none)
            | inl some_there ↦
                let last : ℕ = item new c - 1 in
                elim ((joined.each c below).only last (omega (arith, some_there))) [
                  | inl was ↦ (let most = part.within c in omega (arith, was, most, some_there))
                  | inr rest ↦ elim rest [
                    | inl of_other ↦ (let most = row.within c in omega (arith, of_other, most, some_there))
                    | inr up_to ↦
                        let less = up_to.1 in
                        let most : m ≤ length (list_at chains c) = subst (λ n. m ≤ length (list_at chains n)) (sym up_to.0) inside in
                        omega (arith, less, most, some_there)
                  ]
                ]
          ]

      -- a part of the row, with what is counted for that request, and that one
      pub joined_part : IsPartOfRow Leads chains spots b new
      joined_part = record {
        size = joined.size ∙ part.size;
        within = λ c. elim (cases_lt c (length old)) [
          | inl below ↦ most_within c below
          | inr past ↦ (let size = joined.size in let none : item new c ≡ 0 = get_or_past new c 0 (omega (arith, past, size)) in omega (arith, none))
        ];
        sound = λ c k there less. elim (from_where c k there less) [
          | inl was ↦ part.sound c k there was
          | inr rest ↦ elim rest [
            | inl same ↦ subst (λ x. Leads x b) (sym same) leads
            | inr on ↦ Through (item (list_at chains c) k) e b on leads
          ]
        ];
        closed = λ c k a there less h. elim (from_where c k there less) [
          | inl was ↦ stays a (part.closed c k a there was h)
          | inr rest ↦ elim rest [
            | inl same ↦ counted_before a (subst (Leads a) same h)
            | inr on ↦ counted_before a (Through a (item (list_at chains c) k) e h on)
          ]
        ];
      }

    -- A chain was passed up to a place

    -- if the request at a place of a chain isn't before b, none after it is
    pub stop_after : IsTransitive before → (b c next : ℕ) → (next < length (list_at chains c) → before (item (list_at chains c) next) b ≡ false) → (k : ℕ) → k < length (list_at chains c) → IsTrue (before (item (list_at chains c) k) b) → k < next
    stop_after transitive b c next stop k within holds =
        elim (cases_lt k next) [
          | inl less ↦ less
          | inr past ↦ elim (cases_eq k next) [
            | inl same ↦ absurd (both_ways _ (stop (omega (arith, same, within))) (subst (λ n. IsTrue (before (item (list_at chains c) n) b)) same holds))
            | inr later ↦
                absurd (both_ways _ (stop (omega (arith, past, within))) (transitive (item (list_at chains c) next) (item (list_at chains c) k) b (are.rising c next k (omega (arith, past, later)) within) holds))
          ]
        ]

    -- the requests before b in the chains so far are counted
    abbrev pub ArePassed : ℕ → List ℕ → ℕ → Type 0
    ArePassed b row upto = (c k : ℕ) → c < upto → k < length (list_at chains c) → IsTrue (before (item (list_at chains c) k) b) → k < item row c

    -- one chain more is passed
    pub passed_more : (b : ℕ) (old new : List ℕ) (chain next : ℕ) → ((c : ℕ) → item old c ≤ item new c) → next ≤ item new chain → ((k : ℕ) → k < length (list_at chains chain) → IsTrue (before (item (list_at chains chain) k) b) → k < next) → ArePassed b old chain → ArePassed b new (chain + 1)
    passed_more b old new chain next more has last so_far c k less within holds =
        elim (cases_eq c chain) [
          | inl same ↦
              let below : k < next = last k (subst (λ n. k < length (list_at chains n)) same within) (subst (λ n. IsTrue (before (item (list_at chains n) k) b)) same holds) in
              let at : item new c ≡ item new chain = ap (item new) same in
              omega (arith, below, has, at)
          | inr other ↦
              let below : k < item old c = so_far c k (omega (arith, less, other)) within holds in
              let stays = more c in
              omega (arith, below, stays)
        ]

    -- The whole row

    module _ (b : ℕ) (had : HadTurn turns (length turns) b) (row : List ℕ) (part : IsPartOfRow Leads chains spots b row) (by_pairs : (a : ℕ) → IsTrue (is_in a (ends b)) → IsTrue (is_counted spots row a)) (by_stamps : ArePassed b row (length chains)) where
      counted_direct : (d : ℕ) → IsTrue (leads_directly before ends d b) → IsTrue (is_counted spots row d)
      counted_direct d h =
          elim (or_cases (before d b) _ h) [
            | inr pair ↦ by_pairs d pair
            | inl stamp ↦
                let at = placed_before d b (Directly d b h) had in
                let some = at.some in
                let within = at.within in
                let below : (spot_at spots d).place - 1 < item row (spot_at spots d).chain = by_stamps (spot_at spots d).chain ((spot_at spots d).place - 1) at.there (omega (arith, some, within)) (subst (λ x. IsTrue (before x b)) (sym at.event) stamp) in
                le-leb (spot_at spots d).place (item row (spot_at spots d).chain) (omega (arith, some, below))
          ]

      -- what leads to b is counted
      pub row_whole : IsRow Leads chains spots b row
      row_whole = record {
        size = part.size;
        within = part.within;
        sound = part.sound;
        all = λ a h. elim (last_step a b h) [
          | inl step ↦ counted_direct a step
          | inr more ↦
              let d : ℕ = more.0 in
              let at = placed_before d b (Directly d b more.2) had in
              let some = at.some in
              let counted = leb-true (spot_at spots d).place (item row (spot_at spots d).chain) (counted_direct d more.2) in
              part.closed (spot_at spots d).chain ((spot_at spots d).place - 1) a at.there (omega (arith, some, counted)) (subst (Leads a) (sym at.event) more.1)
        ];
      }

    -- One turn more has its row

    -- the request of the next turn has its row too
    pub rows_more : (n : ℕ) (rows : List (List ℕ)) (row : List ℕ) → item turns n < length rows → AreTurnRows Leads chains spots turns n rows → IsRow Leads chains spots (item turns n) row → AreTurnRows Leads chains spots turns (n + 1) (set rows (item turns n) row)
    rows_more n rows row inside so_far here b had =
        elim (cases_eq b (item turns n)) [
          | inl same ↦
              subst (λ (xs : List ℕ). IsRow Leads chains spots b xs) (sym (ap (list_at (set rows (item turns n) row)) same ∙ get_or-set_same rows (item turns n) row [] inside))
              (subst (λ r. IsRow Leads chains spots r row) (sym same) here)
          | inr other ↦
              let within = had.within in
              let earlier : had.j < n = elim (cases_eq had.j n) [ inl at_n ↦ absurd (other (sym had.event ∙ ap (item turns) at_n)) | inr not_n ↦ omega (arith, within, not_n) ] in
              subst (λ (xs : List ℕ). IsRow Leads chains spots b xs) (sym (get_or-set_other rows (item turns n) b row [] other)) (so_far b (record { j = had.j; within = earlier; event = had.event }))
        ]
