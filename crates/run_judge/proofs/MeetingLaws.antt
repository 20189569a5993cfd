-- Of each vertex the last transaction and the programs since then are enough: what is kept goes on with each request,
-- and says whether the next one is ordered with all that it meets.
-- Used by `first_fault`, `meet_work` and MeetingSteps.
use Rattle.std.proofs.Common.{◌≡◌, ℕ, Bool, true, false, not, ◌||◌, ◌&&◌, cond, eqb, IsTrue, List, [], ◌∷◌, ◌++◌, Option, Some, None, ◌⊎◌, inl, inr, refl, sym, ap, ◌∙◌, subst}
use Rattle.std.specs.Prelude.{◌↔◌, MatchOption, nat_eq}
use Rattle.std.proofs.lemmas.Bool.{both_ways, cases_Bool, eqb-true, eq-eqb, or_cases, or_left, or_right}
use Rattle.std.proofs.lemmas.Option.{same_Some}
use Rattle.weave_data.specs.declared.name.Name.{Name}
use Rattle.graph_ops.specs.Mentions.{is_among}
use Rattle.graph_ops.specs.PlainGraph.{PlainGraph}
use Rattle.program_defs.specs.declared.script.Script.{Script}
use Rattle.program_defs.specs.declared.script.Work.{Work}
use Rattle.program_defs.specs.Works.{is_change}
use Rattle.report_rules.specs.declared.report.Report.{Report}
use Rattle.report_rules.specs.RightReport.{IsListedInOrder}
use Rattle.report_rules.specs.Lookups.{RequestPrecedes, given_pairs, is_in, stamp_at}
use Rattle.report_rules.specs.Meetings.{RequestIsAt, is_transaction}
use Rattle.report_rules.proofs.Precedence.{IsDecided}
use Rattle.order_witness.specs.Begun.{request_precedes}
use Rattle.order_witness.proofs.BegunLaws.{AreClosed, trans}
use Rattle.order_witness.proofs.Printing.{all_at}
use Rattle.order_witness.proofs.Testing.{test_of, way_of}
use Rattle.run_judge.specs.declared.vertices.Unordered.{Unordered}
use Rattle.run_judge.specs.declared.vertices.Vertices.{Vertices}
use Rattle.run_judge.specs.Meetings.{MeetUnordered}
use Rattle.run_judge.specs.Promises.{IsOrderedWhereMet}
use Rattle.run_judge.specs.Vertices.{AreKeptAtAll, IsKeptAt, IsComparedAt, IsComparison, IsNotedAt, IsOn, last_transaction, later_programs}

-- what doesn't hold is false
pub not_so : (b : Bool) → IsTrue (not b) → b ≡ false
not_so true h = sym h
not_so false h = refl

-- Lists with one number more

in_front : (e : ℕ) (xs : List ℕ) (r : ℕ) → IsTrue (is_in e xs) → IsTrue (is_in e (xs ++ r ∷ []))
in_front e [] r h = cc
in_front e (x ∷ xs) r h = elim (or_cases (nat_eq e x) _ h) [ inl here ↦ or_left _ _ here | inr later ↦ or_right (nat_eq e x) _ (in_front e xs r later) ]

at_end : (xs : List ℕ) (r : ℕ) → IsTrue (is_in r (xs ++ r ∷ []))
at_end [] r = or_left _ _ (eq-eqb r r refl)
at_end (x ∷ xs) r = or_right (nat_eq r x) _ (at_end xs r)

front_or_end : (e : ℕ) (xs : List ℕ) (r : ℕ) → IsTrue (is_in e (xs ++ r ∷ [])) → IsTrue (is_in e xs) ⊎ (e ≡ r)
front_or_end e [] r h = elim (or_cases (nat_eq e r) _ h) [ inl here ↦ inr (eqb-true e r here) | inr none ↦ absurd (both_ways false refl none) ]
front_or_end e (x ∷ xs) r h =
    elim (or_cases (nat_eq e x) _ h) [
      | inl here ↦ inl (or_left _ _ here)
      | inr later ↦ elim (front_or_end e xs r later) [ inl front ↦ inl (or_right (nat_eq e x) _ front) | inr last ↦ inr last ]
    ]

module _ (decided : IsDecided) (all_closed : AreClosed) (script : Script) (report : Report) where
  -- what the test says precedes
  pub precedes_so : (a b : ℕ) → IsTrue (request_precedes report a b) → RequestPrecedes report a b
  precedes_so a b h = way_of decided (given_pairs report) (stamp_at report a) (stamp_at report b) h

  so_precedes : (a b : ℕ) → RequestPrecedes report a b → IsTrue (request_precedes report a b)
  so_precedes a b h = test_of decided (given_pairs report) (stamp_at report a) (stamp_at report b) h

  through : (a b c : ℕ) → RequestPrecedes report a b → RequestPrecedes report b c → RequestPrecedes report a c
  through a b c g h = precedes_so a c (trans report all_closed a b c (so_precedes a b g) (so_precedes b c h))

  -- before the first request nothing is kept
  pub none_kept : (vertices : Vertices) → ((v : Name) → last_transaction vertices v ≡ None) → ((v : Name) → later_programs vertices v ≡ []) → AreKeptAtAll script report [] vertices
  none_kept vertices no_last no_since v = record {
    last_is = λ t is. absurd (none_some t (sym (no_last v) ∙ is));
    since_are = λ p there. absurd (both_ways _ (ap (is_in p) (no_since v)) there);
    others = λ e there. absurd (both_ways false refl there);
  }
    where
      none_some : (x : ℕ) → ¬ (None ≡ Some x)
      none_some x e = cc

  module _ (r : ℕ) (before : List ℕ) (old : Vertices) (kept : AreKeptAtAll script report before old) (changes : Bool) (is : is_transaction script r ≡ changes) where
    -- all that is kept of these vertices precedes r
    abbrev pub AllPrecede : Type 0
    AllPrecede = (v : Name) (e : ℕ) → RequestIsAt script report v r → IsComparedAt old v changes e → RequestPrecedes report e r

    -- a request at a vertex of r that one of them changes precedes r, if all that is kept does
    met_precedes : AllPrecede → (v : Name) (e : ℕ) → IsTrue (is_in e before) → RequestIsAt script report v e → RequestIsAt script report v r → IsTrue (is_transaction script e || changes) → RequestPrecedes report e r
    met_precedes all v e there at_e at_r one =
        elim ((kept v).others e there at_e) [
          | inl last ↦ all v e at_r (inl last)
          | inr rest ↦ elim rest [
            | inl since ↦ all v e at_r (inr (
              elim (or_cases (is_transaction script e) changes one) [
                | inl change ↦ absurd (both_ways _ ((kept v).since_are e since).1 change)
                | inr so ↦ so
              ],
              since,
            ))
            | inr through_last ↦ through e through_last.0 r through_last.2 (all v through_last.0 at_r (inl through_last.1))
          ]
        ]

    -- so r is ordered with each request that it meets
    pub ordered : AllPrecede → IsOrderedWhereMet script report before r
    ordered all v e there m =
        inl (met_precedes all v e there m.first_is_there m.second_is_there (subst (λ b. IsTrue (is_transaction script e || b)) is m.one_changes))

    -- one that is kept and doesn't precede r meets it without precedence
    pub unordered : IsTrue (not (is_in r before)) → IsTrue (is_in r report.order) → ((e : ℕ) → IsTrue (is_in e before) → IsTrue (is_in e report.order)) → IsListedInOrder script report before r → (v : Name) (e : ℕ) → RequestIsAt script report v r → IsComparedAt old v changes e → request_precedes report e r ≡ false → IsTrue (is_in e before) × MeetUnordered script report v e r
    unordered new listed all_listed in_order v e at_r compared fails =
        let there : IsTrue (is_in e before) × RequestIsAt script report v e × IsTrue (is_transaction script e || changes) =
        elim compared [
          | inl last ↦ (let found = (kept v).last_is e last in (found.0, found.2, or_left (is_transaction script e) changes found.1))
          | inr since ↦ (let found = (kept v).since_are e since.1 in (found.0, found.2, or_right (is_transaction script e) changes since.0))
        ] in (
          there.0,
          record {
            meet = record {
              different = λ same. both_ways _ (not_so (is_in r before) new) (subst (λ n. IsTrue (is_in n before)) same there.0);
              first_is_listed = all_listed e there.0;
              second_is_listed = listed;
              one_changes = subst (λ b. IsTrue (is_transaction script e || b)) (sym is) there.2;
              first_is_there = there.1;
              second_is_there = at_r;
            };
            not_first = λ way. both_ways _ fails (so_precedes e r way);
            not_second = all_at (λ earlier. ¬ RequestPrecedes report r earlier) before e in_order.0.1 there.0;
          },
        )

    -- What is kept with r

    module _ (all : AllPrecede) (next : Vertices) (At : Name → Type 0) (at : (v : Name) → At v ↔ RequestIsAt script report v r) (noted : (v : Name) → IsNotedAt old next v (At v) changes r) where
      last_changed : (v : Name) → changes ≡ true → last_transaction next v ≡ cond changes (Some r) (last_transaction old v) → last_transaction next v ≡ Some r
      last_changed v so h = h ∙ ap (λ b. cond b (Some r) (last_transaction old v)) so

      last_same : (v : Name) → changes ≡ false → last_transaction next v ≡ cond changes (Some r) (last_transaction old v) → last_transaction next v ≡ last_transaction old v
      last_same v so h = h ∙ ap (λ b. cond b (Some r) (last_transaction old v)) so

      -- a transaction at the vertex
      kept_changed : (v : Name) → changes ≡ true → At v → last_transaction next v ≡ Some r → ((e : ℕ) → is_in e (later_programs next v) ≡ false) → IsKeptAt script report (before ++ r ∷ []) v (last_transaction next v) (later_programs next v)
      kept_changed v so here last none = record {
        last_is = λ t h.
            let same : t ≡ r = sym (same_Some r t (sym last ∙ h)) in
            (subst (λ n. IsTrue (is_in n (before ++ r ∷ []))) (sym same) (at_end before r), ap (is_transaction script) same ∙ is ∙ so, subst (RequestIsAt script report v) (sym same) ((at v).0 here));
        since_are = λ p there. absurd (both_ways _ (none p) there);
        others = λ e there at_e. elim (front_or_end e before r there) [
          | inr same ↦ inl (last ∙ ap Some (sym same))
          | inl front ↦ inr (inr (r, last, met_precedes all v e front at_e ((at v).0 here) (or_right (is_transaction script e) changes so)))
        ];
      }

      -- what is the same, and r perhaps since then
      kept_on : (v : Name) → last_transaction next v ≡ last_transaction old v → ((e : ℕ) → IsTrue (is_in e (later_programs old v)) → IsTrue (is_in e (later_programs next v)))
          → ((e : ℕ) → IsTrue (is_in e (later_programs next v)) → IsTrue (is_in e (later_programs old v)) ⊎ ((e ≡ r) × (changes ≡ false) × At v))
          → (At v → IsTrue (is_in r (later_programs next v)))
          → IsKeptAt script report (before ++ r ∷ []) v (last_transaction next v) (later_programs next v)
      kept_on v last on back here = record {
        last_is = λ t h. let found = (kept v).last_is t (sym last ∙ h) in (in_front t before r found.0, found.1, found.2);
        since_are = λ p there. elim (back p there) [
          | inl was ↦ (let found = (kept v).since_are p was in (in_front p before r found.0, found.1, found.2))
          | inr new ↦ (subst (λ n. IsTrue (is_in n (before ++ r ∷ []))) (sym new.0) (at_end before r), ap (is_transaction script) new.0 ∙ is ∙ new.1, subst (RequestIsAt script report v) (sym new.0) ((at v).0 new.2))
        ];
        others = λ e there at_e. elim (front_or_end e before r there) [
          | inr same ↦ inr (inl (subst (λ n. IsTrue (is_in n (later_programs next v))) (sym same) (here ((at v).1 (subst (RequestIsAt script report v) same at_e)))))
          | inl front ↦ elim ((kept v).others e front at_e) [
            | inl was ↦ inl (last ∙ was)
            | inr rest ↦ elim rest [
              | inl since ↦ inr (inl (on e since))
              | inr found ↦ inr (inr (found.0, last ∙ found.1, found.2))
            ]
          ]
        ];
      }

      kept_there : (v : Name) → At v → last_transaction next v ≡ cond changes (Some r) (last_transaction old v) → ((e : ℕ) → is_in e (later_programs next v) ≡ (not changes && (eqb e r || is_in e (later_programs old v)))) → IsKeptAt script report (before ++ r ∷ []) v (last_transaction next v) (later_programs next v)
      kept_there v here last since =
          elim (cases_Bool changes) [
            | inl so ↦ kept_changed v so here (last_changed v so last) (λ e. since e ∙ ap (λ b. not b && (eqb e r || is_in e (later_programs old v))) so)
            | inr so ↦
                let is_since : (e : ℕ) → is_in e (later_programs next v) ≡ (eqb e r || is_in e (later_programs old v)) = λ e. since e ∙ ap (λ b. not b && (eqb e r || is_in e (later_programs old v))) so in
                kept_on v (last_same v so last)
                (λ e was. is_since e ∙ or_right (eqb e r) _ was)
                (λ e now. elim (or_cases (eqb e r) _ (sym (is_since e) ∙ now)) [ inl same ↦ inr (eqb-true e r same, so, here) | inr was ↦ inl was ])
                (λ _. is_since r ∙ or_left _ _ (eq-eqb r r refl))
          ]

      -- of each vertex it is kept what has to be
      pub kept_more : AreKeptAtAll script report (before ++ r ∷ []) next
      kept_more v =
          elim (noted v) [
            | inl there ↦ kept_there v there.0 there.1 there.2
            | inr not_there ↦ kept_on v not_there.1 (λ e was. not_there.2 e ∙ was) (λ e now. inl (sym (not_there.2 e) ∙ now)) (λ here. absurd (not_there.0 here))
          ]

-- what is noted at the vertices of work
pub noted_so : (old new : Vertices) (v : Name) (names : List Name) (There : Type 0) (changes : Bool) (r : ℕ)
    → IsTrue (is_among names v) ↔ There
    → last_transaction new v ≡ cond (changes && is_among names v) (Some r) (last_transaction old v)
    → ((e : ℕ) → is_in e (later_programs new v) ≡ cond (is_among names v) (not changes && (eqb e r || is_in e (later_programs old v))) (is_in e (later_programs old v)))
    → IsNotedAt old new v There changes r
noted_so old new v names There changes r both last since =
    elim (cases_Bool (is_among names v)) [
      | inl is ↦ inl (
        both.0 is,
        last ∙ ap (λ (b : Bool). cond (changes && b) (Some r) (last_transaction old v)) is ∙ ap (λ (b : Bool). cond b (Some r) (last_transaction old v)) (and_true changes),
        λ e. since e ∙ ap (λ (b : Bool). cond b (not changes && (eqb e r || is_in e (later_programs old v))) (is_in e (later_programs old v))) is,
      )
      | inr none ↦ inr (
        λ there. both_ways _ none (both.1 there),
        last ∙ ap (λ (b : Bool). cond (changes && b) (Some r) (last_transaction old v)) none ∙ ap (λ (b : Bool). cond b (Some r) (last_transaction old v)) (and_false changes),
        λ e. since e ∙ ap (λ (b : Bool). cond b (not changes && (eqb e r || is_in e (later_programs old v))) (is_in e (later_programs old v))) none,
      )
    ]
  where
    and_true : (b : Bool) → (b && true) ≡ b
    and_true true = refl
    and_true false = refl

    and_false : (b : Bool) → (b && false) ≡ false
    and_false true = refl
    and_false false = refl

-- what a comparison at these vertices finds
abbrev pub IsComparisonAt : Report → Vertices → List Name → Bool → ℕ → Option Unordered → Type 0
IsComparisonAt report vertices names changes r found =
    MatchOption found ((v : Name) (e : ℕ) → IsTrue (is_among names v) → IsComparedAt vertices v changes e → IsTrue (request_precedes report e r))
    (λ u. IsTrue (is_among names u.vertex) × IsComparedAt vertices u.vertex changes u.earlier × (request_precedes report u.earlier r ≡ false))

-- what a comparison at the vertices of work says
pub comparison_so : (report : Report) (graph : PlainGraph) (vertices : Vertices) (work : Work) (r : ℕ) (names : List Name) (changes : Bool) → changes ≡ is_change work → ((v : Name) → IsTrue (is_among names v) ↔ IsOn graph v work) → (found : Option Unordered)
    → IsComparisonAt report vertices names changes r found → IsComparison report graph vertices work r found
comparison_so report graph vertices work r names changes same on None h = λ v e there compared.
    h v e ((on v).1 there) (subst (λ b. IsComparedAt vertices v b e) (sym same) compared)
comparison_so report graph vertices work r names changes same on (Some found) h =
    ((on found.vertex).0 h.0, subst (λ b. IsComparedAt vertices found.vertex b found.earlier) same h.1, h.2)
