-- There is one priced answer at most.
-- Used by OneAnswer and Proving.
use Rattle.std.proofs.Common.{◌≡◌, ℕ, Bool, true, false, refl, sym, ap, subst, ◌∙◌, List, [], ◌∷◌, reverse, Option, Some, None, IsTrue, arith, if◌then◌else◌}
use Rattle.std.specs.Cmp.Lexicographic.{slice_cmp}
use Rattle.std.specs.FinMap.{slice_cmp-IsAntisymmetric}
use Rattle.std.specs.Ordering.{is_le, ordering_reverse}
use Rattle.std.specs.declared.cmp.Ordering.{Ordering}
use Rattle.std.specs.declared.cmp.Ordering.TheVariants.{Less, Equal, Greater}
use Rattle.std.proofs.lemmas.Bool.{both_ways}
use Rattle.std.proofs.lemmas.Cmp.{nat_list_cmp_total, lists_total}
use Rattle.std.proofs.lemmas.List.{reverse-reverse}
use Rattle.std.proofs.lemmas.Option.{same_Some}
use Rattle.weave_data.specs.Names.{name_cmp, same_name, one_name}
use Rattle.weave_data.specs.declared.name.Name.{Name}
use Rattle.graph_ops.specs.PlainGraph.{PlainGraph}
use Rattle.graph_ops.proofs.Vertices.{same_name-refl}
use Rattle.program_defs.specs.declared.program.Bound.{Bound}
use Rattle.program_defs.specs.Labels.{listed_names}
use Rattle.program_defs.specs.PricedAnswer.{bound_at, AreLeastPrices, IsAnswerWalk, IsPricedAnswer}
use Rattle.program_defs.specs.Rising.{is_rising}
use Rattle.program_defs.proofs.Members.{name-equal}
use Rattle.program_defs.proofs.Certified.{listed-some, some-listed}
use Rattle.program_defs.proofs.BoundLists.{has-of-at, rising-first, rising-rest, less-not-same}

-- lists that come no later than each other are one
no-later-both : (xs ys : List Name) → IsTrue (is_le (slice_cmp name_cmp xs ys)) → IsTrue (is_le (slice_cmp name_cmp ys xs)) → xs ≡ ys
no-later-both xs ys a b = at (slice_cmp name_cmp xs ys) (slice_cmp name_cmp ys xs) refl refl a b
  where
    at : (o p : Ordering) → slice_cmp name_cmp xs ys ≡ o → slice_cmp name_cmp ys xs ≡ p → IsTrue (is_le o) → IsTrue (is_le p) → xs ≡ ys
    at Equal p e f g h = slice_cmp-IsAntisymmetric name-equal xs ys e
    at Less Equal e f g h = sym (slice_cmp-IsAntisymmetric name-equal ys xs f)
    at Less Less e f g h = less-both ((lists_total nat_list_cmp_total).antisymm xs ys)
      where
        less-both : slice_cmp name_cmp xs ys ≡ ordering_reverse (slice_cmp name_cmp ys xs) → xs ≡ ys
        less-both x = let z : Less ≡ Greater = sym e ∙ x ∙ ap ordering_reverse f in cc
    at Less Greater e f g h = cc
    at Greater p e f g h = cc

-- a name before all of some rising bounds has none
none-before : (v : Name) (bounds : List Bound) → is_rising (v ∷ listed_names bounds) ≡ true → bound_at bounds v ≡ None
none-before v bounds rising = at (bound_at bounds v) refl
  where
    at : (o : Option ℕ) → bound_at bounds v ≡ o → bound_at bounds v ≡ None
    at None e = e
    at (Some d) e =
        let less = rising-first v bounds rising v d (has-of-at bounds v d e) in
        absurd (both_ways (same_name v v) (less-not-same v v less) (same_name-refl v))

first-bound : (b : Bound) (rest : List Bound) → bound_at (b ∷ rest) b.vertex ≡ Some b.price
first-bound b rest = rw (same_name-refl b.vertex) refl

-- rising bounds that list the same prices are one
bounds-one : (xs ys : List Bound) → is_rising (listed_names xs) ≡ true → is_rising (listed_names ys) ≡ true → ((v : Name) → bound_at xs v ≡ bound_at ys v) → xs ≡ ys
bounds-one [] [] rx ry same = refl
bounds-one [] (y ∷ ys) rx ry same = let f = same y.vertex ∙ first-bound y ys in cc
bounds-one (x ∷ xs) [] rx ry same = let f = sym (same x.vertex) ∙ first-bound x xs in cc
bounds-one (x ∷ xs) (y ∷ ys) rx ry same =
    at (name_cmp x.vertex y.vertex) refl (bounds-one xs ys (rising-rest x xs rx) (rising-rest y ys ry))
  where
    -- x is before all of the others
    before : (a b : Bound) (us ws : List Bound) → is_rising (listed_names (b ∷ ws)) ≡ true → name_cmp a.vertex b.vertex ≡ Less → bound_at (a ∷ us) a.vertex ≡ bound_at (b ∷ ws) a.vertex → ⊥
    before a b us ws rising less alike =
        let none = none-before a.vertex (b ∷ ws) (rw less rising) in
        let f : Some a.price ≡ None = sym (first-bound a us) ∙ alike ∙ none in cc

    at : (o : Ordering) → name_cmp x.vertex y.vertex ≡ o → (((v : Name) → bound_at xs v ≡ bound_at ys v) → xs ≡ ys) → x ∷ xs ≡ y ∷ ys
    at Less e more = absurd (before x y xs ys ry e (same x.vertex))
    at Greater e more =
        let turned : name_cmp y.vertex x.vertex ≡ Less = nat_list_cmp_total.antisymm y.vertex x.vertex ∙ ap ordering_reverse e in
        absurd (before y x ys xs rx turned (sym (same y.vertex)))
    at Equal e more =
        let vertex : x.vertex ≡ y.vertex = name-equal x.vertex y.vertex e in
        let price : x.price ≡ y.price = same_Some x.price y.price (sym (first-bound x xs) ∙ same x.vertex ∙ ap (bound_at (y ∷ ys)) vertex ∙ first-bound y ys) in
        let one : x ≡ y = λ i. record { vertex = vertex i; price = price i } in
        λ i. one i ∷ more (λ v. rest v (same_name x.vertex v) refl vertex) i
      where
        rest : (v : Name) (b : Bool) → same_name x.vertex v ≡ b → x.vertex ≡ y.vertex → bound_at xs v ≡ bound_at ys v
        rest v true is vertex =
            let this : x.vertex ≡ v = one_name x.vertex v is in
            let left = subst (λ w. bound_at xs w ≡ None) this (none-before x.vertex xs rx) in
            let right = subst (λ w. bound_at ys w ≡ None) (sym vertex ∙ this) (none-before y.vertex ys ry) in
            left ∙ sym right
        rest v false is vertex =
            let other : same_name y.vertex v ≡ false = subst (λ w. same_name w v ≡ false) vertex is in
            let whole : (if same_name x.vertex v then Some x.price else bound_at xs v) ≡ (if same_name y.vertex v then Some y.price else bound_at ys v) = same v in
            sym (rw is refl) ∙ whole ∙ rw other refl

module _ (graph : PlainGraph) (from to key : Name) where
  -- the least prices are one list
  least-one : (xs ys : List Bound) → AreLeastPrices graph key from xs → AreLeastPrices graph key from ys → xs ≡ ys
  least-one xs ys a b = bounds-one xs ys a.rising b.rising (λ v. at v (bound_at xs v) (bound_at ys v) refl refl)
    where
      at : (v : Name) (o p : Option ℕ) → bound_at xs v ≡ o → bound_at ys v ≡ p → bound_at xs v ≡ bound_at ys v
      at v None None e f = e ∙ sym f
      at v (Some d) None e f = let l = (b.listed v).1 ((a.listed v).0 (some-listed _ d e)) in let s = listed-some _ l in cc
      at v None (Some d) e f = let l = (a.listed v).1 ((b.listed v).0 (some-listed _ d f)) in let s = listed-some _ l in cc
      at v (Some c) (Some d) e f =
          let p = a.least v c e in
          let q = b.least v d f in
          let one = p.least q.met.0 d q.met.1 in
          let two = q.least p.met.0 c p.met.1 in
          let same : c ≡ d = omega (arith, one, two) in
          e ∙ ap Some same ∙ sym f

  walk-one : (u w : Option (List Name)) (s t : ℕ) → IsAnswerWalk graph key from to u s → IsAnswerWalk graph key from to w t → (u ≡ w) × (s ≡ t)
  walk-one None None s t a b = (refl, a.0 ∙ sym b.0)
  walk-one None (Some w) s t a b = let none = a.1 w in let some = b.price in cc
  walk-one (Some u) None s t a b = let none = b.1 u in let some = a.price in cc
  walk-one (Some u) (Some w) s t a b =
      let one = a.least w t b.price in
      let two = b.least u s a.price in
      let same : s ≡ t = omega (arith, one, two) in
      let turned = no-later-both (reverse u) (reverse w) (a.first w (b.price ∙ ap Some (sym same))) (b.first u (a.price ∙ ap Some same)) in
      (ap Some (sym (reverse-reverse u) ∙ ap reverse turned ∙ reverse-reverse w), same)

  -- so the answer is one
  pub answer-one : (u w : Option (List Name)) (s t : ℕ) (xs ys : List Bound) → IsPricedAnswer graph from to key u s xs → IsPricedAnswer graph from to key w t ys → (u ≡ w) × (s ≡ t) × (xs ≡ ys)
  answer-one u w s t xs ys a b = let l = walk-one u w s t a.led b.led in (l.0, l.1, least-one xs ys a.priced b.priced)
