-- Words that are read as a state are that state's words, and the words of a state are read as it.
-- Used by AnswersRead, PricedRead, RepliesRead and ReportRead.
use Rattle.std.proofs.Common.{◌≡◌, ℕ, Bool, true, false, ◌&&◌, ◌||◌, ◌==◌, not, cond, inl, inr, List, [], ◌∷◌, ◌++◌, map, refl, sym, ap, ◌∙◌, subst, append_assoc, append-nil}
use Rattle.std.specs.Prelude.{Option, Some, None, Ok, codes}
use Rattle.std.specs.List.{AllByRecursion, list_all}
use Rattle.std.specs.List.Sorted.{IsStrictlySortedBy}
use Rattle.std.specs.Str.{bytes_eq}
use Rattle.std.proofs.lemmas.Bool.{cond-true, cond-false, and_parts, and_from, or_cases, eqb-true}
use Rattle.std.proofs.lemmas.List.{map-append}
use Rattle.weave_data.specs.declared.name.Name.{Name}
use Rattle.weave_text.specs.Cutting.{is_empty, is_absent_from, pieces_of}
use Rattle.weave_text.specs.Lines.{Bytes, Word, joined_texts, marked_texts}
use Rattle.graph_ops.specs.Operations.{State}
use Rattle.graph_ops.specs.declared.record.Edge.{Edge}
use Rattle.graph_ops.specs.declared.record.Record.{Record}
use Rattle.weave_report.specs.declared.fault.ReportCause.TheVariants as cause
use Rattle.weave_report.specs.declared.read.parts.Item.{Item}
use Rattle.weave_report.specs.declared.read.parts.Item.TheVariants.{Property, Link}
use Rattle.weave_data.specs.Steps.{◌>>=◌}
use Rattle.weave_report.specs.ReadingFields.{name_in}
use Rattle.weave_report.specs.Marks.{CutText, cut_behind, cut_first, is_equals, is_item_mark}
use Rattle.weave_report.specs.ReadingStates.{key_and_value, goes_last, with_last, read_tag, tag_in, tags_in, edge_of, item_of, item_in, with_property, with_item_read, items_in, empty_record, is_state_form, read_state}
use Rattle.weave_report.specs.ReportText.{property_text, edge_text, content_words, state_words}
use Rattle.weave_report.specs.TextOf.{IsName, IsTypedMap, IsTypedEdge, IsTypedRecord, IsTypedState}
use Rattle.weave_data.proofs.Steps.{bind_ok, ok_is}
use Rattle.weave_report.proofs.ReadSteps.{err_is_not, passed, chosen, then_ok, is_word, left_out}
use Rattle.weave_report.proofs.FieldsRead.{name_read, name_again}
use Rattle.weave_report.proofs.KeysInOrder.{rising-push, rising-last}
use Rattle.weave_report.specs.TextLaws.{TextLaws}

module _ (laws : TextLaws) where
  unset : (b : Bool) → not b ≡ true → b ≡ false
  unset true h = absurd cc
  unset false h = refl

  -- words that pass the test of emptiness are none
  pub no_words : (words : List Word) → is_empty words ≡ true → words ≡ []
  no_words [] h = refl
  no_words (word ∷ words) h = absurd cc

  -- ---- cuts

  -- the parts of one cut
  same_cut : (a : Bytes) (b : ℕ) (c : Bytes) (x : Bytes) (y : ℕ) (z : Bytes) → ◌≡◌ {A = Option CutText} (Some (a, b, c)) (Some (x, y, z)) → (a ≡ x) × (b ≡ y) × (c ≡ z)
  same_cut a b c x y z e = (ap first e, ap second e, ap third e)
    where
      first : Option CutText → Bytes
      first None = []
      first (Some cut) = cut.0

      second : Option CutText → ℕ
      second None = 0
      second (Some cut) = cut.1

      third : Option CutText → Bytes
      third None = []
      third (Some cut) = cut.2

  module _ (is_mark : ℕ → Bool) where
    -- a text is what is before and after its cut, with the mark between
    pub record IsCut (text : Bytes) (before : Bytes) (mark : ℕ) (behind : Bytes) : Type 0 where
      pub marked : is_mark mark ≡ true
      pub whole : text ≡ before ++ mark ∷ behind

    cut_parts : (byte : ℕ) (text : Bytes) (o : Option CutText) (before : Bytes) (mark : ℕ) (behind : Bytes)
        → ((b : Bytes) (m : ℕ) (t : Bytes) → o ≡ Some (b, m, t) → IsCut text b m t) → cut_behind byte o ≡ Some (before, mark, behind) → IsCut (byte ∷ text) before mark behind
    cut_parts byte text None before mark behind more e = absurd cc
    cut_parts byte text (Some (b, m, t)) before mark behind more e =
        let parts = same_cut (byte ∷ b) m t before mark behind e in
        let inner = more b m t refl in
        record { marked = subst (λ m. is_mark m ≡ true) parts.1 inner.marked; whole = ap (λ text. byte ∷ text) inner.whole ∙ (λ i. parts.0 i ++ parts.1 i ∷ parts.2 i) }

    cut_test : (byte : ℕ) (text before : Bytes) (mark : ℕ) (behind : Bytes) (b : Bool) → is_mark byte ≡ b
        → cond b (Some ([], byte, text)) (cut_behind byte (cut_first is_mark text)) ≡ Some (before, mark, behind)
        → ((b : Bytes) (m : ℕ) (t : Bytes) → cut_first is_mark text ≡ Some (b, m, t) → IsCut text b m t) → IsCut (byte ∷ text) before mark behind
    cut_test byte text before mark behind true h e more =
        let parts = same_cut [] byte text before mark behind e in
        record { marked = subst (λ m. is_mark m ≡ true) parts.1 h; whole = λ i. parts.0 i ++ parts.1 i ∷ parts.2 i }
    cut_test byte text before mark behind false h e more = cut_parts byte text (cut_first is_mark text) before mark behind more e

    -- a cut text is what is before and after the mark
    pub cut_read : (text before : Bytes) (mark : ℕ) (behind : Bytes) → cut_first is_mark text ≡ Some (before, mark, behind) → IsCut text before mark behind
    cut_read [] before mark behind e = absurd cc
    cut_read (byte ∷ text) before mark behind e = cut_test byte text before mark behind (is_mark byte) refl e (λ b m t k. cut_read text b m t k)

    -- a text is cut at its mark, if there is none before it
    pub cut_again : (before : Bytes) (mark : ℕ) (behind : Bytes) → list_all (λ b. not (is_mark b)) before ≡ true → is_mark mark ≡ true
        → cut_first is_mark (before ++ mark ∷ behind) ≡ Some (before, mark, behind)
    cut_again [] mark behind none h = cond-true (is_mark mark) _ _ h
    cut_again (byte ∷ before) mark behind none h =
        let parts = and_parts (not (is_mark byte)) (list_all (λ b. not (is_mark b)) before) none in
        cond-false (is_mark byte) _ _ (unset (is_mark byte) parts.0) ∙ ap (cut_behind byte) (cut_again before mark behind parts.1 h)

  -- ---- keys and values

  neither : (x y : Bool) → not x ≡ true → not y ≡ true → not (x || y) ≡ true
  neither true y h k = absurd cc
  neither false y h k = k

  unmarked : (name : Bytes) → is_absent_from 61 name ≡ true → is_absent_from 62 name ≡ true → list_all (λ b. not (is_item_mark b)) name ≡ true
  unmarked [] h k = refl
  unmarked (byte ∷ name) h k =
      let one = and_parts (not (byte == 61)) (is_absent_from 61 name) h in
      let two = and_parts (not (byte == 62)) (is_absent_from 62 name) k in
      and_from _ _ (neither (byte == 61) (byte == 62) one.0 two.0) (unmarked name one.1 two.1)

  name_unmarked : (name : Name) → IsName name → list_all (λ b. not (is_item_mark b)) name ≡ true
  name_unmarked name h = unmarked name (laws.name_lacks 61 name refl h) (laws.name_lacks 62 name refl h)

  -- a key and its value, which are names
  record ArePair (key value : Bytes) (pair : Name × Name) : Type 0 where
    key_is_name : IsName pair.0
    value_is_name : IsName pair.1
    key_is : key ≡ pair.0
    value_is : value ≡ pair.1

  pair_read : (key value : Bytes) (pair : Name × Name) → key_and_value key value ≡ Ok pair → ArePair key value pair
  pair_read key value pair e =
      let one = bind_ok _ _ pair e in
      let two = bind_ok _ _ pair one.2 in
      let k = (name_read laws) key one.0 one.1 in
      let v = (name_read laws) value two.0 two.1 in
      let same : (one.0, two.0) ≡ pair = ok_is (one.0, two.0) pair two.2 in
      subst (ArePair key value) same (record { key_is_name = k.0; value_is_name = v.0; key_is = k.1; value_is = v.1 })

  pair_again : (key value : Name) → IsName key → IsName value → key_and_value key value ≡ Ok (key, value)
  pair_again key value h k =
      then_ok _ _ key _ ((name_again laws) key h)
      (then_ok _ _ value _ ((name_again laws) value k) refl)

  property_joined : (key value : Name) → property_text (key, value) ≡ key ++ 61 ∷ value
  property_joined key value = append_assoc key (codes "=") value

  property_is : (word : Word) (before : Bytes) (mark : ℕ) (behind : Bytes) (pair : Name × Name) → word ≡ before ++ mark ∷ behind → is_equals mark ≡ true → ArePair before behind pair → word ≡ property_text pair
  property_is word before mark behind pair e h k =
      e ∙ (λ i. k.key_is i ++ eqb-true mark 61 h i ∷ k.value_is i) ∙ sym (property_joined pair.0 pair.1)

  -- a tag that is read
  record IsTag (word : Word) (tag : Name × Name) : Type 0 where
    key : IsName tag.0
    value : IsName tag.1
    text : word ≡ property_text tag

  tag_from : (word : Word) (o : Option CutText) (tag : Name × Name) → cut_first is_equals word ≡ o → read_tag o ≡ Ok tag → IsTag word tag
  tag_from word None tag e k = absurd (err_is_not cause.Line tag k)
  tag_from word (Some (before, mark, behind)) tag e k =
      let cut = cut_read is_equals word before mark behind e in
      let pair = pair_read before behind tag k in
      record { key = pair.key_is_name; value = pair.value_is_name; text = property_is word before mark behind tag cut.whole cut.marked pair }

  tag_read : (word : Word) (tag : Name × Name) → tag_in word ≡ Ok tag → IsTag word tag
  tag_read word tag e = tag_from word (cut_first is_equals word) tag refl e

  tag_again : (key value : Name) → IsName key → IsName value → tag_in (property_text (key, value)) ≡ Ok (key, value)
  tag_again key value h k =
      ap (λ word. read_tag (cut_first is_equals word)) (property_joined key value) ∙ ap read_tag (cut_again is_equals key 61 value (laws.name_lacks 61 key refl h) refl) ∙ pair_again key value h k

  -- ---- maps

  module _ {X : Type 0} (P : X → Type 0) where
    each_push : (pairs : List (Name × X)) (key : Name) (value : X) → AllByRecursion (λ (pair : Name × X). IsName pair.0 × P pair.1) pairs → IsName key → P value
        → AllByRecursion (λ (pair : Name × X). IsName pair.0 × P pair.1) (pairs ++ (key, value) ∷ [])
    each_push [] key value h k v = ((k, v), tt)
    each_push (pair ∷ pairs) key value h k v = (h.0, each_push pairs key value h.1 k v)

    each_at : (pairs rest : List (Name × X)) (key : Name) (value : X) → AllByRecursion (λ (pair : Name × X). IsName pair.0 × P pair.1) (pairs ++ (key, value) ∷ rest) → IsName key × P value
    each_at [] rest key value h = h.0
    each_at (pair ∷ pairs) rest key value h = each_at pairs rest key value h.1

    -- one more pair, read
    last_read : (pairs next : List (Name × X)) (key : Name) (value : X) → with_last pairs key value ≡ Ok next → IsTypedMap P pairs → IsName key → P value
        → IsTypedMap P next × (pairs ++ (key, value) ∷ [] ≡ next)
    last_read pairs next key value e h k v =
        let test = passed (goes_last key pairs) (Ok (pairs ++ (key, value) ∷ [])) cause.Line next e in
        let same = ok_is (pairs ++ (key, value) ∷ []) next test.1 in
        (subst (IsTypedMap P) same (record { rising = rising-push pairs key value h.rising test.0; each = each_push pairs key value h.each k v }), same)

    -- and again
    last_again : (pairs rest : List (Name × X)) (key : Name) (value : X) → IsTypedMap P (pairs ++ (key, value) ∷ rest) → with_last pairs key value ≡ Ok (pairs ++ (key, value) ∷ [])
    last_again pairs rest key value h = cond-true (goes_last key pairs) _ _ (rising-last pairs rest key value h.rising)

    regrouped : (pairs rest : List (Name × X)) (key : Name) (value : X) → IsTypedMap P (pairs ++ (key, value) ∷ rest) → IsTypedMap P ((pairs ++ (key, value) ∷ []) ++ rest)
    regrouped pairs rest key value h = subst (IsTypedMap P) (sym (append_assoc pairs ((key, value) ∷ []) rest)) h

  -- what was read of pairs, after others
  record AreTold {X : Type 0} (P : X → Type 0) (text : Name × X → Word) (before : List (Name × X)) (words : List Word) (pairs : List (Name × X)) : Type 0 where
    typed : IsTypedMap P pairs
    words_are : map text pairs ≡ map text before ++ words

  tags_read : (before : List (Name × Name)) (words : List Word) (tags : List (Name × Name)) → tags_in before words ≡ Ok tags → IsTypedMap IsName before → AreTold IsName property_text before words tags
  tags_read before [] tags e h =
      let same = ok_is before tags e in
      record { typed = subst (IsTypedMap IsName) same h; words_are = sym (ap (map property_text) same) ∙ sym (append-nil (map property_text before)) }
  tags_read before (word ∷ words) tags e h =
      let one = bind_ok _ _ tags e in
      let two = bind_ok _ _ tags one.2 in
      let tag = tag_read word one.0 one.1 in
      let last = last_read IsName before two.0 one.0.0 one.0.1 two.1 h tag.key tag.value in
      let rest = tags_read two.0 words tags two.2 last.0 in
      record {
        typed = rest.typed;
        words_are = rest.words_are ∙ ap (λ tags. map property_text tags ++ words) (sym last.1)
            ∙ ap (λ front. front ++ words) (map-append property_text before (one.0 ∷ []))
            ∙ append_assoc (map property_text before) (property_text one.0 ∷ []) words ∙ ap (λ word. map property_text before ++ word ∷ words) (sym tag.text);
      }

  tags_again : (before tags : List (Name × Name)) → IsTypedMap IsName (before ++ tags) → tags_in before (map property_text tags) ≡ Ok (before ++ tags)
  tags_again before [] h = ap (λ tags. Ok tags) (sym (append-nil before))
  tags_again before ((key, value) ∷ tags) h =
      let names = each_at IsName before tags key value h.each in
      let words = map property_text tags in
      then_ok _ _ (key, value) _ (tag_again key value names.0 names.1)
      (then_ok _ _ (before ++ (key, value) ∷ []) _ (last_again IsName before tags key value h)
      (tags_again (before ++ (key, value) ∷ []) tags (regrouped IsName before tags key value h) ∙ ap (λ tags. Ok tags) (append_assoc before ((key, value) ∷ []) tags)))

  no_pairs : {X : Type 0} (P : X → Type 0) → IsTypedMap P []
  unfolding IsStrictlySortedBy
  no_pairs P = record { rising = tt; each = tt }

  -- ---- edges

  edge_words : Edge → List Word
  edge_words edge = edge.target ∷ map property_text edge.tags

  edge_read : (words : List Word) (edge : Edge) → edge_of words ≡ Ok edge → IsTypedEdge edge × (words ≡ edge_words edge)
  unfolding edge_words
  edge_read [] edge e = absurd (err_is_not cause.Name edge e)
  edge_read (word ∷ words) edge e =
      let one = bind_ok _ _ edge e in
      let two = bind_ok _ _ edge one.2 in
      let target = (name_read laws) word one.0 one.1 in
      let tags = tags_read [] words two.0 two.1 (no_pairs IsName) in
      let made : Edge = record { target = one.0; tags = two.0 } in
      let same = ok_is made edge two.2 in
      (subst IsTypedEdge same (record { target = target.0; tags = tags.typed }), (λ i. target.1 i ∷ sym tags.words_are i) ∙ ap edge_words same)

  edge_again : (edge : Edge) → IsTypedEdge edge → edge_of (edge_words edge) ≡ Ok edge
  unfolding edge_words
  edge_again edge h =
      then_ok _ _ edge.target _ ((name_again laws) edge.target h.target)
      (then_ok _ _ edge.tags _ (tags_again [] edge.tags h.tags) refl)

  edge_joined : (name : Name) (edge : Edge) → edge_text (name, edge) ≡ name ++ 62 ∷ joined_texts (44 ∷ []) (edge_words edge)
  unfolding edge_words
  edge_joined name edge =
      append_assoc (name ++ codes ">") edge.target (marked_texts (44 ∷ []) (map property_text edge.tags))
      ∙ append_assoc name (codes ">") (edge.target ++ marked_texts (44 ∷ []) (map property_text edge.tags))

  properties_lack : (pairs : List (Name × Name)) → AllByRecursion (λ (pair : Name × Name). IsName pair.0 × IsName pair.1) pairs → list_all (is_absent_from 44) (map property_text pairs) ≡ true
  properties_lack [] h = refl
  properties_lack ((key, value) ∷ pairs) h =
      and_from _ _ (laws.lacks-append 44 (key ++ codes "=") value (laws.lacks-append 44 key (codes "=") (laws.name_lacks 44 key refl h.0.0) refl) (laws.name_lacks 44 value refl h.0.1)) (properties_lack pairs h.1)

  edge_pieces : (edge : Edge) → IsTypedEdge edge → pieces_of 44 (joined_texts (44 ∷ []) (edge_words edge)) ≡ edge_words edge
  unfolding edge_words
  edge_pieces edge h = laws.pieces_come_back 44 edge.target (map property_text edge.tags) (and_from _ _ (laws.name_lacks 44 edge.target refl h.target) (properties_lack edge.tags h.tags.each))

  -- ---- items

  item_text : Item → Word
  item_text (Property key value) = property_text (key, value)
  item_text (Link name edge) = edge_text (name, edge)

  IsTypedItem : Item → Type 0
  IsTypedItem (Property key value) = IsName key × IsName value
  IsTypedItem (Link name edge) = IsName name × IsTypedEdge edge

  -- the item mark that isn't `=`
  other_mark : (mark : ℕ) → is_item_mark mark ≡ true → is_equals mark ≡ false → mark ≡ 62
  other_mark mark h none = elim (or_cases (is_equals mark) (mark == 62) h) [ inl e ↦ absurd (absurd_test (is_equals mark) e none) | inr e ↦ eqb-true mark 62 e ]
    where
      absurd_test : (b : Bool) → b ≡ true → b ≡ false → ⊥
      absurd_test b e k = cc

  item_from : (word : Word) (o : Option CutText) (item : Item) → cut_first is_item_mark word ≡ o → item_of o ≡ Ok item → IsTypedItem item × (word ≡ item_text item)
  unfolding IsTypedItem item_text edge_words
  item_from word None item e k = absurd (err_is_not cause.Line item k)
  item_from word (Some (before, mark, behind)) item e k =
      let cut = cut_read is_item_mark word before mark behind e in
      elim (chosen (is_equals mark) (key_and_value before behind >>= λ pair. Ok (Property pair.0 pair.1)) (name_in before >>= λ name. edge_of (pieces_of 44 behind) >>= λ edge. Ok (Link name edge)) (Ok item) k) [
        | inl h ↦
            let one = bind_ok _ _ item h.1 in
            let pair = pair_read before behind one.0 one.1 in
            let same = ok_is (Property one.0.0 one.0.1) item one.2 in
            (subst IsTypedItem same (pair.key_is_name, pair.value_is_name), property_is word before mark behind one.0 cut.whole h.0 pair ∙ ap item_text same)
        | inr h ↦
            let one = bind_ok _ _ item h.1 in
            let two = bind_ok _ _ item one.2 in
            let name = (name_read laws) before one.0 one.1 in
            let edge = edge_read (pieces_of 44 behind) two.0 two.1 in
            let same = ok_is (Link one.0 two.0) item two.2 in
            let mark_is = other_mark mark cut.marked h.0 in
            let behind_is : behind ≡ joined_texts (44 ∷ []) (edge_words two.0) = sym (laws.joined_of-pieces 44 behind) ∙ ap (joined_texts (44 ∷ [])) edge.1 in
            (subst IsTypedItem same (name.0, edge.0), cut.whole ∙ (λ i. name.1 i ++ mark_is i ∷ behind_is i) ∙ sym (edge_joined one.0 two.0) ∙ ap item_text same)
      ]

  item_read : (word : Word) (item : Item) → item_in word ≡ Ok item → IsTypedItem item × (word ≡ item_text item)
  item_read word item e = item_from word (cut_first is_item_mark word) item refl e

  property_item_again : (key value : Name) → IsName key → IsName value → item_in (property_text (key, value)) ≡ Ok (Property key value)
  property_item_again key value h k =
      ap (λ word. item_of (cut_first is_item_mark word)) (property_joined key value)
      ∙ ap item_of (cut_again is_item_mark key 61 value (name_unmarked key h) refl)
      ∙ then_ok _ _ (key, value) _ (pair_again key value h k) refl

  edge_item_again : (name : Name) (edge : Edge) → IsName name → IsTypedEdge edge → item_in (edge_text (name, edge)) ≡ Ok (Link name edge)
  edge_item_again name edge h k =
      ap (λ word. item_of (cut_first is_item_mark word)) (edge_joined name edge)
      ∙ ap item_of (cut_again is_item_mark name 62 (joined_texts (44 ∷ []) (edge_words edge)) (name_unmarked name h) refl)
      ∙ then_ok _ _ name _ ((name_again laws) name h)
      (then_ok _ _ edge _ (ap edge_of (edge_pieces edge k) ∙ edge_again edge k) refl)

  -- ---- records

  -- a record with one more item
  record HasItem (held : Record) (item : Item) (next : Record) : Type 0 where
    typed : IsTypedRecord next
    words_are : content_words next ≡ content_words held ++ item_text item ∷ []

  property_put : (props : List (Name × Name)) (edges : List (Name × Edge)) (key value : Name) (next : Record) → with_property (record { props = props; edges = edges }) key value edges ≡ Ok next
      → IsTypedRecord (record { props = props; edges = edges }) → IsName key → IsName value → HasItem (record { props = props; edges = edges }) (Property key value) next
  unfolding item_text
  property_put props [] key value next e h k v =
      let one = bind_ok _ _ next e in
      let last = last_read IsName props one.0 key value one.1 h.props k v in
      let made : Record = record { props = one.0; edges = [] } in
      let same = ok_is made next one.2 in
      record {
        typed = subst IsTypedRecord same (record { props = last.0; edges = h.edges });
        words_are = sym (ap content_words same) ∙ append-nil (map property_text one.0) ∙ ap (map property_text) (sym last.1)
            ∙ map-append property_text props ((key, value) ∷ []) ∙ ap (λ front. front ++ property_text (key, value) ∷ []) (sym (append-nil (map property_text props)));
      }
  property_put props (edge ∷ edges) key value next e h k v = absurd (err_is_not cause.Line next e)

  item_put : (held : Record) (item : Item) (next : Record) → with_item_read held item ≡ Ok next → IsTypedRecord held → IsTypedItem item → HasItem held item next
  unfolding item_text IsTypedItem
  item_put held (Property key value) next e h k = property_put held.props held.edges key value next e h k.0 k.1
  item_put held (Link name edge) next e h k =
      let one = bind_ok _ _ next e in
      let last = last_read IsTypedEdge held.edges one.0 name edge one.1 h.edges k.0 k.1 in
      let made : Record = record { props = held.props; edges = one.0 } in
      let same = ok_is made next one.2 in
      let words = map property_text held.props in
      record {
        typed = subst IsTypedRecord same (record { props = h.props; edges = last.0 });
        words_are = sym (ap content_words same) ∙ ap (λ edges. words ++ map edge_text edges) (sym last.1)
            ∙ ap (λ more. words ++ more) (map-append edge_text held.edges ((name, edge) ∷ [])) ∙ sym (append_assoc words (map edge_text held.edges) (edge_text (name, edge) ∷ []));
      }

  items_read : (held : Record) (words : List Word) (final : Record) → items_in held words ≡ Ok final → IsTypedRecord held → IsTypedRecord final × (content_words final ≡ content_words held ++ words)
  items_read held [] final e h =
      let same = ok_is held final e in
      (subst IsTypedRecord same h, sym (ap content_words same) ∙ sym (append-nil (content_words held)))
  items_read held (word ∷ words) final e h =
      let one = bind_ok _ _ final e in
      let two = bind_ok _ _ final one.2 in
      let item = item_read word one.0 one.1 in
      let put = item_put held one.0 two.0 two.1 h item.0 in
      let rest = items_read two.0 words final two.2 put.typed in
      (rest.0, rest.1 ∙ ap (λ front. front ++ words) put.words_are ∙ append_assoc (content_words held) (item_text one.0 ∷ []) words ∙ ap (λ word. content_words held ++ word ∷ words) (sym item.1))

  props_again : (before props : List (Name × Name)) (words : List Word) → IsTypedMap IsName (before ++ props)
      → items_in (record { props = before; edges = [] }) (map property_text props ++ words) ≡ items_in (record { props = before ++ props; edges = [] }) words
  props_again before [] words h = ap (λ (props : List (Name × Name)). items_in (record { props = props; edges = [] }) words) (sym (append-nil before))
  props_again before ((key, value) ∷ props) words h =
      let names = each_at IsName before props key value h.each in
      let rest = map property_text props ++ words in
      let held : Record = record { props = before; edges = [] } in
      then_ok _ _ (Property key value) _ (property_item_again key value names.0 names.1)
      (then_ok _ _ (record { props = before ++ (key, value) ∷ []; edges = [] }) _
      (then_ok _ _ (before ++ (key, value) ∷ []) _ (last_again IsName before props key value h) refl)
      (props_again (before ++ (key, value) ∷ []) props words (regrouped IsName before props key value h)
      ∙ ap (λ (props : List (Name × Name)). items_in (record { props = props; edges = [] }) words) (append_assoc before ((key, value) ∷ []) props)))

  edges_again : (props : List (Name × Name)) (before edges : List (Name × Edge)) → IsTypedMap IsTypedEdge (before ++ edges)
      → items_in (record { props = props; edges = before }) (map edge_text edges) ≡ Ok (record { props = props; edges = before ++ edges })
  edges_again props before [] h = ap (λ (edges : List (Name × Edge)). Ok (record { props = props; edges = edges })) (sym (append-nil before))
  edges_again props before ((name, edge) ∷ edges) h =
      let typed = each_at IsTypedEdge before edges name edge h.each in
      let rest = map edge_text edges in
      let held : Record = record { props = props; edges = before } in
      then_ok _ _ (Link name edge) _ (edge_item_again name edge typed.0 typed.1)
      (then_ok _ _ (record { props = props; edges = before ++ (name, edge) ∷ [] }) _
      (then_ok _ _ (before ++ (name, edge) ∷ []) _ (last_again IsTypedEdge before edges name edge h) refl)
      (edges_again props (before ++ (name, edge) ∷ []) edges (regrouped IsTypedEdge before edges name edge h)
      ∙ ap (λ (edges : List (Name × Edge)). Ok (record { props = props; edges = edges })) (append_assoc before ((name, edge) ∷ []) edges)))

  nothing_held : IsTypedRecord empty_record
  nothing_held = record { props = no_pairs IsName; edges = no_pairs IsTypedEdge }

  record_again : (held : Record) → IsTypedRecord held → items_in empty_record (content_words held) ≡ Ok held
  record_again held h = props_again [] held.props (map edge_text held.edges) h.props ∙ edges_again held.props [] held.edges h.edges

  -- ---- states

  -- words of the form of a state that are read as one are its words, and it is valid
  pub state_read : (words : List Word) (state : State) → is_state_form words ≡ true → read_state words ≡ Ok state → IsTypedState state × (words ≡ state_words state)
  state_read [] state form e = absurd cc
  state_read (word ∷ items) state form e =
      elim (chosen (bytes_eq word (codes "record")) (items_in empty_record items >>= λ held. Ok (Some held)) (Ok None) (Ok state) e) [
        | inl h ↦
            let one = bind_ok _ _ state h.1 in
            let same = ok_is (Some one.0) state one.2 in
            let items = items_read empty_record items one.0 one.1 nothing_held in
            (subst IsTypedState same items.0, (λ i. is_word word (codes "record") h.0 i ∷ sym items.1 i) ∙ ap state_words same)
        | inr h ↦
            let same = ok_is None state h.1 in
            let absent = and_parts (bytes_eq word (codes "absent")) (is_empty items) (left_out (bytes_eq word (codes "record")) (bytes_eq word (codes "absent") && is_empty items) form h.0) in
            (subst IsTypedState same tt, (λ i. is_word word (codes "absent") absent.0 i ∷ no_words items absent.1 i) ∙ ap state_words same)
      ]

  -- the words of a valid state have the form of one and are read as it
  pub state_again : (state : State) → IsTypedState state → (is_state_form (state_words state) ≡ true) × (read_state (state_words state) ≡ Ok state)
  state_again None h = (refl, refl)
  state_again (Some held) h =
      (refl, then_ok _ _ held _ (record_again held h) refl)
