-- A list with one more item: what it says at each update. And times.
-- Used by `add_op`, Cutting, OneMore, Placing, Sequences and Updating.
use Rattle.std.proofs.Common.{◌≡◌, ◌≤◌, ◌<◌, inl, inr, ℕ, Bool, true, false, ◌&&◌, ◌||◌, ◌==◌, cond, List, [], ◌∷◌, ◌++◌, Option, Some, None, refl, sym, ap, ◌∙◌, subst, arith}
use Rattle.std.specs.Prelude.{nat_lt, nat_le}
use Rattle.std.specs.Option.{option_map, option_and_then}
use Rattle.std.proofs.lemmas.Bool.{lt-ltb, le-ltb, eq-eqb, ne_eqb}
use Rattle.version_parts.specs.declared.time.Time.{Time}
use Rattle.version_parts.specs.declared.track.Item.{Item}
use Rattle.version_parts.specs.Ordered.{IsEarlierTime}
use Rattle.version_parts.specs.Times.{is_later, counts}
use Rattle.version_parts.specs.Tracks.{or_else, unless_later, last_at, shown_value, live_at, AllTimes}
use Rattle.version_parts.proofs.Splitting.{in_time, too_late, or_none}

-- Times

-- the test finds a time later than one that is before it
pub later : (time other : Time) → IsEarlierTime other time → is_later time other ≡ true
later time other (inl below) = ap (λ b. b || (other.update == time.update && nat_lt other.place time.place)) (lt-ltb other.update time.update below)
later time other (inr same) =
    ap (λ b. b || (other.update == time.update && nat_lt other.place time.place)) (le-ltb other.update time.update (omega (arith, same.0)))
    ∙ ap (λ b. b && nat_lt other.place time.place) (eq-eqb other.update time.update same.0)
    ∙ lt-ltb other.place time.place same.1

-- the test doesn't find a time later than one that is after it
pub not_later : (time other : Time) → IsEarlierTime time other → is_later time other ≡ false
not_later time other (inl below) =
    ap (λ b. b || (other.update == time.update && nat_lt other.place time.place)) (le-ltb other.update time.update (omega (arith, below)))
    ∙ ap (λ b. b && nat_lt other.place time.place) (ne_eqb other.update time.update (λ same. omega (arith, below, same)))
not_later time other (inr same) =
    ap (λ b. b || (other.update == time.update && nat_lt other.place time.place)) (le-ltb other.update time.update (omega (arith, same.0)))
    ∙ ap (λ b. b && nat_lt other.place time.place) (eq-eqb other.update time.update (sym same.0))
    ∙ le-ltb other.place time.place (omega (arith, same.1))

-- the earlier of two times is of the same update or of an earlier one
pub no_later_update : (time other : Time) → IsEarlierTime time other → time.update ≤ other.update
no_later_update time other (inl below) = omega (arith, below)
no_later_update time other (inr same) = omega (arith, same.0)

module _ {X : Type 0} where
  -- what follows from a fact that holds of all times of a list holds of them all too
  pub all_weaker : (P Q : Time → Type 0) → ((time : Time) → P time → Q time) → (items : List (Item X)) → AllTimes P items → AllTimes Q items
  all_weaker P Q weaker [] all = tt
  all_weaker P Q weaker (item ∷ rest) all = (weaker item.time all.0, all_weaker P Q weaker rest all.1)

  -- what holds of all times of a list and of that of a new item holds of all with the item at the end
  pub all_push : (P : Time → Type 0) (items : List (Item X)) (item : Item X) → AllTimes P items → P item.time → AllTimes P (items ++ item ∷ [])
  all_push P [] item all here = (here, tt)
  all_push P (first ∷ rest) item all here = (all.0, all_push P rest item all.1 here)

  -- One more item

  or_assoc : (a b c : Option (Item X)) → or_else (or_else a b) c ≡ or_else a (or_else b c)
  or_assoc None b c = refl
  or_assoc (Some a) b c = refl

  last_push : (update : ℕ) (items : List (Item X)) (item : Item X) → last_at update (items ++ item ∷ []) ≡ or_else (unless_later update item) (last_at update items)
  last_push update [] item = sym (or_none (unless_later update item))
  last_push update (first ∷ rest) item =
      ap (λ (o : Option (Item X)). or_else o (unless_later update first)) (last_push update rest item)
      ∙ or_assoc (unless_later update item) (last_at update rest) (unless_later update first)

  -- an item that comes last changes nothing of what the part is after an update before the item's
  pub live_before : (update : ℕ) (since : Option Time) (items : List (Item X)) (item : Item X) → update < item.time.update → live_at update since (items ++ item ∷ []) ≡ live_at update since items
  live_before update since items item after =
      ap (option_and_then (shown_value since)) (last_push update items item ∙ ap (λ (o : Option (Item X)). or_else o (last_at update items)) (too_late update item after))

  -- after the update of an item that comes last, and after later ones, the part is what this item shows
  pub live_after : (update : ℕ) (since : Option Time) (items : List (Item X)) (item : Item X) → item.time.update ≤ update → live_at update since (items ++ item ∷ []) ≡ shown_value since item
  live_after update since items item before =
      ap (option_and_then (shown_value since)) (last_push update items item ∙ ap (λ (o : Option (Item X)). or_else o (last_at update items)) (in_time update item before))

  -- an item that counts says its value
  pub says : (since : Option Time) (time : Time) (value : Option X) → counts since time ≡ true → shown_value since (record { time = time; value = value }) ≡ option_map (λ (x : X). (time, x)) value
  says since time value counted = ap (λ b. cond b (option_map (λ (x : X). (time, x)) value) None) counted

  -- What holds of all times

  last_has : (P : Time → Type 0) (update : ℕ) (items : List (Item X)) (item : Item X) → AllTimes P items → last_at update items ≡ Some item → P item.time
  last_has P update [] item all is = absurd cc
  last_has P update (first ∷ rest) item all is =
      elim (last_at update rest) as (λ (o : Option (Item X)). last_at update rest ≡ o → or_else o (unless_later update first) ≡ Some item → P item.time) [
        | None ↦ λ e h. here (nat_le first.time.update update) h
        | Some other ↦ λ e h. last_has P update rest item all.1 (e ∙ h)
      ] refl is
    where
      here : (b : Bool) → cond b (Some first) None ≡ Some item → P item.time
      here true h = let same : first ≡ item = cc in subst (λ (x : Item X). P x.time) same all.0
      here false h = absurd cc

  value_time : (time : Time) (value : Option X) (live : Time × X) → option_map (λ (x : X). (time, x)) value ≡ Some live → time ≡ live.0
  value_time time None live is = absurd cc
  value_time time (Some x) live is = let same : (time, x) ≡ live = cc in ap (λ (p : Time × X). p.0) same

  shown_time : (since : Option Time) (item : Item X) (live : Time × X) → shown_value since item ≡ Some live → item.time ≡ live.0
  shown_time since item live is =
      elim (counts since item.time) as (λ b. cond b (option_map (λ (x : X). (item.time, x)) item.value) None ≡ Some live → item.time ≡ live.0) [
        | true ↦ λ h. value_time item.time item.value live h
        | false ↦ λ h. absurd cc
      ] is

  -- what holds of the times of all items of a part holds of the time since when it is there
  pub live_has : (P : Time → Type 0) (update : ℕ) (since : Option Time) (items : List (Item X)) (live : Time × X) → AllTimes P items → live_at update since items ≡ Some live → P live.0
  live_has P update since items live all is =
      elim (last_at update items) as (λ (o : Option (Item X)). last_at update items ≡ o → option_and_then (shown_value since) o ≡ Some live → P live.0) [
        | None ↦ λ e h. absurd cc
        | Some item ↦ λ e h. subst P (shown_time since item live h) (last_has P update items item all e)
      ] refl is

  -- if no item counts, nothing is there
  pub none_counts : (update : ℕ) (since : Option Time) (items : List (Item X)) → AllTimes (λ time. counts since time ≡ false) items → live_at update since items ≡ None
  none_counts update since items all =
      elim (last_at update items) as (λ (o : Option (Item X)). last_at update items ≡ o → option_and_then (shown_value since) o ≡ None) [
        | None ↦ λ e. refl
        | Some item ↦ λ e. ap (λ b. cond b (option_map (λ (x : X). (item.time, x)) item.value) None) (last_has (λ time. counts since time ≡ false) update items item all e)
      ] refl
