-- What follows from bytes taken and bytes appended, one after another.
-- Used by `read_all` and `write_all`.
use Rattle.std.proofs.Common.{◌≡◌, ◌∙◌, ◌+◌, ◌-◌, ◌≤◌, ℕ, List, [], ◌++◌, length, take, drop, refl, sym, ap, None, Some, inl, inr, arith}
use Rattle.std.specs.Option.{option_map}
use Rattle.std.proofs.lemmas.List.{append_assoc, append-nil, length-append, drop_at, take_rest}
use Rattle.std.proofs.Math.Seq.{take-add}
use Rattle.weave_io.specs.Counts.{HasRisen}
use Rattle.weave_io.specs.Told.{ToldBytes, Tells, Takes, TakesCount, TakesAtMost, Appends}

-- bytes taken after others
pub takes_more : (before between after : ToldBytes) (bytes more : List ℕ) → Takes before between bytes → Takes between after more → Takes before after (bytes ++ more)
takes_more before between None bytes more first then = rw (first, then) refl
takes_more before between (Some rest) bytes more first then = rw (first, then, append_assoc) refl

-- the number of bytes taken is the length of the bytes taken
pub takes_count : (before after : ToldBytes) (bytes : List ℕ) (count : ℕ) → Takes before after bytes → length bytes ≡ count → TakesCount before after count
takes_count before None bytes count taken long = rw taken (tt, refl)
takes_count before (Some rest) bytes count taken long =
    rw taken (omega (arith, length-append bytes rest), ap Some (sym (drop_at bytes rest count long)))

-- and no more than that
pub takes_at_most : (before after : ToldBytes) (bytes : List ℕ) (most : ℕ) → Takes before after bytes → length bytes ≤ most → TakesAtMost before after most
takes_at_most before after bytes most taken within = (length bytes, within, takes_count before after bytes (length bytes) taken refl)

-- what was taken is all of it if nothing came after it and nothing is left
pub told_whole : (before between after : ToldBytes) (bytes more : List ℕ) → Takes before between bytes → Takes between after more → more ≡ [] → Tells after [] → Tells before bytes
told_whole before between None bytes more first then none end = rw (first, then) tt
told_whole before between (Some rest) bytes more first then none end = rw (first, then, none, end, append-nil) refl

-- bytes taken, where the last step took none
pub takes_at_most_still : (before between after : ToldBytes) (bytes : List ℕ) (most : ℕ) → Takes before between bytes → after ≡ between → length bytes ≤ most → TakesAtMost before after most
takes_at_most_still before between after bytes most taken same within =
    takes_at_most before after bytes most (taken ∙ ap (option_map (λ rest. bytes ++ rest)) (sym same)) within

-- a count that rose after a step in which it didn't fall has risen
pub risen_on : (before between after : ℕ) → before ≤ between → HasRisen between after → HasRisen before after
risen_on before between after kept (inl more) = inl (omega (arith, kept, more))
risen_on before between after kept (inr greatest) = inr greatest

-- none came
pub takes_none : (before after : ToldBytes) (most : ℕ) → after ≡ before → TakesAtMost before after most
takes_none None after most same = (0, omega arith, (tt, same))
takes_none (Some all) after most same = (0, omega arith, (omega arith, same))

-- bytes appended after others
pub appends_more : (before between after : ToldBytes) (bytes more : List ℕ) → Appends before between bytes → Appends between after more → Appends before after (bytes ++ more)
appends_more None between after bytes more first then = rw (then, first) refl
appends_more (Some written) between after bytes more first then = rw (then, first) (ap Some (append_assoc written bytes more))

-- the start of a text, and then the start of its rest
pub appends_start : (before between after : ToldBytes) (text : List ℕ) (at count : ℕ) → Appends before between (take at text) → Appends between after (take count (take (length text - at) (drop at text))) → Appends before after (take (at + count) text)
appends_start before between after text at count first then =
    let longer : take (at + count) text ≡ take at text ++ take count (drop at text) = take-add at count text in
    rw longer (appends_more before between after (take at text) (take count (drop at text)) first (rw take_rest at then))
