-- How the walk over an image goes.
-- Used by Closing, Foreign, Forms, KeptSteps, LeftImages and WalkSteps.
use Rattle.std.proofs.Common.{◌≡◌, ◌≢◌, ℕ, suc, ◌+◌, ◌^◌, ◌<◌, List, [], ◌∷◌, ◌++◌, length, take, Option, None, Some, refl, ◌∙◌, ap, arith, true, length-append, nat_lt, if◌then◌else◌, append_assoc}
use Rattle.std.proofs.lemmas.Bool.{lt-ltb}
use Rattle.std.proofs.lemmas.Bool.Decides.{nat_tests}
use Rattle.std.proofs.lemmas.List.{take_at}
use Rattle.std.proofs.lemmas.Nat.{from_be_bytes-to_be_bytes_4}
use Rattle.std.specs.Int.{w32, to_be_bytes, from_be_bytes}
use Rattle.store_journal.specs.Journal.{Walk, framed, onward, sized, walk}
use Rattle.store_journal.specs.Standing.{AreRecords}

module _ {C : Type 0} (reader : List C → List ℕ → Option C) where
  -- bytes that are passed over
  pub walk_past : (earlier : List C) (place : ℕ) (bytes rest : List ℕ) → walk reader earlier place (length bytes) (bytes ++ rest) ≡ walk reader earlier place 0 rest
  walk_past earlier place [] rest = refl
  walk_past earlier place (b ∷ bytes) rest = walk_past earlier place bytes rest

  -- a gate byte that isn't 1 ends the walk
  pub walk_closed : (earlier : List C) (place gate : ℕ) (tail : List ℕ) → gate ≢ 1 → walk reader earlier place 0 (gate ∷ tail) ≡ record { commits = earlier; gate = place }
  walk_closed earlier place gate tail shut = grind (arith, nat_tests)

  -- a payload of its size with a byte after it is read
  sized_reads : (earlier : List C) (next : C) (payload : List ℕ) (gate : ℕ) (tail : List ℕ) → reader earlier payload ≡ Some next → sized reader earlier (length payload) (payload ++ gate ∷ tail) ≡ Some next
  sized_reads earlier next payload gate tail reads =
      let fits : nat_lt (length payload) (length (payload ++ gate ∷ tail)) ≡ true = lt-ltb _ _ (omega (arith, length-append payload (gate ∷ tail))) in
      ap (λ t. if t then reader earlier (take (length payload) (payload ++ gate ∷ tail)) else None) fits
      ∙ ap (λ l. reader earlier l) (take_at payload (gate ∷ tail) (length payload) refl) ∙ reads

  -- a whole record after an open gate
  pub walk_sized : (earlier : List C) (place : ℕ) (next : C) (a b c d : ℕ) (payload : List ℕ) (gate : ℕ) (tail : List ℕ) → from_be_bytes w32 (a ∷ b ∷ c ∷ d ∷ []) ≡ length payload → reader earlier payload ≡ Some next
      → walk reader earlier place 0 (1 ∷ a ∷ b ∷ c ∷ d ∷ (payload ++ gate ∷ tail)) ≡ walk reader (earlier ++ next ∷ []) (place + 1 + suc (suc (suc (suc (length payload))))) 0 (gate ∷ tail)
  walk_sized earlier place next a b c d payload gate tail same reads =
      let rest = payload ++ gate ∷ tail in
      let stop : Walk C = record { commits = earlier; gate = place } in
      ap (λ n. onward (sized reader earlier n rest) stop (λ c. walk reader (earlier ++ c ∷ []) (place + 1 + suc (suc (suc (suc n)))) n rest)) same
      ∙ ap (λ o. onward o stop (λ c. walk reader (earlier ++ c ∷ []) (place + 1 + suc (suc (suc (suc (length payload))))) (length payload) rest)) (sized_reads earlier next payload gate tail reads)
      ∙ walk_past (earlier ++ next ∷ []) (place + 1 + suc (suc (suc (suc (length payload))))) payload (gate ∷ tail)

  -- no bytes are the records of no commits
  pub no_records : AreRecords reader [] []
  no_records gate tail = refl

  -- the length of a record
  pub length-framed : (payload : List ℕ) → length (framed payload) ≡ length payload + 4
  length-framed payload = omega (arith, length-append (to_be_bytes w32 (length payload)) payload)

  -- one record more
  pub records_sized : (front : List ℕ) (commits : List C) (next : C) (a b c d : ℕ) (payload : List ℕ) → AreRecords reader front commits → from_be_bytes w32 (a ∷ b ∷ c ∷ d ∷ []) ≡ length payload → reader commits payload ≡ Some next
      → AreRecords reader (front ++ 1 ∷ a ∷ b ∷ c ∷ d ∷ payload) (commits ++ next ∷ [])
  records_sized front commits next a b c d payload records same reads gate tail =
      let long : length front + 1 + suc (suc (suc (suc (length payload)))) ≡ length (front ++ 1 ∷ a ∷ b ∷ c ∷ d ∷ payload) = omega (arith, length-append front (1 ∷ a ∷ b ∷ c ∷ d ∷ payload)) in
      ap (λ l. walk reader [] 0 0 l) (append_assoc front (1 ∷ a ∷ b ∷ c ∷ d ∷ payload) (gate ∷ tail))
      ∙ records 1 (a ∷ b ∷ c ∷ d ∷ (payload ++ gate ∷ tail))
      ∙ walk_sized commits (length front) next a b c d payload gate tail same reads
      ∙ ap (λ n. walk reader (commits ++ next ∷ []) n 0 (gate ∷ tail)) long

  -- the records with one more
  pub one_record_more : (front : List ℕ) (commits : List C) (next : C) (payload : List ℕ) → AreRecords reader front commits → length payload < 2 ^ 32 → reader commits payload ≡ Some next
      → AreRecords reader (front ++ 1 ∷ framed payload) (commits ++ next ∷ [])
  one_record_more front commits next payload records short reads =
      records_sized front commits next _ _ _ _ payload records (from_be_bytes-to_be_bytes_4 (length payload) short) reads

  -- what the walk finds before a gate byte that isn't 1
  pub walk_to_gate : (front : List ℕ) (commits : List C) (gate : ℕ) (tail : List ℕ) → AreRecords reader front commits → gate ≢ 1
      → walk reader [] 0 0 (front ++ gate ∷ tail) ≡ record { commits = commits; gate = length front }
  walk_to_gate front commits gate tail records shut = records gate tail ∙ walk_closed commits (length front) gate tail shut
