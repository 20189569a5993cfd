-- What a write that was done in part leaves of bytes that are split at a place.
-- Used by Adding, Closing and Forms.
use Rattle.std.proofs.Common.{◌≡◌, ℕ, ◌+◌, ◌-◌, min, List, [], ◌∷◌, ◌++◌, length, take, drop, replicate, get_or, refl, sym, ◌∙◌, ap, arith, append_assoc, length-append, take-append-drop}
use Rattle.std.proofs.lemmas.List.{take_at, drop_at, drop_more}
use Rattle.store_journal.specs.Disk.{Torn, written_at}

-- after a write from just after a closed gate on, the gate is there
pub torn_after : (front : List ℕ) (gate : ℕ) (tail : List ℕ) (n : ℕ) (c : List ℕ) → Torn (length front + 1) n (front ++ gate ∷ tail) c → c ≡ front ++ gate ∷ drop (length front + 1) c
torn_after front gate tail n c torn =
    let p = length front + 1 in
    let long : min p (length (front ++ gate ∷ tail)) ≡ p = omega (arith, length-append front (gate ∷ tail)) in
    let split : front ++ gate ∷ tail ≡ (front ++ gate ∷ []) ++ tail = sym (append_assoc front (gate ∷ []) tail) in
    let was : take p (front ++ gate ∷ tail) ≡ front ++ gate ∷ [] = ap (λ l. take p l) split ∙ take_at (front ++ gate ∷ []) tail p (length-append front (gate ∷ [])) in
    let is : take p c ≡ front ++ gate ∷ [] = ap (λ k. take k c) (sym long) ∙ torn.before ∙ ap (λ k. take k (front ++ gate ∷ tail)) long ∙ was in
    sym (take-append-drop p c) ∙ ap (λ l. l ++ drop p c) is ∙ append_assoc front (gate ∷ []) (drop p c)

-- after a write of a gate byte, all but the gate is there
pub torn_gate : (front : List ℕ) (gate : ℕ) (tail : List ℕ) (c : List ℕ) → Torn (length front) 1 (front ++ gate ∷ tail) c → c ≡ front ++ get_or c (length front) 0 ∷ tail
torn_gate front gate tail c torn =
    let p = length front in
    let all = length-append front (gate ∷ tail) in
    let long : min p (length (front ++ gate ∷ tail)) ≡ p = omega (arith, all) in
    let is : take p c ≡ front = ap (λ k. take k c) (sym long) ∙ torn.before ∙ ap (λ k. take k (front ++ gate ∷ tail)) long ∙ take_at front (gate ∷ tail) p refl in
    let split : front ++ gate ∷ tail ≡ (front ++ gate ∷ []) ++ tail = sym (append_assoc front (gate ∷ []) tail) in
    let rest : drop (p + 1) c ≡ tail = torn.after ∙ ap (λ l. drop (p + 1) l) split ∙ drop_at (front ++ gate ∷ []) tail (p + 1) (length-append front (gate ∷ [])) in
    let behind : drop p c ≡ get_or c p 0 ∷ tail = drop_more c p 0 (omega (arith, torn.no_shorter, all)) ∙ ap (λ l. get_or c p 0 ∷ l) rest in
    sym (take-append-drop p c) ∙ ap (λ l. l ++ drop p c) is ∙ ap (λ l. front ++ l) behind

-- bytes written from just after a gate on
pub written_after : (front : List ℕ) (gate : ℕ) (tail bytes : List ℕ) → written_at (length front + 1) bytes (front ++ gate ∷ tail) ≡ front ++ gate ∷ (bytes ++ drop (length front + 1 + length bytes) (front ++ gate ∷ tail))
written_after front gate tail bytes =
    let p = length front + 1 in
    let all = length-append front (gate ∷ tail) in
    let none : p - length (front ++ gate ∷ tail) ≡ 0 = omega (arith, all) in
    let split : front ++ gate ∷ tail ≡ (front ++ gate ∷ []) ++ tail = sym (append_assoc front (gate ∷ []) tail) in
    let was : take p (front ++ gate ∷ tail) ≡ front ++ gate ∷ [] = ap (λ l. take p l) split ∙ take_at (front ++ gate ∷ []) tail p (length-append front (gate ∷ [])) in
    let end = drop (p + length bytes) (front ++ gate ∷ tail) in
    ap (λ k. take p (front ++ gate ∷ tail) ++ (replicate k 0 ++ (bytes ++ end))) none
    ∙ ap (λ l. l ++ (bytes ++ end)) was ∙ append_assoc front (gate ∷ []) (bytes ++ end)

-- a gate byte written
pub written_gate : (front : List ℕ) (gate : ℕ) (tail : List ℕ) (byte : ℕ) → written_at (length front) (byte ∷ []) (front ++ gate ∷ tail) ≡ front ++ byte ∷ tail
written_gate front gate tail byte =
    let p = length front in
    let all = length-append front (gate ∷ tail) in
    let none : p - length (front ++ gate ∷ tail) ≡ 0 = omega (arith, all) in
    let split : front ++ gate ∷ tail ≡ (front ++ gate ∷ []) ++ tail = sym (append_assoc front (gate ∷ []) tail) in
    let rest : drop (p + 1) (front ++ gate ∷ tail) ≡ tail = ap (λ l. drop (p + 1) l) split ∙ drop_at (front ++ gate ∷ []) tail (p + 1) (length-append front (gate ∷ [])) in
    ap (λ k. take p (front ++ gate ∷ tail) ++ (replicate k 0 ++ (byte ∷ drop (p + 1) (front ++ gate ∷ tail)))) none
    ∙ ap (λ l. l ++ (byte ∷ drop (p + 1) (front ++ gate ∷ tail))) (take_at front (gate ∷ tail) p refl)
    ∙ ap (λ l. front ++ byte ∷ l) rest

-- bytes written from just after a gate on, and then the gate byte: all of them from the gate on
pub written_both : (front : List ℕ) (gate : ℕ) (tail bytes : List ℕ) (byte : ℕ) → written_at (length front) (byte ∷ []) (written_at (length front + 1) bytes (front ++ gate ∷ tail)) ≡ written_at (length front) (byte ∷ bytes) (front ++ gate ∷ tail)
written_both front gate tail bytes byte =
    let p = length front in
    let file = front ++ gate ∷ tail in
    let none : p - length file ≡ 0 = omega (arith, length-append front (gate ∷ tail)) in
    let end : p + length (byte ∷ bytes) ≡ p + 1 + length bytes = omega arith in
    let now : written_at p (byte ∷ bytes) file ≡ front ++ byte ∷ (bytes ++ drop (p + 1 + length bytes) file) =
    ap (λ k. take p file ++ (replicate k 0 ++ (byte ∷ (bytes ++ drop (p + length (byte ∷ bytes)) file)))) none
    ∙ ap (λ l. l ++ byte ∷ (bytes ++ drop (p + length (byte ∷ bytes)) file)) (take_at front (gate ∷ tail) p refl)
    ∙ ap (λ k. front ++ byte ∷ (bytes ++ drop k file)) end in
    ap (written_at p (byte ∷ [])) (written_after front gate tail bytes) ∙ written_gate front gate (bytes ++ drop (p + 1 + length bytes) file) byte ∙ sym now
