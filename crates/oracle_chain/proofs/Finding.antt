-- The head is the first live one of a list, and the tail the last one.
-- Used by `count_live`, `head`, `next_live` and `tail`.
use Rattle.std.proofs.Common.{◌≡◌, ℕ, zero, suc, ◌+◌, ◌<◌, Bool, true, false, cond, List, [], ◌∷◌, ◌++◌, length, get_or, take, take-suc, length-take-le, map, Option, Some, None, refl, sym, ap, ◌∙◌, arith}
use Rattle.std.specs.Option.{option_map}
use Rattle.std.specs.List.{count_by}
use Rattle.std.proofs.lemmas.Bool.{cond-true, cond-false}
use Rattle.std.proofs.lemmas.List.Sums.{sum_by-cons}
use Rattle.oracle_chain.specs.Chain.{ReplicaView, head_number, number_after, tail_number, last_number, live_count}
use Rattle.oracle_chain.specs.Held.{HeldView, replica_of}

-- the first live one is the head
pub head-at : (xs : List HeldView) (i : ℕ) (d : HeldView) → i < length xs → ((k : ℕ) (e : HeldView) → k < i → (get_or xs k e).live ≡ false) → (get_or xs i d).live ≡ true → head_number (map replica_of xs) ≡ Some i
head-at [] i d within none live = absurd (omega (arith, within))
head-at (x ∷ xs) zero d within none live = cond-true _ _ _ live
head-at (x ∷ xs) (suc i) d within none live =
    cond-false _ _ _ (none 0 d (omega arith)) ∙ ap (option_map suc) (head-at xs i d (omega (arith, within)) (λ k e below. none (suc k) e (omega (arith, below))) live)

-- if none is live, there is no head
pub head-none : (xs : List HeldView) (d : HeldView) → ((k : ℕ) (e : HeldView) → k < length xs → (get_or xs k e).live ≡ false) → head_number (map replica_of xs) ≡ None
head-none [] d none = refl
head-none (x ∷ xs) d none =
    cond-false _ _ _ (none 0 d (omega arith)) ∙ ap (option_map suc) (head-none xs d (λ k e below. none (suc k) e (omega (arith, below))))

push-last : (x : HeldView) (o : Option ℕ) (b : Bool) (n : ℕ) → last_number (replica_of x) (cond b (Some n) o) ≡ cond b (Some (suc n)) (last_number (replica_of x) o)
push-last x o true n = refl
push-last x o false n = refl

-- with one more at the end, it is the tail if it is live
pub tail-push : (xs : List HeldView) (x : HeldView) → tail_number (map replica_of (xs ++ x ∷ [])) ≡ cond x.live (Some (length xs)) (tail_number (map replica_of xs))
tail-push [] x = refl
tail-push (y ∷ xs) x = ap (last_number (replica_of y)) (tail-push xs x) ∙ push-last y (tail_number (map replica_of xs)) x.live (length xs)

-- one replica more
pub tail-step : (xs : List HeldView) (n : ℕ) (d : HeldView) → n < length xs → tail_number (map replica_of (take (n + 1) xs)) ≡ cond (get_or xs n d).live (Some n) (tail_number (map replica_of (take n xs)))
tail-step xs n d within =
    ap (λ k. tail_number (map replica_of (take k xs))) (let e : n + 1 ≡ suc n = omega arith in e)
    ∙ ap (λ (l : List HeldView). tail_number (map replica_of l)) (take-suc xs n d within)
    ∙ tail-push (take n xs) (get_or xs n d)
    ∙ ap (λ k. cond (get_or xs n d).live (Some k) (tail_number (map replica_of (take n xs)))) (length-take-le n xs (omega (arith, within)))

-- What comes next

-- the first live one after a replica comes next
pub next-at : (xs : List HeldView) (n i : ℕ) (d : HeldView) → i < length xs → n < i → ((k : ℕ) (e : HeldView) → n < k → k < i → (get_or xs k e).live ≡ false) → (get_or xs i d).live ≡ true → number_after (map replica_of xs) n ≡ Some i
next-at [] n i d within after none live = absurd (omega (arith, within))
next-at (x ∷ xs) n zero d within after none live = absurd (omega (arith, after))
next-at (x ∷ xs) zero (suc i) d within after none live =
    ap (option_map suc) (head-at xs i d (omega (arith, within)) (λ k e below. none (suc k) e (omega arith) (omega (arith, below))) live)
next-at (x ∷ xs) (suc n) (suc i) d within after none live =
    ap (option_map suc) (next-at xs n i d (omega (arith, within)) (omega (arith, after)) (λ k e above below. none (suc k) e (omega (arith, above)) (omega (arith, below))) live)

-- if none after it is live, nothing comes next
pub next-none : (xs : List HeldView) (n : ℕ) (d : HeldView) → ((k : ℕ) (e : HeldView) → n < k → k < length xs → (get_or xs k e).live ≡ false) → number_after (map replica_of xs) n ≡ None
next-none [] n d none = refl
next-none (x ∷ xs) zero d none = ap (option_map suc) (head-none xs d (λ k e below. none (suc k) e (omega arith) (omega (arith, below))))
next-none (x ∷ xs) (suc n) d none = ap (option_map suc) (next-none xs n d (λ k e above below. none (suc k) e (omega (arith, above)) (omega (arith, below))))

-- How many are live

-- the live ones are counted as they are seen
pub live-held : (xs : List HeldView) → live_count (map replica_of xs) ≡ count_by (λ (x : HeldView). x.live) xs
live-held [] = refl
live-held (x ∷ xs) =
    sum_by-cons (λ (r : ReplicaView). cond r.live 1 0) (replica_of x) (map replica_of xs)
    ∙ ap (λ n. cond x.live 1 0 + n) (live-held xs)
    ∙ sym (sum_by-cons (λ (y : HeldView). cond y.live 1 0) x xs)
