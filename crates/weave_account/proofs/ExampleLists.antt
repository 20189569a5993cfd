-- Short lists of worked accounts: what is said of each entry, of each element, of each two.
-- Used by ExampleEpoch, ExampleMarked, ExampleParts, ExamplePath, ExampleReader, ExampleRefusal, ExampleReports,
-- ExampleWriters and crates hands_account and seen_logs.
use Rattle.std.proofs.Common.{◌≡◌, ℕ, zero, suc, List, [], ◌∷◌, Contains, AllPairs, get_or, inl, inr, refl, subst, arith, ◌<◌}
use Rattle.std.specs.Prelude.{replicate}
use Rattle.std.specs.List.{AllByRecursion}
use Rattle.weave_data.proofs.Entries.{each_none, each_push}
use Rattle.weave_data.proofs.Members.{has_head, has_none, has_read, only}
use Rattle.weave_data.proofs.Ordered.{pairs_cons}
use Rattle.weave_entries.specs.Logs.{AtEachEntry}

module _ {E : Type 0} (P : List E → E → Type 0) where
  -- a log of one entry
  pub one : (a : E) → P [] a → AtEachEntry P (a ∷ [])
  one a pa = each_push P [] a (each_none P) pa

  -- what holds of each of two entries, with those before it, holds at each entry of the log of the two
  pub two : (a b : E) → P [] a → P (a ∷ []) b → AtEachEntry P (a ∷ b ∷ [])
  two a b pa pb = each_push P (a ∷ []) b (one a pa) pb

  -- what holds of each of three entries, with those before it, holds at each entry of the log of the three
  pub three : (a b c : E) → P [] a → P (a ∷ []) b → P (a ∷ b ∷ []) c → AtEachEntry P (a ∷ b ∷ c ∷ [])
  three a b c pa pb pc = each_push P (a ∷ b ∷ []) c (two a b pa pb) pc

  -- what holds of each of four entries, with those before it, holds at each entry of the log of the four
  pub four : (a b c d : E) → P [] a → P (a ∷ []) b → P (a ∷ b ∷ []) c → P (a ∷ b ∷ c ∷ []) d → AtEachEntry P (a ∷ b ∷ c ∷ d ∷ [])
  four a b c d pa pb pc pd = each_push P (a ∷ b ∷ c ∷ []) d (three a b c pa pb pc) pd

  -- what holds of each of five entries, with those before it, holds at each entry of the log of the five
  pub five : (a b c d e : E) → P [] a → P (a ∷ []) b → P (a ∷ b ∷ []) c → P (a ∷ b ∷ c ∷ []) d → P (a ∷ b ∷ c ∷ d ∷ []) e
      → AtEachEntry P (a ∷ b ∷ c ∷ d ∷ e ∷ [])
  five a b c d e pa pb pc pd pe = each_push P (a ∷ b ∷ c ∷ d ∷ []) e (four a b c d pa pb pc pd) pe

  -- what holds of each of six entries, with those before it, holds at each entry of the log of the six
  pub six : (a b c d e f : E) → P [] a → P (a ∷ []) b → P (a ∷ b ∷ []) c → P (a ∷ b ∷ c ∷ []) d → P (a ∷ b ∷ c ∷ d ∷ []) e
      → P (a ∷ b ∷ c ∷ d ∷ e ∷ []) f → AtEachEntry P (a ∷ b ∷ c ∷ d ∷ e ∷ f ∷ [])
  six a b c d e f pa pb pc pd pe pf = each_push P (a ∷ b ∷ c ∷ d ∷ e ∷ []) f (five a b c d e pa pb pc pd pe) pf

-- a list of one has its element
pub in-one : {A : Type 0} (x : A) → Contains (x ∷ []) x
in-one x = has_head x []

-- the only number below 1 is 0
pub only-zero : (n : ℕ) → n < 1 → 0 ≡ n
only-zero zero less = refl
only-zero (suc n) less = absurd (omega (arith, less))

-- each count of a list of zeros is 0
pub zeros : (n home : ℕ) → get_or {A = ℕ} (replicate n 0) home 0 ≡ 0
zeros zero home = refl
zeros (suc n) zero = refl
zeros (suc n) (suc home) = zeros n home

-- what is so of each element in turn is so of each member
pub of-each : {A : Type 0} (P : A → Type 0) (xs : List A) → AllByRecursion P xs → (x : A) → Contains xs x → P x
of-each P [] all x h = absurd (has_none x h)
of-each P (y ∷ xs) all x h = elim (has_read y xs x h) [ inl same ↦ subst P same all.0 | inr more ↦ of-each P xs all.1 x more ]

-- a list of one has no two
pub pairs-one : {A : Type 0} (R : A → A → Type 0) (x : A) → AllPairs R (x ∷ [])
pairs-one R x i j d below within = absurd (omega (arith, below, within))

-- a list of two has one pair
pub pairs-two : {A : Type 0} (R : A → A → Type 0) (x y : A) → R x y → AllPairs R (x ∷ y ∷ [])
pairs-two R x y r zero zero d below within = absurd (omega (arith, below))
pairs-two R x y r zero (suc zero) d below within = r
pairs-two R x y r zero (suc (suc j)) d below within = absurd (omega (arith, within))
pairs-two R x y r (suc i) zero d below within = absurd (omega (arith, below))
pairs-two R x y r (suc i) (suc zero) d below within = absurd (omega (arith, below))
pairs-two R x y r (suc i) (suc (suc j)) d below within = absurd (omega (arith, within))

-- a list of three has three
pub pairs-three : {A : Type 0} (R : A → A → Type 0) (x y z : A) → R x y → R x z → R y z → AllPairs R (x ∷ y ∷ z ∷ [])
pairs-three R x y z xy xz yz =
    pairs_cons R x (y ∷ z ∷ [])
    (λ w h. elim (has_read y (z ∷ []) w h) [ inl same ↦ subst (R x) same xy | inr more ↦ subst (R x) (only z w more) xz ])
    (pairs-two R y z yz)
