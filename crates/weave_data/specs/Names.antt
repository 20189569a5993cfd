-- Names: 1 to 32 small letters a to z, digits and underscores. A contract sees a name as the list of its bytes.
use Rattle.std.specs.Prelude.{◌≡◌, refl, true, T, ℕ, ◌-◌, ◌%◌, Bool, IsTrue, take, ◌&&◌, ◌||◌, List, ◌++◌, length, sum, replicate, ◌==◌, nat_le}
use Rattle.std.proofs.Common.{subst, sym}
use Rattle.std.specs.List.{list_all}
use Rattle.std.specs.declared.cmp.Ordering.{Ordering}
use Rattle.std.specs.declared.cmp.Ordering.TheVariants.{Less, Equal, Greater}
use Rattle.std.specs.Ordering.{nat_cmp, is_eq, eq_by_cmp}
use Rattle.std.specs.FinMap.{nat_cmp-IsAntisymmetric, slice_cmp-IsAntisymmetric}
use Rattle.std.specs.Cmp.Lexicographic.{slice_cmp}
use Rattle.weave_data.specs.Limits.{most_letters}

-- a to z, 0 to 9, or the underscore
abbrev pub is_name_byte : ℕ → Bool
is_name_byte b = (nat_le 97 b && nat_le b 122) || (nat_le 48 b && nat_le b 57) || b == 95

-- 1 to 32 such bytes
abbrev pub is_name : List ℕ → Bool
is_name bytes = nat_le 1 (length bytes) && nat_le (length bytes) most_letters && list_all is_name_byte bytes

-- the order of names: by their bytes, a prefix first
abbrev pub name_cmp : List ℕ → List ℕ → Ordering
name_cmp = slice_cmp nat_cmp

-- whether two names are the same
abbrev pub same_name : List ℕ → List ℕ → Bool
same_name = eq_by_cmp name_cmp

is_equal : (o : Ordering) → is_eq o ≡ true → o ≡ Equal
is_equal Less e = absurd (subst T (sym e) tt)
is_equal Equal e = refl
is_equal Greater e = absurd (subst T (sym e) tt)

-- names that are the same have the same bytes
pub one_name : (a b : List ℕ) → same_name a b ≡ true → a ≡ b
one_name a b same = slice_cmp-IsAntisymmetric nat_cmp-IsAntisymmetric a b (is_equal _ same)

-- a vertex's shard: the sum of its name's bytes modulo the number of shards
abbrev pub shard_of : List ℕ → ℕ → ℕ
shard_of name shards = sum name % shards

-- 32 bytes that begin with these, and are 0 after them
abbrev pub padded_bytes : List ℕ → List ℕ
padded_bytes bytes = bytes ++ replicate (most_letters - length bytes) 0

-- the first `len` of the 32 bytes are a name, and the others are 0
abbrev pub IsStored : ℕ → List ℕ → Type 0
IsStored len letters = (IsTrue (is_name (take len letters))) × (len ≡ length (take len letters))
    × (letters ≡ padded_bytes (take len letters))
