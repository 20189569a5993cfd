-- A payload is read as the commit that it says, and only as that.
-- Used by `payloads_say_commits` and `said_after`.
use Rattle.std.proofs.Common.{◌≡◌, ℕ, ◌≤◌, Bool, true, false, ◌&&◌, ◌==◌, cond, List, [], ◌∷◌, ◌++◌, length, drop, Option, Some, None, refl, sym, ◌∙◌, ap, subst, arith, nat_le, nat_lt, length-append}
use Rattle.std.specs.Prelude.{IfOk, Result, Ok, Err}
use Rattle.std.specs.Int.{w64, from_be_bytes}
use Rattle.std.specs.List.{AllByRecursion}
use Rattle.std.specs.Str.{bytes_eq}
use Rattle.std.proofs.lemmas.Bool.{and_from, and_parts, cond-true, cond-false, le-leb, leb-true, le-ltb}
use Rattle.std.proofs.lemmas.Nat.{from_be_bytes-to_be_bytes_8}
use Rattle.std.proofs.lemmas.Slice.Eq.{bytes_eq-Decides}
use Rattle.weave_data.specs.Limits.{most_ops}
use Rattle.vector_stamp.specs.Order.{own_count}
use Rattle.vector_stamp.specs.declared.clock.Stamp.{Stamp}
use Rattle.graph_ops.specs.declared.op.Op.{Op}
use Rattle.weave_text.specs.Cutting.{lines_of}
use Rattle.weave_text.specs.Lines.{Bytes}
use Rattle.weave_script.proofs.Binds.{pick}
use Rattle.weave_script.specs.Scripts.{IsOfVersion, IsOperation}
use Rattle.store_journal.specs.Journal.{onward}
use Rattle.store_journal.specs.Payloads.{Has64Bits, Says, commit_said, commit_with, has_join, if_written_so, kept_stamp, ops_after, ops_text, payload_of, said_after, stamp_bytes, stamp_of_bytes, version_byte}
use Rattle.store_journal.specs.declared.kept_commit.Commit.{Commit}
use Rattle.store_journal.proofs.SaidOps.{OpLaws, are_read, text_read}

same_some : {A : Type 0} (x y : A) → Some x ≡ Some y → x ≡ y
same_some x y e = cc

none_some : {A X : Type 0} (x : A) → None ≡ Some x → X
none_some x e = absurd cc

head_is : (x y : ℕ) (xs ys : Bytes) → x ∷ xs ≡ y ∷ ys → x ≡ y
head_is x y xs ys e = cc

-- a value that follows was there
pub went_on : {A B : Type 0} (found : Option A) (rest : A → Option B) (y : B) → onward found None rest ≡ Some y
    → (x : A) × (found ≡ Some x) × (rest x ≡ Some y)
went_on None rest y e = none_some y e
went_on (Some x) rest y e = (x, refl, e)

-- equal bytes by their test
pub equal_bytes : (a b : Bytes) → bytes_eq a b ≡ true → a ≡ b
equal_bytes a b e = (bytes_eq-Decides a b).0 e

-- the version's byte says whether there is a join
version_is : (joins : Bool) → (cond joins 2 1 == 2) ≡ joins
version_is true = refl
version_is false = refl

-- a commit that was written so
pub record IsWrittenSo (payload : Bytes) (made commit : Commit) : Type 0 where
  pub same : made ≡ commit
  pub few : length commit.ops ≤ most_ops
  pub payload_is : payload_of commit ≡ payload

-- what was found to be written so
pub written_so : (payload : Bytes) (made commit : Commit) → if_written_so payload made ≡ Some commit → IsWrittenSo payload made commit
written_so payload made commit e =
    pick (nat_le (length made.ops) most_ops && bytes_eq (payload_of made) payload) (Some made) None (Some commit) e
    (λ passed is.
    let same : made ≡ commit = same_some made commit is in
    let parts = and_parts (nat_le (length made.ops) most_ops) (bytes_eq (payload_of made) payload) passed in
    record {
      same = same;
      few = subst (λ (c : Commit). length c.ops ≤ most_ops) same (leb-true (length made.ops) most_ops parts.0);
      payload_is = ap payload_of (sym same) ∙ equal_bytes (payload_of made) payload parts.1;
    })
    (λ failed is. none_some commit is)

module _ (laws : OpLaws) where
  said_with : (payload : Bytes) (version : ℕ) (rest : Bytes) (commit : Commit) → payload ≡ version ∷ rest
      → (ops : List Op) → ops_after (version == 2) [] (lines_of (drop 16 rest)) ≡ Some ops
      → if_written_so payload (commit_with (stamp_of_bytes rest) ops) ≡ Some commit → Says payload commit
  said_with payload version rest commit parts ops read e =
      let so = written_so payload (commit_with (stamp_of_bytes rest) ops) commit e in
      let of = are_read laws (version == 2) [] (lines_of (drop 16 rest)) ops (tt, tt) read in
      let ops_are : ops ≡ commit.ops = ap (λ (c : Commit). c.ops) so.same in
      let byte : version_byte commit.ops ≡ version = head_is (version_byte commit.ops) version _ _ (so.payload_is ∙ parts) in
      let joins : (version == 2) ≡ has_join commit.ops = ap (λ v. v == 2) (sym byte) ∙ version_is (has_join commit.ops) in
      record {
        stamp = subst (λ (c : Commit). c.stamp ≡ kept_stamp c.stamp.clock.epoch (own_count c.stamp)) so.same refl;
        ops = record {
          few = so.few;
          names = subst (AllByRecursion IsOperation) ops_are of.0;
          version = subst (λ j. AllByRecursion (IsOfVersion j) commit.ops) joins (subst (AllByRecursion (IsOfVersion (version == 2))) ops_are of.1);
        };
        payload_is = sym so.payload_is;
      }

  -- what is read is said
  pub says : (payload : Bytes) (commit : Commit) → commit_said payload ≡ Some commit → Says payload commit
  says [] commit e = none_some commit e
  says (version ∷ rest) commit e =
      let payload = version ∷ rest in
      let next : List Op → Option Commit = λ ops. if_written_so payload (commit_with (stamp_of_bytes rest) ops) in
      let read = ops_after (version == 2) [] (lines_of (drop 16 rest)) in
      pick (nat_lt (length rest) 16) None (onward read None next) (Some commit) e
      (λ short is. none_some commit is)
      (λ long is.
      let step = went_on read next commit is in
      said_with payload version rest commit refl step.0 step.1 step.2)

  -- and what is said is read
  pub is_said : (payload : Bytes) (commit : Commit) → Says payload commit → Has64Bits commit.stamp → commit_said payload ≡ Some commit
  is_said payload commit said bits =
      let c = commit in
      let rest = stamp_bytes c.stamp ++ ops_text c.ops in
      let version = version_byte c.ops in
      let epoch : from_be_bytes w64 rest ≡ c.stamp.clock.epoch = from_be_bytes-to_be_bytes_8 c.stamp.clock.epoch bits.0 in
      let count : from_be_bytes w64 (drop 8 rest) ≡ own_count c.stamp = from_be_bytes-to_be_bytes_8 (own_count c.stamp) bits.1 in
      let stamp : stamp_of_bytes rest ≡ c.stamp = (λ i. kept_stamp (epoch i) (count i)) ∙ sym said.stamp in
      let joins : (version == 2) ≡ has_join c.ops = version_is (has_join c.ops) in
      let read : ops_after (version == 2) [] (lines_of (drop 16 rest)) ≡ Some c.ops =
      ap (λ j. ops_after j [] (lines_of (ops_text c.ops))) joins ∙ text_read laws (has_join c.ops) c.ops (said.ops.names, said.ops.version) in
      let long : nat_lt (length rest) 16 ≡ false = le-ltb (length rest) 16 (omega (arith, length-append (stamp_bytes c.stamp) (ops_text c.ops))) in
      let so : if_written_so (version ∷ rest) c ≡ Some c =
      cond-true (nat_le (length c.ops) most_ops && bytes_eq (version ∷ rest) (version ∷ rest)) (Some c) None
      (and_from _ _ (le-leb (length c.ops) most_ops said.ops.few) ((bytes_eq-Decides (version ∷ rest) (version ∷ rest)).1 refl)) in
      ap commit_said said.payload_is
      ∙ cond-false (nat_lt (length rest) 16) None (onward (ops_after (version == 2) [] (lines_of (drop 16 rest))) None (λ ops. if_written_so (version ∷ rest) (commit_with (stamp_of_bytes rest) ops))) long
      ∙ ap (λ o. onward o None (λ ops. if_written_so (version ∷ rest) (commit_with (stamp_of_bytes rest) ops))) read
      ∙ ap (λ s. if_written_so (version ∷ rest) (commit_with s c.ops)) stamp
      ∙ so

-- what is said after a version's byte, once the stamp and the operations were read
pub said_at : (payload : Bytes) (version : ℕ) (rest : Bytes) (stamp : Stamp) (ops : List Op) → 16 ≤ length rest
    → ops_after (version == 2) [] (lines_of (drop 16 rest)) ≡ Some ops → stamp ≡ stamp_of_bytes rest
    → said_after payload version rest ≡ if_written_so payload (commit_with stamp ops)
said_at payload version rest stamp ops long read stamp_is =
    let next : List Op → Option Commit = λ ops. if_written_so payload (commit_with (stamp_of_bytes rest) ops) in
    cond-false (nat_lt (length rest) 16) None (onward (ops_after (version == 2) [] (lines_of (drop 16 rest))) None next) (le-ltb (length rest) 16 long)
    ∙ ap (λ o. onward o None next) read
    ∙ ap (λ s. if_written_so payload (commit_with s ops)) (sym stamp_is)

-- an outcome that is this is also what that is
pub if_ok_same : {A E : Type 0} (result : Result A E) (x y : A) → x ≡ y → IfOk result (λ said. said ≡ x) → IfOk result (λ said. said ≡ y)
if_ok_same (Ok value) x y same is = is ∙ same
if_ok_same (Err fault) x y same is = tt
