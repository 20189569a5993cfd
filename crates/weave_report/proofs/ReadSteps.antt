-- Steps that were read, one after another.
-- Used by AnswersRead, FieldsRead, PricedParts, PricedRead, RepliesRead, ReportAgain, ReportRead, RequestsRead,
-- StampsRead, StatesRead and crate weave_script.
use Rattle.std.proofs.Common.{◌≡◌, ◌||◌, Bool, true, false, cond, ◌⊎◌, inl, inr, refl, ap, ◌∙◌}
use Rattle.std.specs.Prelude.{Option, Some, None, Ok, Err}
use Rattle.std.specs.Str.{bytes_eq}
use Rattle.std.proofs.lemmas.Slice.Eq.{bytes_eq-Decides}
use Rattle.weave_data.proofs.Steps.{ok_is}
use Rattle.weave_text.specs.Lines.{Word}
use Rattle.weave_report.specs.declared.fault.ReportCause.{ReportCause}
use Rattle.weave_data.specs.Steps.{◌>>=◌}
use Rattle.weave_report.specs.ReadingFields.{ReadResult, or_cause}

-- if one of two tests passes and the first fails, the second passes
pub left_out : (x y : Bool) → (x || y) ≡ true → x ≡ false → y ≡ true
left_out true y e k = absurd cc
left_out false y e k = e

module _ {A : Type 0} where
  -- what is refused is not read
  pub err_is_not : (why : ReportCause) (y : A) → ◌≡◌ {A = ReadResult A} (Err why) (Ok y) → ⊥
  err_is_not why y e = cc

  -- a test that was passed
  pub passed : (b : Bool) (one : ReadResult A) (why : ReportCause) (y : A) → cond b one (Err why) ≡ Ok y → (b ≡ true) × (one ≡ Ok y)
  passed true one why y e = (refl, e)
  passed false one why y e = absurd (err_is_not why y e)

  -- which way a test went
  pub chosen : (b : Bool) (x y z : ReadResult A) → cond b x y ≡ z → ((b ≡ true) × (x ≡ z)) ⊎ ((b ≡ false) × (y ≡ z))
  chosen true x y z e = inl (refl, e)
  chosen false x y z e = inr (refl, e)

  -- a value that was read is there
  pub or_cause_read : (why : ReportCause) (o : Option A) (y : A) → or_cause why o ≡ Ok y → o ≡ Some y
  or_cause_read why None y e = absurd (err_is_not why y e)
  or_cause_read why (Some x) y e = ap (λ (x : A). Some x) (ok_is x y e)

  -- a value that is there is read
  pub or_cause_again : (why : ReportCause) (o : Option A) (y : A) → o ≡ Some y → or_cause why o ≡ Ok y
  or_cause_again why o y e = ap (or_cause why) e

  module _ {B : Type 0} where
    -- a step that gives something leaves the next
    pub then_ok : (one : ReadResult A) (next : A → ReadResult B) (x : A) (y : ReadResult B) → one ≡ Ok x → next x ≡ y → (one >>= next) ≡ y
    then_ok one next x y e k = ap (λ one. one >>= next) e ∙ k

-- the word is this text
pub is_word : (word text : Word) → bytes_eq word text ≡ true → word ≡ text
is_word word text e = (bytes_eq-Decides word text).0 e
