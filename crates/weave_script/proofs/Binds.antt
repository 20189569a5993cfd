-- Tests that were passed on the way of reading.
-- Used by FieldLaws, HeaderLaws, OpLaws, Reached, RequestLaws and StepLaws.
use Rattle.std.proofs.Common.{◌≡◌, Bool, true, false, cond, refl}

-- which way a test went
pub pick : {A P : Type 0} (b : Bool) (x y z : A) → cond b x y ≡ z → (b ≡ true → x ≡ z → P) → (b ≡ false → y ≡ z → P) → P
pick true x y z e first second = first refl e
pick false x y z e first second = second refl e
