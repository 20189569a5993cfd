-- Steps that succeeded, one after another.
-- Used by crates weave_report and weave_script.
use Rattle.std.proofs.Common.{◌≡◌, Ok, Err, refl, ap}
use Rattle.std.specs.Prelude.{Result}
use Rattle.weave_data.specs.Steps.{◌>>=◌}

-- if two steps succeeded, the first did, and then the second
pub bind_ok : {A B E : Type 0} (one : Result A E) (next : A → Result B E) (y : B) → (one >>= next) ≡ Ok y → (x : A) × (one ≡ Ok x) × (next x ≡ Ok y)
bind_ok (Ok x) next y e = (x, refl, e)
bind_ok (Err fault) next y e = absurd cc

-- after a first step that succeeded, the result is that of the second
pub bind_at : {A B E : Type 0} (one : Result A E) (next : A → Result B E) (x : A) → one ≡ Ok x → (one >>= next) ≡ next x
bind_at one next x e = ap (λ step. step >>= next) e

abbrev ok : {A E : Type 0} → A → Result A E
ok x = Ok x

-- two equal results have equal values
pub ok_is : {A E : Type 0} (x y : A) → ok {E = E} x ≡ ok y → x ≡ y
ok_is x y e = cc
