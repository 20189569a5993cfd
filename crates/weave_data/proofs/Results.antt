-- What follows from a clause on a result, for each way in which a call can end.
-- Used by 8 crates above.
use Rattle.std.proofs.Common.{Result, Ok, Err, IsOk, OnOk, OnErr}

-- what follows from what holds on success holds on success
pub on_ok_map : {A E : Type 0} (result : Result A E) (P Q : Type 0) → (P → Q) → OnOk result P → OnOk result Q
on_ok_map (Ok a) P Q go p = go p
on_ok_map (Err e) P Q go p = tt

-- what follows from what holds after an error holds after an error
pub on_err_map : {A E : Type 0} (result : Result A E) (P Q : Type 0) → (P → Q) → OnErr result P → OnErr result Q
on_err_map (Ok a) P Q go p = tt
on_err_map (Err e) P Q go p = go p

-- what is known anyway is known after an error
pub on_err_known : {A E : Type 0} (result : Result A E) (P : Type 0) → P → OnErr result P
on_err_known (Ok a) P p = tt
on_err_known (Err e) P p = p

-- what holds on success holds if a call succeeds
pub with_ok : {A E : Type 0} (P : Type 0) (result : Result A E) → IsOk result → OnOk result P → P
with_ok P (Ok a) ok holds = holds
with_ok P (Err e) ok holds = absurd (cc)
