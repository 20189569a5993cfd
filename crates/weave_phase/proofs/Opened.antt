-- Clients that were each put in a slot are in their places, and a row that was written anew is what was written.
-- Used by `run_parts`.
use Rattle.std.proofs.Common.{◌≡◌, ℕ, ◌<◌, List, ◌++◌, length, map, take, drop, Option, Some, ap, ◌∙◌, arith}
use Rattle.std.specs.Prelude.{slice_get}
use Rattle.std.specs.Option.{option_map}
use Rattle.std.proofs.lemmas.Option.{slice_get-map}
use Rattle.std.proofs.Math.Seq.{take-append_seam}
use Rattle.weaver_core.specs.declared.client.Client.{Client}
use Rattle.weave_phase.proofs.ReadySeats.{something-at}

-- each client is in its place
pub clients-in-slots : (clients : List Client) (slots : List (Option Client)) → slots ≡ map Some clients → length clients ≡ 64 → (session : ℕ) → session < 64
    → (client : Client) × (slice_get slots session ≡ Some (Some client))
clients-in-slots clients slots are many session low =
    let one = something-at clients session (omega (arith, many, low)) in
    (one.0, ap (λ (l : List (Option Client)). slice_get l session) are ∙ slice_get-map Some clients session ∙ ap (option_map Some) one.1)

-- a row whose elements were all written anew is what was written
pub written : {A : Type 0} (n : ℕ) (new old : List A) → n ≡ length new → take n (new ++ drop (length new) old) ≡ new
written n new old same = ap (λ k. take k (new ++ drop (length new) old)) same ∙ take-append_seam new (drop (length new) old)
