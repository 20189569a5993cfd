-- The test of the limits passes exactly the scripts that are within them.
-- Used by `is_within_limits`.
use Rattle.std.proofs.Common.{◌≡◌, ℕ, zero, suc, Bool, ◌&&◌, List, [], ◌∷◌, IsTrue, length, refl, subst, Some, nat_le, nat_lt}
use Rattle.std.specs.Prelude.{◌↔◌, slice_get}
use Rattle.std.specs.List.{list_all}
use Rattle.std.proofs.lemmas.Bool.{and_parts, and_from, leb-true, le-leb, ltb-true, lt-ltb}
use Rattle.program_defs.specs.Works.{ops_of}
use Rattle.program_defs.specs.Limits.{IsWithinLimits, are_counts_within_limits, is_request_within}
use Rattle.program_defs.specs.declared.script.Request.{Request}
use Rattle.program_defs.specs.declared.script.Script.{Script}

module _ (test : Request → Bool) where
  all-at : (xs : List Request) (r : ℕ) (x : Request) → IsTrue (list_all test xs) → slice_get xs r ≡ Some x → IsTrue (test x)
  all-at [] r x all at = cc
  all-at (y ∷ ys) zero x all at = let same : y ≡ x = cc in subst (λ z. IsTrue (test z)) same (and_parts (test y) _ all).0
  all-at (y ∷ ys) (suc r) x all at = all-at ys r x (and_parts (test y) _ all).1 at

  all-from : (xs : List Request) → ((r : ℕ) (x : Request) → slice_get xs r ≡ Some x → IsTrue (test x)) → IsTrue (list_all test xs)
  all-from [] each = refl
  all-from (y ∷ ys) each = and_from _ _ (each 0 y refl) (all-from ys (λ r x at. each (suc r) x at))

-- the test passes exactly the scripts that are within the limits
pub within-limits : (script : Script) → IsTrue (are_counts_within_limits script.gates script.shards (length script.requests) && list_all (is_request_within script.gates) script.requests) ↔ IsWithinLimits script
within-limits script = (to, from)
  where
    to : IsTrue (are_counts_within_limits script.gates script.shards (length script.requests) && list_all (is_request_within script.gates) script.requests) → IsWithinLimits script
    to h =
        let parts = and_parts (are_counts_within_limits script.gates script.shards (length script.requests)) _ h in
        let header = and_parts (nat_le 1 script.gates && nat_le 1 script.shards) _ parts.0 in
        let some = and_parts (nat_le 1 script.gates) _ header.0 in
        let few = and_parts (nat_le script.gates 8 && nat_le script.shards 16) _ header.1 in
        let nodes = and_parts (nat_le script.gates 8) _ few.0 in
        record {
          some_gate = leb-true 1 script.gates some.0;
          few_gates = leb-true script.gates 8 nodes.0;
          some_shard = leb-true 1 script.shards some.1;
          few_shards = leb-true script.shards 16 nodes.1;
          few_requests = leb-true (length script.requests) 10000 few.1;
          homes = λ r request at. ltb-true request.gate script.gates (and_parts (nat_lt request.gate script.gates) _ (and_parts (nat_lt request.gate script.gates && nat_lt request.session 64) _ (all-at (is_request_within script.gates) script.requests r request parts.1 at)).0).0;
          sessions = λ r request at. ltb-true request.session 64 (and_parts (nat_lt request.gate script.gates) _ (and_parts (nat_lt request.gate script.gates && nat_lt request.session 64) _ (all-at (is_request_within script.gates) script.requests r request parts.1 at)).0).1;
          few_ops = λ r request at. leb-true (length (ops_of request.work)) 64 (and_parts (nat_lt request.gate script.gates && nat_lt request.session 64) _ (all-at (is_request_within script.gates) script.requests r request parts.1 at)).1;
        }

    from : IsWithinLimits script → IsTrue (are_counts_within_limits script.gates script.shards (length script.requests) && list_all (is_request_within script.gates) script.requests)
    from is =
        and_from _ _
        (and_from _ _ (and_from _ _ (le-leb 1 script.gates is.some_gate) (le-leb 1 script.shards is.some_shard))
        (and_from _ _ (and_from _ _ (le-leb script.gates 8 is.few_gates) (le-leb script.shards 16 is.few_shards)) (le-leb (length script.requests) 10000 is.few_requests)))
        (all-from (is_request_within script.gates) script.requests (λ r request at.
        and_from _ _ (and_from _ _ (lt-ltb request.gate script.gates (is.homes r request at)) (lt-ltb request.session 64 (is.sessions r request at))) (le-leb (length (ops_of request.work)) 64 (is.few_ops r request at))))
