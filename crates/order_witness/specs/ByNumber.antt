-- Lists, one for each number below a bound. No public contract cites it.
use Rattle.std.specs.Prelude.{◌≡◌, ℕ, List, [], Some, slice_get, slice_index_or, Contains, if◌then◌else◌, ◌∷◌, ◌==◌}
use Rattle.report_rules.specs.declared.report.Reply.{Reply}
use Rattle.report_rules.specs.declared.report.ReplyState.{ReplyState}
use Rattle.report_rules.specs.declared.report.ReplyState.TheVariants.{Refused}
use Rattle.order_witness.specs.Refusals.{refused_after}

-- the list of a number, empty past the bound
abbrev pub list_at : List (List ℕ) → ℕ → List ℕ
list_at lists n = slice_index_or lists n []

-- the list has the place of each reply that is refused after this number of commits
abbrev pub HasRefused : ℕ → List Reply → List ℕ → Type 0
HasRefused after replies places =
    (place : ℕ) (reply : Reply) → slice_get replies place ≡ Some reply → refused_after reply.state ≡ Some after
    → Contains places place

-- the place of a reply, if it is refused after this number of commits
abbrev pub place_if_refused : ℕ → ℕ → ReplyState → List ℕ
place_if_refused after place (Refused op reason at) = if at == after then place ∷ [] else []
place_if_refused after place _ = []
