-- Of each session the greatest request listed so far. No public contract cites it.
use Rattle.std.specs.Prelude.{◌≡◌, ℕ, ◌≤◌, ◌<◌, Bool, not, ◌||◌, nat_lt, IsTrue, List, length, Option, Some, None, ⊤}
use Rattle.std.specs.List.{list_all}
use Rattle.program_defs.specs.declared.script.Script.{Script}
use Rattle.program_defs.specs.declared.script.Request.{Request}
use Rattle.report_rules.specs.Lookups.{is_in, request_at, same_session}
use Rattle.order_witness.specs.Heads.{item}

-- none of these is a later request of the session of r
abbrev pub is_last_of_session : Script → List ℕ → ℕ → Bool
is_last_of_session script before r =
    list_all (λ earlier. not (same_session script earlier r) || nat_lt earlier r) before

-- each listed request of a session that the table has is below the session's number in it
abbrev pub AreBelowTops : Script → List ℕ → List ℕ → Type 0
AreBelowTops script listed tops =
    (e : ℕ) (x : Request) → IsTrue (is_in e listed) → request_at script e ≡ Some x → x.session < length tops
    → e < item tops x.session

-- of the request, if it is there, the table has the session with at most its number
abbrev pub IsAtTop : Option Request → ℕ → List ℕ → Type 0
IsAtTop None r tops = ⊤
IsAtTop (Some x) r tops = (x.session < length tops) × (item tops x.session ≤ r)

-- the request is put into the table
pub record IsPutTop (script : Script) (r : ℕ) (old new : List ℕ) (surely : Bool) : Type 0 where
  pub size : length new ≡ length old
  pub no_less : (s : ℕ) → item old s ≤ item new s
  pub above : (x : Request) → request_at script r ≡ Some x → x.session < length new → r < item new x.session
  pub first : IsTrue surely → IsAtTop (request_at script r) r old
