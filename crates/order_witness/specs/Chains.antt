-- Chains of requests, each of which leads directly to the next: by its stamp, or by a pair.
use Rattle.std.specs.Prelude.{◌≡◌, ℕ, ◌≤◌, Bool, false, ◌||◌, IsTrue, List, [], ◌∷◌, length, Option, Some, None, slice_get}
use Rattle.program_defs.specs.declared.script.Script.{Script}
use Rattle.report_rules.specs.declared.report.Report.{Report}
use Rattle.report_rules.specs.declared.report.Pair.{Pair}
use Rattle.report_rules.specs.Lookups.{same_session}
use Rattle.order_witness.specs.declared.chain.Link.{Link}
use Rattle.order_witness.specs.declared.chain.Link.TheVariants.{Session, Stamp, Joined}
use Rattle.order_witness.specs.Begun.{is_request_before, is_pair_between, pairs_lead}

-- a's stamp is before that of b, or a pair joins a to b, both begun
abbrev pub leads_in_one_step : Report → ℕ → ℕ → Bool
leads_in_one_step report a b = is_request_before report a b || pairs_lead report.replies report.pairs a b

-- of two requests whose stamps are in turn, this says whether they are of one session
abbrev pub IsLinkOfStamps : Script → ℕ → ℕ → Link → Type 0
IsLinkOfStamps script a b Session = IsTrue (same_session script a b)
IsLinkOfStamps script a b Stamp = same_session script a b ≡ false
IsLinkOfStamps script a b (Joined place) = ⊥

-- the first request leads directly to the second by its stamp, in a session or not, or else by this pair; or it doesn't
abbrev pub IsLinkBetween : Script → Report → ℕ → ℕ → Option Link → Type 0
IsLinkBetween script report a b None = leads_in_one_step report a b ≡ false
IsLinkBetween script report a b (Some Session) =
    IsTrue (is_request_before report a b) × IsTrue (same_session script a b)
IsLinkBetween script report a b (Some Stamp) =
    IsTrue (is_request_before report a b) × (same_session script a b ≡ false)
IsLinkBetween script report a b (Some (Joined place)) =
    (is_request_before report a b ≡ false)
    × ((pair : Pair) × (slice_get report.pairs place ≡ Some pair) × IsTrue (is_pair_between report.replies a b pair))

-- from a the requests follow one another, each led to directly by the one before, and the last one is b
abbrev pub IsChain : Report → ℕ → List ℕ → ℕ → Type 0
IsChain report a [] b = a ≡ b
IsChain report a (x ∷ rest) b = IsTrue (leads_in_one_step report a x) × IsChain report x rest b

-- a chain of at least one step, and none of at least one step has fewer
pub record IsShortestChain (report : Report) (a b : ℕ) (chain : List ℕ) : Type 0 where
  pub some : ¬ (chain ≡ [])
  pub is : IsChain report a chain b
  pub least : (other : List ℕ) → ¬ (other ≡ []) → IsChain report a other b → length chain ≤ length other
