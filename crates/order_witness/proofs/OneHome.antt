-- Of two begun requests of one home the stamps are ordered, as their epochs and own counts are.
-- Used by Printing.
use Rattle.std.proofs.Common.{◌≡◌, ℕ, not, ◌||◌, ◌&&◌, IsTrue, Some, eqb, ◌⊎◌, inl, inr, sym}
use Rattle.std.proofs.lemmas.Bool.{and_parts, both_ways, cases_order, eq-eqb, not-true, or_cases}
use Rattle.vector_stamp.specs.declared.clock.Stamp.{Stamp}
use Rattle.vector_stamp.specs.Order.{are_apart, id_before, stamp_before}
use Rattle.program_defs.specs.declared.script.Script.{Script}
use Rattle.report_rules.specs.declared.report.Report.{Report}
use Rattle.weave_data.specs.Facts.{AllHold}
use Rattle.report_rules.specs.RightReport.{replies_clause}
use Rattle.report_rules.specs.Lookups.{stamp_at}
use Rattle.order_witness.proofs.Replying.{apart_so}

-- stamps of one home that are apart are ordered, as their ids are
apart_cases : (s t : Stamp) → s.home ≡ t.home → IsTrue (are_apart s t) → (IsTrue (id_before s t) × IsTrue (stamp_before s t)) ⊎ (IsTrue (id_before t s) × IsTrue (stamp_before t s))
apart_cases s t home h =
    elim (or_cases (not (eqb s.home t.home) || (id_before s t && stamp_before s t)) (id_before t s && stamp_before t s) h) [
      | inr after ↦ inr (and_parts (id_before t s) (stamp_before t s) after)
      | inl first ↦ elim (or_cases (not (eqb s.home t.home)) (id_before s t && stamp_before s t) first) [
        | inl other ↦ absurd (both_ways (eqb s.home t.home) (not-true (eqb s.home t.home) other) (eq-eqb s.home t.home home))
        | inr before ↦ inl (and_parts (id_before s t) (stamp_before s t) before)
      ]
    ]

-- of two begun requests that are others, the stamps of one home are ordered as their ids are
pub one_home : (report : Report) (script : Script) → AllHold (replies_clause script report) → (a b : ℕ) (s t : Stamp) → stamp_at report a ≡ Some s → stamp_at report b ≡ Some t → (a ≡ b → ⊥) → s.home ≡ t.home → (IsTrue (id_before s t) × IsTrue (stamp_before s t)) ⊎ (IsTrue (id_before t s) × IsTrue (stamp_before t s))
one_home report script holds a b s t at_a at_b other home =
    elim (cases_order a b) [
      | inl same ↦ absurd (other same)
      | inr either ↦ elim either [
        | inl less ↦ apart_cases s t home (apart_so script report holds a b s t less at_a at_b)
        | inr more ↦ elim (apart_cases t s (sym home) (apart_so script report holds b a t s more at_b at_a)) [ inl first ↦ inr first | inr second ↦ inl second ]
      ]
    ]
