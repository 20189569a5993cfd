-- The author of a program's begin, by its gatekeeper's log.
-- Used by FinishDone.
use Rattle.std.proofs.Common.{◌≡◌, ◌⊎◌, ℕ, suc, ◌<◌, true, false, List, [], ◌∷◌, length, take, get_or, Contains, IsTrue, Some, inl, inr, refl, sym, ap, subst, ◌∙◌}
use Rattle.std.specs.Prelude.{◌==◌, fold, if◌then◌else◌}
use Rattle.std.specs.List.{find}
use Rattle.std.proofs.Math.Seq.{take-suc}
use Rattle.std.proofs.lemmas.Bool.{both_ways, cases_Bool, eq-eqb, eqb-true}
use Rattle.std.proofs.lemmas.List.Sums.{fold-append}
use Rattle.std.proofs.lemmas.Option.{same_Some}
use Rattle.weave_data.proofs.Members.{find_has, flat_has, has_flat, has_head, has_none, has_read, has_tail}
use Rattle.weave_data.proofs.Ordered.{find_by_key}
use Rattle.program_defs.specs.declared.script.Script.{Script}
use Rattle.weave_entries.specs.declared.gate_log.GateEntry.{GateEntry}
use Rattle.weave_entries.specs.declared.gate_log.GateDeed.{GateDeed}
use Rattle.weave_entries.specs.declared.gate_log.GateDeed.TheVariants.{BeganTx, BeganProgram, Sent, Nop, Heard, Raised, Finished}
use Rattle.weave_entries.specs.GateReplay.{BegunRequest, program_begun, program_by, programs_of}
use Rattle.weave_account.specs.declared.account.Account.{Account}
use Rattle.weave_account.specs.Account.{all_begun, gate_log}
use Rattle.weave_account.specs.IsAccount.{IsAccount}
use Rattle.weaver_core.specs.Finishing.{begins_program, last_author}
use Rattle.weaver_core.proofs.CanVisit.{inside}

-- the author after an entry
abbrev pub author-after : ℕ → ℕ → GateEntry → ℕ
author-after r author entry = if begins_program r entry.deed then entry.author else author

-- the last author of a request in one more of a log's entries is that in those before, changed by this entry
pub one-more : (r : ℕ) (log : List GateEntry) (place : ℕ) (entry : GateEntry) → place < length log → entry ≡ get_or log place entry
    → last_author r (take (suc place) log) ≡ author-after r (last_author r (take place log)) entry
one-more r log place entry within is =
    ap (last_author r) (take-suc log place entry within)
    ∙ fold-append (author-after r) 0 (take place log) (get_or log place entry ∷ [])
    ∙ ap (author-after r (last_author r (take place log))) (sym is)

-- an entry of the log begins the program, and the author is its own
record IsOfBegin (r : ℕ) (log : List GateEntry) (author : ℕ) : Type 0 where
  entry : GateEntry
  among : Contains log entry
  begins : begins_program r entry.deed ≡ true
  author_is : entry.author ≡ author

-- no entry of the log begins it
abbrev NoneBegins : ℕ → List GateEntry → Type 0
NoneBegins r log = (entry : GateEntry) → Contains log entry → begins_program r entry.deed ≡ false

last-cases : (r author : ℕ) (log : List GateEntry) → ((fold (author-after r) author log ≡ author) × NoneBegins r log) ⊎ IsOfBegin r log (fold (author-after r) author log)
last-cases r author [] = inl (refl, λ entry h. absurd (has_none entry h))
last-cases r author (e ∷ log) = elim (last-cases r (author-after r author e) log) [
  | inr of ↦ inr (record { entry = of.entry; among = has_tail e log of.entry of.among; begins = of.begins; author_is = of.author_is })
  | inl none ↦ elim (cases_Bool (begins_program r e.deed)) [
    | inl yes-it ↦ inr (record { entry = e; among = has_head e log; begins = yes-it; author_is = sym (none.0 ∙ ap (λ b. if b then e.author else author) yes-it) })
    | inr no-it ↦ inl (
      none.0 ∙ ap (λ b. if b then e.author else author) no-it,
      λ entry h. elim (has_read e log entry h) [
        | inl same ↦ subst (λ (one : GateEntry). begins_program r one.deed ≡ false) same no-it
        | inr more ↦ none.1 entry more
      ],
    )
  ]
]

-- what such an entry began
deed-begins : (r author : ℕ) (deed : GateDeed) → begins_program r deed ≡ true → (b : BegunRequest) × Contains (program_by author deed) b × ((b.request ≡ r) × (b.author ≡ author))
deed-begins r author (BeganProgram q stamp) h = (record { author = author; request = q; stamp = stamp }, has_head _ [], (eqb-true q r h, refl))
deed-begins r author (BeganTx q stamp) h = absurd (let f : false ≡ true = h in cc)
deed-begins r author (Sent q messages) h = absurd (let f : false ≡ true = h in cc)
deed-begins r author (Nop shard number stamp low) h = absurd (let f : false ≡ true = h in cc)
deed-begins r author (Heard clock) h = absurd (let f : false ≡ true = h in cc)
deed-begins r author (Raised epoch) h = absurd (let f : false ≡ true = h in cc)
deed-begins r author (Finished q) h = absurd (let f : false ≡ true = h in cc)

begins-deed : (author : ℕ) (deed : GateDeed) (b : BegunRequest) → Contains (program_by author deed) b → begins_program b.request deed ≡ true
begins-deed author (BeganProgram q stamp) b h = elim (has_read _ [] b h) [
  | inl same ↦ eq-eqb q b.request (ap (λ (one : BegunRequest). one.request) same)
  | inr none ↦ absurd (has_none b none)
]
begins-deed author (BeganTx q stamp) b h = absurd (has_none b h)
begins-deed author (Sent q messages) b h = absurd (has_none b h)
begins-deed author (Nop shard number stamp low) b h = absurd (has_none b h)
begins-deed author (Heard clock) b h = absurd (has_none b h)
begins-deed author (Raised epoch) b h = absurd (has_none b h)
begins-deed author (Finished q) b h = absurd (has_none b h)

-- the last begin of a program is its only one
pub last-author-is : (script : Script) (account : Account) → IsAccount script account → (home r : ℕ) (b : BegunRequest) → program_begun r (gate_log account home) ≡ Some b → last_author r (gate_log account home) ≡ b.author
last-author-is script account is home r b begun-is = elim (last-cases r 0 log) [
  | inl none ↦
      let entry = flat_has (λ (e : GateEntry). program_by e.author e.deed) log b found.0 in
      absurd (both_ways (begins_program r entry.0.deed) (none.1 entry.0 entry.1) (subst (λ n. begins_program n entry.0.deed ≡ true) its-request (begins-deed entry.0.author entry.0.deed b entry.2)))
  | inr of ↦
      let one = deed-begins r of.entry.author of.entry.deed of.begins in
      let there = inside one.0 account.gates home (has_flat (λ (e : GateEntry). program_by e.author e.deed) log of.entry one.0 of.among one.1) in
      let first : Some b ≡ Some one.0 =
      sym (find_by_key (λ (c : BegunRequest). c.request) (all_begun account) b is.gatekeepers.once (inside b account.gates home found.0))
      ∙ ap (λ n. find (λ (c : BegunRequest). c.request == n) (all_begun account)) (its-request ∙ sym one.2.0)
      ∙ find_by_key (λ (c : BegunRequest). c.request) (all_begun account) one.0 is.gatekeepers.once there in
      sym of.author_is ∙ sym one.2.1 ∙ ap (λ (c : BegunRequest). c.author) (sym (same_Some b one.0 first))
]
  where
    log : List GateEntry
    log = gate_log account home

    found : Contains (programs_of log) b × IsTrue (b.request == r)
    found = find_has (λ (one : BegunRequest). one.request == r) (programs_of log) b begun-is

    its-request : b.request ≡ r
    its-request = eqb-true b.request r found.1
