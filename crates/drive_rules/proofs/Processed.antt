-- What a shard has processed: of each channel the messages from 1 to its processed count, and each of them had arrived.
-- Used by ReadyFor and SomeHead.
use Rattle.std.proofs.Common.{◌≡◌, ℕ, ◌+◌, ◌≤◌, nat_eq, cond, List, [], ◌∷◌, ◌++◌, Contains, Some, inl, inr, refl, sym, ap, subst, ◌∙◌, arith}
use Rattle.std.proofs.lemmas.Bool.{cases_eq, eq-eqb, ne_eqb}
use Rattle.std.proofs.lemmas.List.{append-nil}
use Rattle.std.proofs.lemmas.List.Elements.{Contains-append_cases, Contains-append_left, Contains-append_right}
use Rattle.weave_data.proofs.Entries.{by_entries}
use Rattle.weave_data.proofs.Members.{has_head, has_none, only}
use Rattle.program_defs.specs.declared.script.Script.{Script}
use Rattle.weave_entries.specs.declared.message.Message.{Message}
use Rattle.weave_entries.specs.declared.shard_log.ShardEntry.{ShardEntry}
use Rattle.weave_entries.specs.declared.shard_log.ShardDeed.{ShardDeed}
use Rattle.weave_entries.specs.declared.shard_log.ShardDeed.TheVariants.{Arrived, Applied, Visited, Collected}
use Rattle.weave_entries.specs.ShardReplay.{arrived_at, processed_by, processed_count, processed_of}
use Rattle.weave_account.specs.declared.account.Account.{Account}
use Rattle.weave_account.specs.Shards.{Applies, AreShardDeeds, ShardFitsAs}
use Rattle.drive_rules.specs.LowerLaws.{LawsForReadiness}

-- the processed messages of each channel are those with the numbers 1 to its processed number, and had arrived
pub record AreFirst (log : List ShardEntry) : Type 0 where
  pub within : (home number : ℕ) → Contains (processed_of log) (home, number) → (1 ≤ number) × (number ≤ processed_count home log)
  pub all : (home number : ℕ) → 1 ≤ number → number ≤ processed_count home log → Contains (processed_of log) (home, number)
  pub there : (home number : ℕ) → Contains (processed_of log) (home, number) → (message : Message) × (arrived_at home number log ≡ Some message)

module _ (laws : LawsForReadiness) where
  -- a deed that processes nothing keeps them
  still : (log : List ShardEntry) (entry : ShardEntry) → processed_by entry.deed ≡ [] → AreFirst log → AreFirst (log ++ entry ∷ [])
  still log entry none so-far =
      let same : processed_of (log ++ entry ∷ []) ≡ processed_of log = laws.logs.processed log entry ∙ ap (λ more. processed_of log ++ more) none ∙ append-nil (processed_of log) in
      record {
        within = λ home number h. (
            let was = so-far.within home number (subst (λ of. Contains of (home, number)) same h) in
            let count = laws.logs.count_still log entry none home in
            let high = was.1 in
            (was.0, omega (arith, high, count))
            );
        all = λ home number low high. (
            let count = laws.logs.count_still log entry none home in
            subst (λ of. Contains of (home, number)) (sym same) (so-far.all home number low (omega (arith, high, count)))
            );
        there = λ home number h. (
            let m = so-far.there home number (subst (λ of. Contains of (home, number)) same h) in
            (m.0, laws.logs.stay log entry home number m.0 m.1)
            );
      }

  module _ (log : List ShardEntry) (author home number : ℕ) (fits : Applies log home number) (so-far : AreFirst log) where
    abbrev entry : ShardEntry
    entry = record { author = author; deed = Applied home number }

    push : processed_of (log ++ record { author = author; deed = Applied home number } ∷ []) ≡ processed_of log ++ (home, number) ∷ []
    push = laws.logs.processed log (record { author = author; deed = Applied home number })

    -- the head arrived under its number
    arrived : arrived_at home number (log ++ record { author = author; deed = Applied home number } ∷ []) ≡ Some fits.message
    arrived = laws.logs.stay log (record { author = author; deed = Applied home number }) home number fits.message (ap (λ n. arrived_at home n log) fits.number_is ∙ fits.head)

    applied-within : (g n : ℕ) → Contains (processed_of (log ++ record { author = author; deed = Applied home number } ∷ [])) (g, n) → (1 ≤ n) × (n ≤ processed_count g (log ++ record { author = author; deed = Applied home number } ∷ []))
    applied-within g n h =
        let count = laws.logs.counted log author home number g in
        elim (Contains-append_cases (processed_of log) ((home, number) ∷ []) (g, n) (subst (λ of. Contains of (g, n)) push h)) [
          | inl before ↦ (let was = so-far.within g n before in let high = was.1 in (was.0, omega (arith, high, count)))
          | inr new ↦
              let same = only (home, number) (g, n) new in
              let same-home : home ≡ g = ap (λ (k : ℕ × ℕ). k.0) same in
              let same-number : number ≡ n = ap (λ (k : ℕ × ℕ). k.1) same in
              let one : cond {A = ℕ} (nat_eq home g) 1 0 ≡ 1 = ap (λ b. cond {A = ℕ} b 1 0) (eq-eqb home g same-home) in
              let number-g : number ≡ processed_count g log + 1 = subst (λ k. number ≡ processed_count k log + 1) same-home fits.number_is in
              (omega (arith, number-g, same-number), omega (arith, count, one, number-g, same-number))
        ]

    applied-all : (g n : ℕ) → 1 ≤ n → n ≤ processed_count g (log ++ record { author = author; deed = Applied home number } ∷ []) → Contains (processed_of (log ++ record { author = author; deed = Applied home number } ∷ [])) (g, n)
    applied-all g n low high =
        let count = laws.logs.counted log author home number g in
        subst (λ of. Contains of (g, n)) (sym push)
        (elim (cases_eq home g) [
          | inr differ ↦
              let none : cond {A = ℕ} (nat_eq home g) 1 0 ≡ 0 = ap (λ b. cond {A = ℕ} b 1 0) (ne_eqb home g differ) in
              Contains-append_left (processed_of log) ((home, number) ∷ []) (g, n) (so-far.all g n low (omega (arith, high, count, none)))
          | inl same ↦
              let one : cond {A = ℕ} (nat_eq home g) 1 0 ≡ 1 = ap (λ b. cond {A = ℕ} b 1 0) (eq-eqb home g same) in
              elim (cases_eq n (processed_count g log + 1)) [
                | inr other ↦ Contains-append_left (processed_of log) ((home, number) ∷ []) (g, n) (so-far.all g n low (omega (arith, high, count, one, other)))
                | inl last ↦
                    let number-g : number ≡ n = subst (λ k. number ≡ processed_count k log + 1) same fits.number_is ∙ sym last in
                    let pair : (home, number) ≡ (g, n) = λ i. (same i, number-g i) in
                    Contains-append_right (processed_of log) ((home, number) ∷ []) (g, n) (subst (λ (k : ℕ × ℕ). Contains ((home, number) ∷ []) k) pair (has_head (home, number) []))
              ]
        ])

    applied-there : (g n : ℕ) → Contains (processed_of (log ++ record { author = author; deed = Applied home number } ∷ [])) (g, n) → (message : Message) × (arrived_at g n (log ++ record { author = author; deed = Applied home number } ∷ []) ≡ Some message)
    applied-there g n h =
        elim (Contains-append_cases (processed_of log) ((home, number) ∷ []) (g, n) (subst (λ of. Contains of (g, n)) push h)) [
          | inl before ↦ (let m = so-far.there g n before in (m.0, laws.logs.stay log entry g n m.0 m.1))
          | inr new ↦
              let same = only (home, number) (g, n) new in
              (fits.message, subst (λ (k : ℕ × ℕ). arrived_at k.0 k.1 (log ++ entry ∷ []) ≡ Some fits.message) same arrived)
        ]

    applies : AreFirst (log ++ record { author = author; deed = Applied home number } ∷ [])
    applies = record { within = applied-within; all = applied-all; there = applied-there }

  deed-keeps : (script : Script) (account : Account) (shard : ℕ) (log : List ShardEntry) (author : ℕ) (deed : ShardDeed) → ShardFitsAs script account shard log deed → AreFirst log → AreFirst (log ++ record { author = author; deed = deed } ∷ [])
  deed-keeps script account shard log author (Applied home number) fits so-far = applies log author home number fits so-far
  deed-keeps script account shard log author (Arrived home number message) fits so-far = still log (record { author = author; deed = Arrived home number message }) refl so-far
  deed-keeps script account shard log author (Visited r stamp v n settled) fits so-far = still log (record { author = author; deed = Visited r stamp v n settled }) refl so-far
  deed-keeps script account shard log author (Collected bound) fits so-far = still log (record { author = author; deed = Collected bound }) refl so-far

  -- in a log of right deeds the processed messages of each channel are the first ones, and had arrived
  pub are-first : (script : Script) (account : Account) (shard : ℕ) (log : List ShardEntry) → AreShardDeeds script account shard log → AreFirst log
  are-first script account shard =
      by_entries (λ before (entry : ShardEntry). ShardFitsAs script account shard before entry.deed) AreFirst
      (record {
        within = λ home number h. absurd (has_none (home, number) h);
        all = λ home number low high. absurd (omega (arith, low, high));
        there = λ home number h. absurd (has_none (home, number) h);
      })
      (λ log entry each fits so-far. deed-keeps script account shard log entry.author entry.deed fits so-far)
