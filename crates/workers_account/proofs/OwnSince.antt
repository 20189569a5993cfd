-- The own entries of a log: of what was added to it they are those that were gained, and what entries begin and judge
-- has their author.
-- Used by BegunPlaces, Own, OwnLogs, Parts and crate sessions_account.
use Rattle.std.proofs.Common.{◌≡◌, ℕ, ◌==◌, Bool, true, false, cond, List, [], ◌∷◌, ◌++◌, length, map, drop, refl, sym, ap, ◌∙◌}
use Rattle.std.specs.List.{filter, flat_map}
use Rattle.std.proofs.Math.Seq.{drop-append_seam}
use Rattle.std.proofs.lemmas.List.{append_cancel_left}
use Rattle.std.proofs.lemmas.List.Elements.{filter-append}
use Rattle.weave_entries.specs.declared.gate_log.GateEntry.{GateEntry}
use Rattle.weave_entries.specs.declared.gate_log.GateDeed.{GateDeed}
use Rattle.weave_entries.specs.declared.gate_log.GateDeed.TheVariants.{BeganTx, BeganProgram, Sent, Nop, Heard, Raised, Finished}
use Rattle.weave_entries.specs.declared.store_log.StoreEntry.{StoreEntry}
use Rattle.weave_entries.specs.declared.store_log.StoreDeed.{StoreDeed}
use Rattle.weave_entries.specs.declared.store_log.StoreDeed.TheVariants.{Judged}
use Rattle.weave_entries.specs.GateReplay.{BegunRequest, begun_by, begun_in, program_by, programs_of}
use Rattle.weave_entries.specs.StoreReplay.{Judgement, judged_by, judgements_of}
use Rattle.seen_logs.specs.Seen.{entries_since}

-- What was gained

module _ {E : Type 0} (own : E → Bool) where
  -- the own entries of what was added are those that were gained
  pub own-gained : (log more made gained : List E) → made ≡ filter own log → filter own (log ++ more) ≡ made ++ gained
      → filter own more ≡ gained
  own-gained log more made gained was is =
      append_cancel_left made (filter own more) gained (ap (λ l. l ++ filter own more) was ∙ sym (filter-append own log more) ∙ is)

  -- the own entries of a log since its start are those that were gained
  pub own-since : (start seen more made_start made gained : List E) → seen ≡ start ++ more → made_start ≡ filter own start
      → made ≡ filter own seen → made ≡ made_start ++ gained → filter own (entries_since start seen) ≡ gained
  own-since start seen more made_start made gained on first last is =
      ap (filter own) (ap (drop (length start)) on ∙ drop-append_seam start more)
      ∙ own-gained start more made_start gained first (sym (ap (filter own) on) ∙ sym last ∙ is)

-- What is made of entries

module _ {E A : Type 0} (own : E → Bool) (passes : A → Bool) where
  -- what passes of the lists that are made of entries is what is made of the own ones
  flat-own : (f : E → List A) → ((entry : E) → filter passes (f entry) ≡ cond (own entry) (f entry) []) → (log : List E)
      → filter passes (flat_map f log) ≡ flat_map f (filter own log)
  flat-own f each [] = refl
  flat-own f each (entry ∷ log) =
      filter-append passes (f entry) (flat_map f log) ∙ ap (λ l. filter passes (f entry) ++ l) (flat-own f each log)
      ∙ at (own entry) (each entry)
    where
      at : (b : Bool) → filter passes (f entry) ≡ cond b (f entry) []
          → filter passes (f entry) ++ flat_map f (filter own log) ≡ flat_map f (cond b (entry ∷ filter own log) (filter own log))
      at true is = ap (λ l. l ++ flat_map f (filter own log)) is
      at false is = ap (λ l. l ++ flat_map f (filter own log)) is

  -- and so of what is made of each
  map-own : (f : E → A) → ((entry : E) → passes (f entry) ≡ own entry) → (log : List E)
      → filter passes (map f log) ≡ map f (filter own log)
  map-own f each [] = refl
  map-own f each (entry ∷ log) =
      ap (λ l. cond (passes (f entry)) (f entry ∷ l) l) (map-own f each log)
      ∙ ap (λ b. cond b (f entry ∷ map f (filter own log)) (map f (filter own log))) (each entry)
      ∙ at (own entry)
    where
      at : (b : Bool) → cond b (f entry ∷ map f (filter own log)) (map f (filter own log))
          ≡ map f (cond b (entry ∷ filter own log) (filter own log))
      at true = refl
      at false = refl

-- the same, either way
either-way : (b : Bool) (begun : List BegunRequest) → begun ≡ cond b begun begun
either-way true begun = refl
either-way false begun = refl

-- The logs

-- what a deed begins has the deed's author
own-begin : (number author : ℕ) (deed : GateDeed) → filter (λ (b : BegunRequest). b.author == number) (begun_by author deed)
    ≡ cond (author == number) (begun_by author deed) []
own-begin number author (BeganTx r stamp) = refl
own-begin number author (BeganProgram r stamp) = refl
own-begin number author (Sent r messages) = either-way (author == number) []
own-begin number author (Nop shard n stamp low) = either-way (author == number) []
own-begin number author (Heard clock) = either-way (author == number) []
own-begin number author (Raised epoch) = either-way (author == number) []
own-begin number author (Finished r) = either-way (author == number) []

own-program : (number author : ℕ) (deed : GateDeed) → filter (λ (b : BegunRequest). b.author == number) (program_by author deed)
    ≡ cond (author == number) (program_by author deed) []
own-program number author (BeganTx r stamp) = either-way (author == number) []
own-program number author (BeganProgram r stamp) = refl
own-program number author (Sent r messages) = either-way (author == number) []
own-program number author (Nop shard n stamp low) = either-way (author == number) []
own-program number author (Heard clock) = either-way (author == number) []
own-program number author (Raised epoch) = either-way (author == number) []
own-program number author (Finished r) = either-way (author == number) []

own-judged : (number author : ℕ) (deed : StoreDeed) → ((judged_by author deed).author == number) ≡ (author == number)
own-judged number author (Judged r stamp ops asked verdict) = refl

-- what an author began is what its entries began
pub begun-by-author : (number : ℕ) (log : List GateEntry) → filter (λ (b : BegunRequest). b.author == number) (begun_in log)
    ≡ begun_in (filter (λ (e : GateEntry). e.author == number) log)
begun-by-author number log =
    flat-own (λ (e : GateEntry). e.author == number) (λ (b : BegunRequest). b.author == number)
    (λ (e : GateEntry). begun_by e.author e.deed) (λ (e : GateEntry). own-begin number e.author e.deed) log

-- the programs that an author began are those that its entries began
pub programs-by-author : (number : ℕ) (log : List GateEntry) → filter (λ (b : BegunRequest). b.author == number) (programs_of log)
    ≡ programs_of (filter (λ (e : GateEntry). e.author == number) log)
programs-by-author number log =
    flat-own (λ (e : GateEntry). e.author == number) (λ (b : BegunRequest). b.author == number)
    (λ (e : GateEntry). program_by e.author e.deed) (λ (e : GateEntry). own-program number e.author e.deed) log

-- what was judged for an author is what its entries judged
pub judged-by-author : (number : ℕ) (log : List StoreEntry)
    → filter (λ (judged : Judgement). judged.author == number) (judgements_of log)
    ≡ judgements_of (filter (λ (e : StoreEntry). e.author == number) log)
judged-by-author number log =
    map-own (λ (e : StoreEntry). e.author == number) (λ (judged : Judgement). judged.author == number)
    (λ (e : StoreEntry). judged_by e.author e.deed) (λ (e : StoreEntry). own-judged number e.author e.deed) log
