-- The words of `keep` ask for no other command.
use Rattle.std.proofs.Common.{◌≡◌, ◌⊎◌, inl, inr, ℕ, true, false, List, [], ◌∷◌, None, refl, sym, ◌∙◌}
use Rattle.std.proofs.lemmas.Bool.{both_ways}
use Rattle.std.proofs.lemmas.Option.{none-some}
use Rattle.weaver_top.specs.Commands.{AreWordsOf, command_of}
use Rattle.weaver_top.specs.declared.command.Command.{Command}
use Rattle.weaver_top.specs.declared.status.Status.{Status}
use Rattle.weaver_top.specs.declared.status.Status.TheVariants.{Done, Read, Refused, Memory, Words, NotRight, Disk, Foreign}
use Rattle.weave_keep.specs.KeepWords.{are_keep_words}

-- no command has these words
pub no_command : (words : List (List ℕ)) → are_keep_words words ≡ true → command_of words ≡ None
no_command [] is = absurd (both_ways false refl is)
no_command (word ∷ []) is = absurd (both_ways false refl is)
no_command (word ∷ path ∷ []) is = refl
no_command (a ∷ b ∷ c ∷ rest) is = absurd (both_ways false refl is)

-- so they aren't those of one
pub not_asked : (words : List (List ℕ)) (command : Command) → are_keep_words words ≡ true → AreWordsOf words command → ⊥
not_asked words command is asked = none-some command (sym (no_command words is) ∙ asked)

-- What `keep` says of its statuses, as `weave` says it

-- nothing was written
pub nothing_written : {P : Type 0} (status : Status) → (status ≡ Words → ⊥) → ((status ≡ Read) ⊎ (status ≡ Memory) ⊎ (status ≡ Disk) ⊎ (status ≡ Foreign) → P) → (status ≡ Words) ⊎ (status ≡ Read) ⊎ (status ≡ Memory) → P
nothing_written status never all (inl is) = absurd (never is)
nothing_written status never all (inr (inl is)) = all (inl is)
nothing_written status never all (inr (inr is)) = all (inr (inl is))

-- the sink didn't stall
pub without_stall : {P : Type 0} (status : Status) → (status ≡ NotRight → ⊥) → ((status ≡ Done) ⊎ (status ≡ Refused) → P) → (status ≡ Done) ⊎ (status ≡ NotRight) ⊎ (status ≡ Refused) → P
without_stall status never all (inl is) = all (inl is)
without_stall status never all (inr (inl is)) = absurd (never is)
without_stall status never all (inr (inr is)) = all (inr is)
