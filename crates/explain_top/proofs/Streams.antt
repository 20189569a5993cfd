-- What a call leaves of its streams. Used by `explain_by`, `explain_asked` and `explain`.
use Rattle.std.proofs.Common.{◌≡◌, ◌≢◌, ◌⊎◌, ℕ, ◌+◌, List, [], Some, None, take, inl, inr, refl, sym, ap, ◌∙◌, subst, arith}
use Rattle.std.proofs.lemmas.List.{append-nil}
use Rattle.explain_top.specs.CallEnds.{LeavesStreams}
use Rattle.explain_top.specs.Explained.{CanEnd, IsAnswered}
use Rattle.explain_top.specs.declared.command.Command.{Command}
use Rattle.explain_top.proofs.Delivered.{answered}
use Rattle.weave_data.specs.Limits.{most_bytes}
use Rattle.weave_io.specs.Told.{ToldBytes, Appends, AppendsPrefix, IsReadWhole, KeepsWritten, TakesAtMost, Tells}
use Rattle.weaver_top.specs.declared.status.Status.{Status}
use Rattle.weaver_top.specs.declared.status.Status.TheVariants.{Done, NotRight, Read, Refused, Write, Memory, Words}

-- a source that isn't asked gives nothing, and a sink that isn't takes nothing
pub takes_none : (left : ToldBytes) (most : ℕ) → TakesAtMost left left most
takes_none None most = (0, omega arith, (tt, refl))
takes_none (Some bytes) most = (0, omega arith, (omega arith, refl))

keeps_none : (before : ToldBytes) → KeepsWritten before before
keeps_none None = ([], refl)
keeps_none (Some bytes) = ([], ap Some (sym (append-nil bytes)))

-- nothing was written, since the source failed, memory ran out, or the words ask for nothing
pub untouched : (status : Status) (left rest before : ToldBytes) {SameStalls : Type 0} → SameStalls → (status ≡ Read) ⊎ (status ≡ Memory) ⊎ (status ≡ Words) → TakesAtMost left rest (most_bytes + 1) → (status ≡ Read → TakesAtMost left rest most_bytes) → LeavesStreams status left rest before before SameStalls
untouched status left rest before same why within in_time = record {
  all_is_read = λ is. absurd (other_end why is);
  read_first = λ is. absurd (other_start why is);
  read_in_time = in_time;
  rest_left = within;
  written_stays = keeps_none before;
  without_stall = λ other. same;
}
  where
    other_end : (status ≡ Read) ⊎ (status ≡ Memory) ⊎ (status ≡ Words) → (status ≡ Done) ⊎ (status ≡ NotRight) → ⊥
    other_end (inl why) (inl is) = cc
    other_end (inl why) (inr is) = cc
    other_end (inr (inl why)) (inl is) = cc
    other_end (inr (inl why)) (inr is) = cc
    other_end (inr (inr why)) (inl is) = cc
    other_end (inr (inr why)) (inr is) = cc

    other_start : (status ≡ Read) ⊎ (status ≡ Memory) ⊎ (status ≡ Words) → (status ≡ Refused) ⊎ (status ≡ Write) → ⊥
    other_start (inl why) (inl is) = cc
    other_start (inl why) (inr is) = cc
    other_start (inr (inl why)) (inl is) = cc
    other_start (inr (inl why)) (inr is) = cc
    other_start (inr (inr why)) (inl is) = cc
    other_start (inr (inr why)) (inr is) = cc

-- there was no answer
pub unread_streams : (status : Status) (left rest before : ToldBytes) {ReadFailed SameStalls : Type 0} → SameStalls → ((status ≡ Read) × ReadFailed) ⊎ (status ≡ Memory) → (status ≡ Read → TakesAtMost left rest most_bytes) → TakesAtMost left rest (most_bytes + 1) → LeavesStreams status left rest before before SameStalls
unread_streams status left rest before same (inl read) in_time within = untouched status left rest before same (inl read.0) within in_time
unread_streams status left rest before same (inr memory) in_time within = untouched status left rest before same (inr (inl memory)) within in_time

-- no command ends as a failed read does
pub no_read : (command : Command) (status : Status) → CanEnd command status → status ≢ Read
no_read command status ends is = other (answered command status ends)
  where
    other : IsAnswered status → ⊥
    other (inl (inl ended)) = cc
    other (inl (inr ended)) = cc
    other (inr ended) = cc

-- an answer was written, or some of it
pub answered_streams : (status result : Status) (left rest before after : ToldBytes) (text : List ℕ) {WriteFailed SameStalls : Type 0} → ((status ≡ Done) ⊎ (status ≡ NotRight) → Tells rest []) → IsReadWhole left rest → TakesAtMost left rest (most_bytes + 1) → ((result ≡ status) × Appends before after text) ⊎ ((result ≡ Write) × WriteFailed × AppendsPrefix before after text) → (result ≢ Write → SameStalls) → (status ≢ Read) → LeavesStreams result left rest before after SameStalls
answered_streams status result left rest before after text {WriteFailed} end whole within delivered same unfailed = record {
  all_is_read = read_to_end delivered;
  read_first = λ is. whole;
  read_in_time = λ is. absurd (not_read delivered is);
  rest_left = within;
  written_stays = stays delivered;
  without_stall = same;
}
  where
    read_to_end : ((result ≡ status) × Appends before after text) ⊎ ((result ≡ Write) × WriteFailed × AppendsPrefix before after text) → (result ≡ Done) ⊎ (result ≡ NotRight) → Tells rest []
    read_to_end (inl written) (inl is) = end (inl (sym written.0 ∙ is))
    read_to_end (inl written) (inr is) = end (inr (sym written.0 ∙ is))
    read_to_end (inr failed) (inl is) = absurd (let stopped = failed.0 in cc)
    read_to_end (inr failed) (inr is) = absurd (let stopped = failed.0 in cc)

    not_read : ((result ≡ status) × Appends before after text) ⊎ ((result ≡ Write) × WriteFailed × AppendsPrefix before after text) → result ≡ Read → ⊥
    not_read (inl written) is = unfailed (sym written.0 ∙ is)
    not_read (inr failed) is = let stopped = failed.0 in cc

    stays : ((result ≡ status) × Appends before after text) ⊎ ((result ≡ Write) × WriteFailed × AppendsPrefix before after text) → KeepsWritten before after
    stays (inl written) = (text, written.1)
    stays (inr failed) = let some = failed.2 in (take some.0 text, some.1)

-- with one of the three statuses the sink has stalled no more often
pub no_stall : {status : Status} {left rest before after : ToldBytes} {SameStalls : Type 0} → LeavesStreams status left rest before after SameStalls → (status ≡ Done) ⊎ (status ≡ NotRight) ⊎ (status ≡ Refused) → SameStalls
no_stall leaves (inl is) = leaves.without_stall (λ stopped. cc)
no_stall leaves (inr (inl is)) = leaves.without_stall (λ stopped. cc)
no_stall leaves (inr (inr is)) = leaves.without_stall (λ stopped. cc)
