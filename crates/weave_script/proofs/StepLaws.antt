-- A step is read only from its one line, and that is read as it.
-- Used by Reached and ReadAgain.
use Rattle.std.proofs.Common.{◌≡◌, ℕ, ◌-◌, ◌≤◌, ◌<◌, true, List, [], ◌∷◌, length, Option, Some, None, Ok, refl, sym, ap, ◌∙◌, subst, arith, lit<}
use Rattle.std.specs.Prelude.{codes}
use Rattle.std.specs.Fmt.{decimal}
use Rattle.std.specs.List.{AllByRecursion, IsDistinct}
use Rattle.std.specs.Str.{bytes_eq}
use Rattle.weave_data.specs.Names.{same_name}
use Rattle.weave_data.specs.declared.name.Name.{Name}
use Rattle.program_defs.specs.declared.script.Request.{Request}
use Rattle.program_defs.specs.declared.script.Step.{Step}
use Rattle.program_defs.specs.declared.script.Step.TheVariants.{Begin, Judge, Send, Say, Hear, Nop, Deliver, Apply, Visit, Reply, Collect, Epoch, Restart}
use Rattle.weave_text.specs.Lines.{Word, Line}
use Rattle.weave_script.specs.declared.fault.Cause.{Cause}
use Rattle.weave_script.specs.declared.fault.Cause.TheVariants as causes
use Rattle.weave_data.specs.Steps.{◌>>=◌}
use Rattle.weave_script.specs.Fields.{or_refused, name_word, number_in}
use Rattle.weave_script.specs.ScriptLines.{step_line, name_of_request}
use Rattle.weave_script.specs.Scripts.{IsRequest, IsStep, IsNotice, request_names}
use Rattle.weave_script.specs.Steps.{place_of, named_request, gate_word, shard_word, notice_word, epoch_word, of_gate, of_shard, of_request, hear_of, nop_of, apply_of, of_epoch, deliver_of, step_of, step_of_one, step_of_two, step_of_three}
use Rattle.weave_data.proofs.Steps.{bind_ok, bind_at, ok_is}
use Rattle.weave_report.proofs.ReadSteps.{is_word}
use Rattle.weave_script.proofs.Binds.{pick}
use Rattle.weave_script.proofs.FieldLaws.{NumberLaws, name_of-ok, name_of-name, number_in-ok, number_in-number}
use Rattle.weave_script.proofs.HeaderLaws.{AreSizes}
use Rattle.weave_script.proofs.Places.{named-from_place_of, place_of-name, request_is_named}

module _ (laws : NumberLaws) (gates shards : ℕ) (sizes : AreSizes gates shards) (requests : List Request) where
  abbrev places : Name → Option ℕ
  places name = place_of name requests

  -- ---- fields

  below-ok : (most : ℕ) (cause : Cause) (word : Word) (n : ℕ) → 1 ≤ most → most ≤ 16 → number_in 0 (most - 1) cause word ≡ Ok n → (n < most) × (word ≡ decimal n)
  below-ok most cause word n some few e =
      let h = number_in-ok laws 0 (most - 1) cause word n (omega arith) e in
      (omega (arith, h.1), h.2)

  below-number : (most : ℕ) (cause : Cause) (n : ℕ) → most ≤ 16 → n < most → number_in 0 (most - 1) cause (decimal n) ≡ Ok n
  below-number most cause n few h = number_in-number laws 0 (most - 1) cause n (omega arith) (omega arith) (omega arith)

  gate-ok : (word : Word) (n : ℕ) → gate_word gates word ≡ Ok n → (n < gates) × (word ≡ decimal n)
  gate-ok word n e = below-ok gates causes.Gatekeeper word n sizes.gates.0 (omega (arith, sizes.gates.1)) e

  gate-number : (n : ℕ) → n < gates → gate_word gates (decimal n) ≡ Ok n
  gate-number n h = below-number gates causes.Gatekeeper n (omega (arith, sizes.gates.1)) h

  shard-ok : (word : Word) (n : ℕ) → shard_word shards word ≡ Ok n → (n < shards) × (word ≡ decimal n)
  shard-ok word n e = below-ok shards causes.Shard word n sizes.shards.0 sizes.shards.1 e

  shard-number : (n : ℕ) → n < shards → shard_word shards (decimal n) ≡ Ok n
  shard-number n h = below-number shards causes.Shard n sizes.shards.1 h

  notice-ok : (word : Word) (n : ℕ) → notice_word word ≡ Ok n → IsNotice n × (word ≡ decimal n)
  notice-ok word n e = let h = number_in-ok laws 1 100000 causes.Number word n (lit< tt) e in ((h.0, h.1), h.2)

  notice-number : (n : ℕ) → IsNotice n → notice_word (decimal n) ≡ Ok n
  notice-number n h = number_in-number laws 1 100000 causes.Number n (lit< tt) h.0 h.1

  epoch-ok : (word : Word) (n : ℕ) → epoch_word word ≡ Ok n → (1 ≤ n) × (n ≤ 1000000) × (word ≡ decimal n)
  epoch-ok word n e = number_in-ok laws 1 1000000 causes.Number word n (lit< tt) e

  epoch-number : (n : ℕ) → 1 ≤ n → n ≤ 1000000 → epoch_word (decimal n) ≡ Ok n
  epoch-number n low high = number_in-number laws 1 1000000 causes.Number n (lit< tt) low high

  found : (o : Option ℕ) (n : ℕ) → or_refused causes.Request o ≡ Ok n → o ≡ Some n
  found None n e = absurd cc
  found (Some m) n e = ap (λ k. Some k) (ok_is {E = Cause} m n e)

  request-ok : (word : Word) (n : ℕ) → named_request places word ≡ Ok n → (n < length requests) × (word ≡ name_of_request requests n)
  request-ok word n e =
      let step = bind_ok (name_word word) (λ name. or_refused causes.Request (places name)) n e in
      let name = name_of-ok word step.0 step.1 in
      let is_at = named-from_place_of step.0 requests n (found (places step.0) n step.2) in
      (is_at.there, name.1 ∙ sym is_at.named)

  -- a step, and its line
  abbrev pub IsReadStep : Line → Step → Type 0
  IsReadStep line step = IsStep gates shards (length requests) step × (line ≡ step_line requests step)

  -- ---- lines that are read

  gate_step : (text : Word) (make : ℕ → Step) → ((n : ℕ) → n < gates → IsReadStep (text ∷ decimal n ∷ []) (make n))
      → (word field : Word) (step : Step) → bytes_eq word text ≡ true → of_gate gates shards make field ≡ Ok step → IsReadStep (word ∷ field ∷ []) step
  gate_step text make good word field step same e =
      let read = bind_ok (gate_word gates field) (λ gate. Ok (make gate)) step e in
      let gate = gate-ok field read.0 read.1 in
      subst (λ word. IsReadStep (word ∷ field ∷ []) step) (sym (is_word word text same))
      (subst (λ field. IsReadStep (text ∷ field ∷ []) step) (sym gate.1) (subst (IsReadStep (text ∷ decimal read.0 ∷ [])) (ok_is {E = Cause} (make read.0) step read.2) (good read.0 gate.0)))

  shard_step : (text : Word) (make : ℕ → Step) → ((n : ℕ) → n < shards → IsReadStep (text ∷ decimal n ∷ []) (make n))
      → (word field : Word) (step : Step) → bytes_eq word text ≡ true → of_shard gates shards make field ≡ Ok step → IsReadStep (word ∷ field ∷ []) step
  shard_step text make good word field step same e =
      let read = bind_ok (shard_word shards field) (λ shard. Ok (make shard)) step e in
      let shard = shard-ok field read.0 read.1 in
      subst (λ word. IsReadStep (word ∷ field ∷ []) step) (sym (is_word word text same))
      (subst (λ field. IsReadStep (text ∷ field ∷ []) step) (sym shard.1) (subst (IsReadStep (text ∷ decimal read.0 ∷ [])) (ok_is {E = Cause} (make read.0) step read.2) (good read.0 shard.0)))

  request_step : (text : Word) (make : ℕ → Step) → ((n : ℕ) → n < length requests → IsReadStep (text ∷ name_of_request requests n ∷ []) (make n))
      → (word field : Word) (step : Step) → bytes_eq word text ≡ true → of_request gates shards places make field ≡ Ok step → IsReadStep (word ∷ field ∷ []) step
  request_step text make good word field step same e =
      let read = bind_ok (named_request places field) (λ request. Ok (make request)) step e in
      let request = request-ok field read.0 read.1 in
      subst (λ word. IsReadStep (word ∷ field ∷ []) step) (sym (is_word word text same))
      (subst (λ field. IsReadStep (text ∷ field ∷ []) step) (sym request.1) (subst (IsReadStep (text ∷ name_of_request requests read.0 ∷ [])) (ok_is {E = Cause} (make read.0) step read.2) (good read.0 request.0)))

  one-ok : (word field : Word) (step : Step) → step_of_one gates shards places word field ≡ Ok step → IsReadStep (word ∷ field ∷ []) step
  one-ok word field step e =
      pick _ _ _ _ e (λ same e. request_step (codes "begin") (λ request. Begin request) (λ n h. (h, refl)) word field step same e) (λ other e.
      pick _ _ _ _ e (λ same e. gate_step (codes "judge") (λ gate. Judge gate) (λ n h. (h, refl)) word field step same e) (λ other e.
      pick _ _ _ _ e (λ same e. gate_step (codes "send") (λ gate. Send gate) (λ n h. (h, refl)) word field step same e) (λ other e.
      pick _ _ _ _ e (λ same e. gate_step (codes "say") (λ gate. Say gate) (λ n h. (h, refl)) word field step same e) (λ other e.
      pick _ _ _ _ e (λ same e. request_step (codes "visit") (λ request. Visit request) (λ n h. (h, refl)) word field step same e) (λ other e.
      pick _ _ _ _ e (λ same e. request_step (codes "reply") (λ request. Reply request) (λ n h. (h, refl)) word field step same e) (λ other e.
      pick _ _ _ _ e (λ same e. shard_step (codes "collect") (λ shard. Collect shard) (λ n h. (h, refl)) word field step same e) (λ other e. absurd cc)))))))

  hear-ok : (first second : Word) (step : Step) → hear_of gates shards first second ≡ Ok step → IsReadStep (codes "hear" ∷ first ∷ second ∷ []) step
  hear-ok first second step e =
      let a = bind_ok (gate_word gates first) (λ gate. notice_word second >>= λ notice. Ok (Hear gate notice)) step e in
      let b = bind_ok (notice_word second) (λ notice. Ok (Hear a.0 notice)) step a.2 in
      let gate = gate-ok first a.0 a.1 in
      let notice = notice-ok second b.0 b.1 in
      subst (IsReadStep (codes "hear" ∷ first ∷ second ∷ [])) (ok_is {E = Cause} (Hear a.0 b.0) step b.2) ((gate.0, notice.0), λ i. codes "hear" ∷ gate.1 i ∷ notice.1 i ∷ [])

  nop-ok : (first second : Word) (step : Step) → nop_of gates shards first second ≡ Ok step → IsReadStep (codes "nop" ∷ first ∷ second ∷ []) step
  nop-ok first second step e =
      let a = bind_ok (gate_word gates first) (λ gate. of_shard gates shards (λ shard. Nop gate shard) second) step e in
      let b = bind_ok (shard_word shards second) (λ shard. Ok (Nop a.0 shard)) step a.2 in
      let gate = gate-ok first a.0 a.1 in
      let shard = shard-ok second b.0 b.1 in
      subst (IsReadStep (codes "nop" ∷ first ∷ second ∷ [])) (ok_is {E = Cause} (Nop a.0 b.0) step b.2) ((gate.0, shard.0), λ i. codes "nop" ∷ gate.1 i ∷ shard.1 i ∷ [])

  apply-ok : (first second : Word) (step : Step) → apply_of gates shards first second ≡ Ok step → IsReadStep (codes "apply" ∷ first ∷ second ∷ []) step
  apply-ok first second step e =
      let a = bind_ok (shard_word shards first) (λ shard. of_gate gates shards (λ gate. Apply shard gate) second) step e in
      let b = bind_ok (gate_word gates second) (λ gate. Ok (Apply a.0 gate)) step a.2 in
      let shard = shard-ok first a.0 a.1 in
      let gate = gate-ok second b.0 b.1 in
      subst (IsReadStep (codes "apply" ∷ first ∷ second ∷ [])) (ok_is {E = Cause} (Apply a.0 b.0) step b.2) ((shard.0, gate.0), λ i. codes "apply" ∷ shard.1 i ∷ gate.1 i ∷ [])

  -- a step of a gatekeeper and an epoch
  epoch_step-ok : (text : Word) (make : ℕ → ℕ → Step)
      → ((gate epoch : ℕ) → gate < gates → 1 ≤ epoch → epoch ≤ 1000000 → IsReadStep (text ∷ decimal gate ∷ decimal epoch ∷ []) (make gate epoch))
      → (first second : Word) (step : Step) → of_epoch gates shards make first second ≡ Ok step → IsReadStep (text ∷ first ∷ second ∷ []) step
  epoch_step-ok text make good first second step e =
      let a = bind_ok (gate_word gates first) (λ gate. epoch_word second >>= λ epoch. Ok (make gate epoch)) step e in
      let b = bind_ok (epoch_word second) (λ epoch. Ok (make a.0 epoch)) step a.2 in
      let gate = gate-ok first a.0 a.1 in
      let epoch = epoch-ok second b.0 b.1 in
      subst (λ line. IsReadStep line step) (λ i. text ∷ sym gate.1 i ∷ sym epoch.2 i ∷ [])
      (subst (IsReadStep (text ∷ decimal a.0 ∷ decimal b.0 ∷ [])) (ok_is {E = Cause} (make a.0 b.0) step b.2) (good a.0 b.0 gate.0 epoch.0 epoch.1))

  two-ok : (word first second : Word) (step : Step) → step_of_two gates shards word first second ≡ Ok step → IsReadStep (word ∷ first ∷ second ∷ []) step
  two-ok word first second step e =
      pick _ _ _ _ e (λ same e. by (codes "hear") same (hear-ok first second step e)) (λ other e.
      pick _ _ _ _ e (λ same e. by (codes "nop") same (nop-ok first second step e)) (λ other e.
      pick _ _ _ _ e (λ same e. by (codes "apply") same (apply-ok first second step e)) (λ other e.
      pick _ _ _ _ e (λ same e. by (codes "epoch") same (epoch_step-ok (codes "epoch") (λ gate epoch. Epoch gate epoch) (λ gate epoch g low high. ((g, low, high), refl)) first second step e)) (λ other e.
      pick _ _ _ _ e (λ same e. by (codes "restart") same (epoch_step-ok (codes "restart") (λ gate epoch. Restart gate epoch) (λ gate epoch g low high. ((g, low, high), refl)) first second step e)) (λ other e. absurd cc)))))
    where
      by : (text : Word) → bytes_eq word text ≡ true → IsReadStep (text ∷ first ∷ second ∷ []) step → IsReadStep (word ∷ first ∷ second ∷ []) step
      by text same read = subst (λ word. IsReadStep (word ∷ first ∷ second ∷ []) step) (sym (is_word word text same)) read

  deliver-ok : (first second third : Word) (step : Step) → deliver_of gates shards first second third ≡ Ok step → IsReadStep (codes "deliver" ∷ first ∷ second ∷ third ∷ []) step
  deliver-ok first second third step e =
      let a = bind_ok (gate_word gates first) (λ gate. shard_word shards second >>= λ shard. notice_word third >>= λ number. Ok (Deliver gate shard number)) step e in
      let b = bind_ok (shard_word shards second) (λ shard. notice_word third >>= λ number. Ok (Deliver a.0 shard number)) step a.2 in
      let c = bind_ok (notice_word third) (λ number. Ok (Deliver a.0 b.0 number)) step b.2 in
      let gate = gate-ok first a.0 a.1 in
      let shard = shard-ok second b.0 b.1 in
      let number = notice-ok third c.0 c.1 in
      subst (IsReadStep (codes "deliver" ∷ first ∷ second ∷ third ∷ [])) (ok_is {E = Cause} (Deliver a.0 b.0 c.0) step c.2) ((gate.0, shard.0, number.0), λ i. codes "deliver" ∷ gate.1 i ∷ shard.1 i ∷ number.1 i ∷ [])

  three-ok : (word first second third : Word) (step : Step) → step_of_three gates shards word first second third ≡ Ok step → IsReadStep (word ∷ first ∷ second ∷ third ∷ []) step
  three-ok word first second third step e =
      pick _ _ _ _ e (λ same e. subst (λ word. IsReadStep (word ∷ first ∷ second ∷ third ∷ []) step) (sym (is_word word (codes "deliver") same)) (deliver-ok first second third step e)) (λ other e. absurd cc)

  -- a step that is read
  pub step_of-ok : (line : Line) (step : Step) → step_of gates shards places line ≡ Ok step → IsReadStep line step
  step_of-ok [] step e = absurd cc
  step_of-ok (word ∷ []) step e = absurd cc
  step_of-ok (word ∷ a ∷ []) step e = one-ok word a step e
  step_of-ok (word ∷ a ∷ b ∷ []) step e = two-ok word a b step e
  step_of-ok (word ∷ a ∷ b ∷ c ∷ []) step e = three-ok word a b c step e
  step_of-ok (word ∷ a ∷ b ∷ c ∷ d ∷ words) step e = absurd cc

  -- ---- lines read again

  module _ (all : AllByRecursion (IsRequest gates) requests) (distinct : IsDistinct same_name (request_names requests)) where
    request-name : (n : ℕ) → n < length requests → named_request places (name_of_request requests n) ≡ Ok n
    request-name n h =
        let name = name_of_request requests n in
        bind_at (name_word name) (λ name. or_refused causes.Request (places name)) name (name_of-name name (request_is_named gates requests n all h))
        ∙ ap (or_refused causes.Request) (place_of-name requests n distinct h)

    request_again : (make : ℕ → Step) (n : ℕ) → n < length requests → of_request gates shards places make (name_of_request requests n) ≡ Ok (make n)
    request_again make n h = bind_at (named_request places (name_of_request requests n)) (λ request. Ok (make request)) n (request-name n h)

    gate_again : (make : ℕ → Step) (n : ℕ) → n < gates → of_gate gates shards make (decimal n) ≡ Ok (make n)
    gate_again make n h = bind_at (gate_word gates (decimal n)) (λ gate. Ok (make gate)) n (gate-number n h)

    shard_again : (make : ℕ → Step) (n : ℕ) → n < shards → of_shard gates shards make (decimal n) ≡ Ok (make n)
    shard_again make n h = bind_at (shard_word shards (decimal n)) (λ shard. Ok (make shard)) n (shard-number n h)

    epoch_again : (make : ℕ → ℕ → Step) (gate epoch : ℕ) → gate < gates → 1 ≤ epoch → epoch ≤ 1000000 → of_epoch gates shards make (decimal gate) (decimal epoch) ≡ Ok (make gate epoch)
    epoch_again make gate epoch h low high =
        bind_at (gate_word gates (decimal gate)) (λ gate. epoch_word (decimal epoch) >>= λ epoch. Ok (make gate epoch)) gate (gate-number gate h)
        ∙ bind_at (epoch_word (decimal epoch)) (λ epoch. Ok (make gate epoch)) epoch (epoch-number epoch low high)

    -- a step's line is read as it
    pub step_of-line : (step : Step) → IsStep gates shards (length requests) step → step_of gates shards places (step_line requests step) ≡ Ok step
    step_of-line (Begin request) h = request_again (λ request. Begin request) request h
    step_of-line (Judge gate) h = gate_again (λ gate. Judge gate) gate h
    step_of-line (Send gate) h = gate_again (λ gate. Send gate) gate h
    step_of-line (Say gate) h = gate_again (λ gate. Say gate) gate h
    step_of-line (Visit request) h = request_again (λ request. Visit request) request h
    step_of-line (Reply request) h = request_again (λ request. Reply request) request h
    step_of-line (Collect shard) h = shard_again (λ shard. Collect shard) shard h
    step_of-line (Hear gate notice) h =
        bind_at (gate_word gates (decimal gate)) (λ gate. notice_word (decimal notice) >>= λ notice. Ok (Hear gate notice)) gate (gate-number gate h.0)
        ∙ bind_at (notice_word (decimal notice)) (λ notice. Ok (Hear gate notice)) notice (notice-number notice h.1)
    step_of-line (Nop gate shard) h =
        bind_at (gate_word gates (decimal gate)) (λ gate. of_shard gates shards (λ shard. Nop gate shard) (decimal shard)) gate (gate-number gate h.0) ∙ shard_again (λ shard. Nop gate shard) shard h.1
    step_of-line (Apply shard gate) h =
        bind_at (shard_word shards (decimal shard)) (λ shard. of_gate gates shards (λ gate. Apply shard gate) (decimal gate)) shard (shard-number shard h.0) ∙ gate_again (λ gate. Apply shard gate) gate h.1
    step_of-line (Epoch gate epoch) h = epoch_again (λ gate epoch. Epoch gate epoch) gate epoch h.0 h.1 h.2
    step_of-line (Restart gate epoch) h = epoch_again (λ gate epoch. Restart gate epoch) gate epoch h.0 h.1 h.2
    step_of-line (Deliver gate shard number) h =
        bind_at (gate_word gates (decimal gate)) (λ gate. shard_word shards (decimal shard) >>= λ shard. notice_word (decimal number) >>= λ number. Ok (Deliver gate shard number)) gate (gate-number gate h.0)
        ∙ bind_at (shard_word shards (decimal shard)) (λ shard. notice_word (decimal number) >>= λ number. Ok (Deliver gate shard number)) shard (shard-number shard h.1)
        ∙ bind_at (notice_word (decimal number)) (λ number. Ok (Deliver gate shard number)) number (notice-number number h.2)
