-- Steps of posts begin no event, arm nothing, and leave the phase.
use Rattle.std.proofs.Common.{◌≡◌, ℕ, ◌+◌, ◌||◌, Bool, false, List, [], ◌∷◌, ◌++◌, Option, Some, None, refl, ap, ◌∙◌}
use Rattle.std.specs.Prelude.{fold}
use Rattle.std.specs.List.{AllByRecursion as Every}
use Rattle.qc_list.proofs.Members.{every-append}
use Rattle.qc_msg.specs.Vocabulary.{Entry, HasRecord, MayEnd, by, fell, posted_as, sents, told, wrote}
use Rattle.qc_msg.specs.declared.record.Record.{Record}
use Rattle.qc_msg.specs.declared.reply.Reply.{Reply}
use Rattle.qc_msg.specs.declared.step.Fall.{Fall}
use Rattle.qc_msg.specs.declared.step.Fall.TheVariants as causes
use Rattle.qc_msg.specs.declared.step.Step.{Step}
use Rattle.qc_msg.specs.declared.turn.Appended.{Appended}
use Rattle.qc_msg.specs.declared.turn.Appended.TheVariants.{Done, Failed, Stopped}
use Rattle.qc_msg.specs.declared.turn.Posting.{Posting}
use Rattle.qc_msg.specs.declared.turn.Turn.{Turn}
use Rattle.qc_promise.specs.Vocabulary.{arms_disk}
use Rattle.qc_script.specs.Vocabulary.{phase_at}
use Rattle.qc_fabric.specs.Vocabulary.{ArmsNone, begins_event, has_event}

pub record IsPlain (s : Step) : Type 0 where
  pub begins : begins_event s ≡ false
  pub arms : (a : ℕ) → arms_disk a s ≡ false
  pub phases : (k : ℕ) → phase_at k s ≡ k

wrote_plain : (write : Option Record) → Every IsPlain (wrote write)
wrote_plain None = tt
wrote_plain (Some written) = (record { begins = refl; arms = λ a. refl; phases = λ k. refl }, tt)

sents_plain : (n : ℕ) (ps : List Posting) → Every IsPlain (sents n ps)
sents_plain n [] = tt
sents_plain n (p ∷ ps) = (record { begins = refl; arms = λ a. refl; phases = λ k. refl }, sents_plain (n + 1) ps)

told_plain : (reply : Option Reply) → Every IsPlain (told reply)
told_plain None = tt
told_plain (Some reply) = (record { begins = refl; arms = λ a. refl; phases = λ k. refl }, tt)

fell_plain : (cause : Fall) (write : Option Record) → HasRecord write → Every IsPlain (fell cause write)
fell_plain cause None has = absurd has
fell_plain cause (Some written) has = (record { begins = refl; arms = λ a. refl; phases = λ k. refl }, tt)

pub posted_plain : (end : Appended) (n : ℕ) (turn : Turn) → MayEnd turn.write end → Every IsPlain (posted_as end n turn)
posted_plain Done n turn may =
    every-append IsPlain (wrote turn.write) (sents n turn.sends ++ told turn.told) (wrote_plain turn.write)
    (every-append IsPlain (sents n turn.sends) (told turn.told) (sents_plain n turn.sends) (told_plain turn.told))
posted_plain Failed n turn may =
    every-append IsPlain (sents n turn.failed_sends) (told turn.failed_told ++ fell causes.Disk turn.write)
    (sents_plain n turn.failed_sends)
    (every-append IsPlain (told turn.failed_told) (fell causes.Disk turn.write) (told_plain turn.failed_told)
    (fell_plain causes.Disk turn.write may))
posted_plain Stopped n turn may =
    every-append IsPlain (told turn.failed_told) (fell causes.Stop turn.write) (told_plain turn.failed_told)
    (fell_plain causes.Stop turn.write may)

-- a turn with a record may end in any way
pub may_end : (write : Option Record) (end : Appended) → HasRecord write → MayEnd write end
may_end write Done has = tt
may_end write Failed has = has
may_end write Stopped has = has

-- as entries of an actor

pub plain_begins_none : (a : ℕ) (xs : List Step) → Every IsPlain xs → has_event (by a xs) ≡ false
plain_begins_none a [] each = refl
plain_begins_none a (x ∷ xs) each = ap (λ (b : Bool). b || has_event (by a xs)) each.0.begins
    ∙ plain_begins_none a xs each.1

pub plain_arms_none : (a b : ℕ) (xs : List Step) → Every IsPlain xs → ArmsNone b (by a xs)
plain_arms_none a b [] each = tt
plain_arms_none a b (x ∷ xs) each = (each.0.arms b, plain_arms_none a b xs each.1)

pub plain_leaves_phase : (k a : ℕ) (xs : List Step) → Every IsPlain xs
    → fold (λ (n : ℕ) (e : Entry). phase_at n e.step) k (by a xs) ≡ k
plain_leaves_phase k a [] each = refl
plain_leaves_phase k a (x ∷ xs) each =
    ap (λ (n : ℕ). fold (λ (m : ℕ) (e : Entry). phase_at m e.step) n (by a xs)) (each.0.phases k)
    ∙ plain_leaves_phase k a xs each.1
