-- Where a reply stands in a post: nothing comes behind it, or the fall.
use Rattle.std.proofs.Common.{[], ◌≡◌, ℕ, List, ◌∷◌, ◌++◌, Option, Some, None, refl, sym, ap, ◌∙◌, append_assoc}
use Rattle.std.proofs.lemmas.List.{append-nil}
use Rattle.qc_msg.proofs.GrownMail.{by-append}
use Rattle.qc_msg.specs.Vocabulary.{Entry, by, marked, posted_as, sents, told}
use Rattle.qc_msg.specs.Steps as post
use Rattle.qc_msg.specs.declared.reply.Reply.{Reply}
use Rattle.qc_msg.specs.declared.step.Fall.TheVariants as causes
use Rattle.qc_msg.specs.declared.step.Step.{Step}
use Rattle.qc_msg.specs.declared.step.Step.TheVariants as steps
use Rattle.qc_msg.specs.declared.turn.Appended.{Appended}
use Rattle.qc_msg.specs.declared.turn.Appended.TheVariants as ends
use Rattle.qc_msg.specs.declared.turn.Turn.{Turn}
use Rattle.laws_guarantees.proofs.Moments.{First, Second, split}
use Rattle.laws_votes.proofs.Untold.{tells, AreSilent, silent_none, silent_one, silent_sents, silent_written}

-- where a reply stands in a post: nothing comes behind it, or the fall

pub record IsOwn (b : ℕ) (o : Option Reply) (a : ℕ) (reply : Reply) : Type 0 where
  pub actor : b ≡ a
  pub told : o ≡ Some reply

told_last : (b : ℕ) (o : Option Reply) (rest : List Step) → AreSilent (by b rest)
    → (m : List Entry) (a : ℕ) (reply : Reply) (after : List Entry) → by b (told o ++ rest) ≡ m ++ tells a reply ∷ after
    → IsOwn b o a reply × (m ≡ []) × (after ≡ by b rest)
told_last b None rest silent m a reply after is = absurd (silent_none (by b rest) silent m a reply after is)
told_last b (Some r) rest silent [] a reply after is =
    let same : tells b r ≡ tells a reply = cc in
    let step : steps.Told r ≡ steps.Told reply = ap (λ (x : Entry). x.step) same in (
      record { actor = ap (λ (x : Entry). x.actor) same; told = cc },
      refl,
      (let back : by b rest ≡ after = cc in sym back),
    )
told_last b (Some r) rest silent (x ∷ m) a reply after is = absurd (silent_none (by b rest) silent m a reply after (cc))

behind_silent : (b : ℕ) (first : List Step) (o : Option Reply) (rest : List Step) → AreSilent (by b first)
    → AreSilent (by b rest) → (m : List Entry) (a : ℕ) (reply : Reply) (after : List Entry)
    → by b (first ++ (told o ++ rest)) ≡ m ++ tells a reply ∷ after
    → IsOwn b o a reply × (m ≡ by b first) × (after ≡ by b rest)
behind_silent b first o rest before_it behind_it m a reply after is =
    elim (split (by b first) (by b (told o ++ rest)) m (tells a reply) after
    (sym (by-append b first (told o ++ rest)) ∙ is)) [
      | First k s ↦ absurd (silent_none (by b first) before_it m a reply k s)
      | Second k e s ↦
          (let t = told_last b o rest behind_it k a reply after s in
          (t.0, e ∙ ap (λ (x : List Entry). by b first ++ x) t.1 ∙ append-nil (by b first), t.2))
    ]

-- by the end of a post's record
pub data IsToldIn (b n : ℕ) (turn : Turn) (a : ℕ) (reply : Reply) (m after : List Entry) : Appended → Type 0 where
  at_end : IsOwn b turn.told a reply → after ≡ [] → IsToldIn b n turn a reply m after ends.Done
  as_failed : IsOwn b turn.failed_told a reply → m ≡ by b (sents n turn.failed_sends)
      → after ≡ marked b (steps.Fell causes.Disk turn.write) ∷ [] → IsToldIn b n turn a reply m after ends.Failed
  as_stopped : IsOwn b turn.failed_told a reply → m ≡ [] → after ≡ marked b (steps.Fell causes.Stop turn.write) ∷ []
      → IsToldIn b n turn a reply m after ends.Stopped

pub told_in : (end : Appended) (b n : ℕ) (turn : Turn) (m : List Entry) (a : ℕ) (reply : Reply) (after : List Entry)
    → by b (posted_as end n turn) ≡ m ++ tells a reply ∷ after → IsToldIn b n turn a reply m after end
told_in ends.Done b n turn m a reply after is =
    let parts : (post.wrote turn.write ++ sents n turn.sends) ++ (told turn.told ++ []) ≡ posted_as ends.Done n turn =
    ap (λ (xs : List Step). (post.wrote turn.write ++ sents n turn.sends) ++ xs) (append-nil (told turn.told))
    ∙ append_assoc (post.wrote turn.write) (sents n turn.sends) (told turn.told) in
    let t =
    behind_silent b (post.wrote turn.write ++ sents n turn.sends) turn.told []
    (silent_written b n turn.write turn.sends) (λ e never. absurd never) m a reply after
    (ap (by b) parts ∙ is) in
    at_end t.0 t.2
told_in ends.Failed b n turn m a reply after is =
    let t =
    behind_silent b (sents n turn.failed_sends) turn.failed_told (steps.Fell causes.Disk turn.write ∷ [])
    (silent_sents b n turn.failed_sends) (silent_one (marked b (steps.Fell causes.Disk turn.write)) refl) m a
    reply after is in
    as_failed t.0 t.1 t.2
told_in ends.Stopped b n turn m a reply after is =
    let t =
    behind_silent b [] turn.failed_told (steps.Fell causes.Stop turn.write ∷ []) (λ e never. absurd never)
    (silent_one (marked b (steps.Fell causes.Stop turn.write)) refl) m a reply after is in
    as_stopped t.0 t.1 t.2
