-- What an actor is once its turn was posted, by what became of the turn's record.
use Rattle.std.proofs.Common.{◌≡◌, ℕ, List, [], ◌∷◌, ◌++◌, Option, refl, sym, ap, ◌∙◌, append_assoc}
use Rattle.qc_core.specs.declared.actor.Actor.{Actor}
use Rattle.qc_core.specs.declared.actor.Actor.TheVariants as actors_of
use Rattle.qc_core.specs.Vocabulary.{ActorMove, actor_after, actor_sent, with_record}
use Rattle.qc_core.proofs.LivesOfActors.{falls}
use Rattle.qc_decl.specs.declared.declaration.Declaration.{Declaration}
use Rattle.qc_msg.specs.Vocabulary.{Deed, Falls, deeds_as, sends_of, tells_of, turn_deeds}
use Rattle.qc_msg.specs.declared.record.Record.{Record}
use Rattle.qc_msg.specs.declared.step.Fall.{Fall}
use Rattle.qc_msg.specs.declared.step.Fall.TheVariants as causes
use Rattle.qc_msg.specs.declared.turn.Appended.{Appended}
use Rattle.qc_msg.specs.declared.turn.Appended.TheVariants.{Done, Failed, Stopped}
use Rattle.qc_msg.specs.declared.turn.Turn.{Turn}

-- a turn that the conduct calls for is as if its record was written
pub same_record : (turn : Turn) → turn.append ≡ Done → with_record turn ≡ turn
same_record turn done = ap (λ (end : Appended). record turn { append = end }) (sym done)

-- what became of a record isn't said by the turn's deeds for an end
pub same_deeds : (end : Appended) (first : ℕ) (turn : Turn)
    → deeds_as end first (record turn { append = end }) ≡ deeds_as end first turn
same_deeds Done first turn = refl
same_deeds Failed first turn = refl
same_deeds Stopped first turn = refl

module _ (decl : Declaration) (a : ℕ) (ds : List Deed) (turn : Turn) (first : ℕ) (after : Actor)
    (is : (actor_after decl a ds).actor ≡ after)
    (numbered : (actor_after decl a (ds ++ turn_deeds first turn)).actor ≡ actor_sent
    (actor_after decl a ds).actor first)
  where
    down_by : (xs : List Deed) (cause : Fall) (pending : Option Record)
        → (actor_after decl a (ds ++ (xs ++ Falls cause pending ∷ []))).actor ≡ actors_of.Down
    down_by xs cause pending =
        ap (λ (l : List Deed). (actor_after decl a l).actor) (sym (append_assoc ds xs (Falls cause pending ∷ [])))
        ∙ ap (λ (m : ActorMove). m.actor) (falls decl a (ds ++ xs) cause pending)

    pub turned : (end : Appended) (v : Actor) → (end ≡ Done → v ≡ after) → ((end ≡ Done → ⊥) → v ≡ actors_of.Down)
        → (actor_after decl a (ds ++ deeds_as end first turn)).actor ≡ actor_sent v first
    turned Done v kept down = numbered ∙ ap (λ (u : Actor). actor_sent u first) (is ∙ sym (kept refl))
    turned Failed v kept down =
        ap (λ (l : List Deed). (actor_after decl a (ds ++ l)).actor)
        (sym (append_assoc (sends_of first turn.failed_sends) (tells_of turn.failed_told)
        (Falls causes.Disk turn.write ∷ [])))
        ∙ (down_by (sends_of first turn.failed_sends ++ tells_of turn.failed_told) causes.Disk turn.write
        ∙ ap (λ (u : Actor). actor_sent u first) (sym (down (λ is. let no : ⊥ = cc in no))))
    turned Stopped v kept down =
        down_by (tells_of turn.failed_told) causes.Stop turn.write
        ∙ ap (λ (u : Actor). actor_sent u first) (sym (down (λ is. let no : ⊥ = cc in no)))
