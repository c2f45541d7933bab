-- By the conduct of the system an actor that is down only who_is_down_only_tells replies.
use Rattle.std.proofs.Common.{◌≡◌, ℕ, not, Bool, true, false, List, [], ◌∷◌, fold, None, refl, sym, ap, ◌∙◌, subst}
use Rattle.qc_core.specs.declared.actor.Actor.{Actor}
use Rattle.qc_core.specs.declared.actor.Actor.TheVariants.{Down}
use Rattle.qc_core.specs.Vocabulary.{ActorMove, IsLawfulWithFalls, actor_after, actor_does, actor_rises, actor_sends}
use Rattle.qc_core.specs.Vocabulary.{actor_takes, is_up, moved, up_at}
use Rattle.qc_decl.specs.declared.declaration.Declaration.{Declaration}
use Rattle.qc_mailbox.specs.Vocabulary.{TellsWhereDown, down_at, is_down}
use Rattle.qc_msg.specs.declared.step.Input.{Input}
use Rattle.qc_msg.specs.declared.step.Input.TheVariants as inputs
use Rattle.qc_msg.specs.declared.turn.Turn.{Turn}
use Rattle.qc_msg.specs.Vocabulary.{Deed, Falls, Rises, Sends, Takes, Tells, Writes, quiet}
use Rattle.qc_core.proofs.PostsByTurns.{called_turn}

-- an actor is up by its deeds where it isn't down by them

up_from : (u : Bool) (ds : List Deed) → fold up_at u ds ≡ not (fold down_at (not u) ds)
up_from true [] = refl
up_from false [] = refl
up_from u (Takes g ∷ ds) = up_from u ds
up_from u (Writes written ∷ ds) = up_from u ds
up_from u (Sends number to message ∷ ds) = up_from u ds
up_from u (Tells reply ∷ ds) = up_from u ds
up_from u (Falls cause pending ∷ ds) = up_from false ds
up_from u (Rises records ∷ ds) = up_from true ds

pub up_is : (ds : List Deed) → is_up ds ≡ not (is_down ds)
up_is ds = up_from true ds

-- what is known of one that is down

record IsSilent (m : ActorMove) : Type 0 where
  actor : m.actor ≡ Down
  write : m.turn.write ≡ None
  sends : m.turn.sends ≡ []

abbrev SilentWhere : Bool → ActorMove → Type 0
SilentWhere down m = down ≡ true → IsSilent m

taken_down : (decl : Declaration) (g : Input) → IsSilent (actor_takes decl Down g)
taken_down decl (inputs.Called command) = record { actor = refl; write = refl; sends = refl }
taken_down decl (inputs.Got e) = record { actor = refl; write = refl; sends = refl }
taken_down decl (inputs.Lost number) = record { actor = refl; write = refl; sends = refl }

takes_silent : (decl : Declaration) (m : ActorMove) (g : Input) → IsSilent m → IsSilent (actor_takes decl m.actor g)
takes_silent decl m g silent = subst (λ (v : Actor). IsSilent (actor_takes decl v g)) (sym silent.actor)
    (taken_down decl g)

sends_silent : (m : ActorMove) (number to : ℕ) (message : _) → IsSilent m
    → IsSilent (record m { actor = actor_sends m.actor number to message })
sends_silent m number to message silent = record {
  actor = ap (λ (v : Actor). actor_sends v number to message) silent.actor;
  write = silent.write;
  sends = silent.sends;
}

silent_from : (decl : Declaration) (a : ℕ) (down : Bool) (m : ActorMove) (ds : List Deed) → SilentWhere down m
    → SilentWhere (fold down_at down ds) (fold (actor_does decl a) m ds)
silent_from decl a down m [] silent = silent
silent_from decl a down m (Takes g ∷ ds) silent =
    silent_from decl a down (actor_takes decl m.actor g) ds (λ is. takes_silent decl m g (silent is))
silent_from decl a down m (Writes written ∷ ds) silent = silent_from decl a down m ds silent
silent_from decl a down m (Sends number to message ∷ ds) silent =
    silent_from decl a down (record m { actor = actor_sends m.actor number to message }) ds
    (λ is. sends_silent m number to message (silent is))
silent_from decl a down m (Tells reply ∷ ds) silent = silent_from decl a down m ds silent
silent_from decl a down m (Falls cause pending ∷ ds) silent =
    silent_from decl a true (moved Down quiet) ds (λ is. record { actor = refl; write = refl; sends = refl })
silent_from decl a down m (Rises records ∷ ds) silent =
    silent_from decl a false (actor_rises decl a records) ds (λ is. absurd (let no : ⊥ = cc in no))

silent_down : (decl : Declaration) (a : ℕ) (ds : List Deed) → is_down ds ≡ true → IsSilent (actor_after decl a ds)
silent_down decl a ds down = silent_from decl a false _ ds (λ is. absurd (let no : ⊥ = cc in no)) down

-- a lawful turn is that of the actor, but for what became of its record

pub who_is_down_only_tells : (decl : Declaration) → TellsWhereDown (IsLawfulWithFalls decl)
who_is_down_only_tells decl = record {
  ends = λ a ds turn lawful. lawful.may_end;
  writes_none = λ a ds turn lawful down. sym (ap (λ (t : Turn). t.write) (called_turn decl a ds turn lawful))
      ∙ (silent_down decl a ds down).write;
  sends_none = λ a ds turn lawful down. sym (ap (λ (t : Turn). t.sends) (called_turn decl a ds turn lawful))
      ∙ (silent_down decl a ds down).sends;
}
