-- A process's store is open while its actor is up.
use Rattle.std.proofs.Common.{◌≡◌, Option, Some, None, IsSome, refl, sym, ap, ◌∙◌, subst}
use Rattle.std.specs.Prelude.{MatchOption, Result, Ok, Err, IfOk}
use Rattle.qc_core.specs.declared.actor.Actor.{Actor}
use Rattle.qc_core.specs.declared.actor.Actor.TheVariants.{Down}
use Rattle.qc_core.specs.Vocabulary.{ActorMove, actor_takes, moved}
use Rattle.qc_decl.specs.declared.declaration.Declaration.{Declaration}
use Rattle.qc_msg.specs.declared.step.Input.{Input}
use Rattle.qc_msg.specs.declared.step.Input.TheVariants as inputs
use Rattle.qc_msg.specs.declared.turn.Turn.{Turn}
use Rattle.qc_msg.specs.Vocabulary.{HasRecord}
use Rattle.qc_process.specs.Vocabulary.{IsOpenWhileUp, IsUp, OpenJournal, StoreView}

pub open_of_up : (actor : Actor) (s : StoreView) → IsOpenWhileUp actor s → (actor ≡ Down → ⊥) → IsUp s
open_of_up actor s is up = by s.journal is
  where
    by : (o : Option OpenJournal) → MatchOption o (actor ≡ Down) (λ p. actor ≡ Down → ⊥) → IsSome o
    by None down = absurd (up down)
    by (Some p) open_now = refl

pub closed_of_down : (actor : Actor) (s : StoreView) → IsOpenWhileUp actor s → actor ≡ Down → s.journal ≡ None
closed_of_down actor s is down = by s.journal is
  where
    by : (o : Option OpenJournal) → MatchOption o (actor ≡ Down) (λ p. actor ≡ Down → ⊥) → o ≡ None
    by None closed = refl
    by (Some p) open_now = absurd (open_now down)

-- one that writes is up

silent_down : (decl : Declaration) (g : Input) → HasRecord (actor_takes decl Down g).turn.write → ⊥
silent_down decl (inputs.Called command) has = has
silent_down decl (inputs.Got e) has = has
silent_down decl (inputs.Lost number) has = has

writer_is_up : (decl : Declaration) (old new : Actor) (g : Input) (turn : Turn) (s : StoreView) → IsOpenWhileUp old s
    → actor_takes decl old g ≡ moved new turn → HasRecord turn.write → IsUp s
writer_is_up decl old new g turn s is takes has =
    open_of_up old s is
    (λ down. silent_down decl g
    (subst (λ (m : ActorMove). HasRecord m.turn.write) (sym takes ∙ ap (λ (v : Actor). actor_takes decl v g) down) has))

pub writers_are_up : {E : Type 0} (decl : Declaration) (old new : Actor) (g : Input) (s : StoreView) (r : Result Turn E)
    → IsOpenWhileUp old s → IfOk r (λ turn. actor_takes decl old g ≡ moved new turn)
    → IfOk r (λ turn. HasRecord turn.write → IsUp s)
writers_are_up decl old new g s (Ok turn) is takes = λ has. writer_is_up decl old new g turn s is takes has
writers_are_up decl old new g s (Err e) is takes = tt
