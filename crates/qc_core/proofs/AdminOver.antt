-- Over all his deeds the administrator is himself, or down; what he tells ends his commands, and what he writes is a
-- decision, or that he lives.
use Rattle.std.proofs.Common.{ℕ, List, [], ◌∷◌, fold, Option, Some, None, sym, subst}
use Rattle.qc_decl.specs.Vocabulary.{administrator}
use Rattle.qc_decl.specs.declared.declaration.Declaration.{Declaration}
use Rattle.qc_msg.specs.declared.message.Message.{Message}
use Rattle.qc_msg.specs.declared.record.Record.{Record}
use Rattle.qc_msg.specs.declared.record.Record.TheVariants as records
use Rattle.qc_msg.specs.declared.step.Input.{Input}
use Rattle.qc_msg.specs.declared.step.Input.TheVariants as inputs
use Rattle.qc_msg.specs.Vocabulary.{Deed, Falls, Rises, Sends, Takes, Tells, Writes, quiet}
use Rattle.qc_core.specs.declared.actor.Actor.{Actor}
use Rattle.qc_core.specs.declared.actor.Actor.TheVariants.{Site, Client, Admin, Down}
use Rattle.qc_core.specs.Vocabulary.{ActorMove, actor_after, actor_does, actor_rises, actor_sends, actor_takes}
use Rattle.qc_core.specs.Vocabulary.{moved, new_actor}
use Rattle.qc_core.proofs.AdminTurns.{IsAdminTurn, SaysAsAdmin, WritesDecision}
use Rattle.qc_core.proofs.AdminWrites.{admin_written}
use Rattle.qc_core.proofs.ByNumber.{admin_new, admin_no_client, admin_no_site, admin_risen}

abbrev pub IsAdminOrDown : Actor → Type 0
IsAdminOrDown (Site s) = ⊥
IsAdminOrDown (Client c) = ⊥
IsAdminOrDown (Admin m) = Unit {0}
IsAdminOrDown Down = Unit {0}

abbrev pub IsOfAdminRecord : Record → Type 0
IsOfAdminRecord records.Life = Unit {0}
IsOfAdminRecord (records.Prepare p) = ⊥
IsOfAdminRecord (records.Done tx clock) = ⊥
IsOfAdminRecord (records.Close epoch) = ⊥
IsOfAdminRecord (records.Install start) = ⊥
IsOfAdminRecord (records.Commit commit) = ⊥
IsOfAdminRecord (records.Decide start) = Unit {0}

abbrev pub WritesAsAdmin : Option Record → Type 0
WritesAsAdmin None = Unit {0}
WritesAsAdmin (Some r) = IsOfAdminRecord r

pub record IsAdminMove (m : ActorMove) : Type 0 where
  pub actor : IsAdminOrDown m.actor
  pub says : SaysAsAdmin m.turn.told
  pub fails_say : SaysAsAdmin m.turn.failed_told
  pub writes : WritesAsAdmin m.turn.write

decision_his : (w : Option Record) → WritesDecision w → WritesAsAdmin w
decision_his None is = tt
decision_his (Some records.Life) is = absurd is
decision_his (Some (records.Prepare p)) is = absurd is
decision_his (Some (records.Done tx clock)) is = absurd is
decision_his (Some (records.Close epoch)) is = absurd is
decision_his (Some (records.Install start)) is = absurd is
decision_his (Some (records.Commit commit)) is = absurd is
decision_his (Some (records.Decide start)) is = tt

module _ (decl : Declaration) where
  takes : (v : Actor) (g : Input) → IsAdminOrDown v → IsAdminMove (actor_takes decl v g)
  takes (Site s) g never = absurd never
  takes (Client c) g never = absurd never
  takes (Admin m) g is =
      let w : IsAdminTurn (actor_takes decl (Admin m) g).turn = admin_written decl m g in
      record {
        actor = tt;
        says = w.says;
        fails_say = w.fails_say;
        writes = decision_his (actor_takes decl (Admin m) g).turn.write w.writes;
      }
  takes Down (inputs.Called command) is = record { actor = tt; says = tt; fails_say = tt; writes = tt }
  takes Down (inputs.Got e) is = record { actor = tt; says = tt; fails_say = tt; writes = tt }
  takes Down (inputs.Lost number) is = record { actor = tt; says = tt; fails_say = tt; writes = tt }

  sends : (v : Actor) (number to : ℕ) (message : Message) → IsAdminOrDown v
      → IsAdminOrDown (actor_sends v number to message)
  sends (Site s) number to message never = absurd never
  sends (Client c) number to message never = absurd never
  sends (Admin m) number to message is = tt
  sends Down number to message is = tt

  rises : (rs : List Record) → IsAdminMove (actor_rises decl (administrator decl) rs)
  rises rs =
      subst IsAdminMove (sym (admin_risen decl (administrator decl) (admin_no_site decl) (admin_no_client decl) rs))
      (record { actor = tt; says = tt; fails_say = tt; writes = tt })

  over : (ds : List Deed) (m : ActorMove) → IsAdminMove m
      → IsAdminMove (fold (actor_does decl (administrator decl)) m ds)
  over [] m is = is
  over (Takes g ∷ ds) m is = over ds (actor_takes decl m.actor g) (takes m.actor g is.actor)
  over (Writes written ∷ ds) m is = over ds m is
  over (Sends number to message ∷ ds) m is =
      over ds (record m { actor = actor_sends m.actor number to message })
      (record {
        actor = sends m.actor number to message is.actor;
        says = is.says;
        fails_say = is.fails_say;
        writes = is.writes;
      })
  over (Tells reply ∷ ds) m is = over ds m is
  over (Falls cause pending ∷ ds) m is = over ds (moved Down quiet)
      (record { actor = tt; says = tt; fails_say = tt; writes = tt })
  over (Rises rs ∷ ds) m is = over ds (actor_rises decl (administrator decl) rs) (rises rs)

  pub admin_over : (ds : List Deed) → IsAdminMove (actor_after decl (administrator decl) ds)
  admin_over ds =
      over ds (moved (new_actor decl (administrator decl)) quiet)
      (record {
        actor = subst IsAdminOrDown (sym (admin_new decl (administrator decl) (admin_no_site decl)
            (admin_no_client decl))) tt;
        says = tt;
        fails_say = tt;
        writes = tt;
      })
