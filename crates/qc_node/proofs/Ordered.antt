-- A control line of an actor's in its cell: what its calls ask, and what is known of the process afterwards.
use Rattle.std.proofs.Common.{◌≡◌, ℕ, ◌+◌, ◌<◌, ◌≤◌, Bool, true, false, List, [], ◌∷◌, ◌++◌, None, refl, sym, ap, ◌∙◌}
use Rattle.std.proofs.Common.{subst, inr, arith}
use Rattle.std.proofs.lemmas.Bool.{ne_eqb}
use Rattle.atomic_table.specs.Seated.{TableId}
use Rattle.qc_core.specs.declared.actor.Actor.TheVariants.{Down}
use Rattle.qc_core.specs.Vocabulary.{ActorMove, IsLawfulWithFalls, actor_after}
use Rattle.qc_core.proofs.LivesOfActors.{falls}
use Rattle.qc_decl.specs.Vocabulary.{IsAccepted, actors, controller}
use Rattle.qc_decl.specs.declared.declaration.Declaration.{Declaration}
use Rattle.qc_msg.specs.Vocabulary.{Deed, Entry, deeds, marked}
use Rattle.qc_msg.specs.declared.step.Control.{Control}
use Rattle.qc_msg.specs.declared.step.Control.TheVariants as controls
use Rattle.qc_msg.specs.declared.step.Fall.TheVariants as causes
use Rattle.qc_msg.specs.declared.step.Step.{Step}
use Rattle.qc_msg.specs.declared.step.Step.TheVariants as steps
use Rattle.qc_outside.specs.declared.disk.ArmKind.{ArmKind}
use Rattle.qc_pass.specs.declared.token.Pass.{Pass}
use Rattle.qc_pass.specs.Vocabulary.{number, room, seen}
use Rattle.qc_process.specs.Vocabulary.{GoesArmed, GoesOn, IsProcess, IsStored, ProcessView, StaysOnDisk}
use Rattle.qc_script.specs.Vocabulary.{RunsWithFalls}
use Rattle.qc_script.specs.declared.script.Script.{Script}
use Rattle.qc_fabric.specs.Vocabulary.{Arms, FallsByLine, IsSame, MayDo, RisesAs}
use Rattle.qc_fabric.specs.declared.rising.Rising.{Rising}
use Rattle.qc_node.specs.Vocabulary.{IsCell, IsLeft, IsRunnable, fits_of}
use Rattle.qc_node.proofs.Lines.{armed_counted, crashed_up, restarted_down}
use Rattle.qc_script.proofs.Actors.{few_actors}

module _ (tells : Bool) (z : TableId) (decl : Declaration) (p : Pass Step) (pr : ProcessView)
    (cell : IsCell tells z decl false pr p) (q : Pass Step) (new : ProcessView) where
  processed : IsSame p q → room q ≡ room p → IsProcess tells decl (number p) (seen q) new
      → IsCell tells z decl false new q
  processed same kept is = record {
    table_is = same.table_is ∙ cell.table_is;
    is_actor = subst (λ (n : ℕ). n < actors decl) (sym same.number_is) cell.is_actor;
    no_room = kept ∙ cell.no_room;
    known = subst (λ (n : ℕ). IsProcess tells decl n (seen q) new) (sym same.number_is) is;
  }

  -- its disk was armed

  pub armed_cell : (old now : List Entry) (kind : ArmKind) (at : ℕ) → Arms decl p q old now kind at → 1 ≤ at
      → new.number ≡ pr.number → new.actor ≡ pr.actor
      → ((a : ℕ) (h now : List Entry) → GoesArmed a h kind at now → IsStored tells decl a h pr.store
      → IsStored tells decl a now new.store)
      → IsCell tells z decl false new q
  armed_cell old now kind at arms some number_is actor_is goes =
      processed arms.pass arms.room_is
      (record {
        number_is = number_is ∙ cell.known.number_is;
        actor_is =
            actor_is
            ∙ (cell.known.actor_is ∙ ap (λ (ds : List Deed). (actor_after decl (number p) ds).actor) (sym arms.does));
        stored =
            goes (number p) (seen p) (seen q)
            (record {
              others = arms.others;
              not_own = arms.not_own;
              by_whom = controller decl;
              other =
                  (let low : number p < actors decl = cell.is_actor in
                  let over : controller decl ≡ actors decl = refl in
                  ne_eqb (controller decl) (number p) (λ same. let no : ⊥ = omega arith in no));
              some = some;
              now_is =
                  arms.seen_is
                  ∙ (arms.new_is
                  ∙ ap (λ (l : List Entry). l ++ marked (controller decl) (steps.Armed (number p) kind at) ∷ [])
                  arms.old_is);
            })
            cell.known.stored;
      })

  -- it fell

  pub fallen_cell : (script : Script) (old now : List Entry)
      → FallsByLine (IsLawfulWithFalls decl) (fits_of decl) decl script p q old now
      → new.number ≡ pr.number → new.actor ≡ Down
      → ((a : ℕ) → GoesOn decl a pr.store (steps.Fell causes.Script None ∷ []) new.store)
      → IsCell tells z decl false new q
  fallen_cell script old now fell number_is actor_is goes =
      processed fell.pass fell.room_is
      (record {
        number_is = number_is ∙ cell.known.number_is;
        actor_is =
            actor_is
            ∙ sym (ap (λ (ds : List Deed). (actor_after decl (number p) ds).actor) fell.does
            ∙ ap (λ (m : ActorMove). m.actor) (falls decl (number p)
            (deeds (number p) [] (seen p)) causes.Script None));
        stored =
            goes (number p) tells (seen p) (seen q)
            (record {
              others = fell.others;
              not_own = fell.not_own;
              now_is =
                  fell.seen_is
                  ∙ (fell.new_is
                  ∙ ap (λ (l : List Entry). l ++ marked (number p) (steps.Fell causes.Script None) ∷ []) fell.old_is);
            })
            cell.known.stored;
      })

  -- it was restarted, its messages having the numbers from first on

  pub risen_cell : (script : Script) (rising : Rising) (first : ℕ)
      → RisesAs (IsLawfulWithFalls decl) (fits_of decl) decl script p q rising first
      → IsProcess tells decl (number q) (seen q) new → IsCell tells z decl false new q
  risen_cell script rising first did is =
      processed did.pass did.room_is
      (subst (λ (n : ℕ). IsProcess tells decl n (seen q) new) did.pass.number_is is)

-- its journal was opened, and no step shows it

pub opened_cell : (tells : Bool) (z : TableId) (decl : Declaration) (p : Pass Step) (pr new : ProcessView)
    → IsCell tells z decl false pr p → new.store.journal ≡ None → StaysOnDisk decl pr.store new.store
    → IsCell tells z decl true new p
opened_cell tells z decl p pr new cell closed stays = record {
  table_is = cell.table_is;
  is_actor = cell.is_actor;
  no_room = cell.no_room;
  known =
      let left : IsLeft tells decl (number p) (seen p) new.store =
      inr (closed, stays tells (number p) (seen p) cell.known.stored) in
      left;
}

-- who is to fall is up, and who is to rise is down

module _ (tells : Bool) (z : TableId) (decl : Declaration) (script : Script) (accepted : IsAccepted decl)
    (p : Pass Step) (pr : ProcessView) (cell : IsCell tells z decl false pr p) (h : List Entry) (inputs : List Bool)
    (seen_is : seen p ≡ h)
    (run : RunsWithFalls (IsLawfulWithFalls decl) (fits_of decl) decl script (seen p) inputs) where
  pub is_up : MayDo decl script h inputs (controls.Crash (number p)) → pr.actor ≡ Down → ⊥
  is_up may down =
      crashed_up decl script (few_actors decl accepted) (seen p) inputs run (number p) cell.is_actor
      (subst (λ (l : List Entry). MayDo decl script l inputs (controls.Crash (number p))) (sym seen_is) may)
      (sym cell.known.actor_is ∙ down)

  pub is_down : MayDo decl script h inputs (controls.Restart (number p)) → pr.actor ≡ Down
  is_down may =
      cell.known.actor_is
      ∙ restarted_down decl script (few_actors decl accepted) (seen p) inputs run (number p) cell.is_actor
      (subst (λ (l : List Entry). MayDo decl script l inputs (controls.Restart (number p))) (sym seen_is) may)

-- the fault that is armed is for some call from now on

pub armed_some : (decl : Declaration) (script : Script) (runs : IsRunnable decl script) (h : List Entry)
    (inputs : List Bool) (x : Control) (a : ℕ) (kind : ArmKind) (at : ℕ) → MayDo decl script h inputs x
    → x ≡ controls.Armed a kind at → 1 ≤ at
armed_some decl script runs h inputs x a kind at may is =
    armed_counted decl script runs h inputs a kind at (subst (λ (c : Control). MayDo decl script h inputs c) is may)
