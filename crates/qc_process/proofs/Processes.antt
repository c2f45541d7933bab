-- A process goes on with its history.
use Rattle.std.proofs.Common.{◌≡◌, ◌≢◌, ℕ, ◌==◌, Bool, List, [], ◌∷◌, ◌++◌, Option, None, refl, sym, ◌∙◌, ap}
use Rattle.std.proofs.Common.{append_assoc, cond, true, false, append-nil}
use Rattle.qc_core.specs.Vocabulary.{ActorMove, actor_after}
use Rattle.qc_core.specs.declared.actor.Actor.TheVariants.{Down}
use Rattle.qc_core.proofs.LivesOfActors.{falls as after_fall}
use Rattle.qc_decl.specs.declared.declaration.Declaration.{Declaration}
use Rattle.qc_msg.specs.Vocabulary.{Deed, Entry, Falls, by, deeds, deeds_as, fell, mail, marked, posted_as, sends_of}
use Rattle.qc_msg.specs.Vocabulary.{tells_of}
use Rattle.qc_msg.specs.declared.record.Record.{Record}
use Rattle.qc_msg.specs.declared.step.Fall.{Fall}
use Rattle.qc_msg.specs.declared.step.Fall.TheVariants as causes
use Rattle.qc_msg.specs.declared.step.Step.TheVariants as steps
use Rattle.qc_msg.specs.declared.turn.Appended.{Appended}
use Rattle.qc_msg.specs.declared.turn.Appended.TheVariants.{Done, Failed, Stopped}
use Rattle.qc_msg.specs.declared.turn.Turn.{Turn}
use Rattle.qc_msg.proofs.DeedsGrow.{deeds-append, deeds-fell}
use Rattle.qc_msg.proofs.Growth.{deeds-posted_as, same_deeds}
use Rattle.qc_outside.specs.declared.disk.ArmKind.{ArmKind}
use Rattle.qc_promise.specs.Vocabulary.{IsOfOthers}
use Rattle.qc_process.specs.Vocabulary.{Goes, GoesArmed, IsProcess, IsStored, ProcessView}
use Rattle.qc_process.proofs.Own.{own_others}
use Rattle.qc_process.proofs.GivenUp.{stored_past_others}
use Rattle.qc_process.proofs.Own.{own_other}

others_deeds : (a : ℕ) (h others : List Entry) → IsOfOthers a others → deeds a [] (h ++ others) ≡ deeds a [] h
others_deeds a h others none = same_deeds a [] h others (own_others a h others none)

module _ (tells : Bool) (decl : Declaration) (a : ℕ) (h now : List Entry) where
  pub looked : (p : ProcessView) → Goes a h [] now → IsProcess tells decl a h p → IsProcess tells decl a now p
  looked p goes is =
      let same : deeds a [] now ≡ deeds a [] h =
      ap (deeds a []) (goes.now_is ∙ append-nil (h ++ goes.others)) ∙ others_deeds a h goes.others goes.not_own in
      record {
        number_is = is.number_is;
        actor_is = is.actor_is ∙ ap (λ (ds : List Deed). (actor_after decl a ds).actor) (sym same);
        stored = stored_past_others tells decl a h now p.store goes is.stored;
      }

  pub armed : (old new : ProcessView) (kind : ArmKind) (at : ℕ) → GoesArmed a h kind at now
      → new.number ≡ old.number → new.actor ≡ old.actor → IsStored tells decl a now new.store
      → IsProcess tells decl a h old → IsProcess tells decl a now new
  armed old new kind at goes same_number same_actor stored is =
      let e : Entry = marked goes.by_whom (steps.Armed a kind at) in
      let same : deeds a [] now ≡ deeds a [] h =
      ap (deeds a []) goes.now_is
      ∙ same_deeds a [] (h ++ goes.others) (e ∷ []) (own_other a (h ++ goes.others) e goes.other)
      ∙ others_deeds a h goes.others goes.not_own in
      record {
        number_is = same_number ∙ is.number_is;
        actor_is =
            same_actor ∙ is.actor_is ∙ ap (λ (ds : List Deed). (actor_after decl a ds).actor) (sym same);
        stored = stored;
      }

  down_by : (new : ProcessView) (ds : List Deed) (cause : Fall) (pending : Option Record) → new.number ≡ a
      → new.actor ≡ Down → deeds a [] now ≡ ds ++ Falls cause pending ∷ [] → IsStored tells decl a now new.store
      → IsProcess tells decl a now new
  down_by new ds cause pending number_is down does stored = record {
    number_is = number_is;
    actor_is =
        down
        ∙ ap (λ (m : ActorMove). m.actor) (sym (after_fall decl a ds cause pending))
        ∙ ap (λ (l : List Deed). (actor_after decl a l).actor) (sym does);
    stored = stored;
  }

  pub fell_alone : (new : ProcessView) (cause : Fall) → Goes a h (steps.Fell cause None ∷ []) now → new.number ≡ a
      → new.actor ≡ Down → IsStored tells decl a now new.store → IsProcess tells decl a now new
  fell_alone new cause goes number_is down stored =
      down_by new (deeds a [] (h ++ goes.others)) cause None number_is down
      (ap (deeds a []) goes.now_is
      ∙ deeds-append a [] (h ++ goes.others) (by a (fell cause None))
      ∙ ap (λ (l : List Deed). deeds a [] (h ++ goes.others) ++ l) (deeds-fell a (mail (h ++ goes.others)) cause None))
      stored

  pub damaged : (old new : ProcessView) (offset : ℕ) → Goes a h (steps.Damaged offset ∷ []) now
      → new.number ≡ old.number → old.actor ≡ Down → new.actor ≡ Down → IsStored tells decl a now new.store
      → IsProcess tells decl a h old → IsProcess tells decl a now new
  damaged old new offset goes same_number was_down down stored is =
      let same : deeds a [] now ≡ deeds a [] h =
      ap (deeds a []) goes.now_is
      ∙ deeds-append a [] (h ++ goes.others) (by a (steps.Damaged offset ∷ []))
      ∙ ap (λ (l : List Deed). deeds a [] (h ++ goes.others) ++ l) (nothing (a == a))
      ∙ append-nil (deeds a [] (h ++ goes.others))
      ∙ others_deeds a h goes.others goes.not_own in
      record {
        number_is = same_number ∙ is.number_is;
        actor_is =
            down
            ∙ sym was_down
            ∙ is.actor_is
            ∙ ap (λ (ds : List Deed). (actor_after decl a ds).actor) (sym same);
        stored = stored;
      }
    where
      nothing : (b : Bool) → cond {A = List Deed} b [] [] ++ [] ≡ []
      nothing true = refl
      nothing false = refl

  pub broken : (new : ProcessView) (turn : Turn) (end : Appended) (first : ℕ) → end ≢ Done
      → Goes a h (posted_as end first turn) now → new.number ≡ a → new.actor ≡ Down
      → IsStored tells decl a now new.store → IsProcess tells decl a now new
  broken new turn end first not_done goes number_is down stored = by_end end not_done does
    where
      does : deeds a [] now ≡ deeds a [] (h ++ goes.others) ++ deeds_as end first turn
      does = ap (deeds a []) goes.now_is ∙ deeds-posted_as end a first (h ++ goes.others) turn

      by_end : (x : Appended) → x ≢ Done
          → deeds a [] now ≡ deeds a [] (h ++ goes.others) ++ deeds_as x first turn → IsProcess tells decl a now new
      by_end Done differs is = absurd (differs refl)
      by_end Failed differs is =
          let before : List Deed = deeds a [] (h ++ goes.others) in
          let said : List Deed = sends_of first turn.failed_sends in
          let told : List Deed = tells_of turn.failed_told in
          let last : List Deed = Falls causes.Disk turn.write ∷ [] in
          down_by new ((before ++ said) ++ told) causes.Disk turn.write number_is down
          (is ∙ sym (append_assoc before said (told ++ last)) ∙ sym (append_assoc (before ++ said) told last)) stored
      by_end Stopped differs is =
          let before : List Deed = deeds a [] (h ++ goes.others) in
          let told : List Deed = tells_of turn.failed_told in
          down_by new (before ++ told) causes.Stop turn.write number_is down
          (is ∙ sym (append_assoc before told (Falls causes.Stop turn.write ∷ []))) stored
