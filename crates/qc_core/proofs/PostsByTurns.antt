-- The turn that an actor posts, up or down, is its own, but for what became of its record.
use Rattle.std.proofs.Common.{[], ◌≡◌, ℕ, Bool, true, false, List, ◌∷◌, ◌++◌, Option, Some, None, refl, sym, ap}
use Rattle.std.proofs.Common.{◌∙◌, subst}
use Rattle.qc_decl.specs.declared.declaration.Declaration.{Declaration}
use Rattle.qc_decl.specs.Vocabulary.{is_administrator, is_client, is_site}
use Rattle.qc_msg.specs.declared.record.Record.{Record}
use Rattle.qc_msg.specs.declared.reply.Reply.{Reply}
use Rattle.qc_msg.specs.declared.reply.Reply.TheVariants as replies
use Rattle.qc_msg.specs.declared.step.Input.{Input}
use Rattle.qc_msg.specs.declared.turn.Appended.{Appended}
use Rattle.qc_msg.specs.declared.turn.Appended.TheVariants.{Done, Failed, Stopped}
use Rattle.qc_msg.specs.declared.turn.Posting.{Posting}
use Rattle.qc_msg.specs.declared.turn.Turn.{Turn}
use Rattle.qc_msg.specs.Vocabulary.{Deed, HasRecord, MayEnd, Tells, deeds_as, sends_of, telling, tells_of, writes_of}
use Rattle.qc_promise.specs.Vocabulary.{Open}
use Rattle.qc_core.specs.declared.actor.Actor.{Actor}
use Rattle.qc_core.specs.declared.actor.Actor.TheVariants as actor
use Rattle.qc_core.specs.Vocabulary.{IsLawfulWithFalls, actor_after, actor_takes, with_record}
use Rattle.qc_core.proofs.AdminTurns.{IsAdminTurn, no_life}
use Rattle.qc_core.proofs.AdminWrites.{admin_written}
use Rattle.qc_core.proofs.LivesOfActors.{turn_by}
use Rattle.qc_core.proofs.FrontWrites.{IsClientTurn}
use Rattle.qc_core.proofs.SiteWrites.{IsSiteTurn, site_written}
use Rattle.qc_core.proofs.Written.{client_written}
use Rattle.qc_core.proofs.ActorKinds.{IsKind}
use Rattle.qc_core.proofs.RestingPlaces.{after, Fits, still_up, site_post, client_post, admin_post}

-- the turn that it posts is the actor's, but for what became of its record

pub called_turn : (decl : Declaration) (a : ℕ) (ds : List Deed) (turn : Turn) → IsLawfulWithFalls decl a ds turn
    → (actor_after decl a ds).turn ≡ with_record turn
called_turn decl a ds turn lawful = by (is_site decl a) (is_client decl a) (is_administrator decl a) lawful.called_for
  where
    here : Some (actor_after decl a ds).turn ≡ Some (with_record turn) → (actor_after decl a ds).turn ≡ with_record turn
    here is = cc

    by : (x y z : Bool) → turn_by x y z (actor_after decl a ds).turn ≡ Some (with_record turn)
        → (actor_after decl a ds).turn ≡ with_record turn
    by true y z is = here is
    by false true z is = here is
    by false false true is = here is
    by false false false is = absurd (let no : ⊥ = cc in no)

-- a post for an input

pub taken_post : (decl : Declaration) (site : Bool) (v : Actor) (g : Input) (t : Turn) (n : ℕ) → IsKind site v
    → (v ≡ actor.Down → ⊥) → (actor_takes decl v g).turn ≡ with_record t → MayEnd t.write t.append
    → Fits (still_up t.append) false (after site (Some Open) (deeds_as t.append n t))
taken_post decl site (actor.Site s) g t n kind up_now is may =
    let well : IsSiteTurn g (with_record t) = subst (IsSiteTurn g) is (site_written decl s g) in
    subst (λ (x : Bool). Fits (still_up t.append) false (after x (Some Open) (deeds_as t.append n t))) (sym kind)
    (site_post t.append n t well.told well.failed well.writes may)
taken_post decl site (actor.Client c) g t n kind up_now is may =
    let well : IsClientTurn (with_record t) = subst IsClientTurn is (client_written decl c g) in
    subst (λ (x : Bool). Fits (still_up t.append) false (after x (Some Open) (deeds_as t.append n t))) (sym kind)
    (client_post t.append n t well.told well.fails well.writes may)
taken_post decl site (actor.Admin m) g t n kind up_now is may =
    let well : IsAdminTurn (with_record t) = subst IsAdminTurn is (admin_written decl m g) in
    subst (λ (x : Bool). Fits (still_up t.append) false (after x (Some Open) (deeds_as t.append n t))) (sym kind)
    (admin_post t.append n t well.told well.fails well.failed_sends (no_life t.write well.writes) may)
taken_post decl site actor.Down g t n kind up_now is may = absurd (up_now refl)

-- a post while it is down

down_done : (end : Appended) (w : Option Record) → w ≡ None → MayEnd w end → end ≡ Done
down_done Done w none may = refl
down_done Failed w none may = absurd (subst HasRecord none may)
down_done Stopped w none may = absurd (subst HasRecord none may)

down_deeds : (n : ℕ) (w : Option Record) (ps : List Posting) (told : Option Reply) → w ≡ None → ps ≡ []
    → told ≡ Some replies.Down → writes_of w ++ (sends_of n ps ++ tells_of told) ≡ Tells replies.Down ∷ []
down_deeds n w ps told none no_sends down_told =
    ap (λ (v : Option Record). writes_of v ++ (sends_of n ps ++ tells_of told)) none
    ∙ ap (λ (v : List Posting). sends_of n v ++ tells_of told) no_sends
    ∙ ap tells_of down_told

pub down_post : (t : Turn) (n : ℕ) → telling replies.Down ≡ with_record t → MayEnd t.write t.append
    → (t.append ≡ Done) × (deeds_as t.append n t ≡ Tells replies.Down ∷ [])
down_post t n is may = (
  done,
  ap (λ (end : Appended). deeds_as end n t) done
      ∙ down_deeds n t.write t.sends t.told none (sym (ap (λ (x : Turn). x.sends) is))
      (sym (ap (λ (x : Turn). x.told) is)),
)
  where
    none : t.write ≡ None
    none = sym (ap (λ (x : Turn). x.write) is)

    done : t.append ≡ Done
    done = down_done t.append t.write none may
