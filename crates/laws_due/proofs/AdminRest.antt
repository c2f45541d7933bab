-- Where the administrator stands when no input of his is open: nothing is due that isn't told or written, through his
-- falls and rises.
use Rattle.std.proofs.Common.{[], ◌≡◌, ℕ, ◌+◌, Bool, true, false, cond, List, ◌∷◌, ◌++◌, fold, Option, Some, None, refl}
use Rattle.std.proofs.Common.{sym, ap, ◌∙◌, subst, append_assoc}
use Rattle.std.specs.Prelude.{option_and_then}
use Rattle.std.proofs.lemmas.List.Sums.{fold-append}
use Rattle.qc_core.specs.declared.actor.Actor.TheVariants as actors
use Rattle.qc_core.specs.Vocabulary.{ActorMove, MayTake, actor_after, actor_does, is_up, moved, new_actor, up_at}
use Rattle.qc_decl.specs.Vocabulary.{administrator}
use Rattle.qc_decl.specs.declared.declaration.Declaration.{Declaration}
use Rattle.qc_msg.specs.declared.record.Record.{Record}
use Rattle.qc_msg.specs.declared.reply.Reply.{Reply}
use Rattle.qc_msg.specs.declared.step.Input.{Input}
use Rattle.qc_msg.specs.declared.turn.Posting.{Posting}
use Rattle.qc_msg.specs.declared.turn.Turn.{Turn}
use Rattle.qc_msg.specs.Vocabulary.{Deed, quiet, sends_of, tells_of, turn_deeds, writes_of}
use Rattle.qc_promise.specs.Vocabulary.{AdminAccount, AreAdminDeedsDue, IsAdminDue, IsAdminInputDue, admin_account}
use Rattle.qc_promise.specs.Vocabulary.{admin_account_at, admin_row, commanded, decided_for, new_admin_account}
use Rattle.qc_epoch.specs.Vocabulary.{Admin, sent_one}
use Rattle.qc_admin.specs.Vocabulary.{sent_each}
use Rattle.laws_due.proofs.Standing.{Follows}
use Rattle.laws_due.proofs.AdminStages.{Ties}
use Rattle.laws_due.proofs.AdminRunning.{ties_row, ties_decided, free_for}

module _ (decl : Declaration) where
  -- the administrator over a turn's deeds

  sends_actor : (ps : List Posting) (n : ℕ) (m : Admin) (t : Turn)
      → fold (actor_does decl (administrator decl)) (moved (actors.Admin m) t) (sends_of n ps)
      ≡ moved (actors.Admin (sent_each m n ps)) t
  sends_actor [] n m t = refl
  sends_actor (p ∷ ps) n m t = sends_actor ps (n + 1) (sent_one m n p.to p.message) t

  pub turn_actor : (first : ℕ) (m : Admin) (t turn : Turn)
      → fold (actor_does decl (administrator decl)) (moved (actors.Admin m) t) (turn_deeds first turn)
      ≡ moved (actors.Admin (sent_each m first turn.sends)) t
  turn_actor first m t turn = writes turn.write
    where
      tells : (o : Option Reply) (v : ActorMove) → fold (actor_does decl (administrator decl)) v (tells_of o) ≡ v
      tells None v = refl
      tells (Some reply) v = refl

      rest : fold (actor_does decl (administrator decl)) (moved (actors.Admin m) t)
          (sends_of first turn.sends ++ tells_of turn.told) ≡ moved (actors.Admin (sent_each m first turn.sends)) t
      rest =
          fold-append (actor_does decl (administrator decl)) (moved (actors.Admin m) t) (sends_of first turn.sends)
          (tells_of turn.told)
          ∙ tells turn.told
          (fold (actor_does decl (administrator decl)) (moved (actors.Admin m) t) (sends_of first turn.sends))
          ∙ sends_actor turn.sends first m t

      writes : (o : Option Record)
          → fold (actor_does decl (administrator decl)) (moved (actors.Admin m) t)
          (writes_of o ++ (sends_of first turn.sends ++ tells_of turn.told))
          ≡ moved (actors.Admin (sent_each m first turn.sends)) t
      writes None = rest
      writes (Some r) = rest

  -- where no input is open

  abbrev pub account_is : List Deed → AdminAccount
  account_is ds = admin_account decl ds

  pub record IsTied (n : ℕ) (ds : List Deed) : Type 0 where
    pub state : Admin
    pub actor : (actor_after decl (administrator decl) ds).actor ≡ actors.Admin state
    pub ties : Ties decl n (account_is ds) state

  pub record IsFallen (ds : List Deed) : Type 0 where
    pub actor : (actor_after decl (administrator decl) ds).actor ≡ actors.Down
    pub up : (account_is ds).up ≡ false
    pub command : (account_is ds).command ≡ None
    pub written : (account_is ds).written ≡ None

  abbrev pub Stands : Bool → ℕ → List Deed → Type 0
  Stands true n ds = IsTied n ds
  Stands false n ds = IsFallen ds

  pub record IsAtRest (n : ℕ) (ds : List Deed) : Type 0 where
    pub up : Bool
    pub is : is_up ds ≡ up
    pub due : (ys : List Deed) → Follows up ys → AreAdminDeedsDue decl (account_is ds) ys → IsAdminDue decl (ds ++ ys)
    pub stands : Stands up n ds

  -- so an input may come
  pub input_due : (n : ℕ) (ds : List Deed) → IsAtRest n ds → (g : Input) → MayTake ds g
      → IsAdminInputDue decl (account_is ds) g
  input_due n ds r g may = by r.up r.stands
    where
      by : (up : Bool) → Stands up n ds → IsAdminInputDue decl (account_is ds) g
      by true s = (
        ties_row decl n (account_is ds) s.state s.ties,
        ties_decided decl n (account_is ds) s.state s.ties,
        free_for decl ds g may,
      )
      by false s = (
        ap (option_and_then (admin_row decl (account_is ds) false)) s.command,
        s.written
            ∙ sym
            (ap (λ (b : Bool). cond b (option_and_then (decided_for decl (account_is ds)) (commanded (account_is ds)))
            None) s.up),
        free_for decl ds g may,
      )

  -- deeds behind deeds

  pub account_more : (ds more : List Deed) → account_is (ds ++ more) ≡ fold (admin_account_at decl) (account_is ds) more
  account_more ds more = fold-append (admin_account_at decl) new_admin_account ds more

  pub actor_more : (ds more : List Deed)
      → actor_after decl (administrator decl) (ds ++ more)
      ≡ fold (actor_does decl (administrator decl)) (actor_after decl (administrator decl) ds) more
  actor_more ds more =
      fold-append (actor_does decl (administrator decl)) (moved (new_actor decl (administrator decl)) quiet) ds more

  pub up_more : (ds more : List Deed) → is_up (ds ++ more) ≡ fold up_at (is_up ds) more
  up_more ds more = fold-append up_at true ds more

  -- an event, its deeds being one and more, leaves all due where they are due
  pub event_due : (n : ℕ) (ds : List Deed) (r : IsAtRest n ds) (x : Deed) (more ys : List Deed)
      → Follows r.up (x ∷ (more ++ ys))
      → (AreAdminDeedsDue decl (fold (admin_account_at decl) (admin_account_at decl (account_is ds) x) more) ys
      → AreAdminDeedsDue decl (account_is ds) (x ∷ (more ++ ys)))
      → AreAdminDeedsDue decl (account_is ((ds ++ x ∷ []) ++ more)) ys
      → IsAdminDue decl (((ds ++ x ∷ []) ++ more) ++ ys)
  event_due n ds r x more ys follows dues behind =
      subst (IsAdminDue decl)
      (sym (ap (λ (v : List Deed). v ++ ys) (append_assoc ds (x ∷ []) more) ∙ append_assoc ds (x ∷ more) ys))
      (r.due (x ∷ (more ++ ys)) follows (dues
      (subst (λ (d : AdminAccount). AreAdminDeedsDue decl d ys)
      (account_more (ds ++ x ∷ []) more
      ∙ ap (λ (d : AdminAccount). fold (admin_account_at decl) d more) (account_more ds (x ∷ []))) behind)))
