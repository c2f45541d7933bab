-- The administrator posts his turn; so whoever posts, the net has done it too.
use Rattle.std.proofs.Common.{◌≡◌, ℕ, Bool, true, false, List, [], ◌++◌, length, Option, Some, None, option_to_list}
use Rattle.std.proofs.Common.{slice_get, inl, inr, refl, sym, ap, ◌∙◌, subst}
use Rattle.std.specs.Prelude.{slice_set}
use Rattle.qc_core.specs.declared.actor.Actor.{Actor}
use Rattle.qc_core.specs.declared.actor.Actor.TheVariants as actor
use Rattle.qc_core.specs.Vocabulary.{ActorMove, IsLawfulWithFalls, actor_after, actor_takes, by_admin, is_up}
use Rattle.qc_core.specs.Vocabulary.{journal_after, with_record}
use Rattle.qc_decl.specs.declared.declaration.Declaration.{Declaration}
use Rattle.qc_decl.specs.Vocabulary.{administrator}
use Rattle.qc_epoch.specs.Vocabulary.{AdminMove, admin_takes}
use Rattle.qc_msg.specs.declared.message.Envelope.{Envelope}
use Rattle.qc_msg.specs.declared.record.Record.{Record}
use Rattle.qc_msg.specs.declared.turn.Appended.{Appended}
use Rattle.qc_msg.specs.declared.turn.Appended.TheVariants.{Done, Failed, Stopped}
use Rattle.qc_msg.specs.declared.turn.Turn.{Turn}
use Rattle.qc_msg.specs.Vocabulary.{Deed, Entry, HasRecord, MayEnd, WasSentTo, by, deeds, envelopes, mail, posted_as}
use Rattle.qc_msg.specs.Vocabulary.{sends_as}
use Rattle.laws_refinement.specs.Vocabulary.{MayCome, after_admin}
use Rattle.laws_refinement.specs.Net as nets
use Rattle.laws_refinement.proofs.Machine.{put_other}
use Rattle.qc_promise.specs.Vocabulary.{pending_with}
use Rattle.theory_machine.proofs.Names.{put_here}
use Rattle.laws_atomic.proofs.Stood.{may_come}
use Rattle.laws_reach.specs.Vocabulary.{HasTaken, TakesInputs}
use Rattle.laws_reach.proofs.Growing.{actor_posted, all_sent, ended_journal, ended_up}
use Rattle.laws_reach.proofs.PostedTurns.{takes_inputs}
use Rattle.laws_reach.proofs.Posting.{client_posts, down_posts, fails_shows, site_posts, to_net}
use Rattle.laws_reach.proofs.Stood.{Stands, Stood, in_admin}
use Rattle.qc_core.proofs.PostsByTurns.{called_turn}

module _ (decl : Declaration) (h : List Entry) (inputs : List Bool) (old : Stood decl h inputs) (turn : Turn) where
  -- the history after the post of an actor, and the open inputs

  abbrev after : ℕ → Appended → List Entry
  after a end = h ++ by a (posted_as end (length (mail h)) turn)

  abbrev now : ℕ → List Bool
  now a = slice_set inputs a false

  -- the administrator's number
  abbrev a : ℕ
  a = administrator decl

  abbrev ds : List Deed
  ds = deeds a [] h

  module _ (taken : slice_get inputs a ≡ Some true) (law : IsLawfulWithFalls decl a ds turn)
      (s : Stands decl old.net a h (Some true)) (up : is_up ds ≡ true) where
    x : HasTaken decl old.net a h
    x = s.opened up refl

    abbrev move : AdminMove
    move = admin_takes decl old.net.admin x.given

    came : MayCome old.net a x.given
    came = may_come old.net a x.given (subst (λ (ms : List Envelope). WasSentTo a ms x.given) (sym old.mail_is) x.sent)

    moved_is : actor_after decl a ds ≡ by_admin move
    moved_is = x.is ∙ ap (λ (v : Actor). actor_takes decl v x.given) (in_admin decl old.net)

    turn_is : move.turn ≡ with_record turn
    turn_is = ap (λ (m : ActorMove). m.turn) (sym moved_is) ∙ called_turn decl a ds turn law

    fails : (end : Appended) (r : Record) → turn.write ≡ Some r → ended_up end true ≡ false
        → ended_journal end turn.write (journal_after ds) ≡ record
        (journal_after ds) { pending = pending_with (journal_after ds).pending turn.write }
        → nets.AreFailedSends turn (sends_as end turn) → Stood decl (after a end) (now a)
    fails end r wrote falls journal failed =
        fails_shows decl h inputs old a turn taken law end r s wrote falls journal
        (nets.admin_fails x.given r (sends_as end turn) old.net old.reached (s.up ∙ up) came (x.may_admin refl)
        (ap (λ (t : Turn). t.write) turn_is ∙ wrote)
        (elim failed [ inl same ↦ inl (same ∙ ap (λ (t : Turn). t.failed_sends) (sym turn_is)) | inr none ↦ inr none ]))
        up

    pub admin_posts : (end : Appended) → MayEnd turn.write end → Stood decl (after a end) (now a)
    admin_posts Done may = to_net decl h inputs old a turn taken law Done (after_admin decl old.net move) (record {
      reached = nets.administers x.given old.net old.reached (s.up ∙ up) came (x.may_admin refl);
      sent = ap (λ (t : Turn). old.net.mail ++ envelopes a (length old.net.mail) t.sends) turn_is;
      leaves = λ b other. record {
        up = refl;
        records = put_other old.net.records a (old.net.records a ++ option_to_list move.turn.write) b other;
        pending = refl;
        sites = refl;
        clients = refl;
        admin = λ at. absurd (other at);
      };
      up = s.up;
      records = put_here old.net.records a (old.net.records a ++ option_to_list move.turn.write)
          ∙ (λ i. s.records i ++ option_to_list (turn_is i).write);
      pending = s.pending;
      clear = s.clear;
      state = λ is.
          actor_posted decl a ds (length (mail h)) turn
          ∙ ap (λ (m : ActorMove). all_sent m.actor (length (mail h)) turn.sends) moved_is
          ∙ (λ i. actor.Admin (nets.all_sent move.admin (length (sym old.mail_is i)) (sym turn_is i).sends))
          ∙ sym (in_admin decl (after_admin decl old.net move));
    })
    admin_posts Failed may = by_record turn.write refl may
      where
        by_record : (o : Option Record) → turn.write ≡ o → HasRecord o → Stood decl (after a Failed) (now a)
        by_record None wrote has = absurd has
        by_record (Some r) wrote has = fails Failed r wrote refl refl (inl refl)
    admin_posts Stopped may = by_record turn.write refl may
      where
        by_record : (o : Option Record) → turn.write ≡ o → HasRecord o → Stood decl (after a Stopped) (now a)
        by_record None wrote has = absurd has
        by_record (Some r) wrote has = fails Stopped r wrote refl refl (inr refl)

  -- who has this number posts as he does
  abbrev PostsAt : ℕ → Type 0
  PostsAt b = slice_get inputs b ≡ Some true → IsLawfulWithFalls decl b (deeds b [] h) turn
      → Stands decl old.net b h (Some true) → is_up (deeds b [] h) ≡ true
      → Stood decl (after b turn.append) (now b)

  pub posts : (b : ℕ) → slice_get inputs b ≡ Some true → IsLawfulWithFalls decl b (deeds b [] h) turn
      → Stood decl (after b turn.append) (now b)
  posts b taken law = by_kind (takes_inputs decl b (deeds b [] h) turn law) (is_up (deeds b [] h)) refl
    where
      stands : TakesInputs decl b → Stands decl old.net b h (Some true)
      stands is = subst (Stands decl old.net b h) taken (old.actors b is)

      by_kind : TakesInputs decl b → (u : Bool) → is_up (deeds b [] h) ≡ u → Stood decl (after b turn.append) (now b)
      by_kind is false down = down_posts decl h inputs old b turn taken law (stands is) down turn.append law.may_end
      by_kind (inl site) true up = site_posts decl h inputs old b turn taken law site
          (stands (inl site)) up turn.append law.may_end
      by_kind (inr (inl client)) true up = client_posts decl h inputs old b turn taken law client
          (stands (inr (inl client))) up turn.append law.may_end
      by_kind (inr (inr at)) true up =
          subst PostsAt (sym at) (λ taken law s up. admin_posts taken law s up turn.append law.may_end) taken law
          (stands (inr (inr at))) up
