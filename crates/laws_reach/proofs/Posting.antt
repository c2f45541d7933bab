-- A site or a client posts its turn: the net takes and posts in one step, or falls in it. One that is down only
-- tells a reply, which is nothing to the net.
use Rattle.std.proofs.Common.{[], ◌≡◌, ℕ, not, Bool, true, false, List, ◌++◌, length, Option, Some, None}
use Rattle.std.proofs.Common.{option_to_list, slice_get, inl, inr, refl, sym, ap, ◌∙◌, subst}
use Rattle.std.specs.Prelude.{slice_set}
use Rattle.std.proofs.lemmas.List.{append-nil}
use Rattle.qc_core.specs.declared.actor.Actor.{Actor}
use Rattle.qc_core.specs.declared.actor.Actor.TheVariants as actor
use Rattle.qc_core.specs.Vocabulary.{ActorMove, IsLawfulWithFalls, actor_after, actor_takes, by_client, by_site, is_up}
use Rattle.qc_core.specs.Vocabulary.{journal_after, with_record}
use Rattle.qc_decl.specs.declared.declaration.Declaration.{Declaration}
use Rattle.qc_decl.specs.Vocabulary.{is_client, is_site}
use Rattle.qc_client.specs.Vocabulary.{ClientMove, client_takes}
use Rattle.qc_mailbox.specs.Vocabulary.{is_down}
use Rattle.laws_turns.proofs.Downs.{who_is_down_only_tells, up_is}
use Rattle.qc_msg.specs.declared.message.Envelope.{Envelope}
use Rattle.qc_msg.specs.declared.record.Record.{Record}
use Rattle.qc_msg.specs.declared.turn.Appended.{Appended}
use Rattle.qc_msg.specs.declared.turn.Appended.TheVariants.{Done, Failed, Stopped}
use Rattle.qc_msg.specs.declared.turn.Posting.{Posting}
use Rattle.qc_msg.specs.declared.turn.Turn.{Turn}
use Rattle.qc_msg.specs.Vocabulary.{Deed, Entry, HasRecord, MayEnd, WasSentTo, by, deeds, envelopes, mail, posted_as}
use Rattle.qc_msg.specs.Vocabulary.{sends_as}
use Rattle.qc_msg.proofs.GrownMail.{mail-append}
use Rattle.qc_msg.proofs.DeedsGrow.{deeds-other}
use Rattle.qc_msg.proofs.Growth.{deeds-posted_as, mail-posted_as}
use Rattle.laws_refinement.specs.Vocabulary.{MayCome, Net, Reaches, after_client, after_fall, after_site, sent_all}
use Rattle.laws_refinement.specs.Net as nets
use Rattle.laws_refinement.proofs.Machine.{put_other}
use Rattle.qc_promise.specs.Vocabulary.{Journal, pending_with}
use Rattle.theory_machine.proofs.Names.{put_here}
use Rattle.qc_site.specs.Vocabulary.{SiteMove, site_takes}
use Rattle.laws_atomic.proofs.Stood.{may_come, not_now, false_true, slot_other}
use Rattle.laws_reach.specs.Vocabulary.{HasTaken}
use Rattle.laws_reach.proofs.Growing.{actor_posted, all_sent, ended_journal, ended_up}
use Rattle.laws_reach.proofs.Stood.{Stands, Stood, in_client, in_site, itself}
use Rattle.laws_reach.proofs.PostedTurns.{fell_leaves, never_up, Shows, turned}
use Rattle.qc_core.proofs.PostsByTurns.{called_turn}

-- a post

module _ (decl : Declaration) (h : List Entry) (inputs : List Bool) (old : Stood decl h inputs) (a : ℕ) (turn : Turn)
    (taken : slice_get inputs a ≡ Some true) (law : IsLawfulWithFalls decl a (deeds a [] h) turn) where
  abbrev ds : List Deed
  ds = deeds a [] h

  abbrev n : ℕ
  n = length (mail h)

  abbrev pub after : Appended → List Entry
  after end = h ++ by a (posted_as end n turn)

  abbrev pub now : List Bool
  now = slice_set inputs a false

  pub mail_now : (end : Appended) → mail (after end) ≡ mail h ++ envelopes a n (sends_as end turn)
  mail_now end =
      mail-append h (by a (posted_as end n turn))
      ∙ ap (λ (ms : List Envelope). mail h ++ ms) (mail-posted_as end a n turn)

  -- the net after it
  pub to_net : (end : Appended) (next : Net)
      → Shows decl h inputs now old a turn end (after end) ds (deeds-posted_as end a n h turn) (mail_now end)
      (λ b other. deeds-other a b [] h (posted_as end n turn) other) (λ b other. slot_other inputs a b false other)
      (not_now inputs a false true true taken false_true) next
      → Stood decl (after end) now
  to_net end next shows =
      turned decl h inputs now old a turn end (after end) ds (deeds-posted_as end a n h turn) (mail_now end)
      (λ b other. deeds-other a b [] h (posted_as end n turn) other) (λ b other. slot_other inputs a b false other)
      (not_now inputs a false true true taken false_true) next shows

  pub fails_shows : (end : Appended) (r : Record) → Stands decl old.net a h (Some true) → turn.write ≡ Some r
      → ended_up end true ≡ false
      → ended_journal end turn.write (journal_after ds)
      ≡ record (journal_after ds) { pending = pending_with (journal_after ds).pending turn.write }
      → Reaches decl (after_fall old.net a (Some r) (sends_as end turn)) → is_up ds ≡ true → Stood decl (after end) now
  fails_shows end r s wrote falls journal reached up =
      let down : ended_up end (is_up ds) ≡ false = ap (ended_up end) up ∙ falls in
      to_net end (after_fall old.net a (Some r) (sends_as end turn)) (record {
        reached = reached;
        sent = refl;
        leaves = fell_leaves decl old.net a (Some r) (sends_as end turn);
        up = put_here old.net.up a false ∙ sym down;
        records = s.records ∙ ap (λ (j : Journal). j.records) (sym journal);
        pending =
            put_here old.net.pending a (Some r) ∙ ap (pending_with (journal_after ds).pending) (sym wrote)
            ∙ ap (λ (j : Journal). j.pending) (sym journal);
        clear = λ is. absurd (never_up (ended_up end (is_up ds)) down is);
        state = λ is. absurd (never_up (ended_up end (is_up ds)) down is);
      })

  -- a site's

  module _ (site : is_site decl a ≡ true) (s : Stands decl old.net a h (Some true)) (up : is_up ds ≡ true) where
    x : HasTaken decl old.net a h
    x = s.opened up refl

    abbrev move : SiteMove
    move = site_takes decl (old.net.sites a) x.given

    came : MayCome old.net a x.given
    came = may_come old.net a x.given (subst (λ (ms : List Envelope). WasSentTo a ms x.given) (sym old.mail_is) x.sent)

    moved_is : actor_after decl a ds ≡ by_site move
    moved_is = x.is ∙ ap (λ (v : Actor). actor_takes decl v x.given) (in_site decl old.net a site)

    turn_is : move.turn ≡ with_record turn
    turn_is = ap (λ (m : ActorMove). m.turn) (sym moved_is) ∙ called_turn decl a ds turn law

    site_fails : (end : Appended) (r : Record) → turn.write ≡ Some r → ended_up end true ≡ false
        → ended_journal end turn.write (journal_after ds)
        ≡ record (journal_after ds) { pending = pending_with (journal_after ds).pending turn.write }
        → nets.AreFailedSends turn (sends_as end turn) → Stood decl (after end) now
    site_fails end r wrote falls journal failed =
        fails_shows end r s wrote falls journal
        (nets.site_fails a x.given r (sends_as end turn) old.net old.reached site (s.up ∙ up) came
        (ap (λ (t : Turn). t.write) turn_is ∙ wrote)
        (elim failed [ inl same ↦ inl (same ∙ ap (λ (t : Turn). t.failed_sends) (sym turn_is)) | inr none ↦ inr none ]))
        up

    pub site_posts : (end : Appended) → MayEnd turn.write end → Stood decl (after end) now
    site_posts Done may = to_net Done (after_site old.net a move) (record {
      reached = nets.serves a x.given old.net old.reached site (s.up ∙ up) came;
      sent = ap (λ (t : Turn). old.net.mail ++ envelopes a (length old.net.mail) t.sends) turn_is;
      leaves = λ b other. record {
        up = refl;
        records = put_other old.net.records a (old.net.records a ++ option_to_list move.turn.write) b other;
        pending = refl;
        sites = put_other old.net.sites a move.site b other;
        clients = refl;
        admin = λ at. refl;
      };
      up = s.up;
      records =
          put_here old.net.records a (old.net.records a ++ option_to_list move.turn.write)
          ∙ (λ i. s.records i ++ option_to_list (turn_is i).write);
      pending = s.pending;
      clear = s.clear;
      state = λ is.
          actor_posted decl a ds n turn ∙ ap (λ (m : ActorMove). all_sent m.actor n turn.sends) moved_is
          ∙ sym
          (in_site decl (after_site old.net a move) a site
          ∙ ap (λ (v : _). actor.Site v) (put_here old.net.sites a move.site));
    })
    site_posts Failed may = by turn.write refl may
      where
        by : (o : Option Record) → turn.write ≡ o → HasRecord o → Stood decl (after Failed) now
        by None wrote has = absurd has
        by (Some r) wrote has = site_fails Failed r wrote refl refl (inl refl)
    site_posts Stopped may = by turn.write refl may
      where
        by : (o : Option Record) → turn.write ≡ o → HasRecord o → Stood decl (after Stopped) now
        by None wrote has = absurd has
        by (Some r) wrote has = site_fails Stopped r wrote refl refl (inr refl)

  -- a client's

  module _ (client : is_client decl a ≡ true) (s : Stands decl old.net a h (Some true)) (up : is_up ds ≡ true) where
    y : HasTaken decl old.net a h
    y = s.opened up refl

    abbrev step : ClientMove
    step = client_takes decl (old.net.clients a) y.given

    comes : MayCome old.net a y.given
    comes = may_come old.net a y.given (subst (λ (ms : List Envelope). WasSentTo a ms y.given) (sym old.mail_is) y.sent)

    step_is : actor_after decl a ds ≡ by_client step
    step_is = y.is ∙ ap (λ (v : Actor). actor_takes decl v y.given) (in_client decl old.net a client)

    turn_was : step.turn ≡ with_record turn
    turn_was = ap (λ (m : ActorMove). m.turn) (sym step_is) ∙ called_turn decl a ds turn law

    client_fails : (end : Appended) (r : Record) → turn.write ≡ Some r → ended_up end true ≡ false
        → ended_journal end turn.write (journal_after ds)
        ≡ record (journal_after ds) { pending = pending_with (journal_after ds).pending turn.write }
        → nets.AreFailedSends turn (sends_as end turn) → Stood decl (after end) now
    client_fails end r wrote falls journal failed =
        fails_shows end r s wrote falls journal
        (nets.client_fails a y.given r (sends_as end turn) old.net old.reached client (s.up ∙ up) comes (y.may client)
        (ap (λ (t : Turn). t.write) turn_was ∙ wrote)
        (elim failed [
          | inl same ↦ inl (same ∙ ap (λ (t : Turn). t.failed_sends) (sym turn_was))
          | inr none ↦ inr none
        ])) up

    pub client_posts : (end : Appended) → MayEnd turn.write end → Stood decl (after end) now
    client_posts Done may = to_net Done (after_client old.net a step) (record {
      reached = nets.takes a y.given old.net old.reached client (s.up ∙ up) comes (y.may client);
      sent = ap (λ (t : Turn). old.net.mail ++ envelopes a (length old.net.mail) t.sends) turn_was;
      leaves = λ b other. record {
        up = refl;
        records = put_other old.net.records a (old.net.records a ++ option_to_list step.turn.write) b other;
        pending = refl;
        sites = refl;
        clients = put_other old.net.clients a (sent_all step.client (length old.net.mail) step.turn.sends) b other;
        admin = λ at. refl;
      };
      up = s.up;
      records =
          put_here old.net.records a (old.net.records a ++ option_to_list step.turn.write)
          ∙ (λ i. s.records i ++ option_to_list (turn_was i).write);
      pending = s.pending;
      clear = s.clear;
      state = λ is.
          actor_posted decl a ds n turn ∙ ap (λ (m : ActorMove). all_sent m.actor n turn.sends) step_is
          ∙ (λ i. actor.Client (sent_all step.client (length (sym old.mail_is i)) (sym turn_was i).sends))
          ∙ sym
          (in_client decl (after_client old.net a step) a client
          ∙ ap (λ (v : _). actor.Client v)
          (put_here old.net.clients a (sent_all step.client (length old.net.mail) step.turn.sends)));
    })
    client_posts Failed may = by turn.write refl may
      where
        by : (o : Option Record) → turn.write ≡ o → HasRecord o → Stood decl (after Failed) now
        by None wrote has = absurd has
        by (Some r) wrote has = client_fails Failed r wrote refl refl (inl refl)
    client_posts Stopped may = by turn.write refl may
      where
        by : (o : Option Record) → turn.write ≡ o → HasRecord o → Stood decl (after Stopped) now
        by None wrote has = absurd has
        by (Some r) wrote has = client_fails Stopped r wrote refl refl (inr refl)

  -- one that is down: it has no record and no message

  is_fallen : (d : Bool) → is_up ds ≡ not d → is_up ds ≡ false → d ≡ true
  is_fallen true is down = refl
  is_fallen false is down = absurd (never_up (is_up ds) down is)

  fallen : is_up ds ≡ false → is_down ds ≡ true
  fallen down = is_fallen (is_down ds) (up_is ds) down

  pub down_posts : Stands decl old.net a h (Some true) → is_up ds ≡ false → (end : Appended) → MayEnd turn.write end
      → Stood decl (after end) now
  down_posts s down Done may = to_net Done old.net (record {
    reached = old.reached;
    sent =
        sym (ap (λ (ps : List Posting). old.net.mail ++ envelopes a (length old.net.mail) ps)
        ((who_is_down_only_tells decl).sends_none a ds turn law (fallen down)) ∙ append-nil old.net.mail);
    leaves = λ b other. itself decl old.net b;
    up = s.up;
    records =
        s.records
        ∙ sym
        (ap (λ (o : Option Record). (journal_after ds).records ++ option_to_list o)
        ((who_is_down_only_tells decl).writes_none a ds turn law (fallen down))
        ∙ append-nil (journal_after ds).records);
    pending = s.pending;
    clear = s.clear;
    state = λ is. absurd (never_up (is_up ds) down is);
  })
  down_posts s down Failed may =
      absurd (subst HasRecord ((who_is_down_only_tells decl).writes_none a ds turn law (fallen down)) may)
  down_posts s down Stopped may =
      absurd (subst HasRecord ((who_is_down_only_tells decl).writes_none a ds turn law (fallen down)) may)
