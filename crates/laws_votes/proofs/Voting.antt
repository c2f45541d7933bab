-- A site that posts a turn votes in the life that its records give it, then and after the turn, where the request names
-- one; and no other event votes.
use Rattle.std.proofs.Common.{[], ◌≡◌, ◌≤◌, ◌⊎◌, ℕ, Bool, true, false, List, ◌∷◌, ◌++◌, inl, inr, length, map, take}
use Rattle.std.proofs.Common.{Some, option_to_list, slice_get, refl, sym, ap, ◌∙◌, subst, arith}
use Rattle.qc_core.specs.declared.actor.Actor.{Actor}
use Rattle.qc_core.specs.Vocabulary.{ActorMove, IsLawfulWithFalls, actor_after, actor_takes, is_up, journal_after}
use Rattle.qc_core.specs.Vocabulary.{with_record}
use Rattle.qc_core.proofs.ByNumber.{site_risen}
use Rattle.qc_core.proofs.LivesLaws.{journal}
use Rattle.qc_core.proofs.LivesOfActors as actor_laws
use Rattle.qc_decl.specs.Vocabulary.{IsAccepted, is_site}
use Rattle.qc_decl.specs.declared.declaration.Declaration.{Declaration}
use Rattle.laws_votes.specs.Vocabulary.{life_at}
use Rattle.laws_votes.proofs.SiteLives.{life_of}
use Rattle.qc_list.specs.Vocabulary.{In}
use Rattle.qc_list.proofs.Members.{In-second}
use Rattle.qc_entry.specs.declared.record.Prepared.{Prepared}
use Rattle.qc_msg.specs.declared.step.Step.TheVariants as steps
use Rattle.laws_turns.proofs.Downs.{who_is_down_only_tells}
use Rattle.qc_msg.proofs.DeedsGrow.{deeds-append, deeds-rose}
use Rattle.qc_msg.proofs.Growth.{deeds-posted_as}
use Rattle.qc_msg.specs.Vocabulary.{Deed, Entry, HasRecord, MayEnd, WasSentTo, by, deeds, envelopes, mail, posted_as}
use Rattle.qc_msg.specs.Vocabulary.{sends_as}
use Rattle.qc_msg.specs.declared.message.Answer.TheVariants as answers
use Rattle.qc_msg.specs.declared.message.Envelope.{Envelope}
use Rattle.qc_msg.specs.declared.message.Message.TheVariants as messages
use Rattle.qc_msg.specs.declared.record.Record.{Record}
use Rattle.qc_msg.specs.declared.turn.Appended.{Appended}
use Rattle.qc_msg.specs.declared.turn.Appended.TheVariants.{Done, Failed, Stopped}
use Rattle.qc_msg.specs.declared.turn.Posting.{Posting}
use Rattle.qc_msg.specs.declared.turn.Turn.{Turn}
use Rattle.laws_refinement.specs.Vocabulary.{MayCome, Net, Refines, after_site}
use Rattle.laws_refinement.specs.Net as nets
use Rattle.laws_refinement.specs.Steps as later_nets
use Rattle.laws_refinement.proofs.Refining.{nets_refine}
use Rattle.laws_refinement.proofs.SiteVotes.{no_inquiry, take_silent}
use Rattle.laws_refinement.proofs.VotesLater.{later_votes_name_later_lives}
use Rattle.qc_promise.specs.Vocabulary.{Journal}
use Rattle.theory_machine.proofs.Names.{put_here}
use Rattle.laws_reach.proofs.Growing.{journal_posted}
use Rattle.laws_reach.proofs.Stood.{Stands, Stood, in_site}
use Rattle.laws_reach.specs.Vocabulary.{HasTaken}
use Rattle.qc_recover.specs.Vocabulary.{kept_by, most_inquiries, site_rises}
use Rattle.qc_site.specs.Vocabulary.{SiteMove, SiteState, closes_in, in_order, site_takes}
use Rattle.laws_atomic.proofs.Stood.{may_come}
use Rattle.laws_votes.proofs.VoteInputs.{IsCast, IsVote, takes_life, takes_none, fallen}
use Rattle.qc_core.proofs.PostsByTurns.{called_turn}

module _ (decl : Declaration) (accepted : IsAccepted decl) (h : List Entry) (inputs : List Bool)
    (old : Stood decl h inputs) (a : ℕ) (site : is_site decl a ≡ true) (turn : Turn) where
  -- a post

  module _ (taken : slice_get inputs a ≡ Some true) (law : IsLawfulWithFalls decl a (deeds a [] h) turn) where
    abbrev ds : List Deed
    ds = deeds a [] h

    abbrev after : Appended → List Entry
    after end = h ++ by a (posted_as end (length (mail h)) turn)

    s : Stands decl old.net a h (Some true)
    s = subst (Stands decl old.net a h) taken (old.actors a (inl site))

    module _ (up : is_up ds ≡ true) where
      x : HasTaken decl old.net a h
      x = s.opened up refl

      abbrev move : SiteMove
      move = site_takes decl (old.net.sites a) x.given

      came : MayCome old.net a x.given
      came =
          may_come old.net a x.given (subst (λ (ms : List Envelope). WasSentTo a ms x.given) (sym old.mail_is) x.sent)

      turn_is : move.turn ≡ with_record turn
      turn_is =
          ap (λ (m : ActorMove). m.turn)
          (sym (x.is ∙ ap (λ (v : Actor). actor_takes decl v x.given) (in_site decl old.net a site)))
          ∙ called_turn decl a ds turn law

      abbrev next : Net
      next = after_site old.net a move

      reached : nets.Reaches decl next
      reached = nets.serves a x.given old.net old.reached site (s.up ∙ up) came

      -- the life of its records is that of before, where it doesn't close its epoch
      life_then : closes_in move.turn ≡ false → life_of (next.records a) ≡ life_of (old.net.records a)
      life_then stays =
          let m : Refines decl next = nets_refine decl accepted next reached in
          let n : Refines decl old.net = nets_refine decl accepted old.net old.reached in
          (m.agrees.kept a site).life_is ∙ sym (m.agrees.sites a site (s.up ∙ up)).life
          ∙ ap (λ (t : SiteState). t.life) (put_here old.net.sites a move.site)
          ∙ takes_life decl (old.net.sites a) x.given stays
          ∙ (n.agrees.sites a site (s.up ∙ up)).life ∙ sym (n.agrees.kept a site).life_is

      records_then : life_at (after Done) a ≡ life_of (next.records a)
      records_then =
          ap (λ (j : Journal). life_of j.records)
          (sym (journal a (after Done)) ∙ ap journal_after (deeds-posted_as Done a (length (mail h)) h turn)
          ∙ journal_posted ds Done (length (mail h)) turn)
          ∙ sym
          (ap life_of
          (put_here old.net.records a (old.net.records a ++ option_to_list move.turn.write)
          ∙ (λ i. s.records i ++ option_to_list (turn_is i).write)))

      casts : closes_in move.turn ≡ false → (e : Envelope) (to clock : ℕ)
          → In e (mail h ++ envelopes a (length (mail h)) turn.sends) → e.from ≡ a
          → e.message ≡ messages.Answer to (answers.Yes clock)
          → In e (mail h) ⊎ IsCast (mail h ++ envelopes a (length (mail h)) turn.sends) to (life_at (after Done) a)
      casts stays e to clock among from is =
          elim (later_votes_name_later_lives decl accepted old.net old.reached next
          (later_nets.more old.net next later_nets.same (later_nets.serves a x.given old.net site (s.up ∙ up) came)) e
          (subst (In e) (sym mail_then) among) (subst (λ (b : ℕ). is_site decl b ≡ true) (sym from) site) to clock is) [
            | inl before ↦ inl (subst (In e) old.mail_is before)
            | inr v ↦ inr (record {
              request = v.request;
              sent = subst (In v.request) mail_then v.sent;
              numbered = v.numbered;
              tx = v.tx;
              epoch = v.epoch;
              life = v.life;
              named = v.named;
              lives = elim v.low [
                | inl none ↦ inl none
                | inr low ↦ inr (
                    let here : life_of (old.net.records e.from) ≡ life_of (old.net.records a) =
                    ap (λ (b : ℕ). life_of (old.net.records b)) from in
                    let same : life_at (after Done) a ≡ life_of (old.net.records a) = records_then ∙ life_then stays in
                    let low_is : life_of (old.net.records e.from) ≤ v.life = low in
                    omega arith)
              ];
            })
          ]
        where
          mail_then : next.mail ≡ mail h ++ envelopes a (length (mail h)) turn.sends
          mail_then = (λ i. old.mail_is i ++ envelopes a (length (old.mail_is i)) (turn_is i).sends)

      -- what is sent where the record isn't written is no vote
      silent : (p : Posting) (to : ℕ) → In p turn.failed_sends → IsVote p to → ⊥
      silent p to among v =
          take_silent decl (old.net.sites a) x.given p (subst (λ (t : Turn). In p t.failed_sends) (sym turn_is) among)
          to v.0 v.1

    -- whatever becomes of its record
    pub post_casts : (e : Envelope) (p : Posting) (to clock : ℕ)
        → In e (envelopes a (length (mail h)) (sends_as turn.append turn)) → In p (sends_as turn.append turn)
        → e.from ≡ a → e.message ≡ p.message → e.message ≡ messages.Answer to (answers.Yes clock)
        → In e (mail h)
        ⊎ IsCast (mail h ++ envelopes a (length (mail h)) (sends_as turn.append turn)) to
        (life_at (after turn.append) a)
    post_casts e p to clock among posted from same is = by (is_up ds) refl turn.append law.may_end among posted
      where
        written : (end : Appended) → is_up ds ≡ false → MayEnd turn.write end → (end ≡ Done) ⊎ (sends_as end turn ≡ [])
        written Done down may = inl refl
        written Failed down may =
            absurd (subst HasRecord ((who_is_down_only_tells decl).writes_none a ds turn law (fallen ds down)) may)
        written Stopped down may = inr refl

        by : (u : Bool) → is_up ds ≡ u → (end : Appended) → MayEnd turn.write end
            → In e (envelopes a (length (mail h)) (sends_as end turn)) → In p (sends_as end turn)
            → In e (mail h)
            ⊎ IsCast (mail h ++ envelopes a (length (mail h)) (sends_as end turn)) to (life_at (after end) a)
        by true up Done may there sent = cast (closes_in (move up).turn) refl
          where
            cast : (t : Bool) → closes_in (move up).turn ≡ t
                → In e (mail h)
                ⊎ IsCast (mail h ++ envelopes a (length (mail h)) turn.sends) to (life_at (after Done) a)
            cast true closes =
                absurd (takes_none decl (old.net.sites a) (x up).given closes p
                (subst (λ (t : Turn). In p t.sends) (sym (turn_is up)) sent) to (clock, sym same ∙ is))
            cast false stays =
                casts up stays e to clock (In-second e (mail h) (envelopes a (length (mail h)) turn.sends) there) from
                is
        by true up Failed may there sent = absurd (silent up p to sent (clock, sym same ∙ is))
        by true up Stopped may there sent = absurd sent
        by false down end may there sent = absurd (elim (written end down may) [
          | inl done ↦
              subst (In p)
              (ap (λ (x : Appended). sends_as x turn) done
              ∙ (who_is_down_only_tells decl).sends_none a ds turn law (fallen ds down))
              sent
          | inr none ↦ subst (In p) none sent
        ])

  -- a rise: it asks the clients of its promises

  pub rise_casts : (records : List Record)
      → IsLawfulWithFalls decl a (deeds a [] (h ++ by a (steps.Rose records ∷ []))) turn → (p : Posting) (to : ℕ)
      → In p (sends_as turn.append turn) → IsVote p to → ⊥
  rise_casts records law p to among v = by turn.append among
    where
      turn_is : (site_rises decl a records).turn ≡ with_record turn
      turn_is =
          ap (λ (m : ActorMove). m.turn) (sym (site_risen decl a site records)
          ∙ sym (actor_laws.rises decl a (deeds a [] h) records)
          ∙ ap (actor_after decl a)
          (sym (deeds-append a [] h (by a (steps.Rose records ∷ []))
          ∙ ap (λ (v : List Deed). deeds a [] h ++ v) (deeds-rose a (mail h) records))))
          ∙ called_turn decl a (deeds a [] (h ++ by a (steps.Rose records ∷ []))) turn law

      by : (end : Appended) → In p (sends_as end turn) → ⊥
      by Done sent =
          no_inquiry decl (take most_inquiries (in_order (map (λ (q : Prepared). q.tx) (kept_by records).promises))) p
          (subst (λ (t : Turn). In p t.sends) (sym turn_is) sent) to v.0 v.1
      by Failed sent = subst (λ (t : Turn). In p t.failed_sends) (sym turn_is) sent
      by Stopped sent = sent
