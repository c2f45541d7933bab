-- A site or a client rises with its records, and with the one that was pending, or without it: the net gives it these
-- too, and it is up once the record of its rise is written.
use Rattle.std.proofs.Common.{◌≡◌, ◌⊎◌, ℕ, ◌-◌, Bool, true, false, List, [], ◌∷◌, ◌++◌, length, Option, Some, None}
use Rattle.std.proofs.Common.{option_to_list, slice_get, inl, inr, refl, sym, ap, ◌∙◌, subst, append_assoc}
use Rattle.std.proofs.lemmas.List.{append-nil}
use Rattle.std.proofs.lemmas.List.Sums.{fold-append}
use Rattle.qc_core.specs.declared.actor.Actor.TheVariants as actor
use Rattle.qc_core.specs.Vocabulary.{ActorMove, IsLawfulWithFalls, actor_after, actor_rises, by_client, by_site, is_up}
use Rattle.qc_core.specs.Vocabulary.{journal_after, journal_at, up_at, with_record}
use Rattle.qc_core.proofs.ByNumber.{client_risen, site_risen}
use Rattle.qc_core.proofs.LivesLaws.{journal}
use Rattle.qc_core.proofs.LivesOfActors as actor_laws
use Rattle.qc_decl.specs.declared.declaration.Declaration.{Declaration}
use Rattle.qc_decl.specs.Vocabulary.{is_client, is_site}
use Rattle.qc_client.specs.declared.client.Client.{Client}
use Rattle.qc_msg.specs.declared.message.Envelope.{Envelope}
use Rattle.qc_msg.specs.declared.record.Record.{Record}
use Rattle.qc_msg.specs.declared.record.Record.TheVariants.{Life}
use Rattle.qc_msg.specs.declared.step.Step.TheVariants as steps
use Rattle.qc_msg.specs.declared.turn.Appended.{Appended}
use Rattle.qc_msg.specs.declared.turn.Appended.TheVariants.{Done, Failed, Stopped}
use Rattle.qc_msg.specs.declared.turn.Posting.{Posting}
use Rattle.qc_msg.specs.declared.turn.Turn.{Turn}
use Rattle.qc_msg.specs.Vocabulary.{Deed, Entry, Rises, by, deeds, deeds_as, envelopes, mail, marked, own, posted_as}
use Rattle.qc_msg.specs.Vocabulary.{sends_as}
use Rattle.qc_msg.proofs.GrownMail.{mail-append}
use Rattle.qc_msg.proofs.DeedsGrow.{deeds-append, deeds-other, deeds-rose}
use Rattle.qc_msg.proofs.Growth.{deeds-posted_as, mail-posted_as}
use Rattle.laws_refinement.specs.Vocabulary.{Net, Reaches, after_client_rise, after_site_rise, after_vain_rise}
use Rattle.laws_refinement.specs.Net as nets
use Rattle.laws_refinement.proofs.Machine.{put_other}
use Rattle.qc_promise.specs.Vocabulary.{IsGivenBack, Journal, journal_of, no_journal, pending_with}
use Rattle.theory_machine.proofs.Names.{put_here}
use Rattle.qc_recover.specs.Vocabulary.{client_rises, site_rises}
use Rattle.qc_site.specs.Vocabulary.{SiteState}
use Rattle.laws_reach.proofs.Growing.{actor_posted, all_sent, ended_journal, ended_up}
use Rattle.laws_reach.proofs.PostedTurns.{Shows, never_up, turned}
use Rattle.laws_reach.proofs.Stood.{Stands, Stood, in_client, in_site}
use Rattle.qc_core.proofs.PostsByTurns.{called_turn}

-- what is given back: the records, and the pending one or none
pub record Back (j : Journal) (given : List Record) : Type 0 where
  pub back : Option Record
  pub is : given ≡ j.records ++ option_to_list back
  pub from : (back ≡ None) ⊎ (back ≡ j.pending)

back_of : (j : Journal) (given : List Record) → IsGivenBack j given → Back j given
back_of j given (inl is) = record { back = None; is = is ∙ sym (append-nil j.records); from = inl refl }
back_of j given (inr is) = record { back = j.pending; is = is; from = inr refl }

module _ (decl : Declaration) (h : List Entry) (inputs : List Bool) (old : Stood decl h inputs) (a : ℕ)
    (records : List Record) (turn : Turn) (law : IsLawfulWithFalls decl a
    (deeds a [] (h ++ marked a (steps.Rose records) ∷ [])) turn)
    (given : IsGivenBack (journal_of (own a h)) records) (down : is_up (deeds a [] h) ≡ false)
    (shut : slice_get inputs a ≡ Some true → ⊥) where
  abbrev n : ℕ
  n = length (mail h)

  abbrev ds : List Deed
  ds = deeds a [] h ++ Rises records ∷ []

  abbrev after : Appended → List Entry
  after end = h ++ by a (steps.Rose records ∷ posted_as end n turn)

  rose : deeds a [] (h ++ marked a (steps.Rose records) ∷ []) ≡ ds
  rose = deeds-append a [] h (by a (steps.Rose records ∷ []))
      ∙ ap (λ (v : List Deed). deeds a [] h ++ v) (deeds-rose a (mail h) records)

  split : (end : Appended) → after end ≡ (h ++ marked a (steps.Rose records) ∷ []) ++ by a (posted_as end n turn)
  split end = sym (append_assoc h (marked a (steps.Rose records) ∷ []) (by a (posted_as end n turn)))

  pub deeds_now : (end : Appended) → deeds a [] (after end) ≡ ds ++ deeds_as end n turn
  deeds_now end = ap (deeds a []) (split end) ∙ deeds-posted_as end a n (h ++ marked a (steps.Rose records) ∷ []) turn
      ∙ ap (λ (v : List Deed). v ++ deeds_as end n turn) rose

  pub mail_now : (end : Appended) → mail (after end) ≡ mail h ++ envelopes a n (sends_as end turn)
  mail_now end = mail-append h (by a (steps.Rose records ∷ posted_as end n turn))
      ∙ ap (λ (ms : List Envelope). mail h ++ ms) (mail-posted_as end a n turn)

  pub to_net : (end : Appended) (next : Net)
      → Shows decl h inputs inputs old a turn end (after end) ds (deeds_now end) (mail_now end)
      (λ b other. deeds-other a b [] h (steps.Rose records ∷ posted_as end n turn) other)
      (λ b other. refl) shut next
      → Stood decl (after end) inputs
  to_net end next shows =
      turned decl h inputs inputs old a turn end (after end) ds (deeds_now end) (mail_now end)
      (λ b other. deeds-other a b [] h (steps.Rose records ∷ posted_as end n turn) other)
      (λ b other. refl) shut next shows

  -- what it is, and its turn

  pub risen : actor_after decl a ds ≡ actor_rises decl a records
  risen = actor_laws.rises decl a (deeds a [] h) records

  pub turn_is : (actor_rises decl a records).turn ≡ with_record turn
  turn_is = ap (λ (m : ActorMove). m.turn) (sym risen) ∙ ap (λ (v : List Deed). (actor_after decl a v).turn) (sym rose)
      ∙ called_turn decl a (deeds a [] (h ++ marked a (steps.Rose records) ∷ [])) turn law

  pub up_now : is_up ds ≡ true
  up_now = fold-append up_at true (deeds a [] h) (Rises records ∷ [])

  abbrev given_journal : Journal
  given_journal = record { records = records; pending = None }

  pub journal_now : journal_after ds ≡ given_journal
  journal_now = fold-append journal_at no_journal (deeds a [] h) (Rises records ∷ [])

  pub b : Back (journal_after (deeds a [] h)) records
  b = back_of (journal_after (deeds a [] h)) records
      (subst (λ (j : Journal). IsGivenBack j records) (sym (journal a h)) given)

  module _ (s : Stands decl old.net a h (slice_get inputs a)) where
    abbrev pub net_records : List Record
    net_records = old.net.records a ++ option_to_list b.back

    pub same_records : net_records ≡ records
    same_records = ap (λ (rs : List Record). rs ++ option_to_list b.back) s.records ∙ sym b.is

    pub is_given : nets.IsGivenBack old.net a b.back
    is_given = elim b.from [ inl none ↦ inl none | inr it ↦ inr (it ∙ sym s.pending) ]

    pub was_down : old.net.up a ≡ false
    was_down = s.up ∙ down

    -- the record of its rise isn't written
    pub in_vain : (end : Appended) → ended_up end true ≡ false
        → ended_journal end turn.write (journal_after ds) ≡ record
        (journal_after ds) { pending = pending_with (journal_after ds).pending turn.write }
        → turn.write ≡ Some Life → sends_as end turn ≡ [] → Reaches decl (after_vain_rise old.net a b.back)
        → Stood decl (after end) inputs
    in_vain end falls shape wrote none reached =
        let still : ended_up end (is_up ds) ≡ false = ap (ended_up end) up_now ∙ falls in
        to_net end (after_vain_rise old.net a b.back) (record {
          reached = reached;
          sent = sym (ap (λ (ps : List Posting). old.net.mail ++ envelopes a (length old.net.mail) ps) none
              ∙ append-nil old.net.mail);
          leaves = λ c other. record {
            up = refl;
            records = put_other old.net.records a net_records c other;
            pending = put_other old.net.pending a (Some Life) c other;
            sites = refl;
            clients = refl;
            admin = λ at. refl;
          };
          up = was_down ∙ sym still;
          records = put_here old.net.records a net_records ∙ same_records
              ∙ ap (λ (j : Journal). j.records) (sym (shape
              ∙ ap (λ (j : Journal). record j { pending = pending_with j.pending turn.write }) journal_now));
          pending = put_here old.net.pending a (Some Life) ∙ ap (pending_with None) (sym wrote)
              ∙ ap (λ (j : Journal). j.pending) (sym (shape
              ∙ ap (λ (j : Journal). record j { pending = pending_with j.pending turn.write }) journal_now));
          clear = λ is. absurd (never_up (ended_up end (is_up ds)) still is);
          state = λ is. absurd (never_up (ended_up end (is_up ds)) still is);
        })

    pub written_now : turn.write ≡ Some Life
        → (records ++ Life ∷ []) ≡ (ended_journal Done turn.write (journal_after ds)).records
    written_now wrote = λ i. (sym journal_now i).records ++ option_to_list (sym wrote i)

    -- a site

    module _ (site : is_site decl a ≡ true) where
      by_rise : actor_rises decl a records ≡ by_site (site_rises decl a records)
      by_rise = site_risen decl a site records

      site_turn : (site_rises decl a records).turn ≡ with_record turn
      site_turn = ap (λ (m : ActorMove). m.turn) (sym by_rise) ∙ turn_is

      pub site_up : (end : Appended) → Stood decl (after end) inputs
      site_up Done = to_net Done (after_site_rise decl old.net a b.back) (record {
        reached = nets.site_rises_up a b.back old.net old.reached site was_down is_given;
        sent = (λ i. old.net.mail ++ envelopes a (length old.net.mail) (site_rises decl a (same_records i)).turn.sends)
            ∙ ap (λ (t : Turn). old.net.mail ++ envelopes a (length old.net.mail) t.sends) site_turn;
        leaves = λ c other. record {
          up = put_other old.net.up a true c other;
          records = put_other old.net.records a (net_records ++ Life ∷ []) c other;
          pending = put_other old.net.pending a None c other;
          sites = put_other old.net.sites a (site_rises decl a net_records).site c other;
          clients = refl;
          admin = λ at. refl;
        };
        up = put_here old.net.up a true ∙ sym up_now;
        records = put_here old.net.records a (net_records ++ Life ∷ [])
            ∙ ap (λ (rs : List Record). rs ++ Life ∷ []) same_records
            ∙ written_now (ap (λ (t : Turn). t.write) (sym site_turn));
        pending = put_here old.net.pending a None ∙ ap (λ (j : Journal). j.pending) (sym journal_now);
        clear = λ is. ap (λ (j : Journal). j.pending) journal_now;
        state = λ is.
            actor_posted decl a ds n turn ∙ ap (λ (m : ActorMove). all_sent m.actor n turn.sends) (risen ∙ by_rise)
            ∙ ap (λ (rs : List Record). actor.Site (site_rises decl a rs).site) (sym same_records)
            ∙ sym (in_site decl (after_site_rise decl old.net a b.back) a site
            ∙ ap (λ (v : SiteState). actor.Site v) (put_here old.net.sites a (site_rises decl a net_records).site));
      })
      site_up Failed = in_vain Failed refl refl (ap (λ (t : Turn). t.write) (sym site_turn))
          (ap (λ (t : Turn). t.failed_sends) (sym site_turn))
          (nets.site_rises_in_vain a b.back old.net old.reached site was_down is_given)
      site_up Stopped = in_vain Stopped refl refl (ap (λ (t : Turn). t.write) (sym site_turn)) refl
          (nets.site_rises_in_vain a b.back old.net old.reached site was_down is_given)

    -- a client

    module _ (client : is_client decl a ≡ true) where
      by_rising : actor_rises decl a records ≡ by_client (client_rises (a - decl.sites) records)
      by_rising = client_risen decl a client records

      client_turn : (client_rises (a - decl.sites) records).turn ≡ with_record turn
      client_turn = ap (λ (m : ActorMove). m.turn) (sym by_rising) ∙ turn_is

      none_sent : turn.sends ≡ []
      none_sent = ap (λ (t : Turn). t.sends) (sym client_turn)

      pub client_up : (end : Appended) → Stood decl (after end) inputs
      client_up Done = to_net Done (after_client_rise decl old.net a b.back) (record {
        reached = nets.client_rises_up a b.back old.net old.reached client was_down is_given;
        sent = sym (ap (λ (ps : List Posting). old.net.mail ++ envelopes a (length old.net.mail) ps) none_sent
            ∙ append-nil old.net.mail);
        leaves = λ c other. record {
          up = put_other old.net.up a true c other;
          records = put_other old.net.records a (net_records ++ Life ∷ []) c other;
          pending = put_other old.net.pending a None c other;
          sites = refl;
          clients = put_other old.net.clients a (client_rises (a - decl.sites) net_records).client c other;
          admin = λ at. refl;
        };
        up = put_here old.net.up a true ∙ sym up_now;
        records = put_here old.net.records a (net_records ++ Life ∷ [])
            ∙ ap (λ (rs : List Record). rs ++ Life ∷ []) same_records
            ∙ written_now (ap (λ (t : Turn). t.write) (sym client_turn));
        pending = put_here old.net.pending a None ∙ ap (λ (j : Journal). j.pending) (sym journal_now);
        clear = λ is. ap (λ (j : Journal). j.pending) journal_now;
        state = λ is.
            actor_posted decl a ds n turn ∙ (λ i. all_sent ((risen ∙ by_rising) i).actor n (none_sent i))
            ∙ ap (λ (rs : List Record). actor.Client (client_rises (a - decl.sites) rs).client) (sym same_records)
            ∙ sym (in_client decl (after_client_rise decl old.net a b.back) a client
            ∙ ap (λ (v : Client). actor.Client v) (put_here old.net.clients a
            (client_rises (a - decl.sites) net_records).client));
      })
      client_up Failed = in_vain Failed refl refl (ap (λ (t : Turn). t.write) (sym client_turn))
          (ap (λ (t : Turn). t.failed_sends) (sym client_turn))
          (nets.client_rises_in_vain a b.back old.net old.reached client was_down is_given)
      client_up Stopped = in_vain Stopped refl refl (ap (λ (t : Turn). t.write) (sym client_turn)) refl
          (nets.client_rises_in_vain a b.back old.net old.reached client was_down is_given)
