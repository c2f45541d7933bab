-- A vote that is cast later is cast in the life that its request names.
use Rattle.std.specs.Prelude.{[], option_to_list}
use Rattle.std.proofs.Common.{◌≡◌, ◌⊎◌, ℕ, ◌≤◌, arith, inl, inr, true, map, take, List, ◌++◌, length, refl, sym, ◌∙◌}
use Rattle.std.proofs.Common.{subst}
use Rattle.std.proofs.lemmas.List.{append-nil}
use Rattle.qc_list.specs.Vocabulary.{In}
use Rattle.qc_list.proofs.Members.{In-first, In-either}
use Rattle.qc_entry.specs.declared.record.Prepared.{Prepared}
use Rattle.qc_decl.specs.Vocabulary.{IsAccepted, administrator, is_site}
use Rattle.qc_decl.specs.declared.declaration.Declaration.{Declaration}
use Rattle.qc_msg.specs.declared.message.Answer.TheVariants as answers
use Rattle.qc_msg.specs.declared.message.Envelope.{Envelope}
use Rattle.qc_msg.specs.declared.message.Message.{Message}
use Rattle.qc_msg.specs.declared.message.Message.TheVariants as messages
use Rattle.qc_msg.specs.declared.message.Want.TheVariants.{Prepare}
use Rattle.qc_msg.specs.declared.step.Input.{Input}
use Rattle.qc_msg.specs.declared.step.Input.TheVariants.{Called, Got, Lost}
use Rattle.qc_msg.specs.declared.turn.Posting.{Posting}
use Rattle.qc_msg.specs.Vocabulary.{envelopes}
use Rattle.qc_client.specs.Vocabulary.{client_takes}
use Rattle.qc_site.specs.Vocabulary.{in_order, site_on, site_takes}
use Rattle.qc_epoch.specs.Vocabulary.{admin_takes}
use Rattle.qc_recover.specs.Vocabulary.{kept_by, most_inquiries, site_rises}
use Rattle.laws_refinement.specs.Vocabulary.{IsLater, IsNamedLater, Net, Reaches, Refines}
use Rattle.laws_refinement.specs.Net as nets
use Rattle.laws_refinement.proofs.Kepts.{no_client, no_ruler}
use Rattle.laws_refinement.proofs.Posts.{Place, placed}
use Rattle.laws_refinement.proofs.Refining.{nets_refine}
use Rattle.laws_refinement.proofs.SiteVotes.{Voted, message_votes, no_inquiry, take_silent}
use Rattle.laws_refinement.specs.Steps as steps
use Rattle.laws_refinement.proofs.LivesOfVotes.{votes_in_life, reach, step_life}

module _ (decl : Declaration) where
  module _ (accepted : IsAccepted decl) (net : Net) (reached : Reaches decl net) where
    reach_later : (next : Net) → IsLater decl net next → Reaches decl next
    reach_later next steps.same = reached
    reach_later next (steps.more middle later l s) = reach decl middle next (reach_later middle l) s

    life_later : (next : Net) (b : ℕ) → IsLater decl net next
        → (kept_by (net.records b)).life ≤ (kept_by (next.records b)).life
    life_later next b steps.same = omega arith
    life_later next b (steps.more middle later l s) =
        let one : (kept_by (net.records b)).life ≤ (kept_by (middle.records b)).life = life_later middle b l in
        let two : (kept_by (middle.records b)).life ≤ (kept_by (next.records b)).life =
        step_life decl middle next b s in
        omega arith

    abbrev Stand : Net → Type 0
    Stand next =
        (e : Envelope) → In e next.mail → is_site decl e.from ≡ true → (to clock : ℕ)
        → e.message ≡ messages.Answer to (answers.Yes clock) → In e net.mail ⊎ IsNamedLater net next e.from to

    grows : (middle next : Net) (a to : ℕ) → ((e : Envelope) → In e middle.mail → In e next.mail)
        → IsNamedLater net middle a to → IsNamedLater net next a to
    grows middle next a to mail v =
        record {
          request = v.request;
          sent = mail v.request v.sent;
          numbered = v.numbered;
          tx = v.tx;
          epoch = v.epoch;
          life = v.life;
          named = v.named;
          low = v.low;
        }

    step : (middle next : Net) (a : ℕ) (ps : List Posting)
        → next.mail ≡ middle.mail ++ envelopes a (length middle.mail) ps
        → (is_site decl a ≡ true → (p : Posting) → In p ps → (to clock : ℕ)
        → p.message ≡ messages.Answer to (answers.Yes clock) → IsNamedLater net next a to) → Stand middle
        → Stand next
    step middle next a ps mail new old e among site to clock is =
        elim (In-either e middle.mail (envelopes a (length middle.mail) ps)
        (subst (λ (es : List Envelope). In e es) mail among)) [
          | inl before ↦ elim (old e before site to clock is) [
            | inl there ↦ inl there
            | inr named ↦
                inr (grows middle next e.from to
                (λ x h. subst (λ (es : List Envelope). In x es) (sym mail)
                (In-first x middle.mail (envelopes a (length middle.mail) ps) h)) named)
          ]
          | inr now ↦ (let r : Place a ps (middle.mail ++ envelopes a (length middle.mail) ps) e =
              placed middle.mail a (length middle.mail) ps e refl now in
              inr (subst (λ (x : ℕ). IsNamedLater net next x to) (sym r.from)
              (new (subst (λ (x : ℕ). is_site decl x ≡ true) r.from site) r.posting r.among to clock
              (sym r.message ∙ is))))
        ]

    served : (a : ℕ) (given : Input) (middle : Net) → IsLater decl net middle → is_site decl a ≡ true
        → middle.up a ≡ true → nets.MayCome middle a given
        → (p : Posting) → In p (site_takes decl (middle.sites a) given).turn.sends → (to clock : ℕ)
        → p.message ≡ messages.Answer to (answers.Yes clock)
        → IsNamedLater net (nets.after_site middle a (site_takes decl (middle.sites a) given)) a to
    served a (Called command) middle l site up came p among to clock is = absurd among
    served a (Lost number) middle l site up came p among to clock is = absurd among
    served a (Got e) middle l site up came p among to clock is =
        let m : Refines decl middle = nets_refine decl accepted middle (reach_later middle l) in
        let v : Voted (middle.sites a) e.number e.message (site_takes decl (middle.sites a) (Got e)).turn.write to =
        message_votes decl (middle.sites a) e.from e.number e.message p among to clock is in
        let among_named : In p (site_on decl (middle.sites a) e.from e.number
        (messages.Request v.promise.tx v.epoch v.life Prepare)).turn.sends =
        subst (λ (x : Message). In p (site_on decl (middle.sites a) e.from e.number x).turn.sends) v.named among in
        let grown : (kept_by (net.records a)).life ≤ (kept_by (middle.records a)).life = life_later middle a l in
        let alike : (middle.sites a).life ≡ (kept_by (middle.records a)).life =
        (m.agrees.sites a site up).life ∙ sym (m.agrees.kept a site).life_is in
        record {
          request = e;
          sent =
              In-first e middle.mail
              (envelopes a (length middle.mail) (site_takes decl (middle.sites a) (Got e)).turn.sends) came.0;
          numbered = v.numbered;
          tx = v.promise.tx;
          epoch = v.epoch;
          life = v.life;
          named = v.named;
          low =
              elim
              (votes_in_life decl (middle.sites a) e.from e.number v.epoch v.life v.promise.tx p among_named to
              clock is) [
                | inl none ↦ inl none
                | inr same ↦ inr (omega arith)
              ];
        }

    pub later_votes_name_later_lives : (next : Net) → IsLater decl net next → Stand next
    later_votes_name_later_lives next steps.same = λ e among site to clock is. inl among
    later_votes_name_later_lives next (steps.more middle later l (steps.serves a given now site up came)) =
        step middle next a (site_takes decl (middle.sites a) given).turn.sends refl
        (λ s. served a given middle l site up came) (later_votes_name_later_lives middle l)
    later_votes_name_later_lives next (steps.more middle later l (steps.takes a given now client up came ready)) =
        step middle next a (client_takes decl (middle.clients a) given).turn.sends refl
        (λ s. absurd (no_client decl a s client)) (later_votes_name_later_lives middle l)
    later_votes_name_later_lives next (steps.more middle later l (steps.site_falls a now site up)) =
        step middle next a [] refl (λ s p among to clock is. absurd among) (later_votes_name_later_lives middle l)
    later_votes_name_later_lives next (steps.more middle later l (steps.client_falls a now client up)) =
        step middle next a [] refl (λ s p among to clock is. absurd among) (later_votes_name_later_lives middle l)
    later_votes_name_later_lives next
        (steps.more middle later l (steps.site_fails a given written sends now site up came wrote failed)) =
        step middle next a sends refl
        (λ s p among to clock is. absurd (elim failed [
          | inl same ↦
              take_silent decl (middle.sites a) given p (subst (λ (ps : List Posting). In p ps) same among) to clock is
          | inr none ↦ (let never : In p [] = subst (λ (ps : List Posting). In p ps) none among in never)
        ])) (later_votes_name_later_lives middle l)
    later_votes_name_later_lives next
        (steps.more middle later l (steps.client_fails a given written sends now client up came ready wrote failed)) =
        step middle next a sends refl (λ s. absurd (no_client decl a s client)) (later_votes_name_later_lives middle l)
    later_votes_name_later_lives next (steps.more middle later l (steps.site_rises_up a back now site down given)) =
        step middle next a (site_rises decl a (middle.records a ++ option_to_list back)).turn.sends refl
        (λ s p among to clock is. absurd (no_inquiry decl
        (take most_inquiries
        (in_order (map (λ (q : Prepared). q.tx) (kept_by (middle.records a ++ option_to_list back)).promises))) p
        among to clock is)) (later_votes_name_later_lives middle l)
    later_votes_name_later_lives next (steps.more middle later l (steps.client_rises_up a back now client down given)) =
        step middle next a [] (sym (append-nil middle.mail)) (λ s p among to clock is. absurd among)
        (later_votes_name_later_lives middle l)
    later_votes_name_later_lives next
        (steps.more middle later l (steps.site_rises_in_vain a back now site down given)) =
        step middle next a [] (sym (append-nil middle.mail)) (λ s p among to clock is. absurd among)
        (later_votes_name_later_lives middle l)
    later_votes_name_later_lives next
        (steps.more middle later l (steps.client_rises_in_vain a back now client down given)) =
        step middle next a [] (sym (append-nil middle.mail)) (λ s p among to clock is. absurd among)
        (later_votes_name_later_lives middle l)
    later_votes_name_later_lives next (steps.more middle later l (steps.administers given now up came named)) =
        step middle next (administrator decl) (admin_takes decl middle.admin given).turn.sends refl
        (λ s. absurd (no_ruler decl s)) (later_votes_name_later_lives middle l)
    later_votes_name_later_lives next (steps.more middle later l (steps.admin_falls now up)) =
        step middle next (administrator decl) [] refl (λ s. absurd (no_ruler decl s))
        (later_votes_name_later_lives middle l)
    later_votes_name_later_lives next
        (steps.more middle later l (steps.admin_fails given written sends now up came named wrote failed)) =
        step middle next (administrator decl) sends refl (λ s. absurd (no_ruler decl s))
        (later_votes_name_later_lives middle l)
    later_votes_name_later_lives next (steps.more middle later l (steps.admin_rises_up back now down given)) =
        step middle next (administrator decl) [] (sym (append-nil middle.mail)) (λ s. absurd (no_ruler decl s))
        (later_votes_name_later_lives middle l)
    later_votes_name_later_lives next (steps.more middle later l (steps.admin_rises_in_vain back now down given)) =
        step middle next (administrator decl) [] (sym (append-nil middle.mail)) (λ s. absurd (no_ruler decl s))
        (later_votes_name_later_lives middle l)
