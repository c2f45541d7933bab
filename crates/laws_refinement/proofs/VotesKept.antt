-- Each vote stands on a record that its site keeps.
use Rattle.std.specs.Prelude.{option_to_list}
use Rattle.std.proofs.Common.{◌≡◌, ℕ, inl, inr, true, map, take, List, [], ◌∷◌, ◌++◌, Option, Some, length, refl, sym}
use Rattle.std.proofs.Common.{◌∙◌, subst}
use Rattle.std.proofs.lemmas.List.{append-nil}
use Rattle.qc_list.specs.Vocabulary.{In}
use Rattle.qc_list.proofs.Members.{In-first, In-second, In-either}
use Rattle.qc_entry.specs.declared.record.Prepared.{Prepared}
use Rattle.qc_decl.specs.Vocabulary.{IsAccepted, administrator, is_site}
use Rattle.qc_decl.specs.declared.declaration.Declaration.{Declaration}
use Rattle.qc_msg.specs.declared.message.Answer.TheVariants as answers
use Rattle.qc_msg.specs.declared.message.Envelope.{Envelope}
use Rattle.qc_msg.specs.declared.message.Message.TheVariants as messages
use Rattle.qc_msg.specs.declared.record.Record.{Record}
use Rattle.qc_msg.specs.declared.record.Record.TheVariants as records
use Rattle.qc_msg.specs.declared.step.Input.{Input}
use Rattle.qc_msg.specs.declared.step.Input.TheVariants.{Called, Got, Lost}
use Rattle.qc_msg.specs.declared.turn.Posting.{Posting}
use Rattle.qc_msg.specs.Vocabulary.{envelopes}
use Rattle.theory_machine.specs.Vocabulary.{put}
use Rattle.theory_machine.proofs.Names.{put_here}
use Rattle.qc_client.specs.Vocabulary.{client_takes}
use Rattle.qc_epoch.specs.Vocabulary.{admin_takes}
use Rattle.qc_site.specs.Vocabulary.{SiteMove, in_order, prepared_of, site_takes}
use Rattle.qc_recover.specs.Vocabulary.{kept_by, most_inquiries, site_rises}
use Rattle.laws_refinement.specs.Vocabulary.{IsRecorded, Net, Reaches, Refines}
use Rattle.laws_refinement.specs.Net as nets
use Rattle.laws_refinement.proofs.Kepts.{no_client, no_ruler}
use Rattle.laws_refinement.proofs.Machine.{put_other}
use Rattle.laws_refinement.proofs.Posts.{Place, placed}
use Rattle.laws_refinement.proofs.Refining.{nets_refine}
use Rattle.laws_refinement.proofs.Apart.{found_in}
use Rattle.laws_refinement.proofs.SiteVotes.{Voted, message_votes, no_inquiry, promises_recorded, take_silent}
use Rattle.laws_refinement.proofs.Lives.{same_or}

module _ (decl : Declaration) where
  grows : (net next : Net) (a to : ℕ) → ((e : Envelope) → In e net.mail → In e next.mail)
      → ((r : Record) → In r (net.records a) → In r (next.records a)) → IsRecorded net a to → IsRecorded next a to
  grows net next a to mail kept v = record {
    promise = v.promise;
    stands = kept (records.Prepare v.promise) v.stands;
    request = v.request;
    sent = mail v.request v.sent;
    numbered = v.numbered;
    epoch = v.epoch;
    life = v.life;
    named = v.named;
  }

  put_grows : (f : ℕ → List Record) (a b : ℕ) (rs : List Record) (r : Record) → (In r (f a) → In r rs) → In r (f b)
      → In r (put f a rs b)
  put_grows f a b rs r more among = elim (same_or b a) [
    | inl e ↦ subst (λ (x : ℕ). In r (put f a rs x)) (sym e)
        (subst (λ (xs : List Record). In r xs) (sym (put_here f a rs)) (more (subst (λ (x : ℕ). In r (f x)) e among)))
    | inr other ↦ subst (λ (xs : List Record). In r xs) (sym (put_other f a rs b other)) among
  ]

  abbrev Stand : Net → Type 0
  Stand net = (e : Envelope) → In e net.mail → is_site decl e.from ≡ true → (to clock : ℕ)
      → e.message ≡ messages.Answer to (answers.Yes clock) → IsRecorded net e.from to

  -- more is sent by one actor, and records join
  step : (net next : Net) (a : ℕ) (ps : List Posting) → next.mail ≡ net.mail ++ envelopes a (length net.mail) ps
      → ((b : ℕ) (r : Record) → In r (net.records b) → In r (next.records b))
      → (is_site decl a ≡ true → (p : Posting) → In p ps → (to clock : ℕ)
      → p.message ≡ messages.Answer to (answers.Yes clock) → IsRecorded next a to) → Stand net → Stand next
  step net next a ps mail kept new old e among site to clock is =
      elim (In-either e net.mail (envelopes a (length net.mail) ps)
      (subst (λ (es : List Envelope). In e es) mail among)) [
        | inl before ↦ grows net next e.from to (λ x h. subst (λ (es : List Envelope). In x es) (sym mail)
            (In-first x net.mail (envelopes a (length net.mail) ps) h)) (kept e.from) (old e before site to clock is)
        | inr now ↦ (let r : Place a ps (net.mail ++ envelopes a (length net.mail) ps) e =
            placed net.mail a (length net.mail) ps e refl now in
            subst (λ (x : ℕ). IsRecorded next x to) (sym r.from)
            (new (subst (λ (x : ℕ). is_site decl x ≡ true) r.from site) r.posting r.among to clock
            (sym r.message ∙ is)))
      ]

  -- a site's turn
  served : (accepted : IsAccepted decl) (a : ℕ) (given : Input) (net : Net) → Reaches decl net → is_site decl a ≡ true
      → net.up a ≡ true → nets.MayCome net a given
      → (p : Posting) → In p (site_takes decl (net.sites a) given).turn.sends → (to clock : ℕ)
      → p.message ≡ messages.Answer to (answers.Yes clock)
      → IsRecorded (nets.after_site net a (site_takes decl (net.sites a) given)) a to
  served accepted a (Called command) net r site up came p among to clock is = absurd among
  served accepted a (Lost number) net r site up came p among to clock is = absurd among
  served accepted a (Got e) net r site up came p among to clock is =
      let m : Refines decl net = nets_refine decl accepted net r in
      let move : SiteMove = site_takes decl (net.sites a) (Got e) in
      let v : Voted (net.sites a) e.number e.message move.turn.write to =
      message_votes decl (net.sites a) e.from e.number e.message p among to clock is in
      record {
        promise = v.promise;
        stands = subst (λ (rs : List Record). In (records.Prepare v.promise) rs)
            (sym (put_here net.records a (net.records a ++ option_to_list move.turn.write))) (elim v.stands [
              | inl before ↦ (let kept : prepared_of (kept_by (net.records a)).promises v.promise.tx ≡ Some v.promise =
                  (m.agrees.alike a site up).promises v.promise.tx v.promise before in
                  In-first (records.Prepare v.promise) (net.records a) (option_to_list move.turn.write)
                  (promises_recorded (net.records a) v.promise
                  (found_in v.promise.tx (kept_by (net.records a)).promises v.promise kept).0))
              | inr now ↦ In-second (records.Prepare v.promise) (net.records a) (option_to_list move.turn.write)
                  (subst (λ (o : Option Record). In (records.Prepare v.promise) (option_to_list o)) (sym now)
                  (inl refl))
            ]);
        request = e;
        sent = In-first e net.mail (envelopes a (length net.mail) move.turn.sends) came.0;
        numbered = v.numbered;
        epoch = v.epoch;
        life = v.life;
        named = v.named;
      }

  pub votes_stand_on_records : (accepted : IsAccepted decl) (net : Net) → Reaches decl net → Stand net
  votes_stand_on_records accepted net nets.begins = λ e among site to clock is. absurd among
  votes_stand_on_records accepted net (nets.serves a given before r site up came) =
      step before net a (site_takes decl (before.sites a) given).turn.sends refl
      (λ b x. put_grows before.records a b (before.records a ++ option_to_list
      (site_takes decl (before.sites a) given).turn.write) x
      (In-first x (before.records a) (option_to_list (site_takes decl (before.sites a) given).turn.write)))
      (λ s. served accepted a given before r site up came) (votes_stand_on_records accepted before r)
  votes_stand_on_records accepted net (nets.takes a given before r client up came ready) =
      step before net a (client_takes decl (before.clients a) given).turn.sends refl
      (λ b x. put_grows before.records a b (before.records a ++ option_to_list
      (client_takes decl (before.clients a) given).turn.write) x
      (In-first x (before.records a) (option_to_list (client_takes decl (before.clients a) given).turn.write)))
      (λ s. absurd (no_client decl a s client)) (votes_stand_on_records accepted before r)
  votes_stand_on_records accepted net (nets.site_falls a before r site up) =
      step before net a [] refl (λ b x h. h) (λ s p among to clock is. absurd among)
      (votes_stand_on_records accepted before r)
  votes_stand_on_records accepted net (nets.client_falls a before r client up) =
      step before net a [] refl (λ b x h. h) (λ s p among to clock is. absurd among)
      (votes_stand_on_records accepted before r)
  votes_stand_on_records accepted net (nets.site_fails a given written sends before r site up came wrote failed) =
      step before net a sends refl (λ b x h. h)
      (λ s p among to clock is. absurd (elim failed [
        | inl same ↦ take_silent decl (before.sites a) given p
            (subst (λ (ps : List Posting). In p ps) same among) to clock is
        | inr none ↦ (let never : In p [] = subst (λ (ps : List Posting). In p ps) none among in never)
      ])) (votes_stand_on_records accepted before r)
  votes_stand_on_records accepted net (nets.client_fails a given written sends before r client up came ready wrote
      failed) =
      step before net a sends refl (λ b x h. h) (λ s. absurd (no_client decl a s client))
      (votes_stand_on_records accepted before r)
  votes_stand_on_records accepted net (nets.site_rises_up a back before r site down given) =
      step before net a (site_rises decl a (before.records a ++ option_to_list back)).turn.sends refl
      (λ b x. put_grows before.records a b ((before.records a ++ option_to_list back) ++ records.Life ∷ []) x
      (λ h. In-first x (before.records a ++ option_to_list back) (records.Life ∷ [])
      (In-first x (before.records a) (option_to_list back) h)))
      (λ s p among to clock is. absurd (no_inquiry decl
      (take most_inquiries (in_order (map (λ (q : Prepared). q.tx)
      (kept_by (before.records a ++ option_to_list back)).promises))) p among to clock is))
      (votes_stand_on_records accepted before r)
  votes_stand_on_records accepted net (nets.client_rises_up a back before r client down given) =
      step before net a [] (sym (append-nil before.mail))
      (λ b x. put_grows before.records a b ((before.records a ++ option_to_list back) ++ records.Life ∷ []) x
      (λ h. In-first x (before.records a ++ option_to_list back) (records.Life ∷ [])
      (In-first x (before.records a) (option_to_list back) h)))
      (λ s p among to clock is. absurd among) (votes_stand_on_records accepted before r)
  votes_stand_on_records accepted net (nets.site_rises_in_vain a back before r site down given) =
      step before net a [] (sym (append-nil before.mail))
      (λ b x. put_grows before.records a b (before.records a ++ option_to_list back) x
      (In-first x (before.records a) (option_to_list back)))
      (λ s p among to clock is. absurd among) (votes_stand_on_records accepted before r)
  votes_stand_on_records accepted net (nets.client_rises_in_vain a back before r client down given) =
      step before net a [] (sym (append-nil before.mail))
      (λ b x. put_grows before.records a b (before.records a ++ option_to_list back) x
      (In-first x (before.records a) (option_to_list back)))
      (λ s p among to clock is. absurd among) (votes_stand_on_records accepted before r)
  votes_stand_on_records accepted net (nets.administers given before r up came named) =
      step before net (administrator decl) (admin_takes decl before.admin given).turn.sends refl
      (λ b x. put_grows before.records (administrator decl) b
      (before.records (administrator decl) ++ option_to_list (admin_takes decl before.admin given).turn.write) x
      (In-first x (before.records (administrator decl))
      (option_to_list (admin_takes decl before.admin given).turn.write)))
      (λ s. absurd (no_ruler decl s)) (votes_stand_on_records accepted before r)
  votes_stand_on_records accepted net (nets.admin_falls before r up) =
      step before net (administrator decl) [] refl (λ b x h. h) (λ s. absurd (no_ruler decl s))
      (votes_stand_on_records accepted before r)
  votes_stand_on_records accepted net (nets.admin_fails given written sends before r up came named wrote failed) =
      step before net (administrator decl) sends refl (λ b x h. h) (λ s. absurd (no_ruler decl s))
      (votes_stand_on_records accepted before r)
  votes_stand_on_records accepted net (nets.admin_rises_up back before r down given) =
      step before net (administrator decl) [] (sym (append-nil before.mail))
      (λ b x. put_grows before.records (administrator decl) b
      ((before.records (administrator decl) ++ option_to_list back) ++ records.Life ∷ []) x
      (λ h. In-first x (before.records (administrator decl) ++ option_to_list back) (records.Life ∷ [])
      (In-first x (before.records (administrator decl)) (option_to_list back) h)))
      (λ s. absurd (no_ruler decl s)) (votes_stand_on_records accepted before r)
  votes_stand_on_records accepted net (nets.admin_rises_in_vain back before r down given) =
      step before net (administrator decl) [] (sym (append-nil before.mail))
      (λ b x. put_grows before.records (administrator decl) b
      (before.records (administrator decl) ++ option_to_list back) x
      (In-first x (before.records (administrator decl)) (option_to_list back)))
      (λ s. absurd (no_ruler decl s)) (votes_stand_on_records accepted before r)
