-- What a site granted to a transaction that its client runs, in the life and the epoch in which the site is, it holds:
-- through falls.
use Rattle.std.proofs.Common.{◌≡◌, ◌⊎◌, ◌<◌, ◌≤◌, ◌-◌, ℕ, Bool, true, false, List, [], ◌∷◌, ◌++◌, inl, inr, Option}
use Rattle.std.proofs.Common.{Some, None, is_some, unwrap_or, slice_get, refl, sym, ap, ◌∙◌, subst, arith}
use Rattle.qc_core.specs.Vocabulary.{IsLawfulWithFalls, IsShown, is_up}
use Rattle.qc_decl.specs.Vocabulary.{IsAccepted, is_client, is_site}
use Rattle.qc_decl.specs.declared.declaration.Declaration.{Declaration}
use Rattle.laws_guarantees.proofs.Mailed.{sent_as, sent_mail}
use Rattle.laws_guarantees.proofs.SiteMoves.{IsFull}
use Rattle.laws_votes.proofs.Nets.{at_number, backed, net, now, one_request, reached, refined}
use Rattle.laws_votes.proofs.SiteClocks.{mirrors, shown}
use Rattle.qc_list.specs.Vocabulary.{In}
use Rattle.qc_list.proofs.Members.{In-first, In-second}
use Rattle.qc_lock.specs.Vocabulary.{entry_of, held_of, is_held}
use Rattle.qc_lock.specs.declared.held.Held.{Held}
use Rattle.qc_msg.specs.Vocabulary.{Entry, deeds, has_granted, life_of, mail}
use Rattle.qc_msg.specs.declared.message.Answer.TheVariants as answers
use Rattle.qc_msg.specs.declared.message.Envelope.{Envelope}
use Rattle.qc_msg.specs.declared.message.Message.TheVariants as messages
use Rattle.qc_msg.specs.declared.message.Want.{Want}
use Rattle.qc_msg.specs.declared.message.Want.TheVariants.{Append, Prepare, Read}
use Rattle.qc_msg.specs.declared.record.Record.{Record}
use Rattle.laws_refinement.specs.Vocabulary.{IsGrantTo, IsGrantable, IsHeld, IsRequest, SiteMirrors, items_wanted}
use Rattle.laws_guarantees.proofs.Live.{no_outcome}
use Rattle.laws_votes.proofs.Live.{epoch_named, live}
use Rattle.qc_promise.specs.Vocabulary.{ClientRequest, Current, Kept, account, epoch_shown, held_shown, life_shown}
use Rattle.theory_machine.proofs.Epochs.{epoch-append, rising-right, upward}
use Rattle.theory_machine.proofs.Keeps.{laws}
use Rattle.theory_machine.proofs.Grants.{between}
use Rattle.theory_machine.proofs.SiteLists.{items_of-append, items_of-each_held}
use Rattle.theory_machine.proofs.SiteOrder.{after_append}
use Rattle.theory_machine.specs.Vocabulary.{Active, Deed, Granted, GrantedLaw, Grants, HasRisingEpochs, HaveNoInstall}
use Rattle.theory_machine.specs.Vocabulary.{Item, LearnsAbort, LearnsCommit, Lock, Own, Site, State, StateLaws, Voting}
use Rattle.theory_machine.specs.Vocabulary.{after_deed, each_held, empty_site, epoch_from, items_of, site_after}
use Rattle.qc_script.specs.Vocabulary.{IsScriptFor, RunsWithFalls}
use Rattle.qc_script.specs.declared.script.Script.{Script}
use Rattle.qc_stamp.specs.declared.stamp.TxId.{TxId}
use Rattle.laws_guarantees.specs.Vocabulary.{IsOpenVote}
use Rattle.laws_votes.proofs.LifeGrounds.{has_life_grounds}
use Rattle.laws_votes.proofs.LivesAdded.{HasParticipant, IsToldLife}
use Rattle.laws_votes.proofs.HoldsOn.{NeverEnds, holds_on}
use Rattle.laws_atomic.proofs.Heard.{took_sent}

-- what is wanted has an item
record HasItem (want : Want) : Type 0 where
  item : Item
  among : In item (items_wanted want)

some_item : (want : Want) → IsGrantable want → IsFull want → HasItem want
some_item (Read read) asks full =
    record { item = Lock (record { object = read.object; inv = read.inv }); among = inl refl }
some_item (Append object view []) asks full = absurd (let low : 0 < 0 = full in let never : ⊥ = omega arith in never)
some_item (Append object view (o ∷ own)) asks full = record { item = Own o; among = inl refl }
some_item Prepare asks full = absurd asks

-- who has an item holds something
pub is_held_with : (held : List Held) (tx : TxId) (x : Item) → IsHeld (held_of held tx) x → is_held held tx ≡ true
is_held_with held tx x has = by (entry_of held tx) x has
  where
    by : (o : Option Held) (x : Item) → IsHeld (unwrap_or o (record { tx = tx; locks = []; own = [] })) x
        → is_some o ≡ true
    by (Some h) x there = refl
    by None (Lock l) there = absurd there
    by None (Own o) there = absurd there

module _ (fits : ℕ → List Record → Type 0) (decl : Declaration) (script : Script) (h : List Entry)
    (open_inputs : List Bool) (accepted : IsAccepted decl) (sound : IsScriptFor decl script)
    (run : RunsWithFalls (IsLawfulWithFalls decl) fits decl script h open_inputs) (kept : Kept h) where
  abbrev then : State
  then = now fits decl script h open_inputs accepted sound run kept

  wl : StateLaws decl then
  wl =
      laws decl (refined fits decl script h open_inputs accepted sound run kept).acts
      (refined fits decl script h open_inputs accepted sound run kept).run

  -- a site is in the epoch of each grant that it gave, or in a later one
  pub granted_below : (g : Granted) → In g then.granted → g.epoch ≤ epoch_from 1 (then.deeds g.site)
  granted_below g known =
      let law : GrantedLaw (then.deeds g.site) (then.life g.site) g = wl.granted g known in
      let rest : List Deed = Grants g.tx g.items g.view ∷ law.post in
      let rising : HasRisingEpochs 1 (g.before ++ rest) = subst (HasRisingEpochs 1) law.split (wl.rising g.site) in
      let high : epoch_from 1 g.before ≤ epoch_from (epoch_from 1 g.before) rest =
      upward rest (epoch_from 1 g.before) (rising-right g.before rest 1 rising) in
      let there : epoch_from (epoch_from 1 g.before) rest ≡ epoch_from 1 (then.deeds g.site) =
      sym (ap (epoch_from 1) law.split ∙ epoch-append g.before rest 1) in
      let told : epoch_from 1 g.before ≡ g.epoch = (wl.facts g known).current in
      omega arith

  -- a grant of a transaction that hasn't ended, of the life and the epoch in which its site is
  module _ (g : Granted) (known : In g then.granted) (life : then.life g.site ≡ g.life)
      (epoch : epoch_from 1 (then.deeds g.site) ≡ g.epoch)
      (running : (then.status g.tx ≡ Active) ⊎ (then.status g.tx ≡ Voting)) where
    law : GrantedLaw (then.deeds g.site) (then.life g.site) g
    law = wl.granted g known

    rising : HasRisingEpochs 1 (g.before ++ Grants g.tx g.items g.view ∷ law.post)
    rising = subst (HasRisingEpochs 1) law.split (wl.rising g.site)

    no_install : HaveNoInstall law.post
    no_install =
        between g.before (Grants g.tx g.items g.view) law.post g.epoch rising tt (wl.facts g known).current
        (sym (ap (epoch_from 1) law.split) ∙ epoch)

    never : NeverEnds g.tx law.post
    never = (
      (λ stamp among. no_outcome (then.status g.tx) running (Some stamp)
          (wl.deeds g.site (LearnsCommit g.tx stamp) (in_deeds (LearnsCommit g.tx stamp) among))),
      (λ among. no_outcome (then.status g.tx) running None
          (wl.deeds g.site (LearnsAbort g.tx) (in_deeds (LearnsAbort g.tx) among))),
    )
      where
        in_deeds : (d : Deed) → In d law.post → In d (then.deeds g.site)
        in_deeds d among =
            subst (In d) (sym law.split) (In-second d g.before (Grants g.tx g.items g.view ∷ law.post) (inr among))

    pub still_held : (x : Item) → In x g.items → In x (items_of g.tx (site_after (then.deeds g.site)).held)
    still_held x among =
        subst (λ (ds : List Deed). In x (items_of g.tx (site_after ds).held)) (sym law.split)
        (subst (λ (s : Site). In x (items_of g.tx s.held))
        (sym (after_append g.before (Grants g.tx g.items g.view ∷ law.post) empty_site))
        (holds_on law.post (after_deed (site_after g.before) (Grants g.tx g.items g.view)) g.tx x
        (subst (In x) (sym (items_of-append g.tx (each_held g.tx g.items) (site_after g.before).held))
        (In-first x (items_of g.tx (each_held g.tx g.items)) (items_of g.tx (site_after g.before).held)
        (subst (In x) (sym (items_of-each_held g.tx g.items)) among)))
        (law.calm life) no_install never))

  module _ (a : ℕ) (client : is_client decl a ≡ true) (t : Current) (begun : (account decl a h).current ≡ Some t)
      (site : ℕ) (has : has_granted t.lives site ≡ true) where
    told : IsToldLife (deeds a [] h) t.tx site (life_of t.lives site)
    told = (has_life_grounds decl (a - decl.sites) (deeds a [] h)).told t site begun has

    asked : IsRequest (mail h) told.q.number told.q.site t.tx told.q.want
    asked = record {
      epoch = told.sent.epoch;
      life = told.q.life;
      is = (
        sent_as a told.q.number told.q.site (messages.Request t.tx told.sent.epoch told.q.life told.q.want),
        at_number fits decl script h open_inputs accepted sound run kept
            (sent_as a told.q.number told.q.site (messages.Request t.tx told.sent.epoch told.q.life told.q.want))
            (sent_mail a [] h told.q.number told.q.site (messages.Request t.tx told.sent.epoch told.q.life told.q.want)
            told.sent.is),
        refl,
        refl,
      );
    }

    -- the machine's grant behind it
    pub record IsGrantedIn : Type 0 where
      pub grant : Granted
      pub known : In grant then.granted
      pub its : grant.tx ≡ t.tx
      pub by : grant.site ≡ site
      pub life : grant.life ≡ life_of t.lives site
      pub some : 0 < life_of t.lives site
      pub epoch : grant.epoch ≡ then.epoch grant.tx
      pub place : is_site decl site ≡ true
      pub item : Item
      pub among : In item grant.items

    pub granted : IsGrantedIn
    granted =
        at (backed fits decl script h open_inputs accepted sound run kept told.taken.envelope
        (messages.Answer told.q.number (answers.Granted told.grant))
        (took_sent a [] h told.taken.envelope told.taken.taken) told.taken.is)
      where
        at : IsGrantTo decl then (net fits decl script h open_inputs accepted sound run kept).mail
            told.taken.envelope.from told.q.number told.grant → IsGrantedIn
        at b =
            let one = one_request fits decl script h open_inputs accepted sound run kept told.q.number
            told.taken.envelope.from told.q.site b.tx t.tx b.want told.q.want
            (subst (λ (ms : List Envelope). IsRequest ms told.q.number told.taken.envelope.from b.tx b.want)
            (reached fits decl script h open_inputs accepted sound run kept).mail_is
            (record { epoch = b.epoch; life = b.named; is = b.request })) asked in
            let item : HasItem b.want =
            some_item b.want b.grant.asks (subst (λ (w : Want). IsFull w) (sym one.2) told.full) in
            let from : told.taken.envelope.from ≡ site = one.0 ∙ told.at in
            record {
              grant = b.grant.grant;
              known = b.grant.given;
              its = b.grant.its ∙ one.1;
              by = b.grant.by ∙ from;
              life = b.grant.life_is ∙ told.its;
              some = subst (λ (life : ℕ). 0 < life) told.its b.grant.some;
              epoch = b.grant.epoch_is ∙ ap then.epoch (sym b.grant.its);
              place = subst (λ (n : ℕ). is_site decl n ≡ true) from b.grant.place;
              item = item.item;
              among = subst (In item.item) (sym b.grant.items_are) item.among;
            }

    -- its epoch is the transaction's
    pub granted_epoch : granted.grant.epoch ≡ t.epoch
    granted_epoch =
        granted.epoch ∙ ap then.epoch granted.its
        ∙ sym (epoch_named fits decl script h open_inputs accepted sound run kept a client t begun)

    -- the site is up in that life and that epoch, without an open input
    module _ (free : slice_get open_inputs site ≡ Some false) (up : is_up (deeds site [] h) ≡ true)
        (life : life_of t.lives site ≡ life_shown (deeds site [] h))
        (epoch : t.epoch ≡ epoch_shown (deeds site [] h)) where
      sh : IsShown (deeds site [] h) ((net fits decl script h open_inputs accepted sound run kept).sites site)
      sh = shown fits decl script h open_inputs accepted sound run kept site granted.place free up

      mir : SiteMirrors decl ((net fits decl script h open_inputs accepted sound run kept).sites site) (then.deeds site)
          (then.life site)
      mir = mirrors fits decl script h open_inputs accepted sound run kept site granted.place free up

      same_life : then.life granted.grant.site ≡ granted.grant.life
      same_life = ap then.life granted.by ∙ sym mir.life ∙ sh.life ∙ sym life ∙ sym granted.life

      same_epoch : epoch_from 1 (then.deeds granted.grant.site) ≡ granted.grant.epoch
      same_epoch =
          ap (λ (n : ℕ). epoch_from 1 (then.deeds n)) granted.by ∙ mir.epoch ∙ sh.epoch ∙ sym epoch ∙ sym granted_epoch

      running : (then.status granted.grant.tx ≡ Active) ⊎ (then.status granted.grant.tx ≡ Voting)
      running =
          subst (λ (tx : TxId). (then.status tx ≡ Active) ⊎ (then.status tx ≡ Voting)) (sym granted.its)
          (live fits decl script h open_inputs accepted sound run kept a client t begun).active

      in_machine : In granted.item (items_of t.tx (site_after (then.deeds site)).held)
      in_machine =
          subst (λ (n : ℕ). In granted.item (items_of t.tx (site_after (then.deeds n)).held)) granted.by
          (subst (λ (tx : TxId). In granted.item (items_of tx (site_after (then.deeds granted.grant.site)).held))
          granted.its
          (still_held granted.grant granted.known same_life same_epoch running granted.item granted.among))

      pub granted_sites_hold_through_falls : is_held (held_shown (deeds site [] h)) t.tx ≡ true
      granted_sites_hold_through_falls = subst (λ (held : List Held). is_held held t.tx ≡ true) sh.held
          (is_held_with ((net fits decl script h open_inputs accepted sound run kept).sites site).held t.tx granted.item
          (mir.held t.tx granted.item in_machine))

  -- a site whose promise a client waits for, in the life that the request names and in the transaction's epoch
  module _ (a : ℕ) (client : is_client decl a ≡ true) (t : Current) (begun : (account decl a h).current ≡ Some t)
      (q : ClientRequest) (k : IsOpenVote (account decl a h) q) where
    participant : HasParticipant (account decl a h).current q
    participant = (has_life_grounds decl (a - decl.sites) (deeds a [] h)).votes q k.among k.want

    same : participant.0 ≡ t
    same = let both : Some participant.0 ≡ Some t = sym participant.1 ∙ begun in cc

    pub asked_sites_hold_through_falls : slice_get open_inputs q.site ≡ Some false → is_up (deeds q.site [] h) ≡ true
        → q.life ≡ life_shown (deeds q.site [] h) → t.epoch ≡ epoch_shown (deeds q.site [] h)
        → is_held (held_shown (deeds q.site [] h)) t.tx ≡ true
    asked_sites_hold_through_falls free up life epoch =
        granted_sites_hold_through_falls a client t begun q.site
        (subst (λ (u : Current). has_granted u.lives q.site ≡ true) same participant.2) free up
        (sym (ap (λ (u : Current). life_of u.lives q.site) same) ∙ sym participant.3 ∙ life) epoch
