-- In a run with falls a transaction whose participants have all promised in the end is safe at each moment before: each
-- site is in the life in which it granted, or has voted.
use Rattle.std.proofs.Common.{◌≡◌, ◌⊎◌, ◌<◌, ◌≤◌, ℕ, Bool, true, List, ◌++◌, inl, inr, Some, slice_get, refl, sym, ap}
use Rattle.std.proofs.Common.{◌∙◌, subst, arith}
use Rattle.qc_core.specs.Vocabulary.{IsLawfulWithFalls}
use Rattle.qc_decl.specs.Vocabulary.{IsAccepted, is_client, is_site}
use Rattle.qc_decl.specs.declared.declaration.Declaration.{Declaration}
use Rattle.laws_votes.proofs.Cast.{votes_are_cast_in_the_lives_that_they_name}
use Rattle.laws_votes.proofs.Nets.{at_number, backed, net, now, one_request, reached, refined}
use Rattle.laws_votes.specs.Vocabulary.{HasPromised, HaveAllPromised, IsCastSince, life_at}
use Rattle.qc_list.specs.Vocabulary.{In}
use Rattle.qc_list.proofs.Members.{In-first}
use Rattle.qc_msg.proofs.GrownMail.{mail-append}
use Rattle.qc_msg.specs.Vocabulary.{Entry, life_of, mail, own}
use Rattle.qc_msg.specs.declared.message.Answer.TheVariants as answers
use Rattle.qc_msg.specs.declared.message.Envelope.{Envelope}
use Rattle.qc_msg.specs.declared.message.Message.TheVariants as messages
use Rattle.qc_msg.specs.declared.message.Want.TheVariants.{Prepare}
use Rattle.qc_msg.specs.declared.record.Record.{Record}
use Rattle.laws_refinement.specs.Vocabulary.{IsRequest, IsVoteTo, KeptMirrors}
use Rattle.laws_guarantees.proofs.FirstGrants.{KeepsLives}
use Rattle.laws_guarantees.proofs.Settled.{IsSafe}
use Rattle.laws_votes.proofs.Live.{IsParticipant, participant}
use Rattle.qc_promise.specs.Vocabulary.{Current, Kept, account, journal_of}
use Rattle.theory_machine.proofs.Keeps.{laws}
use Rattle.theory_machine.specs.Vocabulary.{Granted, State, StateLaws, YesVote}
use Rattle.qc_recover.specs.Vocabulary.{kept_by}
use Rattle.qc_script.specs.Vocabulary.{IsScriptFor, RunsWithFalls}
use Rattle.qc_script.specs.declared.script.Script.{Script}
use Rattle.qc_list.proofs.Places.{slice_get-more}

module _ (fits : ℕ → List Record → Type 0) (decl : Declaration) (script : Script) (h : List Entry)
    (open_inputs : List Bool) (accepted : IsAccepted decl) (sound : IsScriptFor decl script)
    (run : RunsWithFalls (IsLawfulWithFalls decl) fits decl script h open_inputs) (kept : Kept h) where
  abbrev then : State
  then = now fits decl script h open_inputs accepted sound run kept

  site_records : (site : ℕ) → is_site decl site ≡ true
      → (net fits decl script h open_inputs accepted sound run kept).records site ≡ (journal_of (own site h)).records
  site_records site is = (reached fits decl script h open_inputs accepted sound run kept).records_are site (inl is)

  site_kept : (site : ℕ) → is_site decl site ≡ true
      → KeptMirrors decl (kept_by ((net fits decl script h open_inputs accepted sound run kept).records site))
      then.status (then.life site) (then.deeds site)
  site_kept site is = (refined fits decl script h open_inputs accepted sound run kept).agrees.kept site is

  wl : StateLaws decl then
  wl = laws decl (refined fits decl script h open_inputs accepted sound run kept).acts
      (refined fits decl script h open_inputs accepted sound run kept).run

  pub granting : (g : Granted) → In g then.granted → is_site decl g.site ≡ true
  granting g known = (refined fits decl script h open_inputs accepted sound run kept).agrees.placed g known

  -- the life of a site is that of its records
  life_is : (site : ℕ) → is_site decl site ≡ true → then.life site ≡ life_at h site
  life_is site is = sym (site_kept site is).life_is
      ∙ ap (λ (rs : List Record). (kept_by rs).life) (site_records site is)

  abbrev IsVoted : Granted → Type 0
  IsVoted g = In {X = YesVote} (record { tx = g.tx; site = g.site }) then.votes

  -- a later moment, at which all participants have promised

  module _ (a : ℕ) (client : is_client decl a ≡ true) (t : Current) (begun : (account decl a h).current ≡ Some t)
      (late : List Entry) (late_inputs : List Bool)
      (late_run : RunsWithFalls (IsLawfulWithFalls decl) fits decl script late late_inputs) (late_kept : Kept late)
      (middle : List Entry) (later : h ++ middle ≡ late)
      (u : Current) (its : u.tx ≡ t.tx) (lives : KeepsLives t.lives u.lives) (promised : HaveAllPromised late u) where
    same_number : (e f : Envelope) → In e (mail late) → In f (mail late) → e.number ≡ f.number → e ≡ f
    same_number e f first second same =
        let one : slice_get (mail late) e.number ≡ Some e =
        at_number fits decl script late late_inputs accepted sound late_run late_kept e first in
        let two : slice_get (mail late) f.number ≡ Some f =
        at_number fits decl script late late_inputs accepted sound late_run late_kept f second in
        let both : Some e ≡ Some f = sym one ∙ ap (λ (n : ℕ). slice_get (mail late) n) same ∙ two in
        cc

    grown : (e : Envelope) → In e (mail h) → In e (mail late)
    grown e there = subst (λ (k : List Entry). In e (mail k)) later
        (subst (In e) (sym (mail-append h middle)) (In-first e (mail h) (mail middle) there))

    module _ (g : Granted) (counted : In g then.counted) (named : g.tx ≡ t.tx) where
      part : IsParticipant fits decl script h open_inputs accepted sound run kept a client t begun g
      part = participant fits decl script h open_inputs accepted sound run kept a client t begun g counted named

      p : HasPromised late u g.site
      p = promised g.site (lives g.site part.granted).0

      life_named : life_of u.lives g.site ≡ g.life
      life_named = (lives g.site part.granted).1 ∙ part.life

      place : is_site decl g.site ≡ true
      place = granting g (wl.known g counted)

      -- the vote was there already
      early_vote : In p.vote (mail h) → IsVoted g
      early_vote there = by (backed fits decl script h open_inputs accepted sound run kept p.vote
          (messages.Answer p.number (answers.Yes p.clock)) there p.is)
        where
          by : IsVoteTo then.votes (net fits decl script h open_inputs accepted sound run kept).mail p.vote.from
              p.number → IsVoted g
          by v =
              let r : IsRequest (mail h) p.number p.vote.from v.tx Prepare =
              subst (λ (ms : List Envelope). IsRequest ms p.number p.vote.from v.tx Prepare)
              (reached fits decl script h open_inputs accepted sound run kept).mail_is v.request in
              let one = one_request fits decl script late late_inputs accepted sound late_run late_kept p.number
              p.vote.from p.request.to v.tx u.tx Prepare Prepare
              (record { epoch = r.epoch; life = r.life; is = (r.is.0, late_at r.is.0 r.is.1, r.is.2, r.is.3) })
              (record {
                epoch = p.epoch;
                life = life_of u.lives g.site;
                is = (
                  p.request,
                  ap (λ (n : ℕ). slice_get (mail late) n) (sym p.numbered)
                      ∙ at_number fits decl script late late_inputs accepted sound late_run late_kept p.request p.asked,
                  refl,
                  p.named,
                );
              }) in
              let name : v.tx ≡ g.tx = one.1 ∙ its ∙ sym named in
              subst (λ (x : YesVote). In x then.votes) (λ i. record { tx = name i; site = p.from i }) v.vote
            where
              late_at : (e : Envelope) → slice_get (mail h) p.number ≡ Some e → slice_get (mail late) p.number ≡ Some e
              late_at e found = subst (λ (ms : List Envelope). slice_get ms p.number ≡ Some e)
                  (sym (mail-append h middle) ∙ ap mail later)
                  (slice_get-more (mail h) (mail middle) p.number e found)

      -- or it is cast later, in the life that its request names
      cast_later : IsCastSince h late p.vote.from p.number → then.life g.site ≡ g.life
      cast_later v =
          let one : v.request ≡ p.request = same_number v.request p.request v.sent p.asked
          (v.numbered ∙ sym p.numbered) in
          let same : messages.Request v.tx v.epoch v.life Prepare ≡ messages.Request u.tx p.epoch
          (life_of u.lives g.site) Prepare = sym v.named ∙ ap (λ (e : Envelope). e.message) one ∙ p.named in
          let life : v.life ≡ life_of u.lives g.site = cc in
          let older : g.life ≤ then.life g.site = (wl.granted g (wl.known g counted)).older in
          let is : then.life g.site ≡ life_at h g.site = life_is g.site place in
          let some : 0 < g.life = part.some in
          let named_life : v.life ≡ g.life = life ∙ life_named in
          elim v.low [
            | inl none ↦ absurd (let zero : v.life ≡ 0 = none in let never : ⊥ = omega arith in never)
            | inr low ↦ (let there : life_at h p.vote.from ≡ life_at h g.site = ap (life_at h) p.from in
                let up_to : life_at h p.vote.from ≤ v.life = low in omega arith)
          ]

      bound : (then.life g.site ≡ g.life) ⊎ IsVoted g
      bound = elim (votes_are_cast_in_the_lives_that_they_name decl script fits accepted sound late late_inputs late_run
          late_kept h middle later p.vote p.number p.sent
          (subst (λ (n : ℕ). is_site decl n ≡ true) (sym p.from) place, (p.clock, p.is))) [
            | inl there ↦ inr (early_vote there)
            | inr v ↦ inl (cast_later v)
          ]

    pub safe : IsSafe (refined fits decl script h open_inputs accepted sound run kept).acts t.tx
    safe g counted named = bound g counted named
