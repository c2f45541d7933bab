-- An actor falls, or its journal isn't opened and it stays down: what it had in memory goes, and the net falls with it.
use Rattle.std.proofs.Common.{◌≡◌, ◌≢◌, ℕ, ◌<◌, ◌≤◌, Bool, true, false, List, [], ◌∷◌, ◌++◌, Option, None, slice_get}
use Rattle.std.proofs.Common.{inl, inr, refl, sym, ap, ◌∙◌, subst, arith, eq-eqb, eqb-true}
use Rattle.std.proofs.lemmas.Bool.{ltb-true}
use Rattle.std.proofs.lemmas.List.{append-nil}
use Rattle.std.proofs.lemmas.List.Sums.{fold-append}
use Rattle.qc_decl.proofs.Clients.{client_within}
use Rattle.qc_core.specs.Vocabulary.{IsLawfulWithFalls, is_up, journal_after, journal_at, up_at}
use Rattle.qc_decl.specs.Vocabulary.{IsAccepted, actors, administrator, is_administrator, is_client, is_site}
use Rattle.qc_decl.specs.declared.declaration.Declaration.{Declaration}
use Rattle.qc_mailbox.proofs.FallLaws.{crashes_up, restarts_down, inboxes_know_who_is_up}
use Rattle.qc_link.specs.Vocabulary.{most_actors}
use Rattle.laws_turns.proofs.Downs.{who_is_down_only_tells, up_is}
use Rattle.laws_turns.proofs.LivedMoves.{deeds-fall}
use Rattle.qc_msg.specs.declared.record.Record.{Record}
use Rattle.qc_msg.specs.declared.step.Control.{Control}
use Rattle.qc_msg.specs.declared.step.Control.TheVariants as controls
use Rattle.qc_msg.specs.declared.step.Fall.{Fall}
use Rattle.qc_msg.specs.declared.step.Fall.TheVariants as causes
use Rattle.qc_msg.specs.declared.step.Step.TheVariants as steps
use Rattle.qc_msg.specs.Vocabulary.{Entry, Falls, deeds, mail, marked}
use Rattle.qc_msg.proofs.GrownMail.{mail-append}
use Rattle.qc_msg.proofs.DeedsGrow.{deeds-other}
use Rattle.laws_refinement.specs.Vocabulary.{Net, Reaches, after_fall}
use Rattle.laws_refinement.specs.Net as nets
use Rattle.qc_promise.specs.Vocabulary.{Journal, no_journal}
use Rattle.theory_machine.proofs.Names.{put_here}
use Rattle.qc_script.specs.Vocabulary.{IsScriptFor, RunsWithFalls, controls_left, inbox}
use Rattle.qc_script.specs.Inbox as boxes
use Rattle.qc_script.specs.declared.script.Script.{Script}
use Rattle.laws_reach.specs.Vocabulary.{TakesInputs}
use Rattle.laws_reach.proofs.PostedTurns.{fell_leaves, never_up}
use Rattle.laws_reach.proofs.Stood.{Leaves, Stands, Stood, itself, moves}

mail_fall : (a : ℕ) (h : List Entry) (cause : Fall) → mail (h ++ marked a (steps.Fell cause None) ∷ []) ≡ mail h ++ []
mail_fall a h cause = mail-append h (marked a (steps.Fell cause None) ∷ [])

within : (decl : Declaration) (a : ℕ) → TakesInputs decl a → a < actors decl
within decl a (inl site) = let low : a < decl.sites = ltb-true a decl.sites site in omega arith
within decl a (inr (inl client)) = client_within decl a client
within decl a (inr (inr at)) = omega arith

module _ (decl : Declaration) (script : Script) (fits : ℕ → List Record → Type 0) (accepted : IsAccepted decl)
    (sound : IsScriptFor decl script) where
  pub few : actors decl ≤ most_actors
  few = let s = accepted.sites in let c = accepted.clients in omega arith

  abbrev IsRun : List Entry → List Bool → Type 0
  IsRun h inputs = RunsWithFalls (IsLawfulWithFalls decl) fits decl script h inputs

  module _ (h : List Entry) (inputs : List Bool) (run : IsRun h inputs) (old : Stood decl h inputs) where
    -- an actor falls

    abbrev fallen : ℕ → Fall → List Entry
    fallen a cause = h ++ marked a (steps.Fell cause None) ∷ []

    pub up_in : (a : ℕ) → TakesInputs decl a → boxes.is_up (inbox script 0 h).up a ≡ is_up (deeds a [] h)
    up_in a is =
        let low : a < actors decl = within decl a is in
        inboxes_know_who_is_up (IsLawfulWithFalls decl) fits decl script h inputs few (who_is_down_only_tells decl) run
        a 0
        (let f = few in omega arith) (omega arith) ∙ sym (up_is (deeds a [] h))

    fell_up : (a : ℕ) (cause : Fall) → is_up (deeds a [] (fallen a cause)) ≡ false
    fell_up a cause = ap is_up (deeds-fall a h cause) ∙ fold-append up_at true (deeds a [] h) (Falls cause None ∷ [])

    fell_journal : (a : ℕ) (cause : Fall) → journal_after (deeds a [] (fallen a cause)) ≡ journal_after (deeds a [] h)
    fell_journal a cause =
        ap journal_after (deeds-fall a h cause)
        ∙ fold-append journal_at no_journal (deeds a [] h) (Falls cause None ∷ [])

    fell_stands : (a : ℕ) (cause : Fall) (next : Net) (slot : Option Bool) → next.up a ≡ false
        → next.records a ≡ (journal_after (deeds a [] h)).records
        → next.pending a ≡ (journal_after (deeds a [] h)).pending → Stands decl next a (fallen a cause) slot
    fell_stands a cause next slot up records pending = record {
      up = up ∙ sym (fell_up a cause);
      records = records ∙ ap (λ (j : Journal). j.records) (sym (fell_journal a cause));
      pending = pending ∙ ap (λ (j : Journal). j.pending) (sym (fell_journal a cause));
      clear = λ is. absurd (never_up _ (fell_up a cause) is);
      closed = λ is. absurd (never_up _ (fell_up a cause) is);
      opened = λ is. absurd (never_up _ (fell_up a cause) is);
    }

    falls_to : (a : ℕ) (cause : Fall) (next : Net) → Reaches decl next → next.mail ≡ old.net.mail
        → ((b : ℕ) → b ≢ a → Leaves decl old.net next b)
        → (TakesInputs decl a → Stands decl next a (fallen a cause) (slice_get inputs a))
        → Stood decl (fallen a cause) inputs
    falls_to a cause next reached same leaves here =
        moves decl h (fallen a cause) inputs inputs old a next [] reached
        (same ∙ old.mail_is ∙ sym (append-nil (mail h)) ∙ sym (mail_fall a h cause)) (mail_fall a h cause) leaves
        (λ b other. deeds-other a b [] h (steps.Fell cause None ∷ []) other) (λ b other. refl) here

    pub stands_fallen : (a : ℕ) (lines : List Control) → controls_left script h ≡ controls.Crash a ∷ lines
        → Stood decl (fallen a causes.Script) inputs
    stands_fallen a lines left = by_kind (is_site decl a) (is_client decl a) (is_administrator decl a) refl refl refl
      where
        up : (is : TakesInputs decl a) → is_up (deeds a [] h) ≡ true
        up is = sym (up_in a is) ∙ crashes_up (IsLawfulWithFalls decl) fits decl script h inputs few run a lines left

        to_net : (is : TakesInputs decl a) → Reaches decl (after_fall old.net a None [])
            → Stood decl (fallen a causes.Script) inputs
        to_net is reached =
            let s : Stands decl old.net a h (slice_get inputs a) = old.actors a is in
            falls_to a causes.Script (after_fall old.net a None []) reached (append-nil old.net.mail)
            (fell_leaves decl old.net a None [])
            (λ it. fell_stands a causes.Script (after_fall old.net a None []) (slice_get inputs a)
            (put_here old.net.up a false) s.records (put_here old.net.pending a None ∙ sym (s.clear (up is))))

        reaches : (is : TakesInputs decl a) → Reaches decl (after_fall old.net a None [])
        reaches (inl site) = nets.site_falls a old.net old.reached site ((old.actors a (inl site)).up ∙ up (inl site))
        reaches (inr (inl client)) =
            nets.client_falls a old.net old.reached client
            ((old.actors a (inr (inl client))).up ∙ up (inr (inl client)))
        reaches (inr (inr at)) =
            subst (λ (b : ℕ). old.net.up b ≡ true → Reaches decl (after_fall old.net b None [])) (sym at)
            (λ is_up. nets.admin_falls old.net old.reached is_up)
            ((old.actors a (inr (inr at))).up ∙ up (inr (inr at)))

        nobody : is_site decl a ≡ false → is_client decl a ≡ false → is_administrator decl a ≡ false
            → TakesInputs decl a → ⊥
        nobody none no_client no_admin (inl site) = let no : ⊥ = cc in no
        nobody none no_client no_admin (inr (inl client)) = let no : ⊥ = cc in no
        nobody none no_client no_admin (inr (inr at)) =
            let is : is_administrator decl a ≡ true = eq-eqb a (administrator decl) at in let no : ⊥ = cc in no

        by_kind : (t c m : Bool) → is_site decl a ≡ t → is_client decl a ≡ c → is_administrator decl a ≡ m
            → Stood decl (fallen a causes.Script) inputs
        by_kind true c m site client admin = to_net (inl site) (reaches (inl site))
        by_kind false true m none client admin = to_net (inr (inl client)) (reaches (inr (inl client)))
        by_kind false false true none no_client admin =
            let at : a ≡ administrator decl = eqb-true a (administrator decl) admin in
            to_net (inr (inr at)) (reaches (inr (inr at)))
        by_kind false false false none no_client no_admin =
            falls_to a causes.Script old.net old.reached refl (λ b other. itself decl old.net b)
            (λ is. absurd (nobody none no_client no_admin is))

    -- its journal isn't opened: it stays down

    pub stands_unopened : (a : ℕ) (cause : Fall) (lines : List Control)
        → controls_left script h ≡ controls.Restart a ∷ lines → Stood decl (fallen a cause) inputs
    stands_unopened a cause lines left =
        falls_to a cause old.net old.reached refl (λ b other. itself decl old.net b) here
      where
        here : TakesInputs decl a → Stands decl old.net a (fallen a cause) (slice_get inputs a)
        here is =
            let s : Stands decl old.net a h (slice_get inputs a) = old.actors a is in
            let down : is_up (deeds a [] h) ≡ false =
            sym (up_in a is)
            ∙ restarts_down (IsLawfulWithFalls decl) fits decl script h inputs few run a lines left in
            fell_stands a cause old.net (slice_get inputs a) (s.up ∙ down) s.records s.pending
