-- An input is taken: the net stands still, and the actor has the input that it will answer in its post.
use Rattle.std.proofs.Common.{◌≡◌, ℕ, ◌-◌, ◌==◌, Bool, true, false, List, [], ◌∷◌, ◌++◌, Some, slice_get, refl, sym, ap}
use Rattle.std.proofs.Common.{◌∙◌, subst, eqb-true}
use Rattle.std.specs.Prelude.{fold, slice_set}
use Rattle.std.proofs.lemmas.List.{append-nil}
use Rattle.std.proofs.lemmas.List.Sums.{fold-append}
use Rattle.qc_core.specs.Vocabulary.{IsLawful, MayTake}
use Rattle.qc_decl.specs.Vocabulary.{IsAccepted, is_client, is_site}
use Rattle.qc_decl.specs.declared.declaration.Declaration.{Declaration}
use Rattle.qc_msg.specs.declared.message.Envelope.{Envelope}
use Rattle.qc_msg.specs.declared.step.Command.{Command}
use Rattle.qc_msg.specs.declared.step.Input.{Input}
use Rattle.qc_msg.specs.declared.step.Input.TheVariants as inputs
use Rattle.qc_msg.specs.Vocabulary.{Entry, Takes, WasSentTo, deeds, mail, marked, step_of}
use Rattle.qc_msg.proofs.GrownMail.{mail-taken}
use Rattle.qc_msg.proofs.DeedsGrow.{deeds-other}
use Rattle.qc_msg.proofs.Growth.{deeds-taken}
use Rattle.qc_script.specs.Vocabulary.{IsScriptFor, Runs, ready}
use Rattle.qc_script.specs.declared.script.Script.{Script}
use Rattle.qc_client.specs.Vocabulary.{client_after, client_takes}
use Rattle.qc_client.specs.declared.client.Client.{Client}
use Rattle.qc_front.specs.Vocabulary.{is_idle}
use Rattle.qc_front.specs.declared.doing.Doing.{Doing}
use Rattle.qc_front.specs.declared.doing.Doing.TheVariants.{Idle, Reading, Appending}
use Rattle.qc_site.specs.Vocabulary.{SiteState, site_after, site_takes}
use Rattle.laws_turns.proofs.Acted.{actors_take_and_post_by_turns}
use Rattle.laws_turns.proofs.Arrivals.{what_is_ready_was_sent}
use Rattle.laws_turns.proofs.TurnReplies.{after_taken}
use Rattle.laws_turns.proofs.Replying.{client_replies}
use Rattle.laws_turns.proofs.Running.{what_is_ready_may_be_taken}
use Rattle.laws_turns.specs.Vocabulary.{is_waiting}
use Rattle.laws_turns.proofs.Waiting.{round_none, votes_none}
use Rattle.qc_promise.specs.Vocabulary.{account, account_at, new_account}
use Rattle.laws_due.specs.Vocabulary.{Ties}
use Rattle.laws_due.proofs.Courses.{accounts_are_their_clients}
use Rattle.laws_refinement.specs.Vocabulary.{MayCommand}
use Rattle.laws_atomic.proofs.Asked.{ready_named}
use Rattle.laws_atomic.proofs.Names.{script_named}
use Rattle.laws_atomic.proofs.Posted.{site_taken, taken_writes, written_same}
use Rattle.laws_atomic.proofs.Stood.{ClientStands, SiteStands, Stood, both, client_stays, not_now, site_stays}
use Rattle.laws_atomic.proofs.Stood.{slot_other, true_false}
use Rattle.laws_turns.proofs.Up.{run_up}

module _ (decl : Declaration) (script : Script) (accepted : IsAccepted decl) (sound : IsScriptFor decl script) where
  idle_is : (doing : Doing) → is_idle doing ≡ true → doing ≡ Idle
  idle_is Idle is = refl
  idle_is (Reading object inv calls round) is = absurd (let never : ⊥ = cc in never)
  idle_is (Appending object inv event calls round) is = absurd (let never : ⊥ = cc in never)

  module _ (h : List Entry) (open_inputs : List Bool) (run : Runs (IsLawful decl) decl script h open_inputs)
      (old : Stood decl h open_inputs) where
    module _ (a : ℕ) (g : Input) (free : slice_get open_inputs a ≡ Some false)
        (rdy : ready decl script a h ≡ Some g) where
      abbrev now_taken : List Entry
      now_taken = h ++ marked a (step_of g) ∷ []

      pub sent : WasSentTo a (mail h) g
      sent = what_is_ready_was_sent (IsLawful decl) decl script h open_inputs run a g rdy

      sent_now : WasSentTo a (mail now_taken) g
      sent_now = subst (λ (ms : List Envelope). WasSentTo a ms g) (sym (mail-taken h a g)) sent

      grows : mail now_taken ≡ mail h ++ []
      grows = mail-taken h a g ∙ sym (append-nil (mail h))

      still : is_client decl a ≡ true → (command : Command) → g ≡ inputs.Called command
          → is_waiting (client_after decl (a - decl.sites) (deeds a [] h)).client ≡ false
      still client command is =
          client_replies decl a (at (is_site decl a) refl) client (deeds a [] h) false
          (actors_take_and_post_by_turns decl script h open_inputs run a false free).above
          (actors_take_and_post_by_turns decl script h open_inputs run a false free).acts
          (subst (MayTake (deeds a [] h)) is
          (what_is_ready_may_be_taken decl script a h (run_up (IsLawful decl) decl script h open_inputs run a) g
          rdy))
        where
          at : (t : Bool) → is_site decl a ≡ t → t ≡ false
          at true site = absurd (both decl a site client)
          at false none = refl

      may : (x : Input) → g ≡ x → is_client decl a ≡ true
          → MayCommand decl (client_after decl (a - decl.sites) (deeds a [] h)).client x
      may (inputs.Called command) is client =
          let c : Client = (client_after decl (a - decl.sites) (deeds a [] h)).client in
          let rests : is_waiting (client_after decl (a - decl.sites) (deeds a [] h)).client ≡ false =
          still client command is in (
            record { voting = votes_none c rests; doing = idle_is c.front.doing (round_none c rests) },
            ready_named decl script (script_named decl accepted script sound) h open_inputs run a command free
                (rdy ∙ ap (λ (v : Input). Some v) is),
          )
      may (inputs.Got envelope) is client = tt
      may (inputs.Lost number) is client = tt

      pub stands_taken : Stood decl now_taken (slice_set open_inputs a true)
      stands_taken = record {
        net = old.net;
        calm = old.calm;
        mail_is = old.mail_is ∙ sym (mail-taken h a g);
        written_is = old.written_is ∙ sym (written_same h a (step_of g) (taken_writes g));
        sites_are = λ b site. by_site b site (a == b) refl;
        clients_are = λ b client. by_client b client (a == b) refl;
      }
        where
          by_site : (b : ℕ) → is_site decl b ≡ true → (t : Bool) → (a == b) ≡ t
              → SiteStands decl (old.net.sites b) b now_taken (slice_get (slice_set open_inputs a true) b)
          by_site b site false other =
              site_stays decl (old.net.sites b) b h now_taken [] (slice_get open_inputs b)
              (slice_get (slice_set open_inputs a true) b) (deeds-other a b [] h (step_of g ∷ []) other) grows
              (slot_other open_inputs a b true other) (old.sites_are b site)
          by_site b site true same =
              subst (λ (k : ℕ). SiteStands decl (old.net.sites k) k now_taken
              (slice_get (slice_set open_inputs a true) k)) (eqb-true a b same) (record {
                closed = λ e. absurd (not_now open_inputs a true false false free true_false e);
                opened = λ e. record {
                  given = g;
                  sent = sent_now;
                  is = ap (site_after decl a) (deeds-taken a h g sent) ∙ site_taken decl a (deeds a [] h) g
                      ∙ ap (λ (s : SiteState). site_takes decl s g)
                      (sym ((old.sites_are a
                      (subst (λ (k : ℕ). is_site decl k ≡ true) (sym (eqb-true a b same)) site)).closed free));
                };
              })

          by_client : (b : ℕ) → is_client decl b ≡ true → (t : Bool) → (a == b) ≡ t
              → ClientStands decl (old.net.clients b) b now_taken (slice_get (slice_set open_inputs a true) b)
          by_client b client false other =
              client_stays decl (old.net.clients b) b h now_taken [] (slice_get open_inputs b)
              (slice_get (slice_set open_inputs a true) b) (deeds-other a b [] h (step_of g ∷ []) other) grows
              (slot_other open_inputs a b true other) (old.clients_are b client)
          by_client b client true same =
              let here : is_client decl a ≡ true =
              subst (λ (k : ℕ). is_client decl k ≡ true) (sym (eqb-true a b same)) client in
              let was : old.net.clients a ≡ (client_after decl (a - decl.sites) (deeds a [] h)).client =
              (old.clients_are a here).closed free in
              subst (λ (k : ℕ). ClientStands decl (old.net.clients k) k now_taken
              (slice_get (slice_set open_inputs a true) k)) (eqb-true a b same) (record {
                closed = λ e. absurd (not_now open_inputs a true false false free true_false e);
                opened = λ e. record {
                  given = g;
                  sent = sent_now;
                  may = subst (λ (c : Client). MayCommand decl c g) (sym was) (may g refl here);
                  is =
                      ap (client_after decl (a - decl.sites)) (deeds-taken a h g sent)
                      ∙ after_taken decl (a - decl.sites) (deeds a [] h) g
                      ∙ ap (λ (c : Client). client_takes decl c g) (sym was);
                  was = account decl a h;
                  tied =
                      subst (Ties decl (account decl a h)) (sym was)
                      (accounts_are_their_clients decl a here (deeds a [] h)
                      (actors_take_and_post_by_turns decl script h open_inputs run a false free).above
                      (actors_take_and_post_by_turns decl script h open_inputs run a false free).acts);
                  now_is =
                      ap (fold (account_at decl) (new_account (a - decl.sites))) (deeds-taken a h g sent)
                      ∙ fold-append (account_at decl) (new_account (a - decl.sites)) (deeds a [] h) (Takes g ∷ []);
                };
              })
