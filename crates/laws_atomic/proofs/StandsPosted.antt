-- A turn is posted: the net makes both steps, the actor's and the post, of a site or of a client.
use Rattle.std.proofs.Common.{◌≡◌, ◌≢◌, ℕ, ◌-◌, ◌==◌, Bool, true, false, if◌then◌else◌, List, [], ◌++◌, length, Some}
use Rattle.std.proofs.Common.{None, slice_get, refl, sym, ap, ◌∙◌, subst}
use Rattle.std.specs.Prelude.{slice_set}
use Rattle.std.proofs.lemmas.List.{append-nil}
use Rattle.qc_entry.specs.declared.record.Commit.{Commit as CommitRecord}
use Rattle.qc_core.specs.Vocabulary.{IsLawful}
use Rattle.qc_decl.specs.Vocabulary.{IsAccepted, is_client, is_site}
use Rattle.qc_decl.specs.declared.declaration.Declaration.{Declaration}
use Rattle.qc_msg.specs.declared.message.Envelope.{Envelope}
use Rattle.qc_msg.specs.declared.turn.Posting.{Posting}
use Rattle.qc_msg.specs.declared.turn.Turn.{Turn}
use Rattle.qc_msg.specs.Vocabulary.{Deed, Entry, WasSentTo, by, deeds, envelopes, mail, posted, written}
use Rattle.qc_msg.proofs.GrownMail.{mail-append, mail-posted}
use Rattle.qc_msg.proofs.DeedsGrow.{deeds-other}
use Rattle.qc_msg.proofs.Growth.{deeds-posted}
use Rattle.qc_script.specs.Vocabulary.{IsScriptFor, Runs}
use Rattle.qc_script.specs.declared.script.Script.{Script}
use Rattle.qc_client.specs.Vocabulary.{ClientMove, client_after, client_takes}
use Rattle.qc_client.specs.declared.client.Client.{Client}
use Rattle.qc_site.specs.Vocabulary.{SiteMove, SiteState, site_after, site_takes}
use Rattle.laws_turns.proofs.Proper.{run_proper}
use Rattle.laws_due.proofs.AccountDeclared.{scripts_ask_what_is_declared}
use Rattle.laws_refinement.specs.Vocabulary.{after_client, after_site, commits_in, sent_all}
use Rattle.laws_refinement.proofs.Machine.{put_one}
use Rattle.laws_atomic.proofs.Calm as calm
use Rattle.laws_atomic.proofs.Posted.{client_posted, site_posted, written_posted}
use Rattle.laws_atomic.proofs.Silent.{site_silent}
use Rattle.laws_atomic.proofs.Stood.{ClientStands, OpenClient, OpenSite, SiteStands, Stood, both, client_stays}
use Rattle.laws_atomic.proofs.Stood.{false_true, may_come, not_now, site_stays, sent_calm, slot_other}
use Rattle.qc_list.proofs.Numbers.{numbers_apart}

module _ (decl : Declaration) (script : Script) (accepted : IsAccepted decl) (sound : IsScriptFor decl script) where
  module _ (h : List Entry) (open_inputs : List Bool) (run : Runs (IsLawful decl) decl script h open_inputs)
      (old : Stood decl h open_inputs) where
    module _ (a : ℕ) (turn : Turn) (taken : slice_get open_inputs a ≡ Some true) where
      abbrev now_posted : List Entry
      now_posted = h ++ by a (posted (length (mail h)) turn)

      mail_now : mail now_posted ≡ mail h ++ envelopes a (length (mail h)) turn.sends
      mail_now =
          mail-append h (by a (posted (length (mail h)) turn))
          ∙ ap (λ (ms : List Envelope). mail h ++ ms) (mail-posted a (length (mail h)) turn)

      mail_after : (sends : List Posting) → sends ≡ turn.sends
          → old.net.mail ++ envelopes a (length old.net.mail) sends ≡ mail now_posted
      mail_after sends is =
          ap (λ (ps : List Posting). old.net.mail ++ envelopes a (length old.net.mail) ps) is
          ∙ ap (λ (ms : List Envelope). ms ++ envelopes a (length ms) turn.sends) old.mail_is ∙ sym mail_now

      site_elsewhere : (b : ℕ) → is_site decl b ≡ true → (a == b) ≡ false
          → SiteStands decl (old.net.sites b) b now_posted (slice_get (slice_set open_inputs a false) b)
      site_elsewhere b site other =
          site_stays decl (old.net.sites b) b h now_posted (envelopes a (length (mail h)) turn.sends)
          (slice_get open_inputs b) (slice_get (slice_set open_inputs a false) b)
          (deeds-other a b [] h (posted (length (mail h)) turn) other) mail_now
          (slot_other open_inputs a b false other) (old.sites_are b site)

      client_elsewhere : (b : ℕ) → is_client decl b ≡ true → (a == b) ≡ false
          → ClientStands decl (old.net.clients b) b now_posted (slice_get (slice_set open_inputs a false) b)
      client_elsewhere b client other =
          client_stays decl (old.net.clients b) b h now_posted (envelopes a (length (mail h)) turn.sends)
          (slice_get open_inputs b) (slice_get (slice_set open_inputs a false) b)
          (deeds-other a b [] h (posted (length (mail h)) turn) other) mail_now
          (slot_other open_inputs a b false other) (old.clients_are b client)

      differs : (b : ℕ) → b ≢ a → (a == b) ≡ false
      differs b other = numbers_apart a b (λ same. other (sym same))

      module _ (site : is_site decl a ≡ true) (law : turn ≡ (site_after decl a (deeds a [] h)).turn) where
        x : OpenSite decl (old.net.sites a) a h
        x = (old.sites_are a site).opened taken

        abbrev move : SiteMove
        move = site_takes decl (old.net.sites a) x.given

        turn_is : move.turn ≡ turn
        turn_is = sym (law ∙ ap (λ (m : SiteMove). m.turn) x.is)

        pub stands_served : Stood decl now_posted (slice_set open_inputs a false)
        stands_served = record {
          net = after_site old.net a move;
          calm =
              calm.serves a x.given old.net old.calm site
              (may_come old.net a x.given
              (subst (λ (ms : List Envelope). WasSentTo a ms x.given) (sym old.mail_is) x.sent))
              (sent_calm decl a (mail h) x.given
              (run_proper decl script accepted (scripts_ask_what_is_declared decl script accepted sound) h
              open_inputs run) x.sent);
          mail_is = mail_after move.turn.sends (ap (λ (t : Turn). t.sends) turn_is);
          written_is =
              old.written_is
              ∙ sym
              (written_posted h a (length (mail h)) turn
              ∙ ap (λ (cs : List CommitRecord). written h ++ cs)
              (ap (λ (t : Turn). commits_in t.write) (sym turn_is) ∙ site_silent decl (old.net.sites a) x.given)
              ∙ append-nil (written h));
          sites_are =
              λ b is. put_one (λ k (s : SiteState). SiteStands decl s k now_posted
              (slice_get (slice_set open_inputs a false) k)) old.net.sites a move.site b here
              (λ other. site_elsewhere b is (differs b other));
          clients_are =
              λ b is. client_elsewhere b is
              (numbers_apart a b (λ same. both decl b (subst (λ (k : ℕ). is_site decl k ≡ true) same site) is));
        }
          where
            here : SiteStands decl move.site a now_posted (slice_get (slice_set open_inputs a false) a)
            here = record {
              closed =
                  λ e. ap (λ (m : SiteMove). m.site) (sym x.is)
                  ∙ sym
                  (ap (λ (m : SiteMove). m.site)
                  (ap (site_after decl a) (deeds-posted a (length (mail h)) h turn)
                  ∙ site_posted decl a (deeds a [] h) (length (mail h)) turn));
              opened = λ e. absurd (not_now open_inputs a false true true taken false_true e);
            }

      module _ (none : is_site decl a ≡ false) (client : is_client decl a ≡ true)
          (law : turn ≡ (client_after decl (a - decl.sites) (deeds a [] h)).turn) where
        y : OpenClient decl (old.net.clients a) a h
        y = (old.clients_are a client).opened taken

        abbrev step : ClientMove
        step = client_takes decl (old.net.clients a) y.given

        turn_was : step.turn ≡ turn
        turn_was = sym (law ∙ ap (λ (m : ClientMove). m.turn) y.is)

        pub stands_done : Stood decl now_posted (slice_set open_inputs a false)
        stands_done = record {
          net = after_client old.net a step;
          calm =
              calm.takes a y.given old.net old.calm client
              (may_come old.net a y.given
              (subst (λ (ms : List Envelope). WasSentTo a ms y.given) (sym old.mail_is) y.sent)) y.may;
          mail_is = mail_after step.turn.sends (ap (λ (t : Turn). t.sends) turn_was);
          written_is = (λ i. old.written_is i ++ commits_in (turn_was i).write)
              ∙ sym (written_posted h a (length (mail h)) turn);
          sites_are =
              λ b is. site_elsewhere b is
              (numbers_apart a b
              (λ same. (let site : is_site decl a ≡ true = subst (λ (k : ℕ). is_site decl k ≡ true) (sym same) is in
              let never : ⊥ = cc in never)));
          clients_are =
              λ b is. put_one (λ k (c : Client). ClientStands decl c k now_posted
              (slice_get (slice_set open_inputs a false) k)) old.net.clients a
              (sent_all step.client (length old.net.mail) step.turn.sends) b here
              (λ other. client_elsewhere b is (differs b other));
        }
          where
            moved_to : step ≡ client_after decl (a - decl.sites) (deeds a [] h)
            moved_to = sym y.is

            here : ClientStands decl (sent_all step.client (length old.net.mail) step.turn.sends) a now_posted
                (slice_get (slice_set open_inputs a false) a)
            here = record {
              closed = λ e.
                  (λ i. sent_all (moved_to i).client (length (old.mail_is i)) (turn_was i).sends)
                  ∙ sym
                  (ap (λ (ds : List Deed). (client_after decl (a - decl.sites) ds).client)
                  (deeds-posted a (length (mail h)) h turn)
                  ∙ client_posted decl (a - decl.sites) (deeds a [] h) (length (mail h)) turn);
              opened = λ e. absurd (not_now open_inputs a false true true taken false_true e);
            }

      pub stands_posted : IsLawful decl a (deeds a [] h) turn → Stood decl now_posted (slice_set open_inputs a false)
      stands_posted law = at (is_site decl a) (is_client decl a) refl refl law
        where
          at : (s c : Bool) → is_site decl a ≡ s → is_client decl a ≡ c
              → (if s then Some (site_after decl a (deeds a [] h)).turn else
              (if c then Some (client_after decl (a - decl.sites) (deeds a [] h)).turn else None)) ≡ Some turn
              → Stood decl now_posted (slice_set open_inputs a false)
          at true c site client is =
              stands_served site (let same : turn ≡ (site_after decl a (deeds a [] h)).turn = cc in same)
          at false true none client is =
              stands_done none client
              (let same : turn ≡ (client_after decl (a - decl.sites) (deeds a [] h)).turn = cc in same)
          at false false none no_client is = absurd (let never : ⊥ = cc in never)
