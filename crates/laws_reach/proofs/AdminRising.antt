-- The administrator rises with his records; so whoever rises, the net has done it too.
use Rattle.std.proofs.Common.{◌≡◌, ℕ, Bool, true, false, List, [], ◌∷◌, ◌++◌, length, Option, Some, None}
use Rattle.std.proofs.Common.{option_to_list, slice_get, inl, inr, refl, sym, ap, ◌∙◌, subst}
use Rattle.std.proofs.lemmas.List.{append-nil}
use Rattle.qc_core.specs.declared.actor.Actor.TheVariants as actor
use Rattle.qc_core.specs.Vocabulary.{ActorMove, IsLawfulWithFalls, actor_rises, by_admin, is_up, with_record}
use Rattle.qc_core.proofs.ByNumber.{admin_no_client, admin_no_site, admin_risen}
use Rattle.qc_decl.specs.declared.declaration.Declaration.{Declaration}
use Rattle.qc_decl.specs.Vocabulary.{administrator}
use Rattle.qc_msg.specs.declared.record.Record.{Record}
use Rattle.qc_msg.specs.declared.record.Record.TheVariants.{Life}
use Rattle.qc_msg.specs.declared.step.Step.TheVariants as steps
use Rattle.qc_msg.specs.declared.turn.Appended.{Appended}
use Rattle.qc_msg.specs.declared.turn.Appended.TheVariants.{Done, Failed, Stopped}
use Rattle.qc_msg.specs.declared.turn.Posting.{Posting}
use Rattle.qc_msg.specs.declared.turn.Turn.{Turn}
use Rattle.qc_msg.specs.Vocabulary.{Entry, Rises, by, deeds, envelopes, mail, marked, own, posted_as}
use Rattle.laws_refinement.specs.Vocabulary.{after_admin_rise}
use Rattle.laws_refinement.specs.Net as nets
use Rattle.laws_refinement.proofs.Machine.{put_other}
use Rattle.qc_promise.specs.Vocabulary.{IsGivenBack, Journal, journal_of}
use Rattle.theory_machine.proofs.Names.{put_here}
use Rattle.qc_recover.specs.Vocabulary.{admin_rises}
use Rattle.laws_reach.specs.Vocabulary.{TakesInputs}
use Rattle.laws_reach.proofs.Growing.{actor_posted, all_sent}
use Rattle.laws_reach.proofs.PostedTurns.{takes_inputs}
use Rattle.laws_reach.proofs.Rising as rising
use Rattle.laws_reach.proofs.Rising.{client_up, site_up}
use Rattle.laws_reach.proofs.Stood.{Stands, Stood, in_admin}

module _ (decl : Declaration) (h : List Entry) (inputs : List Bool) (old : Stood decl h inputs) (records : List Record)
    (turn : Turn) where
  -- a history in which an actor rose, and what it did
  abbrev rose : ℕ → List Entry
  rose b = h ++ marked b (steps.Rose records) ∷ []

  abbrev after : ℕ → Appended → List Entry
  after b end = h ++ by b (steps.Rose records ∷ posted_as end (length (mail h)) turn)

  -- the administrator's number
  abbrev a : ℕ
  a = administrator decl

  module _ (law : IsLawfulWithFalls decl a (deeds a [] (rose a)) turn)
      (given : IsGivenBack (journal_of (own a h)) records) (down : is_up (deeds a [] h) ≡ false)
      (shut : slice_get inputs a ≡ Some true → ⊥)
      (s : Stands decl old.net a h (slice_get inputs a)) where
    abbrev back : Option Record
    back = (rising.b decl h inputs old a records turn law given down shut).back

    abbrev net_records : List Record
    net_records = old.net.records a ++ option_to_list back

    same : net_records ≡ records
    same = rising.same_records decl h inputs old a records turn law given down shut s

    pub was_down : old.net.up a ≡ false
    was_down = rising.was_down decl h inputs old a records turn law given down shut s

    pub is_given : nets.IsGivenBack old.net a back
    is_given = rising.is_given decl h inputs old a records turn law given down shut s

    by_rise : actor_rises decl a records ≡ by_admin (admin_rises records)
    by_rise = admin_risen decl a (admin_no_site decl) (admin_no_client decl) records

    turn_is : (admin_rises records).turn ≡ with_record turn
    turn_is = ap (λ (m : ActorMove). m.turn) (sym by_rise)
        ∙ rising.turn_is decl h inputs old a records turn law given down shut

    none_sent : turn.sends ≡ []
    none_sent = ap (λ (t : Turn). t.sends) (sym turn_is)

    wrote : turn.write ≡ Some Life
    wrote = ap (λ (t : Turn). t.write) (sym turn_is)

    pub admin_up : (end : Appended) → Stood decl (after a end) inputs
    admin_up Done = rising.to_net decl h inputs old a records turn law given down shut Done
        (after_admin_rise decl old.net back) (record {
          reached = nets.admin_rises_up back old.net old.reached was_down is_given;
          sent = sym (ap (λ (ps : List Posting). old.net.mail ++ envelopes a (length old.net.mail) ps) none_sent
              ∙ append-nil old.net.mail);
          leaves = λ c other. record {
            up = put_other old.net.up a true c other;
            records = put_other old.net.records a (net_records ++ Life ∷ []) c other;
            pending = put_other old.net.pending a None c other;
            sites = refl;
            clients = refl;
            admin = λ at. absurd (other at);
          };
          up = put_here old.net.up a true ∙ sym (rising.up_now decl h inputs old a records turn law given down shut);
          records =
              put_here old.net.records a (net_records ++ Life ∷ []) ∙ ap (λ (rs : List Record). rs ++ Life ∷ []) same
              ∙ rising.written_now decl h inputs old a records turn law given down shut s wrote;
          pending = put_here old.net.pending a None
              ∙ ap (λ (j : Journal). j.pending) (sym (rising.journal_now decl h inputs old a records turn law given down
              shut));
          clear = λ is. ap (λ (j : Journal). j.pending)
              (rising.journal_now decl h inputs old a records turn law given down shut);
          state = λ is.
              actor_posted decl a (deeds a [] h ++ Rises records ∷ []) (length (mail h)) turn
              ∙ (λ i. all_sent ((rising.risen decl h inputs old a records turn law given down shut ∙ by_rise) i).actor
              (length (mail h)) (none_sent i))
              ∙ ap (λ (rs : List Record). actor.Admin (admin_rises rs).admin) (sym same)
              ∙ sym (in_admin decl (after_admin_rise decl old.net back));
        })
    admin_up Failed = rising.in_vain decl h inputs old a records turn law given down shut s Failed refl refl wrote
        (ap (λ (t : Turn). t.failed_sends) (sym turn_is))
        (nets.admin_rises_in_vain back old.net old.reached was_down is_given)
    admin_up Stopped = rising.in_vain decl h inputs old a records turn law given down shut s Stopped refl refl wrote
        refl (nets.admin_rises_in_vain back old.net old.reached was_down is_given)

  -- who has this number rises as he does
  abbrev RisesAt : ℕ → Type 0
  RisesAt b = IsLawfulWithFalls decl b (deeds b [] (rose b)) turn → IsGivenBack (journal_of (own b h)) records
      → is_up (deeds b [] h) ≡ false → (slice_get inputs b ≡ Some true → ⊥)
      → Stands decl old.net b h (slice_get inputs b) → Stood decl (after b turn.append) inputs

  pub rises : (b : ℕ) → IsLawfulWithFalls decl b (deeds b [] (rose b)) turn → IsGivenBack (journal_of (own b h)) records
      → is_up (deeds b [] h) ≡ false → (slice_get inputs b ≡ Some true → ⊥)
      → Stood decl (after b turn.append) inputs
  rises b law given down shut = by_kind (takes_inputs decl b (deeds b [] (rose b)) turn law)
    where
      by_kind : TakesInputs decl b → Stood decl (after b turn.append) inputs
      by_kind (inl site) = site_up decl h inputs old b records turn law given down shut
          (old.actors b (inl site)) site turn.append
      by_kind (inr (inl client)) = client_up decl h inputs old b records turn law given down shut
          (old.actors b (inr (inl client))) client turn.append
      by_kind (inr (inr at)) =
          subst RisesAt (sym at) (λ law given down shut s. admin_up law given down shut s turn.append) law given down
          shut (old.actors b (inr (inr at)))
