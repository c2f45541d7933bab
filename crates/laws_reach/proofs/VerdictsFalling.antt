-- What each event of a client's life leaves it as, as its transactions' statuses say: a turn whose record isn't
-- written, a fall, a command while it is down, a rise.
use Rattle.std.proofs.Common.{◌≡◌, ℕ, ◌-◌, Bool, true, false, List, [], ◌∷◌, ◌++◌, inl, inr, Option, Some, None}
use Rattle.std.proofs.Common.{option_to_list, refl, sym, ap, ◌∙◌, subst, append_assoc}
use Rattle.std.specs.List.{AllByRecursion as Every}
use Rattle.qc_core.specs.declared.actor.Actor.{Actor}
use Rattle.qc_core.specs.Vocabulary.{ActorMove, AreGivenBack, actor_after, actor_does, is_up, journal_after}
use Rattle.qc_core.proofs.ActorLaws.{at_client}
use Rattle.qc_client.specs.declared.client.Client.{Client}
use Rattle.qc_client.specs.Vocabulary.{client_takes, new_client}
use Rattle.qc_decl.specs.Vocabulary.{is_client}
use Rattle.qc_decl.specs.declared.declaration.Declaration.{Declaration}
use Rattle.qc_list.proofs.Members.{every-append}
use Rattle.qc_msg.specs.declared.record.Record.{Record}
use Rattle.qc_msg.specs.declared.record.Record.TheVariants as records
use Rattle.qc_msg.specs.declared.reply.Reply.TheVariants as replies
use Rattle.qc_msg.specs.declared.step.Command.{Command}
use Rattle.qc_msg.specs.declared.step.Fall.{Fall}
use Rattle.qc_msg.specs.declared.step.Fall.TheVariants as causes
use Rattle.qc_msg.specs.declared.step.Input.{Input}
use Rattle.qc_msg.specs.declared.step.Input.TheVariants as inputs
use Rattle.qc_msg.specs.declared.turn.Appended.{Appended}
use Rattle.qc_msg.specs.declared.turn.Appended.TheVariants.{Done, Failed, Stopped}
use Rattle.qc_msg.specs.declared.turn.Turn.{Turn}
use Rattle.qc_msg.specs.Vocabulary.{Deed, Falls, MayEnd, Rises, Takes, Tells, Writes, deeds_as, sends_of, tells_of}
use Rattle.qc_msg.specs.Vocabulary.{turn_deeds, writes_of}
use Rattle.qc_promise.specs.Vocabulary.{AreRightFrom, IsGivenBack, IsRightRecord, Journal, Status, Unborn, no_journal}
use Rattle.qc_promise.specs.Vocabulary.{status, status_risen}
use Rattle.laws_turns.proofs.KnownDeeds.{IsKnown}
use Rattle.laws_turns.proofs.TurnsGoOn.{TurnRight}
use Rattle.laws_turns.proofs.StatusInputs.{input_right, page_of}
use Rattle.laws_turns.proofs.Statuses.{new_status}
use Rattle.qc_recover.specs.Vocabulary.{client_rises, rising}
use Rattle.qc_stamp.specs.declared.stamp.TxId.{TxId}
use Rattle.qc_stamp.specs.Vocabulary.{first_life}
use Rattle.laws_due.proofs.Commands.{no_site}
use Rattle.laws_due.proofs.Standing.{IsAtRest, IsTied, actor_more, up_more}
use Rattle.laws_due.proofs.Writing.{IsClientTurn, IsCommitTurn, takes_turn}
use Rattle.laws_reach.proofs.Courses.{rises_to}
use Rattle.qc_core.proofs.KeptBack.{back_first, back_second}
use Rattle.laws_reach.proofs.VerdictsLifelong.{HereWith, Rests, in_hand, posted_rests, rests_more, same_client, up_here}
use Rattle.laws_reach.proofs.Rises.{Goes, IsShown, all_right, goes}
use Rattle.laws_reach.proofs.StatusFalls.{Down, Risen, Up, falls_again, rises_back, up_down}
use Rattle.laws_reach.proofs.VerdictsStanding.{risen_up}

module _ (decl : Declaration) (a : ℕ) (client : is_client decl a ≡ true) (tx : TxId) where
  abbrev IsResting : List Deed → Type 0
  IsResting ds = Rests decl a client tx ds

  abbrev number : ℕ
  number = a - decl.sites

  pub down_here : (b : Bool) (s : Status) (j : Journal) (x : Actor) → HereWith decl a client tx b s j x → b ≡ false
      → Down tx s j number
  down_here true s j x here same = absurd (let never : ⊥ = cc in never)
  down_here false s j x here same = here

  -- it has done nothing

  pub new_rests : IsResting []
  new_rests = record {
    up = true;
    is = refl;
    but = tt;
    here = λ c is. subst (λ (x : Client). Up tx Unborn no_journal number (page_of x))
        (same_client (new_client number) c (sym (ap (λ (m : ActorMove). m.actor)
        (at_client decl a [] tt (no_site decl a client) client)) ∙ is)) (record {
          status = new_status tx number first_life;
          listed = λ x among. absurd among;
          life = refl;
          own = refl;
          later = λ mine low. refl;
          none = refl;
        });
  }

  module _ (ds : List Deed) (rs : IsResting ds) where
    -- while it is up

    module _ (r : IsAtRest decl a ds) (same : r.up ≡ true) (t : IsTied decl a ds) where
      stands : Up tx (status ds tx) (journal_after ds) number (page_of t.state)
      stands = up_here decl a client tx rs.up (status ds tx) (journal_after ds)
          (actor_after decl a ds).actor t.state rs.here (sym rs.is ∙ r.is ∙ same) t.actor

      pub crashed_rests : IsResting (ds ++ Falls causes.Script None ∷ [])
      crashed_rests =
          rests_more decl a client tx ds (Falls causes.Script None ∷ []) false rs (tt, tt)
          (up_more decl a ds (Falls causes.Script None ∷ []))
          (up_down tx (status ds tx) (journal_after ds) number (page_of t.state) (journal_after ds).pending stands
          (subst (λ (o : Option Record). Every (IsRightRecord tx (status ds tx)) (option_to_list o))
          (sym stands.none) tt))

      module _ (g : Input) (known : IsKnown tx (status ds tx) g) where
        abbrev turn : Turn
        turn = (client_takes decl t.state g).turn

        -- the record of its turn isn't written: that is a commit's, of a begun transaction
        begun : (w : IsCommitTurn turn) → IsRightRecord tx (status ds tx) (records.Commit w.commit)
        begun w =
            let right : TurnRight tx (status ds tx) turn (page_of (client_takes decl t.state g).client) =
            input_right decl tx (status ds tx) t.state stands.status (in_hand decl _ t.state t.ties) g known in
            (subst (λ (o : Option Record). AreRightFrom tx (status ds tx)
            (writes_of o ++ (sends_of 0 turn.sends ++ tells_of turn.told))) w.write (right.right 0)).0

        unknown_rests : (cause : Fall) (w : IsCommitTurn turn)
            → IsResting ((ds ++ Takes g ∷ []) ++ Tells replies.Unknown ∷ Falls cause (Some (records.Commit w.commit))
            ∷ [])
        unknown_rests cause w =
            let more : List Deed = Takes g ∷ Tells replies.Unknown ∷ Falls cause (Some (records.Commit w.commit))
            ∷ [] in
            subst IsResting (sym (append_assoc ds (Takes g ∷ [])
            (Tells replies.Unknown ∷ Falls cause (Some (records.Commit w.commit)) ∷ [])))
            (rests_more decl a client tx ds more false rs (tt, (tt, (tt, tt))) (up_more decl a ds more)
            (up_down tx (status ds tx) (journal_after ds) number (page_of t.state)
            (Some (records.Commit w.commit)) stands (begun w, tt)))

        pub turn_rests : (end : Appended) (first : ℕ) → MayEnd turn.write end
            → IsResting ((ds ++ Takes g ∷ []) ++ deeds_as end first turn)
        turn_rests Done first ends =
            subst IsResting (sym (append_assoc ds (Takes g ∷ []) (turn_deeds first turn)))
            (posted_rests decl a client tx ds rs r same t g known first)
        turn_rests Failed first ends = by (takes_turn decl t.state g)
          where
            by : IsClientTurn turn → IsResting ((ds ++ Takes g ∷ []) ++ deeds_as Failed first turn)
            by (inl none) = absurd (subst (λ (w : Option Record). MayEnd w Failed) none ends)
            by (inr w) =
                subst (λ (v : List Deed). IsResting ((ds ++ Takes g ∷ []) ++ v))
                (λ i. sends_of first (sym w.failed_sends i) ++
                (tells_of (sym w.failed_told i) ++ Falls causes.Disk (sym w.write i) ∷ []))
                (unknown_rests causes.Disk w)
        turn_rests Stopped first ends = by (takes_turn decl t.state g)
          where
            by : IsClientTurn turn → IsResting ((ds ++ Takes g ∷ []) ++ deeds_as Stopped first turn)
            by (inl none) = absurd (subst (λ (w : Option Record). MayEnd w Stopped) none ends)
            by (inr w) =
                subst (λ (v : List Deed). IsResting ((ds ++ Takes g ∷ []) ++ v))
                (λ i. tells_of (sym w.failed_told i) ++ Falls causes.Stop (sym w.write i) ∷ [])
                (unknown_rests causes.Stop w)

    -- while it is down

    module _ (down : is_up ds ≡ false) where
      fallen : Down tx (status ds tx) (journal_after ds) number
      fallen = down_here rs.up (status ds tx) (journal_after ds) (actor_after decl a ds).actor rs.here
          (sym rs.is ∙ down)

      pub unopened_rests : (cause : Fall) → IsResting (ds ++ Falls cause None ∷ [])
      unopened_rests cause =
          rests_more decl a client tx ds (Falls cause None ∷ []) false rs (tt, tt)
          (up_more decl a ds (Falls cause None ∷ []))
          (record { listed = fallen.listed; pending = fallen.pending; later = fallen.later; mine = fallen.mine })

      pub called_rests : (command : Command) → IsResting
          ((ds ++ Takes (inputs.Called command) ∷ []) ++ Tells replies.Down ∷ [])
      called_rests command =
          let more : List Deed = Takes (inputs.Called command) ∷ Tells replies.Down ∷ [] in
          subst IsResting (sym (append_assoc ds (Takes (inputs.Called command) ∷ []) (Tells replies.Down ∷ [])))
          (rests_more decl a client tx ds more false rs (tt, (tt, tt)) (up_more decl a ds more ∙ down) fallen)

      module _ (kept : List Record) (back : AreGivenBack no_journal (ds ++ Rises kept ∷ [])) where
        given_back : IsGivenBack (journal_after ds) kept
        given_back = (back_second no_journal ds (Rises kept ∷ []) back).0

        shown : Every (IsShown tx (status ds tx)) (journal_after ds).records
        shown = (all_right tx Unborn no_journal ds tt (back_first no_journal ds (Rises kept ∷ []) back) rs.but).1

        rises : Goes tx (status ds tx) (journal_after ds) (Rises kept)
        rises = goes tx (status ds tx) (journal_after ds) (Rises kept) shown given_back fallen.pending

        risen : Risen tx (status_risen tx (status ds tx) kept) kept number
        risen = rises_back tx (status ds tx) (journal_after ds) number fallen kept given_back rises.0

        -- the record of its rise is written, or it isn't

        written_rests : IsResting ((ds ++ Rises kept ∷ []) ++ Writes records.Life ∷ [])
        written_rests =
            let more : List Deed = Rises kept ∷ Writes records.Life ∷ [] in
            subst IsResting (sym (append_assoc ds (Rises kept ∷ []) (Writes records.Life ∷ [])))
            (rests_more decl a client tx ds more true rs (fallen.pending, (tt, tt)) (up_more decl a ds more)
            (λ c is. subst (λ (x : Client). Up tx (status_risen tx (status ds tx) kept)
            (record { records = kept ++ records.Life ∷ []; pending = None }) number (page_of x))
            (same_client (client_rises number kept).client c
            (sym (ap (λ (m : ActorMove). m.actor) (actor_more decl a ds more
            ∙ ap (λ (m : ActorMove). actor_does decl a m (Writes records.Life))
            (sym (actor_more decl a ds (Rises kept ∷ [])) ∙ rises_to decl a client ds kept))) ∙ is))
            (risen_up tx (status_risen tx (status ds tx) kept) kept number risen
            (every-append (IsShown tx (status_risen tx (status ds tx) kept)) kept (records.Life ∷ []) rises.1
            (tt, tt)))))

        in_vain_rests : (cause : Fall) → IsResting ((ds ++ Rises kept ∷ []) ++ Falls cause (Some records.Life) ∷ [])
        in_vain_rests cause =
            let more : List Deed = Rises kept ∷ Falls cause (Some records.Life) ∷ [] in
            subst IsResting (sym (append_assoc ds (Rises kept ∷ []) (Falls cause (Some records.Life) ∷ [])))
            (rests_more decl a client tx ds more false rs (fallen.pending, (tt, tt)) (up_more decl a ds more)
            (falls_again tx (status_risen tx (status ds tx) kept) kept number risen))

        pub risen_rests : (end : Appended) (first : ℕ)
            → IsResting ((ds ++ Rises kept ∷ []) ++ deeds_as end first (rising []))
        risen_rests Done first = written_rests
        risen_rests Failed first = in_vain_rests causes.Disk
        risen_rests Stopped first = in_vain_rests causes.Stop
