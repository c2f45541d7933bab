-- Over a client's deeds, through falls and rises, the stamps of its commit records rise, and its clock has passed them.
use Rattle.std.proofs.Common.{[], ◌≡◌, ◌<◌, ℕ, ◌-◌, Bool, true, false, List, ◌∷◌, ◌++◌, fold, inl, inr, Option, Some}
use Rattle.std.proofs.Common.{None, refl, sym, ap, ◌∙◌, subst, append_assoc, arith}
use Rattle.std.specs.List.{AllByRecursion as Every}
use Rattle.std.proofs.lemmas.List.{append-nil}
use Rattle.std.proofs.lemmas.List.Sums.{fold-append}
use Rattle.qc_core.specs.declared.actor.Actor.{Actor}
use Rattle.qc_core.specs.declared.actor.Actor.TheVariants as actors
use Rattle.qc_core.specs.Vocabulary.{ActorMove, AreGivenBack, Lives, actor_after, actor_does, actor_takes, is_up}
use Rattle.qc_core.specs.Vocabulary.{journal_after, journal_at}
use Rattle.qc_core.proofs.Steady.{turn_steady}
use Rattle.qc_client.specs.declared.client.Client.{Client}
use Rattle.qc_client.specs.Vocabulary.{ClientMove, client_does, client_takes}
use Rattle.qc_decl.specs.Vocabulary.{is_client}
use Rattle.qc_decl.specs.declared.declaration.Declaration.{Declaration}
use Rattle.qc_entry.specs.declared.record.Commit.{Commit}
use Rattle.qc_list.proofs.Members.{every-append}
use Rattle.qc_msg.specs.declared.record.Record.{Record}
use Rattle.qc_msg.specs.declared.record.Record.TheVariants as records
use Rattle.qc_msg.specs.declared.reply.Reply.TheVariants as replies
use Rattle.qc_msg.specs.declared.step.Command.{Command}
use Rattle.qc_msg.specs.declared.step.Fall.{Fall}
use Rattle.qc_msg.specs.declared.step.Fall.TheVariants as causes
use Rattle.qc_msg.specs.declared.step.Input.{Input}
use Rattle.qc_msg.specs.declared.step.Input.TheVariants as inputs
use Rattle.qc_msg.specs.declared.turn.Appended.{Appended}
use Rattle.qc_msg.specs.declared.turn.Appended.TheVariants.{Done, Failed, Stopped}
use Rattle.qc_msg.specs.Vocabulary.{Deed, Falls, MayEnd, Rises, Takes, Tells, Writes, deeds_as, first_epoch, sends_of}
use Rattle.qc_msg.specs.Vocabulary.{tells_of, turn_deeds, writes_of}
use Rattle.qc_promise.specs.Vocabulary.{Journal, no_journal}
use Rattle.laws_turns.proofs.Bounding.{turn-posts}
use Rattle.qc_recover.specs.Vocabulary.{client_rises, rising}
use Rattle.qc_recover.specs.Clients.{nothing_kept}
use Rattle.laws_due.specs.Vocabulary.{IsDeclaredDeed, IsPlanned}
use Rattle.laws_due.proofs.Standing.{IsAtRest, IsTied, actor_more, up_more}
use Rattle.laws_due.proofs.Writing.{IsClientTurn, IsCommitTurn, takes_turn}
use Rattle.laws_reach.proofs.Clocks.{Stamps, clock_posts, takes_stamps}
use Rattle.laws_reach.proofs.Courses.{IsNow, Lasts, course, rises_to}
use Rattle.qc_core.proofs.KeptBack.{back_first, back_second}
use Rattle.laws_reach.proofs.VerdictsLifelong.{same_client}
use Rattle.laws_reach.proofs.VerdictsPosting.{turn_journal}
use Rattle.laws_reach.proofs.RisingStamps.{IsUpTo, Rise, all_passed, commits_more, commits_of, low_later}
use Rattle.laws_reach.proofs.StampsUp.{UpTo, WithPending, none_pending, one_above, back_rise, with_life}
use Rattle.qc_core.proofs.ActorLaws.{clients}
use Rattle.qc_core.proofs.LivesOfActors.{steady_from}

module _ (decl : Declaration) (a : ℕ) (client : is_client decl a ≡ true) where
  abbrev number : ℕ
  number = a - decl.sites

  abbrev HereWith : Bool → Journal → Actor → Type 0
  HereWith true j x = (c : Client) → x ≡ actors.Client c → UpTo j c.desk.clock.value
  HereWith false j x = WithPending j

  record Timed (ds : List Deed) : Type 0 where
    up : Bool
    is : is_up ds ≡ up
    here : HereWith up (journal_after ds) (actor_after decl a ds).actor
    whole : WithPending (journal_after ds)

  abbrev Keeps : List Deed → Type 0
  Keeps ds = AreGivenBack no_journal ds → Timed ds

  journal_more : (ds more : List Deed) → journal_after (ds ++ more) ≡ fold journal_at (journal_after ds) more
  journal_more ds more = fold-append journal_at no_journal ds more

  timed_more : (ds more : List Deed) (up : Bool) → is_up (ds ++ more) ≡ up
      → HereWith up (fold journal_at (journal_after ds) more) (actor_after decl a (ds ++ more)).actor
      → WithPending (fold journal_at (journal_after ds) more)
      → Timed (ds ++ more)
  timed_more ds more up is here whole = record {
    up = up;
    is = is;
    here = subst (λ (j : Journal). HereWith up j (actor_after decl a (ds ++ more)).actor) (sym (journal_more ds more))
        here;
    whole = subst WithPending (sym (journal_more ds more)) whole;
  }

  timed_down : (ds more : List Deed) → is_up (ds ++ more) ≡ false
      → WithPending (fold journal_at (journal_after ds) more) → Timed (ds ++ more)
  timed_down ds more is whole = timed_more ds more false is whole whole

  up_here : (b : Bool) (j : Journal) (x : Actor) (c : Client) → HereWith b j x → b ≡ true → x ≡ actors.Client c
      → UpTo j c.desk.clock.value
  up_here true j x c here same is = here c is
  up_here false j x c here same is = absurd (let never : ⊥ = cc in never)

  down_here : (b : Bool) (j : Journal) (x : Actor) → HereWith b j x → b ≡ false → WithPending j
  down_here true j x here same = absurd (let never : ⊥ = cc in never)
  down_here false j x here same = here

  new_timed : Timed []
  new_timed = record {
    up = true;
    is = refl;
    here = λ c is. record { passed = tt; rise = tt; none = refl };
    whole = tt;
  }

  module _ (ds : List Deed) (w : Timed ds) where
    -- while it is up

    module _ (r : IsAtRest decl a ds) (same : r.up ≡ true) (t : IsTied decl a ds) where
      now : UpTo (journal_after ds) t.state.desk.clock.value
      now =
          up_here w.up (journal_after ds) (actor_after decl a ds).actor t.state w.here (sym w.is ∙ r.is ∙ same) t.actor

      crashed_timed : Timed (ds ++ Falls causes.Script None ∷ [])
      crashed_timed =
          timed_down ds (Falls causes.Script None ∷ []) (up_more decl a ds (Falls causes.Script None ∷ []))
          (none_pending (journal_after ds) t.state.desk.clock.value now)

      module _ (g : Input) where
        abbrev move : ClientMove
        move = client_takes decl t.state g

        written : (o : Stamps t.state move)
            → UpTo (fold journal_at (journal_after ds) (writes_of move.turn.write)) move.client.desk.clock.value
        written (inl none) =
            subst (λ (o : Option Record). UpTo (fold journal_at (journal_after ds) (writes_of o))
            move.client.desk.clock.value) (sym none.write) (record {
              passed =
                  low_later t.state.desk.clock.value move.client.desk.clock.value none.on
                  (commits_of (journal_after ds).records) now.passed;
              rise = now.rise;
              none = now.none;
            })
        written (inr one) =
            subst (λ (o : Option Record). UpTo (fold journal_at (journal_after ds) (writes_of o))
            move.client.desk.clock.value) (sym one.write) (record {
              passed =
                  subst (λ (n : ℕ). Every (IsUpTo n)
                  (commits_of ((journal_after ds).records ++ records.Commit one.commit ∷ []))) (sym one.passed)
                  (subst (Every (IsUpTo one.commit.stamp.clock))
                  (sym (commits_more (journal_after ds).records (records.Commit one.commit ∷ [])))
                  (every-append (IsUpTo one.commit.stamp.clock) (commits_of (journal_after ds).records)
                  (one.commit ∷ [])
                  (low_later t.state.desk.clock.value one.commit.stamp.clock
                  (let l : t.state.desk.clock.value < one.commit.stamp.clock = one.above in omega arith)
                  (commits_of (journal_after ds).records) now.passed)
                  (omega arith, tt)));
              rise = one_above (journal_after ds) t.state.desk.clock.value now one.commit one.above;
              none = now.none;
            })

        is_after : (first : ℕ) (c : Client)
            → (actor_after decl a (ds ++ Takes g ∷ turn_deeds first move.turn)).actor ≡ actors.Client c
            → (fold (client_does decl) move (turn_deeds first move.turn)).client ≡ c
        is_after first c is =
            same_client (fold (client_does decl) move (turn_deeds first move.turn)).client c
            (sym (ap (λ (m : ActorMove). m.actor) (actor_more decl a ds (Takes g ∷ turn_deeds first move.turn)
            ∙ ap (λ (v : Actor). fold (actor_does decl a) (actor_takes decl v g) (turn_deeds first move.turn)) t.actor
            ∙ clients decl a move (turn_deeds first move.turn) (turn_steady first move.turn))) ∙ is)

        done_timed : (first : ℕ) → Timed ((ds ++ Takes g ∷ []) ++ turn_deeds first move.turn)
        done_timed first =
            subst Timed (sym (append_assoc ds (Takes g ∷ []) (turn_deeds first move.turn)))
            (timed_more ds (Takes g ∷ turn_deeds first move.turn) true
            (up_more decl a ds (Takes g ∷ turn_deeds first move.turn)
            ∙ steady_from (is_up ds) (turn_deeds first move.turn) (turn_steady first move.turn) ∙ r.is ∙ same)
            (λ c is. subst (λ (j : Journal). UpTo j c.desk.clock.value)
            (sym (turn_journal (journal_after ds) first move.turn))
            (subst (UpTo (fold journal_at (journal_after ds) (writes_of move.turn.write)))
            (sym (clock_posts decl move (turn_deeds first move.turn) (turn-posts first move.turn))
            ∙ ap (λ (x : Client). x.desk.clock.value) (is_after first c is))
            (written (takes_stamps decl t.state g))))
            (subst WithPending (sym (turn_journal (journal_after ds) first move.turn))
            (none_pending (fold journal_at (journal_after ds) (writes_of move.turn.write))
            move.client.desk.clock.value (written (takes_stamps decl t.state g)))))

        above : (w : IsCommitTurn move.turn) → Stamps t.state move → t.state.desk.clock.value < w.commit.stamp.clock
        above w (inl none) =
            absurd (let no : None ≡ Some (records.Commit w.commit) = sym none.write ∙ w.write in
            let never : ⊥ = cc in never)
        above w (inr one) =
            let both : Some (records.Commit one.commit) ≡ Some (records.Commit w.commit) = sym one.write ∙ w.write in
            let one_is : one.commit ≡ w.commit = cc in
            subst (λ (c : Commit). t.state.desk.clock.value < c.stamp.clock) one_is one.above

        unknown_timed : (cause : Fall) (w : IsCommitTurn move.turn)
            → Timed ((ds ++ Takes g ∷ []) ++ Tells replies.Unknown ∷ Falls cause (Some (records.Commit w.commit)) ∷ [])
        unknown_timed cause w =
            let more : List Deed =
            Takes g ∷ Tells replies.Unknown ∷ Falls cause (Some (records.Commit w.commit)) ∷ [] in
            subst Timed
            (sym (append_assoc ds (Takes g ∷ [])
            (Tells replies.Unknown ∷ Falls cause (Some (records.Commit w.commit)) ∷ [])))
            (timed_down ds more (up_more decl a ds more)
            (one_above (journal_after ds) t.state.desk.clock.value now w.commit
            (above w (takes_stamps decl t.state g))))

        turn_timed : (end : Appended) (first : ℕ) → MayEnd move.turn.write end
            → Timed ((ds ++ Takes g ∷ []) ++ deeds_as end first move.turn)
        turn_timed Done first ends = done_timed first
        turn_timed Failed first ends = by (takes_turn decl t.state g)
          where
            by : IsClientTurn move.turn → Timed ((ds ++ Takes g ∷ []) ++ deeds_as Failed first move.turn)
            by (inl none) = absurd (subst (λ (w : Option Record). MayEnd w Failed) none ends)
            by (inr w) =
                subst (λ (v : List Deed). Timed ((ds ++ Takes g ∷ []) ++ v))
                (λ i. sends_of first (sym w.failed_sends i)
                ++ (tells_of (sym w.failed_told i) ++ Falls causes.Disk (sym w.write i) ∷ []))
                (unknown_timed causes.Disk w)
        turn_timed Stopped first ends = by (takes_turn decl t.state g)
          where
            by : IsClientTurn move.turn → Timed ((ds ++ Takes g ∷ []) ++ deeds_as Stopped first move.turn)
            by (inl none) = absurd (subst (λ (w : Option Record). MayEnd w Stopped) none ends)
            by (inr w) =
                subst (λ (v : List Deed). Timed ((ds ++ Takes g ∷ []) ++ v))
                (λ i. tells_of (sym w.failed_told i) ++ Falls causes.Stop (sym w.write i) ∷ [])
                (unknown_timed causes.Stop w)

    -- while it is down

    module _ (down : is_up ds ≡ false) where
      fallen : WithPending (journal_after ds)
      fallen = down_here w.up (journal_after ds) (actor_after decl a ds).actor w.here (sym w.is ∙ down)

      unopened_timed : (cause : Fall) → Timed (ds ++ Falls cause None ∷ [])
      unopened_timed cause = timed_down ds (Falls cause None ∷ []) (up_more decl a ds (Falls cause None ∷ [])) fallen

      called_timed : (command : Command) → Timed ((ds ++ Takes (inputs.Called command) ∷ []) ++ Tells replies.Down ∷ [])
      called_timed command =
          let more : List Deed = Takes (inputs.Called command) ∷ Tells replies.Down ∷ [] in
          subst Timed (sym (append_assoc ds (Takes (inputs.Called command) ∷ []) (Tells replies.Down ∷ [])))
          (timed_down ds more (up_more decl a ds more ∙ down) fallen)

      module _ (kept : List Record) (back : AreGivenBack no_journal (ds ++ Rises kept ∷ [])) where
        rise_kept : Rise (commits_of kept)
        rise_kept = back_rise (journal_after ds) kept (back_second no_journal ds (Rises kept ∷ []) back).0 fallen

        rise_whole : Rise (commits_of (kept ++ records.Life ∷ []))
        rise_whole = subst Rise (sym (with_life kept)) rise_kept

        written_timed : Timed ((ds ++ Rises kept ∷ []) ++ Writes records.Life ∷ [])
        written_timed =
            let more : List Deed = Rises kept ∷ Writes records.Life ∷ [] in
            subst Timed (sym (append_assoc ds (Rises kept ∷ []) (Writes records.Life ∷ [])))
            (timed_more ds more true (up_more decl a ds more)
            (λ c is. subst (λ (x : Client). UpTo (record { records = kept ++ records.Life ∷ []; pending = None })
            x.desk.clock.value)
            (same_client (client_rises number kept).client c
            (sym (ap (λ (m : ActorMove). m.actor)
            (actor_more decl a ds more
            ∙ ap (λ (m : ActorMove). actor_does decl a m (Writes records.Life))
            (sym (actor_more decl a ds (Rises kept ∷ [])) ∙ rises_to decl a client ds kept))) ∙ is))
            (record { passed = all_passed nothing_kept (kept ++ records.Life ∷ []); rise = rise_whole; none = refl }))
            (subst (λ (rs : List Record). Rise (commits_of rs)) (sym (append-nil (kept ++ records.Life ∷ [])))
            rise_whole))

        in_vain_timed : (cause : Fall) → Timed ((ds ++ Rises kept ∷ []) ++ Falls cause (Some records.Life) ∷ [])
        in_vain_timed cause =
            let more : List Deed = Rises kept ∷ Falls cause (Some records.Life) ∷ [] in
            subst Timed (sym (append_assoc ds (Rises kept ∷ []) (Falls cause (Some records.Life) ∷ [])))
            (timed_down ds more (up_more decl a ds more) rise_whole)

        risen_timed : (end : Appended) (first : ℕ) → Timed ((ds ++ Rises kept ∷ []) ++ deeds_as end first (rising []))
        risen_timed Done first = written_timed
        risen_timed Failed first = in_vain_timed causes.Disk
        risen_timed Stopped first = in_vain_timed causes.Stop

  -- over all its deeds

  lasting : Lasts decl a Keeps
  lasting = record {
    new = λ back. new_timed;
    turn = λ ds r same t g end first ends rest back.
        turn_timed ds
        (rest (back_first no_journal ds (Takes g ∷ [])
        (back_first no_journal (ds ++ Takes g ∷ []) (deeds_as end first (client_takes decl t.state g).turn) back)))
        r same t g end first ends;
    called = λ ds down command rest back.
        called_timed ds
        (rest (back_first no_journal ds (Takes (inputs.Called command) ∷ [])
        (back_first no_journal (ds ++ Takes (inputs.Called command) ∷ []) (Tells replies.Down ∷ []) back))) down
        command;
    crashed =
        λ ds r same t rest back. crashed_timed ds (rest (back_first no_journal ds (Falls causes.Script None ∷ []) back))
        r same t;
    risen = λ ds down kept end first rest back. (
        let risen_back : AreGivenBack no_journal (ds ++ Rises kept ∷ []) =
        back_first no_journal (ds ++ Rises kept ∷ []) (deeds_as end first (rising [])) back in
        risen_timed ds (rest (back_first no_journal ds (Rises kept ∷ []) risen_back)) down kept risen_back end first);
    unopened =
        λ ds down cause rest back. unopened_timed ds (rest (back_first no_journal ds (Falls cause None ∷ []) back)) down
        cause;
  }

  pub course_rises : IsPlanned decl first_epoch → (ds : List Deed) (b : Bool) (n : ℕ) → Lives decl a ds b n
      → Every (IsDeclaredDeed decl) ds → AreGivenBack no_journal ds → WithPending (journal_after ds)
  course_rises planned ds b n life all back = by b (course decl a client planned Keeps lasting ds b n life all)
    where
      by : (x : Bool) → IsNow decl a client planned Keeps lasting ds x → WithPending (journal_after ds)
      by true at =
          let t : Timed at.before =
          at.rest (back_first no_journal at.before (Takes at.given ∷ [])
          (subst (AreGivenBack no_journal) at.is back)) in
          subst (λ (v : List Deed). WithPending (journal_after v)) (sym at.is)
          (subst WithPending (sym (journal_more at.before (Takes at.given ∷ []))) t.whole)
      by false rest = (rest back).whole
