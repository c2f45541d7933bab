-- What each event of a client leaves: an input with its turn, a fall, a rise. It stands in what it has seen as before.
use Rattle.std.proofs.Common.{◌≡◌, ℕ, ◌-◌, Bool, true, false, List, [], ◌∷◌, ◌++◌, inl, inr, fold, Option, Some, None}
use Rattle.std.proofs.Common.{sym, ap, ◌∙◌, subst, append_assoc}
use Rattle.std.specs.Prelude.{is_some}
use Rattle.std.proofs.lemmas.List.Sums.{fold-append}
use Rattle.qc_stamp.specs.declared.stamp.TxId.{TxId}
use Rattle.qc_list.specs.Vocabulary.{In}
use Rattle.qc_core.specs.declared.actor.Actor.{Actor}
use Rattle.qc_core.specs.Vocabulary.{ActorMove, IsLawfulWithFalls, MayReach, MayTake, actor_after, actor_takes}
use Rattle.qc_core.specs.Vocabulary.{by_client, is_up, journal_after, journal_at}
use Rattle.qc_core.proofs.ByNumber.{client_risen}
use Rattle.qc_core.proofs.Steady.{turn_steady}
use Rattle.qc_client.specs.Vocabulary.{ClientMove, client_takes}
use Rattle.qc_decl.specs.declared.declaration.Declaration.{Declaration}
use Rattle.qc_decl.specs.Vocabulary.{is_client}
use Rattle.qc_entry.specs.declared.record.Commit.{Commit}
use Rattle.qc_msg.specs.declared.record.Record.{Record}
use Rattle.qc_msg.specs.declared.record.Record.TheVariants as records
use Rattle.qc_msg.specs.declared.reply.Reply.{Reply}
use Rattle.qc_msg.specs.declared.reply.Reply.TheVariants as replies
use Rattle.qc_msg.specs.declared.step.Command.{Command}
use Rattle.qc_msg.specs.declared.step.Fall.{Fall}
use Rattle.qc_msg.specs.declared.step.Fall.TheVariants as causes
use Rattle.qc_msg.specs.declared.step.Input.{Input}
use Rattle.qc_msg.specs.declared.step.Input.TheVariants as inputs
use Rattle.qc_msg.specs.declared.turn.Appended.{Appended}
use Rattle.qc_msg.specs.declared.turn.Appended.TheVariants.{Done, Failed, Stopped}
use Rattle.qc_msg.specs.declared.turn.Turn.{Turn}
use Rattle.qc_msg.specs.Vocabulary.{Deed, Falls, MayEnd, Rises, Takes, Tells, Writes, deeds_as, sends_of, telling}
use Rattle.qc_msg.specs.Vocabulary.{tells_of, turn_deeds, writes_of}
use Rattle.qc_promise.specs.Vocabulary.{Account, IsGivenBack, IsRecordDue, Journal, Sight, account_at, account_taken}
use Rattle.qc_promise.specs.Vocabulary.{new_account, no_journal, no_sight, running_row, sight, sight_taken}
use Rattle.qc_recover.specs.Vocabulary.{client_rises, rising}
use Rattle.laws_due.specs.Vocabulary.{AreByRows, Goes}
use Rattle.laws_due.proofs.Commands.{free_for}
use Rattle.laws_due.proofs.Fallings.{as_record}
use Rattle.laws_due.proofs.Standing.{IsFallen, IsTied, account_is, actor_more, turn_is, up_more}
use Rattle.laws_due.proofs.Step.{inputs_are_answered_as_is_due}
use Rattle.laws_due.proofs.Writing.{IsClientTurn, IsCommitTurn, takes_turn}
use Rattle.laws_atomic.proofs.Alone.{replies_alone}
use Rattle.laws_atomic.proofs.Founded.{AreFounded}
use Rattle.laws_atomic.proofs.Taking as taking
use Rattle.laws_atomic.proofs.Taking.{IsFree}
use Rattle.laws_reach.proofs.SightFalling.{calls_down, falls, falls_rising, lives, rises, tells_down}
use Rattle.laws_reach.proofs.Making.{made_at}
use Rattle.laws_reach.proofs.SightPosting.{AfterAll, fails, posts}
use Rattle.laws_reach.proofs.Standing.{Stands, account_more, done, taken_keeps}
use Rattle.qc_core.proofs.LivesOfActors.{steady_from}

module _ (decl : Declaration) (a : ℕ) (client : is_client decl a ≡ true) (commits : List Commit) (tx : TxId) where
  abbrev pub StandsAt : Bool → List Deed → Type 0
  StandsAt up ds = Stands decl commits tx (a - decl.sites) up (account_is decl a ds) (fold (sight tx) no_sight ds)
      (fold made_at [] ds) (journal_after ds)

  abbrev pub AfterAt : Bool → List Deed → List Deed → Type 0
  AfterAt up ds more = AfterAll decl commits tx (a - decl.sites) up (account_is decl a ds) (fold (sight tx) no_sight ds)
      (fold made_at [] ds) (journal_after ds) more

  pub record AtRest (ds : List Deed) : Type 0 where
    pub up : Bool
    pub is : is_up ds ≡ up
    pub stands : StandsAt up ds

  pub after : (up : Bool) (ds more : List Deed) → AfterAt up ds more → StandsAt up (ds ++ more)
  after up ds more w =
      subst (λ (d : Account). Stands decl commits tx (a - decl.sites) up d (fold (sight tx) no_sight (ds ++ more))
      (fold made_at [] (ds ++ more)) (journal_after (ds ++ more)))
      (sym (fold-append (account_at decl) (new_account (a - decl.sites)) ds more))
      (subst (λ (s : Sight). Stands decl commits tx (a - decl.sites) up
      (fold (account_at decl) (account_is decl a ds) more) s (fold made_at [] (ds ++ more))
      (journal_after (ds ++ more))) (sym (fold-append (sight tx) no_sight ds more))
      (subst (λ (cs : List Commit). Stands decl commits tx (a - decl.sites) up
      (fold (account_at decl) (account_is decl a ds) more) (fold (sight tx) (fold (sight tx) no_sight ds) more) cs
      (journal_after (ds ++ more))) (sym (fold-append made_at [] ds more))
      (subst (λ (j : Journal). Stands decl commits tx (a - decl.sites) up
      (fold (account_at decl) (account_is decl a ds) more) (fold (sight tx) (fold (sight tx) no_sight ds) more)
      (fold made_at (fold made_at [] ds) more) j) (sym (fold-append journal_at no_journal ds more)) w)))

  -- an event, its deeds being one and more
  event : (up : Bool) (ds : List Deed) (x : Deed) (more : List Deed) → AfterAt up ds (x ∷ more)
      → is_up (ds ++ x ∷ more) ≡ up → AtRest ((ds ++ x ∷ []) ++ more)
  event up ds x more w is = subst AtRest (sym (append_assoc ds (x ∷ []) more))
      (record { up = up; is = is; stands = after up ds (x ∷ more) w })

  -- an input of a client that is up, and its turn
  module _ (ds : List Deed) (t : IsTied decl a ds) (up : is_up ds ≡ true) (w : StandsAt true ds) (g : Input)
      (may : MayTake ds g) (f : AreFounded commits (ds ++ Takes g ∷ [])) where
    abbrev account : Account
    account = account_taken (account_is decl a ds) g

    abbrev seen : Sight
    seen = sight_taken tx (fold (sight tx) no_sight ds) g

    abbrev move : ClientMove
    move = client_takes decl t.state g

    pub take_stands : Stands decl commits tx (a - decl.sites) true account seen (fold made_at [] ds) (journal_after ds)
    take_stands = record {
      sees = taking.take decl (a - decl.sites) commits tx ds t.state (fold (sight tx) no_sight ds)
          (fold made_at [] ds) done t.ties w.sees g (free_for decl (a - decl.sites) ds g may) f;
      keeps = taken_keeps decl tx (a - decl.sites) (account_is decl a ds) (fold (sight tx) no_sight ds)
          (fold made_at [] ds) (journal_after ds) w.keeps g
          (account_more decl (a - decl.sites) (account_is decl a ds) w.keeps.account (Takes g));
    }

    goes : (first : ℕ) → Goes decl first account move
    goes first = inputs_are_answered_as_is_due decl first (account_is decl a ds) t.state t.holds g
        (free_for decl (a - decl.sites) ds g may) t.ties

    free : is_some move.turn.told ≡ true → IsFree seen
    free = by move.turn.told (goes 0).tells
      where
        by : (o : Option Reply) → o ≡ running_row decl account false → is_some o ≡ true → IsFree seen
        by None is some = absurd (let never : ⊥ = cc in never)
        by (Some reply) is some = taking.replied_free decl (a - decl.sites) commits tx ds t.state
            (fold (sight tx) no_sight ds) (fold made_at [] ds) done t.ties w.sees g reply (sym is) seen take_stands.sees

    written_stands : (first : ℕ) → ((c : Commit) → In (Writes (records.Commit c)) (turn_deeds first move.turn)
        → In c commits) → AtRest ((ds ++ Takes g ∷ []) ++ turn_deeds first move.turn)
    written_stands first there =
        event true ds (Takes g) (turn_deeds first move.turn)
        (posts decl commits tx (a - decl.sites) first move.turn account seen (fold made_at [] ds)
        (journal_after ds) take_stands (goes first).due (takes_turn decl t.state g) there free
        (replies_alone decl t.state g))
        (up_more decl a ds (Takes g ∷ turn_deeds first move.turn)
        ∙ steady_from (is_up ds) (turn_deeds first move.turn) (turn_steady first move.turn) ∙ up)

    record_due : (c : IsCommitTurn move.turn)
        → IsRecordDue account (running_row decl account false) (records.Commit c.commit)
    record_due c = (subst (λ (o : Option Record). AreByRows decl account
        (writes_of o ++ (sends_of 0 move.turn.sends ++ tells_of move.turn.told))) c.write (goes 0).due).0

    unwritten_stands : (cause : Fall) (c : IsCommitTurn move.turn)
        → AtRest ((ds ++ Takes g ∷ []) ++ Tells replies.Unknown ∷ Falls cause (Some (records.Commit c.commit)) ∷ [])
    unwritten_stands cause c =
        event false ds (Takes g) (Tells replies.Unknown ∷ Falls cause (Some (records.Commit c.commit)) ∷ [])
        (fails decl commits tx (a - decl.sites) account seen (fold made_at [] ds)
        (journal_after ds) take_stands c.commit (record_due c) cause)
        (up_more decl a ds (Takes g ∷ Tells replies.Unknown ∷ Falls cause (Some (records.Commit c.commit)) ∷ []))

    turn_as : (end : Appended) (first : ℕ) → MayEnd move.turn.write end
        → ((c : Commit) → In (Writes (records.Commit c)) (deeds_as end first move.turn) → In c commits)
        → AtRest ((ds ++ Takes g ∷ []) ++ deeds_as end first move.turn)
    turn_as Done first ends there = written_stands first there
    turn_as Failed first ends there = by (takes_turn decl t.state g)
      where
        by : IsClientTurn move.turn → AtRest ((ds ++ Takes g ∷ []) ++ deeds_as Failed first move.turn)
        by (inl none) = absurd (subst (λ (o : Option Record). MayEnd o Failed) none ends)
        by (inr c) =
            subst (λ (v : List Deed). AtRest ((ds ++ Takes g ∷ []) ++ v))
            (λ i. sends_of first (sym c.failed_sends i) ++
            (tells_of (sym c.failed_told i) ++ Falls causes.Disk (sym c.write i) ∷ []))
            (unwritten_stands causes.Disk c)
    turn_as Stopped first ends there = by (takes_turn decl t.state g)
      where
        by : IsClientTurn move.turn → AtRest ((ds ++ Takes g ∷ []) ++ deeds_as Stopped first move.turn)
        by (inl none) = absurd (subst (λ (o : Option Record). MayEnd o Stopped) none ends)
        by (inr c) =
            subst (λ (v : List Deed). AtRest ((ds ++ Takes g ∷ []) ++ v))
            (λ i. tells_of (sym c.failed_told i) ++ Falls causes.Stop (sym c.write i) ∷ [])
            (unwritten_stands causes.Stop c)

    takes_to : actor_after decl a (ds ++ Takes g ∷ []) ≡ by_client move
    takes_to = actor_more decl a ds (Takes g ∷ []) ∙ ap (λ (v : Actor). actor_takes decl v g) t.actor

    pub turn_stands : (turn : Turn) (first : ℕ) → IsLawfulWithFalls decl a (ds ++ Takes g ∷ []) turn
        → ((c : Commit) → In (Writes (records.Commit c)) (deeds_as turn.append first turn) → In c commits)
        → AtRest ((ds ++ Takes g ∷ []) ++ deeds_as turn.append first turn)
    turn_stands turn first law there =
        subst (λ (v : List Deed). AtRest ((ds ++ Takes g ∷ []) ++ v)) (as_record turn.append first turn)
        (subst (λ (x : Turn). MayEnd x.write turn.append
        → ((c : Commit) → In (Writes (records.Commit c)) (deeds_as turn.append first x) → In c commits)
        → AtRest ((ds ++ Takes g ∷ []) ++ deeds_as turn.append first x))
        (sym (ap (λ (m : ActorMove). m.turn) takes_to) ∙ turn_is decl a client (ds ++ Takes g ∷ []) turn law)
        (turn_as turn.append first) law.may_end
        (subst (λ (v : List Deed). (c : Commit) → In (Writes (records.Commit c)) v → In c commits)
        (sym (as_record turn.append first turn)) there))

  -- a command of a client that is down, and the turn that tells it so

  module _ (ds : List Deed) (t : IsFallen decl a ds) (down : is_up ds ≡ false) (w : StandsAt false ds) where
    pub call_stands : (g : Input) → MayReach false g → AfterAt false ds (Takes g ∷ [])
    call_stands (inputs.Called command) reach =
        calls_down decl commits tx (a - decl.sites) (account_is decl a ds) (fold (sight tx) no_sight ds)
        (fold made_at [] ds) (journal_after ds) w command
    call_stands (inputs.Got envelope) reach = absurd (let never : ⊥ = cc in never)
    call_stands (inputs.Lost number) reach = absurd (let never : ⊥ = cc in never)

    down_turn_as : (command : Command) (end : Appended) (first : ℕ) → MayEnd None end
        → AtRest ((ds ++ Takes (inputs.Called command) ∷ []) ++ deeds_as end first (telling replies.Down))
    down_turn_as command Done first ends =
        event false ds (Takes (inputs.Called command)) (Tells replies.Down ∷ [])
        (tells_down decl commits tx (a - decl.sites) (account_taken (account_is decl a ds) (inputs.Called command))
        (fold (sight tx) no_sight ds) (fold made_at [] ds) (journal_after ds)
        (call_stands (inputs.Called command) tt))
        (up_more decl a ds (Takes (inputs.Called command) ∷ Tells replies.Down ∷ []) ∙ down)
    down_turn_as command Failed first ends = absurd ends
    down_turn_as command Stopped first ends = absurd ends

    down_takes : (command : Command) → (actor_after decl a (ds ++ Takes (inputs.Called command) ∷ [])).turn
        ≡ telling replies.Down
    down_takes command = ap (λ (m : ActorMove). m.turn)
        (actor_more decl a ds (Takes (inputs.Called command) ∷ [])
        ∙ ap (λ (v : Actor). actor_takes decl v (inputs.Called command)) t.actor)

    pub down_turn_stands : (g : Input) → MayReach false g → (turn : Turn) (first : ℕ)
        → IsLawfulWithFalls decl a (ds ++ Takes g ∷ []) turn
        → AtRest ((ds ++ Takes g ∷ []) ++ deeds_as turn.append first turn)
    down_turn_stands (inputs.Called command) reach turn first law =
        subst (λ (v : List Deed). AtRest ((ds ++ Takes (inputs.Called command) ∷ []) ++ v))
        (as_record turn.append first turn)
        (subst (λ (x : Turn). MayEnd x.write turn.append
        → AtRest ((ds ++ Takes (inputs.Called command) ∷ []) ++ deeds_as turn.append first x))
        (sym (down_takes command) ∙ turn_is decl a client (ds ++ Takes (inputs.Called command) ∷ []) turn law)
        (down_turn_as command turn.append first) law.may_end)
    down_turn_stands (inputs.Got envelope) reach turn first law = absurd (let never : ⊥ = cc in never)
    down_turn_stands (inputs.Lost number) reach turn first law = absurd (let never : ⊥ = cc in never)

  -- a fall by a line of the script, or one more of who is down
  pub fall_stands : (up : Bool) (ds : List Deed) → StandsAt up ds → (cause : Fall)
      → AtRest (ds ++ Falls cause None ∷ [])
  fall_stands up ds w cause = record {
    up = false;
    is = up_more decl a ds (Falls cause None ∷ []);
    stands = after false ds (Falls cause None ∷ [])
        (falls decl commits tx (a - decl.sites) (account_is decl a ds) (fold (sight tx) no_sight ds)
        (fold made_at [] ds) (journal_after ds) up w cause);
  }

  -- a rise, and the turn that writes its record

  module _ (ds : List Deed) (w : StandsAt false ds) (kept : List Record) (back : IsGivenBack (journal_after ds) kept)
      (there : (c : Commit) → In (records.Commit c) kept → In c commits) where
    rise_after : AfterAt false ds (Rises kept ∷ [])
    rise_after = rises decl commits tx (a - decl.sites) (account_is decl a ds) (fold (sight tx) no_sight ds)
        (fold made_at [] ds) (journal_after ds) w kept back there

    in_vain : (cause : Fall) → AtRest ((ds ++ Rises kept ∷ []) ++ Falls cause (Some records.Life) ∷ [])
    in_vain cause =
        event false ds (Rises kept) (Falls cause (Some records.Life) ∷ [])
        (falls_rising decl commits tx (a - decl.sites) (account_at decl (account_is decl a ds) (Rises kept))
        (sight tx (fold (sight tx) no_sight ds) (Rises kept)) (fold made_at [] ds)
        (journal_at (journal_after ds) (Rises kept)) rise_after cause)
        (up_more decl a ds (Rises kept ∷ Falls cause (Some records.Life) ∷ []))

    rise_as : (end : Appended) (first : ℕ) → AtRest ((ds ++ Rises kept ∷ []) ++ deeds_as end first (rising []))
    rise_as Done first =
        event true ds (Rises kept) (Writes records.Life ∷ [])
        (lives decl commits tx (a - decl.sites) (account_at decl (account_is decl a ds) (Rises kept))
        (sight tx (fold (sight tx) no_sight ds) (Rises kept)) (fold made_at [] ds)
        (journal_at (journal_after ds) (Rises kept)) rise_after)
        (up_more decl a ds (Rises kept ∷ Writes records.Life ∷ []))
    rise_as Failed first = in_vain causes.Disk
    rise_as Stopped first = in_vain causes.Stop

    rises_to : actor_after decl a (ds ++ Rises kept ∷ []) ≡ by_client (client_rises (a - decl.sites) kept)
    rises_to = actor_more decl a ds (Rises kept ∷ []) ∙ client_risen decl a client kept

    pub rise_stands : (turn : Turn) (first : ℕ) → IsLawfulWithFalls decl a (ds ++ Rises kept ∷ []) turn
        → AtRest ((ds ++ Rises kept ∷ []) ++ deeds_as turn.append first turn)
    rise_stands turn first law =
        subst (λ (v : List Deed). AtRest ((ds ++ Rises kept ∷ []) ++ v)) (as_record turn.append first turn)
        (subst (λ (x : Turn). AtRest ((ds ++ Rises kept ∷ []) ++ deeds_as turn.append first x))
        (sym (ap (λ (m : ActorMove). m.turn) rises_to) ∙ turn_is decl a client (ds ++ Rises kept ∷ []) turn law)
        (rise_as turn.append first))
