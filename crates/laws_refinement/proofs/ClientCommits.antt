-- A commit begins: promises are asked for, or it ends at once (that it ends by its votes: ClientVotes).
use Rattle.std.proofs.Common.{◌≡◌, ◌≤◌, ℕ, suc, ◌==◌, Bool, true, false, cond, inl, List, [], ◌∷◌, map, length, Option}
use Rattle.std.proofs.Common.{Some, None, refl, sym, ap, ◌∙◌, subst, eqb-true, arith}
use Rattle.qc_list.specs.Vocabulary.{In}
use Rattle.qc_entry.specs.declared.record.Commit.{Commit as CommitRecord}
use Rattle.qc_decl.specs.declared.declaration.Declaration.{Declaration}
use Rattle.qc_decl.specs.Vocabulary.{client_actor, first_site, is_client}
use Rattle.qc_msg.specs.declared.reply.Reply.TheVariants as replies
use Rattle.qc_msg.specs.declared.reply.AbortCause.TheVariants as causes
use Rattle.qc_msg.specs.declared.step.Command.TheVariants as commands
use Rattle.qc_msg.specs.Vocabulary.{has_granted, quiet, sending}
use Rattle.theory_machine.specs.Vocabulary.{Act, Active, Granted, IsLive, IsRun, Prepare, State, Voting, state}
use Rattle.theory_machine.proofs.Keeps.{laws}
use Rattle.theory_machine.proofs.Names.{put_tx_here}
use Rattle.qc_commit.specs.declared.desk.Desk.{Desk}
use Rattle.qc_commit.specs.declared.desk.Voting.{Voting as DeskVoting}
use Rattle.qc_commit.specs.Vocabulary.{DeskMove, blank, decides, moved as desk_moved, participants, passed, prepare}
use Rattle.qc_commit.specs.Vocabulary.{prepares, record_of, with_voting}
use Rattle.qc_front.specs.declared.doing.Doing.{Doing}
use Rattle.qc_front.specs.declared.doing.Doing.TheVariants.{Idle}
use Rattle.qc_front.specs.declared.transaction.Transaction.{Transaction}
use Rattle.qc_front.specs.Conduct as fronts
use Rattle.qc_front.specs.Vocabulary.{gives_up, moved as front_moved}
use Rattle.qc_client.specs.Vocabulary.{ClientMove, by_desk, by_front, commits}
use Rattle.qc_client.specs.declared.client.Client.{Client}
use Rattle.laws_refinement.specs.Vocabulary.{BegunMirrors, IsChosen, IsPlanned, Mirrors, Net, OwnMirrors, Refines}
use Rattle.laws_refinement.specs.Vocabulary.{RunningMirrors, after_client, status_by}
use Rattle.qc_list.proofs.Members.{In-passes}
use Rattle.qc_plan.specs.Vocabulary.{cyclic}
use Rattle.laws_refinement.proofs.Ballots.{blank_in, blank_votes, participates}
use Rattle.laws_refinement.proofs.ClientGivesUp.{gives_up_case}
use Rattle.laws_refinement.proofs.ClientEnding.{Ending, ending_of, ends_mine, own_put, mid_prepare}
use Rattle.laws_refinement.proofs.ClientEnds.{commits_it, Pends, pends_it}
use Rattle.qc_front.proofs.Unwritten.{front_called}
use Rattle.qc_msg.specs.declared.record.Record.{Record}
use Rattle.laws_refinement.proofs.ClientRounds.{nothing}
use Rattle.laws_refinement.proofs.ClientSteps.{Mid, mid_first, refined, turns}
use Rattle.laws_refinement.proofs.PromisesAsked.{prepares_asking, prepares_backed}

module _ (decl : Declaration) where
  module _ (acts : List Act) (net : Net) (a : ℕ) (run : IsRun decl acts) (m : Mirrors decl (state acts) net)
      (client : is_client decl a ≡ true) (up : net.up a ≡ true) where
    -- the machine goes along with a turn, and its record may be pending
    abbrev Goes : ClientMove → Type 0
    Goes move =
        Refines decl (after_client net a move)
        × ((r : Record) → move.turn.write ≡ Some r → Pends decl (state acts) net a r × (move.turn.failed_sends ≡ []))

    -- a commit of a begun transaction that can commit
    prepare_case : (t : Transaction) → (net.clients a).front.transaction ≡ Some t → (net.clients a).front.doing ≡ Idle
        → (net.clients a).desk.voting ≡ None → t.begun.doomed ≡ false
        → Goes (by_desk (net.clients a) (prepare decl (net.clients a).desk t.begun (net.clients a).front.clock.value))
    prepare_case t is rests free sound = by (length (participants decl (net.clients a).desk.client t.begun) == 0) refl
      where
        c : Client
        c = net.clients a

        w : State
        w = state acts

        v : State
        v = state (Prepare t.begun.tx ∷ acts)

        desk : Desk
        desk = passed (net.clients a).desk (net.clients a).front.clock.value

        e : Ending decl (state acts) a (net.clients a) t × RunningMirrors decl (state acts) net.mail (net.clients a) t
        e = ending_of decl (state acts) net.mail a (net.clients a) t (m.clients a client up) is

        active : (state acts).status t.begun.tx ≡ Active
        active =
            (ending_of decl (state acts) net.mail a (net.clients a) t (m.clients a client up) is).1.status_is
            ∙ ap (λ (o : Option DeskVoting). status_by o) free

        none_chosen : (state acts).chosen t.begun.tx ≡ None
        none_chosen =
            (subst (λ (d : Doing). IsChosen decl (state acts) t d) rests
            (ending_of decl (state acts) net.mail a (net.clients a) t (m.clients a client up) is).1.chosen) sound

        mid : Mid decl (state acts) (Prepare t.begun.tx ∷ acts) (net.clients a).front.client
        mid =
            mid_prepare decl (state acts) acts (net.clients a).front.client
            (mid_first decl acts (net.clients a).front.client run) t.begun.tx
            (ends_mine decl (state acts) a (net.clients a) t
            (ending_of decl (state acts) net.mail a (net.clients a) t (m.clients a client up) is).0) active
            none_chosen

        -- the client's own as it is voted on, whatever the desk has
        own_then : (d : Desk) → d.client ≡ (net.clients a).desk.client → d.epoch ≡ (net.clients a).desk.epoch
            → d.commits ≡ (net.clients a).desk.commits
            → OwnMirrors decl (state (Prepare t.begun.tx ∷ acts)) a (record (net.clients a) { desk = d }) (Some t)
        own_then d client_is epoch same =
            own_put decl (state acts) (state (Prepare t.begun.tx ∷ acts)) a (net.clients a)
            (record (net.clients a) { desk = d }) t Voting (Some t)
            (ending_of decl (state acts) net.mail a (net.clients a) t (m.clients a client up) is).0 refl
            (record {
              client = refl;
              life = refl;
              count = refl;
              epoch = (ending_of decl (state acts) net.mail a (net.clients a) t (m.clients a client up) is).0.own.epoch;
              desk = client_is;
              desk_epoch =
                  subst (λ (x : ℕ). IsPlanned decl x) (sym epoch)
                  (ending_of decl (state acts) net.mail a (net.clients a) t
                  (m.clients a client up) is).0.own.desk_epoch;
            })
            (ending_of decl (state acts) net.mail a (net.clients a) t (m.clients a client up) is).0.own.clock
            (λ r h. inl (subst (λ (rs : List CommitRecord). In r rs) same h))
            (λ u its other none. absurd (let never : ⊥ = cc in never))
            (λ u none. subst (λ (rs : List CommitRecord). record_of rs u ≡ None) same none)

        placed : (g : Granted) → In g (state acts).counted → g.tx ≡ t.begun.tx
            → In g.site (participants decl (net.clients a).desk.client t.begun)
        placed g among its =
            participates decl (net.clients a).desk.client t.begun g.site
            (m.placed g ((laws decl acts run).known g among))
            ((ending_of decl (state acts) net.mail a (net.clients a) t
            (m.clients a client up) is).0.begun.lives.participants g among its)

        empty : (xs : List ℕ) → length xs ≡ 0 → (s : ℕ) → In s xs → ⊥
        empty [] n s among = among
        empty (x ∷ xs) n s among = let k : suc (length xs) ≡ 0 = n in absurd (omega arith)

        asked_client : Client
        asked_client =
            record (net.clients a) {
              desk = with_voting (passed (net.clients a).desk (net.clients a).front.clock.value)
                  (Some (record {
                    begun = t.begun;
                    calls = [];
                    ballots = blank (participants decl (net.clients a).desk.client t.begun);
                  }));
            }

        asks : DeskMove
        asks =
            desk_moved (with_voting (passed (net.clients a).desk (net.clients a).front.clock.value)
            (Some (record {
              begun = t.begun;
              calls = [];
              ballots = blank (participants decl (net.clients a).desk.client t.begun);
            }))) (sending (map (prepares t.begun) (participants decl (net.clients a).desk.client t.begun)))

        by : (none : Bool) → (length (participants decl (net.clients a).desk.client t.begun) == 0) ≡ none
            → Goes
            (by_desk (net.clients a)
            (cond none (decides (passed (net.clients a).desk (net.clients a).front.clock.value) t.begun) asks))
        by true n = (
          refined decl w net a _ m client up
              (commits_it decl w (Prepare t.begun.tx ∷ acts) net a (record c { desk = desk }) t refl mid refl
              (record {
                own = own_then desk refl refl refl;
                begun = record {
                  named = e.0.begun.named;
                  epoch = e.0.begun.epoch;
                  lives = e.0.begun.lives;
                  ops = e.0.begun.ops;
                  own = e.0.begun.own;
                  sorted = e.0.begun.sorted;
                  shown = e.0.begun.shown;
                  whole = e.0.begun.whole;
                };
                live = subst IsLive (sym (put_tx_here w.status t.begun.tx Voting)) tt;
              })
              (put_tx_here w.status t.begun.tx Voting)
              (let l : w.clock c.front.client ≤ c.front.clock.value = e.0.own.clock in omega arith)
              (λ g among its. absurd (empty (participants decl c.desk.client t.begun)
              (eqb-true (length (participants decl c.desk.client t.begun)) 0 n) g.site (placed g among its)))),
          pends_it decl w (Prepare t.begun.tx ∷ acts) net a (record c { desk = desk }) t refl refl mid refl
              (record {
                own = own_then desk refl refl refl;
                begun = record {
                  named = e.0.begun.named;
                  epoch = e.0.begun.epoch;
                  lives = e.0.begun.lives;
                  ops = e.0.begun.ops;
                  own = e.0.begun.own;
                  sorted = e.0.begun.sorted;
                  shown = e.0.begun.shown;
                  whole = e.0.begun.whole;
                };
                live = subst IsLive (sym (put_tx_here w.status t.begun.tx Voting)) tt;
              })
              (put_tx_here w.status t.begun.tx Voting)
              (let l : w.clock c.front.client ≤ c.front.clock.value = e.0.own.clock in omega arith)
              (λ g among its. absurd (empty (participants decl c.desk.client t.begun)
              (eqb-true (length (participants decl c.desk.client t.begun)) 0 n) g.site (placed g among its))),
        )
        by false n = (
          refined decl w net a (by_desk c asks) m client up
              (turns decl w net a (by_desk c asks) (Prepare t.begun.tx ∷ acts) mid refl
              (record {
                own =
                    subst (λ (x : Option Transaction). OwnMirrors decl v a asked_client x) (sym is)
                    (own_then asks.desk refl refl refl);
                begun = subst (λ (x : Option Transaction). BegunMirrors decl v net.mail asked_client x) (sym is) (
                  record {
                    named = e.0.begun.named;
                    epoch = e.0.begun.epoch;
                    lives = e.0.begun.lives;
                    ops = e.0.begun.ops;
                    own = e.0.begun.own;
                    sorted = e.0.begun.sorted;
                    shown = e.0.begun.shown;
                    whole = e.0.begun.whole;
                  },
                  record {
                    status_is = put_tx_here w.status t.begun.tx Voting;
                    chosen = e.1.chosen;
                    counted = e.1.counted;
                    calls = e.1.calls;
                    votes = record {
                      begun = refl;
                      idle = rests;
                      clock = (let l : w.clock c.front.client ≤ c.front.clock.value = e.0.own.clock in omega arith);
                      each =
                          λ g among its. blank_in g.site (participants decl c.desk.client t.begun) (placed g among its);
                      voted = λ b among for. absurd (blank_votes b (participants decl c.desk.client t.begun) among for);
                      calls = λ call never. absurd never;
                    };
                  },
                );
              })
              (prepares_backed decl v net.mail a t.begun (participants decl c.desk.client t.begun)
              (e.0.own.actor ∙ ap (λ (n : ℕ). client_actor decl n) (sym (ends_mine decl w a c t e.0)))
              (put_tx_here w.status t.begun.tx Voting) e.0.begun.epoch e.0.begun.lives
              (λ s among. In-passes (has_granted t.begun.lives) s
              (cyclic decl.sites (first_site decl (net.clients a).desk.client)) among))
              (prepares_asking decl asked_client t
              (record { begun = t.begun; calls = []; ballots = blank (participants decl c.desk.client t.begun) })
              (participants decl c.desk.client t.begun) is refl)),
          (λ r wrote. absurd (let never : ⊥ = cc in never)),
        )

    -- the command: of no transaction, of one that can't commit any more, of one that can
    pub commit_case : (net.clients a).front.doing ≡ Idle → (net.clients a).desk.voting ≡ None → (t : Option Transaction)
        → (net.clients a).front.transaction ≡ t → Refines decl (after_client net a (commits decl (net.clients a) t))
    commit_case rests free None is =
        subst (λ (x : Option Transaction). Refines decl
        (after_client net a (by_front (net.clients a) (fronts.commits (net.clients a).front x)))) (sym is)
        (nothing decl acts net a (by_front (net.clients a) (fronts.commits (net.clients a).front None)) run m client up
        refl refl refl)
    commit_case rests free (Some t) is = by t.begun.doomed refl
      where
        by : (dooms : Bool) → t.begun.doomed ≡ dooms
            → Refines decl
            (after_client net a
            (cond dooms (by_front (net.clients a) (fronts.called decl (net.clients a).front commands.Commit))
            (by_desk (net.clients a)
            (prepare decl (net.clients a).desk t.begun (net.clients a).front.clock.value))))
        by true e =
            subst (λ (x : Option Transaction). Refines decl
            (after_client net a (by_front (net.clients a) (fronts.commits (net.clients a).front x)))) (sym is)
            (subst (λ (k : Bool). Refines decl
            (after_client net a
            (by_front (net.clients a)
            (cond k (gives_up (net.clients a).front t (replies.Aborted causes.Doomed))
            (front_moved (net.clients a).front quiet))))) (sym e)
            (gives_up_case decl acts net a run m client up t (replies.Aborted causes.Doomed) is free))
        by false e = (prepare_case t is rests free e).0

    -- its record isn't written
    pub commit_fails : (net.clients a).front.doing ≡ Idle → (net.clients a).desk.voting ≡ None
        → (t : Option Transaction) → (net.clients a).front.transaction ≡ t → (r : Record)
        → (commits decl (net.clients a) t).turn.write ≡ Some r
        → Pends decl (state acts) net a r × ((commits decl (net.clients a) t).turn.failed_sends ≡ [])
    commit_fails rests free None is r wrote =
        absurd (let n : (fronts.called decl (net.clients a).front commands.Commit).turn.write ≡ None =
        (front_called decl (net.clients a).front commands.Commit).write in
        let both : None ≡ Some r = sym n ∙ wrote in let never : ⊥ = cc in never)
    commit_fails rests free (Some t) is r wrote = by t.begun.doomed refl wrote
      where
        by : (dooms : Bool) → t.begun.doomed ≡ dooms
            → (cond dooms (by_front (net.clients a) (fronts.called decl (net.clients a).front commands.Commit))
            (by_desk (net.clients a)
            (prepare decl (net.clients a).desk t.begun (net.clients a).front.clock.value))).turn.write ≡ Some r
            → Pends decl (state acts) net a r
            × ((cond dooms (by_front (net.clients a) (fronts.called decl (net.clients a).front commands.Commit))
            (by_desk (net.clients a)
            (prepare decl (net.clients a).desk t.begun (net.clients a).front.clock.value))).turn.failed_sends ≡ [])
        by true e w =
            absurd (let n : (fronts.called decl (net.clients a).front commands.Commit).turn.write ≡ None =
            (front_called decl (net.clients a).front commands.Commit).write in
            let both : None ≡ Some r = sym n ∙ w in let never : ⊥ = cc in never)
        by false e w = (prepare_case t is rests free e).1 r w
