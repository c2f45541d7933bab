-- Votes come for a commit: the transaction commits, or aborts, or more votes are waited for.
use Rattle.std.proofs.Common.{[], ◌≡◌, ◌≤◌, ℕ, max, Bool, true, false, cond, inl, inr, List, Option, Some, None, refl}
use Rattle.std.proofs.Common.{sym, ap, ◌∙◌, subst, arith}
use Rattle.qc_list.specs.Vocabulary.{In}
use Rattle.qc_entry.specs.declared.record.Commit.{Commit as CommitRecord}
use Rattle.qc_decl.specs.declared.declaration.Declaration.{Declaration}
use Rattle.qc_decl.specs.Vocabulary.{is_client}
use Rattle.qc_msg.specs.declared.begun.Begun.{Begun}
use Rattle.qc_msg.specs.declared.message.Answer.{Answer}
use Rattle.qc_msg.specs.declared.message.Want.TheVariants as wants
use Rattle.qc_msg.specs.declared.reply.AbortCause.{AbortCause}
use Rattle.qc_msg.specs.Vocabulary.{quiet, site_called, without_call}
use Rattle.theory_machine.specs.Vocabulary.{Act, Granted, IsRun, Voting, YesVote, state}
use Rattle.qc_commit.specs.declared.ballot.Ballot.{Ballot}
use Rattle.qc_commit.specs.declared.ballot.Vote.TheVariants.{For}
use Rattle.qc_commit.specs.declared.desk.Desk.{Desk}
use Rattle.qc_commit.specs.declared.desk.Voting.{Voting as DeskVoting}
use Rattle.qc_commit.specs.Vocabulary.{DeskMove, are_cast, cast, counted_out, counts, first_against}
use Rattle.qc_commit.specs.Vocabulary.{gives_up as desk_gives_up, learns, moved as desk_moved, record_of, vote_of}
use Rattle.qc_commit.specs.Vocabulary.{votes_at, with_voting}
use Rattle.qc_front.specs.declared.transaction.Transaction.{Transaction}
use Rattle.qc_client.specs.Vocabulary.{ClientMove, by_desk}
use Rattle.qc_client.specs.declared.client.Client.{Client}
use Rattle.qc_msg.specs.declared.record.Record.{Record}
use Rattle.laws_refinement.specs.Vocabulary.{AreVotes, BegunMirrors, IsPlanned, IsRequest, Mirrors, Net, OwnMirrors}
use Rattle.laws_refinement.specs.Vocabulary.{Refines, RunningMirrors, TransactionMirrors, VotesMirror, after_client}
use Rattle.laws_refinement.specs.Vocabulary.{status_by}
use Rattle.laws_refinement.proofs.Planned.{planned_max}
use Rattle.laws_refinement.proofs.Ballots.{all_for, cast_each, cast_votes}
use Rattle.laws_refinement.proofs.OpenRequests.{AnswerBacked, IsCalled, called_in, still_called}
use Rattle.laws_refinement.proofs.ClientEnding.{Ending, ending_of}
use Rattle.laws_refinement.proofs.ClientEnds.{aborts_it, commits_it, Pends, pends_it}
use Rattle.laws_refinement.proofs.ClientRounds.{no_asks, no_sends, nothing}
use Rattle.laws_refinement.proofs.ClientSteps.{Mid, mid_first, refined, turns}
use Rattle.laws_refinement.proofs.VotesLeft.{Left, left_of, voted}

module _ (decl : Declaration) where
  module _ (acts : List Act) (net : Net) (a : ℕ) (run : IsRun decl acts) (m : Mirrors decl (state acts) net)
      (client : is_client decl a ≡ true) (up : net.up a ≡ true) where
    -- the machine goes along with a turn, and its record may be pending
    abbrev Goes : ClientMove → Type 0
    Goes move =
        Refines decl (after_client net a move)
        × ((r : Record) → move.turn.write ≡ Some r → Pends decl (state acts) net a r × (move.turn.failed_sends ≡ []))

    -- a vote, or that a Prepare is lost

    counts_case : (from number site : ℕ) (t : Transaction) (v : DeskVoting) (answer : Option Answer)
        → (net.clients a).front.transaction ≡ Some t → (net.clients a).desk.voting ≡ Some v
        → AnswerBacked decl (state acts) net.mail from number answer → site_called v.calls number ≡ Some site
        → (b : Begun) → b ≡ t.begun
        → Goes
        (by_desk (net.clients a)
        (counts (learns (net.clients a).desk answer) b (without_call v.calls number)
        (cast v.ballots site (vote_of b site answer))))
    counts_case from number site t v answer is votes backed called b begun_is =
        subst (λ (x : Begun). Goes (by_desk (net.clients a)
        (counts (learns (net.clients a).desk answer) x (without_call v.calls number)
        (cast v.ballots site (vote_of x site answer))))) (sym begun_is)
        (by (are_cast (cast v.ballots site (vote_of t.begun site answer)))
        (first_against (cast v.ballots site (vote_of t.begun site answer))) refl refl)
      where
        next : Desk
        next = learns (net.clients a).desk answer

        after : List Ballot
        after = cast v.ballots site (vote_of t.begun site answer)

        left : Left decl (net.clients a).desk (learns (net.clients a).desk answer)
        left = left_of decl (state acts) net.mail from number (net.clients a).desk answer backed

        e : Ending decl (state acts) a (net.clients a) t × RunningMirrors decl (state acts) net.mail (net.clients a) t
        e = ending_of decl (state acts) net.mail a (net.clients a) t (m.clients a client up) is

        vm : VotesMirror (state acts) net.mail (net.clients a) t v
        vm =
            subst (λ (o : Option DeskVoting). AreVotes (state acts) net.mail (net.clients a) t o) votes
            (ending_of decl (state acts) net.mail a (net.clients a) t (m.clients a client up) is).1.votes

        voting : (state acts).status t.begun.tx ≡ Voting
        voting =
            (ending_of decl (state acts) net.mail a (net.clients a) t (m.clients a client up) is).1.status_is
            ∙ ap (λ (o : Option DeskVoting). status_by o) votes

        mid : Mid decl (state acts) acts (net.clients a).front.client
        mid = mid_first decl acts (net.clients a).front.client run

        request : IsRequest net.mail number site t.begun.tx wants.Prepare
        request = (let found : IsCalled v.calls number site = called_in v.calls number site called in
            subst (λ (s : ℕ). IsRequest net.mail number s t.begun.tx wants.Prepare) found.at
            (subst (λ (n : ℕ). IsRequest net.mail n found.call.site t.begun.tx wants.Prepare) found.numbered
            (vm.calls found.call found.among)))

        each : (g : Granted) → In g (state acts).counted → g.tx ≡ t.begun.tx
            → (d : Ballot) × In {X = Ballot} d (cast v.ballots site (vote_of t.begun site answer)) × (d.site ≡ g.site)
        each g among its =
            let old : (d : Ballot) × In {X = Ballot} d v.ballots × (d.site ≡ g.site) = vm.each g among its in
            let new : (d : Ballot) × In {X = Ballot} d (cast v.ballots site (vote_of t.begun site answer))
            × (d.site ≡ old.0.site) =
            cast_each v.ballots site (vote_of t.begun site answer) old.0 old.1 in
            (new.0, new.1, new.2 ∙ old.2)

        for_all : (d : Ballot) → In d (cast v.ballots site (vote_of t.begun site answer)) → d.vote ≡ Some For
            → In {X = YesVote} (record { tx = t.begun.tx; site = d.site }) (state acts).votes
        for_all d among for = elim (cast_votes v.ballots site (vote_of t.begun site answer) d among) [
          | inl old ↦ vm.voted d old for
          | inr new ↦
              subst (λ (s : ℕ). In {X = YesVote} (record { tx = t.begun.tx; site = s }) (state acts).votes) (sym new.0)
              (voted decl (state acts) net.mail from number site t.begun t.begun.tx answer backed request
              (let same : Some (vote_of t.begun site answer) ≡ Some For = sym new.1 ∙ for in cc))
        ]

        -- the client with what its desk learned
        learnt : Client
        learnt = record (net.clients a) { desk = learns (net.clients a).desk answer }

        own : (d : Desk) → d.client ≡ (learns (net.clients a).desk answer).client
            → d.epoch ≡ (learns (net.clients a).desk answer).epoch
            → d.commits ≡ (learns (net.clients a).desk answer).commits
            → OwnMirrors decl (state acts) a (record (net.clients a) { desk = d }) (Some t)
        own d client_is epoch commits_are =
            (let o = (ending_of decl (state acts) net.mail a (net.clients a) t (m.clients a client up) is).0.own in
            record {
              actor = o.actor;
              desk = client_is ∙ left.client ∙ o.desk;
              epoch = o.epoch;
              desk_epoch = subst (λ (x : ℕ). IsPlanned decl x) (sym epoch) (left.epoch o.desk_epoch);
              clock = o.clock;
              to_come = o.to_come;
              lives_to_come = o.lives_to_come;
              committed =
                  λ r among. o.committed r
                  (subst (λ (rs : List CommitRecord). In r rs) (commits_are ∙ left.commits) among);
              aborted =
                  λ u its born other none. o.aborted u its born other
                  (subst (λ (rs : List CommitRecord). record_of rs u ≡ None) (commits_are ∙ left.commits) none);
            })

        begun : TransactionMirrors (state acts) (net.clients a).front t
        begun = (ending_of decl (state acts) net.mail a (net.clients a) t (m.clients a client up) is).0.begun

        ending : Ending decl (state acts) a learnt t
        ending =
            record {
              own = own (learns (net.clients a).desk answer) refl refl refl;
              begun = record {
                named = begun.named;
                epoch = begun.epoch;
                lives = begun.lives;
                ops = begun.ops;
                own = begun.own;
                sorted = begun.sorted;
                shown = begun.shown;
                whole = begun.whole;
              };
              live = e.0.live;
            }

        clock_is : (state acts).clock (net.clients a).front.client ≤ (learns (net.clients a).desk answer).clock.value
        clock_is =
            (let l : (state acts).clock (net.clients a).front.client ≤ (net.clients a).desk.clock.value = vm.clock in
            let k : (net.clients a).desk.clock.value ≤ (learns (net.clients a).desk answer).clock.value = left.later in
            omega arith)

        epochs : IsPlanned decl (max (net.clients a).front.epoch (learns (net.clients a).desk answer).epoch)
        epochs =
            planned_max decl (net.clients a).front.epoch (learns (net.clients a).desk answer).epoch
            (ending_of decl (state acts) net.mail a (net.clients a) t (m.clients a client up) is).0.own.epoch
            (left.epoch
            (ending_of decl (state acts) net.mail a (net.clients a) t (m.clients a client up) is).0.own.desk_epoch)

        waits : DeskMove
        waits =
            desk_moved (with_voting (learns (net.clients a).desk answer)
            (Some (record {
              begun = t.begun;
              calls = without_call v.calls number;
              ballots = cast v.ballots site (vote_of t.begun site answer);
            }))) quiet

        by : (all : Bool) (why : Option AbortCause) → are_cast (cast v.ballots site (vote_of t.begun site answer)) ≡ all
            → first_against (cast v.ballots site (vote_of t.begun site answer)) ≡ why
            → Goes (by_desk (net.clients a)
            (cond all (counted_out (learns (net.clients a).desk answer) t.begun why) waits))
        by true (Some why) all nay = (
          refined decl (state acts) net a _ m client up
              (aborts_it decl (state acts) acts net a learnt t
              (by_desk (net.clients a) (desk_gives_up (learns (net.clients a).desk answer) t.begun why)) refl mid
              refl ending
              (record {
                remains = record {
                  client = refl;
                  life = refl;
                  count = refl;
                  epoch = epochs;
                  desk = refl;
                  desk_epoch = ending.own.desk_epoch;
                };
                later = omega arith;
                transaction = refl;
                doing = refl;
                voting = refl;
              }) refl refl refl),
          (λ r wrote. absurd (let never : ⊥ = cc in never)),
        )
        by true None all nay = (
          refined decl (state acts) net a _ m client up
              (commits_it decl (state acts) acts net a learnt t refl mid refl ending voting clock_is
              (λ g among its. (let d : (d : Ballot) × In {X = Ballot} d after × (d.site ≡ g.site) = each g among its in
              subst (λ (s : ℕ). In {X = YesVote} (record { tx = t.begun.tx; site = s })
              (state acts).votes) d.2 (for_all d.0 d.1 (all_for after all nay d.0 d.1))))),
          pends_it decl (state acts) acts net a learnt t refl left.commits mid refl ending voting clock_is
              (λ g among its. (let d : (d : Ballot) × In {X = Ballot} d after × (d.site ≡ g.site) = each g among its in
              subst (λ (s : ℕ). In {X = YesVote} (record { tx = t.begun.tx; site = s })
              (state acts).votes) d.2 (for_all d.0 d.1 (all_for after all nay d.0 d.1)))),
        )
        by false why all nay = (
          refined decl (state acts) net a (by_desk (net.clients a) waits) m client up
              (turns decl (state acts) net a (by_desk (net.clients a) waits) acts mid refl
              (record {
                own =
                    subst (λ (x : Option Transaction). OwnMirrors decl (state acts) a
                    (by_desk (net.clients a) waits).client x) (sym is) (own waits.desk refl refl refl);
                begun =
                    subst (λ (x : Option Transaction). BegunMirrors decl (state acts) net.mail
                    (by_desk (net.clients a) waits).client x) (sym is) (
                      record {
                        named = begun.named;
                        epoch = begun.epoch;
                        lives = begun.lives;
                        ops = begun.ops;
                        own = begun.own;
                        sorted = begun.sorted;
                        shown = begun.shown;
                        whole = begun.whole;
                      },
                      record {
                        status_is = voting;
                        chosen = e.1.chosen;
                        counted = e.1.counted;
                        calls = e.1.calls;
                        votes =
                            record {
                              begun = refl;
                              idle = vm.idle;
                              clock = clock_is;
                              each = each;
                              voted = for_all;
                              calls = λ call more. vm.calls call (still_called v.calls number call more);
                            };
                      },
                    );
              })
              (no_sends decl (state acts) net.mail a) (no_asks decl (by_desk (net.clients a) waits).client)),
          (λ r wrote. absurd (let never : ⊥ = cc in never)),
        )

    pub vote_case : (from number : ℕ) (t : Option Transaction) (v : DeskVoting) (answer : Option Answer)
        → (net.clients a).front.transaction ≡ t → (net.clients a).desk.voting ≡ Some v
        → AnswerBacked decl (state acts) net.mail from number answer
        → (o : Option ℕ) → site_called v.calls number ≡ o
        → Refines decl
        (after_client net a (by_desk (net.clients a) (votes_at (net.clients a).desk v number answer o)))
    vote_case from number t v answer is votes backed None none =
        nothing decl acts net a (by_desk (net.clients a) (desk_moved (net.clients a).desk quiet)) run m client up refl
        refl refl
    vote_case from number None v answer is votes backed (Some site) called =
        let free : (net.clients a).desk.voting ≡ None =
        (subst (λ (x : Option Transaction). BegunMirrors decl (state acts) net.mail (net.clients a) x) is
        (m.clients a client up).begun).voting in
        absurd (let never : ⊥ = cc in never)
    vote_case from number (Some t) v answer is votes backed (Some site) called =
        (counts_case from number site t v answer is votes backed called v.begun
        (subst (λ (o : Option DeskVoting). AreVotes (state acts) net.mail (net.clients a) t o) votes
        (ending_of decl (state acts) net.mail a (net.clients a) t (m.clients a client up) is).1.votes).begun).0

    -- its record isn't written
    pub vote_fails : (from number : ℕ) (t : Option Transaction) (v : DeskVoting) (answer : Option Answer)
        → (net.clients a).front.transaction ≡ t → (net.clients a).desk.voting ≡ Some v
        → AnswerBacked decl (state acts) net.mail from number answer
        → (o : Option ℕ) → site_called v.calls number ≡ o → (r : Record)
        → (by_desk (net.clients a) (votes_at (net.clients a).desk v number answer o)).turn.write ≡ Some r
        → Pends decl (state acts) net a r
        × ((by_desk (net.clients a) (votes_at (net.clients a).desk v number answer o)).turn.failed_sends ≡ [])
    vote_fails from number t v answer is votes backed None none r wrote = absurd (let never : ⊥ = cc in never)
    vote_fails from number None v answer is votes backed (Some site) called r wrote =
        let free : (net.clients a).desk.voting ≡ None =
        (subst (λ (x : Option Transaction). BegunMirrors decl (state acts) net.mail (net.clients a) x) is
        (m.clients a client up).begun).voting in
        absurd (let never : ⊥ = cc in never)
    vote_fails from number (Some t) v answer is votes backed (Some site) called r wrote =
        (counts_case from number site t v answer is votes backed called v.begun
        (subst (λ (o : Option DeskVoting). AreVotes (state acts) net.mail (net.clients a) t o) votes
        (ending_of decl (state acts) net.mail a (net.clients a) t (m.clients a client up) is).1.votes).begun).1
        r wrote
