-- At the beginning, and as a client's turn whose record isn't written, a net is what a run of the machine may look
-- like.
use Rattle.std.proofs.Common.{[], ◌≡◌, ◌<◌, ◌≤◌, ◌∷◌, length, slice_get, ℕ, ◌+◌, ◌-◌, ◌&&◌, Bool, true, false, List}
use Rattle.std.proofs.Common.{Option, Some, None, refl, sym, ◌∙◌, subst, arith}
use Rattle.qc_decl.proofs.Clients.{client_past}
use Rattle.qc_decl.specs.declared.declaration.Declaration.{Declaration}
use Rattle.qc_decl.specs.Vocabulary.{IsAccepted, is_client}
use Rattle.qc_plan.specs.declared.plan.Plan.{Plan}
use Rattle.qc_msg.specs.declared.message.Answer.{Answer}
use Rattle.qc_msg.specs.declared.message.Message.{Message}
use Rattle.qc_msg.specs.declared.step.Input.{Input}
use Rattle.qc_msg.specs.declared.step.Input.TheVariants.{Called, Got, Lost}
use Rattle.qc_msg.specs.Vocabulary.{quiet, site_called}
use Rattle.theory_machine.specs.Vocabulary.{Act, IsRun, state}
use Rattle.qc_commit.specs.declared.desk.Voting.{Voting}
use Rattle.qc_commit.specs.Vocabulary.{votes_in}
use Rattle.qc_client.specs.Vocabulary.{ClientMove, answered_by, by_desk, by_front, client_takes, heard, moved}
use Rattle.laws_refinement.specs.Vocabulary.{Backed, FrontStands, IsPlanned, MayCome, MayCommand, Mirrors, Net, Refines}
use Rattle.laws_refinement.specs.Vocabulary.{after_client, first_net}
use Rattle.laws_refinement.proofs.ClientAnswers.{do_case, takes_case}
use Rattle.laws_refinement.proofs.OpenRequests.{AnswerBacked}
use Rattle.laws_refinement.proofs.ClientGivesUp.{abort_case, begin_case}
use Rattle.laws_refinement.proofs.ClientBegins.{ask_case, inquiry_case}
use Rattle.laws_refinement.proofs.ClientCommits.{commit_case, commit_fails}
use Rattle.laws_refinement.proofs.ClientVotes.{vote_case, vote_fails}
use Rattle.laws_refinement.proofs.ClientRounds.{nothing}
use Rattle.qc_msg.specs.declared.record.Record.{Record}
use Rattle.qc_front.specs.Vocabulary.{FrontMove}
use Rattle.laws_refinement.proofs.ClientEnds.{Pends}
use Rattle.qc_front.proofs.Unwritten.{IsCalm, front_called, front_takes}
use Rattle.laws_refinement.proofs.ClientCases.{called_cases}
use Rattle.qc_msg.specs.declared.message.Message.TheVariants as messages
use Rattle.qc_msg.specs.declared.step.Command.TheVariants as commands
use Rattle.qc_front.specs.Front as fronts
use Rattle.qc_front.specs.Conduct as front_conduct
use Rattle.qc_client.proofs.HeardCases.{heard_cases}

module _ (decl : Declaration) (accepted : IsAccepted decl) where
  module _ (acts : List Act) (net : Net) (a : ℕ) (run : IsRun decl acts) (m : Mirrors decl (state acts) net)
      (client : is_client decl a ≡ true) (up : net.up a ≡ true) (standing : FrontStands decl net a) where
    nothing_done : Refines decl (after_client net a (moved (net.clients a) quiet))
    nothing_done = nothing decl acts net a (moved (net.clients a) quiet) run m client up refl refl refl

    -- an answer, or a loss
    answer_case : (from number : ℕ) (answer : Option Answer)
        → AnswerBacked decl (state acts) net.mail from number answer → (o : Option Voting)
        → (net.clients a).desk.voting ≡ o
        → Refines decl (after_client net a (answered_by decl (net.clients a) o number answer))
    answer_case from number answer backed None free =
        takes_case decl acts net a run m client up standing free from number answer backed (net.clients a).front.doing
        refl (net.clients a).front.transaction refl
    answer_case from number answer backed (Some v) votes =
        let waits : Refines decl
        (after_client net a (by_desk (net.clients a) (votes_in (net.clients a).desk (Some v) number answer))) =
        vote_case decl acts net a run m client up from number (net.clients a).front.transaction v answer refl votes
        backed (site_called v.calls number) refl in
        subst (λ (o : Option Voting). Refines decl
        (after_client net a (by_desk (net.clients a) (votes_in (net.clients a).desk o number answer)))) (sym votes)
        waits

    -- whatever a client takes
    pub take_case : (given : Input) → MayCome net a given → MayCommand decl (net.clients a) given
        → Refines decl (after_client net a (client_takes decl (net.clients a) given))
    take_case (Called commands.Begin) came ready =
        begin_case decl acts net a run m client up accepted ready.0.doing ready.0.voting
        (net.clients a).front.transaction refl
    take_case (Called (commands.Do object inv)) came ready =
        do_case decl acts net a object inv run m client up standing ready.0.doing ready.0.voting ready.1
        (net.clients a).front.transaction refl
    take_case (Called commands.Commit) came ready =
        commit_case decl acts net a run m client up ready.0.doing ready.0.voting (net.clients a).front.transaction refl
    take_case (Called commands.Abort) came ready =
        abort_case decl acts net a run m client up ready.0.voting (net.clients a).front.transaction refl
    take_case (Called (commands.Epoch number)) came ready =
        nothing decl acts net a (by_front (net.clients a) (fronts.moved (net.clients a).front quiet)) run m client up
        refl refl refl
    take_case (Lost number) came ready = answer_case 0 number None tt (net.clients a).desk.voting refl
    take_case (Got e) came ready = by e.message refl
      where
        back : (message : Message) → e.message ≡ message → Backed decl (state acts) net.mail e.from e.to message
        back message same =
            subst (λ (x : Message). Backed decl (state acts) net.mail e.from e.to x) same (m.mail e came.0)

        by : (message : Message) → e.message ≡ message
            → Refines decl (after_client net a (heard decl (net.clients a) e.from e.number message))
        by =
            heard_cases decl (net.clients a) e.from e.number
            (λ message move. e.message ≡ message → Refines decl (after_client net a move))
            (λ message same. nothing_done)
            (λ n answer same. answer_case e.from n (Some answer) (back (messages.Answer n answer) same)
            (net.clients a).desk.voting refl)
            (λ tx same. inquiry_case decl acts net a run m client up e.from tx
            (sym came.1 ∙ (back (messages.Inquiry tx) same).0) (back (messages.Inquiry tx) same).1)
            (λ tx same. ask_case decl acts net a run m client up e.from e.number tx
            (e, m.numbered e came.0, came.1, same) (sym came.1 ∙ (back (messages.Ask tx) same).0)
            (back (messages.Ask tx) same).1)

  -- at the beginning
  pub at_first : IsPlanned decl 1 → Mirrors decl (state []) (first_net decl)
  at_first planned = record {
    placed = λ g never. absurd never;
    alike =
        λ a is up. record { began = refl; recorded = refl; promises = λ t p never. absurd (let none : ⊥ = cc in none) };
    kept = λ a is. record {
      life_is = refl;
      epoch = refl;
      planned = planned;
      shut = refl;
      closing = tt;
      installs = λ n c log never. absurd never;
      stable = λ l never. absurd never;
      kept = λ l never. absurd never;
      sorted = (tt, tt);
      done = λ d never. absurd never;
      passed = λ l never. absurd never;
      promised = λ t. tt;
      last = λ t p never. absurd (let none : ⊥ = cc in none);
      apart = tt;
      lined = λ p never. absurd never;
      begun = λ p never. absurd never;
    };
    pends = λ a is down. absurd (let never : ⊥ = cc in never);
    fallen = λ a is down. absurd (let never : ⊥ = cc in never);
    rules = record { planned = planned; decided = tt };
    decides = λ down. absurd (let never : ⊥ = cc in never);
    sites = λ a is up. record {
      life = refl;
      some = omega arith;
      epoch = refl;
      planned = planned;
      shut = refl;
      closing = tt;
      held = λ u x never. absurd never;
      owned = λ u o never. absurd never;
      installs = λ k c log never. absurd never;
      done = λ d never. absurd never;
      passed = λ l never. absurd never;
      log = λ l never. absurd never;
      logged = λ l never. absurd never;
      sorted = (tt, tt);
      promised = λ t. tt;
      apart = tt;
      lined = λ p never. absurd never;
      single = tt;
    };
    holders = λ a t is up held. absurd (let never : ⊥ = cc in never);
    clients = λ a is up. record {
      own = record {
        actor = at a is;
        desk = refl;
        epoch = planned;
        desk_epoch = planned;
        clock = omega arith;
        to_come = λ n later. refl;
        lives_to_come = λ u mine later. refl;
        committed = λ c never. absurd never;
        aborted = λ t its born other none. absurd (born refl);
      };
      begun = record { doing = refl; voting = refl };
    };
    admin = λ up. record { planned = planned; decided = tt; doing = tt };
    mail = λ e never. absurd never;
    numbered = λ e never. absurd never;
    records = λ c never. absurd never;
    written = λ c never. absurd never;
    of_client = λ c never. absurd never;
    settled = λ t c e. absurd (let never : ⊥ = cc in never);
  }
    where
      and_first : (x y : Bool) → (x && y) ≡ true → x ≡ true
      and_first true y h = refl
      and_first false y h = h

      at : (a : ℕ) → is_client decl a ≡ true → a ≡ decl.sites + (a - decl.sites)
      at a is = let low : decl.sites ≤ a = client_past decl a is in omega arith

  pub first_plan : IsPlanned decl 1
  first_plan = by decl.plans accepted.has_epoch
    where
      by : (ps : List Plan) → 0 < length ps → (plan : Plan) × (slice_get ps 0 ≡ Some plan)
      by [] l = absurd (omega arith)
      by (p ∷ ps) l = (p, refl)

  -- a client's turn whose record isn't written
  module _ (acts : List Act) (net : Net) (a : ℕ) (run : IsRun decl acts) (m : Mirrors decl (state acts) net)
      (client : is_client decl a ≡ true) (up : net.up a ≡ true) where
    abbrev Failing : ClientMove → Type 0
    Failing move =
        (r : Record) → move.turn.write ≡ Some r → Pends decl (state acts) net a r × (move.turn.failed_sends ≡ [])

    calm : (move : FrontMove) → IsCalm (net.clients a).front move → Failing (by_front (net.clients a) move)
    calm move c r wrote = absurd (let both : None ≡ Some r = sym c.write ∙ wrote in let never : ⊥ = cc in never)

    answer_fails : (from number : ℕ) (answer : Option Answer)
        → AnswerBacked decl (state acts) net.mail from number answer → (o : Option Voting)
        → (net.clients a).desk.voting ≡ o → Failing (answered_by decl (net.clients a) o number answer)
    answer_fails from number answer backed None free =
        calm (front_conduct.takes decl (net.clients a).front number answer)
        (front_takes decl (net.clients a).front number answer)
    answer_fails from number answer backed (Some v) votes =
        let waits : Failing (by_desk (net.clients a) (votes_in (net.clients a).desk (Some v) number answer)) =
        (λ r wrote. vote_fails decl acts net a run m client up from number (net.clients a).front.transaction v answer
        refl votes backed (site_called v.calls number) refl r wrote) in
        subst (λ (o : Option Voting). Failing (by_desk (net.clients a) (votes_in (net.clients a).desk o number answer)))
        (sym votes) waits

    pub take_fails : (given : Input) → MayCome net a given → MayCommand decl (net.clients a) given
        → Failing (client_takes decl (net.clients a) given)
    take_fails (Called command) came ready =
        called_cases decl (net.clients a) Failing (λ c. calm _ (front_called decl (net.clients a).front c))
        (commit_fails decl acts net a run m client up ready.0.doing ready.0.voting (net.clients a).front.transaction
        refl) command
    take_fails (Lost number) came ready = answer_fails 0 number None tt (net.clients a).desk.voting refl
    take_fails (Got e) came ready = by e.message refl
      where
        by : (message : Message) → e.message ≡ message → Failing (heard decl (net.clients a) e.from e.number message)
        by =
            heard_cases decl (net.clients a) e.from e.number (λ message move. e.message ≡ message → Failing move)
            (λ message same r wrote. absurd (let never : ⊥ = cc in never))
            (λ n answer same. answer_fails e.from n (Some answer)
            (subst (λ (x : Message). Backed decl (state acts) net.mail e.from e.to x) same (m.mail e came.0))
            (net.clients a).desk.voting refl)
            (λ tx same r wrote. absurd (let never : ⊥ = cc in never))
            (λ tx same r wrote. absurd (let never : ⊥ = cc in never))
