-- A commit: its Prepares, its votes, and its end.
use Rattle.std.proofs.Common.{[], ◌≡◌, ◌≤◌, ℕ, suc, ◌+◌, ◌==◌, ◌&&◌, Bool, true, false, cond, List, ◌∷◌, ◌++◌, length}
use Rattle.std.proofs.Common.{map, filter, drop, max, Option, Some, None, is_some, refl, sym, ap, ◌∙◌, subst, eq-eqb}
use Rattle.std.proofs.Common.{arith}
use Rattle.std.specs.List.{list_all}
use Rattle.std.proofs.lemmas.List.{length-append}
use Rattle.std.proofs.lemmas.List.Elements.{filter-append}
use Rattle.qc_entry.specs.declared.record.Commit.{Commit}
use Rattle.qc_decl.specs.declared.declaration.Declaration.{Declaration}
use Rattle.qc_view.specs.declared.view.View.{View}
use Rattle.qc_commit.specs.declared.desk.Desk.{Desk}
use Rattle.qc_commit.specs.declared.desk.Voting.{Voting}
use Rattle.qc_commit.specs.Vocabulary.{blank, moved as desk_moved}
use Rattle.qc_commit.specs.Votes as ballots
use Rattle.qc_front.specs.declared.front.Front.{Front}
use Rattle.qc_front.specs.declared.transaction.Transaction.{Transaction}
use Rattle.qc_client.specs.declared.client.Client.{Client}
use Rattle.qc_client.specs.Vocabulary.{by_desk}
use Rattle.qc_msg.specs.declared.begun.Begun.{Begun}
use Rattle.qc_msg.specs.declared.call.Call.{Call}
use Rattle.qc_msg.specs.declared.message.Want.TheVariants.{Prepare}
use Rattle.qc_msg.specs.declared.reply.Reply.TheVariants as replies
use Rattle.qc_msg.specs.declared.reply.AbortCause.TheVariants as causes
use Rattle.qc_msg.specs.declared.step.Command.TheVariants as commands
use Rattle.qc_msg.specs.Vocabulary.{calls_from, sending}
use Rattle.qc_promise.specs.Vocabulary.{Account, ClientRequest, Current, command_asks, is_prepare, is_this}
use Rattle.qc_promise.specs.Vocabulary.{participants, view_of, vote_row}
use Rattle.laws_due.specs.Vocabulary.{Goes, IsPrepare, Ties, begun_of, transaction_of}
use Rattle.laws_due.proofs.Asks.{asking}
use Rattle.laws_due.proofs.Ballots.{dropped_at, dropped_more, new_ballots, new_numbers, new_sites}
use Rattle.laws_due.proofs.Requests.{calls_new, every_new, request_at, requests_from}
use Rattle.laws_due.proofs.Turns.{Asked as Asking, asks_go}
use Rattle.laws_due.proofs.Views.{LogsAre}
use Rattle.laws_due.proofs.VotesCome.{commit_at, voting_front, voting_desk, votes_tie}

module _ (decl : Declaration) (number : ℕ) (d : Account) (t : Current) (asked : List ℕ) (views : List View)
    (clock epoch desk_epoch : ℕ) (commits : List Commit)
    (live : t.doomed ≡ false) (logs : LogsAre (view_of t) views) (low : clock ≤ d.clock)
    (known : max epoch desk_epoch ≡ d.known) where
  abbrev x : Transaction
  x = transaction_of t asked views

  abbrev b : Begun
  b = begun_of t asked

  abbrev front : Front
  front = voting_front d x clock epoch

  abbrev desk : Option Voting → Desk
  desk voting = voting_desk d desk_epoch commits voting

  -- the participants are asked

  abbrev P : List ClientRequest → List ℕ → Type 0
  P qs ss = drop (length (filter (λ (q : ClientRequest). is_prepare q.want) qs)) (participants decl d t) ≡ ss

  step : (n site : ℕ) (ss : List ℕ) (qs : List ClientRequest)
      → drop (length (filter (λ (q : ClientRequest). is_prepare q.want) qs)) (participants decl d t) ≡ site ∷ ss
      → (command_asks decl (commit_at d t qs) t site Prepare (Some commands.Commit) ≡ true)
      × (drop (length (filter (λ (q : ClientRequest). is_prepare q.want) (qs ++ request_at n t Prepare site ∷ [])))
      (participants decl d t) ≡ ss)
  step n site ss qs is = (
    ap (λ (o : Option ℕ). is_this site o)
        (dropped_at (length (filter (λ (q : ClientRequest). is_prepare q.want) qs)) (participants decl d t) site ss is)
        ∙ eq-eqb site site refl,
    ap (λ (k : ℕ). drop k (participants decl d t)) longer
        ∙ dropped_more (length (filter (λ (q : ClientRequest). is_prepare q.want) qs)) (participants decl d t) site ss
        is,
  )
    where
      longer : length (filter (λ (q : ClientRequest). is_prepare q.want) (qs ++ request_at n t Prepare site ∷ []))
          ≡ suc (length (filter (λ (q : ClientRequest). is_prepare q.want) qs))
      longer =
          ap (λ (v : List ClientRequest). length v)
          (filter-append (λ (q : ClientRequest). is_prepare q.want) qs (request_at n t Prepare site ∷ []))
          ∙ (let more :
          length (filter (λ (q : ClientRequest). is_prepare q.want) qs ++ request_at n t Prepare site ∷ [])
          ≡ length (filter (λ (q : ClientRequest). is_prepare q.want) qs) + 1 =
          length-append (filter (λ (q : ClientRequest). is_prepare q.want) qs) (request_at n t Prepare site ∷ []) in
          omega arith)

  some_open : (n : ℕ) (ss : List ℕ) → (length ss == 0) ≡ false
      → list_all (λ (q : ClientRequest). is_some q.taken) (requests_from n t Prepare ss) ≡ false
  some_open n [] some = absurd (let never : ⊥ = cc in never)
  some_open n (s ∷ ss) some = refl

  pub votes_start : (f : Desk) → (length (participants decl d t) == 0) ≡ false → Goes decl number (commit_at d t [])
      (by_desk (record { front = front; desk = f })
      (desk_moved (desk (Some (record { begun = b; calls = []; ballots = blank (participants decl d t) })))
      (sending (map (ballots.prepares b) (participants decl d t)))))
  votes_start f some = record {
    tells =
        sym (ap (λ (z : Bool). cond z (Some (replies.Aborted causes.Doomed))
        (cond ((length (participants decl d t) == 0) && true) (vote_row (commit_at d t []) false None) None)) live
        ∙ ap (λ (z : Bool). cond (z && true) (vote_row (commit_at d t []) false None) None) some);
    due = a.due;
    ties = a.ties;
  }
    where
      new : List ClientRequest
      new = requests_from number t Prepare (participants decl d t)

      tie : Ties decl (commit_at d t (requests_from number t Prepare (participants decl d t)))
          (record {
            front = front;
            desk = desk (Some (record {
              begun = b;
              calls = calls_from number (participants decl d t);
              ballots = blank (participants decl d t);
            }));
          })
      tie = subst (λ (c : Client). Ties decl (commit_at d t (requests_from number t Prepare (participants decl d t))) c)
          (λ i. record {
            front = front;
            desk = desk (Some (record {
              begun = b;
              calls = calls_new number t Prepare (participants decl d t) i;
              ballots = sym (new_ballots b number t (participants decl d t)) i;
            }));
          })
          (votes_tie decl number d t asked views clock epoch desk_epoch commits live logs low known
          (requests_from number t Prepare (participants decl d t))
          (every_new (IsPrepare t) t Prepare (λ n s. record { want = refl; life = refl }) number
          (participants decl d t))
          (new_sites number t Prepare (participants decl d t)) (new_numbers number t Prepare (participants decl d t))
          (some_open number (participants decl d t) some))

      a : Asking decl number (record d { command = Some commands.Commit; written = None }) t Prepare P step
          (λ (cs : List Call). record {
            front = front;
            desk = desk (Some (record { begun = b; calls = cs; ballots = blank (participants decl d t) }));
          })
          (sending (map (asking t Prepare) (participants decl d t))) (λ calls n site. refl) (participants decl d t) []
          []
      a = asks_go decl number (record d { command = Some commands.Commit; written = None }) t Prepare P step
          (λ (cs : List Call). record {
            front = front;
            desk = desk (Some (record { begun = b; calls = cs; ballots = blank (participants decl d t) }));
          })
          (sending (map (asking t Prepare) (participants decl d t))) (λ calls n site. refl) (participants decl d t) []
          [] refl tie
