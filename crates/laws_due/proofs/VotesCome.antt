-- The votes of a commit, as they come: it ends, or more are awaited.
use Rattle.std.proofs.Common.{[], ◌≡◌, ◌≤◌, ℕ, ◌+◌, ◌==◌, ◌&&◌, Bool, true, false, cond, List, ◌∷◌, ◌++◌, length, map}
use Rattle.std.proofs.Common.{filter, max, Option, Some, None, is_some, refl, sym, ap, ◌∙◌, subst, eq-eqb, arith}
use Rattle.std.specs.Prelude.{fold}
use Rattle.std.specs.List.{list_all, AllByRecursion as Every}
use Rattle.std.proofs.lemmas.List.{length-map}
use Rattle.qc_stamp.specs.declared.stamp.Stamp.{Stamp}
use Rattle.qc_entry.specs.declared.record.Commit.{Commit}
use Rattle.qc_decl.specs.declared.declaration.Declaration.{Declaration}
use Rattle.qc_view.specs.declared.view.View.{View}
use Rattle.qc_commit.specs.declared.desk.Desk.{Desk}
use Rattle.qc_commit.specs.declared.desk.Voting.{Voting}
use Rattle.qc_commit.specs.Conduct as desks
use Rattle.qc_commit.specs.Vocabulary.{DeskMove, moved as desk_moved}
use Rattle.qc_commit.specs.Votes as ballots
use Rattle.qc_front.specs.declared.doing.Doing.TheVariants.{Idle}
use Rattle.qc_front.specs.declared.front.Front.{Front}
use Rattle.qc_front.specs.declared.transaction.Transaction.{Transaction}
use Rattle.qc_front.specs.Vocabulary.{ended}
use Rattle.qc_client.specs.Vocabulary.{ClientMove, by_desk, client_does}
use Rattle.qc_msg.specs.declared.begun.Begun.{Begun}
use Rattle.qc_msg.specs.declared.message.Outcome.TheVariants as outcomes
use Rattle.qc_msg.specs.declared.reply.Reply.TheVariants as replies
use Rattle.qc_msg.specs.declared.reply.AbortCause.{AbortCause}
use Rattle.qc_msg.specs.declared.reply.AbortCause.TheVariants as causes
use Rattle.qc_msg.specs.declared.step.Command.TheVariants as commands
use Rattle.qc_msg.specs.Vocabulary.{Tells, decisions, quiet, sends_of}
use Rattle.qc_promise.specs.Vocabulary.{Account, ClientRequest, Current, account_told, are_votes_in, first_against}
use Rattle.qc_promise.specs.Vocabulary.{is_prepare, participants, running_row, view_of, vote_row}
use Rattle.laws_due.specs.Vocabulary.{AreApart, Goes, IsPrepare, Ties, ballot_of, begun_of, calls_in, front_of, rests}
use Rattle.laws_due.specs.Vocabulary.{transaction_of, votes}
use Rattle.laws_due.proofs.Ballots.{against_are, all_prepare, cast_are}
use Rattle.laws_due.proofs.OpenRequests.{sites_in}
use Rattle.laws_due.proofs.Turns.{decided_account, decided_client, decided_due, ends_goes, rested}
use Rattle.laws_due.proofs.Views.{LogsAre}

-- the account while a commit runs, and the client then
abbrev pub commit_at : Account → Current → List ClientRequest → Account
commit_at d t qs = record d { command = Some commands.Commit; requests = qs; written = None; current = Some t }

abbrev pub voting_front : Account → Transaction → ℕ → ℕ → Front
voting_front d x clock epoch = record (front_of d (Some x) Idle) { clock = record { value = clock }; epoch = epoch }

abbrev pub voting_desk : Account → ℕ → List Commit → Option Voting → Desk
voting_desk d epoch commits voting =
    record { client = d.client; clock = record { value = d.clock }; epoch = epoch; commits = commits; voting = voting }

module _ (decl : Declaration) (number : ℕ) (d : Account) (t : Current) (asked : List ℕ) (views : List View)
    (clock epoch desk_epoch : ℕ) (commits : List Commit)
    (live : t.doomed ≡ false) (logs : LogsAre (view_of t) views) (low : clock ≤ d.clock)
    (known : max epoch desk_epoch ≡ d.known) where
  abbrev pub x : Transaction
  x = transaction_of t asked views

  abbrev pub b : Begun
  b = begun_of t asked

  abbrev pub front : Front
  front = voting_front d x clock epoch

  abbrev pub desk : Option Voting → Desk
  desk voting = voting_desk d desk_epoch commits voting

  abbrev pub next : Stamp
  next = record { clock = d.clock + 1; client = d.client }

  -- the transaction has ended
  end_ties : (n : ℕ) (kept : List Commit) → d.clock ≤ n
      → Ties decl (rested (record d { clock = n }) None)
      (record {
        front = ended front n desk_epoch;
        desk = record {
          client = d.client;
          clock = record { value = n };
          epoch = desk_epoch;
          commits = kept;
          voting = None;
        };
      })
  end_ties n kept more = rests (record {
    command = tt;
    requests = refl;
    written = refl;
    begun = tt;
    front =
        (let highest : max clock n ≡ n = omega arith in
        λ i. record {
          client = d.client;
          life = front.life;
          count = d.count;
          clock = record { value = highest i };
          epoch = known i;
          transaction = None;
          doing = Idle;
        });
    desk =
        record {
          client = refl;
          clock = (let same : n ≡ n = refl in omega arith);
          epoch = (let sum : max epoch desk_epoch ≡ d.known = known in omega arith);
          voting = refl;
        };
  })

  gives_up_go : (f : Desk) (qs : List ClientRequest) (voting : Option Voting) (why : AbortCause)
      → running_row decl (commit_at d t qs) false ≡ Some (replies.Aborted why)
      → Goes decl number (commit_at d t qs)
      (by_desk (record { front = front; desk = f }) (desks.gives_up (desk voting) b why))
  gives_up_go f qs voting why is =
      ends_goes decl number (commit_at d t qs) b outcomes.Aborted (replies.Aborted why)
      (record { front = ended front d.clock desk_epoch; desk = desk None }) (is, refl, refl)
      (end_ties d.clock commits (omega arith))

  pub decides_go : (f : Desk) (qs : List ClientRequest) (voting : Option Voting)
      → running_row decl (commit_at d t qs) false ≡ Some (replies.Committed next)
      → Goes decl number (commit_at d t qs)
      (by_desk (record { front = front; desk = f }) (desks.decides (desk voting) b))
  decides_go f qs voting is = record {
    tells = sym is;
    due = (
      (is, refl, refl),
      decided_due decl number b (outcomes.Committed next) wrote number asked (Tells (replies.Committed next) ∷ [])
          ((is, refl, refl), tt),
    );
    ties =
        subst (λ (e : Account). Ties decl e
        (fold (client_does decl) move
        (sends_of number (decisions b (outcomes.Committed next)) ++ Tells (replies.Committed next) ∷ [])).client)
        (sym (decided_account decl number b (outcomes.Committed next) wrote number asked
        (Tells (replies.Committed next) ∷ [])))
        (subst (λ (m : ClientMove). Ties decl (account_told decl wrote (replies.Committed next)) m.client)
        (sym (decided_client decl number b (outcomes.Committed next) move number asked
        (Tells (replies.Committed next) ∷ [])))
        (end_ties (d.clock + 1) (commits ++ desks.commit_of next b ∷ []) (omega arith)));
  }
    where
      move : ClientMove
      move = by_desk (record { front = front; desk = f }) (desks.decides (desk voting) b)

      wrote : Account
      wrote = record (commit_at d t qs) { written = Some (desks.commit_of next b) }

  -- the votes, as they stand

  votes_row : (qs : List ClientRequest) → Every (IsPrepare t) qs → sites_in qs ≡ participants decl d t
      → list_all (λ (q : ClientRequest). is_some q.taken) qs ≡ true
      → running_row decl (commit_at d t qs) false ≡ vote_row (commit_at d t qs) false (first_against qs)
  votes_row qs all sites taken =
      ap (λ (z : Bool). cond z (Some (replies.Aborted causes.Doomed))
      (cond (are_votes_in decl (commit_at d t qs) t)
      (vote_row (commit_at d t qs) false (first_against (filter (λ (q : ClientRequest). is_prepare q.want) qs)))
      None)) live
      ∙ ap
      (λ (z : Bool). cond z
      (vote_row (commit_at d t qs) false (first_against (filter (λ (q : ClientRequest). is_prepare q.want) qs)))
      None) in_are
      ∙ ap (λ (hs : List ClientRequest). vote_row (commit_at d t qs) false (first_against hs)) (all_prepare t qs all)
    where
      same_length : length (participants decl d t) ≡ length (filter (λ (q : ClientRequest). is_prepare q.want) qs)
      same_length =
          ap (λ (v : List ℕ). length v) (sym sites) ∙ length-map qs (λ (q : ClientRequest). q.site)
          ∙ ap (λ (hs : List ClientRequest). length hs) (sym (all_prepare t qs all))

      in_are : are_votes_in decl (commit_at d t qs) t ≡ true
      in_are =
          ap (λ (z : Bool). z
          && list_all (λ (q : ClientRequest). is_some q.taken)
          (filter (λ (q : ClientRequest). is_prepare q.want) qs))
          (eq-eqb (length (participants decl d t)) (length (filter (λ (q : ClientRequest). is_prepare q.want) qs))
          same_length)
          ∙ ap (λ (hs : List ClientRequest). list_all (λ (q : ClientRequest). is_some q.taken) hs)
          (all_prepare t qs all) ∙ taken

  last_false : (z : Bool) → (z && false) ≡ false
  last_false true = refl
  last_false false = refl

  pub votes_out : (qs : List ClientRequest) → Every (IsPrepare t) qs
      → list_all (λ (q : ClientRequest). is_some q.taken) qs ≡ false → running_row decl (commit_at d t qs) false ≡ None
  votes_out qs all open_still =
      ap (λ (z : Bool). cond z (Some (replies.Aborted causes.Doomed))
      (cond (are_votes_in decl (commit_at d t qs) t)
      (vote_row (commit_at d t qs) false (first_against (filter (λ (q : ClientRequest). is_prepare q.want) qs)))
      None)) live
      ∙ ap
      (λ (z : Bool). cond z
      (vote_row (commit_at d t qs) false (first_against (filter (λ (q : ClientRequest). is_prepare q.want) qs)))
      None) out
    where
      out : are_votes_in decl (commit_at d t qs) t ≡ false
      out =
          ap (λ (hs : List ClientRequest). (length (participants decl d t) == length hs)
          && list_all (λ (q : ClientRequest). is_some q.taken) hs) (all_prepare t qs all)
          ∙ ap (λ (z : Bool). (length (participants decl d t) == length qs) && z) open_still
          ∙ last_false (length (participants decl d t) == length qs)

  pub votes_tie : (qs : List ClientRequest) → Every (IsPrepare t) qs → sites_in qs ≡ participants decl d t
      → AreApart (map (λ (q : ClientRequest). q.number) qs)
      → list_all (λ (q : ClientRequest). is_some q.taken) qs ≡ false
      → Ties decl (commit_at d t qs)
      (record {
        front = front;
        desk = desk (Some (record { begun = b; calls = calls_in qs; ballots = map (ballot_of b) qs }));
      })
  votes_tie qs all sites numbers waits = votes (record {
    t = t;
    x = x;
    command = refl;
    current = refl;
    written = refl;
    live = live;
    begun = record { is = refl; logs = logs };
    prepares = all;
    sites = sites;
    numbers = numbers;
    waits = waits;
    front = refl;
    low = low;
    known = known;
    desk = refl;
  })

  -- what the desk does as the votes are all cast, or are not
  abbrev counted_at : Option Voting → List ClientRequest → Bool → DeskMove
  counted_at voting qs z =
      cond z (desks.counted_out (desk voting) b (ballots.first_against (map (ballot_of b) qs)))
      (desk_moved
      (desks.with_voting (desk voting)
      (Some (record { begun = b; calls = calls_in qs; ballots = map (ballot_of b) qs }))) quiet)

  pub votes_go : (f : Desk) (qs : List ClientRequest) (voting : Option Voting) → Every (IsPrepare t) qs
      → sites_in qs ≡ participants decl d t → AreApart (map (λ (q : ClientRequest). q.number) qs)
      → Goes decl number (commit_at d t qs)
      (by_desk (record { front = front; desk = f })
      (desks.counts (desk voting) b (calls_in qs) (map (ballot_of b) qs)))
  votes_go f qs voting all sites numbers = by (list_all (λ (q : ClientRequest). is_some q.taken) qs) refl
    where
      out : list_all (λ (q : ClientRequest). is_some q.taken) qs ≡ true → (o : Option AbortCause) → first_against qs ≡ o
          → Goes decl number (commit_at d t qs)
          (by_desk (record { front = front; desk = f }) (desks.counted_out (desk voting) b o))
      out taken (Some why) is =
          gives_up_go f qs voting why (votes_row qs all sites taken ∙ ap (vote_row (commit_at d t qs) false) is)
      out taken None is =
          decides_go f qs voting (votes_row qs all sites taken ∙ ap (vote_row (commit_at d t qs) false) is)

      by : (z : Bool) → list_all (λ (q : ClientRequest). is_some q.taken) qs ≡ z
          → Goes decl number (commit_at d t qs)
          (by_desk (record { front = front; desk = f })
          (desks.counts (desk voting) b (calls_in qs) (map (ballot_of b) qs)))
      by true taken =
          subst (λ (z : Bool). Goes decl number (commit_at d t qs)
          (by_desk (record { front = front; desk = f }) (counted_at voting qs z)))
          (sym (cast_are b qs ∙ taken))
          (subst (λ (o : Option AbortCause). Goes decl number (commit_at d t qs)
          (by_desk (record { front = front; desk = f }) (desks.counted_out (desk voting) b o)))
          (sym (against_are t asked qs all)) (out taken (first_against qs) refl))
      by false open_still =
          subst (λ (z : Bool). Goes decl number (commit_at d t qs)
          (by_desk (record { front = front; desk = f }) (counted_at voting qs z)))
          (sym (cast_are b qs ∙ open_still))
          (record {
            tells = sym (votes_out qs all open_still);
            due = tt;
            ties = votes_tie qs all sites numbers open_still;
          })
