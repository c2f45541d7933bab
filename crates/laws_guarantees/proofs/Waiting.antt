-- A client that waits for a promise still, after an input, tells and writes nothing in its turn, and waits after it.
use Rattle.std.proofs.Common.{◌≡◌, ◌≤◌, ◌+◌, ◌-◌, ◌==◌, ◌&&◌, ℕ, Bool, true, false, cond, List, [], ◌∷◌, ◌++◌, inl, inr}
use Rattle.std.proofs.Common.{length, Option, Some, None, is_some, refl, sym, ap, ◌∙◌, subst, option_to_list}
use Rattle.std.specs.Prelude.{fold, option_and_then}
use Rattle.std.specs.List.{find, list_all}
use Rattle.std.proofs.lemmas.List.Sums.{fold-append}
use Rattle.qc_list.specs.Vocabulary.{In}
use Rattle.qc_list.proofs.Members.{In-filter, In-first, every-In}
use Rattle.qc_core.specs.Vocabulary.{Acts, IsLawful, posts}
use Rattle.qc_decl.specs.declared.declaration.Declaration.{Declaration}
use Rattle.qc_decl.specs.Vocabulary.{is_client}
use Rattle.qc_msg.specs.declared.message.Answer.{Answer}
use Rattle.qc_msg.specs.declared.message.Message.{Message}
use Rattle.qc_msg.specs.declared.message.Want.{Want}
use Rattle.qc_msg.specs.declared.message.Want.TheVariants.{Prepare}
use Rattle.qc_msg.specs.declared.record.Record.{Record}
use Rattle.qc_msg.specs.declared.record.Record.TheVariants as records
use Rattle.qc_msg.specs.declared.reply.Reply.{Reply}
use Rattle.qc_msg.specs.declared.reply.Reply.TheVariants as replies
use Rattle.qc_msg.specs.declared.reply.AbortCause.TheVariants as causes
use Rattle.qc_msg.specs.declared.step.Command.TheVariants as commands
use Rattle.qc_msg.specs.declared.step.Input.{Input}
use Rattle.qc_msg.specs.declared.step.Input.TheVariants as inputs
use Rattle.qc_msg.specs.declared.turn.Posting.{Posting}
use Rattle.qc_msg.specs.declared.turn.Turn.{Turn}
use Rattle.qc_msg.specs.Vocabulary.{Deed, Takes, Writes, sends_of, tells_of, turn_deeds, writes_of}
use Rattle.qc_promise.specs.Vocabulary.{Account, ClientRequest, Current, account_at, account_heard, account_sent}
use Rattle.qc_promise.specs.Vocabulary.{account_taken, account_written, are_votes_in, counted, counted_for}
use Rattle.qc_promise.specs.Vocabulary.{first_against, granted, is_open, is_prepare, new_account, participants}
use Rattle.qc_promise.specs.Vocabulary.{promised, requests_for, row_of, running_row, taken_for, told_by, vote_row}
use Rattle.qc_promise.specs.Rows as rows
use Rattle.laws_due.specs.Vocabulary.{AreByRows, IsPrepare, Votes}
use Rattle.laws_due.proofs.Courses.{IsAtInput, account_of, client_acts, deeds_of_clients_are_by_rows}
use Rattle.laws_due.proofs.Courses.{turns_tell_their_rows}
use Rattle.qc_client.specs.Vocabulary.{client_after}
use Rattle.laws_refinement.specs.Vocabulary.{commits_in}
use Rattle.laws_guarantees.proofs.Accounts.{found_in, told_requests}
use Rattle.laws_guarantees.proofs.Grounds.{open_before}
use Rattle.laws_guarantees.proofs.Requests.{due_at}
use Rattle.laws_guarantees.specs.Vocabulary.{IsOpenVote}
use Rattle.laws_guarantees.proofs.Voted.{voting_tie}
use Rattle.laws_guarantees.proofs.AccountCases.{heard_cases, sent_cases, told_cases}
use Rattle.laws_guarantees.proofs.MessageCases.{commit_cases}
use Rattle.laws_due.proofs.AccountCases.{written_cases}

module _ (decl : Declaration) where
  -- what is told for a Prepare leaves command and transaction

  told_current : (d : Account) (p : ClientRequest) (answer : Option Answer) → p.want ≡ Prepare
      → (told_by d p answer).current ≡ d.current
  told_current d p answer is = told_cases d p (λ a e. e.current ≡ d.current) (λ a. refl)
      (λ g. ap (λ (w : Want). (granted d p.site g w).current) is) (λ epoch. refl)
      (λ clock. ap (λ (w : Want). (promised d clock w).current) is) answer

  abbrev IsAsBefore : Account → Account → Type 0
  IsAsBefore d e = (e.command ≡ d.command) × (e.current ≡ d.current)

  counted_same : (d : Account) (n : ℕ) (answer : Option Answer)
      → ((q : ClientRequest) → In q d.requests → q.want ≡ Prepare) → IsAsBefore d (counted d n answer)
  counted_same d n answer prepares = by (find (is_open n) d.requests) refl
    where
      by : (o : Option ClientRequest) → find (is_open n) d.requests ≡ o → IsAsBefore d (counted_for d n answer o)
      by None is = (refl, refl)
      by (Some p) is = (
        (told_requests (record d { requests = taken_for n answer d.requests }) p answer).1,
        told_current (record d { requests = taken_for n answer d.requests }) p answer
            (prepares p (found_in n p d.requests is).0),
      )

  heard_same : (d : Account) (m : Message) → ((q : ClientRequest) → In q d.requests → q.want ≡ Prepare)
      → IsAsBefore d (account_heard d m)
  heard_same d m prepares = heard_cases d (λ m e. IsAsBefore d e) (λ m. (refl, refl))
      (λ to answer. counted_same d to (Some answer) prepares) m

  taken_same : (d : Account) (g : Input) (q : ClientRequest) → In q (account_taken d g).requests
      → ((p : ClientRequest) → In p d.requests → p.want ≡ Prepare) → IsAsBefore d (account_taken d g)
  taken_same d (inputs.Called command) q among prepares = absurd among
  taken_same d (inputs.Got e) q among prepares = heard_same d e.message prepares
  taken_same d (inputs.Lost n) q among prepares = counted_same d n None prepares

  -- so nothing is due

  not_all : (test : ClientRequest → Bool) (qs : List ClientRequest) (q : ClientRequest) → In q qs → test q ≡ false
      → list_all test qs ≡ false
  not_all test [] q among is = absurd among
  not_all test (p ∷ qs) q (inl same) is = by (test p) (ap test (sym same) ∙ is)
    where
      by : (b : Bool) → b ≡ false → (b && list_all test qs) ≡ false
      by true none = absurd (let never : ⊥ = cc in never)
      by false none = refl
  not_all test (p ∷ qs) q (inr there) is = by (test p) (not_all test qs q there is)
    where
      by : (b : Bool) → list_all test qs ≡ false → (b && list_all test qs) ≡ false
      by true none = none
      by false none = refl

  and_none : (x y : Bool) → y ≡ false → (x && y) ≡ false
  and_none true y is = is
  and_none false y is = refl

  none_due : (d : Account) (t : Current) (q : ClientRequest) → d.command ≡ Some commands.Commit → d.current ≡ Some t
      → t.doomed ≡ false → IsOpenVote d q → running_row decl d false ≡ None
  none_due d t q command current live k =
      ap (option_and_then (row_of decl d false d.current)) command
      ∙ ap (λ (o : Option Current). row_of decl d false o commands.Commit) current
      ∙ row t.doomed (are_votes_in decl d t) (Some (replies.Aborted causes.Doomed))
      (vote_row d false (first_against (requests_for is_prepare d))) live waits
    where
      waits : are_votes_in decl d t ≡ false
      waits = and_none (length (participants decl d t) == length (requests_for is_prepare d))
          (list_all (λ (p : ClientRequest). is_some p.taken) (requests_for is_prepare d))
          (not_all (λ (p : ClientRequest). is_some p.taken) (requests_for is_prepare d) q
          (In-filter (λ (p : ClientRequest). is_prepare p.want) q d.requests k.among (ap is_prepare k.want))
          (ap is_some k.untaken))

      row : (doomed all_in : Bool) (x y : Option Reply) → doomed ≡ false → all_in ≡ false
          → cond doomed x (cond all_in y None) ≡ None
      row true all_in x y live none = absurd (let never : ⊥ = cc in never)
      row false true x y live none = absurd (let never : ⊥ = cc in never)
      row false false x y live none = refl

  -- a request stays where a turn tells nothing

  written_stays : (d : Account) (w : Record) (q : ClientRequest) → In q d.requests → In q (account_written d w).requests
  written_stays d w q among =
      written_cases d (λ e. In q e.requests) among among (λ commit. among) w

  sent_stays : (d : Account) (n to : ℕ) (m : Message) (q : ClientRequest) → In q d.requests
      → In q (account_sent decl d n to m).requests
  sent_stays d n to m q among = sent_cases decl d n to (λ m e. In q e.requests) (λ m. among)
      (λ tx epoch life want is. In-first q d.requests
      (record { number = n; site = to; life = life; want = want; taken = None } ∷ []) among) m

  sends_stay : (d : Account) (n : ℕ) (ps : List Posting) (q : ClientRequest) → In q d.requests
      → In q (fold (account_at decl) d (sends_of n ps ++ [])).requests
  sends_stay d n [] q among = among
  sends_stay d n (p ∷ ps) q among = sends_stay (account_sent decl d n p.to p.message) (n + 1) ps q
      (sent_stays d n p.to p.message q among)

  turn_stays : (d : Account) (n : ℕ) (turn : Turn) (q : ClientRequest) → turn.told ≡ None → In q d.requests
      → In q (fold (account_at decl) d (turn_deeds n turn)).requests
  turn_stays d n turn q none among = subst
      (λ (o : Option Reply). In q (fold (account_at decl) d
      (writes_of turn.write ++ (sends_of n turn.sends ++ tells_of o))).requests) (sym none) (by turn.write)
    where
      by : (w : Option Record) → In q (fold (account_at decl) d (writes_of w ++ (sends_of n turn.sends ++ []))).requests
      by None = sends_stay d n turn.sends q among
      by (Some w) = sends_stay (account_written d w) n turn.sends q (written_stays d w q among)

  module _ (a : ℕ) (client : is_client decl a ≡ true) (ds : List Deed) (n : ℕ) (acts : Acts decl a ds true n)
      (q : ClientRequest) (k : IsOpenVote (account_of decl a client ds) q) where
    at : IsAtInput decl a client ds
    at = client_acts decl a client ds true n acts

    account_is : account_of decl a client ds ≡ account_taken (account_of decl a client at.before) at.given
    account_is = ap (account_of decl a client) at.is
        ∙ fold-append (account_at decl) (new_account (a - decl.sites)) at.before (Takes at.given ∷ [])

    taken_among : In q (account_taken (account_of decl a client at.before) at.given).requests
    taken_among = subst (λ (d : Account). In q d.requests) account_is k.among

    vote_before : IsOpenVote (account_of decl a client at.before) q
    vote_before = record {
      among = open_before decl
          (account_of decl a client at.before) at.given q k.untaken taken_among;
      want = k.want;
      untaken = k.untaken;
    }

    tie : Votes decl (account_of decl a client at.before) (client_after decl (a - decl.sites) at.before).client
    tie = voting_tie decl (account_of decl a client at.before)
        (client_after decl (a - decl.sites) at.before).client q vote_before at.rest.ties

    nothing_due : running_row decl (account_of decl a client ds) false ≡ None
    nothing_due =
        let same : IsAsBefore (account_of decl a client at.before)
        (account_taken (account_of decl a client at.before) at.given) =
        taken_same (account_of decl a client at.before) at.given q taken_among
        (λ p among. (every-In (IsPrepare tie.t) p
        (account_of decl a client at.before).requests tie.prepares among).want) in
        none_due (account_of decl a client ds) tie.t q
        (ap (λ (d : Account). d.command) account_is ∙ same.0 ∙ tie.command)
        (ap (λ (d : Account). d.current) account_is ∙ same.1 ∙ tie.current) tie.live k

    module _ (turn : Turn) (first : ℕ) (low : n ≤ first) (law : IsLawful decl a ds turn) where
      tells_nothing : turn.told ≡ None
      tells_nothing = turns_tell_their_rows decl a client ds n turn acts law ∙ nothing_due

      pub writes_no_commit : commits_in turn.write ≡ []
      writes_no_commit = by turn.write (deeds_of_clients_are_by_rows decl a client (ds ++ turn_deeds first turn) false
          (first + length turn.sends) (posts ds turn n first acts low law))
        where
          by : (w : Option Record) → AreByRows decl (new_account (a - decl.sites))
              (ds ++ (writes_of w ++ (sends_of first turn.sends ++ tells_of turn.told))) → commits_in w ≡ []
          by None due = refl
          by (Some w) due = commit_cases
              (λ w o. AreByRows decl (new_account (a - decl.sites))
              (ds ++ (Writes w ∷ (sends_of first turn.sends ++ tells_of turn.told))) → option_to_list o ≡ [])
              (λ w due. refl)
              (λ commit due. absurd (
              let some : rows.running_row decl (account_of decl a client ds) false ≡ Some
              (replies.Committed commit.stamp) = (due_at decl ds (Writes (records.Commit commit))
              (sends_of first turn.sends ++ tells_of turn.told) (new_account (a - decl.sites)) due).0 in
              let none : rows.running_row decl (account_of decl a client ds) false ≡ None = nothing_due in
              let never : ⊥ = cc in never)) w due

      pub still_open : IsOpenVote (account_of decl a client (ds ++ turn_deeds first turn)) q
      still_open = record {
        among = subst (λ (d : Account). In q d.requests)
            (sym (fold-append (account_at decl) (new_account (a - decl.sites)) ds (turn_deeds first turn)))
            (turn_stays (account_of decl a client ds) first turn q tells_nothing k.among);
        want = k.want;
        untaken = k.untaken;
      }
