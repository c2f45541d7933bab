-- A commit record is due where each participant of the begun transaction was asked for its promise, in the life of its
-- first grant that counted, and has voted for it.
use Rattle.std.proofs.Common.{[], ◌≡◌, ◌≢◌, ◌<◌, ◌≤◌, ◌+◌, ℕ, nat_lt, Bool, true, false, cond, List, ◌∷◌, inl, inr}
use Rattle.std.proofs.Common.{length, filter, Option, Some, None, refl, sym, ap, ◌∙◌, subst, arith, ltb-true, ltb-false}
use Rattle.std.specs.List.{find}
use Rattle.qc_decl.specs.Vocabulary.{first_site}
use Rattle.qc_decl.specs.declared.declaration.Declaration.{Declaration}
use Rattle.qc_list.specs.Vocabulary.{In}
use Rattle.qc_list.proofs.Members.{In-filter, every-In}
use Rattle.qc_msg.specs.Vocabulary.{has_granted, life_of}
use Rattle.qc_msg.specs.declared.message.Answer.{Answer}
use Rattle.qc_msg.specs.declared.message.Answer.TheVariants as answers
use Rattle.qc_msg.specs.declared.message.Message.{Message}
use Rattle.qc_msg.specs.declared.message.Message.TheVariants as messages
use Rattle.qc_msg.specs.declared.message.Want.{Want}
use Rattle.qc_msg.specs.declared.message.Want.TheVariants.{Prepare}
use Rattle.qc_msg.specs.declared.step.Command.{Command}
use Rattle.qc_msg.specs.declared.step.Command.TheVariants as commands
use Rattle.qc_msg.specs.declared.step.Input.{Input}
use Rattle.qc_msg.specs.declared.step.Input.TheVariants as inputs
use Rattle.laws_due.specs.Vocabulary.{IsPrepare, NoneRuns, Ties, appends, reads, rests, votes}
use Rattle.qc_client.specs.declared.client.Client.{Client}
use Rattle.laws_guarantees.proofs.Accounts.{told_requests}
use Rattle.theory_onecopy.proofs.Lists.{Mapped, map_in}
use Rattle.qc_plan.specs.Vocabulary.{cyclic}
use Rattle.qc_promise.specs.Vocabulary.{Account, ClientRequest, Current, account_heard, account_taken, counted}
use Rattle.qc_promise.specs.Vocabulary.{counted_for, granted, is_open, is_prepare, participants, promised, taken_for}
use Rattle.qc_promise.specs.Vocabulary.{told_by}
use Rattle.laws_votes.proofs.VotesFor.{IsVotedFor, in_taken, KeepsVotes, same_votes}
use Rattle.laws_guarantees.proofs.Verdicts.{in_cyclic}

told_votes : (d : Account) (q : ClientRequest) (answer : Option Answer) → q.want ≡ Prepare
    → ((told_by d q answer).current ≡ d.current) × ((told_by d q answer).command ≡ d.command)
    × ((told_by d q answer).client ≡ d.client) × ((told_by d q answer).requests ≡ d.requests)
told_votes d q None want = (refl, refl, refl, refl)
told_votes d q (Some (answers.Granted grant)) want =
    subst (λ (w : Want). ((granted d q.site grant w).current ≡ d.current)
    × ((granted d q.site grant w).command ≡ d.command) × ((granted d q.site grant w).client ≡ d.client)
    × ((granted d q.site grant w).requests ≡ d.requests)) (sym want) (refl, refl, refl, refl)
told_votes d q (Some (answers.Clash holder inv event)) want = (refl, refl, refl, refl)
told_votes d q (Some (answers.Closed epoch)) want = (refl, refl, refl, refl)
told_votes d q (Some (answers.Behind epoch)) want = (refl, refl, refl, refl)
told_votes d q (Some (answers.Restarted life)) want = (refl, refl, refl, refl)
told_votes d q (Some answers.Stale) want = (refl, refl, refl, refl)
told_votes d q (Some answers.Fault) want = (refl, refl, refl, refl)
told_votes d q (Some (answers.Yes clock)) want =
    subst (λ (w : Want). ((promised d clock w).current ≡ d.current) × ((promised d clock w).command ≡ d.command)
    × ((promised d clock w).client ≡ d.client) × ((promised d clock w).requests ≡ d.requests)) (sym want)
    (refl, refl, refl, refl)
told_votes d q (Some (answers.Shut snapshot)) want = (refl, refl, refl, refl)
told_votes d q (Some answers.Installed) want = (refl, refl, refl, refl)
told_votes d q (Some (answers.Answered outcome)) want = (refl, refl, refl, refl)

module _ (d : Account) (prepares : (q : ClientRequest) → In q d.requests → q.want ≡ Prepare) where
  find_in : (test : ClientRequest → Bool) (qs : List ClientRequest) (q : ClientRequest) → find test qs ≡ Some q
      → In q qs
  find_in test [] q is = absurd (let never : ⊥ = cc in never)
  find_in test (x ∷ qs) q is = by (test x) is (find_in test qs q)
    where
      by : (b : Bool) → cond b (Some x) (find test qs) ≡ Some q → (find test qs ≡ Some q → In q qs) → In q (x ∷ qs)
      by true e more = inl (let same : q ≡ x = cc in same)
      by false e more = inr (more e)

  counted_votes : (n : ℕ) (answer : Option Answer) → KeepsVotes d (counted d n answer)
  counted_votes n answer = by (find (is_open n) d.requests) refl
    where
      by : (o : Option ClientRequest) → find (is_open n) d.requests ≡ o → KeepsVotes d (counted_for d n answer o)
      by None at = same_votes d
      by (Some q) at =
          let e : Account = record d { requests = taken_for n answer d.requests } in
          let k = told_votes e q answer (prepares q (find_in (is_open n) d.requests q at)) in
          record {
            current = k.0;
            command = k.1;
            client = k.2;
            requests =
                λ p among. (let r = in_taken n answer p d.requests among in (r.0, subst (In r.0) (sym k.3) r.1, r.2));
          }

  heard_votes : (m : Message) → KeepsVotes d (account_heard d m)
  heard_votes (messages.Request tx epoch life want) = same_votes d
  heard_votes (messages.Answer to answer) = counted_votes to (Some answer)
  heard_votes (messages.Decision tx verdict) = same_votes d
  heard_votes (messages.Inquiry tx) = same_votes d
  heard_votes (messages.Ask tx) = same_votes d
  heard_votes (messages.Close epoch) = same_votes d
  heard_votes (messages.Install start) = same_votes d

past : (k a n : ℕ) → a ≤ k → k < a + n → (k ≢ a) → a + 1 ≤ k
past k a n low high other = by (nat_lt a k) refl
  where
    by : (t : Bool) → nat_lt a k ≡ t → a + 1 ≤ k
    by true is = let l : a < k = ltb-true a k is in omega arith
    by false is = let l : k ≤ a = ltb-false a k is in absurd (other (omega arith))

none_of : {A : Type 0} (xs : List A) (x : A) → length xs ≡ 0 → In x xs → ⊥
none_of [] x is among = among
none_of (y ∷ xs) x is among = let never : ⊥ = omega arith in never

-- a participant was asked in the life of its first grant that counted, and voted
pub record IsAskedAndFor (d : Account) (t : Current) (site : ℕ) : Type 0 where
  pub q : ClientRequest
  pub among : In q d.requests
  pub at : q.site ≡ site
  pub want : q.want ≡ Prepare
  pub life : q.life ≡ life_of t.lives site
  pub clock : ℕ
  pub taken : q.taken ≡ Some (Some (answers.Yes clock))

module _ (decl : Declaration) (d : Account) (c : Client) where
  finish : (e : Account) (t : Current) (v : IsVotedFor decl e t) (q : ClientRequest) (site : ℕ) → In q e.requests
      → q.site ≡ site → q.want ≡ Prepare → q.life ≡ life_of t.lives site → IsAskedAndFor e t site
  finish e t v q site among at want life =
      let is_yes =
      v.each q (In-filter (λ (x : ClientRequest). is_prepare x.want) q e.requests among (ap is_prepare want)) in
      record { q = q; among = among; at = at; want = want; life = life; clock = is_yes.0; taken = is_yes.1 }

  none_runs : (o : Option Command) → o ≡ Some commands.Commit → NoneRuns o → ⊥
  none_runs o is none = subst NoneRuns is none

  -- something is taken while the commit runs
  awaited : Ties decl d c → (e : Account) (t : Current) (v : IsVotedFor decl e t) (site : ℕ) → site < decl.sites
      → has_granted t.lives site ≡ true → (((q : ClientRequest) → In q d.requests → q.want ≡ Prepare) → KeepsVotes d e)
      → d.command ≡ e.command → IsAskedAndFor e t site
  awaited (rests r) e t v site low has keeps command = absurd (none_runs d.command (command ∙ v.command) r.command)
  awaited (reads r) e t v site low has keeps command =
      absurd (let is : d.command ≡ Some (commands.Do r.object r.inv) = r.runs.command in
      let run : d.command ≡ Some commands.Commit = command ∙ v.command in let never : ⊥ = cc in never)
  awaited (appends r) e t v site low has keeps command =
      absurd (let is : d.command ≡ Some (commands.Do r.object r.inv) = r.runs.command in
      let run : d.command ≡ Some commands.Commit = command ∙ v.command in let never : ⊥ = cc in never)
  awaited (votes r) e t v site low has keeps command =
      let k : KeepsVotes d e = keeps (λ q among. (every-In (IsPrepare r.t) q d.requests r.prepares among).want) in
      let same : t ≡ r.t = (let both : Some t ≡ Some r.t = sym v.current ∙ k.current ∙ r.current in cc) in
      let there : In site (participants decl d r.t) =
      In-filter (has_granted r.t.lives) site (cyclic decl.sites (first_site decl d.client))
      (in_cyclic site decl.sites (first_site decl d.client) low)
      (subst (λ (x : Current). has_granted x.lives site ≡ true) same has) in
      let q : Mapped (λ (x : ClientRequest). x.site) site d.requests =
      map_in (λ (x : ClientRequest). x.site) site d.requests (subst (In site) (sym r.sites) there) in
      let p = k.requests q.from q.listed in
      let was : IsPrepare r.t q.from = every-In (IsPrepare r.t) q.from d.requests r.prepares q.listed in
      finish e t v p.0 site p.1 (p.2.site ∙ sym q.is) (p.2.want ∙ was.want)
      (p.2.life ∙ was.life ∙ (λ i. life_of (sym same i).lives (sym q.is i)))

  -- the commit is called: nobody has granted anything
  called_none : (e : Account) (t : Current) (v : IsVotedFor decl e t) (site : ℕ) → site < decl.sites
      → has_granted t.lives site ≡ true → e.requests ≡ [] → ⊥
  called_none e t v site low has empty =
      none_of (participants decl e t) site
      (v.count
      ∙ ap (λ (qs : List ClientRequest). length (filter (λ (q : ClientRequest). is_prepare q.want) qs)) empty)
      (In-filter (has_granted t.lives) site (cyclic decl.sites (first_site decl e.client))
      (in_cyclic site decl.sites (first_site decl e.client) low) has)

  counted_command : (n : ℕ) (answer : Option Answer) → d.command ≡ (counted d n answer).command
  counted_command n answer = by (find (is_open n) d.requests)
    where
      by : (o : Option ClientRequest) → d.command ≡ (counted_for d n answer o).command
      by None = refl
      by (Some q) = sym (told_requests (record d { requests = taken_for n answer d.requests }) q answer).1

  heard_command : (m : Message) → d.command ≡ (account_heard d m).command
  heard_command (messages.Request tx epoch life want) = refl
  heard_command (messages.Answer to answer) = counted_command to (Some answer)
  heard_command (messages.Decision tx verdict) = refl
  heard_command (messages.Inquiry tx) = refl
  heard_command (messages.Ask tx) = refl
  heard_command (messages.Close epoch) = refl
  heard_command (messages.Install start) = refl

  pub asked_for : Ties decl d c → (g : Input) (t : Current) → IsVotedFor decl (account_taken d g) t → (site : ℕ)
      → site < decl.sites → has_granted t.lives site ≡ true → IsAskedAndFor (account_taken d g) t site
  asked_for ties (inputs.Called command) t v site low has =
      absurd (called_none (account_taken d (inputs.Called command)) t v site low has refl)
  asked_for ties (inputs.Got e) t v site low has =
      awaited ties (account_heard d e.message) t v site low has (λ prepares. heard_votes d prepares e.message)
      (heard_command e.message)
  asked_for ties (inputs.Lost n) t v site low has =
      awaited ties (counted d n None) t v site low has (λ prepares. counted_votes d prepares n None)
      (counted_command n None)
