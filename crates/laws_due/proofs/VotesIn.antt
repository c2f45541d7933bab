-- What is taken while a commit waits for votes: the first thing for an open Prepare is its vote, all else changes
-- nothing.
use Rattle.std.proofs.Common.{◌≡◌, ◌≤◌, ℕ, ◌==◌, Bool, true, false, cond, List, [], ◌∷◌, map, filter, max, Option, Some}
use Rattle.std.proofs.Common.{None, option_map, is_some, inl, inr, refl, sym, ap, ◌∙◌, subst, arith}
use Rattle.std.specs.Prelude.{is_none, option_and_then}
use Rattle.std.specs.List.{find, list_all, AllByRecursion as Every}
use Rattle.qc_list.specs.Vocabulary.{In}
use Rattle.qc_list.proofs.Members.{every-In}
use Rattle.qc_entry.specs.declared.record.Commit.{Commit}
use Rattle.qc_decl.specs.declared.declaration.Declaration.{Declaration}
use Rattle.qc_view.specs.declared.view.View.{View}
use Rattle.qc_commit.specs.declared.ballot.Ballot.{Ballot}
use Rattle.qc_commit.specs.declared.ballot.Vote.{Vote}
use Rattle.qc_commit.specs.declared.desk.Desk.{Desk}
use Rattle.qc_commit.specs.declared.desk.Voting.{Voting}
use Rattle.qc_commit.specs.Conduct as desks
use Rattle.qc_commit.specs.Vocabulary.{cast, vote_of}
use Rattle.qc_front.specs.declared.front.Front.{Front}
use Rattle.qc_client.specs.declared.client.Client.{Client}
use Rattle.qc_client.specs.Vocabulary.{by_desk}
use Rattle.qc_msg.specs.declared.begun.Begun.{Begun}
use Rattle.qc_msg.specs.declared.call.Call.{Call}
use Rattle.qc_msg.specs.declared.message.Answer.{Answer}
use Rattle.qc_msg.specs.declared.message.Answer.TheVariants as answers
use Rattle.qc_msg.specs.declared.message.Want.{Want}
use Rattle.qc_msg.specs.declared.message.Want.TheVariants.{Prepare}
use Rattle.qc_msg.specs.Vocabulary.{without_call, closed_in, granted_in, promised_in}
use Rattle.qc_promise.specs.Vocabulary.{Account, ClientRequest, Current, counted, counted_for, is_open, participants}
use Rattle.qc_promise.specs.Vocabulary.{taken_for, told_by, view_of}
use Rattle.laws_due.specs.Vocabulary.{AreApart, Goes, IsPrepare, ballot_of, begun_of, calls_in, transaction_of}
use Rattle.laws_due.proofs.VotesCome.{commit_at, votes_go, votes_out, votes_tie, voting_desk, voting_front}
use Rattle.laws_due.proofs.OpenRequests.{calls_taken, every_taken, find_call, found, numbers_open, sites_in}
use Rattle.laws_due.proofs.OpenRequests.{sites_taken}
use Rattle.laws_due.proofs.Requests.{first_set, set_taken}
use Rattle.laws_due.proofs.Turns.{still_goes}
use Rattle.laws_due.proofs.Views.{LogsAre}
use Rattle.laws_due.proofs.TakenCases.{taken_cases, told_of}
use Rattle.std.specs.Option.{option_map_or}
use Rattle.qc_msg.specs.declared.payload.Grant.{Grant}

cast_first : (site : ℕ) (vote : Vote) (bs : List Ballot)
    → cast bs site vote ≡ first_set (λ (x : Ballot). x.site) site (record { site = site; vote = Some vote }) bs
cast_first site vote [] = refl
cast_first site vote (x ∷ bs) = ap (λ (v : List Ballot). cond (x.site == site)
    (record { site = site; vote = Some vote } ∷ bs) (x ∷ v)) (cast_first site vote bs)

numbers_taken : (n : ℕ) (answer : Option Answer) (qs : List ClientRequest)
    → map (λ (q : ClientRequest). q.number) (taken_for n answer qs) ≡ map (λ (q : ClientRequest). q.number) qs
numbers_taken n answer [] = refl
numbers_taken n answer (q ∷ qs) = λ i. same (is_open n q) i ∷ numbers_taken n answer qs i
  where
    same : (o : Bool) → (cond o (record q { taken = Some answer }) q).number ≡ q.number
    same true = refl
    same false = refl

-- open ones are among all
open_in : (qs : List ClientRequest) (y : ℕ) → In y (numbers_open qs) → In y (map (λ (q : ClientRequest). q.number) qs)
open_in [] y among = absurd among
open_in (q ∷ qs) y among = by (is_none q.taken) among (open_in qs y)
  where
    by : (z : Bool) → In y (map (λ (c : Call). c.number)
        (map (λ (p : ClientRequest). record { number = p.number; site = p.site })
        (cond z (q ∷ filter (λ (p : ClientRequest). is_none p.taken) qs)
        (filter (λ (p : ClientRequest). is_none p.taken) qs))))
        → (In y (numbers_open qs) → In y (map (λ (p : ClientRequest). p.number) qs))
        → In y (map (λ (p : ClientRequest). p.number) (q ∷ qs))
    by true (inl same) more = inl same
    by true (inr later) more = inr (more later)
    by false later more = inr (more later)

open_apart : (qs : List ClientRequest) → AreApart (map (λ (q : ClientRequest). q.number) qs)
    → AreApart (numbers_open qs)
open_apart [] apart = tt
open_apart (q ∷ qs) apart = by (is_none q.taken) (open_apart qs apart.1)
  where
    by : (z : Bool) → AreApart (numbers_open qs)
        → AreApart (map (λ (c : Call). c.number)
        (map (λ (p : ClientRequest). record { number = p.number; site = p.site })
        (cond z (q ∷ filter (λ (p : ClientRequest). is_none p.taken) qs)
        (filter (λ (p : ClientRequest). is_none p.taken) qs))))
    by true rest = ((λ y among. apart.0 y (open_in qs y among)), rest)
    by false rest = rest

module _ (decl : Declaration) (number : ℕ) (d : Account) (t : Current) (asked : List ℕ) (views : List View)
    (clock epoch desk_epoch : ℕ) (commits : List Commit)
    (live : t.doomed ≡ false) (logs : LogsAre (view_of t) views) (low : clock ≤ d.clock)
    (known : max epoch desk_epoch ≡ d.known)
    (qs : List ClientRequest) (all : Every (IsPrepare t) qs) (sites : sites_in qs ≡ participants decl d t)
    (apart : AreApart (sites_in qs)) (numbers : AreApart (map (λ (q : ClientRequest). q.number) qs))
    (waits : list_all (λ (q : ClientRequest). is_some q.taken) qs ≡ false) where
  abbrev b : Begun
  b = begun_of t asked

  abbrev waiting : Voting
  waiting = record { begun = b; calls = calls_in qs; ballots = map (ballot_of b) qs }

  abbrev front : Front
  front = voting_front d (transaction_of t asked views) clock epoch

  abbrev desk : Desk
  desk = voting_desk d desk_epoch commits (Some waiting)

  abbrev here : Client
  here = record { front = front; desk = desk }

  every_kept : (n : ℕ) (answer : Option Answer) → Every (IsPrepare t) (taken_for n answer qs)
  every_kept n answer = every_taken (IsPrepare t) n answer (λ q w. record { want = w.want; life = w.life }) qs all

  -- the vote is cast, and the commit goes on with what the account learned
  on_with : (e : Account) (later : ℕ) → clock ≤ e.clock → max epoch later ≡ e.known
      → (n : ℕ) (answer : Option Answer) (q : ClientRequest) → find (is_open n) qs ≡ Some q
      → participants decl d t ≡ participants decl e t
      → Goes decl number (commit_at e t (taken_for n answer qs))
      (by_desk (record { front = voting_front e (transaction_of t asked views) clock epoch; desk = desk })
      (desks.counts (voting_desk e later commits (Some waiting)) b (without_call (calls_in qs) n)
      (cast (map (ballot_of b) qs) q.site (vote_of b q.site answer))))
  on_with e later low_now known_now n answer q is same_sites =
      subst (λ (m : List Call × List Ballot). Goes decl number (commit_at e t (taken_for n answer qs))
      (by_desk (record { front = voting_front e (transaction_of t asked views) clock epoch; desk = desk })
      (desks.counts (voting_desk e later commits (Some waiting)) b m.0 m.1)))
      (λ i. (sym (calls_taken n answer qs) i, sym cast_is i))
      (votes_go decl number e t asked views clock epoch later commits live logs low_now known_now desk
      (taken_for n answer qs) (Some waiting) (every_kept n answer)
      (sites_taken n answer qs ∙ sites ∙ same_sites) (subst AreApart (sym (numbers_taken n answer qs)) numbers))
    where
      cast_is : cast (map (ballot_of b) qs) q.site (vote_of b q.site answer) ≡ map (ballot_of b) (taken_for n answer qs)
      cast_is =
          cast_first q.site (vote_of b q.site answer) (map (ballot_of b) qs)
          ∙ set_taken (λ (x : Ballot). x.site) (ballot_of b) (λ p. refl) n answer q qs apart (open_apart qs numbers) is

  stays : (n : ℕ) (answer : Option Answer) (q : ClientRequest) → find (is_open n) qs ≡ Some q
      → Goes decl number (commit_at d t (taken_for n answer qs))
      (by_desk here (desks.counts desk b (without_call (calls_in qs) n)
      (cast (map (ballot_of b) qs) q.site (vote_of b q.site answer))))
  stays n answer q is = on_with d desk_epoch low known n answer q is refl

  counts_go : (n : ℕ) (q : ClientRequest) → find (is_open n) qs ≡ Some q → q.want ≡ Prepare → (answer : Option Answer)
      → Goes decl number (told_by (commit_at d t (taken_for n answer qs)) q answer)
      (by_desk here (desks.counts (desks.learns desk answer) b (without_call (calls_in qs) n)
      (cast (map (ballot_of b) qs) q.site (vote_of b q.site answer))))
  counts_go n q is want answer =
      subst
      (λ (w : Want). Goes decl number
      (told_of (commit_at d t (taken_for n answer qs)) q.site w (option_and_then granted_in answer)
      (option_and_then closed_in answer) (option_and_then promised_in answer))
      (by_desk here (desks.counts (desks.learns desk answer) b (without_call (calls_in qs) n)
      (cast (map (ballot_of b) qs) q.site (vote_of b q.site answer)))))
      (sym want)
      (taken_cases
      (λ (o : Option Answer) (g : Option Grant) (c : Option ℕ) (y : Option ℕ). Goes decl number
      (told_of (commit_at d t (taken_for n o qs)) q.site Prepare g c y)
      (by_desk here
      (desks.counts
      (option_map_or (λ (told : ℕ). record desk { epoch = max desk.epoch told }) c
      (option_map_or (desks.passed desk) y desk)) b (without_call (calls_in qs) n)
      (cast (map (ballot_of b) qs) q.site (vote_of b q.site o)))))
      (λ o. stays n o q is) (λ g. stays n (Some (answers.Granted g)) q is)
      (λ told. on_with (record d { known = max d.known told }) (max desk_epoch told) low
      (let sum : max epoch desk_epoch ≡ d.known = known in omega arith) n (Some (answers.Closed told)) q is refl)
      (λ told. on_with (record d { clock = max d.clock told }) desk_epoch
      (let less : clock ≤ d.clock = low in omega arith) known n (Some (answers.Yes told)) q is refl) answer)

  pub voting_goes : (n : ℕ) (answer : Option Answer)
      → Goes decl number (counted (commit_at d t qs) n answer) (by_desk here (desks.vote desk n answer))
  voting_goes n answer =
      subst (λ (o : Option ℕ). Goes decl number (counted (commit_at d t qs) n answer)
      (by_desk here (desks.votes_at desk waiting n answer o))) (sym (find_call n qs))
      (by (find (is_open n) qs) refl)
    where
      by : (o : Option ClientRequest) → find (is_open n) qs ≡ o
          → Goes decl number (counted_for (commit_at d t qs) n answer o)
          (by_desk here (desks.votes_at desk waiting n answer (option_map (λ (q : ClientRequest). q.site) o)))
      by None is = still_goes decl number (commit_at d t qs) here
          (votes_out decl number d t asked views clock epoch desk_epoch commits live logs low known qs all waits)
          (votes_tie decl number d t asked views clock epoch desk_epoch commits live logs low known qs all sites numbers
          waits)
      by (Some q) is = counts_go n q is (every-In (IsPrepare t) q qs all (found n qs q is).among).want answer
