-- The numbers of Prepares: by `sent` once, or by each of them; where one is open, `sent` changes nothing.
use Rattle.std.proofs.Common.{◌⊎◌, inl, inr, Bool, true, ◌≡◌, ℕ, ◌+◌, ◌<◌, ◌==◌, ◌&&◌, false, cond, List, [], ◌∷◌, ◌++◌}
use Rattle.std.proofs.Common.{length, max, Option, Some, None, refl, sym, ap, ◌∙◌, arith, append_assoc}
use Rattle.std.specs.Option.{is_none, is_some}
use Rattle.std.proofs.lemmas.List.{append-nil}
use Rattle.std.proofs.lemmas.Bool.{ne_eqb}
use Rattle.qc_decl.specs.declared.declaration.Declaration.{Declaration}
use Rattle.qc_msg.specs.declared.begun.Begun.{Begun}
use Rattle.qc_msg.specs.declared.call.Call.{Call}
use Rattle.qc_msg.specs.Vocabulary.{calls_from}
use Rattle.qc_commit.specs.declared.ballot.Ballot.{Ballot}
use Rattle.qc_commit.specs.declared.ballot.Vote.{Vote}
use Rattle.qc_commit.specs.declared.desk.Desk.{Desk}
use Rattle.qc_commit.specs.declared.desk.Voting.{Voting}
use Rattle.qc_commit.specs.Vocabulary.{DeskMove, Taken, are_cast, awaited, ballots_by, blank, counted_out}
use Rattle.qc_commit.specs.Vocabulary.{course_ballots, course_desk, first_against, learns, open_calls, participants}
use Rattle.qc_commit.specs.Vocabulary.{passed, prepare, sent, sent_each, sent_in, vote, with_voting}
use Rattle.qc_msg.specs.declared.message.Answer.{Answer}
use Rattle.qc_msg.specs.declared.reply.AbortCause.{AbortCause}
use Rattle.qc_commit.proofs.Aside.{unvoted}
use Rattle.qc_commit.proofs.Asking.{participants-once}
use Rattle.qc_commit.proofs.Ends.{commits-at-once}
use Rattle.qc_commit.proofs.Going.{IsTaken, Waits, starts, takes-one, waits-on}
use Rattle.qc_commit.proofs.Once.{Once}

-- Prepares that were sent one after another

awaited-blank : (sites : List ℕ) → awaited (blank sites) ≡ sites
awaited-blank [] = refl
awaited-blank (site ∷ sites) = ap (λ (s : List ℕ). site ∷ s) (awaited-blank sites)

each-on : (desk : Desk) (v : Voting) (calls : List Call) (n : ℕ) (sites : List ℕ)
    → sent_each (with_voting desk (Some (record v { calls = calls }))) n sites ≡ with_voting desk
    (Some (record v { calls = calls ++ calls_from n sites }))
each-on desk v calls n [] = ap (λ (cs : List Call). with_voting desk (Some (record v { calls = cs })))
    (sym (append-nil calls))
each-on desk v calls n (site ∷ sites) =
    each-on desk v (calls ++ record { number = n; site = site } ∷ []) (n + 1) sites
    ∙ ap (λ (cs : List Call). with_voting desk (Some (record v { calls = cs })))
    (append_assoc calls (record { number = n; site = site } ∷ []) (calls_from (n + 1) sites))

pub each-sent : (decl : Declaration) (desk : Desk) (b : Begun) (clock first : ℕ)
    → (length (participants decl desk.client b) == 0) ≡ false
    → sent_each (prepare decl desk b clock).desk first (participants decl desk.client b) ≡ sent
    (prepare decl desk b clock).desk first
each-sent decl desk b clock first some = rw some
    (each-on (passed desk clock) (record { begun = b; calls = []; ballots = blank sites }) [] first sites
    ∙ ap (λ (s : List ℕ). with_voting (passed desk clock)
    (Some (record { begun = b; calls = calls_from first s; ballots = blank sites }))) (sym (awaited-blank sites)))
  where
    sites : List ℕ
    sites = participants decl desk.client b

-- a commit that waits has an open Prepare

open-some : (n : ℕ) (bs : List Ballot) → are_cast bs ≡ false → (length (open_calls n bs) == 0) ≡ false
open-some n [] uncast = absurd (let no : ⊥ = cc in no)
open-some n (b ∷ bs) uncast = by b.vote uncast (open-some (n + 1) bs) where
  by : (o : Option Vote) → (is_some o && are_cast bs) ≡ false
      → (are_cast bs ≡ false → (length (open_calls (n + 1) bs) == 0) ≡ false)
      → (length (cond (is_none o) (record { number = n; site = b.site } ∷ open_calls (n + 1) bs)
      (open_calls (n + 1) bs)) == 0) ≡ false
  by None uncast rest = ne_eqb (length (record { number = n; site = b.site } ∷ open_calls (n + 1) bs)) 0
      (λ e. omega arith)
  by (Some vote) uncast rest = rest uncast

pub sent-again : (old : Desk) (b : Begun) (clock first : ℕ) (sites : List ℕ) (takes : List Taken) (desk : Desk)
    (number : ℕ)
    → Waits old b clock first sites takes desk → are_cast (ballots_by b takes first sites) ≡ false
    → sent desk number ≡ desk
sent-again old b clock first sites takes desk number w uncast =
    ap (λ (v : Option Voting). sent_in desk v number) w.voting
    ∙ (λ i. with_voting desk
    (Some (record {
      begun = b;
      calls = cond (open-some first ballots uncast i) (calls_from number (awaited ballots))
          (open_calls first ballots);
      ballots = ballots;
    })))
    ∙ (λ i. with_voting desk (sym w.voting i)) where
      ballots : List Ballot
      ballots = ballots_by b takes first sites

pub sent-in_course : (decl : Declaration) (desk : Desk) (b : Begun) (clock first number : ℕ) (takes : List Taken)
    → 0 < decl.sites → (length (participants decl desk.client b) == 0) ≡ false
    → are_cast (course_ballots decl desk b first takes) ≡ false
    → sent (course_desk decl desk b clock first takes) number ≡ course_desk decl desk b clock first takes
sent-in_course decl desk b clock first number takes some asks uncast =
    sent-again desk b (max desk.clock.value clock) first (participants decl desk.client b) takes
    (course_desk decl desk b clock first takes) number
    (waits-on decl desk b clock first takes some asks uncast) uncast

-- a desk between its client's inputs: no commit waits, or one whose Prepares are numbered

pub record IsOpen (desk : Desk) : Type 0 where
  pub old : Desk
  pub begun : Begun
  pub clock : ℕ
  pub first : ℕ
  pub sites : List ℕ
  pub takes : List Taken
  pub once : Once sites
  pub waits : Waits old begun clock first sites takes desk
  pub uncast : are_cast (ballots_by begun takes first sites) ≡ false

abbrev pub IsSettled : Desk → Type 0
IsSettled desk = (desk.voting ≡ None) ⊎ IsOpen desk

pub settled-sent : (desk : Desk) (number : ℕ) → IsSettled desk → sent desk number ≡ desk
settled-sent desk number (inl none) = ap (λ (v : Option Voting). sent_in desk v number) none
settled-sent desk number (inr o) = sent-again o.old o.begun o.clock o.first o.sites o.takes desk number o.waits o.uncast

counted-none : (desk : Desk) (b : Begun) (o : Option AbortCause) → (counted_out desk b o).desk.voting ≡ None
counted-none desk b None = refl
counted-none desk b (Some why) = refl

pub settled-vote : (desk : Desk) (number : ℕ) (answer : Option Answer) → IsSettled desk
    → IsSettled (vote desk number answer).desk
settled-vote desk number answer (inl none) =
    inl (ap (λ (m : DeskMove). m.desk.voting) (unvoted desk number answer none) ∙ none)
settled-vote desk number answer (inr o) =
    by (are_cast (ballots_by o.begun (o.takes ++ t ∷ []) o.first o.sites)) refl where
      t : Taken
      t = record { number = number; answer = answer }

      one : IsTaken o.old o.begun o.clock o.first o.sites o.takes t desk
      one = takes-one o.old o.begun o.clock o.first o.sites o.takes t desk o.waits o.once

      by : (x : Bool) → are_cast (ballots_by o.begun (o.takes ++ t ∷ []) o.first o.sites) ≡ x
          → IsSettled (vote desk number answer).desk
      by true all = inl (ap (λ (m : DeskMove). m.desk.voting) (one.ends o.uncast all).0
          ∙ counted-none (learns desk answer) o.begun
          (first_against (ballots_by o.begun (o.takes ++ t ∷ []) o.first o.sites)))
      by false uncast = inr (record {
        old = o.old;
        begun = o.begun;
        clock = o.clock;
        first = o.first;
        sites = o.sites;
        takes = o.takes ++ t ∷ [];
        once = o.once;
        waits = (one.goes uncast).0;
        uncast = uncast;
      })

blank-uncast : (b : Begun) (n : ℕ) (sites : List ℕ) → (length sites == 0) ≡ false
    → are_cast (ballots_by b [] n sites) ≡ false
blank-uncast b n [] some = absurd (let no : ⊥ = cc in no)
blank-uncast b n (site ∷ sites) some = refl

pub settled-prepare : (decl : Declaration) (desk : Desk) (b : Begun) (clock first : ℕ) → 0 < decl.sites
    → IsSettled (sent (prepare decl desk b clock).desk first)
settled-prepare decl desk b clock first some = by (length (participants decl desk.client b) == 0) refl where
  by : (x : Bool) → (length (participants decl desk.client b) == 0) ≡ x
      → IsSettled (sent (prepare decl desk b clock).desk first)
  by true none = inl (ap (λ (v : Option Voting). (sent_in (prepare decl desk b clock).desk v first).voting) ended
      ∙ ended) where
        ended : (prepare decl desk b clock).desk.voting ≡ None
        ended = (commits-at-once decl desk b clock none).ended
  by false asks = inr (record {
    old = desk;
    begun = b;
    clock = max desk.clock.value clock;
    first = first;
    sites = participants decl desk.client b;
    takes = [];
    once = participants-once decl desk.client b some;
    waits = starts decl desk b clock first asks;
    uncast = blank-uncast b first (participants decl desk.client b) asks;
  })
