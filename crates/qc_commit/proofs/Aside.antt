-- What is put aside: a second thing for one request, and all that is for no open Prepare.
use Rattle.std.proofs.Common.{◌≡◌, ℕ, ◌<◌, ◌≤◌, ◌-◌, ◌==◌, ◌%◌, Bool, true, false, cond, not, List, [], ◌∷◌, map}
use Rattle.std.proofs.Common.{filter, length, Option, Some, None, option_map, refl, sym, ap, ◌∙◌, subst, arith}
use Rattle.std.specs.List.{find}
use Rattle.std.proofs.lemmas.List.{length-map}
use Rattle.qc_decl.specs.declared.declaration.Declaration.{Declaration}
use Rattle.qc_decl.specs.Vocabulary.{most_sites}
use Rattle.qc_plan.specs.Vocabulary.{cyclic}
use Rattle.qc_msg.specs.declared.begun.Begun.{Begun}
use Rattle.qc_msg.specs.declared.call.Call.{Call}
use Rattle.qc_msg.specs.declared.message.Answer.{Answer}
use Rattle.qc_msg.specs.declared.reply.AbortCause.{AbortCause}
use Rattle.qc_msg.specs.Vocabulary.{has_granted, quiet, sending, site_called, without_call}
use Rattle.qc_commit.specs.declared.ballot.Ballot.{Ballot}
use Rattle.qc_commit.specs.declared.ballot.Vote.{Vote}
use Rattle.qc_commit.specs.declared.desk.Desk.{Desk}
use Rattle.qc_commit.specs.declared.desk.Voting.{Voting}
use Rattle.qc_commit.specs.Vocabulary.{AsksFew, DeskCall, DeskMove, HasFew, Numbers, Prepares, Sends, Votes, after_call}
use Rattle.qc_commit.specs.Vocabulary.{are_cast, blank, cast, counted_out, counts, decides, first_against, learns}
use Rattle.qc_commit.specs.Vocabulary.{moved, participants, passed, prepare, prepared_in, prepares, sent_in, vote}
use Rattle.qc_commit.specs.Vocabulary.{vote_of, votes_at, votes_in}
use Rattle.qc_list.proofs.Members.{length-filter}
use Rattle.qc_plan.proofs.Rounds.{length-cyclic}

-- a request that something was taken for isn't open any more

uncalled : (calls : List Call) (number : ℕ) → site_called (without_call calls number) number ≡ None
uncalled calls number = ap (λ (o : Option Call). option_map (λ (c : Call). c.site) o)
    (find-none (λ (c : Call). c.number == number) calls) where
      find-none : (p : Call → Bool) (xs : List Call) → find p (filter (λ x. not (p x)) xs) ≡ None
      find-none p [] = refl
      find-none p (x ∷ xs) = by (p x) refl (find-none p xs) where
        by : (t : Bool) → p x ≡ t → find p (filter (λ y. not (p y)) xs) ≡ None
            → find p (cond (not t) (x ∷ filter (λ y. not (p y)) xs) (filter (λ y. not (p y)) xs)) ≡ None
        by true is rest = rest
        by false is rest = rw is rest

pub unvoted : (desk : Desk) (number : ℕ) (answer : Option Answer) → desk.voting ≡ None
    → vote desk number answer ≡ moved desk quiet
unvoted desk number answer none = ap (λ (v : Option Voting). votes_in desk v number answer) none

pub unasked : (desk : Desk) (v : Voting) (number : ℕ) (answer : Option Answer) → desk.voting ≡ Some v
    → site_called v.calls number ≡ None → vote desk number answer ≡ moved desk quiet
unasked desk v number answer is none = ap (λ (o : Option Voting). votes_in desk o number answer) is
    ∙ ap (λ (o : Option ℕ). votes_at desk v number answer o) none

-- the second thing that is taken for a request is put aside
pub second-aside : (desk : Desk) (number : ℕ) (one two : Option Answer)
    → vote (vote desk number one).desk number two ≡ moved (vote desk number one).desk quiet
second-aside desk number one two = by desk.voting refl where
  ended : (learned : Desk) (b : Begun) (o : Option AbortCause)
      → vote (counted_out learned b o).desk number two ≡ moved (counted_out learned b o).desk quiet
  ended learned b (Some why) = refl
  ended learned b None = refl

  counts-aside : (learned : Desk) (b : Begun) (calls : List Call) (ballots : List Ballot)
      → site_called calls number ≡ None
      → vote (counts learned b calls ballots).desk number two ≡ moved (counts learned b calls ballots).desk quiet
  counts-aside learned b calls ballots none = on (are_cast ballots) where
    waiting : DeskMove
    waiting = moved (record learned { voting = Some (record { begun = b; calls = calls; ballots = ballots }) }) quiet

    on : (t : Bool) → vote (cond t (counted_out learned b (first_against ballots)) waiting).desk number two ≡ moved
        (cond t (counted_out learned b (first_against ballots)) waiting).desk quiet
    on true = ended learned b (first_against ballots)
    on false = unasked waiting.desk (record { begun = b; calls = calls; ballots = ballots }) number two refl none

  at : (v : Voting) → desk.voting ≡ Some v → (o : Option ℕ) → site_called v.calls number ≡ o
      → vote (votes_at desk v number one o).desk number two ≡ moved (votes_at desk v number one o).desk quiet
  at v is None none = unasked desk v number two is none
  at v is (Some site) called = counts-aside (learns desk one) v.begun (without_call v.calls number)
      (cast v.ballots site (vote_of v.begun site one)) (uncalled v.calls number)

  by : (o : Option Voting) → desk.voting ≡ o
      → vote (votes_in desk o number one).desk number two ≡ moved (votes_in desk o number one).desk quiet
  by None is = unvoted desk number two is
  by (Some v) is = at v is (site_called v.calls number) refl

-- few sites are asked

participants-few : (decl : Declaration) (client : ℕ) (b : Begun) → 0 < decl.sites
    → length (participants decl client b) ≤ decl.sites
participants-few decl client b some =
    let all : length (cyclic decl.sites (client % decl.sites)) ≡ decl.sites =
    length-cyclic decl.sites (client % decl.sites) (omega arith) in
    let kept : length (participants decl client b) ≤ length (cyclic decl.sites (client % decl.sites)) =
    length-filter (has_granted b.lives) (cyclic decl.sites (client % decl.sites)) in
    omega arith

length-cast : (ballots : List Ballot) (site : ℕ) (vote : Vote) → length (cast ballots site vote) ≡ length ballots
length-cast [] site vote = refl
length-cast (b ∷ bs) site vote = by (b.site == site) (length-cast bs site vote) where
  by : (t : Bool) → length (cast bs site vote) ≡ length bs
      → length (cond t (record { site = site; vote = Some vote } ∷ bs) (b ∷ cast bs site vote)) ≡ length (b ∷ bs)
  by true rest = refl
  by false rest = omega arith

votes-few : (desk : Desk) (number : ℕ) (answer : Option Answer) → AsksFew desk.voting
    → AsksFew (vote desk number answer).desk.voting
votes-few desk number answer few = by desk.voting refl few where
  ended : (learned : Desk) (b : Begun) (o : Option AbortCause) → AsksFew (counted_out learned b o).desk.voting
  ended learned b (Some why) = tt
  ended learned b None = tt

  counts-few : (learned : Desk) (b : Begun) (calls : List Call) (ballots : List Ballot) → length ballots ≤ most_sites
      → AsksFew (counts learned b calls ballots).desk.voting
  counts-few learned b calls ballots low = on (are_cast ballots) where
    on : (t : Bool) → AsksFew (cond t (counted_out learned b (first_against ballots))
        (moved (record learned { voting = Some (record { begun = b; calls = calls; ballots = ballots }) })
        quiet)).desk.voting
    on true = ended learned b (first_against ballots)
    on false = low

  at : (v : Voting) → desk.voting ≡ Some v → length v.ballots ≤ most_sites → (o : Option ℕ)
      → AsksFew (votes_at desk v number answer o).desk.voting
  at v is low None = subst AsksFew (sym is) low
  at v is low (Some site) = counts-few (learns desk answer) v.begun (without_call v.calls number)
      (cast v.ballots site (vote_of v.begun site answer))
      (let same : length (cast v.ballots site (vote_of v.begun site answer)) ≡ length v.ballots =
      length-cast v.ballots site (vote_of v.begun site answer) in omega arith)

  by : (o : Option Voting) → desk.voting ≡ o → AsksFew o → AsksFew (votes_in desk o number answer).desk.voting
  by None is low = subst AsksFew (sym is) tt
  by (Some v) is low = at v is low (site_called v.calls number)

prepares-few : (decl : Declaration) (desk : Desk) (b : Begun) (clock : ℕ) → 0 < decl.sites → decl.sites ≤ most_sites
    → AsksFew (prepare decl desk b clock).desk.voting
prepares-few decl desk b clock some few = by (length (participants decl desk.client b) == 0) where
  low : length (blank (participants decl desk.client b)) ≤ most_sites
  low =
      let kept : length (participants decl desk.client b) ≤ decl.sites = participants-few decl desk.client b some in
      omega (
        arith,
        length-map {B = Ballot} (participants decl desk.client b)
            (λ (site : ℕ). record { site = site; vote = None }),
      )

  by : (t : Bool) → AsksFew (cond t (decides (passed desk clock) b)
      (moved (record (passed desk clock) {
        voting =
            Some (record { begun = b; calls = []; ballots = blank (participants decl desk.client b) });
      })
      (sending (map (prepares b) (participants decl desk.client b))))).desk.voting
  by true = tt
  by false = low

pub few_sites_are_asked : (desk : Desk) (call : DeskCall) → HasFew call → AsksFew desk.voting
    → AsksFew (after_call desk call).voting
few_sites_are_asked desk (Prepares decl b clock) has few = prepares-few decl desk b clock has.0 has.1
few_sites_are_asked desk (Votes number answer) has few = votes-few desk number answer few
few_sites_are_asked desk (Numbers first) has few = by desk.voting refl few where
  by : (o : Option Voting) → desk.voting ≡ o → AsksFew o → AsksFew (sent_in desk o first).voting
  by None is low = subst AsksFew (sym is) tt
  by (Some v) is low = low
few_sites_are_asked desk (Sends number site) has few = by desk.voting refl few where
  by : (o : Option Voting) → desk.voting ≡ o → AsksFew o → AsksFew (prepared_in desk o number site).voting
  by None is low = subst AsksFew (sym is) tt
  by (Some v) is low = low
