-- How a commit goes: it waits until all votes are in, and then it is decided.
use Rattle.std.proofs.Common.{◌≡◌, ℕ, ◌+◌, ◌<◌, ◌==◌, ◌&&◌, Bool, true, false, cond, List, [], ◌∷◌, ◌++◌, length, max}
use Rattle.std.proofs.Common.{Option, Some, None, option_map, refl, sym, ap, ◌∙◌, subst, arith, append_assoc}
use Rattle.std.specs.Option.{is_some}
use Rattle.std.proofs.lemmas.List.{append-nil}
use Rattle.qc_decl.specs.declared.declaration.Declaration.{Declaration}
use Rattle.qc_msg.specs.declared.begun.Begun.{Begun}
use Rattle.qc_msg.specs.declared.call.Call.{Call}
use Rattle.qc_msg.specs.declared.message.Answer.{Answer}
use Rattle.qc_msg.specs.declared.reply.AbortCause.{AbortCause}
use Rattle.qc_msg.specs.Vocabulary.{calls_from, quiet, site_called}
use Rattle.qc_commit.specs.declared.ballot.Ballot.{Ballot}
use Rattle.qc_commit.specs.declared.ballot.Vote.TheVariants.{Against}
use Rattle.qc_commit.specs.declared.desk.Desk.{Desk}
use Rattle.qc_commit.specs.Vocabulary.{AreFor, DeskMove, IsWaiting, Taken, after_all, are_cast, awaited, ballots_by}
use Rattle.qc_commit.specs.Vocabulary.{blank, counted_out, counts, course_ballots, course_clock, course_desk}
use Rattle.qc_commit.specs.Vocabulary.{first_against, first_taken, greatest_promised, learns, moved, open_calls}
use Rattle.qc_commit.specs.Vocabulary.{participants, prepare, promised, sent, vote, vote_of, votes_at, votes_in}
use Rattle.qc_commit.proofs.Asking.{participants-once}
use Rattle.qc_commit.proofs.Counting.{IsCounted, IsUncounted, counted, taken-stays, uncounted, max-assoc}
use Rattle.qc_commit.proofs.Learned.{learned-client, learned-clock, learned-commits}
use Rattle.qc_commit.proofs.Once.{Once}

-- a commit waits with all that was taken
abbrev pub Waits : Desk → Begun → ℕ → ℕ → List ℕ → List Taken → Desk → Type 0
Waits old b clock first sites takes desk =
    IsWaiting old b (max clock (greatest_promised takes first sites))
    (open_calls first (ballots_by b takes first sites)) (ballots_by b takes first sites) desk

-- once the Prepares are sent

blank-by : (b : Begun) (n : ℕ) (sites : List ℕ) → blank sites ≡ ballots_by b [] n sites
blank-by b n [] = refl
blank-by b n (site ∷ sites) = ap (λ (bs : List Ballot). record { site = site; vote = None } ∷ bs)
    (blank-by b (n + 1) sites)

calls-by : (b : Begun) (n : ℕ) (sites : List ℕ)
    → calls_from n (awaited (blank sites)) ≡ open_calls n (ballots_by b [] n sites)
calls-by b n [] = refl
calls-by b n (site ∷ sites) = ap (λ (cs : List Call). record { number = n; site = site } ∷ cs)
    (calls-by b (n + 1) sites)

none-promised : (n : ℕ) (sites : List ℕ) → greatest_promised [] n sites ≡ 0
none-promised n [] = refl
none-promised n (site ∷ sites) = let rest : greatest_promised [] (n + 1) sites ≡ 0 = none-promised (n + 1) sites in
    omega arith

pub starts : (decl : Declaration) (desk : Desk) (b : Begun) (clock first : ℕ)
    → (length (participants decl desk.client b) == 0) ≡ false
    → Waits desk b (max desk.clock.value clock) first (participants decl desk.client b) []
    (sent (prepare decl desk b clock).desk first)
starts decl desk b clock first some = rw some (record {
  voting = λ i. Some (record { begun = b; calls = calls-by b first sites i; ballots = blank-by b first sites i });
  clock = let none : greatest_promised [] first sites ≡ 0 = none-promised first sites in omega arith;
  client = refl;
  commits = refl;
}) where
  sites : List ℕ
  sites = participants decl desk.client b

-- what is taken while a commit waits

pub record IsTaken (old : Desk) (b : Begun) (clock first : ℕ) (sites : List ℕ) (takes : List Taken) (t : Taken)
    (desk : Desk) : Type 0 where
  pub goes : are_cast (ballots_by b (takes ++ t ∷ []) first sites) ≡ false
      → Waits old b clock first sites (takes ++ t ∷ []) (vote desk t.number t.answer).desk
      × ((vote desk t.number t.answer).turn ≡ quiet)
  pub ends : are_cast (ballots_by b takes first sites) ≡ false
      → are_cast (ballots_by b (takes ++ t ∷ []) first sites) ≡ true
      → (vote desk t.number t.answer ≡ counted_out (learns desk t.answer) b
      (first_against (ballots_by b (takes ++ t ∷ []) first sites)))
      × ((learns desk t.answer).clock.value ≡ max clock (greatest_promised (takes ++ t ∷ []) first sites))

-- of a number that no open Prepare has
put-aside : (old : Desk) (b : Begun) (clock first : ℕ) (sites : List ℕ) (takes : List Taken) (t : Taken) (desk : Desk)
    → Waits old b clock first sites takes desk
    → site_called (open_calls first (ballots_by b takes first sites)) t.number ≡ None
    → vote desk t.number t.answer ≡ moved desk quiet
put-aside old b clock first sites takes t desk w none =
    (λ i. votes_in desk (w.voting i) t.number t.answer)
    ∙ (λ i. votes_at desk (record {
      begun = b;
      calls = open_calls first (ballots_by b takes first sites);
      ballots = ballots_by b takes first sites;
    }) t.number t.answer (none i))

takes-none : (old : Desk) (b : Begun) (clock first : ℕ) (sites : List ℕ) (takes : List Taken) (t : Taken) (desk : Desk)
    → Waits old b clock first sites takes desk
    → site_called (open_calls first (ballots_by b takes first sites)) t.number ≡ None
    → IsTaken old b clock first sites takes t desk
takes-none old b clock first sites takes t desk w none = record {
  goes = λ waits. (
    subst (λ m. Waits old b clock first sites (takes ++ t ∷ []) m.desk) (sym is) now,
    ap (λ (m : DeskMove). m.turn) is,
  );
  ends = λ before after. absurd (let never : are_cast (ballots_by b takes first sites) ≡ true =
      ap are_cast (sym u.ballots) ∙ after in let no : ⊥ = cc in no);
} where
  is : vote desk t.number t.answer ≡ moved desk quiet
  is = put-aside old b clock first sites takes t desk w none

  u : IsUncounted b takes t first sites
  u = uncounted b takes t first sites none

  now : Waits old b clock first sites (takes ++ t ∷ []) desk
  now = record {
    voting = w.voting
        ∙ (λ i. Some (record { begun = b; calls = open_calls first (sym u.ballots i); ballots = sym u.ballots i }));
    clock = w.clock ∙ ap (λ (g : ℕ). max clock g) (sym u.promises);
    client = w.client;
    commits = w.commits;
  }

takes-some : (old : Desk) (b : Begun) (clock first : ℕ) (sites : List ℕ) (takes : List Taken) (t : Taken) (desk : Desk)
    (s : ℕ) → Waits old b clock first sites takes desk
    → Once sites → site_called (open_calls first (ballots_by b takes first sites)) t.number ≡ Some s
    → IsTaken old b clock first sites takes t desk
takes-some old b clock first sites takes t desk s w once called = record {
  goes = λ waits. (
    subst (λ m. Waits old b clock first sites (takes ++ t ∷ []) m.desk)
        (sym (is ∙ (λ i. cond (waits i) (counted_out (learns desk t.answer) b (first_against next)) on))) now,
    ap (λ (m : DeskMove). m.turn) (is ∙ (λ i. cond (waits i)
        (counted_out (learns desk t.answer) b (first_against next)) on)),
  );
  ends = λ before after. (
    is ∙ (λ i. cond (after i) (counted_out (learns desk t.answer) b (first_against next)) on),
    clock_is,
  );
} where
  c : IsCounted b takes t first sites s
  c = counted b takes t first sites s once called

  next : List Ballot
  next = ballots_by b (takes ++ t ∷ []) first sites

  on : DeskMove
  on = moved (record (learns desk t.answer)
      { voting = Some (record { begun = b; calls = open_calls first next; ballots = next }) }) quiet

  is : vote desk t.number t.answer ≡ counts (learns desk t.answer) b (open_calls first next) next
  is =
      (λ i. votes_in desk (w.voting i) t.number t.answer)
      ∙ (λ i. votes_at desk (record {
        begun = b;
        calls = open_calls first (ballots_by b takes first sites);
        ballots = ballots_by b takes first sites;
      }) t.number t.answer (called i))
      ∙ (λ i. counts (learns desk t.answer) b (c.calls i) (c.ballots i))

  clock_is : (learns desk t.answer).clock.value ≡ max clock (greatest_promised (takes ++ t ∷ []) first sites)
  clock_is =
      learned-clock desk t.answer ∙ ap (λ (n : ℕ). max n (promised t.answer)) w.clock
      ∙ max-assoc clock (greatest_promised takes first sites) (promised t.answer)
      ∙ ap (λ (g : ℕ). max clock g) (sym c.promises)

  now : Waits old b clock first sites (takes ++ t ∷ []) on.desk
  now = record {
    voting = refl;
    clock = clock_is;
    client = learned-client desk t.answer ∙ w.client;
    commits = learned-commits desk t.answer ∙ w.commits;
  }

pub takes-one : (old : Desk) (b : Begun) (clock first : ℕ) (sites : List ℕ) (takes : List Taken) (t : Taken)
    (desk : Desk) → Waits old b clock first sites takes desk
    → Once sites → IsTaken old b clock first sites takes t desk
takes-one old b clock first sites takes t desk w once =
    by (site_called (open_calls first (ballots_by b takes first sites)) t.number) refl where
      by : (o : Option ℕ) → site_called (open_calls first (ballots_by b takes first sites)) t.number ≡ o
          → IsTaken old b clock first sites takes t desk
      by None none = takes-none old b clock first sites takes t desk w none
      by (Some s) called = takes-some old b clock first sites takes t desk s w once called

-- all that is taken, one after another

cast-stays : (b : Begun) (takes more : List Taken) (n : ℕ) (sites : List ℕ)
    → are_cast (ballots_by b takes n sites) ≡ true → are_cast (ballots_by b (takes ++ more) n sites) ≡ true
cast-stays b takes more n [] cast_all = refl
cast-stays b takes more n (site ∷ sites) cast_all =
    by (first_taken takes n) refl cast_all (cast-stays b takes more (n + 1) sites) where
      by : (o : Option (Option Answer)) → first_taken takes n ≡ o
          → (is_some (option_map (vote_of b site) o) && are_cast (ballots_by b takes (n + 1) sites)) ≡ true
          → (are_cast (ballots_by b takes (n + 1) sites) ≡ true
          → are_cast (ballots_by b (takes ++ more) (n + 1) sites) ≡ true)
          → (is_some (option_map (vote_of b site) (first_taken (takes ++ more) n))
          && are_cast (ballots_by b (takes ++ more) (n + 1) sites)) ≡ true
      by None is never rest = absurd (let no : ⊥ = cc in no)
      by (Some a) is cast_all rest =
          (λ i. is_some (option_map (vote_of b site) (taken-stays takes more n a is i)) && rest cast_all i)

uncast-before : (b : Begun) (takes more : List Taken) (n : ℕ) (sites : List ℕ)
    → are_cast (ballots_by b (takes ++ more) n sites) ≡ false → are_cast (ballots_by b takes n sites) ≡ false
uncast-before b takes more n sites uncast = by (are_cast (ballots_by b takes n sites)) refl where
  by : (t : Bool) → are_cast (ballots_by b takes n sites) ≡ t → t ≡ false
  by true is = absurd (let never : are_cast (ballots_by b (takes ++ more) n sites) ≡ true =
      cast-stays b takes more n sites is in let no : ⊥ = cc in no)
  by false is = refl

takes-all : (old : Desk) (b : Begun) (clock first : ℕ) (sites : List ℕ) (takes more : List Taken) (desk : Desk)
    → Once sites → Waits old b clock first sites takes desk
    → are_cast (ballots_by b (takes ++ more) first sites) ≡ false
    → Waits old b clock first sites (takes ++ more) (after_all desk more)
takes-all old b clock first sites takes [] desk once w uncast =
    subst (λ v. Waits old b clock first sites v desk) (sym (append-nil takes)) w
takes-all old b clock first sites takes (t ∷ more) desk once w uncast =
    let same : (takes ++ t ∷ []) ++ more ≡ takes ++ t ∷ more = append_assoc takes (t ∷ []) more in
    let later : are_cast (ballots_by b ((takes ++ t ∷ []) ++ more) first sites) ≡ false =
    ap (λ (v : List Taken). are_cast (ballots_by b v first sites)) same ∙ uncast in
    let now : Waits old b clock first sites (takes ++ t ∷ []) (vote desk t.number t.answer).desk =
    ((takes-one old b clock first sites takes t desk w once).goes
    (uncast-before b (takes ++ t ∷ []) more first sites later)).0 in
    subst (λ v. Waits old b clock first sites v (after_all desk (t ∷ more))) same
    (takes-all old b clock first sites (takes ++ t ∷ []) more (vote desk t.number t.answer).desk once now later)

-- while votes are out, the commit waits
pub waits-on : (decl : Declaration) (desk : Desk) (b : Begun) (clock first : ℕ) (takes : List Taken) → 0 < decl.sites
    → (length (participants decl desk.client b) == 0) ≡ false
    → are_cast (course_ballots decl desk b first takes) ≡ false
    → Waits desk b (max desk.clock.value clock) first (participants decl desk.client b) takes
    (course_desk decl desk b clock first takes)
waits-on decl desk b clock first takes some asks uncast =
    takes-all desk b (max desk.clock.value clock) first (participants decl desk.client b) [] takes
    (sent (prepare decl desk b clock).desk first)
    (participants-once decl desk.client b some) (starts decl desk b clock first asks) uncast

pub waits-quietly : (decl : Declaration) (desk : Desk) (b : Begun) (clock first : ℕ) (takes : List Taken) (t : Taken)
    → 0 < decl.sites → (length (participants decl desk.client b) == 0) ≡ false
    → are_cast (course_ballots decl desk b first (takes ++ t ∷ [])) ≡ false
    → (vote (course_desk decl desk b clock first takes) t.number t.answer).turn ≡ quiet
waits-quietly decl desk b clock first takes t some asks uncast =
    let w = waits-on decl desk b clock first takes some asks
    (uncast-before b takes (t ∷ []) first (participants decl desk.client b) uncast) in
    ((takes-one desk b (max desk.clock.value clock) first (participants decl desk.client b) takes t
    (course_desk decl desk b clock first takes) w (participants-once decl desk.client b some)).goes uncast).1

-- what all votes come to

pub for-none : (ballots : List Ballot) → AreFor ballots → first_against ballots ≡ None
for-none [] all = refl
for-none (b ∷ bs) all = rw all.0 (for-none bs all.1)

pub for-cast : (ballots : List Ballot) → AreFor ballots → are_cast ballots ≡ true
for-cast [] all = refl
for-cast (b ∷ bs) all = rw all.0 (for-cast bs all.1)

pub refused-why : (before : List Ballot) (site : ℕ) (why : AbortCause) (after : List Ballot) → AreFor before
    → first_against (before ++ record { site = site; vote = Some (Against why) } ∷ after) ≡ Some why
refused-why [] site why after agree = refl
refused-why (b ∷ bs) site why after agree = rw agree.0 (refused-why bs site why after agree.1)

-- the move by which a commit ends
pub ends-by : (decl : Declaration) (desk : Desk) (b : Begun) (clock first : ℕ) (takes : List Taken) (t : Taken)
    (o : Option AbortCause) → 0 < decl.sites → (length (participants decl desk.client b) == 0) ≡ false
    → are_cast (course_ballots decl desk b first takes) ≡ false
    → are_cast (course_ballots decl desk b first (takes ++ t ∷ [])) ≡ true
    → first_against (course_ballots decl desk b first (takes ++ t ∷ [])) ≡ o
    → vote (course_desk decl desk b clock first takes) t.number t.answer ≡ counted_out
    (learns (course_desk decl desk b clock first takes) t.answer) b o
ends-by decl desk b clock first takes t o some asks uncast all is =
    let w = waits-on decl desk b clock first takes some asks uncast in
    ((takes-one desk b (max desk.clock.value clock) first (participants decl desk.client b) takes t
    (course_desk decl desk b clock first takes) w (participants-once decl desk.client b some)).ends uncast all).0
    ∙ ap (counted_out (learns (course_desk decl desk b clock first takes) t.answer) b) is

pub ends-clock : (decl : Declaration) (desk : Desk) (b : Begun) (clock first : ℕ) (takes : List Taken) (t : Taken)
    → 0 < decl.sites → (length (participants decl desk.client b) == 0) ≡ false
    → are_cast (course_ballots decl desk b first takes) ≡ false
    → are_cast (course_ballots decl desk b first (takes ++ t ∷ [])) ≡ true
    → (learns (course_desk decl desk b clock first takes) t.answer).clock.value ≡ course_clock decl desk b clock first
    (takes ++ t ∷ [])
ends-clock decl desk b clock first takes t some asks uncast all =
    let w = waits-on decl desk b clock first takes some asks uncast in
    ((takes-one desk b (max desk.clock.value clock) first (participants decl desk.client b) takes t
    (course_desk decl desk b clock first takes) w (participants-once decl desk.client b some)).ends uncast all).1
