-- The commit records that came to stand, each once: where records are kept, those of each actor are just those in its
-- journal.
use Rattle.std.proofs.Common.{◌≡◌, ◌+◌, ◌==◌, ℕ, zero, suc, Bool, true, false, cond, drop, List, [], ◌∷◌, ◌++◌, fold}
use Rattle.std.proofs.Common.{filter, length, length-append, map, inl, inr, Option, Some, None, option_to_list, refl}
use Rattle.std.proofs.Common.{sym, ap, ◌∙◌, subst, arith, append_assoc, eq-eqb, eqb-true}
use Rattle.std.specs.Prelude.{sum_by}
use Rattle.std.specs.List.{AllByRecursion as Every, cons_option}
use Rattle.std.proofs.lemmas.List.{append-nil}
use Rattle.std.proofs.lemmas.List.Elements.{filter-append}
use Rattle.std.proofs.lemmas.List.Sums.{fold-append, sum_by-append, sum_by-cons}
use Rattle.laws_votes.proofs.Distinct.{answers_of}
use Rattle.laws_bounds.proofs.Names.{RecordNamed}
use Rattle.laws_bounds.specs.Vocabulary.{AllPut, records_at}
use Rattle.qc_decl.specs.Vocabulary.{client_actor}
use Rattle.qc_decl.specs.declared.declaration.Declaration.{Declaration}
use Rattle.qc_entry.specs.declared.record.Commit.{Commit as CommitRecord}
use Rattle.qc_list.proofs.Members.{In-second, every-In}
use Rattle.qc_list.specs.Vocabulary.{In}
use Rattle.qc_msg.proofs.DeedsGrow.{own-append}
use Rattle.qc_msg.proofs.Growth.{tally-more}
use Rattle.qc_msg.specs.Vocabulary.{Entry, Tally, answered_at, answered_in, answered_in_all, commit_of, no_tally}
use Rattle.qc_msg.specs.Vocabulary.{operations_of, own, standing_after, tally_of, tally_with}
use Rattle.qc_msg.specs.declared.record.Record.{Record}
use Rattle.qc_msg.specs.declared.record.Record.TheVariants.{Commit}
use Rattle.qc_msg.specs.declared.step.Step.{Step}
use Rattle.qc_msg.specs.declared.step.Step.TheVariants as steps
use Rattle.qc_promise.specs.Vocabulary.{IsGivenBack, IsKeptAt, Journal, Kept, journal_of, journal_with, no_journal}
use Rattle.laws_reach.proofs.Written.{is_among}
use Rattle.laws_reach.specs.Vocabulary.{records_of}
use Rattle.laws_reach.proofs.RisingStamps.{commits_more, commits_of}
use Rattle.laws_reach.proofs.Committing.{own_one}
use Rattle.qc_list.proofs.Numbers.{test_turned}

-- the commit records that a step brings to stand, where so many records stood before it
abbrev pub brought_at : ℕ → Step → List CommitRecord
brought_at n (steps.Phase k) = []
brought_at n (steps.Cut a b) = []
brought_at n (steps.Heal a b) = []
brought_at n (steps.Armed actor kind at) = []
brought_at n (steps.Called command) = []
brought_at n (steps.Got number) = []
brought_at n (steps.Lost number) = []
brought_at n (steps.Wrote r) = commits_of (r ∷ [])
brought_at n (steps.Sent number to message) = []
brought_at n (steps.Told reply) = []
brought_at n (steps.Fell cause pending) = []
brought_at n (steps.Rose rs) = commits_of (drop n rs)
brought_at n (steps.Damaged offset) = []

abbrev pub brought : Tally → List Entry → List CommitRecord
brought t [] = []
brought t (e ∷ h) = brought_at (t.standing e.actor) e.step ++ brought (tally_with t e) h

-- a run counts their operations

answered_commits : (rs : List Record) → answered_in_all rs ≡ sum_by answers_of (commits_of rs)
answered_commits [] = refl
answered_commits (r ∷ rs) = sum_by-cons (λ (x : Record). answered_in (commit_of x)) r rs
    ∙ ap (λ (n : ℕ). answered_in (commit_of r) + n) (answered_commits rs) ∙ by (commit_of r)
  where
    by : (o : Option CommitRecord) → answered_in o + sum_by answers_of (commits_of rs) ≡ sum_by answers_of
        (cons_option o (commits_of rs))
    by None = omega arith
    by (Some c) = sym (sum_by-cons answers_of c (commits_of rs))

answered_brought : (n : ℕ) (step : Step) → answered_at n step ≡ sum_by answers_of (brought_at n step)
answered_brought n (steps.Phase k) = refl
answered_brought n (steps.Cut a b) = refl
answered_brought n (steps.Heal a b) = refl
answered_brought n (steps.Armed actor kind at) = refl
answered_brought n (steps.Called command) = refl
answered_brought n (steps.Got number) = refl
answered_brought n (steps.Lost number) = refl
answered_brought n (steps.Wrote r) =
    let all : answered_in_all (r ∷ []) ≡ sum_by answers_of (commits_of (r ∷ [])) = answered_commits (r ∷ []) in
    let one : answered_in_all (r ∷ []) ≡ answered_in (commit_of r) + answered_in_all [] =
    sum_by-cons (λ (x : Record). answered_in (commit_of x)) r [] in
    let none : answered_in_all [] ≡ 0 = refl in
    omega arith
answered_brought n (steps.Sent number to message) = refl
answered_brought n (steps.Told reply) = refl
answered_brought n (steps.Fell cause pending) = refl
answered_brought n (steps.Rose rs) = answered_commits (drop n rs)
answered_brought n (steps.Damaged offset) = refl

counted_from : (t : Tally) (h : List Entry)
    → (fold tally_with t h).operations ≡ t.operations + sum_by answers_of (brought t h)
counted_from t [] = let none : sum_by answers_of [] ≡ 0 = refl in omega arith
counted_from t (e ∷ h) =
    let rest : (fold tally_with (tally_with t e) h).operations ≡
    (t.operations + answered_at (t.standing e.actor) e.step) + sum_by answers_of (brought (tally_with t e) h) =
    counted_from (tally_with t e) h in
    let one : answered_at (t.standing e.actor) e.step ≡ sum_by answers_of (brought_at (t.standing e.actor) e.step) =
    answered_brought (t.standing e.actor) e.step in
    let both : sum_by answers_of (brought t (e ∷ h)) ≡ sum_by answers_of
    (brought_at (t.standing e.actor) e.step) + sum_by answers_of (brought (tally_with t e) h) =
    sum_by-append answers_of (brought_at (t.standing e.actor) e.step) (brought (tally_with t e) h) in
    omega arith

pub counted_brought : (h : List Entry) → operations_of h ≡ sum_by answers_of (brought no_tally h)
counted_brought h = let all : operations_of h ≡ 0 + sum_by answers_of (brought no_tally h) = counted_from no_tally h in
    omega arith

-- as many records stand as the journal has

stands_by : (j : Journal) (step : Step) → standing_after (length j.records) step ≡ length (journal_with j step).records
stands_by j (steps.Phase k) = refl
stands_by j (steps.Cut a b) = refl
stands_by j (steps.Heal a b) = refl
stands_by j (steps.Armed actor kind at) = refl
stands_by j (steps.Called command) = refl
stands_by j (steps.Got number) = refl
stands_by j (steps.Lost number) = refl
stands_by j (steps.Wrote r) = let all : length (j.records ++ r ∷ []) ≡ length j.records + length (r ∷ []) =
    length-append j.records (r ∷ []) in omega arith
stands_by j (steps.Sent number to message) = refl
stands_by j (steps.Told reply) = refl
stands_by j (steps.Fell cause pending) = refl
stands_by j (steps.Rose rs) = refl
stands_by j (steps.Damaged offset) = refl

stands_from : (a : ℕ) (t : Tally) (j : Journal) (k : List Entry) → t.standing a ≡ length j.records
    → (fold tally_with t k).standing a ≡ length (fold journal_with j (own a k)).records
stands_from a t j [] is = is
stands_from a t j (e ∷ k) is = at (e.actor == a) refl (stands_from a (tally_with t e) j k)
    (stands_from a (tally_with t e) (journal_with j e.step) k)
  where
    here : (e.actor == a) ≡ true → (tally_with t e).standing a ≡ length (journal_with j e.step).records
    here same =
        ap (λ (b : Bool). cond b (standing_after (t.standing a) e.step) (t.standing a))
        (eq-eqb a e.actor (sym (eqb-true e.actor a same)))
        ∙ ap (λ (n : ℕ). standing_after n e.step) is ∙ stands_by j e.step

    there : (e.actor == a) ≡ false → (tally_with t e).standing a ≡ length j.records
    there other = ap (λ (b : Bool). cond b (standing_after (t.standing a) e.step) (t.standing a))
        (test_turned e.actor a other) ∙ is

    at : (u : Bool) → (e.actor == a) ≡ u → ((tally_with t e).standing a ≡ length j.records
        → (fold tally_with (tally_with t e) k).standing a ≡ length (fold journal_with j (own a k)).records)
        → ((tally_with t e).standing a ≡ length (journal_with j e.step).records
        → (fold tally_with (tally_with t e) k).standing a ≡ length
        (fold journal_with (journal_with j e.step) (own a k)).records)
        → (fold tally_with (tally_with t e) k).standing a ≡ length
        (fold journal_with j (map (λ (x : Entry). x.step)
        (cond u (e ∷ filter (λ (x : Entry). x.actor == a) k) (filter (λ (x : Entry). x.actor == a) k)))).records
    at true same other mine = mine (here same)
    at false elsewhere other mine = other (there elsewhere)

stands : (a : ℕ) (h : List Entry) → (tally_of h).standing a ≡ length (records_of h a)
stands a h = stands_from a no_tally no_journal h refl

-- what a step brings is what its journal has more, where records are kept

behind : (xs more : List Record) → drop (length xs) (xs ++ more) ≡ more
behind [] more = refl
behind (x ∷ xs) more = behind xs more

given_more : (records more rs : List Record) → rs ≡ records ++ more
    → commits_of rs ≡ commits_of records ++ commits_of (drop (length records) rs)
given_more records more rs is =
    ap (λ (v : List Record). commits_of v) is ∙ commits_more records more
    ∙ ap (λ (v : List Record). commits_of records ++ commits_of v)
    (sym (behind records more) ∙ ap (λ (v : List Record). drop (length records) v) (sym is))

given_back : (j : Journal) (rs : List Record) → IsGivenBack j rs
    → commits_of rs ≡ commits_of j.records ++ commits_of (drop (length j.records) rs)
given_back j rs (inl same) = given_more j.records [] rs (same ∙ sym (append-nil j.records))
given_back j rs (inr more) = given_more j.records (option_to_list j.pending) rs more

no_more : (cs : List CommitRecord) → cs ≡ cs ++ []
no_more cs = sym (append-nil cs)

added : (before : List Step) (step : Step) → IsKeptAt before step
    → commits_of (journal_with (journal_of before) step).records ≡ commits_of (journal_of before).records ++ brought_at
    (length (journal_of before).records) step
added before (steps.Phase k) kept = no_more _
added before (steps.Cut a b) kept = no_more _
added before (steps.Heal a b) kept = no_more _
added before (steps.Armed actor kind at) kept = no_more _
added before (steps.Called command) kept = no_more _
added before (steps.Got number) kept = no_more _
added before (steps.Lost number) kept = no_more _
added before (steps.Wrote r) kept = commits_more (journal_of before).records (r ∷ [])
added before (steps.Sent number to message) kept = no_more _
added before (steps.Told reply) kept = no_more _
added before (steps.Fell cause pending) kept = no_more _
added before (steps.Rose rs) kept = given_back (journal_of before) rs kept
added before (steps.Damaged offset) kept = absurd kept

in_drop : (n : ℕ) (r : Record) (rs : List Record) → In r (drop n rs) → In r rs
in_drop zero r rs among = among
in_drop (suc n) r [] among = among
in_drop (suc n) r (x ∷ rs) among = inr (in_drop n r rs among)

in_records : (n : ℕ) (step : Step) (c : CommitRecord) → In c (brought_at n step) → In (Commit c) (records_at step)
in_records n (steps.Phase k) c among = absurd among
in_records n (steps.Cut a b) c among = absurd among
in_records n (steps.Heal a b) c among = absurd among
in_records n (steps.Armed actor kind at) c among = absurd among
in_records n (steps.Called command) c among = absurd among
in_records n (steps.Got number) c among = absurd among
in_records n (steps.Lost number) c among = absurd among
in_records n (steps.Wrote r) c among = is_among c (r ∷ []) among
in_records n (steps.Sent number to message) c among = absurd among
in_records n (steps.Told reply) c among = absurd among
in_records n (steps.Fell cause pending) c among = absurd among
in_records n (steps.Rose rs) c among = in_drop n (Commit c) rs (is_among c (drop n rs) among)
in_records n (steps.Damaged offset) c among = absurd among

module _ (decl : Declaration) where
  -- the client whose transaction it is
  abbrev pub home : CommitRecord → ℕ
  home c = client_actor decl c.tx.client

  module _ (h : List Entry) (kept : Kept h) (named : AllPut (RecordNamed decl) h) (a : ℕ) where
    abbrev pub mine : List CommitRecord → List CommitRecord
    mine cs = filter (λ (c : CommitRecord). home c == a) cs

    all_mine : (cs : List CommitRecord) → ((c : CommitRecord) → In c cs → home c ≡ a) → mine cs ≡ cs
    all_mine [] each = refl
    all_mine (c ∷ cs) each =
        ap (λ (b : Bool). cond b (c ∷ mine cs) (mine cs)) (eq-eqb (home c) a (each c (inl refl)))
        ∙ ap (λ (v : List CommitRecord). c ∷ v) (all_mine cs (λ d there. each d (inr there)))

    none_mine : (cs : List CommitRecord) → ((c : CommitRecord) → In c cs → (home c == a) ≡ false) → mine cs ≡ []
    none_mine [] each = refl
    none_mine (c ∷ cs) each = ap (λ (b : Bool). cond b (c ∷ mine cs) (mine cs)) (each c (inl refl))
        ∙ none_mine cs (λ d there. each d (inr there))

    module _ (before later : List Entry) (e : Entry) (all : before ++ e ∷ later ≡ h) where
      abbrev now : List CommitRecord
      now = brought_at ((tally_of before).standing e.actor) e.step

      of_actor : (c : CommitRecord) → In c now → home c ≡ e.actor
      of_actor c among =
          sym (every-In (RecordNamed decl e.actor) (Commit c) (records_at e.step)
          (every-In (λ (x : Entry). Every (RecordNamed decl x.actor) (records_at x.step)) e h named
          (subst (In e) all (In-second e before (e ∷ later) (inl refl))))
          (in_records ((tally_of before).standing e.actor) e.step c among)).0

      more : commits_of (records_of (before ++ e ∷ []) a) ≡ commits_of (records_of before a) ++ mine now
      more = at (e.actor == a) refl
        where
          at : (t : Bool) → (e.actor == a) ≡ t → commits_of (records_of (before ++ e ∷ []) a) ≡ commits_of
              (records_of before a) ++ mine now
          at true same =
              let is : e.actor ≡ a = eqb-true e.actor a same in
              let same_journal : journal_of (own a (before ++ e ∷ [])) ≡ journal_with
              (journal_of (own a before)) e.step =
              ap journal_of (own-append a before (e ∷ [])
              ∙ ap (λ (v : List Step). own a before ++ v) (own_one a e true same))
              ∙ fold-append journal_with no_journal (own a before) (e.step ∷ []) in
              ap (λ (j : Journal). commits_of j.records) same_journal
              ∙ added (own a before) e.step (subst (λ (k : ℕ). IsKeptAt (own k before) e.step) is
              (kept before later e all))
              ∙ ap (λ (n : ℕ). commits_of (records_of before a) ++ brought_at n e.step)
              (sym (stands a before) ∙ ap (λ (k : ℕ). (tally_of before).standing k) (sym is))
              ∙ ap (λ (v : List CommitRecord). commits_of (records_of before a) ++ v)
              (sym (all_mine now (λ c among. of_actor c among ∙ is)))
          at false other =
              ap (λ (v : List Step). commits_of (journal_of v).records)
              (own-append a before (e ∷ []) ∙ ap (λ (v : List Step). own a before ++ v) (own_one a e false other)
              ∙ append-nil (own a before))
              ∙ no_more (commits_of (records_of before a))
              ∙ ap (λ (v : List CommitRecord). commits_of (records_of before a) ++ v)
              (sym (none_mine now (λ c among. ap (λ (k : ℕ). k == a) (of_actor c among) ∙ other)))

    along : (later before : List Entry) → before ++ later ≡ h
        → commits_of (records_of before a) ++ mine (brought (tally_of before) later) ≡ commits_of (records_of h a)
    along [] before all = append-nil (commits_of (records_of before a))
        ∙ ap (λ (k : List Entry). commits_of (records_of k a)) (sym (append-nil before) ∙ all)
    along (e ∷ later) before all =
        ap (λ (v : List CommitRecord). commits_of (records_of before a) ++ v)
        (filter-append (λ (c : CommitRecord). home c == a) (now before later e all)
        (brought (tally_with (tally_of before) e) later))
        ∙ sym (append_assoc (commits_of (records_of before a)) (mine (now before later e all))
        (mine (brought (tally_with (tally_of before) e) later)))
        ∙ ap (λ (v : List CommitRecord). v ++ mine (brought (tally_with (tally_of before) e) later))
        (sym (more before later e all))
        ∙ ap (λ (t : Tally). commits_of (records_of (before ++ e ∷ []) a) ++ mine (brought t later))
        (sym (tally-more before e))
        ∙ along later (before ++ e ∷ []) (append_assoc before (e ∷ []) later ∙ all)

    pub in_journal : mine (brought no_tally h) ≡ commits_of (records_of h a)
    in_journal = along h [] refl
