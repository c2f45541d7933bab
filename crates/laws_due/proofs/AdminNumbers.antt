-- The numbers of the administrator's open requests, and which of them stay as something is taken.
use Rattle.std.proofs.Common.{◌≡◌, ℕ, ◌==◌, not, ◌⊎◌, Bool, true, false, cond, inl, inr, List, [], ◌∷◌, ◌++◌, map, fold}
use Rattle.std.proofs.Common.{Option, Some, None, option_map, refl, sym, ap, ◌∙◌, subst, eq-eqb}
use Rattle.std.specs.Prelude.{is_none}
use Rattle.std.specs.List.{AllByRecursion as Every, cons_option, find, filter_map}
use Rattle.qc_list.specs.Vocabulary.{In}
use Rattle.qc_msg.specs.declared.call.Call.{Call}
use Rattle.qc_msg.specs.declared.message.Outcome.{Outcome}
use Rattle.qc_msg.specs.Vocabulary.{site_called, without_call}
use Rattle.qc_epoch.specs.Vocabulary.{Asking, Closing, Doing, Installing, Question, Resting, ShutSite, is_number}
use Rattle.qc_epoch.specs.Vocabulary.{is_questioned, taken_for, with_question, with_questions}
use Rattle.qc_entry.specs.declared.record.Prepared.{Prepared}
use Rattle.laws_due.proofs.PlainRounds.{ArePlain}

-- the numbers of his open requests

abbrev pub numbers_in : List Call → List ℕ
numbers_in calls = map (λ (c : Call). c.number) calls

abbrev pub number_if : Option (Option Outcome) → Option ℕ → Option ℕ
number_if None number = number
number_if (Some taken) number = None

abbrev pub open_in : List Question → List ℕ
open_in questions = filter_map (λ (q : Question). number_if q.taken q.number) questions

abbrev pub open_numbers : Doing → List ℕ
open_numbers Resting = []
open_numbers (Closing epoch calls round shuts) = numbers_in calls
open_numbers (Asking epoch shuts questions) = open_in questions
open_numbers (Installing closed awaited calls installed) = numbers_in calls

-- the round of Closes is plain

abbrev pub DoingPlain : Doing → Type 0
DoingPlain Resting = Unit {0}
DoingPlain (Closing epoch calls round shuts) = ArePlain round.asked
DoingPlain (Asking epoch shuts questions) = Unit {0}
DoingPlain (Installing closed awaited calls installed) = Unit {0}

-- open requests by calls

pub in_numbers : (n : ℕ) (calls : List Call) → In n (numbers_in (without_call calls n)) → ⊥
in_numbers n [] member = member
in_numbers n (c ∷ calls) member = by (c.number == n) refl member (in_numbers n calls)
  where
    by : (b : Bool) → (c.number == n) ≡ b → In n
        (numbers_in (cond (not b) (c ∷ without_call calls n) (without_call calls n)))
        → (In n (numbers_in (without_call calls n)) → ⊥) → ⊥
    by true is there more = more there
    by false is (inl same) more = let yes : (c.number == n) ≡ true = eq-eqb c.number n (sym same) in
        let never : ⊥ = cc in never
    by false is (inr there) more = more there

pub among : (n k : ℕ) (calls : List Call) → In k (numbers_in (without_call calls n)) → In k (numbers_in calls)
among n k [] member = member
among n k (c ∷ calls) member = by (c.number == n) member (among n k calls)
  where
    by : (b : Bool) → In k (numbers_in (cond (not b) (c ∷ without_call calls n) (without_call calls n)))
        → (In k (numbers_in (without_call calls n)) → In k (numbers_in calls)) → In k (numbers_in (c ∷ calls))
    by true there more = inr (more there)
    by false (inl same) more = inl same
    by false (inr there) more = inr (more there)

-- those that stay, but for this one
pub record Spares (n : ℕ) (before after : List ℕ) : Type 0 where
  pub kept : (k : ℕ) → In k after → In k before × (k ≡ n → ⊥)

pub called_spares : (n : ℕ) (calls : List Call) → Spares n (numbers_in calls) (numbers_in (without_call calls n))
called_spares n calls = record {
  kept = λ k member. (
    among n k calls member,
    λ same. in_numbers n calls
        (subst (λ (x : ℕ). In x (numbers_in (without_call calls n))) same member),
  );
}

pub uncalled : (n : ℕ) (calls : List Call) → site_called calls n ≡ None → In n (numbers_in calls) → ⊥
uncalled n [] none member = member
uncalled n (c ∷ calls) none member = by (uncalled n calls) (c.number == n) refl none member
  where
    by : (site_called calls n ≡ None → In n (numbers_in calls) → ⊥) → (b : Bool) → (c.number == n) ≡ b
        → option_map (λ (x : Call). x.site) (cond b (Some c) (find (λ (x : Call). x.number == n) calls)) ≡ None
        → In n (numbers_in (c ∷ calls)) → ⊥
    by more true is e m = let never : ⊥ = cc in never
    by more false is e (inl same) = let yes : (c.number == n) ≡ true = eq-eqb c.number n (sym same) in
        let never : ⊥ = cc in never
    by more false is e (inr there) = more e there

pub still_spares : (n : ℕ) (numbers : List ℕ) → (In n numbers → ⊥) → Spares n numbers numbers
still_spares n numbers none = record {
  kept =
      λ k member. (member, λ same. none (subst (λ (x : ℕ). In x numbers) same member));
}

pub none_spares : (n : ℕ) (numbers : List ℕ) → Spares n numbers []
none_spares n numbers = record { kept = λ k member. absurd member }

pub spares_then : (n : ℕ) (a b c : List ℕ) → Spares n a b → ((k : ℕ) → In k c → In k b) → Spares n a c
spares_then n a b c one more = record { kept = λ k member. one.kept k (more k member) }

-- what runs next, and nothing is open in it

pub record IsFresh (x : Doing) : Type 0 where
  pub none : open_numbers x ≡ []
  pub plain : DoingPlain x

pub fresh_spares : (n : ℕ) (numbers : List ℕ) (x : Doing) → IsFresh x → Spares n numbers (open_numbers x)
fresh_spares n numbers x fresh = subst (Spares n numbers) (sym fresh.none) (none_spares n numbers)

pub fresh_among : (numbers : List ℕ) (x : Doing) → IsFresh x → (k : ℕ) → In k (open_numbers x) → In k numbers
fresh_among numbers x fresh k member = absurd (subst (In k) fresh.none member)

-- questions that nobody was asked yet have no numbers

abbrev pub IsUnnumbered : Question → Type 0
IsUnnumbered q = q.number ≡ None

pub none_numbered : (qs : List Question) → Every IsUnnumbered qs → open_in qs ≡ []
none_numbered [] all = refl
none_numbered (q ∷ qs) all = ap (λ (o : Option ℕ). cons_option o (open_in qs)) (by q.taken) ∙ none_numbered qs all.1
  where
    by : (t : Option (Option Outcome)) → number_if t q.number ≡ None
    by None = all.0
    by (Some t) = refl

pub one_unnumbered : (qs : List Question) (q : Question) → IsUnnumbered q → Every IsUnnumbered qs
    → Every IsUnnumbered (qs ++ q ∷ [])
one_unnumbered [] q is all = (is, tt)
one_unnumbered (x ∷ qs) q is all = (all.0, one_unnumbered qs q is all.1)

pub with_unnumbered : (site : ℕ) (qs : List Question) (p : Prepared) → Every IsUnnumbered qs
    → Every IsUnnumbered (with_question site qs p)
with_unnumbered site qs p all = by (is_questioned qs p.tx)
  where
    by : (b : Bool) → Every IsUnnumbered (cond b qs
        (qs ++ record { tx = p.tx; site = site; number = None; taken = None } ∷ []))
    by true = all
    by false = one_unnumbered qs (record { tx = p.tx; site = site; number = None; taken = None }) refl all

pub site_unnumbered : (site : ℕ) (ps : List Prepared) (qs : List Question) → Every IsUnnumbered qs
    → Every IsUnnumbered (fold (with_question site) qs ps)
site_unnumbered site [] qs all = all
site_unnumbered site (p ∷ ps) qs all = site_unnumbered site ps (with_question site qs p) (with_unnumbered site qs p all)

pub all_unnumbered : (shuts : List ShutSite) (qs : List Question) → Every IsUnnumbered qs
    → Every IsUnnumbered (fold with_questions qs shuts)
all_unnumbered [] qs all = all
all_unnumbered (s ∷ shuts) qs all = all_unnumbered shuts (with_questions qs s)
    (site_unnumbered s.site s.prepared qs all)

-- what is taken for a question

pub taken_spares : (n : ℕ) (outcome : Option Outcome) (qs : List Question)
    → Spares n (open_in qs) (open_in (map (taken_for n outcome) qs))
taken_spares n outcome [] = record { kept = λ k member. absurd member }
taken_spares n outcome (q ∷ qs) = record
    { kept = λ k member. by (taken_spares n outcome qs) k q.number refl q.taken refl member }
  where
    rest : Spares n (open_in qs) (open_in (map (taken_for n outcome) qs)) → (k : ℕ)
        → In k (open_in (map (taken_for n outcome) qs))
        → In k (cons_option (number_if q.taken q.number) (open_in qs)) × (k ≡ n → ⊥)
    rest more k member = (later (number_if q.taken q.number) (more.kept k member).0, (more.kept k member).1)
      where
        later : (o : Option ℕ) → In k (open_in qs) → In k (cons_option o (open_in qs))
        later None there = there
        later (Some x) there = inr there

    by : Spares n (open_in qs) (open_in (map (taken_for n outcome) qs)) → (k : ℕ) → (o : Option ℕ) → q.number ≡ o
        → (t : Option (Option Outcome)) → q.taken ≡ t
        → In k (cons_option (number_if (taken_for n outcome q).taken (taken_for n outcome q).number)
        (open_in (map (taken_for n outcome) qs)))
        → In k (cons_option (number_if q.taken q.number) (open_in qs)) × (k ≡ n → ⊥)
    by more k o number_is (Some t) taken_is member =
        rest more k (subst (λ (v : Option ℕ). In k (cons_option v (open_in (map (taken_for n outcome) qs))))
        (none_left (is_number n q.number)) member)
      where
        none_left : (b : Bool) → number_if (cond b
            (cond (is_none q.taken) (record q { taken = Some outcome }) q) q).taken
            (cond b (cond (is_none q.taken) (record q { taken = Some outcome }) q) q).number ≡ None
        none_left true = rw taken_is refl
        none_left false = rw taken_is refl
    by more k None number_is None taken_is member =
        let gone : number_if (taken_for n outcome q).taken (taken_for n outcome q).number ≡ None =
        rw number_is (rw taken_is refl) in
        rest more k (subst (λ (v : Option ℕ). In k (cons_option v (open_in (map (taken_for n outcome) qs)))) gone
        member)
    by more k (Some x) number_is None taken_is member = at (x == n) refl
      where
        at : (b : Bool) → (x == n) ≡ b → In k (cons_option (number_if q.taken q.number) (open_in qs)) × (k ≡ n → ⊥)
        at true same =
            let gone : number_if (taken_for n outcome q).taken (taken_for n outcome q).number ≡ None =
            rw (number_is, taken_is, same) refl in
            rest more k (subst (λ (v : Option ℕ). In k (cons_option v (open_in (map (taken_for n outcome) qs)))) gone
            member)
        at false other =
            let stays : number_if (taken_for n outcome q).taken (taken_for n outcome q).number ≡ Some x =
            rw (number_is, taken_is, other) refl in
            on (subst (λ (v : Option ℕ). In k (cons_option v (open_in (map (taken_for n outcome) qs)))) stays member)
          where
            on : (k ≡ x) ⊎ In k (open_in (map (taken_for n outcome) qs))
                → In k (cons_option (number_if q.taken q.number) (open_in qs)) × (k ≡ n → ⊥)
            on (inl is) = (
              (let now : number_if q.taken q.number ≡ Some x = rw (number_is, taken_is) refl in
                  subst (λ (v : Option ℕ). In k (cons_option v (open_in qs))) (sym now) (inl is)),
              λ same. (let yes : (x == n) ≡ true = eq-eqb x n (sym is ∙ same) in let never : ⊥ = cc in never),
            )
            on (inr there) = rest more k there
