-- Requests of the administrator one by one: their numbers stay apart, and all of the account but them stays.
use Rattle.std.proofs.Common.{◌≡◌, ◌≢◌, ◌<◌, ◌≤◌, ◌⊎◌, ℕ, suc, ◌+◌, true, List, [], ◌∷◌, ◌++◌, length, Option, Some}
use Rattle.std.proofs.Common.{None, refl, sym, ap, ◌∙◌, subst, arith, eq-eqb, inl, inr}
use Rattle.std.specs.List.{AllByRecursion as Every}
use Rattle.qc_list.specs.Vocabulary.{In}
use Rattle.qc_list.proofs.Members.{every-append, every-weaker, In-more}
use Rattle.qc_plan.specs.Vocabulary.{first}
use Rattle.qc_promise.specs.Vocabulary.{AdminAccount, AdminRequest, AdminWant, admin_requested, is_this}
use Rattle.laws_due.specs.Vocabulary.{AreApart}
use Rattle.laws_due.proofs.AdminRequests.{numbers_of}
use Rattle.laws_due.proofs.AdminStages.{Numbered}

-- one number more

apart_last : (xs : List ℕ) (k : ℕ) → AreApart xs → Every (λ (x : ℕ). x < k) xs → AreApart (xs ++ k ∷ [])
apart_last [] k apart below = (λ y among. absurd among, tt)
apart_last (x ∷ xs) k apart below = (λ y among. by y (In-more y k xs among), apart_last xs k apart.1 below.1)
  where
    by : (y : ℕ) → In y xs ⊎ (y ≡ k) → x ≢ y
    by y (inl first) = apart.0 y first
    by y (inr last) = λ same. (let low : x < k = below.0 in let is : x ≡ k = same ∙ last in omega arith)

numbers_more : (qs : List AdminRequest) (q : AdminRequest) → numbers_of (qs ++ q ∷ []) ≡ numbers_of qs ++ q.number ∷ []
numbers_more [] q = refl
numbers_more (x ∷ qs) q = ap (λ (v : List ℕ). x.number ∷ v) (numbers_more qs q)

below_all : (n : ℕ) (qs : List AdminRequest) → Every (λ (q : AdminRequest). q.number < n) qs
    → Every (λ (x : ℕ). x < n) (numbers_of qs)
below_all n [] below = tt
below_all n (q ∷ qs) below = (below.0, below_all n qs below.1)

weaker : (n k : ℕ) → n ≤ k → (q : AdminRequest) → q.number < n → q.number < k
weaker n k low q is = omega (arith, low, is)

pub later : (n k : ℕ) (qs : List AdminRequest) → n ≤ k → Numbered n qs → Numbered k qs
later n k qs low numbers = record {
  below = every-weaker (λ (q : AdminRequest). q.number < n) (λ (q : AdminRequest). q.number < k)
      (weaker n k low) qs numbers.below;
  apart = numbers.apart;
}

pub numbered_more : (n : ℕ) (qs : List AdminRequest) (q : AdminRequest) → n ≤ q.number → Numbered n qs
    → Numbered (q.number + 1) (qs ++ q ∷ [])
numbered_more n qs q low numbers = record {
  below = every-append (λ (x : AdminRequest). x.number < q.number + 1) qs (q ∷ [])
      (later n (q.number + 1) qs (omega (arith, low)) numbers).below (omega arith, tt);
  apart = subst AreApart (sym (numbers_more qs q))
      (apart_last (numbers_of qs) q.number numbers.apart
      (below_all q.number qs (later n q.number qs low numbers).below));
}

-- all but the requests stays

pub record Frame (d e : AdminAccount) : Type 0 where
  pub up : e.up ≡ d.up
  pub decided : e.decided ≡ d.decided
  pub command : e.command ≡ d.command
  pub written : e.written ≡ d.written

pub frame_then : (d e f : AdminAccount) → Frame d e → Frame e f → Frame d f
frame_then d e f one two = record {
  up = two.up ∙ one.up;
  decided = two.decided ∙ one.decided;
  command = two.command
      ∙ one.command;
  written = two.written ∙ one.written;
}

abbrev pub request : ℕ → ℕ → AdminWant → AdminRequest
request number to want = record { number = number; to = to; want = want; taken = None }

pub requested_frame : (d : AdminAccount) (number to : ℕ) (want : AdminWant) → Frame d (admin_requested d number to want)
requested_frame d number to want = record { up = refl; decided = refl; command = refl; written = refl }

pub same_frame : (d : AdminAccount) → Frame d d
same_frame d = record { up = refl; decided = refl; command = refl; written = refl }

pub no_more : (n first : ℕ) → n ≤ first → n ≤ first + 0
no_more n first low = omega (arith, low)

pub one_more : (first k : ℕ) → (first + 1) + k ≡ first + suc k
one_more first k = omega arith

pub length_last : {A : Type 0} (xs : List A) (x : A) → length (xs ++ x ∷ []) ≡ suc (length xs)
length_last [] x = refl
length_last (y ∷ xs) x = ap (λ (k : ℕ). suc k) (length_last xs x)

pub this_some : (k : ℕ) (o : Option ℕ) → o ≡ Some k → is_this k o ≡ true
this_some k o is = ap (is_this k) is ∙ eq-eqb k k refl
