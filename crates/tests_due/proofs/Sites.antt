-- What each site of a history posts is due where two lists are equal for each: what is due for its inputs and rises,
-- and what it posts.
use Rattle.std.proofs.Common.{◌≡◌, ℕ, zero, suc, ◌<◌, ◌==◌, Bool, true, false, List, [], ◌∷◌, ◌++◌, refl, ap, subst}
use Rattle.std.proofs.Common.{sym, arith}
use Rattle.std.proofs.lemmas.Bool.{eqb-false, eqb-true}
use Rattle.qc_decl.specs.declared.declaration.Declaration.{Declaration}
use Rattle.qc_msg.specs.Vocabulary.{Deed, Entry, Falls, Rises, Sends, Takes, Tells, Writes, deeds}
use Rattle.qc_promise.specs.Vocabulary.{Act, AreDue, IsDueAt, fallen_in, posted_due, posted_next, turn_due}
use Rattle.qc_promise.specs.SiteDue.{rising_turn}

-- what is due for the inputs that something comes after, and for rises; and what comes

abbrev due_for : Declaration → List Deed → Deed → List Deed → List (List Act) → List (List Act)
due_for decl before (Takes given) [] more = more
due_for decl before (Takes given) (d ∷ after) more =
    posted_due (turn_due decl (before ++ Takes given ∷ []) given) (fallen_in (posted_next (d ∷ after))) ∷ more
due_for decl before (Writes written) after more = more
due_for decl before (Sends number to message) after more = more
due_for decl before (Tells reply) after more = more
due_for decl before (Falls cause pending) after more = more
due_for decl before (Rises kept) after more =
    posted_due (rising_turn decl (before ++ Rises kept ∷ [])) (fallen_in (posted_next after)) ∷ more

abbrev posted_for : Deed → List Deed → List (List Act) → List (List Act)
posted_for (Takes given) [] more = more
posted_for (Takes given) (d ∷ after) more = posted_next (d ∷ after) ∷ more
posted_for (Writes written) after more = more
posted_for (Sends number to message) after more = more
posted_for (Tells reply) after more = more
posted_for (Falls cause pending) after more = more
posted_for (Rises kept) after more = posted_next after ∷ more

abbrev pub all_due : Declaration → List Deed → List Deed → List (List Act)
all_due decl before [] = []
all_due decl before (d ∷ after) = due_for decl before d after (all_due decl (before ++ d ∷ []) after)

abbrev pub all_posted : List Deed → List (List Act)
all_posted [] = []
all_posted (d ∷ after) = posted_for d after (all_posted after)

abbrev first_of : List (List Act) → List Act
first_of [] = []
first_of (x ∷ xs) = x

abbrev rest_of : List (List Act) → List (List Act)
rest_of [] = []
rest_of (x ∷ xs) = xs

at_deed : (decl : Declaration) (before : List Deed) (d : Deed) (after : List Deed) (xs ys : List (List Act))
    → due_for decl before d after xs ≡ posted_for d after ys
    → (xs ≡ ys) × IsDueAt decl before d after
at_deed decl before (Takes given) [] xs ys same = (same, tt)
at_deed decl before (Takes given) (d ∷ after) xs ys same = (ap rest_of same, sym (ap first_of same))
at_deed decl before (Writes written) after xs ys same = (same, tt)
at_deed decl before (Sends number to message) after xs ys same = (same, tt)
at_deed decl before (Tells reply) after xs ys same = (same, tt)
at_deed decl before (Falls cause pending) after xs ys same = (same, tt)
at_deed decl before (Rises kept) after xs ys same = (ap rest_of same, sym (ap first_of same))

site_due_where_posted : (decl : Declaration) (before after : List Deed) → all_due decl before after ≡ all_posted after
    → AreDue decl before after
site_due_where_posted decl before [] same = tt
site_due_where_posted decl before (d ∷ after) same =
    let parts : (all_due decl (before ++ d ∷ []) after ≡ all_posted after) × IsDueAt decl before d after =
    at_deed decl before d after (all_due decl (before ++ d ∷ []) after) (all_posted after) same in
    (parts.1, site_due_where_posted decl (before ++ d ∷ []) after parts.0)

-- the sites below a number, the greatest first

abbrev pub sites_due : Declaration → List Entry → ℕ → List (List (List Act))
sites_due decl h zero = []
sites_due decl h (suc k) = all_due decl [] (deeds k [] h) ∷ sites_due decl h k

abbrev pub sites_posted : List Entry → ℕ → List (List (List Act))
sites_posted h zero = []
sites_posted h (suc k) = all_posted (deeds k [] h) ∷ sites_posted h k

abbrev head_of : List (List (List Act)) → List (List Act)
head_of [] = []
head_of (x ∷ xs) = x

abbrev tail_of : List (List (List Act)) → List (List (List Act))
tail_of [] = []
tail_of (x ∷ xs) = xs

pub sites_due_where_posted : (decl : Declaration) (h : List Entry) (n : ℕ) → sites_due decl h n ≡ sites_posted h n
    → (site : ℕ) → site < n → AreDue decl [] (deeds site [] h)
sites_due_where_posted decl h zero same site below = absurd (omega arith)
sites_due_where_posted decl h (suc k) same site below =
    by (site == k) refl (sites_due_where_posted decl h k (ap tail_of same) site)
  where
    by : (t : Bool) → (site == k) ≡ t → (site < k → AreDue decl [] (deeds site [] h)) → AreDue decl [] (deeds site [] h)
    by true here rest =
        subst (λ (s : ℕ). AreDue decl [] (deeds s [] h)) (sym (eqb-true site k here))
        (site_due_where_posted decl [] (deeds k [] h) (ap head_of same))
    by false other rest = let differs : site ≡ k → ⊥ = eqb-false site k other in rest (omega (arith, differs))
