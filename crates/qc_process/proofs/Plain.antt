-- Steps that no disk has to do with.
use Rattle.std.proofs.Common.{◌≡◌, ℕ, ◌+◌, Bool, true, false, List, [], ◌∷◌, ◌++◌, Option, Some, None, refl, sym, ◌∙◌}
use Rattle.std.proofs.Common.{ap, subst, append_assoc}
use Rattle.std.proofs.lemmas.List.Sums.{fold-append}
use Rattle.std.specs.List.{AllByRecursion as Every}
use Rattle.qc_decl.specs.declared.declaration.Declaration.{Declaration}
use Rattle.qc_list.proofs.Members.{every-append}
use Rattle.qc_msg.specs.Vocabulary.{sents, told}
use Rattle.qc_msg.specs.declared.reply.Reply.{Reply}
use Rattle.qc_msg.specs.declared.step.Step.{Step}
use Rattle.qc_msg.specs.declared.step.Step.TheVariants as steps
use Rattle.qc_msg.specs.declared.turn.Posting.{Posting}
use Rattle.qc_promise.specs.Vocabulary.{AreStoreSteps, DiskAccount, IsInTime, IsKeptOrUnfit, Journal}
use Rattle.qc_promise.specs.Vocabulary.{disk_account_after, disk_account_with, journal_after, journal_of, journal_with}
use Rattle.qc_promise.specs.Vocabulary.{no_journal}
use Rattle.qc_process.specs.Vocabulary.{journal_fits}
use Rattle.qc_process.proofs.Own.{AreFine}

abbrev pub is_plain : Step → Bool
is_plain (steps.Phase number) = true
is_plain (steps.Cut x y) = true
is_plain (steps.Heal x y) = true
is_plain (steps.Armed b kind at) = false
is_plain (steps.Called command) = true
is_plain (steps.Got number) = true
is_plain (steps.Lost number) = true
is_plain (steps.Wrote written) = false
is_plain (steps.Sent number to message) = true
is_plain (steps.Told reply) = true
is_plain (steps.Fell cause pending) = false
is_plain (steps.Rose records) = false
is_plain (steps.Damaged offset) = false

abbrev pub ArePlain : List Step → Type 0
ArePlain own = Every (λ (s : Step). is_plain s ≡ true) own

plain_journal : (j : Journal) (s : Step) → is_plain s ≡ true → journal_with j s ≡ j
plain_journal j (steps.Phase number) is = refl
plain_journal j (steps.Cut x y) is = refl
plain_journal j (steps.Heal x y) is = refl
plain_journal j (steps.Armed b kind at) is = refl
plain_journal j (steps.Called command) is = refl
plain_journal j (steps.Got number) is = refl
plain_journal j (steps.Lost number) is = refl
plain_journal j (steps.Wrote written) is = absurd (cc is)
plain_journal j (steps.Sent number to message) is = refl
plain_journal j (steps.Told reply) is = refl
plain_journal j (steps.Fell cause pending) is = absurd (cc is)
plain_journal j (steps.Rose records) is = absurd (cc is)
plain_journal j (steps.Damaged offset) is = absurd (cc is)

plain_account : (a : ℕ) (t : DiskAccount) (s : Step) → is_plain s ≡ true → disk_account_with a t a s ≡ t
plain_account a t (steps.Phase number) is = refl
plain_account a t (steps.Cut x y) is = refl
plain_account a t (steps.Heal x y) is = refl
plain_account a t (steps.Armed b kind at) is = absurd (cc is)
plain_account a t (steps.Called command) is = refl
plain_account a t (steps.Got number) is = refl
plain_account a t (steps.Lost number) is = refl
plain_account a t (steps.Wrote written) is = absurd (cc is)
plain_account a t (steps.Sent number to message) is = refl
plain_account a t (steps.Told reply) is = refl
plain_account a t (steps.Fell cause pending) is = absurd (cc is)
plain_account a t (steps.Rose records) is = absurd (cc is)
plain_account a t (steps.Damaged offset) is = absurd (cc is)

plain_fine : (fit : Bool) (own : List Step) (s : Step) → is_plain s ≡ true → IsKeptOrUnfit fit own s
plain_fine fit own (steps.Phase number) is = tt
plain_fine fit own (steps.Cut x y) is = tt
plain_fine fit own (steps.Heal x y) is = tt
plain_fine fit own (steps.Armed b kind at) is = tt
plain_fine fit own (steps.Called command) is = tt
plain_fine fit own (steps.Got number) is = tt
plain_fine fit own (steps.Lost number) is = tt
plain_fine fit own (steps.Wrote written) is = tt
plain_fine fit own (steps.Sent number to message) is = tt
plain_fine fit own (steps.Told reply) is = tt
plain_fine fit own (steps.Fell cause pending) is = tt
plain_fine fit own (steps.Rose records) is = absurd (cc is)
plain_fine fit own (steps.Damaged offset) is = absurd (cc is)

-- plain steps, and then others

pub plain_then : (a : ℕ) (j : Journal) (t : DiskAccount) (xs ys : List Step) → ArePlain xs → IsInTime t
    → AreStoreSteps false a j t ys → AreStoreSteps false a j t (xs ++ ys)
plain_then a j t [] ys plain soon fine = fine
plain_then a j t (x ∷ xs) ys plain soon fine =
    let same : disk_account_with a t a x ≡ t = plain_account a t x plain.0 in
    let kept : journal_with j x ≡ j = plain_journal j x plain.0 in (
      λ no. absurd (cc no),
      subst IsInTime (sym same) soon,
      subst (λ (u : DiskAccount). AreStoreSteps false a (journal_with j x) u (xs ++ ys)) (sym same)
          (subst (λ (k : Journal). AreStoreSteps false a k t (xs ++ ys)) (sym kept)
          (plain_then a j t xs ys plain.1 soon fine)),
    )

pub journal_past : (j : Journal) (xs ys : List Step) → ArePlain xs → journal_after j (xs ++ ys) ≡ journal_after j ys
journal_past j [] ys plain = refl
journal_past j (x ∷ xs) ys plain =
    ap (λ (k : Journal). journal_after k (xs ++ ys)) (plain_journal j x plain.0) ∙ journal_past j xs ys plain.1

pub account_past : (a : ℕ) (t : DiskAccount) (xs ys : List Step) → ArePlain xs
    → disk_account_after a t (xs ++ ys) ≡ disk_account_after a t ys
account_past a t [] ys plain = refl
account_past a t (x ∷ xs) ys plain =
    ap (λ (u : DiskAccount). disk_account_after a u (xs ++ ys)) (plain_account a t x plain.0)
    ∙ account_past a t xs ys plain.1

pub journal_of_more : (own xs : List Step) → journal_of (own ++ xs) ≡ journal_after (journal_of own) xs
journal_of_more own xs = fold-append journal_with no_journal own xs

pub fine_past : (decl : Declaration) (a : ℕ) (own xs ys : List Step) → ArePlain xs → AreFine decl a (own ++ xs) ys
    → AreFine decl a own (xs ++ ys)
fine_past decl a own [] ys plain fine = subst (λ (l : List Step). AreFine decl a l ys) (nil own) fine
  where
    nil : (l : List Step) → l ++ [] ≡ l
    nil [] = refl
    nil (x ∷ l) = ap (λ (k : List Step). x ∷ k) (nil l)
fine_past decl a own (x ∷ xs) ys plain fine = (
  plain_fine (journal_fits decl a (journal_of own)) own x plain.0,
  fine_past decl a (own ++ x ∷ []) xs ys plain.1
      (subst (λ (l : List Step). AreFine decl a l ys) (sym (append_assoc own (x ∷ []) xs)) fine),
)

-- what a turn sends and tells

plain_sents : (n : ℕ) (ps : List Posting) → ArePlain (sents n ps)
plain_sents n [] = tt
plain_sents n (p ∷ ps) = (refl, plain_sents (n + 1) ps)

pub plain_told : (reply : Option Reply) → ArePlain (told reply)
plain_told None = tt
plain_told (Some reply) = (refl, tt)

pub plain_said : (n : ℕ) (ps : List Posting) (reply : Option Reply) → ArePlain (sents n ps ++ told reply)
plain_said n ps reply =
    every-append (λ (s : Step). is_plain s ≡ true) (sents n ps) (told reply) (plain_sents n ps) (plain_told reply)
