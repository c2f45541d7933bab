-- Each wrong course, verdict and record is refused.
use Rattle.std.proofs.Common.{◌≡◌, ◌⊎◌, inl, inr, ℕ, List, [], ◌∷◌, ◌++◌, Option, Some, None, refl, ap, arith}
use Rattle.qc_stamp.specs.declared.stamp.Stamp.{Stamp}
use Rattle.qc_list.specs.Vocabulary.{In}
use Rattle.qc_entry.specs.declared.line.Op.{Op}
use Rattle.qc_msg.specs.Vocabulary.{Tells}
use Rattle.qc_msg.specs.declared.message.Outcome.TheVariants as outcomes
use Rattle.qc_msg.specs.declared.reply.Reply.TheVariants as replies
use Rattle.qc_promise.specs.Vocabulary.{AreRight, Begun, Committed, Dead, Status, Unborn, VerdictAgrees, dealing_in}
use Rattle.laws_turns.specs.Vocabulary.{asks, begun, commit, committed, first, none_read, read_it, reading, says}
use Rattle.laws_turns.specs.Vocabulary.{second, tx}

-- courses

pub begins_twice : AreRight tx (begun ∷ begun ∷ []) → ⊥
begins_twice w = let e : Begun ≡ Unborn = w.1.0 refl in let no : ⊥ = cc in no

pub never_begun : AreRight tx (committed first ∷ []) → ⊥
never_begun w = let e : Unborn ≡ Begun = w.0 refl in let no : ⊥ = cc in no

pub second_record : AreRight tx (begun ∷ committed first ∷ committed second ∷ []) → ⊥
second_record w = let e : Committed first ≡ Begun = w.1.1.0 refl in let no : ⊥ = cc in no

pub given_up : AreRight tx (begun ∷ Tells replies.Dropped ∷ committed first ∷ []) → ⊥
given_up w = let e : Dead ≡ Begun = w.1.1.0 refl in let no : ⊥ = cc in no

pub told_aborted : AreRight tx (begun ∷ says outcomes.Aborted ∷ committed first ∷ []) → ⊥
told_aborted w = let e : Dead ≡ Begun = w.1.1.0 refl in let no : ⊥ = cc in no

pub asked_after : AreRight tx (begun ∷ Tells replies.Dropped ∷ asks ∷ []) → ⊥
asked_after w = let e : Dead ≡ Begun = w.1.1.0 refl in let no : ⊥ = cc in no

-- verdicts

pub no_record : AreRight tx (begun ∷ says (outcomes.Committed first) ∷ []) → ⊥
no_record w = let e : Begun ≡ Committed first = w.1.0 refl in let no : ⊥ = cc in no

pub other_stamp : AreRight tx (begun ∷ committed first ∷ says (outcomes.Committed second) ∷ []) → ⊥
other_stamp w = let e : Committed first ≡ Committed second = w.1.1.0 refl in let s : first ≡ second = cc in
    let n : first.clock ≡ second.clock = ap (λ (v : Stamp). v.clock) s in omega arith

pub neither : (s : Status) → (s ≡ Begun → ⊥) → (s ≡ Dead → ⊥) → (s ≡ Begun) ⊎ (s ≡ Dead) → ⊥
neither s live died (inl is) = live is
neither s live died (inr is) = died is

pub is_committed : AreRight tx (begun ∷ committed first ∷ says outcomes.Aborted ∷ []) → ⊥
is_committed w = neither (Committed first) (λ e. let no : ⊥ = cc in no) (λ e. let no : ⊥ = cc in no) (w.1.1.0 refl)

pub unborn : AreRight tx (says outcomes.Aborted ∷ []) → ⊥
unborn w = neither Unborn (λ e. let no : ⊥ = cc in no) (λ e. let no : ⊥ = cc in no) (w.0 refl)

pub ended : AreRight tx (begun ∷ committed first ∷ says outcomes.Active ∷ []) → ⊥
ended w = let e : Committed first ≡ Begun = w.1.1.0 refl in let no : ⊥ = cc in no

pub unlisted : VerdictAgrees [] tx (outcomes.Committed first) → ⊥
unlisted w = w.listed

pub listed : VerdictAgrees (commit first [] ∷ []) tx outcomes.Aborted → ⊥
listed w = w (commit first []) (inl refl) refl

-- records

abbrev first_resp : List Op → Option ℕ
first_resp [] = None
first_resp (o ∷ ops) = o.resp

pub none_some : (x : Option ℕ) → x ≡ None → x ≡ Some 0 → ⊥
none_some x none some = let no : ⊥ = cc in no

pub other : none_read ∷ [] ≡ (dealing_in reading tx).ops → ⊥
other is = none_some (first_resp (none_read ∷ [])) refl (ap first_resp is)

pub more : read_it ∷ read_it ∷ [] ≡ (dealing_in reading tx).ops → ⊥
more is = let e : read_it ∷ read_it ∷ [] ≡ read_it ∷ [] = is in let no : ⊥ = cc in no

pub less : [] ≡ (dealing_in reading tx).ops → ⊥
less is = let e : [] ≡ read_it ∷ [] = is in let no : ⊥ = cc in no

pub later : read_it ∷ read_it ∷ [] ≡ (dealing_in
    (reading ++ Tells replies.Dropped ∷ Tells (replies.Response 0) ∷ []) tx).ops → ⊥
later is = let e : read_it ∷ read_it ∷ [] ≡ read_it ∷ [] = is in let no : ⊥ = cc in no

pub no_end : In (replies.Committed first) (dealing_in reading tx).ends → ⊥
no_end w = w
