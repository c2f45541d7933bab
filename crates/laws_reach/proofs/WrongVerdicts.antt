-- Each wrong course through falls is refused, and the right ones are taken.
use Rattle.std.proofs.Common.{◌≡◌, ◌≢◌, ◌<◌, ◌↔◌, ◌⊎◌, inl, inr, List, [], ◌∷◌, ◌++◌, option_to_list, refl, ap, arith}
use Rattle.std.proofs.Common.{true, sym, ◌∙◌, ℕ}
use Rattle.std.specs.List.{AllPairs, filter_map}
use Rattle.qc_core.specs.Vocabulary.{journal_after}
use Rattle.qc_decl.specs.Vocabulary.{client_actor, three}
use Rattle.qc_entry.specs.declared.record.Commit.{Commit}
use Rattle.qc_msg.specs.declared.message.Envelope.{Envelope}
use Rattle.qc_list.specs.Vocabulary.{In}
use Rattle.qc_msg.specs.declared.message.Message.TheVariants.{Decision, Inquiry}
use Rattle.qc_msg.specs.declared.message.Outcome.{Outcome}
use Rattle.qc_promise.specs.Vocabulary.{AreRight, Begun, Committed, Dead, HasEnded, Status, Unborn, is_final, status}
use Rattle.laws_reach.specs.Vocabulary.{AgreeOnVerdicts, IsRecorded, asked, begins_anew, crashes, falls_rising}
use Rattle.laws_reach.specs.Vocabulary.{falls_writing, is_asked, lives, recorded, rises, told}
use Rattle.qc_msg.specs.declared.message.Outcome.TheVariants as outcomes
use Rattle.qc_msg.specs.declared.step.Input.TheVariants.{Got}
use Rattle.qc_msg.specs.Vocabulary.{Deed, Takes, Tells, commit_of}
use Rattle.qc_msg.specs.declared.reply.Reply.TheVariants as replies
use Rattle.laws_turns.specs.Vocabulary.{asks, begun, commit, committed, first, says, second, tx}
use Rattle.qc_stamp.specs.declared.stamp.Stamp.{Stamp}
use Rattle.qc_stamp.specs.declared.stamp.TxId.{TxId}
use Rattle.laws_reach.specs.WrongVerdicts.{anew}
use Rattle.laws_turns.proofs.WrongOnes.{neither}

-- courses

pub begins_again : AreRight tx (begun ∷ crashes ∷ rises [] ∷ lives ∷ begun ∷ []) → ⊥
begins_again w = let e : Dead ≡ Unborn = w.1.1.1.1.0 refl in let no : ⊥ = cc in no

pub begins_once_committed : AreRight tx (begun ∷ committed first ∷ crashes ∷ rises (recorded first ∷ []) ∷ lives ∷ begun
    ∷ []) → ⊥
begins_once_committed w = let e : Committed first ≡ Unborn = w.1.1.1.1.1.0 refl in let no : ⊥ = cc in no

pub asks_on : AreRight tx (begun ∷ crashes ∷ rises [] ∷ lives ∷ asks ∷ []) → ⊥
asks_on w = let e : Dead ≡ Begun = w.1.1.1.1.0 refl in let no : ⊥ = cc in no

pub written_in_a_later_life : AreRight tx (begun ∷ crashes ∷ rises [] ∷ lives ∷ committed first ∷ []) → ⊥
written_in_a_later_life w = let e : Dead ≡ Begun = w.1.1.1.1.0 refl in let no : ⊥ = cc in no

either : (s : Status) (stamp : Stamp) → (s ≡ Begun → ⊥) → (s ≡ Committed stamp → ⊥)
    → (s ≡ Begun) ⊎ (s ≡ Committed stamp) → ⊥
either s stamp live done (inl is) = live is
either s stamp live done (inr is) = done is

pub never_begun : AreRight tx (crashes ∷ rises (recorded first ∷ []) ∷ []) → ⊥
never_begun w = either Unborn first (λ e. let no : ⊥ = cc in no) (λ e. let no : ⊥ = cc in no) (w.1.0.0 refl)

apart : Committed first ≡ Committed second → ⊥
apart e = let s : first ≡ second = cc in let n : first.clock ≡ second.clock = ap (λ (v : Stamp). v.clock) s in
    omega arith

pub another_rises : AreRight tx (begun ∷ committed first ∷ crashes ∷ rises (recorded second ∷ []) ∷ []) → ⊥
another_rises w = either (Committed first) second (λ e. let no : ⊥ = cc in no) apart (w.1.1.1.0.0 refl)

pub rises_too_late : AreRight tx (begun ∷ falls_writing first ∷ rises [] ∷ falls_rising ∷ rises (recorded first ∷ [])
    ∷ []) → ⊥
rises_too_late w = either Dead first (λ e. let no : ⊥ = cc in no) (λ e. let no : ⊥ = cc in no) (w.1.1.1.1.0.0 refl)

-- verdicts

pub no_record : AreRight tx (begun ∷ falls_writing first ∷ rises [] ∷ lives ∷ says (outcomes.Committed first) ∷ []) → ⊥
no_record w = let e : Dead ≡ Committed first = w.1.1.1.1.0 refl in let no : ⊥ = cc in no

pub other_stamp : AreRight tx (begun ∷ falls_writing first ∷ rises (recorded first ∷ []) ∷ lives ∷ says
    (outcomes.Committed second) ∷ []) → ⊥
other_stamp w = apart (w.1.1.1.1.0 refl)

pub pending_rose : AreRight tx (begun ∷ falls_writing first ∷ rises (recorded first ∷ []) ∷ lives
    ∷ says outcomes.Aborted ∷ []) → ⊥
pending_rose w = neither (Committed first) (λ e. let no : ⊥ = cc in no) (λ e. let no : ⊥ = cc in no) (w.1.1.1.1.0 refl)

pub written_rose : AreRight tx (begun ∷ committed first ∷ crashes ∷ rises (recorded first ∷ []) ∷ lives
    ∷ says outcomes.Aborted ∷ []) → ⊥
written_rose w = neither (Committed first) (λ e. let no : ⊥ = cc in no) (λ e. let no : ⊥ = cc in no)
    (w.1.1.1.1.1.0 refl)

pub unborn : AreRight tx (crashes ∷ rises [] ∷ lives ∷ says outcomes.Aborted ∷ []) → ⊥
unborn w = neither Unborn (λ e. let no : ⊥ = cc in no) (λ e. let no : ⊥ = cc in no) (w.1.1.1.0 refl)

-- what two sites are told

pub differ : AgreeOnVerdicts (told 0 (outcomes.Committed first) ∷ told 1 outcomes.Aborted ∷ []) → ⊥
differ w = let e : outcomes.Committed first ≡ outcomes.Aborted =
    w (told 0 (outcomes.Committed first)) (told 1 outcomes.Aborted) tx (outcomes.Committed first) outcomes.Aborted
    (inl refl) (inr (inl refl)) refl refl refl refl in let no : ⊥ = cc in no

pub stamps_differ : AgreeOnVerdicts (told 0 (outcomes.Committed first) ∷ told 1 (outcomes.Committed second) ∷ []) → ⊥
stamps_differ w =
    let e : outcomes.Committed first ≡ outcomes.Committed second =
    w (told 0 (outcomes.Committed first)) (told 1 (outcomes.Committed second)) tx (outcomes.Committed first)
    (outcomes.Committed second) (inl refl) (inr (inl refl)) refl refl refl refl in
    let s : first ≡ second = cc in
    let n : first.clock ≡ second.clock = ap (λ (v : Stamp). v.clock) s in
    omega arith

pub active : AreRight tx (begun ∷ crashes ∷ rises [] ∷ lives ∷ says outcomes.Active ∷ []) → ⊥
active w = let e : Dead ≡ Begun = w.1.1.1.1.0 refl in let no : ⊥ = cc in no

-- records

abbrev Below : Commit → Commit → Type 0
Below c d = c.stamp.clock < d.stamp.clock

falling : AllPairs Below (commit second [] ∷ commit first [] ∷ []) → ⊥
falling w = let low : second.clock < first.clock = w 0 1 (commit first []) (omega arith) (omega arith) in omega arith

pub stamps_fall : AllPairs Below (filter_map commit_of
    (journal_after (committed second ∷ committed first ∷ [])).records) → ⊥
stamps_fall w = falling w

pub pending_below : AllPairs Below (filter_map commit_of
    ((journal_after (committed second ∷ falls_writing first ∷ [])).records ++ option_to_list
    (journal_after (committed second ∷ falls_writing first ∷ [])).pending)) → ⊥
pending_below w = falling w

pub lost : ((status (begun ∷ committed first ∷ crashes ∷ rises [] ∷ []) tx ≡ Committed first) ↔ IsRecorded tx first
    (journal_after (begun ∷ committed first ∷ crashes ∷ rises [] ∷ [])).records) → ⊥
lost w = (w.0 refl).listed

pub of_another : (status (begun ∷ []) tx ≢ Unborn → client_actor three tx.client ≡ client_actor three 1) → ⊥
of_another w = let same : client_actor three tx.client ≡ client_actor three 1 = w (λ e. let no : ⊥ = cc in no) in
    omega arith

pub turned : (HasEnded (status (begun ∷ Tells replies.Dropped ∷ []) tx)
    → status (begun ∷ Tells replies.Dropped ∷ committed first ∷ []) tx ≡ status (begun ∷ Tells replies.Dropped ∷ []) tx)
    → ⊥
turned w = let e : Committed first ≡ Dead = w tt in let no : ⊥ = cc in no

pub asked_too_early : ((before later : List Deed) (e : Envelope) (t : TxId)
    → before ++ Takes (Got e) ∷ later ≡ is_asked ∷ begun ∷ [] → e.message ≡ Inquiry t → status before t ≢ Unborn) → ⊥
asked_too_early w = w [] (begun ∷ []) asked tx refl refl refl

-- right ones

pub right_given_up : AreRight tx (begun ∷ crashes ∷ rises [] ∷ lives ∷ says outcomes.Aborted ∷ [])
right_given_up = (λ same. refl, (tt, (tt, (tt, (λ same. inr refl, tt)))))

pub right_written : AreRight tx (begun ∷ committed first ∷ says (outcomes.Committed first) ∷ crashes ∷ rises
    (recorded first ∷ []) ∷ lives ∷ says (outcomes.Committed first) ∷ [])
right_written = (λ same. refl, (λ same. refl, (λ same. refl, (tt, ((λ same. inr refl, tt), (tt, (λ same. refl, tt)))))))

pub right_pending : AreRight tx (begun ∷ falls_writing first ∷ rises (recorded first ∷ []) ∷ lives ∷ says
    (outcomes.Committed first) ∷ [])
right_pending = (λ same. refl, (tt, ((λ same. inl refl, tt), (tt, (λ same. refl, tt)))))

pub right_lost : AreRight tx (begun ∷ falls_writing first ∷ rises [] ∷ lives ∷ says outcomes.Aborted ∷ [])
right_lost = (λ same. refl, (tt, (tt, (tt, (λ same. inr refl, tt)))))

pub right_in_vain : AreRight tx (begun ∷ falls_writing first ∷ rises (recorded first ∷ []) ∷ falls_rising ∷ rises
    (recorded first ∷ []) ∷ lives ∷ says (outcomes.Committed first) ∷ [])
right_in_vain = (λ same. refl, (tt, ((λ same. inl refl, tt), (tt, ((λ same. inr refl, tt), (tt, (λ same. refl, tt)))))))

not_final : (v : Outcome) → v ≡ outcomes.Active → is_final v ≡ true → ⊥
not_final v is ends = let no : ⊥ = cc in no

says_first : (site : ℕ) (e : Envelope) (t : TxId) (v : Outcome) → e ≡ told site (outcomes.Committed first)
    → e.message ≡ Decision t v → v ≡ outcomes.Committed first
says_first site e t v is says = let both : Decision t v ≡ Decision tx (outcomes.Committed first) = sym says
    ∙ ap (λ (d : Envelope). d.message) is in let same : v ≡ outcomes.Committed first = cc in same

all_first : (e : Envelope) (t : TxId) (v : Outcome)
    → In e (told 0 (outcomes.Committed first) ∷ told 1 outcomes.Active ∷ told 1 (outcomes.Committed first) ∷ [])
    → e.message ≡ Decision t v → is_final v ≡ true → v ≡ outcomes.Committed first
all_first e t v (inl is) says ends = says_first 0 e t v is says
all_first e t v (inr (inl is)) says ends =
    absurd (let both : Decision t v ≡ Decision tx outcomes.Active = sym says
    ∙ ap (λ (d : Envelope). d.message) is in let same : v ≡ outcomes.Active = cc in not_final v same ends)
all_first e t v (inr (inr (inl is))) says ends = says_first 1 e t v is says
all_first e t v (inr (inr (inr never))) says ends = absurd never

pub right_agreed : AgreeOnVerdicts (told 0 (outcomes.Committed first) ∷ told 1 outcomes.Active ∷ told 1
    (outcomes.Committed first) ∷ [])
right_agreed e f t v w first_in second_in says too ends final = all_first e t v first_in says ends
    ∙ sym (all_first f t w second_in too final)

pub right_anew : AreRight anew (begun ∷ crashes ∷ rises [] ∷ lives ∷ begins_anew ∷ [])
right_anew = (λ same. refl, (tt, (tt, (tt, (λ same. refl, tt)))))

pub right_recorded : (status (begun ∷ falls_writing first ∷ rises (recorded first ∷ []) ∷ []) tx ≡ Committed first) ↔
    IsRecorded tx first (journal_after (begun ∷ falls_writing first ∷ rises (recorded first ∷ []) ∷ [])).records
right_recorded = (
  λ is. record { commit = commit first []; listed = inl refl; named = refl; stamped = refl },
  λ there. refl,
)
