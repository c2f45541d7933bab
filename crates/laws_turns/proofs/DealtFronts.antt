-- A front end's moves, and what a client was told of a transaction then.
use Rattle.std.proofs.Common.{◌≡◌, ℕ, List, Option, Some, None, refl, sym, ap, ◌∙◌, subst}
use Rattle.qc_stamp.specs.declared.stamp.TxId.{TxId}
use Rattle.qc_entry.specs.declared.record.Commit.{Commit}
use Rattle.qc_decl.specs.declared.declaration.Declaration.{Declaration}
use Rattle.qc_msg.specs.declared.begun.Begun.{Begun}
use Rattle.qc_msg.specs.declared.message.Answer.{Answer}
use Rattle.qc_msg.specs.Vocabulary.{quiet, site_called, without_call}
use Rattle.qc_plan.specs.Vocabulary.{note, verdict}
use Rattle.qc_front.specs.declared.doing.Doing.{Doing}
use Rattle.qc_front.specs.declared.doing.Doing.TheVariants.{Idle, Reading, Appending}
use Rattle.qc_front.specs.declared.front.Front.{Front}
use Rattle.qc_front.specs.declared.transaction.Transaction.{Transaction}
use Rattle.qc_front.specs.Vocabulary.{appended_with, appending_takes, learns, read_with, reading_takes}
use Rattle.qc_front.specs.Vocabulary.{standing_of, takes, takes_in}
use Rattle.qc_front.proofs.Keeping.{appended_is}
use Rattle.laws_turns.specs.Vocabulary.{Book, book_with}
use Rattle.qc_promise.specs.Vocabulary.{Dealing}
use Rattle.laws_turns.proofs.DealingParts.{IsBook, IsDealing}
use Rattle.laws_turns.proofs.DealtOperations.{AskedFor, FrontAfter, IsLike, Stands, append_by-after, read_by-after}
use Rattle.laws_turns.proofs.DealtOperations.{stands, still}
use Rattle.laws_turns.proofs.AnswerCases.{learned_cases, read_cases}

module _ (k : ℕ) (tx : TxId) (clock : ℕ) (records : List Commit) (d : Dealing) where
  -- what comes of a request

  read_like : (t : Transaction) (site object : ℕ) (answer : Option Answer)
      → IsLike (read_with t site object answer) t.begun
  read_like t site object answer =
      let same : ((read_with t site object answer).begun.tx ≡ t.begun.tx)
      × ((read_with t site object answer).begun.ops ≡ t.begun.ops) =
      read_cases t site object (λ (b : Begun). (b.tx ≡ t.begun.tx) × (b.ops ≡ t.begun.ops)) (λ lives. (refl, refl))
      answer in
      record { tx = same.0; ops = same.1 }

  appended_like : (t : Transaction) (site : ℕ) (answer : Option Answer) → IsLike (appended_with t site answer) t.begun
  appended_like t site answer =
      let same : appended_with t site answer
      ≡ record t { begun = record t.begun { lives = (appended_with t site answer).begun.lives } } =
      appended_is t site answer in
      record { tx = ap (λ (u : Transaction). u.begun.tx) same; ops = ap (λ (u : Transaction). u.begun.ops) same }

  learns_book : (front : Front) (answer : Option Answer)
      → book_with (learns front answer) records ≡ book_with front records
  learns_book front answer =
      learned_cases front (λ (f : Front). book_with f records ≡ book_with front records) (λ clock. refl)
      (λ epoch. refl) refl answer

  learned : (front : Front) (answer : Option Answer) (b : Begun) → Stands k tx clock records d front b
      → Stands k tx clock records d (learns front answer) b
  learned front answer b s = record {
    own = ap (λ (x : Book). x.client) (learns_book front answer) ∙ s.own;
    is = ap (λ (k : Book). k.begun) (learns_book front answer) ∙ s.is;
    book = subst (IsBook clock) (sym (learns_book front answer)) s.book;
    dealing = subst (IsDealing tx d) (sym (learns_book front answer)) s.dealing;
  }

  takes_in-after : (decl : Declaration) (front : Front) (doing : Doing) (o : Option Transaction) (number : ℕ)
      (answer : Option Answer) → front.transaction ≡ o → front.doing ≡ doing → front.client ≡ k
      → IsBook clock (book_with front records)
      → IsDealing tx d (book_with front records) → AskedFor d.asked doing
      → FrontAfter k tx clock records d (takes_in decl front doing o number answer)
  takes_in-after decl front doing None number answer is does own book w asked =
      still k tx clock records d decl front own book w quiet refl refl (subst (AskedFor d.asked) (sym does) asked)
  takes_in-after decl front Idle (Some t) number answer is does own book w asked =
      still k tx clock records d decl front own book w quiet refl refl (subst (AskedFor d.asked) (sym does) asked)
  takes_in-after decl front (Reading object inv calls round) (Some t) number answer is does own book w asked =
      by (site_called calls number) where
        by : (s : Option ℕ)
            → FrontAfter k tx clock records d (reading_takes decl front t object inv calls round number answer s)
        by None =
            still k tx clock records d decl front own book w quiet refl refl (subst (AskedFor d.asked) (sym does) asked)
        by (Some site) =
            read_by-after k tx clock records d decl (learns front answer) t.begun
            (learned front answer t.begun (stands k tx clock records d decl front own book w t is))
            (read_with t site object answer) object
            inv (without_call calls number) (note round site (standing_of answer))
            (verdict (note round site (standing_of answer)))
            (read_like t site object answer) asked
  takes_in-after decl front (Appending object inv event calls round) (Some t) number answer is does own book w asked =
      by (site_called calls number) where
        by : (s : Option ℕ)
            → FrontAfter k tx clock records d
            (appending_takes decl front t object inv event calls round number answer s)
        by None =
            still k tx clock records d decl front own book w quiet refl refl (subst (AskedFor d.asked) (sym does) asked)
        by (Some site) =
            append_by-after k tx clock records d decl (learns front answer) t.begun
            (learned front answer t.begun (stands k tx clock records d decl front own book w t is))
            (appended_with t site answer) object inv
            event (without_call calls number) (note round site (standing_of answer))
            (verdict (note round site (standing_of answer)))
            (appended_like t site answer) asked

  pub takes-after : (decl : Declaration) (front : Front) (number : ℕ) (answer : Option Answer) → front.client ≡ k
      → IsBook clock (book_with front records) → IsDealing tx d (book_with front records) → AskedFor d.asked front.doing
      → FrontAfter k tx clock records d (takes decl front number answer)
  takes-after decl front number answer own book w asked =
      takes_in-after decl front front.doing front.transaction number answer refl refl own book w asked
