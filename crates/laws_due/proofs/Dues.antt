-- What is by the rows is due, where the client is up and what comes to it is declared.
use Rattle.std.proofs.Common.{[], ◌≡◌, ℕ, List, ◌∷◌, ◌++◌, Option, None, is_some, refl, sym, ap, ◌∙◌, subst}
use Rattle.std.specs.Prelude.{fold}
use Rattle.std.specs.List.{AllByRecursion as Every}
use Rattle.std.proofs.lemmas.List.{append-nil}
use Rattle.qc_decl.specs.declared.declaration.Declaration.{Declaration}
use Rattle.qc_msg.specs.declared.message.Message.{Message}
use Rattle.qc_msg.specs.declared.record.Record.{Record}
use Rattle.qc_msg.specs.declared.reply.Reply.{Reply}
use Rattle.qc_msg.specs.declared.step.Input.TheVariants as inputs
use Rattle.qc_msg.specs.Vocabulary.{Deed, Falls, Rises, Sends, Takes, Tells, Writes}
use Rattle.qc_core.specs.Vocabulary.{AreSteady, IsSteady}
use Rattle.qc_promise.specs.Vocabulary.{Account, IsInputDue, IsRecordDue, account_at, due, new_account, pending_next}
use Rattle.qc_promise.specs.Accounting as accounting
use Rattle.qc_promise.specs.Replies as promise
use Rattle.laws_due.specs.Vocabulary.{AreByRows, Declares, IsByRow, IsDeclaredDeed}
use Rattle.laws_due.proofs.DuesOfDeeds.{IsWithin, due_is, changed, passed, asked, lost, heard}
use Rattle.laws_due.proofs.AccountCases.{reply_cases, sent_cases, written_cases}

module _ (decl : Declaration) where
  wrote : (d : Account) (r : Record) → IsWithin decl d → IsWithin decl (accounting.account_written d r)
  wrote d r w =
      written_cases d (IsWithin decl) w
      (record { up = w.up; known = w.known; current = w.current; command = w.command })
      (λ commit. record { up = w.up; known = w.known; current = w.current; command = w.command }) r

  sent : (d : Account) (number to : ℕ) (m : Message) → IsWithin decl d
      → IsWithin decl (accounting.account_sent decl d number to m)
  sent d number to m w =
      sent_cases decl d number to (λ (m : Message) (e : Account). IsWithin decl e) (λ m. w) (λ q. asked decl d _ w) m

  told_in : (d : Account) (reply : Reply) → IsWithin decl d → IsWithin decl (accounting.account_told_in decl d reply)
  told_in d reply w =
      reply_cases decl d (IsWithin decl) w
      (λ tx. record { up = w.up; known = w.known; current = w.known; command = w.command }) ended
      (λ stamp. passed decl (accounting.ended d) stamp.clock ended)
      (λ change same. changed decl d change same w) reply
    where
      ended : IsWithin decl (accounting.ended d)
      ended = record { up = w.up; known = w.known; current = tt; command = w.command }

  told : (d : Account) (reply : Reply) → IsWithin decl d → IsWithin decl (accounting.account_told decl d reply)
  told d reply w =
      let v : IsWithin decl (accounting.account_told_in decl d reply) = told_in d reply w in
      record { up = v.up; known = v.known; current = v.current; command = tt }

  pub within_at : (d : Account) (x : Deed) → IsSteady x → IsDeclaredDeed decl x → IsWithin decl d
      → IsWithin decl (account_at decl d x)
  within_at d (Takes (inputs.Called command)) up is w =
      record { up = w.up; known = w.known; current = w.current; command = is }
  within_at d (Takes (inputs.Got envelope)) up is w = heard decl d envelope.message is w
  within_at d (Takes (inputs.Lost number)) up is w = lost decl d number w
  within_at d (Writes r) up is w = wrote d r w
  within_at d (Sends number to m) up is w = sent d number to m w
  within_at d (Tells reply) up is w = told d reply w
  within_at d (Falls cause pending) up is w = absurd up
  within_at d (Rises kept) up is w = absurd up

  pub within_all : (ds : List Deed) (d : Account) → AreSteady ds → Every (IsDeclaredDeed decl) ds → IsWithin decl d
      → IsWithin decl (fold (account_at decl) d ds)
  within_all [] d up all w = w
  within_all (x ∷ ds) d up all w = within_all ds (account_at decl d x) up.1 all.1 (within_at d x up.0 all.0 w)

  -- so what is by the rows is due, whatever comes behind it with no record pending

  none_pending : (after ys : List Deed) → AreSteady after → pending_next ys ≡ None → pending_next (after ++ ys) ≡ None
  none_pending [] ys up none = none
  none_pending (Takes g ∷ after) ys up none = refl
  none_pending (Writes r ∷ after) ys up none = refl
  none_pending (Sends number to m ∷ after) ys up none = refl
  none_pending (Tells reply ∷ after) ys up none = refl
  none_pending (Falls cause pending ∷ after) ys up none = absurd up.0
  none_pending (Rises kept ∷ after) ys up none = absurd up.0

  deed_due : (d : Account) (x : Deed) (after : List Deed) → IsSteady x → pending_next after ≡ None → IsWithin decl d
      → IsByRow decl d x → promise.IsDeedDue decl d x after
  deed_due d (Takes g) after up none w is =
      subst (λ (row : Option Reply). IsInputDue d row g) (sym (due_is decl d w)) is
  deed_due d (Writes r) after up none w is =
      subst (λ (row : Option Reply). IsRecordDue d row r) (sym (due_is decl d w)) is
  deed_due d (Sends number to m) after up none w is = tt
  deed_due d (Tells reply) after up none w is =
      (ap (λ (o : Option Record). due decl d (is_some o)) none ∙ due_is decl d w ∙ is.0, is.1, none ∙ is.2)
  deed_due d (Falls cause pending) after up none w is = absurd up
  deed_due d (Rises kept) after up none w is = absurd up

  pub due_then : (ds ys : List Deed) (d : Account) → AreSteady ds → Every (IsDeclaredDeed decl) ds
      → pending_next ys ≡ None → IsWithin decl d → AreByRows decl d ds
      → promise.AreDeedsDue decl (fold (account_at decl) d ds) ys → promise.AreDeedsDue decl d (ds ++ ys)
  due_then [] ys d up all none w is behind = behind
  due_then (x ∷ ds) ys d up all none w is behind = (
    deed_due d x (ds ++ ys) up.0 (none_pending ds ys up.1 none) w is.0,
    due_then ds ys (account_at decl d x) up.1 all.1 none (within_at d x up.0 all.0 w) is.1 behind,
  )

  pub all_due : (ds : List Deed) (d : Account) → AreSteady ds → Every (IsDeclaredDeed decl) ds → IsWithin decl d
      → AreByRows decl d ds → promise.AreDeedsDue decl d ds
  all_due ds d up all w is =
      subst (λ (v : List Deed). promise.AreDeedsDue decl d v) (append-nil ds) (due_then ds [] d up all refl w is tt)

  pub within_first : (client : ℕ) (ds : List Deed) → Declares decl ds → IsWithin decl (new_account client)
  within_first client ds are = record { up = refl; known = are.first; current = tt; command = tt }
