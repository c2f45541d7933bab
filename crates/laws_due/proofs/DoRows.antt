-- What holds while a `do` runs: its account, the sites that it asks next, and its row where nothing refuses it at once.
use Rattle.std.proofs.Common.{[], ◌≡◌, ℕ, ◌&&◌, nat_le, Bool, true, false, cond, List, ◌∷◌, ◌++◌, length, Option}
use Rattle.std.proofs.Common.{Some, None, refl, ap, ◌∙◌, eq-eqb}
use Rattle.std.specs.Ordering.{is_eq}
use Rattle.std.specs.Cmp.Lexicographic.{pointwise}
use Rattle.std.proofs.lemmas.Cmp.{tied_itself}
use Rattle.qc_decl.specs.declared.declaration.Declaration.{Declaration}
use Rattle.qc_decl.specs.Vocabulary.{most_transaction_operations, read_need_of}
use Rattle.qc_entry.specs.declared.line.Line.{Line}
use Rattle.qc_entry.specs.declared.line.OwnLine.{OwnLine}
use Rattle.qc_entry.proofs.Orders.{lines_are_ordered}
use Rattle.qc_plan.specs.Vocabulary.{RoundState, next_site, verdict, wanted}
use Rattle.qc_view.specs.declared.view.View.{View}
use Rattle.qc_commit.specs.declared.desk.Desk.{Desk}
use Rattle.qc_front.specs.Vocabulary.{RecordsHold}
use Rattle.qc_msg.specs.declared.message.Want.{Want}
use Rattle.qc_msg.specs.declared.reply.Reply.{Reply}
use Rattle.qc_msg.specs.declared.reply.Reply.TheVariants as replies
use Rattle.qc_msg.specs.declared.step.Command.TheVariants as commands
use Rattle.qc_promise.specs.Vocabulary.{Account, ClientRequest, Current, carries, is_read, is_this, own_appended}
use Rattle.qc_promise.specs.Vocabulary.{read_row, running_row, same_line, same_own, view_of}
use Rattle.laws_due.specs.Vocabulary.{IsIdleDesk}
use Rattle.laws_due.proofs.Nexts.{first_wanted}
use Rattle.laws_due.proofs.Halves.{round_at, round_one}
use Rattle.laws_due.proofs.Requests.{request_at}
use Rattle.laws_due.proofs.Views.{LogsAre}

-- the account while a `do` runs
abbrev pub run : Account → Current → ℕ → ℕ → List ClientRequest → Account
run d t object inv qs =
    record d { command = Some (commands.Do object inv); requests = qs; written = None; current = Some t }

-- what holds while a `do` runs
pub record Runs (decl : Declaration) (d : Account) (desk : Desk) (t : Current) (views : List View) : Type 0 where
  pub live : t.doomed ≡ false
  pub room : nat_le most_transaction_operations (length t.ops) ≡ false
  pub records : RecordsHold decl views t.own t.ops
  pub logs : LogsAre (view_of t) views
  pub desk_is : IsIdleDesk d desk

-- the sites that a half asks next: those that its round wants

abbrev pub IsNext : Declaration → Account → Current → (Want → Bool) → ℕ → List ClientRequest → List ℕ → Type 0
IsNext decl d t half need qs ss = wanted (round_at decl d t half need qs) ≡ ss

pub next_one : (decl : Declaration) (d : Account) (t : Current) (half : Want → Bool) (need : ℕ) (want : Want)
    → half want ≡ true → (qs : List ClientRequest) (n site : ℕ) (ss : List ℕ) → IsNext decl d t half need qs (site ∷ ss)
    → IsNext decl d t half need (qs ++ request_at n t want site ∷ []) ss
next_one decl d t half need want is qs n site ss next =
    ap (λ (r : RoundState). wanted r) (round_one decl d t half need qs n want site is)
    ∙ (first_wanted (round_at decl d t half need qs) site ss next).1

pub next_voter : (decl : Declaration) (d : Account) (t : Current) (half : Want → Bool) (need : ℕ)
    (qs : List ClientRequest) (site : ℕ) (ss : List ℕ) → IsNext decl d t half need qs (site ∷ ss)
    → is_this site (next_site (round_at decl d t half need qs)) ≡ true
next_voter decl d t half need qs site ss next =
    ap (λ (o : Option ℕ). is_this site o) (first_wanted (round_at decl d t half need qs) site ss next).0
    ∙ eq-eqb site site refl

-- the row of a `do` that nothing refuses at once
pub due_do : (decl : Declaration) (d : Account) (desk : Desk) (t : Current) (views : List View) (object inv : ℕ)
    (qs : List ClientRequest) → Runs decl d desk t views
    → running_row decl (run d t object inv qs) false
    ≡ read_row decl (run d t object inv qs) t object inv
    (verdict (round_at decl d t is_read (read_need_of decl t.epoch object inv) qs))
due_do decl d desk t views object inv qs k =
    ap (λ (b : Bool). cond b (Some replies.Doomed)
    (cond (nat_le most_transaction_operations (length t.ops)) (Some replies.TooLong) row)) k.live
    ∙ ap (λ (b : Bool). cond b (Some replies.TooLong) row) k.room
  where
    row : Option Reply
    row =
        read_row decl (run d t object inv qs) t object inv
        (verdict (round_at decl d t is_read (read_need_of decl t.epoch object inv) qs))

-- what is carried

pub line_itself : (l : Line) → same_line l l ≡ true
line_itself l = ap is_eq (tied_itself lines_are_ordered.total l)

own_itself : (l : OwnLine) → same_own l l ≡ true
own_itself l = rw (eq-eqb l.op l.op refl, eq-eqb l.object l.object refl, eq-eqb l.event l.event refl) refl

pub all_same : {A : Type 0} (same : A → A → Bool) → ((x : A) → same x x ≡ true) → (xs : List A)
    → pointwise same xs xs ≡ true
all_same same itself [] = refl
all_same same itself (x ∷ xs) = ap (λ (b : Bool). b && pointwise same xs xs) (itself x) ∙ all_same same itself xs

pub carried : (decl : Declaration) (t : Current) (object event : ℕ)
    → carries decl t object (view_of t object) (own_appended decl t object event) (Some event) ≡ true
carried decl t object event =
    ap (λ (b : Bool). b && pointwise same_own (own_appended decl t object event) (own_appended decl t object event))
    (all_same same_line line_itself (view_of t object))
    ∙ all_same same_own own_itself (own_appended decl t object event)
