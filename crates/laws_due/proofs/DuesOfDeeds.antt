-- An account of a client that is up, which runs what is declared, has a row for each reply that is due; deeds leave it
-- so.
use Rattle.std.proofs.Common.{◌≡◌, ◌⊎◌, ◌<◌, ◌≤◌, ℕ, ◌&&◌, max, Bool, true, false, cond, List, inl, inr, Option, Some}
use Rattle.std.proofs.Common.{None, refl, sym, ap, ◌∙◌, subst, arith, is_some}
use Rattle.std.specs.Prelude.{option_and_then, option_map, MatchOption}
use Rattle.std.specs.List.{find}
use Rattle.std.proofs.lemmas.Bool.{cases_lt}
use Rattle.qc_decl.specs.declared.declaration.Declaration.{Declaration}
use Rattle.qc_msg.specs.declared.message.Answer.{Answer}
use Rattle.qc_msg.specs.declared.message.Message.{Message}
use Rattle.qc_msg.specs.declared.reply.Reply.{Reply}
use Rattle.qc_msg.specs.declared.reply.Reply.TheVariants as replies
use Rattle.qc_msg.specs.declared.step.Command.{Command}
use Rattle.qc_msg.specs.declared.step.Input.TheVariants as inputs
use Rattle.qc_msg.specs.Vocabulary.{Takes, Answered, Invocation, answer_in, closed_in, do_in}
use Rattle.qc_promise.specs.Vocabulary.{Account, ClientRequest, Current, due, is_declared_for, reply_to, row_of}
use Rattle.qc_promise.specs.Vocabulary.{running_row}
use Rattle.qc_promise.specs.Accounting as accounting
use Rattle.laws_due.specs.Vocabulary.{IsDeclaredCommand, IsDeclaredDeed, IsPlanned, ArePlanned}
use Rattle.laws_due.proofs.AccountCases.{told_cases}
use Rattle.std.specs.Option.{option_map_or}
use Rattle.qc_decl.specs.Vocabulary.{plan_in, table_at}

-- an account of a client that is up, which knows, has begun and runs what is declared

abbrev pub HasPlan : Declaration → Option Current → Type 0
HasPlan decl None = Unit {0}
HasPlan decl (Some t) = IsPlanned decl t.epoch

abbrev pub HasTable : Declaration → Option Command → Type 0
HasTable decl None = Unit {0}
HasTable decl (Some command) = IsDeclaredCommand decl command

pub record IsWithin (decl : Declaration) (d : Account) : Type 0 where
  pub up : d.up ≡ true
  pub known : IsPlanned decl d.known
  pub current : HasPlan decl d.current
  pub command : HasTable decl d.command

-- there the row is the reply that is due

module _ (decl : Declaration) (d : Account) (w : IsWithin decl d) where
  both : (x y : Bool) → x ≡ true → y ≡ true → (x && y) ≡ true
  both x y first second = λ i. first i && second i

  is_declared : (o : Option Current) → HasPlan decl o → (c : Command) → IsDeclaredCommand decl c
      → is_declared_for decl o c ≡ true
  is_declared None plan c table = refl
  is_declared (Some t) plan c table = by (do_in c) table
    where
      by : (o : Option Invocation)
          → MatchOption o (Unit {0}) (λ (i : Invocation). is_some (table_at decl i.object) ≡ true)
          → option_map_or (λ (i : Invocation). is_some (plan_in decl t.epoch) && is_some (table_at decl i.object)) o
          true
          ≡ true
      by None declared = refl
      by (Some i) declared = λ j. plan j && declared j

  pub due_as : (unwritten : Bool) → due decl d unwritten ≡ running_row decl d unwritten
  due_as unwritten = by d.command w.command
    where
      by : (o : Option Command) → HasTable decl o
          → option_and_then (reply_to decl d unwritten) o ≡ option_and_then (row_of decl d unwritten d.current) o
      by None table = refl
      by (Some c) table =
          ap (λ (b : Bool). cond b (cond (is_declared_for decl d.current c) (row_of decl d unwritten d.current c) None)
          (Some replies.Down)) w.up
          ∙ ap (λ (b : Bool). cond b (row_of decl d unwritten d.current c) None)
          (is_declared d.current w.current c table)

  pub due_is : due decl d false ≡ running_row decl d false
  due_is = due_as false

-- where there is no row nothing is due

pub none_due : (decl : Declaration) (d : Account) → d.up ≡ true → running_row decl d false ≡ None
    → due decl d false ≡ None
none_due decl d up none = by d.command none
  where
    either : (b : Bool) (o : Option Reply) → o ≡ None → cond b o None ≡ None
    either true o is = is
    either false o is = refl

    by : (o : Option Command) → option_and_then (row_of decl d false d.current) o ≡ None
        → option_and_then (reply_to decl d false) o ≡ None
    by None is = refl
    by (Some c) is =
        ap (λ (b : Bool). cond b (cond (is_declared_for decl d.current c) (row_of decl d false d.current c) None)
        (Some replies.Down)) up
        ∙ either (is_declared_for decl d.current c) (row_of decl d false d.current c) is

-- each deed leaves it so

planned_max : (decl : Declaration) (m n : ℕ) → IsPlanned decl m → IsPlanned decl n → IsPlanned decl (max m n)
planned_max decl m n first second = by (cases_lt m n)
  where
    by : (m < n) ⊎ (n ≤ m) → IsPlanned decl (max m n)
    by (inl low) = subst (IsPlanned decl) (let is : n ≡ max m n = omega arith in is) second
    by (inr high) = subst (IsPlanned decl) (let is : m ≡ max m n = omega arith in is) first

module _ (decl : Declaration) where
  pub changed : (d : Account) (change : Current → Current) → ((t : Current) → (change t).epoch ≡ t.epoch)
      → IsWithin decl d
      → IsWithin decl (accounting.with_current d change)
  changed d change same w = record { up = w.up; known = w.known; current = by d.current w.current; command = w.command }
    where
      by : (o : Option Current) → HasPlan decl o → HasPlan decl (option_map change o)
      by None plan = tt
      by (Some t) plan = subst (IsPlanned decl) (sym (same t)) plan

  pub passed : (d : Account) (clock : ℕ) → IsWithin decl d → IsWithin decl (record d { clock = clock })
  passed d clock w = record { up = w.up; known = w.known; current = w.current; command = w.command }

  pub asked : (d : Account) (qs : List ClientRequest) → IsWithin decl d → IsWithin decl (record d { requests = qs })
  asked d qs w = record { up = w.up; known = w.known; current = w.current; command = w.command }

  answered : (d : Account) (to : ℕ) (a : Answer) → ArePlanned decl (closed_in a) → IsWithin decl d
      → IsWithin decl (accounting.counted d to (Some a))
  answered d to a plan w = by (find (accounting.is_open to) d.requests)
    where
      by : (o : Option ClientRequest) → IsWithin decl (accounting.counted_for d to (Some a) o)
      by None = w
      by (Some q) =
          told_cases (record d { requests = accounting.taken_for to (Some a) d.requests }) q (Some a) (IsWithin decl) v
          (λ clock. passed _ clock v) (λ clock change same. changed _ change same (passed _ clock v))
          (λ epoch is. record {
            up = w.up;
            known = planned_max decl d.known epoch w.known (subst (ArePlanned decl) is plan);
            current = w.current;
            command = w.command;
          })
        where
          v : IsWithin decl (record d { requests = accounting.taken_for to (Some a) d.requests })
          v = asked d (accounting.taken_for to (Some a) d.requests) w

  pub lost : (d : Account) (number : ℕ) → IsWithin decl d → IsWithin decl (accounting.counted d number None)
  lost d number w = by (find (accounting.is_open number) d.requests)
    where
      by : (o : Option ClientRequest) → IsWithin decl (accounting.counted_for d number None o)
      by None = w
      by (Some q) = asked d (accounting.taken_for number None d.requests) w

  pub heard : (d : Account) (m : Message)
      → IsDeclaredDeed decl (Takes (inputs.Got (record { number = 0; from = 0; to = 0; message = m })))
      → IsWithin decl d → IsWithin decl (accounting.account_heard d m)
  heard d m plan w = by (answer_in m) plan
    where
      by : (o : Option Answered) → ArePlanned decl (option_and_then (λ (a : Answered). closed_in a.answer) o)
          → IsWithin decl (option_map_or (λ (a : Answered). accounting.counted d a.to (Some a.answer)) o d)
      by None planned = w
      by (Some a) planned = answered d a.to a.answer planned w
