-- What a client takes and writes leaves the grounds of its account.
use Rattle.std.proofs.Common.{◌≡◌, ◌+◌, List, [], ◌∷◌, ◌++◌, Some, None, refl, sym, ap, ◌∙◌, subst}
use Rattle.qc_list.specs.Vocabulary.{In}
use Rattle.qc_list.proofs.Members.{In-last}
use Rattle.qc_msg.specs.declared.message.Answer.{Answer}
use Rattle.qc_msg.specs.declared.message.Message.TheVariants as messages
use Rattle.qc_msg.specs.declared.record.Record.{Record}
use Rattle.qc_msg.specs.declared.step.Command.{Command}
use Rattle.qc_msg.specs.declared.step.Input.{Input}
use Rattle.qc_msg.specs.declared.step.Input.TheVariants as inputs
use Rattle.qc_msg.specs.Vocabulary.{Deed, Takes, Writes}
use Rattle.qc_promise.specs.Vocabulary.{Account, account_taken, account_written}
use Rattle.laws_guarantees.proofs.Accounts.{HasGrounds, granted_more, same_grounds}
use Rattle.laws_guarantees.proofs.Counting.{counted_grounds}
use Rattle.laws_guarantees.proofs.AccountCases.{heard_cases}
use Rattle.laws_due.proofs.AccountCases.{written_cases}

-- a command, a message, a loss

called_grounds : (ds : List Deed) (d : Account) (command : Command) → HasGrounds ds d
    → HasGrounds (ds ++ Takes (inputs.Called command) ∷ [])
    (record d { command = Some command; requests = []; written = None })
called_grounds ds d command k = record {
  sent = λ q never. absurd never;
  taken = λ q answer never is. absurd never;
  granted = λ t site is has. granted_more ds (Takes (inputs.Called command)) t.tx site (k.granted t site is has);
  called = λ c is. (let same : c ≡ command = cc in
      subst (λ (y : Command). In (Takes (inputs.Called y)) (ds ++ Takes (inputs.Called command) ∷ [])) (sym same)
      (In-last (Takes (inputs.Called command)) ds));
}

pub take_grounds : (ds : List Deed) (d : Account) (g : Input) → HasGrounds ds d
    → HasGrounds (ds ++ Takes g ∷ []) (account_taken d g)
take_grounds ds d (inputs.Called command) k = called_grounds ds d command k
take_grounds ds d (inputs.Lost number) k =
    counted_grounds ds (Takes (inputs.Lost number)) d number None (λ a is. absurd (let never : ⊥ = cc in never)) k
take_grounds ds d (inputs.Got e) k =
    heard_cases d (λ m x. e.message ≡ m → HasGrounds (ds ++ Takes (inputs.Got e) ∷ []) x)
    (λ m is. same_grounds ds (Takes (inputs.Got e)) d d refl refl refl k)
    (λ to answer is. counted_grounds ds (Takes (inputs.Got e)) d to (Some answer)
    (λ a it. (e, refl, is ∙ ap (λ (y : Answer). messages.Answer to y) (let just : answer ≡ a = cc in just))) k)
    e.message refl

-- a record

pub written_grounds : (ds : List Deed) (d : Account) (w : Record) → HasGrounds ds d
    → HasGrounds (ds ++ Writes w ∷ []) (account_written d w)
written_grounds ds d w k = written_cases d (λ e. HasGrounds (ds ++ Writes w ∷ []) e)
    (same_grounds ds (Writes w) d d refl refl refl k)
    (same_grounds ds (Writes w) d (record d { life = d.life + 1 }) refl refl refl k)
    (λ commit. same_grounds ds (Writes w) d (record d { written = Some commit }) refl refl refl k) w
