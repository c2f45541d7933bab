-- A command runs by the account just where it runs by the deeds.
use Rattle.std.proofs.Common.{◌≡◌, ℕ, ◌-◌, ◌<◌, ◌≤◌, nat_lt, Bool, true, false, cond, List, [], ◌∷◌, Option, Some, None}
use Rattle.std.proofs.Common.{is_some, refl, sym, ap, ◌∙◌, arith}
use Rattle.std.specs.Prelude.{fold}
use Rattle.std.specs.List.{find}
use Rattle.std.proofs.lemmas.Bool.{ltb-true}
use Rattle.qc_decl.proofs.Clients.{client_past}
use Rattle.qc_decl.specs.declared.declaration.Declaration.{Declaration}
use Rattle.qc_decl.specs.Vocabulary.{is_client, is_site}
use Rattle.qc_core.specs.Vocabulary.{AreSteady, IsLawful, MayTake, is_running, runs_at}
use Rattle.qc_client.specs.Vocabulary.{client_after}
use Rattle.qc_msg.specs.declared.message.Answer.{Answer}
use Rattle.qc_msg.specs.declared.message.Message.{Message}
use Rattle.qc_msg.specs.declared.record.Record.{Record}
use Rattle.qc_msg.specs.declared.step.Command.{Command}
use Rattle.qc_msg.specs.declared.step.Input.{Input}
use Rattle.qc_msg.specs.declared.step.Input.TheVariants as inputs
use Rattle.qc_msg.specs.declared.turn.Turn.{Turn}
use Rattle.qc_msg.specs.Vocabulary.{Deed, Falls, Rises, Sends, Takes, Tells, Writes, Answered, answer_in}
use Rattle.qc_promise.specs.Vocabulary.{Account, ClientRequest, IsFreeFor, account_at, account_heard, account_sent}
use Rattle.qc_promise.specs.Vocabulary.{account_written, counted, counted_for, is_open, new_account, taken_for}
use Rattle.qc_site.specs.Vocabulary.{site_after}
use Rattle.laws_turns.proofs.ReadingCases.{mapped}
use Rattle.laws_due.proofs.AccountCases.{sent_cases, told_cases, written_cases}

pub counted_command : (d : Account) (n : ℕ) (answer : Option Answer) → (counted d n answer).command ≡ d.command
counted_command d n answer = by (find (is_open n) d.requests)
  where
    by : (o : Option ClientRequest) → (counted_for d n answer o).command ≡ d.command
    by None = refl
    by (Some q) =
        told_cases (record d { requests = taken_for n answer d.requests }) q answer
        (λ (e : Account). e.command ≡ d.command) refl (λ clock. refl) (λ clock change same. refl) (λ epoch is. refl)

pub heard_command : (d : Account) (m : Message) → (account_heard d m).command ≡ d.command
heard_command d m =
    mapped (λ (e : Account). e.command ≡ d.command) (λ (a : Answered). counted d a.to (Some a.answer)) d (answer_in m)
    (λ a. counted_command d a.to (Some a.answer)) refl

written_command : (d : Account) (w : Record) → (account_written d w).command ≡ d.command
written_command d w = written_cases d (λ (e : Account). e.command ≡ d.command) refl refl (λ commit. refl) w

sent_command : (decl : Declaration) (d : Account) (n to : ℕ) (m : Message)
    → (account_sent decl d n to m).command ≡ d.command
sent_command decl d n to m =
    sent_cases decl d n to (λ (m : Message) (e : Account). e.command ≡ d.command) (λ m. refl) (λ q. refl) m

runs_step : (decl : Declaration) (d : Account) (deed : Deed)
    → runs_at (is_some d.command) deed ≡ is_some (account_at decl d deed).command
runs_step decl d (Takes (inputs.Called command)) = refl
runs_step decl d (Takes (inputs.Got envelope)) = ap is_some (sym (heard_command d envelope.message))
runs_step decl d (Takes (inputs.Lost n)) = ap is_some (sym (counted_command d n None))
runs_step decl d (Writes w) = ap is_some (sym (written_command d w))
runs_step decl d (Sends n to m) = ap is_some (sym (sent_command decl d n to m))
runs_step decl d (Tells reply) = refl
runs_step decl d (Falls cause pending) = refl
runs_step decl d (Rises records) = refl

runs_on : (decl : Declaration) (ds : List Deed) (d : Account)
    → fold runs_at (is_some d.command) ds ≡ is_some (fold (account_at decl) d ds).command
runs_on decl [] d = refl
runs_on decl (x ∷ ds) d = ap (λ (b : Bool). fold runs_at b ds) (runs_step decl d x)
    ∙ runs_on decl ds (account_at decl d x)

pub running : (decl : Declaration) (client : ℕ) (ds : List Deed)
    → is_running ds ≡ is_some (fold (account_at decl) (new_account client) ds).command
running decl client ds = runs_on decl ds (new_account client)

-- through falls and rises too
pub free_for : (decl : Declaration) (client : ℕ) (ds : List Deed) (g : Input) → MayTake ds g
    → IsFreeFor (fold (account_at decl) (new_account client) ds) g
free_for decl client ds (inputs.Called command) may =
    by (fold (account_at decl) (new_account client) ds).command (sym (running decl client ds) ∙ may)
  where
    by : (o : Option Command) → is_some o ≡ false → o ≡ None
    by None is = refl
    by (Some c) is = absurd (let never : ⊥ = cc in never)
free_for decl client ds (inputs.Got envelope) may = tt
free_for decl client ds (inputs.Lost n) may = tt

pub may_give : (decl : Declaration) (client : ℕ) (ds : List Deed) → AreSteady ds → (g : Input) → MayTake ds g
    → IsFreeFor (fold (account_at decl) (new_account client) ds) g
may_give decl client ds up g may = free_for decl client ds g may

-- a client's lawful turn is its conduct's

pub no_site : (decl : Declaration) (a : ℕ) → is_client decl a ≡ true → is_site decl a ≡ false
no_site decl a is = by (nat_lt a decl.sites) refl
  where
    by : (b : Bool) → nat_lt a decl.sites ≡ b → b ≡ false
    by true low = absurd (let less : a < decl.sites = ltb-true a decl.sites low in
        let more : decl.sites ≤ a = client_past decl a is in omega arith)
    by false low = refl

pub lawful_turn : (decl : Declaration) (a : ℕ) (ds : List Deed) (turn : Turn) → is_client decl a ≡ true
    → IsLawful decl a ds turn → turn ≡ (client_after decl (a - decl.sites) ds).turn
lawful_turn decl a ds turn client law = by (is_site decl a) (is_client decl a) (no_site decl a client) client law
  where
    by : (s c : Bool) → s ≡ false → c ≡ true
        → cond s (Some (site_after decl a ds).turn) (cond c (Some (client_after decl (a - decl.sites) ds).turn) None)
        ≡ Some turn → turn ≡ (client_after decl (a - decl.sites) ds).turn
    by true c other is e = absurd (let never : ⊥ = cc in never)
    by false true other is e = let same : (client_after decl (a - decl.sites) ds).turn ≡ turn = cc in sym same
    by false false other is e = absurd (let never : ⊥ = cc in never)
