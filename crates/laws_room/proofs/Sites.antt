-- A site's turn costs no more than the message that it answers to pays.
use Rattle.std.proofs.Common.{◌≡◌, ℕ, ◌+◌, ◌≤◌, List, refl, arith}
use Rattle.qc_stamp.specs.declared.stamp.TxId.{TxId}
use Rattle.qc_decl.specs.declared.declaration.Declaration.{Declaration}
use Rattle.qc_entry.specs.declared.line.Line.{Line}
use Rattle.qc_entry.specs.declared.line.OwnLine.{OwnLine}
use Rattle.qc_msg.specs.declared.message.Answer.{Answer}
use Rattle.qc_msg.specs.declared.message.Answer.TheVariants as answers
use Rattle.qc_msg.specs.declared.message.Message.{Message}
use Rattle.qc_msg.specs.declared.message.Message.TheVariants as messages
use Rattle.qc_msg.specs.declared.message.Outcome.{Outcome}
use Rattle.qc_msg.specs.declared.message.Outcome.TheVariants.{Committed, Aborted, Active}
use Rattle.qc_msg.specs.declared.message.Want.{Want}
use Rattle.qc_msg.specs.declared.message.Want.TheVariants.{Read, Append, Prepare}
use Rattle.qc_msg.specs.declared.payload.ReadRequest.{ReadRequest}
use Rattle.qc_msg.specs.declared.record.Record.TheVariants as records
use Rattle.qc_msg.specs.declared.step.Input.{Input}
use Rattle.qc_msg.specs.declared.step.Input.TheVariants as inputs
use Rattle.qc_msg.specs.Counts.{lines_answered}
use Rattle.qc_msg.specs.Vocabulary.{append_grant, quiet, start_with}
use Rattle.qc_site.specs.Vocabulary.{SiteMove, SiteState, answers as answered, closed, closes, finishes}
use Rattle.qc_site.specs.Vocabulary.{grant_told, grants, installs, moved, passed, prepares, promise_of, shut_answer}
use Rattle.qc_site.specs.Vocabulary.{site_at, site_takes}
use Rattle.qc_site.proofs.RequestCases.{append_cases, close_cases, fault_is, join_cases, prepare_cases, read_cases}
use Rattle.qc_site.proofs.RequestCases.{request_cases}
use Rattle.qc_site.proofs.Cases.{install_cases}
use Rattle.laws_turns.proofs.SiteCases.{site_cases}
use Rattle.laws_room.proofs.Prices.{Prices, AreFair, full, pays, pays_input, turn_cost}

module _ (decl : Declaration) (p : Prices) (fair : AreFair p) (s : SiteState) (from number : ℕ) where
  -- the move costs no more than the message pays
  abbrev Fits : Message → SiteMove → Type 0
  Fits m move = p.step + turn_cost p move.turn ≤ p.credit m

  quiet_fits : (m : Message) → Fits m (moved s quiet)
  quiet_fits m = let low : p.step ≤ p.credit m = fair.input m in omega arith

  -- requests

  module _ (tx : TxId) (epoch life : ℕ) where
    abbrev asked : Want → Message
    asked want = messages.Request tx epoch life want

    answer_fits : (want : Want) (answer : Answer) → lines_answered answer ≡ 0
        → Fits (asked want) (moved s (answered from number answer))
    answer_fits want answer bare =
        let low : p.step + full p (messages.Answer number answer) ≤ p.credit (asked want) =
        fair.replies tx epoch life number want answer bare in
        omega arith

    reads_fit : (read : ReadRequest) → Fits (asked (Read read)) (grants decl s from number tx (Read read))
    reads_fit read =
        read_cases (Fits (asked (Read read))) decl s from number tx read
        (λ free. (let low : p.step + full p (messages.Answer number (answers.Granted (grant_told s read)))
        ≤ p.credit (asked (Read read)) =
        fair.grants tx epoch life number read (grant_told s read) in
        omega arith))
        (λ c clash. (let low : p.step + (full p (messages.Answer number (answers.Clash c.holder c.inv c.event))
        + full p (messages.Inquiry c.holder)) ≤ p.credit (asked (Read read)) =
        fair.read_clashes tx c.holder c.holder epoch life number c.inv c.event read in
        omega arith))

    appends_fit : (object : ℕ) (view : List Line) (own : List OwnLine)
        → Fits (asked (Append object view own)) (grants decl s from number tx (Append object view own))
    appends_fit object view own =
        append_cases (Fits (asked (Append object view own))) decl s from number tx object view own
        (λ free. (let low : p.step + full p (messages.Answer number (answers.Granted (append_grant s.life s.clock)))
        ≤ p.credit (asked (Append object view own)) =
        fair.replies tx epoch life number (Append object view own) (answers.Granted (append_grant s.life s.clock)) refl
        in
        omega arith))
        (λ c clash. (let low : p.step + (full p (messages.Answer number (answers.Clash c.holder c.inv c.event))
        + full p (messages.Inquiry c.holder)) ≤ p.credit (asked (Append object view own)) =
        fair.append_clashes tx c.holder c.holder epoch life object number c.inv c.event view own in
        omega arith))

    prepares_fit : Fits (asked Prepare) (prepares s from number tx)
    prepares_fit =
        prepare_cases (Fits (asked Prepare)) s from number tx (answer_fits Prepare answers.Stale refl)
        (λ held stands. answer_fits Prepare (answers.Yes s.clock) refl)
        (λ held made. (let low : p.step + (p.written (records.Prepare (promise_of s tx))
        + full p (messages.Answer number (answers.Yes s.clock))) ≤ p.credit (asked Prepare) =
        fair.promises tx epoch life number s.clock (promise_of s tx) in
        omega arith))

    grants_fit : (want : Want) → Fits (asked want) (grants decl s from number tx want)
    grants_fit (Read read) = reads_fit read
    grants_fit (Append object view own) = appends_fit object view own
    grants_fit Prepare = prepares_fit

    request_fits : (want : Want) → Fits (asked want) (site_at decl s from number (asked want))
    request_fits want =
        request_cases (Fits (asked want)) decl s from number tx epoch life want (quiet_fits (asked want))
        (λ fault is. answer_fits want fault
        (fault_is (λ (a : Answer). lines_answered a ≡ 0) s epoch life refl (λ other. refl) refl fault is))
        (λ none. grants_fit want)

  -- all else

  finishes_fit : (tx : TxId) (v : Outcome) → Fits (messages.Decision tx v) (finishes s tx v)
  finishes_fit tx (Committed stamp) =
      join_cases (Fits (messages.Decision tx (Committed stamp))) s tx stamp
      (λ none. (let low : p.step ≤ p.credit (messages.Decision tx (Committed stamp)) =
      fair.input (messages.Decision tx (Committed stamp)) in omega arith))
      (λ promise some. (let low : p.step + p.written (records.Done tx stamp.clock)
      ≤ p.credit (messages.Decision tx (Committed stamp)) =
      fair.finishes tx (Committed stamp) stamp.clock in omega arith))
  finishes_fit tx Aborted = let low : p.step ≤ p.credit (messages.Decision tx Aborted) =
      fair.input (messages.Decision tx Aborted) in omega arith
  finishes_fit tx Active = let low : p.step ≤ p.credit (messages.Decision tx Active) =
      fair.input (messages.Decision tx Active) in omega arith

  closes_fit : (k : ℕ) → Fits (messages.Close k) (closes s from number k)
  closes_fit k =
      close_cases (Fits (messages.Close k)) s from number k
      (λ answer. (let low : p.step + (p.written (records.Close k) + full p (messages.Answer number answer))
      ≤ p.credit (messages.Close k) = fair.closes k number answer in omega arith))
      (λ near later. (let low : p.step + (p.written (records.Close k)
      + full p (messages.Answer number (shut_answer (closed s k)))) ≤ p.credit (messages.Close k) =
      fair.closes k number (shut_answer (closed s k)) in omega arith))

  installs_fit : (k clock : ℕ) (lines : List Line)
      → Fits (messages.Install (start_with k clock lines)) (installs s from number k clock lines)
  installs_fit k clock lines =
      install_cases (Fits (messages.Install (start_with k clock lines))) s from number k clock lines
      (λ answer. (let low : p.step + (p.written (records.Install (start_with k clock lines))
      + full p (messages.Answer number answer)) ≤ p.credit (messages.Install (start_with k clock lines)) =
      fair.installs (start_with k clock lines) number answer in omega arith))
      (λ later short. (let low : p.step + (p.written (records.Install (start_with k clock lines))
      + full p (messages.Answer number answers.Installed)) ≤ p.credit (messages.Install (start_with k clock lines)) =
      fair.installs (start_with k clock lines) number answers.Installed in omega arith))

  pub hears_fit : (m : Message) → Fits m (site_at decl s from number m)
  hears_fit =
      site_cases decl s from number Fits quiet_fits (λ q. request_fits q.tx q.epoch q.life q.want) finishes_fit
      closes_fit
      installs_fit

pub site_pays : (decl : Declaration) (p : Prices) → AreFair p → (s : SiteState) (g : Input)
    → p.step + turn_cost p (site_takes decl s g).turn ≤ pays p decl.sites g
site_pays decl p fair s (inputs.Called command) =
    let low : p.step ≤ pays p decl.sites (inputs.Called command) =
    pays_input p decl.sites (inputs.Called command) fair in
    omega arith
site_pays decl p fair s (inputs.Got e) = hears_fit decl p fair (passed s e.message) e.from e.number e.message
site_pays decl p fair s (inputs.Lost number) = omega arith
