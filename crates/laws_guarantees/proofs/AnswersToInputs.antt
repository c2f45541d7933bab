-- Each answer of a site's step is to the request that it took, under its number.
use Rattle.std.proofs.Common.{[], ◌≡◌, ℕ, List, ◌∷◌, inl, inr, Option, Some, None, refl, sym, ap, ◌∙◌, subst}
use Rattle.qc_stamp.specs.declared.stamp.TxId.{TxId}
use Rattle.qc_list.specs.Vocabulary.{In}
use Rattle.qc_entry.specs.declared.line.Line.{Line}
use Rattle.qc_entry.specs.declared.record.Prepared.{Prepared}
use Rattle.qc_decl.specs.declared.declaration.Declaration.{Declaration}
use Rattle.qc_msg.specs.declared.message.Answer.{Answer}
use Rattle.qc_msg.specs.declared.message.Answer.TheVariants as answers
use Rattle.qc_msg.specs.declared.message.Envelope.{Envelope}
use Rattle.qc_msg.specs.declared.message.Message.{Message}
use Rattle.qc_msg.specs.declared.message.Message.TheVariants as messages
use Rattle.qc_msg.specs.declared.message.Outcome.{Outcome}
use Rattle.qc_msg.specs.declared.message.Outcome.TheVariants.{Committed, Aborted, Active}
use Rattle.qc_msg.specs.declared.message.Want.{Want}
use Rattle.qc_msg.specs.declared.message.Want.TheVariants.{Read, Append, Prepare}
use Rattle.qc_msg.specs.declared.step.Input.{Input}
use Rattle.qc_msg.specs.declared.step.Input.TheVariants as inputs
use Rattle.qc_msg.specs.declared.turn.Posting.{Posting}
use Rattle.qc_msg.specs.declared.record.Record.TheVariants as records
use Rattle.qc_site.specs.Vocabulary.{SiteMove, SiteState, answering, answers as answering_turn, appends, clashing}
use Rattle.qc_site.specs.Vocabulary.{closed, closes, finishes, grant_told, grants, installed, installs, joins, moved}
use Rattle.qc_site.specs.Vocabulary.{passed, prepared_of, promise_of, promised, reads, recording, shut_answer, site_at}
use Rattle.qc_site.specs.Vocabulary.{site_takes, votes}
use Rattle.qc_lock.specs.declared.clash.Clash.{Clash as Conflict}
use Rattle.qc_msg.specs.Vocabulary.{quiet}
use Rattle.qc_msg.specs.Vocabulary.{append_grant, start_with}
use Rattle.qc_stamp.specs.declared.stamp.Stamp.{Stamp}
use Rattle.qc_site.proofs.RequestCases.{append_cases, close_cases, prepare_cases, read_cases, request_cases}
use Rattle.qc_site.proofs.Cases.{install_cases}
use Rattle.laws_guarantees.proofs.ForgettingAnswers.{same_answer}
use Rattle.laws_guarantees.proofs.SiteCases.{site_cases}

-- each answer of a move is to this number, and has this
abbrev pub Says : ℕ → (Answer → Type 0) → SiteMove → Type 0
Says number P m =
    (p : Posting) (k : ℕ) (x : Answer) → In p m.turn.sends → p.message ≡ messages.Answer k x → (number ≡ k) × P x

pub says_one : (P : Answer → Type 0) (m : SiteMove) (from number : ℕ) (answer : Answer)
    → m.turn.sends ≡ answering from number answer ∷ [] → P answer → Says number P m
says_one P m from number answer turn has p k x among is = by (subst (λ (ps : List Posting). In p ps) turn among)
  where
    by : In p (answering from number answer ∷ []) → (number ≡ k) × P x
    by (inl same) =
        let s : (number ≡ k) × (answer ≡ x) =
        same_answer number k answer x (sym (ap (λ (q : Posting). q.message) same) ∙ is) in
        (s.0, subst P s.1 has)
    by (inr never) = absurd never

pub says_clash : (P : Answer → Type 0) (decl : Declaration) (m : SiteMove) (from number : ℕ) (c : Conflict)
    → m.turn.sends ≡ (clashing decl from number c).sends → P (answers.Clash c.holder c.inv c.event) → Says number P m
says_clash P decl m from number c turn has p k x among is = by (subst (λ (ps : List Posting). In p ps) turn among)
  where
    by : In p (clashing decl from number c).sends → (number ≡ k) × P x
    by (inl same) =
        let s : (number ≡ k) × (answers.Clash c.holder c.inv c.event ≡ x) =
        same_answer number k (answers.Clash c.holder c.inv c.event) x
        (sym (ap (λ (q : Posting). q.message) same) ∙ is) in
        (s.0, subst P s.1 has)
    by (inr (inl same)) =
        absurd (let s : messages.Inquiry c.holder ≡ messages.Answer k x =
        sym (ap (λ (q : Posting). q.message) same) ∙ is in
        let never : ⊥ = cc in never)
    by (inr (inr never)) = absurd never

pub says_nothing : (P : Answer → Type 0) (number : ℕ) (m : SiteMove) → m.turn.sends ≡ [] → Says number P m
says_nothing P number m none p k x among is = absurd (subst (λ (ps : List Posting). In p ps) none among)

-- every answer is to the request that was taken

abbrev Anything : Answer → Type 0
Anything x = Unit {0}

request_says : (decl : Declaration) (s : SiteState) (from number : ℕ) (tx : TxId) (epoch life : ℕ) (want : Want)
    → Says number Anything (site_at decl s from number (messages.Request tx epoch life want))
request_says decl s from number tx epoch life want =
    request_cases (Says number Anything) decl s from number tx epoch life want
    (says_nothing Anything number (moved s quiet) refl)
    (λ fault is. says_one Anything (moved s (answering_turn from number fault)) from number fault refl tt)
    (λ is. by want)
  where
    by : (w : Want) → Says number Anything (grants decl s from number tx w)
    by (Read read) = read_cases (Says number Anything) decl s from number tx read
        (λ free. says_one Anything (reads s from number tx read) from number (answers.Granted (grant_told s read)) refl
        tt)
        (λ c clash. says_clash Anything decl (moved s (clashing decl from number c)) from number c refl tt)
    by (Append object view own) = append_cases (Says number Anything) decl s from number tx object view own
        (λ free. says_one Anything (appends s from number tx view own) from number
        (answers.Granted (append_grant s.life s.clock))
        refl tt) (λ c clash. says_clash Anything decl (moved s (clashing decl from number c)) from number c refl tt)
    by Prepare =
        prepare_cases (Says number Anything) s from number tx
        (says_one Anything (moved s (answering_turn from number answers.Stale)) from number answers.Stale refl tt)
        (λ held stands. says_one Anything (moved s (answering_turn from number (answers.Yes s.clock))) from number
        (answers.Yes s.clock) refl tt)
        (λ held made. says_one Anything (moved (promised s (promise_of s tx)) (votes s from number (promise_of s tx)))
        from number (answers.Yes s.clock) refl tt)

close_says : (s : SiteState) (from number k : ℕ) → Says number Anything (closes s from number k)
close_says s from number k =
    close_cases (Says number Anything) s from number k
    (λ answer. says_one Anything (moved s (answering_turn from number answer)) from number answer refl tt)
    (λ near later. says_one Anything
    (moved (closed s k) (recording from number (records.Close k) (shut_answer (closed s k)))) from number
    (shut_answer (closed s k)) refl tt)

install_says : (s : SiteState) (from number k clock : ℕ) (lines : List Line)
    → Says number Anything (installs s from number k clock lines)
install_says s from number k clock lines =
    install_cases (Says number Anything) s from number k clock lines
    (λ answer. says_one Anything (moved s (answering_turn from number answer)) from number answer refl tt)
    (λ later fits. says_one Anything
    (moved (installed s k clock lines)
    (recording from number (records.Install (start_with k clock lines)) answers.Installed))
    from number answers.Installed refl tt)

-- what is answered under a number was taken under it
pub record IsAnswering (input : Input) (number : ℕ) : Type 0 where
  pub envelope : Envelope
  pub is : input ≡ inputs.Got envelope
  pub numbered : envelope.number ≡ number

-- the request that an answer is to
pub record IsAnsweringTo (input : Input) (number : ℕ) : Type 0 where
  pub envelope : Envelope
  pub is : input ≡ inputs.Got envelope
  pub numbered : envelope.number ≡ number
  pub tx : TxId
  pub epoch : ℕ
  pub life : ℕ
  pub want : Want
  pub content : envelope.message ≡ messages.Request tx epoch life want

pub answers_inputs : (decl : Declaration) (s : SiteState) (g : Input) (p : Posting) (k : ℕ) (x : Answer)
    → In p (site_takes decl s g).turn.sends → p.message ≡ messages.Answer k x → IsAnswering g k
answers_inputs decl s (inputs.Called command) p k x among is = absurd among
answers_inputs decl s (inputs.Lost number) p k x among is = absurd among
answers_inputs decl s (inputs.Got e) p k x among is = by e.message among
  where
    none_joins : (tx : TxId) (stamp : Stamp) (o : Option Prepared)
        → In p (joins (passed s e.message) tx stamp o).turn.sends → ⊥
    none_joins tx stamp None there = there
    none_joins tx stamp (Some q) there = there

    none : (tx : TxId) (verdict : Outcome) → In p (finishes (passed s e.message) tx verdict).turn.sends → ⊥
    none tx (Committed stamp) there = none_joins tx stamp (prepared_of s.prepared tx) there
    none tx Aborted there = there
    none tx Active there = there

    numbered : e.number ≡ k → IsAnswering (inputs.Got e) k
    numbered same = record { envelope = e; is = refl; numbered = same }

    by : (m : Message) → In p (site_at decl (passed s e.message) e.from e.number m).turn.sends
        → IsAnswering (inputs.Got e) k
    by m = site_cases decl (passed s e.message) e.from e.number
        (λ m move. In p move.turn.sends → IsAnswering (inputs.Got e) k) (λ m there. absurd there)
        (λ tx epoch life want there.
        numbered (request_says decl (passed s e.message) e.from e.number tx epoch life want p k x there is).0)
        (λ tx verdict there. absurd (none tx verdict there))
        (λ epoch there. numbered (close_says (passed s e.message) e.from e.number epoch p k x there is).0)
        (λ epoch clock log there.
        numbered (install_says (passed s e.message) e.from e.number epoch clock log p k x there is).0) m

-- where a request was sent under the number, it is the request that is answered
pub answers_request : (g : Input) (k : ℕ) (r : IsAnswering g k) (tx : TxId) (epoch life : ℕ) (want : Want)
    → r.envelope.message ≡ messages.Request tx epoch life want → IsAnsweringTo g k
answers_request g k r tx epoch life want same =
    record {
      envelope = r.envelope;
      is = r.is;
      numbered = r.numbered;
      tx = tx;
      epoch = epoch;
      life = life;
      want = want;
      content = same;
    }
