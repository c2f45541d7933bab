-- A site keeps its life as it takes an input, but where it closes its epoch; then it tells no vote.
use Rattle.std.proofs.Common.{◌≡◌, ◌≤◌, ◌⊎◌, ℕ, not, Bool, true, false, List, inl, inr, refl, ap}
use Rattle.qc_core.specs.Vocabulary.{is_up}
use Rattle.qc_decl.specs.declared.declaration.Declaration.{Declaration}
use Rattle.qc_mailbox.specs.Vocabulary.{is_down}
use Rattle.qc_list.specs.Vocabulary.{In}
use Rattle.laws_turns.proofs.Downs.{up_is}
use Rattle.qc_msg.specs.Vocabulary.{Deed}
use Rattle.qc_msg.specs.declared.message.Answer.TheVariants as answers
use Rattle.qc_msg.specs.declared.message.Envelope.{Envelope}
use Rattle.qc_msg.specs.declared.message.Message.{Message}
use Rattle.qc_msg.specs.declared.message.Message.TheVariants as messages
use Rattle.qc_msg.specs.declared.message.Outcome.{Outcome}
use Rattle.qc_msg.specs.declared.message.Outcome.TheVariants.{Aborted, Active, Committed}
use Rattle.qc_msg.specs.declared.message.Want.{Want}
use Rattle.qc_msg.specs.declared.message.Want.TheVariants.{Append, Prepare, Read}
use Rattle.qc_msg.specs.declared.step.Input.{Input}
use Rattle.qc_msg.specs.declared.step.Input.TheVariants as given
use Rattle.qc_msg.specs.declared.turn.Posting.{Posting}
use Rattle.laws_reach.proofs.PostedTurns.{never_up}
use Rattle.qc_site.specs.Vocabulary.{SiteMove, SiteState, closed, closes_in, finishes, grants, passed, prepares}
use Rattle.qc_site.specs.Vocabulary.{shut_answer, site_at, site_takes}
use Rattle.qc_site.proofs.RequestCases.{append_cases, close_cases, join_cases, prepare_cases, read_cases, request_cases}
use Rattle.qc_site.proofs.Cases.{install_cases, state_cases}
use Rattle.qc_stamp.specs.declared.stamp.TxId.{TxId}

-- a request for a promise that a vote answers, and the life that it names
pub record IsCast (ms : List Envelope) (to low : ℕ) : Type 0 where
  pub request : Envelope
  pub sent : In request ms
  pub numbered : request.number ≡ to
  pub tx : _
  pub epoch : ℕ
  pub life : ℕ
  pub named : request.message ≡ messages.Request tx epoch life Prepare
  pub lives : (life ≡ 0) ⊎ (low ≤ life)

abbrev pub IsVote : Posting → ℕ → Type 0
IsVote p to = (clock : ℕ) × (p.message ≡ messages.Answer to (answers.Yes clock))

-- a site keeps its life as it takes an input, but where it closes its epoch; then it tells no vote

other_life : (decl : Declaration) (s : SiteState) (from number : ℕ) (m : Message) → ((k : ℕ) → m ≡ messages.Close k → ⊥)
    → (site_at decl s from number m).site.life ≡ s.life
other_life decl s from number m never =
    state_cases (λ (t : SiteState). t.life ≡ s.life) decl s from number m refl (λ tx epoch life r is. refl)
    (λ tx epoch life object view own is. refl) (λ tx. refl)
    (λ tx verdict is final. refl) (λ tx stamp p is. refl) (λ k is. absurd (never k is)) (λ k clock lines is later. refl)

heard_life : (decl : Declaration) (s : SiteState) (from number : ℕ) (m : Message)
    → closes_in (site_at decl s from number m).turn ≡ false → (site_at decl s from number m).site.life ≡ s.life
heard_life decl s from number (messages.Request tx epoch life want) stays =
    other_life decl s from number (messages.Request tx epoch life want) (λ k is. let none : ⊥ = cc in none)
heard_life decl s from number (messages.Answer to answer) stays = refl
heard_life decl s from number (messages.Decision tx verdict) stays =
    other_life decl s from number (messages.Decision tx verdict) (λ k is. let none : ⊥ = cc in none)
heard_life decl s from number (messages.Inquiry tx) stays = refl
heard_life decl s from number (messages.Ask tx) stays = refl
heard_life decl s from number (messages.Close k) stays =
    close_cases (λ m. closes_in m.turn ≡ false → m.site.life ≡ s.life) s from number k (λ answer none. refl)
    (λ near later none. absurd (let clash : ⊥ = cc in clash)) stays
heard_life decl s from number (messages.Install start) stays =
    install_cases (λ m. m.site.life ≡ s.life) s from number start.epoch start.clock start.lines (λ answer. refl)
    (λ later fits. refl)

pub takes_life : (decl : Declaration) (s : SiteState) (g : Input) → closes_in (site_takes decl s g).turn ≡ false
    → (site_takes decl s g).site.life ≡ s.life
takes_life decl s (given.Called command) stays = refl
takes_life decl s (given.Got e) stays = heard_life decl (passed s e.message) e.from e.number e.message stays
takes_life decl s (given.Lost number) stays = refl

-- what tells no vote, where the site closes

abbrev pub TellsNone : SiteMove → Type 0
TellsNone m = closes_in m.turn ≡ true → (p : Posting) → In p m.turn.sends → (to : ℕ) → IsVote p to → ⊥

promised_none : (s : SiteState) (from number : ℕ) (tx : TxId) → TellsNone (prepares s from number tx)
promised_none s from number tx =
    prepare_cases TellsNone s from number tx (λ closes p among to v. let never : ⊥ = cc in never)
    (λ held stands closes p among to v. let never : ⊥ = cc in never)
    (λ held made closes p among to v. let never : ⊥ = cc in never)

wanted_none : (decl : Declaration) (s : SiteState) (from number : ℕ) (tx : TxId) (want : Want)
    → TellsNone (grants decl s from number tx want)
wanted_none decl s from number tx (Read read) =
    read_cases TellsNone decl s from number tx read
    (λ free closes p among to v. let never : ⊥ = cc in never)
    (λ c clash closes p among to v. let never : ⊥ = cc in never)
wanted_none decl s from number tx (Append object view own) =
    append_cases TellsNone decl s from number tx object view own
    (λ free closes p among to v. let never : ⊥ = cc in never)
    (λ c clash closes p among to v. let never : ⊥ = cc in never)
wanted_none decl s from number tx Prepare = promised_none s from number tx

finished_none : (s : SiteState) (tx : TxId) (verdict : Outcome) → TellsNone (finishes s tx verdict)
finished_none s tx (Committed stamp) =
    join_cases TellsNone s tx stamp (λ none closes p among to v. absurd among)
    (λ q some closes p among to v. absurd among)
finished_none s tx Aborted = λ closes p among to v. absurd among
finished_none s tx Active = λ closes p among to v. absurd among

heard_none : (decl : Declaration) (s : SiteState) (from number : ℕ) (m : Message)
    → TellsNone (site_at decl s from number m)
heard_none decl s from number (messages.Request tx epoch life want) =
    request_cases TellsNone decl s from number tx epoch life want (λ closes p among to v. absurd among)
    (λ fault is closes p among to v. let never : ⊥ = cc in never) (λ is. wanted_none decl s from number tx want)
heard_none decl s from number (messages.Answer to answer) = λ closes p among to v. absurd among
heard_none decl s from number (messages.Decision tx verdict) = finished_none s tx verdict
heard_none decl s from number (messages.Inquiry tx) = λ closes p among to v. absurd among
heard_none decl s from number (messages.Ask tx) = λ closes p among to v. absurd among
heard_none decl s from number (messages.Close k) =
    close_cases TellsNone s from number k (λ answer closes p among to v. let never : ⊥ = cc in never)
    (λ near later closes p among to v. elim among [
      | inl first ↦
          (let says : p.message
          ≡ messages.Answer number (shut_answer (closed s k)) = ap (λ (q : Posting). q.message) first in let never : ⊥
          = (let told = v.1 in cc) in never)
      | inr none ↦ none
    ])
heard_none decl s from number (messages.Install start) =
    install_cases TellsNone s from number start.epoch start.clock start.lines
    (λ answer closes p among to v. let never : ⊥ = cc in never)
    (λ later fits closes p among to v. let never : ⊥ = cc in never)

pub takes_none : (decl : Declaration) (s : SiteState) (g : Input) → TellsNone (site_takes decl s g)
takes_none decl s (given.Called command) = λ closes p among to v. absurd among
takes_none decl s (given.Got e) = heard_none decl (passed s e.message) e.from e.number e.message
takes_none decl s (given.Lost number) = λ closes p among to v. absurd among

pub fallen : (ds : List Deed) → is_up ds ≡ false → is_down ds ≡ true
fallen ds down = by (is_down ds) (up_is ds)
  where
    by : (d : Bool) → is_up ds ≡ not d → d ≡ true
    by true is = refl
    by false is = absurd (never_up (is_up ds) down is)
