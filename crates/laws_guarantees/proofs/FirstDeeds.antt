-- What a client that hears of no other life or epoch than the first writes, sends and tells.
use Rattle.std.proofs.Common.{[], ◌≡◌, ℕ, max, Bool, true, false, cond, List, ◌∷◌, ◌++◌, Option, Some, None, option_map}
use Rattle.std.specs.List.{AllByRecursion as Every, find}
use Rattle.qc_list.proofs.Members.{every-append}
use Rattle.qc_stamp.specs.Vocabulary.{first_life}
use Rattle.qc_decl.specs.declared.declaration.Declaration.{Declaration}
use Rattle.qc_msg.specs.declared.begun.LifeAt.{LifeAt}
use Rattle.qc_msg.specs.declared.message.Answer.{Answer}
use Rattle.qc_msg.specs.declared.message.Message.{Message}
use Rattle.qc_msg.specs.declared.message.Want.{Want}
use Rattle.qc_msg.specs.declared.message.Want.TheVariants as wants
use Rattle.qc_msg.specs.declared.payload.Grant.{Grant}
use Rattle.qc_msg.specs.declared.record.Record.{Record}
use Rattle.qc_msg.specs.declared.step.Command.{Command}
use Rattle.qc_msg.specs.declared.step.Input.{Input}
use Rattle.qc_msg.specs.declared.step.Input.TheVariants as inputs
use Rattle.qc_msg.specs.Vocabulary.{first_epoch, has_granted, with_life}
use Rattle.qc_promise.specs.Vocabulary.{Account, ClientRequest, Current, account_heard, account_sent, account_taken}
use Rattle.qc_promise.specs.Vocabulary.{account_written, answer_of, counted, counted_for, granted, is_open, lived}
use Rattle.qc_promise.specs.Vocabulary.{promised, responded, taken_for, told_by, with_current, with_read, with_response}
use Rattle.laws_guarantees.specs.Vocabulary.{IsFirst, IsFirstAnswer}
use Rattle.laws_guarantees.proofs.AccountCases.{heard_cases, responded_cases, sent_cases, told_cases}
use Rattle.laws_due.proofs.AccountCases.{written_cases}

abbrev pub FirstLives : List LifeAt → Type 0
FirstLives lives = Every (λ (l : LifeAt). l.life ≡ first_life) lives

abbrev pub FirstTransaction : Current → Type 0
FirstTransaction t = (t.epoch ≡ first_epoch) × FirstLives t.lives

abbrev pub FirstCurrent : Option Current → Type 0
FirstCurrent None = Unit {0}
FirstCurrent (Some t) = FirstTransaction t

pub record IsFirstAccount (d : Account) : Type 0 where
  pub known : d.known ≡ first_epoch
  pub current : FirstCurrent d.current

-- the begun transaction changes

pub changed : (d : Account) (change : Current → Current)
    → ((t : Current) → FirstTransaction t → FirstTransaction (change t)) → IsFirstAccount d
    → IsFirstAccount (with_current d change)
changed d change keeps f = record { known = f.known; current = by d.current f.current }
  where
    by : (o : Option Current) → FirstCurrent o → FirstCurrent (option_map change o)
    by None first = tt
    by (Some t) first = keeps t first

one_life : (lives : List LifeAt) (site life : ℕ) → life ≡ first_life → FirstLives lives
    → FirstLives (with_life lives site life)
one_life lives site life is first = by (has_granted lives site)
  where
    by : (t : Bool) → FirstLives (cond t lives (lives ++ record { site = site; life = life } ∷ []))
    by true = first
    by false =
        every-append (λ (l : LifeAt). l.life ≡ first_life) lives (record { site = site; life = life } ∷ []) first
        (is, tt)

granted_first : (d : Account) (site : ℕ) (g : Grant) (want : Want) → g.life ≡ first_life → IsFirstAccount d
    → IsFirstAccount (granted d site g want)
granted_first d site g (wants.Read read) is f =
    changed (record d { clock = max d.clock g.clock })
    (λ (t : Current). with_read (lived t site g.life) read.object g.log)
    (λ t first. (first.0, one_life t.lives site g.life is first.1)) (record { known = f.known; current = f.current })
granted_first d site g (wants.Append object view own) is f =
    changed (record d { clock = max d.clock g.clock }) (λ (t : Current). lived t site g.life)
    (λ t first. (first.0, one_life t.lives site g.life is first.1)) (record { known = f.known; current = f.current })
granted_first d site g wants.Prepare is f = f

promised_first : (d : Account) (clock : ℕ) (want : Want) → IsFirstAccount d → IsFirstAccount (promised d clock want)
promised_first d clock (wants.Read read) f = f
promised_first d clock (wants.Append object view own) f = f
promised_first d clock wants.Prepare f = record { known = f.known; current = f.current }

abbrev pub FirstTaken : Option Answer → Type 0
FirstTaken None = Unit {0}
FirstTaken (Some answer) = IsFirstAnswer answer

told_first : (d : Account) (q : ClientRequest) (answer : Option Answer) → FirstTaken answer → IsFirstAccount d
    → IsFirstAccount (told_by d q answer)
told_first d q answer first f = told_cases d q (λ a e. FirstTaken a → IsFirstAccount e) (λ a first. f)
    (λ g first. granted_first d q.site g q.want first f) (λ epoch never. absurd never)
    (λ clock first. promised_first d clock q.want f) answer first

counted_first : (d : Account) (number : ℕ) (answer : Option Answer) → FirstTaken answer → IsFirstAccount d
    → IsFirstAccount (counted d number answer)
counted_first d number answer first f = by (find (is_open number) d.requests)
  where
    by : (o : Option ClientRequest) → IsFirstAccount (counted_for d number answer o)
    by None = f
    by (Some q) =
        told_first (record d { requests = taken_for number answer d.requests }) q answer first
        (record { known = f.known; current = f.current })

heard_first : (d : Account) (m : Message) → IsFirst m → IsFirstAccount d → IsFirstAccount (account_heard d m)
heard_first d m first f = heard_cases d (λ m e. IsFirst m → IsFirstAccount e) (λ m first. f)
    (λ to answer first. counted_first d to (Some answer) first f) m first

abbrev pub FirstGiven : Input → Type 0
FirstGiven (inputs.Called command) = Unit {0}
FirstGiven (inputs.Got e) = IsFirst e.message
FirstGiven (inputs.Lost number) = Unit {0}

pub taken_first : (d : Account) (g : Input) → FirstGiven g → IsFirstAccount d → IsFirstAccount (account_taken d g)
taken_first d (inputs.Called command) first f = record { known = f.known; current = f.current }
taken_first d (inputs.Got e) first f = heard_first d e.message first f
taken_first d (inputs.Lost number) first f = counted_first d number None tt f

-- what is written, sent and told

pub written_first : (d : Account) (w : Record) → IsFirstAccount d → IsFirstAccount (account_written d w)
written_first d w f = written_cases d IsFirstAccount f (record { known = f.known; current = f.current })
    (λ commit. record { known = f.known; current = f.current }) w

pub sent_first : (decl : Declaration) (d : Account) (number to : ℕ) (m : Message) → IsFirstAccount d
    → IsFirstAccount (account_sent decl d number to m)
sent_first decl d number to m f = sent_cases decl d number to (λ m e. IsFirstAccount e) (λ m. f)
    (λ tx epoch life want is. record { known = f.known; current = f.current }) m

response_first : (decl : Declaration) (t : Current) (object inv : ℕ) (o : Option ℕ) → FirstTransaction t
    → FirstTransaction (with_response decl t object inv o)
response_first decl t object inv None first = first
response_first decl t object inv (Some event) first = first

pub responded_first : (decl : Declaration) (d : Account) (o : Option Command) → IsFirstAccount d
    → IsFirstAccount (responded decl d o)
responded_first decl d o f = responded_cases decl d IsFirstAccount f
    (λ object inv. changed d (λ (t : Current). with_response decl t object inv (answer_of decl t object inv))
    (λ t first. response_first decl t object inv (answer_of decl t object inv) first) f) o
