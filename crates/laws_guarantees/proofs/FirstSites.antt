-- A site that hears of the first life and epoch alone refuses nothing for them, and tells no other.
use Rattle.std.proofs.Common.{◌≡◌, ℕ, ◌==◌, ◌⊎◌, inl, inr, nat_lt, cond, List, [], ◌∷◌, Some, None, ap, ◌∙◌}
use Rattle.std.specs.List.{AllByRecursion as Every}
use Rattle.qc_stamp.specs.declared.stamp.TxId.{TxId}
use Rattle.qc_stamp.specs.Vocabulary.{first_life}
use Rattle.qc_decl.specs.declared.declaration.Declaration.{Declaration}
use Rattle.qc_msg.specs.declared.message.Answer.TheVariants as says
use Rattle.qc_msg.specs.declared.message.Message.{Message}
use Rattle.qc_msg.specs.declared.message.Message.TheVariants as messages
use Rattle.qc_msg.specs.declared.message.Outcome.TheVariants.{Aborted, Active, Committed}
use Rattle.qc_msg.specs.declared.message.Want.{Want}
use Rattle.qc_msg.specs.declared.message.Want.TheVariants.{Append, Prepare, Read}
use Rattle.qc_msg.specs.declared.step.Input.{Input}
use Rattle.qc_msg.specs.declared.step.Input.TheVariants as inputs
use Rattle.qc_msg.specs.declared.turn.Posting.{Posting}
use Rattle.qc_msg.specs.Vocabulary.{Deed, Falls, Rises, Sends, Takes, Tells, Writes, first_epoch}
use Rattle.qc_site.specs.Vocabulary.{SiteMove, SiteState, closed_fault, fault_of, grants, life_fault, passed, site_at}
use Rattle.qc_site.specs.Vocabulary.{site_takes, finishes}
use Rattle.qc_site.proofs.RequestCases.{append_cases, join_cases, prepare_cases, read_cases, request_cases}
use Rattle.laws_atomic.proofs.FirstSites.{IsAtFirst, IsCalmGiven, IsCalmMessage, TakesCalm}
use Rattle.laws_guarantees.specs.Vocabulary.{IsFirst}
use Rattle.laws_guarantees.proofs.FirstDeeds.{FirstGiven}
use Rattle.laws_guarantees.proofs.FirstAccounts.{TakesFirst}
use Rattle.laws_guarantees.proofs.SiteCases.{site_cases}
use Rattle.qc_msg.specs.declared.message.Outcome.{Outcome}

-- a request of the first epoch, which names the first life or none, isn't refused for them
pub first_free : (n : ℕ) (s : SiteState) (epoch life : ℕ) → IsAtFirst n s → epoch ≡ first_epoch
    → (life ≡ 0) ⊎ (life ≡ first_life) → fault_of s epoch life ≡ None
first_free n s epoch life first same named =
    ap (λ (k : ℕ). cond (nat_lt k epoch) (Some (says.Behind k))
    (cond (nat_lt epoch k) (Some (says.Closed k)) (closed_fault s life s.closed_for))) first.epoch_is
    ∙ ap (λ (k : ℕ). cond (nat_lt first_epoch k) (Some (says.Behind first_epoch))
    (cond (nat_lt k first_epoch) (Some (says.Closed first_epoch)) (closed_fault s life s.closed_for))) same
    ∙ ap (closed_fault s life) first.is_open
    ∙ by named
  where
    by : (life ≡ 0) ⊎ (life ≡ first_life) → life_fault s life ≡ None
    by (inl none) = ap (life_fault s) none
    by (inr one) = ap (life_fault s) one ∙ ap
        (λ (k : ℕ). cond (first_life == 0) None (cond (first_life == k) None (Some (says.Restarted k)))) first.life_is

abbrev pub SaysFirst : SiteMove → Type 0
SaysFirst m = Every (λ (p : Posting). IsFirst p.message) m.turn.sends

passed_first : (n : ℕ) (s : SiteState) (m : Message) → IsAtFirst n s → IsAtFirst n (passed s m)
passed_first n s m first = record {
  number_is = first.number_is;
  life_is = first.life_is;
  epoch_is = first.epoch_is;
  is_open = first.is_open;
}

module _ (decl : Declaration) (n : ℕ) (s : SiteState) (first : IsAtFirst n s) (from number : ℕ) where
  granted : (tx : TxId) (want : Want) → SaysFirst (grants decl s from number tx want)
  granted tx (Read read) = read_cases SaysFirst decl s from number tx read (λ free. (first.life_is, tt))
      (λ c clash. (tt, (tt, tt)))
  granted tx (Append object view own) = append_cases SaysFirst decl s from number tx object view own
      (λ free. (first.life_is, tt)) (λ c clash. (tt, (tt, tt)))
  granted tx Prepare = prepare_cases SaysFirst s from number tx (tt, tt) (λ held stands. (tt, tt))
      (λ held made. (tt, tt))

  decided : (tx : TxId) (verdict : Outcome) → SaysFirst (finishes s tx verdict)
  decided tx (Committed stamp) = join_cases SaysFirst s tx stamp (λ none. tt) (λ p some. tt)
  decided tx Aborted = tt
  decided tx Active = tt

  at : (m : Message) → IsFirst m → SaysFirst (site_at decl s from number m)
  at m = site_cases decl s from number (λ m move. IsFirst m → SaysFirst move) (λ m is. tt)
      (λ tx epoch life want is. request_cases SaysFirst decl s from number tx epoch life want tt
      (λ fault refused. absurd (let free : fault_of s epoch life ≡ None = first_free n s epoch life first is.0 is.1 in
      let never : ⊥ = cc in never)) (λ free. granted tx want))
      (λ tx verdict is. decided tx verdict) (λ epoch never. absurd never) (λ epoch clock log never. absurd never) m

pub site_first : (decl : Declaration) (n : ℕ) (s : SiteState) (g : Input) → IsAtFirst n s → FirstGiven g
    → SaysFirst (site_takes decl s g)
site_first decl n s (inputs.Called command) first is = tt
site_first decl n s (inputs.Got e) first is =
    at decl n (passed s e.message) (passed_first n s e.message first) e.from e.number e.message is
site_first decl n s (inputs.Lost number) first is = tt

-- neither a Close nor an Install is of the first epoch

message_calm : (m : Message) → IsFirst m → IsCalmMessage m
message_calm (messages.Request tx epoch life want) first = tt
message_calm (messages.Answer to answer) first = tt
message_calm (messages.Decision tx verdict) first = tt
message_calm (messages.Inquiry tx) first = tt
message_calm (messages.Ask tx) first = tt
message_calm (messages.Close epoch) never = never
message_calm (messages.Install start) never = never

given_calm : (g : Input) → FirstGiven g → IsCalmGiven g
given_calm (inputs.Called command) first = tt
given_calm (inputs.Got e) first = message_calm e.message first
given_calm (inputs.Lost number) first = tt

pub deeds_calm : (ds : List Deed) → Every TakesFirst ds → Every TakesCalm ds
deeds_calm [] all = tt
deeds_calm (Takes g ∷ ds) all = (given_calm g all.0, deeds_calm ds all.1)
deeds_calm (Writes written ∷ ds) all = (tt, deeds_calm ds all.1)
deeds_calm (Sends number to message ∷ ds) all = (tt, deeds_calm ds all.1)
deeds_calm (Tells reply ∷ ds) all = (tt, deeds_calm ds all.1)
deeds_calm (Falls cause pending ∷ ds) all = (tt, deeds_calm ds all.1)
deeds_calm (Rises kept ∷ ds) all = (tt, deeds_calm ds all.1)
