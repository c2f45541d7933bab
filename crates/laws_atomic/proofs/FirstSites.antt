-- A site that takes neither a Close nor an Install stays in its first life and epoch.
use Rattle.std.proofs.Common.{◌≡◌, ℕ, List, [], ◌∷◌, fold, None, refl, subst}
use Rattle.std.specs.List.{AllByRecursion as Every}
use Rattle.qc_stamp.specs.Vocabulary.{first_life}
use Rattle.qc_decl.specs.declared.declaration.Declaration.{Declaration}
use Rattle.qc_msg.specs.declared.message.Message.{Message}
use Rattle.qc_msg.specs.declared.message.Message.TheVariants as messages
use Rattle.qc_msg.specs.declared.step.Input.{Input}
use Rattle.qc_msg.specs.declared.step.Input.TheVariants as inputs
use Rattle.qc_msg.specs.Vocabulary.{Deed, Falls, Rises, Sends, Takes, Tells, Writes, first_epoch, quiet}
use Rattle.qc_site.specs.Vocabulary.{SiteMove, SiteState, moved, new_site, passed, site_after, site_does, site_takes}
use Rattle.qc_site.proofs.Cases.{state_cases}

-- the site of this number in its first life and epoch, which it hasn't closed
pub record IsAtFirst (number : ℕ) (s : SiteState) : Type 0 where
  pub number_is : s.number ≡ number
  pub life_is : s.life ≡ first_life
  pub epoch_is : s.epoch ≡ first_epoch
  pub is_open : s.closed_for ≡ None

abbrev pub IsCalmMessage : Message → Type 0
IsCalmMessage (messages.Request tx epoch life want) = Unit {0}
IsCalmMessage (messages.Answer to answer) = Unit {0}
IsCalmMessage (messages.Decision tx verdict) = Unit {0}
IsCalmMessage (messages.Inquiry tx) = Unit {0}
IsCalmMessage (messages.Ask tx) = Unit {0}
IsCalmMessage (messages.Close epoch) = ⊥
IsCalmMessage (messages.Install start) = ⊥

abbrev pub IsCalmGiven : Input → Type 0
IsCalmGiven (inputs.Called command) = Unit {0}
IsCalmGiven (inputs.Got envelope) = IsCalmMessage envelope.message
IsCalmGiven (inputs.Lost number) = Unit {0}

abbrev pub TakesCalm : Deed → Type 0
TakesCalm (Takes g) = IsCalmGiven g
TakesCalm (Writes written) = Unit {0}
TakesCalm (Sends number to message) = Unit {0}
TakesCalm (Tells reply) = Unit {0}
TakesCalm (Falls cause pending) = Unit {0}
TakesCalm (Rises kept) = Unit {0}

module _ (decl : Declaration) (number : ℕ) where
  pub at_first : (s : SiteState) (g : Input) → IsCalmGiven g → IsAtFirst number s
      → IsAtFirst number (site_takes decl s g).site
  at_first s (inputs.Called command) calm w = w
  at_first s (inputs.Got e) calm w =
      state_cases (IsAtFirst number) decl (passed s e.message) e.from e.number e.message
      (record { number_is = w.number_is; life_is = w.life_is; epoch_is = w.epoch_is; is_open = w.is_open })
      (λ tx epoch life r is. record {
        number_is = w.number_is;
        life_is = w.life_is;
        epoch_is = w.epoch_is;
        is_open = w.is_open;
      }) (λ tx epoch life object view own is. record
      { number_is = w.number_is; life_is = w.life_is; epoch_is = w.epoch_is; is_open = w.is_open })
      (λ tx. record { number_is = w.number_is; life_is = w.life_is; epoch_is = w.epoch_is; is_open = w.is_open })
      (λ tx verdict is final. record {
        number_is = w.number_is;
        life_is = w.life_is;
        epoch_is = w.epoch_is;
        is_open = w.is_open;
      }) (λ tx stamp p is. record
      { number_is = w.number_is; life_is = w.life_is; epoch_is = w.epoch_is; is_open = w.is_open })
      (λ k is. absurd (subst IsCalmMessage is calm))
      (λ k clock lines is later. absurd (subst IsCalmMessage is calm))
  at_first s (inputs.Lost lost) calm w = w

  deeds_at_first : (m : SiteMove) (ds : List Deed) → Every TakesCalm ds → IsAtFirst number m.site
      → IsAtFirst number (fold (site_does decl) m ds).site
  deeds_at_first m [] all w = w
  deeds_at_first m (Takes g ∷ ds) all w = deeds_at_first (site_takes decl m.site g) ds all.1 (at_first m.site g all.0 w)
  deeds_at_first m (Writes written ∷ ds) all w = deeds_at_first m ds all.1 w
  deeds_at_first m (Sends n to message ∷ ds) all w = deeds_at_first m ds all.1 w
  deeds_at_first m (Tells reply ∷ ds) all w = deeds_at_first m ds all.1 w
  deeds_at_first m (Falls cause pending ∷ ds) all w = deeds_at_first m ds all.1 w
  deeds_at_first m (Rises kept ∷ ds) all w = deeds_at_first m ds all.1 w

  pub after_at_first : (ds : List Deed) → Every TakesCalm ds → IsAtFirst number (site_after decl number ds).site
  after_at_first ds all = deeds_at_first (moved (new_site number) quiet) ds all
      (record { number_is = refl; life_is = refl; epoch_is = refl; is_open = refl })
