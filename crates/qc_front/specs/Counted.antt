-- What counts, and what is learned of it: lives of participants, clocks (Lamport 1978), epochs.
use Rattle.std.specs.Prelude.{◌≡◌, ℕ, ◌≤◌, true, false, List, [], Option, Some, None}
use Rattle.qc_msg.specs.declared.begun.LifeAt.{LifeAt}
use Rattle.qc_msg.specs.declared.message.Answer.{Answer}
use Rattle.qc_msg.specs.declared.message.Answer.TheVariants.{Granted, Closed}
use Rattle.qc_msg.specs.Vocabulary.{has_granted, life_of, site_called}
use Rattle.qc_msg.specs.declared.payload.Grant.{Grant}
use Rattle.qc_front.specs.declared.doing.Doing.{Doing}
use Rattle.qc_front.specs.declared.doing.Doing.TheVariants.{Idle, Reading, Appending}
use Rattle.qc_front.specs.declared.front.Front.{Front}
use Rattle.qc_front.specs.declared.transaction.Transaction.{Transaction}

-- the site of the open request of a number: what comes of it counts

abbrev pub asked_in : Option Transaction → Doing → ℕ → Option ℕ
asked_in None doing number = None
asked_in (Some t) Idle number = None
asked_in (Some t) (Reading object inv calls round) number = site_called calls number
asked_in (Some t) (Appending object inv event calls round) number = site_called calls number

abbrev pub asked_at : Front → ℕ → Option ℕ
asked_at front number = asked_in front.transaction front.doing number

abbrev pub lives_of : Option Transaction → List LifeAt
lives_of None = []
lives_of (Some t) = t.begun.lives

-- a grant by this site, in this life, to a request that counts; `asked` is the site of the open request, if it is one
pub record IsGrant (asked : Option ℕ) (answer : Option Answer) (site life : ℕ) : Type 0 where
  pub grant : Grant
  pub is : answer ≡ Some (Granted grant)
  pub its : grant.life ≡ life
  pub counts : asked ≡ Some site

-- a site becomes a participant with its first grant that counts, in the life of that, which stays
pub record KeepsLives (before after : List LifeAt) (asked : Option ℕ) (answer : Option Answer) : Type 0 where
  pub kept : (site : ℕ) → has_granted before site ≡ true
      → (has_granted after site ≡ true) × (life_of after site ≡ life_of before site)
  pub gained : (site : ℕ) → has_granted before site ≡ false → has_granted after site ≡ true
      → IsGrant asked answer site (life_of after site)
  pub counted : (site life : ℕ) → IsGrant asked answer site life → has_granted after site ≡ true

-- neither the clock nor the known epoch falls. They pass those of what counts
pub record Learns (before after : Front) (asked : Option ℕ) (answer : Option Answer) : Type 0 where
  pub clock : before.clock.value ≤ after.clock.value
  pub epoch : before.epoch ≤ after.epoch
  pub granted : (site : ℕ) (g : Grant) → asked ≡ Some site → answer ≡ Some (Granted g)
      → g.clock ≤ after.clock.value
  pub closed : (site told : ℕ) → asked ≡ Some site → answer ≡ Some (Closed told) → told ≤ after.epoch
