-- A client's turn writes a commit record above its desk's clock, which passes it, or none, and the clock doesn't fall.
use Rattle.std.proofs.Common.{◌≡◌, ◌≤◌, ◌<◌, ◌⊎◌, ℕ, inl, inr, List, [], ◌∷◌, fold, Option, Some, None, refl, ap, ◌∙◌}
use Rattle.std.proofs.Common.{arith}
use Rattle.std.specs.List.{AllByRecursion as Every}
use Rattle.qc_client.specs.declared.client.Client.{Client}
use Rattle.qc_client.specs.Vocabulary.{ClientMove, by_desk, by_front, client_does, client_takes, moved, sent_one}
use Rattle.qc_commit.specs.declared.desk.Voting.{Voting}
use Rattle.qc_commit.specs.Conduct as desks
use Rattle.qc_commit.specs.Vocabulary.{DeskMove, commit_of}
use Rattle.qc_decl.specs.declared.declaration.Declaration.{Declaration}
use Rattle.qc_entry.specs.declared.record.Commit.{Commit}
use Rattle.qc_front.specs.Vocabulary.{FrontMove}
use Rattle.qc_msg.specs.declared.begun.Begun.{Begun}
use Rattle.qc_msg.specs.declared.message.Message.{Message}
use Rattle.qc_msg.specs.declared.record.Record.TheVariants as records
use Rattle.qc_msg.specs.declared.step.Input.{Input}
use Rattle.qc_msg.specs.declared.turn.Turn.{Turn}
use Rattle.qc_msg.specs.Vocabulary.{Deed, Falls, Rises, Sends, Takes, Tells, Writes, sending}
use Rattle.laws_turns.proofs.ClientsWithin.{IsPost}
use Rattle.laws_turns.proofs.FrontGoesOn.{FrontKind}
use Rattle.laws_turns.proofs.HandMoves.{IsHandMove}
use Rattle.laws_turns.proofs.ClientCases.{sent_cases}
use Rattle.laws_reach.proofs.TakesCases.{takes_cases}

pub record StampsNone (before after : ℕ) (turn : Turn) : Type 0 where
  pub write : turn.write ≡ None
  pub on : before ≤ after

pub record StampsOne (before after : ℕ) (turn : Turn) : Type 0 where
  pub commit : Commit
  pub write : turn.write ≡ Some (records.Commit commit)
  pub above : before < commit.stamp.clock
  pub passed : after ≡ commit.stamp.clock

abbrev pub Stamps : Client → ClientMove → Type 0
Stamps c m = StampsNone c.desk.clock.value m.client.desk.clock.value m.turn
    ⊎ StampsOne c.desk.clock.value m.client.desk.clock.value m.turn

module _ (decl : Declaration) (c : Client) where
  abbrev To : ClientMove → Type 0
  To m = Stamps c m

  front_writes : (m : FrontMove) → FrontKind c.front m → m.turn.write ≡ None
  front_writes m (inl g) = g.write
  front_writes m (inr (inl b)) = ap (λ (t : Turn). t.write) b.turn
  front_writes m (inr (inr g)) = g.write

  front_to : (m : FrontMove) → FrontKind c.front m → To (by_front c m)
  front_to m kind = inl (record { write = front_writes m kind; on = omega arith })

  desk_to : (b : Begun) (m : DeskMove) → IsHandMove c.desk b m → To (by_desk c m)
  desk_to b m (inl v) = inl (record { write = v.write; on = v.clock })
  desk_to b m (inr (inl r)) = inr (record {
    commit = commit_of r.stamp b;
    write = ap (λ (t : Turn). t.write) r.turn;
    above = r.clock;
    passed = r.passed;
  })
  desk_to b m (inr (inr a)) = inl (record { write = ap (λ (t : Turn). t.write) a.turn; on = a.clock })

  still : (turn : Turn) → turn.write ≡ None → To (moved c turn)
  still turn unwritten = inl (record { write = unwritten; on = omega arith })

  pub takes_stamps : (g : Input) → Stamps c (client_takes decl c g)
  takes_stamps g = takes_cases decl c To front_to desk_to (λ ps none. still (sending ps) refl) g

-- the numbers of its messages are nothing to the clock

clock_one : (c : Client) (number to : ℕ) (message : Message)
    → (sent_one c number to message).desk.clock.value ≡ c.desk.clock.value
clock_one c number to message =
    sent_cases c number to (λ (d : Client). d.desk.clock.value ≡ c.desk.clock.value) refl (by c.desk.voting) refl
    message
  where
    by : (o : Option Voting) → (desks.prepared_in c.desk o number to).clock.value ≡ c.desk.clock.value
    by None = refl
    by (Some v) = refl

pub clock_posts : (decl : Declaration) (m : ClientMove) (ds : List Deed) → Every IsPost ds
    → (fold (client_does decl) m ds).client.desk.clock.value ≡ m.client.desk.clock.value
clock_posts decl m [] all = refl
clock_posts decl m (Takes g ∷ ds) all = absurd all.0
clock_posts decl m (Writes written ∷ ds) all = clock_posts decl m ds all.1
clock_posts decl m (Sends number to message ∷ ds) all =
    clock_posts decl (record m { client = sent_one m.client number to message }) ds all.1
    ∙ clock_one m.client number to message
clock_posts decl m (Tells reply ∷ ds) all = clock_posts decl m ds all.1
clock_posts decl m (Falls cause pending ∷ ds) all = clock_posts decl m ds all.1
clock_posts decl m (Rises kept ∷ ds) all = clock_posts decl m ds all.1
