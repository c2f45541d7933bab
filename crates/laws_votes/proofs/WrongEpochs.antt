-- Other epochs than the one that a request names, and decisions out of turn, are refused.
use Rattle.std.proofs.Common.{◌≡◌, ◌<◌, ℕ, [], ◌∷◌, inl, inr, refl, sym, ap, ◌∙◌, arith}
use Rattle.laws_guarantees.specs.Vocabulary.{name}
use Rattle.qc_list.specs.Vocabulary.{In}
use Rattle.qc_msg.specs.Vocabulary.{mail}
use Rattle.qc_msg.specs.declared.message.Envelope.{Envelope}
use Rattle.qc_msg.specs.declared.message.Message.TheVariants.{Decision, Request}
use Rattle.qc_msg.specs.declared.message.Outcome.TheVariants.{Aborted}
use Rattle.qc_msg.specs.declared.message.Want.{Want}
use Rattle.qc_msg.specs.declared.message.Want.TheVariants.{Prepare}
use Rattle.laws_refinement.specs.Vocabulary.{AreInTurn}
use Rattle.qc_stamp.specs.declared.stamp.TxId.{TxId}
use Rattle.laws_votes.specs.Vocabulary.{AsksIn, asked, decides}

apart : (m n : ℕ) → n < m → m ≡ n → ⊥
apart m n less same = omega arith

pub asks : AsksIn asked (name 0) 2
asks = record {
  request = record { from = 3; number = 0; to = 1; message = Request (name 0) 2 1 Prepare };
  sent = inl refl;
  life = 1;
  want = Prepare;
  is = refl;
}

-- the only request is of the first client's transaction, in the second epoch

no_request : (tx : TxId) (epoch life : ℕ) (want : Want) → Decision (name 1) Aborted ≡ Request tx epoch life want → ⊥
no_request tx epoch life want same = let never : ⊥ = cc in never

one_request : (tx : TxId) (epoch life : ℕ) (want : Want) → Request (name 0) 2 1 Prepare ≡ Request tx epoch life want
    → (name 0 ≡ tx) × (2 ≡ epoch)
one_request tx epoch life want same = (cc, cc)

named : (tx : TxId) (epoch : ℕ) → AsksIn asked tx epoch → (name 0 ≡ tx) × (2 ≡ epoch)
named tx epoch k = by k.sent
  where
    by : In k.request (mail asked) → (name 0 ≡ tx) × (2 ≡ epoch)
    by (inl same) = one_request tx epoch k.life k.want (sym (ap (λ (e : Envelope). e.message) same) ∙ k.is)
    by (inr (inl same)) = absurd (no_request tx epoch k.life k.want
        (sym (ap (λ (e : Envelope). e.message) same) ∙ k.is))
    by (inr (inr never)) = absurd never

pub not_earlier : AsksIn asked (name 0) 1 → ⊥
not_earlier k = apart 2 1 (omega arith) (named (name 0) 1 k).1

pub not_asking : AsksIn asked (name 1) 2 → ⊥
not_asking k =
    let same : (name 0).client ≡ (name 1).client = ap (λ (x : TxId). x.client) (named (name 1) 2 k).0 in
    let never : ⊥ = omega arith in
    never

-- decisions

pub one_after_another : AreInTurn 1 (decides 2 ∷ decides 3 ∷ [])
one_after_another = (refl, (refl, tt))

pub not_skipped : AreInTurn 1 (decides 3 ∷ []) → ⊥
not_skipped k = apart 3 2 (omega arith) k.0

pub not_twice : AreInTurn 1 (decides 2 ∷ decides 2 ∷ []) → ⊥
not_twice k = apart 3 2 (omega arith) (sym k.1.0)
