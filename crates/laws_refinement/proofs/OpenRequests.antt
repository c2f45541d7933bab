-- An answer is to the open request of its number, and what stands behind it was asked for by that request.
use Rattle.std.proofs.Common.{◌≡◌, ℕ, ◌==◌, not, Bool, true, false, ◌⊎◌, cond, inl, inr, List, [], ◌∷◌, Option, Some}
use Rattle.std.proofs.Common.{None, refl, sym, ap, ◌∙◌, subst, eqb-true}
use Rattle.std.specs.Prelude.{option_map}
use Rattle.std.specs.List.{find}
use Rattle.qc_stamp.specs.declared.stamp.TxId.{TxId}
use Rattle.qc_list.specs.Vocabulary.{In}
use Rattle.qc_list.proofs.Members.{In-unfiltered}
use Rattle.qc_decl.specs.declared.declaration.Declaration.{Declaration}
use Rattle.qc_msg.specs.declared.call.Call.{Call}
use Rattle.qc_msg.specs.declared.message.Answer.{Answer}
use Rattle.qc_msg.specs.declared.message.Envelope.{Envelope}
use Rattle.qc_msg.specs.declared.message.Message.{Message}
use Rattle.qc_msg.specs.declared.message.Message.TheVariants as messages
use Rattle.qc_msg.specs.declared.message.Want.{Want}
use Rattle.qc_msg.specs.declared.payload.Grant.{Grant}
use Rattle.qc_msg.specs.Vocabulary.{site_called, without_call}
use Rattle.theory_machine.specs.Vocabulary.{State}
use Rattle.laws_refinement.specs.Vocabulary.{IsAnswerBacked, IsGrant, IsGrantTo, IsMessage, IsRequest}

-- an open request of a number

pub record IsCalled (calls : List Call) (number site : ℕ) : Type 0 where
  pub call : Call
  pub among : In call calls
  pub numbered : call.number ≡ number
  pub at : call.site ≡ site

pub called_in : (calls : List Call) (number site : ℕ) → site_called calls number ≡ Some site
    → IsCalled calls number site
called_in [] number site e = absurd (let never : ⊥ = cc in never)
called_in (x ∷ xs) number site e = by (x.number == number) refl e (called_in xs number site)
  where
    by : (b : Bool) → (x.number == number) ≡ b
        → option_map (λ (c : Call). c.site) (cond b (Some x) (find (λ (c : Call). c.number == number) xs)) ≡ Some site
        → (site_called xs number ≡ Some site → IsCalled xs number site) → IsCalled (x ∷ xs) number site
    by true is k rest = record {
      call = x;
      among = inl refl;
      numbered = eqb-true x.number number is;
      at = (let same : x.site ≡ site = cc in same);
    }
    by false is k rest = let r : IsCalled xs number site = rest k in
        record { call = r.call; among = inr r.among; numbered = r.numbered; at = r.at }

pub still_called : (calls : List Call) (number : ℕ) (call : Call) → In call (without_call calls number) → In call calls
still_called calls number call among = In-unfiltered (λ (c : Call). not (c.number == number)) call calls among

-- two requests of one number are one, of one transaction

abbrev tx_in : Message → TxId → TxId
tx_in (messages.Request tx epoch life want) other = tx
tx_in _ other = other

abbrev want_in : Message → Want → Want
want_in (messages.Request tx epoch life want) other = want
want_in _ other = other

pub one_request : (ms : List Envelope) (number site other : ℕ) (t u : TxId) (want wish : Want)
    → IsRequest ms number site t want → IsRequest ms number other u wish
    → (t ≡ u) × (site ≡ other) × (want ≡ wish)
one_request ms number site other t u want wish r s =
    let found : Some r.is.0 ≡ Some s.is.0 = sym r.is.1 ∙ s.is.1 in
    let same : r.is.0 ≡ s.is.0 = cc in
    let content : messages.Request t r.epoch r.life want ≡ messages.Request u s.epoch s.life wish = sym r.is.3
    ∙ ap (λ (e : Envelope). e.message) same ∙ s.is.3 in (
      ap (λ (m : Message). tx_in m t) content,
      sym r.is.2 ∙ ap (λ (e : Envelope). e.to) same
          ∙ s.is.2,
      ap (λ (m : Message). want_in m want) content,
    )

abbrev life_in : Message → ℕ → ℕ
life_in (messages.Request tx epoch life want) other = life
life_in _ other = other

pub message_same : (ms : List Envelope) (n to other : ℕ) (x y : Message) → IsMessage ms n to x → IsMessage ms n other y
    → (to ≡ other) × (x ≡ y)
message_same ms n to other x y a b =
    let e : Some a.0 ≡ Some b.0 = sym a.1 ∙ b.1 in
    let same : a.0 ≡ b.0 = cc in
    (sym a.2 ∙ ap (λ (z : Envelope). z.to) same ∙ b.2, sym a.3 ∙ ap (λ (z : Envelope). z.message) same ∙ b.3)

module _ (decl : Declaration) where
  -- what stands behind an answer that is taken, or behind a loss
  abbrev pub AnswerBacked : State → List Envelope → ℕ → ℕ → Option Answer → Type 0
  AnswerBacked w ms from number None = Unit {0}
  AnswerBacked w ms from number (Some answer) = IsAnswerBacked decl w ms from number answer

  -- the grant that stands behind an answer to an open request, in the life that this named, if any
  pub record Stood (w : State) (site : ℕ) (x : Grant) (tx : TxId) (want : Want) (named : ℕ) : Type 0 where
    pub grant : IsGrant decl w site x tx want
    pub lived : (named ≡ 0) ⊎ (named ≡ x.life)

  pub behind : (w : State) (ms : List Envelope) (from number site : ℕ) (x : Grant) (tx : TxId)
      (epoch named : ℕ) (want : Want) → IsMessage ms number site (messages.Request tx epoch named want)
      → IsGrantTo decl w ms from number x → Stood w site x tx want named
  behind w ms from number site x tx epoch named want asked g =
      let one : (site ≡ from) × (messages.Request tx epoch named want ≡ messages.Request g.tx g.epoch g.named g.want) =
      message_same ms number site from (messages.Request tx epoch named want)
      (messages.Request g.tx g.epoch g.named g.want) asked g.request in
      let txs : tx ≡ g.tx = ap (λ (m : Message). tx_in m tx) one.1 in
      let wants_are : want ≡ g.want = ap (λ (m : Message). want_in m want) one.1 in
      let nameds : named ≡ g.named = ap (λ (m : Message). life_in m named) one.1 in
      record {
        grant = subst (λ (z : Want). IsGrant decl w site x tx z) (sym wants_are)
            (subst (λ (z : ℕ). IsGrant decl w z x tx g.want) (sym one.0)
            (subst (λ (z : TxId). IsGrant decl w from x z g.want) (sym txs) g.grant));
        lived = subst (λ (n : ℕ). (n ≡ 0) ⊎ (n ≡ x.life)) (sym nameds) g.lived;
      }
