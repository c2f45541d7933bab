-- Votes, promises and locks of a site that falls and rises: wrong ones are refused, right ones taken.
use Rattle.std.proofs.Common.{◌≡◌, ◌⊎◌, ◌≤◌, ℕ, List, [], ◌∷◌, ◌++◌, inl, inr, refl, sym, ap, ◌∙◌, subst, arith}
use Rattle.laws_guarantees.specs.Vocabulary.{IsGrantedSince, granted, tx}
use Rattle.laws_votes.specs.Vocabulary.{AreCastSince, HasPromised, IsCastSince, begun, fallen, life_at, promise}
use Rattle.laws_votes.specs.Vocabulary.{promised, risen, voting}
use Rattle.qc_list.specs.Vocabulary.{In}
use Rattle.qc_msg.specs.Vocabulary.{Deed, Takes, mail}
use Rattle.qc_msg.specs.declared.message.Answer.TheVariants.{Yes}
use Rattle.qc_msg.specs.declared.message.Envelope.{Envelope}
use Rattle.qc_msg.specs.declared.message.Message.TheVariants.{Answer, Request}
use Rattle.qc_msg.specs.declared.message.Want.TheVariants.{Prepare, Read}
use Rattle.qc_msg.specs.declared.step.Input.TheVariants.{Got}
use Rattle.qc_msg.specs.Vocabulary.{first_read}
use Rattle.qc_promise.specs.Vocabulary.{last_cut}

abbrev request : ℕ → Envelope
request life = record { number = 0; from = 1; to = 0; message = Request tx 1 life Prepare }

abbrev vote : Envelope
vote = record { number = 1; from = 0; to = 1; message = Answer 0 (Yes 0) }

no_request : (e : Envelope) (life to clock : ℕ) → e ≡ request life → e.message ≡ Answer to (Yes clock) → ⊥
no_request e life to clock same is = let both : Request tx 1 life Prepare ≡ Answer to (Yes clock) =
    sym (ap (λ (x : Envelope). x.message) same) ∙ is in let never : ⊥ = cc in never

-- votes

-- what was cast since answers the request, which names this life
names : (life : ℕ) (v : IsCastSince (risen life) (voting life) 0 0) → v.life ≡ life
names life v = by v.sent
  where
    by : In v.request (mail (voting life)) → v.life ≡ life
    by (inl same) = let both : Request v.tx v.epoch v.life Prepare ≡ Request tx 1 life Prepare = sym v.named
        ∙ ap (λ (x : Envelope). x.message) same in cc
    by (inr (inl same)) = absurd (let both : 1 ≡ 0 = sym (ap (λ (x : Envelope). x.number) same)
        ∙ v.numbered in let never : ⊥ = cc in never)
    by (inr (inr never)) = absurd never

pub former : AreCastSince (risen 1) (voting 1) → ⊥
former cast = by (cast vote 0 0 (inr (inl refl)) refl refl)
  where
    by : In vote (mail (risen 1)) ⊎ IsCastSince (risen 1) (voting 1) 0 0 → ⊥
    by (inl (inl same)) = no_request vote 1 0 0 same refl
    by (inl (inr never)) = never
    by (inr v) =
        let first : v.life ≡ 1 = names 1 v in
        elim v.low [
          | inl none ↦ (let zero : v.life ≡ 0 = none in let never : ⊥ = omega arith in never)
          | inr low ↦ (let two : 2 ≤ v.life = low in let never : ⊥ = omega arith in never)
        ]

cast_in : (life : ℕ) → ((life ≡ 0) ⊎ (2 ≤ life)) → AreCastSince (risen life) (voting life)
cast_in life low e to clock among site is = by among
  where
    named : (to : ℕ) → Answer 0 (Yes 0) ≡ Answer to (Yes clock) → 0 ≡ to
    named to same = cc

    by : In e (mail (voting life)) → In e (mail (risen life)) ⊎ IsCastSince (risen life) (voting life) e.from to
    by (inl same) = absurd (no_request e life to clock same is)
    by (inr (inl same)) = inr (record {
      request = request life;
      sent = inl refl;
      numbered = named to (sym (ap (λ (x : Envelope). x.message) same) ∙ is);
      tx = tx;
      epoch = 1;
      life = life;
      named = refl;
      low = elim low [
        | inl none ↦ inl none
        | inr up ↦ inr
            (subst (λ (n : ℕ). life_at (risen life) n ≤ life) (sym (ap (λ (x : Envelope). x.from) same)) up)
      ];
    })
    by (inr (inr never)) = absurd never

pub present : AreCastSince (risen 2) (voting 2)
present = cast_in 2 (inr (omega arith))

pub nameless : AreCastSince (risen 0) (voting 0)
nameless = cast_in 0 (inl refl)

-- promises

pub promise_kept : HasPromised (promised (promise ∷ [])) begun 0
promise_kept = record {
  vote = vote;
  sent = inr (inl refl);
  from = refl;
  number = 0;
  clock = 0;
  is = refl;
  request = request 1;
  asked = inl refl;
  numbered = refl;
  epoch = 1;
  named = refl;
  promise = record { tx = tx; epoch = 1; locks = record { object = 0; inv = 0 } ∷ []; own = []; lines = [] };
  its = refl;
  stands = inl refl;
}

-- grants

pub granted_now : IsGrantedSince (last_cut granted).since tx (Read (first_read 0 0))
granted_now = record {
  request = record { number = 0; from = 1; to = 0; message = Request tx 1 0 (Read (first_read 0 0)) };
  epoch = 1;
  life = 0;
  content = refl;
  before = [];
  since = _;
  stands = refl;
  granted = refl;
  undecided = λ e stamp among is. elim among [ inl same ↦ (let never : ⊥ = cc in never) | inr never ↦ never ];
}

pub granted_before : IsGrantedSince (last_cut (fallen [])).since tx (Read (first_read 0 0)) → ⊥
granted_before g = by g.before g.stands
  where
    by : (before : List Deed) → (last_cut (fallen [])).since ≡ before ++ Takes (Got g.request) ∷ g.since → ⊥
    by [] is = let never : ⊥ = cc in never
    by (x ∷ []) is = let never : ⊥ = cc in never
    by (x ∷ y ∷ before) is = let never : ⊥ = cc in never
