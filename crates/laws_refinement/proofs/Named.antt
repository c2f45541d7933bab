-- What a client's open requests name stays named as a grant counts; and a closed epoch that counts.
use Rattle.std.proofs.Common.{◌≡◌, ◌≢◌, ◌<◌, ◌⊎◌, inl, inr, ℕ, ◌==◌, not, Bool, true, false, cond, List, [], ◌∷◌, ◌++◌}
use Rattle.std.proofs.Common.{filter, is_none, map, max, Some, refl, sym, ap, ◌∙◌, subst, eq-eqb}
use Rattle.qc_list.specs.Vocabulary.{In}
use Rattle.qc_list.proofs.Members.{In-passes, In-map}
use Rattle.qc_plan.specs.declared.standing.Asked.{Asked}
use Rattle.qc_plan.specs.Vocabulary.{RoundState}
use Rattle.qc_decl.specs.declared.declaration.Declaration.{Declaration}
use Rattle.qc_decl.specs.Vocabulary.{first_site}
use Rattle.qc_msg.specs.declared.begun.LifeAt.{LifeAt}
use Rattle.qc_msg.specs.declared.call.Call.{Call}
use Rattle.qc_msg.specs.declared.message.Envelope.{Envelope}
use Rattle.qc_msg.specs.declared.message.Message.TheVariants as messages
use Rattle.qc_msg.specs.declared.message.Want.{Want}
use Rattle.qc_msg.specs.declared.payload.Grant.{Grant}
use Rattle.qc_msg.specs.Vocabulary.{has_granted, life_of, site_called, with_life, without_call}
use Rattle.theory_machine.specs.Vocabulary.{State}
use Rattle.qc_front.specs.declared.transaction.Transaction.{Transaction}
use Rattle.qc_front.specs.Vocabulary.{AreOpen, IsPrefix, IsRound, awaited, sites_called, sites_of, weights_of}
use Rattle.qc_front.proofs.Apart.{AreApart, apart_first, apart_weighing}
use Rattle.qc_client.specs.declared.client.Client.{Client}
use Rattle.laws_refinement.specs.Vocabulary.{IsGrant, IsMessage, IsPlanned, LivesMirror}
use Rattle.laws_refinement.proofs.ClientSteps.{Core}
use Rattle.laws_refinement.proofs.Granting.{IsGiven}
use Rattle.laws_refinement.proofs.Lives.{counted_once_more, life_other}
use Rattle.laws_refinement.proofs.OpenRequests.{IsCalled, called_in, still_called}
use Rattle.laws_refinement.proofs.Planned.{planned_max}

-- the lives with one grant more
pub lives_more : (decl : Declaration) (w : State) (t : Transaction) (site : ℕ) (x : Grant)
    (want : Want) (g : IsGrant decl w site x t.begun.tx want)
    → LivesMirror w.counted t.begun.tx t.begun.lives
    → (life_of t.begun.lives site ≡ 0) ⊎ (life_of t.begun.lives site ≡ x.life)
    → LivesMirror (g.grant ∷ w.counted) t.begun.tx (with_life t.begun.lives site x.life)
lives_more decl w t site x want g m lived =
    subst (λ (s : ℕ). LivesMirror (g.grant ∷ w.counted) t.begun.tx (with_life t.begun.lives s x.life)) g.by
    (subst (λ (l : ℕ). LivesMirror (g.grant ∷ w.counted) t.begun.tx (with_life t.begun.lives g.grant.site l)) g.life_is
    (counted_once_more w.counted t.begun.tx t.begun.lives g.grant (life_of t.begun.lives site) m g.its
    (ap (λ (s : ℕ). life_of t.begun.lives s) (sym g.by))
    (subst (λ (l : ℕ). (life_of t.begun.lives site ≡ 0) ⊎ (life_of t.begun.lives site ≡ l)) (sym g.life_is) lived)
    (subst (λ (l : ℕ). 0 < l) (sym g.life_is) g.some)))

with_other : (lives : List LifeAt) (site life other : ℕ) → other ≢ site
    → life_of (with_life lives site life) other ≡ life_of lives other
with_other lives site life other ne = by (has_granted lives site)
  where
    by : (b : Bool) → life_of (cond b lives (lives ++ record { site = site; life = life } ∷ [])) other
        ≡ life_of lives other
    by true = refl
    by false = life_other lives site life other ne

-- an open request to another site names the same life still
pub named_on : (ms : List Envelope) (t u : Transaction) (number to site life : ℕ) (want : Want) → IsGiven t u site life
    → to ≢ site → IsMessage ms number to (messages.Request t.begun.tx t.begun.epoch (life_of t.begun.lives to) want)
    → IsMessage ms number to (messages.Request u.begun.tx u.begun.epoch (life_of u.begun.lives to) want)
named_on ms t u number to site life want given other m =
    let same : life_of t.begun.lives to ≡ life_of u.begun.lives to = sym (with_other t.begun.lives site life to other)
    ∙ ap (λ (ls : List LifeAt). life_of ls to) (sym given.lives) in
    (m.0, m.1, m.2, m.3 ∙ (λ i. messages.Request (sym given.tx i) (sym given.epoch i) (same i) want))

-- the open requests of a round are to different sites

apart_map : (test : Asked → Bool) (xs : List Asked) → AreApart (sites_of xs)
    → AreApart (map (λ (a : Asked). a.site) (filter test xs))
apart_map test [] apart = tt
apart_map test (x ∷ xs) apart = by (test x) (apart_map test xs apart.1)
  where
    back : (y : ℕ) (zs : List Asked) → In y (map (λ (a : Asked). a.site) (filter test zs)) → In y (sites_of zs)
    back y [] h = h
    back y (z ∷ zs) h = go (test z) h (back y zs)
      where
        go : (b : Bool) → In y (map (λ (a : Asked). a.site) (cond b (z ∷ filter test zs) (filter test zs)))
            → (In y (map (λ (a : Asked). a.site) (filter test zs)) → In y (sites_of zs)) → In y (sites_of (z ∷ zs))
        go true (inl same) rest = inl same
        go true (inr k) rest = inr (rest k)
        go false k rest = inr (rest k)

    by : (b : Bool) → AreApart (map (λ (a : Asked). a.site) (filter test xs))
        → AreApart (map (λ (a : Asked). a.site) (cond b (x ∷ filter test xs) (filter test xs)))
    by true rest = (λ y among. apart.0 y (back y xs among), rest)
    by false rest = rest

calls_apart : (decl : Declaration) (client epoch need : ℕ) (round : RoundState) (calls : List Call)
    → IsRound decl client epoch need round → IsPrefix (sites_called calls) (awaited round)
    → AreApart (sites_called calls)
calls_apart decl client epoch need round calls r p =
    let all : AreApart (sites_of round.asked ++ round.rest) =
    subst (λ (xs : List ℕ). AreApart xs) (sym r.sites)
    (apart_weighing (weights_of decl epoch) _ (first_site decl client)) in
    apart_first (sites_called calls) p.more (subst (λ (xs : List ℕ). AreApart xs) (sym p.is)
    (apart_map (λ (a : Asked). is_none a.standing) round.asked (apart_first (sites_of round.asked) round.rest all)))

one_site : (calls : List Call) → AreApart (sites_called calls) → (c x : Call) → In c calls → In x calls
    → x.site ≡ c.site → x ≡ c
one_site [] apart c x hc hx same = absurd hc
one_site (y ∷ ys) apart c x (inl ec) (inl ex) same = ex ∙ sym ec
one_site (y ∷ ys) apart c x (inl ec) (inr hx) same =
    absurd (apart.0 x.site (In-map (λ (k : Call). k.site) x ys hx) (ap (λ (k : Call). k.site) (sym ec) ∙ sym same))
one_site (y ∷ ys) apart c x (inr hc) (inl ex) same =
    absurd (apart.0 c.site (In-map (λ (k : Call). k.site) c ys hc) (ap (λ (k : Call). k.site) (sym ex) ∙ same))
one_site (y ∷ ys) apart c x (inr hc) (inr hx) same = one_site ys apart.1 c x hc hx same

pub other_site : (decl : Declaration) (client epoch need : ℕ) (round : RoundState) (calls : List Call) (number site : ℕ)
    → IsRound decl client epoch need round → AreOpen calls round → site_called calls number ≡ Some site
    → (x : Call) → In x (without_call calls number) → x.site ≢ site
other_site decl client epoch need round calls number site r o called x among same =
    let c : IsCalled calls number site = called_in calls number site called in
    let e : x ≡ c.call = one_site calls (calls_apart decl client epoch need round calls r o.sites) c.call x c.among
    (still_called calls number x among) (same ∙ sym c.at) in
    let is : (x.number == number) ≡ true = eq-eqb x.number number (ap (λ (k : Call). k.number) e ∙ c.numbered) in
    let isnt : not (x.number == number) ≡ true = In-passes (λ (k : Call). not (k.number == number)) x calls among in
    let k : not true ≡ true = sym (ap (λ (b : Bool). not b) is) ∙ isnt in
    let never : ⊥ = cc in never

-- a closed epoch that counts: the client knows of it
pub core_closed : (decl : Declaration) (w : State) (a : ℕ) (c : Client) (t : Transaction) (epoch : ℕ)
    → IsPlanned decl epoch → Core decl w a c t
    → Core decl w a (record c { front = record c.front { epoch = max c.front.epoch epoch } }) t
core_closed decl w a c t epoch planned k = record {
  own = record {
    actor = k.own.actor;
    desk = k.own.desk;
    lives_to_come = k.own.lives_to_come;
    epoch = planned_max decl c.front.epoch epoch k.own.epoch planned;
    desk_epoch = k.own.desk_epoch;
    clock = k.own.clock;
    to_come = k.own.to_come;
    committed = k.own.committed;
    aborted = k.own.aborted;
  };
  begun = record {
    named = k.begun.named;
    epoch = k.begun.epoch;
    lives = k.begun.lives;
    ops = k.begun.ops;
    own = k.begun.own;
    sorted = k.begun.sorted;
    shown = k.begun.shown;
    whole = k.begun.whole;
  };
  active = k.active;
  voting = k.voting;
}
