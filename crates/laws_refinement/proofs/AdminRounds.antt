-- What the rounds of the administrator keep: which sites have told, and which requests stand under which numbers.
use Rattle.std.proofs.Common.{◌≡◌, ◌≤◌, ◌<◌, ℕ, ◌+◌, ◌==◌, ◌&&◌, ◌||◌, Bool, true, false, cond, inl, inr, List, [], ◌∷◌}
use Rattle.std.proofs.Common.{◌++◌, drop, map, Option, Some, None, is_none, refl, sym, ap, ◌∙◌, subst, eqb-true, arith}
use Rattle.qc_list.specs.Vocabulary.{In}
use Rattle.qc_list.proofs.Members.{In-first, In-either}
use Rattle.qc_plan.specs.declared.plan.Plan.{Plan}
use Rattle.qc_plan.specs.declared.standing.Asked.{Asked}
use Rattle.qc_plan.specs.declared.standing.Standing.{Standing}
use Rattle.qc_plan.specs.declared.standing.Standing.TheVariants as standings
use Rattle.qc_plan.specs.Vocabulary.{Closes as Closing, RoundState, asking_all, has_granted, is_granted, need_of}
use Rattle.qc_plan.specs.Vocabulary.{note_in, total}
use Rattle.qc_decl.specs.declared.declaration.Declaration.{Declaration}
use Rattle.qc_decl.specs.Vocabulary.{client_actor}
use Rattle.qc_msg.specs.declared.call.Call.{Call}
use Rattle.qc_msg.specs.declared.message.Envelope.{Envelope}
use Rattle.qc_msg.specs.declared.message.Message.TheVariants as messages
use Rattle.qc_msg.specs.Vocabulary.{with_call}
use Rattle.theory_machine.specs.Vocabulary.{State}
use Rattle.qc_epoch.specs.Vocabulary.{Admin, Asking, Question, ShutSite, ask_of, close_of, doing, numbered_first}
use Rattle.qc_epoch.specs.Admin as admins
use Rattle.laws_refinement.specs.Vocabulary.{HasTold, IsMessage, QuestionMirrors, all_sent}
use Rattle.laws_refinement.proofs.Asks.{IsBeginning, number_all, numbered_after}
use Rattle.laws_refinement.proofs.Posts.{AtNumber, enveloped}

-- the sites of a round that granted have told

abbrev pub AreTold : List ShutSite → List Asked → Type 0
AreTold shuts asked = (a : Asked) → In a asked → a.standing ≡ Some standings.Granted → HasTold shuts a.site

pub asked_told : (shuts : List ShutSite) (r : RoundState) (sites : List ℕ) → AreTold shuts r.asked
    → AreTold shuts (asking_all r sites).asked
asked_told shuts r [] h = h
asked_told shuts r (site ∷ sites) h = asked_told shuts
    (record r { asked = r.asked ++ record { site = site; standing = None } ∷ []; rest = drop 1 r.rest }) sites
    (λ x among is. elim (In-either x r.asked (record { site = site; standing = None } ∷ []) among) [
      | inl old ↦ h x old is
      | inr new ↦ elim new [
        | inl same ↦ absurd
            (let k : None ≡ Some standings.Granted = sym (ap (λ (y : Asked). y.standing) same)
            ∙ is in let never : ⊥ = cc in never)
        | inr never ↦ absurd never
      ]
    ])

pub noted_told : (shuts : List ShutSite) (site : ℕ) (standing : Standing) (xs : List Asked) → AreTold shuts xs
    → (standing ≡ standings.Granted → HasTold shuts site) → AreTold shuts (note_in site standing xs)
noted_told shuts site standing [] old new x among is = absurd among
noted_told shuts site standing (y ∷ ys) old new x among is =
    by (y.site == site) among (noted_told shuts site standing ys (λ z m. old z (inr m)) new x)
  where
    by : (t : Bool) → In x (cond t (record { site = site; standing = Some standing } ∷ ys)
        (y ∷ note_in site standing ys)) → (In x (note_in site standing ys) → x.standing ≡ Some standings.Granted
        → HasTold shuts x.site) → HasTold shuts x.site
    by true (inl same) rest =
        let eq : Some standing ≡ Some standings.Granted = sym (ap (λ (z : Asked). z.standing) same) ∙ is in
        subst (λ (s : ℕ). HasTold shuts s) (sym (ap (λ (z : Asked). z.site) same))
        (new (let k : standing ≡ standings.Granted = cc in k))
    by true (inr more) rest = old x (inr more) is
    by false (inl same) rest = old x (inl same) is
    by false (inr more) rest = rest more is

pub granted_told : (shuts : List ShutSite) (xs : List Asked) (site : ℕ)
    → ((a : Asked) → In a xs → a.standing ≡ Some standings.Granted → HasTold shuts a.site) → has_granted xs site ≡ true
    → HasTold shuts site
granted_told shuts [] site all h = absurd (let never : ⊥ = cc in never)
granted_told shuts (x ∷ xs) site all h =
    by (x.site == site) x.standing refl refl h (granted_told shuts xs site (λ y among. all y (inr among)))
  where
    by : (t : Bool) (st : Option Standing) → (x.site == site) ≡ t → x.standing ≡ st
        → ((t && is_granted st) || has_granted xs site) ≡ true → (has_granted xs site ≡ true → HasTold shuts site)
        → HasTold shuts site
    by true None same is k rest = rest k
    by true (Some standings.Granted) same is k rest =
        subst (λ (s : ℕ). HasTold shuts s) (eqb-true x.site site same) (all x (inl refl) is)
    by true (Some (standings.Clash u)) same is k rest = rest k
    by true (Some (standings.Closed epoch)) same is k rest = rest k
    by true (Some standings.Missing) same is k rest = rest k
    by false st same is k rest = rest k

pub told_more : (shuts more : List ShutSite) (site : ℕ) → HasTold shuts site → HasTold (shuts ++ more) site
told_more shuts more site t = (t.0, In-first t.0 shuts more t.1, t.2)

-- a heavier weight closes too
pub closes_more : (plan : Plan) (light heavy : ℕ) → light ≤ heavy → Closing plan light → Closing plan heavy
closes_more plan light heavy more c = record {
  initial = λ o i above. (let e : total plan.weights < light + need_of plan.initial o i = c.initial o i above in
      omega arith);
  last = λ o i above. (let e : total plan.weights < light + need_of plan.last o i = c.last o i above in omega arith);
}

-- Closes that were sent are called
abbrev pub calls_with : List Call → ℕ → List ℕ → List Call
calls_with calls n [] = calls
calls_with calls n (site ∷ sites) = calls_with (with_call calls n site) (n + 1) sites

pub closing_sent : (m : Admin) (k : ℕ) (calls : List Call) (round : RoundState) (shuts : List ShutSite) (n : ℕ)
    (sites : List ℕ)
    → all_sent (doing m (admins.Closing k calls round shuts)) n (map (close_of k) sites) ≡ doing m
    (admins.Closing k (calls_with calls n sites) round shuts)
closing_sent m k calls round shuts n [] = refl
closing_sent m k calls round shuts n (site ∷ sites) =
    closing_sent m k (with_call calls n site) round shuts (n + 1) sites

pub calls_sent : (ms : List Envelope) (a k : ℕ) (calls : List Call) (n : ℕ) (sites : List ℕ)
    → ((c : Call) → In c calls → IsMessage ms c.number c.site (messages.Close k))
    → AtNumber ms a n (map (close_of k) sites)
    → (c : Call) → In c (calls_with calls n sites) → IsMessage ms c.number c.site (messages.Close k)
calls_sent ms a k calls n [] old at c among = old c among
calls_sent ms a k calls n (site ∷ sites) old at c among =
    calls_sent ms a k (with_call calls n site) (n + 1) sites new at.1 c among
  where
    new : (x : Call) → In x (with_call calls n site) → IsMessage ms x.number x.site (messages.Close k)
    new x h = elim (In-either x calls (record { number = n; site = site } ∷ []) h) [
      | inl o ↦ old x o
      | inr i ↦ elim i [
        | inl same ↦ subst (λ (y : Call). IsMessage ms y.number y.site (messages.Close k)) (sym same)
            (enveloped a n (close_of k site), at.0, refl, refl)
        | inr never ↦ absurd never
      ]
    ]

-- Asks that were sent have their numbers
pub asking_sent : (decl : Declaration) (m : Admin) (k : ℕ) (shuts : List ShutSite) (qs : List Question) (n : ℕ)
    (ts : List Question)
    → all_sent (doing m (Asking k shuts qs)) n (map (ask_of decl) ts) ≡ doing m (Asking k shuts (number_all qs n ts))
asking_sent decl m k shuts qs n [] = refl
asking_sent decl m k shuts qs n (t ∷ ts) = asking_sent decl m k shuts (numbered_first qs n) (n + 1) ts

pub asks_sent : (decl : Declaration) (w : State) (ms : List Envelope) (a n : ℕ) (ts done rest : List Question)
    → IsBeginning ts rest
    → ((q : Question) → In q done → (is_none q.number ≡ false) × QuestionMirrors decl w ms q)
    → ((q : Question) → In q rest → (q.number ≡ None) × QuestionMirrors decl w ms q)
    → AtNumber ms a n (map (ask_of decl) ts) → (q : Question) → In q (number_all (done ++ rest) n ts)
    → QuestionMirrors decl w ms q
asks_sent decl w ms a n [] done rest begins old new at q among =
    elim (In-either q done rest among) [ inl h ↦ (old q h).1 | inr h ↦ (new q h).1 ]
asks_sent decl w ms a n (t ∷ ts) done [] begins old new at q among = absurd begins
asks_sent decl w ms a n (t ∷ ts) done (x ∷ rest) begins old new at q among =
    asks_sent decl w ms a (n + 1) ts (done ++ record x { number = Some n } ∷ []) rest begins.1 olds
    (λ y h. new y (inr h)) at.1 q
    (subst (λ (qs : List Question). In q (number_all qs (n + 1) ts))
    (numbered_after done x rest n (λ y h. (old y h).0) (new x (inl refl)).0) among)
  where
    olds : (y : Question) → In y (done ++ record x { number = Some n } ∷ [])
        → (is_none y.number ≡ false) × QuestionMirrors decl w ms y
    olds y h = elim (In-either y done (record x { number = Some n } ∷ []) h) [
      | inl o ↦ old y o
      | inr i ↦ elim i [
        | inl same ↦ subst (λ (z : Question). (is_none z.number ≡ false) × QuestionMirrors decl w ms z) (sym same) (
          refl,
          record {
            begun = (new x (inl refl)).1.begun;
            numbered = subst (λ (z : Question). IsMessage ms n (client_actor decl z.tx.client) (messages.Ask z.tx))
                begins.0 (enveloped a n (ask_of decl t), at.0, refl, refl);
            taken = (new x (inl refl)).1.taken;
          },
        )
        | inr never ↦ absurd never
      ]
    ]
