-- A participant's life is that of its first grant that counted.
use Rattle.std.proofs.Common.{◌≡◌, ℕ, ◌==◌, ◌||◌, Bool, true, false, cond, List, [], ◌∷◌, ◌++◌, Option, Some, None}
use Rattle.std.proofs.Common.{option_map, refl, sym, ap, ◌∙◌, subst, eq-eqb, eqb-true}
use Rattle.std.specs.Prelude.{slice_get}
use Rattle.std.specs.List.{find}
use Rattle.std.specs.Option.{option_map_or}
use Rattle.std.proofs.lemmas.List.Folds.{list_any-append}
use Rattle.qc_decl.specs.declared.declaration.Declaration.{Declaration}
use Rattle.qc_decl.specs.Vocabulary.{append_need_of}
use Rattle.qc_msg.specs.declared.begun.Begun.{Begun}
use Rattle.qc_msg.specs.declared.begun.LifeAt.{LifeAt}
use Rattle.qc_msg.specs.declared.call.Call.{Call}
use Rattle.qc_msg.specs.declared.message.Answer.{Answer}
use Rattle.qc_msg.specs.declared.message.Answer.TheVariants as answers
use Rattle.qc_msg.specs.Vocabulary.{has_granted, life_of, site_called, with_life, without_call}
use Rattle.qc_plan.specs.declared.standing.Verdict.{Verdict}
use Rattle.qc_plan.specs.declared.standing.Verdict.TheVariants as verdicts
use Rattle.qc_plan.specs.Vocabulary.{RoundState, note, verdict}
use Rattle.qc_view.specs.declared.view.View.{View}
use Rattle.qc_view.specs.Vocabulary.{with_log, with_own}
use Rattle.qc_front.specs.declared.doing.Doing.{Doing}
use Rattle.qc_front.specs.declared.doing.Doing.TheVariants.{Idle, Reading, Appending}
use Rattle.qc_front.specs.declared.front.Front.{Front}
use Rattle.qc_front.specs.declared.transaction.Transaction.{Transaction}
use Rattle.qc_front.specs.Vocabulary.{IsGrant, KeepsLives, answer_of, answered, append_by, appended_with}
use Rattle.qc_front.specs.Vocabulary.{appending_takes, asked_at, asked_in, learns, lived, lives_of, next_own, read_by}
use Rattle.qc_front.specs.Vocabulary.{read_with, reading_takes, round_for, standing_of, takes, takes_in}
use Rattle.qc_front.proofs.CommandsKeep.{view_keeps}
use Rattle.qc_list.proofs.Booleans.{or_second}

-- the lives after what came of a request
abbrev lives_with : List LifeAt → ℕ → Option Answer → List LifeAt
lives_with lives site None = lives
lives_with lives site (Some (answers.Granted grant)) = with_life lives site grant.life
lives_with lives site (Some (answers.Clash holder inv event)) = lives
lives_with lives site (Some (answers.Closed epoch)) = lives
lives_with lives site (Some (answers.Behind epoch)) = lives
lives_with lives site (Some (answers.Restarted life)) = lives
lives_with lives site (Some answers.Stale) = lives
lives_with lives site (Some answers.Fault) = lives
lives_with lives site (Some (answers.Yes clock)) = lives
lives_with lives site (Some (answers.Shut snapshot)) = lives
lives_with lives site (Some answers.Installed) = lives
lives_with lives site (Some (answers.Answered verdict)) = lives

read_lives : (t : Transaction) (site object : ℕ) (answer : Option Answer)
    → (read_with t site object answer).begun.lives ≡ lives_with t.begun.lives site answer
read_lives t site object None = refl
read_lives t site object (Some (answers.Granted grant)) =
    ap (λ (b : Begun). b.lives) (view_keeps (lived t site grant.life) object
    (option_map (λ (v : View). with_log v grant.log) (slice_get t.views object)))
read_lives t site object (Some (answers.Clash holder inv event)) = refl
read_lives t site object (Some (answers.Closed epoch)) = refl
read_lives t site object (Some (answers.Behind epoch)) = refl
read_lives t site object (Some (answers.Restarted life)) = refl
read_lives t site object (Some answers.Stale) = refl
read_lives t site object (Some answers.Fault) = refl
read_lives t site object (Some (answers.Yes clock)) = refl
read_lives t site object (Some (answers.Shut snapshot)) = refl
read_lives t site object (Some answers.Installed) = refl
read_lives t site object (Some (answers.Answered verdict)) = refl

appended_lives : (t : Transaction) (site : ℕ) (answer : Option Answer)
    → (appended_with t site answer).begun.lives ≡ lives_with t.begun.lives site answer
appended_lives t site None = refl
appended_lives t site (Some (answers.Granted grant)) = refl
appended_lives t site (Some (answers.Clash holder inv event)) = refl
appended_lives t site (Some (answers.Closed epoch)) = refl
appended_lives t site (Some (answers.Behind epoch)) = refl
appended_lives t site (Some (answers.Restarted life)) = refl
appended_lives t site (Some answers.Stale) = refl
appended_lives t site (Some answers.Fault) = refl
appended_lives t site (Some (answers.Yes clock)) = refl
appended_lives t site (Some (answers.Shut snapshot)) = refl
appended_lives t site (Some answers.Installed) = refl
appended_lives t site (Some (answers.Answered verdict)) = refl

-- one grant

find_first : (site : ℕ) (lives more : List LifeAt) → has_granted lives site ≡ true
    → find (λ (l : LifeAt). l.site == site) (lives ++ more) ≡ find (λ (l : LifeAt). l.site == site) lives
find_first site [] more has = let never : ⊥ = cc in absurd never
find_first site (l ∷ lives) more has = by (l.site == site) has (find_first site lives more)
  where
    by : (t : Bool) → (t || has_granted lives site) ≡ true
        → (has_granted lives site ≡ true → find (λ (k : LifeAt). k.site == site) (lives ++ more) ≡ find
        (λ (k : LifeAt). k.site == site) lives)
        → cond t (Some l) (find (λ (k : LifeAt). k.site == site) (lives ++ more)) ≡ cond t (Some l)
        (find (λ (k : LifeAt). k.site == site) lives)
    by true is rest = refl
    by false is rest = rest is

find_second : (site : ℕ) (lives more : List LifeAt) → has_granted lives site ≡ false
    → find (λ (l : LifeAt). l.site == site) (lives ++ more) ≡ find (λ (l : LifeAt). l.site == site) more
find_second site [] more has = refl
find_second site (l ∷ lives) more has = by (l.site == site) has (find_second site lives more)
  where
    by : (t : Bool) → (t || has_granted lives site) ≡ false
        → (has_granted lives site ≡ false → find (λ (k : LifeAt). k.site == site) (lives ++ more) ≡ find
        (λ (k : LifeAt). k.site == site) more)
        → cond t (Some l) (find (λ (k : LifeAt). k.site == site) (lives ++ more)) ≡ find
        (λ (k : LifeAt). k.site == site) more
    by true is rest = let never : ⊥ = cc in absurd never
    by false is rest = rest is

granted_more : (lives : List LifeAt) (site life s : ℕ)
    → has_granted (lives ++ record { site = site; life = life } ∷ []) s ≡ has_granted lives s || ((site == s) || false)
granted_more lives site life s = list_any-append (λ (l : LifeAt). l.site == s) lives
    (record { site = site; life = life } ∷ [])

or_true : (a : Bool) → a ≡ true → (b : Bool) → (a || b) ≡ true
or_true true is b = refl
or_true false is b = let never : ⊥ = cc in absurd never

or_none : (a : Bool) → (a || false) ≡ true → a ≡ true
or_none true is = refl
or_none false is = is

kept_by : (lives : List LifeAt) (site life s : ℕ) → has_granted lives s ≡ true → (t : Bool)
    → (has_granted (cond t lives (lives ++ record { site = site; life = life } ∷ [])) s ≡ true)
    × (life_of (cond t lives (lives ++ record { site = site; life = life } ∷ [])) s ≡ life_of lives s)
kept_by lives site life s has true = (has, refl)
kept_by lives site life s has false = (
  granted_more lives site life s ∙ or_true (has_granted lives s) has ((site == s) || false),
  ap (λ (o : Option LifeAt). option_map_or (λ (l : LifeAt). l.life) o 0)
      (find_first s lives (record { site = site; life = life } ∷ []) has),
)

gained_by : (lives : List LifeAt) (site life s : ℕ) → has_granted lives s ≡ false → (t : Bool)
    → has_granted (cond t lives (lives ++ record { site = site; life = life } ∷ [])) s ≡ true
    → (site ≡ s) × (life_of (cond t lives (lives ++ record { site = site; life = life } ∷ [])) s ≡ life)
gained_by lives site life s none true has = let never : ⊥ = cc in absurd never
gained_by lives site life s none false has =
    let or_is : (has_granted lives s || ((site == s) || false)) ≡ true = sym (granted_more lives site life s) ∙ has in
    let here : ((site == s) || false) ≡ true = subst (λ (b : Bool). (b || ((site == s) || false)) ≡ true) none or_is in
    let test : (site == s) ≡ true = or_none (site == s) here in (
      eqb-true site s test,
      ap (λ (o : Option LifeAt). option_map_or (λ (l : LifeAt). l.life) o 0)
          (find_second s lives (record { site = site; life = life } ∷ []) none
          ∙ ap (λ (b : Bool). cond b (Some (record { site = site; life = life })) None) test),
    )

has_by : (lives : List LifeAt) (site life : ℕ) (t : Bool) → has_granted lives site ≡ t
    → has_granted (cond t lives (lives ++ record { site = site; life = life } ∷ [])) site ≡ true
has_by lives site life true is = is
has_by lives site life false is = granted_more lives site life site
    ∙ or_second (has_granted lives site) ((site == site) || false)
    (ap (λ (b : Bool). b || false) (eq-eqb site site refl))

-- what is noted of a request keeps lives, and a grant adds one

no_grant : (lives : List LifeAt) (asked : Option ℕ) (answer : Option Answer)
    → ((site life : ℕ) → IsGrant asked answer site life → ⊥) → KeepsLives lives lives asked answer
no_grant lives asked answer none = record {
  kept = λ site has. (has, refl);
  gained = λ site no has. absurd (let never : ⊥ = cc (no, has) in never);
  counted = λ site life g. absurd (none site life g);
}

with_keeps : (lives : List LifeAt) (site : ℕ) (answer : Option Answer)
    → KeepsLives lives (lives_with lives site answer) (Some site) answer
with_keeps lives site None = no_grant lives (Some site) None
    (λ s life g. (let is : None ≡ Some (answers.Granted g.grant) = g.is in
    let never : ⊥ = cc in never))
with_keeps lives site (Some (answers.Granted grant)) = record {
  kept = λ s has. kept_by lives site grant.life s has (has_granted lives site);
  gained = λ s none has.
      (let both : (site ≡ s) × (life_of (with_life lives site grant.life) s ≡ grant.life) =
      gained_by lives site grant.life s none (has_granted lives site) has in
      record {
        grant = grant;
        is = refl;
        its = sym both.1;
        counts = ap (λ (n : ℕ). Some n) both.0;
      });
  counted = λ s told g.
      (let asked : Some site ≡ Some s = g.counts in let same : site ≡ s = cc in
      subst (λ (k : ℕ). has_granted (with_life lives site grant.life) k ≡ true) same
      (has_by lives site grant.life (has_granted lives site) refl));
}
with_keeps lives site (Some (answers.Clash holder inv event)) =
    no_grant lives (Some site) (Some (answers.Clash holder inv event))
    (λ s life g. (let is : Some (answers.Clash holder inv event)
    ≡ Some (answers.Granted g.grant) = g.is in let never : ⊥ = cc in never))
with_keeps lives site (Some (answers.Closed epoch)) =
    no_grant lives (Some site) (Some (answers.Closed epoch))
    (λ s life g. (let is : Some (answers.Closed epoch)
    ≡ Some (answers.Granted g.grant) = g.is in let never : ⊥ = cc in never))
with_keeps lives site (Some (answers.Behind epoch)) =
    no_grant lives (Some site) (Some (answers.Behind epoch))
    (λ s life g. (let is : Some (answers.Behind epoch)
    ≡ Some (answers.Granted g.grant) = g.is in let never : ⊥ = cc in never))
with_keeps lives site (Some (answers.Restarted told)) =
    no_grant lives (Some site) (Some (answers.Restarted told))
    (λ s life g. (let is : Some (answers.Restarted told)
    ≡ Some (answers.Granted g.grant) = g.is in let never : ⊥ = cc in never))
with_keeps lives site (Some answers.Stale) =
    no_grant lives (Some site) (Some answers.Stale)
    (λ s life g. (let is : Some answers.Stale ≡ Some (answers.Granted g.grant) = g.is in
    let never : ⊥ = cc in never))
with_keeps lives site (Some answers.Fault) =
    no_grant lives (Some site) (Some answers.Fault)
    (λ s life g. (let is : Some answers.Fault ≡ Some (answers.Granted g.grant) = g.is in
    let never : ⊥ = cc in never))
with_keeps lives site (Some (answers.Yes clock)) =
    no_grant lives (Some site) (Some (answers.Yes clock))
    (λ s life g. (let is : Some (answers.Yes clock) ≡ Some (answers.Granted g.grant) = g.is in
    let never : ⊥ = cc in never))
with_keeps lives site (Some (answers.Shut snapshot)) =
    no_grant lives (Some site) (Some (answers.Shut snapshot))
    (λ s life g. (let is : Some (answers.Shut snapshot)
    ≡ Some (answers.Granted g.grant) = g.is in let never : ⊥ = cc in never))
with_keeps lives site (Some answers.Installed) =
    no_grant lives (Some site) (Some answers.Installed)
    (λ s life g. (let is : Some answers.Installed ≡ Some (answers.Granted g.grant) = g.is in
    let never : ⊥ = cc in never))
with_keeps lives site (Some (answers.Answered told)) =
    no_grant lives (Some site) (Some (answers.Answered told))
    (λ s life g. (let is : Some (answers.Answered told)
    ≡ Some (answers.Granted g.grant) = g.is in let never : ⊥ = cc in never))

-- nothing else changes them

append_by_lives : (decl : Declaration) (front : Front) (t : Transaction) (object inv event : ℕ) (calls : List Call)
    (r : RoundState) (v : Verdict) → lives_of (append_by decl front t object inv event calls r v).front.transaction
    ≡ t.begun.lives
append_by_lives decl front t object inv event calls r verdicts.Waiting = refl
append_by_lives decl front t object inv event calls r verdicts.Met =
    ap (λ (b : Begun). b.lives) (view_keeps (record t { own = t.own ++ next_own t object event ∷ [] }) object
    (option_map (λ (v : View). with_own v event) (slice_get t.views object)))
append_by_lives decl front t object inv event calls r (verdicts.Closed epoch site) = refl
append_by_lives decl front t object inv event calls r (verdicts.Clash tx site) = refl
append_by_lives decl front t object inv event calls r (verdicts.Short got need) = refl

answered_lives : (decl : Declaration) (front : Front) (t : Transaction) (object inv : ℕ) (event : Option ℕ)
    → lives_of (answered decl front t object inv event).front.transaction ≡ t.begun.lives
answered_lives decl front t object inv None = refl
answered_lives decl front t object inv (Some event) =
    append_by_lives decl front t object inv event []
    (round_for decl front t (append_need_of decl t.begun.epoch object event))
    (verdict (round_for decl front t (append_need_of decl t.begun.epoch object event)))

pub read_by_lives : (decl : Declaration) (front : Front) (t : Transaction) (object inv : ℕ) (calls : List Call)
    (r : RoundState) (v : Verdict) → lives_of (read_by decl front t object inv calls r v).front.transaction
    ≡ t.begun.lives
read_by_lives decl front t object inv calls r verdicts.Waiting = refl
read_by_lives decl front t object inv calls r verdicts.Met =
    answered_lives decl front t object inv (answer_of decl t object inv)
read_by_lives decl front t object inv calls r (verdicts.Closed epoch site) = refl
read_by_lives decl front t object inv calls r (verdicts.Clash tx site) = refl
read_by_lives decl front t object inv calls r (verdicts.Short got need) = refl

stay : (lives : List LifeAt) (answer : Option Answer) → KeepsLives lives lives None answer
stay lives answer = no_grant lives None answer
    (λ site life g. (let is : None ≡ Some site = g.counts in let never : ⊥ = cc in never))

takes_in_lives : (decl : Declaration) (front : Front) (doing : Doing) (t : Option Transaction) (number : ℕ)
    (answer : Option Answer) → lives_of front.transaction ≡ lives_of t
    → KeepsLives (lives_of t) (lives_of (takes_in decl front doing t number answer).front.transaction)
    (asked_in t doing number) answer
takes_in_lives decl front doing None number answer same =
    subst (λ (ls : List LifeAt). KeepsLives [] ls None answer) (sym same) (stay [] answer)
takes_in_lives decl front Idle (Some t) number answer same =
    subst (λ (ls : List LifeAt). KeepsLives t.begun.lives ls None answer) (sym same) (stay t.begun.lives answer)
takes_in_lives decl front (Reading object inv calls round) (Some t) number answer same = by (site_called calls number)
  where
    by : (o : Option ℕ) → KeepsLives t.begun.lives
        (lives_of (reading_takes decl front t object inv calls round number answer o).front.transaction) o answer
    by None = subst (λ (ls : List LifeAt). KeepsLives t.begun.lives ls None answer) (sym same)
        (stay t.begun.lives answer)
    by (Some site) =
        subst (λ (ls : List LifeAt). KeepsLives t.begun.lives ls (Some site) answer)
        (sym (read_by_lives decl (learns front answer) (read_with t site object answer) object inv
        (without_call calls number) (note round site (standing_of answer))
        (verdict (note round site (standing_of answer))) ∙ read_lives t site object answer))
        (with_keeps t.begun.lives site answer)
takes_in_lives decl front (Appending object inv event calls round) (Some t) number answer same =
    by (site_called calls number)
  where
    by : (o : Option ℕ) → KeepsLives t.begun.lives
        (lives_of (appending_takes decl front t object inv event calls round number answer o).front.transaction) o
        answer
    by None = subst (λ (ls : List LifeAt). KeepsLives t.begun.lives ls None answer) (sym same)
        (stay t.begun.lives answer)
    by (Some site) =
        subst (λ (ls : List LifeAt). KeepsLives t.begun.lives ls (Some site) answer)
        (sym (append_by_lives decl (learns front answer) (appended_with t site answer) object inv event
        (without_call calls number) (note round site (standing_of answer))
        (verdict (note round site (standing_of answer))) ∙ appended_lives t site answer))
        (with_keeps t.begun.lives site answer)

pub first_grants_give_lives : (decl : Declaration) (front : Front) (number : ℕ) (answer : Option Answer)
    → KeepsLives (lives_of front.transaction) (lives_of (takes decl front number answer).front.transaction)
    (asked_at front number) answer
first_grants_give_lives decl front number answer =
    takes_in_lives decl front front.doing front.transaction number answer refl
