-- An actor through its falls and rises, deed by deed.
use Rattle.std.proofs.Common.{[], ◌≡◌, ℕ, ◌-◌, ◌<◌, nat_le, nat_lt, arith, ltb-true, Bool, true, false, cond, not}
use Rattle.std.proofs.Common.{List, ◌∷◌, ◌++◌, fold, Option, Some, None, refl, sym, ap, ◌∙◌}
use Rattle.std.proofs.lemmas.List.Sums.{fold-append}
use Rattle.qc_decl.specs.declared.declaration.Declaration.{Declaration}
use Rattle.qc_decl.specs.Vocabulary.{administrator, is_administrator, is_client, is_site}
use Rattle.qc_client.specs.Vocabulary.{client_after, new_client}
use Rattle.qc_msg.specs.declared.record.Record.{Record}
use Rattle.qc_msg.specs.declared.step.Fall.{Fall}
use Rattle.qc_msg.specs.declared.step.Input.{Input}
use Rattle.qc_msg.specs.declared.step.Input.TheVariants as inputs
use Rattle.qc_msg.specs.declared.turn.Turn.{Turn}
use Rattle.qc_msg.specs.Vocabulary.{Deed, Falls, Rises, Sends, Takes, Tells, Writes, quiet}
use Rattle.qc_site.specs.Vocabulary.{new_site, site_after}
use Rattle.qc_epoch.specs.Vocabulary.{new_admin}
use Rattle.qc_recover.specs.Vocabulary.{admin_rises, client_rises, site_rises}
use Rattle.qc_core.specs.declared.actor.Actor.{Actor}
use Rattle.qc_core.specs.declared.actor.Actor.TheVariants as actor
use Rattle.qc_core.specs.Vocabulary.{ActorMove, AreSteady, IsLawful, MayReach, actor_after, actor_does, actor_rises}
use Rattle.qc_core.specs.Vocabulary.{actor_sends, actor_takes, by_admin, by_client, by_site, is_up, moved, turn_after}
use Rattle.qc_core.specs.Vocabulary.{turn_with_falls, up_at}
use Rattle.qc_core.proofs.ActorLaws.{other_client, turns_are_those_of_actors}
use Rattle.qc_list.proofs.Booleans.{and_second}

-- one deed more

pub falls : (decl : Declaration) (a : ℕ) (ds : List Deed) (cause : Fall) (pending : Option Record)
    → actor_after decl a (ds ++ Falls cause pending ∷ []) ≡ moved actor.Down quiet
falls decl a ds cause pending = fold-append (actor_does decl a) _ ds (Falls cause pending ∷ [])

pub rises : (decl : Declaration) (a : ℕ) (ds : List Deed) (records : List Record)
    → actor_after decl a (ds ++ Rises records ∷ []) ≡ actor_rises decl a records
rises decl a ds records = fold-append (actor_does decl a) _ ds (Rises records ∷ [])

-- who is down, and who is up

abbrev is_down : Actor → Bool
is_down (actor.Site s) = false
is_down (actor.Client c) = false
is_down (actor.Admin m) = false
is_down actor.Down = true

takes_stays : (decl : Declaration) (v : Actor) (g : Input) → is_down (actor_takes decl v g).actor ≡ is_down v
takes_stays decl (actor.Site s) g = refl
takes_stays decl (actor.Client c) g = refl
takes_stays decl (actor.Admin m) g = refl
takes_stays decl actor.Down g = refl

sends_stays : (v : Actor) (number to : ℕ) (message : _) → is_down (actor_sends v number to message) ≡ is_down v
sends_stays (actor.Site s) number to message = refl
sends_stays (actor.Client c) number to message = refl
sends_stays (actor.Admin m) number to message = refl
sends_stays actor.Down number to message = refl

rises_up : (decl : Declaration) (a : ℕ) (rs : List Record) → is_down (actor_rises decl a rs).actor ≡ false
rises_up decl a rs = by (is_site decl a) (is_client decl a)
  where
    by : (x y : Bool)
        → is_down
        (cond x (by_site (site_rises decl a rs))
        (cond y (by_client (client_rises (a - decl.sites) rs)) (by_admin (admin_rises rs)))).actor ≡ false
    by true y = refl
    by false true = refl
    by false false = refl

down_from : (decl : Declaration) (a : ℕ) (m : ActorMove) (u : Bool) (ds : List Deed) → is_down m.actor ≡ not u
    → is_down (fold (actor_does decl a) m ds).actor ≡ not (fold up_at u ds)
down_from decl a m u [] is = is
down_from decl a m u (Takes g ∷ ds) is =
    down_from decl a (actor_takes decl m.actor g) u ds (takes_stays decl m.actor g ∙ is)
down_from decl a m u (Writes written ∷ ds) is = down_from decl a m u ds is
down_from decl a m u (Sends number to message ∷ ds) is =
    down_from decl a (record m { actor = actor_sends m.actor number to message }) u ds
    (sends_stays m.actor number to message ∙ is)
down_from decl a m u (Tells reply ∷ ds) is = down_from decl a m u ds is
down_from decl a m u (Falls cause pending ∷ ds) is = down_from decl a (moved actor.Down quiet) false ds refl
down_from decl a m u (Rises records ∷ ds) is =
    down_from decl a (actor_rises decl a records) true ds (rises_up decl a records)

new_up : (decl : Declaration) (a : ℕ) → is_down (actor_after decl a []).actor ≡ false
new_up decl a = by (is_site decl a) (is_client decl a)
  where
    by : (x y : Bool)
        → is_down
        (cond x (actor.Site (new_site a))
        (cond y (actor.Client (new_client (a - decl.sites))) (actor.Admin new_admin))) ≡ false
    by true y = refl
    by false true = refl
    by false false = refl

down_is : (v : Actor) → is_down v ≡ true → v ≡ actor.Down
down_is (actor.Site s) is = absurd (let no : ⊥ = cc in no)
down_is (actor.Client c) is = absurd (let no : ⊥ = cc in no)
down_is (actor.Admin m) is = absurd (let no : ⊥ = cc in no)
down_is actor.Down is = refl

pub down : (decl : Declaration) (a : ℕ) (ds : List Deed) → is_up ds ≡ false → (actor_after decl a ds).actor ≡ actor.Down
down decl a ds is = down_is (actor_after decl a ds).actor (down_from decl a _ true ds (new_up decl a) ∙ ap not is)

pub up : (decl : Declaration) (a : ℕ) (ds : List Deed) → is_up ds ≡ true → (actor_after decl a ds).actor ≡ actor.Down
    → ⊥
up decl a ds is never =
    let no : true ≡ false = sym (ap is_down never) ∙ down_from decl a _ true ds (new_up decl a) ∙ ap not is in
    let none : ⊥ = cc in none

-- who never falls

pub steady_from : (u : Bool) (ds : List Deed) → AreSteady ds → fold up_at u ds ≡ u
steady_from u [] steady = refl
steady_from u (Takes g ∷ ds) steady = steady_from u ds steady.1
steady_from u (Writes written ∷ ds) steady = steady_from u ds steady.1
steady_from u (Sends number to message ∷ ds) steady = steady_from u ds steady.1
steady_from u (Tells reply ∷ ds) steady = steady_from u ds steady.1
steady_from u (Falls cause pending ∷ ds) steady = absurd steady.0
steady_from u (Rises records ∷ ds) steady = absurd steady.0

pub reaches : (ds : List Deed) (g : Input) → AreSteady ds → MayReach (is_up ds) g
reaches ds (inputs.Called command) steady = tt
reaches ds (inputs.Got e) steady = steady_from true ds steady
reaches ds (inputs.Lost number) steady = steady_from true ds steady

-- a site's or a client's turn is that of the actor

abbrev pub turn_by : Bool → Bool → Bool → Turn → Option Turn
turn_by site client admin turn = cond site (Some turn) (cond client (Some turn) (cond admin (Some turn) None))

pub some_turn : (decl : Declaration) (a : ℕ) (ds : List Deed) → a < administrator decl
    → turn_with_falls decl a ds ≡ Some (actor_after decl a ds).turn
some_turn decl a ds below = by (is_site decl a) refl
  where
    by : (x : Bool) → is_site decl a ≡ x
        → turn_by (is_site decl a) (is_client decl a) (is_administrator decl a) (actor_after decl a ds).turn
        ≡ Some (actor_after decl a ds).turn
    by true is =
        ap (λ (x : Bool). turn_by x (is_client decl a) (is_administrator decl a) (actor_after decl a ds).turn) is
    by false is =
        ap (λ (x : Bool). turn_by x (is_client decl a) (is_administrator decl a) (actor_after decl a ds).turn) is
        ∙ ap (λ (y : Bool). turn_by false y (is_administrator decl a) (actor_after decl a ds).turn)
        (other_client decl a below is)

pub same_turn : (decl : Declaration) (a : ℕ) (ds : List Deed) → AreSteady ds → a < administrator decl
    → turn_with_falls decl a ds ≡ turn_after decl a ds
same_turn decl a ds steady below = some_turn decl a ds below ∙ sym (turns_are_those_of_actors decl a ds steady below)

-- who has a turn without falls comes before the administrator
pub who_acts : (decl : Declaration) (a : ℕ) (ds : List Deed) (turn : Turn) → IsLawful decl a ds turn
    → a < administrator decl
who_acts decl a ds turn lawful = by (is_site decl a) (is_client decl a) refl refl lawful
  where
    by : (x y : Bool) → is_site decl a ≡ x → is_client decl a ≡ y
        → cond x (Some (site_after decl a ds).turn) (cond y (Some (client_after decl (a - decl.sites) ds).turn) None)
        ≡ Some turn → a < administrator decl
    by true y site client is = let low : a < decl.sites = ltb-true a decl.sites site in omega arith
    by false true site client is =
        ltb-true a (administrator decl) (and_second (nat_le decl.sites a) (nat_lt a (administrator decl)) client)
    by false false site client is = absurd (let no : ⊥ = cc in no)
