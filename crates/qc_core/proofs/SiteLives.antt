-- A site that lives by its conduct serves: it takes inputs while it is up, posts for each, falls and rises.
use Rattle.std.proofs.Common.{◌≡◌, ℕ, ◌+◌, Bool, true, false, List, [], ◌∷◌, ◌++◌, Option, Some, None, refl, sym, ap}
use Rattle.std.proofs.Common.{◌∙◌, subst, append_assoc}
use Rattle.std.specs.Prelude.{fold}
use Rattle.std.specs.List.{AllByRecursion as Every}
use Rattle.qc_decl.specs.declared.declaration.Declaration.{Declaration}
use Rattle.qc_msg.specs.declared.record.Record.{Record}
use Rattle.qc_msg.specs.declared.reply.Reply.{Reply}
use Rattle.qc_msg.specs.declared.step.Fall.TheVariants as causes
use Rattle.qc_msg.specs.declared.step.Input.{Input}
use Rattle.qc_msg.specs.declared.step.Input.TheVariants as given
use Rattle.qc_msg.specs.declared.turn.Appended.{Appended}
use Rattle.qc_msg.specs.declared.turn.Appended.TheVariants.{Done, Failed, Stopped}
use Rattle.qc_msg.specs.declared.turn.Posting.{Posting}
use Rattle.qc_msg.specs.declared.turn.Turn.{Turn}
use Rattle.qc_msg.specs.Vocabulary.{Deed, Falls, Rises, Takes, deeds_as, sends_of, tells_of, writes_of}
use Rattle.qc_core.specs.Vocabulary.{IsInput, IsLawfulWithFalls, IsSiteDeed, IsSiteInput, Lives, MayReach, Serves}
use Rattle.qc_core.specs.Vocabulary.{is_up, stays_up, up_at}
use Rattle.qc_core.specs.Lives as lives
use Rattle.qc_core.specs.Sites as serving
use Rattle.qc_core.proofs.OpenedInputs.{up_more}

-- whether a site is up behind a post

pub sends_stay : (up : Bool) (n : ℕ) (ps : List Posting) (xs : List Deed)
    → fold up_at up (sends_of n ps ++ xs) ≡ fold up_at up xs
sends_stay up n [] xs = refl
sends_stay up n (p ∷ ps) xs = sends_stay up (n + 1) ps xs

pub tells_stay : (up : Bool) (told : Option Reply) (xs : List Deed)
    → fold up_at up (tells_of told ++ xs) ≡ fold up_at up xs
tells_stay up None xs = refl
tells_stay up (Some r) xs = refl

pub told_stay : (up : Bool) (told : Option Reply) → fold up_at up (tells_of told) ≡ up
told_stay up None = refl
told_stay up (Some r) = refl

post_up : (end : Appended) (n : ℕ) (turn : Turn) → fold up_at true (deeds_as end n turn) ≡ stays_up end
post_up Done n turn = by turn.write
  where
    by : (w : Option Record) → fold up_at true (writes_of w ++ (sends_of n turn.sends ++ tells_of turn.told)) ≡ true
    by None = sends_stay true n turn.sends (tells_of turn.told) ∙ told_stay true turn.told
    by (Some w) = sends_stay true n turn.sends (tells_of turn.told) ∙ told_stay true turn.told
post_up Failed n turn = sends_stay true n turn.failed_sends
    (tells_of turn.failed_told ++ Falls causes.Disk turn.write ∷ [])
    ∙ tells_stay true turn.failed_told (Falls causes.Disk turn.write ∷ [])
post_up Stopped n turn = tells_stay true turn.failed_told (Falls causes.Stop turn.write ∷ [])

-- what a site takes, it takes while it is up

may_input : (g : Input) → IsSiteInput g → IsInput g
may_input (given.Called command) ok = absurd ok
may_input (given.Got e) ok = ok
may_input (given.Lost number) ok = tt

reached_up : (up : Bool) (g : Input) → IsSiteInput g → MayReach up g → up ≡ true
reached_up up (given.Called command) ok reach = absurd ok
reached_up up (given.Got e) ok reach = reach
reached_up up (given.Lost number) ok reach = reach

first_part : (xs ys : List Deed) → Every IsSiteDeed (xs ++ ys) → Every IsSiteDeed xs
first_part [] ys all = tt
first_part (x ∷ xs) ys all = (all.0, first_part xs ys all.1)

second_part : (xs ys : List Deed) → Every IsSiteDeed (xs ++ ys) → Every IsSiteDeed ys
second_part [] ys all = all
second_part (x ∷ xs) ys all = second_part xs ys all.1

module _ (decl : Declaration) (a : ℕ) where
  -- an input is open behind deeds of a site that serves and is up
  record IsOpen (ds : List Deed) : Type 0 where
    before : List Deed
    taken : Input
    is : ds ≡ before ++ Takes taken ∷ []
    up : is_up before ≡ true
    served : Serves decl a before true
    input : IsInput taken

  abbrev ServesAt : List Deed → Bool → Type 0
  ServesAt ds false = Serves decl a ds (is_up ds)
  ServesAt ds true = IsOpen ds

  post_serves : (ds : List Deed) (turn : Turn) (first : ℕ) → IsLawfulWithFalls decl a ds turn → IsOpen ds
      → Serves decl a (ds ++ deeds_as turn.append first turn) (is_up (ds ++ deeds_as turn.append first turn))
  post_serves ds turn first lawful s =
      subst (λ (v : List Deed). Serves decl a v (is_up v)) (sym whole)
      (subst (Serves decl a (s.before ++ Takes s.taken ∷ deeds_as turn.append first turn)) (sym on)
      (serving.serves s.before s.taken turn first s.served s.input
      (subst (λ (v : List Deed). IsLawfulWithFalls decl a v turn) s.is lawful)))
    where
      whole : ds ++ deeds_as turn.append first turn ≡ s.before ++ Takes s.taken ∷ deeds_as turn.append first turn
      whole = ap (λ (v : List Deed). v ++ deeds_as turn.append first turn) s.is
          ∙ append_assoc s.before (Takes s.taken ∷ []) (deeds_as turn.append first turn)

      on : is_up (s.before ++ Takes s.taken ∷ deeds_as turn.append first turn) ≡ stays_up turn.append
      on =
          up_more s.before (Takes s.taken ∷ deeds_as turn.append first turn)
          ∙ ap (λ (up : Bool). fold up_at up (deeds_as turn.append first turn)) s.up
          ∙ post_up turn.append first turn

  lives_serve : (ds : List Deed) (t : Bool) (n : ℕ) → Lives decl a ds t n → Every IsSiteDeed ds → ServesAt ds t
  lives_serve ds t n lives.starts inputs = serving.starts
  lives_serve ds t n (lives.takes before g m life may comes) inputs =
      let ok : IsSiteInput g = (second_part before (Takes g ∷ []) inputs).0 in
      let up : is_up before ≡ true = reached_up (is_up before) g ok comes in
      record {
        before = before;
        taken = g;
        is = refl;
        up = up;
        served = subst (Serves decl a before) up
            (lives_serve before false m life (first_part before (Takes g ∷ []) inputs));
        input = may_input g ok;
      }
  lives_serve ds t n (lives.posts before turn m first life above lawful) inputs =
      post_serves before turn first lawful (lives_serve before true m life
      (first_part before (deeds_as turn.append first turn) inputs))
  lives_serve ds t n (lives.crashes before m life up) inputs =
      subst (Serves decl a (before ++ Falls causes.Script None ∷ []))
      (sym (up_more before (Falls causes.Script None ∷ [])))
      (serving.crashes before (subst (Serves decl a before) up
      (lives_serve before false m life (first_part before (Falls causes.Script None ∷ []) inputs))))
  lives_serve ds t n (lives.rises before rs turn m first life down above lawful) inputs =
      subst (λ (v : List Deed). Serves decl a v (is_up v))
      (sym (append_assoc before (Rises rs ∷ []) (deeds_as turn.append first turn)))
      (subst (Serves decl a (before ++ Rises rs ∷ deeds_as turn.append first turn))
      (sym (up_more before (Rises rs ∷ deeds_as turn.append first turn) ∙ post_up turn.append first turn))
      (serving.rises before rs turn first (subst (Serves decl a before) down
      (lives_serve before false m life (first_part before (Rises rs ∷ [])
      (first_part (before ++ Rises rs ∷ []) (deeds_as turn.append first turn) inputs)))) lawful))
  lives_serve ds t n (lives.unopened before cause m life down by_disk) inputs =
      subst (Serves decl a (before ++ Falls cause None ∷ [])) (sym (up_more before (Falls cause None ∷ [])))
      (serving.unopened before cause (subst (Serves decl a before) down
      (lives_serve before false m life (first_part before (Falls cause None ∷ []) inputs))))

pub sites_that_live_serve : (decl : Declaration) (site : ℕ) (ds : List Deed) (n : ℕ) → Lives decl site ds false n
    → Every IsSiteDeed ds → Serves decl site ds (is_up ds)
sites_that_live_serve decl site ds n life inputs = lives_serve decl site ds false n life inputs
