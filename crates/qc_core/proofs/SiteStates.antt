-- A site by its conduct, through falls and rises, is what its deeds show while it is up.
use Rattle.std.proofs.Common.{◌≡◌, ℕ, ◌+◌, ◌-◌, Bool, true, cond, List, [], ◌∷◌, ◌++◌, Option, Some, None, refl, sym}
use Rattle.std.proofs.Common.{ap, ◌∙◌, append_assoc}
use Rattle.std.specs.Prelude.{fold}
use Rattle.std.proofs.lemmas.List.Sums.{fold-append}
use Rattle.qc_client.specs.Vocabulary.{new_client}
use Rattle.qc_decl.specs.declared.declaration.Declaration.{Declaration}
use Rattle.qc_decl.specs.Vocabulary.{is_administrator, is_client, is_site}
use Rattle.qc_msg.specs.declared.record.Record.{Record}
use Rattle.qc_msg.specs.declared.record.Record.TheVariants as journals
use Rattle.qc_msg.specs.declared.reply.Reply.{Reply}
use Rattle.qc_msg.specs.declared.step.Input.{Input}
use Rattle.qc_msg.specs.declared.turn.Appended.{Appended}
use Rattle.qc_msg.specs.declared.turn.Appended.TheVariants.{Done, Failed, Stopped}
use Rattle.qc_msg.specs.declared.turn.Posting.{Posting}
use Rattle.qc_msg.specs.declared.turn.Turn.{Turn}
use Rattle.qc_msg.specs.Vocabulary.{Deed, Rises, Takes, deeds_as, turn_deeds, writes_of}
use Rattle.qc_epoch.specs.Vocabulary.{new_admin}
use Rattle.qc_recover.specs.Vocabulary.{admin_rises, client_rises, site_rises}
use Rattle.qc_site.specs.Vocabulary.{SiteMove, SiteState, new_site, site_takes}
use Rattle.qc_core.specs.declared.actor.Actor.{Actor}
use Rattle.qc_core.specs.declared.actor.Actor.TheVariants.{Site, Client, Admin}
use Rattle.qc_core.specs.Vocabulary.{ActorMove, IsLawfulWithFalls, Serves, actor_after, actor_does, actor_takes}
use Rattle.qc_core.specs.Vocabulary.{by_admin, by_client, by_site, crashes, moved, rises, serves, stays_up, unopened}
use Rattle.qc_core.specs.Vocabulary.{with_record}
use Rattle.qc_core.specs.Sites.{starts}
use Rattle.qc_core.proofs.SiteMoves.{steps}
use Rattle.qc_core.proofs.SitePosts.{talk}
use Rattle.qc_core.proofs.SiteRises.{risen_shown}
use Rattle.qc_core.proofs.SiteShown.{shown}

-- only a turn whose record is written leaves its site up
pub was_written : (end : Appended) → stays_up end ≡ true → end ≡ Done
was_written Done is = refl
was_written Failed is = absurd (let never : ⊥ = cc in never)
was_written Stopped is = absurd (let never : ⊥ = cc in never)

module _ (decl : Declaration) (site : ℕ) (is : is_site decl site ≡ true) where
  -- a turn's deeds change nothing at the site

  talk_still : (s : SiteState) (turn : Turn) (n : ℕ) (ps : List Posting) (told : Option Reply)
      → fold (actor_does decl site) (moved (Site s) turn) (talk n ps told) ≡ moved (Site s) turn
  talk_still s turn n [] None = refl
  talk_still s turn n [] (Some r) = refl
  talk_still s turn n (p ∷ ps) told = talk_still s turn (n + 1) ps told

  turn_still : (s : SiteState) (last : Turn) (n : ℕ) (turn : Turn)
      → fold (actor_does decl site) (moved (Site s) last) (turn_deeds n turn) ≡ moved (Site s) last
  turn_still s last n turn = by turn.write
    where
      by : (w : Option Record) → fold (actor_does decl site) (moved (Site s) last)
          (writes_of w ++ talk n turn.sends turn.told) ≡ moved (Site s) last
      by None = talk_still s last n turn.sends turn.told
      by (Some w) = talk_still s last n turn.sends turn.told

  -- it takes an input, and it rises

  pub took : (ds : List Deed) (g : Input) → (actor_after decl site ds).actor ≡ Site (shown site ds)
      → actor_after decl site (ds ++ Takes g ∷ []) ≡ by_site (site_takes decl (shown site ds) g)
  took ds g at = fold-append (actor_does decl site) _ ds (Takes g ∷ []) ∙ ap (λ (v : Actor). actor_takes decl v g) at

  pub rose : (ds : List Deed) (rs : List Record)
      → actor_after decl site (ds ++ Rises rs ∷ []) ≡ by_site (site_rises decl site rs)
  rose ds rs =
      fold-append (actor_does decl site) _ ds (Rises rs ∷ [])
      ∙ ap (λ (b : Bool). cond b (by_site (site_rises decl site rs))
      (cond (is_client decl site) (by_client (client_rises (site - decl.sites) rs)) (by_admin (admin_rises rs)))) is

  -- the turn that is lawful then, and what the site is once that is posted

  pub called : (ds : List Deed) (turn : Turn) (move : SiteMove) → actor_after decl site ds ≡ by_site move
      → IsLawfulWithFalls decl site ds turn → move.turn ≡ with_record turn
  called ds turn move at lawful =
      let here : Some (actor_after decl site ds).turn ≡ Some (with_record turn) =
      sym (ap (λ (b : Bool). cond b (Some (actor_after decl site ds).turn)
      (cond (is_client decl site) (Some (actor_after decl site ds).turn)
      (cond (is_administrator decl site) (Some (actor_after decl site ds).turn) None))) is) ∙ lawful.called_for in
      let same : (actor_after decl site ds).turn ≡ with_record turn = cc in
      sym (ap (λ (m : ActorMove). m.turn) at) ∙ same

  after : (ds : List Deed) (d : Deed) (n : ℕ) (turn : Turn) (move : SiteMove)
      → actor_after decl site (ds ++ d ∷ []) ≡ by_site move
      → (actor_after decl site (ds ++ d ∷ turn_deeds n turn)).actor ≡ Site move.site
  after ds d n turn move at =
      ap (λ (v : List Deed). (actor_after decl site v).actor) (sym (append_assoc ds (d ∷ []) (turn_deeds n turn)))
      ∙ ap (λ (m : ActorMove). m.actor) (fold-append (actor_does decl site) _ (ds ++ d ∷ []) (turn_deeds n turn)
      ∙ ap (λ (m : ActorMove). fold (actor_does decl site) m (turn_deeds n turn)) at
      ∙ turn_still move.site move.turn n turn)

  life_written : (rs : List Record) (turn : Turn) → (site_rises decl site rs).turn ≡ with_record turn
      → turn.write ≡ Some journals.Life
  life_written rs turn same = sym (ap (λ (t : Turn). t.write) same)

  -- while a site is up, it is what its deeds show

  abbrev IsAsShown : List Deed → Type 0
  IsAsShown ds = (actor_after decl site ds).actor ≡ Site (shown site ds)

  pub is_shown : (ds : List Deed) (up : Bool) → Serves decl site ds up → up ≡ true → IsAsShown ds
  is_shown ds up starts on = ap (λ (b : Bool). cond b (Site (new_site site))
      (cond (is_client decl site) (Client (new_client (site - decl.sites))) (Admin new_admin))) is
  is_shown ds up (serves before g turn n served ok lawful) on = from (is_shown before true served refl)
    where
      by : (end : Appended) → end ≡ Done → IsAsShown (before ++ Takes g ∷ turn_deeds n turn)
          → IsAsShown (before ++ Takes g ∷ deeds_as end n turn)
      by Done done here = here
      by Failed done here = absurd (let never : ⊥ = cc in never)
      by Stopped done here = absurd (let never : ⊥ = cc in never)

      from : IsAsShown before → IsAsShown (before ++ Takes g ∷ deeds_as turn.append n turn)
      from old =
          let same : (site_takes decl (shown site before) g).turn ≡ with_record turn =
          called (before ++ Takes g ∷ []) turn (site_takes decl (shown site before) g) (took before g old) lawful in
          by turn.append (was_written turn.append on)
          (after before (Takes g) n turn (site_takes decl (shown site before) g) (took before g old)
          ∙ ap Site (steps decl site before n g ok
          ∙ ap (λ (t : Turn). shown site (before ++ Takes g ∷ turn_deeds n t)) same))
  is_shown ds up (crashes before served) on = absurd (let never : ⊥ = cc in never)
  is_shown ds up (rises before rs turn n served lawful) on = by turn.append (was_written turn.append on)
    where
      same : (site_rises decl site rs).turn ≡ with_record turn
      same = called (before ++ Rises rs ∷ []) turn (site_rises decl site rs) (rose before rs) lawful

      by : (end : Appended) → end ≡ Done → IsAsShown (before ++ Rises rs ∷ deeds_as end n turn)
      by Done done =
          after before (Rises rs) n turn (site_rises decl site rs) (rose before rs)
          ∙ ap Site (sym (risen_shown site before rs n turn (life_written rs turn same)))
      by Failed done = absurd (let never : ⊥ = cc in never)
      by Stopped done = absurd (let never : ⊥ = cc in never)
  is_shown ds up (unopened before cause served) on = absurd (let never : ⊥ = cc in never)
