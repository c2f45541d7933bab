-- A site by its conduct, through falls and rises, is what its deeds show; and all that it posts is due.
use Rattle.std.proofs.Common.{◌≡◌, ℕ, ◌+◌, ◌<◌, Bool, true, false, List, [], ◌∷◌, ◌++◌, Option, Some, None, refl, sym}
use Rattle.std.proofs.Common.{ap, subst, append_assoc}
use Rattle.std.proofs.lemmas.Bool.{lt-ltb}
use Rattle.std.proofs.lemmas.List.{append-nil}
use Rattle.qc_decl.specs.declared.declaration.Declaration.{Declaration}
use Rattle.qc_decl.specs.Vocabulary.{is_site}
use Rattle.qc_msg.specs.declared.record.Record.{Record}
use Rattle.qc_msg.specs.declared.reply.Reply.{Reply}
use Rattle.qc_msg.specs.declared.step.Fall.{Fall}
use Rattle.qc_msg.specs.declared.step.Fall.TheVariants as causes
use Rattle.qc_msg.specs.declared.turn.Appended.{Appended}
use Rattle.qc_msg.specs.declared.turn.Appended.TheVariants.{Done, Failed, Stopped}
use Rattle.qc_msg.specs.declared.turn.Posting.{Posting}
use Rattle.qc_msg.specs.declared.turn.Turn.{Turn}
use Rattle.qc_msg.specs.Vocabulary.{Deed, Falls, Rises, Sends, Takes, Tells, Writes, deeds_as, sends_of, tells_of}
use Rattle.qc_msg.specs.Vocabulary.{writes_of}
use Rattle.qc_promise.specs.Vocabulary.{Act, AreDue, IsDueAt, IsPostOf, Sent, Told, TurnDue, Wrote, posted_next}
use Rattle.qc_promise.specs.Vocabulary.{turn_due}
use Rattle.qc_promise.specs.SiteDue.{rising_turn}
use Rattle.qc_promise.proofs.Posts.{post_more}
use Rattle.qc_recover.specs.Vocabulary.{site_rises}
use Rattle.qc_site.specs.Vocabulary.{SiteMove, SiteState, site_takes}
use Rattle.qc_core.specs.declared.actor.Actor.TheVariants.{Site}
use Rattle.qc_core.specs.Vocabulary.{IsShown, Serves, actor_after, crashes, rises, serves, stays_up, unopened}
use Rattle.qc_core.specs.Vocabulary.{with_record}
use Rattle.qc_core.specs.Sites.{starts}
use Rattle.qc_core.proofs.SiteDues.{turns_are_due}
use Rattle.qc_core.proofs.SiteFits.{Does, IsFit, post_fits}
use Rattle.qc_core.proofs.SiteLines.{began_shows}
use Rattle.qc_core.proofs.SitePosts.{talk}
use Rattle.qc_core.proofs.SiteRises.{rising_does}
use Rattle.qc_core.proofs.SiteShown.{shown}
use Rattle.qc_core.proofs.SiteStates.{called, is_shown, rose, took}

module _ (decl : Declaration) (site : ℕ) (is : is_site decl site ≡ true) where
  -- what is posted for each input and each rise, the last one too

  abbrev pub IsServed : List Deed → Deed → List Deed → Type 0
  IsServed before (Takes g) after = IsPostOf (turn_due decl (before ++ Takes g ∷ []) g) after
  IsServed before (Writes w) after = Unit {0}
  IsServed before (Sends n to m) after = Unit {0}
  IsServed before (Tells r) after = Unit {0}
  IsServed before (Falls cause pending) after = Unit {0}
  IsServed before (Rises records) after = IsPostOf (rising_turn decl (before ++ Rises records ∷ [])) after

  abbrev pub AreServed : List Deed → List Deed → Type 0
  AreServed before [] = Unit {0}
  AreServed before (d ∷ after) = IsServed before d after × AreServed (before ++ d ∷ []) after

  -- deeds that begin behind the post before

  served_more : (before : List Deed) (d : Deed) (xs ys : List Deed) → posted_next ys ≡ [] → IsServed before d xs
      → IsServed before d (xs ++ ys)
  served_more before (Takes given) xs ys ends fits =
      post_more (turn_due decl (before ++ Takes given ∷ []) given) xs ys ends fits
  served_more before (Writes w) xs ys ends fits = tt
  served_more before (Sends n to m) xs ys ends fits = tt
  served_more before (Tells r) xs ys ends fits = tt
  served_more before (Falls cause pending) xs ys ends fits = tt
  served_more before (Rises records) xs ys ends fits =
      post_more (rising_turn decl (before ++ Rises records ∷ [])) xs ys ends fits

  all_more : (before xs ys : List Deed) → posted_next ys ≡ [] → AreServed before xs → AreServed (before ++ xs) ys
      → AreServed before (xs ++ ys)
  all_more before [] ys ends old new = subst (λ (v : List Deed). AreServed v ys) (append-nil before) new
  all_more before (d ∷ xs) ys ends old new = (
    served_more before d xs ys ends old.0,
    all_more (before ++ d ∷ []) xs ys ends old.1
        (subst (λ (v : List Deed). AreServed v ys) (sym (append_assoc before (d ∷ []) xs)) new),
  )

  -- deeds behind a fall: who is down did nothing since it fell

  abbrev pub IsFall : Deed → Type 0
  IsFall (Takes g) = ⊥
  IsFall (Writes w) = ⊥
  IsFall (Sends n to m) = ⊥
  IsFall (Tells r) = ⊥
  IsFall (Falls cause pending) = Unit {0}
  IsFall (Rises records) = ⊥

  abbrev pub EndByFall : List Deed → Type 0
  EndByFall [] = ⊥
  EndByFall (d ∷ []) = IsFall d
  EndByFall (d ∷ e ∷ ds) = EndByFall (e ∷ ds)

  fallen_posted : (xs ys : List Deed) → EndByFall xs → posted_next (xs ++ ys) ≡ posted_next xs
  fallen_posted [] ys fell = absurd fell
  fallen_posted (Takes g ∷ xs) ys fell = refl
  fallen_posted (Falls causes.Script pending ∷ xs) ys fell = refl
  fallen_posted (Falls causes.Stop pending ∷ xs) ys fell = refl
  fallen_posted (Falls causes.Disk pending ∷ xs) ys fell = refl
  fallen_posted (Rises records ∷ xs) ys fell = refl
  fallen_posted (Writes w ∷ []) ys fell = absurd fell
  fallen_posted (Sends n to m ∷ []) ys fell = absurd fell
  fallen_posted (Tells r ∷ []) ys fell = absurd fell
  fallen_posted (Writes w ∷ e ∷ xs) ys fell = ap (λ (v : List Act). Wrote w ∷ v) (fallen_posted (e ∷ xs) ys fell)
  fallen_posted (Sends n to m ∷ e ∷ xs) ys fell =
      ap (λ (v : List Act). Sent (record { to = to; message = m }) ∷ v) (fallen_posted (e ∷ xs) ys fell)
  fallen_posted (Tells r ∷ e ∷ xs) ys fell = ap (λ (v : List Act). Told r ∷ v) (fallen_posted (e ∷ xs) ys fell)

  fits_behind : (t : TurnDue) (xs ys : List Deed) → EndByFall xs → IsPostOf t xs → IsPostOf t (xs ++ ys)
  fits_behind t xs ys fell fits = subst (IsFit t) (sym (fallen_posted xs ys fell)) fits

  served_behind : (before : List Deed) (d : Deed) (xs ys : List Deed) → EndByFall (d ∷ xs) → IsServed before d xs
      → IsServed before d (xs ++ ys)
  served_behind before (Takes g) [] ys fell fits = absurd fell
  served_behind before (Takes g) (x ∷ xs) ys fell fits =
      fits_behind (turn_due decl (before ++ Takes g ∷ []) g) (x ∷ xs) ys fell fits
  served_behind before (Writes w) xs ys fell fits = tt
  served_behind before (Sends n to m) xs ys fell fits = tt
  served_behind before (Tells r) xs ys fell fits = tt
  served_behind before (Falls cause pending) xs ys fell fits = tt
  served_behind before (Rises records) [] ys fell fits = absurd fell
  served_behind before (Rises records) (x ∷ xs) ys fell fits =
      fits_behind (rising_turn decl (before ++ Rises records ∷ [])) (x ∷ xs) ys fell fits

  all_behind : (before xs : List Deed) (cause : Fall) (pending : Option Record) → EndByFall xs → AreServed before xs
      → AreServed before (xs ++ Falls cause pending ∷ [])
  all_behind before [] cause pending fell old = absurd fell
  all_behind before (d ∷ []) cause pending fell old =
      (served_behind before d [] (Falls cause pending ∷ []) fell old.0, (tt, tt))
  all_behind before (d ∷ e ∷ xs) cause pending fell old = (
    served_behind before d (e ∷ xs) (Falls cause pending ∷ []) fell old.0,
    all_behind (before ++ d ∷ []) (e ∷ xs) cause pending fell old.1,
  )

  -- the deeds of a post take nothing, and nobody rises in them

  sends_served : (before : List Deed) (n : ℕ) (ps : List Posting) (xs : List Deed) → ((v : List Deed) → AreServed v xs)
      → AreServed before (sends_of n ps ++ xs)
  sends_served before n [] xs rest = rest before
  sends_served before n (p ∷ ps) xs rest = (tt, sends_served (before ++ Sends n p.to p.message ∷ []) (n + 1) ps xs rest)

  tells_served : (before : List Deed) (told : Option Reply) (xs : List Deed) → ((v : List Deed) → AreServed v xs)
      → AreServed before (tells_of told ++ xs)
  tells_served before None xs rest = rest before
  tells_served before (Some r) xs rest = (tt, rest (before ++ Tells r ∷ []))

  told_served : (before : List Deed) (told : Option Reply) → AreServed before (tells_of told)
  told_served before None = tt
  told_served before (Some r) = (tt, tt)

  post_served : (before : List Deed) (end : Appended) (n : ℕ) (turn : Turn) → AreServed before (deeds_as end n turn)
  post_served before Done n turn = by turn.write
    where
      by : (w : Option Record) → AreServed before (writes_of w ++ talk n turn.sends turn.told)
      by None = sends_served before n turn.sends (tells_of turn.told) (λ v. told_served v turn.told)
      by (Some w) = (
        tt,
        sends_served (before ++ Writes w ∷ []) n turn.sends (tells_of turn.told)
            (λ v. told_served v turn.told),
      )
  post_served before Failed n turn = sends_served before n turn.failed_sends
      (tells_of turn.failed_told ++ Falls causes.Disk turn.write ∷ [])
      (λ v. tells_served v turn.failed_told (Falls causes.Disk turn.write ∷ []) (λ u. (tt, tt)))
  post_served before Stopped n turn = tells_served before turn.failed_told (Falls causes.Stop turn.write ∷ [])
      (λ v. (tt, tt))

  -- where a turn leaves its site down, its deeds end by a fall

  ended_more : (xs ys : List Deed) → EndByFall ys → EndByFall (xs ++ ys)
  ended_more [] ys fell = fell
  ended_more (x ∷ []) [] fell = absurd fell
  ended_more (x ∷ []) (y ∷ ys) fell = fell
  ended_more (x ∷ e ∷ xs) ys fell = ended_more (e ∷ xs) ys fell

  post_ended : (end : Appended) → stays_up end ≡ false → (n : ℕ) (turn : Turn) → EndByFall (deeds_as end n turn)
  post_ended Done off n turn = absurd (let never : ⊥ = cc in never)
  post_ended Failed off n turn = ended_more (sends_of n turn.failed_sends)
      (tells_of turn.failed_told ++ Falls causes.Disk turn.write ∷ [])
      (ended_more (tells_of turn.failed_told) (Falls causes.Disk turn.write ∷ []) tt)
  post_ended Stopped off n turn = ended_more (tells_of turn.failed_told) (Falls causes.Stop turn.write ∷ []) tt

  -- a site that is down has done nothing, or fell last
  down_ended : (ds : List Deed) (up : Bool) → Serves decl site ds up → up ≡ false → EndByFall ds
  down_ended ds up starts off = absurd (let never : ⊥ = cc in never)
  down_ended ds up (serves before g turn n served ok lawful) off =
      ended_more before (Takes g ∷ deeds_as turn.append n turn)
      (ended_more (Takes g ∷ []) (deeds_as turn.append n turn) (post_ended turn.append off n turn))
  down_ended ds up (crashes before served) off = ended_more before (Falls causes.Script None ∷ []) tt
  down_ended ds up (rises before rs turn n served lawful) off =
      ended_more before (Rises rs ∷ deeds_as turn.append n turn)
      (ended_more (Rises rs ∷ []) (deeds_as turn.append n turn) (post_ended turn.append off n turn))
  down_ended ds up (unopened before cause served) off = ended_more before (Falls cause None ∷ []) tt

  -- the turn that was posted is the one that is due

  due_turn : (turn : Turn) (due : TurnDue) (move : SiteMove) → move.turn ≡ with_record turn → Does move.turn due
      → Does turn due
  due_turn turn due move same does =
      let mine : Does (with_record turn) due = subst (λ (t : Turn). Does t due) same does in
      record { same = mine.same; untold = mine.untold; failed_untold = mine.failed_untold }

  pub are_served : (ds : List Deed) (up : Bool) → Serves decl site ds up → AreServed [] ds
  are_served ds up starts = tt
  are_served ds up (serves before g turn n served ok lawful) =
      all_more [] before (Takes g ∷ deeds_as turn.append n turn) refl (are_served before true served) (
        post_fits turn.append n turn (turn_due decl (before ++ Takes g ∷ []) g)
            (due_turn turn (turn_due decl (before ++ Takes g ∷ []) g) (site_takes decl (shown site before) g)
            (called decl site is (before ++ Takes g ∷ []) turn (site_takes decl (shown site before) g)
            (took decl site is before g (is_shown decl site is before true served refl)) lawful)
            (turns_are_due decl site before g)) lawful.may_end,
        post_served (before ++ Takes g ∷ []) turn.append n turn,
      )
  are_served ds up (crashes before served) =
      all_more [] before (Falls causes.Script None ∷ []) refl (are_served before true served) (tt, tt)
  are_served ds up (rises before rs turn n served lawful) =
      all_more [] before (Rises rs ∷ deeds_as turn.append n turn) refl (are_served before false served) (
        post_fits turn.append n turn (rising_turn decl (before ++ Rises rs ∷ []))
            (due_turn turn (rising_turn decl (before ++ Rises rs ∷ [])) (site_rises decl site rs)
            (called decl site is (before ++ Rises rs ∷ []) turn (site_rises decl site rs)
            (rose decl site is before rs) lawful)
            (rising_does decl site before rs)) lawful.may_end,
        post_served (before ++ Rises rs ∷ []) turn.append n turn,
      )
  are_served ds up (unopened before cause served) =
      all_behind [] before cause None (down_ended before false served refl) (are_served before false served)

  -- so all is due

  due_of : (before : List Deed) (d : Deed) (after : List Deed) → IsServed before d after → IsDueAt decl before d after
  due_of before (Takes g) [] fits = tt
  due_of before (Takes g) (d ∷ after) fits = fits
  due_of before (Writes w) after fits = tt
  due_of before (Sends n to m) after fits = tt
  due_of before (Tells r) after fits = tt
  due_of before (Falls cause pending) after fits = tt
  due_of before (Rises records) after fits = fits

  pub all_due : (before ds : List Deed) → AreServed before ds → AreDue decl before ds
  all_due before [] fits = tt
  all_due before (d ∷ after) fits = (due_of before d after fits.0, all_due (before ++ d ∷ []) after fits.1)

pub answers_of_sites_are_due : (decl : Declaration) (site : ℕ) (ds : List Deed) (up : Bool) → site < decl.sites
    → Serves decl site ds up
    → AreDue decl [] ds
answers_of_sites_are_due decl site ds up below served =
    let is : is_site decl site ≡ true = lt-ltb site decl.sites below in
    all_due decl site is [] ds (are_served decl site is ds up served)

pub sites_are_read_off_their_steps : (decl : Declaration) (site : ℕ) (ds : List Deed) → site < decl.sites
    → Serves decl site ds true
    → (s : SiteState) × ((actor_after decl site ds).actor ≡ Site s) × IsShown ds s
sites_are_read_off_their_steps decl site ds below served = (
  shown site ds,
  is_shown decl site (lt-ltb site decl.sites below) ds true served refl,
  record {
    life = refl;
    epoch = refl;
    closed_for = refl;
    began = began_shows ds;
    log = refl;
    recorded = refl;
    arrived = refl;
    held = refl;
    prepared = refl;
    clock = refl;
  },
)
