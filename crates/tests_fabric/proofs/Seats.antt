-- A seat knows whether its actor is down, as its pass goes on.
use Rattle.std.proofs.Common.{◌≡◌, ℕ, ◌+◌, ◌<◌, Bool, true, false, List, [], ◌∷◌, ◌++◌, Option, Some, None, refl, ap}
use Rattle.std.proofs.Common.{sym, ◌∙◌, subst, arith}
use Rattle.std.specs.List.{fold}
use Rattle.std.proofs.lemmas.List.Sums.{fold-append}
use Rattle.atomic_table.specs.Seated.{TableId}
use Rattle.qc_decl.specs.Vocabulary.{actors, controller}
use Rattle.qc_decl.specs.declared.declaration.Declaration.{Declaration}
use Rattle.qc_mailbox.specs.Vocabulary.{TellsWhereDown, down_at, is_down}
use Rattle.qc_msg.specs.Vocabulary.{Deed, Entry, Falls, Rises, Takes as TakesInput, deeds, deeds_as, sends_of, tells_of}
use Rattle.qc_msg.specs.Vocabulary.{writes_of}
use Rattle.qc_msg.specs.declared.step.Fall.TheVariants as causes
use Rattle.qc_outside.specs.declared.disk.ArmKind.{ArmKind}
use Rattle.qc_msg.specs.declared.record.Record.{Record}
use Rattle.qc_msg.specs.declared.reply.Reply.{Reply}
use Rattle.qc_msg.specs.declared.step.Input.{Input}
use Rattle.qc_msg.specs.declared.step.Step.{Step}
use Rattle.qc_msg.specs.declared.turn.Appended.{Appended}
use Rattle.qc_msg.specs.declared.turn.Appended.TheVariants.{Done, Failed, Stopped}
use Rattle.qc_msg.specs.declared.turn.Posting.{Posting}
use Rattle.qc_msg.specs.declared.turn.Turn.{Turn}
use Rattle.qc_pass.specs.declared.token.Pass.{Pass}
use Rattle.qc_pass.specs.Vocabulary.{number, seen}
use Rattle.qc_script.specs.declared.script.Script.{Script}
use Rattle.qc_fabric.specs.Vocabulary.{Arms, FallsByLine, IsRising, IsSame, Posts, RisesAs, Sees, Takes}
use Rattle.qc_fabric.specs.Vocabulary.{deeds_of_rising}
use Rattle.qc_fabric.specs.declared.rising.Rising.{Rising}
use Rattle.qc_fabric.specs.declared.rising.Rising.TheVariants.{Rose, Damaged, NotOpened}
use Rattle.qc_fabric.proofs.Plain.{may_end}
use Rattle.tests_fabric.specs.Seats.{IsSeat, MayRise, down_after, down_by}
use Rattle.tests_fabric.specs.Turns.{MaySay, any_records, any_turn}

-- who is down only tells replies
pub tells_where_down : (decl : Declaration) → TellsWhereDown (any_turn decl)
tells_where_down decl =
    record {
      ends = λ a ds turn may. may.ends;
      writes_none = λ a ds turn may. may.writes_none;
      sends_none = λ a ds turn may. may.sends_none;
    }

-- a post

sends_keep : (down : Bool) (n : ℕ) (ps : List Posting) (more : List Deed)
    → fold down_at down (sends_of n ps ++ more) ≡ fold down_at down more
sends_keep down n [] more = refl
sends_keep down n (p ∷ ps) more = sends_keep down (n + 1) ps more

tells_keep : (down : Bool) (reply : Option Reply) (more : List Deed)
    → fold down_at down (tells_of reply ++ more) ≡ fold down_at down more
tells_keep down None more = refl
tells_keep down (Some reply) more = refl

tells_alone : (down : Bool) (reply : Option Reply) → fold down_at down (tells_of reply) ≡ down
tells_alone down None = refl
tells_alone down (Some reply) = refl

writes_keep : (down : Bool) (w : Option Record) (more : List Deed)
    → fold down_at down (writes_of w ++ more) ≡ fold down_at down more
writes_keep down None more = refl
writes_keep down (Some written) more = refl

post_downs : (end : Appended) (down : Bool) (n : ℕ) (turn : Turn)
    → fold down_at down (deeds_as end n turn) ≡ down_after down end
post_downs Done down n turn =
    writes_keep down turn.write (sends_of n turn.sends ++ tells_of turn.told)
    ∙ (sends_keep down n turn.sends (tells_of turn.told) ∙ tells_alone down turn.told)
post_downs Failed down n turn = sends_keep down n turn.failed_sends _ ∙ tells_keep down turn.failed_told _
post_downs Stopped down n turn = tells_keep down turn.failed_told _

-- a restart

rising_downs : (down : Bool) (n : ℕ) (rising : Rising)
    → fold down_at down (deeds_of_rising n rising) ≡ down_by down rising
rising_downs down n (Rose records turn) = post_downs turn.append false n turn
rising_downs down n (Damaged offset) = refl
rising_downs down n (NotOpened cause) = refl

pub may_rise : (decl : Declaration) (a : ℕ) (h : List Entry) (rising : Rising) → MayRise rising
    → IsRising (any_turn decl) (any_records decl) a h rising
may_rise decl a h (Rose records turn) may =
    let up : is_down (deeds a [] h ++ Rises records ∷ []) ≡ false =
    fold-append down_at false (deeds a [] h) (Rises records ∷ []) in (
      tt,
      may.0,
      may.1,
      subst (λ (d : Bool). MaySay d turn) (sym up)
          (record {
            ends = may_end turn.write turn.append may.0;
            writes_none = λ no. absurd (let never : ⊥ = cc in never);
            sends_none = λ no. absurd (let never : ⊥ = cc in never);
          }),
    )
may_rise decl a h (Damaged offset) may = tt
may_rise decl a h (NotOpened cause) may = may

-- the same pass, which saw more
module _ {z : TableId} {decl : Declaration} {p : Pass Step} {down : Bool} (q : Pass Step) (s : IsSeat z decl p down)
    (same : IsSame p q) where
  pub goes_on : (later : Bool) (ds : List Deed) → deeds (number p) [] (seen q) ≡ deeds (number p) [] (seen p) ++ ds
      → fold down_at down ds ≡ later → IsSeat z decl q later
  goes_on later ds does is = record {
    table_is = same.table_is ∙ s.table_is;
    down_is = λ low.
        (let was : down ≡ is_down (deeds (number p) [] (seen p)) =
        s.down_is (subst (λ (n : ℕ). n < actors decl) same.number_is low) in
        let now : is_down (deeds (number p) [] (seen q)) ≡ fold down_at (is_down (deeds (number p) [] (seen p))) ds =
        ap is_down does ∙ fold-append down_at false (deeds (number p) [] (seen p)) ds in
        let here : later ≡ is_down (deeds (number p) [] (seen q)) =
        sym is ∙ (ap (λ (d : Bool). fold down_at d ds) was ∙ sym now) in
        subst (λ (n : ℕ). later ≡ is_down (deeds n [] (seen q))) (sym same.number_is) here);
  }

  pub stays : deeds (number p) [] (seen q) ≡ deeds (number p) [] (seen p) → IsSeat z decl q down
  stays does = record {
    table_is = same.table_is ∙ s.table_is;
    down_is = λ low.
        (let was : down ≡ is_down (deeds (number p) [] (seen p)) =
        s.down_is (subst (λ (n : ℕ). n < actors decl) same.number_is low) in
        subst (λ (n : ℕ). down ≡ is_down (deeds n [] (seen q))) (sym same.number_is) (was ∙ ap is_down (sym does)));
  }

module _ {z : TableId} {decl : Declaration} {p : Pass Step} {down : Bool} (q : Pass Step)
    (s : IsSeat z decl p down) where
  pub sees_on : Sees p q → IsSeat z decl q down
  sees_on see = stays q s see.pass see.does

  pub takes_on : {L : ℕ → List Deed → Turn → Type 0} {F : ℕ → List Record → Type 0} {D : Declaration} {S : Script}
      (given : Input) → Takes L F D S p q given → IsSeat z decl q down
  takes_on given takes = goes_on q s takes.pass down (TakesInput given ∷ []) takes.does refl

  pub posts_on : {L : ℕ → List Deed → Turn → Type 0} {F : ℕ → List Record → Type 0} {D : Declaration} {S : Script}
      (turn : Turn) (first : ℕ) → Posts L F D S p q turn first → IsSeat z decl q (down_after down turn.append)
  posts_on turn first posts =
      goes_on q s posts.pass (down_after down turn.append) (deeds_as turn.append first turn) posts.does
      (post_downs turn.append down first turn)

  -- so what it may say is lawful
  pub may_say : number q < actors decl → Sees p q → (turn : Turn) → MaySay down turn
      → any_turn decl (number q) (deeds (number q) [] (seen q)) turn
  may_say low see turn may = subst (λ (d : Bool). MaySay d turn) ((sees_on see).down_is low) may

  pub falls_on : {L : ℕ → List Deed → Turn → Type 0} {F : ℕ → List Record → Type 0} {D : Declaration} {S : Script}
      {old new : List Entry} → FallsByLine L F D S p q old new → IsSeat z decl q true
  falls_on falls = goes_on q s falls.pass true (Falls causes.Script None ∷ []) falls.does refl

  pub rises_on : {L : ℕ → List Deed → Turn → Type 0} {F : ℕ → List Record → Type 0} {D : Declaration} {S : Script}
      (rising : Rising) (first : ℕ) → RisesAs L F D S p q rising first → IsSeat z decl q (down_by down rising)
  rises_on rising first rises =
      goes_on q s rises.pass (down_by down rising) (deeds_of_rising first rising) rises.does
      (rising_downs down first rising)

  pub arms_on : {D : Declaration} {old new : List Entry} {kind : ArmKind} {at : ℕ} → Arms D p q old new kind at
      → IsSeat z decl q down
  arms_on arms = stays q s arms.pass arms.does

  -- the controller's
  pub controls_on : number p ≡ controller decl → IsSame p q → IsSeat z decl q down
  controls_on at same =
      record { table_is = same.table_is ∙ s.table_is; down_is = λ low. absurd (omega (arith, at, same.number_is, low)) }
