-- Where a client stands through its falls and rises, and what comes behind its deeds.
use Rattle.std.proofs.Common.{◌≡◌, ◌+◌, ℕ, ◌-◌, Bool, true, false, cond, List, [], ◌∷◌, ◌++◌, Option, Some, None, sym}
use Rattle.std.proofs.Common.{ap, ◌∙◌, subst, append_assoc}
use Rattle.std.specs.Prelude.{fold}
use Rattle.std.specs.List.{AllByRecursion as Every}
use Rattle.std.proofs.lemmas.List.Sums.{fold-append}
use Rattle.qc_core.specs.declared.actor.Actor.TheVariants as actors
use Rattle.qc_core.specs.Vocabulary.{IsLawfulWithFalls, MayReach, MayTake, actor_after, actor_does, is_up, moved}
use Rattle.qc_core.specs.Vocabulary.{new_actor, up_at, with_record}
use Rattle.qc_client.specs.declared.client.Client.{Client}
use Rattle.qc_decl.specs.declared.declaration.Declaration.{Declaration}
use Rattle.qc_decl.specs.Vocabulary.{is_administrator, is_client, is_site}
use Rattle.qc_msg.specs.declared.record.Record.{Record}
use Rattle.qc_msg.specs.declared.reply.Reply.{Reply}
use Rattle.qc_msg.specs.declared.step.Input.{Input}
use Rattle.qc_msg.specs.declared.turn.Posting.{Posting}
use Rattle.qc_msg.specs.declared.turn.Turn.{Turn}
use Rattle.qc_msg.specs.Vocabulary.{Deed, Takes, quiet, sends_of, tells_of, turn_deeds, writes_of}
use Rattle.qc_promise.specs.Vocabulary.{Account, AreDeedsDue, account_at, account_of, new_account, pending_first}
use Rattle.qc_promise.specs.Vocabulary.{pending_next, posted_next}
use Rattle.laws_due.specs.Vocabulary.{Holds, IsDeclaredDeed, Ties}
use Rattle.laws_due.proofs.DuesOfDeeds.{IsWithin}

-- deeds behind others: of one that is up they begin with no act of its post, and of one that is down with no record
-- pending

abbrev pub Follows : Bool → List Deed → Type 0
Follows true ys = posted_next ys ≡ []
Follows false ys = pending_next ys ≡ None

pub no_act : (ys : List Deed) → posted_next ys ≡ [] → (up : Bool) → Follows up ys
no_act ys is true = is
no_act ys is false = ap pending_first is

pub none_follows : (up : Bool) (ys : List Deed) → Follows up ys → pending_next ys ≡ None
none_follows true ys is = ap pending_first is
none_follows false ys is = is

-- deeds of a client that neither falls nor rises

-- a turn takes nothing, so nothing in it is undeclared

sends_declared : (decl : Declaration) (n : ℕ) (ps : List Posting) (told : Option Reply)
    → Every (IsDeclaredDeed decl) (sends_of n ps ++ tells_of told)
sends_declared decl n [] None = tt
sends_declared decl n [] (Some reply) = (tt, tt)
sends_declared decl n (p ∷ ps) told = (tt, sends_declared decl (n + 1) ps told)

pub turn_declared : (decl : Declaration) (n : ℕ) (turn : Turn) → Every (IsDeclaredDeed decl) (turn_deeds n turn)
turn_declared decl n turn = by turn.write
  where
    by : (w : Option Record) → Every (IsDeclaredDeed decl)
        (writes_of w ++ (sends_of n turn.sends ++ tells_of turn.told))
    by None = sends_declared decl n turn.sends turn.told
    by (Some w) = (tt, sends_declared decl n turn.sends turn.told)

module _ (decl : Declaration) (a : ℕ) where
  abbrev pub account_is : List Deed → Account
  account_is ds = account_of decl (a - decl.sites) ds

  abbrev pub AreDue : List Deed → Type 0
  AreDue ds = AreDeedsDue decl (new_account (a - decl.sites)) ds

  -- where no input is open: the client, while it is up, and what its account tells while it is down

  pub record IsTied (ds : List Deed) : Type 0 where
    pub state : Client
    pub actor : (actor_after decl a ds).actor ≡ actors.Client state
    pub ties : Ties decl (account_is ds) state
    pub holds : Holds decl state
    pub within : IsWithin decl (account_is ds)

  pub record IsFallen (ds : List Deed) : Type 0 where
    pub actor : (actor_after decl a ds).actor ≡ actors.Down
    pub up : (account_is ds).up ≡ false
    pub command : (account_is ds).command ≡ None

  abbrev pub Stands : Bool → List Deed → Type 0
  Stands true ds = IsTied ds
  Stands false ds = IsFallen ds

  pub record IsAtRest (ds : List Deed) : Type 0 where
    pub up : Bool
    pub is : is_up ds ≡ up
    pub due : (ys : List Deed) → Follows up ys → AreDeedsDue decl (account_is ds) ys → AreDue (ds ++ ys)
    pub stands : Stands up ds

  pub record IsAtInput (ds : List Deed) : Type 0 where
    pub before : List Deed
    pub given : Input
    pub is : ds ≡ before ++ Takes given ∷ []
    pub rest : IsAtRest before
    pub may : MayTake before given
    pub reach : MayReach (is_up before) given

  abbrev pub IsAt : List Deed → Bool → Type 0
  IsAt ds true = IsAtInput ds
  IsAt ds false = IsAtRest ds

  -- deeds behind deeds

  pub account_more : (ds more : List Deed) → account_is (ds ++ more) ≡ fold (account_at decl) (account_is ds) more
  account_more ds more = fold-append (account_at decl) (new_account (a - decl.sites)) ds more

  pub actor_more : (ds more : List Deed) → actor_after decl a (ds ++ more) ≡ fold (actor_does decl a)
      (actor_after decl a ds) more
  actor_more ds more = fold-append (actor_does decl a) (moved (new_actor decl a) quiet) ds more

  pub up_more : (ds more : List Deed) → is_up (ds ++ more) ≡ fold up_at (is_up ds) more
  up_more ds more = fold-append up_at true ds more

  -- an event, its deeds being one and more, leaves all due where they are due
  pub event_due : (ds : List Deed) (r : IsAtRest ds) (x : Deed) (more ys : List Deed) → Follows r.up (x ∷ (more ++ ys))
      → (AreDeedsDue decl (fold (account_at decl) (account_at decl (account_is ds) x) more) ys
      → AreDeedsDue decl (account_is ds) (x ∷ (more ++ ys)))
      → AreDeedsDue decl (account_is ((ds ++ x ∷ []) ++ more)) ys → AreDue (((ds ++ x ∷ []) ++ more) ++ ys)
  event_due ds r x more ys follows dues behind =
      subst AreDue (sym (ap (λ (v : List Deed). v ++ ys) (append_assoc ds (x ∷ []) more)
      ∙ append_assoc ds (x ∷ more) ys))
      (r.due (x ∷ (more ++ ys)) follows (dues
      (subst (λ (d : Account). AreDeedsDue decl d ys)
      (account_more (ds ++ x ∷ []) more ∙ ap (λ (d : Account). fold (account_at decl) d more)
      (account_more ds (x ∷ []))) behind)))

  -- the turn that is lawful

  same_some : (x y : Turn) → Some x ≡ Some y → x ≡ y
  same_some x y is = let same : x ≡ y = cc in same

  pub turn_is : is_client decl a ≡ true → (ds : List Deed) (turn : Turn) → IsLawfulWithFalls decl a ds turn
      → (actor_after decl a ds).turn ≡ with_record turn
  turn_is client ds turn law = by (is_site decl a) (is_client decl a) client law.called_for
    where
      by : (s c : Bool) → c ≡ true → cond s (Some (actor_after decl a ds).turn)
          (cond c (Some (actor_after decl a ds).turn)
          (cond (is_administrator decl a) (Some (actor_after decl a ds).turn) None)) ≡ Some (with_record turn)
          → (actor_after decl a ds).turn ≡ with_record turn
      by true c is e = same_some (actor_after decl a ds).turn (with_record turn) e
      by false true is e = same_some (actor_after decl a ds).turn (with_record turn) e
      by false false is e = absurd (let never : ⊥ = cc in never)
