-- Where a client stands without an open input, as its transactions' statuses say, and over a turn whose record is
-- written.
use Rattle.std.proofs.Common.{◌≡◌, ℕ, ◌-◌, Bool, true, false, List, ◌∷◌, ◌++◌, fold, Option, sym, ap, ◌∙◌, subst}
use Rattle.std.proofs.lemmas.List.Sums.{fold-append}
use Rattle.qc_core.specs.declared.actor.Actor.{Actor}
use Rattle.qc_core.specs.declared.actor.Actor.TheVariants as actors
use Rattle.qc_core.specs.Vocabulary.{ActorMove, actor_after, actor_does, actor_takes, is_up, journal_after, journal_at}
use Rattle.qc_core.proofs.Steady.{turn_steady}
use Rattle.qc_client.specs.declared.client.Client.{Client}
use Rattle.qc_client.specs.Vocabulary.{client_does, client_takes}
use Rattle.qc_commit.specs.declared.desk.Desk.{Desk}
use Rattle.qc_commit.specs.declared.desk.Voting.{Voting}
use Rattle.qc_front.specs.declared.front.Front.{Front}
use Rattle.laws_turns.specs.Vocabulary.{begun_in}
use Rattle.qc_decl.specs.Vocabulary.{is_client}
use Rattle.qc_decl.specs.declared.declaration.Declaration.{Declaration}
use Rattle.qc_msg.specs.declared.step.Input.{Input}
use Rattle.qc_msg.specs.Vocabulary.{Deed, Takes, turn_deeds}
use Rattle.qc_promise.specs.Vocabulary.{Account, Journal, Status, Unborn, no_journal, status, status_at}
use Rattle.laws_turns.proofs.Bounding.{turn-posts}
use Rattle.laws_turns.proofs.DealtCommands.{IsInHand}
use Rattle.laws_turns.proofs.KnownDeeds.{IsKnown}
use Rattle.laws_turns.proofs.TurnsGoOn.{TurnRight}
use Rattle.laws_turns.proofs.StatusInputs.{input_right, page_of}
use Rattle.laws_turns.proofs.Statuses.{Page}
use Rattle.laws_due.specs.Vocabulary.{Ties, appends, reads, rests, votes}
use Rattle.laws_due.proofs.Standing.{IsAtRest, IsTied, actor_more, up_more}
use Rattle.qc_stamp.specs.declared.stamp.TxId.{TxId}
use Rattle.laws_reach.specs.Vocabulary.{AreRightButWritten}
use Rattle.laws_reach.proofs.Changes.{input_changes}
use Rattle.laws_reach.proofs.VerdictsPosting.{but_append, but_steady, posts_up}
use Rattle.laws_reach.proofs.StatusFalls.{Down, Up}
use Rattle.qc_core.proofs.ActorLaws.{clients}
use Rattle.qc_core.proofs.LivesOfActors.{steady_from}
use Rattle.laws_turns.proofs.StatusActs.{page_posts}

-- a tied client votes on its begun transaction alone
pub in_hand : (decl : Declaration) (d : Account) (c : Client) → Ties decl d c
    → IsInHand c.desk.voting c.front.transaction
in_hand decl d c (rests t) = subst (λ (o : Option Voting). IsInHand o c.front.transaction) (sym t.desk.voting) tt
in_hand decl d c (reads t) = subst (λ (o : Option Voting). IsInHand o c.front.transaction) (sym t.desk.voting) tt
in_hand decl d c (appends t) = subst (λ (o : Option Voting). IsInHand o c.front.transaction) (sym t.desk.voting) tt
in_hand decl d c (votes t) = subst (λ (o : Option Voting). IsInHand o c.front.transaction)
    (sym (ap (λ (x : Desk). x.voting) t.desk)) (ap (λ (f : Front). begun_in f.transaction) t.front)

pub same_client : (x y : Client) → actors.Client x ≡ actors.Client y → x ≡ y
same_client x y is = let same : x ≡ y = cc in same

module _ (decl : Declaration) (a : ℕ) (client : is_client decl a ≡ true) (tx : TxId) where
  abbrev pub HereWith : Bool → Status → Journal → Actor → Type 0
  HereWith true s j x = (c : Client) → x ≡ actors.Client c → Up tx s j (a - decl.sites) (page_of c)
  HereWith false s j x = Down tx s j (a - decl.sites)

  pub record Rests (ds : List Deed) : Type 0 where
    pub up : Bool
    pub is : is_up ds ≡ up
    pub but : AreRightButWritten tx Unborn no_journal ds
    pub here : HereWith up (status ds tx) (journal_after ds) (actor_after decl a ds).actor

  status_more : (ds more : List Deed) → status (ds ++ more) tx ≡ fold (status_at tx) (status ds tx) more
  status_more ds more = fold-append (status_at tx) Unborn ds more

  journal_more : (ds more : List Deed) → journal_after (ds ++ more) ≡ fold journal_at (journal_after ds) more
  journal_more ds more = fold-append journal_at no_journal ds more

  pub rests_more : (ds more : List Deed) (up : Bool) → Rests ds
      → AreRightButWritten tx (status ds tx) (journal_after ds) more → is_up (ds ++ more) ≡ up
      → HereWith up (fold (status_at tx) (status ds tx) more) (fold journal_at (journal_after ds) more)
      (actor_after decl a (ds ++ more)).actor → Rests (ds ++ more)
  rests_more ds more up r but is here = record {
    up = up;
    is = is;
    but = but_append tx Unborn no_journal ds more r.but but;
    here = subst (λ (s : Status). HereWith up s (journal_after (ds ++ more)) (actor_after decl a (ds ++ more)).actor)
        (sym (status_more ds more))
        (subst (λ (j : Journal). HereWith up (fold (status_at tx) (status ds tx) more) j
        (actor_after decl a (ds ++ more)).actor) (sym (journal_more ds more)) here);
  }

  -- a turn for an input, its record written

  pub up_here : (b : Bool) (s : Status) (j : Journal) (x : Actor) (c : Client) → HereWith b s j x → b ≡ true
      → x ≡ actors.Client c → Up tx s j (a - decl.sites) (page_of c)
  up_here true s j x c here same is = here c is
  up_here false s j x c here same is = absurd (let never : ⊥ = cc in never)

  pub posted_rests : (ds : List Deed) → Rests ds → (r : IsAtRest decl a ds) → r.up ≡ true
      → (t : IsTied decl a ds) (g : Input) → IsKnown tx (status ds tx) g → (first : ℕ)
      → Rests (ds ++ Takes g ∷ turn_deeds first (client_takes decl t.state g).turn)
  posted_rests ds rs r same t g known first =
      let u : Up tx (status ds tx) (journal_after ds) (a - decl.sites) (page_of t.state) =
      up_here rs.up (status ds tx) (journal_after ds) (actor_after decl a ds).actor t.state rs.here
      (sym rs.is ∙ r.is ∙ same) t.actor in
      let w : TurnRight tx (status ds tx) (client_takes decl t.state g).turn
      (page_of (client_takes decl t.state g).client) =
      input_right decl tx (status ds tx) t.state u.status (in_hand decl _ t.state t.ties) g known in
      rests_more ds (Takes g ∷ turn_deeds first (client_takes decl t.state g).turn) true rs (
        tt,
        but_steady tx (status ds tx) (journal_after ds) (turn_deeds first (client_takes decl t.state g).turn)
            (turn_steady first (client_takes decl t.state g).turn) (w.right first),
      )
      (up_more decl a ds (Takes g ∷ turn_deeds first (client_takes decl t.state g).turn)
      ∙ steady_from (is_up ds) (turn_deeds first (client_takes decl t.state g).turn)
      (turn_steady first (client_takes decl t.state g).turn) ∙ r.is ∙ same)
      (λ c is. subst (λ (p : Page). Up tx (fold (status_at tx) (status ds tx)
      (turn_deeds first (client_takes decl t.state g).turn))
      (fold journal_at (journal_after ds) (turn_deeds first (client_takes decl t.state g).turn)) (a - decl.sites) p)
      (sym (page_posts decl (client_takes decl t.state g) (turn_deeds first (client_takes decl t.state g).turn)
      (turn-posts first (client_takes decl t.state g).turn))
      ∙ ap page_of (same_client (fold (client_does decl) (client_takes decl t.state g)
      (turn_deeds first (client_takes decl t.state g).turn)).client c
      (sym (ap (λ (m : ActorMove). m.actor) (actor_more decl a ds
      (Takes g ∷ turn_deeds first (client_takes decl t.state g).turn)
      ∙ ap (λ (v : Actor). fold (actor_does decl a) (actor_takes decl v g)
      (turn_deeds first (client_takes decl t.state g).turn)) t.actor
      ∙ clients decl a (client_takes decl t.state g) (turn_deeds first (client_takes decl t.state g).turn)
      (turn_steady first (client_takes decl t.state g).turn))) ∙ is)))
      (posts_up tx (status ds tx) (journal_after ds) (a - decl.sites) (page_of t.state)
      (page_of (client_takes decl t.state g).client) (client_takes decl t.state g).turn first u
      (input_changes decl t.state g) w))
