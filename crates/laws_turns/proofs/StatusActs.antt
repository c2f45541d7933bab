-- Over all that a client does by turns, each deed is right for each transaction.
use Rattle.std.proofs.Common.{[], ◌≡◌, ℕ, ◌-◌, Bool, true, false, List, ◌∷◌, ◌++◌, fold, Option, Some, None, refl}
use Rattle.std.proofs.Common.{sym, ap, ◌∙◌, subst}
use Rattle.std.specs.List.{AllByRecursion as Every}
use Rattle.std.proofs.lemmas.List.Sums.{fold-append}
use Rattle.qc_stamp.specs.declared.stamp.TxId.{TxId}
use Rattle.qc_decl.specs.Vocabulary.{IsAccepted, is_client, is_site}
use Rattle.qc_decl.specs.declared.declaration.Declaration.{Declaration}
use Rattle.qc_msg.specs.declared.message.Message.{Message}
use Rattle.qc_msg.specs.declared.turn.Turn.{Turn}
use Rattle.qc_msg.specs.Vocabulary.{Deed, Falls, Rises, Sends, Takes, Tells, Writes, quiet, turn_deeds}
use Rattle.qc_commit.specs.declared.desk.Voting.{Voting}
use Rattle.qc_commit.specs.Conduct as desks
use Rattle.qc_client.specs.declared.client.Client.{Client}
use Rattle.qc_client.specs.Vocabulary.{ClientMove, client_after, client_does, client_takes, moved, new_client}
use Rattle.qc_client.specs.Vocabulary.{sent_one}
use Rattle.qc_core.specs.Vocabulary.{Acts, posts, starts, takes}
use Rattle.laws_turns.specs.Vocabulary.{written_in}
use Rattle.qc_promise.specs.Vocabulary.{AreRight, AreRightFrom, Status, Unborn, status, status_at}
use Rattle.laws_turns.proofs.Bounding.{lawful_turn, turn-posts}
use Rattle.laws_turns.proofs.ClientsWithin.{IsPost}
use Rattle.laws_turns.proofs.InRuns.{IsResting, KeptBy, deals_acts}
use Rattle.laws_turns.proofs.WrittenDeeds.{written-more}
use Rattle.laws_turns.proofs.TurnsGoOn.{TurnRight}
use Rattle.laws_turns.proofs.Statuses.{IsStatus, Page, new_status}
use Rattle.laws_turns.proofs.KnownDeeds.{IsKnown, KnownFrom, known-first, known-second, right-append}
use Rattle.laws_turns.proofs.StatusInputs.{page_of, input_right}
use Rattle.laws_turns.proofs.ClientCases.{sent_cases}

-- the numbers of messages change nothing of it

pub page_one : (c : Client) (number to : ℕ) (message : Message) → page_of (sent_one c number to message) ≡ page_of c
page_one c number to message =
    sent_cases c number to (λ (d : Client). page_of d ≡ page_of c) refl (by c.desk.voting) refl message
  where
    by : (o : Option Voting) → page_of (record c { desk = desks.prepared_in c.desk o number to }) ≡ page_of c
    by None = refl
    by (Some v) = refl

pub page_posts : (decl : Declaration) (m : ClientMove) (ds : List Deed) → Every IsPost ds
    → page_of (fold (client_does decl) m ds).client ≡ page_of m.client
page_posts decl m [] all = refl
page_posts decl m (Takes g ∷ ds) all = absurd all.0
page_posts decl m (Writes written ∷ ds) all = page_posts decl m ds all.1
page_posts decl m (Sends number to message ∷ ds) all =
    page_posts decl (record m { client = sent_one m.client number to message }) ds all.1
    ∙ page_one m.client number to message
page_posts decl m (Tells reply ∷ ds) all = page_posts decl m ds all.1
page_posts decl m (Falls cause pending ∷ ds) all = page_posts decl m ds all.1
page_posts decl m (Rises records ∷ ds) all = page_posts decl m ds all.1

-- over all that a client does by turns

module _ (decl : Declaration) (accepted : IsAccepted decl) (a : ℕ) (no_site : is_site decl a ≡ false)
    (named : is_client decl a ≡ true) (tx : TxId) where
  pub record Rests (ds : List Deed) : Type 0 where
    pub right : AreRight tx ds
    pub status : IsStatus tx (status ds tx) (page_of (client_after decl (a - decl.sites) ds).client)

  -- the status is that of the records written
  pub record HasPage (ds : List Deed) : Type 0 where
    pub page : Page
    pub is : IsStatus tx (status ds tx) page
    pub commits : page.commits ≡ written_in ds
    pub client : page.client ≡ a - decl.sites

  pub record Turns (ds : List Deed) : Type 0 where
    pub right : AreRight tx ds
    pub page : HasPage ds
    pub turn : TurnRight tx (status ds tx) (client_after decl (a - decl.sites) ds).turn
        (page_of (client_after decl (a - decl.sites) ds).client)

  abbrev pub StatusBy : List Deed → Bool → Type 0
  StatusBy ds true = Turns ds
  StatusBy ds false = Rests ds

  pub status_acts : (ds : List Deed) (b : Bool) (n : ℕ) → Acts decl a ds b n → KnownFrom tx Unborn ds → StatusBy ds b
  status_acts ds b n starts known = record { right = tt; status = new_status tx (a - decl.sites) _ }
  status_acts ds b n (takes before g m done may) known =
      let old : Rests before = status_acts before false m done (known-first tx Unborn before (Takes g ∷ []) known) in
      let kept : IsResting decl accepted a no_site named tx before =
      deals_acts decl accepted a no_site named tx before false m done in
      let same : status (before ++ Takes g ∷ []) tx ≡ status before tx =
      fold-append (status_at tx) Unborn before (Takes g ∷ []) in
      let move : client_after decl (a - decl.sites) (before ++ Takes g ∷ [])
      ≡ client_takes decl (client_after decl (a - decl.sites) before).client g =
      fold-append (client_does decl) (moved (new_client (a - decl.sites)) quiet) before (Takes g ∷ []) in
      let here : IsKnown tx (status before tx) g = (known-second tx Unborn before (Takes g ∷ []) known).0 in
      record {
        right = right-append tx Unborn before (Takes g ∷ []) old.right (tt, tt);
        page = record {
          page = page_of (client_after decl (a - decl.sites) before).client;
          is =
              subst (λ (s : Status). IsStatus tx s (page_of (client_after decl (a - decl.sites) before).client))
              (sym same) old.status;
          commits = kept.written ∙ sym (written-more before g);
          client = kept.keeps.own;
        };
        turn =
            subst (λ (s : Status). TurnRight tx s (client_after decl (a - decl.sites) (before ++ Takes g ∷ [])).turn
            (page_of (client_after decl (a - decl.sites) (before ++ Takes g ∷ [])).client)) (sym same)
            (subst (λ (x : ClientMove). TurnRight tx (status before tx) x.turn (page_of x.client)) (sym move)
            (input_right decl tx (status before tx) (client_after decl (a - decl.sites) before).client old.status
            kept.keeps.hand g here));
      }
  status_acts ds b n (posts before turn m first done above lawful) known =
      let old : Turns before =
      status_acts before true m done (known-first tx Unborn before (turn_deeds first turn) known) in
      let its : (client_after decl (a - decl.sites) before).turn ≡ turn =
      sym (lawful_turn (λ (t : Turn). t ≡ (client_after decl (a - decl.sites) before).turn) decl a before turn
      lawful (λ is. absurd (let no : ⊥ = cc in no)) (λ is named. refl)) in
      let same : status (before ++ turn_deeds first turn) tx
      ≡ fold (status_at tx) (status before tx) (turn_deeds first turn) =
      fold-append (status_at tx) Unborn before (turn_deeds first turn) in
      let page : page_of (client_after decl (a - decl.sites) (before ++ turn_deeds first turn)).client
      ≡ page_of (client_after decl (a - decl.sites) before).client =
      ap (λ (x : ClientMove). page_of x.client)
      (fold-append (client_does decl) (moved (new_client (a - decl.sites)) quiet) before (turn_deeds first turn))
      ∙ page_posts decl (client_after decl (a - decl.sites) before) (turn_deeds first turn) (turn-posts first turn) in
      record {
        right =
            right-append tx Unborn before (turn_deeds first turn) old.right
            (subst (λ (t : Turn). AreRightFrom tx (status before tx) (turn_deeds first t)) its (old.turn.right first));
        status = subst (λ (p : Page). IsStatus tx (status (before ++ turn_deeds first turn) tx) p) (sym page)
            (subst (λ (s : Status). IsStatus tx s (page_of (client_after decl (a - decl.sites) before).client))
            (sym same)
            (subst (λ (t : Turn). IsStatus tx (fold (status_at tx) (status before tx) (turn_deeds first t))
            (page_of (client_after decl (a - decl.sites) before).client)) its (old.turn.status first)));
      }

  pub pages : (ds : List Deed) (b : Bool) (n : ℕ) → Acts decl a ds b n → KnownFrom tx Unborn ds → HasPage ds
  pages ds b n done known =
      by b (status_acts ds b n done known) (deals_acts decl accepted a no_site named tx ds b n done) where
        by : (b : Bool) → StatusBy ds b → KeptBy decl accepted a no_site named tx ds b → HasPage ds
        by true turns taken = turns.page
        by false rests resting =
            record {
              page = page_of (client_after decl (a - decl.sites) ds).client;
              is = rests.status;
              commits = resting.written;
              client = resting.keeps.own;
            }

  pub rights : (ds : List Deed) (b : Bool) (n : ℕ) → Acts decl a ds b n → KnownFrom tx Unborn ds → AreRight tx ds
  rights ds b n done known = by b (status_acts ds b n done known) where
    by : (b : Bool) → StatusBy ds b → AreRight tx ds
    by true turns = turns.right
    by false rests = rests.right
