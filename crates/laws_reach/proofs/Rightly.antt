-- Over all of a client's deeds, through its falls and rises, each is right for each transaction, where its questions
-- are of begun ones; and a transaction is committed just where its journal has its record.
use Rattle.std.proofs.Common.{◌≡◌, ◌≢◌, ℕ, ◌-◌, Bool, true, false, List, [], ◌∷◌, ◌++◌, None, refl, sym, ap, ◌∙◌, subst}
use Rattle.std.specs.List.{AllByRecursion as Every}
use Rattle.std.proofs.lemmas.List.Sums.{fold-append}
use Rattle.qc_core.specs.Vocabulary.{AreGivenBack, Lives, actor_after, journal_after, journal_at}
use Rattle.qc_client.specs.Vocabulary.{client_takes}
use Rattle.qc_decl.specs.Vocabulary.{is_client}
use Rattle.qc_decl.specs.declared.declaration.Declaration.{Declaration}
use Rattle.qc_msg.specs.declared.step.Input.{Input}
use Rattle.qc_msg.specs.declared.step.Input.TheVariants as inputs
use Rattle.qc_msg.specs.declared.step.Fall.TheVariants as causes
use Rattle.qc_msg.specs.declared.reply.Reply.TheVariants as replies
use Rattle.qc_msg.specs.Vocabulary.{Deed, Falls, Rises, Takes, Tells, deeds_as, first_epoch}
use Rattle.qc_promise.specs.Vocabulary.{AreRight, Committed, Journal, Unborn, no_journal, status, status_at}
use Rattle.laws_turns.proofs.KnownDeeds.{IsKnown, KnownFrom, known-first, known-second, right-append}
use Rattle.qc_recover.specs.Vocabulary.{rising}
use Rattle.laws_turns.proofs.StatusInputs.{page_of}
use Rattle.qc_list.proofs.Members.{every-In}
use Rattle.qc_msg.specs.declared.record.Record.TheVariants as records
use Rattle.qc_stamp.specs.declared.stamp.Stamp.{Stamp}
use Rattle.qc_stamp.specs.declared.stamp.TxId.{TxId}
use Rattle.qc_stamp.specs.Vocabulary.{same_tx}
use Rattle.qc_stamp.proofs.Orders.{same_tx_itself}
use Rattle.laws_due.proofs.Lifelong.{client_lives}
use Rattle.laws_due.proofs.Standing.{IsAt, IsAtRest, Stands}
use Rattle.laws_due.specs.Vocabulary.{IsDeclaredDeed, IsPlanned}
use Rattle.laws_reach.specs.Vocabulary.{IsRecorded}
use Rattle.laws_reach.proofs.Courses.{IsNow, Lasts, course}
use Rattle.laws_reach.proofs.VerdictsFalling.{called_rests, crashed_rests, down_here, new_rests, risen_rests}
use Rattle.laws_reach.proofs.VerdictsFalling.{turn_rests, unopened_rests}
use Rattle.qc_core.proofs.KeptBack.{back_first}
use Rattle.laws_reach.proofs.VerdictsLifelong.{Rests, up_here}
use Rattle.laws_reach.proofs.Rises.{IsShown, all_right}
use Rattle.laws_reach.proofs.StatusFalls.{Down, up_down}

module _ (decl : Declaration) (a : ℕ) (client : is_client decl a ≡ true) (tx : TxId) where
  -- it stands so where each rise gives back its journal and its questions are of begun transactions
  abbrev Keeps : List Deed → Type 0
  Keeps ds = AreGivenBack no_journal ds → KnownFrom tx Unborn ds → Rests decl a client tx ds

  module _ (ds more : List Deed) (back : AreGivenBack no_journal (ds ++ more))
      (known : KnownFrom tx Unborn (ds ++ more)) (rest : Keeps ds) where
    before : Rests decl a client tx ds
    before = rest (back_first no_journal ds more back) (known-first tx Unborn ds more known)

  -- what comes behind an input or a rise is left out
  module _ (ds : List Deed) (d : Deed) (more : List Deed) (back : AreGivenBack no_journal ((ds ++ d ∷ []) ++ more))
      (known : KnownFrom tx Unborn ((ds ++ d ∷ []) ++ more)) (rest : Keeps ds) where
    first_back : AreGivenBack no_journal (ds ++ d ∷ [])
    first_back = back_first no_journal (ds ++ d ∷ []) more back

    first_known : KnownFrom tx Unborn (ds ++ d ∷ [])
    first_known = known-first tx Unborn (ds ++ d ∷ []) more known

    earlier : Rests decl a client tx ds
    earlier = before ds (d ∷ []) first_back first_known rest

  input_known : (ds : List Deed) (g : Input) → KnownFrom tx Unborn (ds ++ Takes g ∷ []) → IsKnown tx (status ds tx) g
  input_known ds g known = (known-second tx Unborn ds (Takes g ∷ []) known).0

  lasting : Lasts decl a Keeps
  lasting = record {
    new = λ back known. new_rests decl a client tx;
    turn = λ ds r same t g end first ends rest back known. (
        let more : List Deed = deeds_as end first (client_takes decl t.state g).turn in
        turn_rests decl a client tx ds (earlier ds (Takes g) more back known rest) r same t g
        (input_known ds g (first_known ds (Takes g) more back known rest)) end first ends);
    called = λ ds down command rest back known.
        called_rests decl a client tx ds (earlier ds (Takes (inputs.Called command))
        (Tells replies.Down ∷ []) back known rest) down command;
    crashed = λ ds r same t rest back known. crashed_rests decl a client tx ds
        (before ds (Falls causes.Script None ∷ []) back known rest) r same t;
    risen = λ ds down kept end first rest back known. (
        let more : List Deed = deeds_as end first (rising []) in
        risen_rests decl a client tx ds (earlier ds (Rises kept) more back known rest) down kept
        (first_back ds (Rises kept) more back known rest) end first);
    unopened = λ ds down cause rest back known. unopened_rests decl a client tx ds
        (before ds (Falls cause None ∷ []) back known rest) down cause;
  }

  -- so it is right, and committed just where its journal has its record

  pub record Shows (ds : List Deed) : Type 0 where
    pub right : AreRight tx ds
    pub recorded : (stamp : Stamp) → status ds tx ≡ Committed stamp → IsRecorded tx stamp (journal_after ds).records
    pub told : (stamp : Stamp) → IsRecorded tx stamp (journal_after ds).records → status ds tx ≡ Committed stamp
    pub own : status ds tx ≢ Unborn → tx.client ≡ a - decl.sites

  -- what a client that is up shows, it shows once it is down too
  fallen_so : (ds : List Deed) → IsAtRest decl a ds → (rs : Rests decl a client tx ds)
      → Down tx (status ds tx) (record (journal_after ds) { pending = None }) (a - decl.sites)
  fallen_so ds r rs = by r.up refl r.stands
    where
      by : (up : Bool) → r.up ≡ up → Stands decl a up ds
          → Down tx (status ds tx) (record (journal_after ds) { pending = None }) (a - decl.sites)
      by true same t =
          up_down tx (status ds tx) (journal_after ds) (a - decl.sites) (page_of t.state) None
          (up_here decl a client tx rs.up (status ds tx) (journal_after ds)
          (actor_after decl a ds).actor t.state rs.here (sym rs.is ∙ r.is ∙ same) t.actor) tt
      by false same f =
          let d : Down tx (status ds tx) (journal_after ds) (a - decl.sites) =
          down_here decl a client tx rs.up (status ds tx) (journal_after ds) (actor_after decl a ds).actor rs.here
          (sym rs.is ∙ r.is ∙ same) in
          record { listed = d.listed; pending = tt; later = d.later; mine = d.mine }

  at_rest : (ds : List Deed) → IsAtRest decl a ds → AreGivenBack no_journal ds → KnownFrom tx Unborn ds → Keeps ds
      → Shows ds
  at_rest ds r back known rest =
      let rs : Rests decl a client tx ds = rest back known in
      let d : Down tx (status ds tx) (record (journal_after ds) { pending = None }) (a - decl.sites) =
      fallen_so ds r rs in
      let all : AreRight tx ds × Every (IsShown tx (status ds tx)) (journal_after ds).records =
      all_right tx Unborn no_journal ds tt back rs.but in
      record {
        right = all.0;
        recorded = d.listed;
        told = λ stamp l. (let is : status ds tx ≡ Committed l.commit.stamp =
            every-In (IsShown tx (status ds tx)) (records.Commit l.commit) (journal_after ds).records all.1 l.listed
            (subst (λ (t : TxId). same_tx l.commit.tx t ≡ true) l.named (same_tx_itself l.commit.tx)) in
            is ∙ ap (λ (x : Stamp). Committed x) l.stamped);
        own = d.mine;
      }

  -- an input changes nothing of that
  at_input : (ds : List Deed) (g : Input) → Shows ds → Shows (ds ++ Takes g ∷ [])
  at_input ds g w =
      let same : status (ds ++ Takes g ∷ []) tx ≡ status ds tx = fold-append (status_at tx) Unborn ds (Takes g ∷ []) in
      let kept : journal_after (ds ++ Takes g ∷ []) ≡ journal_after ds =
      fold-append journal_at no_journal ds (Takes g ∷ []) in
      record {
        right = right-append tx Unborn ds (Takes g ∷ []) w.right (tt, tt);
        recorded = λ stamp is. subst (λ (j : Journal). IsRecorded tx stamp j.records) (sym kept)
            (w.recorded stamp (sym same ∙ is));
        told = λ stamp l. same ∙ w.told stamp (subst (λ (j : Journal). IsRecorded tx stamp j.records) kept l);
        own = λ born. w.own (λ is. born (same ∙ is));
      }

  pub course_shows : IsPlanned decl first_epoch → (ds : List Deed) (b : Bool) (n : ℕ) → Lives decl a ds b n
      → Every (IsDeclaredDeed decl) ds → AreGivenBack no_journal ds → KnownFrom tx Unborn ds → Shows ds
  course_shows planned ds b n life all back known =
      by b (client_lives decl a client planned ds b n life all)
      (course decl a client planned Keeps lasting ds b n life all)
    where
      by : (x : Bool) → IsAt decl a ds x → IsNow decl a client planned Keeps lasting ds x → Shows ds
      by true there at =
          let its_back : AreGivenBack no_journal (at.before ++ Takes at.given ∷ []) =
          subst (AreGivenBack no_journal) at.is back in
          let its_known : KnownFrom tx Unborn (at.before ++ Takes at.given ∷ []) =
          subst (KnownFrom tx Unborn) at.is known in
          subst Shows (sym at.is) (at_input at.before at.given
          (at_rest at.before at.there (back_first no_journal at.before (Takes at.given ∷ []) its_back)
          (known-first tx Unborn at.before (Takes at.given ∷ []) its_known) at.rest))
      by false there rest = at_rest ds there back known rest
