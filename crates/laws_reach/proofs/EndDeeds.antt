-- Over all of a client's deeds: how its transactions ended agrees with the records of its journal.
use Rattle.std.proofs.Common.{◌≡◌, ◌⊎◌, inl, inr, ℕ, Bool, true, false, fold, List, [], ◌∷◌, ◌++◌, Option, Some, None}
use Rattle.std.proofs.Common.{is_some, option_to_list, refl, sym, ap, ◌∙◌, subst}
use Rattle.qc_list.specs.Vocabulary.{In}
use Rattle.qc_list.proofs.Members.{In-first, In-last}
use Rattle.qc_decl.specs.declared.declaration.Declaration.{Declaration}
use Rattle.qc_entry.specs.declared.record.Commit.{Commit as CommitRecord}
use Rattle.qc_core.specs.Vocabulary.{AreGivenBack, IsGivenBackAt, journal_after, journal_at}
use Rattle.qc_msg.specs.declared.record.Record.{Record}
use Rattle.qc_msg.specs.declared.record.Record.TheVariants.{Life, Commit}
use Rattle.qc_msg.specs.declared.reply.Reply.{Reply}
use Rattle.qc_msg.specs.declared.reply.Reply.TheVariants as replies
use Rattle.qc_msg.specs.declared.step.Fall.{Fall}
use Rattle.qc_msg.specs.declared.step.Input.{Input}
use Rattle.qc_msg.specs.declared.step.Input.TheVariants as inputs
use Rattle.qc_msg.specs.Vocabulary.{Deed, Falls, Rises, Sends, Takes, Tells, Writes, is_life}
use Rattle.qc_stamp.specs.Vocabulary.{first_life}
use Rattle.qc_stamp.specs.declared.stamp.Stamp.{Stamp}
use Rattle.qc_promise.specs.Vocabulary.{Account, AreByTurns, AreDeedsDue, AreRepliesDue, Dealing, Idle, IsDeedDue}
use Rattle.qc_promise.specs.Vocabulary.{IsGivenBack, IsRecordDue, Journal, Place, account_at, deal, dealing_in, due}
use Rattle.qc_promise.specs.Vocabulary.{goes, goes_on, life_with, new_account, no_dealing, no_journal, pending_next}
use Rattle.qc_promise.specs.Vocabulary.{saying_of}
use Rattle.laws_reach.specs.Vocabulary.{AreCommitsTold, HasRecord, IsDeedTold, IsToldOf, TellsNext}
use Rattle.laws_reach.proofs.EndTies.{AwaitsReply, IsOver, closed_life, closed_off, closed_rise, ended_as}
use Rattle.laws_reach.proofs.EndTies.{goes_on as moves_on}
use Rattle.laws_reach.proofs.EndReplies.{Ending, ends_on, recorded_begun}
use Rattle.laws_reach.proofs.Gists.{counted_same, finished, gist, heard_same, sent_same, with_call}
use Rattle.laws_reach.proofs.Bases.{none_some}
use Rattle.laws_reach.proofs.DealingsTurning.{CameTo, FellTo, RoseTo, ToldTo, WroteTo, comes, falls, is_failing, is_off}
use Rattle.laws_reach.proofs.DealingsTurning.{rises, sends, tells, writes}
use Rattle.laws_reach.proofs.CarriedRecords.{Known, Ongoing, commit_or, known_still, written_known}
use Rattle.laws_reach.proofs.Carrying.{fallen_known, lives_up, risen_known}
use Rattle.laws_reach.proofs.Deeds.{new, one, stuck}
use Rattle.laws_reach.proofs.Owners.{same_client}
use Rattle.laws_reach.proofs.RecordCases.{due_cases}

module _ (decl : Declaration) (c : CommitRecord) where
  -- an input

  takes_end : (p q : Place) (d : Account) (x : Dealing) (j : Journal) (g : Input) (after : List Deed)
      → (is_off q ≡ is_off p) × (is_failing q ≡ false)
      → Ending decl c p d x j (Takes g ∷ after)
      → Ending decl c q (account_at decl d (Takes g)) (deal c.tx x (Takes g)) j after
  takes_end p q d x j (inputs.Called command) after place s =
      moves_on c (is_off p) (is_off q) (gist d) (with_call (gist d) command) x
      (record x { asked = Some command }) j.records j.records
      (Known decl c p j (Takes (inputs.Called command) ∷ after)) (Known decl c q j after) ⊥ (TellsNext after)
      refl (λ w. w.next) (λ l. inl (known_still decl c p q j (Takes (inputs.Called command) ∷ after) after place.1 l))
      (λ z. (let k : IsOver c (is_off q) (gist d) = closed_off c (is_off p) (is_off q) (gist d) (inl place.0) z in
      record { past = k.past; gone = k.gone }))
      (λ e is. absurd (none_some e None refl is)) (λ e among. among) s
  takes_end p q d x j (inputs.Got envelope) after place s =
      ended_as c (is_off p) (is_off q) (gist d) (gist (account_at decl d (Takes (inputs.Got envelope)))) x j.records
      (Known decl c p j (Takes (inputs.Got envelope) ∷ after)) (Known decl c q j after) ⊥ (TellsNext after)
      place.0 (heard_same d envelope.message) (known_still decl c p q j
      (Takes (inputs.Got envelope) ∷ after) after place.1) (λ never. absurd never) s
  takes_end p q d x j (inputs.Lost number) after place s =
      ended_as c (is_off p) (is_off q) (gist d) (gist (account_at decl d (Takes (inputs.Lost number)))) x j.records
      (Known decl c p j (Takes (inputs.Lost number) ∷ after)) (Known decl c q j after) ⊥ (TellsNext after)
      place.0 (counted_same d number None) (known_still decl c p q j (Takes (inputs.Lost number) ∷ after) after place.1)
      (λ never. absurd never) s

  -- a record

  life_ends : (p q : Place) (d : Account) (x : Dealing) (j : Journal) (after : List Deed)
      → (is_off q ≡ false) × ((is_failing q ≡ false) × (is_off p ≡ true))
      → Ending decl c p d x j (Writes Life ∷ after)
      → Ending decl c q (account_at decl d (Writes Life)) x (journal_at j (Writes Life)) after
  life_ends p q d x j after place s =
      moves_on c (is_off p) (is_off q) (gist d) (gist (account_at decl d (Writes Life))) x x j.records
      (journal_at j (Writes Life)).records (Known decl c p j (Writes Life ∷ after))
      (Known decl c q (journal_at j (Writes Life)) after) ⊥ (TellsNext after)
      refl (λ w. w.next) (λ l. inl (old (written_known decl c p q j Life (Writes Life ∷ after) after place.1.0 l)))
      (λ z. subst (λ (b : Bool). IsOver c b (gist (account_at decl d (Writes Life)))) (sym place.0)
      (closed_life c (gist d) (subst (λ (b : Bool). IsOver c b (gist d)) place.1.1 z)))
      (λ e is. In-first (Commit e) j.records (Life ∷ []) (s.written e is))
      (λ e among. In-first (Commit e) j.records (Life ∷ []) among) s
    where
      old : Known decl c p j (Writes Life ∷ after) ⊎ (Commit c ≡ Life) → Known decl c p j (Writes Life ∷ after)
      old (inl k) = k
      old (inr is) = absurd (let never : ⊥ = cc in never)

  abbrev record_in : Option CommitRecord → Record
  record_in None = Life
  record_in (Some e) = Commit e

  commit_ends : (p q : Place) (d : Account) (x : Dealing) (j : Journal) (commit : CommitRecord) (after : List Deed)
      → (is_off q ≡ false) × ((is_failing q ≡ false) × (is_off p ≡ false))
      → IsRecordDue d (due decl d false) (Commit commit) → TellsNext after
      → Ongoing decl c p d x j (Writes (Commit commit) ∷ after)
      → Ending decl c p d x j (Writes (Commit commit) ∷ after)
      → Ending decl c q (account_at decl d (Writes (Commit commit))) x (journal_at j (Writes (Commit commit))) after
  commit_ends p q d x j commit after place its next ongoing s =
      moves_on c (is_off p) (is_off q) (gist d) (gist (account_at decl d (Writes (Commit commit)))) x x j.records
      (journal_at j (Writes (Commit commit))).records (Known decl c p j (Writes (Commit commit) ∷ after))
      (Known decl c q (journal_at j (Writes (Commit commit))) after) ⊥ (TellsNext after)
      refl (λ w. w.next) (λ l. now (written_known decl c p q j (Commit commit)
      (Writes (Commit commit) ∷ after) after place.1.0 l))
      (λ z. (let k : IsOver c (is_off q) (gist d) =
      closed_off c (is_off p) (is_off q) (gist d) (inl (place.0 ∙ sym place.1.1)) z in
      record { past = k.past; gone = k.gone }))
      (λ e is. subst (λ (r : Record). In r (j.records ++ Commit commit ∷ [])) (ap record_in is)
      (In-last (Commit commit) j.records))
      (λ e among. In-first (Commit e) j.records (Commit commit ∷ []) among) s
    where
      now : Known decl c p j (Writes (Commit commit) ∷ after) ⊎ (Commit c ≡ Commit commit)
          → Known decl c p j (Writes (Commit commit) ∷ after)
          ⊎ AwaitsReply c (gist (account_at decl d (Writes (Commit commit)))) x (TellsNext after)
      now (inl old) = inl old
      now (inr new) =
          let is : commit ≡ c = sym (ap (commit_or decl c) new) in
          inr (record {
            written = ap (λ (e : CommitRecord). Some e) is;
            begun = recorded_begun decl c (is_off p) d x commit.stamp ongoing.both.base
                (its.1 ∙ ap (λ (e : CommitRecord). Some e) is);
            next = next;
          })

  writes_end : (p q : Place) (d : Account) (x : Dealing) (j : Journal) (r : Record) (after : List Deed)
      → (is_off q ≡ false) × ((is_failing q ≡ false) × (is_off p ≡ is_life r))
      → IsRecordDue d (due decl d false) r → IsDeedTold (Writes r) after → Ongoing decl c p d x j (Writes r ∷ after)
      → Ending decl c p d x j (Writes r ∷ after)
      → Ending decl c q (account_at decl d (Writes r)) x (journal_at j (Writes r)) after
  writes_end p q d x j r after place its next ongoing s =
      due_cases d (due decl d false)
      (λ (r : Record). (is_off q ≡ false) × ((is_failing q ≡ false) × (is_off p ≡ is_life r))
      → IsDeedTold (Writes r) after → Ongoing decl c p d x j (Writes r ∷ after)
      → Ending decl c p d x j (Writes r ∷ after)
      → Ending decl c q (account_at decl d (Writes r)) x (journal_at j (Writes r)) after)
      (λ place next ongoing s. life_ends p q d x j after place s)
      (λ commit its place next ongoing s. commit_ends p q d x j commit after place its next ongoing s)
      r its place next ongoing s

  -- a fall, and a rise

  fall_ends : (p q : Place) (d : Account) (x : Dealing) (j : Journal) (cause : Fall) (pending : Option Record)
      (after : List Deed) → FellTo p cause pending (Some q)
      → Ending decl c p d x j (Falls cause pending ∷ after)
      → Ending decl c q (account_at decl d (Falls cause pending)) (deal c.tx x (Falls cause pending))
      (journal_at j (Falls cause pending)) after
  fall_ends p q d x j cause pending after place s =
      moves_on c (is_off p) (is_off q) (gist d) (finished (gist d)) x (record x { begun = None }) j.records j.records
      (Known decl c p j (Falls cause pending ∷ after)) (Known decl c q (journal_at j (Falls cause pending)) after) ⊥
      (TellsNext after)
      refl (λ w. w.next) (λ l. inl (fallen_known decl c p q j cause pending after place l))
      (λ z. (let k : IsOver c (is_off q) (gist d) = closed_off c (is_off p) (is_off q) (gist d) (inr place.0) z in
      record { past = k.past; gone = λ o is named. none_some o None refl is }))
      (λ e is. absurd (none_some e None refl is)) (λ e among. among) s

  stays_in : (r : Record) (j : Journal) (kept : List Record) → IsGivenBack j kept → In r j.records → In r kept
  stays_in r j kept (inl same) among = subst (In r) (sym same) among
  stays_in r j kept (inr more) among = subst (In r) (sym more) (In-first r j.records (option_to_list j.pending) among)

  rise_ends : (p q : Place) (d : Account) (x : Dealing) (j : Journal) (kept : List Record) (after : List Deed)
      → RoseTo (is_off p) (Some q) → IsGivenBack j kept → Ongoing decl c p d x j (Rises kept ∷ after)
      → Ending decl c p d x j (Rises kept ∷ after)
      → Ending decl c q (account_at decl d (Rises kept)) x (journal_at j (Rises kept)) after
  rise_ends p q d x j kept after place back ongoing s =
      moves_on c (is_off p) (is_off q) (gist d) (gist (account_at decl d (Rises kept))) x x j.records kept
      (Known decl c p j (Rises kept ∷ after)) (Known decl c q (journal_at j (Rises kept)) after) ⊥ (TellsNext after)
      refl (λ w. w.next) (λ l. inl (risen_known decl c p q j kept after place back l))
      (λ z. subst (λ (b : Bool). IsOver c b (gist (account_at decl d (Rises kept)))) (sym place.1.0)
      (closed_rise c (gist d) (fold life_with first_life kept)
      (lives_up decl c d x p j kept (Rises kept ∷ after) back ongoing)
      (subst (λ (b : Bool). IsOver c b (gist d)) place.0 z)))
      (λ e is. absurd (none_some e None refl is)) (λ e among. stays_in (Commit e) j kept back among) s

  -- any deed

  deed_ends : (p q : Place) (d : Account) (x : Dealing) (j : Journal) (deed : Deed) (after : List Deed)
      → goes false p deed ≡ Some q → IsDeedDue decl d deed after → IsGivenBackAt j deed → IsDeedTold deed after
      → Ongoing decl c p d x j (deed ∷ after) → Ending decl c p d x j (deed ∷ after)
      → Ending decl c q (account_at decl d deed) (deal c.tx x deed) (journal_at j deed) after
  deed_ends p q d x j (Takes given) after place its back next ongoing s =
      takes_end p q d x j given after (subst (CameTo (is_off p)) place (comes p given)) s
  deed_ends p q d x j (Writes written) after place its back next ongoing s =
      writes_end p q d x j written after (subst (WroteTo (is_life written) (is_off p)) place (writes p written)) its
      next ongoing s
  deed_ends p q d x j (Sends number to message) after place its back next ongoing s =
      let at : CameTo (is_off p) (Some q) = subst (CameTo (is_off p)) place (sends p) in
      ended_as c (is_off p) (is_off q) (gist d) (gist (account_at decl d (Sends number to message))) x j.records
      (Known decl c p j (Sends number to message ∷ after)) (Known decl c q j after) (TellsNext after)
      (TellsNext after)
      at.0 (sent_same decl d number to message) (known_still decl c p q j (Sends number to message ∷ after) after at.1)
      (λ follows. follows) s
  deed_ends p q d x j (Tells reply) after place its back next ongoing s =
      let at : ToldTo (is_off p) (saying_of reply) (Some q) =
      subst (ToldTo (is_off p) (saying_of reply)) place (tells p (saying_of reply)) in
      ends_on decl c p q d x j after at.0 reply (is_some (pending_next after)) at.1 its ongoing s
  deed_ends p q d x j (Falls cause pending) after place its back next ongoing s =
      fall_ends p q d x j cause pending after (subst (FellTo p cause pending) place (falls p cause pending)) s
  deed_ends p q d x j (Rises kept) after place its back next ongoing s =
      rise_ends p q d x j kept after (subst (RoseTo (is_off p)) place (rises p)) back ongoing s

  -- all of them

  pub record EndsWell (client : ℕ) (ds : List Deed) : Type 0 where
    pub place : Place
    pub account : Account
    pub its : account.client ≡ client
    pub ongoing : Ongoing decl c place account (dealing_in ds c.tx) (journal_after ds) []
    pub ending : Ending decl c place account (dealing_in ds c.tx) (journal_after ds) []

  module _ (client : ℕ) (whole : List Deed) where
    all : (p : Place) (d : Account) (x : Dealing) (j : Journal) (ds : List Deed)
        → fold (deal c.tx) x ds ≡ dealing_in whole c.tx → fold journal_at j ds ≡ journal_after whole
        → is_some (fold (goes_on false) (Some p) ds) ≡ true
        → AreDeedsDue decl d ds → AreGivenBack j ds → AreCommitsTold ds → d.client ≡ client → Ongoing decl c p d x j ds
        → Ending decl c p d x j ds → EndsWell client whole
    all p d x j [] dealt journal turns its back told own s e = record {
      place = p;
      account = d;
      its = own;
      ongoing = subst (λ (y : Dealing). Ongoing decl c p d y (journal_after whole) []) dealt
          (subst (λ (k : Journal). Ongoing decl c p d x k []) journal s);
      ending = subst (λ (y : Dealing). Ending decl c p d y (journal_after whole) []) dealt
          (subst (λ (k : Journal). Ending decl c p d x k []) journal e);
    }
    all p d x j (deed ∷ ds) dealt journal turns its back told own s e =
        next (goes false p deed) refl turns (λ q place more. all q (account_at decl d deed) (deal c.tx x deed)
        (journal_at j deed) ds dealt journal more its.1 back.1 told.1 (same_client decl d deed ∙ own)
        (one decl c p q d x j deed ds place its.0 back.0 s) (deed_ends p q d x j deed ds place its.0 back.0 told.0 s e))
      where
        next : (o : Option Place) → goes false p deed ≡ o → is_some (fold (goes_on false) o ds) ≡ true
            → ((q : Place) → goes false p deed ≡ Some q → is_some (fold (goes_on false) (Some q) ds) ≡ true
            → EndsWell client whole) → EndsWell client whole
        next None place more go = absurd (stuck decl c ds more)
        next (Some q) place more go = go q place more

  first_ending : (client : ℕ) (ds : List Deed) → Ending decl c Idle (new_account client) no_dealing no_journal ds
  first_ending client ds = record {
    closed = λ r among. absurd among;
    single = λ r q first second. absurd first;
    known = λ k. absurd (nothing k);
    written = λ e is. absurd (none_some e None refl is);
    committed = λ stamp among. absurd among;
  }
    where
      nothing : Known decl c Idle no_journal ds → ⊥
      nothing (inl at) = at
      nothing (inr (inl at)) = none_some (Commit c) None refl at
      nothing (inr (inr at)) = let never : false ≡ true = at.0 in cc

  pub final : (client : ℕ) (ds : List Deed) → AreByTurns false ds → AreRepliesDue decl client ds
      → AreGivenBack no_journal ds → AreCommitsTold ds → EndsWell client ds
  final client ds turns its back told = all client ds Idle
      (new_account client) no_dealing no_journal ds refl refl turns its back told refl (new decl c client ds)
      (first_ending client ds)

  -- what a client was told that the record's transaction ended with

  module _ (client : ℕ) (ds : List Deed) (turns : AreByTurns false ds) (its : AreRepliesDue decl client ds)
      (back : AreGivenBack no_journal ds) (told : AreCommitsTold ds) where
    f : EndsWell client ds
    f = final client ds turns its back told

    pub told_committed : (stamp : Stamp) → In (replies.Committed stamp) (dealing_in ds c.tx).ends
        → HasRecord (journal_after ds).records c.tx stamp
    told_committed stamp among = f.ending.committed stamp among

    pub told_own : (r : Reply) → In r (dealing_in ds c.tx).ends → c.tx.client ≡ client
    told_own r among = (f.ending.closed r among).past.0 ∙ f.its

    pub recorded_own : In (Commit c) (journal_after ds).records → c.tx.client ≡ client
    recorded_own among = (f.ongoing.both.known (inl among)).past.0 ∙ f.its

    pub recorded_told : In (Commit c) (journal_after ds).records → IsToldOf c (dealing_in ds c.tx).ends
    recorded_told among = by (f.ending.known (inl among))
      where
        by : IsToldOf c (dealing_in ds c.tx).ends ⊎ AwaitsReply c (gist f.account) (dealing_in ds c.tx) ⊥
            → IsToldOf c (dealing_in ds c.tx).ends
        by (inl is) = is
        by (inr waits) = absurd waits.next

    -- another end was told of no record's transaction
    pub other_end : (r : Reply) → ((stamp : Stamp) → r ≡ replies.Committed stamp → ⊥) → (r ≡ replies.Unknown → ⊥)
        → In r (dealing_in ds c.tx).ends → In (Commit c) (journal_after ds).records → ⊥
    other_end r not never among recorded = by (recorded_told recorded)
      where
        by : IsToldOf c (dealing_in ds c.tx).ends → ⊥
        by (inl one) = not c.stamp (f.ending.single r (replies.Committed c.stamp) among one)
        by (inr one) = never (f.ending.single r replies.Unknown among one)
