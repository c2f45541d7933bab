-- Over all of a client's deeds, through its falls and rises, it stands so in what it has seen.
use Rattle.std.proofs.Common.{◌≡◌, ℕ, Bool, true, false, List, [], ◌∷◌, ◌++◌, inl, inr, refl, sym, ap, ◌∙◌, subst}
use Rattle.std.specs.List.{AllByRecursion as Every}
use Rattle.std.proofs.lemmas.List.Sums.{fold-append}
use Rattle.qc_stamp.specs.declared.stamp.TxId.{TxId}
use Rattle.qc_list.specs.Vocabulary.{In}
use Rattle.qc_list.proofs.Members.{In-second}
use Rattle.qc_core.specs.Vocabulary.{IsLawfulWithFalls, Lives, MayReach, MayTake, is_up, journal_after, journal_at}
use Rattle.qc_core.specs.Lives as lives
use Rattle.qc_decl.specs.declared.declaration.Declaration.{Declaration}
use Rattle.qc_decl.specs.Vocabulary.{is_client}
use Rattle.qc_entry.specs.declared.record.Commit.{Commit}
use Rattle.qc_msg.specs.declared.record.Record.{Record}
use Rattle.qc_msg.specs.declared.record.Record.TheVariants as records
use Rattle.qc_msg.specs.declared.step.Input.{Input}
use Rattle.qc_msg.specs.declared.turn.Turn.{Turn}
use Rattle.qc_msg.specs.Vocabulary.{Deed, Rises, Takes, Writes, deeds_as, first_epoch}
use Rattle.qc_promise.specs.Vocabulary.{Journal, no_journal}
use Rattle.laws_due.specs.Vocabulary.{IsDeclaredDeed, IsPlanned}
use Rattle.laws_due.proofs.Lifelong.{client_lives}
use Rattle.laws_due.proofs.Standing.{IsAtRest, Stands as StandsThere}
use Rattle.laws_reach.proofs.Founding.{IsFounded, first_founded}
use Rattle.qc_core.proofs.KeptBack.{back_second}
use Rattle.laws_reach.proofs.Standing.{up_not}
use Rattle.laws_reach.proofs.Turning.{AtRest, StandsAt, after, call_stands, fall_stands, rise_stands, take_stands}
use Rattle.laws_reach.proofs.Turning.{down_turn_stands, turn_stands}
use Rattle.laws_due.proofs.Telling.{first_all}

module _ (decl : Declaration) (a : ℕ) (client : is_client decl a ≡ true) (planned : IsPlanned decl first_epoch)
    (commits : List Commit) (tx : TxId) where
  abbrev Rests : List Deed → Type 0
  Rests ds = AtRest decl a client commits tx ds

  -- at an input
  record AtInput (ds : List Deed) : Type 0 where
    before : List Deed
    given : Input
    is : ds ≡ before ++ Takes given ∷ []
    there : IsAtRest decl a before
    rest : Rests before
    may : MayTake before given
    reach : MayReach (is_up before) given

  abbrev IsNow : List Deed → Bool → Type 0
  IsNow ds true = AtInput ds
  IsNow ds false = Rests ds

  new : Rests []
  new = record {
    up = true;
    is = refl;
    stands = record {
      sees = record {
        begun = refl;
        waiting = λ n among. absurd among;
        shown = λ t among. absurd among;
        committed = λ t among. absurd among;
        seen = λ is t among. absurd among;
        before = λ r among. absurd among;
        ended = λ r among. absurd among;
        stands = λ r among. absurd among;
        listed = λ r is. absurd (let never : ⊥ = cc in never);
      };
      keeps = record {
        account = ([], refl);
        named = λ r among. absurd among;
        begun = λ is. absurd (let never : ⊥ = cc in never);
        life = refl;
        told = λ t among. absurd among;
        known = λ c had. elim had [ inl among ↦ absurd among | inr is ↦ absurd (let never : ⊥ = cc in never) ];
        written = λ c is. absurd (let never : ⊥ = cc in never);
        quiet = λ is. up_not is;
      };
    };
  }

  -- who is up by the deeds is so in both

  abbrev IsAs : Bool → List Deed → Type 0
  IsAs up ds = StandsThere decl a up ds × StandsAt decl a client commits tx up ds

  both : (ds : List Deed) (r : IsAtRest decl a ds) (w : Rests ds) → IsAs (is_up ds) ds
  both ds r w = (
    subst (λ (b : Bool). StandsThere decl a b ds) (sym r.is) r.stands,
    subst (λ (b : Bool). StandsAt decl a client commits tx b ds) (sym w.is) w.stands,
  )

  -- a turn for an input
  turn_rests : (before : List Deed) (g : Input) → IsAtRest decl a before → Rests before → MayTake before g
      → MayReach (is_up before) g
      → (turn : Turn) (first : ℕ) → IsLawfulWithFalls decl a (before ++ Takes g ∷ []) turn
      → IsFounded commits ((before ++ Takes g ∷ []) ++ deeds_as turn.append first turn)
      → Rests ((before ++ Takes g ∷ []) ++ deeds_as turn.append first turn)
  turn_rests before g r w may reach turn first law f = by (is_up before) refl reach (both before r w)
    where
      by : (up : Bool) → is_up before ≡ up → MayReach up g → IsAs up before
          → Rests ((before ++ Takes g ∷ []) ++ deeds_as turn.append first turn)
      by true is reaches s =
          turn_stands decl a client commits tx before s.0 is s.1 g may
          (first_founded commits (before ++ Takes g ∷ []) (deeds_as turn.append first turn) f).grants turn first law
          (λ c among. f.grants.wrote c (In-second (Writes (records.Commit c)) (before ++ Takes g ∷ [])
          (deeds_as turn.append first turn) among))
      by false is reaches s = down_turn_stands decl a client commits tx before s.0 is s.1 g reaches turn first law

  rise_rests : (before : List Deed) (kept : List Record) → is_up before ≡ false → Rests before
      → (turn : Turn) (first : ℕ) → IsLawfulWithFalls decl a (before ++ Rises kept ∷ []) turn
      → IsFounded commits (before ++ Rises kept ∷ [])
      → Rests ((before ++ Rises kept ∷ []) ++ deeds_as turn.append first turn)
  rise_rests before kept down w turn first law f =
      rise_stands decl a client commits tx before
      (subst (λ (b : Bool). StandsAt decl a client commits tx b before) (sym w.is ∙ down) w.stands) kept
      (back_second no_journal before (Rises kept ∷ []) f.back).0
      (λ c among. f.kept c (subst (λ (rs : List Record). In (records.Commit c) rs)
      (sym (risen_records before kept)) among))
      turn first law
    where
      risen_records : (before : List Deed) (kept : List Record)
          → (journal_after (before ++ Rises kept ∷ [])).records ≡ kept
      risen_records before kept = ap (λ (j : Journal). j.records)
          (fold-append journal_at no_journal before (Rises kept ∷ []))

  -- over all its deeds

  goes : (ds : List Deed) (b : Bool) (n : ℕ) → Lives decl a ds b n → Every (IsDeclaredDeed decl) ds
      → IsFounded commits ds → IsNow ds b
  goes ds b n lives.starts all f = new
  goes ds b n (lives.takes older g m life may reach) all f =
      let declared : Every (IsDeclaredDeed decl) older = first_all (IsDeclaredDeed decl) older (Takes g ∷ []) all in
      record {
        before = older;
        given = g;
        is = refl;
        there = client_lives decl a client planned older false m life declared;
        rest = goes older false m life declared (first_founded commits older (Takes g ∷ []) f);
        may = may;
        reach = reach;
      }
  goes ds b n (lives.posts older turn m first life low law) all f =
      by (goes older true m life (first_all (IsDeclaredDeed decl) older (deeds_as turn.append first turn) all)
      (first_founded commits older (deeds_as turn.append first turn) f))
    where
      by : AtInput older → Rests (older ++ deeds_as turn.append first turn)
      by at =
          subst (λ (v : List Deed). Rests (v ++ deeds_as turn.append first turn)) (sym at.is)
          (turn_rests at.before at.given at.there at.rest at.may at.reach turn first
          (subst (λ (v : List Deed). IsLawfulWithFalls decl a v turn) at.is law)
          (subst (λ (v : List Deed). IsFounded commits (v ++ deeds_as turn.append first turn)) at.is f))
  goes ds b n (lives.crashes older m life up) all f =
      let w : Rests older = goes older false m life (first_all (IsDeclaredDeed decl) older _ all)
      (first_founded commits older _ f) in
      fall_stands decl a client commits tx w.up older w.stands _
  goes ds b n (lives.rises older kept turn m first life down low law) all f =
      rise_rests older kept down
      (goes older false m life (first_all (IsDeclaredDeed decl) older (Rises kept ∷ [])
      (first_all (IsDeclaredDeed decl) (older ++ Rises kept ∷ []) (deeds_as turn.append first turn) all))
      (first_founded commits older (Rises kept ∷ [])
      (first_founded commits (older ++ Rises kept ∷ []) (deeds_as turn.append first turn) f)))
      turn first law (first_founded commits (older ++ Rises kept ∷ []) (deeds_as turn.append first turn) f)
  goes ds b n (lives.unopened older cause m life down by_disk) all f =
      let w : Rests older = goes older false m life (first_all (IsDeclaredDeed decl) older _ all)
      (first_founded commits older _ f) in
      fall_stands decl a client commits tx w.up older w.stands cause

  -- so it stands, whether it has an open input or not

  pub record StandsNow (ds : List Deed) : Type 0 where
    pub up : Bool
    pub stands : StandsAt decl a client commits tx up ds

  pub client_stands : (ds : List Deed) (b : Bool) (n : ℕ) → Lives decl a ds b n → Every (IsDeclaredDeed decl) ds
      → IsFounded commits ds → StandsNow ds
  client_stands ds b n life all f = by b (goes ds b n life all f)
    where
      opened : (at : AtInput ds) → (up : Bool) → is_up at.before ≡ up → MayReach up at.given → IsAs up at.before
          → StandsNow (at.before ++ Takes at.given ∷ [])
      opened at true is reach s = record {
        up = true;
        stands = after decl a client commits tx true at.before (Takes at.given ∷ [])
            (take_stands decl a client commits tx at.before s.0 is s.1 at.given at.may
            (subst (IsFounded commits) at.is f).grants);
      }
      opened at false is reach s = record {
        up = false;
        stands = after decl a client commits tx false at.before (Takes at.given ∷ [])
            (call_stands decl a client commits tx at.before s.0 is s.1 at.given reach);
      }

      by : (x : Bool) → IsNow ds x → StandsNow ds
      by true at = subst StandsNow (sym at.is)
          (opened at (is_up at.before) refl at.reach (both at.before at.there at.rest))
      by false w = record { up = w.up; stands = w.stands }
