-- Over all of a client's deeds: each commit record that its journal has then has the operations that it was told.
use Rattle.std.proofs.Common.{◌≡◌, ℕ, inl, inr, true, false, fold, List, [], ◌∷◌, Option, Some, None, is_some, refl}
use Rattle.std.proofs.Common.{subst}
use Rattle.qc_list.specs.Vocabulary.{In}
use Rattle.qc_decl.specs.declared.declaration.Declaration.{Declaration}
use Rattle.qc_entry.specs.declared.record.Commit.{Commit as CommitRecord}
use Rattle.qc_core.specs.Vocabulary.{AreGivenBack, IsGivenBackAt, journal_after, journal_at}
use Rattle.qc_msg.specs.declared.record.Record.TheVariants.{Commit}
use Rattle.qc_msg.specs.Vocabulary.{Deed, Falls, Rises, Sends, Takes, Tells, Writes, is_life}
use Rattle.qc_promise.specs.Vocabulary.{Account, AreByTurns, AreDeedsDue, AreRepliesDue, Dealing, Idle, IsDeedDue}
use Rattle.qc_promise.specs.Vocabulary.{Journal, Place, account_at, deal, dealing_in, goes, goes_on, new_account}
use Rattle.qc_promise.specs.Vocabulary.{no_dealing, no_journal, pending_next, saying_of}
use Rattle.laws_reach.proofs.Bases.{none_some}
use Rattle.laws_reach.proofs.DealingsTurning.{CameTo, FellTo, RoseTo, ToldTo, WroteTo, comes, falls, is_off, rises}
use Rattle.laws_reach.proofs.DealingsTurning.{sends, tells, writes}
use Rattle.laws_reach.proofs.CarriedRecords.{Known, Ongoing, sent, takes, wrote}
use Rattle.laws_reach.proofs.Carrying.{fell, rose}
use Rattle.laws_reach.proofs.DealingsTelling.{tells_on}

module _ (decl : Declaration) (c : CommitRecord) where
  pub one : (p q : Place) (d : Account) (x : Dealing) (j : Journal) (deed : Deed) (after : List Deed)
      → goes false p deed ≡ Some q → IsDeedDue decl d deed after → IsGivenBackAt j deed
      → Ongoing decl c p d x j (deed ∷ after) → Ongoing decl c q (account_at decl d deed) (deal c.tx x deed)
      (journal_at j deed) after
  one p q d x j (Takes given) after place its back s =
      takes decl c p q d x j given after (subst (CameTo (is_off p)) place (comes p given)) its s
  one p q d x j (Writes written) after place its back s =
      wrote decl c p q d x j written after (subst (WroteTo (is_life written) (is_off p)) place (writes p written)) its s
  one p q d x j (Sends number to message) after place its back s =
      sent decl c p q d x j number to message after (subst (CameTo (is_off p)) place (sends p)) s
  one p q d x j (Tells reply) after place its back s =
      let at : ToldTo (is_off p) (saying_of reply) (Some q) =
      subst (ToldTo (is_off p) (saying_of reply)) place (tells p (saying_of reply)) in
      tells_on decl c p q d x j after at.0 reply (is_some (pending_next after)) at.1 its s
  one p q d x j (Falls cause pending) after place its back s =
      fell decl c p q d x j cause pending after (subst (FellTo p cause pending) place (falls p cause pending)) s
  one p q d x j (Rises kept) after place its back s =
      rose decl c p q d x j kept after (subst (RoseTo (is_off p)) place (rises p)) back s

  pub stuck : (ds : List Deed) → is_some (fold (goes_on false) None ds) ≡ true → ⊥
  stuck [] is = cc
  stuck (d ∷ ds) is = stuck ds is

  all : (p : Place) (d : Account) (x : Dealing) (j : Journal) (ds : List Deed)
      → is_some (fold (goes_on false) (Some p) ds) ≡ true → AreDeedsDue decl d ds → AreGivenBack j ds
      → Ongoing decl c p d x j ds
      → In (Commit c) (fold journal_at j ds).records → c.ops ≡ (fold (deal c.tx) x ds).ops
  all p d x j [] turns its back s among = (s.both.known (inl among)).same
  all p d x j (deed ∷ ds) turns its back s among =
      next (goes false p deed) refl turns (λ q place more. all q (account_at decl d deed) (deal c.tx x deed)
      (journal_at j deed) ds more its.1 back.1 (one p q d x j deed ds place its.0 back.0 s) among)
    where
      next : (o : Option Place) → goes false p deed ≡ o → is_some (fold (goes_on false) o ds) ≡ true
          → ((q : Place) → goes false p deed ≡ Some q → is_some (fold (goes_on false) (Some q) ds) ≡ true
          → c.ops ≡ (fold (deal c.tx) (deal c.tx x deed) ds).ops)
          → c.ops ≡ (fold (deal c.tx) (deal c.tx x deed) ds).ops
      next None place more go = absurd (stuck ds more)
      next (Some q) place more go = go q place more

  pub new : (client : ℕ) (ds : List Deed) → Ongoing decl c Idle (new_account client) no_dealing no_journal ds
  new client ds = record {
    both = record {
      base = record {
        asked = λ command is. absurd (none_some command None refl is);
        begun = refl;
        down = λ is. refl;
        told = λ o is named. absurd (none_some o None refl is);
        fresh = inr refl;
      };
      known = λ k. absurd (nothing k);
    };
    life = refl;
  }
    where
      nothing : Known decl c Idle no_journal ds → ⊥
      nothing (inl at) = at
      nothing (inr (inl at)) = none_some (Commit c) None refl at
      nothing (inr (inr at)) = let never : false ≡ true = at.0 in cc

  pub records_have_what_deeds_told : (client : ℕ) (ds : List Deed) → AreByTurns false ds → AreRepliesDue decl client ds
      → AreGivenBack no_journal ds → In (Commit c) (journal_after ds).records → c.ops ≡ (dealing_in ds c.tx).ops
  records_have_what_deeds_told client ds turns its back among =
      all Idle (new_account client) no_dealing no_journal ds turns its back (new client ds) among
