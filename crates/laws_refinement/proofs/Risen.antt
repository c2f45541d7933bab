-- A site rises: it is what its records give, and what the machine's site is after a rise.
use Rattle.std.proofs.Common.{◌≡◌, ◌≢◌, suc, ℕ, arith, true, List, [], ◌∷◌, ◌++◌, sym, subst}
use Rattle.qc_stamp.specs.declared.stamp.TxId.{TxId}
use Rattle.qc_list.specs.Vocabulary.{In}
use Rattle.qc_decl.specs.declared.declaration.Declaration.{Declaration}
use Rattle.qc_entry.specs.declared.line.OwnLine.{OwnLine}
use Rattle.qc_lock.specs.Vocabulary.{is_held}
use Rattle.qc_msg.specs.declared.record.Record.TheVariants as records
use Rattle.theory_machine.specs.Vocabulary.{Deed, NotBegun, Own, Rises, Site, Status, empty_site, held_by_promises}
use Rattle.theory_machine.specs.Vocabulary.{items_of, promise_of, site_after}
use Rattle.qc_site.specs.Vocabulary.{prepared_of}
use Rattle.qc_recover.specs.Vocabulary.{Kept, keeps, site_by}
use Rattle.laws_refinement.specs.Vocabulary.{AreSingle, IsPromiseOf, KeptMirrors, SiteMirrors}
use Rattle.laws_refinement.proofs.HeldByPromises.{by_promises_held, by_promises_holder, by_promises_owned}
use Rattle.laws_refinement.proofs.KeptDeeds.{single_promises}
use Rattle.laws_refinement.proofs.KeptSteps.{kept_rises}
use Rattle.laws_refinement.proofs.Machine.{site_more}

-- the site that its records give
pub risen_mirrors : (decl : Declaration) (number : ℕ) (k : Kept) (status : TxId → Status) (life : ℕ) (ds : List Deed)
    → KeptMirrors decl k status life ds
    → ((t : TxId) (x y : OwnLine) → In (Own x) (items_of t (site_after (ds ++ Rises ∷ [])).held)
    → In (Own y) (items_of t (site_after (ds ++ Rises ∷ [])).held) → x.op ≡ y.op → x ≡ y)
    → SiteMirrors decl (site_by number (keeps k records.Life)) (ds ++ Rises ∷ []) (suc life)
risen_mirrors decl number k status life ds m one =
    let r : KeptMirrors decl (keeps k records.Life) status (suc life) (ds ++ Rises ∷ []) =
    kept_rises decl k status life ds m in
    record {
      life = r.life_is;
      some = omega arith;
      epoch = r.epoch;
      planned = r.planned;
      shut = r.shut;
      closing = r.closing;
      installs = r.installs;
      apart = m.apart;
      lined = m.lined;
      single = subst (λ (s : Site). AreSingle s.prepared) (sym (site_more ds Rises)) once;
      held = λ t x among. by_promises_held (site_after ds).promises k.promises once m.apart m.promised agree t x
          (subst (λ (s : Site). In x (items_of t s.held)) (site_more ds Rises) among);
      owned = λ t o among. subst (λ (s : Site). In (Own o) (items_of t s.held)) (sym (site_more ds Rises))
          (by_promises_owned (site_after ds).promises k.promises once m.apart m.promised agree t o among);
      done = r.done;
      passed = λ l among. m.passed l (subst (λ (s : Site). In l s.volatile) (site_more ds Rises) among);
      log = λ l among. m.stable l (subst (λ (s : Site). In l s.volatile) (site_more ds Rises) among);
      logged = λ l among. subst (λ (s : Site). In l s.volatile) (sym (site_more ds Rises)) (m.kept l among);
      sorted = m.sorted;
      promised = λ t. subst (λ (s : Site). IsPromiseOf (promise_of t s.prepared) (prepared_of k.promises t))
          (sym (site_more ds Rises)) (m.promised t);
    }
  where
    once : AreSingle (site_after ds).promises
    once = single_promises ds empty_site tt

    agree : (t : TxId) (x y : OwnLine) → In (Own x) (items_of t (held_by_promises (site_after ds).promises))
        → In (Own y) (items_of t (held_by_promises (site_after ds).promises)) → x.op ≡ y.op → x ≡ y
    agree t x y in_x in_y same = one t x y
        (subst (λ (s : Site). In (Own x) (items_of t s.held)) (sym (site_more ds Rises)) in_x)
        (subst (λ (s : Site). In (Own y) (items_of t s.held)) (sym (site_more ds Rises)) in_y) same

-- what holds something then was begun
pub risen_holders : (decl : Declaration) (number : ℕ) (k : Kept) (status : TxId → Status) (life : ℕ) (ds : List Deed)
    → KeptMirrors decl k status life ds → (t : TxId) → is_held (site_by number k).held t ≡ true → status t ≢ NotBegun
risen_holders decl number k status life ds m t is =
    by_promises_holder (λ (u : TxId). status u ≢ NotBegun) k.promises m.begun t is
