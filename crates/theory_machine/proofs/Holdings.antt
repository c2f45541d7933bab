-- What a site holds for a transaction that may still commit.
use Rattle.std.proofs.Common.{◌≡◌, ◌≢◌, ℕ, suc, ◌≤◌, inl, inr, List, [], ◌∷◌, ◌++◌, length, Some, sym, ap, ◌∙◌, subst}
use Rattle.std.proofs.Common.{arith, append_assoc}
use Rattle.std.proofs.lemmas.List.{length-append}
use Rattle.qc_stamp.specs.declared.stamp.TxId.{TxId}
use Rattle.qc_entry.specs.declared.line.OwnLine.{OwnLine}
use Rattle.qc_decl.specs.declared.declaration.Declaration.{Declaration}
use Rattle.qc_decl.specs.Vocabulary.{IsAccepted}
use Rattle.qc_list.specs.Vocabulary.{In}
use Rattle.theory_onecopy.specs.Vocabulary.{Executed, own_line}
use Rattle.qc_list.proofs.Members.{In-second, In-either}
use Rattle.theory_machine.specs.Vocabulary.{Aborted, Act, AreInOrder, Deed, Granted, Grants, HasRisingEpochs}
use Rattle.theory_machine.specs.Vocabulary.{HaveNoInstall, IsExecutedOrChosen, IsOutcome, IsRun, Item, LearnsCommit}
use Rattle.theory_machine.specs.Vocabulary.{LogLaws, Own, Site, StateLaws, Status, Voting, after_deed, empty_site}
use Rattle.theory_machine.specs.Vocabulary.{epoch_from, items_of, site_after, site_from, state}
use Rattle.theory_machine.proofs.Keeps.{laws}
use Rattle.theory_machine.proofs.LogKeeps.{log_laws}
use Rattle.theory_machine.proofs.Grants.{between, holds_granted}
use Rattle.theory_machine.proofs.Order.{ended}
use Rattle.theory_machine.proofs.Places.{at}
use Rattle.theory_machine.proofs.SiteOrder.{after_append, held_or_done}

module _ (decl : Declaration) (accepted : IsAccepted decl) (acts : List Act) (run : IsRun decl acts) where
  wl : StateLaws decl (state acts)
  wl = laws decl acts run

  ll : LogLaws decl (state acts)
  ll = log_laws decl accepted acts run

  low : (ds earlier : List Executed) → AreInOrder earlier ds
      → ((a : Executed) → In a earlier → a.number ≤ length earlier) → (a : Executed) → In a ds
      → a.number ≤ length (earlier ++ ds)
  low [] earlier o small a h = absurd h
  low (e ∷ es) earlier o small a (inl same) =
      let n : e.number ≡ suc (length earlier) = o.0.numbered in
      let m : a.number ≡ e.number = ap (λ (x : Executed). x.number) same in
      let x = length-append earlier (e ∷ es) in
      omega arith
  low (e ∷ es) earlier o small a (inr there) =
      subst (λ (l : List Executed). a.number ≤ length l) (append_assoc earlier (e ∷ []) es)
      (low es (earlier ++ e ∷ []) o.1 (λ b i. elim (In-either b earlier (e ∷ []) i) [
        | inl old ↦ let x : b.number ≤ length earlier = small b old in let y = length-append earlier (e ∷ []) in
            omega arith
        | inr new ↦ elim new [
          | inl same ↦ let x : b.number ≡ e.number = ap (λ (z : Executed). z.number) same in
              let n : e.number ≡ suc (length earlier) = o.0.numbered in let y = length-append earlier (e ∷ []) in
              omega arith
          | inr never ↦ absurd never
        ]
      ]) a there)

  -- operations that were executed or are chosen have numbers of their own
  known_one : (tx : TxId) (d e : Executed) → IsExecutedOrChosen ((state acts).executed tx) ((state acts).chosen tx) d
      → IsExecutedOrChosen ((state acts).executed tx) ((state acts).chosen tx) e → d.number ≡ e.number → d ≡ e
  known_one tx d e (inl hd) (inl he) same = (at ((state acts).executed tx) (ll.order tx) e he).one d hd same
  known_one tx d e (inl hd) (inr he) same =
      let n : e.number ≡ suc (length ((state acts).executed tx)) = (ll.next tx e he).0.numbered in
      let m : d.number ≤ length ((state acts).executed tx) =
      low ((state acts).executed tx) [] (ll.order tx) (λ a i. absurd i) d hd in
      absurd (omega arith)
  known_one tx d e (inr hd) (inl he) same =
      let n : d.number ≡ suc (length ((state acts).executed tx)) = (ll.next tx d hd).0.numbered in
      let m : e.number ≤ length ((state acts).executed tx) =
      low ((state acts).executed tx) [] (ll.order tx) (λ a i. absurd i) e he in
      absurd (omega arith)
  known_one tx d e (inr hd) (inr he) same = let x : Some d ≡ Some e = sym hd ∙ he in cc

  -- of a transaction's own lines at a site no two have one operation
  pub held_lines_are_one_an_operation : (site : ℕ) (tx : TxId) (o p : OwnLine)
      → In (Own o) (items_of tx (site_after ((state acts).deeds site)).held)
      → In (Own p) (items_of tx (site_after ((state acts).deeds site)).held) → o.op ≡ p.op → o ≡ p
  held_lines_are_one_an_operation site tx o p ho hp same =
      let a = (ll.sites site).own_closed tx o ho in
      let b = (ll.sites site).own_closed tx p hp in
      let numbers : a.operation.number ≡ b.operation.number = sym (ap (λ (x : OwnLine). x.op) a.is) ∙ same
      ∙ ap (λ (x : OwnLine). x.op) b.is in
      a.is ∙ ap own_line (known_one tx a.operation b.operation a.known b.known numbers) ∙ sym b.is

  -- until it votes, and while its epoch stands, a site holds what it granted to a transaction that is voted on
  pub granted_items_are_held : (g : Granted) (item : Item) → In g (state acts).counted → In item g.items
      → (state acts).status g.tx ≡ Voting → (state acts).life g.site ≡ g.life
      → epoch_from 1 ((state acts).deeds g.site) ≡ g.epoch
      → In item (items_of g.tx (site_after ((state acts).deeds g.site)).held)
  granted_items_are_held g item hg hi voting life epoch =
      let k = wl.counted g hg in
      let eq : site_after ((state acts).deeds g.site) ≡ site_from
      (after_deed (site_after g.before) (Grants g.tx g.items g.view)) k.post = ap site_after k.split
      ∙ after_append g.before (Grants g.tx g.items g.view ∷ k.post) empty_site in
      let alive : (state acts).status g.tx ≢ Aborted = λ d. let x : Voting ≡ Aborted = sym voting ∙ d in cc in
      let none : HaveNoInstall k.post = between g.before (Grants g.tx g.items g.view) k.post g.epoch
      (subst (λ (ds : List Deed). HasRisingEpochs 1 ds) k.split (wl.rising g.site)) tt
      (wl.facts g (wl.known g hg)).current (ap (epoch_from 1) (sym k.split) ∙ epoch) in
      elim (held_or_done k.post g.tx item (after_deed (site_after g.before) (Grants g.tx g.items g.view))
      (holds_granted g item k.fresh hi) (k.unvoted alive life) none) [
        | inl held ↦ subst (λ (x : Site). In item (items_of g.tx x.held)) (sym eq) held
        | inr d ↦
            let all : In (LearnsCommit g.tx d.stamp) ((state acts).deeds g.site) =
            subst (λ (ds : List Deed). In (LearnsCommit g.tx d.stamp) ds) (sym k.split)
            (In-second (LearnsCommit g.tx d.stamp) g.before (Grants g.tx g.items g.view ∷ k.post)
            (inr (ended decl acts run k.post g.tx d))) in
            absurd (subst (λ (s : Status). IsOutcome s (Some d.stamp)) voting
            (wl.deeds g.site (LearnsCommit g.tx d.stamp) all))
      ]
