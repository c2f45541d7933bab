-- Records with different stamps, sorted, stand in the order of their stamps.
use Rattle.std.proofs.Common.{◌≡◌, ◌⊎◌, ◌↔◌, inl, inr, List, [], ◌∷◌, fold, refl, sym, ap, ◌∙◌, subst}
use Rattle.std.proofs.lemmas.Cmp.{lists_total, nat_cmp_total, on_total, then_total, tied_itself}
use Rattle.std.specs.Cmp.{IsTotalOrder}
use Rattle.std.specs.Cmp.Lexicographic.{options_total}
use Rattle.std.specs.Ordering.{ordering_reverse, ordering_then}
use Rattle.std.specs.declared.cmp.Ordering.{Ordering}
use Rattle.std.specs.declared.cmp.Ordering.TheVariants.{Less, Equal, Greater}
use Rattle.qc_stamp.specs.declared.stamp.Stamp.{Stamp}
use Rattle.qc_stamp.specs.Vocabulary.{stamp_cmp}
use Rattle.qc_stamp.proofs.Orders.{stamps_are_ordered, transactions_are_ordered}
use Rattle.qc_entry.specs.declared.line.Op.{Op}
use Rattle.qc_entry.specs.declared.record.Commit.{Commit}
use Rattle.qc_list.specs.Vocabulary.{In, by_order}
use Rattle.theory_onecopy.specs.Vocabulary.{IsOrdered, IsStampedBefore, commit_cmp, op_cmp, sorted, with_commit}

-- the stamps decide where they differ
by_stamp : (c d : Commit) (o rest : Ordering) → ordering_then o rest ≡ ordering_then o rest → (o ≡ Equal → ⊥)
    → ordering_then o rest ≡ o
by_stamp c d Less rest e ne = refl
by_stamp c d Equal rest e ne = absurd (ne refl)
by_stamp c d Greater rest e ne = refl

stamps_decide : (c d : Commit) → (c.stamp ≡ d.stamp → ⊥) → commit_cmp c d ≡ stamp_cmp c.stamp d.stamp
stamps_decide c d ne =
    by_stamp c d (stamp_cmp c.stamp d.stamp) _ refl (λ e. ne (stamps_are_ordered.apart c.stamp d.stamp e))

-- a record ties with itself
op_total : IsTotalOrder op_cmp
op_total = then_total (on_total (λ (o : Op). o.object) nat_cmp_total)
    (then_total (on_total (λ (o : Op). o.inv) nat_cmp_total)
    (on_total (λ (o : Op). o.resp) (options_total nat_cmp_total)))

commit_total : IsTotalOrder commit_cmp
commit_total = then_total (on_total (λ (c : Commit). c.stamp) stamps_are_ordered.total)
    (then_total (on_total (λ (c : Commit). c.tx) transactions_are_ordered.total)
    (on_total (λ (c : Commit). c.ops) (lists_total op_total)))

tied : (d : Commit) → commit_cmp d d ≡ Equal
tied d = tied_itself commit_total d

-- a new stamp
abbrev IsNewTo : List Commit → Commit → Type 0
IsNewTo ds c = (d : Commit) → In d ds → c.stamp ≡ d.stamp → c ≡ d

pub record IsPlaced (ds : List Commit) (c : Commit) (es : List Commit) : Type 0 where
  pub ordered : IsOrdered IsStampedBefore es
  pub listed : (d : Commit) → In d es → (d ≡ c) ⊎ In d ds
  pub old : (d : Commit) → In d ds → In d es
  pub new : In c es

insert : (ds : List Commit) (c : Commit) → IsOrdered IsStampedBefore ds → IsNewTo ds c
    → IsPlaced ds c (with_commit ds c)
insert [] c o n = record { ordered = (λ y h. absurd h, tt); listed = λ d h. h; old = λ d h. absurd h; new = inl refl }
insert (d ∷ ds) c o n = by (stamp_cmp c.stamp d.stamp) refl (insert ds c o.1 (λ e h. n e (inr h)))
  where
    by : (t : Ordering) → stamp_cmp c.stamp d.stamp ≡ t → IsPlaced ds c (with_commit ds c)
        → IsPlaced (d ∷ ds) c (with_commit (d ∷ ds) c)
    by Less e ih =
        let first : commit_cmp c d ≡ Less = stamps_decide c d
        (λ same. let t : stamp_cmp c.stamp d.stamp ≡ Equal =
        subst (λ (s : Stamp). stamp_cmp c.stamp s ≡ Equal) same (tied_itself stamps_are_ordered.total c.stamp) in
        let never : ⊥ = cc in never) ∙ e in
        subst (λ (x : Ordering). IsPlaced (d ∷ ds) c (by_order x (c ∷ d ∷ ds) (d ∷ ds) (d ∷ with_commit ds c)))
        (sym first) (record {
          ordered = (
            λ y h. elim h [
              | inl same ↦ subst (λ (x : Commit). IsStampedBefore c x)
                  (sym same) e
              | inr there ↦ stamps_are_ordered.total.trans c.stamp d.stamp y.stamp e (o.0 y there)
            ],
            o,
          );
          listed = λ y h. h;
          old = λ y h. inr h;
          new = inl refl;
        })
    by Equal e ih =
        let same : c ≡ d = n d (inl refl) (stamps_are_ordered.apart c.stamp d.stamp e) in
        subst (λ (x : Commit). IsPlaced (d ∷ ds) x (with_commit (d ∷ ds) x)) (sym same)
        (subst (λ (x : Ordering). IsPlaced (d ∷ ds) d (by_order x (d ∷ d ∷ ds) (d ∷ ds) (d ∷ with_commit ds d)))
        (sym (tied d)) (record { ordered = o; listed = λ y h. inr h; old = λ y h. h; new = inl refl }))
    by Greater e ih =
        let last : commit_cmp c d ≡ Greater = stamps_decide c d
        (λ same. let t : stamp_cmp c.stamp d.stamp ≡ Equal =
        subst (λ (s : Stamp). stamp_cmp c.stamp s ≡ Equal) same (tied_itself stamps_are_ordered.total c.stamp) in
        let never : ⊥ = cc in never) ∙ e in
        let back : stamp_cmp d.stamp c.stamp ≡ Less = stamps_are_ordered.total.antisymm d.stamp c.stamp
        ∙ ap ordering_reverse e in
        subst (λ (x : Ordering). IsPlaced (d ∷ ds) c (by_order x (c ∷ d ∷ ds) (d ∷ ds) (d ∷ with_commit ds c)))
        (sym last) (record {
          ordered = (
            λ y h. elim (ih.listed y h) [
              | inl same ↦ subst (λ (x : Commit). IsStampedBefore d x)
                  (sym same) back
              | inr there ↦ o.0 y there
            ],
            ih.ordered,
          );
          listed = λ y h. elim h [
            | inl same ↦ inr (inl same)
            | inr there ↦ elim
                (ih.listed y there) [ inl x ↦ inl x | inr x ↦ inr (inr x) ]
          ];
          old = λ y h. elim h [ inl same ↦ inl same | inr there ↦ inr (ih.old y there) ];
          new = inr ih.new;
        })

pub record IsSorted (records ds es : List Commit) : Type 0 where
  pub ordered : IsOrdered IsStampedBefore es
  pub listed : (d : Commit) → In d es ↔ (In d ds ⊎ In d records)

sort_from : (records ds : List Commit) → IsOrdered IsStampedBefore ds
    → ((c d : Commit) → In c ds ⊎ In c records → In d ds ⊎ In d records → c.stamp ≡ d.stamp → c ≡ d)
    → IsSorted records ds (fold with_commit ds records)
sort_from [] ds o n = record { ordered = o; listed = λ d. (λ h. inl h, λ h. elim h [ inl a ↦ a | inr b ↦ absurd b ]) }
sort_from (c ∷ cs) ds o n =
    let p = insert ds c o (λ d h e. n c d (inr (inl refl)) (inl h) e) in
    let from : (d : Commit) → In d (with_commit ds c) ⊎ In d cs → In d ds ⊎ In d (c ∷ cs) = λ d h. elim h [
      | inl a ↦ elim (p.listed d a) [ inl same ↦ inr (inl same) | inr old ↦ inl old ]
      | inr b ↦ inr (inr b)
    ] in
    let r = sort_from cs (with_commit ds c) p.ordered (λ x y hx hy e. n x y (from x hx) (from y hy) e) in
    record {
      ordered = r.ordered;
      listed = λ d. (
        λ h. from d ((r.listed d).0 h),
        λ h. elim h [
          | inl old ↦ (r.listed d).1 (inl (p.old d old))
          | inr b ↦ elim b [
            | inl same ↦ (r.listed d).1
                (inl (subst (λ (x : Commit). In x (with_commit ds c)) (sym same) p.new))
            | inr later ↦ (r.listed d).1
                (inr later)
          ]
        ],
      );
    }

pub records_are_sorted : (records : List Commit)
    → ((c d : Commit) → In c records → In d records → c.stamp ≡ d.stamp → c ≡ d)
    → IsOrdered IsStampedBefore (sorted records) × ((d : Commit) → In d (sorted records) ↔ In d records)
records_are_sorted records n =
    let r = sort_from records [] tt (λ c d hc hd e. n c d (back c hc) (back d hd) e) in
    (r.ordered, λ d. (λ h. back d ((r.listed d).0 h), λ h. (r.listed d).1 (inr h)))
  where
    back : (d : Commit) → In d [] ⊎ In d records → In d records
    back d (inl h) = absurd h
    back d (inr h) = h
