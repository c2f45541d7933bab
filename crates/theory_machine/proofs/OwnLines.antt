-- The own lines of a transaction are those of its earlier operations with responses.
use Rattle.std.proofs.Common.{◌≡◌, ℕ, ◌==◌, Bool, true, false, cond, inl, inr, List, [], ◌∷◌, ◌++◌, Option, Some, None}
use Rattle.std.proofs.Common.{IsSome, refl, sym, ap, ◌∙◌, subst, append_assoc, eqb-true}
use Rattle.std.specs.Prelude.{◌&&◌, is_some}
use Rattle.qc_entry.specs.declared.line.OwnLine.{OwnLine}
use Rattle.qc_decl.specs.declared.declaration.Declaration.{Declaration}
use Rattle.qc_list.specs.Vocabulary.{In}
use Rattle.theory_onecopy.specs.Vocabulary.{Executed, own_line}
use Rattle.qc_list.proofs.Members.{In-first, In-either}
use Rattle.theory_machine.specs.Vocabulary.{AreInOrder, own_on}

module _ (decl : Declaration) where
  -- where an own line of an object comes from
  pub record IsOwnOf (ds : List Executed) (object : ℕ) (o : OwnLine) : Type 0 where
    pub operation : Executed
    pub listed : In operation ds
    pub object_is : operation.op.object ≡ object
    pub some : IsSome operation.op.resp
    pub is : o ≡ own_line operation

  some_is : (o : Option ℕ) → is_some o ≡ true → IsSome o
  some_is None h = absurd (let never : ⊥ = cc in never)
  some_is (Some x) h = refl

  pub own_of : (ds : List Executed) (object : ℕ) (o : OwnLine) → In o (own_on ds object) → IsOwnOf ds object o
  own_of [] object o h = absurd h
  own_of (e ∷ es) object o h = elim (In-either o
      (cond ((e.op.object == object) && is_some e.op.resp) (own_line e ∷ []) []) (own_on es object) h) [
        | inl here ↦ one (e.op.object == object) refl (is_some e.op.resp) refl here
        | inr there ↦ let r = own_of es object o there in
            record { operation = r.operation; listed = inr r.listed; object_is = r.object_is; some = r.some; is = r.is }
      ]
    where
      one : (t : Bool) → (e.op.object == object) ≡ t → (u : Bool) → is_some e.op.resp ≡ u
          → In o (cond (t && u) (own_line e ∷ []) []) → IsOwnOf (e ∷ es) object o
      one true eq true s (inl is) = record {
        operation = e;
        listed = inl refl;
        object_is = eqb-true e.op.object object eq;
        some = some_is e.op.resp s;
        is = is;
      }
      one true eq true s (inr never) = absurd never
      one true eq false s h = absurd h
      one false eq u s h = absurd h

  own_on-append : (xs ys : List Executed) (object : ℕ) → own_on (xs ++ ys) object ≡ own_on xs object ++ own_on ys object
  own_on-append [] ys object = refl
  own_on-append (e ∷ es) ys object =
      ap (λ (l : List OwnLine). cond ((e.op.object == object) && is_some e.op.resp) (own_line e ∷ []) [] ++ l)
      (own_on-append es ys object)
      ∙ sym (append_assoc (cond ((e.op.object == object) && is_some e.op.resp) (own_line e ∷ []) []) (own_on es object)
      (own_on ys object))

  -- an operation's own lines are among all of its object
  pub own_among : (ds earlier : List Executed) (b : Executed) (p : OwnLine) → AreInOrder earlier ds → In b ds
      → In p b.own → In p (own_on (earlier ++ ds) b.op.object)
  own_among [] earlier b p ord h i = absurd h
  own_among (e ∷ es) earlier b p ord (inl is) i =
      subst (λ (os : List OwnLine). In p os) (sym (own_on-append earlier (e ∷ es) b.op.object))
      (In-first p (own_on earlier b.op.object) (own_on (e ∷ es) b.op.object)
      (subst (λ (os : List OwnLine). In p os) (ap (λ (x : Executed). x.own) is ∙ ord.0.own
      ∙ ap (λ (x : Executed). own_on earlier x.op.object) (sym is)) i))
  own_among (e ∷ es) earlier b p ord (inr h) i =
      subst (λ (l : List Executed). In p (own_on l b.op.object)) (append_assoc earlier (e ∷ []) es)
      (own_among es (earlier ++ e ∷ []) b p ord.1 h i)
