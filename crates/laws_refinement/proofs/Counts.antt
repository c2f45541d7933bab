-- A grant that counts: its site is a participant, and the lines that it shows join the object's view.
use Rattle.std.proofs.Common.{[], ◌≡◌, ◌≢◌, ℕ, ◌==◌, Bool, true, false, inl, inr, List, ◌∷◌, Some, slice_get, refl, sym}
use Rattle.std.proofs.Common.{ap, ◌∙◌, subst, eq-eqb, eqb-true}
use Rattle.qc_list.specs.Vocabulary.{In}
use Rattle.qc_entry.specs.declared.line.Line.{Line}
use Rattle.qc_entry.specs.declared.line.OwnLine.{OwnLine}
use Rattle.qc_entry.specs.declared.line.ReadLock.{ReadLock}
use Rattle.qc_entry.specs.Vocabulary.{IsAscending, union}
use Rattle.qc_entry.proofs.Union.{ascending-union, in_either, in_first, in_second}
use Rattle.qc_decl.specs.declared.declaration.Declaration.{Declaration}
use Rattle.qc_msg.specs.declared.message.Want.TheVariants.{Read, Append}
use Rattle.qc_msg.specs.Vocabulary.{with_life}
use Rattle.qc_msg.specs.declared.payload.Grant.{Grant}
use Rattle.qc_msg.specs.Vocabulary.{first_read}
use Rattle.theory_machine.specs.Vocabulary.{Count, Granted, IsShown, Item, Lock, Shows, State, after_act, site_after}
use Rattle.qc_front.specs.Vocabulary.{lived, view_log, with_granted}
use Rattle.qc_view.specs.declared.view.View.{View}
use Rattle.qc_front.specs.declared.transaction.Transaction.{Transaction}
use Rattle.qc_client.specs.declared.client.Client.{Client}
use Rattle.laws_refinement.specs.Vocabulary.{IsGrant, LivesMirror, own_items}
use Rattle.laws_refinement.proofs.ClientSteps.{Core}
use Rattle.laws_refinement.proofs.Granting.{lived_given, granted_given, granted_here, granted_there, learned}
use Rattle.laws_refinement.proofs.Granting.{counted_core, more_shown}

-- a grant to a Read
pub read_counted : (decl : Declaration) (w : State) (a : ℕ) (c : Client) (t : Transaction)
    (site object inv : ℕ) (x : Grant)
    (k : IsGrant decl w site x t.begun.tx (Read (first_read object inv)))
    (lives : LivesMirror (k.grant ∷ w.counted) t.begun.tx (with_life t.begun.lives site x.life)) (v : View)
    → slice_get t.views object ≡ Some v → Core decl w a c t
    → Core decl (after_act w (Count k.grant)) a (learned c x.clock) (with_granted (lived t site x.life) object x.log)
read_counted decl w a c t site object inv x k lives v is core =
    counted_core decl w a c t (with_granted (lived t site x.life) object x.log) site x
    (Read (first_read object inv)) k
    lives core (granted_given t site x.life object x.log) sorted shown whole
  where
    here : view_log (with_granted (lived t site x.life) object x.log) object ≡ union (view_log t object) x.log
    here = granted_here (lived t site x.life) object x.log v is

    there : (other : ℕ) → other ≢ object
        → view_log (with_granted (lived t site x.life) object x.log) other ≡ view_log t other
    there other apart = granted_there (lived t site x.life) object other x.log apart

    -- what holds of the joined log at the object, and of the others
    each : (P : ℕ → List Line → Type 0) → P object (union (view_log t object) x.log)
        → ((other : ℕ) → P other (view_log t other)) → (other : ℕ)
        → P other (view_log (with_granted (lived t site x.life) object x.log) other)
    each P new old other = by (other == object) refl
      where
        by : (b : Bool) → (other == object) ≡ b
            → P other (view_log (with_granted (lived t site x.life) object x.log) other)
        by true e =
            subst (λ (n : ℕ). P n (view_log (with_granted (lived t site x.life) object x.log) n))
            (sym (eqb-true other object e)) (subst (P object) (sym here) new)
        by false e =
            subst (P other)
            (sym (there other
            (λ same. let t : (other == object) ≡ true = eq-eqb other object same in let never : ⊥ = cc in never)))
            (old other)

    sorted : (other : ℕ) → IsAscending (view_log (with_granted (lived t site x.life) object x.log) other)
    sorted =
        each (λ n ls. IsAscending ls) (ascending-union (view_log t object) x.log (core.begun.sorted object) k.sorted)
        core.begun.sorted

    fresh : (l : Line) → In l x.log → (l.object ≡ object) × IsShown (k.grant ∷ w.counted) t.begun.tx l
    fresh l among = (
      k.shown object inv refl l among,
      record {
        grant = k.grant;
        counts = inl refl;
        its = k.its;
        shows =
            record {
              stands = k.lines l among;
              lock = record { object = object; inv = inv };
              granted = subst (λ (xs : List Item). In (Lock (record { object = object; inv = inv })) xs)
                  (sym k.items_are) (inl refl);
              on = sym (k.shown object inv refl l among);
            };
      },
    )

    shown : (other : ℕ) (l : Line) → In l (view_log (with_granted (lived t site x.life) object x.log) other)
        → (l.object ≡ other) × IsShown (k.grant ∷ w.counted) t.begun.tx l
    shown = each (λ n ls. (l : Line) → In l ls → (l.object ≡ n) × IsShown (k.grant ∷ w.counted) t.begun.tx l)
        (λ l among. elim (in_either l (view_log t object) x.log among) [
          | inl old ↦ (
            (core.begun.shown object l old).0,
            more_shown w.counted k.grant t.begun.tx l (core.begun.shown object l old).1,
          )
          | inr new ↦ fresh l new
        ])
        (λ n l among. (
          (core.begun.shown n l among).0,
          more_shown w.counted k.grant t.begun.tx l (core.begun.shown n l among).1,
        ))

    locked : (l : Line) → Shows k.grant l → l.object ≡ object
    locked l s = elim (subst (λ (xs : List Item). In (Lock s.lock) xs) k.items_are s.granted) [
      | inl same ↦
          (let e : s.lock ≡ record { object = object; inv = inv } = cc in sym s.on ∙ ap (λ (y : ReadLock). y.object) e)
      | inr never ↦ absurd never
    ]

    -- a line that a counted grant showed is of the object, and new or old; or it is of another, and old
    at_object : (l : Line) → IsShown (k.grant ∷ w.counted) t.begun.tx l → l.object ≡ object
        → In l (union (view_log t object) x.log)
    at_object l s on = elim s.counts [
      | inl same ↦
          in_second l (view_log t object) x.log
          (k.whole object inv refl l (subst (λ (g : Granted). In l (site_after g.before).volatile) same s.shows.stands)
          on)
      | inr old ↦
          in_first l (view_log t object) x.log
          (subst (λ (n : ℕ). In l (view_log t n)) on
          (core.begun.whole l (record { grant = s.grant; counts = old; its = s.its; shows = s.shows })))
    ]

    elsewhere : (l : Line) → IsShown (k.grant ∷ w.counted) t.begun.tx l → l.object ≢ object → In l (view_log t l.object)
    elsewhere l s apart = elim s.counts [
      | inl same ↦ absurd (apart (locked l (subst (λ (g : Granted). Shows g l) same s.shows)))
      | inr old ↦ core.begun.whole l (record { grant = s.grant; counts = old; its = s.its; shows = s.shows })
    ]

    whole : (l : Line) → IsShown (k.grant ∷ w.counted) t.begun.tx l
        → In l (view_log (with_granted (lived t site x.life) object x.log) l.object)
    whole l s = by (l.object == object) refl
      where
        by : (b : Bool) → (l.object == object) ≡ b
            → In l (view_log (with_granted (lived t site x.life) object x.log) l.object)
        by true e =
            let on : l.object ≡ object = eqb-true l.object object e in
            subst (λ (n : ℕ). In l (view_log (with_granted (lived t site x.life) object x.log) n)) (sym on)
            (subst (λ (ls : List Line). In l ls) (sym here) (at_object l s on))
        by false e =
            let apart : l.object ≢ object =
            (λ same. let t : (l.object == object)
            ≡ true = eq-eqb l.object object same in let never : ⊥ = cc in never) in
            subst (λ (ls : List Line). In l ls) (sym (there l.object apart)) (elsewhere l s apart)

-- a grant to an Append shows nothing

no_lock : (lock : ReadLock) (own : List OwnLine) → In (Lock lock) (own_items own) → ⊥
no_lock lock [] h = h
no_lock lock (o ∷ os) (inl same) = let never : ⊥ = cc in never
no_lock lock (o ∷ os) (inr h) = no_lock lock os h

pub append_counted : (decl : Declaration) (w : State) (a : ℕ) (c : Client) (t : Transaction)
    (site object : ℕ) (view : List Line) (own : List OwnLine) (x : Grant)
    (k : IsGrant decl w site x t.begun.tx (Append object view own))
    → LivesMirror (k.grant ∷ w.counted) t.begun.tx (with_life t.begun.lives site x.life) → Core decl w a c t
    → Core decl (after_act w (Count k.grant)) a (learned c x.clock) (lived t site x.life)
append_counted decl w a c t site object view own x k lives core =
    counted_core decl w a c t (lived t site x.life) site x (Append object view own) k lives core
    (lived_given t site x.life) core.begun.sorted
    (λ n l among. (
      (core.begun.shown n l among).0,
      more_shown w.counted k.grant t.begun.tx l (core.begun.shown n l among).1,
    ))
    (λ l s. elim s.counts [
      | inl same ↦
          (let g : Shows k.grant l = subst (λ (g : Granted). Shows g l) same s.shows in
          absurd (no_lock g.lock own (subst (λ (xs : List Item). In (Lock g.lock) xs) k.items_are g.granted)))
      | inr old ↦ core.begun.whole l (record { grant = s.grant; counts = old; its = s.its; shows = s.shows })
    ])
