-- Each lock that a site holds was asked for, by its transaction.
use Rattle.std.proofs.Common.{◌≡◌, ◌⊎◌, ℕ, Bool, true, false, List, [], ◌∷◌, inl, inr, Option, unwrap_or, refl, sym}
use Rattle.std.proofs.Common.{◌∙◌, subst}
use Rattle.std.specs.declared.cmp.Ordering.{Ordering}
use Rattle.std.specs.declared.cmp.Ordering.TheVariants.{Less, Equal, Greater}
use Rattle.qc_stamp.specs.declared.stamp.TxId.{TxId}
use Rattle.qc_stamp.specs.Vocabulary.{same_tx}
use Rattle.qc_stamp.proofs.Orders.{same_tx_is}
use Rattle.qc_list.specs.Vocabulary.{In, by_order, inserted}
use Rattle.qc_entry.specs.declared.line.OwnLine.{OwnLine}
use Rattle.qc_entry.specs.declared.line.ReadLock.{ReadLock}
use Rattle.qc_entry.specs.declared.mark.Mark.{Mark}
use Rattle.qc_decl.specs.declared.declaration.Declaration.{Declaration}
use Rattle.qc_lock.specs.declared.held.Held.{Held}
use Rattle.qc_lock.specs.Vocabulary.{held_of, lock_cmp, with_held, with_lock, with_locks, without_held}
use Rattle.qc_lock.proofs.Entries.{entry-without, held-without_other, locks_given, others_stay}
use Rattle.qc_msg.specs.declared.message.Message.{Message}
use Rattle.qc_msg.specs.declared.message.Message.TheVariants as messages
use Rattle.qc_msg.specs.declared.message.Want.TheVariants.{Read}
use Rattle.qc_msg.specs.Vocabulary.{read_of}
use Rattle.qc_site.specs.Vocabulary.{SiteState, site_at}
use Rattle.laws_atomic.proofs.FirstSites.{IsCalmMessage}
use Rattle.qc_site.proofs.Cases.{state_cases}

lock_back : (ls : List ReadLock) (l x : ReadLock) → In x (with_lock ls l) → In x ls ⊎ (x ≡ l)
lock_back [] l x (inl same) = inr same
lock_back [] l x (inr never) = absurd never
lock_back (y ∷ ys) l x h = by (lock_cmp l y) (lock_back ys l x) h
  where
    by : (order : Ordering) → (In x (inserted lock_cmp ys l) → In x ys ⊎ (x ≡ l))
        → In x (by_order order (l ∷ y ∷ ys) (l ∷ ys) (y ∷ inserted lock_cmp ys l)) → In x (y ∷ ys) ⊎ (x ≡ l)
    by Less rest (inl same) = inr same
    by Less rest (inr more) = inl more
    by Equal rest (inl same) = inr same
    by Equal rest (inr more) = inl (inr more)
    by Greater rest (inl same) = inl (inl same)
    by Greater rest (inr more) = elim (rest more) [ inl a ↦ inl (inr a) | inr b ↦ inr b ]

locks_back : (ls others : List ReadLock) (x : ReadLock) → In x (with_locks ls others) → In x ls ⊎ In x others
locks_back ls [] x h = inl h
locks_back ls (o ∷ os) x h = elim (locks_back (with_lock ls o) os x h) [
  | inl a ↦ elim (lock_back ls o x a) [ inl b ↦ inl b | inr same ↦ inr (inl same) ]
  | inr c ↦ inr (inr c)
]

given_back : (held : List Held) (u tx : TxId) (locks : List ReadLock) (own : List OwnLine) (x : ReadLock)
    → In x (held_of (with_held held u locks own) tx).locks → In x (held_of held tx).locks ⊎ ((u ≡ tx) × In x locks)
given_back held u tx locks own x h = by (same_tx u tx) refl
  where
    here : In x (held_of (with_held held u locks own) u).locks → In x (held_of held u).locks ⊎ In x locks
    here there = locks_back (held_of held u).locks locks x
        (subst (λ (ls : List ReadLock). In x ls) (locks_given held u locks own) there)

    by : (b : Bool) → same_tx u tx ≡ b → In x (held_of held tx).locks ⊎ ((u ≡ tx) × In x locks)
    by true same =
        let e : u ≡ tx = same_tx_is u tx same in
        elim (here (subst (λ (t : TxId). In x (held_of (with_held held u locks own) t).locks) (sym e) h)) [
          | inl old ↦ inl (subst (λ (t : TxId). In x (held_of held t).locks) e old)
          | inr new ↦ inr (e, new)
        ]
    by false other = inl (subst (λ (o : Option Held). In x
        (unwrap_or o (record { tx = tx; locks = []; own = [] })).locks) (others_stay held u tx locks own other) h)

drop_back : (held : List Held) (u tx : TxId) (x : ReadLock) → In x (held_of (without_held held u) tx).locks
    → In x (held_of held tx).locks
drop_back held u tx x h = by (same_tx u tx) refl
  where
    gone : In x (held_of (without_held held u) u).locks → ⊥
    gone there = subst (λ (o : Option Held). In x (unwrap_or o (record { tx = u; locks = []; own = [] })).locks)
        (entry-without held u) there

    by : (b : Bool) → same_tx u tx ≡ b → In x (held_of held tx).locks
    by true same = absurd (gone (subst (λ (t : TxId). In x (held_of (without_held held u) t).locks)
        (sym (same_tx_is u tx same)) h))
    by false other = subst (λ (e : Held). In x e.locks) (held-without_other held u tx other) h

abbrev pub Asks : Message → TxId → ReadLock → Type 0
Asks m tx x = (epoch : ℕ) × (life : ℕ) × (mark : Mark)
    × (m ≡ messages.Request tx epoch life (Read (read_of x.object x.inv mark)))

pub locks_were_asked : (decl : Declaration) (s : SiteState) (from number : ℕ) (m : Message) (tx : TxId) (x : ReadLock)
    → IsCalmMessage m → In x (held_of (site_at decl s from number m).site.held tx).locks
    → In x (held_of s.held tx).locks ⊎ Asks m tx x
locks_were_asked decl s from number m tx x calm =
    state_cases (λ (y : SiteState). In x (held_of y.held tx).locks → In x (held_of s.held tx).locks ⊎ Asks m tx x) decl
    s from number m (λ h. inl h)
    (λ t epoch life r same h. elim
    (given_back s.held t tx (record { object = r.object; inv = r.inv } ∷ []) [] x h) [
      | inl old ↦ inl old
      | inr new ↦ inr (
        epoch,
        life,
        r.mark,
        elim new.1 [
          | inl e ↦ same
              ∙ (λ i. messages.Request (new.0 i) epoch life (Read (read_of (sym e i).object (sym e i).inv r.mark)))
          | inr never ↦ absurd never
        ],
      )
    ])
    (λ t epoch life object view own same h. elim
    (given_back s.held t tx [] own x h) [ inl old ↦ inl old | inr new ↦ absurd new.1 ])
    (λ t h. inl h)
    (λ t verdict same final h. inl (drop_back s.held t tx x h))
    (λ t stamp p same h. inl (drop_back s.held t tx x h))
    (λ k same. absurd (subst IsCalmMessage same calm))
    (λ k clock lines same later. absurd (subst IsCalmMessage same calm))
