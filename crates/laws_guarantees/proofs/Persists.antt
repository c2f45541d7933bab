-- A begun transaction stays begun, with its operations, until it ends, and then it never comes back: each that begins
-- has a greater number.
use Rattle.std.proofs.Common.{◌≡◌, ◌⊎◌, ◌≤◌, ◌<◌, ◌+◌, ℕ, List, [], ◌∷◌, ◌++◌, inl, inr, Option, Some, None, option_map}
use Rattle.std.proofs.Common.{refl, sym, ap, ◌∙◌, subst, arith}
use Rattle.std.specs.Prelude.{fold}
use Rattle.std.proofs.lemmas.List.Sums.{fold-append}
use Rattle.qc_stamp.specs.declared.stamp.TxId.{TxId}
use Rattle.qc_list.specs.Vocabulary.{In}
use Rattle.qc_entry.specs.declared.line.Op.{Op}
use Rattle.qc_decl.specs.declared.declaration.Declaration.{Declaration}
use Rattle.qc_msg.specs.declared.reply.Reply.TheVariants as replies
use Rattle.qc_core.specs.Vocabulary.{AreSteady}
use Rattle.qc_msg.specs.declared.begun.LifeAt.{LifeAt}
use Rattle.qc_msg.specs.Vocabulary.{Deed, Falls, Rises, Sends, Takes, Tells, Writes}
use Rattle.qc_promise.specs.Vocabulary.{Account, Current, account_at, new_account}
use Rattle.laws_due.specs.Vocabulary.{AreByRows, IsByRow}
use Rattle.laws_guarantees.proofs.DueNumbers.{due_number}
use Rattle.laws_guarantees.proofs.FirstGrants.{KeepsLives, same_lives}
use Rattle.laws_guarantees.proofs.Moving.{Moves, Changes, Ends, Begins, Step, steady_step}

module _ (decl : Declaration) where
  numbered_next : (d : Account) (x : Deed) → IsByRow decl d x → (tx : TxId) → x ≡ Tells (replies.Began tx)
      → tx.number ≡ d.count + 1
  numbered_next d x is tx same = due_number decl d tx (subst (IsByRow decl d) same is).0

  no_fall : (d : Account) (x : Deed) → IsByRow decl d x → AreSteady (x ∷ [])
  no_fall d (Takes g) is = (tt, tt)
  no_fall d (Writes w) is = (tt, tt)
  no_fall d (Sends n to m) is = (tt, tt)
  no_fall d (Tells reply) is = (tt, tt)
  no_fall d (Falls cause pending) is = absurd is
  no_fall d (Rises kept) is = absurd is

  deed_step : (d : Account) (x : Deed) → IsByRow decl d x → Step d (account_at decl d x)
  deed_step d x is = steady_step decl d x (no_fall d x is) (numbered_next d x is)

-- the begun transaction's number is at most the count

abbrev pub IsNumbered : ℕ → Option Current → Type 0
IsNumbered count o = (t : Current) → o ≡ Some t → t.tx.number ≤ count

some_changed : (change : Current → Current) (o : Option Current) (t : Current) → option_map change o ≡ Some t
    → (x : Current) × (o ≡ Some x) × (t ≡ change x)
some_changed change None t is = absurd (let never : ⊥ = cc in never)
some_changed change (Some x) t is = (x, refl, (let same : t ≡ change x = cc in same))

same_some : (t u : Current) → Some t ≡ Some u → t ≡ u
same_some t u is = cc

pub numbered_step : (n m : ℕ) (o p : Option Current) → Moves n o m p → IsNumbered n o → IsNumbered m p
numbered_step n m o p (Changes c change names ops lives is) k t e =
    let x : (x : Current) × (o ≡ Some x) × (t ≡ change x) = some_changed change o t (sym is ∙ e) in
    let low : x.0.tx.number ≤ n = k x.0 x.1 in
    let name : t.tx.number ≡ x.0.tx.number = ap (λ (y : Current). y.tx.number) x.2
    ∙ ap (λ (y : TxId). y.number) (names x.0) in
    omega arith
numbered_step n m o p (Ends c none) k t e =
    absurd (let no : None ≡ Some t = sym none ∙ e in let never : ⊥ = cc in never)
numbered_step n m o p (Begins c u is number) k t e =
    let name : t.tx.number ≡ u.tx.number = ap (λ (y : Current). y.tx.number) (same_some t u (sym e ∙ is)) in
    omega arith

-- it is begun, with the operation; or it has ended, and what is begun is a later one

pub record Has (tx : TxId) (op : Op) (was : List LifeAt) (count : ℕ) (o : Option Current) : Type 0 where
  pub t : Current
  pub is : o ≡ Some t
  pub its : t.tx ≡ tx
  pub among : In op t.ops
  pub lives : KeepsLives was t.lives
  pub low : tx.number ≤ count

pub record Gone (tx : TxId) (count : ℕ) (o : Option Current) : Type 0 where
  pub low : tx.number ≤ count
  pub above : (t : Current) → o ≡ Some t → tx.number < t.tx.number

has_step : (tx : TxId) (op : Op) (was : List LifeAt) (n m : ℕ) (o p : Option Current) → Moves n o m p
    → Has tx op was n o → Has tx op was m p ⊎ Gone tx m p
has_step tx op was n m o p (Changes c change names ops lives is) k = inl (record {
  t = change k.t;
  is = is ∙ ap (option_map change) k.is;
  its = names k.t ∙ k.its;
  among = ops k.t op k.among;
  lives = λ site has. (let first = k.lives site has in let after = lives k.t site first.0 in
      (after.0, after.1 ∙ first.1));
  low = (let l : tx.number ≤ n = k.low in omega arith);
})
has_step tx op was n m o p (Ends c none) k =
    inr (record {
      low = (let l : tx.number ≤ n = k.low in omega arith);
      above = λ t e. absurd (let no : None ≡ Some t = sym none ∙ e in let never : ⊥ = cc in never);
    })
has_step tx op was n m o p (Begins c u is number) k = inr (record {
  low = (let l : tx.number ≤ n = k.low in omega arith);
  above = λ t e. (let name : t.tx.number ≡ u.tx.number =
      ap (λ (y : Current). y.tx.number) (same_some t u (sym e ∙ is)) in let l : tx.number ≤ n = k.low in omega arith);
})

gone_step : (tx : TxId) (n m : ℕ) (o p : Option Current) → Moves n o m p → Gone tx n o → Gone tx m p
gone_step tx n m o p (Changes c change names ops lives is) k = record {
  low = (let l : tx.number ≤ n = k.low in omega arith);
  above = λ t e. (let x : (x : Current) × (o ≡ Some x) × (t ≡ change x) = some_changed change o t (sym is ∙ e) in
      let high : tx.number < x.0.tx.number = k.above x.0 x.1 in
      let name : t.tx.number ≡ x.0.tx.number = ap (λ (y : Current). y.tx.number) x.2
      ∙ ap (λ (y : TxId). y.number) (names x.0) in
      omega arith);
}
gone_step tx n m o p (Ends c none) k = record {
  low = (let l : tx.number ≤ n = k.low in omega arith);
  above = λ t e. absurd (let no : None ≡ Some t = sym none ∙ e in let never : ⊥ = cc in never);
}
gone_step tx n m o p (Begins c u is number) k = record {
  low = (let l : tx.number ≤ n = k.low in omega arith);
  above = λ t e. (let name : t.tx.number ≡ u.tx.number =
      ap (λ (y : Current). y.tx.number) (same_some t u (sym e ∙ is)) in let l : tx.number ≤ n = k.low in omega arith);
}

module _ (decl : Declaration) where
  abbrev run : Account → List Deed → Account
  run d ds = fold (account_at decl) d ds

  -- each deed moves the begun transaction
  abbrev pub AreMoves : Account → List Deed → Type 0
  AreMoves d [] = Unit {0}
  AreMoves d (x ∷ ds) = Step d (account_at decl d x) × AreMoves (account_at decl d x) ds

  due_moves : (ds : List Deed) (d : Account) → AreByRows decl d ds → AreMoves d ds
  due_moves [] d due = tt
  due_moves (x ∷ ds) d due = (deed_step decl d x due.0, due_moves ds (account_at decl d x) due.1)

  numbered_all : (ds : List Deed) (d : Account) → AreMoves d ds → IsNumbered d.count d.current
      → IsNumbered (run d ds).count (run d ds).current
  numbered_all [] d moves k = k
  numbered_all (x ∷ ds) d moves k = numbered_all ds (account_at decl d x) moves.1
      (numbered_step d.count (account_at decl d x).count d.current (account_at decl d x).current moves.0 k)

  gone_all : (tx : TxId) (ds : List Deed) (d : Account) → AreMoves d ds → Gone tx d.count d.current
      → Gone tx (run d ds).count (run d ds).current
  gone_all tx [] d moves k = k
  gone_all tx (x ∷ ds) d moves k = gone_all tx ds (account_at decl d x) moves.1
      (gone_step tx d.count (account_at decl d x).count d.current (account_at decl d x).current moves.0 k)

  has_all : (tx : TxId) (op : Op) (was : List LifeAt) (ds : List Deed) (d : Account) → AreMoves d ds
      → Has tx op was d.count d.current → Has tx op was (run d ds).count (run d ds).current
      ⊎ Gone tx (run d ds).count (run d ds).current
  has_all tx op was [] d moves k = inl k
  has_all tx op was (x ∷ ds) d moves k = elim
      (has_step tx op was d.count (account_at decl d x).count d.current (account_at decl d x).current moves.0 k) [
        | inl has ↦ has_all tx op was ds (account_at decl d x) moves.1 has
        | inr gone ↦ inr (gone_all tx ds (account_at decl d x) moves.1 gone)
      ]

  moves_front : (xs ys : List Deed) (d : Account) → AreMoves d (xs ++ ys) → AreMoves d xs
  moves_front [] ys d moves = tt
  moves_front (x ∷ xs) ys d moves = (moves.0, moves_front xs ys (account_at decl d x) moves.1)

  pub moves_back : (xs ys : List Deed) (d : Account) → AreMoves d (xs ++ ys) → AreMoves (run d xs) ys
  moves_back [] ys d moves = moves
  moves_back (x ∷ xs) ys d moves = moves_back xs ys (account_at decl d x) moves.1

  -- what is begun now and after more deeds, is begun in between, with the operations and the lives that it has now
  pub stays_begun : (d : Account) (mid back : List Deed) (t u : Current) (op : Op) → AreMoves d (mid ++ back)
      → IsNumbered d.count d.current → d.current ≡ Some t → In op t.ops → (run (run d mid) back).current ≡ Some u
      → u.tx ≡ t.tx
      → Has t.tx op t.lives (run d mid).count (run d mid).current
  stays_begun d mid back t u op moves numbered begun among last same =
      elim (has_all t.tx op t.lives mid d (moves_front mid back d moves)
      (record { t = t; is = begun; its = refl; among = among; lives = same_lives t.lives; low = numbered t begun })) [
        | inl has ↦ has
        | inr gone ↦ absurd (
            let end : Gone t.tx (run (run d mid) back).count (run (run d mid) back).current =
            gone_all t.tx back (run d mid) (moves_back mid back d moves) gone in
            let less : t.tx.number < u.tx.number = end.above u last in
            let number : u.tx.number ≡ t.tx.number = ap (λ (x : TxId). x.number) same in
            omega arith)
      ]

  -- parts of what is due

  pub due_front : (xs ys : List Deed) (d : Account) → AreByRows decl d (xs ++ ys) → AreByRows decl d xs
  due_front [] ys d due = tt
  due_front (x ∷ xs) ys d due = (due.0, due_front xs ys (account_at decl d x) due.1)

  pub due_back : (xs ys : List Deed) (d : Account) → AreByRows decl d (xs ++ ys) → AreByRows decl (run d xs) ys
  due_back [] ys d due = due
  due_back (x ∷ xs) ys d due = due_back xs ys (account_at decl d x) due.1

  -- what is begun after the first deeds and after all of them, is begun in between
  pub persists : (client : ℕ) (front mid back : List Deed) (t u : Current) (op : Op)
      → AreByRows decl (new_account client) (front ++ (mid ++ back))
      → (run (new_account client) front).current ≡ Some t → In op t.ops
      → (run (new_account client) (front ++ (mid ++ back))).current ≡ Some u → u.tx ≡ t.tx
      → (s : Current) × ((run (new_account client) (front ++ mid)).current ≡ Some s) × (s.tx ≡ t.tx) × In op s.ops
  persists client front mid back t u op due begun among last same =
      let moves : AreMoves (new_account client) (front ++ (mid ++ back)) =
      due_moves (front ++ (mid ++ back)) (new_account client) due in
      let numbered : IsNumbered (run (new_account client) front).count (run (new_account client) front).current =
      numbered_all front (new_account client) (moves_front front (mid ++ back) (new_account client) moves)
      (λ x none. absurd (let never : ⊥ = cc in never)) in
      let whole : run (new_account client) (front ++ (mid ++ back)) ≡ run
      (run (run (new_account client) front) mid) back =
      fold-append (account_at decl) (new_account client) front (mid ++ back)
      ∙ fold-append (account_at decl) (run (new_account client) front) mid back in
      let k = stays_begun (run (new_account client) front) mid back t u op
      (moves_back front (mid ++ back) (new_account client) moves) numbered begun among
      (sym (ap (λ (e : Account). e.current) whole) ∙ last) same in (
        k.t,
        ap (λ (e : Account). e.current) (fold-append (account_at decl) (new_account client) front mid)
            ∙ k.is,
        k.its,
        k.among,
      )
