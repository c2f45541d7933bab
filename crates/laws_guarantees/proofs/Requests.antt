-- Each request that is due names what a command named, and each Append that is due has own lines.
use Rattle.std.proofs.Common.{◌≡◌, ◌<◌, ◌==◌, ◌&&◌, ℕ, true, false, List, [], ◌∷◌, ◌++◌, inl, inr, length, Option, Some}
use Rattle.std.proofs.Common.{None, refl, sym, ap, subst, arith, eqb-true}
use Rattle.std.specs.Prelude.{fold, filter}
use Rattle.std.specs.Cmp.Lexicographic.{pointwise}
use Rattle.std.specs.Option.{option_map_or}
use Rattle.qc_stamp.specs.declared.stamp.TxId.{TxId}
use Rattle.qc_list.specs.Vocabulary.{In}
use Rattle.qc_list.proofs.Members.{In-first}
use Rattle.qc_entry.specs.declared.line.Line.{Line}
use Rattle.qc_entry.specs.declared.line.OwnLine.{OwnLine}
use Rattle.qc_entry.specs.Vocabulary.{no_mark}
use Rattle.qc_decl.specs.declared.declaration.Declaration.{Declaration}
use Rattle.qc_msg.specs.declared.message.Message.TheVariants as messages
use Rattle.qc_msg.specs.declared.message.Want.{Want}
use Rattle.qc_msg.specs.declared.message.Want.TheVariants.{Read, Append, Prepare}
use Rattle.qc_msg.specs.declared.step.Command.{Command}
use Rattle.qc_msg.specs.declared.step.Command.TheVariants as commands
use Rattle.qc_msg.specs.declared.step.Input.TheVariants as inputs
use Rattle.qc_msg.specs.Vocabulary.{Deed, Sends, Takes, read_of}
use Rattle.qc_promise.specs.Vocabulary.{Account, Current, account_at, answer_of, carries, command_asks, is_asked_for}
use Rattle.qc_promise.specs.Vocabulary.{is_of, new_account, next_own, own_appended, reads_as, same_line, same_mark}
use Rattle.qc_promise.specs.Vocabulary.{same_own, weighs}
use Rattle.laws_due.specs.Vocabulary.{AreByRows, IsByRow}
use Rattle.laws_refinement.specs.Vocabulary.{IsNamed}
use Rattle.laws_guarantees.proofs.Accounts.{HasGrounds}
use Rattle.laws_guarantees.proofs.RequestGrounds.{has_grounds}
use Rattle.laws_guarantees.proofs.Room.{IsNamedWant}
use Rattle.laws_guarantees.proofs.SiteMoves.{IsFull}
use Rattle.qc_list.proofs.Booleans.{and_first, and_parts, and_second}

-- a deed among others stands behind some of them
pub record IsBehind {A : Type 0} (x : A) (xs : List A) : Type 0 where
  pub before : List A
  pub after : List A
  pub is : xs ≡ before ++ x ∷ after

pub behind : {A : Type 0} (x : A) (xs : List A) → In x xs → IsBehind x xs
behind x [] among = absurd among
behind x (y ∷ ys) (inl same) = record { before = []; after = ys; is = ap (λ (z : _). z ∷ ys) (sym same) }
behind x (y ∷ ys) (inr there) = let b : IsBehind x ys = behind x ys there in
    record { before = y ∷ b.before; after = b.after; is = ap (λ (zs : List _). y ∷ zs) b.is }

module _ (decl : Declaration) where
  pub due_at : (before : List Deed) (x : Deed) (after : List Deed) (d : Account)
      → AreByRows decl d (before ++ x ∷ after) → IsByRow decl (fold (account_at decl) d before) x
  due_at [] x after d due = due.0
  due_at (y ∷ ys) x after d due = due_at ys x after (account_at decl d y) due.1

  -- an Append that carries what it has to has the new own line
  carried_full : (d : Account) (t : Current) (object : ℕ) (view : List Line) (own : List OwnLine) (o : Option ℕ)
      → carries decl t object view own o ≡ true → 0 < length own
  carried_full d t object view own None is = absurd (let never : ⊥ = cc in never)
  carried_full d t object view [] (Some event) is =
      absurd (none (filter (weighs decl t.epoch object) t.own)
      (and_second (pointwise same_line view _) (pointwise same_own [] (own_appended decl t object event)) is))
    where
      none : (xs : List OwnLine) → pointwise same_own [] (xs ++ next_own t object event ∷ []) ≡ true → ⊥
      none [] is = let never : ⊥ = cc in never
      none (x ∷ xs) is = let never : ⊥ = cc in never
  carried_full d t object view (o ∷ os) (Some event) is = omega arith

  -- what the command asks for is named, and has own lines
  asks_right : (d : Account) (t : Current) (site : ℕ) (want : Want) (o : Option Command)
      → ((c : Command) → o ≡ Some c → IsNamed decl c) → command_asks decl d t site want o ≡ true
      → IsNamedWant decl want × IsFull want
  asks_right d t site want None named is = absurd (let never : ⊥ = cc in never)
  asks_right d t site want (Some commands.Begin) named is = absurd (let never : ⊥ = cc in never)
  asks_right d t site (Read read) (Some (commands.Do object inv)) named is =
      let its : ((read.object == object) ≡ true) × (((read.inv == inv) && same_mark read.mark no_mark) ≡ true) =
      and_parts (read.object == object) ((read.inv == inv) && same_mark read.mark no_mark)
      (and_first (reads_as object inv no_mark read) _ is) in
      let same : read.object ≡ object = eqb-true read.object object its.0 in
      let kin : read.inv ≡ inv =
      eqb-true read.inv inv (and_first (read.inv == inv) (same_mark read.mark no_mark) its.1) in (
        subst (λ (x : ℕ). IsNamedWant decl (Read (read_of x read.inv read.mark))) (sym same)
            (subst (λ (x : ℕ). IsNamedWant decl (Read (read_of object x read.mark))) (sym kin)
            (named (commands.Do object inv) refl)),
        tt,
      )
  asks_right d t site (Append o view own) (Some (commands.Do object inv)) named is = (
    tt,
    carried_full d t object view own (answer_of decl t object inv)
        (and_second (o == object) (carries decl t object view own (answer_of decl t object inv))
        (and_first ((o == object) && carries decl t object view own (answer_of decl t object inv)) _ is)),
  )
  asks_right d t site Prepare (Some (commands.Do object inv)) named is = absurd (let never : ⊥ = cc in never)
  asks_right d t site (Read read) (Some commands.Commit) named is = absurd (let never : ⊥ = cc in never)
  asks_right d t site (Append o view own) (Some commands.Commit) named is = absurd (let never : ⊥ = cc in never)
  asks_right d t site Prepare (Some commands.Commit) named is = (tt, tt)
  asks_right d t site want (Some commands.Abort) named is = absurd (let never : ⊥ = cc in never)
  asks_right d t site want (Some (commands.Epoch number)) named is = absurd (let never : ⊥ = cc in never)

  asked_right : (d : Account) (site : ℕ) (tx : TxId) (epoch life : ℕ) (want : Want)
      → ((c : Command) → d.command ≡ Some c → IsNamed decl c) → is_asked_for decl d site tx epoch life want ≡ true
      → IsNamedWant decl want × IsFull want
  asked_right d site tx epoch life want named is = by d.current is
    where
      by : (o : Option Current) → option_map_or
          (λ (t : Current). is_of t site tx epoch life && command_asks decl d t site want d.command) o false ≡ true
          → IsNamedWant decl want × IsFull want
      by None is = absurd (let never : ⊥ = cc in never)
      by (Some t) is = asks_right d t site want d.command named
          (and_second (is_of t site tx epoch life) (command_asks decl d t site want d.command) is)

  pub request_right : (client : ℕ) (ds : List Deed) (n to : ℕ) (tx : TxId) (epoch life : ℕ) (want : Want)
      → AreByRows decl (new_account client) ds → ((c : Command) → In (Takes (inputs.Called c)) ds → IsNamed decl c)
      → In (Sends n to (messages.Request tx epoch life want)) ds → IsNamedWant decl want × IsFull want
  request_right client ds n to tx epoch life want due called among =
      let b : IsBehind (Sends n to (messages.Request tx epoch life want)) ds =
      behind (Sends n to (messages.Request tx epoch life want)) ds among in
      let here : is_asked_for decl (fold (account_at decl) (new_account client) b.before) to tx epoch life want ≡ true =
      due_at b.before (Sends n to (messages.Request tx epoch life want)) b.after (new_account client)
      (subst (AreByRows decl (new_account client)) b.is due) in
      let g : HasGrounds b.before (fold (account_at decl) (new_account client) b.before) =
      has_grounds decl client b.before in
      asked_right (fold (account_at decl) (new_account client) b.before) to tx epoch life want
      (λ c is. called c (subst (λ (v : List Deed). In (Takes (inputs.Called c)) v) (sym b.is)
      (In-first (Takes (inputs.Called c)) b.before (Sends n to (messages.Request tx epoch life want) ∷ b.after)
      (g.called c is)))) here
