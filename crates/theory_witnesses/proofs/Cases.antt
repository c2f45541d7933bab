-- Constructors are apart, and each is one to one.
use Rattle.std.proofs.Common.{◌≡◌, ℕ, List, Some, None}
use Rattle.qc_entry.specs.declared.line.Line.{Line}
use Rattle.qc_entry.specs.declared.line.OwnLine.{OwnLine}
use Rattle.qc_entry.specs.declared.line.ReadLock.{ReadLock}
use Rattle.theory_machine.specs.Vocabulary.{Closes, Deed, Grants, Installs, LearnsAbort, LearnsCommit, Lock, Own}
use Rattle.theory_machine.specs.Vocabulary.{Prepares, Rises}

pub none_some : {A : Type 0} {x : A} → None ≡ Some x → ⊥
none_some {A = A} e = let never : ⊥ = cc in never

pub one_some : {A : Type 0} {x y : A} → Some x ≡ Some y → x ≡ y
one_some {A = A} e = cc

pub own_lock : {o : OwnLine} {k : ReadLock} → Own o ≡ Lock k → ⊥
own_lock e = let never : ⊥ = cc in never

pub lock_own : {k : ReadLock} {o : OwnLine} → Lock k ≡ Own o → ⊥
lock_own e = let never : ⊥ = cc in never

pub one_lock : {k l : ReadLock} → Lock k ≡ Lock l → k ≡ l
one_lock e = cc

pub one_own : {o p : OwnLine} → Own o ≡ Own p → o ≡ p
one_own e = cc

pub one_clock : {k j c d : ℕ} {log more : List Line} → Installs k c log ≡ Installs j d more → c ≡ d
one_clock e = cc

abbrev pub IsInstall : Deed → Type 0
IsInstall (Installs k c log) = Unit {0}
IsInstall (Grants t xs v) = ⊥
IsInstall (Prepares t) = ⊥
IsInstall (LearnsCommit t s) = ⊥
IsInstall (LearnsAbort t) = ⊥
IsInstall Closes = ⊥
IsInstall Rises = ⊥
