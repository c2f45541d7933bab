-- What is ready is the first of its kind.
use Rattle.std.proofs.Common.{[], ◌≡◌, ℕ, ◌&&◌, not, Bool, true, false, cond, List, ◌∷◌, drop, Option, Some, None, ap}
use Rattle.qc_decl.specs.declared.declaration.Declaration.{Declaration}
use Rattle.qc_msg.specs.declared.message.Envelope.{Envelope}
use Rattle.qc_msg.specs.declared.step.Command.{Command}
use Rattle.qc_msg.specs.declared.step.Control.{Control}
use Rattle.qc_msg.specs.declared.step.Input.{Input}
use Rattle.qc_msg.specs.declared.step.Input.TheVariants as inputs
use Rattle.qc_script.specs.Vocabulary.{Inbox, after_controls, command_in, first_command, first_copy, first_lost}
use Rattle.qc_script.specs.Vocabulary.{ready_in, takes_commands}

-- what is ready is the first of its kind

lost_other : (losts : List ℕ) (other : Option Input) (e : Envelope) → first_lost losts other ≡ Some (inputs.Got e)
    → other ≡ Some (inputs.Got e)
lost_other [] other e is = is
lost_other (n ∷ losts) other e is = absurd (let never : ⊥ = cc in never)

no_got : (t : Bool) (commands : List Command) (e : Envelope)
    → cond t (first_command commands) None ≡ Some (inputs.Got e) → ⊥
no_got true [] e is = let never : ⊥ = cc in never
no_got true (c ∷ commands) e is = let never : ⊥ = cc in never
no_got false commands e is = let never : ⊥ = cc in never

no_lost : (t : Bool) (commands : List Command) (n : ℕ) → cond t (first_command commands) None ≡ Some (inputs.Lost n) → ⊥
no_lost true [] n is = let never : ⊥ = cc in never
no_lost true (c ∷ commands) n is = let never : ⊥ = cc in never
no_lost false commands n is = let never : ⊥ = cc in never

copy_head : (es : List Envelope) (other : Option Input) (e : Envelope) → (other ≡ Some (inputs.Got e) → ⊥)
    → first_copy es other ≡ Some (inputs.Got e) → es ≡ e ∷ drop 1 es
copy_head [] other e never is = absurd (never is)
copy_head (x ∷ es) other e never is = let same : x ≡ e = cc in ap (λ (v : Envelope). v ∷ es) same

lost_head : (losts : List ℕ) (other : Option Input) (n : ℕ) → (other ≡ Some (inputs.Lost n) → ⊥)
    → first_lost losts other ≡ Some (inputs.Lost n) → losts ≡ n ∷ drop 1 losts
lost_head [] other n never is = absurd (never is)
lost_head (x ∷ losts) other n never is = let same : x ≡ n = cc in ap (λ (v : ℕ). v ∷ losts) same

copy_not_lost : (es : List Envelope) (other : Option Input) (n : ℕ) → first_copy es other ≡ Some (inputs.Lost n)
    → other ≡ Some (inputs.Lost n)
copy_not_lost [] other n is = is
copy_not_lost (x ∷ es) other n is = absurd (let never : ⊥ = cc in never)

pub ready_copy : (decl : Declaration) (a : ℕ) (i : Inbox) (e : Envelope) → ready_in decl a i ≡ Some (inputs.Got e)
    → i.copies ≡ e ∷ drop 1 i.copies
ready_copy decl a i e is = at i.controls is
  where
    at : (lines : List Control)
        → after_controls lines (first_copy i.copies (first_lost i.lost (command_in decl a i))) ≡ Some (inputs.Got e)
        → i.copies ≡ e ∷ drop 1 i.copies
    at [] r =
        copy_head i.copies (first_lost i.lost (command_in decl a i)) e
        (λ l. no_got (takes_commands decl a && not i.busy) i.commands e (lost_other i.lost (command_in decl a i) e l)) r
    at (line ∷ lines) r = absurd (let never : ⊥ = cc in never)

pub ready_loss : (decl : Declaration) (a : ℕ) (i : Inbox) (n : ℕ) → ready_in decl a i ≡ Some (inputs.Lost n)
    → i.lost ≡ n ∷ drop 1 i.lost
ready_loss decl a i n is = at i.controls is
  where
    at : (lines : List Control)
        → after_controls lines (first_copy i.copies (first_lost i.lost (command_in decl a i))) ≡ Some (inputs.Lost n)
        → i.lost ≡ n ∷ drop 1 i.lost
    at [] r =
        lost_head i.lost (command_in decl a i) n (no_lost (takes_commands decl a && not i.busy) i.commands n)
        (copy_not_lost i.copies (first_lost i.lost (command_in decl a i)) n r)
    at (line ∷ lines) r = absurd (let never : ⊥ = cc in never)
