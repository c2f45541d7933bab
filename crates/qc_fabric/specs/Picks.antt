-- What `pick` answers, as one function of the history, the open inputs and who is held.
use Rattle.std.specs.Prelude.{◌≡◌, ℕ, ◌<◌, Bool, true, false, List, [], Option, Some, None, slice_get, slice_set}
use Rattle.std.specs.List.{list_any}
use Rattle.qc_decl.specs.Vocabulary.{actors}
use Rattle.qc_decl.specs.declared.declaration.Declaration.{Declaration}
use Rattle.qc_mailbox.specs.Picks as inboxes
use Rattle.qc_mailbox.specs.Vocabulary.{either}
use Rattle.qc_msg.specs.Vocabulary.{Entry}
use Rattle.qc_script.specs.Vocabulary.{controls_left, ready}
use Rattle.qc_script.specs.declared.script.Script.{Script}
use Rattle.qc_fabric.specs.Logs.{full_of}
use Rattle.qc_fabric.specs.declared.full.Full.{Full}
use Rattle.qc_fabric.specs.declared.picked.Picked.{Picked}
use Rattle.qc_fabric.specs.declared.picked.Picked.TheVariants as picks

-- the actor that comes next, of those that have no open input and aren't held
abbrev pub next_actor : Declaration → Script → List Bool → List Bool → List Entry → Option ℕ
next_actor decl script inputs held h = inboxes.picked decl script (either inputs held) h

-- whether some bit is set
abbrev pub has_any : List Bool → Bool
has_any bits = list_any (λ b. b) bits

-- The table: a quantity that has reached its limit comes first; then the actor that comes next; where none does, none
-- is answered while some actor is held, and quiet otherwise

abbrev pub where_none : Bool → Option Picked
where_none true = None
where_none false = Some picks.Quiet

abbrev pub where_below : Option ℕ → Bool → Option Picked
where_below None held = where_none held
where_below (Some a) held = Some (picks.Actor a)

abbrev pub by_full : Option Full → Option Picked → Option Picked
by_full None other = other
by_full (Some full) other = Some (picks.Full full)

abbrev pub picked : Declaration → Script → List Bool → List Bool → List Entry → Option Picked
picked decl script inputs held h =
    by_full (full_of h) (where_below (next_actor decl script inputs held h) (has_any held))

-- who is held afterwards
abbrev pub held_after : Option Picked → List Bool → List Bool
held_after None held = held
held_after (Some (picks.Actor a)) held = slice_set held a true
held_after (Some picks.Quiet) held = held
held_after (Some (picks.Full full)) held = held

-- an actor that is named is a site, a client or the administrator
abbrev pub IsNamed : Declaration → Option Picked → Type 0
IsNamed decl None = Unit {0}
IsNamed decl (Some (picks.Actor a)) = a < actors decl
IsNamed decl (Some picks.Quiet) = Unit {0}
IsNamed decl (Some (picks.Full full)) = Unit {0}

-- whether to wait
abbrev pub waits : Option Picked → Bool
waits None = true
waits (Some p) = false

-- nothing is left to do in the phase: no input is open, every control line has acted, nothing is ready for anybody
pub record IsStopped (decl : Declaration) (script : Script) (h : List Entry) (inputs : List Bool) : Type 0 where
  pub none_open : (a : ℕ) → slice_get inputs a ≡ Some true → ⊥
  pub none_left : controls_left script h ≡ []
  pub none_ready : (a : ℕ) → a < actors decl → ready decl script a h ≡ None
