-- What a move of a client leaves: whether it waits, how a post ends, and what a turn tells.
use Rattle.std.proofs.Common.{◌≡◌, ◌⊎◌, ℕ, ◌&&◌, not, Bool, true, false, List, [], ◌∷◌, ◌++◌, inl, inr, Option}
use Rattle.std.proofs.Common.{is_some, refl, sym, ap, ◌∙◌, append_assoc}
use Rattle.std.specs.List.{AllByRecursion as Every}
use Rattle.qc_core.specs.declared.actor.Actor.TheVariants as actors
use Rattle.qc_core.specs.Vocabulary.{ActorMove, MayTake, actor_after, is_running, runs_given}
use Rattle.qc_client.specs.declared.client.Client.{Client}
use Rattle.qc_client.specs.Vocabulary.{ClientMove, client_takes}
use Rattle.qc_decl.specs.declared.declaration.Declaration.{Declaration}
use Rattle.qc_decl.specs.Vocabulary.{is_client}
use Rattle.laws_turns.specs.Vocabulary.{is_waiting}
use Rattle.laws_turns.proofs.SoundClients.{IsAskableGiven}
use Rattle.laws_turns.proofs.Waiting.{Ends, IsNoCall, called_ends, takes_ends, takes_rests}
use Rattle.qc_msg.specs.declared.record.Record.{Record}
use Rattle.qc_msg.specs.declared.step.Fall.{Fall}
use Rattle.qc_msg.specs.declared.step.Fall.TheVariants as causes
use Rattle.qc_msg.specs.declared.step.Input.{Input}
use Rattle.qc_msg.specs.declared.step.Input.TheVariants as inputs
use Rattle.qc_msg.specs.declared.turn.Appended.{Appended}
use Rattle.qc_msg.specs.declared.turn.Appended.TheVariants.{Done, Failed, Stopped}
use Rattle.qc_msg.specs.declared.turn.Turn.{Turn}
use Rattle.qc_msg.specs.Vocabulary.{Deed, Falls, HasRecord, deeds_as, sends_of, tells_of}
use Rattle.laws_due.proofs.Standing.{actor_more}
use Rattle.laws_turns.proofs.Busy.{clients_command}
use Rattle.qc_list.proofs.Booleans.{not_turned}

-- a move leaves a client waiting just where the command runs on

abbrev pub IsBusyAs : Bool → ClientMove → Type 0
IsBusyAs r m = (r && not (is_some m.turn.told)) ≡ is_waiting m.client

ends_busy : (m : ClientMove) → Ends m → IsBusyAs true m
ends_busy m ends = not_turned (is_some m.turn.told) (is_waiting m.client) ends

no_call_busy : (decl : Declaration) (c : Client) (g : Input) (r : Bool) → IsNoCall g → is_waiting c ≡ r
    → IsBusyAs r (client_takes decl c g)
no_call_busy decl c g true none busy = ends_busy (client_takes decl c g) (takes_ends decl c g none busy)
no_call_busy decl c g false none still = sym (takes_rests decl c g none still).still

pub given_busy : (decl : Declaration) (a : ℕ) → is_client decl a ≡ true → (c : Client) (r : Bool) (g : Input)
    → IsAskableGiven decl a g → is_waiting c ≡ r → (IsNoCall g ⊎ (r ≡ false))
    → IsBusyAs (runs_given r g) (client_takes decl c g)
given_busy decl a client c r (inputs.Called command) is same (inl never) = absurd never
given_busy decl a client c r (inputs.Called command) is same (inr free) =
    ends_busy (client_takes decl c (inputs.Called command))
    (called_ends decl c command (clients_command decl a command client is) (same ∙ free))
given_busy decl a client c r (inputs.Got envelope) is same may = no_call_busy decl c (inputs.Got envelope) r tt same
given_busy decl a client c r (inputs.Lost number) is same may = no_call_busy decl c (inputs.Lost number) r tt same

pub may_come : (ds : List Deed) (g : Input) → MayTake ds g → IsNoCall g ⊎ (is_running ds ≡ false)
may_come ds (inputs.Called command) may = inr may
may_come ds (inputs.Got envelope) may = inl tt
may_come ds (inputs.Lost number) may = inl tt

pub first_all : (P : Deed → Type 0) (xs ys : List Deed) → Every P (xs ++ ys) → Every P xs
first_all P [] ys all = tt
first_all P (x ∷ xs) ys all = (all.0, first_all P xs ys all.1)

pub rest_all : (P : Deed → Type 0) (xs ys : List Deed) → Every P (xs ++ ys) → Every P ys
rest_all P [] ys all = all
rest_all P (x ∷ xs) ys all = rest_all P xs ys all.1

-- what ends with a fall
pub record EndsFallen (ds : List Deed) : Type 0 where
  pub before : List Deed
  pub cause : Fall
  pub pending : Option Record
  pub is : ds ≡ before ++ Falls cause pending ∷ []

pub ends_fallen : (end : Appended) (first : ℕ) (turn : Turn) → (end ≡ Done → ⊥) → EndsFallen (deeds_as end first turn)
ends_fallen Done first turn unwritten = absurd (unwritten refl)
ends_fallen Failed first turn unwritten = record {
  before = sends_of first turn.failed_sends ++ tells_of turn.failed_told;
  cause = causes.Disk;
  pending = turn.write;
  is = sym (append_assoc (sends_of first turn.failed_sends) (tells_of turn.failed_told)
      (Falls causes.Disk turn.write ∷ []));
}
ends_fallen Stopped first turn unwritten =
    record { before = tells_of turn.failed_told; cause = causes.Stop; pending = turn.write; is = refl }

-- whoever posts so is down then
pub broken_down : (decl : Declaration) (a : ℕ) (ds : List Deed) (end : Appended) (first : ℕ) (turn : Turn)
    → (end ≡ Done → ⊥) → (actor_after decl a (ds ++ deeds_as end first turn)).actor ≡ actors.Down
broken_down decl a ds end first turn unwritten =
    let e : EndsFallen (deeds_as end first turn) = ends_fallen end first turn unwritten in
    ap (λ (v : List Deed). (actor_after decl a v).actor)
    (ap (λ (v : List Deed). ds ++ v) e.is ∙ sym (append_assoc ds e.before (Falls e.cause e.pending ∷ [])))
    ∙ ap (λ (m : ActorMove). m.actor) (actor_more decl a (ds ++ e.before) (Falls e.cause e.pending ∷ []))

-- a turn tells only where a command runs; where it has a record one does, and that it isn't written is told
pub record Replies (r : Bool) (turn : Turn) : Type 0 where
  pub told : is_some turn.told ≡ true → r ≡ true
  pub failed : HasRecord turn.write → (r ≡ true) × (is_some turn.failed_told ≡ true)
