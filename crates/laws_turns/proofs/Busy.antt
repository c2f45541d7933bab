-- In each run whose script asks clients to move no epoch, a client without an open input waits just while a command
-- runs.
use Rattle.std.proofs.Common.{◌≡◌, ℕ, ◌-◌, ◌&&◌, not, Bool, true, false, List, [], ◌∷◌, ◌++◌, Some, is_some, slice_get}
use Rattle.std.proofs.Common.{refl, sym, ap, ◌∙◌, subst}
use Rattle.std.specs.List.{AllByRecursion as Every}
use Rattle.std.proofs.lemmas.Bool.{le-ltb}
use Rattle.qc_decl.proofs.Clients.{client_past}
use Rattle.qc_core.specs.Vocabulary.{Acts, IsLawful, MayTake, is_running, posts, runs_given, starts, takes}
use Rattle.qc_decl.specs.declared.declaration.Declaration.{Declaration}
use Rattle.qc_decl.specs.Vocabulary.{is_client, is_site}
use Rattle.qc_msg.specs.declared.step.Command.{Command}
use Rattle.qc_msg.specs.declared.step.Input.{Input}
use Rattle.qc_msg.specs.declared.step.Input.TheVariants as inputs
use Rattle.qc_msg.specs.declared.turn.Turn.{Turn}
use Rattle.qc_msg.specs.Vocabulary.{Deed, Entry, Takes, deeds, turn_deeds}
use Rattle.qc_client.specs.Vocabulary.{ClientMove, client_after, client_takes}
use Rattle.qc_script.specs.Vocabulary.{Runs}
use Rattle.qc_script.specs.declared.script.Script.{Script}
use Rattle.laws_turns.specs.Vocabulary.{ActsIn, AsksDeclared, IsAskable, is_waiting}
use Rattle.laws_turns.proofs.Acted.{actors_take_and_post_by_turns}
use Rattle.laws_turns.proofs.SoundClients.{IsAskableDeed, IsAskableGiven, run_askable}
use Rattle.laws_turns.proofs.TurnReplies.{after_posted, after_taken, running_more, running_turn}
use Rattle.laws_turns.proofs.Replying.{lawful_client}
use Rattle.laws_turns.proofs.Waiting.{Ends, IsClients, IsNoCall, Rests, called_ends, takes_ends, takes_rests}
use Rattle.laws_turns.proofs.Waiting.{are_clients}
use Rattle.laws_turns.proofs.ClientCases.{command_cases}
use Rattle.qc_list.proofs.Booleans.{not_turned}
use Rattle.qc_list.proofs.Members.{every-front, every-back}

-- a move leaves a client waiting just where the command runs on
abbrev IsBusyAs : Bool → ClientMove → Type 0
IsBusyAs r m = (r && not (is_some m.turn.told)) ≡ is_waiting m.client

ends_busy : (m : ClientMove) → Ends m → IsBusyAs true m
ends_busy m ends = not_turned (is_some m.turn.told) (is_waiting m.client) ends

rests_busy : (m : ClientMove) → Rests m → IsBusyAs false m
rests_busy m rests = sym rests.still

no_call_busy : (decl : Declaration) (m : ClientMove) (g : Input) (r : Bool) → IsNoCall g → is_waiting m.client ≡ r
    → IsBusyAs r (client_takes decl m.client g)
no_call_busy decl m g true none busy = ends_busy (client_takes decl m.client g) (takes_ends decl m.client g none busy)
no_call_busy decl m g false none still =
    rests_busy (client_takes decl m.client g) (takes_rests decl m.client g none still)

pub clients_command : (decl : Declaration) (a : ℕ) (command : Command) → is_client decl a ≡ true
    → IsAskable decl a command
    → IsClients command
clients_command decl a command client is =
    command_cases (λ (command : Command). IsAskable decl a command → IsClients command)
    (λ command none its. are_clients command none)
    (λ number its. absurd (let other : is_client decl a ≡ false = its.0 in let never : ⊥ = cc in never)) command is

module _ (decl : Declaration) (a : ℕ) (client : is_client decl a ≡ true) where
  both : (x y : Bool) → (x && y) ≡ true → x ≡ true
  both true y is = refl
  both false y is = absurd (let never : ⊥ = cc in never)

  no_site : is_site decl a ≡ false
  no_site = le-ltb a decl.sites (client_past decl a client)

  given_busy : (m : ClientMove) (ds : List Deed) (g : Input) → MayTake ds g → IsAskableGiven decl a g
      → is_waiting m.client ≡ is_running ds → IsBusyAs (runs_given (is_running ds) g) (client_takes decl m.client g)
  given_busy m ds (inputs.Called command) may is same =
      ends_busy (client_takes decl m.client (inputs.Called command))
      (called_ends decl m.client command (clients_command decl a command client is) (same ∙ may))
  given_busy m ds (inputs.Got envelope) may is same = no_call_busy decl m (inputs.Got envelope) (is_running ds) tt same
  given_busy m ds (inputs.Lost number) may is same = no_call_busy decl m (inputs.Lost number) (is_running ds) tt same

  abbrev BusyAt : List Deed → Bool → Type 0
  BusyAt ds false = is_waiting (client_after decl (a - decl.sites) ds).client ≡ is_running ds
  BusyAt ds true = IsBusyAs (is_running ds) (client_after decl (a - decl.sites) ds)

  take_busy : (ds : List Deed) (g : Input) → MayTake ds g → IsAskableGiven decl a g → BusyAt ds false
      → BusyAt (ds ++ Takes g ∷ []) true
  take_busy ds g may is same =
      subst (λ (m : ClientMove). IsBusyAs (is_running (ds ++ Takes g ∷ [])) m)
      (sym (after_taken decl (a - decl.sites) ds g))
      (subst (λ (r : Bool). IsBusyAs r (client_takes decl (client_after decl (a - decl.sites) ds).client g))
      (sym (running_more ds (Takes g ∷ []))) (given_busy (client_after decl (a - decl.sites) ds) ds g may is same))

  post_busy : (ds : List Deed) (turn : Turn) (first : ℕ) → turn ≡ (client_after decl (a - decl.sites) ds).turn
      → BusyAt ds true → BusyAt (ds ++ turn_deeds first turn) false
  post_busy ds turn first is busy =
      after_posted decl (a - decl.sites) ds first turn
      ∙ sym (running_more ds (turn_deeds first turn) ∙ running_turn (is_running ds) first turn
      ∙ ap (λ (t : Turn). is_running ds && not (is_some t.told)) is ∙ busy)

  acts_busy : (ds : List Deed) (t : Bool) (n : ℕ) → Acts decl a ds t n → Every (IsAskableDeed decl a) ds → BusyAt ds t
  acts_busy ds t n starts are = refl
  acts_busy ds t n (takes older g m acts may) are =
      take_busy older g may (every-back (IsAskableDeed decl a) older (Takes g ∷ []) are).0
      (acts_busy older false m acts (every-front (IsAskableDeed decl a) older (Takes g ∷ []) are))
  acts_busy ds t n (posts older turn m first acts low law) are =
      post_busy older turn first (lawful_client decl a no_site client older turn law)
      (acts_busy older true m acts (every-front (IsAskableDeed decl a) older (turn_deeds first turn) are))

pub clients_wait_while_commands_run : (decl : Declaration) (script : Script) → AsksDeclared decl script
    → (h : List Entry) (open_inputs : List Bool) → Runs (IsLawful decl) decl script h open_inputs
    → (a : ℕ) → is_client decl a ≡ true → slice_get open_inputs a ≡ Some false
    → is_waiting (client_after decl (a - decl.sites) (deeds a [] h)).client ≡ is_running (deeds a [] h)
clients_wait_while_commands_run decl script asks h open_inputs run a client free =
    let r : ActsIn decl a h false = actors_take_and_post_by_turns decl script h open_inputs run a false free in
    acts_busy decl a client (deeds a [] h) false r.above r.acts (run_askable decl script a h open_inputs asks run)
