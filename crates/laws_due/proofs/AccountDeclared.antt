-- What a script asks that was read for an accepted declaration is declared, no client is asked to move an epoch, and
-- the administrator nothing else.
use Rattle.std.proofs.Common.{◌≡◌, ℕ, ◌-◌, ◌==◌, ◌<◌, ◌≤◌, cond, None, eqb-true, ◌&&◌, nat_le, Bool, true, false, List}
use Rattle.std.proofs.Common.{[], ◌∷◌, length, Some, Ok, is_some, slice_get, ap, ◌∙◌, refl, arith, Option}
use Rattle.std.specs.Prelude.{IsTrue, option_and_then, MatchOption}
use Rattle.std.specs.Str.{bytes_eq}
use Rattle.std.specs.List.{AllByRecursion as Every}
use Rattle.std.proofs.lemmas.Bool.{le-ltb}
use Rattle.std.proofs.lemmas.List.Quantifiers.{position-Some}
use Rattle.qc_table.specs.declared.kind.Kind.{Kind}
use Rattle.qc_decl.specs.Vocabulary.{IsAccepted, administrator, is_client, kind_at, object_named, plan_in}
use Rattle.qc_decl.specs.declared.declaration.Declaration.{Declaration}
use Rattle.laws_turns.specs.Vocabulary.{AreAskable, AsksDeclared, IsAskable}
use Rattle.qc_msg.specs.declared.step.Command.{Command}
use Rattle.qc_script.proofs.SoundScripts.{scripts_name_what_is_declared}
use Rattle.qc_script.specs.Vocabulary.{IsAskedFor, IsCommandFor, IsPhaseFor, IsScriptFor, script_of}
use Rattle.qc_script.specs.declared.script.CommandLine.{CommandLine}
use Rattle.qc_script.specs.declared.script.PhaseLines.{PhaseLines}
use Rattle.qc_script.specs.declared.script.Script.{Script}
use Rattle.laws_due.specs.Vocabulary.{AsksEpochs, IsEpoch}
use Rattle.laws_turns.proofs.ReadingCases.{matched_by}
use Rattle.qc_msg.specs.Vocabulary.{Invocation, do_in, epoch_in}
use Rattle.qc_script.specs.Sound.{IsInv, IsObject}
use Rattle.qc_list.proofs.Places.{some_at}

-- the administrator is no client
no_client : (decl : Declaration) (actor : ℕ) → actor ≡ administrator decl → is_client decl actor ≡ false
no_client decl actor is = ap (is_client decl) is
    ∙ past (nat_le decl.sites (administrator decl)) (le-ltb (administrator decl) (administrator decl) (omega arith))
  where
    past : {y : Bool} (x : Bool) → y ≡ false → (x && y) ≡ false
    past true none = none
    past false none = refl

module _ (decl : Declaration) (accepted : IsAccepted decl) where
  -- an object that has a name is of a declared type
  has_kind : (object : ℕ) (name : List ℕ) → object_named decl name ≡ Some object → is_some (kind_at decl object) ≡ true
  has_kind object name is =
      let low : object < length decl.object_names = (position-Some (bytes_eq name) decl.object_names object [] is).0 in
      let many : length decl.object_names ≡ length decl.objects = accepted.object_names.count in
      let number : (number : ℕ) × (slice_get decl.objects object ≡ Some number) =
      some_at decl.objects object (omega arith) in
      let kind : (kind : Kind) × (slice_get decl.kinds number.0 ≡ Some kind) =
      some_at decl.kinds number.0 (accepted.typed object number.0 number.1) in
      ap is_some (ap (option_and_then (slice_get decl.kinds)) number.1 ∙ kind.1)

  -- an epoch of a declared number has a plan
  planned : (number : ℕ) → 2 ≤ number → number ≤ length decl.plans → is_some (plan_in decl number) ≡ true
  planned number low high = by (number == 0) refl
    where
      by : (b : Bool) → (number == 0) ≡ b → is_some (plan_in decl number) ≡ true
      by true is = absurd (let none : number ≡ 0 = eqb-true number 0 is in let never : ⊥ = omega arith in never)
      by false is =
          ap (λ (b : Bool). is_some (cond b None (slice_get decl.plans (number - 1)))) is
          ∙ ap is_some (some_at decl.plans (number - 1) (omega arith)).1

  askable : (actor : ℕ) (c : Command) → IsAskedFor decl actor c → IsAskable decl actor c
  askable actor c is =
      matched_by _ _ _ (λ (i : Invocation). is_some (kind_at decl i.object) ≡ true) (do_in c)
      (λ i asked. has_kind i.object asked.1.0 asked.1.1)
      (λ other. matched_by (IsTrue (is_client decl actor)) (Unit {0})
      (λ (number : ℕ). (actor ≡ administrator decl) × (2 ≤ number) × (number ≤ length decl.plans)) _ (epoch_in c)
      (λ number asked. (no_client decl actor asked.0, planned number asked.1 asked.2)) (λ client. tt) other) is

  lines_ask : (lines : List CommandLine) → Every (IsCommandFor decl) lines → AreAskable decl lines
  lines_ask [] all = tt
  lines_ask (l ∷ lines) all = (askable l.actor l.command all.0, lines_ask lines all.1)

  phases_ask : (phases : List PhaseLines) → Every (IsPhaseFor decl) phases
      → Every (λ (p : PhaseLines). AreAskable decl p.commands) phases
  phases_ask [] all = tt
  phases_ask (p ∷ phases) all = (lines_ask p.commands all.0.1, phases_ask phases all.1)

pub scripts_ask_what_is_declared : (decl : Declaration) (script : Script) → IsAccepted decl → IsScriptFor decl script
    → AsksDeclared decl script
scripts_ask_what_is_declared decl script accepted sound = phases_ask decl accepted script.phases sound.phases

pub read_scripts_ask_what_is_declared : (decl : Declaration) (bytes : List ℕ) (script : Script) → IsAccepted decl
    → script_of decl bytes ≡ Ok script → AsksDeclared decl script
read_scripts_ask_what_is_declared decl bytes script accepted read =
    scripts_ask_what_is_declared decl script accepted (scripts_name_what_is_declared decl bytes script read)

-- the administrator is asked for epochs alone

never_client : {A : Type 0} (decl : Declaration) (actor : ℕ) → actor ≡ administrator decl
    → IsTrue (is_client decl actor) → A
never_client decl actor same is = absurd
    (let no : is_client decl actor ≡ false = no_client decl actor same in let yes : is_client decl actor ≡ true = is in
    let never : ⊥ = cc in never)

asks_epoch : (decl : Declaration) (actor : ℕ) (c : Command) → IsAskedFor decl actor c → actor ≡ administrator decl
    → IsEpoch c
asks_epoch decl actor c is same = by (do_in c) (epoch_in c) is
  where
    by : (o : Option Invocation) (e : Option ℕ)
        → MatchOption o
        (MatchOption e (IsTrue (is_client decl actor))
        (λ (number : ℕ). (actor ≡ administrator decl) × (2 ≤ number) × (number ≤ length decl.plans)))
        (λ (i : Invocation). IsTrue (is_client decl actor) × IsObject decl i.object × IsInv decl i.object i.inv)
        → MatchOption e ⊥ (λ (x : ℕ). Unit {0})
    by (Some i) e asked = never_client decl actor same asked.0
    by None None asked = never_client decl actor same asked
    by None (Some number) asked = tt

lines_of_epochs : (decl : Declaration) (lines : List CommandLine) → Every (IsCommandFor decl) lines
    → Every (λ (l : CommandLine). l.actor ≡ administrator decl → IsEpoch l.command) lines
lines_of_epochs decl [] all = tt
lines_of_epochs decl (l ∷ lines) all = (asks_epoch decl l.actor l.command all.0, lines_of_epochs decl lines all.1)

phases_of_epochs : (decl : Declaration) (phases : List PhaseLines) → Every (IsPhaseFor decl) phases
    → Every (λ (p : PhaseLines). Every (λ (l : CommandLine). l.actor ≡ administrator decl → IsEpoch l.command)
    p.commands) phases
phases_of_epochs decl [] all = tt
phases_of_epochs decl (p ∷ phases) all = (lines_of_epochs decl p.commands all.0.1, phases_of_epochs decl phases all.1)

pub asks_epochs : (decl : Declaration) (script : Script) → IsScriptFor decl script → AsksEpochs decl script
asks_epochs decl script sound = phases_of_epochs decl script.phases sound.phases
